-- One more listed name or kind.
use Rattle.std.proofs.Common.{Err, List, Ok, Option, String, [], ap, append_assoc, drop, get_or, length, map, refl, string_bytes, subst, sym, ℕ, ◌++◌, ◌+◌, ◌<◌, ◌∙◌, ◌∷◌, ◌≡◌, ◌≤◌}
use Rattle.std.proofs.lemmas.List.{append-nil, drop_all, drop_more}
use Rattle.std.specs.declared.alloc.Global.{Global}
use Rattle.mb_outside.specs.Rows.{Rows}
use Rattle.mb_registry.proofs.LookingOn.{refused_on}
use Rattle.mb_registry.specs.Faults.{Answer}
use Rattle.mb_registry.specs.Listing.{listed_row, listed_rows, rows_of_kind, rows_of_kinds}
use Rattle.mb_registry.specs.Removing.{all_let_go, lets_go}
use Rattle.mb_registry.specs.declared.kinds.Kind.{Kind}
use Rattle.mb_registry.specs.declared.listing.Listed.{Listed}
use Rattle.mb_registry.specs.declared.fault.RegistryFault.{RegistryFault}
use Rattle.mb_tables.specs.Answers.{IsRefused, ◌>>=◌}

-- names from one on are it and the later ones
names_more : (names : List (String Global)) (i : ℕ) (name : String Global) (text : List ℕ) →
    i < length names → name ≡ get_or names i name → text ≡ string_bytes name →
    map string_bytes (drop i names) ≡ text ∷ map string_bytes (drop (i + 1) names)
names_more names i name text within is same =
    ap (map string_bytes) (drop_more names i name within)
    ∙ ap (λ n. string_bytes n ∷ map string_bytes (drop (i + 1) names)) (sym is)
    ∙ ap (λ t. t ∷ map string_bytes (drop (i + 1) names)) (sym same)

-- what a listed name and the later ones decide on a removal
pub let_go_more : (name : List ℕ) (by : Kind) (names : List (String Global)) (i : ℕ)
    (referring : String Global) (text : List ℕ) (rows : Rows) → i < length names →
    referring ≡ get_or names i referring → text ≡ string_bytes referring →
    all_let_go name by (map string_bytes (drop i names)) rows
    ≡ (lets_go name by text rows
    >>= λ free. all_let_go name by (map string_bytes (drop (i + 1) names)) rows)
unfolding all_let_go
let_go_more name by names i referring text rows within is same =
    ap (λ list. all_let_go name by list rows) (names_more names i referring text within is same)

-- and in a list
pub listed_more : (kind : Kind) (names : List (String Global)) (i : ℕ) (name : String Global)
    (text : List ℕ) (rows : Rows) → i < length names → name ≡ get_or names i name →
    text ≡ string_bytes name →
    listed_rows kind (map string_bytes (drop i names)) rows
    ≡ (listed_row kind text rows >>= λ first.
    listed_rows kind (map string_bytes (drop (i + 1) names)) rows >>= λ others.
    Ok (first ∷ others))
unfolding listed_rows
listed_more kind names i name text rows within is same =
    ap (λ list. listed_rows kind list rows) (names_more names i name text within is same)

-- the rows of a kind and of the later ones
pub kinds_more : (kinds : List Kind) (i : ℕ) (kind other : Kind) (rows : Rows) → i < length kinds →
    kind ≡ get_or kinds i other →
    rows_of_kinds (drop i kinds) rows
    ≡ (rows_of_kind kind rows >>= λ first.
    rows_of_kinds (drop (i + 1) kinds) rows >>= λ others.
    Ok (first ++ others))
unfolding rows_of_kinds
kinds_more kinds i kind other rows within is =
    ap (λ list. rows_of_kinds list rows) (drop_more kinds i other within)
    ∙ ap (λ k. rows_of_kinds (k ∷ drop (i + 1) kinds) rows) (sym is)

-- rows after rows, and then more
rejoined : (answer : Answer (List Listed)) (items more : List Listed) →
    ((answer >>= λ others. Ok (more ++ others)) >>= λ others. Ok (items ++ others))
    ≡ (answer >>= λ others. Ok ((items ++ more) ++ others))
rejoined (Ok others) items more = ap (λ l. Ok l) (sym (append_assoc items more others))
rejoined (Err fault) items more = refl

-- the rows of names that are left, after those so far
abbrev pub after_rows : List Listed → Answer (List Listed) → Answer (List Listed)
after_rows items answer = answer >>= λ others. Ok (items ++ others)

-- a row more
pub listed_on : (kind : Kind) (names : List (String Global)) (i : ℕ) (name : String Global)
    (text : List ℕ) (rows : Rows) (items new : List Listed) (row : Listed) → i < length names →
    name ≡ get_or names i name → text ≡ string_bytes name → new ≡ items ++ row ∷ [] →
    listed_row kind text rows ≡ Ok row →
    after_rows items (listed_rows kind (map string_bytes (drop i names)) rows)
    ≡ after_rows new (listed_rows kind (map string_bytes (drop (i + 1) names)) rows)
listed_on kind names i name text rows items new row within is same more e =
    let rest = listed_rows kind (map string_bytes (drop (i + 1) names)) rows in
    ap (after_rows items) (listed_more kind names i name text rows within is same
    ∙ ap (λ (r : Answer Listed). r >>= λ first. (rest >>= λ others. Ok (first ∷ others))) e)
    ∙ rejoined rest items (row ∷ []) ∙ ap (λ l. after_rows l rest) (sym more)

-- a row that is refused
pub listed_refused : (cause : Option RegistryFault) (kind : Kind) (names : List (String Global))
    (i : ℕ) (name : String Global) (text : List ℕ) (rows : Rows) (items : List Listed) →
    i < length names → name ≡ get_or names i name → text ≡ string_bytes name →
    IsRefused cause (listed_row kind text rows) →
    IsRefused cause (after_rows items (listed_rows kind (map string_bytes (drop i names)) rows))
listed_refused cause kind names i name text rows items within is same refused =
    subst (λ r. IsRefused cause (after_rows items r))
    (sym (listed_more kind names i name text rows within is same))
    (refused_on cause _ _ (refused_on cause (listed_row kind text rows) _ refused))

-- the rows of a kind more
pub kinds_on : (kinds : List Kind) (i : ℕ) (kind other : Kind) (rows : Rows)
    (items new first : List Listed) → i < length kinds → kind ≡ get_or kinds i other →
    new ≡ items ++ first → rows_of_kind kind rows ≡ Ok first →
    after_rows items (rows_of_kinds (drop i kinds) rows)
    ≡ after_rows new (rows_of_kinds (drop (i + 1) kinds) rows)
kinds_on kinds i kind other rows items new first within is more e =
    let rest = rows_of_kinds (drop (i + 1) kinds) rows in
    ap (after_rows items) (kinds_more kinds i kind other rows within is
    ∙ ap (λ (r : Answer (List Listed)). r >>= λ first. (rest >>= λ others. Ok (first ++ others))) e)
    ∙ rejoined rest items first ∙ ap (λ l. after_rows l rest) (sym more)

-- rows of a kind that are refused
pub kinds_refused : (cause : Option RegistryFault) (kinds : List Kind) (i : ℕ) (kind other : Kind)
    (rows : Rows) (items : List Listed) → i < length kinds → kind ≡ get_or kinds i other →
    IsRefused cause (rows_of_kind kind rows) →
    IsRefused cause (after_rows items (rows_of_kinds (drop i kinds) rows))
kinds_refused cause kinds i kind other rows items within is refused =
    subst (λ r. IsRefused cause (after_rows items r)) (sym (kinds_more kinds i kind other rows
    within is))
    (refused_on cause _ _ (refused_on cause (rows_of_kind kind rows) _ refused))

-- no name is left
pub let_go_none : (name : List ℕ) (by : Kind) (names : List (String Global)) (i : ℕ) (rows : Rows) →
    length names ≤ i → all_let_go name by (map string_bytes (drop i names)) rows ≡ Ok (tt {0})
unfolding all_let_go
let_go_none name by names i rows past =
    ap (λ (list : List (String Global)). all_let_go name by (map string_bytes list) rows)
    (drop_all i names past)

-- nor one to be listed
pub listed_none : (kind : Kind) (names : List (String Global)) (i : ℕ) (rows : Rows)
    (items : List Listed) → length names ≤ i →
    after_rows items (listed_rows kind (map string_bytes (drop i names)) rows) ≡ Ok items
unfolding listed_rows
listed_none kind names i rows items past =
    ap (λ (list : List (String Global)).
    after_rows items (listed_rows kind (map string_bytes list) rows)) (drop_all i names past)
    ∙ ap (λ l. Ok l) (append-nil items)

-- nor a kind
pub kinds_none : (kinds : List Kind) (i : ℕ) (rows : Rows) (items : List Listed) →
    length kinds ≤ i → after_rows items (rows_of_kinds (drop i kinds) rows) ≡ Ok items
unfolding rows_of_kinds
kinds_none kinds i rows items past =
    ap (λ list. after_rows items (rows_of_kinds list rows)) (drop_all i kinds past)
    ∙ ap (λ l. Ok l) (append-nil items)
