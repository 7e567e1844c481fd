-- What the queries over the table show of kept rows.
use Rattle.std.proofs.Common.{Bool, Equal, Greater, Less, List, None, Ordering, Some, [], ap, arith, false, map, pos, refl, subst, sym, true, ℕ, ℤ, ◌&&◌, ◌++◌, ◌∙◌, ◌∷◌, ◌≡◌}
use Rattle.std.proofs.lemmas.Cmp.{eq_by_cmp_equiv, nat_cmp_total, nat_list_cmp_total}
use Rattle.std.proofs.lemmas.Bool.Decides.{nat_tests}
use Rattle.std.proofs.lemmas.List.Sorted.{length_permutation}
use Rattle.std.specs.List.{filter, flat_map, list_all}
use Rattle.std.specs.List.Sorted.{IsPermutation}
use Rattle.std.specs.Prelude.{IsSorted, if◌then◌else◌}
use Rattle.std.specs.Ordering.{int_cmp, is_eq, nat_cmp, ordering_then}
use Rattle.std.specs.Cmp.Lexicographic.{slice_cmp}
use Rattle.std.specs.FinMap.{find}
use Rattle.mb_outside.specs.Rows.{Key, key_cmp}
use Rattle.sqlite.specs.declared.types.Value.{Value}
use Rattle.sqlite.specs.declared.types.Value.TheVariants.{Blob, Int, Text}
use Rattle.sqlite.specs.Order.{Row, value_cmp, column}
use Rattle.sqlite_value.specs.declared.keys.Key.{Key as OrderKey}
use Rattle.sqlite_value.proofs.OrderLemmas.{value_cmp-Int, value_cmp-Text}
use Rattle.sqlite.specs.Ops.{binary, is_true, from_truth}
use Rattle.sqlite.specs.Term.{Term, holds, Env}
use Rattle.sqlite.specs.Tree.{Trees}
use Rattle.sqlite.specs.Query.{IsAnswer, Output, Query, output, output_cmp}
use Rattle.sqlite.specs.Program.{overlay}
use Rattle.sqlite.proofs.Callers.{one_permutation}
use Rattle.mb_keeper.specs.RowsInTable.{are_kept, entry}
use Rattle.mb_keeper.proofs.Statements.{body_query, of_kind, of_name, query}
use Rattle.mb_keeper.proofs.TableRows.{Entry, entries, has_key, kept_before, no_row, one_row, picked}

-- a row with an entry is its number, kind, name and body
pub shape_of : (row : Row) (e : Entry) → entry row ≡ Some e
    → (id : ℤ) × (row ≡ Int id ∷ Int (pos e.0.0) ∷ Text e.0.1 ∷ Blob e.1 ∷ [])
shape_of (Int id ∷ Int (pos kind) ∷ Text name ∷ Blob body ∷ []) e is =
    let same : ((kind, name), body) ≡ e = cc in
    (id, ap (λ (x : Entry). Int id ∷ Int (pos x.0.0) ∷ Text x.0.1 ∷ Blob x.1 ∷ []) same)
shape_of _ e is = absurd (cc)

-- a comparison as a value is true where it holds
told_true : (b : Bool) → is_true (from_truth (Some b)) ≡ b
told_true true = refl
told_true false = refl

-- both tie
both_tie : (a b : Ordering) → is_eq (ordering_then a b) ≡ (is_eq a && is_eq b)
both_tie Less b = refl
both_tie Equal b = refl
both_tie Greater b = refl

-- numbers tie as integers where they tie
ties : (a b : ℕ) → is_eq (int_cmp (pos a) (pos b)) ≡ is_eq (nat_cmp a b)
ties a b = grind (arith, nat_tests)

-- a row passes the test of its kind
pub kind_passes : (params : Row) (kind : ℕ) (row : Row) (id : ℤ) (k : ℕ) (rest : Row)
    → column params 0 ≡ Int (pos kind) → row ≡ Int id ∷ Int (pos k) ∷ rest
    → holds (params ∷ row ∷ []) of_kind ≡ is_eq (nat_cmp kind k)
unfolding binary
kind_passes params kind row id k rest given is =
    rw (is, given) (told_true (is_eq (value_cmp (Int (pos k)) (Int (pos kind))))
    ∙ ap is_eq (value_cmp-Int (pos k) (pos kind)) ∙ ties k kind
    ∙ (eq_by_cmp_equiv nat_cmp_total).symm k kind)

-- a row passes the test of its name
name_passes : (params : Row) (name : List ℕ) (row : Row) (id : ℤ) (k : Value) (n : List ℕ)
    (rest : Row)
    → column params 1 ≡ Text name → row ≡ Int id ∷ k ∷ Text n ∷ rest
    → holds (params ∷ row ∷ []) of_name ≡ is_eq (slice_cmp nat_cmp name n)
unfolding binary
name_passes params name row id k n rest given is =
    rw (is, given) (told_true (is_eq (value_cmp (Text n) (Text name)))
    ∙ ap is_eq (value_cmp-Text n name) ∙ (eq_by_cmp_equiv nat_list_cmp_total).symm n name)

-- a row passes the tests of kind and name where it has the key
pub key_passes : (kind : ℕ) (name : List ℕ) (row : Row) (e : Entry) → entry row ≡ Some e
    → list_all (holds ((Int (pos kind) ∷ Text name ∷ []) ∷ row ∷ [])) (of_kind ∷ of_name ∷ [])
    ≡ has_key (kind, name) row
key_passes kind name row e is =
    let shape = shape_of row e is in
    let k = kind_passes (Int (pos kind) ∷ Text name ∷ []) kind row shape.0 e.0.0 _ refl shape.1 in
    let n = name_passes (Int (pos kind) ∷ Text name ∷ []) name row shape.0 (Int (pos e.0.0)) e.0.1 _
    refl shape.1 in
    rw (k, n, is) (one (is_eq (nat_cmp kind e.0.0)) (is_eq (slice_cmp nat_cmp name e.0.1))
    ∙ sym (both_tie (nat_cmp kind e.0.0) (slice_cmp nat_cmp name e.0.1)))
  where
    one : (a b : Bool) → (a && (b && true)) ≡ (a && b)
    one true true = refl
    one true false = refl
    one false b = refl

-- the matches of a query over the table are the rows that pass
matched : (tests : List Term) (params : Row) (pass : Row → Bool) (rows : List Row)
    → are_kept rows ≡ true
    → ((row : Row) (e : Entry) → entry row ≡ Some e
    → list_all (holds (params ∷ row ∷ [])) tests ≡ pass row)
    → flat_map (λ row. if list_all (holds (params ∷ row ∷ [])) tests then (params ∷ row ∷ []) ∷ []
    else []) rows ≡ map (λ row. params ∷ row ∷ []) (filter pass rows)
matched tests params pass [] kept passes = refl
matched tests params pass (row ∷ rows) kept passes =
    let k = kept_before row rows kept in
    let below = matched tests params pass rows k.others passes in
    let one = passes row k.pair k.is in
    rw one (elim (pass row) as
    (λ b. (if b then (params ∷ row ∷ []) ∷ [] else [])
    ++ flat_map (λ row. if list_all (holds (params ∷ row ∷ [])) tests then
    (params ∷ row ∷ []) ∷ [] else []) rows
    ≡ map (λ (row : Row). params ∷ row ∷ [])
    (if b then row ∷ filter pass rows else filter pass rows)) [
      | true ↦ ap (λ (es : List Env). (params ∷ row ∷ []) ∷ es) below
      | false ↦ below
    ])

-- what an answer shows is what the rows that pass show, in an order that the query allows
pub record Answered (q : Query) (params : Row) (passed : List Row) (shown : List Row) : Type 0 where
  pub ordered : List Output
  pub same : IsPermutation (map (λ row. output q (params ∷ row ∷ [])) passed) ordered
  pub sorted : IsSorted (output_cmp q) ordered
  pub is : shown ≡ map (λ (o : Output). o.1) ordered

-- the answer of a query over kept rows comes from the rows that pass
pub answered : (tests project : List Term) (order : List (Term × OrderKey)) (params : Row)
    (pass : Row → Bool) (db : Trees) (shown : List Row)
    → are_kept (db 0) ≡ true
    → ((row : Row) (e : Entry) → entry row ≡ Some e
    → list_all (holds (params ∷ row ∷ [])) tests ≡ pass row)
    → IsAnswer (query tests project order) (overlay db []) params shown
    → Answered (query tests project order) params (filter pass (db 0)) shown
answered tests project order params pass db shown kept passes a =
    let q = query tests project order in
    let staged : a.staged ≡ map (λ (row : Row). params ∷ row ∷ []) (filter pass (db 0)) = a.grouped
    ∙ matched tests params pass (db 0) kept passes in
    let all : a.kept ≡ map (λ (row : Row). output q (params ∷ row ∷ [])) (filter pass (db 0)) =
    a.distinct ∙ ap (map (output q)) staged ∙ maps (filter pass (db 0)) in
    record {
      ordered = a.ordered;
      same = subst (λ k. IsPermutation k a.ordered) all a.same;
      sorted =
          a.sorted;
      is = a.shown;
    }
  where
    maps : (rows : List Row)
        → map (output (query tests project order)) (map (λ (row : Row). params ∷ row ∷ []) rows)
        ≡ map (λ (row : Row). output (query tests project order) (params ∷ row ∷ [])) rows
    maps [] = refl
    maps (row ∷ rows) = ap
        (λ (os : List Output). output (query tests project order) (params ∷ row ∷ []) ∷ os)
        (maps rows)

-- nothing in another order is nothing
pub no_permutation : {X : Type 0} (ys : List X) → IsPermutation [] ys → ys ≡ []
no_permutation [] h = refl
no_permutation (y ∷ ys) h = absurd (omega (arith, length_permutation [] (y ∷ ys) h))

-- what the query of a body shows
pub data ShowsBody (q : Key) (rows : List Row) (shown : List Row) : Type 0 where
  no_body : shown ≡ [] → find key_cmp q (entries rows) ≡ None → ShowsBody q rows shown
  one_body : (body : List ℕ) → shown ≡ (Blob body ∷ []) ∷ []
      → find key_cmp q (entries rows) ≡ Some body → ShowsBody q rows shown

-- the query of a body shows the one that the rows have under the key, or nothing
pub shows_body : (kind : ℕ) (name : List ℕ) (db : Trees) (shown : List Row) → are_kept (db 0) ≡ true
    → IsAnswer body_query (overlay db []) (Int (pos kind) ∷ Text name ∷ []) shown
    → ShowsBody (kind, name) (db 0) shown
shows_body kind name db shown kept a =
    let params = Int (pos kind) ∷ Text name ∷ [] in
    let all = answered (of_kind ∷ of_name ∷ []) _ _ params (has_key (kind, name)) db shown kept
    (key_passes kind name) a in
    let show = λ (row : Row). output body_query (params ∷ row ∷ []) in
    elim (picked (kind, name) (db 0) kept) [
      | no_row empty absent ↦
          let none = no_permutation all.ordered
          (subst (λ rows. IsPermutation (map show rows) all.ordered) empty all.same) in
          no_body (all.is ∙ ap (map (λ (o : Output). o.1)) none) absent
      | one_row row e one is same found ↦
          let only = one_permutation (show row) all.ordered
          (subst (λ rows. IsPermutation (map show rows) all.ordered) one all.same) in
          let shape = shape_of row e is in
          one_body e.1 (all.is ∙ ap (map (λ (o : Output). o.1)) only
          ∙ ap (λ (r : Row). (column r 3 ∷ []) ∷ []) shape.1) found
    ]
