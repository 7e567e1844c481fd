-- The pairs that share a symbol, turn by turn.
use Rattle.std.proofs.Common.{Bool, List, None, Some, [], ap, append-nil, append_assoc, arith, cond, false, inl, inr, length, map, refl, slice_get, suc, sym, true, zero, ℕ, ◌++◌, ◌+◌, ◌<◌, ◌∙◌, ◌∷◌, ◌≡◌, ◌≤◌, ◌⊎◌}
use Rattle.std.proofs.lemmas.List.FromFn.{filter_of_map_range_with_len_more}
use Rattle.std.proofs.lemmas.Option.{slice_get_past}
use Rattle.std.specs.List.{filter, range_with_len}
use Rattle.mb_completion.specs.loops.Going.{pairs_before}
use Rattle.mb_order.proofs.PeakLaws.{left-front, pairs-only}
use Rattle.mb_order.specs.Peak.{left_of, pairs_below, shared_pairs}
use Rattle.mb_order.specs.Rewriting.{Rule}
use Rattle.mb_tables.proofs.ListLaws.{In-cases, In-map_range, filter-append, filter-same, get-middle, range-only}
use Rattle.mb_tables.specs.Vectors.{shares}

-- the left sides of a pair of rules share a symbol
abbrev pub share : List Rule → ℕ × ℕ → Bool
share rules p = shares (left_of rules p.0) (left_of rules p.1)

-- the pair of a number and j
abbrev pub with : ℕ → ℕ → ℕ × ℕ
with j i = (i, j)

-- the next pair of a row joins the pairs before it
pub before-more : (rules : List Rule) (i j : ℕ) →
    pairs_before rules (i + 1) j
    ≡ pairs_before rules i j ++ cond (share rules (i, j)) (with j i ∷ []) []
before-more rules i j =
    let row = map (with j) (range_with_len 0 i) in
    filter-append (share rules) (pairs_below j) (map (with j) (range_with_len 0 (i + 1)))
    ∙ ap (λ l. filter (share rules) (pairs_below j) ++ l)
    (filter_of_map_range_with_len_more (share rules) (with j) 0 i i (omega arith))
    ∙ sym (append_assoc (filter (share rules) (pairs_below j)) (filter (share rules) row)
    (cond (share rules (i, j)) (with j i ∷ []) []))
    ∙ ap (λ l. l ++ cond (share rules (i, j)) (with j i ∷ []) [])
    (sym (filter-append (share rules) (pairs_below j) row))

-- it does where it shares a symbol, and else it is passed
pub before-passed : (rules : List Rule) (i j : ℕ) → share rules (i, j) ≡ false →
    pairs_before rules (i + 1) j ≡ pairs_before rules i j
before-passed rules i j e =
    before-more rules i j
    ∙ ap (λ t. pairs_before rules i j ++ cond t (with j i ∷ []) []) e
    ∙ append-nil (pairs_before rules i j)

pub before-joined : (rules : List Rule) (i j : ℕ) → share rules (i, j) ≡ true →
    pairs_before rules (i + 1) j ≡ pairs_before rules i j ++ (with j i ∷ [])
before-joined rules i j e =
    before-more rules i j
    ∙ ap (λ t. pairs_before rules i j ++ cond t (with j i ∷ []) []) e

-- a row's end is the next row's beginning
pub before-row : (rules : List Rule) (j : ℕ) → pairs_before rules j j ≡ pairs_before rules 0 (j + 1)
unfolding pairs_below
before-row rules j =
    let e : suc j ≡ j + 1 = omega arith in
    ap (filter (share rules)) (sym (append-nil (pairs_below (suc j))))
    ∙ ap (λ n. filter (share rules) (pairs_below n ++ [])) e

-- all pairs begin with those before a pair, and go on with it
pairs_below-front : (n j : ℕ) → j ≤ n → (rest : List (ℕ × ℕ))
    × (pairs_below n ≡ pairs_below j ++ rest)
unfolding pairs_below
pairs_below-front zero j h = let e : j ≡ 0 = omega arith in
    ([], sym (append-nil (pairs_below j) ∙ ap pairs_below e))
pairs_below-front (suc n) j h =
    let cases : (j ≤ n) ⊎ (j ≡ suc n) = grind arith in
    elim cases [
      | inl l ↦ (let r = pairs_below-front n j l in let last = map (with n) (range_with_len 0 n) in
          (r.0 ++ last, ap (λ l. l ++ last) r.1 ∙ append_assoc (pairs_below j) r.0 last))
      | inr e ↦ ([], sym (append-nil (pairs_below j) ∙ ap pairs_below e))
    ]

-- the first numbers of a range
range-front : (a n i : ℕ) → i < n → (rest : List ℕ)
    × (range_with_len a n ≡ range_with_len a i ++ ((a + i) ∷ rest))
range-front a zero i h = absurd (omega arith)
range-front a (suc n) zero h = (
  range_with_len (a + 1) n,
  (let e : a ≡ a + 0 = omega arith in
      ap (λ x. x ∷ range_with_len (a + 1) n) e),
)
range-front a (suc n) (suc i) h =
    let r = range-front (a + 1) n i (omega arith) in
    let e : a + 1 + i ≡ a + suc i = omega arith in
    (r.0, ap (λ l. a ∷ l) r.1 ∙ ap (λ x. a ∷ (range_with_len (a + 1) i ++ (x ∷ r.0))) e)

-- a map of two lists together
map-both : (f : ℕ → ℕ × ℕ) (xs ys : List ℕ) → map f (xs ++ ys) ≡ map f xs ++ map f ys
map-both f [] ys = refl
map-both f (x ∷ xs) ys = ap (λ l. f x ∷ l) (map-both f xs ys)

-- the pairs before are the front of all
all-front : (n i j : ℕ) → i < j → j < n → (rest : List (ℕ × ℕ))
    × (pairs_below n ≡ (pairs_below j ++ map (with j) (range_with_len 0 i)) ++ (with j i ∷ rest))
unfolding pairs_below
all-front n i j h l =
    let r = pairs_below-front n (suc j) (omega arith) in
    let s = range-front 0 j i h in
    let row = map (with j) (range_with_len 0 i) in
    let e : 0 + i ≡ i = omega arith in
    let f : map (with j) (range_with_len 0 j) ≡ row ++ (with j i ∷ map (with j) s.0) =
    ap (map (with j)) s.1 ∙ map-both (with j) (range_with_len 0 i) ((0 + i) ∷ s.0)
    ∙ ap (λ k. row ++ (with j k ∷ map (with j) s.0)) e in (
      map (with j) s.0 ++ r.0,
      r.1 ∙ ap (λ l. (pairs_below j ++ l) ++ r.0) f
          ∙ ap (λ l. l ++ r.0)
          (sym (append_assoc (pairs_below j) row (with j i ∷ map (with j) s.0)))
          ∙ append_assoc (pairs_below j ++ row) (with j i ∷ map (with j) s.0) r.0,
    )

-- after the pairs before it, the pair takes its turn
pub turn : (rules : List Rule) (i j : ℕ) → i < j → j < length rules → share rules (i, j) ≡ true →
    slice_get (shared_pairs rules) (length (pairs_before rules i j)) ≡ Some (with j i)
turn rules i j h l e =
    let r = all-front (length rules) i j h l in
    let front = pairs_below j ++ map (with j) (range_with_len 0 i) in
    let f : shared_pairs rules ≡ pairs_before rules i j ++ (with j i ∷ filter (share rules) r.0) =
    ap (filter (share rules)) r.1 ∙ filter-append (share rules) front (with j i ∷ r.0)
    ∙ ap (λ t.
    filter (share rules) front ++ cond t (with j i ∷ filter (share rules) r.0)
    (filter (share rules) r.0)) e in
    ap (λ l. slice_get l (length (pairs_before rules i j))) f
    ∙ get-middle (pairs_before rules i j) (with j i) (filter (share rules) r.0)

-- so after as many looks as there are pairs before it
pub next_turn : (rules : List Rule) (i j looks : ℕ) → looks ≡ length (pairs_before rules i j) →
    i < j → j < length rules → {t : Bool} → t ≡ share rules (i, j) → t ≡ true →
    slice_get (shared_pairs rules) looks ≡ Some (with j i)
next_turn rules i j looks place h l e f =
    ap (slice_get (shared_pairs rules)) place ∙ turn rules i j h l (sym e ∙ f)

-- a rule born later changes none of the pairs before
pub before-grown : (rules more : List Rule) (i j : ℕ) → i ≤ j → j < length rules →
    pairs_before (rules ++ more) i j ≡ pairs_before rules i j
before-grown rules more i j h l =
    filter-same (share (rules ++ more)) (share rules)
    (pairs_below j ++ map (with j) (range_with_len 0 i)) (λ p m.
    let places : (p.0 < length rules) × (p.1 < length rules) =
    elim (In-cases p (pairs_below j) (map (with j) (range_with_len 0 i)) m) [
      | inl a ↦
          (let r = pairs-only j p a in let x = r.0 in let y = r.1 in (omega arith, omega arith))
      | inr b ↦ (
          let r = In-map_range (with j) p (range_with_len 0 i) b in
          let x : p.0 ≡ r.0 = ap (λ (q : ℕ × ℕ). q.0) r.2 in
          let y : p.1 ≡ j = ap (λ (q : ℕ × ℕ). q.1) r.2 in
          let z = range-only 0 i r.0 r.1 in
          let w = z.1 in
          (omega arith, omega arith))
    ] in
    ap (λ x. shares x (left_of (rules ++ more) p.1)) (left-front rules more p.0 places.0)
    ∙ ap (shares (left_of rules p.0)) (left-front rules more p.1 places.1))

-- all pairs come before the row past the last rule
pub before-all : (rules : List Rule) → pairs_before rules 0 (length rules) ≡ shared_pairs rules
before-all rules = ap (filter (share rules)) (append-nil (pairs_below (length rules)))

-- past the last row no pair is left
pub no_turn : (rules : List Rule) →
    slice_get (shared_pairs rules) (length (pairs_before rules 0 (length rules))) ≡ None
no_turn rules =
    slice_get_past (shared_pairs rules) (length (pairs_before rules 0 (length rules))) (let f =
    ap length (before-all rules) in omega arith)
