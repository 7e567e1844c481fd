-- Ranks ascend with the tables of a fiber.
use Rattle.std.proofs.Common.{All, List, [], ap, arith, inl, inr, length, map, refl, reverse, subst, suc, sym, zero, ℕ, ◌*◌, ◌++◌, ◌+◌, ◌-◌, ◌<◌, ◌^◌, ◌∙◌, ◌∷◌, ◌≡◌, ◌≤◌, ◌⊎◌}
use Rattle.std.proofs.Math.Nat.{mul-add, mul-le-mul_left, mul_assoc, mul_comm}
use Rattle.std.proofs.lemmas.Bool.{cases_eq, cases_order}
use Rattle.std.proofs.lemmas.Bool.Decides.{nat_tests}
use Rattle.std.proofs.lemmas.Cmp.{nat_list_cmp_total}
use Rattle.std.proofs.lemmas.List.{get_or-reverse, length-reverse}
use Rattle.std.specs.Cmp.Lexicographic.{slice_cmp}
use Rattle.std.specs.FinMap.{nat_cmp-IsAntisymmetric, slice_cmp-IsAntisymmetric}
use Rattle.std.specs.List.{range_with_len}
use Rattle.std.specs.Ordering.{nat_cmp, ordering_reverse, ordering_then}
use Rattle.std.specs.Prelude.{◌↔◌}
use Rattle.std.specs.declared.cmp.Ordering.{Ordering}
use Rattle.std.specs.declared.cmp.Ordering.TheVariants.{Equal, Greater, Less}
use mathlib.Core.List.{reverse-cons}
use Rattle.mb_matrix.proofs.CellLists.{cases_In, rises-range}
use Rattle.mb_matrix.proofs.Determined.{same_up_to}
use Rattle.mb_matrix.proofs.Digits.{key_count-more, number-most, suits-others}
use Rattle.mb_matrix.proofs.Suits.{suits}
use Rattle.mb_matrix.proofs.Triangular.{free-rises}
use Rattle.mb_matrix.specs.Key.{Suits, digit_of, digits_of, key_count, number, rank_of}
use Rattle.mb_matrix.specs.Matrix.{Design, IsDesign, margins_of}
use Rattle.mb_matrix.specs.Peel.{Rises, free_cells}
use Rattle.mb_matrix.specs.declared.digit.Digit.{Digit}
use Rattle.mb_tables.specs.Lists.{In}
use Rattle.mb_tables.specs.Vectors.{at}

-- a digit at the end is the most significant one
number-push : (digits : List Digit) (d : Digit) (u : List ℕ) →
    number (digits ++ (d ∷ [])) u ≡ number digits u + key_count digits * at u d.cell
unfolding number key_count
number-push [] d u = let e : suc d.bound * 0 ≡ 0 = omega arith in omega arith
number-push (b ∷ digits) d u =
    ap (λ n. at u b.cell + suc b.bound * n) (number-push digits d u)
    ∙ ap (λ n. at u b.cell + n)
    (mul-add (suc b.bound) (number digits u) (key_count digits * at u d.cell)
    ∙ ap (λ n. suc b.bound * number digits u + n)
    (sym (mul_assoc (suc b.bound) (key_count digits) (at u d.cell))))
    ∙ omega arith

-- the first digit is the most significant one of a rank
rank-cons : (d : Digit) (digits : List Digit) (u : List ℕ) →
    rank_of (d ∷ digits) u ≡ rank_of digits u + key_count (reverse digits) * at u d.cell
rank-cons d digits u =
    ap (λ l. number l u) (reverse-cons d digits) ∙ number-push (reverse digits) d u

-- digits in reverse make as many keys
pub key_count-reverse : (digits : List Digit) → key_count (reverse digits) ≡ key_count digits
unfolding key_count
key_count-reverse [] = refl
key_count-reverse (d ∷ digits) =
    ap key_count (reverse-cons d digits) ∙ key_count-more (reverse digits) d
    ∙ ap (λ n. n * suc d.bound) (key_count-reverse digits)
    ∙ mul_comm (key_count digits) (suc d.bound)

-- what holds of all of a list holds of all in reverse
All-reverse : {X : Type 0} (P : X → Type 0) (xs : List X) → All P xs → All P (reverse xs)
All-reverse P xs h k d l =
    let long = length-reverse xs in
    subst P (sym (get_or-reverse xs k d (omega arith))) (h (length xs - 1 - k) d (omega arith))

-- a table that suits digits suits them in reverse
pub suits-reverse : (digits : List Digit) (u : List ℕ) → Suits digits u → Suits (reverse digits) u
suits-reverse digits u s = record {
  cells = All-reverse (λ (d : Digit). d.cell < length u) digits s.cells;
  bounded = All-reverse (λ (d : Digit). at u d.cell ≤ d.bound) digits s.bounded;
}

-- the rank of a table that suits is below how many keys there are
pub rank-below : (digits : List Digit) (u : List ℕ) → Suits digits u →
    rank_of digits u < key_count digits
rank-below digits u s =
    subst (λ n. rank_of digits u < n) (key_count-reverse digits)
    (number-most (reverse digits) u (suits-reverse digits u s))

-- so they are as few
pub few-reverse : (digits items : List Digit) → items ≡ reverse digits →
    key_count digits < 2 ^ 64 → key_count items < 2 ^ 64
few-reverse digits items e few =
    subst (λ l. key_count l < 2 ^ 64) (sym e)
    (subst (λ n. n < 2 ^ 64) (sym (key_count-reverse digits)) few)

-- the first place where two tables differ; the first is lower there
record DiffersAt (u v : List ℕ) (c : ℕ) : Type 0 where
  before : (k : ℕ) → k < c → at u k ≡ at v k
  less : at u c < at v c

-- with an equal count in front of both it is one place further
differs-cons : (x y : ℕ) (u v : List ℕ) (c : ℕ) → x ≡ y → DiffersAt u v c →
    DiffersAt (x ∷ u) (y ∷ v) (suc c)
differs-cons x y u v c e d = record {
  before = λ k. elim k as (λ n. n < suc c → at (x ∷ u) n ≡ at (y ∷ v) n) [
    | zero ↦ (λ l. e)
    | suc n ↦ (λ l. d.before n (omega arith))
  ];
  less = d.less;
}

-- of a table that comes before another one, the count at the first place where they differ is lower
first_lower : (u v : List ℕ) → length u ≡ length v → slice_cmp nat_cmp u v ≡ Less →
    (c : ℕ) × DiffersAt u v c
first_lower [] [] e h = absurd (cc)
first_lower [] (y ∷ v) e h = absurd (omega arith)
first_lower (x ∷ u) [] e h = absurd (omega arith)
first_lower (x ∷ u) (y ∷ v) e h =
    by (cases_order x y) (λ g. first_lower u v (omega arith) g)
  where
    by : (x ≡ y) ⊎ ((x < y) ⊎ (y < x)) →
        (slice_cmp nat_cmp u v ≡ Less → (c : ℕ) × DiffersAt u v c) →
        (c : ℕ) × DiffersAt (x ∷ u) (y ∷ v) c
    by (inl s) later =
        let tied : nat_cmp x y ≡ Equal = grind (arith, nat_tests) in
        let r = later (sym (ap (λ o. ordering_then o (slice_cmp nat_cmp u v)) tied) ∙ h) in
        (suc r.0, differs-cons x y u v r.0 s r.1)
    by (inr (inl l)) later =
        (zero, record { before = λ k m. absurd (omega arith); less = l })
    by (inr (inr l)) later =
        let above : nat_cmp x y ≡ Greater = grind (arith, nat_tests) in
        let clash : Greater ≡ Less =
        sym (ap (λ o. ordering_then o (slice_cmp nat_cmp u v)) above) ∙ h in absurd (cc)

-- the most significant digit decides
leads : (most p q x y : ℕ) → p < most → x < y → p + most * x < q + most * y
leads most p q x y l m =
    let n : x + 1 ≤ y = omega arith in
    let e : most * (x + 1) ≤ most * y = mul-le-mul_left most n in
    let f = mul-add most x 1 in
    omega arith

-- the cells of digits
abbrev cells_of : List Digit → List ℕ
cells_of digits = map (λ (d : Digit). d.cell) digits

-- where the first cell at which tables differ is one of the digits', ranks are as the counts there
rank-lower : (digits : List Digit) (u v : List ℕ) (c : ℕ) → Rises (cells_of digits) →
    Suits digits u → DiffersAt u v c → In c (cells_of digits) → rank_of digits u < rank_of digits v
unfolding Rises In
rank-lower [] u v c rises s differs i = absurd i
rank-lower (d ∷ digits) u v c rises s differs i =
    let others = suits-others d digits u s in
    let most : ℕ = key_count (reverse digits) in
    let p = rank-cons d digits u in
    let q = rank-cons d digits v in
    elim i [
      | inl e ↦
          let high : at u d.cell < at v d.cell = subst (λ k. at u k < at v k) e differs.less in
          let low = number-most (reverse digits) u (suits-reverse digits u others) in
          let r = leads most (rank_of digits u) (rank_of digits v) (at u d.cell)
          (at v d.cell) low high in
          omega arith
      | inr j ↦
          let same = ap (λ n. most * n) (differs.before d.cell (rises.0 c j)) in
          let later = rank-lower digits u v c rises.1 others differs j in
          omega arith
    ]

-- the cells of the digits of given margins
cells-digits : (matrix : Design) (margins cells : List ℕ) →
    cells_of (map (digit_of matrix margins) cells) ≡ cells
cells-digits matrix margins [] = refl
cells-digits matrix margins (c ∷ cells) = ap (λ l. c ∷ l) (cells-digits matrix margins cells)

module _ (matrix : Design) (sound : IsDesign matrix) (margins : List ℕ) where
  -- a table of the fiber: as many cells, and these margins
  pub record IsOf (u : List ℕ) : Type 0 where
    pub long : length u ≡ length matrix.columns
    pub margins_are : margins_of matrix u ≡ margins

  -- two tables of a fiber differ first at a free cell
  first_free : (u v : List ℕ) (c : ℕ) → IsOf u → IsOf v → DiffersAt u v c → In c (free_cells matrix)
  first_free u v c f g d = elim (cases_In c (free_cells matrix)) [
    | inl i ↦ i
    | inr n ↦
        let same : at u c ≡ at v c =
        same_up_to matrix u v c f.long g.long (f.margins_are ∙ sym g.margins_are)
        (λ k i l. d.before k (elim (cases_eq k c) [
          | inl e ↦ absurd (n (subst (λ t. In t (free_cells matrix)) e i))
          | inr ne ↦ let low : k < c = omega arith in low
        ])) in
        let less = d.less in absurd (omega arith)
  ]

  -- of two tables of a fiber, the rank of the first is lower
  pub rank-ascends : (u v : List ℕ) → IsOf u → IsOf v → slice_cmp nat_cmp u v ≡ Less →
      rank_of (digits_of matrix margins) u < rank_of (digits_of matrix margins) v
  rank-ascends u v f g less =
      let d = first_lower u v (f.long ∙ sym g.long) less in
      let cells = cells-digits matrix margins (free_cells matrix) in
      rank-lower (digits_of matrix margins) u v d.0
      (subst Rises (sym cells)
      (free-rises matrix (length matrix.columns) (range_with_len 0 (length matrix.columns))
      (rises-range 0 (length matrix.columns))))
      (subst (λ m. Suits (digits_of matrix m) u) f.margins_are (suits matrix sound u f.long))
      d.1 (subst (λ l. In d.0 l) (sym cells) (first_free u v d.0 f g d.1))

  -- and the other way round
  ascends-rank : (u v : List ℕ) → IsOf u → IsOf v →
      rank_of (digits_of matrix margins) u < rank_of (digits_of matrix margins) v →
      slice_cmp nat_cmp u v ≡ Less
  ascends-rank u v f g low = by (slice_cmp nat_cmp u v) refl
    where
      by : (o : Ordering) → slice_cmp nat_cmp u v ≡ o → slice_cmp nat_cmp u v ≡ Less
      by Less e = e
      by Equal e =
          let s = slice_cmp-IsAntisymmetric nat_cmp-IsAntisymmetric u v e in
          let t = ap (λ w. rank_of (digits_of matrix margins) w) s in absurd (omega arith)
      by Greater e =
          let back : slice_cmp nat_cmp v u ≡ Less =
          nat_list_cmp_total.antisymm v u ∙ ap ordering_reverse e in
          let high = rank-ascends v u g f back in absurd (omega arith)

  -- so ranks and tables ascend together
  pub ranks_ascend : (u v : List ℕ) → length u ≡ length matrix.columns →
      length v ≡ length matrix.columns →
      margins_of matrix u ≡ margins → margins_of matrix v ≡ margins →
      (slice_cmp nat_cmp u v ≡ Less)
      ↔ (rank_of (digits_of matrix margins) u < rank_of (digits_of matrix margins) v)
  ranks_ascend u v e f m n =
      let a : IsOf u = record { long = e; margins_are = m } in
      let b : IsOf v = record { long = f; margins_are = n } in
      (rank-ascends u v a b, ascends-rank u v a b)
