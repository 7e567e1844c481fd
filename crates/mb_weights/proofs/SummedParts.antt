-- Weights summed part by part.
use Rattle.std.proofs.Common.{Bool, Global, List, None, Some, Vec, [], ap, arith, cond, drop, false, get_or, inl, inr, length, nat_le, refl, sym, take, true, ℕ, ◌++◌, ◌+◌, ◌<◌, ◌^◌, ◌∙◌, ◌∷◌, ◌≡◌, ◌≤◌}
use Rattle.std.proofs.lemmas.Bool.{cases_lt}
use Rattle.std.proofs.lemmas.List.{append-nil, take-append-drop, take_more}
use Rattle.std.proofs.lemmas.List.Concat.{flat_map-append}
use Rattle.std.proofs.lemmas.List.Elements.{filter-append}
use Rattle.std.proofs.lemmas.List.Sums.{sum_by-append, sum_by-cons, sum_by-take-le}
use Rattle.std.specs.List.{flat_map}
use Rattle.std.specs.Option.{SomeIff}
use Rattle.mb_matrix.specs.Measure.{Weighting}
use Rattle.mb_tables.specs.Lists.{In}
use Rattle.mb_weights.proofs.SummedTables.{at_most-cons, listed_within, observed_within}
use Rattle.mb_weights.specs.PValue.{at_most, whole_of}
use Rattle.mb_weights.specs.Weight.{weight_of}
use Rattle.mb_weights.specs.declared.sums.Sums.{Sums}
use Rattle.mb_weights.specs.loops.Parts.{AreSumsOf, both, sums_of}

-- a number or 0 is at most the number
cond-within : (t : Bool) (n : ℕ) → cond t n 0 ≤ n
cond-within true n = omega arith
cond-within false n = omega arith

-- the tables that weigh at most so much are a part of all
most-within : (m : Weighting) (w : ℕ) (tables : List (List ℕ)) →
    whole_of m (at_most m w tables) ≤ whole_of m tables
most-within m w [] = omega arith
most-within m w (v ∷ tables) =
    let e = at_most-cons m w v tables in
    let f = sum_by-cons (weight_of m) v tables in
    let g = most-within m w tables in
    let h = cond-within (nat_le (weight_of m v) w) (weight_of m v) in
    omega (arith, e, f, g, h)

-- so the first of two sums is a part of the second
pub sums-part : (m : Weighting) (w : ℕ) (tables : List (List ℕ)) (a : Sums) →
    AreSumsOf m w tables (Some a) → a.below ≤ a.whole
sums-part m w tables a s =
    let e = ap (λ (r : Sums). r.below) s.1 in
    let f = ap (λ (r : Sums). r.whole) s.1 in
    let g = most-within m w tables in
    omega (arith, e, f, g)

-- the sums over no tables
pub sums-none : (m : Weighting) (w : ℕ) →
    AreSumsOf m w [] (Some (record { below = 0; whole = 0 }))
sums-none m w = (omega arith, refl)

-- the sums over two lists are those of each, added up
pub sums-append : (m : Weighting) (w : ℕ) (xs ys : List (List ℕ)) →
    sums_of m w (xs ++ ys) ≡ both (sums_of m w xs) (sums_of m w ys)
sums-append m w xs ys =
    let e = sum_by-append (weight_of m) xs ys in
    let f =
    ap (whole_of m) (filter-append (λ v. nat_le (weight_of m v) w) xs ys)
    ∙ sum_by-append (weight_of m) (at_most m w xs) (at_most m w ys) in
    λ i. record { below = f i; whole = e i }

-- some tables have the sums of those before them and of a piece, and no larger ones than all
pub record IsPiece (m : Weighting) (w : ℕ) (before piece after all : List (List ℕ)) : Type 0 where
  pub added : sums_of m w after ≡ both (sums_of m w before) (sums_of m w piece)
  pub within : whole_of m after ≤ whole_of m all

-- the sums over a piece are added to those before it
pub piece-added : (m : Weighting) (w : ℕ) (before piece after all : List (List ℕ)) (a b c : Sums) →
    IsPiece m w before piece after all → AreSumsOf m w before (Some a) →
    AreSumsOf m w piece (Some b) → SomeIff (Some c) (a.whole + b.whole < 2 ^ 128) (both a b) →
    AreSumsOf m w after (Some c)
piece-added m w before piece after all a b c p s t u =
    let e : both a b ≡ sums_of m w after =
    (λ i. both (s.1 i) (t.1 i)) ∙ sym p.added in
    let f = ap (λ (r : Sums). r.whole) e in
    (omega (arith, u.0, f), u.1 ∙ e)

-- where those over a piece pass 128 bits, those over all do
pub piece-passes : (m : Weighting) (w : ℕ) (before piece after all : List (List ℕ)) →
    IsPiece m w before piece after all → AreSumsOf m w piece None → AreSumsOf m w all None
piece-passes m w before piece after all p passed fits =
    let e = ap (λ (r : Sums). r.whole) p.added in
    let f = p.within in
    passed (omega (arith, e, f, fits))

-- and where they do together
pub both-pass : (m : Weighting) (w : ℕ) (before piece after all : List (List ℕ)) (a b : Sums) →
    IsPiece m w before piece after all → AreSumsOf m w before (Some a) →
    AreSumsOf m w piece (Some b) → (a.whole + b.whole < 2 ^ 128 → ⊥) → AreSumsOf m w all None
both-pass m w before piece after all a b p s t passed fits =
    let e = ap (λ (r : Sums). r.whole) ((λ i. both (s.1 i) (t.1 i)) ∙ sym p.added) in
    let f = p.within in
    passed (omega (arith, e, f, fits))

-- one table more
pub piece-table : (m : Weighting) (w : ℕ) (tables : List (List ℕ)) (i : ℕ) (v : List ℕ) →
    i < length tables → v ≡ get_or tables i v →
    IsPiece m w (take i tables) (v ∷ []) (take (i + 1) tables) tables
piece-table m w tables i v l there =
    let more : take (i + 1) tables ≡ take i tables ++ v ∷ [] =
    take_more tables i v l ∙ ap (λ u. take i tables ++ u ∷ []) (sym there) in
    record {
      added = ap (sums_of m w) more ∙ sums-append m w (take i tables) (v ∷ []);
      within = sum_by-take-le (weight_of m) tables (i + 1);
    }

-- the tables of one ring more
pub piece-ring : (m : Weighting) (w : ℕ) (f : Vec (List ℕ) Global → List (List ℕ))
    (rings : List (Vec (List ℕ) Global)) (i : ℕ) (ring : Vec (List ℕ) Global) →
    i < length rings → ring ≡ get_or rings i ring →
    IsPiece m w (flat_map f (take i rings)) (f ring) (flat_map f (take (i + 1) rings))
    (flat_map f rings)
piece-ring m w f rings i ring l there =
    let front = flat_map f (take i rings) in
    let more : flat_map f (take (i + 1) rings) ≡ front ++ f ring =
    ap (flat_map f) (take_more rings i ring l ∙ ap (λ r. take i rings ++ r ∷ []) (sym there))
    ∙ flat_map-append f (take i rings) (ring ∷ []) ∙ ap (λ t. front ++ t) (append-nil (f ring)) in
    let all =
    sym (flat_map-append f (take (i + 1) rings) (drop (i + 1) rings))
    ∙ ap (flat_map f) (take-append-drop (i + 1) rings) in
    let sums =
    sym (sum_by-append (weight_of m) (flat_map f (take (i + 1) rings))
    (flat_map f (drop (i + 1) rings)))
    ∙ ap (whole_of m) all in
    record {
      added = ap (sums_of m w) more ∙ sums-append m w front (f ring);
      within = omega (arith, sums);
    }

-- where the weight of a listed table passes 128 bits, the sum over all does
pub listed-passes : (m : Weighting) (tables : List (List ℕ)) (u : List ℕ) → In u tables →
    (weight_of m u < 2 ^ 128 → ⊥) → 2 ^ 128 ≤ whole_of m tables
listed-passes m tables u there passed =
    let within = listed_within m tables u there in
    elim (cases_lt (weight_of m u) (2 ^ 128)) [
      | inl fits ↦ absurd (passed fits)
      | inr large ↦ omega (arith, within, large)
    ]

-- a listed table's weight is no more than the sum over those that are no likelier, and this no more
-- than the sum over all
pub sums-ascend : (m : Weighting) (tables : List (List ℕ)) (u : List ℕ) (w : ℕ) (a : Sums) →
    In u tables → w ≡ weight_of m u → AreSumsOf m w tables (Some a) →
    (w ≤ a.below) × (a.below ≤ a.whole) × (a.whole < 2 ^ 128)
sums-ascend m tables u w a there is s =
    let least = rw (← is) at (observed_within m u tables there) in
    let e = ap (λ (r : Sums). r.below) s.1 in
    let f = ap (λ (r : Sums). r.whole) s.1 in
    let fits = s.0 in
    (omega (arith, least, e), sums-part m w tables a s, omega (arith, fits, f))
