-- The tables that a Markov basis reaches are those of the fiber, each once: so what is summed over
-- the rings is summed over the fiber, and the rings are those of an exact test.
use Rattle.std.proofs.Common.{All, Bool, Err, Global, List, Ok, Result, Vec, [], ap, cond, false, get_or, length, map, nat_lt, refl, subst, sum, sym, true, ℕ, ℤ, ◌++◌, ◌+◌, ◌<◌, ◌^◌, ◌∙◌, ◌∷◌, ◌≡◌, ◌≤◌, ◌↔◌}
use Rattle.std.proofs.lemmas.Bool.{le-ltb, lt-ltb}
use Rattle.std.proofs.lemmas.List.Concat.{length-flat_map}
use Rattle.std.proofs.lemmas.List.Sorted.{length_permutation}
use Rattle.std.proofs.lemmas.List.Sums.{sum-map}
use Rattle.std.proofs.lemmas.Option.{slice_get-get_or}
use Rattle.std.specs.List.Sorted.{IsPermutation}
use Rattle.mb_certificate.specs.Certificate.{AreParts, Certificate}
use Rattle.mb_certificate.specs.Valid.{IsValid}
use Rattle.mb_checker.proofs.ValidCertificates.{valid-markov}
use Rattle.mb_desk.specs.ExactTest.{AreFigures, IsExactTest, fraction_in, narrow, small_enough}
use Rattle.mb_desk.specs.declared.exact_test.Figures.{Figures}
use Rattle.mb_desk.specs.declared.exact_test.NumbersFault.TheVariants as faults
use Rattle.mb_matrix.proofs.AscendingLists.{occurs_once}
use Rattle.mb_matrix.specs.Ascending.{occurrences}
use Rattle.mb_matrix.specs.MarkovBasis.{IsMarkovBasis}
use Rattle.mb_matrix.specs.Matrix.{Design, IsDesign, fiber_of}
use Rattle.mb_matrix.specs.Measure.{Weighting}
use Rattle.mb_rings.proofs.DistinctTables.{occurrences-distinct}
use Rattle.mb_rings.proofs.FiberSteps.{fiber-ascends, fiber-closed, fiber-only, fiber-start}
use Rattle.mb_rings.proofs.Reaching.{reaches_fiber}
use Rattle.mb_rings.proofs.RingDistances.{rings-distance}
use Rattle.mb_rings.proofs.RingEnds.{reached-distinct}
use Rattle.mb_rings.specs.Ring.{Ring, reached, rings_of, tables_of}
use Rattle.mb_rings.specs.Walk.{walk_of}
use Rattle.mb_rings.specs.declared.fault.WalkFault.{WalkFault}
use Rattle.mb_rings.specs.declared.fault.WalkFault.TheVariants.{TooLarge}
use Rattle.mb_rings.specs.loops.RingList.{listed}
use Rattle.mb_tables.proofs.ListLaws.{place-in}
use Rattle.mb_tables.specs.Lists.{In}
use Rattle.mb_weights.proofs.TableOrders.{below-permutation, once-permutation, whole-permutation}
use Rattle.mb_weights.specs.PValue.{Fraction, below_of, exact_p_value, tables_in, whole_of}

-- the tables that some vectors keep are those of their lists
pub tables-listed : (rings : List (Vec (List ℕ) Global)) →
    tables_in rings ≡ tables_of (listed rings)
tables-listed [] = refl
tables-listed (ring ∷ rings) = ap (λ l. ring.items ++ l) (tables-listed rings)

-- a fraction whose whole is below 2^128 is narrow enough
pub narrow-ok : (fraction : Fraction) → fraction.whole < 2 ^ 128 → narrow fraction ≡ Ok fraction
narrow-ok fraction l =
    ap (λ t. cond t (Ok fraction) (Err faults.TooWide)) (lt-ltb fraction.whole (2 ^ 128) l)

-- and one whose whole isn't is too wide
pub narrow-wide : (fraction : Fraction) → 2 ^ 128 ≤ fraction.whole →
    narrow fraction ≡ Err faults.TooWide
narrow-wide fraction l =
    ap (λ t. cond t (Ok fraction) (Err faults.TooWide)) (le-ltb fraction.whole (2 ^ 128) l)

module _ (matrix : Design) (design : IsDesign matrix) (moves : List (List ℤ))
    (basis : IsMarkovBasis matrix moves) (observed : List ℕ)
    (long : length observed ≡ length matrix.columns) where
  -- a reached table is one of the fiber, and the other way round
  same : (v : List ℕ) → In v (reached matrix moves observed) ↔ In v (fiber_of matrix observed)
  same v = reaches_fiber matrix design moves basis observed long v

  -- each is reached once
  once : (v : List ℕ) → In v (reached matrix moves observed) →
      occurrences v (reached matrix moves observed) ≡ 1
  once v i =
      occurrences-distinct v (reached matrix moves observed)
      (reached-distinct (fiber_of matrix observed) moves observed
      (fiber-ascends matrix design observed) (fiber-start matrix design observed long)) i

  -- the reached tables are the fiber's, in another order
  pub reached-permuted : IsPermutation (reached matrix moves observed) (fiber_of matrix observed)
  reached-permuted =
      once-permutation (reached matrix moves observed) (fiber_of matrix observed) same once
      (λ v i. occurs_once v (fiber_of matrix observed) (fiber-ascends matrix design observed) i)

  -- there are as many
  pub reached-count : length (reached matrix moves observed) ≡ length (fiber_of matrix observed)
  reached-count =
      sym (length_permutation (reached matrix moves observed) (fiber_of matrix observed)
      reached-permuted)

  -- so many stand in the rings
  pub sizes-sum : sum (map (length {A = List ℕ}) (rings_of matrix moves observed))
      ≡ length (fiber_of matrix observed)
  sizes-sum =
      sum-map (length {A = List ℕ}) (rings_of matrix moves observed)
      ∙ sym (length-flat_map (λ (ring : Ring). ring) (rings_of matrix moves observed))
      ∙ reached-count

  -- the observed table is one of them
  pub observed-reached : In observed (reached matrix moves observed)
  observed-reached = (same observed).1 (fiber-start matrix design observed long)

  -- each has the matrix's cells
  pub reached-cells : (v : List ℕ) → In v (reached matrix moves observed) →
      length v ≡ length matrix.columns
  reached-cells v i = (fiber-only matrix design observed v ((same v).0 i)).0

  -- the rings are those of an exact test
  pub is_exact_test : (measure : Weighting) →
      IsExactTest matrix moves measure observed (rings_of matrix moves observed)
      (exact_p_value matrix measure observed)
  is_exact_test measure = record {
    basis = basis;
    once = λ v i. once v ((same v).1 i);
    only = λ v i. (same v).0 i;
    distance = λ k ring at v.
        rings-distance (fiber_of matrix observed) moves observed
        (fiber-ascends matrix design observed) (fiber-start matrix design observed long)
        (fiber-closed matrix design observed moves basis.kept) k ring at v;
    p_value = refl;
  }

  -- the sums over the rings are the p-value
  pub sums-p_value : (measure : Weighting) (fraction : Fraction) →
      fraction.below ≡ below_of measure observed (reached matrix moves observed) →
      fraction.whole ≡ whole_of measure (reached matrix moves observed) →
      fraction ≡ exact_p_value matrix measure observed
  sums-p_value measure fraction below whole =
      let b = below ∙ below-permutation measure observed (reached matrix moves observed)
      (fiber_of matrix observed) reached-permuted in
      let w = whole ∙ whole-permutation measure (reached matrix moves observed)
      (fiber_of matrix observed) reached-permuted in
      ap (λ n. record { below = n; whole = fraction.whole }) b
      ∙ ap (λ n. record {
        below = below_of measure observed (fiber_of matrix observed);
        whole = n;
      }) w

  -- a walk that ends within the limit has the rings, and the fiber is within the limit
  pub walk-ok : (limit : ℕ) (rings : List Ring) → walk_of limit matrix moves observed ≡ Ok rings →
      (small_enough limit (fiber_of matrix observed) ≡ Ok tt)
      × (rings ≡ rings_of matrix moves observed)
  walk-ok limit rings e =
      by (nat_lt limit (length (reached matrix moves observed)))
      (ap (nat_lt limit) (sym reached-count)) e
    where
      by : (many : Bool) → nat_lt limit (length (fiber_of matrix observed)) ≡ many →
          ◌≡◌ {A = Result (List Ring) WalkFault}
          (cond many (Err (TooLarge (limit + 1))) (Ok (rings_of matrix moves observed)))
          (Ok rings) →
          (small_enough limit (fiber_of matrix observed) ≡ Ok tt)
          × (rings ≡ rings_of matrix moves observed)
      by true many e = absurd (cc)
      by false many e = (
        ap (λ t. cond t (Err (faults.TooLarge (limit + 1))) (Ok tt)) many,
        cc,
      )

  -- a walk that passes it says that the fiber does
  pub walk-large : (limit seen : ℕ) → walk_of limit matrix moves observed ≡ Err (TooLarge seen) →
      small_enough limit (fiber_of matrix observed) ≡ Err (faults.TooLarge seen)
  walk-large limit seen e =
      by (nat_lt limit (length (reached matrix moves observed)))
      (ap (nat_lt limit) (sym reached-count)) e
    where
      by : (many : Bool) → nat_lt limit (length (fiber_of matrix observed)) ≡ many →
          ◌≡◌ {A = Result (List Ring) WalkFault}
          (cond many (Err (TooLarge (limit + 1))) (Ok (rings_of matrix moves observed)))
          (Err (TooLarge seen)) →
          small_enough limit (fiber_of matrix observed) ≡ Err (faults.TooLarge seen)
      by true many e =
          let f : limit + 1 ≡ seen = cc in
          ap (λ t. cond t (Err (faults.TooLarge (limit + 1))) (Ok tt)) many
          ∙ ap (λ n. Err (faults.TooLarge n)) f
      by false many e = absurd (cc)

-- what holds of each table of a list holds at each of its places
pub all-listed : (P : List ℕ → Type 0) (tables : List (List ℕ)) →
    ((v : List ℕ) → In v tables → P v) → All P tables
all-listed P tables each k d l =
    each (get_or tables k d)
    (place-in tables k (get_or tables k d) (slice_get-get_or tables k d l))

module _ (c : Certificate) (parts : AreParts c) (valid : IsValid c) (observed : List ℕ)
    (long : length observed ≡ length c.matrix.columns) where
  -- the moves of the certificate
  certified : IsMarkovBasis c.matrix c.moves
  certified = valid-markov c valid parts

  -- a walk by its matrix and moves that ends within the limit
  pub walked : (matrix : Design) (moves : List (List ℤ)) (limit : ℕ) (rings : List Ring) →
      matrix ≡ c.matrix → moves ≡ c.moves → walk_of limit matrix moves observed ≡ Ok rings →
      (small_enough limit (fiber_of c.matrix observed) ≡ Ok tt)
      × (rings ≡ rings_of c.matrix c.moves observed)
  walked matrix moves limit rings m z e =
      walk-ok c.matrix parts.design c.moves certified observed long limit rings
      (ap (λ x. walk_of limit c.matrix x observed) (sym z)
      ∙ ap (λ (x : Design). walk_of limit x moves observed) (sym m) ∙ e)

  -- and one that passes it
  pub passed : (matrix : Design) (moves : List (List ℤ)) (limit seen : ℕ) →
      matrix ≡ c.matrix → moves ≡ c.moves →
      walk_of limit matrix moves observed ≡ Err (TooLarge seen) →
      small_enough limit (fiber_of c.matrix observed) ≡ Err (faults.TooLarge seen)
  passed matrix moves limit seen m z e =
      walk-large c.matrix parts.design c.moves certified observed long limit seen
      (ap (λ x. walk_of limit c.matrix x observed) (sym z)
      ∙ ap (λ (x : Design). walk_of limit x moves observed) (sym m) ∙ e)

  -- the rings that some vectors keep are the reached tables
  pub kept-reached : (kept : List (Vec (List ℕ) Global)) (rings : List Ring) →
      listed kept ≡ rings → rings ≡ rings_of c.matrix c.moves observed →
      tables_in kept ≡ reached c.matrix c.moves observed
  kept-reached kept rings k r = tables-listed kept ∙ ap tables_of (k ∙ r)

  -- each has the matrix's cells
  pub kept-cells : (kept : List (Vec (List ℕ) Global)) →
      tables_in kept ≡ reached c.matrix c.moves observed →
      All (λ table. length table ≡ length c.matrix.columns) (tables_in kept)
  kept-cells kept same =
      subst (All (λ table. length table ≡ length c.matrix.columns)) (sym same)
      (all-listed (λ table. length table ≡ length c.matrix.columns)
      (reached c.matrix c.moves observed)
      (reached-cells c.matrix parts.design c.moves certified observed long))

  -- the observed table is one of them
  pub kept-observed : (kept : List (Vec (List ℕ) Global)) →
      tables_in kept ≡ reached c.matrix c.moves observed → In observed (tables_in kept)
  kept-observed kept same =
      subst (In observed) (sym same)
      (observed-reached c.matrix parts.design c.moves certified observed long)

  -- their sums are the p-value
  pub kept-p_value : (measure : Weighting) (fraction : Fraction)
      (kept : List (Vec (List ℕ) Global)) →
      tables_in kept ≡ reached c.matrix c.moves observed →
      fraction.below ≡ below_of measure observed (tables_in kept) →
      fraction.whole ≡ whole_of measure (tables_in kept) →
      fraction ≡ exact_p_value c.matrix measure observed
  kept-p_value measure fraction kept same below whole =
      sums-p_value c.matrix parts.design c.moves certified observed long measure fraction
      (below ∙ ap (below_of measure observed) same) (whole ∙ ap (whole_of measure) same)

  -- where their sum is 2^128 or more, the p-value is too wide
  pub kept-wide : (measure : Weighting) (kept : List (Vec (List ℕ) Global)) →
      tables_in kept ≡ reached c.matrix c.moves observed →
      2 ^ 128 ≤ whole_of measure (tables_in kept) →
      narrow (exact_p_value c.matrix measure observed) ≡ Err faults.TooWide
  kept-wide measure kept same wide =
      let p = kept-p_value measure
      (record {
        below = below_of measure observed (tables_in kept);
        whole = whole_of measure (tables_in kept);
      }) kept same refl refl in
      ap narrow (sym p) ∙ narrow-wide _ wide

  -- so many stand in the rings
  pub certified-sum : sum (map (length {A = List ℕ}) (rings_of c.matrix c.moves observed))
      ≡ length (fiber_of c.matrix observed)
  certified-sum = sizes-sum c.matrix parts.design c.moves certified observed long

  -- figures that are these numbers are those of an exact test
  pub figures-test : (measure : Weighting) (figures : Figures) →
      figures.rings.items ≡ map length (rings_of c.matrix c.moves observed) →
      fraction_in figures ≡ exact_p_value c.matrix measure observed →
      AreFigures c.matrix c.moves measure observed figures
  figures-test measure figures sizes fraction = (
    rings_of c.matrix c.moves observed,
    sizes,
    subst (IsExactTest c.matrix c.moves measure observed (rings_of c.matrix c.moves observed))
        (sym fraction)
        (is_exact_test c.matrix parts.design c.moves certified observed long measure),
  )
