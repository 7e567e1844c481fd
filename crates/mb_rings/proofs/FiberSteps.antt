-- The fiber of a start: what stands in it, and that the moves stay in it.
use Rattle.std.proofs.Common.{All, List, [], length, refl, sym, ℕ, ℤ, ◌<◌, ◌^◌, ◌∙◌, ◌∷◌, ◌≡◌, inl, inr, subst}
use Rattle.mb_matrix.proofs.AscendingLists.{fill-ascends}
use Rattle.mb_matrix.proofs.CountBounds.{counts_below}
use Rattle.mb_matrix.proofs.FillLaws.{fill-has, fill-only, length-margins}
use Rattle.mb_matrix.proofs.MovedMargins.{chain_keeps}
use Rattle.mb_matrix.specs.Ascending.{Ascends}
use Rattle.mb_matrix.specs.Matrix.{Design, IsDesign, IsMove, fiber_of, margins_of}
use Rattle.mb_rings.proofs.Walking.{IsWalkable}
use Rattle.mb_tables.proofs.CellSteps.{adds-length}
use Rattle.mb_tables.specs.Chain.{Chain}
use Rattle.mb_tables.specs.Counts.{AreCounts}
use Rattle.mb_tables.specs.Lists.{In}
use Rattle.mb_tables.specs.Step.{OneApart}

module _ (matrix : Design) (sound : IsDesign matrix) (start : List ℕ) where
  -- the fiber ascends
  pub fiber-ascends : Ascends (fiber_of matrix start)
  fiber-ascends = fill-ascends matrix.columns (margins_of matrix start)

  -- a table of the fiber has as many cells as the matrix, and the margins of the start
  pub fiber-only : (v : List ℕ) → In v (fiber_of matrix start) →
      (length v ≡ length matrix.columns) × (margins_of matrix v ≡ margins_of matrix start)
  fiber-only v i =
      fill-only matrix.rows matrix.columns sound.each v (margins_of matrix start)
      (length-margins matrix.rows matrix.columns start sound.each) i

  -- and the other way round
  pub fiber-has : (v : List ℕ) → length v ≡ length matrix.columns →
      margins_of matrix v ≡ margins_of matrix start → In v (fiber_of matrix start)
  fiber-has v long e =
      fill-has matrix.rows matrix.columns sound.each v (margins_of matrix start)
      (length-margins matrix.rows matrix.columns start sound.each) long e

  -- the start is of its fiber
  pub fiber-start : length start ≡ length matrix.columns → In start (fiber_of matrix start)
  fiber-start long = fiber-has start long refl

  -- where the margins fit 32 bits, the counts of the fiber's tables do
  pub fiber-counts : All (λ margin. margin < 2 ^ 32) (margins_of matrix start) →
      (v : List ℕ) → In v (fiber_of matrix start) → AreCounts v
  fiber-counts small v i =
      let has = fiber-only v i in
      counts_below matrix.rows matrix.columns v (2 ^ 32) sound.each has.0
      (subst (All (λ margin. margin < 2 ^ 32)) (sym has.1) small)

  -- a step keeps the number of cells
  apart-cells : (moves : List (List ℤ)) (u v : List ℕ) → OneApart moves u v → length v ≡ length u
  apart-cells moves u v h =
      elim h.3 [
        | inl a ↦ sym (adds-length u h.1 v a)
        | inr a ↦ adds-length v h.1 u a
      ]

  -- a step of one margin-free move keeps the margins
  apart-margins : (moves : List (List ℤ)) → All (IsMove matrix) moves → (u v : List ℕ) →
      OneApart moves u v → margins_of matrix u ≡ margins_of matrix v
  unfolding Chain
  apart-margins moves each u v h =
      chain_keeps matrix moves u (v ∷ []) v sound.each each (h, refl)

  -- a step by moves of the matrix stays in the fiber
  pub fiber-closed : (moves : List (List ℤ)) → All (IsMove matrix) moves → (u v : List ℕ) →
      In u (fiber_of matrix start) → OneApart moves u v → In v (fiber_of matrix start)
  fiber-closed moves each u v i h =
      let has = fiber-only u i in
      fiber-has v (apart-cells moves u v h ∙ has.0) (sym (apart-margins moves each u v h) ∙ has.1)

  -- what a walk needs to know of the fiber
  pub fiber-walkable : (moves : List (List ℤ)) → All (IsMove matrix) moves →
      length start ≡ length matrix.columns →
      All (λ margin. margin < 2 ^ 32) (margins_of matrix start) →
      IsWalkable (fiber_of matrix start) moves start
  fiber-walkable moves each long small = record {
    ascends = fiber-ascends;
    begins = fiber-start long;
    closed = fiber-closed moves each;
    counts = fiber-counts small;
  }
