use Rattle.std.proofs.Common.{List, ap, arith, drop, get_or, length, subst, sym, ℕ, ◌+◌, ◌<◌, ◌∙◌, ◌∷◌, ◌≡◌, ◌≤◌}
use Rattle.std.specs.List.{range_with_len}
use Rattle.mb_matrix.specs.Key.{Suits, digits_of, key_of}
use Rattle.mb_matrix.specs.Matrix.{Design}
use Rattle.mb_matrix.specs.Peel.{IsTriangular, cell_of}
use Rattle.mb_matrix.specs.declared.peel.Peeled.{Peeled}
use Rattle.mb_matrix.specs.declared.peel.Peeled.TheVariants.{Decided, Free}
use Rattle.mb_matrix.proofs.FreeCells.{peel-cell}
use Rattle.mb_matrix.proofs.MarginLaws.{at-margins}
use Rattle.mb_matrix.proofs.ReadBack.{IsKnown, known-decided, known-first, known-free, known-last, known-others, steps-drop, triangular-more, triangular-row, triangular-some}
use Rattle.mb_matrix.proofs.Suits.{digit-cells, suits}
use Rattle.mb_matrix.proofs.Triangular.{triangular}
use Rattle.mb_matrix.proofs.keys.Keys.read.Goals as goal
use Rattle.mb_matrix.proofs.keys.Keys.read.Goals.{in-Decided, in_default}
use Rattle.mb_tables.specs.Lists.{In}
use Rattle.mb_tables.specs.Vectors.{at}

pub read_digits-requires-clause-cells : goal.read_digits-requires-clause-cells
read_digits-requires-clause-cells c k d h =
    let same = c.digits.ensures.digits ∙ c.requires.keys in
    let cells = digit-cells c.args.matrix.now c.args.margins.now k d
    (subst (λ l. k < length l) same h) in
    let is = ap (λ l. (get_or l k d).cell) same in
    omega arith

pub loop-step-init : goal.loop-step-init
loop-step-init c =
    let matrix = c.args.matrix.now in
    let cells = length matrix.columns in
    let long : length c.read_digits.new.counts ≡ cells = omega arith in
    let same = c.digits.ensures.digits ∙ c.requires.keys in
    record {
      cells = long;
      triangular = subst (λ p. IsTriangular matrix p) (sym c.requires.peel)
          (triangular matrix cells (range_with_len 0 cells));
      known = λ u e a m key. subst (λ p. IsKnown p c.read_digits.new.counts u) (sym c.requires.peel)
          (known-first matrix c.cols-cells.ensures.sound c.args.margins.now
          c.read_digits.new.counts u e long
          (λ d i. c.read_digits.ensures.read u
          (subst (λ l. Suits l u) (ap (λ l. digits_of matrix l) m ∙ sym same)
          (suits matrix c.cols-cells.ensures.sound u e)) a
          (ap (λ l. key_of l u) c.digits.ensures.digits ∙ key) d
          (subst (λ l. In d l) (sym same) i)));
    }

-- the steps from a deciding one on
deciding : (steps read : List Peeled) (k cell row : ℕ) → read ≡ steps → k < length read →
    get_or read k (Decided 0 0) ≡ Decided cell row →
    drop k steps ≡ Decided cell row ∷ drop (k + 1) steps
deciding steps read k cell row e h is =
    steps-drop steps k (Decided 0 0) (Decided cell row) (subst (λ l. k < length l) e h)
    (sym (ap (λ l. get_or l k (Decided 0 0)) e) ∙ is)

-- its row is one of the matrix
row-within : (matrix : Design) (steps read : List Peeled) (k cell row : ℕ) → read ≡ steps →
    k < length read → get_or read k (Decided 0 0) ≡ Decided cell row →
    IsTriangular matrix (drop k steps) → row < matrix.rows
row-within matrix steps read k cell row e h is t =
    triangular-row matrix cell row (drop (k + 1) steps)
    (subst (λ l. IsTriangular matrix l) (deciding steps read k cell row e h is) t)

pub decide-requires-clause-row : goal.decide-requires-clause-row
decide-requires-clause-row c =
    row-within c.args.matrix.now c.args.peel.now c.steps-step-items.result.now
    c.loop-step.step-index c.in-Decided.cell c.in-Decided.row c.steps-step-items.ensures
    c.loop-step-test.true c.in-Decided.is c.loop-step.invariant.triangular

pub bounds-margins-row : goal.bounds-margins-row
bounds-margins-row c =
    let row = row-within c.args.matrix.now c.args.peel.now c.steps-step-items.result.now
    c.loop-step.step-index c.in-Decided.cell c.in-Decided.row c.steps-step-items.ensures
    c.loop-step-test.true c.in-Decided.is c.loop-step.invariant.triangular in
    omega arith

pub decide-requires-clause-cell : goal.decide-requires-clause-cell
decide-requires-clause-cell c =
    let below = peel-cell c.args.matrix.now c.steps-step-items.result.now c.loop-step.step-index
    (Decided 0 0) (c.steps-step-items.ensures ∙ c.requires.peel) c.loop-step-test.true in
    subst (λ s. cell_of s < length c.args.matrix.now.columns) c.in-Decided.is below

pub loop-step-preserved : goal.loop-step-preserved
loop-step-preserved c =
    let matrix = c.args.matrix.now in
    let k = c.loop-step.step-index in
    let steps = c.args.peel.now in
    elim c.match-step.branch [
      | in-Decided w ↦
          let front =
          deciding steps c.steps-step-items.result.now k w.in-Decided.cell w.in-Decided.row
          c.steps-step-items.ensures c.loop-step-test.true w.in-Decided.is in
          let t = subst (λ l. IsTriangular matrix l) front c.loop-step.invariant.triangular in
          let more = w.decide.ensures in
          record {
            cells = ap (λ l. length l) w.counts-is ∙ more.cells ∙ c.loop-step.invariant.cells;
            triangular = triangular-more matrix (Decided w.in-Decided.cell w.in-Decided.row)
                (drop (k + 1) steps) t;
            known = λ u e a m key.
                let before = subst (λ l. IsKnown l c.loop-step.counts u) front
                (c.loop-step.invariant.known u e a m key) in
                let total = sym (at-margins matrix.rows matrix.columns u w.in-Decided.row)
                ∙ ap (λ l. at l w.in-Decided.row) m in
                let here = more.decided u e a total
                (triangular-some matrix w.in-Decided.cell w.in-Decided.row (drop (k + 1) steps) t)
                (known-others matrix w.in-Decided.cell w.in-Decided.row (drop (k + 1) steps)
                c.loop-step.counts u t before) in
                subst (λ l. IsKnown (drop (k + 1) steps) l u) (sym w.counts-is)
                (known-decided matrix w.in-Decided.cell w.in-Decided.row (drop (k + 1) steps)
                c.loop-step.counts w.decide.new.counts u t before more.others here);
          }
      | in_default w ↦
          let h = subst (λ l. k < length l) c.steps-step-items.ensures c.loop-step-test.true in
          let front = steps-drop steps k (Decided 0 0) (Free w.in_default.field-0) h
          (sym (ap (λ l. get_or l k (Decided 0 0)) c.steps-step-items.ensures) ∙ w.in_default.is) in
          record {
            cells = ap (λ l. length l) w.counts-is ∙ c.loop-step.invariant.cells;
            triangular = triangular-more matrix (Free w.in_default.field-0) (drop (k + 1) steps)
                (subst (λ l. IsTriangular matrix l) front c.loop-step.invariant.triangular);
            known = λ u e a m key.
                subst (λ l. IsKnown (drop (k + 1) steps) l u) (sym w.counts-is)
                (known-free matrix w.in_default.field-0 (drop (k + 1) steps) c.loop-step.counts u
                (subst (λ l. IsKnown l c.loop-step.counts u) front
                (c.loop-step.invariant.known u e a m key)));
          }
    ]

pub returns-clause-read : goal.returns-clause-read
returns-clause-read c u e a m key =
    known-last c.args.peel.now c.loop-step.step-index c.loop-step.counts u
    (subst (λ l. length l ≤ c.loop-step.step-index) c.steps-step-items.ensures
    c.loop-step-test.false)
    (c.loop-step.invariant.cells ∙ sym e) (c.loop-step.invariant.known u e a m key)
