use Rattle.std.proofs.Common.{All, Some, nat_eq, not, slice_get, ap, arith, inl, inr, length, sym, subst, ◌++◌, ◌-◌, ◌<◌, ◌∙◌, ◌≡◌}
use Rattle.std.specs.List.{range_with_len}
use Rattle.mb_matrix.proofs.CellLists.{range-below}
use Rattle.mb_matrix.proofs.PeelSteps.{no_first, peel_from-done, peel_goes_on}
use Rattle.std.proofs.lemmas.List.Elements.{All-filter}
use Rattle.mb_matrix.specs.Peel.{peel_from}
use Rattle.mb_matrix.proofs.peel.Peel.of.Goals as goal

pub loop-init : goal.loop-init
loop-init c =
    let matrix = c.args.matrix.now in
    let cells = length matrix.columns in
    let n : c.cols-cells.result - 0 ≡ cells = omega arith in
    let left : c.in_ok-left.left.items ≡ range_with_len 0 cells =
    c.in_ok-left.ensures ∙ ap (λ k. range_with_len 0 k) c.cols-cells.ensures.cells in
    record {
      so_far = ap (λ s. s ++ peel_from matrix (c.cols-cells.result - 0) c.in_ok-left.left.items)
          c.in_ok-steps.ensures.items
          ∙ ap (λ k. peel_from matrix k c.in_ok-left.left.items) n
          ∙ ap (λ l. peel_from matrix cells l) left;
      cells = subst (λ l. All (λ k. k < cells) l) (sym left) (range-below cells);
    }

pub loop-preserved : goal.loop-preserved
loop-preserved c =
    let matrix = c.args.matrix.now in
    let h : c.loop.counter < c.cols-cells.result = omega arith in
    let first : Some c.in-Some.lowest.now ≡ slice_get c.loop.left.items 0 =
    c.in-Some.ensures.value ∙ ap (λ l. slice_get l 0) c.deref.ensures.value in
    record {
      so_far = peel_goes_on matrix c.loop.steps.items c.push.new.self.items c.loop.left.items
          c.as_slice.result.now c.take_out.new.left.items c.cols-cells.result c.loop.counter
          c.in-Some.lowest.now c.cell.result c.step_from-step.result h first
          c.as_slice.ensures.value c.step_from-step.ensures c.cell.ensures
          c.in_ok-push-in-Some.ensures.items c.take_out.ensures ∙ c.loop.invariant.so_far;
      cells = subst (λ l. All (λ k. k < length matrix.columns) l) (sym c.take_out.ensures)
          (All-filter (λ k. not (nat_eq k c.cell.result)) (λ k. k < length matrix.columns)
          c.loop.left.items c.loop.invariant.cells);
    }

pub returns-in-None : goal.returns-in-None
returns-in-None c =
    let none = no_first c.loop.left.items
    (c.in-None.ensures.value ∙ ap (λ l. slice_get l 0) c.deref.ensures.value) in
    sym (peel_from-done c.args.matrix.now c.loop.steps.items
    (c.cols-cells.result - c.loop.counter) c.loop.left.items (inr none)) ∙ c.loop.invariant.so_far

pub returns : goal.returns
returns c =
    let n : c.cols-cells.result - c.loop.counter ≡ 0 = omega arith in
    sym (peel_from-done c.args.matrix.now c.loop.steps.items
    (c.cols-cells.result - c.loop.counter) c.loop.left.items (inl n)) ∙ c.loop.invariant.so_far
