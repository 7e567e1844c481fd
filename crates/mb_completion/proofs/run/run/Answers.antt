use Rattle.std.proofs.Common.{List, None, ap, arith, length, slice_get, subst, sym, ◌-◌, ◌∙◌, ◌≡◌}
use Rattle.mb_completion.proofs.FirstRules.{before-none, births-length, births-light}
use Rattle.mb_completion.proofs.Going.{finishes, stays}
use Rattle.mb_completion.proofs.Turns.{no_turn}
use Rattle.mb_completion.proofs.run.run.Goals as goal
use Rattle.mb_completion.specs.Run.{AreLight, Finished, Runs}
use Rattle.mb_completion.specs.Start.{births}
use Rattle.mb_completion.specs.loops.Going.{GoesOn, pairs_before}
use Rattle.mb_order.specs.Peak.{shared_pairs}
use Rattle.mb_order.specs.Rewriting.{Rule}

pub loop-j-init : goal.loop-j-init
loop-j-init c =
    let matrix = c.args.matrix.now in
    let begin = births matrix.rows matrix.columns in
    let rules = c.in_ok-rules.ensures.rules in
    let s = c.rows-cells.ensures.sound in
    record {
      goes_on =
          subst (λ (l : List Rule). GoesOn matrix c.args.order c.args.pairs begin 0 l 0) (sym rules)
          (stays matrix c.args.order c.args.pairs begin 0 (omega arith));
      place = before-none c.in_ok-rules.rules.rules;
      within = omega arith;
      begin = (let e = births-length matrix.rows (length matrix.columns) 0 matrix.columns in
          let f = s.few_cells in omega arith);
      light = subst (AreLight matrix) (sym rules) (births-light matrix s);
      matrix = c.in_ok-rules.ensures.matrix;
      order = c.in_ok-rules.ensures.order;
    }

pub returns-clause-finished : goal.returns-clause-finished
returns-clause-finished c =
    let matrix = c.args.matrix.now in
    let rules = c.loop-j.rules.rules in
    let looks = c.loop-j.looks in
    let e : c.loop-j.j ≡ length rules =
    (let a = c.loop-j.invariant.within in let b = c.len.ensures.rules in
    let d = c.loop-j-test.false in omega arith) in
    let none : slice_get (shared_pairs rules) looks ≡ None =
    ap (slice_get (shared_pairs rules)) (c.loop-j.invariant.place
    ∙ ap (λ j. length (pairs_before rules 0 j)) e) ∙ no_turn rules in
    subst (λ n.
    Runs matrix c.args.order n (births matrix.rows matrix.columns) 0 (Finished rules looks))
    (let z : c.args.pairs - 0 ≡ c.args.pairs = omega arith in z)
    (c.loop-j.invariant.goes_on.ends (Finished rules looks)
    (finishes matrix c.args.order (c.args.pairs - looks) rules looks none))
