use Rattle.std.proofs.Common.{All, [], ap, arith, drop, length, length-append, rules, subst, sym, w32, ◌++◌, ◌+◌, ◌∙◌, ◌∷◌, ◌≡◌}
use Rattle.std.proofs.lemmas.Int.{to_z-of_z}
use Rattle.std.proofs.lemmas.List.Elements.{All-push}
use mir.Val.{SFits}
use Rattle.mb_completion.proofs.MadeMoves.{difference-all, difference-more}
use Rattle.mb_completion.proofs.moves.differences.Goals as goal
use Rattle.mb_completion.specs.Made.{difference}
use Rattle.mb_tables.specs.Entries.{IsEntry}

pub loop-cell-preserved : goal.loop-cell-preserved
loop-cell-preserved c =
    let d = c.args.left.now.margins in
    let left = c.args.left.now.list in
    let right = c.args.right.now.list in
    let done = c.loop-cell.entries.items in
    let z = c.difference.result in
    let fits : SFits w32 z = search rules in
    let e : c.push.new.self.items ≡ done ++ (z ∷ []) =
    c.in_ok-push.ensures.items ∙ ap (λ x. done ++ (x ∷ [])) (to_z-of_z w32 z fits) in
    let long = c.loop-cell.invariant.long in
    let cells = c.cells-cells.ensures.cells in
    let one = c.requires.symbols in
    let more = c.loop-cell-test.true in
    record {
      so_far =
          difference-more left right (d + c.loop-cell.cell) (d + (c.loop-cell.cell + 1)) z done
          c.push.new.self.items (difference (drop d left) (drop d right))
          (omega arith) (omega arith)
          (omega arith) c.difference.ensures.entry e c.loop-cell.invariant.so_far;
      long = (let f = ap length e in let g = length-append done (z ∷ []) in omega arith);
      each = subst (All IsEntry) (sym e)
          (All-push IsEntry done z c.loop-cell.invariant.each c.difference.ensures.sound);
    }

pub returns-clause-entries : goal.returns-clause-entries
returns-clause-entries c =
    let d = c.args.left.now.margins in
    let left = c.args.left.now.list in
    let right = c.args.right.now.list in
    let cells = c.cells-cells.ensures.cells in
    let end = c.loop-cell-test.false in
    difference-all left right (d + c.loop-cell.cell) c.loop-cell.entries.items
    (difference (drop d left) (drop d right)) (omega arith) c.loop-cell.invariant.so_far
