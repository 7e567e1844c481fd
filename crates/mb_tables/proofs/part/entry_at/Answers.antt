use Rattle.std.proofs.Common.{ap, arith, get_or, pos, rules, sym, ◌∙◌}
use Rattle.std.proofs.lemmas.Int.{to_z-of_z}
use mir.Syntax.{w32}
use mir.Val.{SFits}
use Rattle.mb_tables.proofs.PartLaws.{entries_of-part, no_part}
use Rattle.mb_tables.specs.declared.part.Part.{Part}
use Rattle.mb_tables.specs.loops.Parts.{entries_of}
use Rattle.mb_tables.proofs.part.entry_at.Goals as goal

pub returns-then-part-cell : goal.returns-then-part-cell
returns-then-part-cell c cells l within =
    let none : Part = record { cell = 0; entry = pos 0 } in
    let parts = c.args.parts.now in
    let f : SFits w32 (get_or parts c.loop-part.part-index none).entry = search rules in
    ap (λ k. get_or (entries_of cells parts) k (pos 0)) (sym c.if-part-cell.true)
    ∙ entries_of-part cells parts c.requires.apart within c.loop-part.part-index none (omega arith)
    ∙ sym (to_z-of_z w32 (get_or parts c.loop-part.part-index none).entry f)

pub returns : goal.returns
returns c cells l within =
    no_part cells c.args.cell c.args.parts.now
    (λ q d m. c.loop-part.invariant q d (omega arith))
