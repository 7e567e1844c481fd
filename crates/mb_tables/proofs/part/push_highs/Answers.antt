use Rattle.std.proofs.Common.{Global, Vec, ap, arith, get_or, pos, rules, ◌∙◌}
use Rattle.std.proofs.lemmas.Int.{to_z-of_z}
use mir.Syntax.{w32}
use mir.Val.{SFits}
use Rattle.mb_tables.proofs.PickedParts.{picked-end, picked-no, picked-yes}
use Rattle.mb_tables.specs.declared.part.Part.{Part}
use Rattle.mb_tables.specs.loops.Parts.{is_high}
use Rattle.mb_tables.proofs.part.push_highs.Goals as goal
use Rattle.mb_tables.proofs.part.push_highs.Goals.{then-entry-gt0+in_ok-push, else-entry-gt0}

pub loop-cell-preserved : goal.loop-cell-preserved
loop-cell-preserved c =
    let f : SFits w32 (get_or c.args.entries.now c.loop-cell.cell (pos 0)) = search rules in
    elim c.if-entry-gt0.branch [
      | then-entry-gt0+in_ok-push w ↦
          picked-yes is_high c.loop-cell.cell c.args.entries.now (pos 0) c.loop-cell.parts.items
          c.if-entry-gt0.parts.items _ (omega arith) (simp to_z-of_z at w.if-entry-gt0.true)
          (ap (λ (v : Vec Part Global). v.items) w.parts-is
          ∙ (simp to_z-of_z at w.in_ok-push.ensures.items))
          c.loop-cell.invariant
      | else-entry-gt0 w ↦
          rw w.parts-is
          (picked-no is_high c.loop-cell.cell c.args.entries.now (pos 0) c.loop-cell.parts.items
          _ (omega arith) (simp to_z-of_z at w.if-entry-gt0.false) c.loop-cell.invariant)
    ]

pub returns : goal.returns
returns c =
    picked-end is_high c.loop-cell.cell c.args.entries.now c.loop-cell.parts.items _ (omega arith)
    c.loop-cell.invariant
