use Rattle.std.proofs.Common.{Global, Vec, ap, arith, get_or, pos, rules, ◌∙◌}
use Rattle.std.proofs.lemmas.Int.{to_z-of_z}
use mir.Syntax.{w32}
use mir.Val.{SFits}
use Rattle.mb_tables.proofs.PickedParts.{picked-end, picked-no, picked-yes}
use Rattle.mb_tables.specs.declared.part.Part.{Part}
use Rattle.mb_tables.specs.loops.Parts.{is_low}
use Rattle.mb_tables.proofs.part.push_lows.Goals as goal
use Rattle.mb_tables.proofs.part.push_lows.Goals.{then-entry-lt0+in_ok-push, else-entry-lt0}

pub loop-cell-preserved : goal.loop-cell-preserved
loop-cell-preserved c =
    let f : SFits w32 (get_or c.args.entries.now c.loop-cell.cell (pos 0)) = search rules in
    elim c.if-entry-lt0.branch [
      | then-entry-lt0+in_ok-push w ↦
          picked-yes is_low c.loop-cell.cell c.args.entries.now (pos 0) c.loop-cell.parts.items
          c.if-entry-lt0.parts.items _ (omega arith) (simp to_z-of_z at w.if-entry-lt0.true)
          (ap (λ (v : Vec Part Global). v.items) w.parts-is
          ∙ (simp to_z-of_z at w.in_ok-push.ensures.items))
          c.loop-cell.invariant
      | else-entry-lt0 w ↦
          rw w.parts-is
          (picked-no is_low c.loop-cell.cell c.args.entries.now (pos 0) c.loop-cell.parts.items
          _ (omega arith) (simp to_z-of_z at w.if-entry-lt0.false) c.loop-cell.invariant)
    ]

pub returns : goal.returns
returns c =
    picked-end is_low c.loop-cell.cell c.args.entries.now c.loop-cell.parts.items _ (omega arith)
    c.loop-cell.invariant
