use Rattle.std.proofs.Common.{arith, get_or, length, pos, rules, ◌<◌, ◌^◌, ◌∙◌, ◌≡◌}
use Rattle.std.proofs.lemmas.Int.{to_z-of_z}
use Rattle.std.proofs.lemmas.List.Elements.{All-set}
use mir.Syntax.{w32}
use mir.Val.{SFits}
use Rattle.mb_tables.proofs.PartSteps.{all_taken, can_move_later, part_taken}
use Rattle.mb_tables.specs.declared.part.Part.{Part}
use Rattle.mb_tables.proofs.steps.move_counts.Goals as goal

pub loop-part-preserved : goal.loop-part-preserved
loop-part-preserved c =
    let none : Part = record { cell = 0; entry = pos 0 } in
    let f : SFits w32 (get_or c.args.parts.now c.loop-part.part-index none).entry = search rules in
    let long : length c.loop-part.counts ≡ length c.args.counts.now = c.loop-part.auto.counts in
    record {
      fits = All-set (λ count. count < 2 ^ 32) c.loop-part.counts
          (get_or c.args.parts.now c.loop-part.part-index none).cell c.moved_count.result
          (omega arith) c.loop-part.invariant.fits;
      can = can_move_later c.args.sign c.loop-part.part-index c.moved_count.result
          c.loop-part.counts c.args.parts.now none c.requires.apart c.loop-part.invariant.can;
      each = λ k l.
          part_taken c.args.sign (length c.args.counts.now) c.loop-part.part-index k
          c.moved_count.result c.loop-part.counts c.args.parts.now none (omega arith) long
          (c.requires.cells c.loop-part.part-index none (omega arith))
          (simp to_z-of_z at c.moved_count.ensures)
          ∙ c.loop-part.invariant.each k l;
    }

pub returns-clause-moved : goal.returns-clause-moved
returns-clause-moved c k l =
    all_taken c.args.sign (length c.args.counts.now) c.loop-part.part-index k _ _ _
    c.args.parts.now (omega arith) (c.loop-part.invariant.each k l)
