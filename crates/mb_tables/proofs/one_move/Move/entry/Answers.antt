use Rattle.std.proofs.Common.{Some, ap, get_or, pos, rules, sym, ◌∙◌}
use Rattle.std.proofs.lemmas.Int.{to_z-of_z}
use Rattle.std.proofs.lemmas.Option.{slice_get-get_or}
use mir.Syntax.{w32}
use mir.Val.{SFits}
use Rattle.mb_tables.proofs.PartLaws.{parts-seen, within-seen}
use Rattle.mb_tables.proofs.one_move.Move.entry.Goals as goal

pub returns : goal.returns
returns c =
    let f : SFits w32 c.entry_at.result = search rules in
    slice_get-get_or c.args.self.now c.args.cell (pos 0) c.requires
    ∙ ap Some
    (ap (λ list. get_or list c.args.cell (pos 0))
    (parts-seen c.self.inside.cells c.self.inside.parts.items c.as_slice.result.now
    c.args.self.now c.self.view_is c.as_slice.ensures.value)
    ∙ c.entry_at.ensures _ c.requires
    (within-seen c.self.inside.cells c.self.inside.parts.items c.as_slice.result.now
    c.args.self.now c.self.view_is c.as_slice.ensures.value c.self.invariant.within)
    ∙ sym (to_z-of_z w32 c.entry_at.result f))
