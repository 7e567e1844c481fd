use Rattle.std.proofs.Common.{not, rules, ◌∙◌, ◌≡◌}
use Rattle.std.specs.HashMap.{get_by_text}
use Rattle.std.specs.Option.{is_some}
use Rattle.mb_data.proofs.NamePlaces.{found_or_new}
use Rattle.mb_data.proofs.levels.Levels.is_new.Goals as goal

pub returns : goal.returns
returns c =
    let is : c.is_none.result ≡ not (is_some (get_by_text c.self.inside.places c.args.name.now)) =
    search rules in
    is ∙ rw c.self.view_is at (found_or_new _ _ c.args.name.now c.self.invariant)
