use Rattle.std.proofs.Common.{None, rules, ◌≡◌}
use Rattle.mb_data.specs.Rows.{entry_at}
use Rattle.mb_data.proofs.PlacesInMaps.{updated_places}
use Rattle.mb_data.proofs.rows.Rows.put.Goals as goal

pub returns-in-None : goal.returns-in-None
returns-in-None c =
    let new : entry_at c.args.self.now c.args.key.items ≡ None = search rules in (
      new,
      λ others.
          updated_places c.args.key.items others c.args.self.now.entries c.insert.new.self _
          c.in_ok-insert.ensures.updates,
    )
