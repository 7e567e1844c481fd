use Rattle.std.proofs.Common.{false, map, rules, ◌==◌, ◌≡◌}
use Rattle.std.specs.String.{string_bytes}
use Rattle.mb_data.specs.DatasetText.{entries_of}
use Rattle.mb_data.specs.Rows.{entry_at}
use Rattle.mb_data.proofs.Finishing.{is_dataset}
use Rattle.mb_data.proofs.reading.finish.Goals as goal

pub of-requires : goal.of-requires
of-requires c =
    let rows = c.requires.rows in
    let factors : map string_bytes c.into_factors.result.items
    ≡ c.args.header.factors = search rules in
    let levels : c.into_levels.result.items ≡ c.args.gathered.levels.items = search rules in
    let filled : c.in_ok-filled.filled.entries.items
    ≡ entries_of rows.0 c.args.gathered.levels.items = search rules in
    let some : (c.in_ok-filled.filled.cells == 0) ≡ false = search rules in
    rw (factors, levels)
    (is_dataset c.args.header.factors rows.0 c.args.gathered.levels.items
    (entry_at c.args.gathered.rows) c.args.gathered.total c.in_ok-filled.filled.cells
    c.in_ok-filled.filled.total c.in_ok-filled.filled.entries.items c.requires.header rows.1 filled
    c.in_ok-filled.filled.is some)
