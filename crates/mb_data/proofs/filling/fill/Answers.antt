use Rattle.std.proofs.Common.{[], length, rules, ◌+◌, ◌++◌, ◌<◌, ◌∙◌, ◌∷◌, ◌≡◌, ◌≤◌}
use Rattle.std.specs.Option.{unwrap_or}
use Rattle.mb_data.specs.CrossTable.{combinations, counts, sizes}
use Rattle.mb_data.specs.Rows.{entry_at}
use Rattle.mb_data.specs.declared.entry.Entry.TheVariants.{Count}
use Rattle.mb_data.specs.loops.Keys.{key_of}
use Rattle.mb_data.proofs.FillSteps.{entry_fits, entry_is, names_at, one_more, too_many}
use Rattle.mb_data.proofs.filling.fill.Goals as goal

pub add-requires : goal.add-requires
add-requires c =
    let levels = c.args.levels.now in
    let n = c.loop-number.number in
    let so_far = c.requires.rows in
    let key : c.make_key.new.key.items ≡ key_of (names_at levels n) = search rules in
    let entry : c.entry_or_none.result ≡ unwrap_or
    (entry_at c.args.rows.now c.make_key.new.key.items) (Count 0) = search rules in
    let is = entry_is _ so_far.0 levels (entry_at c.args.rows.now) c.args.total n
    c.make_key.new.key.items c.entry_or_none.result so_far.1 key entry in
    let below : n < combinations (sizes levels) = search rules in
    entry_fits _ so_far.0 levels (entry_at c.args.rows.now) c.args.total n
    c.loop-number.filled.total c.loop-number.filled.entries.items c.entry_or_none.result so_far.1
    c.requires.small below (c.loop-number.invariant so_far.0 so_far.1)
    c.loop-number.filled.is.total_is is

pub returns-then-not-branch : goal.returns-then-not-branch
returns-then-not-branch c = λ rows gathers.
    let levels = c.args.levels.now in
    let n = c.loop-number.number in
    let key : c.make_key.new.key.items ≡ key_of (names_at levels n) = search rules in
    let entry : c.entry_or_none.result ≡ unwrap_or
    (entry_at c.args.rows.now c.make_key.new.key.items) (Count 0) = search rules in
    let is = entry_is _ rows levels (entry_at c.args.rows.now) c.args.total n
    c.make_key.new.key.items c.entry_or_none.result gathers key entry in
    let below : n + 1 ≤ combinations (sizes levels) = search rules in
    let many : 64 < length (counts (c.loop-number.filled.entries.items ++ c.entry_or_none.result
    ∷ [])) = search rules in
    too_many rows levels (n + 1) (c.loop-number.filled.entries.items ++ c.entry_or_none.result ∷ [])
    below
    (one_more rows levels n c.loop-number.filled.entries.items c.entry_or_none.result
    (c.loop-number.invariant rows gathers) is) many

pub loop-number-preserved : goal.loop-number-preserved
loop-number-preserved c = λ rows gathers.
    let levels = c.args.levels.now in
    let n = c.loop-number.number in
    let key : c.make_key.new.key.items ≡ key_of (names_at levels n) = search rules in
    let entry : c.entry_or_none.result ≡ unwrap_or
    (entry_at c.args.rows.now c.make_key.new.key.items) (Count 0) = search rules in
    let is = entry_is _ rows levels (entry_at c.args.rows.now) c.args.total n
    c.make_key.new.key.items c.entry_or_none.result gathers key entry in
    let pushed : c.add.new.self.entries.items ≡ c.loop-number.filled.entries.items
    ++ c.entry_or_none.result ∷ [] = search rules in
    pushed
    ∙ one_more rows levels n c.loop-number.filled.entries.items c.entry_or_none.result
    (c.loop-number.invariant rows gathers) is
