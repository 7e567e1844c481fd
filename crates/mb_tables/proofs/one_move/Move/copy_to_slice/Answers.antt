use Rattle.std.proofs.Common.{arith, length, pos, ◌∙◌, ◌≡◌}
use Rattle.mb_tables.proofs.ListLaws.{same_at}
use Rattle.mb_tables.proofs.one_move.Move.copy_to_slice.Goals as goal

pub returns : goal.returns
returns c =
    let long : length c.loop-cell.entries ≡ length c.args.entries.now = c.loop-cell.auto.entries in
    same_at (pos 0) c.loop-cell.entries c.args.self.now (long ∙ c.requires)
    (λ k l. c.loop-cell.invariant k (omega arith))
