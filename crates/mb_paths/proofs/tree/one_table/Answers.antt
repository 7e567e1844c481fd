use Rattle.std.proofs.Common.{subst}
use Rattle.mb_paths.proofs.tree.one_table.Goals as goal
use Rattle.mb_tables.specs.Lists.{In}

pub insert-requires : goal.insert-requires
unfolding In
insert-requires c = record {
  new =
      λ i. subst (λ list. In c.in_ok-try_copy.field-0 list) c.new-visited.ensures i;
}
