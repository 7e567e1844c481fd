use Rattle.std.proofs.Common.{subst}
use Rattle.mb_tables.specs.Lists.{In}
use Rattle.mb_walk.proofs.owner.first_of.Goals as goal

pub insert-requires : goal.insert-requires
unfolding In
insert-requires c = record {
  new = λ i. subst (λ list. In c.in_ok-try_copy.field-0 list) c.new-visited.ensures i;
}
