use Rattle.mb_tables.proofs.JoinedTables.{chain_swap, chain_then, joined_itself}
use Rattle.mb_tables.proofs.laws.joining_is_an_equivalence.Goals as goal

pub returns : goal.returns
returns c = record {
  itself = joined_itself;
  back = λ moves u v h. chain_swap moves u h.0 v h.1;
  on = λ moves u v w h k. chain_then moves u h.0 v w h.1 k;
}
