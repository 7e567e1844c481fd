use Rattle.mb_matrix.proofs.GroupLaws.{groups_part}
use Rattle.mb_matrix.proofs.measure_laws.groups_part_the_cells.Goals as goal

pub returns : goal.returns
returns c = groups_part
