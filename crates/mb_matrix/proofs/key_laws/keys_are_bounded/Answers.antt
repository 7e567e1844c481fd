use Rattle.std.proofs.Common.{arith}
use Rattle.mb_matrix.proofs.Digits.{number-most}
use Rattle.mb_matrix.proofs.Ranks.{rank-below}
use Rattle.mb_matrix.proofs.key_laws.keys_are_bounded.Goals as goal

pub returns : goal.returns
returns c digits u suits =
    let most = number-most digits u suits in (omega arith, omega arith, rank-below digits u suits)
