-- Tables on the way of a path.
use Rattle.std.specs.Prelude.{All, List, negsuc, pos, ℕ, ℤ, ◌<◌, ◌^◌}
use Rattle.mb_matrix.specs.Matrix.{Design, margins_of}
use Rattle.mb_tables.specs.declared.sign.Sign.TheVariants.{Minus, Plus}
use Rattle.mb_tables.specs.declared.sign.Sign.{Sign}

-- each margin fits 32 bits, so that each count of the fiber does
abbrev pub HasSmallMargins : Design → List ℕ → Type 0
HasSmallMargins matrix table = All (λ margin. margin < 2 ^ 32) (margins_of matrix table)

-- whether the move of a signed number is added or subtracted
abbrev pub sign_of : ℤ → Sign
sign_of (pos n) = Plus
sign_of (negsuc n) = Minus
