-- The way back of a step.
use Rattle.mb_tables.specs.declared.sign.Sign.{Sign}
use Rattle.mb_tables.specs.declared.sign.Sign.TheVariants.{Minus, Plus}

-- the sign that undoes a step
abbrev pub turned : Sign → Sign
turned Plus = Minus
turned Minus = Plus
