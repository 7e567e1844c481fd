-- Why a completion run gives no rules.
use Rattle.std.specs.Prelude.{List, ℕ}
use Rattle.mb_completion.specs.Run.{Runs, TooHeavy, Unfinished}
use Rattle.mb_completion.specs.declared.fault.CompleteFault.TheVariants as fault
use Rattle.mb_completion.specs.declared.fault.CompleteFault.{CompleteFault}
use Rattle.mb_matrix.specs.Matrix.{Design}
use Rattle.mb_order.specs.Rewriting.{Rule}
use Rattle.mb_order.specs.declared.order.Order.{Order}

-- the run from these rules and looks ends so; want of memory may come in place of any end
abbrev pub Stops : Design → Order → ℕ → List Rule → ℕ → CompleteFault → Type 0
Stops matrix order budget rules looks (fault.Unfinished looked left) =
    Runs matrix order budget rules looks (Unfinished looked left.0 left.1)
Stops matrix order budget rules looks (fault.Exponent pair) =
    Runs matrix order budget rules looks (TooHeavy pair.0 pair.1)
Stops matrix order budget rules looks fault.OutOfMemory = Unit {0}
