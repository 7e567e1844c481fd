-- A look at a pair, as the code makes it.
use Rattle.std.specs.Prelude.{List, ℕ, ◌++◌, ◌≡◌}
use Rattle.std.specs.declared.cmp.Ordering.{Ordering}
use Rattle.mb_completion.specs.Run.{Adds, IsLook}
use Rattle.mb_completion.specs.declared.fault.CompleteFault.TheVariants as fault
use Rattle.mb_completion.specs.declared.fault.CompleteFault.{CompleteFault}
use Rattle.mb_matrix.specs.Matrix.{Design}
use Rattle.mb_order.specs.Monomial.{Monomial}
use Rattle.mb_order.specs.Peak.{left_of, sides_of}
use Rattle.mb_order.specs.Rewriting.{Rule}
use Rattle.mb_order.specs.Weight.{IsLight}
use Rattle.mb_order.specs.declared.order.Order.{Order}
use Rattle.mb_tables.specs.Vectors.{greater}

-- the rules after two normal forms are those before and what these add
abbrev pub IsBorn :
    (Monomial → Monomial → Ordering) → Monomial → Monomial → List Rule → List Rule → Type 0
IsBorn compare p q old new = (more : List Rule) × Adds compare p q more × (new ≡ old ++ more)

-- the rules after a look at a pair
abbrev pub HasLooked : Design → Order → ℕ → ℕ → List Rule → List Rule → Type 0
HasLooked matrix order i j old new =
    (more : List Rule) × IsLook matrix order old (sides_of old i) (sides_of old j) more
    × (new ≡ old ++ more)

-- a look at a pair fails so: its peak is too heavy, or for want of memory
abbrev pub IsHeavyPair : Design → List Rule → ℕ → ℕ → CompleteFault → Type 0
IsHeavyPair matrix rules i j (fault.Unfinished looked left) = ⊥
IsHeavyPair matrix rules i j (fault.Exponent pair) =
    (pair.0 ≡ i) × (pair.1 ≡ j)
    × (IsLight matrix (greater (left_of rules i) (left_of rules j)) → ⊥)
IsHeavyPair matrix rules i j fault.OutOfMemory = Unit {0}
