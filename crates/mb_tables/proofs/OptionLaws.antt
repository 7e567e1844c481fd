-- Laws of options: of two, and of one that is mapped.
use Rattle.std.proofs.Common.{None, Option, Some, ap, refl, ◌∙◌, ◌≡◌}
use Rattle.std.specs.Option.{option_or}
use Rattle.std.specs.Prelude.{option_map}

-- neither of two is something where the first of them that is something is nothing
pub or-none : {X : Type 0} (first second : Option X) → option_or first second ≡ None →
    (first ≡ None) × (second ≡ None)
or-none None second e = (refl, e)
or-none (Some x) second e = absurd cc

-- and the other way round
pub none-or : {X : Type 0} (first second : Option X) → first ≡ None → second ≡ None →
    option_or first second ≡ None
none-or first second e f = ap (λ x. option_or x second) e ∙ f

-- what is mapped to nothing is nothing
pub unmapped : {X Y : Type 0} (f : X → Y) (x : Option X) → option_map f x ≡ None → x ≡ None
unmapped f None e = refl
unmapped f (Some x) e = absurd cc
