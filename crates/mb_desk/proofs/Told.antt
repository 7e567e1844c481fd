-- Facts of what is told.
use Rattle.std.proofs.Common.{None, Option, Some, subst, ◌≡◌}
use Rattle.mb_outside.specs.Told.{WhereTold}

-- a fact of what is told that follows from another
pub weakened : {A : Type 0} (First Second : A → A → Type 0) (before after : Option A) →
    ((b a : A) → First b a → Second b a) → WhereTold before after First →
    WhereTold before after Second
weakened First Second before None so fact = tt
weakened First Second None (Some after) so fact = absurd fact
weakened First Second (Some before) (Some after) so fact = so before after fact

-- a fact of a call after one that changed nothing
pub after_same : {A : Type 0} (Fact : A → A → Type 0) (before between after : Option A) →
    WhereTold before between (λ b a. a ≡ b) → WhereTold between after Fact →
    WhereTold before after Fact
after_same Fact before between None same fact = tt
after_same Fact before None (Some after) same fact = absurd fact
after_same Fact None (Some between) (Some after) same fact = absurd same
after_same Fact (Some before) (Some between) (Some after) same fact =
    subst (λ b. Fact b after) same fact

-- a fact of whatever is told, where nothing changes
pub told_by : {A : Type 0} (Fact : A → A → Type 0) (told : Option A) → ((x : A) → Fact x x) →
    WhereTold told told Fact
told_by Fact None fact = tt
told_by Fact (Some x) fact = fact x

-- a fact of what was told before a call that changes nothing
pub before_same : {A : Type 0} (Fact : A → Type 0) (before between after : Option A) →
    WhereTold before between (λ b _. Fact b) → WhereTold between after (λ b a. a ≡ b) →
    WhereTold before after (λ b _. Fact b)
before_same Fact before between None fact same = tt
before_same Fact before None (Some after) fact same = absurd same
before_same Fact None (Some between) (Some after) fact same = absurd fact
before_same Fact (Some before) (Some between) (Some after) fact same = fact

-- two facts of what is told
pub both_told : {A : Type 0} (First Second : A → A → Type 0) (before after : Option A) →
    WhereTold before after First → WhereTold before after Second →
    WhereTold before after (λ b a. First b a × Second b a)
both_told First Second before None first second = tt
both_told First Second None (Some after) first second = absurd first
both_told First Second (Some before) (Some after) first second = (first, second)
