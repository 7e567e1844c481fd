-- What a call answers, against what a definition says.
use Rattle.std.specs.Prelude.{Err, None, Ok, Option, Result, Some, ◌≡◌}

infixl 10 ◌>>=◌
-- the next step, where this one goes on; else the first fault stays
abbrev pub ◌>>=◌ : {A B F : Type 0} → Result A F → (A → Result B F) → Result B F
(Ok x) >>= next = next x
(Err fault) >>= next = Err fault

-- a refusal that has a cause is the one that the definition gives; one that has none (want of
-- memory, a fault of the outside) is free
abbrev pub IsRefused : {Y G : Type 0} → Option G → Result Y G → Type 0
IsRefused None says = Unit {0}
IsRefused (Some cause) says = says ≡ Err cause

-- the answer, seen by `view`, is what the definition says
abbrev pub Gives : {X Y F G : Type 0} → (F → Option G) → (X → Y) → Result X F → Result Y G →
    Type 0
Gives cause view (Ok x) says = says ≡ Ok (view x)
Gives cause view (Err fault) says = IsRefused (cause fault) says
