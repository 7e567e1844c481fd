-- Steps that read a text, one after the other.
use Rattle.std.proofs.Common.{Err, Ok, Result, ap, refl, ℕ, ◌∙◌, ◌≡◌}
use Rattle.mb_tables.specs.Answers.{◌>>=◌}
use Rattle.mb_text.specs.Faults.{or_line}

-- a step that goes on, and what comes then
pub step_on : {A B F : Type 0} (step : Result A F) (x : A) (next : A → Result B F)
    (z : Result B F) → step ≡ Ok x → next x ≡ z → (step >>= next) ≡ z
step_on step x next z e f = ap (λ (r : Result _ _). r >>= next) e ∙ f

-- where all goes on, a step did, and what comes then does
pub stepped : {A B F : Type 0} (step : Result A F) (next : A → Result B F) (z : B) →
    (step >>= next) ≡ Ok z → (x : A) × (step ≡ Ok x) × (next x ≡ Ok z)
stepped (Ok x) next z e = (x, refl, e)
stepped (Err fault) next z e = absurd cc

-- what is refused at a line goes on only where it is accepted
pub accepted_at : {A F : Type 0} (number : ℕ) (r : Result A F) (x : A) → or_line number r ≡ Ok x →
    r ≡ Ok x
accepted_at number (Ok y) x e = ap Ok cc
accepted_at number (Err fault) x e = absurd cc
