-- Looks one after the other, as a loop makes them.
use Rattle.std.proofs.Common.{Err, None, Ok, Option, Some, ap, subst, sym, ◌∙◌, ◌≡◌}
use Rattle.mb_outside.specs.Rows.{Rows}
use Rattle.mb_outside.specs.Told.{WhereTold}
use Rattle.mb_registry.specs.Faults.{Answer, fault_cause}
use Rattle.mb_registry.specs.declared.fault.RegistryFault.{RegistryFault}
use Rattle.mb_tables.specs.Answers.{Gives, IsRefused, ◌>>=◌}

-- no row has changed, and what is left decides what all does
abbrev pub IsLeft : {B : Type 0} → Option Rows → Option Rows → (Rows → Answer B) →
    (Rows → Answer B) → Type 0
IsLeft before now decide rest = WhereTold before now (λ b a. (a ≡ b) × (decide b ≡ rest b))

-- a look that goes on leaves what comes after it
pub one_looked : {A X B : Type 0} (before now after : Option Rows)
    (decide rest later : Rows → Answer B) (step : Rows → Answer A) (view : X → A) (x : X) →
    IsLeft before now decide rest →
    WhereTold now after (λ rows _. Gives fault_cause view (Ok x) (step rows)) →
    WhereTold now after (λ b a. a ≡ b) →
    ((rows : Rows) → step rows ≡ Ok (view x) → rest rows ≡ later rows) →
    IsLeft before after decide later
one_looked before now None decide rest later step view x left gives same next = tt
one_looked before None (Some after) decide rest later step view x left gives same next = absurd same
one_looked None (Some now) (Some after) decide rest later step view x left gives same next =
    absurd left
one_looked (Some before) (Some now) (Some after) decide rest later step view x left gives same
    next = (
      same ∙ left.0,
      left.1 ∙ next before (subst (λ rows. step rows ≡ Ok (view x)) left.0 gives),
    )

-- a refusal of a step is one of what goes on from it
pub refused_on : {A B : Type 0} (cause : Option RegistryFault) (step : Answer A)
    (next : A → Answer B) → IsRefused cause step → IsRefused cause (step >>= next)
refused_on None step next is = tt
refused_on (Some fault) step next is = ap (λ (r : Answer _). r >>= next) is

-- a look that is refused refuses all
pub look_refused : {A X Y B : Type 0} (before now after : Option Rows)
    (decide rest : Rows → Answer B) (step : Rows → Answer A) (view : X → A) (seen : Y → B)
    (fault : RegistryFault) → IsLeft before now decide rest →
    WhereTold now after (λ rows _. Gives fault_cause view (Err fault) (step rows)) →
    WhereTold now after (λ b a. a ≡ b) →
    ((rows : Rows) → IsRefused (fault_cause fault) (step rows) →
    IsRefused (fault_cause fault) (rest rows)) →
    WhereTold before after (λ rows _. Gives fault_cause seen (Err fault) (decide rows))
look_refused before now None decide rest step view seen fault left gives same next = tt
look_refused before None (Some after) decide rest step view seen fault left gives same next =
    absurd same
look_refused None (Some now) (Some after) decide rest step view seen fault left gives same next =
    absurd left
look_refused (Some before) (Some now) (Some after) decide rest step view seen fault left gives
    same next =
    subst (IsRefused (fault_cause fault)) (sym left.1)
    (next before (subst (λ rows. IsRefused (fault_cause fault) (step rows)) left.0 gives))

-- a look after one that changed nothing changes nothing
pub still_same : {B : Type 0} (before now after : Option Rows) (decide rest : Rows → Answer B) →
    IsLeft before now decide rest → WhereTold now after (λ b a. a ≡ b) →
    WhereTold before after (λ b a. a ≡ b)
still_same before now None decide rest left same = tt
still_same before None (Some after) decide rest left same = absurd same
still_same None (Some now) (Some after) decide rest left same = absurd left
still_same (Some before) (Some now) (Some after) decide rest left same = same ∙ left.0

-- at the end what is left is the answer
pub all_looked : {X B : Type 0} (before now : Option Rows) (decide rest : Rows → Answer B)
    (view : X → B) (x : X) → IsLeft before now decide rest →
    ((rows : Rows) → rest rows ≡ Ok (view x)) →
    WhereTold before now (λ rows _. Gives fault_cause view (Ok x) (decide rows))
all_looked before None decide rest view x left ends = tt
all_looked None (Some now) decide rest view x left ends = absurd left
all_looked (Some before) (Some now) decide rest view x left ends = left.1 ∙ ends before

-- no row has changed
pub none_changed : {B : Type 0} (before now : Option Rows) (decide rest : Rows → Answer B) →
    IsLeft before now decide rest → WhereTold before now (λ b a. a ≡ b)
none_changed before None decide rest left = tt
none_changed None (Some now) decide rest left = absurd left
none_changed (Some before) (Some now) decide rest left = left.0
