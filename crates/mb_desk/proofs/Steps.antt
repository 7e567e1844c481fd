-- A step that stops the work stops the whole.
use Rattle.std.proofs.Common.{Err, None, Ok, Option, Result, Some, ap, false, subst, sym, ℕ, ◌≡◌}
use Rattle.mb_desk.proofs.Told.{after_same, weakened}
use Rattle.mb_desk.specs.Decision.{Decided, DoesRows, Follows, blames}
use Rattle.mb_desk.specs.declared.plans.Stop.{Stop}
use Rattle.mb_desk.specs.declared.plans.Stop.TheVariants.{Memory, Outside, Refused}
use Rattle.mb_outside.specs.Causes.{HasCause}
use Rattle.mb_outside.specs.Rows.{Rows}
use Rattle.mb_outside.specs.Told.{WhereTold}
use Rattle.mb_tables.specs.Answers.{◌>>=◌}

-- what stops a step is what stops it with the steps after it
pub follows_on : {A B : Type 0} (stop : Stop) (decided : Decided A) (next : A → Decided B) →
    Follows {A = A} (Err stop) decided → Follows {A = B} (Err stop) (decided >>= next)
follows_on Memory decided next follows = tt
follows_on Outside decided next follows = tt
follows_on (Refused refusal) decided next follows = ap (λ d. d >>= next) follows

-- the same of a step over the rows
pub stops_rows : {A B : Type 0} (before after : Option Rows) (n m : ℕ) (stop : Stop)
    (decide : Rows → Decided A) (next : Rows → A → Decided B) →
    DoesRows {A = A} before after n m (Err stop) decide →
    DoesRows {A = B} before after n m (Err stop) (λ rows. decide rows >>= next rows)
stops_rows before after n m stop decide next does = record {
  decided = weakened _ _ before after
      (λ rows _ follows. follows_on stop (decide rows) (next rows) follows) does.decided;
  same = does.same;
  cause = does.cause;
}

-- what is decided after a step that went on
decided_after : {A B : Type 0} (before between after : Option Rows) (x : A) (answer : Result B Stop)
    (decide : Rows → Decided A) (next : A → Rows → Decided B) →
    WhereTold before between (λ rows _. Follows {A = A} (Ok x) (decide rows)) →
    WhereTold before between (λ b a. a ≡ b) →
    WhereTold between after (λ rows _. Follows answer (next x rows)) →
    WhereTold before after (λ rows _. Follows answer (decide rows >>= λ y. next y rows))
decided_after before between None x answer decide next first same second = tt
decided_after before None (Some a) x answer decide next first same second = absurd second
decided_after None (Some m) (Some a) x answer decide next first same second = absurd first
decided_after (Some b) (Some m) (Some a) x answer decide next first same second =
    subst (λ d. Follows answer (d >>= λ y. next y b)) (sym first)
    (subst (λ rows. Follows answer (next x rows)) same second)

-- a step over the rows after one that went on
pub goes_rows : {A B : Type 0} (before between after : Option Rows) (n m k : ℕ) (x : A)
    (answer : Result B Stop) (decide : Rows → Decided A) (next : A → Rows → Decided B) →
    DoesRows {A = A} before between n m (Ok x) decide → DoesRows between after m k answer (next x) →
    DoesRows before after n k answer (λ rows. decide rows >>= λ y. next y rows)
goes_rows before between after n m k x answer decide next first second = record {
  decided = decided_after before between after x answer decide next first.decided first.same
      second.decided;
  same = after_same (λ b a. a ≡ b) before between after first.same second.same;
  cause = subst (λ count. HasCause count k (blames answer)) first.cause.counted second.cause;
}

-- a step that only computes, after one over the rows that went on
pub then_rows : {A B : Type 0} (before after : Option Rows) (n m : ℕ) (x : A)
    (answer : Result B Stop) (decide : Rows → Decided A) (next : A → Decided B) →
    DoesRows {A = A} before after n m (Ok x) decide → Follows answer (next x) →
    blames answer ≡ false → DoesRows before after n m answer (λ rows. decide rows >>= next)
then_rows before after n m x answer decide next first follows own = record {
  decided = weakened _ _ before after
      (λ rows _ went. subst (λ d. Follows answer (d >>= next)) (sym went) follows) first.decided;
  same = first.same;
  cause = subst (λ blamed. HasCause n m blamed) (sym own) first.cause;
}
