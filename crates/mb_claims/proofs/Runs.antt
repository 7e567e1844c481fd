-- Each step of a run keeps the rule, and what follows for keys.
use Rattle.std.proofs.Common.{List, arith, refl, set, subst, suc, sum, sym, zero, ℕ, ◌∙◌, ◌≡◌, ◌≢◌, ◌≤◌, ⊎_elim}
use Rattle.std.proofs.lemmas.Bool.{cases_eq}
use Rattle.std.specs.List.{sum_by}
use Rattle.atomic_table.proofs.Lists.{set_else}
use Rattle.mb_claims.proofs.Occurrences.{In-occurs}
use Rattle.mb_claims.proofs.SeatSums.{at_le_sum, sum_by-put}
use Rattle.mb_claims.proofs.NewWords.{new-kept}
use Rattle.mb_claims.proofs.RootKnows.{stored_once}
use Rattle.mb_claims.proofs.Gathering.{gather-kept}
use Rattle.mb_claims.proofs.Splitting.{split-kept}
use Rattle.mb_claims.proofs.WordSteps.{met-kept, no_word_holds, won-kept}
use Rattle.mb_claims.specs.ClaimRule.{IsClaimed, Knows}
use Rattle.mb_claims.specs.ClaimStep.{gathers}
use Rattle.mb_claims.specs.Lists.{occurrences}
use Rattle.mb_claims.specs.Probe.{Holds}
use Rattle.mb_claims.specs.Run.{IsRun, IsStep, IsWon, State, gathers_one, meets, splits, wins}
use Rattle.mb_claims.specs.View.{keys_of}
use Rattle.mb_claims.specs.declared.views.View.{View}
use Rattle.mb_claims.specs.declared.views.View.TheVariants.{OfRoot, Spent}
use Rattle.mb_tables.specs.Lists.{In}

-- a state that meets the rule
IsRuled : List ℕ → State → Type 0
IsRuled sizes state = IsClaimed sizes state.words state.views

-- each step keeps the rule
step-kept : (sizes : List ℕ) (before after : State) → IsRuled sizes before →
    IsStep sizes before after → IsRuled sizes after
unfolding IsRuled
step-kept sizes before after rule (splits h) =
    subst (λ s. IsClaimed sizes s.words s.views) (sym h.is)
    (split-kept sizes before.words before.views rule h.seat h.root h.knows)
step-kept sizes before after rule (wins key h) =
    subst (λ s. IsClaimed sizes s.words s.views) (sym h.is)
    (won-kept sizes before.words before.views rule h.seat h.pass h.knows key h.place h.next
    h.empty)
step-kept sizes before after rule (meets h) =
    subst (λ s. IsClaimed sizes s.words s.views) (sym h.is)
    (met-kept sizes before.words before.views rule h.seat h.pass h.knows h.place h.within h.full)
step-kept sizes before after rule (gathers_one h) =
    subst (λ s. IsClaimed sizes s.words s.views) (sym h.is)
    (gather-kept sizes before.words before.views rule h.seat h.root h.root_knows h.other h.pass
    h.apart (set_else before.views h.seat h.other (OfRoot (gathers h.root h.pass)) h.apart
    ∙ h.pass_knows))

-- so does each run
pub run-kept : (sizes : List ℕ) (n : ℕ) (state : State) → IsRun sizes n state →
    IsClaimed sizes state.words state.views
unfolding IsRuled
run-kept sizes zero state h =
    subst (λ s. IsClaimed sizes s.words s.views) (sym h) (new-kept sizes (sum sizes) refl)
run-kept sizes (suc n) state h = step-kept sizes h.0 state (run-kept sizes n h.0 h.1) h.2

-- no word holds a key before the step that wins it
pub won_is_new : (sizes : List ℕ) (n key : ℕ) (before after : State) → IsRun sizes n before →
    IsWon sizes key before after → (place : ℕ) → Holds before.words place key → ⊥
won_is_new sizes n key before after run h place holds =
    no_word_holds sizes before.words before.views (run-kept sizes n before run) h.seat h.pass
    h.knows key h.place h.next h.empty place holds

-- two seats can't both answer for a key, which is stored once at most
pub won_once : (sizes : List ℕ) (n : ℕ) (state : State) → IsRun sizes n state →
    (key one other : ℕ) (view second : View) →
    Knows state.views one view → Knows state.views other second →
    In key (keys_of view) → In key (keys_of second) → one ≡ other
won_once sizes n state run key one other view second h k i j = ⊎_elim
    (λ e. e)
    (λ ne.
    let rule = run-kept sizes n state run in
    let pos : key ≢ 0 = λ e.
    rule.counted.keys one view h (subst (λ m. In m (keys_of view)) e i) in
    let f : View → ℕ = λ v. occurrences key (keys_of v) in
    let put = sum_by-put f state.views one view Spent h in
    let rest = at_le_sum f (set state.views one Spent) other second
    (set_else state.views one other Spent (λ e. ne (sym e)) ∙ k) in
    let few = stored_once state.words rule.once key pos in
    let all : sum_by f state.views ≡ occurrences key state.words = rule.counted.often key pos in
    let a : 1 ≤ f view = In-occurs key (keys_of view) i in
    let b : 1 ≤ f second = In-occurs key (keys_of second) j in
    let none : f Spent ≡ 0 = refl in absurd (omega arith))
    (cases_eq one other)
