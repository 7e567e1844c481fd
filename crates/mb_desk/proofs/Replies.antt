-- What is put of how the work ended.
use Rattle.std.proofs.Common.{Bool, Err, IfOk, IfSome, List, Ok, Option, Result, Some, ap, arith, false, inl, inr, refl, subst, sym, true, ℕ, ◌∙◌, ◌≡◌, ◌≤◌, ◌⊎◌}
use Rattle.mb_desk.proofs.Told.{weakened}
use Rattle.mb_desk.proofs.Works.{none_left}
use Rattle.mb_desk.specs.Changes.{changed}
use Rattle.mb_desk.specs.Completes.{Completes}
use Rattle.mb_desk.specs.Decision.{Decided, HaveCause, InWorld, Scene, blames}
use Rattle.mb_desk.specs.Ends.{EachLeft, Ended, Ends, Stays}
use Rattle.mb_desk.specs.Needs.{Needs}
use Rattle.mb_desk.specs.Refusals.{status_of}
use Rattle.mb_desk.specs.Reply.{EndsAndPuts, MayReply, Puts, Reply, reply_to}
use Rattle.mb_desk.specs.World.{World, world_of}
use Rattle.mb_desk.specs.declared.plans.Plan.{Plan}
use Rattle.mb_desk.specs.declared.plans.Stop.{Stop}
use Rattle.mb_desk.specs.declared.plans.Stop.TheVariants.{Memory, Outside, Refused}
use Rattle.mb_desk.specs.declared.refusals.Refusal.{Refusal}
use Rattle.mb_desk.specs.declared.refusals.Refusal.TheVariants as refusals
use Rattle.mb_desk.specs.declared.status.Status.{Status}
use Rattle.mb_desk.specs.declared.status.Status.TheVariants as statuses
use Rattle.mb_outside.specs.Causes.{Rose}
use Rattle.mb_outside.specs.Files.{Held}
use Rattle.mb_outside.specs.Rows.{Rows}
use Rattle.mb_outside.specs.Sink.{Grows}
use Rattle.mb_outside.specs.Told.{WhereTold}

-- the work that a refusal ends may be said to end for want of memory: all is as it was
said_memory : (before after : Scene) (decide : World → Decided Plan) (refusal : Refusal) →
    Ends before after decide (Err (Refused refusal)) → Ends before after decide (Err Memory)
said_memory before after decide refusal ends = record {
  left = weakened _ _ (world_of before.files before.rows) (world_of after.files after.rows)
      (λ w v left. left.1) ends.left;
  cause = ends.cause;
}

-- what is put is the reply to an end that the work may have
pub replied : (before after : Scene) (decide : World → Decided Plan)
    (taken_before taken_after : Option (List ℕ)) (failed_before failed_after : ℕ) (ended : Ended)
    (reply : Reply) (status : Status) → Ends before after decide ended → MayReply ended reply →
    Puts taken_before taken_after failed_before failed_after reply status →
    EndsAndPuts before after decide taken_before taken_after failed_before failed_after status
replied before after decide tb ta fb fa ended reply status ends (inl own) puts =
    (ended, ends, subst (λ r. Puts tb ta fb fa r status) own puts)
replied before after decide tb ta fb fa (Err (Refused refusal)) reply status ends (inr memory)
    puts = (
      Err Memory,
      said_memory before after decide refusal ends,
      subst (λ r. Puts tb ta fb fa r status) memory.1 puts,
    )
replied before after decide tb ta fb fa (Err Memory) reply status ends (inr memory) puts =
    absurd memory.0
replied before after decide tb ta fb fa (Err Outside) reply status ends (inr memory) puts =
    absurd memory.0
replied before after decide tb ta fb fa (Ok answer) reply status ends (inr memory) puts =
    absurd memory.0

-- a refusal ends in one of three statuses
three_statuses : (refusal : Refusal) →
    (status_of refusal ≡ statuses.Refused)
    ⊎ ((status_of refusal ≡ statuses.Limit) ⊎ (status_of refusal ≡ statuses.Registry))
three_statuses (refusals.NoFile file) = inl refl
three_statuses (refusals.TooLong file) = inr (inl refl)
three_statuses (refusals.NoSize file) = inl refl
three_statuses (refusals.BadNumber file token) = inl refl
three_statuses (refusals.TooWideNumber file token) = inl refl
three_statuses (refusals.TooFew file found wanted) = inl refl
three_statuses (refusals.TooMany file wanted) = inl refl
three_statuses (refusals.NotATable file) = inl refl
three_statuses (refusals.Csv file place) = inl refl
three_statuses (refusals.NoCountColumn file) = inl refl
three_statuses (refusals.NoFactor file) = inl refl
three_statuses (refusals.BadCount file place) = inl refl
three_statuses (refusals.Repeated file place) = inl refl
three_statuses (refusals.TooManyCombinations file) = inl refl
three_statuses (refusals.TotalTooLarge file) = inl refl
three_statuses (refusals.NoCell file) = inl refl
three_statuses (refusals.Toml file) = inl refl
three_statuses refusals.UnknownKind = inl refl
three_statuses (refusals.MissingKey key) = inl refl
three_statuses refusals.UnknownFactor = inl refl
three_statuses refusals.EmptyGenerators = inl refl
three_statuses refusals.NotTwoFactors = inl refl
three_statuses refusals.NotBinary = inl refl
three_statuses (refusals.CellCount matrix cells) = inl refl
three_statuses (refusals.BadScaleRow row) = inl refl
three_statuses (refusals.ScaleNotCover cell) = inl refl
three_statuses (refusals.BadBase cell) = inl refl
three_statuses (refusals.NotBasis rule left right) = inl refl
three_statuses (refusals.Text file line) = inl refl
three_statuses (refusals.Certificate line reason) = inl refl
three_statuses (refusals.WidthDiffers matrix moves) = inl refl
three_statuses (refusals.NotAMove row) = inl refl
three_statuses refusals.TooManyCells = inl refl
three_statuses refusals.TooManyMargins = inl refl
three_statuses (refusals.Negative row cell) = inl refl
three_statuses (refusals.EntryTooLarge row cell) = inl refl
three_statuses (refusals.ZeroColumn cell) = inl refl
three_statuses (refusals.TooLarge seen) = inr (inl refl)
three_statuses (refusals.TooLargeRule rule seen) = inr (inl refl)
three_statuses refusals.TooWide = inr (inl refl)
three_statuses (refusals.Unfinished looked left) = inr (inl refl)
three_statuses (refusals.Exponent pair) = inr (inl refl)
three_statuses (refusals.Unknown kind name) = inr (inr refl)
three_statuses (refusals.Conflict kind name) = inr (inr refl)
three_statuses (refusals.InUse kind name by) = inr (inr refl)
three_statuses (refusals.BadRecord kind name) = inr (inr refl)

-- and in no other
never : (refusal : Refusal) (status : Status) → (statuses.Refused ≡ status → ⊥) →
    (statuses.Limit ≡ status → ⊥) → (statuses.Registry ≡ status → ⊥) →
    status_of refusal ≡ status → ⊥
never refusal status refused limit registry e = by (three_statuses refusal)
  where
    by : (status_of refusal ≡ statuses.Refused)
        ⊎ ((status_of refusal ≡ statuses.Limit) ⊎ (status_of refusal ≡ statuses.Registry)) → ⊥
    by (inl own) = refused (sym own ∙ e)
    by (inr (inl own)) = limit (sym own ∙ e)
    by (inr (inr own)) = registry (sym own ∙ e)

-- no refusal says that the work is done
never_done : (refusal : Refusal) → status_of refusal ≡ statuses.Done → ⊥
never_done refusal e =
    never refusal statuses.Done (λ d. absurd (cc)) (λ d. absurd (cc)) (λ d. absurd (cc)) e

-- the end of no work blames the words
words_end : (ended : Ended) → (reply_to ended).status ≡ statuses.Words → ⊥
words_end (Ok answer) e = cc
words_end (Err Memory) e = cc
words_end (Err Outside) e = cc
words_end (Err (Refused refusal)) e =
    never refusal statuses.Words (λ d. absurd (cc)) (λ d. absurd (cc)) (λ d. absurd (cc)) e

-- an end whose status is that of a fault is a fault
fault_end : (ended : Ended) → (reply_to ended).status ≡ statuses.Outside → ended ≡ Err Outside
fault_end (Ok answer) e = absurd (cc)
fault_end (Err Memory) e = absurd (cc)
fault_end (Err Outside) e = refl
fault_end (Err (Refused refusal)) e =
    absurd (never refusal statuses.Outside (λ d. absurd (cc)) (λ d. absurd (cc))
    (λ d. absurd (cc)) e)

-- the counts of an end that is no fault are as before
stayed : (before after : Scene) (ended : Ended) → HaveCause before after (blames ended) →
    ((reply_to ended).status ≡ statuses.Outside → ⊥) →
    (after.files_failed ≡ before.files_failed) × (after.rows_failed ≡ before.rows_failed)
stayed before after (Ok answer) cause other = cause
stayed before after (Err Memory) cause other = cause
stayed before after (Err Outside) cause other = absurd (other refl)
stayed before after (Err (Refused refusal)) cause other = cause

-- a fault comes only where a count rose
pub blames_one : (before after : Scene) (decide : World → Decided Plan)
    (taken_before taken_after : Option (List ℕ)) (failed_before failed_after : ℕ)
    (status : Status) →
    EndsAndPuts before after decide taken_before taken_after failed_before failed_after status →
    status ≡ statuses.Outside →
    Rose before.files_failed after.files_failed
    ⊎ (Rose before.rows_failed after.rows_failed ⊎ Rose failed_before failed_after)
blames_one before after decide tb ta fb fa status (ended, ends, inr failed) e =
    inr (inr (omega (arith, (failed.2).counted)))
blames_one before after decide tb ta fb fa status (ended, ends, inl put) e =
    by (subst (λ (end : Ended). HaveCause before after (blames end))
    (fault_end ended (sym put.0 ∙ e)) ends.cause).one
  where
    by : Rose before.files_failed after.files_failed ⊎ Rose before.rows_failed after.rows_failed →
        Rose before.files_failed after.files_failed
        ⊎ (Rose before.rows_failed after.rows_failed ⊎ Rose fb fa)
    by (inl rose) = inl rose
    by (inr rose) = inr (inl rose)

-- and at every other status all counts are as before
pub quiet : (before after : Scene) (decide : World → Decided Plan)
    (taken_before taken_after : Option (List ℕ)) (failed_before failed_after : ℕ)
    (status : Status) →
    EndsAndPuts before after decide taken_before taken_after failed_before failed_after status →
    (status ≡ statuses.Outside → ⊥) →
    (after.files_failed ≡ before.files_failed) × (after.rows_failed ≡ before.rows_failed)
    × (failed_after ≡ failed_before)
quiet before after decide tb ta fb fa status (ended, ends, inr failed) other =
    absurd (other failed.0)
quiet before after decide tb ta fb fa status (ended, ends, inl put) other =
    let counts = stayed before after ended ends.cause (λ e. other (put.0 ∙ e)) in
    (counts.0, counts.1, (put.2).counted)

-- where the work is done, its answer was put whole after its change was made
pub done_answers : (before after : Scene) (decide : World → Decided Plan)
    (taken_before taken_after : Option (List ℕ)) (failed_before failed_after : ℕ)
    (status : Status) →
    EndsAndPuts before after decide taken_before taken_after failed_before failed_after status →
    status ≡ statuses.Done → InWorld before after (λ w v. (plan : Plan)
    × (decide w ≡ Ok plan) × (v ≡ changed plan.change w)
    × Grows taken_before taken_after plan.answer)
done_answers before after decide tb ta fb fa status (ended, ends, inr failed) e = absurd (cc)
done_answers before after decide tb ta fb fa status (Ok answer, ends, inl put) e =
    weakened _ _ (world_of before.files before.rows) (world_of after.files after.rows)
    (λ w v left.
    (record { answer = answer; change = left.0 }, left.1, left.2, put.1)) ends.left
done_answers before after decide tb ta fb fa status (Err Memory, ends, inl put) e = absurd (cc)
done_answers before after decide tb ta fb fa status (Err Outside, ends, inl put) e = absurd (cc)
done_answers before after decide tb ta fb fa status (Err (Refused refusal), ends, inl put) e =
    absurd (never_done refusal (sym put.0 ∙ e))

-- where it was neither done nor failed, what stays after a refusal stayed
pub refused_stays : (Same : Type 0) (taken_before taken_after : Option (List ℕ))
    (failed_before failed_after : ℕ) (ended : Ended) (reply : Reply) (status : Status) →
    Stays ended Same → MayReply ended reply →
    Puts taken_before taken_after failed_before failed_after reply status →
    (status ≡ statuses.Done → ⊥) → (status ≡ statuses.Outside → ⊥) → Same
refused_stays Same tb ta fb fa ended reply status stays may (inr failed) n m = absurd (m failed.0)
refused_stays Same tb ta fb fa (Ok answer) reply status stays (inl own) (inl put) n m =
    absurd (n (put.0 ∙ ap (λ (r : Reply). r.status) own))
refused_stays Same tb ta fb fa (Ok answer) reply status stays (inr memory) (inl put) n m =
    absurd memory.0
refused_stays Same tb ta fb fa (Err Memory) reply status stays may (inl put) n m = stays
refused_stays Same tb ta fb fa (Err Outside) reply status stays (inl own) (inl put) n m =
    absurd (m (put.0 ∙ ap (λ (r : Reply). r.status) own))
refused_stays Same tb ta fb fa (Err Outside) reply status stays (inr memory) (inl put) n m =
    absurd memory.0
refused_stays Same tb ta fb fa (Err (Refused refusal)) reply status stays may (inl put) n m = stays

-- where it was done, what holds after an answer holds
pub done_holds : (Holds : Type 0) (taken_before taken_after : Option (List ℕ))
    (failed_before failed_after : ℕ) (ended : Ended) (reply : Reply) (status : Status) →
    IfOk ended (λ _. Holds) → MayReply ended reply →
    Puts taken_before taken_after failed_before failed_after reply status →
    status ≡ statuses.Done → Holds
done_holds Holds tb ta fb fa ended reply status holds may (inr failed) e = absurd (cc)
done_holds Holds tb ta fb fa (Ok answer) reply status holds may (inl put) e = holds
done_holds Holds tb ta fb fa (Err Memory) reply status holds (inl own) (inl put) e =
    absurd (cc (put.0, own, e))
done_holds Holds tb ta fb fa (Err Memory) reply status holds (inr memory) (inl put) e =
    absurd memory.0
done_holds Holds tb ta fb fa (Err Outside) reply status holds (inl own) (inl put) e =
    absurd (cc (put.0, own, e))
done_holds Holds tb ta fb fa (Err Outside) reply status holds (inr memory) (inl put) e =
    absurd memory.0
done_holds Holds tb ta fb fa (Err (Refused refusal)) reply status holds (inl own) (inl put) e =
    absurd (never_done refusal (sym (put.0 ∙ ap (λ (r : Reply). r.status) own) ∙ e))
done_holds Holds tb ta fb fa (Err (Refused refusal)) reply status holds (inr memory) (inl put) e =
    absurd (cc (put.0, memory.1, e))

-- whatever the status, each object is as one change leaves it
pub each_is_left : (needs : Needs) (f0 f1 : Option Held) (r0 r1 : Option Rows) (ended : Ended) →
    Stays ended (f1 ≡ f0) → Stays ended (WhereTold r0 r1 (λ b a. a ≡ b)) →
    IfOk ended (λ _. EachLeft needs f0 f1 r0 r1 (Ok tt)) →
    (ended ≡ Err Outside → (made : Result (Unit {0}) Stop) × EachLeft needs f0 f1 r0 r1 made) →
    (made : Result (Unit {0}) Stop) × EachLeft needs f0 f1 r0 r1 made
each_is_left needs f0 f1 r0 r1 (Ok answer) files rows done failed = (Ok tt, done)
each_is_left needs f0 f1 r0 r1 (Err Memory) files rows done failed =
    (Ok tt, none_left needs f0 f1 r0 r1 files rows)
each_is_left needs f0 f1 r0 r1 (Err Outside) files rows done failed = failed refl
each_is_left needs f0 f1 r0 r1 (Err (Refused refusal)) files rows done failed =
    (Ok tt, none_left needs f0 f1 r0 r1 files rows)

-- the reply to work never blames the words
pub not_words : (before after : Scene) (decide : World → Decided Plan)
    (taken_before taken_after : Option (List ℕ)) (failed_before failed_after : ℕ)
    (status : Status) →
    EndsAndPuts before after decide taken_before taken_after failed_before failed_after status →
    status ≡ statuses.Words → ⊥
not_words before after decide tb ta fb fa status (ended, ends, inl put) e =
    words_end ended (sym put.0 ∙ e)
not_words before after decide tb ta fb fa status (ended, ends, inr failed) e = cc

-- a request that is accepted, in a call in which no count of faults rose, is done or lacks memory
pub completes : (before after : Scene) (decide : World → Decided Plan)
    (taken_before taken_after : Option (List ℕ)) (failed_before failed_after : ℕ)
    (status : Status) →
    EndsAndPuts before after decide taken_before taken_after failed_before failed_after status →
    (Rose before.files_failed after.files_failed → ⊥) →
    (Rose before.rows_failed after.rows_failed → ⊥) → (Rose failed_before failed_after → ⊥) →
    InWorld before after (λ w v. (plan : Plan) → decide w ≡ Ok plan →
    Completes w v plan taken_before taken_after status)
completes before after decide tb ta fb fa status (ended, ends, inr failed) files rows sink =
    absurd (sink (omega (arith, (failed.2).counted)))
completes before after decide tb ta fb fa status (Ok answer, ends, inl put) files rows sink =
    weakened _ _ (world_of before.files before.rows) (world_of after.files after.rows)
    (λ w v left plan e.
    let same : ◌≡◌ {A = Plan} (record { answer = answer; change = left.0 }) plan =
    cc (left.1, e) in
    inl (record {
      done = put.0;
      made = left.2 ∙ ap (λ (p : Plan). changed p.change w) same;
      put = subst (λ (p : Plan). Grows tb ta p.answer) same put.1;
    })) ends.left
completes before after decide tb ta fb fa status (Err Memory, ends, inl put) files rows sink =
    weakened _ _ (world_of before.files before.rows) (world_of after.files after.rows)
    (λ w v left plan e. inr (record { memory = put.0; same = left; put = put.1 })) ends.left
completes before after decide tb ta fb fa status (Err Outside, ends, inl put) files rows sink =
    absurd (by ends.cause.one)
  where
    by : Rose before.files_failed after.files_failed ⊎ Rose before.rows_failed after.rows_failed → ⊥
    by (inl rose) = files rose
    by (inr rose) = rows rose
completes before after decide tb ta fb fa status (Err (Refused refusal), ends, inl put) files rows
    sink =
    weakened _ _ (world_of before.files before.rows) (world_of after.files after.rows)
    (λ w v left plan e. absurd (cc (left.0, e))) ends.left

-- no count falls
pub later : (before after : Scene) (decide : World → Decided Plan)
    (taken_before taken_after : Option (List ℕ)) (failed_before failed_after : ℕ)
    (status : Status) →
    EndsAndPuts before after decide taken_before taken_after failed_before failed_after status →
    (before.files_failed ≤ after.files_failed) × (before.rows_failed ≤ after.rows_failed)
later before after decide tb ta fb fa status (ended, ends, puts) = by (blames ended) ends.cause
  where
    by : (blamed : Bool) → HaveCause before after blamed →
        (before.files_failed ≤ after.files_failed) × (before.rows_failed ≤ after.rows_failed)
    by true cause = (cause.files, cause.rows)
    by false cause = (omega (arith, cause.0), omega (arith, cause.1))

-- what holds of a value holds of an option that is it
pub where_some : {A : Type 0} (Fact : A → Type 0) (option : Option A) (x : A) → Some x ≡ option →
    Fact x → IfSome option Fact
where_some Fact option x e fact = subst (λ o. IfSome o Fact) e fact
