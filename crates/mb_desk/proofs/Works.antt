-- A plan and then its change: how the work of a request ends.
use Rattle.std.proofs.Common.{Bool, Err, false, true, List, None, Ok, Option, Some, ap, arith, inl, inr, refl, subst, sym, ℕ, ◌∙◌, ◌≡◌, ◌⊎◌}
use Rattle.std.specs.FinMap.{empty}
use Rattle.mb_desk.proofs.EachCommand.{plan_fits}
use Rattle.mb_desk.proofs.Making.{Made, Makes, file_blamed, makes}
use Rattle.mb_desk.proofs.Told.{after_same, both_told, told_by}
use Rattle.mb_desk.specs.Changes.{ChangesRows, FilesLeft, KeeperLeft, RowsLeft, WritesFile, changed_rows}
use Rattle.mb_desk.specs.Commands.{needs_of, plan_of}
use Rattle.mb_desk.specs.Decision.{Decided, Does, Follows, HaveCause, HaveStayed, InWorld, Scene, blames}
use Rattle.mb_desk.specs.Ends.{Commits, EachLeft, Ended, Ends, Leaves}
use Rattle.mb_desk.specs.Needs.{Both, FilesAlone, Needs, Neither, RowsAlone, Touches, needed, needed_files, needed_rows, told_or}
use Rattle.mb_desk.specs.World.{World, world_of}
use Rattle.mb_desk.specs.declared.plans.Change.{Change}
use Rattle.mb_desk.specs.declared.plans.Change.TheVariants.{Adds, Nothing, Removes, Writes}
use Rattle.mb_desk.specs.declared.plans.Plan.{Plan}
use Rattle.mb_desk.specs.declared.plans.Stop.{Stop}
use Rattle.mb_desk.specs.declared.plans.Stop.TheVariants.{Memory, Outside, Refused}
use Rattle.mb_desk.specs.declared.requests.Request.{Request}
use Rattle.mb_outside.specs.Causes.{Rose}
use Rattle.mb_outside.specs.Files.{Held}
use Rattle.mb_outside.specs.Rows.{Rows}
use Rattle.mb_outside.specs.Told.{WhereTold}

-- what became of the change, as how the work ends
abbrev pub after_commit : List ℕ → Made → Ended
after_commit answer (Ok _) = Ok answer
after_commit answer (Err stop) = Err stop

-- the state that a change leaves is one that the end of the work allows
leaves : (decided : Decided Plan) (w v : World) (plan : Plan) (rose failed : Type 0) →
    (rose → failed) → (made : Made) → decided ≡ Ok plan →
    Makes plan.change w v rose made → Leaves decided w v failed (after_commit plan.answer made)
leaves decided w v plan rose failed so (Ok _) e m = (plan.change, e, m)
leaves decided w v plan rose failed so (Err Memory) e m = m
leaves decided w v plan rose failed so (Err Outside) e (inl same) = inl same
leaves decided w v plan rose failed so (Err Outside) e (inr half) =
    inr (so half.0, (plan, e, half.1))
leaves decided w v plan rose failed so (Err (Refused refusal)) e m = absurd m

-- a fact of three worlds, of which the first two are the same, where the last is told
chained : (First Then Whole : World → World → Type 0) (f0 f1 f2 : Option Held)
    (r0 r1 r2 : Option Rows) → f1 ≡ f0 → WhereTold r0 r1 (λ b a. a ≡ b) →
    WhereTold (world_of f0 r0) (world_of f1 r1) First →
    WhereTold (world_of f1 r1) (world_of f2 r2) Then →
    ((w v : World) → First w w → Then w v → Whole w v) →
    WhereTold (world_of f0 r0) (world_of f2 r2) Whole
chained First Then Whole f0 f1 None r0 r1 r2 files rows first then both = tt
chained First Then Whole f0 f1 (Some f2) r0 r1 None files rows first then both = tt
chained First Then Whole f0 None (Some f2) r0 r1 (Some r2) files rows first then both = absurd then
chained First Then Whole f0 (Some f1) (Some f2) r0 None (Some r2) files rows first then both =
    absurd then
chained First Then Whole None (Some f1) (Some f2) r0 (Some r1) (Some r2) files rows first then
    both =
    absurd first
chained First Then Whole (Some f0) (Some f1) (Some f2) None (Some r1) (Some r2) files rows first
    then both =
    absurd rows
chained First Then Whole (Some f0) (Some f1) (Some f2) (Some r0) (Some r1) (Some r2) files rows
    first then both =
    let same : ◌≡◌ {A = World} (record { files = f1; rows = r1 })
    (record { files = f0; rows = r0 }) =
    cc (files, rows) in
    both _ _ (subst (λ (x : World). First (record { files = f0; rows = r0 }) x) same first)
    (subst (λ (x : World). Then x (record { files = f2; rows = r2 })) same then)

-- a count that rose from what stayed rose from before
rose_before : (before between after : ℕ) → between ≡ before → Rose between after → Rose before after
rose_before before between after same rose = subst (λ n. Rose n after) same rose

-- what rose in the change rose in the work
one_before : (before between after : Scene) → HaveStayed before between →
    Rose between.files_failed after.files_failed ⊎ Rose between.rows_failed after.rows_failed →
    Rose before.files_failed after.files_failed ⊎ Rose before.rows_failed after.rows_failed
one_before before between after stayed (inl rose) = inl (rose_before _ _ _ stayed.0 rose)
one_before before between after stayed (inr rose) = inr (rose_before _ _ _ stayed.1 rose)

-- the counts of a plan that was made and of its change are those of the work
caused : (answer : List ℕ) (made : Made) (before between after : Scene) →
    HaveStayed before between → HaveCause between after (blames made) →
    HaveCause before after (blames (after_commit answer made))
caused answer (Ok _) before between after stayed cause =
    (cause.0 ∙ stayed.0, cause.1 ∙ stayed.1)
caused answer (Err Memory) before between after stayed cause =
    (cause.0 ∙ stayed.0, cause.1 ∙ stayed.1)
caused answer (Err (Refused refusal)) before between after stayed cause =
    (cause.0 ∙ stayed.0, cause.1 ∙ stayed.1)
caused answer (Err Outside) before between after stayed cause = record {
  files = omega (arith, stayed.0, cause.files);
  rows = omega (arith, stayed.1, cause.rows);
  one = one_before before between after stayed cause.one;
}

-- what is taken as told changes no count
cause_needed : (needs : Needs) (before after : Scene) (blamed : Bool) →
    HaveCause before after blamed → HaveCause (needed needs before) (needed needs after) blamed
cause_needed needs before after true cause =
    record { files = cause.files; rows = cause.rows; one = cause.one }
cause_needed needs before after false cause = cause

-- what is left of the files is so too where they need not be told
files_needed : (needs : Needs) (change : Change) (before after : Option Held) (made : Made) →
    Touches needs change → FilesLeft change before after made →
    FilesLeft change (needed_files needs before) (needed_files needs after) made
files_needed Both change before after made touches left = left
files_needed FilesAlone change before after made touches left = left
files_needed RowsAlone Nothing before after made touches left =
    (ap (told_or empty) left.0, left.1)
files_needed RowsAlone (Adds kind name body) before after made touches left =
    ap (told_or empty) left
files_needed RowsAlone (Removes kind name) before after made touches left =
    ap (told_or empty) left
files_needed RowsAlone (Writes file body) before after made touches left = absurd touches
files_needed Neither Nothing before after made touches left =
    (ap (told_or empty) left.0, left.1)
files_needed Neither (Adds kind name body) before after made touches left = absurd touches
files_needed Neither (Removes kind name) before after made touches left = absurd touches
files_needed Neither (Writes file body) before after made touches left = absurd touches

-- rows that a change doesn't touch are left as it leaves them
untouched : (change : Change) (rows : Rows) (made : Made) → changed_rows change rows ≡ rows →
    ((refusal : _) → made ≡ Err (Refused refusal) → ⊥) → ChangesRows change rows rows made
untouched change rows (Ok _) same never = sym same
untouched change rows (Err Memory) same never = refl
untouched change rows (Err Outside) same never = refl
untouched change rows (Err (Refused refusal)) same never = absurd (never refusal refl)

-- the same where they need not be told
told_untouched : (change : Change) (before after : Option Rows) (made : Made) → after ≡ before →
    ((rows : Rows) → changed_rows change rows ≡ rows) →
    ((refusal : _) → made ≡ Err (Refused refusal) → ⊥) →
    RowsLeft change (told_or empty before) (told_or empty after) made
told_untouched change before after made same unchanged never =
    subst (λ r. RowsLeft change (told_or empty r) (told_or empty after) made) same (by after)
  where
    by : (rows : Option Rows) → RowsLeft change (told_or empty rows) (told_or empty rows) made
    by None = untouched change empty made (unchanged empty) never
    by (Some rows) = untouched change rows made (unchanged rows) never

-- a write is never refused
write_stands : (file body : List ℕ) (before after : Option Held) (made : Made) →
    WritesFile file body before after made → (refusal : _) → made ≡ Err (Refused refusal) → ⊥
write_stands file body before after (Ok _) written refusal e = cc
write_stands file body before after (Err Memory) written refusal e = cc
write_stands file body before after (Err Outside) written refusal e = cc
write_stands file body before after (Err (Refused other)) written refusal e = written

-- what is left of the rows is so too where they need not be told
rows_needed : (needs : Needs) (change : Change) (files_before files_after : Option Held)
    (before after : Option Rows) (made : Made) → Touches needs change →
    FilesLeft change files_before files_after made → RowsLeft change before after made →
    KeeperLeft change before after →
    RowsLeft change (needed_rows needs before) (needed_rows needs after) made
rows_needed Both change f0 f1 before after made touches files left keeper = left
rows_needed RowsAlone change f0 f1 before after made touches files left keeper = left
rows_needed FilesAlone Nothing f0 f1 before after made touches files left keeper =
    told_untouched Nothing before after made keeper (λ rows. refl)
    (λ refusal e. absurd (cc (e, files.1)))
rows_needed FilesAlone (Writes file body) f0 f1 before after made touches files left keeper =
    told_untouched (Writes file body) before after made keeper (λ rows. refl)
    (write_stands file body f0 f1 made files)
rows_needed FilesAlone (Adds kind name body) f0 f1 before after made touches files left keeper =
    absurd touches
rows_needed FilesAlone (Removes kind name) f0 f1 before after made touches files left keeper =
    absurd touches
rows_needed Neither Nothing f0 f1 before after made touches files left keeper =
    told_untouched Nothing before after made keeper (λ rows. refl)
    (λ refusal e. absurd (cc (e, files.1)))
rows_needed Neither (Adds kind name body) f0 f1 before after made touches files left keeper =
    absurd touches
rows_needed Neither (Removes kind name) f0 f1 before after made touches files left keeper =
    absurd touches
rows_needed Neither (Writes file body) f0 f1 before after made touches files left keeper =
    absurd touches

-- a fact of the work, from one of its plan and what the change of the plan makes of the world
pub of_work : (request : Request) (before between after : Scene) (plan : Plan) (made : Made)
    (First Whole : World → World → Type 0) →
    Does (needed (needs_of request) before) (needed (needs_of request) between) (Ok plan)
    (plan_of request) → Touches (needs_of request) plan.change →
    Commits between after plan.change made →
    InWorld (needed (needs_of request) before) (needed (needs_of request) between) First →
    ((w v : World) → First w w → plan_of request w ≡ Ok plan →
    Makes plan.change w v (Rose between.files_failed after.files_failed) made → Whole w v) →
    InWorld (needed (needs_of request) before) (needed (needs_of request) after) Whole
of_work request before between after plan made First Whole does touches commits first both =
    let needs = needs_of request in
    let f0 = needed_files needs before.files in
    let f1 = needed_files needs between.files in
    let f2 = needed_files needs after.files in
    let r0 = needed_rows needs before.rows in
    let r1 = needed_rows needs between.rows in
    let r2 = needed_rows needs after.rows in
    chained (λ w v. First w v × (plan_of request w ≡ Ok plan)) _ Whole f0 f1 f2 r0 r1 r2 does.files
    does.rows (both_told First _ (world_of f0 r0) (world_of f1 r1) first does.decided)
    (makes plan.change f1 f2 r1 r2 (Rose between.files_failed after.files_failed) made
    (files_needed needs plan.change _ _ made touches commits.files)
    (rows_needed needs plan.change _ _ _ _ made touches commits.files commits.rows commits.keeper)
    (λ is e. file_blamed plan.change between after is (commits.blamed e)))
    (λ w v decided made_it.
    both w v decided.0 decided.1 (made_it (plan_fits request w plan decided.1)))

-- a plan and its change are the work
pub committed : (request : Request) (before between after : Scene) (plan : Plan) (made : Made) →
    Does (needed (needs_of request) before) (needed (needs_of request) between) (Ok plan)
    (plan_of request) → Touches (needs_of request) plan.change →
    Commits between after plan.change made →
    Ends (needed (needs_of request) before) (needed (needs_of request) after) (plan_of request)
    (after_commit plan.answer made)
committed request before between after plan made does touches commits =
    let needs = needs_of request in
    record {
      left = of_work request before between after plan made _ _ does touches commits does.decided
          (λ w v first decided made_it.
          leaves (plan_of request w) w v plan _ _ (rose_before _ _ _ does.cause.0) made decided
          made_it);
      cause = cause_needed needs before after (blames (after_commit plan.answer made))
          (caused plan.answer made before between after does.cause commits.cause);
    }

-- what a plan that stopped leaves
stopped_leaves : (decided : Decided Plan) (w : World) (failed : Type 0) (stop : Stop) →
    Follows {A = Plan} (Err stop) decided → Leaves decided w w failed (Err stop)
stopped_leaves decided w failed Memory follows = refl
stopped_leaves decided w failed Outside follows = inl refl
stopped_leaves decided w failed (Refused refusal) follows = (follows, refl)

-- where the plan stopped, the work ends so
pub stopped : (before after : Scene) (decide : World → Decided Plan) (stop : Stop) →
    Does {A = Plan} before after (Err stop) decide → Ends before after decide (Err stop)
stopped before after decide stop does = record {
  left = chained _ (λ w v. v ≡ w) _ before.files after.files after.files before.rows after.rows
      after.rows does.files does.rows does.decided
      (told_by (λ w v. v ≡ w) (world_of after.files after.rows) (λ w. refl))
      (λ w v follows same.
      subst (λ x. Leaves (decide w) w x (Rose before.files_failed after.files_failed) (Err stop))
      (sym same)
      (stopped_leaves (decide w) w (Rose before.files_failed after.files_failed) stop follows));
  cause = does.cause;
}

-- each object is as the change of the plan leaves it
pub each_left : (needs : Needs) (files : Option Held) (rows : Option Rows) (between after : Scene)
    (plan : Plan) (made : Made) → between.files ≡ files →
    WhereTold rows between.rows (λ b a. a ≡ b) → Touches needs plan.change →
    Commits between after plan.change made →
    EachLeft needs files after.files rows after.rows made
each_left needs files rows between after plan made same_files same_rows touches commits = record {
  change = plan.change;
  touches = touches;
  files = subst (λ f. FilesLeft plan.change f after.files made) same_files commits.files;
  rows = after_same _ rows between.rows after.rows same_rows commits.rows;
}

-- no change touches nothing
touches_nothing : (needs : Needs) → Touches needs Nothing
touches_nothing FilesAlone = tt
touches_nothing RowsAlone = tt
touches_nothing Both = tt
touches_nothing Neither = tt

-- objects that stayed are as no change leaves them
pub none_left : (needs : Needs) (f0 f1 : Option Held) (r0 r1 : Option Rows) → f1 ≡ f0 →
    WhereTold r0 r1 (λ b a. a ≡ b) → EachLeft needs f0 f1 r0 r1 (Ok tt)
none_left needs f0 f1 r0 r1 files rows = record {
  change = Nothing;
  touches = touches_nothing needs;
  files = (files, refl);
  rows = rows;
}
