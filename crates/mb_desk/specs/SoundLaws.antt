-- The laws of sound rows, and of repeated requests.
use Rattle.std.specs.FinMap.{empty, get}
use Rattle.std.specs.Prelude.{Err, List, Ok, Some, [], ℕ, ◌++◌, ◌∷◌, ◌≡◌, ◌≢◌, ◌≤◌}
use Rattle.mb_certificate.specs.Certificate.{AreParts, Certificate}
use Rattle.mb_certificate.specs.declared.line_fault.Reason.{Reason}
use Rattle.mb_desk.specs.BasisCommand.{completed_named}
use Rattle.mb_desk.specs.Calls.{after_request, after_requests}
use Rattle.mb_desk.specs.Changes.{changed}
use Rattle.mb_desk.specs.Commands.{plan_of}
use Rattle.mb_desk.specs.ImportCommand.{imported, moves_file}
use Rattle.mb_desk.specs.Recorded.{added_line}
use Rattle.mb_desk.specs.Sound.{AreSound}
use Rattle.mb_desk.specs.World.{World}
use Rattle.mb_desk.specs.declared.completing.Completion.{Completion}
use Rattle.mb_desk.specs.declared.plans.Change.TheVariants.{Nothing}
use Rattle.mb_desk.specs.declared.plans.Plan.{Plan}
use Rattle.mb_desk.specs.declared.refusals.Refusal.TheVariants as refusals
use Rattle.mb_desk.specs.declared.requests.BasisWords.{BasisWords}
use Rattle.mb_desk.specs.declared.requests.ImportWords.{ImportWords}
use Rattle.mb_desk.specs.declared.requests.Request.{Request}
use Rattle.mb_desk.specs.declared.requests.Request.TheVariants as requests
use Rattle.mb_outside.specs.Files.{Held}
use Rattle.mb_outside.specs.Rows as kept_rows
use Rattle.mb_registry.specs.declared.adding.Added.{Added}
use Rattle.mb_registry.specs.declared.adding.Added.TheVariants.{Unchanged}
use Rattle.mb_registry.specs.declared.kinds.Kind.{Kind}
use Rattle.mb_rings.specs.Walk.{most_tables}
use Rattle.mb_tables.specs.Rows.{Rows}
use Rattle.mb_text.specs.Name.{IsName}

-- ---- requests

-- what the words of every request keep to: a new record has a name, and the limit of an analysis is
-- within its range
abbrev pub IsRequest : Request → Type 0
IsRequest (requests.Moves words) = Unit {0}
IsRequest (requests.Reach words) = Unit {0}
IsRequest (requests.Check certificate) = Unit {0}
IsRequest (requests.Generate seed workers) = Unit {0}
IsRequest (requests.Dataset name file) = IsName name
IsRequest (requests.Model words) = IsName words.name
IsRequest (requests.Basis words) = IsName words.name
IsRequest (requests.Import words) = IsName words.name
IsRequest (requests.Analyse words) = IsName words.name × words.limit ≤ most_tables
IsRequest (requests.Report name) = Unit {0}
IsRequest requests.List = Unit {0}
IsRequest (requests.Export part name file) = Unit {0}
IsRequest (requests.Remove kind name) = Unit {0}

-- a completion that is asked for has a certificate whose parts its text can say
abbrev pub CompletedIsSaid : BasisWords → kept_rows.Rows → Type 0
CompletedIsSaid words rows =
    (completion : Completion) → completed_named words rows ≡ Ok completion →
    AreParts completion.certificate

-- and so has a basis with these moves
abbrev pub ImportedIsSaid : ImportWords → Rows → kept_rows.Rows → Type 0
ImportedIsSaid words moves rows =
    (model : List ℕ) (c : Certificate) → imported words moves rows ≡ Ok (model, c) → AreParts c

-- the certificate that a request makes, if it makes one, has parts that its text can say, as every
-- one has that the program can hold
abbrev pub CanBeSaid : Request → World → Type 0
CanBeSaid (requests.Moves words) w = Unit {0}
CanBeSaid (requests.Reach words) w = Unit {0}
CanBeSaid (requests.Check certificate) w = Unit {0}
CanBeSaid (requests.Generate seed workers) w = Unit {0}
CanBeSaid (requests.Dataset name file) w = Unit {0}
CanBeSaid (requests.Model words) w = Unit {0}
CanBeSaid (requests.Basis words) w = CompletedIsSaid words w.rows
CanBeSaid (requests.Import words) w =
    (moves : Rows) → moves_file words.moves w.files ≡ Ok moves → ImportedIsSaid words moves w.rows
CanBeSaid (requests.Analyse words) w = Unit {0}
CanBeSaid (requests.Report name) w = Unit {0}
CanBeSaid requests.List w = Unit {0}
CanBeSaid (requests.Export part name file) w = Unit {0}
CanBeSaid (requests.Remove kind name) w = Unit {0}

-- so it is for each of the requests, over the world that those before it leave
unfoldable pub AllAreSaid : List Request → World → Type 0
AllAreSaid [] w = Unit {0}
AllAreSaid (request ∷ requests) w =
    IsRequest request × CanBeSaid request w
    × ((v : World) → after_request request w ≡ Ok v → AllAreSaid requests v)

-- ---- sound rows

-- a registry without rows is sound, and sound rows are sound after every list of accepted requests
pub record StepsKeepSoundness : Type 0 where
  pub from_none : AreSound empty
  pub steps : (requests : List Request) (w v : World) → AllAreSaid requests w → AreSound w.rows →
      after_requests requests w ≡ Ok v → AreSound v.rows

-- the request that judges a certificate of a file
abbrev pub IsCheck : Request → Type 0
IsCheck request = (certificate : List ℕ) × (request ≡ requests.Check certificate)

-- over sound rows no request is refused for a record, and none but the check of a file for a
-- certificate
pub record SoundIsNotRefused : Type 0 where
  pub records : (request : Request) (w : World) (kind : Kind) (name : List ℕ) → AreSound w.rows →
      plan_of request w ≢ Err (refusals.BadRecord kind name)
  pub certificates : (request : Request) (w : World) (line : ℕ) (reason : Reason) →
      AreSound w.rows → plan_of request w ≡ Err (refusals.Certificate line reason) →
      IsCheck request

-- ---- repeats

-- the requests that keep a record
abbrev pub Keeps : Request → Type 0
Keeps (requests.Moves words) = ⊥
Keeps (requests.Reach words) = ⊥
Keeps (requests.Check certificate) = ⊥
Keeps (requests.Generate seed workers) = ⊥
Keeps (requests.Dataset name file) = Unit {0}
Keeps (requests.Model words) = Unit {0}
Keeps (requests.Basis words) = Unit {0}
Keeps (requests.Import words) = Unit {0}
Keeps (requests.Analyse words) = Unit {0}
Keeps (requests.Report name) = ⊥
Keeps requests.List = ⊥
Keeps (requests.Export part name file) = ⊥
Keeps (requests.Remove kind name) = ⊥

-- each row of the first stands in the second
abbrev pub RowsStand : kept_rows.Rows → kept_rows.Rows → Type 0
RowsStand before after =
    (key : kept_rows.Key) (body : List ℕ) → get before key ≡ Some body → get after key ≡ Some body

-- each file of the first stands in the second
abbrev pub FilesStand : Held → Held → Type 0
FilesStand before after =
    (file body : List ℕ) → get before file ≡ Some body → get after file ≡ Some body

-- a request that kept a record, and its repeat: that changes nothing, and its answer differs in the
-- first word alone
pub record IsRepeat (first again : Plan) : Type 0 where
  pub added : Added
  pub kind : Kind
  pub name : List ℕ
  pub lines : List ℕ
  pub answered : first.answer ≡ added_line added kind name ++ lines
  pub repeated :
      again ≡ record { answer = added_line Unchanged kind name ++ lines; change = Nothing }

-- a request that kept a record may be repeated while all rows and files stand
abbrev pub RepeatsAreUnchanged : Type 0
RepeatsAreUnchanged =
    (request : Request) (w v : World) (plan : Plan) → Keeps request → plan_of request w ≡ Ok plan →
    FilesStand w.files v.files → RowsStand (changed plan.change w).rows v.rows →
    (again : Plan) × (plan_of request v ≡ Ok again) × IsRepeat plan again
