-- The certificate that a plan was made of has parts that its text can say.
use Rattle.std.proofs.Common.{Err, IfOk, List, None, Ok, Option, Result, Some, subst, ℕ, ◌≡◌}
use Rattle.mb_certificate.specs.Certificate.{AreParts, Certificate}
use Rattle.mb_desk.proofs.Told.{before_same, weakened}
use Rattle.mb_desk.specs.BasisCommand.{completed_named}
use Rattle.mb_desk.specs.ImportCommand.{imported, moves_file}
use Rattle.mb_desk.specs.SoundLaws.{CanBeSaid, CompletedIsSaid, ImportedIsSaid}
use Rattle.mb_desk.specs.World.{world_of}
use Rattle.mb_desk.specs.declared.completing.Completion.{Completion}
use Rattle.mb_desk.specs.declared.requests.BasisWords.{BasisWords}
use Rattle.mb_desk.specs.declared.requests.ImportWords.{ImportWords}
use Rattle.mb_desk.specs.declared.requests.Request.TheVariants as requests
use Rattle.mb_outside.specs.Files.{Held}
use Rattle.mb_outside.specs.Rows as kept_rows
use Rattle.mb_outside.specs.Told.{WhereTold}
use Rattle.mb_tables.specs.Rows.{Rows}

-- a fact of all answers holds where there is one
pub if_ok : {A F : Type 0} (answer : Result A F) (Fact : Type 0) → Fact → IfOk answer (λ _. Fact)
if_ok (Ok x) Fact fact = fact
if_ok (Err fault) Fact fact = tt

-- a fact of an answer that follows from another
pub if_ok_so : {A F : Type 0} (answer : Result A F) (First Second : Type 0) → (First → Second) →
    IfOk answer (λ _. First) → IfOk answer (λ _. Second)
if_ok_so (Ok x) First Second so fact = so fact
if_ok_so (Err fault) First Second so fact = tt

-- the completion that was made is the one that is asked for
pub completion_said : (words : BasisWords) (before between after : Option kept_rows.Rows)
    (completion : Completion) → AreParts completion.certificate →
    WhereTold before between (λ rows _. completed_named words rows ≡ Ok completion) →
    WhereTold between after (λ b a. a ≡ b) →
    WhereTold before after (λ rows _. CompletedIsSaid words rows)
completion_said words before between after completion parts decided same =
    before_same (CompletedIsSaid words) before between after
    (weakened _ _ before between
    (λ rows _ made other asked.
    let one : completion ≡ other = cc in
    subst (λ (x : Completion). AreParts x.certificate) one parts) decided) same

-- so is the certificate with moves that was made
pub import_said : (words : ImportWords) (moves : Rows)
    (before between after : Option kept_rows.Rows)
    (proved : List ℕ × Certificate) → AreParts proved.1 →
    WhereTold before between (λ rows _. imported words moves rows ≡ Ok proved) →
    WhereTold between after (λ b a. a ≡ b) →
    WhereTold before after (λ rows _. ImportedIsSaid words moves rows)
import_said words moves before between after proved parts decided same =
    before_same (ImportedIsSaid words moves) before between after
    (weakened _ _ before between
    (λ rows _ made model c asked.
    let one : ◌≡◌ {A = List ℕ × Certificate} proved (model, c) = cc in
    subst (λ (x : List ℕ × Certificate). AreParts x.1) one parts) decided) same

-- and so are the moves that were read before it
pub moves_said : (words : ImportWords) (moves : Rows) (f0 f1 : Option Held)
    (r0 r1 : Option kept_rows.Rows) →
    WhereTold f0 f1 (λ held _. moves_file words.moves held ≡ Ok moves) →
    WhereTold r0 r1 (λ rows _. ImportedIsSaid words moves rows) →
    WhereTold (world_of f0 r0) (world_of f1 r1) (λ w _. CanBeSaid (requests.Import words) w)
moves_said words moves f0 None r0 r1 read said = tt
moves_said words moves f0 (Some f1) r0 None read said = tt
moves_said words moves None (Some f1) r0 (Some r1) read said = absurd read
moves_said words moves (Some f0) (Some f1) None (Some r1) read said = absurd said
moves_said words moves (Some f0) (Some f1) (Some r0) (Some r1) read said =
    λ other file model c asked.
    let one : other ≡ moves = cc in
    said model c (subst (λ m. imported words m r0 ≡ Ok (model, c)) one asked)
