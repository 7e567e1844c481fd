-- The body of a basis: what is written is read, and what is read is what is written.
use Rattle.std.proofs.Common.{Err, List, None, Ok, Option, Result, Some, [], ap, codes, refl, subst, sym, ℕ, ◌++◌, ◌∙◌, ◌∷◌, ◌≡◌}
use Rattle.std.proofs.lemmas.List.Splits.{join_with_byte-slice_split}
use Rattle.std.specs.List.{join_with_byte}
use Rattle.std.specs.Option.{option_and_then, option_map}
use Rattle.std.specs.Result.{result_ok}
use Rattle.mb_certificate.proofs.CertificateLaws.{certificate_is, certificate_written}
use Rattle.mb_certificate.specs.Certificate.{AreParts, Certificate}
use Rattle.mb_certificate.specs.CertificateText.{certificate_of}
use Rattle.mb_certificate.specs.Written.{text_of}
use Rattle.mb_registry.specs.Bodies.{basis_body, basis_head, basis_text, certificate_in}
use Rattle.mb_text.proofs.ItemBytes.{items_again}
use Rattle.mb_text.proofs.LineReaders.{and_then_read, exactly_read, exactly_written, line_back, line_read, name_reads}
use Rattle.mb_text.proofs.RecordSteps.{step_on, stepped}
use Rattle.mb_text.proofs.SaidLines.{line_is, says_read, says_written}
use Rattle.mb_text.specs.LineForms.{exactly, name_after}
use Rattle.mb_text.specs.Lines.{items, line, lines}
use Rattle.mb_text.specs.Name.{IsName}
use Rattle.mb_text.specs.RecordLines.{says}

-- the items of the first line, and those of the second
abbrev pub version_items : List (List ℕ)
version_items = codes "basis" ∷ codes "1" ∷ []

-- those of the line of the model
abbrev pub model_items : List ℕ → List (List ℕ)
model_items model = codes "model" ∷ model ∷ []

-- what is read after the first line
abbrev pub with_version : Unit {0} × List (List ℕ) → Result (List ℕ × List (List ℕ)) ℕ
with_version version = says 2 (name_after (codes "model")) version.1

-- the two lines are read where they are written
pub head_said : (model rest : List ℕ) → IsName model →
    basis_head (line version_items ++ (line (model_items model) ++ rest)) ≡ Ok (model, lines rest)
unfolding basis_head
head_said model rest is =
    step_on _ (tt, lines (line (model_items model) ++ rest)) with_version _
    (says_written 1 (exactly (codes "basis 1")) version_items (line (model_items model) ++ rest) tt
    refl (exactly_written (codes "basis 1") tt))
    (line_read (name_after (codes "model")) model_items IsName (name_reads (codes "model") refl) 2
    model rest is)

-- where two lines were read they are what is written
pub head_back : (body model : List ℕ) (pieces : List (List ℕ)) →
    basis_head body ≡ Ok (model, pieces) →
    (body ≡ line version_items ++ (line (model_items model) ++ join_with_byte 10 pieces))
    × IsName model
unfolding basis_head
head_back body model pieces e =
    let a = stepped (says 1 (exactly (codes "basis 1")) (lines body)) with_version (
      model,
      pieces,
    ) e in
    let version = says_read 1 (exactly (codes "basis 1")) (lines body) a.0.0 a.0.1 a.1 in
    let name =
    line_back (name_after (codes "model")) model_items IsName (name_reads (codes "model") refl) 2
    a.0.1 model pieces a.2 in (
      sym (join_with_byte-slice_split 10 body)
          ∙ line_is version version_items
          (ap items (exactly_read (codes "basis 1") version.first a.0.0 version.is_read)
          ∙ items_again version_items (λ x. cc) refl)
          ∙ ap (λ t. line version_items ++ t) name.0,
      name.1,
    )

-- the name that was read is one
pub head_named : (body model : List ℕ) (pieces : List (List ℕ)) →
    basis_head body ≡ Ok (model, pieces) → IsName model
head_named body model pieces e = (head_back body model pieces e).1

-- the pieces of a text are the text
pub certificate_lines : (text : List ℕ) →
    certificate_in (lines text) ≡ result_ok (certificate_of text)
certificate_lines text =
    ap (λ text. result_ok (certificate_of text)) (join_with_byte-slice_split 10 text)

-- the pieces of a certificate's text are read as it
certificate_said : (c : Certificate) → AreParts c → certificate_in (lines (text_of c)) ≡ Some c
certificate_said c are =
    certificate_lines (text_of c) ∙ ap (λ r. result_ok r) (certificate_written c are)

-- what is written of a basis is read as it
pub basis_said : (model : List ℕ) (c : Certificate) → IsName model → AreParts c →
    basis_body (basis_text model c) ≡ Some (model, c)
basis_said model c is are =
    ap (λ r. option_and_then with_certificate (result_ok r)) (head_said model (text_of c) is)
    ∙ ap (λ o. option_map (λ c. (model, c)) o) (certificate_said c are)
  where
    with_certificate : List ℕ × List (List ℕ) → Option (List ℕ × Certificate)
    with_certificate head = option_map (λ c. (head.0, c)) (certificate_in head.1)

-- what is known where something was read
pub ok_read : {A F : Type 0} (r : Result A F) (x : A) → result_ok r ≡ Some x → r ≡ Ok x
ok_read (Ok y) x e = cc
ok_read (Err fault) x e = absurd cc

-- a value that was seen is one of a value that was there
pub map_read : {A B : Type 0} (view : A → B) (o : Option A) (y : B) →
    option_map view o ≡ Some y → (x : A) × (o ≡ Some x) × (view x ≡ y)
map_read view None y e = absurd cc
map_read view (Some x) y e = (x, refl, cc)

-- a body that is read as a basis
pub record BasisRead (body model : List ℕ) (c : Certificate) : Type 0 where
  pub written : body ≡ basis_text model c
  pub named : IsName model
  pub parts : AreParts c

-- is what is written of it
pub basis_back : (body model : List ℕ) (c : Certificate) → basis_body body ≡ Some (model, c) →
    BasisRead body model c
basis_back body model c e =
    let a = and_then_read (result_ok (basis_head body)) with_certificate (model, c) e in
    let b = map_read (λ c. (a.0.0, c)) (certificate_in a.0.1) (model, c) a.2 in
    let head = head_back body a.0.0 a.0.1 (ok_read (basis_head body) a.0 a.1) in
    let found =
    certificate_is (join_with_byte 10 a.0.1) b.0
    (ok_read (certificate_of (join_with_byte 10 a.0.1)) b.0 b.1) in
    let read : BasisRead body a.0.0 b.0 = record {
      written = head.0 ∙ ap (λ t. line version_items ++ (line (model_items a.0.0) ++ t)) found.0;
      named = head.1;
      parts = found.1;
    } in
    subst (λ (p : List ℕ × Certificate). BasisRead body p.0 p.1) b.2 read
  where
    with_certificate : List ℕ × List (List ℕ) → Option (List ℕ × Certificate)
    with_certificate head = option_map (λ c. (head.0, c)) (certificate_in head.1)
