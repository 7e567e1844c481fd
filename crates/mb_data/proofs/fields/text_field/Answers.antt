use Rattle.std.proofs.Common.{inl, inr, refl}
use Rattle.std.proofs.lemmas.Bool.{cases_Bool}
use Rattle.std.proofs.lemmas.Str.{IsUtf8-from_is_utf8, is_utf8-from_IsUtf8}
use Rattle.std.specs.Str.{is_utf8}
use Rattle.mb_data.proofs.fields.text_field.Goals as goal

pub returns-in-Ok : goal.returns-in-Ok
returns-in-Ok c =
    let fact = rw c.in-Ok.is at c.from_utf8.ensures.cases in
    rw (is_utf8-from_IsUtf8 _ fact.1, fact.0) refl

pub returns-in-Err : goal.returns-in-Err
returns-in-Err c =
    let fact = rw c.in-Err.is at c.from_utf8.ensures.cases in
    elim (cases_Bool (is_utf8 c.args.field.now)) [
      | inl text ↦ absurd (fact.0 (IsUtf8-from_is_utf8 _ text))
      | inr other ↦ rw other refl
    ]
