use Rattle.std.proofs.Common.{ap, ◌∙◌}
use Rattle.mb_text.specs.Plain.{plain_of, plain_signed_of}
use Rattle.mb_text.proofs.DecimalForms.{decimal_is_plain, plain_is_decimal}
use Rattle.mb_text.proofs.SpellingLaws.{decimal_is_signed, signed_is_decimal}
use Rattle.mb_text.proofs.laws.one_spelling.Goals as goal

pub returns : goal.returns
returns c = record {
  natural = λ item n small. (
    plain_is_decimal item n small,
    λ e. ap plain_of e ∙ decimal_is_plain n small,
  );
  signed = λ item z small. (
    signed_is_decimal item z small,
    λ e. ap plain_signed_of e ∙ decimal_is_signed z small,
  );
}
