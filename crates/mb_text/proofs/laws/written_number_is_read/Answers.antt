use Rattle.mb_text.proofs.SpellingLaws.{number_of-signed_decimal}
use Rattle.mb_text.proofs.LineTokens.{token-signed_decimal}
use Rattle.mb_text.proofs.laws.written_number_is_read.Goals as goal

pub returns : goal.returns
returns c = record { token = token-signed_decimal; number = number_of-signed_decimal }
