use Rattle.mb_text.proofs.LineTokens.{tokens-line}
use Rattle.mb_text.proofs.laws.line_is_its_tokens.Goals as goal

pub returns : goal.returns
returns c = tokens-line
