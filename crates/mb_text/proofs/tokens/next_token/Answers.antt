use Rattle.std.proofs.Common.{length, ◌<◌, ◌≡◌, ap, sym, ◌∙◌, arith}
use Rattle.std.proofs.lemmas.List.{nil_from_length}
use Rattle.std.proofs.lemmas.Bool.Decides.{nat_tests}
use Rattle.mb_text.specs.Tokens.{tokens}
use Rattle.mb_text.proofs.TokenSteps.{tokens-nil, tokens-first}
use Rattle.mb_text.proofs.tokens.next_token.Goals as goal

pub returns-then-is_empty : goal.returns-then-is_empty
returns-then-is_empty c =
    let size : length c.skip_blanks-text.result.now ≡ 0 = grind (arith, nat_tests) in
    sym c.skip_blanks-text.ensures.tokens
    ∙ ap tokens (nil_from_length c.skip_blanks-text.result.now size)
    ∙ tokens-nil

pub returns : goal.returns
returns c =
    let some : 0 < length c.skip_blanks-text.result.now = grind (arith, nat_tests) in
    rw (c.split_at.ensures.front, c.split_at.ensures.back, c.token_len.ensures.count)
    (sym c.skip_blanks-text.ensures.tokens
    ∙ tokens-first c.skip_blanks-text.result.now some (c.skip_blanks-text.ensures.first some))
