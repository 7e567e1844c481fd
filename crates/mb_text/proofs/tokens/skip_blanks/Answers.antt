use Rattle.mb_text.proofs.TokenSteps.{tokens-skip, first_after_blanks}
use Rattle.mb_text.proofs.tokens.skip_blanks.Goals as goal

pub returns-clause-tokens : goal.returns-clause-tokens
returns-clause-tokens c =
    rw (c.split_at.ensures.back, c.leading_blanks.ensures.count) (tokens-skip c.args.text.now)

pub returns-clause-first : goal.returns-clause-first
returns-clause-first c =
    rw (c.split_at.ensures.back, c.leading_blanks.ensures.count)
    (first_after_blanks c.args.text.now)
