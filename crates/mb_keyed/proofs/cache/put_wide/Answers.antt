use Rattle.mb_keyed.proofs.CacheSteps.{In-set}
use Rattle.mb_keyed.proofs.cache.put_wide.Goals as goal

pub returns-then-at-words-clause-kept : goal.returns-then-at-words-clause-kept
returns-then-at-words-clause-kept c k =
    In-set c.args.words.now c.place_of-at.result c.args.key k
