use Rattle.mb_keyed.proofs.CacheSteps.{cached-there}
use Rattle.mb_keyed.proofs.cache.has_narrow.Goals as goal

pub returns-then-at-words : goal.returns-then-at-words
returns-then-at-words c =
    rw c.from.ensures
    (cached-there c.args.words.now c.place_of-at.result c.args.key c.if-at-words.true)
