use Rattle.mb_keyed.proofs.CacheSteps.{In-set}
use Rattle.mb_keyed.proofs.cache.put_narrow.Goals as goal

pub returns-then-key-le4294967295-clause-kept : goal.returns-then-key-le4294967295-clause-kept
returns-then-key-le4294967295-clause-kept c k =
    In-set c.args.words.now c.place_of-at.result c.args.key k
