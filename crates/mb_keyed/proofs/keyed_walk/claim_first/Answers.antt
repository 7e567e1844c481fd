use Rattle.std.proofs.Common.{[], ap, length, rules, slice_index, subst, ◌%◌, ◌∙◌, ◌≡◌, ◌≤◌}
use Rattle.mb_keyed.proofs.FirstClaims.{first-claimed}
use Rattle.mb_keyed.proofs.keyed_walk.claim_first.Goals as goal

pub returns-clause-first : goal.returns-clause-first
returns-clause-first c =
    let sizes = c.args.shards.now.sizes in
    let none : c.gather.new.root.knows.opened ≡ [] = search rules in
    let shards : c.from.result ≡ length sizes = c.from.ensures ∙ c.len.ensures.shards in
    let some : 1 ≤ slice_index sizes (c.args.key % c.from.result) =
    subst (λ n. 1 ≤ n) c.words-some.ensures.words c.words-some.ensures.some in
    first-claimed sizes c.args.key c.in_ok-pass.pass.knows c.claim.new.pass.knows
    c.args.root.now.knows c.split.new.root.knows c.gather.new.root.knows c.in_ok-pass.ensures.pass
    (ap (λ r. r.gathered) c.in_ok-pass.ensures.opened ∙ c.requires.empty)
    c.gather.ensures.gathered (c.gather.ensures.closed none)
    (subst (λ n. 1 ≤ slice_index sizes (c.args.key % n)) shards some)
    c.claim.result c.claim.ensures.answer
