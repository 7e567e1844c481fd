use Rattle.std.proofs.Common.{arith, subst, ap, ℕ, ◌<◌, ◌+◌, ◌∙◌, ◌≡◌, get_or}
use Rattle.mb_claims.proofs.Claiming.{IsUnderWay, answers_full, answers_new, answers_seen, goes_on, tried-kept, way-kept}
use Rattle.mb_claims.proofs.ProbeSteps.{probe_is, turned}
use Rattle.mb_claims.specs.Probe.{shard_of}
use Rattle.mb_claims.proofs.shards.Shards.claim.Goals as goal

pub returns-then-found-eq0-clause-answer : goal.returns-then-found-eq0-clause-answer
returns-then-found-eq0-clause-answer c =
    answers_new c.args.self.now.sizes c.args.key c.args.pass.now.knows c.loop.pass.knows _
    c.loop.counter _ c.try_place-found.result c.loop.invariant.2
    c.try_place-found.ensures.tried c.if-found-eq0.true

pub returns-then-found-eq0-clause-notes : goal.returns-then-found-eq0-clause-notes
returns-then-found-eq0-clause-notes c =
    (tried-kept c.args.pass.now.knows c.loop.pass.knows c.try_place-found.new.pass.knows _ _ _
    (way-kept c.loop.invariant.2) c.try_place-found.ensures.tried).notes

pub returns-then-found-key-clause-answer : goal.returns-then-found-key-clause-answer
returns-then-found-key-clause-answer c =
    answers_seen c.args.self.now.sizes c.args.key c.args.pass.now.knows c.loop.pass.knows _
    c.loop.counter _ c.try_place-found.result c.loop.invariant.2
    c.try_place-found.ensures.tried c.if-found-eq0.false c.if-found-key.true

pub returns-then-found-key-clause-notes : goal.returns-then-found-key-clause-notes
returns-then-found-key-clause-notes c =
    (tried-kept c.args.pass.now.knows c.loop.pass.knows c.try_place-found.new.pass.knows _ _ _
    (way-kept c.loop.invariant.2) c.try_place-found.ensures.tried).notes

pub loop-preserved : goal.loop-preserved
loop-preserved c =
    let home = c.home-home.ensures in (
      turned _ c.loop.counter _ c.loop.at _ c.loop.invariant.0 c.after-at.ensures,
      c.try_place-found.ensures.table ∙ c.loop.invariant.1,
      goes_on c.args.self.now.sizes c.args.key c.args.pass.now.knows c.loop.pass.knows
          c.try_place-found.new.pass.knows c.loop.counter
          (c.home-home.result.start + c.loop.at) c.try_place-found.result
          c.loop.invariant.2
          (probe_is c.args.self.now.sizes c.args.key c.home-home.result.shard
          c.home-home.result.start c.home-home.result.words c.loop.at c.loop.counter
          home.shard home.start home.words c.loop.invariant.0)
          c.try_place-found.ensures.tried c.if-found-eq0.false c.if-found-key.false,
    )

pub returns-clause-answer : goal.returns-clause-answer
returns-clause-answer c =
    let home = c.home-home.ensures in
    let way : IsUnderWay c.args.self.now.sizes c.args.key c.args.pass.now.knows
    c.loop.pass.knows c.loop.counter = c.loop.invariant.2 in
    let all : c.loop.counter ≡ c.home-home.result.words = omega arith in
    let whole : c.loop.counter
    ≡ get_or c.args.self.now.sizes (shard_of c.args.self.now.sizes c.args.key) 0 =
    all ∙ home.words ∙ ap (λ (n : ℕ). get_or c.args.self.now.sizes n 0) home.shard in
    answers_full c.args.self.now.sizes c.args.key c.home-home.result.shard c.args.pass.now.knows
    c.loop.pass.knows home.shard
    (subst (λ (n : ℕ).
    IsUnderWay c.args.self.now.sizes c.args.key c.args.pass.now.knows c.loop.pass.knows n)
    whole way)

pub try_place-found-requires-clause-next : goal.try_place-found-requires-clause-next
try_place-found-requires-clause-next c =
    let home = c.home-home.ensures in
    record {
      some_key = c.requires.key;
      steps = c.loop.counter;
      short =
          subst (λ (n : ℕ). c.loop.counter < n)
          (home.words ∙ ap (λ (n : ℕ). get_or c.args.self.now.sizes n 0) home.shard)
          c.loop-test.true;
      there =
          probe_is c.args.self.now.sizes c.args.key c.home-home.result.shard
          c.home-home.result.start c.home-home.result.words c.loop.at
          c.loop.counter home.shard home.start home.words c.loop.invariant.0;
      taken = (c.loop.invariant.2).taken;
    }
