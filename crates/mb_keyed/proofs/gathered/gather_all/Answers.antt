use Rattle.std.proofs.Common.{Some, ap, arith, inr, refl, ◌∙◌}
use Rattle.std.proofs.lemmas.List.Elements.{All-pop}
use Rattle.std.proofs.lemmas.List.{map-append}
use Rattle.mb_keyed.proofs.GatherSteps.{gathered_closed, gathered_more, gathered_opened}
use Rattle.mb_keyed.proofs.gathered.gather_all.Goals as goal
use Rattle.mb_keyed.specs.declared.ranked.Ranked.{Ranked}
use Rattle.mb_keyed.specs.loops.Rounds.{IsListed}
use Rattle.mb_keyed.specs.loops.Worked.{IsWorkerOf, keys_in}

pub loop-worker-preserved : goal.loop-worker-preserved
loop-worker-preserved c = (
  c.gather.ensures.ours,
  (All-pop (IsWorkerOf c.args.shards.now) c.loop-worker.workers.items c.pop.new.self.items
      c.pop.result c.pop.ensures.items c.loop-worker.invariant.1).0,
  (All-pop IsListed c.loop-worker.workers.items c.pop.new.self.items c.pop.result
      c.pop.ensures.items c.loop-worker.invariant.2).0,
  gathered_more c.args.workers.items c.loop-worker.workers.items c.pop.new.self.items
      c.in-Some.worker c.args.root.now.knows c.loop-worker.root.knows c.gather.new.root.knows
      (keys_in c.args.found.now.items) (keys_in c.loop-worker.found.items)
      (keys_in c.is_short_for-is_lost.new.found.items) c.loop-worker.left _
      c.is_short_for-is_lost.result c.in-Some.ensures.items c.loop-worker.invariant.3
      c.gather.ensures.gathered
      (All-pop IsListed c.loop-worker.workers.items c.pop.new.self.items (Some c.in-Some.worker)
      c.in-Some.ensures.items c.loop-worker.invariant.2).1
      refl refl
      (λ e. ap keys_in (c.is_short_for-is_lost.ensures e)
      ∙ map-append (λ (r : Ranked). r.key) c.loop-worker.found.items c.in-Some.worker.found.items),
  inr c.gather.ensures.closed,
)

pub returns-clause-opened : goal.returns-clause-opened
returns-clause-opened c =
    gathered_opened c.args.workers.items c.loop-worker.workers.items c.args.root.now.knows
    c.loop-worker.root.knows (keys_in c.args.found.now.items)
    (keys_in c.loop-worker.found.items) c.loop-worker.left
    (omega (arith, c.in_default.ensures.cases, c.loop-worker.workers.ok.0))
    c.loop-worker.invariant.3

pub returns-clause-closed : goal.returns-clause-closed
returns-clause-closed c =
    gathered_closed c.args.workers.items c.loop-worker.workers.items c.args.root.now.knows
    c.loop-worker.root.knows (keys_in c.args.found.now.items)
    (keys_in c.loop-worker.found.items) c.loop-worker.left
    (omega (arith, c.in_default.ensures.cases, c.loop-worker.workers.ok.0))
    c.loop-worker.invariant.3 c.loop-worker.invariant.4
