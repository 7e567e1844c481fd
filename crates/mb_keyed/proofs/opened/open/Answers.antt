use Rattle.std.proofs.Common.{List, [], ap, arith, length, length-append, subst, sym, vec_capacity, ◌∙◌, ◌∷◌, ◌≤◌}
use Rattle.mb_claims.specs.Claims.{IsPassOf, RootSeat}
use Rattle.mb_keyed.proofs.OpenSteps.{AreOpened, opened_more}
use Rattle.mb_keyed.specs.declared.worker.Worker.{Worker}
use Rattle.mb_keyed.proofs.opened.open.Goals.{in-Ok, in_default}
use Rattle.mb_keyed.proofs.opened.open.Goals as goal

pub loop-preserved : goal.loop-preserved
loop-preserved c =
    elim c.match-split.branch [
      | in-Ok w ↦ (
        c.split.ensures.ours,
        opened_more c.args.shards.now c.args.root.now c.loop.root c.split.new.root
            c.loop.workers.items c.match-split.workers.items w.worker_of.result
            c.loop.invariant.1 w.in-Ok.ensures.opened
            (ap (λ p. p.knows) w.worker_of.ensures.pass ∙ w.in-Ok.ensures.pass)
            w.worker_of.ensures.found (
              subst (IsPassOf c.args.shards.now) (sym w.worker_of.ensures.pass)
                  w.in-Ok.ensures.pass_ours,
              w.worker_of.ensures.cached,
            )
            (ap (λ v. v.items) w.workers-is ∙ w.push_reserved.ensures.items),
        (let e = ap (λ v. length v.items) w.workers-is in
            let f = ap (λ (l : List Worker). length l) w.push_reserved.ensures.items in
            let g = length-append c.loop.workers.items (w.worker_of.result ∷ []) in
            let h : length c.loop.workers.items ≤ c.loop.counter = c.loop.invariant.2 in
            omega arith),
        (let e = ap vec_capacity w.workers-is in
            let f = w.push_reserved.ensures.capacity in
            let h = c.loop.invariant.3 in omega arith),
      )
      | in_default w ↦ (
        c.split.ensures.ours,
        subst (λ (root : RootSeat). AreOpened c.args.shards.now c.args.root.now root
            c.match-split.workers.items) (sym w.in_default.ensures.same)
            (subst (λ v. AreOpened c.args.shards.now c.args.root.now c.loop.root v.items)
            (sym w.workers-is) c.loop.invariant.1),
        (let e = ap (λ v. length v.items) w.workers-is in
            let h : length c.loop.workers.items ≤ c.loop.counter = c.loop.invariant.2 in
            omega arith),
        subst (λ v. c.args.count ≤ vec_capacity v) (sym w.workers-is) c.loop.invariant.3,
      )
    ]
