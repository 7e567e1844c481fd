use Rattle.std.proofs.Common.{arith, get_or, subst, sym, take, ◌≡◌}
use Rattle.std.proofs.lemmas.List.{get_or-map, length-map}
use Rattle.std.proofs.lemmas.Option.{slice_get-get_or}
use Rattle.mb_keyed.proofs.ClaimSteps.{claims-none}
use Rattle.mb_keyed.proofs.KeyedClaims.{claimed-key}
use Rattle.mb_keyed.proofs.worker.claim_all.Goals as goal
use Rattle.mb_keyed.specs.declared.ranked.Ranked.{Ranked}
use Rattle.mb_keyed.specs.loops.Worked.{Claims, keys_in}
use Rattle.mb_tables.proofs.ListLaws.{place-in}
use Rattle.mb_tables.specs.Lists.{In}

pub loop-one-init : goal.loop-one-init
unfolding In
loop-one-init c = (
  c.requires.ours,
  claims-none c.args.worker.now (λ key. In key (take 0 (keys_in c.args.keys.now)))
      (λ k none. none),
)

pub claim_key-requires-clause-key : goal.claim_key-requires-clause-key
claim_key-requires-clause-key c =
    let near = c.args.keys.now in
    let place = c.loop-one.one-index in
    let none : Ranked = record { key = 0; rank = 0 } in
    let long = length-map near (λ (r : Ranked). r.key) in
    c.requires.some (get_or near place none).key
    (place-in (keys_in near) place (get_or near place none).key
    (rw (← get_or-map (λ (r : Ranked). r.key) near place none 0 (omega arith))
    (slice_get-get_or (keys_in near) place 0 (omega arith))))

pub loop-one-preserved : goal.loop-one-preserved
loop-one-preserved c =
    let near = c.args.keys.now in
    let place = c.loop-one.one-index in
    let none : Ranked = record { key = 0; rank = 0 } in
    let long = length-map near (λ (r : Ranked). r.key) in
    let same = get_or-map (λ (r : Ranked). r.key) near place none 0 (omega arith) in (
      c.claim_key.ensures.ours,
      claimed-key (keys_in near) place c.args.worker.now c.loop-one.worker
          c.claim_key.new.worker (omega arith) c.loop-one.invariant.1
          (subst (λ n. Claims (λ k. k ≡ n) c.loop-one.worker c.claim_key.new.worker) (sym same)
          c.claim_key.ensures.claimed),
    )
