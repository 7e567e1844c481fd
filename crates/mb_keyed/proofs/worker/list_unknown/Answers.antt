use Rattle.std.proofs.Common.{Global, Vec, [], ap, arith, get_or, take, ◌+◌, ◌++◌, ◌∙◌, ◌∷◌, ◌≡◌}
use Rattle.std.proofs.lemmas.List.{get_or-map, length-map, map-append, take_more}
use Rattle.mb_keyed.proofs.CacheSteps.{unknown-cached, unknown-one}
use Rattle.mb_keyed.proofs.worker.list_unknown.Goals.{else-not-has, then-not-has+in_ok-push}
use Rattle.mb_keyed.proofs.worker.list_unknown.Goals as goal
use Rattle.mb_keyed.specs.declared.ranked.Ranked.{Ranked}
use Rattle.mb_keyed.specs.loops.Worked.{keys_in}

pub loop-one-preserved : goal.loop-one-preserved
loop-one-preserved c =
    let cache = c.args.worker.now.cache in
    let near = c.args.near.now in
    let place = c.loop-one.one-index in
    let old = c.loop-one.unknown.items in
    let one : Ranked = get_or near place (record { key = 0; rank = 0 }) in
    let long = length-map near (λ (r : Ranked). r.key) in
    let same = get_or-map (λ (r : Ranked). r.key) near place (record { key = 0; rank = 0 }) 0
    (omega arith) in
    let taken : take (place + 1) (keys_in near) ≡ take place (keys_in near) ++ one.key ∷ [] =
    take_more (keys_in near) place 0 (omega arith)
    ∙ ap (λ key. take place (keys_in near) ++ key ∷ []) same in
    elim c.if-not-has.branch [
      | then-not-has+in_ok-push w ↦
          let items : keys_in c.if-not-has.unknown.items ≡ keys_in old ++ one.key ∷ [] =
          ap (λ (v : Vec Ranked Global). keys_in v.items) w.unknown-is
          ∙ ap keys_in w.in_ok-push.ensures.items
          ∙ map-append (λ (r : Ranked). r.key) old (one ∷ []) in
          rw (taken, items)
          (unknown-one cache (take place (keys_in near)) (keys_in old) one.key c.loop-one.invariant)
      | else-not-has w ↦
          rw (taken, w.unknown-is)
          (unknown-cached cache (take place (keys_in near)) (keys_in old) one.key
          w.if-not-has.ensures c.loop-one.invariant)
    ]
