-- Each size is below 2^32, as all together are, and joins those before it.
use Rattle.std.proofs.Common.{List, [], ap, arith, length, map, suc, sym, take, ℕ, ◌+◌, ◌++◌, ◌≡◌, ◌∙◌, ◌∷◌}
use Rattle.mb_desk.proofs.RingSizes.{size-within, sizes-more}
use Rattle.mb_desk.proofs.exact_test.sizes_of.Goals as goal

pub overflow_cast-ring : goal.overflow_cast-ring
overflow_cast-ring c =
    let within = size-within c.args.rings.now.rings c.loop-k.k c.ring.result.now c.ring.ensures in
    let all = c.total-total.ensures.sizes in
    omega (arith, within, all)

pub loop-k-preserved : goal.loop-k-preserved
loop-k-preserved c =
    let more : suc c.loop-k.k ≡ c.loop-k.k + 1 = omega arith in
    c.in_ok-push.ensures.items
    ∙ ap (λ sizes. sizes ++ length c.ring.result.now ∷ []) c.loop-k.invariant
    ∙ sym (sizes-more c.args.rings.now.rings c.loop-k.k c.ring.result.now c.ring.ensures)
    ∙ ap (λ n. map (length {A = List ℕ}) (take n c.args.rings.now.rings)) more
