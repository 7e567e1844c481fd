use Rattle.std.proofs.Common.{[], List, ap, arith, length, rules, ◌∷◌, ◌≡◌, ◌+◌, ◌<◌, ◌^◌, ℕ}
use Rattle.std.specs.Vec.{vec_len}
use Rattle.mb_data.proofs.ReadRows.{record_added, record_refused, rows_read}
use Rattle.mb_data.proofs.reading.read_rows.Goals as goal

pub returns-in-Err : goal.returns-in-Err
returns-in-Err c =
    let so_far = c.loop-gathered.invariant.2 in
    let left : c.loop-gathered.left.left ≡ c.in-Some.next.fields
    ∷ c.in-Some.next.left = search rules in
    let refused = rw c.in-Err.is at (c.add.ensures.added so_far.0 so_far.1) in
    record_refused _ c.args.header.now c.loop-gathered.number so_far.0 c.in-Some.next.fields
    c.loop-gathered.left.left c.in-Some.next.left _ left so_far.2 refused

pub loop-gathered-preserved : goal.loop-gathered-preserved
loop-gathered-preserved c =
    let so_far = c.loop-gathered.invariant.2 in
    let left : c.loop-gathered.left.left ≡ c.in-Some.next.fields
    ∷ c.in-Some.next.left = search rules in
    let shorter = ap (λ (list : List (List (List ℕ))). length list) left in
    let added = rw c.in-Ok.is at (c.add.ensures.added so_far.0 so_far.1) in
    let wide : vec_len c.add.new.self.levels ≡ length c.args.header.now.factors = search rules in
    let few : c.loop-gathered.number + 1 + length c.in-Some.next.left < 2 ^ 64 =
    omega (arith, shorter, c.loop-gathered.invariant.1) in (
      wide,
      few,
      (
        added.0,
        added.2,
        record_added c.args.header.now c.loop-gathered.number so_far.0 added.0 c.in-Some.next.fields
            c.loop-gathered.left.left c.in-Some.next.left _ left so_far.2 added.1,
      ),
    )

pub returns : goal.returns
returns c =
    let so_far = c.loop-gathered.invariant.2 in
    let left : c.loop-gathered.left.left ≡ [] = search rules in (
      so_far.0,
      rows_read c.args.header.now c.loop-gathered.number so_far.0 c.loop-gathered.left.left _ left
          so_far.2,
      so_far.1,
    )
