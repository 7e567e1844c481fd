use Rattle.std.proofs.Common.{List, SFits, ap, arith, drop, get_or, length, of_z, pos, refl, rules, suc, sym, to_z, w32, ℕ, ◌%◌, ◌*◌, ◌+◌, ◌+ℤ◌, ◌<◌, ◌^◌, ◌∙◌, ◌≡◌}
use Rattle.std.proofs.lemmas.Int.{to_z-of_z}
use Rattle.std.proofs.lemmas.Option.{get_or_from_slice_get}
use Rattle.mb_matrix.specs.Key.{number}
use Rattle.mb_matrix.specs.declared.digit.Digit.{Digit}
use Rattle.mb_matrix.proofs.Congruence.{adds_move-length, congruent_step}
use Rattle.mb_matrix.proofs.Digits.{PlaceStep, none, number-drop, number-drop_all, place_step}
use Rattle.mb_matrix.proofs.keys.delta_of.Goals as goal
use Rattle.mb_tables.proofs.CellSteps.{adds-at}
use Rattle.mb_tables.specs.Step.{Adds}
use Rattle.mb_tables.specs.Vectors.{at}

-- the digit that the body reads
abbrev digit : (c : goal.After-moved_by-delta) → Digit
digit c = get_or c.args.digits.now c.loop-digit.digit-index none

-- its place value fits, and so does the next
place : (c : goal.After-moved_by-delta) →
    PlaceStep c.args.digits.now c.loop-digit.digit-index (digit c) c.loop-digit.place
place c =
    place_step c.args.digits.now c.loop-digit.digit-index (digit c) none c.loop-digit.place
    c.loop-digit-test.true refl c.loop-digit.invariant.placed c.requires.few

pub loop-digit-init : goal.loop-digit-init
loop-digit-init c = record {
  so_far = λ u v a. ap (λ n. n % 2 ^ 64) (omega arith);
  fits = omega arith;
  placed = omega arith;
}

pub overflow_add-place : goal.overflow_add-place
overflow_add-place c = let p = (place c).radix in omega arith

pub overflow_mul-place : goal.overflow_mul-place
overflow_mul-place c = let p = (place c).next in omega arith

-- the entry that the body reads is what the step adds at the cell of the digit
entry : (c : goal.After-moved_by-delta) (u v : List ℕ) → Adds u c.args.z.now v →
    pos (at v (digit c).cell)
    ≡ (pos (at u (digit c).cell) +ℤ to_z w32 (of_z w32 c.entry.result))
entry c u v a =
    let cell : (digit c).cell < length c.args.z.now =
    c.requires.cells c.loop-digit.digit-index none c.loop-digit-test.true in
    let fits : SFits w32 c.entry.result = search rules in
    adds-at u c.args.z.now v a (digit c).cell (omega (arith, adds_move-length u c.args.z.now v a))
    ∙ ap (λ z. pos (at u (digit c).cell) +ℤ z)
    (get_or_from_slice_get c.args.z.now (digit c).cell c.entry.result (pos 0) c.entry.ensures
    ∙ sym (to_z-of_z w32 c.entry.result fits))

pub loop-digit-preserved : goal.loop-digit-preserved
loop-digit-preserved c = record {
  so_far = λ u v a.
      let k = c.loop-digit.digit-index in
      let d = digit c in
      let digits = c.args.digits.now in
      let rest_u = number (drop (k + 1) digits) u in
      let rest_v = number (drop (k + 1) digits) v in
      let radix : suc d.bound ≡ d.bound + 1 = omega arith in
      let m = number-drop digits u k d none c.loop-digit-test.true refl
      ∙ ap (λ r. at u d.cell + r * rest_u) radix in
      let n = number-drop digits v k d none c.loop-digit-test.true refl
      ∙ ap (λ r. at v d.cell + r * rest_v) radix in
      congruent_step (number digits u) (number digits v) c.loop-digit.place (d.bound + 1)
      (at u d.cell) (at v d.cell) rest_u rest_v c.loop-digit.delta c.moved_by-delta.result
      (ap (λ t. (number digits u + c.loop-digit.delta + c.loop-digit.place * t) % 2 ^ 64) (sym n)
      ∙ c.loop-digit.invariant.so_far u v a
      ∙ ap (λ t. (number digits v + c.loop-digit.place * t) % 2 ^ 64) m)
      (c.moved_by-delta.ensures (at u d.cell) (at v d.cell) (entry c u v a));
  fits = omega arith;
  placed = (place c).placed;
}

pub returns-clause-added : goal.returns-clause-added
returns-clause-added c u v a =
    let k = c.loop-digit.digit-index in
    let place = c.loop-digit.place in
    let digits = c.args.digits.now in
    let m : place * number (drop k digits) u ≡ 0 =
    ap (λ n. place * n) (number-drop_all digits u k c.loop-digit-test.false) ∙ omega arith in
    let n : place * number (drop k digits) v ≡ 0 =
    ap (λ n. place * n) (number-drop_all digits v k c.loop-digit-test.false) ∙ omega arith in
    let before : number digits u + c.loop-digit.delta
    ≡ number digits u + c.loop-digit.delta + place * number (drop k digits) v = omega arith in
    let after : number digits v + place * number (drop k digits) u ≡ number digits v =
    omega arith in
    ap (λ t. t % 2 ^ 64) before ∙ c.loop-digit.invariant.so_far u v a ∙ ap (λ t. t % 2 ^ 64) after
