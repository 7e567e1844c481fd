use Rattle.std.proofs.Common.{Global, Vec, [], ap, append-nil, arith, drop, get_or, length, map, subst, suc, sym, ◌*◌, ◌++◌, ◌+◌, ◌<◌, ◌^◌, ◌∙◌, ◌∷◌, ◌≡◌, ◌≤◌}
use Rattle.mb_matrix.specs.Key.{digit_of, digits_of, key_count}
use Rattle.mb_matrix.specs.Peel.{cell_of, free_of}
use Rattle.mb_matrix.specs.declared.peel.Peeled.TheVariants.{Decided, Free}
use Rattle.mb_matrix.specs.declared.digit.Digit.{Digit}
use Rattle.mb_matrix.proofs.Digits.{key_count-more, some_key}
use Rattle.mb_matrix.proofs.FreeCells.{digits_go_on, free_of-drop_all, free_of-drop_free, free_of-drop_other, peel-cell, too_many}
use Rattle.mb_matrix.proofs.keys.few_digits.Goals as goal
use Rattle.mb_matrix.proofs.keys.few_digits.Goals.{in-Free+in-Some+in_ok-push, in_default}

pub loop-step-init : goal.loop-step-init
unfolding key_count
loop-step-init c = record {
  so_far = ap (λ l. l ++ map (digit_of c.args.matrix.now c.args.margins.now)
      (free_of c.args.peel.now))
      c.in_ok-digits.ensures.items
      ∙ ap (λ p. map (digit_of c.args.matrix.now c.args.margins.now) (free_of p)) c.requires.peel;
  sized = sym (ap key_count c.in_ok-digits.ensures.items);
  some = omega arith;
  fits = omega arith;
}

pub bound_of-bound-requires-clause-cell : goal.bound_of-bound-requires-clause-cell
bound_of-bound-requires-clause-cell c =
    let below = peel-cell c.args.matrix.now c.steps-step-items.result.now c.loop-step.step-index
    (Decided 0 0) (c.steps-step-items.ensures ∙ c.requires.peel) c.loop-step-test.true in
    subst (λ s. cell_of s < length c.args.matrix.now.columns) c.in-Free.is below

pub returns-in-None : goal.returns-in-None
returns-in-None c =
    let k = c.loop-step.step-index in
    let free = free_of-drop_free c.args.peel.now k c.in-Free.cell (Decided 0 0)
    (subst (λ l. k < length l) c.steps-step-items.ensures c.loop-step-test.true)
    (subst (λ l. get_or l k (Decided 0 0) ≡ Free c.in-Free.cell) c.steps-step-items.ensures
    c.in-Free.is) in
    too_many c.args.matrix.now c.args.margins.now c.loop-step.digits.items c.in-Free.cell
    (free_of (drop k c.args.peel.now)) (free_of (drop (k + 1) c.args.peel.now))
    (digits_of c.args.matrix.now c.args.margins.now) (2 ^ 64) c.loop-step.size
    c.bound_of-bound.result free c.loop-step.invariant.so_far c.loop-step.invariant.sized
    c.bound_of-bound.ensures c.in-None.ensures

pub loop-step-preserved : goal.loop-step-preserved
loop-step-preserved c =
    let k = c.loop-step.step-index in
    let h = subst (λ l. k < length l) c.steps-step-items.ensures c.loop-step-test.true in
    elim c.match-step.branch [
      | in-Free+in-Some+in_ok-push w ↦
          let free = free_of-drop_free c.args.peel.now k w.in-Free.cell (Decided 0 0) h
          (subst (λ l. get_or l k (Decided 0 0) ≡ Free w.in-Free.cell) c.steps-step-items.ensures
          w.in-Free.is) in
          let digit : Digit = record { cell = w.in-Free.cell; bound = w.bound_of-bound.result } in
          let digits : c.match-step.digits.items ≡ c.loop-step.digits.items ++ (digit ∷ []) =
          ap (λ (v : Vec Digit Global). v.items) w.digits-is ∙ w.in_ok-push.ensures.items in
          let sized : c.match-step.size ≡ key_count c.match-step.digits.items =
          w.size-is ∙ w.in-Some.ensures.1
          ∙ ap (λ n. n * suc w.bound_of-bound.result) c.loop-step.invariant.sized
          ∙ sym (key_count-more c.loop-step.digits.items digit)
          ∙ sym (ap key_count digits) in
          let some = some_key c.match-step.digits.items in
          let fits = w.in-Some.ensures.0 in
          let same = w.in-Some.ensures.1 in
          let is = w.size-is in
          record {
            so_far = digits_go_on c.args.matrix.now c.args.margins.now c.loop-step.digits.items
                c.match-step.digits.items w.in-Free.cell (free_of (drop k c.args.peel.now))
                (free_of (drop (k + 1) c.args.peel.now)) digit
                (digits_of c.args.matrix.now c.args.margins.now) free
                (ap (λ n. record { cell = w.in-Free.cell; bound = n }) w.bound_of-bound.ensures)
                digits c.loop-step.invariant.so_far;
            sized = sized;
            some = omega arith;
            fits = omega arith;
          }
      | in_default w ↦
          let free = free_of-drop_other c.args.peel.now k (Decided 0 0) h
          (λ cell e. w.in_default.not-Free cell
          (ap (λ l. get_or l k (Decided 0 0)) c.steps-step-items.ensures ∙ e)) in
          let is = w.size-is in
          record {
            so_far = ap
                (λ (v : Vec Digit Global). v.items
                ++ map (digit_of c.args.matrix.now c.args.margins.now)
                (free_of (drop (k + 1) c.args.peel.now)))
                w.digits-is
                ∙ sym (ap
                (λ f. c.loop-step.digits.items
                ++ map (digit_of c.args.matrix.now c.args.margins.now) f)
                free)
                ∙ c.loop-step.invariant.so_far;
            sized = w.size-is ∙ c.loop-step.invariant.sized
                ∙ sym (ap (λ (v : Vec Digit Global). key_count v.items) w.digits-is);
            some = omega arith;
            fits = omega arith;
          }
    ]

pub returns : goal.returns
returns c =
    let k = c.loop-step.step-index in
    let free = free_of-drop_all c.args.peel.now k
    (subst (λ l. length l ≤ k) c.steps-step-items.ensures c.loop-step-test.false) in
    let whole : c.loop-step.digits.items ≡ digits_of c.args.matrix.now c.args.margins.now =
    sym (append-nil c.loop-step.digits.items)
    ∙ sym (ap
    (λ f. c.loop-step.digits.items ++ map (digit_of c.args.matrix.now c.args.margins.now) f) free)
    ∙ c.loop-step.invariant.so_far in
    let sized = c.loop-step.invariant.sized ∙ ap key_count whole in
    (omega arith, whole)
