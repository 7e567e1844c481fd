use Rattle.std.proofs.Common.{ap, arith, drop, get_or, inl, inr, length, length-set, refl, sym, ◌%◌, ◌+◌, ◌<◌, ◌∙◌, ◌≡◌}
use Rattle.std.proofs.lemmas.Bool.{cases_lt}
use Rattle.mb_matrix.specs.Key.{number}
use Rattle.mb_matrix.specs.declared.digit.Digit.{Digit}
use Rattle.mb_matrix.proofs.Digits.{none, number-drop}
use Rattle.mb_matrix.proofs.CellLists.{In-get_or}
use Rattle.mb_matrix.proofs.ReadBack.{count_fits, digit_read, digits_above, radix-most, written}
use Rattle.mb_matrix.proofs.reading.read_digits.Goals as goal
use Rattle.mb_tables.specs.Vectors.{at}

pub overflow_add-radix : goal.overflow_add-radix
overflow_add-radix c =
    let e = radix-most c.args.digits.now c.loop-digit.digit-index none c.loop-digit-test.true in
    let f = c.requires.fits in
    omega arith

pub loop-digit-preserved : goal.loop-digit-preserved
loop-digit-preserved c =
    let k = c.loop-digit.digit-index in
    let digits = c.args.digits.now in
    let d = get_or digits k none in
    let cell : d.cell < length c.loop-digit.counts =
    let h = c.requires.cells k none c.loop-digit-test.true in
    let e = c.loop-digit.invariant.cells in omega arith in
    record {
      cells = length-set c.loop-digit.counts d.cell
          (c.loop-digit.rest % (d.bound + 1) % 4294967296)
          ∙ c.loop-digit.invariant.cells;
      left = λ u s a e.
          let n = c.loop-digit.invariant.left u s a e
          ∙ number-drop digits u k d none c.loop-digit-test.true refl in
          digits_above c.loop-digit.rest (at u d.cell) d.bound (number (drop (k + 1) digits) u) n
          (s.bounded k none c.loop-digit-test.true);
      read = λ u s a e j l.
          let n = c.loop-digit.invariant.left u s a e
          ∙ number-drop digits u k d none c.loop-digit-test.true refl in
          let here = digit_read c.loop-digit.rest (at u d.cell) d.bound
          (number (drop (k + 1) digits) u) n (s.bounded k none c.loop-digit-test.true)
          (count_fits u a d.cell) in
          written c.loop-digit.counts u d.cell (c.loop-digit.rest % (d.bound + 1) % 4294967296)
          (get_or digits j none).cell cell here
          (λ ne. elim (cases_lt j k) [
            | inl before ↦ c.loop-digit.invariant.read u s a e j before
            | inr other ↦
                let same : j ≡ k = omega arith in
                absurd (ne (ap (λ i. (get_or digits i none).cell) same))
          ]);
    }

pub returns-clause-read : goal.returns-clause-read
returns-clause-read c u s a e d i =
    let r = In-get_or c.args.digits.now d none i in
    let l = r.1 in
    sym (ap (λ (b : Digit). at c.loop-digit.counts b.cell) r.2)
    ∙ c.loop-digit.invariant.read u s a e r.0 (omega arith)
    ∙ ap (λ (b : Digit). at u b.cell) r.2
