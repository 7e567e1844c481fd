use Rattle.std.proofs.Common.{[], ap, arith, below_more, false, pos, sym, ◌*◌, ◌∙◌, ◌≡◌}
use Rattle.std.proofs.lemmas.List.Elements.{All-from_get_or}
use Rattle.std.proofs.lemmas.Nat.{row_fits}
use Rattle.std.specs.List.{position}
use Rattle.mb_matrix.proofs.FirstFaults.{first_cell-None, first_cell-from_0}
use Rattle.mb_matrix.proofs.KeptEntries.{row_more, row_slice}
use Rattle.mb_matrix.specs.loops.Kept.{fails}
use Rattle.mb_tables.proofs.RowsOfEntries.{get_or-rows_of, length-rows_of}
use Rattle.mb_tables.specs.Rows.{rows_of}
use Rattle.mb_matrix.proofs.entries.first_failing.Goals as goal

pub returns-in-Some-clause-first : goal.returns-in-Some-clause-first
returns-in-Some-clause-first c =
    let entries = c.args.entries.now in
    let cols = c.args.cols in
    let many = length-rows_of cols c.args.rows entries in
    sym (first_cell-from_0 (fails c.args.test) (rows_of cols c.args.rows entries) c.loop-row.row
    c.in-Some.cell (omega arith)
    (λ m l.
    ap (position (fails c.args.test)) (get_or-rows_of cols c.args.rows entries m [] (omega arith))
    ∙ c.loop-row.invariant.first m l)
    (ap (position (fails c.args.test))
    (get_or-rows_of cols c.args.rows entries c.loop-row.row [] (omega arith)
    ∙ sym (row_slice entries c.loop-row.row cols c.place_of-from.result c.place_of-from.ensures))
    ∙ sym c.in-Some.ensures.first))

pub loop-row-preserved : goal.loop-row-preserved
loop-row-preserved c =
    let entries = c.args.entries.now in
    let cols = c.args.cols in
    let row = c.loop-row.row in
    let full = c.requires.full in
    record {
      first =
          below_more _ _ c.loop-row.invariant.first
          (ap (position (fails c.args.test))
          (sym (row_slice entries row cols c.place_of-from.result c.place_of-from.ensures))
          ∙ sym c.in_default.ensures.first);
      none =
          row_more (λ z. fails c.args.test z ≡ false) entries row cols c.place_of-from.result
          c.place_of-from.ensures
          (let e = row_fits row cols c.args.rows cols c.loop-row-test.true (omega arith) in
          omega arith)
          c.loop-row.invariant.none c.in_default.ensures.none;
    }

pub returns-clause-first : goal.returns-clause-first
returns-clause-first c =
    let entries = c.args.entries.now in
    let cols = c.args.cols in
    let many = length-rows_of cols c.args.rows entries in
    sym (first_cell-None (fails c.args.test) 0 (rows_of cols c.args.rows entries)
    (λ m l.
    ap (position (fails c.args.test)) (get_or-rows_of cols c.args.rows entries m [] (omega arith))
    ∙ c.loop-row.invariant.first m (omega arith)))

pub returns-clause-none : goal.returns-clause-none
returns-clause-none c =
    let full = c.requires.full in
    let last : c.loop-row.row ≡ c.args.rows = omega arith in
    let all = ap (λ n. n * c.args.cols) last in
    All-from_get_or (λ z. fails c.args.test z ≡ false) c.args.entries.now (pos 0)
    (λ k l. c.loop-row.invariant.none k (omega arith))
