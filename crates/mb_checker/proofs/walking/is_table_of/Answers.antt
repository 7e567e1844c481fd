use Rattle.std.proofs.Common.{ap, arith, inl, inr, rules as proof_rules, sym, ◌+◌, ◌<◌, ◌∙◌, ◌≡◌, ◌⊎◌}
use Rattle.mb_certificate.proofs.LineFaults.{read-at}
use Rattle.mb_checker.proofs.TableCells.{cells-differ, cells-same}
use Rattle.mb_checker.proofs.walking.is_table_of.Goals as goal
use Rattle.mb_tables.specs.Vectors.{at}

pub returns-then-count-from : goal.returns-then-count-from
returns-then-count-from c =
    let y : c.from.result ≡ at c.args.m.now.list (c.args.m.now.margins + c.loop-cell.cell) =
    search proof_rules in
    cells-differ c.args.m.now.margins c.args.m.now.list c.args.table.now c.loop-cell.cell
    c.count.result c.from.result c.count.ensures y c.if-count-from.true

pub loop-cell-preserved : goal.loop-cell-preserved
loop-cell-preserved c = λ i l.
    let list = c.args.m.now.list in
    let d = c.args.m.now.margins in
    let table = c.args.table.now in
    let x = read-at table c.loop-cell.cell c.count.result 0 c.count.ensures in
    let y : c.from.result ≡ at list (d + c.loop-cell.cell) = search proof_rules in
    let same = c.if-count-from.false in
    let cases : (i < c.loop-cell.cell) ⊎ (i ≡ c.loop-cell.cell) = grind arith in
    elim cases [
      | inl m ↦ c.loop-cell.invariant i m
      | inr m ↦ ap (at table) m ∙ x ∙ same ∙ y ∙ ap (λ j. at list (d + j)) (sym m)
    ]

pub returns : goal.returns
returns c =
    cells-same c.args.m.now.margins c.args.m.now.list c.args.table.now c.requires
    (λ i l. let e = c.cells-cell-end.ensures.cells in let f = c.loop-cell-test.false in
    let g = c.requires in
    c.loop-cell.invariant i (omega arith))
