use Rattle.std.proofs.Common.{Some, ap, arith, ◌∙◌}
use Rattle.mb_paths.proofs.WayBack.{told-other, told-same, untold-all, untold-more}
use Rattle.mb_paths.proofs.between_tables.place_of.Goals as goal
use Rattle.mb_rings.proofs.PlacesBelow.{get-there}

pub returns-then-eq-clause-some : goal.returns-then-eq-clause-some
returns-then-eq-clause-some c =
    get-there c.args.tables.now c.loop-place.place c.index-tables-place.result (omega arith)
    c.index-tables-place.is
    ∙ ap Some (told-same c.eq.result c.index-tables-place.result c.args.table.now c.eq.ensures
    c.if-eq.true)

pub loop-place-preserved : goal.loop-place-preserved
loop-place-preserved c =
    untold-more c.args.tables.now c.args.table.now c.index-tables-place.result c.loop-place.place
    (get-there c.args.tables.now c.loop-place.place c.index-tables-place.result (omega arith)
    c.index-tables-place.is)
    (told-other c.eq.result c.index-tables-place.result c.args.table.now c.eq.ensures
    c.if-eq.false)
    c.loop-place.invariant

pub returns-clause-none : goal.returns-clause-none
returns-clause-none c =
    untold-all c.args.tables.now c.args.table.now
    (λ k l e. c.loop-place.invariant k (omega arith) e)
