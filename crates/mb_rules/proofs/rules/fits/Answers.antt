use Rattle.std.proofs.Common.{arith, sym}
use Rattle.mb_order.proofs.SymbolSets.{no_divisor}
use Rattle.mb_rules.proofs.rules.fits.Goals as goal

pub returns-then-set-occurring-ne0 : goal.returns-then-set-occurring-ne0
returns-then-set-occurring-ne0 c =
    let s = c.margins-margins.ensures.sound in
    let few = s.few_margins in
    let cells = s.few_cells in
    let shape = c.requires.shape.symbols in
    sym (no_divisor c.args.set c.args.occurring c.args.rule.now.left.list c.args.m.now.list
    c.requires.set c.requires.occurring (omega arith) (omega arith) c.if-set-occurring-ne0.true)
