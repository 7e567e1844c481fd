use Rattle.std.proofs.Common.{ap, ◌∙◌}
use Rattle.mb_tables.proofs.HandedOn.{gives-handed_on}
use Rattle.mb_tables.specs.Rows.{Rows}
use Rattle.mb_certificate.proofs.Repeats.{all_read, one_longer, one_more, one_wrong}
use Rattle.mb_certificate.specs.CertificateText.{all_of, entry, read_cause}
use Rattle.mb_certificate.specs.Reading.{says, times}
use Rattle.mb_certificate.proofs.basis_lines.read_moves.Goals as goal

pub returns-in_err-read_move-clause-moves : goal.returns-in_err-read_move-clause-moves
returns-in_err-read_move-clause-moves c =
    gives-handed_on read_cause _ _ c.in_err-read_move.field-0.0 _ c.from_residual.ensures.1
    (one_wrong (says (all_of entry c.args.cells)) c.loop.moves.rows c.args.count c.loop.counter
    c.loop.lines (times (says (all_of entry c.args.cells)) c.args.count c.args.lines.now)
    c.loop.invariant.read (read_cause c.in_err-read_move.field-0.0) c.loop-test.true
    c.in_err-read_move.ensures.entries)

pub loop-preserved : goal.loop-preserved
loop-preserved c =
    let pushed = ap (λ (m : Rows). m.rows) c.in_ok-push.ensures.added in
    record {
      read =
          one_more (says (all_of entry c.args.cells)) c.loop.moves.rows c.args.count c.loop.counter
          c.loop.lines (times (says (all_of entry c.args.cells)) c.args.count c.args.lines.now)
          c.loop.invariant.read c.push.new.self.rows c.in_ok-read_move.field-0
          c.read_move.new.lines c.loop-test.true c.in_ok-read_move.ensures.entries pushed;
      width = ap (λ (m : Rows). m.width) c.in_ok-push.ensures.added ∙ c.loop.invariant.width;
      many =
          one_longer c.push.new.self.rows c.loop.moves.rows c.in_ok-read_move.field-0
          c.loop.counter c.loop.invariant.many pushed;
    }

pub returns-clause-moves : goal.returns-clause-moves
returns-clause-moves c =
    all_read (says (all_of entry c.args.cells)) c.loop.moves.rows c.args.count c.loop.counter
    c.loop.lines (times (says (all_of entry c.args.cells)) c.args.count c.args.lines.now)
    c.loop.invariant.read c.loop-test.false
