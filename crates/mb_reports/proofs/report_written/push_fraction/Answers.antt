use Rattle.mb_reports.proofs.ReportWritten.{fraction_put}
use Rattle.mb_reports.proofs.report_written.push_fraction.Goals as goal

pub returns : goal.returns
returns c =
    fraction_put c.args.out.now.items _ _ _ _ _ c.args.below c.args.whole
    c.in_ok-push_text.ensures c.in_ok-push_number.ensures c.in_ok-push_text-2.ensures
    c.in_ok-push_number-2.ensures c.in_ok-push_text-3.ensures
