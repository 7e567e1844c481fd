use Rattle.mb_reports.proofs.ReportWritten.{report_put}
use Rattle.mb_reports.specs.Analysed.{report_on}
use Rattle.mb_reports.proofs.report_written.report.Goals as goal

pub returns : goal.returns
returns c =
    report_put (report_on c.args.analysis.now) c.as_slice.result.now c.as_slice-2.result.now
    c.new-out.result.items c.push_names.new.out.items c.push_counts.new.out.items
    c.push_p_value.new.out.items c.as_slice.ensures.counts c.as_slice-2.ensures.value
    c.new-out.ensures.items c.in_ok-push_names.ensures c.in_ok-push_counts.ensures
    c.in_ok-push_p_value.ensures
