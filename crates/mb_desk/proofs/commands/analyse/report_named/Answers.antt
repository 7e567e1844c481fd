-- The report is that on the records that were found.
use Rattle.mb_desk.proofs.AnalysedRecords.{report-made}
use Rattle.mb_desk.proofs.commands.analyse.report_named.Goals as goal

pub returns : goal.returns
returns g c = record {
  does = report-made _ _ _ _ c.args.words.now c.as_str.result.now c.in_ok-records.records
      c.report_text.result c.as_str.ensures.text c.in_ok-records.ensures.does
      c.report_text.ensures.report c.report_text.ensures.own;
}
