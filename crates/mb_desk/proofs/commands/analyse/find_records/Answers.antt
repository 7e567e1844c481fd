-- The model is looked up by the name that the basis gives.
use Rattle.mb_desk.proofs.AnalysedRecords.{model-stops}
use Rattle.mb_desk.proofs.commands.analyse.find_records.Goals as goal

pub returns-in-Err : goal.returns-in-Err
returns-in-Err g c = record {
  does = model-stops _ _ _ _ _ _ c.args.basis.now c.text.result.now c.in_ok-model_name.model_name
      c.in_ok-model_name.certificate c.text.ensures.text c.in_ok-model_name.ensures.does
      c.in-Err.stop c.in-Err.ensures.does;
}
