-- The dataset is looked up by the name that the model gives.
use Rattle.mb_desk.proofs.AnalysedRecords.{dataset-stops}
use Rattle.mb_desk.proofs.commands.analyse.find_modelled.Goals as goal

pub returns-in-Err : goal.returns-in-Err
returns-in-Err g c = record {
  does = dataset-stops _ _ _ _ _ _ c.args.model.now c.text.result.now c.in_ok-name.name
      c.in_ok-name.model c.text.ensures.text c.in_ok-name.ensures.does c.in-Err.stop
      c.in-Err.ensures.does;
}
