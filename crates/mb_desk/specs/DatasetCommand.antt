-- The command `dataset`: a dataset is read from a file and kept.
use Rattle.std.specs.FinMap.{get}
use Rattle.std.specs.Fmt.{decimal}
use Rattle.std.specs.Prelude.{List, None, [], codes, length, sum, ℕ, ◌++◌, ◌∷◌}
use Rattle.mb_data.specs.CrossTable.{CrossTable, counts}
use Rattle.mb_data.specs.DatasetText.{dataset_of}
use Rattle.mb_data.specs.Written.{written}
use Rattle.mb_data.specs.declared.fault.DataFault.{DataFault}
use Rattle.mb_data.specs.declared.fault.DataFault.TheVariants as faults
use Rattle.mb_desk.specs.Decision.{Decided, or_refusal}
use Rattle.mb_desk.specs.Inputs.{body_of}
use Rattle.mb_desk.specs.Recorded.{kept_plan}
use Rattle.mb_desk.specs.World.{World}
use Rattle.mb_desk.specs.declared.plans.Plan.{Plan}
use Rattle.mb_desk.specs.declared.plans.Stop.{Stop}
use Rattle.mb_desk.specs.declared.plans.Stop.TheVariants.{Memory, Refused}
use Rattle.mb_desk.specs.declared.refusals.Refusal.{Refusal}
use Rattle.mb_desk.specs.declared.refusals.Refusal.TheVariants as refusals
use Rattle.mb_outside.specs.Files.{Held}
use Rattle.mb_registry.specs.declared.kinds.Kind.TheVariants.{Dataset}
use Rattle.mb_tables.specs.Answers.{◌>>=◌}

-- the refusal of the first file for the fault of its text; no text has the last of these faults
abbrev pub data_refusal : DataFault → Refusal
data_refusal (faults.Csv row) = refusals.Csv 1 row
data_refusal faults.NoCountColumn = refusals.NoCountColumn 1
data_refusal faults.NoFactor = refusals.NoFactor 1
data_refusal (faults.BadCount row) = refusals.BadCount 1 row
data_refusal (faults.Repeated row) = refusals.Repeated 1 row
data_refusal faults.TooManyCells = refusals.TooManyCombinations 1
data_refusal faults.TotalTooLarge = refusals.TotalTooLarge 1
data_refusal faults.NoCell = refusals.NoCell 1
data_refusal faults.OutOfMemory = refusals.NoCell 1

-- why the work stops for the fault that the reader answers
abbrev pub data_stop : DataFault → Stop
data_stop faults.OutOfMemory = Memory
data_stop fault = Refused (data_refusal fault)

-- the dataset that the text of the first file says
abbrev pub dataset_text : List ℕ → Decided CrossTable
dataset_text text = or_refusal data_refusal (dataset_of text)

-- the dataset in the file of a name: the file is read, and then its text
abbrev pub dataset_file : List ℕ → Held → Decided CrossTable
dataset_file file held = body_of 1 (get held file) >>= dataset_text

-- the line of the number of cells and the sum of their counts
abbrev pub cells_line : CrossTable → List ℕ
cells_line table =
    codes "cells " ++ (decimal (length (counts table.entries))
    ++ (codes " total " ++ (decimal (sum (counts table.entries)) ++ 10 ∷ [])))

-- the plan of the command: the written form of the dataset is kept, and the line printed
abbrev pub dataset_plan : List ℕ → List ℕ → World → Decided Plan
dataset_plan name file w =
    dataset_file file w.files >>= λ table.
    kept_plan Dataset name None (written table) (cells_line table) w.rows
