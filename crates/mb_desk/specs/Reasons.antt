-- The words for what can be wrong with a line of a certificate.
use Rattle.std.specs.Prelude.{List, codes, ℕ}
use Rattle.mb_certificate.specs.declared.line_fault.Reason.TheVariants.{MoveMargins, NotDown, PairMissing, PairNotJoined, PathBelowZero, PathEnd, PathMissing, PeakTooHeavy, StartNotJoined, StepNotApplicable, WeightDiffers}
use Rattle.mb_certificate.specs.declared.line_fault.Reason.{Reason}

-- the word of each
abbrev pub reason_word : Reason → List ℕ
reason_word MoveMargins = codes "MoveMargins"
reason_word WeightDiffers = codes "WeightDiffers"
reason_word NotDown = codes "NotDown"
reason_word StartNotJoined = codes "StartNotJoined"
reason_word PairMissing = codes "PairMissing"
reason_word PeakTooHeavy = codes "PeakTooHeavy"
reason_word StepNotApplicable = codes "StepNotApplicable"
reason_word PairNotJoined = codes "PairNotJoined"
reason_word PathMissing = codes "PathMissing"
reason_word PathBelowZero = codes "PathBelowZero"
reason_word PathEnd = codes "PathEnd"
