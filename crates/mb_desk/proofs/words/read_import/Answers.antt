-- Fewer than three words are no request.
use Rattle.std.proofs.Common.{[], ◌∷◌}
use Rattle.mb_desk.proofs.OptionWords.{short_of_three}
use Rattle.mb_desk.specs.Forms.{File, Name}
use Rattle.mb_desk.specs.Options.{limit_choice}
use Rattle.mb_desk.specs.Words.{import_of_values}
use Rattle.mb_desk.proofs.words.read_import.Goals as goal

pub returns-in_default : goal.returns-in_default
returns-in_default c =
    short_of_three Name Name File (limit_choice ∷ []) import_of_values c.args.words.now
    c.in_default.len_below
