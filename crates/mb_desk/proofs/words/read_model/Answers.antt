-- Fewer than three words are no request.
use Rattle.std.proofs.Common.{[], ◌∷◌}
use Rattle.mb_desk.proofs.OptionWords.{short_of_three}
use Rattle.mb_desk.specs.Forms.{File, Name}
use Rattle.mb_desk.specs.Options.{matrix_choice}
use Rattle.mb_desk.specs.Words.{model_of_values}
use Rattle.mb_desk.proofs.words.read_model.Goals as goal

pub returns-in_default : goal.returns-in_default
returns-in_default c =
    short_of_three Name Name File (matrix_choice ∷ []) model_of_values c.args.words.now
    c.in_default.len_below
