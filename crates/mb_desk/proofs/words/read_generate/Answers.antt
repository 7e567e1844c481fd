-- A seed, and then the option, if the words are one.
use Rattle.std.proofs.Common.{[], ap, sym, ◌∙◌, ◌∷◌}
use Rattle.mb_desk.proofs.OptionWords.{number_and_choice, number_no_options}
use Rattle.mb_desk.specs.Limits.{largest_seed}
use Rattle.mb_desk.specs.Forms.{Count, texts}
use Rattle.mb_desk.specs.Options.{workers_choice}
use Rattle.mb_desk.specs.Words.{generate_command, generate_of_values, read_command}
use Rattle.mb_desk.proofs.words.read_generate.Goals as goal

pub returns-then-not-are_options : goal.returns-then-not-are_options
returns-then-not-are_options c =
    sym (ap (read_command generate_command) c.in_ok-seed.ensures
    ∙ number_no_options 0 largest_seed c.in_ok-seed-2.seed (workers_choice ∷ []) generate_of_values
    c.in_ok-seed.seed.now (texts c.in_ok-seed.options.now) c.in_ok-seed-2.ensures.number
    (sym c.if-not-are_options.ensures))

pub returns : goal.returns
returns c =
    sym (ap (read_command generate_command) c.in_ok-seed.ensures
    ∙ number_and_choice 0 largest_seed c.in_ok-seed-2.seed workers_choice
    (Count c.in_ok-workers.workers) generate_of_values c.in_ok-seed.seed.now
    (texts c.in_ok-seed.options.now) c.in_ok-seed-2.ensures.number
    (sym c.if-not-are_options.ensures) c.in_ok-workers.ensures)
