-- Two names, and then the options, if the words are some.
use Rattle.std.proofs.Common.{Some, [], ap, sym, ◌∙◌, ◌∷◌}
use Rattle.mb_desk.proofs.OptionWords.{names_and_choices, names_no_options}
use Rattle.mb_desk.specs.Forms.{Count, texts}
use Rattle.mb_desk.specs.Options.{fiber_choice, workers_choice}
use Rattle.mb_desk.specs.Words.{analyse_command, analyse_of_values, read_command}
use Rattle.mb_desk.specs.declared.requests.Request.TheVariants.{Analyse}
use Rattle.mb_desk.proofs.words.read_analyse.Goals as goal

pub returns-then-not-are_options : goal.returns-then-not-are_options
returns-then-not-are_options c =
    sym (ap (read_command analyse_command) c.in_ok-name.ensures.two
    ∙ names_no_options (fiber_choice ∷ workers_choice ∷ []) analyse_of_values
    c.in_ok-name.name.now c.in_ok-name.basis.now (texts c.in_ok-name.options.now)
    (c.in_ok-name-2.ensures).1 (c.in_ok-basis.ensures).1 (sym c.if-not-are_options.ensures))

pub returns : goal.returns
returns c =
    ap (λ name. Some (Analyse (record {
      name = name;
      basis = c.in_ok-basis.basis;
      limit = c.in_ok-limit.limit;
      workers = c.in_ok-workers.workers;
    }))) (c.in_ok-name-2.ensures).0
    ∙ ap (λ basis. Some (Analyse (record {
      name = c.in_ok-name.name.now;
      basis = basis;
      limit = c.in_ok-limit.limit;
      workers = c.in_ok-workers.workers;
    }))) (c.in_ok-basis.ensures).0
    ∙ sym (ap (read_command analyse_command) c.in_ok-name.ensures.two
    ∙ names_and_choices fiber_choice workers_choice (Count c.in_ok-limit.limit)
    (Count c.in_ok-workers.workers) analyse_of_values c.in_ok-name.name.now
    c.in_ok-name.basis.now (texts c.in_ok-name.options.now) (c.in_ok-name-2.ensures).1
    (c.in_ok-basis.ensures).1 (sym c.if-not-are_options.ensures) c.in_ok-limit.ensures
    c.in_ok-workers.ensures)
