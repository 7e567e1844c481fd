use Rattle.std.proofs.Common.{rules}
use Rattle.mb_kinds.proofs.Texts.{toml_read, toml_refused}
use Rattle.mb_kinds.proofs.model_text.read_text.Goals as goal
use Rattle.toml.specs.View.{table_view}

pub returns-in-Ok : goal.returns-in-Ok
returns-in-Ok c =
    toml_read c.args.text.now (table_view c.in-Ok.table) c.in-Ok.ensures.ok.0 c.in-Ok.ensures.ok.1

pub returns-in-Err-2 : goal.returns-in-Err-2
returns-in-Err-2 c =
    toml_refused c.args.text.now (λ utf. search (rules, c.in-Err.ensures.refused))
