-- The command `basis`: a model is completed, and the certificate that is made is kept.
use Rattle.std.specs.Fmt.{decimal}
use Rattle.std.specs.Prelude.{List, Some, [], codes, length, ℕ, ◌++◌, ◌∷◌}
use Rattle.mb_certificate.specs.Certificate.{Certificate}
use Rattle.mb_desk.specs.Completing.{completed}
use Rattle.mb_desk.specs.Decision.{Decided}
use Rattle.mb_desk.specs.Recorded.{found, kept_plan}
use Rattle.mb_desk.specs.declared.completing.Completion.{Completion}
use Rattle.mb_desk.specs.declared.plans.Plan.{Plan}
use Rattle.mb_desk.specs.declared.requests.BasisWords.{BasisWords}
use Rattle.mb_outside.specs.Rows.{Rows}
use Rattle.mb_registry.specs.Bodies.{basis_text}
use Rattle.mb_registry.specs.Looking.{model_named}
use Rattle.mb_registry.specs.declared.kinds.Kind.TheVariants.{Basis, Model}
use Rattle.mb_tables.specs.Answers.{◌>>=◌}

-- the lines of a certificate: how many rules and moves there are
abbrev pub certificate_lines : Certificate → List ℕ
certificate_lines c =
    codes "rules " ++ (decimal (length c.rules)
    ++ (codes "\nmoves " ++ (decimal (length c.moves) ++ 10 ∷ [])))

-- the printed lines: how many critical pairs were looked at, and those of the certificate
abbrev pub completion_lines : Completion → List ℕ
completion_lines completion =
    codes "looks " ++ (decimal completion.looks ++ (10 ∷ certificate_lines completion.certificate))

-- the completion of the model of a name
abbrev pub completed_named : BasisWords → Rows → Decided Completion
completed_named words rows = do
  model ← found (model_named words.model) rows
  completed model.1.matrix words.order words.looks

-- the plan of the command: the model is looked up and completed, and its basis is kept
abbrev pub basis_plan : BasisWords → Rows → Decided Plan
basis_plan words rows = do
  completion ← completed_named words rows
  kept_plan Basis words.name (Some (Model, words.model))
      (basis_text words.model completion.certificate) (completion_lines completion) rows
