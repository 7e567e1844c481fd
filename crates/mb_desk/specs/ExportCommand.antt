-- The command `export`: a record is written to a file.
use Rattle.std.specs.Fmt.{decimal}
use Rattle.std.specs.Prelude.{List, Ok, [], codes, length, ℕ, ◌++◌, ◌∷◌}
use Rattle.mb_certificate.specs.Certificate.{Certificate}
use Rattle.mb_certificate.specs.Written.{rules_text, text_of}
use Rattle.mb_data.specs.Written as datasets
use Rattle.mb_desk.specs.Decision.{Decided}
use Rattle.mb_desk.specs.Parts.{part_word}
use Rattle.mb_desk.specs.Recorded.{found}
use Rattle.mb_desk.specs.World.{World}
use Rattle.mb_desk.specs.declared.parts.Part.{Part}
use Rattle.mb_desk.specs.declared.parts.Part.TheVariants as parts
use Rattle.mb_desk.specs.declared.plans.Change.TheVariants.{Writes}
use Rattle.mb_desk.specs.declared.plans.Plan.{Plan}
use Rattle.mb_moves.specs.Written.{matrix_file, written}
use Rattle.mb_outside.specs.Rows.{Rows}
use Rattle.mb_registry.specs.Looking.{basis_named, dataset_named, model_named}
use Rattle.mb_tables.specs.Answers.{◌>>=◌}

-- the move file of the moves of a certificate
abbrev pub moves_file : Certificate → List ℕ
moves_file c = written (record { width = length c.matrix.columns; rows = c.moves })

-- what is written of a part of a certificate, which a dataset and a model have none of
abbrev pub certificate_part : Part → Certificate → List ℕ
certificate_part parts.Moves c = moves_file c
certificate_part parts.Rules c = rules_text c.rules
certificate_part parts.Certificate c = text_of c
certificate_part parts.Dataset c = text_of c
certificate_part parts.Matrix c = text_of c

-- what is written of a part of the basis of a name
abbrev pub exported_basis : Part → List ℕ → Rows → Decided (List ℕ)
exported_basis part name rows =
    found (basis_named name) rows >>= λ basis. Ok (certificate_part part basis.1)

-- what is written of a part of the record of a name
abbrev pub exported : Part → List ℕ → Rows → Decided (List ℕ)
exported parts.Dataset name rows =
    found (dataset_named name) rows >>= λ table. Ok (datasets.written table)
exported parts.Matrix name rows =
    found (model_named name) rows >>= λ model. Ok (matrix_file (model.1).matrix)
exported parts.Moves name rows = exported_basis parts.Moves name rows
exported parts.Certificate name rows = exported_basis parts.Certificate name rows
exported parts.Rules name rows = exported_basis parts.Rules name rows

-- the printed line: what was written of which record, and how many bytes that is
abbrev pub wrote_line : Part → List ℕ → List ℕ → List ℕ
wrote_line part name body =
    codes "wrote " ++ (part_word part ++ (32 ∷ name
    ++ (codes " bytes " ++ (decimal (length body) ++ 10 ∷ []))))

-- the plan that writes a file and prints the line
abbrev pub writing : Part → List ℕ → List ℕ → List ℕ → Plan
writing part name file body =
    record { answer = wrote_line part name body; change = Writes file body }

-- the plan of the command, where nothing refuses it
abbrev pub export_plan : Part → List ℕ → List ℕ → World → Decided Plan
export_plan part name file w =
    exported part name w.rows >>= λ body. Ok (writing part name file body)
