-- What the answer of the command means that proves moves beside a certificate.
use Rattle.std.specs.FinMap.{get}
use Rattle.std.specs.Prelude.{List, Ok, Some, ℕ, ◌≡◌}
use Rattle.mb_certificate.specs.Certificate.{Certificate}
use Rattle.mb_certificate.specs.Valid.{IsValid, free_rules}
use Rattle.mb_desk.specs.BasisCommand.{certificate_lines}
use Rattle.mb_desk.specs.StoredAnswers.{HasBasis, IsKept}
use Rattle.mb_desk.specs.World.{World}
use Rattle.mb_desk.specs.declared.requests.ImportWords.{ImportWords}
use Rattle.mb_matrix.specs.MarkovBasis.{IsMarkovBasis}
use Rattle.mb_moves.specs.GridText.{moves_of}
use Rattle.mb_paths.specs.Beside.{AreLeastPaths, with_moves}
use Rattle.mb_registry.specs.Bodies.{basis_text}
use Rattle.mb_registry.specs.declared.kinds.Kind.TheVariants.{Basis}
use Rattle.mb_tables.specs.Rows.{Rows}

-- `import`: the text of the file says moves that are a Markov basis of the matrix of the named
-- basis. The certificate that is kept is valid, and is that of the named basis with these moves
-- and, for each rule without symbols of margins, the least path that they have; its model is the
-- same. Its numbers of rules and moves are printed
pub record AnswersImport (w v : World) (words : ImportWords) (answer : List ℕ) : Type 0 where
  pub text : List ℕ
  pub moves : Rows
  pub there : get w.files words.moves ≡ Some text
  pub read : moves_of text ≡ Ok moves
  pub model : List ℕ
  pub named : Certificate
  pub named_there : HasBasis w.rows words.basis model named
  pub new : Certificate
  pub made : new ≡ with_moves named moves.rows new.paths
  pub least : AreLeastPaths words.limit named moves.rows
      (free_rules named.matrix.rows named.rules) new.paths
  pub valid : IsValid new
  pub basis : IsMarkovBasis named.matrix moves.rows
  pub kept : IsKept Basis words.name (basis_text model new) (certificate_lines new) w.rows v.rows
      answer
