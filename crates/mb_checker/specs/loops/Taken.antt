-- The lines of paths, judged rule by rule.
use Rattle.std.specs.List.{filter, range_with_len}
use Rattle.std.specs.Prelude.{length, ℕ, ◌<◌, ◌≡◌, ◌≤◌, ◌^◌}
use Rattle.mb_certificate.specs.Certificate.{Certificate}
use Rattle.mb_certificate.specs.FirstFault.{path_lines}
use Rattle.mb_certificate.specs.Valid.{is_free}
use Rattle.mb_checker.specs.loops.Lines.{AreRightBefore}

-- so many lines are judged, one for each margin-free rule before the one of this number; none is
-- wrong
pub record ArePassed (c : Certificate) (k next : ℕ) : Type 0 where
  pub place : next ≡ length (filter (is_free c.matrix.rows c.rules) (range_with_len 0 k))
  pub right : AreRightBefore (path_lines c) next
  pub within : next ≤ length c.paths
  pub few : length c.paths < 2 ^ 32
