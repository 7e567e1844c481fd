-- What a walk gives: the rings, and the root of the claims by which it found them.
use Rattle.std.specs.Prelude.{IfSome, List, None, Option, [], ◌^◌, ◌↔◌, ◌≡◌, ◌≤◌}
use Rattle.mb_claims.specs.Claims.{RootSeat}
use Rattle.mb_matrix.specs.Key.{key_count}
use Rattle.mb_matrix.specs.declared.digit.Digit.{Digit}
use Rattle.mb_rings.specs.Claimed.{AreKeysOf}
use Rattle.mb_rings.specs.Ring.{Ring, tables_of}

-- the rings, and a root where the walk claimed keys and has it still
pub record Walked : Type 0 where
  pub rings : List Ring
  pub claims : Option RootSeat

-- there is no root exactly where the tables have no keys of 64 bits; else no pass is open, and the
-- root has gathered the keys of the tables of the rings, each once
pub record AreClaims (digits : List Digit) (walked : Walked) : Type 0 where
  pub none : (walked.claims ≡ None) ↔ (2 ^ 64 ≤ key_count digits)
  pub root : IfSome walked.claims (λ root. (root.knows.opened ≡ [])
      × AreKeysOf digits (tables_of walked.rings) root.knows.gathered)
