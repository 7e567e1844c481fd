-- The count of one object as one of both.
use Rattle.std.proofs.Common.{Bool, Option, arith, false, inl, inr, refl, true, ℕ}
use Rattle.mb_desk.specs.Decision.{HaveCause, scene}
use Rattle.mb_outside.specs.Causes.{HasCause}
use Rattle.mb_outside.specs.Files.{Held}
use Rattle.mb_outside.specs.Rows.{Rows}

-- where the files alone are called
pub files_cause : (f0 f1 : Option Held) (n m : ℕ) (r0 r1 : Option Rows) (k : ℕ) (blamed : Bool) →
    HasCause n m blamed → HaveCause (scene f0 n r0 k) (scene f1 m r1 k) blamed
files_cause f0 f1 n m r0 r1 k true rose = record {
  files = rose.later;
  rows = omega arith;
  one = inl (omega (arith, rose.counted));
}
files_cause f0 f1 n m r0 r1 k false same = (same.counted, refl)

-- and the keeper alone
pub keeper_cause : (f0 f1 : Option Held) (n : ℕ) (r0 r1 : Option Rows) (k l : ℕ) (blamed : Bool) →
    HasCause k l blamed → HaveCause (scene f0 n r0 k) (scene f1 n r1 l) blamed
keeper_cause f0 f1 n r0 r1 k l true rose = record {
  files = omega arith;
  rows = rose.later;
  one = inr (omega (arith, rose.counted));
}
keeper_cause f0 f1 n r0 r1 k l false same = (refl, same.counted)
