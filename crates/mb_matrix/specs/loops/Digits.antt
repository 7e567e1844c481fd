-- How the program keeps the digits of keys: in their order and in the reverse one.
use Rattle.std.specs.Prelude.{List, reverse, ◌<◌, ◌^◌, ◌≡◌}
use Rattle.mb_matrix.specs.Key.{key_count}
use Rattle.mb_matrix.specs.declared.digit.Digit.{Digit}

-- the digits make fewer than 2^64 keys, and the others are these in reverse
pub record AreKept (digits reversed : List Digit) : Type 0 where
  pub few : key_count digits < 2 ^ 64
  pub turned : reversed ≡ reverse digits
