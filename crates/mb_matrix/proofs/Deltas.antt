-- What a step along a move adds to the key and to the rank of a table.
use Rattle.std.proofs.Common.{List, arith, reverse, subst, ℕ, ℤ, ◌%◌, ◌+◌, ◌<◌, ◌^◌, ◌≡◌}
use Rattle.mb_matrix.proofs.Congruence.{delta_added, delta_taken}
use Rattle.mb_matrix.proofs.Digits.{number-most}
use Rattle.mb_matrix.proofs.Ranks.{rank-below}
use Rattle.mb_matrix.specs.Key.{IsDelta, Suits, key_count, key_of, number, rank_of}
use Rattle.mb_matrix.specs.declared.digit.Digit.{Digit}
use Rattle.mb_tables.specs.Step.{Adds}

-- what is added to values below 2^64, up to multiples of it
is_delta : (value : List ℕ → ℕ) (digits : List Digit) (move : List ℤ) (delta : ℕ) →
    delta < 2 ^ 64 →
    ((u v : List ℕ) → Adds u move v → (value u + delta) % 2 ^ 64 ≡ value v % 2 ^ 64) →
    ((v : List ℕ) → Suits digits v → value v < 2 ^ 64) → IsDelta value digits move delta
is_delta value digits move delta fits adds below = record {
  added = λ u v a s. delta_added (value u) (value v) delta (below v s) (adds u v a);
  subtracted = λ u v a s. delta_taken (value u) (value v) delta fits (below v s) (adds v u a);
}

-- what is added to a number is added to the number and 1
one_more : (a b delta : ℕ) → (a + delta) % 2 ^ 64 ≡ b % 2 ^ 64 →
    (1 + a + delta) % 2 ^ 64 ≡ (1 + b) % 2 ^ 64
one_more a b delta e = omega arith

-- what is added to the number of the digits is added to keys
pub key-delta : (digits items : List Digit) (move : List ℤ) (delta : ℕ) → items ≡ digits →
    key_count digits < 2 ^ 64 → delta < 2 ^ 64 →
    ((u v : List ℕ) → Adds u move v →
    (number items u + delta) % 2 ^ 64 ≡ number items v % 2 ^ 64) →
    IsDelta (key_of digits) digits move delta
key-delta digits items move delta e few fits adds =
    is_delta (key_of digits) digits move delta fits
    (λ u v a. one_more (number digits u) (number digits v) delta
    (subst (λ l. (number l u + delta) % 2 ^ 64 ≡ number l v % 2 ^ 64) e (adds u v a)))
    (λ v s. let m = number-most digits v s in omega arith)

-- and what is added to the number of the digits in reverse is added to ranks
pub rank-delta : (digits items : List Digit) (move : List ℤ) (delta : ℕ) →
    items ≡ reverse digits →
    key_count digits < 2 ^ 64 → delta < 2 ^ 64 →
    ((u v : List ℕ) → Adds u move v →
    (number items u + delta) % 2 ^ 64 ≡ number items v % 2 ^ 64) →
    IsDelta (rank_of digits) digits move delta
rank-delta digits items move delta e few fits adds =
    is_delta (rank_of digits) digits move delta fits
    (λ u v a. subst (λ l. (number l u + delta) % 2 ^ 64 ≡ number l v % 2 ^ 64) e (adds u v a))
    (λ v s. let m = rank-below digits v s in omega arith)
