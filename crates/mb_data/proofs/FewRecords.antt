-- A text has no more records than bytes, and one.
use Rattle.std.proofs.Common.{List, None, Option, Some, [], arith, false, if◌then◌else◌, length, suc, true, zero, ℕ, ◌+◌, ◌∷◌, ◌≤◌, Bool}
use Rattle.csv.specs.Machine.{Read, next_record}
use Rattle.csv.specs.Reading.{default_config, is_bom, records_from, records_next, strip_bom}
use Rattle.csv.specs.declared.parser.State.{State}
use Rattle.csv.specs.declared.parser.State.TheVariants as st
use Rattle.mb_data.specs.Records.{records_of}

-- one record more, in one turn more
one_more : (n : ℕ) (read : Option Read)
    → ((state : State) (text : List ℕ) → length (records_from default_config n state text) ≤ n)
    → length (records_next (records_from default_config n) read) ≤ suc n
one_more n None few = omega arith
one_more n (Some read) few = omega (arith, few read.1 read.2)

-- no more records than turns
few_from : (n : ℕ) (state : State) (text : List ℕ)
    → length (records_from default_config n state text) ≤ n
unfolding records_from
few_from zero state text = omega arith
few_from (suc n) state text = one_more n (next_record default_config state [] [] text) (few_from n)

-- a byte order mark is skipped, or nothing
skipped : (b : Bool) (some less : List ℕ) → length less ≤ length some
    → length (if b then less else some) ≤ length some
skipped true some less is = is
skipped false some less is = omega arith

shorter : (text : List ℕ) → length (strip_bom text) ≤ length text
unfolding strip_bom
shorter [] = omega arith
shorter (a ∷ []) = omega arith
shorter (a ∷ b ∷ []) = omega arith
shorter (a ∷ b ∷ c ∷ rest) = skipped (is_bom a b c) (a ∷ b ∷ c ∷ rest) rest (omega arith)

pub few_records : (text : List ℕ) → length (records_of text) ≤ length text + 1
few_records text =
    omega (
      arith,
      few_from (length (strip_bom text) + 1) st.StartRecord
          (strip_bom text),
      shorter text,
    )
