-- Records that the default writer writes are the records of their text.
use Rattle.std.proofs.Common.{Bool, List, [], ap, arith, false, if◌then◌else◌, inl, inr, length, map, nat_eq, refl, suc, true, zero, ℕ, ◌&&◌, ◌++◌, ◌==◌, ◌∷◌, ◌≡◌, ◌≤◌}
use Rattle.std.proofs.lemmas.Bool.{cases_Bool, eqb-true}
use Rattle.std.proofs.lemmas.List.{length-append}
use Rattle.std.specs.List.{flat_map, list_any, starts_with}
use Rattle.csv.specs.Reading.{default_config, is_bom, records_from, strip_bom}
use Rattle.csv.specs.Writing.{default_writer, field_text, is_blank, needs_byte, read_back, row_body, row_text}
use Rattle.csv.specs.declared.parser.State.TheVariants as st
use Rattle.csv.proofs.RoundTrip.{read-write}
use Rattle.mb_data.specs.HeaderText.{order_mark}
use Rattle.mb_data.proofs.RecordsLeft.{nothing_left}

-- the text of records
abbrev pub text_of : List (List (List ℕ)) → List ℕ
text_of rows = flat_map (row_text default_writer) rows

-- a record's text has a byte
one_byte : (fields : List (List ℕ)) → 1 ≤ length (row_text default_writer fields)
one_byte fields =
    let quotes : List ℕ = if is_blank default_writer fields then 34 ∷ 34 ∷ [] else [] in
    let whole = length-append (row_body default_writer fields) (quotes ++ 10 ∷ []) in
    let end = length-append quotes (10 ∷ []) in
    omega (arith, whole, end)

-- so there are no more records than bytes
pub few_rows : (rows : List (List (List ℕ))) → length rows ≤ length (text_of rows)
few_rows [] = omega arith
few_rows (row ∷ rows) =
    let whole = length-append (row_text default_writer row) (text_of rows) in
    omega (arith, whole, one_byte row, few_rows rows)

-- enough turns read all of them
pub turns : (rows : List (List (List ℕ))) (n : ℕ) → length rows ≤ n
    → records_from default_config n st.StartRecord (text_of rows) ≡ map read_back rows
unfolding records_from
turns [] n few = nothing_left n
turns (row ∷ rows) zero few = absurd (omega (arith, few))
turns (row ∷ rows) (suc n) few =
    rw (read-write row (text_of rows))
    (ap (λ (t : List (List (List ℕ))). read_back row ∷ t) (turns rows n (omega (arith, few))))

-- a first byte that begins no byte order mark
other_byte : (b : ℕ) (rest : List ℕ) → (b == 0xEF) ≡ false → strip_bom (b ∷ rest) ≡ b ∷ rest
unfolding strip_bom
other_byte b [] other = refl
other_byte b (c ∷ []) other = refl
other_byte b (c ∷ d ∷ rest) other = rw other refl

-- three bytes that are no byte order mark
other_three : (b c d : ℕ) (rest : List ℕ) → is_bom b c d ≡ false
    → strip_bom (b ∷ c ∷ d ∷ rest) ≡ b ∷ c ∷ d ∷ rest
unfolding strip_bom
other_three b c d rest other = rw other refl

-- a text begins with these three where its first three bytes are these
mark_test : (b c d : ℕ) → starts_with nat_eq (b ∷ c ∷ d ∷ []) order_mark ≡ false
    → is_bom b c d ≡ false
mark_test b c d other = elim (cases_Bool (b == 0xEF)) [
  | inr no_b ↦ rw no_b refl
  | inl is_b ↦ elim (cases_Bool (c == 0xBB)) [
    | inr no_c ↦ rw (is_b, no_c) refl
    | inl is_c ↦ elim (cases_Bool (d == 0xBF)) [
      | inr no_d ↦ rw (is_b, is_c, no_d) refl
      | inl is_d ↦
          let e : starts_with nat_eq (0xEF ∷ 0xBB ∷ 0xBF ∷ []) order_mark ≡ false =
          rw (eqb-true b 0xEF is_b, eqb-true c 0xBB is_c, eqb-true d 0xBF is_d) at other in
          absurd (cc e)
    ]
  ]
]

-- a comma after a field that doesn't begin with a byte order mark
plain_start : (field rest : List ℕ) → starts_with nat_eq field order_mark ≡ false
    → strip_bom (field ++ 44 ∷ rest) ≡ field ++ 44 ∷ rest
unfolding strip_bom
plain_start [] rest other = other_byte 44 rest refl
plain_start (b ∷ []) [] other = refl
plain_start (b ∷ []) (d ∷ rest) other = other_three b 44 d rest (go (b == 0xEF) (d == 0xBF))
  where
    go : (x y : Bool) → ((x && false) && y) ≡ false
    go true y = refl
    go false y = refl
plain_start (b ∷ c ∷ []) rest other = other_three b c 44 rest (go (b == 0xEF) (c == 0xBB))
  where
    go : (x y : Bool) → ((x && y) && false) ≡ false
    go true true = refl
    go true false = refl
    go false y = refl
plain_start (b ∷ c ∷ d ∷ field) rest other =
    other_three b c d (field ++ 44 ∷ rest) (mark_test b c d other)

-- a field as it is written, in quotes or not
pub field_start : (field rest : List ℕ) → starts_with nat_eq field order_mark ≡ false
    → strip_bom (field_text default_writer field ++ 44 ∷ rest)
    ≡ field_text default_writer field ++ 44 ∷ rest
field_start field rest other = elim (cases_Bool (list_any (needs_byte default_writer) field)) [
  | inl quoted ↦ rw quoted (other_byte 34 _ refl)
  | inr plain ↦ rw plain (plain_start field rest other)
]
