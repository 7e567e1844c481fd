-- Lines that are written are read, and what is read is what is written.
use Rattle.std.proofs.Common.{All, List, Ok, Result, [], ap, append_assoc, arith, false, length, length-append, map, refl, suc, subst, sym, zero, ℕ, ◌++◌, ◌+◌, ◌<◌, ◌==◌, ◌∙◌, ◌∷◌, ◌≡◌, ◌≢◌}
use Rattle.std.proofs.lemmas.Bool.Decides.{nat_tests}
use Rattle.std.proofs.lemmas.List.Elements.{All-head}
use Rattle.std.specs.Fmt.{decimal}
use Rattle.std.specs.List.{AllByRecursion, flat_map, join_with_byte}
use Rattle.mb_certificate.proofs.ItemLaws.{items_at}
use Rattle.mb_certificate.proofs.NumberItems.{IsWithin}
use Rattle.mb_certificate.proofs.PieceCases.{first_line_is}
use Rattle.mb_certificate.specs.CertificateText.{counted, section}
use Rattle.mb_certificate.specs.Reading.{ItemsLeft, LinesLeft, first_line, next_line, says, times}
use Rattle.mb_certificate.specs.Written.{section_text}
use Rattle.mb_tables.specs.Answers.{◌>>=◌}
use Rattle.mb_text.proofs.PieceCases.{some_piece}
use Rattle.mb_text.proofs.PieceLaws.{first_line as line_cut, pieces_again}
use Rattle.mb_text.proofs.RecordSteps.{step_on, stepped}
use Rattle.mb_text.proofs.SaidLines.{line_joined}
use Rattle.mb_text.specs.Laws.{Lacks}
use Rattle.mb_text.specs.Lines.{items, line, lines}
use Rattle.mb_text.specs.Tokens.{IsToken, is_blank}

-- a text from the line of this number on
abbrev pub lines_at : ℕ → List ℕ → LinesLeft
lines_at number text = record { number = number; pieces = lines text }

-- what is left, as one text
abbrev pub text_left : LinesLeft → List ℕ
text_left left = join_with_byte 10 left.pieces

-- a reading of lines and the items that are written: what is written of a sound value is read as
-- it, and what is read is what is written of a sound value
pub record Reads {A : Type 0} (read : ItemsLeft → Result A ℕ) (write : A → List (List ℕ))
    (P : A → Type 0) : Type 0 where
  pub written : (number : ℕ) (x : A) → P x → read (items_at number (write x)) ≡ Ok x
  pub is_written : (items : ItemsLeft) (x : A) → read items ≡ Ok x →
      (items.items ≡ write x) × P x
  pub some : (x : A) → P x → write x ≢ []
  pub tokens : (x : A) → P x → All IsToken (write x)

-- a byte of a token is no line end
no_end : (b : ℕ) → is_blank b ≡ false → (b == 10) ≡ false
no_end b e = grind (arith, nat_tests, e)

-- and no space
no_space : (b : ℕ) → is_blank b ≡ false → (b == 32) ≡ false
no_space b e = grind (arith, nat_tests, e)

-- tokens have no line end
lack_ends : (list : List (List ℕ)) → All IsToken list → All (Lacks 10) list
lack_ends list each k d l i c m = no_end _ ((each k d l).plain i c m)

-- and no space
lack_spaces : (list : List (List ℕ)) → All IsToken list → All (Lacks 32) list
lack_spaces list each k d l i c m = no_space _ ((each k d l).plain i c m)

-- a token has a byte
token_long : (token : List ℕ) → token ≢ [] → 0 < length token
token_long [] some = absurd (some refl)
token_long (b ∷ token) some = omega arith

-- so has a line of tokens
filled : (list : List (List ℕ)) → list ≢ [] → All IsToken list → 0 < length (join_with_byte 32 list)
filled [] some each = absurd (some refl)
filled (x ∷ []) some each = token_long x (All-head IsToken x [] each).some
filled (x ∷ y ∷ list) some each =
    let long = token_long x (All-head IsToken x (y ∷ list) each).some in
    let both = length-append x (32 ∷ join_with_byte 32 (y ∷ list)) in
    omega arith

-- a line that was taken
record Taken (pieces : List (List ℕ)) (found : ItemsLeft) (rest : LinesLeft) : Type 0 where
  pub first : List ℕ
  pub is : found.items ≡ items first
  pub joined : join_with_byte 10 pieces ≡ first ++ 10 ∷ text_left rest

-- is the first of the pieces
taken : (number : ℕ) (pieces : List (List ℕ)) (found : ItemsLeft) (rest : LinesLeft) →
    first_line number pieces ≡ Ok (found, rest) → Taken pieces found rest
taken number [] found rest e = absurd cc
taken number ([] ∷ pieces) found rest e = absurd cc
taken number ((b ∷ first) ∷ []) found rest e = absurd cc
taken number ((b ∷ first) ∷ next ∷ pieces) found rest e =
    let both : (
      items_at number (items (b ∷ first)),
      record { number = number + 1; pieces = next ∷ pieces },
    ) ≡ (found, rest) = cc in
    let list = ap (λ (p : ItemsLeft × LinesLeft). p.0.items) both in
    let after = ap (λ (p : ItemsLeft × LinesLeft). p.1.pieces) both in
    record {
      first = b ∷ first;
      is = sym list;
      joined = ap (λ ps. (b ∷ first) ++ 10 ∷ join_with_byte 10 ps) after;
    }

module _ {A : Type 0} (read : ItemsLeft → Result A ℕ) (write : A → List (List ℕ))
    (P : A → Type 0) (reads : Reads read write P) where
  -- a line that is written is read
  pub line_written : (number : ℕ) (x : A) (rest : List ℕ) → P x →
      says read (lines_at number (line (write x) ++ rest)) ≡ Ok (x, lines_at (number + 1) rest)
  unfolding says
  line_written number x rest is =
      let tokens = reads.tokens x is in
      let some = reads.some x is in
      let ending : Result A ℕ → Result (A × LinesLeft) ℕ =
      λ r. r >>= λ x. Ok (x, lines_at (number + 1) rest) in
      let next : ItemsLeft × LinesLeft → Result (A × LinesLeft) ℕ =
      λ line. read line.0 >>= λ x. Ok (x, line.1) in
      step_on (next_line (lines_at number (line (write x) ++ rest)))
      (items_at number (items (join_with_byte 32 (write x))), lines_at (number + 1) rest) next _
      (first_line_is number (lines (line (write x) ++ rest)) (join_with_byte 32 (write x))
      (lines rest) (line_cut (write x) rest (lack_ends (write x) tokens))
      (filled (write x) some tokens) (some_piece 10 rest))
      (ap (λ list. ending (read (items_at number list)))
      (pieces_again 32 (write x) some (lack_spaces (write x) tokens))
      ∙ ap ending (reads.written number x is))

  -- so are lines
  pub lines_written : (number : ℕ) (xs : List A) (rest : List ℕ) → AllByRecursion P xs →
      (m : ℕ) × (times (says read) (length xs)
      (lines_at number (flat_map line (map write xs) ++ rest)) ≡ Ok (xs, lines_at m rest))
  unfolding times
  lines_written number [] rest each = (number, refl)
  lines_written number (x ∷ xs) rest each =
      let others = flat_map line (map write xs) ++ rest in
      let more = lines_written (number + 1) xs rest each.1 in
      let next : A × LinesLeft → Result (List A × LinesLeft) ℕ =
      λ first. times (says read) (length xs) first.1 >>= λ others.
      Ok (first.0 ∷ others.0, others.1) in
      let after : Result (List A × LinesLeft) ℕ → Result (List A × LinesLeft) ℕ =
      λ found. found >>= λ others. Ok (x ∷ others.0, others.1) in (
        more.0,
        step_on (says read (lines_at number (flat_map line (map write (x ∷ xs)) ++ rest)))
            (x, lines_at (number + 1) others) next _
            (ap (λ text. says read (lines_at number text))
            (append_assoc (line (write x)) (flat_map line (map write xs)) rest)
            ∙ line_written number x others each.0)
            (ap after more.1),
      )

  -- a line that was read is what is written
  pub line_is : (left rest : LinesLeft) (x : A) → says read left ≡ Ok (x, rest) →
      (text_left left ≡ line (write x) ++ text_left rest) × P x
  unfolding says
  line_is left rest x e =
      let next : ItemsLeft × LinesLeft → Result (A × LinesLeft) ℕ =
      λ line. read line.0 >>= λ x. Ok (x, line.1) in
      let first = stepped (next_line left) next (x, rest) e in
      let after : A → Result (A × LinesLeft) ℕ = λ x. Ok (x, first.0.1) in
      let value = stepped (read first.0.0) after (x, rest) first.2 in
      let both : (value.0, first.0.1) ≡ (x, rest) = cc in
      let same = ap (λ (p : A × LinesLeft). p.0) both in
      let left_over = ap (λ (p : A × LinesLeft). text_left p.1) both in
      let cut = taken left.number left.pieces first.0.0 first.0.1 first.1 in
      let found = reads.is_written first.0.0 x (value.1 ∙ ap Ok same) in (
        cut.joined ∙ ap (λ t. cut.first ++ 10 ∷ t) left_over
            ∙ line_joined cut.first (write x) (text_left rest) (sym cut.is ∙ found.0),
        found.1,
      )

  -- so are lines
  pub lines_are : (count : ℕ) (left rest : LinesLeft) (xs : List A) →
      times (says read) count left ≡ Ok (xs, rest) →
      (text_left left ≡ flat_map line (map write xs) ++ text_left rest) × AllByRecursion P xs
      × (length xs ≡ count)
  unfolding times
  lines_are zero left rest xs e =
      let both : ([], left) ≡ (xs, rest) = cc in
      by xs (ap (λ (p : List A × LinesLeft). p.0) both)
      (ap (λ (p : List A × LinesLeft). text_left p.1) both)
    where
      by : (xs : List A) → [] ≡ xs → text_left left ≡ text_left rest →
          (text_left left ≡ flat_map line (map write xs) ++ text_left rest) × AllByRecursion P xs
          × (length xs ≡ zero)
      by [] none same = (same, tt, refl)
      by (x ∷ xs) none same = absurd cc
  lines_are (suc count) left rest xs e =
      let next : A × LinesLeft → Result (List A × LinesLeft) ℕ =
      λ first. times (says read) count first.1 >>= λ others.
      Ok (first.0 ∷ others.0, others.1) in
      let first = stepped (says read left) next (xs, rest) e in
      let after : List A × LinesLeft → Result (List A × LinesLeft) ℕ =
      λ others. Ok (first.0.0 ∷ others.0, others.1) in
      let more = stepped (times (says read) count first.0.1) after (xs, rest) first.2 in
      let head = line_is left first.0.1 first.0.0 first.1 in
      let others = lines_are count first.0.1 more.0.1 more.0.0 more.1 in
      let both : (first.0.0 ∷ more.0.0, more.0.1) ≡ (xs, rest) = cc in
      by first.0.0 more.0.0 xs (ap (λ (p : List A × LinesLeft). p.0) both)
      (head.0 ∙ ap (λ text. line (write first.0.0) ++ text)
      (others.0 ∙ ap (λ (p : List A × LinesLeft).
      flat_map line (map write more.0.0) ++ text_left p.1) both)
      ∙ sym (append_assoc (line (write first.0.0)) (flat_map line (map write more.0.0))
      (text_left rest)))
      head.1 others.1 others.2
    where
      by : (y : A) (ys xs : List A) → y ∷ ys ≡ xs →
          text_left left ≡ flat_map line (map write (y ∷ ys)) ++ text_left rest →
          P y → AllByRecursion P ys → length ys ≡ count →
          (text_left left ≡ flat_map line (map write xs) ++ text_left rest) × AllByRecursion P xs
          × (length xs ≡ suc count)
      by y ys xs e same one all many =
          subst (λ zs. (text_left left ≡ flat_map line (map write zs) ++ text_left rest)
          × AllByRecursion P zs × (length zs ≡ suc count)) e (same, (one, all), ap suc many)

module _ {A : Type 0} (read : ItemsLeft → Result A ℕ) (write : A → List (List ℕ))
    (P : A → Type 0) (reads : Reads read write P) (name : List ℕ) (lowest highest : ℕ)
    (count : Reads (counted name lowest highest) (λ n. name ∷ decimal n ∷ [])
    (IsWithin lowest highest)) where
  -- a section that is written is read
  pub section_written : (number : ℕ) (xs : List A) (rest : List ℕ) → AllByRecursion P xs →
      IsWithin lowest highest (length xs) →
      (m : ℕ) × (section name lowest highest read
      (lines_at number (section_text name write xs ++ rest)) ≡ Ok (xs, lines_at m rest))
  section_written number xs rest each many =
      let list = flat_map line (map write xs) ++ rest in
      let more = lines_written read write P reads (number + 1) xs rest each in
      let next : ℕ × LinesLeft → Result (List A × LinesLeft) ℕ =
      λ count. times (says read) count.0 count.1 in (
        more.0,
        step_on (says (counted name lowest highest)
            (lines_at number (section_text name write xs ++ rest)))
            (length xs, lines_at (number + 1) list) next _
            (ap (λ text. says (counted name lowest highest) (lines_at number text))
            (append_assoc (line (name ∷ decimal (length xs) ∷ [])) (flat_map line (map write xs))
            rest)
            ∙ line_written (counted name lowest highest) (λ n. name ∷ decimal n ∷ [])
            (IsWithin lowest highest) count number (length xs) list many)
            more.1,
      )

  -- a section that was read is what is written
  pub section_is : (left rest : LinesLeft) (xs : List A) →
      section name lowest highest read left ≡ Ok (xs, rest) →
      (text_left left ≡ section_text name write xs ++ text_left rest) × AllByRecursion P xs
      × IsWithin lowest highest (length xs)
  section_is left rest xs e =
      let next : ℕ × LinesLeft → Result (List A × LinesLeft) ℕ =
      λ count. times (says read) count.0 count.1 in
      let first = stepped (says (counted name lowest highest) left) next (xs, rest) e in
      let head =
      line_is (counted name lowest highest) (λ n. name ∷ decimal n ∷ [])
      (IsWithin lowest highest) count left first.0.1 first.0.0 first.1 in
      let list = lines_are read write P reads first.0.0 first.0.1 rest xs first.2 in
      let many : first.0.0 ≡ length xs = sym list.2 in (
        head.0
            ∙ ap (λ text. line (name ∷ decimal first.0.0 ∷ []) ++ text) list.0
            ∙ ap (λ n. line (name ∷ decimal n ∷ [])
            ++ (flat_map line (map write xs) ++ text_left rest)) many
            ∙ sym (append_assoc (line (name ∷ decimal (length xs) ∷ []))
            (flat_map line (map write xs)) (text_left rest)),
        list.1,
        subst (IsWithin lowest highest) many head.1,
      )
