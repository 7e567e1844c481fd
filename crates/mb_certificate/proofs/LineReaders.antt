-- What each line of a certificate is read as, both ways.
use Rattle.std.proofs.Common.{All, Bool, List, None, Ok, Option, Result, Some, [], ap, append-nil, arith, codes, cond, false, get_or, length, map, not, pos, refl, subst, sym, true, ℕ, ℤ, ◌++◌, ◌<◌, ◌^◌, ◌∙◌, ◌∷◌, ◌≡◌, ◌≢◌, ◌≤◌}
use Rattle.std.proofs.lemmas.List.Elements.{All-append, All-from_recursion, All-head, All-map, All-nil, All-tail}
use Rattle.std.proofs.lemmas.List.Sums.{AllPass-from_list_all}
use Rattle.std.proofs.lemmas.Slice.Eq.{bytes_eq-Decides}
use Rattle.std.specs.Fmt.{decimal, signed_decimal}
use Rattle.std.specs.List.{AllByRecursion, list_all}
use Rattle.std.specs.Str.{bytes_eq}
use Rattle.mb_certificate.proofs.ItemLaws.{all_of_read, ended, items_at, one_read, one_written, times_written}
use Rattle.mb_text.proofs.RecordSteps.{step_on, stepped}
use Rattle.mb_certificate.proofs.LineLaws.{Reads}
use Rattle.mb_certificate.proofs.NumberItems.{IsWithin, entry_read, entry_small, entry_written, within_read, within_written, word_read, word_written}
use Rattle.mb_certificate.specs.Certificate.{AreNumbers}
use Rattle.mb_certificate.specs.CertificateText.{all_of, counted, entry, one_word, order_in, order_name, order_named, sizes_in, two_words}
use Rattle.mb_certificate.specs.Reading.{ItemsLeft, line_ends, one, times, word}
use Rattle.mb_text.specs.Plain.{number_within}
use Rattle.mb_order.specs.declared.order.Order.TheVariants.{Grevlex, Lex}
use Rattle.mb_order.specs.declared.order.Order.{Order}
use Rattle.mb_tables.specs.Answers.{◌>>=◌}
use Rattle.mb_tables.specs.Entries.{IsEntry}
use Rattle.mb_text.proofs.LineTokens.{token-signed_decimal}
use Rattle.mb_text.specs.Tokens.{IsToken, is_blank}
use Rattle.std.proofs.lemmas.Bool.{not-true}

-- a word is a token
pub word_token : (name : List ℕ) → 0 < length name → list_all (λ b. not (is_blank b)) name ≡ true →
    IsToken name
word_token name some e = record {
  some = λ none. let n = ap length none in omega arith;
  plain =
      λ k d l. not-true (is_blank (get_or name k d))
      (AllPass-from_list_all (λ b. not (is_blank b)) name e k d l);
}

-- a decimal form is a token
pub decimal_token : (n : ℕ) → n < 10 ^ 64 → IsToken (decimal n)
decimal_token n small = token-signed_decimal (pos n) small

-- one token in front of others
pub front : (x : List ℕ) (list : List (List ℕ)) → IsToken x → All IsToken list
    → All IsToken (x ∷ list)
front x list one others =
    All-append IsToken (x ∷ []) list (All-from_recursion IsToken (x ∷ []) (one, tt)) others

-- no token
pub none : All IsToken []
none = All-nil IsToken

-- what holds of each holds of each in turn
pub in_turn : {X : Type 0} (P : X → Type 0) (xs : List X) → All P xs → AllByRecursion P xs
in_turn P [] all = tt
in_turn P (x ∷ xs) all = (All-head P x xs all, in_turn P xs (All-tail P x xs all))

-- numbers below 2^32 are tokens
pub number_tokens : (numbers : List ℕ) → AreNumbers numbers → All IsToken (map decimal numbers)
number_tokens numbers small =
    All-map IsToken decimal numbers
    (λ k d l. decimal_token _ (let s = small k d l in omega arith))

-- a line of two words
pub two_words_reads : (first second : List ℕ) → IsToken first → IsToken second →
    Reads (two_words first second) (λ _. first ∷ second ∷ []) (λ _. Unit {0})
two_words_reads first second a b = record {
  written =
      λ number x is.
      step_on (one (word first) (items_at number (first ∷ second ∷ [])))
      (tt, items_at number (second ∷ [])) _ _
      (one_written (word first) (λ _. first) (λ _. Unit {0}) number tt (second ∷ [])
      (word_written first))
      (step_on (one (word second) (items_at number (second ∷ []))) (tt, items_at number []) _ _
      (one_written (word second) (λ _. second) (λ _. Unit {0}) number tt [] (word_written second))
      refl);
  is_written =
      λ items x e.
      let one_ = stepped (one (word first) items)
      (λ a. one (word second) a.1 >>= λ b. line_ends b.1) x e in
      let two = stepped (one (word second) one_.0.1) (λ b. line_ends b.1) x one_.2 in
      let head =
      one_read (word first) (λ _. first) (λ _. Unit {0})
      (λ item y f. (word_read first item y f, tt)) items one_.0.1 one_.0.0 one_.1 in
      let next =
      one_read (word second) (λ _. second) (λ _. Unit {0})
      (λ item y f. (word_read second item y f, tt)) one_.0.1 two.0.1 two.0.0 two.1 in (
        head.0 ∙ ap (λ list. first ∷ list)
            (next.0 ∙ ap (λ list. second ∷ list) (ended two.0.1.number two.0.1.items x two.2)),
        tt,
      );
  some = λ x is e. cc;
  tokens = λ x is. front first (second ∷ []) a (front second [] b none);
}

-- a line of one word
pub one_word_reads : (wanted : List ℕ) → IsToken wanted →
    Reads (one_word wanted) (λ _. wanted ∷ []) (λ _. Unit {0})
one_word_reads wanted a = record {
  written =
      λ number x is.
      step_on (one (word wanted) (items_at number (wanted ∷ []))) (tt, items_at number []) _ _
      (one_written (word wanted) (λ _. wanted) (λ _. Unit {0}) number tt [] (word_written wanted))
      refl;
  is_written =
      λ items x e.
      let step = stepped (one (word wanted) items) (λ a. line_ends a.1) x e in
      let head =
      one_read (word wanted) (λ _. wanted) (λ _. Unit {0})
      (λ item y f. (word_read wanted item y f, tt)) items step.0.1 step.0.0 step.1 in (
        head.0 ∙ ap (λ list. wanted ∷ list) (ended step.0.1.number step.0.1.items x step.2),
        tt,
      );
  some = λ x is e. cc;
  tokens = λ x is. front wanted [] a none;
}

-- a number after a word
pub counted_reads : (name : List ℕ) (lowest highest : ℕ) → IsToken name → highest < 10 ^ 64 →
    Reads (counted name lowest highest) (λ n. name ∷ decimal n ∷ []) (IsWithin lowest highest)
counted_reads name lowest highest a far = record {
  written =
      λ number n is.
      step_on (one (word name) (items_at number (name ∷ decimal n ∷ [])))
      (tt, items_at number (decimal n ∷ [])) _ _
      (one_written (word name) (λ _. name) (λ _. Unit {0}) number tt (decimal n ∷ [])
      (word_written name))
      (step_on (one (number_within lowest highest) (items_at number (decimal n ∷ [])))
      (n, items_at number []) _ _
      (one_written (number_within lowest highest) decimal (IsWithin lowest highest) number n []
      (within_written lowest highest n far is))
      refl);
  is_written =
      λ items n e.
      let one_ =
      stepped (one (word name) items)
      (λ named. one (number_within lowest highest) named.1 >>= λ count.
      line_ends count.1 >>= λ nothing. Ok count.0) n e in
      let two =
      stepped (one (number_within lowest highest) one_.0.1)
      (λ count. line_ends count.1 >>= λ nothing. Ok count.0) n one_.2 in
      let after : Unit {0} → Result ℕ ℕ = λ nothing. Ok two.0.0 in
      let last = stepped (line_ends two.0.1) after n two.2 in
      let same : two.0.0 ≡ n = cc in
      let head =
      one_read (word name) (λ _. name) (λ _. Unit {0})
      (λ item y f. (word_read name item y f, tt)) items one_.0.1 one_.0.0 one_.1 in
      let next =
      one_read (number_within lowest highest) decimal (IsWithin lowest highest)
      (λ item y f. within_read lowest highest item y far f) one_.0.1 two.0.1 two.0.0 two.1 in (
        head.0 ∙ ap (λ list. name ∷ list)
            (next.0 ∙ ap (λ list. decimal two.0.0 ∷ list)
            (ended two.0.1.number two.0.1.items last.0 last.1))
            ∙ ap (λ m. name ∷ decimal m ∷ []) same,
        subst (IsWithin lowest highest) same next.1,
      );
  some = λ n is e. cc;
  tokens =
      λ n is.
      front name (decimal n ∷ []) a
      (front (decimal n) [] (decimal_token n (let h = is.high in omega arith)) none);
}

-- the sizes of a matrix: 1 to 64 each
pub record AreSizes (sizes : ℕ × ℕ) : Type 0 where
  pub rows : IsWithin 1 64 sizes.0
  pub cells : IsWithin 1 64 sizes.1

-- after the cells
abbrev after_cells : ℕ → ℕ × ItemsLeft → Result (ℕ × ℕ) ℕ
after_cells rows cells = line_ends cells.1 >>= λ nothing. Ok (rows, cells.0)

-- after the rows
abbrev after_rows : ℕ × ItemsLeft → Result (ℕ × ℕ) ℕ
after_rows rows = one (number_within 1 64) rows.1 >>= λ cells. after_cells rows.0 cells

-- after the word
abbrev after_matrix : Unit {0} × ItemsLeft → Result (ℕ × ℕ) ℕ
after_matrix name = one (number_within 1 64) name.1 >>= λ rows. after_rows rows

-- the line of the sizes
pub sizes_reads :
    Reads sizes_in (λ s. codes "matrix" ∷ decimal s.0 ∷ decimal s.1 ∷ []) AreSizes
sizes_reads = record {
  written =
      λ number s is.
      step_on (one (word (codes "matrix"))
      (items_at number (codes "matrix" ∷ decimal s.0 ∷ decimal s.1 ∷ [])))
      (tt, items_at number (decimal s.0 ∷ decimal s.1 ∷ [])) after_matrix _
      (one_written (word (codes "matrix")) (λ _. codes "matrix") (λ _. Unit {0}) number tt
      (decimal s.0 ∷ decimal s.1 ∷ []) (word_written (codes "matrix")))
      (step_on (one (number_within 1 64) (items_at number (decimal s.0 ∷ decimal s.1 ∷ [])))
      (s.0, items_at number (decimal s.1 ∷ [])) after_rows _
      (one_written (number_within 1 64) decimal (IsWithin 1 64) number s.0 (decimal s.1 ∷ [])
      (within_written 1 64 s.0 (omega arith) is.rows))
      (step_on (one (number_within 1 64) (items_at number (decimal s.1 ∷ [])))
      (s.1, items_at number []) (after_cells s.0) _
      (one_written (number_within 1 64) decimal (IsWithin 1 64) number s.1 []
      (within_written 1 64 s.1 (omega arith) is.cells))
      refl));
  is_written =
      λ items s e.
      let a = stepped (one (word (codes "matrix")) items) after_matrix s e in
      let b = stepped (one (number_within 1 64) a.0.1) after_rows s a.2 in
      let c = stepped (one (number_within 1 64) b.0.1) (after_cells b.0.0) s b.2 in
      let after : Unit {0} → Result (ℕ × ℕ) ℕ = λ nothing. Ok (b.0.0, c.0.0) in
      let last = stepped (line_ends c.0.1) after s c.2 in
      let same : (b.0.0, c.0.0) ≡ s = cc in
      let head =
      one_read (word (codes "matrix")) (λ _. codes "matrix") (λ _. Unit {0})
      (λ item y f. (word_read (codes "matrix") item y f, tt)) items a.0.1 a.0.0 a.1 in
      let rows =
      one_read (number_within 1 64) decimal (IsWithin 1 64)
      (λ item y f. within_read 1 64 item y (omega arith) f) a.0.1 b.0.1 b.0.0 b.1 in
      let cells =
      one_read (number_within 1 64) decimal (IsWithin 1 64)
      (λ item y f. within_read 1 64 item y (omega arith) f) b.0.1 c.0.1 c.0.0 c.1 in (
        head.0 ∙ ap (λ list. codes "matrix" ∷ list)
            (rows.0 ∙ ap (λ list. decimal b.0.0 ∷ list)
            (cells.0 ∙ ap (λ list. decimal c.0.0 ∷ list)
            (ended c.0.1.number c.0.1.items last.0 last.1)))
            ∙ ap (λ (p : ℕ × ℕ). codes "matrix" ∷ decimal p.0 ∷ decimal p.1 ∷ []) same,
        subst AreSizes same (record { rows = rows.1; cells = cells.1 }),
      );
  some = λ s is e. cc;
  tokens =
      λ s is.
      let rows = is.rows.high in
      let cells = is.cells.high in
      front (codes "matrix") (decimal s.0 ∷ decimal s.1 ∷ [])
      (word_token (codes "matrix") (omega arith) refl)
      (front (decimal s.0) (decimal s.1 ∷ []) (decimal_token s.0 (omega arith))
      (front (decimal s.1) [] (decimal_token s.1 (omega arith)) none));
}

-- the name of an order is read as it
order_written : (order : Order) → order_named (order_name order) ≡ Some order
order_written Lex = refl
order_written Grevlex = refl

-- and is a token
order_token : (order : Order) → IsToken (order_name order)
order_token Lex = word_token (codes "lex") (omega arith) refl
order_token Grevlex = word_token (codes "grevlex") (omega arith) refl

-- an item that is read as an order is its name
order_read : (item : List ℕ) (order : Order) → order_named item ≡ Some order →
    (item ≡ order_name order) × Unit {0}
order_read item order e = by (bytes_eq item (codes "lex")) refl e
  where
    other : (t : Bool) → bytes_eq item (codes "grevlex") ≡ t →
        cond t (Some Grevlex) None ≡ Some order → (item ≡ order_name order) × Unit {0}
    other true f g =
        let same : Grevlex ≡ order = cc in
        ((bytes_eq-Decides item (codes "grevlex")).0 f ∙ ap order_name same, tt)
    other false f g = absurd cc

    by : (t : Bool) → bytes_eq item (codes "lex") ≡ t →
        cond t (Some Lex) (cond (bytes_eq item (codes "grevlex")) (Some Grevlex) None)
        ≡ Some order →
        (item ≡ order_name order) × Unit {0}
    by true f g =
        let same : Lex ≡ order = cc in
        ((bytes_eq-Decides item (codes "lex")).0 f ∙ ap order_name same, tt)
    by false f g = other (bytes_eq item (codes "grevlex")) refl g

-- after the name of the order
abbrev after_named : Order × ItemsLeft → Result Order ℕ
after_named order = line_ends order.1 >>= λ nothing. Ok order.0

-- after the word
abbrev after_order : Unit {0} × ItemsLeft → Result Order ℕ
after_order name = one order_named name.1 >>= λ order. after_named order

-- the line of the order
pub order_reads : Reads order_in (λ o. codes "order" ∷ order_name o ∷ []) (λ _. Unit {0})
order_reads = record {
  written =
      λ number o is.
      step_on (one (word (codes "order")) (items_at number (codes "order" ∷ order_name o ∷ [])))
      (tt, items_at number (order_name o ∷ [])) after_order _
      (one_written (word (codes "order")) (λ _. codes "order") (λ _. Unit {0}) number tt
      (order_name o ∷ []) (word_written (codes "order")))
      (step_on (one order_named (items_at number (order_name o ∷ []))) (o, items_at number [])
      after_named _
      (one_written order_named order_name (λ _. Unit {0}) number o [] (order_written o))
      refl);
  is_written =
      λ items o e.
      let a = stepped (one (word (codes "order")) items) after_order o e in
      let b = stepped (one order_named a.0.1) after_named o a.2 in
      let after : Unit {0} → Result Order ℕ = λ nothing. Ok b.0.0 in
      let last = stepped (line_ends b.0.1) after o b.2 in
      let same : b.0.0 ≡ o = cc in
      let head =
      one_read (word (codes "order")) (λ _. codes "order") (λ _. Unit {0})
      (λ item y f. (word_read (codes "order") item y f, tt)) items a.0.1 a.0.0 a.1 in
      let name =
      one_read order_named order_name (λ _. Unit {0}) order_read a.0.1 b.0.1 b.0.0 b.1 in (
        head.0 ∙ ap (λ list. codes "order" ∷ list)
            (name.0 ∙ ap (λ list. order_name b.0.0 ∷ list)
            (ended b.0.1.number b.0.1.items last.0 last.1))
            ∙ ap (λ o. codes "order" ∷ order_name o ∷ []) same,
        tt,
      );
  some = λ o is e. cc;
  tokens =
      λ o is.
      front (codes "order") (order_name o ∷ []) (word_token (codes "order") (omega arith) refl)
      (front (order_name o) [] (order_token o) none);
}

-- so many, to the end of the line, are read as they are written
pub all_written : {A : Type 0} (read : List ℕ → Option A) (write : A → List ℕ) (number : ℕ)
    (xs : List A) → All (λ x. read (write x) ≡ Some x) xs →
    all_of read (length xs) (items_at number (map write xs)) ≡ Ok xs
all_written {A} read write number xs each =
    ap (λ list. all_of read (length xs) (items_at number list)) (sym (append-nil (map write xs)))
    ∙ step_on (times (one read) (length xs) (items_at number (map write xs ++ [])))
    (xs, items_at number []) after _
    (times_written read write (λ _. Unit {0}) number xs [] each) refl
  where
    after : List A × ItemsLeft → Result (List A) ℕ
    after found = line_ends found.1 >>= λ nothing. Ok found.0

-- a move over so many cells
pub record IsMoveLine (cells : ℕ) (z : List ℤ) : Type 0 where
  pub long : length z ≡ cells
  pub entries : All IsEntry z

-- an entry is a token
entry_token : (z : ℤ) → IsEntry z → IsToken (signed_decimal z)
entry_token z is = token-signed_decimal z (let s = entry_small z is in omega arith)

-- a list that is written as no item is empty
pub no_items : {A : Type 0} (write : A → List ℕ) (xs : List A) (n : ℕ) → 1 ≤ n → length xs ≡ n →
    map write xs ≢ []
no_items write [] n some long = absurd (omega arith)
no_items write (x ∷ xs) n some long = λ e. cc

-- the line of a move
pub move_reads : (cells : ℕ) → 1 ≤ cells →
    Reads (all_of entry cells) (λ z. map signed_decimal z) (IsMoveLine cells)
move_reads cells some = record {
  written =
      λ number z is.
      ap (λ n. all_of entry n (items_at number (map signed_decimal z))) (sym is.long)
      ∙ all_written entry signed_decimal number z
      (λ k d l. entry_written _ (is.entries k d l));
  is_written =
      λ items z e.
      let found = all_of_read entry signed_decimal IsEntry entry_read cells items z e in
      (found.0, record { long = found.2; entries = All-from_recursion IsEntry z found.1 });
  some = λ z is. no_items signed_decimal z cells some is.long;
  tokens =
      λ z is.
      All-map IsToken signed_decimal z (λ k d l. entry_token _ (is.entries k d l));
}
