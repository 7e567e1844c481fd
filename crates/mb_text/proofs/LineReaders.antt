-- Forms of lines, both ways: what is written is read, and what is read is what is written.
use Rattle.std.proofs.Common.{All, Bool, List, None, Ok, Option, Some, [], ap, arith, cond, length, map, refl, sym, true, ℕ, ◌++◌, ◌<◌, ◌^◌, ◌∙◌, ◌∷◌, ◌≡◌, ◌≤◌}
use Rattle.std.proofs.lemmas.List.{length-map}
use Rattle.std.proofs.lemmas.Slice.Eq.{bytes_eq-Decides}
use Rattle.std.specs.Fmt.{decimal}
use Rattle.std.specs.List.{join_with_byte}
use Rattle.std.specs.Option.{option_and_then}
use Rattle.std.specs.Str.{bytes_eq}
use Rattle.mb_text.proofs.ItemBytes.{are_items, decimals_are_items, is_item, item_front, items_again, name_is_item}
use Rattle.mb_text.proofs.NumberLists.{numbers_read, numbers_written}
use Rattle.mb_text.proofs.NumeralItems.{let_through}
use Rattle.mb_text.proofs.PieceCases.{after-some, same_text}
use Rattle.mb_text.proofs.SaidLines.{line_is, says_read, says_written}
use Rattle.mb_text.specs.LineForms.{after, exactly, item_after, name_after, numbers_after, numbers_of, only, passing, value_after}
use Rattle.mb_text.specs.Lines.{items, line, lines}
use Rattle.mb_text.specs.Name.{IsName, is_name}
use Rattle.mb_text.specs.RecordLines.{says}

-- a reading of a line and the items that are written: what is written of a sound value is read as
-- it, and what is read is what is written of a sound value
pub record Reads {A : Type 0} (read : List ℕ → Option A) (write : A → List (List ℕ))
    (P : A → Type 0) : Type 0 where
  pub written : (x : A) → P x → read (join_with_byte 32 (write x)) ≡ Some x
  pub is_written : (first : List ℕ) (x : A) → read first ≡ Some x → (items first ≡ write x) × P x
  pub plain : (x : A) → P x → are_items (write x) ≡ true

module _ {A : Type 0} (read : List ℕ → Option A) (write : A → List (List ℕ)) (P : A → Type 0)
    (reads : Reads read write P) where
  -- a line that is written is read
  pub line_read : (number : ℕ) (x : A) (rest : List ℕ) → P x →
      says number read (lines (line (write x) ++ rest)) ≡ Ok (x, lines rest)
  line_read number x rest is =
      says_written number read (write x) rest x (reads.plain x is) (reads.written x is)

  -- a line that was read is what is written
  pub line_back : (number : ℕ) (pieces : List (List ℕ)) (x : A) (rest : List (List ℕ)) →
      says number read pieces ≡ Ok (x, rest) →
      (join_with_byte 10 pieces ≡ line (write x) ++ join_with_byte 10 rest) × P x
  line_back number pieces x rest e =
      let found = says_read number read pieces x rest e in
      let same = reads.is_written found.first x found.is_read in
      (line_is found (write x) same.0, same.1)

-- a value of two readings, one after the other
pub and_then_read : {A B : Type 0} (first : Option A) (next : A → Option B) (y : B) →
    option_and_then next first ≡ Some y → (x : A) × (first ≡ Some x) × (next x ≡ Some y)
and_then_read None next y e = absurd cc
and_then_read (Some x) next y e = (x, refl, e)

-- a line that is exactly a text
pub exactly_read : (text line : List ℕ) (x : Unit {0}) → exactly text line ≡ Some x → line ≡ text
exactly_read text line x e =
    (bytes_eq-Decides line text).0 (let_through (bytes_eq line text) tt x e).0

-- a text is read as exactly itself
pub exactly_written : (text : List ℕ) (x : Unit {0}) → exactly text text ≡ Some x
exactly_written text x = ap (λ t. cond t (Some tt) None) (same_text text)

-- items after a word
pub after_read : (word : List ℕ) (list others : List (List ℕ)) → after word list ≡ Some others →
    list ≡ word ∷ others
after_read word [] others e = absurd cc
after_read word (first ∷ []) others e = absurd cc
after_read word (first ∷ item ∷ more) others e =
    let through = let_through (bytes_eq first word) (item ∷ more) others e in
    ap (λ w. w ∷ item ∷ more) ((bytes_eq-Decides first word).0 through.0)
    ∙ ap (λ l. word ∷ l) through.1

-- an only item
only_read : (list : List (List ℕ)) (item : List ℕ) → only list ≡ Some item → list ≡ item ∷ []
only_read [] item e = absurd cc
only_read (first ∷ next ∷ others) item e = absurd cc
only_read (first ∷ []) item e = let same : first ≡ item = cc in ap (λ i. i ∷ []) same

module _ {A : Type 0} (word : List ℕ) (is_word : is_item word ≡ true) (value : List ℕ → Option A)
    (write : A → List ℕ) (P : A → Type 0) where
  -- the value of the only item after a word
  pub value_reads : ((x : A) → P x → (value (write x) ≡ Some x) × (is_item (write x) ≡ true)) →
      ((item : List ℕ) (x : A) → value item ≡ Some x → (item ≡ write x) × P x) →
      Reads (value_after word value) (λ x. word ∷ write x ∷ []) P
  value_reads written read = record {
    written =
        λ x is.
        ap (λ list. option_and_then value (option_and_then only (after word list)))
        (items_again (word ∷ write x ∷ []) (λ n. cc) (plain x is))
        ∙ ap (λ (o : Option (List (List ℕ))). option_and_then value (option_and_then only o))
        (after-some word (word ∷ write x ∷ []) (write x ∷ []) refl (omega arith))
        ∙ (written x is).0;
    is_written =
        λ first x e.
        let item = and_then_read (item_after word first) value x e in
        let list = and_then_read (after word (items first)) only item.0 item.1 in
        let found = read item.0 x item.2 in (
          after_read word (items first) list.0 list.1
              ∙ ap (λ l. word ∷ l) (only_read list.0 item.0 list.2)
              ∙ ap (λ i. word ∷ i ∷ []) found.0,
          found.1,
        );
    plain = plain;
  }
    where
      plain : (x : A) → P x → are_items (word ∷ write x ∷ []) ≡ true
      plain x is =
          item_front word (write x ∷ []) is_word (item_front (write x) [] (written x is).1 refl)

-- a value that passes a test
pub passing_read : {A : Type 0} (test : A → Bool) (x y : A) → passing test x ≡ Some y →
    (x ≡ y) × (test y ≡ true)
passing_read test x y e =
    let through = let_through (test x) x y e in
    (through.1, sym (ap test through.1) ∙ through.0)

-- and is let through
pub passing_written : {A : Type 0} (test : A → Bool) (x : A) → test x ≡ true →
    passing test x ≡ Some x
passing_written test x e = ap (λ t. cond t (Some x) None) e

-- a name after a word
pub name_reads : (word : List ℕ) → is_item word ≡ true →
    Reads (name_after word) (λ name. word ∷ name ∷ []) IsName
name_reads word is_word =
    value_reads word is_word (passing is_name) (λ name. name) IsName
    (λ name is. (passing_written is_name name is, name_is_item name is))
    (passing_read is_name)

-- numbers after a word: there is one
numbers_some : (word : List ℕ) (list : List (List ℕ)) (others : List (List ℕ)) →
    after word list ≡ Some others → 1 ≤ length others
numbers_some word [] others e = absurd cc
numbers_some word (first ∷ []) others e = absurd cc
numbers_some word (first ∷ item ∷ more) others e =
    let through = let_through (bytes_eq first word) (item ∷ more) others e in
    let long = ap length through.1 in
    omega arith

-- one or more numbers below 2^32
pub record AreNumbers (numbers : List ℕ) : Type 0 where
  pub some : 1 ≤ length numbers
  pub small : All (λ n. n < 2 ^ 32) numbers

-- are read from their decimal forms after a word
pub numbers_after_written : (word : List ℕ) (numbers : List ℕ) → is_item word ≡ true →
    AreNumbers numbers →
    numbers_after word (items (join_with_byte 32 (word ∷ map decimal numbers))) ≡ Some numbers
numbers_after_written word [] is_word are = let some = are.some in absurd (omega arith)
numbers_after_written word (n ∷ numbers) is_word are =
    ap (numbers_after word)
    (items_again (word ∷ decimal n ∷ map decimal numbers) (λ x. cc)
    (item_front word (map decimal (n ∷ numbers)) is_word
    (decimals_are_items (n ∷ numbers) are.small)))
    ∙ ap (λ (o : Option (List (List ℕ))). option_and_then numbers_of o)
    (after-some word (word ∷ map decimal (n ∷ numbers)) (map decimal (n ∷ numbers)) refl
    (omega arith))
    ∙ numbers_written (n ∷ numbers) are.small

-- and items that are read as numbers after a word are it and their decimal forms
pub numbers_after_read : (word : List ℕ) (list : List (List ℕ)) (numbers : List ℕ) →
    numbers_after word list ≡ Some numbers →
    (list ≡ word ∷ map decimal numbers) × AreNumbers numbers
numbers_after_read word list numbers e =
    let step = and_then_read (after word list) numbers_of numbers e in
    let found = numbers_read step.0 numbers step.2 in (
      after_read word list step.0 step.1 ∙ ap (λ l. word ∷ l) found.0,
      record {
        some =
            let long = numbers_some word list step.0 step.1 in
            let many = ap length found.0 ∙ length-map numbers decimal in
            omega arith;
        small = found.1;
      },
    )

-- numbers that pass a test
pub record PassNumbers (test : List ℕ → Bool) (numbers : List ℕ) : Type 0 where
  pub are : AreNumbers numbers
  pub pass : test numbers ≡ true

-- such numbers after a word
pub numbers_reads : (word : List ℕ) (test : List ℕ → Bool) → is_item word ≡ true →
    Reads (λ first. option_and_then (passing test) (numbers_after word (items first)))
    (λ numbers. word ∷ map decimal numbers) (PassNumbers test)
numbers_reads word test is_word = record {
  written =
      λ numbers is.
      ap (option_and_then (passing test)) (numbers_after_written word numbers is_word is.are)
      ∙ passing_written test numbers is.pass;
  is_written =
      λ first numbers e.
      let step = and_then_read (numbers_after word (items first)) (passing test) numbers e in
      let tested = passing_read test step.0 numbers step.2 in
      let found =
      numbers_after_read word (items first) numbers (step.1 ∙ ap Some tested.0) in
      (found.0, record { are = found.1; pass = tested.1 });
  plain =
      λ numbers is.
      item_front word (map decimal numbers) is_word
      (decimals_are_items numbers is.are.small);
}
