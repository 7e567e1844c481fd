-- Items joined by spaces: the first, and then each with a space before it.
use Rattle.std.proofs.Common.{List, [], ap, append_assoc, map, sym, ℕ, ◌++◌, ◌≡◌, ◌∙◌, ◌∷◌}
use Rattle.std.proofs.lemmas.List.{append-nil}
use Rattle.std.specs.List.{flat_map, join_with_byte}
use Rattle.mb_text.specs.Lines.{line}

module _ {A : Type 0} (text : A → List ℕ) where
  -- an item and then numbers
  pub joined : (first : List ℕ) (numbers : List A) →
      join_with_byte 32 (first ∷ map text numbers) ≡ first ++ flat_map (λ n. 32 ∷ text n) numbers
  joined first [] = sym (append-nil first)
  joined first (n ∷ numbers) = ap (λ more. first ++ (32 ∷ more)) (joined (text n) numbers)

  -- an item and then numbers, added to a text
  pub joined_added : (before out new first : List ℕ) (numbers : List A) → out ≡ before ++ first →
      new ≡ out ++ flat_map (λ n. 32 ∷ text n) numbers →
      new ≡ before ++ join_with_byte 32 (first ∷ map text numbers)
  joined_added before out new first numbers e f =
      f
      ∙ ap (λ (o : List ℕ). o ++ flat_map (λ n. 32 ∷ text n) numbers) e
      ∙ append_assoc before first (flat_map (λ n. 32 ∷ text n) numbers)
      ∙ ap (λ more. before ++ more) (sym (joined first numbers))

  -- where the item is a number too
  pub numbers_added : (before out new : List ℕ) (all : List A) (first : A) (numbers : List A) →
      all ≡ first ∷ numbers → out ≡ before ++ text first →
      new ≡ out ++ flat_map (λ n. 32 ∷ text n) numbers →
      new ≡ before ++ join_with_byte 32 (map text all)
  numbers_added before out new all first numbers is e f =
      rw is (joined_added before out new (text first) numbers e f)

-- a line whose items are joined so, added to a text
pub line_added : (before out new : List ℕ) (items : List (List ℕ)) →
    out ≡ before ++ join_with_byte 32 items → new ≡ out ++ 10 ∷ [] → new ≡ before ++ line items
unfolding line
line_added before out new items so_far e =
    e
    ∙ ap (λ (text : List ℕ). text ++ 10 ∷ []) so_far
    ∙ append_assoc before (join_with_byte 32 items) (10 ∷ [])

-- a line of a word and an item, added to a text
pub item_line_added : (before a b c d word item : List ℕ) → a ≡ before ++ word →
    b ≡ a ++ 32 ∷ [] → c ≡ b ++ item → d ≡ c ++ 10 ∷ [] →
    d ≡ before ++ line (word ∷ item ∷ [])
item_line_added before a b c d word item ea eb ec ed =
    line_added before c d (word ∷ item ∷ [])
    (ec ∙ ap (λ (t : List ℕ). t ++ item) (eb ∙ ap (λ (t : List ℕ). t ++ 32 ∷ []) ea)
    ∙ append_assoc (before ++ word) (32 ∷ []) item ∙ append_assoc before word (32 ∷ item))
    ed
