-- Items read one after the other.
use Rattle.std.proofs.Common.{List, None, Option, Some, [], ap, append_assoc, refl, sym, ℕ, ◌++◌, ◌∙◌, ◌∷◌, ◌≡◌}
use Rattle.std.proofs.lemmas.List.{append-nil}
use Rattle.std.specs.Option.{option_and_then, option_map}
use Rattle.mb_text.specs.Lines.{items}
use Rattle.mb_text.specs.Plain.{each_of}

module _ {B : Type 0} where
  -- values that stand before others
  abbrev pub in_front : List B → Option (List B) → Option (List B)
  in_front front others = option_map (λ more. front ++ more) others

  -- nothing stands before them
  pub in_front-nil : (others : Option (List B)) → in_front [] others ≡ others
  in_front-nil None = refl
  in_front-nil (Some more) = refl

  -- one value more stands before them
  in_front-push : (front : List B) (y : B) (others : Option (List B)) →
      in_front front (option_map (λ more. y ∷ more) others) ≡ in_front (front ++ y ∷ []) others
  in_front-push front y None = refl
  in_front-push front y (Some more) = ap Some (sym (append_assoc front (y ∷ []) more))

  module _ (read : List ℕ → Option B) where
    -- what an item more gives, from what it is
    and_others : List (List ℕ) → Option B → Option (List B)
    and_others list first =
        option_and_then (λ y. option_map (λ others. y ∷ others) (each_of read list)) first

    module _ (line rest item : List ℕ) (front : List B) (others : List (List ℕ))
        (so_far : each_of read (items line) ≡ in_front front (each_of read (items rest)))
        (cut : items rest ≡ item ∷ others) where
      -- an item that is a value
      pub item_read : (y : B) → read item ≡ Some y →
          each_of read (items line) ≡ in_front (front ++ y ∷ []) (each_of read others)
      unfolding each_of and_others
      item_read y e =
          so_far ∙ ap (λ list. in_front front (each_of read list)) cut
          ∙ ap (λ first. in_front front (and_others others first)) e
          ∙ in_front-push front y (each_of read others)

      -- an item that is none
      pub item_wrong : read item ≡ None → each_of read (items line) ≡ None
      unfolding each_of and_others
      item_wrong e =
          so_far ∙ ap (λ list. in_front front (each_of read list)) cut
          ∙ ap (λ first. in_front front (and_others others first)) e

    -- the last item
    pub all_read : (line rest : List ℕ) (front : List B) →
        each_of read (items line) ≡ in_front front (each_of read []) →
        each_of read (items line) ≡ Some front
    unfolding each_of
    all_read line rest front e = e ∙ ap Some (append-nil front)
