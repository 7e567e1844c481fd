-- Numbers with one spelling, with a sign.
use Rattle.std.proofs.Common.{Bool, List, None, Option, Some, [], ap, arith, cond, drop, false, get_or, leb, length, negsuc, pos, refl, suc, sym, true, zero, ℕ, ◌<◌, ◌∙◌, ◌∷◌, ◌≡◌, ◌≢◌}
use Rattle.std.proofs.lemmas.Bool.{ne_eqb}
use Rattle.std.specs.Option.{option_and_then, option_map}
use Rattle.mb_text.specs.Plain.{at_most, below_zero, plain_of, plain_signed_of, size_at_most}

-- a limit on a number that isn't below 0
size_above : (highest : ℕ) (number : Option ℕ) →
    option_map pos (at_most highest number) ≡ size_at_most highest (option_map pos number)
size_above highest None = refl
size_above highest (Some n) = chosen (leb n highest)
  where
    chosen : (fits : Bool) →
        option_map pos (cond fits (Some n) None) ≡ cond fits (Some (pos n)) None
    chosen true = refl
    chosen false = refl

-- a limit on the size of one that is
size_below : (highest : ℕ) (number : Option ℕ) →
    option_and_then below_zero (at_most highest number)
    ≡ size_at_most highest (option_and_then below_zero number)
size_below highest None = refl
size_below highest (Some zero) = none (leb 0 highest)
  where
    none : (fits : Bool) → option_and_then below_zero (cond fits (Some 0) None) ≡ None
    none true = refl
    none false = refl
size_below highest (Some (suc n)) = chosen (leb (suc n) highest)
  where
    chosen : (fits : Bool) →
        option_and_then below_zero (cond fits (Some (suc n)) None)
        ≡ cond fits (Some (negsuc n)) None
    chosen true = refl
    chosen false = refl

-- an item without a `-` isn't below 0
pub plain_signed_of-above : (item : List ℕ) → get_or item 0 0 ≢ 45 →
    plain_signed_of item ≡ option_map pos (plain_of item)
unfolding plain_signed_of plain_of
plain_signed_of-above [] h = refl
plain_signed_of-above (b ∷ item) h =
    ap (λ minus. cond minus (option_and_then below_zero (plain_of item))
    (option_map pos (plain_of (b ∷ item)))) (ne_eqb b 45 h)

-- an item with one is
pub plain_signed_of-below : (item : List ℕ) → 0 < length item → get_or item 0 0 ≡ 45 →
    plain_signed_of item ≡ option_and_then below_zero (plain_of (drop 1 item))
unfolding plain_signed_of
plain_signed_of-below [] l h = absurd (omega arith)
plain_signed_of-below (b ∷ item) l h = rw h refl

-- an item without a `-`, up to a limit
pub signed_above : (highest : ℕ) (item : List ℕ) → get_or item 0 0 ≢ 45 →
    option_map pos (at_most highest (plain_of item)) ≡ size_at_most highest (plain_signed_of item)
signed_above highest item h =
    size_above highest (plain_of item)
    ∙ ap (size_at_most highest) (sym (plain_signed_of-above item h))

-- an item with one, up to a limit
pub signed_below : (highest : ℕ) (item : List ℕ) → 0 < length item → get_or item 0 0 ≡ 45 →
    option_and_then below_zero (at_most highest (plain_of (drop 1 item)))
    ≡ size_at_most highest (plain_signed_of item)
signed_below highest item l h =
    size_below highest (plain_of (drop 1 item))
    ∙ ap (size_at_most highest) (sym (plain_signed_of-below item l h))
