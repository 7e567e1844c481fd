-- A text as tokens between blanks.
use Rattle.std.specs.Prelude.{All, Bool, List, [], false, filter, nat_le, true, ℕ, ◌&&◌, ◌==◌, ◌||◌, ◌∷◌, ◌≡◌, ◌≢◌}
use Rattle.std.specs.List.{slice_split}

-- a byte that separates tokens: 9 to 13 (tab, line feed, vertical tab, form feed, carriage
-- return) and 32 (space)
abbrev pub is_blank : ℕ → Bool
is_blank b = (nat_le 9 b && nat_le b 13) || (b == 32)

-- a piece that isn't empty
abbrev pub is_filled : List ℕ → Bool
is_filled [] = false
is_filled (b ∷ piece) = true

-- the tokens of a text: the pieces between its blanks, the empty ones left out
unfoldable pub tokens : List ℕ → List (List ℕ)
tokens text = filter is_filled (slice_split is_blank text)

-- one or more bytes, none of them a blank
pub record IsToken (token : List ℕ) : Type 0 where
  pub some : token ≢ []
  pub plain : All (λ b. is_blank b ≡ false) token
