-- The factors of a header, as a dataset has them.
use Rattle.std.specs.Prelude.{List, Ok, [], length, ℕ, ◌++◌, ◌∷◌, ◌≡◌, ◌≤◌}
use Rattle.mb_data.specs.HeaderText.{count_word, header_of}

-- the header of these factors, and then of `count`, has them
pub record IsHeader (factors : List (List ℕ)) : Type 0 where
  pub some : 1 ≤ length factors
  pub header : header_of (factors ++ count_word ∷ [])
      ≡ Ok (record { factors = factors; place = length factors })
