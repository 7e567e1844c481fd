-- The line of a row, added to a text.
use Rattle.std.proofs.Common.{List, [], ap, append_assoc, ℕ, ◌++◌, ◌∙◌, ◌∷◌, ◌≡◌}
use Rattle.mb_text.proofs.JoinSteps.{line_added}
use Rattle.mb_text.specs.Lines.{line}

-- three items, a space between each two, and a line end
row_added : (before a b c d e f kind name bytes : List ℕ) → a ≡ before ++ kind →
    b ≡ a ++ 32 ∷ [] → c ≡ b ++ name → d ≡ c ++ 32 ∷ [] → e ≡ d ++ bytes → f ≡ e ++ 10 ∷ [] →
    f ≡ before ++ line (kind ∷ name ∷ bytes ∷ [])
row_added before a b c d e f kind name bytes ea eb ec ed ee ef =
    line_added before e f (kind ∷ name ∷ bytes ∷ [])
    (ee ∙ ap (λ (t : List ℕ). t ++ bytes) (ed ∙ ap (λ (t : List ℕ). t ++ 32 ∷ [])
    (ec ∙ ap (λ (t : List ℕ). t ++ name) (eb ∙ ap (λ (t : List ℕ). t ++ 32 ∷ []) ea)))
    ∙ append_assoc (((before ++ kind) ++ 32 ∷ []) ++ name) (32 ∷ []) bytes
    ∙ append_assoc ((before ++ kind) ++ 32 ∷ []) name (32 ∷ bytes)
    ∙ append_assoc (before ++ kind) (32 ∷ []) (name ++ 32 ∷ bytes)
    ∙ append_assoc before kind (32 ∷ (name ++ 32 ∷ bytes)))
    ef

-- the same, where the first two were read elsewhere
pub row_pushed : (before a b c d e f kind name bytes first second : List ℕ) → first ≡ kind →
    second ≡ name → a ≡ before ++ first → b ≡ a ++ 32 ∷ [] → c ≡ b ++ second → d ≡ c ++ 32 ∷ [] →
    e ≡ d ++ bytes → f ≡ e ++ 10 ∷ [] → f ≡ before ++ line (kind ∷ name ∷ bytes ∷ [])
row_pushed before a b c d e f kind name bytes first second is_kind is_name ea eb ec ed ee ef =
    row_added before a b c d e f kind name bytes (ea ∙ ap (λ t. before ++ t) is_kind) eb
    (ec ∙ ap (λ t. b ++ t) is_name) ed ee ef
