-- Pieces that are put behind a text, one after the other.
use Rattle.std.proofs.Common.{List, ap, append_assoc, ℕ, ◌++◌, ◌∙◌, ◌≡◌}

-- two pieces
pub two_put : (before a b x y : List ℕ) → a ≡ before ++ x → b ≡ a ++ y → b ≡ before ++ (x ++ y)
two_put before a b x y ea eb = eb ∙ ap (λ t. t ++ y) ea ∙ append_assoc before x y

-- three pieces
pub three_put : (before a b c x y z : List ℕ) → a ≡ before ++ x → b ≡ a ++ y → c ≡ b ++ z →
    c ≡ before ++ (x ++ (y ++ z))
three_put before a b c x y z ea eb ec =
    two_put before b c (x ++ y) z (two_put before a b x y ea eb) ec
    ∙ ap (λ t. before ++ t) (append_assoc x y z)

-- four pieces
pub four_put : (before a b c d w x y z : List ℕ) → a ≡ before ++ w → b ≡ a ++ x → c ≡ b ++ y →
    d ≡ c ++ z → d ≡ before ++ (w ++ (x ++ (y ++ z)))
four_put before a b c d w x y z ea eb ec ed =
    two_put before a d w (x ++ (y ++ z)) ea (three_put a b c d x y z eb ec ed)
