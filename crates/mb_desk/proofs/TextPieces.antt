-- Pieces that are put at the end of a text, one after the other.
use Rattle.std.proofs.Common.{List, ℕ, ◌++◌, ◌≡◌}
use Rattle.mb_text.proofs.PutBehind.{two_put}

-- seven pieces
pub put-seven : (t a b c d e f g u1 u2 u3 u4 u5 u6 u7 : List ℕ) → u1 ≡ t ++ a → u2 ≡ u1 ++ b →
    u3 ≡ u2 ++ c → u4 ≡ u3 ++ d → u5 ≡ u4 ++ e → u6 ≡ u5 ++ f → u7 ≡ u6 ++ g →
    u7 ≡ t ++ (a ++ (b ++ (c ++ (d ++ (e ++ (f ++ g))))))
put-seven t a b c d e f g u1 u2 u3 u4 u5 u6 u7 e1 e2 e3 e4 e5 e6 e7 =
    let h6 = two_put u5 u6 u7 f g e6 e7 in
    let h5 = two_put u4 u5 u7 e (f ++ g) e5 h6 in
    let h4 = two_put u3 u4 u7 d (e ++ (f ++ g)) e4 h5 in
    let h3 = two_put u2 u3 u7 c (d ++ (e ++ (f ++ g))) e3 h4 in
    let h2 = two_put u1 u2 u7 b (c ++ (d ++ (e ++ (f ++ g)))) e2 h3 in
    two_put t u1 u7 a (b ++ (c ++ (d ++ (e ++ (f ++ g))))) e1 h2
