-- The paths of the margin-free rules.
use Rattle.std.proofs.Common.{All, List, [], ap, arith, length, negsuc, refl, suc, sym, ℕ, ◌++◌, ◌+◌, ◌<◌, ◌^◌, ◌∙◌, ◌∷◌, ◌≡◌, ◌≤◌}
use Rattle.std.proofs.lemmas.List.Elements.{All-cons, All-head, All-nil, All-tail}
use Rattle.mb_certificate.specs.Certificate.{IsPath, IsSigned, Path}
use Rattle.mb_completion.specs.Made.{path_of, paths_from}

-- there is one for each rule
pub paths-length : (n : ℕ) (rules : List ℕ) → length (paths_from n rules) ≡ length rules
unfolding paths_from
paths-length n [] = refl
paths-length n (k ∷ rules) = ap suc (paths-length (suc n) rules)

-- the path of one rule more
paths-push : (n : ℕ) (rules : List ℕ) (k : ℕ) →
    paths_from n (rules ++ (k ∷ []))
    ≡ paths_from n rules ++ (path_of (n + length rules) k ∷ [])
unfolding paths_from
paths-push n [] k = let e : n ≡ n + 0 = omega arith in ap (λ i. path_of i k ∷ []) e
paths-push n (x ∷ rules) k =
    let e : suc n + length rules ≡ n + suc (length rules) = omega arith in
    ap (λ l. path_of n x ∷ l) (paths-push (suc n) rules k
    ∙ ap (λ i. paths_from (suc n) rules ++ (path_of i k ∷ [])) e)

-- so the next path joins those of the rules before
pub paths-joined : (paths more : List Path) (rules : List ℕ) (k : ℕ) (path : Path) →
    paths ≡ paths_from 0 rules → path ≡ path_of (length paths) k → more ≡ paths ++ (path ∷ []) →
    more ≡ paths_from 0 (rules ++ (k ∷ []))
paths-joined paths more rules k path so_far e f =
    let n : length paths ≡ 0 + length rules =
    (let a = ap length so_far in let b = paths-length 0 rules in omega arith) in
    f ∙ ap (λ l. l ++ (path ∷ [])) so_far
    ∙ ap (λ x. paths_from 0 rules ++ (x ∷ [])) (e ∙ ap (λ i. path_of i k) n)
    ∙ sym (paths-push 0 rules k)

-- each is one that a certificate can have
one_sound : (n k : ℕ) → n < 1000064 → k < 2 ^ 32 → IsPath (path_of n k)
one_sound n k h l = record {
  rule_fits = l;
  signed = All-cons IsSigned (negsuc n) []
      (record { some = λ e. absurd (cc); fits = omega arith }) (All-nil IsSigned);
  short = omega arith;
}

pub paths-sound : (n : ℕ) (rules : List ℕ) → All (λ k. k < 2 ^ 32) rules →
    n + length rules ≤ 1000064 → All IsPath (paths_from n rules)
unfolding paths_from
paths-sound n [] h l = All-nil IsPath
paths-sound n (k ∷ rules) h l =
    All-cons IsPath (path_of n k) (paths_from (suc n) rules)
    (one_sound n k (omega arith) (All-head (λ i. i < 2 ^ 32) k rules h))
    (paths-sound (suc n) rules (All-tail (λ i. i < 2 ^ 32) k rules h) (omega arith))
