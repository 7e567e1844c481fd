-- The moves of the margin-free rules.
use Rattle.std.proofs.Common.{List, [], ap, append-nil, append_assoc, arith, drop, length, pos, refl, suc, sym, zero, ℕ, ℤ, ◌++◌, ◌+◌, ◌-ℤ◌, ◌<◌, ◌∙◌, ◌∷◌, ◌≡◌, ◌≤◌}
use Rattle.std.proofs.lemmas.List.{drop_all, map-append}
use Rattle.mb_completion.specs.Made.{difference, move_of, moves_among}
use Rattle.mb_order.specs.Peak.{sides_of}
use Rattle.mb_order.specs.Rewriting.{Rule}
use Rattle.mb_tables.specs.Vectors.{at}

-- a difference from a place on begins with that of the numbers there
difference-drop : (u v : List ℕ) (k : ℕ) → k < length u → k < length v →
    difference (drop k u) (drop k v)
    ≡ (pos (at u k) -ℤ pos (at v k)) ∷ difference (drop (suc k) u) (drop (suc k) v)
unfolding difference
difference-drop [] v k h l = absurd (omega arith)
difference-drop (x ∷ u) [] k h l = absurd (omega arith)
difference-drop (x ∷ u) (y ∷ v) zero h l = refl
difference-drop (x ∷ u) (y ∷ v) (suc k) h l = difference-drop u v k (omega arith) (omega arith)

-- past the end of the first it has no place
difference-past : (u v : List ℕ) (k : ℕ) → length u ≤ k → difference (drop k u) (drop k v) ≡ []
unfolding difference
difference-past u v k h = ap (λ x. difference x (drop k v)) (drop_all k u h)

-- what is known of it and what is left make all of it: so it is with one place more
pub difference-more : (u v : List ℕ) (k n : ℕ) (z : ℤ) (done more all : List ℤ) →
    k < length u → k < length v → n ≡ k + 1 → z ≡ (pos (at u k) -ℤ pos (at v k)) →
    more ≡ done ++ (z ∷ []) → done ++ difference (drop k u) (drop k v) ≡ all →
    more ++ difference (drop n u) (drop n v) ≡ all
difference-more u v k n z done more all h l e f g so_far =
    let place : n ≡ suc k = omega arith in
    ap (λ x. x ++ difference (drop n u) (drop n v)) g
    ∙ append_assoc done (z ∷ []) (difference (drop n u) (drop n v))
    ∙ ap (λ i. done ++ (z ∷ difference (drop i u) (drop i v))) place
    ∙ ap (λ x. done ++ (x ∷ difference (drop (suc k) u) (drop (suc k) v))) f
    ∙ ap (λ x. done ++ x) (sym (difference-drop u v k h l)) ∙ so_far

-- past the end nothing is left
pub difference-all : (u v : List ℕ) (k : ℕ) (done all : List ℤ) → length u ≤ k →
    done ++ difference (drop k u) (drop k v) ≡ all → done ≡ all
difference-all u v k done all h e =
    sym (append-nil done) ∙ ap (λ x. done ++ x) (sym (difference-past u v k h)) ∙ e

-- the move of one rule more
pub moves-push : (d : ℕ) (rules : List Rule) (numbers : List ℕ) (k : ℕ) →
    moves_among d rules (numbers ++ (k ∷ []))
    ≡ moves_among d rules numbers ++ (move_of d (sides_of rules k) ∷ [])
moves-push d rules numbers k = map-append (λ i. move_of d (sides_of rules i)) numbers (k ∷ [])
