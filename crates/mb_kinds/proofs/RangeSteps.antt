-- Lists over a range of numbers that grow by one.
use Rattle.std.proofs.Common.{Bool, List, [], ap, append-nil, arith, cond, false, map, sym, true, ℕ, ◌+◌, ◌-◌, ◌≤◌, ◌++◌, ◌∙◌, ◌∷◌, ◌≡◌}
use Rattle.std.proofs.lemmas.List.{append_assoc}
use Rattle.std.proofs.lemmas.List.Concat.{flat_map-append}
use Rattle.std.proofs.lemmas.List.FromFn.{map-range_with_len_more}
use Rattle.std.specs.List.{filter, flat_map, range_with_len}
use Rattle.mb_data.proofs.CellLists.{numbers_more}

-- one number more
pub range_more : (a n j : ℕ) → a + n ≡ j → range_with_len a (n + 1) ≡ range_with_len a n ++ j ∷ []
range_more a n j e = ap (range_with_len a) (let on : n + 1 ≡ ℕ.suc n = omega arith in
    on) ∙ last a n j e
  where
    last : (a n j : ℕ) → a + n ≡ j → range_with_len a (ℕ.suc n) ≡ range_with_len a n ++ j ∷ []
    last a ℕ.zero j e = let same : a ≡ j = omega (arith, e) in ap (λ k. k ∷ []) same
    last a (ℕ.suc n) j e = ap (λ l. a ∷ l) (last (a + 1) n j (omega (arith, e)))

-- one that passes
pub filter_passes : (test : ℕ → Bool) (k : ℕ) (list : List ℕ)
    → list ≡ filter test (range_with_len 0 k) → test k ≡ true
    → list ++ k ∷ [] ≡ filter test (range_with_len 0 (k + 1))
filter_passes test k list before passes =
    ap (λ l. l ++ k ∷ []) before
    ∙ sym (numbers_more test k
    ∙ ap (λ (b : Bool). filter test (range_with_len 0 k) ++ cond b (k ∷ []) []) passes)

-- one that fails
pub filter_fails : (test : ℕ → Bool) (k : ℕ) (list : List ℕ)
    → list ≡ filter test (range_with_len 0 k) → test k ≡ false
    → list ≡ filter test (range_with_len 0 (k + 1))
filter_fails test k list before fails =
    before
    ∙ sym (numbers_more test k
    ∙ ap (λ (b : Bool). filter test (range_with_len 0 k) ++ cond b (k ∷ []) []) fails
    ∙ append-nil (filter test (range_with_len 0 k)))

-- the pieces of one number more
pub pieces_more : {X : Type 0} (piece : ℕ → List X) (n : ℕ) (front list : List X)
    → list ≡ front ++ flat_map piece (range_with_len 0 n)
    → list ++ piece n ≡ front ++ flat_map piece (range_with_len 0 (n + 1))
pieces_more piece n front list before =
    ap (λ l. l ++ piece n) before
    ∙ append_assoc front (flat_map piece (range_with_len 0 n)) (piece n)
    ∙ ap (λ l. front ++ l) (sym (ap (flat_map piece) (range_more 0 n n (omega arith))
    ∙ flat_map-append piece (range_with_len 0 n) (n ∷ [])
    ∙ ap (λ l. flat_map piece (range_with_len 0 n) ++ l) (append-nil (piece n))))

-- one number more of a range that begins elsewhere
pub values_more : {X : Type 0} (f : ℕ → X) (a b : ℕ) (front list : List X) → a ≤ b
    → list ≡ front ++ map f (range_with_len a (b - a))
    → list ++ f b ∷ [] ≡ front ++ map f (range_with_len a (b + 1 - a))
values_more f a b front list past before =
    let more : b - a + 1 ≡ b + 1 - a = omega (arith, past) in
    ap (λ l. l ++ f b ∷ []) before
    ∙ append_assoc front (map f (range_with_len a (b - a))) (f b ∷ [])
    ∙ ap (λ l. front ++ l) (sym (map-range_with_len_more f a (b - a) b (omega (arith, past))))
    ∙ ap (λ n. front ++ map f (range_with_len a n)) more
