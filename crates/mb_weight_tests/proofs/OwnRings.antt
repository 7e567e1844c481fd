-- Rings that a test makes: the observed table, and others behind it.
use Rattle.std.proofs.Common.{All, List, [], inl, length, refl, subst, sym, ℕ, ◌++◌, ◌∷◌, ◌≡◌}
use Rattle.std.proofs.lemmas.List.Elements.{All-append, All-cons, All-nil}
use Rattle.mb_tables.specs.Lists.{In}

-- the table in front is one of them
pub front-listed : (tables others : List (List ℕ)) (u : List ℕ) → tables ≡ u ∷ others → In u tables
unfolding In
front-listed tables others u e = subst (λ t. In u t) (sym e) (inl refl)

-- where it and the others have so many counts, all have
pub all-long : (n : ℕ) (tables near far : List (List ℕ)) (u : List ℕ) →
    tables ≡ u ∷ (near ++ (far ++ [])) → length u ≡ n →
    All (λ t. length t ≡ n) near → All (λ t. length t ≡ n) far → All (λ t. length t ≡ n) tables
all-long n tables near far u e long a b =
    subst (λ t. All (λ v. length v ≡ n) t) (sym e)
    (All-cons (λ v. length v ≡ n) u (near ++ (far ++ [])) long
    (All-append (λ v. length v ≡ n) near (far ++ []) a
    (All-append (λ v. length v ≡ n) far [] b (All-nil (λ v. length v ≡ n)))))
