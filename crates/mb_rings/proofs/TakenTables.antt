-- What is taken over of a list, table by table.
use Rattle.std.proofs.Common.{Bor, List, [], inl, inr, map, subst, sym, ℕ, ◌++◌, ◌+◌, ◌∷◌, ◌≡◌, ◌⊎◌, ⊎_elim}
use Rattle.std.proofs.lemmas.List.{map-append}
use Rattle.std.specs.Map.Iter.{deref}
use Rattle.mb_rings.proofs.SearchSteps.{finds-none, finds-same, finds-then}
use Rattle.mb_rings.specs.Ring.{Ring}
use Rattle.mb_rings.specs.loops.Found.{FindsMore}
use Rattle.mb_tables.proofs.ListLaws.{In-cases, In-left, In-right}
use Rattle.mb_tables.specs.Lists.{In}

-- before the first table
pub taken-none : (before old : Ring) → FindsMore (λ v. In v []) before before old old
unfolding In
taken-none before old = finds-none (λ v. In v []) before old (λ v i fits. absurd i)

-- a table more
pub taken-more : (tables : List (Bor (List ℕ))) (table : Bor (List ℕ))
    (before middle after old half new : Ring) →
    FindsMore (λ v. In v (map deref tables)) before middle old half →
    FindsMore (λ v. v ≡ table.now) middle after half new →
    FindsMore (λ v. In v (map deref (tables ++ table ∷ []))) before after old new
unfolding In
taken-more tables table before middle after old half new f g =
    let e : map deref (tables ++ table ∷ []) ≡ map deref tables ++ table.now ∷ [] =
    map-append deref tables (table ∷ []) in
    subst (λ list. FindsMore (λ v. In v list) before after old new) (sym e)
    (finds-same (λ v. In v (map deref tables) ⊎ (v ≡ table.now))
    (λ v. In v (map deref tables ++ table.now ∷ [])) before after old new
    (λ v. ⊎_elim
    (λ i. In-left v (map deref tables) (table.now ∷ []) i)
    (λ s. In-right v (map deref tables) (table.now ∷ []) (inl s)))
    (λ v i. elim (In-cases v (map deref tables) (table.now ∷ []) i) [
      | inl j ↦ inl j
      | inr j ↦ elim j [ inl s ↦ inr s | inr n ↦ absurd n ]
    ])
    (finds-then (λ v. In v (map deref tables)) (λ v. v ≡ table.now) before middle after old half
    new f g))
