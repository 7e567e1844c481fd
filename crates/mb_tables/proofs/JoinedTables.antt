-- Laws of joined tables: chains go back, go on, and keep when a table is added.
use Rattle.std.proofs.Common.{List, [], ap, arith, inl, inr, length, refl, subst, sym, ℕ, ℤ, ◌∷◌, ◌≡◌, ◌≤◌}
use Rattle.std.proofs.lemmas.Int.{ints}
use Rattle.mb_tables.proofs.CellSteps.{adds-length}
use Rattle.mb_tables.specs.Chain.{Chain, Joined}
use Rattle.mb_tables.specs.Step.{Adds, OneApart}
use Rattle.mb_tables.specs.Vectors.{plus}

-- a step stays one when a table no longer than both is added to them
pub adds-plus : (u : List ℕ) (move : List ℤ) (v more : List ℕ) →
    length more ≤ length u → Adds u move v → Adds (plus u more) move (plus v more)
unfolding Adds plus
adds-plus [] [] [] [] l h = h
adds-plus [] [] [] (a ∷ more) l h = absurd (omega arith)
adds-plus [] [] (y ∷ v) more l h = absurd h
adds-plus [] (z ∷ move) v more l h = absurd h
adds-plus (x ∷ u) [] v more l h = absurd h
adds-plus (x ∷ u) (z ∷ move) [] more l h = absurd h
adds-plus (x ∷ u) (z ∷ move) (y ∷ v) [] l h = h
adds-plus (x ∷ u) (z ∷ move) (y ∷ v) (a ∷ more) l h =
    (let e = h.0 in omega (arith, ints), adds-plus u move v more (omega arith) h.1)

module _ (moves : List (List ℤ)) where
  -- one step apart goes both ways
  apart_swap : (u v : List ℕ) → OneApart moves u v → OneApart moves v u
  apart_swap u v h = (h.0, h.1, h.2, elim h.3 [ inl a ↦ inr a | inr a ↦ inl a ])

  -- tables one step apart have the same number of cells
  pub apart-length : (u v : List ℕ) → OneApart moves u v → length u ≡ length v
  apart-length u v h =
      elim h.3 [ inl a ↦ adds-length u h.1 v a | inr a ↦ sym (adds-length v h.1 u a) ]

  -- and stay so when a table is added to both
  apart-plus : (u v more : List ℕ) → length more ≤ length u →
      OneApart moves u v → OneApart moves (plus u more) (plus v more)
  apart-plus u v more l h = (
    h.0,
    h.1,
    h.2,
    elim h.3 [
      | inl a ↦ inl (adds-plus u h.1 v more l a)
      | inr a ↦
          let e = adds-length v h.1 u a in
          inr (adds-plus v h.1 u more (omega arith) a)
    ],
  )

  -- a chain and then a join are a join
  pub chain_then : (u : List ℕ) (tables : List (List ℕ)) (v w : List ℕ) →
      Chain moves u tables v → Joined moves v w → Joined moves u w
  unfolding Chain
  chain_then u [] v w h k = subst (λ x. Joined moves x w) (sym h) k
  chain_then u (next ∷ tables) v w h k =
      let rest = chain_then next tables v w h.1 k in (next ∷ rest.0, (h.0, rest.1))

  -- a chain joins its ends the other way too
  pub chain_swap : (u : List ℕ) (tables : List (List ℕ)) (v : List ℕ) →
      Chain moves u tables v → Joined moves v u
  unfolding Chain
  chain_swap u [] v h = ([], sym h)
  chain_swap u (next ∷ tables) v h =
      let back = chain_swap next tables v h.1 in
      chain_then v back.0 next u back.1 (u ∷ [], (apart_swap u next h.0, refl))

  -- a chain still joins its ends when a table is added to all of its tables
  pub chain-plus : (u : List ℕ) (tables : List (List ℕ)) (v more : List ℕ) →
      length more ≤ length u → Chain moves u tables v →
      Joined moves (plus u more) (plus v more)
  unfolding Chain
  chain-plus u [] v more l h = ([], ap (λ x. plus x more) h)
  chain-plus u (next ∷ tables) v more l h =
      let e = apart-length u next h.0 in
      let rest = chain-plus next tables v more (omega arith) h.1 in
      (plus next more ∷ rest.0, (apart-plus u next more l h.0, rest.1))

  -- a table is joined to itself, by no step
  pub joined_itself : (u : List ℕ) → Joined moves u u
  unfolding Chain
  joined_itself u = ([], refl)
