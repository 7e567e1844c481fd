-- The table that signed numbers make of another is where they lead.
use Rattle.std.proofs.Common.{List, None, Option, Some, [], ap, arith, inl, inr, length, map, neg_ℤ, negsuc, pos, refl, slice_get, subst, suc, sym, true, zero, ℕ, ℤ, ◌+ℤ◌, ◌∙◌, ◌∷◌, ◌≡◌}
use Rattle.std.proofs.lemmas.Bool.{and_from}
use Rattle.std.proofs.lemmas.Bool.Decides.{nat_tests}
use Rattle.std.proofs.lemmas.Int.{ints}
use Rattle.std.proofs.lemmas.Option.{option_and_then_some}
use Rattle.std.specs.List.{list_all}
use Rattle.std.specs.Option.{option_and_then}
use Rattle.mb_certificate.proofs.Reasons.{lists-same, none-unless, same-lists, unless-none}
use Rattle.mb_certificate.specs.FirstFault.{added, are_same, count_of, end_fault, moved_by, names_move, steps_fault, unless, walk}
use Rattle.mb_certificate.specs.Valid.{MovesBy, Walks}
use Rattle.mb_certificate.specs.declared.line_fault.Reason.TheVariants.{PathEnd, StepNotApplicable}
use Rattle.mb_tables.proofs.ListLaws.{place-within}
use Rattle.mb_tables.proofs.OptionLaws.{none-or, or-none}
use Rattle.mb_tables.specs.Chain.{Chain, Joined}
use Rattle.mb_tables.specs.Step.{Adds, OneApart}

-- a number that is a count
count-is : (z : ℤ) (y : ℕ) → count_of z ≡ Some y → pos y ≡ z
count-is (pos n) y e = let f : n ≡ y = cc in ap pos (sym f)
count-is (negsuc n) y e = cc

-- the table that a move makes is the first and the move
pub added-Adds : (u : List ℕ) (move : List ℤ) (v : List ℕ) → added u move ≡ Some v →
    Adds u move v
unfolding added Adds
added-Adds [] [] v e = let f : [] ≡ v = cc in subst (Adds [] []) f tt
added-Adds [] (z ∷ move) v e = cc
added-Adds (x ∷ u) [] v e = cc
added-Adds (x ∷ u) (z ∷ move) v e =
    option_and_then_some (λ y. option_and_then (λ w. Some (y ∷ w)) (added u move))
    (count_of (pos x +ℤ z)) v e (λ y f g.
    option_and_then_some (λ w. Some (y ∷ w)) (added u move) v g (λ w h i.
    let j : (y ∷ w) ≡ v = cc in
    subst (Adds (x ∷ u) (z ∷ move)) j (count-is (pos x +ℤ z) y f, added-Adds u move w h)))

-- and the other way round
pub Adds-added : (u : List ℕ) (move : List ℤ) (v : List ℕ) → Adds u move v →
    added u move ≡ Some v
unfolding added Adds
Adds-added [] [] [] h = refl
Adds-added [] [] (y ∷ v) h = absurd h
Adds-added [] (z ∷ move) v h = absurd h
Adds-added (x ∷ u) [] v h = absurd h
Adds-added (x ∷ u) (z ∷ move) [] h = absurd h
Adds-added (x ∷ u) (z ∷ move) (y ∷ v) h =
    ap (option_and_then (λ y. option_and_then (λ w. Some (y ∷ w)) (added u move)))
    (ap count_of (sym h.0))
    ∙ ap (option_and_then (λ w. Some (y ∷ w))) (Adds-added u move v h.1)

-- where a move makes one table of another, its negative makes the other of the one
Adds-negated : (u : List ℕ) (move : List ℤ) (v : List ℕ) → Adds u move v →
    Adds v (map neg_ℤ move) u
unfolding Adds
Adds-negated [] [] [] h = tt
Adds-negated [] [] (y ∷ v) h = absurd h
Adds-negated [] (z ∷ move) v h = absurd h
Adds-negated (x ∷ u) [] v h = absurd h
Adds-negated (x ∷ u) (z ∷ move) [] h = absurd h
Adds-negated (x ∷ u) (z ∷ move) (y ∷ v) h =
    let e = h.0 in
    (omega (arith, ints), Adds-negated u move v h.1)

-- and the other way round
negated-Adds : (u : List ℕ) (move : List ℤ) (v : List ℕ) → Adds v (map neg_ℤ move) u →
    Adds u move v
unfolding Adds
negated-Adds [] [] [] h = tt
negated-Adds [] [] (y ∷ v) h = absurd h
negated-Adds [] (z ∷ move) [] h = absurd h
negated-Adds [] (z ∷ move) (y ∷ v) h = absurd h
negated-Adds (x ∷ u) [] [] h = absurd h
negated-Adds (x ∷ u) [] (y ∷ v) h = absurd h
negated-Adds (x ∷ u) (z ∷ move) [] h = absurd h
negated-Adds (x ∷ u) (z ∷ move) (y ∷ v) h =
    let e = h.0 in
    (omega (arith, ints), negated-Adds u move v h.1)

-- the table that a signed number makes is where it leads
pub moved-MovesBy : (moves : List (List ℤ)) (step : ℤ) (u v : List ℕ) →
    moved_by moves step u ≡ Some v → MovesBy moves step u v
moved-MovesBy moves (pos zero) u v e = cc
moved-MovesBy moves (pos (suc k)) u v e =
    option_and_then_some (added u) (slice_get moves k) v e
    (λ move f g. (move, f, added-Adds u move v g))
moved-MovesBy moves (negsuc k) u v e =
    option_and_then_some (λ move. added u (map neg_ℤ move)) (slice_get moves k) v e
    (λ move f g. (move, f, negated-Adds v move u (added-Adds u (map neg_ℤ move) v g)))

-- and the other way round
pub MovesBy-moved : (moves : List (List ℤ)) (step : ℤ) (u v : List ℕ) →
    MovesBy moves step u v → moved_by moves step u ≡ Some v
MovesBy-moved moves (pos zero) u v h = absurd h
MovesBy-moved moves (pos (suc k)) u v h =
    ap (option_and_then (added u)) h.1 ∙ Adds-added u h.0 v h.2
MovesBy-moved moves (negsuc k) u v h =
    ap (option_and_then (λ move. added u (map neg_ℤ move))) h.1
    ∙ Adds-added u (map neg_ℤ h.0) v (Adds-negated v h.0 u h.2)

-- a signed number that leads somewhere is that of a move
names : (moves : List (List ℤ)) (step : ℤ) (u v : List ℕ) → MovesBy moves step u v →
    names_move moves step ≡ true
names moves (pos zero) u v h = absurd h
names moves (pos (suc k)) u v h =
    let l = place-within moves k h.0 h.1 in grind (arith, nat_tests)
names moves (negsuc k) u v h =
    let l = place-within moves k h.0 h.1 in grind (arith, nat_tests)

-- the table that signed numbers make is where they lead
pub walk-Walks : (moves : List (List ℤ)) (steps : List ℤ) (u v : List ℕ) →
    walk moves steps u ≡ Some v → Walks moves steps u v
unfolding walk Walks
walk-Walks moves [] u v e = cc
walk-Walks moves (step ∷ steps) u v e =
    option_and_then_some (λ next. walk moves steps next) (moved_by moves step u) v e
    (λ next f g. (next, moved-MovesBy moves step u next f, walk-Walks moves steps next v g))

-- and the other way round
pub Walks-walk : (moves : List (List ℤ)) (steps : List ℤ) (u v : List ℕ) →
    Walks moves steps u v →
    (list_all (names_move moves) steps ≡ true) × (walk moves steps u ≡ Some v)
unfolding walk Walks
Walks-walk moves [] u v h = (refl, ap Some h)
Walks-walk moves (step ∷ steps) u v h =
    let r = Walks-walk moves steps h.0 v h.2 in (
      and_from (names_move moves step) (list_all (names_move moves) steps)
          (names moves step u h.0 h.1) r.0,
      ap (option_and_then (λ next. walk moves steps next)) (MovesBy-moved moves step u h.0 h.1)
          ∙ r.1,
    )

-- a walk without fault ends at the table
end-none : (v : List ℕ) (o : Option (List ℕ)) → end_fault v o ≡ None → o ≡ Some v
end-none v None e = cc
end-none v (Some end) e = ap Some (same-lists end v (unless-none (are_same end v) PathEnd e))

-- steps without fault lead from table to table
pub steps-walk : (moves : List (List ℤ)) (steps : List ℤ) (u v : List ℕ) →
    steps_fault moves steps u v ≡ None → Walks moves steps u v
steps-walk moves steps u v e =
    let r = or-none (unless (list_all (names_move moves) steps) StepNotApplicable)
    (end_fault v (walk moves steps u)) e in
    walk-Walks moves steps u v (end-none v (walk moves steps u) r.1)

-- and the other way round
pub walk-steps : (moves : List (List ℤ)) (steps : List ℤ) (u v : List ℕ) →
    Walks moves steps u v → steps_fault moves steps u v ≡ None
walk-steps moves steps u v h =
    let r = Walks-walk moves steps u v h in
    none-or (unless (list_all (names_move moves) steps) StepNotApplicable)
    (end_fault v (walk moves steps u))
    (none-unless (list_all (names_move moves) steps) StepNotApplicable r.0)
    (ap (end_fault v) r.1 ∙ none-unless (are_same v v) PathEnd (lists-same v v refl))

-- a signed number leads one step
pub moved-apart : (moves : List (List ℤ)) (step : ℤ) (u v : List ℕ) → MovesBy moves step u v →
    OneApart moves u v
moved-apart moves (pos zero) u v h = absurd h
moved-apart moves (pos (suc k)) u v h = (k, h.0, h.1, inl h.2)
moved-apart moves (negsuc k) u v h = (k, h.0, h.1, inr h.2)

-- and one step is that of a signed number
pub apart-moved : (moves : List (List ℤ)) (u v : List ℕ) → OneApart moves u v →
    (step : ℤ) × MovesBy moves step u v
apart-moved moves u v (k, move, there, inl a) = (pos (suc k), (move, there, a))
apart-moved moves u v (k, move, there, inr a) = (negsuc k, (move, there, a))

-- tables that signed numbers lead to each other are joined
pub walk-joined : (moves : List (List ℤ)) (steps : List ℤ) (u v : List ℕ) →
    Walks moves steps u v → Joined moves u v
unfolding Chain Walks
walk-joined moves [] u v h = ([], h)
walk-joined moves (step ∷ steps) u v h =
    let rest = walk-joined moves steps h.0 v h.2 in
    (h.0 ∷ rest.0, (moved-apart moves step u h.0 h.1, rest.1))

-- a chain of tables is walked by as many signed numbers
pub chain-walk : (moves : List (List ℤ)) (u : List ℕ) (tables : List (List ℕ)) (v : List ℕ) →
    Chain moves u tables v →
    (steps : List ℤ) × (length steps ≡ length tables) × Walks moves steps u v
unfolding Chain Walks
chain-walk moves u [] v h = ([], refl, h)
chain-walk moves u (next ∷ tables) v h =
    let one = apart-moved moves u next h.0 in
    let rest = chain-walk moves next tables v h.1 in
    (one.0 ∷ rest.0, ap suc rest.1, (next, one.1, rest.2))
