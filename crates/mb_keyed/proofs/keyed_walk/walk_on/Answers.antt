use Rattle.std.proofs.Common.{Err, List, Ok, OnErr, Result, ap, subst, sym, true, ℕ, ◌∙◌, ◌≡◌}
use Rattle.std.specs.Result.{is_err}
use Rattle.mb_keyed.proofs.keyed_walk.walk_on.Goals as goal
use Rattle.mb_matrix.proofs.Suits.{suits}
use Rattle.mb_matrix.specs.Key.{Suits}
use Rattle.mb_matrix.specs.declared.digit.Digit.{Digit}
use Rattle.mb_tables.specs.Lists.{In}

-- what holds after a refusal
on-err : {X F : Type 0} (r : Result X F) (P : Type 0) → is_err r ≡ true → OnErr r P → P
on-err (Ok x) P e h = cc
on-err (Err fault) P e h = h

pub returns-in-Err-clause-reached : goal.returns-in-Err-clause-reached
unfolding In
returns-in-Err-clause-reached g c key i =
    absurd (subst (λ (list : List ℕ). In key list) c.requires.empty i)

pub returns-in-Err-first_ring-clause-reached : goal.returns-in-Err-first_ring-clause-reached
unfolding In
returns-in-Err-first_ring-clause-reached g c key i =
    absurd (subst (λ (list : List ℕ). In key list) c.requires.empty i)

pub key-requires : goal.key-requires
key-requires g c =
    subst (λ (digits : List Digit). Suits digits c.args.start.now) (sym c.requires.keys)
    (suits c.args.matrix.now c.cols-cells.ensures.sound c.args.start.now c.requires.cells)

pub returns-then-is_err-clause-reached : goal.returns-then-is_err-clause-reached
unfolding In
returns-then-is_err-clause-reached g c key i =
    absurd (subst (λ (list : List ℕ). In key list)
    (ap (λ r. r.knows.gathered) (on-err c.claim_first.result _
    (sym c.is_err.ensures.value ∙ c.if-is_err.true) c.claim_first.ensures.kept)
    ∙ c.requires.empty) i)
