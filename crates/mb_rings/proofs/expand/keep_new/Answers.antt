use Rattle.std.proofs.Common.{[], ap, arith, false, length, refl, subst, sym, true, ◌++◌, ◌∙◌, ◌∷◌, ◌≡◌, ◌≤◌}
use Rattle.std.proofs.lemmas.List.Sorted.{length_permutation}
use Rattle.std.specs.List.Sorted.{IsPermutation}
use Rattle.mb_rings.proofs.SearchSteps.{exceeds-one, finds-none, finds-one}
use Rattle.mb_rings.specs.loops.Found.{FindsMore}
use Rattle.mb_rings.proofs.expand.keep_new.Goals as goal
use Rattle.mb_tables.specs.Lists.{In}

pub returns-then-contains-clause-found : goal.returns-then-contains-clause-found
returns-then-contains-clause-found c =
    finds-none (λ v. v ≡ c.args.table.now) c.args.visited.now c.args.next.now.items
    (λ v e fits.
    subst (λ u. In u c.args.visited.now) (sym e) (c.contains.ensures.0 c.if-contains.true))

pub returns-then-len-limit-clause-refused : goal.returns-then-len-limit-clause-refused
returns-then-len-limit-clause-refused c = (
  refl,
  c.args.table.now ∷ [],
  exceeds-one c.args.table.now c.args.limit c.args.visited.now c.len.ensures.once
      (λ i. let e : true ≡ false = sym (c.contains.ensures.1 i) ∙ c.if-contains.false in cc)
      (omega arith),
)

-- the table is new
is_new : (c : goal.In_ok-push) → In c.args.table.now c.args.visited.now → ⊥
is_new c i = let e : true ≡ false = sym (c.contains.ensures.1 i) ∙ c.if-contains.false in cc

-- the visited tables with the new one
added : (c : goal.In_ok-push) →
    IsPermutation (c.args.table.now ∷ c.args.visited.now) c.insert.new.self
added c =
    subst (λ t. IsPermutation (t ∷ c.args.visited.now) c.insert.new.self) c.in_ok-try_copy.ensures
    c.in_ok-insert.ensures.added

pub returns-clause-found : goal.returns-clause-found
returns-clause-found c =
    subst (λ list. FindsMore (λ v. v ≡ c.args.table.now) c.args.visited.now c.insert.new.self
    c.args.next.now.items list)
    (ap (λ t. c.args.next.now.items ++ t ∷ []) (sym c.in_ok-try_copy-2.ensures)
    ∙ sym c.in_ok-push.ensures.items)
    (finds-one c.args.table.now c.args.visited.now c.insert.new.self c.args.next.now.items
    (is_new c) (added c))

pub returns-clause-room : goal.returns-clause-room
returns-clause-room c =
    let e =
    length_permutation (c.args.table.now ∷ c.args.visited.now) c.insert.new.self (added c) in
    let f : length c.args.visited.now ≤ c.args.limit = c.requires.room in omega arith
