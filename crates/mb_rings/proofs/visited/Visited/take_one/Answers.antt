use Rattle.std.proofs.Common.{ap, false, subst, sym, true, ◌++◌, ◌∙◌, ◌∷◌, ◌≡◌, []}
use Rattle.std.specs.List.Sorted.{IsPermutation}
use Rattle.mb_rings.proofs.SearchSteps.{finds-none, finds-one}
use Rattle.mb_rings.specs.loops.Found.{FindsMore}
use Rattle.mb_rings.proofs.visited.Visited.take_one.Goals as goal
use Rattle.mb_tables.specs.Lists.{In}

pub returns-then-contains : goal.returns-then-contains
returns-then-contains c =
    finds-none (λ v. v ≡ c.args.table.now) c.args.self.now c.args.next.now.items
    (λ v e fits.
    subst (λ u. In u c.args.self.now) (sym e) (c.contains.ensures.0 c.if-contains.true))

pub returns : goal.returns
returns c =
    subst (λ list. FindsMore (λ v. v ≡ c.args.table.now) c.args.self.now c.insert.new.self
    c.args.next.now.items list)
    (ap (λ t. c.args.next.now.items ++ t ∷ []) (sym c.in_ok-try_copy-2.ensures)
    ∙ sym c.in_ok-push.ensures.items)
    (finds-one c.args.table.now c.args.self.now c.insert.new.self c.args.next.now.items
    (λ i. let e : true ≡ false = sym (c.contains.ensures.1 i) ∙ c.if-contains.false in cc)
    (subst (λ t. IsPermutation (t ∷ c.args.self.now) c.insert.new.self) c.in_ok-try_copy.ensures
    c.in_ok-insert.ensures.added))
