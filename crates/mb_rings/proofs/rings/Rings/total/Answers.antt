use Rattle.std.proofs.Common.{List, length, subst, sum_by, ℕ, ◌∙◌, ◌≡◌}
use Rattle.std.proofs.lemmas.List.Concat.{length-flat_map}
use Rattle.mb_rings.specs.Ring.{Ring}
use Rattle.mb_rings.specs.Walked.{Walked}
use Rattle.mb_rings.specs.loops.RingList.{listed}
use Rattle.mb_rings.proofs.rings.Rings.total.Goals as goal

pub returns-clause-sizes : goal.returns-clause-sizes
returns-clause-sizes c =
    subst (λ (w : Walked). c.self.inside.total ≡ sum_by (length {A = List ℕ}) w.rings)
    c.self.view_is
    (c.self.invariant.tables
    ∙ length-flat_map (λ (ring : Ring). ring) (listed c.self.inside.rings.items))
