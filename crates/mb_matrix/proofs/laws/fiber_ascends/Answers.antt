use Rattle.mb_matrix.specs.Fiber.{fill}
use Rattle.mb_matrix.proofs.FillLaws.{fill-has, fill-only}
use Rattle.mb_matrix.proofs.AscendingLists.{fill-ascends, occurs_once, occurs_never}
use Rattle.mb_matrix.proofs.laws.fiber_ascends.Goals as goal

pub returns : goal.returns
returns c d columns h b e = (
  fill-ascends columns b,
  (λ u l m.
      occurs_once u (fill columns b) (fill-ascends columns b) (fill-has d columns h u b e l m)),
  (λ u f.
      occurs_never u (fill columns b) (λ i. let r = fill-only d columns h u b e i in f r.0 r.1)),
)
