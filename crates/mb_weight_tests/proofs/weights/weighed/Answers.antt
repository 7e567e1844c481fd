-- The observed table stands in the first ring, and all tables have the matrix's cells.
use Rattle.std.proofs.Common.{All, ap, arith, length, subst, ◌∙◌, ◌++◌, ◌≡◌, []}
use Rattle.std.proofs.lemmas.Grind.{common_steps}
use Rattle.mb_weight_tests.proofs.OwnRings.{all-long, front-listed}
use Rattle.mb_weights.specs.PValue.{tables_in}
use Rattle.mb_weight_tests.proofs.weights.weighed.Goals as goal

pub found_by-found-requires-clause-listed : goal.found_by-found-requires-clause-listed
found_by-found-requires-clause-listed g c κs within =
    front-listed (tables_in c.as_slice-rings.result.now)
    (c.in_ok-near.near.items ++ (c.in_ok-far.far.items ++ [])) c.in_ok-observed.observed
    (ap (λ rings. tables_in rings) c.as_slice-rings.ensures.value ∙ c.in_ok-rings.ensures)

pub found_by-found-requires-clause-tables : goal.found_by-found-requires-clause-tables
found_by-found-requires-clause-tables g c κs within =
    let long : length c.in_ok-observed.observed ≡ c.cols-cells.result =
    grind (arith, common_steps) in
    subst (λ n. All (λ table. length table ≡ n) (tables_in c.as_slice-rings.result.now))
    c.cols-cells.ensures.cells
    (all-long c.cols-cells.result (tables_in c.as_slice-rings.result.now) c.in_ok-near.near.items
    c.in_ok-far.far.items c.in_ok-observed.observed
    (ap (λ rings. tables_in rings) c.as_slice-rings.ensures.value ∙ c.in_ok-rings.ensures)
    long c.in_ok-near.ensures c.in_ok-far.ensures)
