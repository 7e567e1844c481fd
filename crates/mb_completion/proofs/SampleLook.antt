-- The worked run: its one look.
use Rattle.std.proofs.Common.{List, [], arith, inl, inr, refl, suc, zero, ℕ, ◌∷◌, ◌≤◌}
use Rattle.mb_completion.specs.Run.{Runs}
use Rattle.mb_completion.specs.SampleRun.{SampleRun}
use Rattle.mb_completion.specs.Start.{births_from}
use Rattle.mb_matrix.specs.Fiber.{margins}
use Rattle.mb_order.specs.Order.{monomial_cmp}
use Rattle.mb_order.specs.Peak.{pairs_below}
use Rattle.mb_order.specs.Rewriting.{Rule}
use Rattle.mb_order.specs.Weight.{units_from}
use Rattle.mb_rules.specs.NormalForm.{NormalBy}
use Rattle.mb_tables.specs.Vectors.{at, greater, minus, plus, shares, times, unit, within, zeros}

-- the weight of the peak is 1
one_small : (i : ℕ) → at (1 ∷ []) i ≤ 65535
one_small zero = omega arith
one_small (suc i) = omega arith

-- the run of one look
pub sample_run : SampleRun
unfolding Runs births_from zeros unit plus minus greater shares within NormalBy pairs_below
    monomial_cmp margins times units_from
sample_run =
    let low : Rule = (1 ∷ 0 ∷ 0 ∷ [], 0 ∷ 1 ∷ 0 ∷ []) in
    let high : Rule = (1 ∷ 0 ∷ 0 ∷ [], 0 ∷ 0 ∷ 1 ∷ []) in
    let born : List Rule = (0 ∷ 1 ∷ 0 ∷ [], 0 ∷ 0 ∷ 1 ∷ []) ∷ [] in
    inr (
      0,
      1,
      low,
      high,
      refl,
      refl,
      refl,
      inr (
        born,
        record {
          light = one_small;
          low_trace = [];
          high_trace = [];
          low_form = 0 ∷ 1 ∷ 0 ∷ [];
          high_form = 0 ∷ 0 ∷ 1 ∷ [];
          low_normal = (refl, refl);
          high_normal = (refl, refl);
          adds = inr (inl (refl, refl));
        },
        inl (refl, refl),
      ),
    )
