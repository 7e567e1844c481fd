-- The worked run, its basis and the certificate made of it meet the premises of the laws.
use Rattle.std.proofs.Common.{Some, [], ap, arith, false, refl, slice_get, subst, suc, true, zero, ℕ, ◌∙◌, ◌∷◌, ◌≡◌}
use Rattle.std.proofs.lemmas.List.Elements.{All-from_recursion}
use Rattle.mb_certificate.specs.Certificate.{Start}
use Rattle.mb_completion.proofs.Births.{finished_run}
use Rattle.mb_completion.proofs.RunToReduced.{run_reaches}
use Rattle.mb_completion.proofs.SampleBasis.{last_irreducible, reduced_sample, same_rule, sample_design, sample_reduction, t, x, y}
use Rattle.mb_completion.proofs.SampleLook.{sample_run}
use Rattle.mb_completion.specs.Laws.{IsMade}
use Rattle.mb_completion.specs.Made.{IsNormalJoin, IsNormalStart, difference, paths_from}
use Rattle.mb_completion.specs.Premises.{AreTwoOfAClass, PremisesHold}
use Rattle.mb_completion.specs.Run.{AreLightPeaks}
use Rattle.mb_completion.specs.SampleRun.{SampleMeetsPremises, sample_basis, sample_certificate, sample_final, sample_matrix}
use Rattle.mb_matrix.specs.Fiber.{margins}
use Rattle.mb_order.specs.Peak.{pairs_below}
use Rattle.mb_order.specs.Rewriting.{Rule}
use Rattle.mb_order.specs.Weight.{units_from}
use Rattle.mb_order.specs.declared.order.Order.TheVariants.{Grevlex}
use Rattle.mb_rules.specs.NormalForm.{NormalBy}
use Rattle.mb_tables.specs.Vectors.{all_zero, at, plus, shares, times, unit, within, zeros}

-- what the laws from the run to the basis ask
premises : PremisesHold sample_matrix Grevlex 1 sample_final 1 sample_basis
premises =
    let fit = sample_design.each in
    let final = finished_run sample_matrix Grevlex 1 sample_final 1 sample_design sample_run in
    let reach = run_reaches sample_matrix Grevlex sample_design 1 sample_final 1 sample_run in
    let basis = reduced_sample sample_run in record {
      finished_run = (sample_design, sample_run);
      completion = (fit, final.0, final.1, final.2);
      corners = (fit, final.0, reach);
      reduction = (fit, final.0, reach, sample_reduction);
      reduced = (fit, basis.reduced);
      one_reduced = (fit, basis.reduced, basis.ascending);
    }

-- no rule fits the symbol of the last cell
y_normal : NormalBy sample_basis [] y y
unfolding NormalBy within
y_normal = (refl, refl)

-- rule 0 leads the first cell's symbol to it
x_normal : NormalBy sample_basis (0 ∷ []) x y
unfolding NormalBy within plus
x_normal = (y, refl, ((x, y), [], refl, refl, refl), y_normal)

-- rule 1 leads the margin's symbol to it
t_normal : NormalBy sample_basis (1 ∷ []) t y
unfolding NormalBy within plus
t_normal = (y, refl, ((t, y), [], refl, refl, refl), y_normal)

-- two monomials of weight 1
one_form : AreTwoOfAClass sample_matrix sample_basis t x y y (1 ∷ []) (0 ∷ [])
unfolding units_from unit margins plus times zeros
one_form = record {
  first_wide = refl;
  second_wide = refl;
  equal_weight = refl;
  first_normal = t_normal;
  second_normal = x_normal;
  differ = λ e. (let f : 1 ≡ 0 = ap (λ m. at m 0) e in omega arith);
}

-- the two left sides of the basis share no symbol, so there is no peak
light_peaks : AreLightPeaks sample_matrix sample_basis
unfolding shares
light_peaks zero zero low high l e f s = absurd (omega arith)
light_peaks zero (suc zero) low high l e f s =
    let first = ap (λ (r : Rule). shares r.0 t) (same_rule (x, y) low e) in
    let second = ap (λ (r : Rule). shares low.0 r.0) (same_rule (t, y) high f) in
    let g : false ≡ true = first ∙ second ∙ s in cc
light_peaks zero (suc (suc j)) low high l e f s = cc
light_peaks (suc i) zero low high l e f s = absurd (omega arith)
light_peaks (suc i) (suc zero) low high l e f s = absurd (omega arith)
light_peaks (suc i) (suc (suc j)) low high l e f s = cc

-- equal starts that are there
same_start : (p q : Start) → Some p ≡ Some q → p ≡ q
same_start p q e = cc

-- each start has the traces of normal forms
normal_starts : (j : ℕ) (start : Start) → slice_get sample_certificate.starts j ≡ Some start →
    IsNormalStart sample_matrix sample_basis j start
unfolding unit zeros
normal_starts zero start e =
    let first : Start = record { margin_steps = 1 ∷ []; cell_steps = 0 ∷ [] } in
    subst (IsNormalStart sample_matrix sample_basis 0) (same_start first start e)
    (record { margin = (y, t_normal); cell = (y, x_normal) })
normal_starts (suc zero) start e =
    let second : Start = record { margin_steps = 1 ∷ []; cell_steps = [] } in
    subst (IsNormalStart sample_matrix sample_basis 1) (same_start second start e)
    (record { margin = (y, t_normal); cell = (y, y_normal) })
normal_starts (suc (suc j)) start e = cc

-- the certificate is made of the basis
made : IsMade sample_certificate
unfolding difference paths_from all_zero shares pairs_below
made = record {
  moves = refl;
  starts = record { each_cell = refl; normal = normal_starts };
  joins = record {
    all = refl;
    normal = All-from_recursion (IsNormalJoin sample_basis) [] tt;
  };
  paths = refl;
}

-- all premises are met
pub sample_meets : SampleMeetsPremises
unfolding units_from
sample_meets = record {
  run = premises;
  end = record { wide = refl; irreducible = last_irreducible };
  one_form = one_form;
  made_is_valid = record {
    design = sample_design;
    basis = reduced_sample sample_run;
    light = light_peaks;
    made = made;
  };
}
