use Rattle.std.proofs.Common.{All, ap, arith, length, subst, sym, ◌∙◌, ◌≤◌, ◌≡◌}
use Rattle.std.proofs.lemmas.List.FromFn.{length-map-range_with_len}
use Rattle.mb_matrix.specs.Measure.{group_at}
use Rattle.mb_matrix.specs.Scheme.{scheme_of}
use Rattle.mb_matrix.proofs.measure.Measure.try_new.Goals as goal

pub invariant_of-result : goal.invariant_of-result
invariant_of-result c =
    let bases : length c.in_ok-bases.bases.items ≡ length c.args.matrix.now.columns =
    ap length c.in_ok-bases.ensures.items ∙ c.requires in
    let sound = c.cols-few.ensures.sound in
    let some = sound.some_cells in
    let few = sound.few_cells in
    record {
      some = omega arith;
      few = omega arith;
      each_group =
          ap length c.in_ok-groups.ensures
          ∙ length-map-range_with_len
          (group_at c.args.matrix.now (scheme_of c.args.scale)) 0
          (length c.args.matrix.now.columns)
          ∙ sym bases;
      positive =
          subst (λ numbers. All (λ number. 1 ≤ number) numbers)
          (sym c.in_ok-bases.ensures.items)
          c.in_default-first_zero.ensures.none;
    }
