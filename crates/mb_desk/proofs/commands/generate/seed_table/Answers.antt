-- One digit more.
use Rattle.std.proofs.Common.{[], ap, arith, map, sym, ◌++◌, ◌≡◌, ◌∙◌, ◌∷◌}
use Rattle.std.proofs.lemmas.List.FromFn.{map-range_with_len_more}
use Rattle.std.specs.List.{range_with_len}
use Rattle.mb_desk.specs.GenerateCommand.{digit}
use Rattle.mb_desk.proofs.SquareModel.{seed_table-is}
use Rattle.mb_desk.proofs.commands.generate.seed_table.Goals as goal

pub loop-j-preserved : goal.loop-j-preserved
loop-j-preserved c =
    c.in_ok-push.ensures.items
    ∙ ap (λ counts. counts ++ c.digit.result ∷ []) c.loop-j.invariant
    ∙ ap (λ count. map (digit c.args.seed) (range_with_len 0 c.loop-j.j) ++ count ∷ [])
    c.digit.ensures
    ∙ sym (map-range_with_len_more (digit c.args.seed) 0 c.loop-j.j c.loop-j.j (omega arith))

pub returns-in-Ok : goal.returns-in-Ok
returns-in-Ok c =
    let whole : c.loop-j.j ≡ 16 = omega arith in
    c.in-Ok.ensures.made ∙ c.as_slice.ensures.value ∙ c.loop-j.invariant
    ∙ ap (λ n. map (digit c.args.seed) (range_with_len 0 n)) whole ∙ seed_table-is c.args.seed
