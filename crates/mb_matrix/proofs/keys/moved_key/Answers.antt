use Rattle.std.proofs.Common.{ap, subst, sym, ◌%◌, ◌+◌, ◌-◌, ◌^◌, ◌∙◌}
use Rattle.mb_matrix.proofs.keys.moved_key.Goals as goal
use Rattle.mb_tables.specs.Step.{Moved}

pub returns-in-Plus : goal.returns-in-Plus
returns-in-Plus c value digits move u v d e m s =
    let step = subst (λ t. Moved t u move v) c.in-Plus.is m in
    ap (λ k. (k + c.args.delta) % 2 ^ 64) e ∙ sym (d.added u v step s)

pub returns-in-Minus : goal.returns-in-Minus
returns-in-Minus c value digits move u v d e m s =
    let step = subst (λ t. Moved t u move v) c.in-Minus.is m in
    ap (λ k. (k + (2 ^ 64 - c.args.delta)) % 2 ^ 64) e ∙ sym (d.subtracted u v step s)
