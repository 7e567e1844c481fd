use Rattle.std.proofs.Common.{ap, map, pos, rules, ◌+◌, ◌++◌, ◌∙◌, [], ◌≡◌, ℕ}
use Rattle.mb_kinds.specs.Kinds.{class_row, same}
use Rattle.mb_kinds.proofs.RowSteps.{row_more}
use Rattle.mb_kinds.proofs.hardy_weinberg.class_rows.Goals as goal

pub loop-class-preserved : goal.loop-class-preserved
loop-class-preserved c =
    let i = c.loop-class.class in
    let row = map (λ (p : ℕ × ℕ). pos (same i p.0 + same i p.1)) c.args.pairs.now in
    let pushed : c.in_ok-entries.entries.items ≡ c.loop-class.entries.items ++ row = search rules in
    pushed
    ∙ row_more (class_row c.args.classes) [] i c.loop-class.entries.items row c.loop-class.invariant
    (ap (map (λ (p : ℕ × ℕ). pos (same i p.0 + same i p.1))) c.requires)
