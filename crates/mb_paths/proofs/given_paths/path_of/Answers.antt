use Rattle.std.proofs.Common.{All, Err, Ok, arith, refl, subst, sym, ◌<◌, ◌≡◌}
use Rattle.mb_matrix.specs.Matrix.{Design, margins_of}
use Rattle.mb_paths.proofs.GivenPaths.{left-margins, same-three, sides-margins, tables-are, walk-signed}
use Rattle.mb_paths.specs.Between.{Answers, IsApart, IsWithin, PassesLimit}
use Rattle.mb_paths.specs.Beside.{left_table, right_table}
use Rattle.mb_paths.proofs.given_paths.path_of.Goals as goal

pub between-requires-clause-same_margins : goal.between-requires-clause-same_margins
between-requires-clause-same_margins c =
    let certificate = c.args.certificate.now in
    let are = tables-are certificate c.rules.result.now c.args.rule c.index-rules-rule.result
    c.in_ok-left.left c.in_ok-right.right c.rules.ensures.rules c.requires.rule
    c.index-rules-rule.is c.rules.ensures.shape c.in_ok-left.ensures c.in_ok-right.ensures in
    same-three (λ m u v. margins_of m u ≡ margins_of m v) certificate.matrix c.matrix.result.now
    (left_table certificate c.args.rule) (right_table certificate c.args.rule) c.in_ok-left.left
    c.in_ok-right.right (sym c.matrix.ensures.matrix) (sym are.0) (sym are.1)
    (sides-margins certificate c.rules.ensures.sound c.requires.valid c.args.rule c.requires.rule
    c.requires.free)

pub between-requires-clause-margins : goal.between-requires-clause-margins
between-requires-clause-margins c =
    let certificate = c.args.certificate.now in
    let are = tables-are certificate c.rules.result.now c.args.rule c.index-rules-rule.result
    c.in_ok-left.left c.in_ok-right.right c.rules.ensures.rules c.requires.rule
    c.index-rules-rule.is c.rules.ensures.shape c.in_ok-left.ensures c.in_ok-right.ensures in
    same-three (λ m u v. All (λ margin. margin < 4294967296) (margins_of m u)) certificate.matrix
    c.matrix.result.now (left_table certificate c.args.rule)
    (right_table certificate c.args.rule) c.in_ok-left.left c.in_ok-right.right
    (sym c.matrix.ensures.matrix) (sym are.0) (sym are.1)
    (left-margins certificate c.rules.ensures.sound c.requires.valid c.args.rule c.requires.rule)

pub returns-in-Ok-Joined-clause-path : goal.returns-in-Ok-Joined-clause-path
returns-in-Ok-Joined-clause-path c =
    let certificate = c.args.certificate.now in
    let are = tables-are certificate c.rules.result.now c.args.rule c.index-rules-rule.result
    c.in_ok-left.left c.in_ok-right.right c.rules.ensures.rules c.requires.rule
    c.index-rules-rule.is c.rules.ensures.shape c.in_ok-left.ensures c.in_ok-right.ensures in
    same-three (λ m u v. IsWithin c.args.limit m c.args.moves.now.rows u v
    c.in-Ok-Joined.steps.items) c.matrix.result.now certificate.matrix c.in_ok-left.left
    c.in_ok-right.right (left_table certificate c.args.rule)
    (right_table certificate c.args.rule) c.matrix.ensures.matrix are.0 are.1
    (subst (λ b. Answers c.args.limit c.matrix.result.now c.args.moves.now.rows c.in_ok-left.left
    c.in_ok-right.right (Ok b)) c.in-Ok-Joined.field-0-is c.in-Ok-Joined.ensures)

pub returns-in-Ok-Joined-clause-sound : goal.returns-in-Ok-Joined-clause-sound
returns-in-Ok-Joined-clause-sound c =
    let moves = c.len-moves.ensures.sound in
    let few = moves.few in
    let within = c.ranges.rule.fits in
    let answer : IsWithin c.args.limit c.matrix.result.now c.args.moves.now.rows c.in_ok-left.left
    c.in_ok-right.right c.in-Ok-Joined.steps.items =
    (subst (λ b. Answers c.args.limit c.matrix.result.now c.args.moves.now.rows c.in_ok-left.left
    c.in_ok-right.right (Ok b)) c.in-Ok-Joined.field-0-is c.in-Ok-Joined.ensures) in
    record {
      rule_fits = omega arith;
      signed = walk-signed c.args.moves.now.rows c.in-Ok-Joined.steps.items c.in_ok-left.left
          c.in_ok-right.right few answer.path.leads;
      short = let n = c.len-steps.ensures in let m = c.in-Ok-Joined.steps.ok.0 in omega arith;
    }

pub returns-in-Ok-Apart-clause-none : goal.returns-in-Ok-Apart-clause-none
returns-in-Ok-Apart-clause-none c =
    let certificate = c.args.certificate.now in
    let are = tables-are certificate c.rules.result.now c.args.rule c.index-rules-rule.result
    c.in_ok-left.left c.in_ok-right.right c.rules.ensures.rules c.requires.rule
    c.index-rules-rule.is c.rules.ensures.shape c.in_ok-left.ensures c.in_ok-right.ensures in (
      refl,
      are.0,
      are.1,
      subst (λ (m : Design). IsApart c.args.limit m c.args.moves.now.rows c.in_ok-left.left
          c.in_ok-right.right) c.matrix.ensures.matrix
          (subst (λ b. Answers c.args.limit c.matrix.result.now
          c.args.moves.now.rows c.in_ok-left.left
          c.in_ok-right.right (Ok b)) c.in-Ok-Apart.field-0-is c.in-Ok-Apart.ensures),
    )

pub returns-in-Err-TooLarge-clause-none : goal.returns-in-Err-TooLarge-clause-none
returns-in-Err-TooLarge-clause-none c =
    let certificate = c.args.certificate.now in
    let are = tables-are certificate c.rules.result.now c.args.rule c.index-rules-rule.result
    c.in_ok-left.left c.in_ok-right.right c.rules.ensures.rules c.requires.rule
    c.index-rules-rule.is c.rules.ensures.shape c.in_ok-left.ensures c.in_ok-right.ensures in
    let answer = subst (λ f. Answers c.args.limit c.matrix.result.now c.args.moves.now.rows
    c.in_ok-left.left c.in_ok-right.right (Err f)) c.in-Err-TooLarge.field-0-is
    c.in-Err-TooLarge.ensures in (
      refl,
      answer.0,
      same-three (λ m u v. PassesLimit c.args.limit m c.args.moves.now.rows u v)
          c.matrix.result.now certificate.matrix c.in_ok-left.left c.in_ok-right.right
          (left_table certificate c.args.rule) (right_table certificate c.args.rule)
          c.matrix.ensures.matrix are.0 are.1 answer.1,
    )
