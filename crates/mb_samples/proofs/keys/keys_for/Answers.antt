-- A table suits the keys of its fiber.
use Rattle.std.proofs.Common.{rules, subst, sym, ◌≡◌}
use Rattle.mb_matrix.proofs.Suits.{suits}
use Rattle.mb_matrix.specs.Key.{Suits, digits_of}
use Rattle.mb_matrix.specs.Matrix.{margins_of}
use Rattle.mb_samples.proofs.keys.keys_for.Goals as goal

pub returns-clause-suits : goal.returns-clause-suits
returns-clause-suits c =
    let e : c.in-Some.keys ≡ digits_of c.args.matrix.now
    (margins_of c.args.matrix.now c.args.table.now) =
    search rules in
    subst (λ digits. Suits digits c.args.table.now) (sym e)
    (suits c.args.matrix.now c.cols-cells.ensures.sound c.args.table.now c.requires)
