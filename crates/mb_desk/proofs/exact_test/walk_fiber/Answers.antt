-- A walk of the fiber is within the limit exactly where the fiber is.
use Rattle.std.proofs.Common.{Err, rules, ◌≡◌}
use Rattle.mb_desk.proofs.FiberTests.{passed, walked}
use Rattle.mb_desk.proofs.exact_test.walk_fiber.Goals as goal
use Rattle.mb_rings.specs.Walk.{walk_of}
use Rattle.mb_rings.specs.declared.fault.WalkFault.TheVariants.{TooLarge}

pub returns-in-Ok-clause-few : goal.returns-in-Ok-clause-few
returns-in-Ok-clause-few g c =
    (walked c.args.certificate.now c.matrix-matrix.ensures.sound c.requires.valid
    c.args.observed.now c.requires.cells c.matrix-matrix.result.now c.moves-moves.result.now.rows
    c.args.limit c.in-Ok.rings.rings
    c.matrix-matrix.ensures.matrix c.moves-moves.ensures.moves c.in-Ok.ensures.rings).0

pub returns-in-Err-TooLarge-clause-few : goal.returns-in-Err-TooLarge-clause-few
returns-in-Err-TooLarge-clause-few g c =
    let limited : walk_of c.args.limit c.matrix-matrix.result.now c.moves-moves.result.now.rows
    c.args.observed.now ≡ Err (TooLarge c.in-Err-TooLarge.seen) = search rules in
    passed c.args.certificate.now c.matrix-matrix.ensures.sound c.requires.valid
    c.args.observed.now c.requires.cells c.matrix-matrix.result.now c.moves-moves.result.now.rows
    c.args.limit c.in-Err-TooLarge.seen c.matrix-matrix.ensures.matrix
    c.moves-moves.ensures.moves limited
