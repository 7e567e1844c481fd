use Rattle.std.proofs.Common.{rules, subst, sym}
use Rattle.mb_certificate.specs.Valid.{IsValid}
use Rattle.mb_checker.proofs.ValidCertificates.{valid-markov}
use Rattle.mb_paths.proofs.GivenPaths.{beside-valid, shows-apart}
use Rattle.mb_paths.specs.Beside.{AreMovesOf, ShowsApart}
use Rattle.mb_paths.proofs.beside_moves.beside.Goals as goal
use Rattle.mb_tables.proofs.HandedOn.{handed_on}

pub returns-in_err-paths-clause-apart : goal.returns-in_err-paths-clause-apart
returns-in_err-paths-clause-apart c =
    let certificate = c.args.certificate.now in
    let are : AreMovesOf certificate.matrix c.args.moves.now = search rules in
    let fault = c.in_err-paths.field-0.0 in
    handed_on c.from_residual.result fault (ShowsApart certificate.matrix c.args.moves.now.rows)
    c.from_residual.ensures.1
    (shows-apart c.args.limit certificate c.args.moves.now fault c.matrix-matrix.ensures.sound
    c.requires.valid are c.in_err-paths.ensures.none)

pub returns-clause-valid : goal.returns-clause-valid
returns-clause-valid c =
    let certificate = c.args.certificate.now in
    let are : AreMovesOf certificate.matrix c.args.moves.now = search rules in
    subst IsValid (sym c.in_ok-beside.ensures)
    (beside-valid c.args.limit certificate c.args.moves.now c.in_ok-paths.paths.items
    c.requires.valid are c.in_ok-paths.ensures.paths)

pub returns-clause-basis : goal.returns-clause-basis
returns-clause-basis c =
    let certificate = c.args.certificate.now in
    let are : AreMovesOf certificate.matrix c.args.moves.now = search rules in
    let valid = subst IsValid (sym c.in_ok-beside.ensures)
    (beside-valid c.args.limit certificate c.args.moves.now c.in_ok-paths.paths.items
    c.requires.valid are c.in_ok-paths.ensures.paths) in
    valid-markov c.in_ok-beside.beside valid c.paths-sound.ensures.sound
