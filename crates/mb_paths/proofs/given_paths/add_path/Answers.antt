use Rattle.std.proofs.Common.{[], subst, sym, ◌++◌, ◌∙◌, ◌∷◌}
use Rattle.std.specs.List.{filter, range_with_len}
use Rattle.mb_certificate.specs.Valid.{is_free}
use Rattle.mb_paths.proofs.GivenPaths.{free-more, free-same, paths-before, paths-more}
use Rattle.mb_paths.specs.Beside.{AreLeastPaths}
use Rattle.mb_paths.specs.declared.beside_fault.BesideFault.TheVariants.{OutOfMemory}
use Rattle.mb_paths.specs.loops.Pathless.{IsPathlessAt}
use Rattle.mb_paths.proofs.given_paths.add_path.Goals as goal
use Rattle.mb_tables.proofs.HandedOn.{handed_on}

pub returns-then-not-is_free-clause-so_far : goal.returns-then-not-is_free-clause-so_far
returns-then-not-is_free-clause-so_far c =
    let certificate = c.args.certificate.now in
    let moves = c.args.moves.now.rows in
    subst (λ numbers. AreLeastPaths c.args.limit certificate moves numbers c.args.paths.now.items)
    (sym (free-same c.args.limit certificate moves c.args.rule
    (sym c.is_free.ensures ∙ c.if-not-is_free.true))) c.requires.so_far

pub returns-in_err-path_of-clause-none : goal.returns-in_err-path_of-clause-none
returns-in_err-path_of-clause-none c =
    let certificate = c.args.certificate.now in
    let moves = c.args.moves.now.rows in
    let fault = c.in_err-path_of.field-0.0 in
    handed_on c.from_residual.result fault (IsPathlessAt c.args.limit certificate moves)
    c.from_residual.ensures.1 (
      c.args.rule,
      paths-before c.args.limit certificate moves c.args.rule c.args.paths.now.items
          c.requires.rule (sym c.is_free.ensures ∙ c.if-not-is_free.false) c.requires.so_far,
      c.in_err-path_of.ensures.none,
    )

pub returns-in_err-push-clause-none : goal.returns-in_err-push-clause-none
returns-in_err-push-clause-none c =
    let certificate = c.args.certificate.now in
    let moves = c.args.moves.now.rows in
    handed_on c.from_residual-in_err-push.result OutOfMemory
    (IsPathlessAt c.args.limit certificate moves) c.from_residual-in_err-push.ensures.1 (
      c.args.rule,
      paths-before c.args.limit certificate moves c.args.rule c.args.paths.now.items
          c.requires.rule (sym c.is_free.ensures ∙ c.if-not-is_free.false) c.requires.so_far,
      tt,
    )

pub returns-clause-so_far : goal.returns-clause-so_far
returns-clause-so_far c =
    let certificate = c.args.certificate.now in
    let moves = c.args.moves.now.rows in
    let free = sym c.is_free.ensures ∙ c.if-not-is_free.false in
    let numbers = filter (is_free certificate.matrix.rows certificate.rules)
    (range_with_len 0 c.args.rule) in
    subst (λ list. AreLeastPaths c.args.limit certificate moves list c.push.new.self.items)
    (sym (free-more c.args.limit certificate moves c.args.rule free))
    (subst (λ list. AreLeastPaths c.args.limit certificate moves (numbers ++ c.args.rule ∷ []) list)
    (sym c.in_ok-push.ensures.items)
    (paths-more c.args.limit certificate moves c.args.rule numbers c.args.paths.now.items
    c.in_ok-path_of.field-0 c.requires.so_far c.in_ok-path_of.ensures.rule
    c.in_ok-path_of.ensures.path))
