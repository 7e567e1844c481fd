use Rattle.std.proofs.Common.{[], ap, arith, length, negsuc, rules as proof_rules, sym, w64, ◌∙◌, ◌∷◌, ◌≡◌}
use Rattle.std.proofs.lemmas.Int.{to_z-of_z}
use Rattle.mb_certificate.specs.Certificate.{Path}
use mir.Val.{SFits}
use Rattle.mb_completion.proofs.FreeRules.{free-few, free-joined, free-passed}
use Rattle.mb_completion.proofs.MadePaths.{paths-joined, paths-length}
use Rattle.mb_completion.proofs.moves.add_path.Goals as goal
use Rattle.mb_completion.specs.Made.{paths_from}
use Rattle.mb_completion.specs.loops.Making.{free_below}

pub returns-then-not-is_free : goal.returns-then-not-is_free
returns-then-not-is_free c =
    let rules = c.args.rules.now in
    c.requires.so_far
    ∙ ap (paths_from 0) (sym (free-passed rules.matrix.rows rules.rules c.args.k
    (sym c.is_free.ensures ∙ c.if-not-is_free.true)))

pub overflow_cast-len : goal.overflow_cast-len
overflow_cast-len c =
    let rules = c.args.rules.now in
    let so_far = ap length c.requires.so_far in
    let all = paths-length 0 (free_below rules.matrix.rows rules.rules c.args.k) in
    let few = free-few rules.matrix.rows rules.rules c.args.k in
    omega arith

pub returns : goal.returns
returns c =
    let rules = c.args.rules.now in
    let free = free_below rules.matrix.rows rules.rules c.args.k in
    let step = c.subtracting.result in
    let count : c.len.result ≡ length c.args.paths.now.items = omega arith in
    let fits : SFits w64 step = search proof_rules in
    let steps : c.in_ok-steps.steps.items ≡ negsuc (length c.args.paths.now.items) ∷ [] =
    c.in_ok-steps.ensures.items
    ∙ ap (λ z. z ∷ []) (to_z-of_z w64 step fits ∙ c.subtracting.ensures ∙ ap negsuc count)
    in
    paths-joined c.args.paths.now.items c.push.new.self.items free c.args.k _ c.requires.so_far
    (ap (λ s. let path : Path = record { rule = c.args.k; steps = s } in path) steps)
    c.in_ok-push.ensures.items
    ∙ ap (paths_from 0) (sym (free-joined rules.matrix.rows rules.rules c.args.k
    (sym c.is_free.ensures ∙ c.if-not-is_free.false)))
