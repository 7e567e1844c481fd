use Rattle.std.proofs.Common.{[], ap, arith, length, sym, ◌++◌, ◌∙◌, ◌∷◌}
use Rattle.std.proofs.lemmas.List.{length-map}
use Rattle.mb_completion.proofs.FreeRules.{free-few, free-joined, free-passed}
use Rattle.mb_completion.proofs.MadeMoves.{moves-push}
use Rattle.mb_completion.proofs.moves.add_move.Goals as goal
use Rattle.mb_completion.specs.Made.{move_of, moves_among}
use Rattle.mb_completion.specs.loops.Making.{free_below}
use Rattle.mb_order.specs.Peak.{sides_of}
use Rattle.mb_tables.specs.Rows.{Rows}

pub returns-then-not-is_free-clause-so_far : goal.returns-then-not-is_free-clause-so_far
returns-then-not-is_free-clause-so_far c =
    let rules = c.args.rules.now in
    c.requires.so_far
    ∙ ap (moves_among rules.matrix.rows rules.rules) (sym (free-passed rules.matrix.rows rules.rules
    c.args.k (sym c.is_free.ensures ∙ c.if-not-is_free.true)))

pub push-requires-clause-few : goal.push-requires-clause-few
push-requires-clause-few c =
    let rules = c.args.rules.now in
    let free = free_below rules.matrix.rows rules.rules c.args.k in
    let so_far = ap length c.requires.so_far in
    let all = length-map free (λ k. move_of rules.matrix.rows (sides_of rules.rules k)) in
    let few = free-few rules.matrix.rows rules.rules c.args.k in
    let rule = c.requires.rule in
    let sound = c.len-rules.ensures.sound.few in
    omega arith

pub returns-clause-so_far : goal.returns-clause-so_far
returns-clause-so_far c =
    let rules = c.args.rules.now in
    let d = rules.matrix.rows in
    let free = free_below d rules.rules c.args.k in
    ap (λ (r : Rows). r.rows) c.in_ok-push.ensures.added
    ∙ ap (λ l. l ++ (c.in_ok-move_of.field-0 ∷ [])) c.requires.so_far
    ∙ ap (λ z. moves_among d rules.rules free ++ (z ∷ [])) c.in_ok-move_of.ensures.made
    ∙ sym (moves-push d rules.rules free c.args.k)
    ∙ ap (moves_among d rules.rules) (sym (free-joined d rules.rules c.args.k
    (sym c.is_free.ensures ∙ c.if-not-is_free.false)))
