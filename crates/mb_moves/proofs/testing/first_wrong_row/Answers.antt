use Rattle.std.proofs.Common.{List, None, Option, [], ap, arith, length, sym, ℕ, ℤ, ◌*◌, ◌+◌, ◌≡◌, ◌∙◌, ◌∷◌}
use Rattle.std.specs.Option.{option_or}
use Rattle.mb_text.specs.Tokens.{tokens}
use Rattle.mb_moves.proofs.RowSteps.{found_on, found_on-all, found_on-none, found_on-row}
use Rattle.mb_moves.specs.GridText.{entries_after}
use Rattle.mb_moves.specs.Testing.{first_wrong}
use Rattle.mb_moves.proofs.testing.first_wrong_row.Goals as goal

pub loop-k-init : goal.loop-k-init
loop-k-init c =
    let matrix = c.args.grid.now.rows in
    let rows = c.args.rows in
    let cols = c.args.cols in
    let text = tokens c.args.text.now in
    let none : 0 ≡ 0 * cols = omega arith in
    found_on-none matrix cols rows (entries_after (rows * cols) 0 text)
    ∙ ap (λ n. found_on matrix cols rows 0 None (entries_after (rows * cols) n text)) none

pub loop-k-preserved : goal.loop-k-preserved
loop-k-preserved c =
    let matrix = c.args.grid.now.rows in
    let rows = c.args.rows in
    let cols = c.args.cols in
    let k = c.loop-k.k in
    let found = c.loop-k.wrong in
    let row = c.in_ok-row.row.items in
    let wide = c.in_ok-row.ensures.count in
    let more = k * cols + length row in
    let left = λ (n : ℕ). entries_after (rows * cols) n (tokens c.in_ok-row.after.now) in
    let one : more ≡ (k + 1) * cols = omega arith in
    let with_row : List ℤ → Option ℕ =
    λ entries. option_or found (first_wrong matrix (k + 1) (entries ∷ [])) in
    let tested =
    c.first_wrong_with-wrong.ensures ∙ ap with_row c.as_slice.ensures.value in
    c.loop-k.invariant
    ∙ ap (found_on matrix cols rows k found) c.in_ok-row.ensures.read
    ∙ found_on-row matrix cols rows k found row (left more) c.loop-k-test.true wide
    ∙ ap (λ n. found_on matrix cols rows (k + 1) (with_row row) (left n)) one
    ∙ ap (λ first. found_on matrix cols rows (k + 1) first (left ((k + 1) * cols))) (sym tested)

pub returns : goal.returns
returns c =
    let matrix = c.args.grid.now.rows in
    let rows = c.args.rows in
    let cols = c.args.cols in
    let k = c.loop-k.k in
    let left = λ (n : ℕ). entries_after (rows * cols) n (tokens c.loop-k.rest.now) in
    let all : rows ≡ k = omega arith in
    c.loop-k.invariant
    ∙ ap (λ n. found_on matrix cols rows k c.loop-k.wrong (left (n * cols))) (sym all)
    ∙ ap (found_on matrix cols rows k c.loop-k.wrong) c.in_ok-read_end.ensures
    ∙ found_on-all matrix cols rows k c.loop-k.wrong all
