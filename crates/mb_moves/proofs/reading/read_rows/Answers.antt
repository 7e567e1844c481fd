use Rattle.std.proofs.Common.{List, [], ap, arith, length, sym, zero-add, ℤ, ◌*◌, ◌+◌, ◌≡◌, ◌∙◌, ◌∷◌}
use Rattle.std.proofs.lemmas.List.{length-append}
use Rattle.std.proofs.lemmas.List.Elements.{All-push}
use Rattle.mb_text.specs.Tokens.{tokens}
use Rattle.mb_moves.proofs.ArraySteps.{row_read}
use Rattle.mb_moves.proofs.RowsEndToEnd.{all_rows, end_to_end}
use Rattle.mb_moves.specs.GridText.{entries_after}
use Rattle.mb_moves.specs.loops.Reads.{in_front}
use Rattle.mb_moves.proofs.reading.read_rows.Goals as goal

pub returns-clause-read : goal.returns-clause-read
returns-clause-read c =
    let rows = c.loop-k.moves.rows in
    let so_many =
    all_rows c.loop-k.k c.args.sizes.cols rows c.loop-k.invariant.count
    c.loop-k.invariant.each in
    c.loop-k.invariant.left
    ∙ ap (λ n. in_front (end_to_end rows)
    (entries_after (c.args.sizes.rows * c.args.sizes.cols) n (tokens c.loop-k.rest.now)))
    (sym so_many ∙ sym (zero-add _))

pub loop-k-preserved : goal.loop-k-preserved
loop-k-preserved c =
    let rows = c.loop-k.moves.rows in
    let cols = c.args.sizes.cols in
    let wide = c.in_ok-z.ensures.count in
    let kept = c.loop-k.invariant in
    let next : c.loop-k.k * cols + length c.in_ok-z.z ≡ (c.loop-k.k + 1) * cols = omega arith in
    rw c.in_ok-push.ensures.added (record {
      width = kept.width;
      count = omega (arith, length-append rows (c.in_ok-z.z ∷ []), kept.count);
      each = All-push (λ (row : List ℤ). length row ≡ cols) rows c.in_ok-z.z kept.each wide;
      left = row_read (c.args.sizes.rows * cols) (c.loop-k.k * cols) ((c.loop-k.k + 1) * cols) _
          rows c.in_ok-z.z (tokens c.loop-k.rest.now) (tokens c.in_ok-z.after.now)
          kept.left c.in_ok-z.ensures.read next;
    })
