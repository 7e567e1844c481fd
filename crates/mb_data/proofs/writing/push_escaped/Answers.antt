use Rattle.std.proofs.Common.{[], ap, drop, false, get_or, length, rules, true, ◌+◌, ◌++◌, ◌<◌, ◌==◌, ◌∙◌, ◌∷◌, ◌≡◌, ◌≤◌}
use Rattle.csv.specs.Writing.{default_writer, escaped}
use Rattle.mb_data.proofs.WrittenRows.{escaped_end, once_at, twice_at}
use Rattle.mb_data.proofs.writing.push_escaped.Goals.{else-b-eq34, then-b-eq34+in_ok-push}
use Rattle.mb_data.proofs.writing.push_escaped.Goals as goal

pub loop-b-preserved : goal.loop-b-preserved
loop-b-preserved c =
    let field = c.args.field.now in
    let k = c.loop-b.b-index in
    let b = get_or field k 0 in
    let whole = c.args.out.now.items ++ escaped default_writer field in
    let within : k < length field = search rules in
    let pushed : c.push-in-loop-b.new.self.items ≡ c.if-b-eq34.out.items ++ b ∷ [] = search rules in
    elim c.if-b-eq34.branch [
      | then-b-eq34+in_ok-push w ↦
          let is : (b == 34) ≡ true = search rules in
          let before : c.if-b-eq34.out.items ≡ c.loop-b.out.items ++ 34 ∷ [] = search rules in
          ap (λ list. list ++ escaped default_writer (drop (k + 1) field))
          (pushed ∙ ap (λ list. list ++ b ∷ []) before)
          ∙ twice_at field k c.loop-b.out.items whole within is c.loop-b.invariant
      | else-b-eq34 w ↦
          let is : (b == 34) ≡ false = search rules in
          let before : c.if-b-eq34.out.items ≡ c.loop-b.out.items = search rules in
          ap (λ list. list ++ escaped default_writer (drop (k + 1) field))
          (pushed ∙ ap (λ list. list ++ b ∷ []) before)
          ∙ once_at field k c.loop-b.out.items whole within is c.loop-b.invariant
    ]

pub returns : goal.returns
returns c =
    let past : length c.args.field.now ≤ c.loop-b.b-index = search rules in
    escaped_end c.args.field.now c.loop-b.b-index c.loop-b.out.items
    (c.args.out.now.items ++ escaped default_writer c.args.field.now) past c.loop-b.invariant
