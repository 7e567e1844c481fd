use Rattle.std.proofs.Common.{Bool, ap, append-nil, cond, false, get_or, length, rules, sym, true, ◌++◌, ◌<◌, ◌∙◌, ◌∷◌, [], ◌≡◌, ℕ}
use Rattle.std.specs.List.{filter, range_with_len, slice_index_or}
use Rattle.std.specs.Option.{is_some}
use Rattle.mb_data.specs.CrossTable.{count_in}
use Rattle.mb_data.specs.declared.entry.Entry.{Entry}
use Rattle.mb_data.specs.declared.entry.Entry.TheVariants.{Count, StructuralZero}
use Rattle.mb_data.proofs.CellLists.{entry_there, numbers_more}
use Rattle.mb_data.proofs.cells.numbers_of_cells.Goals.{in-Count+in_ok-push-in-Count, in-StructuralZero}
use Rattle.mb_data.proofs.cells.numbers_of_cells.Goals as goal

pub loop-number-preserved : goal.loop-number-preserved
loop-number-preserved c =
    let k = c.loop-number.number in
    let within : k < length c.args.entries.now = search rules in
    let test : ℕ → Bool =
    λ k. is_some (count_in (slice_index_or c.args.entries.now k StructuralZero)) in
    elim c.match-entry.branch [
      | in-Count+in_ok-push-in-Count w ↦
          let at : get_or c.args.entries.now k (Count 0) ≡ Count w.in-Count._count = search rules in
          let is = entry_there c.args.entries.now k (Count w.in-Count._count) within at in
          let passes : test k ≡ true = ap (λ (e : Entry). is_some (count_in e)) is in
          let pushed : c.match-entry.numbers.items ≡ c.loop-number.numbers.items
          ++ k ∷ [] = search rules in
          pushed ∙ ap (λ list. list ++ k ∷ []) c.loop-number.invariant
          ∙ sym (numbers_more test k
          ∙ ap (λ (b : Bool). filter test (range_with_len 0 k) ++ cond b (k ∷ []) []) passes)
      | in-StructuralZero w ↦
          let at : get_or c.args.entries.now k (Count 0) ≡ StructuralZero = search rules in
          let is = entry_there c.args.entries.now k StructuralZero within at in
          let fails : test k ≡ false = ap (λ (e : Entry). is_some (count_in e)) is in
          let kept : c.match-entry.numbers.items ≡ c.loop-number.numbers.items = search rules in
          kept ∙ c.loop-number.invariant
          ∙ sym (numbers_more test k
          ∙ ap (λ (b : Bool). filter test (range_with_len 0 k) ++ cond b (k ∷ []) []) fails
          ∙ append-nil (filter test (range_with_len 0 k)))
    ]
