-- One entry more.
use Rattle.std.proofs.Common.{SFits, [], ap, arith, map, pos, rules, sym, w32, ℕ, ℤ, ◌%◌, ◌++◌, ◌/◌, ◌≡◌, ◌∙◌, ◌∷◌}
use Rattle.std.proofs.lemmas.Int.{to_z-of_z}
use Rattle.std.proofs.lemmas.List.FromFn.{map-range_with_len_more}
use Rattle.std.specs.List.{range_with_len}
use Rattle.mb_desk.specs.loops.SquareEntries.{square_entry}
use Rattle.mb_desk.proofs.independence.entries.Goals as goal

pub loop-place-preserved : goal.loop-place-preserved
loop-place-preserved c =
    let at_place : ℕ → ℤ = λ place. pos (square_entry (place / 16) (place % 16)) in
    let fits : SFits w32 c.entry.result = search rules in
    let pushed : c.push.new.self.items ≡ c.loop-place.entries.items ++ c.entry.result ∷ [] =
    simp to_z-of_z at c.in_ok-push.ensures.items in
    pushed ∙ ap (λ entries. entries ++ c.entry.result ∷ []) c.loop-place.invariant
    ∙ ap (λ entry. map at_place (range_with_len 0 c.loop-place.place) ++ entry ∷ [])
    c.entry.ensures
    ∙ sym (map-range_with_len_more at_place 0 c.loop-place.place c.loop-place.place (omega arith))
