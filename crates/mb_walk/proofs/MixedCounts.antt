-- The number of a table, count by count.
use Rattle.std.proofs.Common.{List, [], ap, arith, drop, get_or, length, suc, sym, zero, ◌≤◌, ℕ, ◌%◌, ◌*◌, ◌+◌, ◌<◌, ◌^◌, ◌∙◌, ◌∷◌, ◌≡◌}
use Rattle.std.proofs.lemmas.List.{drop_more}
use Rattle.mb_walk.specs.Owned.{mixed}

-- a count more
pub mixed-more : (number i x : ℕ) (items : List ℕ) → i < length items → x ≡ get_or items i x →
    mixed (((number * 11400714819323198485) % 2 ^ 64 + x) % 2 ^ 64) (drop (i + 1) items)
    ≡ mixed number (drop i items)
unfolding mixed
mixed-more number i x items l e =
    sym (ap (mixed number) (drop_more items i x l
    ∙ ap (λ y. y ∷ drop (i + 1) items) (sym e)))

-- no count is left
pub mixed-end : (number i whole : ℕ) (items : List ℕ) → length items ≤ i →
    mixed number (drop i items) ≡ whole → number ≡ whole
unfolding mixed
mixed-end number zero whole [] l e = e
mixed-end number (suc i) whole [] l e = e
mixed-end number zero whole (x ∷ items) l e = absurd (omega arith)
mixed-end number (suc i) whole (x ∷ items) l e = mixed-end number i whole items (omega arith) e
