use Rattle.std.proofs.Common.{List, [], ap, subst, sum, sym, ℕ, ◌∙◌, ◌∷◌}
use Rattle.mb_claims.proofs.NewWords.{new-kept, new_seat}
use Rattle.mb_claims.specs.ClaimRule.{IsClaimed}
use Rattle.mb_claims.specs.ClaimStep.{new_root}
use Rattle.mb_claims.proofs.shards.Shards.made.Goals as goal

pub of_words-requires : goal.of_words-requires
of_words-requires c =
    subst (λ (words : List ℕ). IsClaimed c.args.sizes.items words
    (new_root c.args.sizes.items ∷ []))
    (sym (c.as_slice-2.ensures.value ∙ c.in_ok-words.ensures))
    (new-kept c.args.sizes.items _ (c.in_ok-starts.ensures.total ∙ ap sum c.as_slice.ensures.value))

pub invariant_of-result-2 : goal.invariant_of-result-2
invariant_of-result-2 c = new_seat c.args.sizes.items c.in_ok-table.seat.me c.in_ok-table.ensures.4
