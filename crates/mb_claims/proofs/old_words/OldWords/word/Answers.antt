use Rattle.std.proofs.Common.{ap, get_or, sym, ℕ, List, ◌∙◌}
use Rattle.mb_claims.proofs.SeatSums.{at_is}
use Rattle.mb_claims.proofs.old_words.OldWords.word.Goals as goal

pub returns : goal.returns
returns c =
    sym (at_is c.self.inside.closed.words.items c.args.place c.word.result 0 c.word.ensures).1
    ∙ ap (λ (words : List ℕ). get_or words c.args.place 0) c.self.view_is
