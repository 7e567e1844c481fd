use Rattle.std.proofs.Common.{false, get_or, ℕ, ◌<◌, ◌≡◌}
use Rattle.mb_text.specs.Tokens.{is_blank}
use Rattle.mb_text.proofs.tokens.token_len.Given as goal

abbrev pub invariant-loop-place : goal.invariant-loop-place
invariant-loop-place l = (k : ℕ) → k < l.place → is_blank (get_or l.text k 0) ≡ false
