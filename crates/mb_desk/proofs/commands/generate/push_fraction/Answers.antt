-- The lines are seven pieces.
use Rattle.std.proofs.Common.{subst, ◌++◌, ◌≡◌}
use Rattle.mb_desk.proofs.TextPieces.{put-seven}
use Rattle.mb_desk.proofs.commands.generate.push_fraction.Goals as goal

pub returns : goal.returns
returns c =
    put-seven _ _ _ _ _ _ _ _ _ _ _ _ _ _ _ c.in_ok-push_text.ensures c.in_ok-push_number.ensures
    c.in_ok-push_text-2.ensures c.in_ok-push_number-2.ensures c.in_ok-push_text-3.ensures
    (subst (λ text. c.push_text-4.new.out.items ≡ c.push_text-3.new.out.items ++ text)
    c.decimals.ensures c.in_ok-push_text-4.ensures) c.in_ok-push_text-5.ensures
