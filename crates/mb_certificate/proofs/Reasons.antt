-- Where there is no reason, each test passes.
use Rattle.std.proofs.Common.{Bool, List, None, Option, Some, ap, false, refl, sym, true, ℕ, ◌∙◌, ◌≡◌}
use Rattle.mb_certificate.specs.FirstFault.{are_same, ends_fault, unless}
use Rattle.mb_certificate.specs.declared.line_fault.Reason.{Reason}
use Rattle.mb_order.specs.Monomial.{Monomial}
use lib.Pointwise.{bytes_decides}

-- a test that gives no reason passes
pub unless-none : (b : Bool) (r : Reason) → unless b r ≡ None → b ≡ true
unless-none true r e = refl
unless-none false r e = cc

-- and the other way round
pub none-unless : (b : Bool) (r : Reason) → b ≡ true → unless b r ≡ None
none-unless b r e = ap (λ t. unless t r) e

-- lists that are told to be the same are so
pub same-lists : (u v : List ℕ) → are_same u v ≡ true → u ≡ v
same-lists u v e = (bytes_decides u v).0 e

-- and the other way round
pub lists-same : (u v : List ℕ) → u ≡ v → are_same u v ≡ true
lists-same u v e = (bytes_decides u v).1 e

-- two ends without fault are there and the same
pub ends-none : (differ : Reason) (x y : Option Monomial) → ends_fault differ x y ≡ None →
    (end : Monomial) × (x ≡ Some end) × (y ≡ Some end)
ends-none differ None y e = cc
ends-none differ (Some p) None e = cc
ends-none differ (Some p) (Some q) e =
    (p, refl, ap Some (sym (same-lists p q (unless-none (are_same p q) differ e))))

-- and the other way round
pub none-ends : (differ : Reason) (x y : Option Monomial) (end : Monomial) → x ≡ Some end →
    y ≡ Some end → ends_fault differ x y ≡ None
none-ends differ x y end e f =
    ap (λ o. ends_fault differ o y) e ∙ ap (ends_fault differ (Some end)) f
    ∙ none-unless (are_same end end) differ (lists-same end end refl)
