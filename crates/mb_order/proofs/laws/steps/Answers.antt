use Rattle.mb_order.proofs.StepLaws.{made-step, step-divides, step-makes}
use Rattle.mb_order.proofs.laws.steps.Goals as goal

pub returns : goal.returns
returns c rules k rule here m p left_wide right_wide wide = (
  (λ s. (step-divides rules k rule here m p s, step-makes rules k rule here m p wide right_wide s)),
  (λ h. made-step rules k rule here m p left_wide right_wide h.0 h.1),
)
