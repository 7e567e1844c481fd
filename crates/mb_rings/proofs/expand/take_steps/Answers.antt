use Rattle.std.proofs.Common.{List, arith, length, refl, subst, ℤ, ◌∙◌, ◌≡◌}
use Rattle.mb_rings.proofs.Expanding.{over-minus, over-plus, searched-all, searching-none, searching-step}
use Rattle.mb_rings.proofs.PlacesBelow.{SteppedBelow, below-none, get-there}
use Rattle.mb_rings.proofs.TurnSteps.{adds-both, adds-none}
use Rattle.mb_rings.specs.loops.Found.{FindsMore, IsSearchFault}
use Rattle.mb_rings.specs.loops.InTurn.{AddsInTurn, turns_of}
use Rattle.mb_rings.proofs.expand.take_steps.Goals as goal
use Rattle.mb_tables.specs.Step.{Moved, OneApart}
use Rattle.mb_tables.specs.declared.sign.Sign.TheVariants.{Minus, Plus}
use Rattle.mb_tables.proofs.HandedOn.{handed_on}

pub loop-z-init : goal.loop-z-init
loop-z-init c = (
  searching-none (SteppedBelow c.as_slice-z-items.result.now 0 c.args.table.now) c.args.limit
      c.args.visited.now c.args.next.now.items
      (λ v h. below-none c.as_slice-z-items.result.now _ h) c.requires.room,
  refl,
  adds-none c.as_slice-z-items.result.now c.args.table.now c.args.visited.now
      c.args.next.now.items,
)

pub returns-in_err-take_step-clause-refused : goal.returns-in_err-take_step-clause-refused
returns-in_err-take_step-clause-refused c =
    let fault = c.in_err-take_step.field-0.0 in
    let moves = c.as_slice-z-items.result.now in
    handed_on c.from_residual.result fault
    (IsSearchFault (OneApart c.args.moves.now.rows c.args.table.now) c.args.limit
    c.args.visited.now)
    c.from_residual.ensures.1
    (subst (λ (rows : List (List ℤ)). IsSearchFault (OneApart rows c.args.table.now) c.args.limit
    c.args.visited.now fault) c.as_slice-z-items.ensures.moves
    (over-plus moves c.loop-z.z-index c.z-item.result
    (get-there moves c.loop-z.z-index c.z-item.result (omega arith) c.z-item.is) c.args.table.now
    c.args.limit c.args.visited.now c.args.next.now.items c.loop-z.visited c.loop-z.next.items fault
    c.loop-z.invariant.0
    (subst (λ t. IsSearchFault (Moved Plus t c.z-item.result) c.args.limit c.loop-z.visited fault)
    c.loop-z.invariant.1 c.in_err-take_step.ensures.refused)))

pub returns-in_err-take_step-2-clause-refused : goal.returns-in_err-take_step-2-clause-refused
returns-in_err-take_step-2-clause-refused c =
    let fault = c.in_err-take_step-2.field-0.0 in
    let moves = c.as_slice-z-items.result.now in
    let middle = c.take_step.new.visited in
    handed_on c.from_residual-in_err-take_step-2.result fault
    (IsSearchFault (OneApart c.args.moves.now.rows c.args.table.now) c.args.limit
    c.args.visited.now)
    c.from_residual-in_err-take_step-2.ensures.1
    (subst (λ (rows : List (List ℤ)). IsSearchFault (OneApart rows c.args.table.now) c.args.limit
    c.args.visited.now fault) c.as_slice-z-items.ensures.moves
    (over-minus moves c.loop-z.z-index c.z-item.result
    (get-there moves c.loop-z.z-index c.z-item.result (omega arith) c.z-item.is) c.args.table.now
    c.args.limit c.args.visited.now c.args.next.now.items c.loop-z.visited c.loop-z.next.items
    middle c.take_step.new.next.items fault c.loop-z.invariant.0
    (subst (λ t. FindsMore (Moved Plus t c.z-item.result) c.loop-z.visited middle
    c.loop-z.next.items c.take_step.new.next.items) c.loop-z.invariant.1
    c.in_ok-take_step.ensures.found)
    (subst (λ t. IsSearchFault (Moved Minus t c.z-item.result) c.args.limit middle fault)
    (c.in_ok-take_step.ensures.back ∙ c.loop-z.invariant.1) c.in_err-take_step-2.ensures.refused)))

pub loop-z-preserved : goal.loop-z-preserved
loop-z-preserved c =
    let moves = c.as_slice-z-items.result.now in
    let middle = c.take_step.new.visited in
    let last = c.take_step-in-loop-z.new.visited in (
      searching-step moves c.loop-z.z-index c.z-item.result
          (get-there moves c.loop-z.z-index c.z-item.result (omega arith) c.z-item.is)
          c.args.table.now c.args.limit c.args.visited.now c.args.next.now.items c.loop-z.visited
          c.loop-z.next.items middle c.take_step.new.next.items last
          c.take_step-in-loop-z.new.next.items c.loop-z.invariant.0
          (subst (λ t. FindsMore (Moved Plus t c.z-item.result) c.loop-z.visited middle
          c.loop-z.next.items c.take_step.new.next.items) c.loop-z.invariant.1
          c.in_ok-take_step.ensures.found)
          (subst (λ t. FindsMore (Moved Minus t c.z-item.result) middle last
          c.take_step.new.next.items c.take_step-in-loop-z.new.next.items)
          (c.in_ok-take_step.ensures.back ∙ c.loop-z.invariant.1) c.in_ok-take_step-2.ensures.found)
          c.in_ok-take_step-2.ensures.room,
      c.in_ok-take_step-2.ensures.back ∙ c.in_ok-take_step.ensures.back ∙ c.loop-z.invariant.1,
      adds-both moves c.loop-z.z-index c.z-item.result
          (get-there moves c.loop-z.z-index c.z-item.result (omega arith) c.z-item.is)
          c.args.table.now (SteppedBelow moves c.loop-z.z-index c.args.table.now)
          c.args.visited.now c.loop-z.visited middle last c.args.next.now.items
          c.loop-z.next.items c.take_step.new.next.items c.take_step-in-loop-z.new.next.items
          c.loop-z.invariant.0.finds c.loop-z.invariant.2
          (subst (λ t. FindsMore (Moved Plus t c.z-item.result) c.loop-z.visited middle
          c.loop-z.next.items c.take_step.new.next.items) c.loop-z.invariant.1
          c.in_ok-take_step.ensures.found)
          (subst (λ t. FindsMore (Moved Minus t c.z-item.result) middle last
          c.take_step.new.next.items c.take_step-in-loop-z.new.next.items)
          (c.in_ok-take_step.ensures.back ∙ c.loop-z.invariant.1)
          c.in_ok-take_step-2.ensures.found),
    )

pub returns-clause-found : goal.returns-clause-found
returns-clause-found c =
    subst (λ (rows : List (List ℤ)). FindsMore (OneApart rows c.args.table.now) c.args.visited.now
    c.loop-z.visited c.args.next.now.items c.loop-z.next.items) c.as_slice-z-items.ensures.moves
    (searched-all c.as_slice-z-items.result.now c.loop-z.z-index c.args.table.now c.args.limit
    c.args.visited.now c.loop-z.visited c.args.next.now.items c.loop-z.next.items (omega arith)
    c.loop-z.invariant.0)

pub returns-clause-in_turn : goal.returns-clause-in_turn
returns-clause-in_turn c =
    let moves = c.as_slice-z-items.result.now in
    let e : c.loop-z.z-index ≡ length moves = omega arith in
    subst (λ (rows : List (List ℤ)). AddsInTurn rows c.args.table.now (turns_of (length rows))
    c.args.visited.now c.args.next.now.items c.loop-z.next.items) c.as_slice-z-items.ensures.moves
    (subst (λ n. AddsInTurn moves c.args.table.now (turns_of n) c.args.visited.now
    c.args.next.now.items c.loop-z.next.items) e c.loop-z.invariant.2)
