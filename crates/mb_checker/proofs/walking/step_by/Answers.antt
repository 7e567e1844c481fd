use Rattle.std.proofs.Common.{List, Some, ap, arith, rules as proof_rules, slice_get, subst, suc, sym, ℕ, ◌-◌, ◌∙◌, ◌≡◌}
use Rattle.std.proofs.lemmas.Int.{to_z-of_z}
use Rattle.std.specs.Bool.{OnFalse, OnTrue}
use Rattle.std.specs.Int.RustNames.{unsigned_abs}
use Rattle.mb_checker.proofs.SignedSteps.{named-number, step-cells, step-margins, step-moved, step-none}
use Rattle.mb_checker.proofs.walking.step_by.Goals as goal
use Rattle.mb_checker.specs.loops.Walked.{sign_of}
use Rattle.mb_tables.specs.Counts.{AreCounts}
use Rattle.mb_tables.specs.Step.{Moved}
use Rattle.mb_tables.specs.declared.sign.Sign.{Sign}
use mir.Syntax.{w64}
use mir.Val.{SFits}

-- the move that stands at the number
here : (c : goal.After-apply) →
    slice_get c.args.certificate.now.moves (c.unsigned_abs.result - 1) ≡ Some c.get-z.result.now
here c =
    ap (λ xs. slice_get xs (c.unsigned_abs.result - 1)) (sym c.moves-moves.ensures.moves)
    ∙ c.get-z.ensures

-- the number is one more
number : (c : goal.After-apply) → unsigned_abs c.args.step ≡ suc (c.unsigned_abs.result - 1)
number c =
    let f : SFits w64 c.args.step = search proof_rules in
    let e : c.unsigned_abs.result ≡ unsigned_abs c.args.step =
    simp to_z-of_z at c.unsigned_abs.ensures.value in
    let r = named-number c.args.certificate.now.moves c.args.step c.requires.named in
    let l = r.0 in
    omega arith

-- the sign is that of the number
signed : (c : goal.After-apply) → c.sign_of.result ≡ sign_of c.args.step
signed c =
    let f : SFits w64 c.args.step = search proof_rules in
    simp to_z-of_z at c.sign_of.ensures

pub returns-clause-moved : goal.returns-clause-moved
returns-clause-moved c =
    let parts = c.args.certificate.now in
    let u = c.args.table.now in
    let v = c.apply.new.self in
    step-moved parts.matrix parts.moves c.args.step (c.unsigned_abs.result - 1) c.get-z.result.now
    (c.moves-moves.ensures.sound).design c.requires.moves (here c) (number c) u c.requires.cells
    c.requires.small c.apply.result v
    (subst (λ (s : Sign). OnTrue c.apply.result (Moved s u c.get-z.result.now v)) (signed c)
    c.apply.ensures.moved)

pub returns-clause-none : goal.returns-clause-none
returns-clause-none c =
    let parts = c.args.certificate.now in
    let u = c.args.table.now in
    step-none parts.matrix parts.moves c.args.step (c.unsigned_abs.result - 1) c.get-z.result.now
    (c.moves-moves.ensures.sound).design c.requires.moves (here c) (number c) u c.requires.cells
    c.requires.small c.apply.result
    (subst (λ (s : Sign). OnFalse c.apply.result ((v : List ℕ) →
    Moved s u c.get-z.result.now v → AreCounts v → ⊥)) (signed c) c.apply.ensures.refused)

pub returns-clause-cells : goal.returns-clause-cells
returns-clause-cells c =
    let parts = c.args.certificate.now in
    let u = c.args.table.now in
    let v = c.apply.new.self in
    step-cells parts.matrix parts.moves c.args.step (c.unsigned_abs.result - 1) c.get-z.result.now
    (c.moves-moves.ensures.sound).design c.requires.moves (here c) (number c) u c.requires.cells
    c.requires.small c.apply.result v
    (subst (λ (s : Sign). OnTrue c.apply.result (Moved s u c.get-z.result.now v)) (signed c)
    c.apply.ensures.moved) c.apply.ensures.kept

pub returns-clause-small : goal.returns-clause-small
returns-clause-small c =
    let parts = c.args.certificate.now in
    let u = c.args.table.now in
    let v = c.apply.new.self in
    step-margins parts.matrix parts.moves c.args.step (c.unsigned_abs.result - 1)
    c.get-z.result.now
    (c.moves-moves.ensures.sound).design c.requires.moves (here c) (number c) u c.requires.cells
    c.requires.small c.apply.result v
    (subst (λ (s : Sign). OnTrue c.apply.result (Moved s u c.get-z.result.now v)) (signed c)
    c.apply.ensures.moved) c.apply.ensures.kept
