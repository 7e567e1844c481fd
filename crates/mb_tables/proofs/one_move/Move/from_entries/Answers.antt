use Rattle.std.proofs.Common.{ap, arith, length, length-append, subst, sym, ◌++◌, ◌∙◌, ◌≡◌}
use Rattle.mb_tables.proofs.KeptParts.{are_parts, length-picked}
use Rattle.mb_tables.proofs.PickedParts.{parts_of, picked-entries}
use Rattle.mb_tables.specs.loops.Parts.{AreMoveParts, entries_of, is_high, is_low, picked}
use Rattle.mb_tables.proofs.one_move.Move.from_entries.Goals as goal

-- the parts below 0
lows : (c : goal.After-len-lows) → c.push_lows.new.parts.items ≡ picked is_low 0 c.args.entries.now
lows c =
    c.in_ok-push_lows.ensures
    ∙ ap (λ list. list ++ picked is_low 0 c.args.entries.now) c.in_ok-parts.ensures.items

pub overflow_cast-lows : goal.overflow_cast-lows
overflow_cast-lows c =
    let few = c.requires.few in
    let less = length-picked is_low 0 c.args.entries.now in
    let e = ap length (lows c) in
    omega arith

-- all parts
parts : (c : goal.In_ok-push_highs) → c.push_highs.new.parts.items ≡ parts_of c.args.entries.now
parts c =
    c.in_ok-push_highs.ensures
    ∙ ap (λ list. list ++ picked is_high 0 c.args.entries.now)
    (c.in_ok-push_lows.ensures
    ∙ ap (λ list. list ++ picked is_low 0 c.args.entries.now) c.in_ok-parts.ensures.items)

pub invariant_of-result : goal.invariant_of-result
invariant_of-result c =
    let entries = c.args.entries.now in
    subst (AreMoveParts (length entries) c.len-lows.result) (sym (parts c))
    (are_parts entries c.len-lows.result c.requires
    (let e = ap length (parts c) in
    let f = ap length c.in_ok-push_highs.ensures in
    let g = length-append c.push_lows.new.parts.items (picked is_high 0 entries) in
    omega arith))

pub returns : goal.returns
returns c =
    ap (entries_of (length c.args.entries.now)) (parts c) ∙ picked-entries c.args.entries.now
