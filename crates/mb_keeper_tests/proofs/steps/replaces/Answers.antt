use Rattle.std.proofs.Common.{List, None, [], ap, arith, cond, false, is_some, refl, ℕ, ◌+◌, ◌∙◌, ◌∷◌, ◌≡◌}
use Rattle.std.specs.FinMap.{contains_key, empty, find, from_entries, get-from_entries, insert, len, len-empty, len-insert}
use Rattle.mb_outside.specs.Rows.{Rows, key_cmp}
use Rattle.mb_outside.proofs.KeptRows.{keys_total}
use Rattle.mb_keeper_tests.proofs.steps.replaces.Goals as goal

-- rows of the kinds 1 and 2 are apart, whatever their names and bodies
two_kinds : (one two : ℕ) (name body other last : List ℕ) → one ≡ 1 → two ≡ 2
    → len {R = key_cmp} (from_entries (((one, name), body) ∷ ((two, other), last) ∷ [])) ≡ 2
two_kinds one two name body other last first second =
    let none : Rows = empty in
    let rest : Rows = from_entries (((two, other), last) ∷ []) in
    let bare : contains_key none (two, other) ≡ false =
    ap is_some (get-from_entries keys_total [] (two, other)) in
    let missing : find key_cmp (one, name) (((two, other), last) ∷ []) ≡ None =
    rw (first, second) refl in
    let lacks : contains_key rest (one, name) ≡ false =
    ap is_some (get-from_entries keys_total (((two, other), last) ∷ []) (one, name) ∙ missing) in
    let inner : len rest ≡ len none + 1 = len-insert keys_total none (two, other) last
    ∙ ap (λ b. cond b (len none) (len none + 1)) bare in
    let outer : len (insert rest (one, name) body) ≡ len rest + 1 =
    len-insert keys_total rest (one, name) body
    ∙ ap (λ b. cond b (len rest) (len rest + 1)) lacks in
    let zero : len none ≡ 0 = len-empty key_cmp (List ℕ) in
    omega (arith, inner, outer, zero)

pub replace_all-requires : goal.replace_all-requires
replace_all-requires g c = two_kinds _ _ _ _ _ _ c.in_ok-row.ensures c.in_ok-row-2.ensures
