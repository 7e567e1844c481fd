-- Maps whose keys are lists of numbers, by the numbers.
use Rattle.std.proofs.Common.{List, Option, Vec, false, inl, inr, subst, sym, true, ℕ, ◌∙◌, ◌≡◌}
use Rattle.std.proofs.lemmas.Cmp.{nat_list_eq_equiv}
use Rattle.std.specs.HashMap.{HashMap, UpdatesBy, get_by}
use Rattle.std.specs.Map.{KeepsOthers, lookup, update}
use Rattle.std.specs.Str.{bytes_eq}
use Rattle.std.proofs.lemmas.Bool.{cases_Bool, cond-false, cond-true}
use Rattle.std.proofs.lemmas.Slice.Eq.{bytes_eq-Decides}

-- a key that is one list is not another
other_key : (here there key : List ℕ) → bytes_eq here there ≡ false → bytes_eq here key ≡ true
    → bytes_eq there key ≡ false
other_key here there key apart is =
    nat_list_eq_equiv.symm there key ∙ sym (nat_list_eq_equiv.congr here key there is) ∙ apart

-- what a change at one list leaves at the others
others_kept : {Z X : Type 0} (here there : List ℕ) (old new : List (Vec ℕ Z × X))
    → KeepsOthers (λ x y. bytes_eq x.items y.items) (λ key. bytes_eq here key.items) old new
    → bytes_eq here there ≡ false
    → lookup (λ (key : Vec ℕ Z). bytes_eq there key.items) new
    ≡ lookup (λ (key : Vec ℕ Z). bytes_eq there key.items) old
unfolding KeepsOthers
others_kept here there old new keeps apart =
    keeps (λ key. bytes_eq there key.items)
    (λ x y. nat_list_eq_equiv.congr there x.items y.items)
    (λ key. other_key here there key.items apart)

-- what a change at one list leaves at any list
pub updated_places : {Z X S : Type 0} (here there : List ℕ) (old new : HashMap (Vec ℕ Z) X S)
    (value : Option X)
    → UpdatesBy (λ x y. bytes_eq x.items y.items) (λ key. bytes_eq here key.items) old new value
    → get_by (λ key. bytes_eq there key.items) new
    ≡ update bytes_eq (λ places. get_by (λ key. bytes_eq places key.items) old) here value there
updated_places {Z} here there old new value updates = elim (cases_Bool (bytes_eq here there)) [
  | inl same ↦
      subst (λ (list : List ℕ). get_by (λ (key : Vec ℕ Z). bytes_eq list key.items) new ≡ value)
      ((bytes_eq-Decides here there).0 same) updates.1
      ∙ sym (cond-true (bytes_eq here there) value
      (get_by (λ (key : Vec ℕ Z). bytes_eq there key.items) old) same)
  | inr apart ↦
      others_kept here there old.entries new.entries updates.3 apart
      ∙ sym (cond-false (bytes_eq here there) value
      (get_by (λ (key : Vec ℕ Z). bytes_eq there key.items) old) apart)
]
