-- Rows under a look-up after an insertion or a removal, and the keys of rows.
use Rattle.std.proofs.Common.{Bool, List, Option, Some, [], ap, cond, false, refl, subst, sym, true, ℕ, ◌||◌, ◌∙◌, ◌∷◌, ◌≡◌}
use Rattle.std.proofs.lemmas.Cmp.{eq_by_cmp_equiv}
use Rattle.std.specs.Cmp.{Equal-is}
use Rattle.std.specs.FinMap.{contains_key-keys, get, get-insert, insert, keys}
use Rattle.std.specs.List.{AllByRecursion, list_any}
use Rattle.std.specs.Ordering.{eq_by_cmp}
use Rattle.std.specs.Prelude.{IsSome, is_some}
use Rattle.mb_outside.proofs.KeptRows.{exact_keys, keys_total}
use Rattle.mb_outside.specs.Rows.{Key, Rows, key_cmp}
use Rattle.std.proofs.lemmas.Bool.{or_right}

-- whether two keys are the same
abbrev pub same_key : Key → Key → Bool
same_key a b = eq_by_cmp key_cmp a b

-- keys that are, are
pub same_is : (a b : Key) → same_key a b ≡ true → a ≡ b
same_is a b e = exact_keys a b ((Equal-is (key_cmp a b)).0 e)

-- a key is itself
pub same_itself : (a : Key) → same_key a a ≡ true
same_itself a = (eq_by_cmp_equiv keys_total).refl a

-- a row that was inserted is there
pub inserted : (rows : Rows) (key : Key) (body : List ℕ) →
    get (insert rows key body) key ≡ Some body
inserted rows key body =
    get-insert keys_total rows key body key
    ∙ ap (λ b. cond b (Some body) (get rows key)) (same_itself key)

-- a row that is there is still there after an insertion
pub still_there : (rows : Rows) (key q : Key) (body : List ℕ) → IsSome (get rows q) →
    IsSome (get (insert rows key body) q)
still_there rows key q body there =
    subst IsSome (sym (get-insert keys_total rows key body q)) (by (same_key q key))
  where
    by : (b : Bool) → IsSome (cond b (Some body) (get rows q))
    by true = refl
    by false = there

-- what has a body is a key of the rows
there_is_some : {A : Type 0} (o : Option A) (x : A) → o ≡ Some x → is_some o ≡ true
there_is_some o x e = ap (λ o. is_some o) e

-- each of the keys is
pub key_there : (rows : Rows) (q : Key) → list_any (same_key q) (keys rows) ≡ true →
    IsSome (get rows q)
key_there rows q e = contains_key-keys rows q ∙ e

-- and each that is there is among the keys
pub there_key : (rows : Rows) (q : Key) (body : List ℕ) → get rows q ≡ Some body →
    list_any (same_key q) (keys rows) ≡ true
there_key rows q body e = sym (contains_key-keys rows q) ∙ there_is_some (get rows q) body e

-- a first key is among keys, and so is each later one
any_first : (key : Key) (others : List Key) → list_any (same_key key) (key ∷ others) ≡ true
any_first key others = ap (λ b. b || list_any (same_key key) others) (same_itself key)

-- what holds of each key among keys holds of all
pub each_key : (P : Key → Type 0) (ks : List Key) →
    ((q : Key) → list_any (same_key q) ks ≡ true → P q) → AllByRecursion P ks
each_key P [] each = tt
each_key P (key ∷ others) each = (
  each key (any_first key others),
  each_key P others
      (λ q e. each q (or_right (same_key q key) (list_any (same_key q) others) e)),
)

-- all keys of rows have bodies
pub keys_there : (rows : Rows) → AllByRecursion (λ q. IsSome (get rows q)) (keys rows)
keys_there rows = each_key (λ q. IsSome (get rows q)) (keys rows) (key_there rows)
