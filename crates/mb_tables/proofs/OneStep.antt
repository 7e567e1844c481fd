-- A step makes one table at most, and is made from one at most.
use Rattle.std.proofs.Common.{List, [], arith, length, pos, refl, sym, ℕ, ℤ, ◌∙◌, ◌∷◌, ◌≡◌}
use Rattle.std.proofs.lemmas.Int.{ints}
use Rattle.mb_tables.proofs.CellSteps.{adds-length}
use Rattle.mb_tables.specs.Step.{Adds, Moved}
use Rattle.mb_tables.specs.declared.sign.Sign.{Sign}
use Rattle.mb_tables.specs.declared.sign.Sign.TheVariants.{Minus, Plus}

-- a table and a move make one table at most
adds-one : (u : List ℕ) (move : List ℤ) (v w : List ℕ) → Adds u move v → Adds u move w → v ≡ w
unfolding Adds
adds-one [] [] [] [] h k = refl
adds-one [] [] [] (b ∷ w) h k = absurd k
adds-one [] [] (a ∷ v) w h k = absurd h
adds-one [] (z ∷ move) v w h k = absurd h
adds-one (x ∷ u) [] v w h k = absurd h
adds-one (x ∷ u) (z ∷ move) [] w h k = absurd h
adds-one (x ∷ u) (z ∷ move) (a ∷ v) [] h k = absurd k
adds-one (x ∷ u) (z ∷ move) (a ∷ v) (b ∷ w) h k =
    let first : pos a ≡ pos b = h.0 ∙ sym k.0 in
    let rest = adds-one u move v w h.1 k.1 in cc

-- and are made of one table at most
adds-from_one : (u v : List ℕ) (move : List ℤ) (w : List ℕ) → Adds u move w → Adds v move w → u ≡ v
unfolding Adds
adds-from_one [] [] move w h k = refl
adds-from_one [] (y ∷ v) [] w h k = absurd k
adds-from_one [] (y ∷ v) (z ∷ move) w h k = absurd h
adds-from_one (x ∷ u) [] [] w h k = absurd h
adds-from_one (x ∷ u) [] (z ∷ move) w h k = absurd k
adds-from_one (x ∷ u) (y ∷ v) [] w h k = absurd h
adds-from_one (x ∷ u) (y ∷ v) (z ∷ move) [] h k = absurd h
adds-from_one (x ∷ u) (y ∷ v) (z ∷ move) (b ∷ w) h k =
    let p = h.0 in
    let q = k.0 in
    let first : x ≡ y = omega (arith, ints) in
    let rest = adds-from_one u v move w h.1 k.1 in cc

-- one step makes one table at most
pub moved-one : (sign : Sign) (u : List ℕ) (move : List ℤ) (v w : List ℕ) → Moved sign u move v →
    Moved sign u move w → w ≡ v
moved-one Plus u move v w h k = adds-one u move w v k h
moved-one Minus u move v w h k = adds-from_one w v move u k h

-- and is made from one table at most
pub moved-from_one : (sign : Sign) (u v : List ℕ) (move : List ℤ) (w : List ℕ) →
    Moved sign u move w → Moved sign v move w → u ≡ v
moved-from_one Plus u v move w h k = adds-from_one u v move w h k
moved-from_one Minus u v move w h k = adds-one w move u v h k

-- it keeps the number of cells
pub moved-length : (sign : Sign) (u : List ℕ) (move : List ℤ) (v : List ℕ) → Moved sign u move v →
    length v ≡ length u
moved-length Plus u move v h = sym (adds-length u move v h)
moved-length Minus u move v h = adds-length v move u h
