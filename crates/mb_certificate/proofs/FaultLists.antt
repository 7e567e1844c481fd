-- The faults of a list of lines: there is no first one where no line has one.
use Rattle.std.proofs.Common.{List, None, Option, Some, [], ap, arith, length, map, refl, replicate, slice_get, suc, sym, zero, ℕ, ◌+◌, ◌++◌, ◌∙◌, ◌∷◌, ◌≡◌, ◌≤◌}
use Rattle.std.specs.List.{AllByRecursion}
use Rattle.mb_certificate.specs.FirstFault.{faults_from, first_from}
use Rattle.mb_certificate.specs.declared.line_fault.Reason.{Reason}

-- no line of the list is wrong
abbrev pub AreRight : List (Option Reason) → Type 0
AreRight lines = AllByRecursion (λ line. line ≡ None) lines

-- where there is no first wrong line, none is wrong
pub first-right : (line : ℕ) (lines : List (Option Reason)) → first_from line lines ≡ None →
    AreRight lines
unfolding first_from
first-right line [] e = tt
first-right line (None ∷ rest) e = (refl, first-right (suc line) rest e)
first-right line (Some reason ∷ rest) e = cc

-- and the other way round
pub right-first : (line : ℕ) (lines : List (Option Reason)) → AreRight lines →
    first_from line lines ≡ None
unfolding first_from
right-first line [] h = refl
right-first line (None ∷ rest) h = right-first (suc line) rest h.1
right-first line (Some reason ∷ rest) h = let e = h.0 in cc

-- of two lists one after the other both are right
pub right-parts : (xs ys : List (Option Reason)) → AreRight (xs ++ ys) → AreRight xs × AreRight ys
right-parts [] ys h = (tt, h)
right-parts (x ∷ xs) ys h = let r = right-parts xs ys h.1 in ((h.0, r.0), r.1)

-- and the other way round
pub parts-right : (xs ys : List (Option Reason)) → AreRight xs → AreRight ys → AreRight (xs ++ ys)
parts-right [] ys h g = g
parts-right (x ∷ xs) ys h g = (h.0, parts-right xs ys h.1 g)

-- lines that nothing is asked of are right
pub replicate-right : (n : ℕ) → AreRight (replicate n None)
replicate-right zero = tt
replicate-right (suc n) = (refl, replicate-right n)

module _ {X : Type 0} (fault : ℕ → X → Option Reason) where
  -- each of some right lines is so
  pub right-at : (k : ℕ) (xs : List X) → AreRight (faults_from fault k xs) →
      (i : ℕ) (x : X) → slice_get xs i ≡ Some x → fault (k + i) x ≡ None
  unfolding faults_from
  right-at k [] h i x e = cc
  right-at k (y ∷ xs) h zero x e =
      let f : y ≡ x = cc in let g : k ≡ k + 0 = omega arith in
      ap (λ n. fault n x) (sym g) ∙ ap (fault k) (sym f) ∙ h.0
  right-at k (y ∷ xs) h (suc i) x e =
      let g : k + suc i ≡ suc k + i = omega arith in
      ap (λ n. fault n x) g ∙ right-at (suc k) xs h.1 i x e

  -- and the other way round
  pub at-right : (k : ℕ) (xs : List X) →
      ((i : ℕ) (x : X) → slice_get xs i ≡ Some x → fault (k + i) x ≡ None) →
      AreRight (faults_from fault k xs)
  unfolding faults_from
  at-right k [] h = tt
  at-right k (y ∷ xs) h = (
    (let g : k ≡ k + 0 = omega arith in ap (λ n. fault n y) g ∙ h 0 y refl),
    at-right (suc k) xs (λ i x e.
        let g : suc k + i ≡ k + suc i = omega arith in ap (λ n. fault n x) g ∙ h (suc i) x e),
  )

  -- the same with numbers from 0
  pub right-all : (xs : List X) → AreRight (faults_from fault 0 xs) →
      (i : ℕ) (x : X) → slice_get xs i ≡ Some x → fault i x ≡ None
  right-all xs h i x e =
      let g : i ≡ 0 + i = omega arith in ap (λ n. fault n x) g ∙ right-at 0 xs h i x e

  -- and the other way round
  pub all-right : (xs : List X) → ((i : ℕ) (x : X) → slice_get xs i ≡ Some x → fault i x ≡ None) →
      AreRight (faults_from fault 0 xs)
  all-right xs h =
      at-right 0 xs (λ i x e. let g : 0 + i ≡ i = omega arith in ap (λ n. fault n x) g ∙ h i x e)

-- lists that agree where the first has elements, and that are as long, are the same
pub paired : {X Y : Type 0} (f : X → Y) (xs : List X) (ys : List Y) →
    ((k : ℕ) (x : X) → slice_get xs k ≡ Some x → slice_get ys k ≡ Some (f x)) →
    length ys ≤ length xs → map f xs ≡ ys
paired f [] [] h l = refl
paired f [] (y ∷ ys) h l = absurd (omega arith)
paired f (x ∷ xs) [] h l = let e = h 0 x refl in cc
paired f (x ∷ xs) (y ∷ ys) h l =
    let e = h 0 x refl in
    let r = paired f xs ys (λ k z g. h (suc k) z g) (omega arith) in
    let g : f x ≡ y = cc in
    ap (λ z. z ∷ map f xs) g ∙ ap (λ zs. y ∷ zs) r

-- what stands in a mapped list
mapped : {X Y : Type 0} (f : X → Y) (xs : List X) (k : ℕ) (x : X) → slice_get xs k ≡ Some x →
    slice_get (map f xs) k ≡ Some (f x)
mapped f [] k x g = cc
mapped f (y ∷ xs) zero x g = let h : y ≡ x = cc in ap (λ z. Some (f z)) h
mapped f (y ∷ xs) (suc k) x g = mapped f xs k x g

-- and the other way round
pub pairing : {X Y : Type 0} (f : X → Y) (xs : List X) (ys : List Y) → map f xs ≡ ys →
    (k : ℕ) (x : X) → slice_get xs k ≡ Some x → slice_get ys k ≡ Some (f x)
pairing f xs ys e k x g = ap (λ l. slice_get l k) (sym e) ∙ mapped f xs k x g
