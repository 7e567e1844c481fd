-- Lists of numbers as items of a line, written and read.
use Rattle.std.proofs.Common.{All, List, None, Option, Some, [], ap, arith, map, refl, subst, ℕ, ◌-◌, ◌<◌, ◌^◌, ◌∙◌, ◌∷◌, ◌≡◌}
use Rattle.std.proofs.lemmas.List.{map-id}
use Rattle.std.proofs.lemmas.List.Elements.{All-from_recursion, All-head, All-tail}
use Rattle.std.specs.Fmt.{decimal}
use Rattle.std.specs.List.{AllByRecursion}
use Rattle.std.specs.Option.{option_and_then, option_map}
use Rattle.mb_text.proofs.NumeralItems.{number_read, number_written}
use Rattle.mb_text.specs.LineForms.{numbers_of}
use Rattle.mb_text.specs.Plain.{at_most, each_of, plain_of}

-- what is written of each value is read as each
pub each_written : {A B : Type 0} (read : List ℕ → Option B) (write : A → List ℕ) (value : A → B)
    (xs : List A) → All (λ x. read (write x) ≡ Some (value x)) xs →
    each_of read (map write xs) ≡ Some (map value xs)
unfolding each_of
each_written read write value [] h = refl
each_written read write value (x ∷ xs) h =
    ap (option_and_then (λ y. option_map (λ others. y ∷ others) (each_of read (map write xs))))
    (All-head (λ x. read (write x) ≡ Some (value x)) x xs h)
    ∙ ap (option_map (λ others. value x ∷ others))
    (each_written read write value xs
    (All-tail (λ x. read (write x) ≡ Some (value x)) x xs h))

-- items that are read are what is written of their values
pub each_read : {B : Type 0} (read : List ℕ → Option B) (write : B → List ℕ) (P : B → Type 0) →
    ((item : List ℕ) (x : B) → read item ≡ Some x → (item ≡ write x) × P x) →
    (list : List (List ℕ)) (xs : List B) → each_of read list ≡ Some xs →
    (list ≡ map write xs) × AllByRecursion P xs
unfolding each_of
each_read read write P step [] [] e = (refl, tt)
each_read read write P step [] (x ∷ xs) e = absurd cc
each_read {B} read write P step (item ∷ list) xs e =
    by (read item) refl (each_of read list) (each_read read write P step list) e
  where
    by : (first : Option B) → read item ≡ first → (more : Option (List B)) →
        ((ys : List B) → more ≡ Some ys → (list ≡ map write ys) × AllByRecursion P ys) →
        option_and_then (λ y. option_map (λ others. y ∷ others) more) first ≡ Some xs →
        (item ∷ list ≡ map write xs) × AllByRecursion P xs
    by None er more ih f = absurd cc
    by (Some x) er None ih f = absurd cc
    by (Some x) er (Some others) ih f =
        let first = step item x er in
        let rest = ih others refl in
        let same : x ∷ others ≡ xs = cc in
        subst (λ ys. (item ∷ list ≡ map write ys) × AllByRecursion P ys) same
        (ap (λ i. i ∷ list) first.0 ∙ ap (λ l. write x ∷ l) rest.0, (first.1, rest.1))

-- an item that is read as a number below 2^32 is its decimal form
small_read : (item : List ℕ) (n : ℕ) → at_most (2 ^ 32 - 1) (plain_of item) ≡ Some n →
    (item ≡ decimal n) × (n < 2 ^ 32)
small_read item n e =
    let found = number_read (2 ^ 32 - 1) item n (omega arith) e in
    let small = found.1 in
    (found.0, omega arith)

-- numbers below 2^32 are read from their decimal forms
pub numbers_written : (numbers : List ℕ) → All (λ n. n < 2 ^ 32) numbers →
    numbers_of (map decimal numbers) ≡ Some numbers
numbers_written numbers small =
    each_written (λ item. at_most (2 ^ 32 - 1) (plain_of item)) decimal (λ n. n) numbers
    (λ k d l. number_written (2 ^ 32 - 1) _ (omega arith) (let s = small k d l in omega arith))
    ∙ ap Some (map-id numbers)

-- and items that are read as numbers are their decimal forms
pub numbers_read : (list : List (List ℕ)) (numbers : List ℕ) → numbers_of list ≡ Some numbers →
    (list ≡ map decimal numbers) × All (λ n. n < 2 ^ 32) numbers
numbers_read list numbers e =
    let found =
    each_read (λ item. at_most (2 ^ 32 - 1) (plain_of item)) decimal (λ n. n < 2 ^ 32) small_read
    list numbers e in
    (found.0, All-from_recursion (λ n. n < 2 ^ 32) numbers found.1)
