-- Steps that are repeated, one after the other, by a loop that counts them.
use Rattle.std.proofs.Common.{Err, List, Ok, Option, Result, [], ap, append_assoc, append-nil, arith, length, length-append, refl, suc, sym, zero, ℕ, ◌++◌, ◌+◌, ◌-◌, ◌<◌, ◌∙◌, ◌∷◌, ◌≡◌, ◌≤◌}
use Rattle.mb_certificate.specs.Reading.{times}
use Rattle.mb_tables.proofs.HandedOn.{refused_on}
use Rattle.mb_tables.specs.Answers.{IsRefused, ◌>>=◌}

module _ {A S : Type 0} where
  -- what was read stands in front of what is read then
  abbrev pub with_front : List A → Result (List A × S) ℕ → Result (List A × S) ℕ
  with_front front (Ok found) = Ok (front ++ found.0, found.1)
  with_front front (Err number) = Err number

  -- what follows a step
  after : (S → Result (A × S) ℕ) → ℕ → Result (A × S) ℕ → Result (List A × S) ℕ
  after step count first =
      first >>= λ first. times step count first.1 >>= λ others. Ok (first.0 ∷ others.0, others.1)

  -- where a step is left
  next : (step : S → Result (A × S) ℕ) (front : List A) (count left : ℕ) (s : S) →
      left ≡ suc count →
      with_front front (times step left s) ≡ with_front front (after step count (step s))
  unfolding times after
  next step front count left s more = ap (λ n. with_front front (times step n s)) more

  module _ (step : S → Result (A × S) ℕ) (front : List A) (count done : ℕ) (s : S)
      (whole : Result (List A × S) ℕ)
      (so_far : with_front front (times step (count - done) s) ≡ whole) where
    -- one more is read
    pub one_more : (list : List A) (x : A) (rest : S) → done < count → step s ≡ Ok (x, rest) →
        list ≡ front ++ x ∷ [] →
        with_front list (times step (count - (done + 1)) rest) ≡ whole
    unfolding after
    one_more list x rest less e is =
        ap (λ l. with_front l (times step (count - (done + 1)) rest)) is
        ∙ by (times step (count - (done + 1)) rest)
        ∙ sym (next step front (count - (done + 1)) (count - done) s (omega arith)
        ∙ ap (λ r. with_front front (after step (count - (done + 1)) r)) e)
        ∙ so_far
      where
        by : (found : Result (List A × S) ℕ) →
            with_front (front ++ x ∷ []) found
            ≡ with_front front (found >>= λ others. Ok (x ∷ others.0, others.1))
        by (Ok others) = ap (λ list. Ok (list, others.1)) (append_assoc front (x ∷ []) others.0)
        by (Err wrong) = refl

    -- the next is wrong
    pub one_wrong : (cause : Option ℕ) → done < count → IsRefused cause (step s) →
        IsRefused cause whole
    unfolding after
    one_wrong cause less refused =
        refused_on cause (step s) whole refused
        (λ wrong e. sym so_far
        ∙ next step front (count - (done + 1)) (count - done) s (omega arith)
        ∙ ap (λ r. with_front front (after step (count - (done + 1)) r)) e)

    -- none is left
    pub all_read : count ≤ done → whole ≡ Ok (front, s)
    unfolding times
    all_read none =
        let zero_left : count - done ≡ zero = omega arith in
        sym so_far
        ∙ ap (λ n. with_front front (times step n s)) zero_left
        ∙ ap (λ list. Ok (list, s)) (append-nil front)

-- one more makes the list longer by one
pub one_longer : {A : Type 0} (list front : List A) (x : A) (done : ℕ) → length front ≡ done →
    list ≡ front ++ x ∷ [] → length list ≡ done + 1
one_longer list front x done many is =
    ap length is ∙ length-append front (x ∷ []) ∙ ap (λ n. n + 1) many

-- nothing stands in front at first
pub no_front : {A S : Type 0} (found : Result (List A × S) ℕ) → with_front [] found ≡ found
no_front (Ok found) = refl
no_front (Err number) = refl
