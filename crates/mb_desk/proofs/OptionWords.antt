-- The options among words, two words at a time.
use Rattle.std.proofs.Common.{List, None, Option, Some, [], ap, arith, false, if◌then◌else◌, length, map, option_map, refl, sym, true, ℕ, ◌∙◌, ◌&&◌, ◌++◌, ◌<◌, ◌∷◌, ◌≡◌}
use Rattle.std.specs.List.{list_any}
use Rattle.std.specs.Prelude.{String, nat_eq, string_bytes}
use Rattle.std.specs.Str.{bytes_eq}
use Rattle.std.specs.declared.alloc.Global.{Global}
use Rattle.mb_desk.specs.Forms.{Count, Form, Name, Number, Text, Value, texts, value_of}
use Rattle.mb_desk.specs.Options.{Choice, are_options, chosen, given, given_by}
use Rattle.mb_desk.specs.Words.{and_then, read_choices, read_forms, read_options}
use Rattle.mb_desk.specs.declared.requests.Request.{Request}
use Rattle.mb_text.specs.Name.{IsName}
use Rattle.mb_text.specs.Plain.{number_within}

-- fewer than two words give no value
pub given_short : (name : List ℕ) (words : List (String Global)) → length words < 2 →
    given name (texts words) ≡ []
unfolding given
given_short name [] few = refl
given_short name (word ∷ []) few = refl
given_short name (first ∷ second ∷ words) few = absurd (omega (arith, few))

-- fewer than two words are options exactly where there are none
pub are_options_short : (names : List (List ℕ)) (words : List (String Global)) → length words < 2 →
    are_options names (texts words) ≡ nat_eq (length words) 0
unfolding are_options
are_options_short names [] few = refl
are_options_short names (word ∷ []) few = refl
are_options_short names (first ∷ second ∷ words) few = absurd (omega (arith, few))

-- the values of one more option stand before those of the others
pub given_step : (name option value : List ℕ) (words : List (List ℕ)) →
    given name (option ∷ value ∷ words) ≡ given_by name option value ++ given name words
unfolding given
given_step name option value words = refl

-- one more option
pub are_options_step : (names : List (List ℕ)) (name value : List ℕ) (words : List (List ℕ)) →
    are_options names (name ∷ value ∷ words)
    ≡ (list_any (bytes_eq name) names && are_options names words)
unfolding are_options
are_options_step names name value words = refl

-- a step after which there is nothing gives nothing
none_then : {A B : Type 0} (step : Option A) (next : A → Option B) →
    ((x : A) → None ≡ next x) → None ≡ and_then step next
none_then None next none = refl
none_then (Some x) next none = none x

-- fewer than three words are none of the commands that take three
pub short_of_three : (first second third : Form) (choices : List Choice)
    (makes : List Value → Option Request) (words : List (String Global)) → length words < 3 →
    None ≡ read_forms (first ∷ second ∷ third ∷ []) choices (texts words) makes
short_of_three first second third choices makes [] few = refl
short_of_three first second third choices makes (a ∷ []) few =
    none_then (value_of first (string_bytes a)) _ (λ v. refl)
short_of_three first second third choices makes (a ∷ b ∷ []) few =
    none_then (value_of first (string_bytes a)) _ (λ v.
    none_then (value_of second (string_bytes b)) _ (λ w. refl))
short_of_three first second third choices makes (a ∷ b ∷ c ∷ words) few =
    absurd (omega (arith, few))

-- the names of options
abbrev pub names_of : List Choice → List (List ℕ)
names_of choices = map (λ (choice : Choice). choice.name) choices

-- a word that is a number, and then words that are no options
pub number_no_options : (low high n : ℕ) (choices : List Choice)
    (makes : List Value → Option Request) (word : List ℕ) (words : List (List ℕ)) →
    Some n ≡ number_within low high word → are_options (names_of choices) words ≡ false →
    read_forms (Number low high ∷ []) choices (word ∷ words) makes ≡ None
number_no_options low high n choices makes word words number options =
    ap (λ found. and_then (option_map Count found)
    (λ v. read_options choices words (λ vs. makes (v ∷ vs)))) (sym number)
    ∙ ap (λ are. if are then read_choices choices words (λ vs. makes (Count n ∷ vs)) else None)
    options

-- a word that is a number, and then one option
pub number_and_choice : (low high n : ℕ) (choice : Choice) (value : Value)
    (makes : List Value → Option Request) (word : List ℕ) (words : List (List ℕ)) →
    Some n ≡ number_within low high word → are_options (choice.name ∷ []) words ≡ true →
    Some value ≡ chosen choice words →
    read_forms (Number low high ∷ []) (choice ∷ []) (word ∷ words) makes
    ≡ makes (Count n ∷ value ∷ [])
number_and_choice low high n choice value makes word words number options given =
    ap (λ found. and_then (option_map Count found)
    (λ v. read_options (choice ∷ []) words (λ vs. makes (v ∷ vs)))) (sym number)
    ∙ ap (λ are. if are
    then read_choices (choice ∷ []) words (λ vs. makes (Count n ∷ vs)) else None) options
    ∙ ap (λ v. and_then v (λ given. makes (Count n ∷ given ∷ []))) (sym given)

-- two names, and then options or not
two_names : (choices : List Choice) (makes : List Value → Option Request) (a b : List ℕ)
    (words : List (List ℕ)) → IsName a → IsName b →
    read_forms (Name ∷ Name ∷ []) choices (a ∷ b ∷ words) makes
    ≡ read_options choices words (λ vs. makes (Text a ∷ Text b ∷ vs))
two_names choices makes a b words first second =
    ap (λ is. and_then (if is then Some (Text a) else None) (λ v.
    and_then (value_of Name b) (λ w. read_options choices words (λ vs. makes (v ∷ w ∷ vs))))) first
    ∙ ap (λ is. and_then (if is then Some (Text b) else None) (λ w.
    read_options choices words (λ vs. makes (Text a ∷ w ∷ vs)))) second

-- two names, and then words that are no options
pub names_no_options : (choices : List Choice) (makes : List Value → Option Request) (a b : List ℕ)
    (words : List (List ℕ)) → IsName a → IsName b → are_options (names_of choices) words ≡ false →
    read_forms (Name ∷ Name ∷ []) choices (a ∷ b ∷ words) makes ≡ None
names_no_options choices makes a b words first second options =
    two_names choices makes a b words first second
    ∙ ap (λ are. if are
    then read_choices choices words (λ vs. makes (Text a ∷ Text b ∷ vs)) else None) options

-- two names, and then two options
pub names_and_choices : (one two : Choice) (v w : Value) (makes : List Value → Option Request)
    (a b : List ℕ) (words : List (List ℕ)) → IsName a → IsName b →
    are_options (one.name ∷ two.name ∷ []) words ≡ true → Some v ≡ chosen one words →
    Some w ≡ chosen two words →
    read_forms (Name ∷ Name ∷ []) (one ∷ two ∷ []) (a ∷ b ∷ words) makes
    ≡ makes (Text a ∷ Text b ∷ v ∷ w ∷ [])
names_and_choices one two v w makes a b words first second options given more =
    two_names (one ∷ two ∷ []) makes a b words first second
    ∙ ap (λ are. if are
    then read_choices (one ∷ two ∷ []) words (λ vs. makes (Text a ∷ Text b ∷ vs)) else None) options
    ∙ ap (λ x. and_then x (λ x. and_then (chosen two words) (λ y.
    makes (Text a ∷ Text b ∷ x ∷ y ∷ [])))) (sym given)
    ∙ ap (λ y. and_then y (λ y. makes (Text a ∷ Text b ∷ v ∷ y ∷ []))) (sym more)
