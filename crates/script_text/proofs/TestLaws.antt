-- A reading gives the reason of the first test that holds.
use Rattle.std.proofs.Common.{◌≡◌, ℕ, suc, Bool, true, false, not, eqb, List, [], ◌∷◌, ◌++◌, length, map, Option, Some, None, Result, Ok, Err, refl, ◌∙◌, append_assoc, inl, inr, arith}
use Rattle.std.specs.Prelude.{unwrap_or}
use Rattle.std.specs.List.{find}
use Rattle.std.specs.Str.{bytes_eq}
use Rattle.std.specs.Option.{option_map}
use Rattle.std.proofs.lemmas.Bool.{cases_Bool, ne_eqb}
use Rattle.script_text.specs.declared.script.Object.{Object}
use Rattle.script_text.specs.declared.script.Reason.{Reason}
use Rattle.script_text.specs.declared.script.Reason.TheVariants as reasons
use Rattle.script_text.specs.declared.table.Kinds.{Kinds}
use Rattle.script_text.specs.declared.item.Item.{Item}
use Rattle.script_text.specs.Table.{is_of}
use Rattle.script_text.specs.Pieces.{is_name, is_key, is_path, is_text, is_among, number_of}
use Rattle.script_text.specs.Items.{colour_names, objects}
use Rattle.script_text.specs.Apart.{is_taken, is_reserved}
use Rattle.script_text.specs.Grammar.{has_equals, key_in, value_in}
use Rattle.script_text.specs.Faults.{when, first_of, each_field, new_name, colour_field, colour_fields, object_colour_field, text_field, value_field, path_field, key_field, pair_field, is_unknown, is_other, object_field}
use Rattle.script_text.specs.Readings.{◌>>=◌, refuse, found_or, number_at, new_name_at, each_at, colour_at, object_colour_at, text_at, value_at, path_at, key_at, new_pair_at, pair_at, object_at, with_none, with_one, with_two}
use Rattle.script_text.proofs.EachLemmas.{Reader}
use Rattle.script_text.proofs.NameLemmas.{found_ok, colour_ok}

-- where a value is read no test holds; else the reason is that of the first that does
abbrev pub Tests : {A : Type 0} → List (Option Reason) → Result A Reason → Type 0
Tests tests (Ok x) = (more : List (Option Reason)) → first_of (tests ++ more) ≡ first_of more
Tests tests (Err why) = (more : List (Option Reason)) → first_of (tests ++ more) ≡ Some why

pub tests_ok : {A : Type 0} (x : A) → Tests [] (Ok x)
tests_ok x = λ more. refl

pub tests_refuse : {A : Type 0} (b : Bool) (why : Reason) (tests : List (Option Reason)) (reading : Result A Reason) → (b ≡ false → Tests tests reading) → Tests (when b why ∷ tests) (refuse b why reading)
tests_refuse true why tests reading h = λ more. refl
tests_refuse false why tests (Ok x) h = λ more. h refl more
tests_refuse false why tests (Err other) h = λ more. h refl more

pub tests_then : {A B : Type 0} (tests later : List (Option Reason)) (reading : Result A Reason) (f : A → Result B Reason) → Tests tests reading → ((x : A) → reading ≡ Ok x → Tests later (f x)) → Tests (tests ++ later) (reading >>= f)
tests_then {B = B} tests later (Err why) f h k = λ more. rw append_assoc (h (later ++ more))
tests_then {B = B} tests later (Ok x) f h k = joined (f x) (k x refl) where
  joined : (reading : Result B Reason) → Tests later reading → Tests (tests ++ later) reading
  joined (Ok y) g = λ more. rw append_assoc (h (later ++ more) ∙ g more)
  joined (Err why) g = λ more. rw append_assoc (h (later ++ more) ∙ g more)

-- the last reading of a line
pub tests_last : {A B : Type 0} (tests : List (Option Reason)) (reading : Result A Reason) (f : A → B) → Tests tests reading → Tests tests (reading >>= λ x. Ok (f x))
tests_last tests (Err why) f h = h
tests_last tests (Ok x) f h = h

pub tests_same : {A : Type 0} (tests others : List (Option Reason)) (reading : Result A Reason) → others ≡ tests → Tests tests reading → Tests others reading
tests_same tests others reading e h = rw e h

-- ---- fields

abbrev pub is_found : Option ℕ → Bool
is_found None = false
is_found (Some n) = true

found_suc : (o : Option ℕ) → is_found o ≡ is_found (option_map suc o)
found_suc None = refl
found_suc (Some n) = refl

pub among_number : (names : List (List ℕ)) (field : List ℕ) → is_among names field ≡ is_found (number_of names field)
among_number [] field = refl
among_number (first ∷ names) field =
    elim (cases_Bool (bytes_eq field first)) [
      | inl same ↦ rw same refl
      | inr apart ↦ rw (apart, among_number names field) (found_suc (number_of names field))
    ]

tests_found : (why : Reason) (o : Option ℕ) → Tests (when (not (is_found o)) why ∷ []) (found_or why o)
tests_found why None = λ more. refl
tests_found why (Some n) = λ more. refl

pub number_tests : (why : Reason) (names : List (List ℕ)) (field : List ℕ) → Tests (when (not (is_among names field)) why ∷ []) (number_at why names field)
unfolding number_at
number_tests why names field = rw among_number (tests_found why (number_of names field))

pub new_name_tests : (names : List (List ℕ)) (field : List ℕ) → Tests (new_name names field) (new_name_at names field)
unfolding new_name_at
new_name_tests names field =
    tests_refuse (not (is_name field)) reasons.BadName (when (is_among names field) reasons.NameRepeated ∷ []) (refuse (is_among names field) reasons.NameRepeated (Ok field)) (λ _.
    tests_refuse (is_among names field) reasons.NameRepeated [] (Ok field) (λ _. tests_ok field))

pub text_tests : (before : List Item) (field : List ℕ) → Tests (text_field before field) (text_at (objects before) field)
unfolding text_at
text_tests before field =
    let reserved = is_reserved (objects before) field in
    tests_refuse (not (is_text field)) reasons.TextLength (when reserved reasons.ReservedText ∷ []) (refuse reserved reasons.ReservedText (Ok field)) (λ _.
    tests_refuse reserved reasons.ReservedText [] (Ok field) (λ _. tests_ok field))

pub value_tests : (field : List ℕ) → Tests (value_field field) (value_at field)
unfolding value_at
value_tests field = tests_refuse (not (is_key field)) reasons.BadValue [] (Ok field) (λ _. tests_ok field)

pub path_tests : (root : Bool) (field : List ℕ) → Tests (path_field root field) (path_at root field)
unfolding path_at
path_tests root field = tests_refuse (not (is_path root field)) reasons.BadPath [] (Ok field) (λ _. tests_ok field)

pub key_tests : (earlier : List (List ℕ)) (field : List ℕ) → Tests (key_field earlier field) (key_at earlier field)
unfolding key_at
key_tests earlier field =
    tests_refuse (not (is_key field)) reasons.BadKey (when (is_among earlier field) reasons.KeyRepeated ∷ []) (refuse (is_among earlier field) reasons.KeyRepeated (Ok field)) (λ _.
    tests_refuse (is_among earlier field) reasons.KeyRepeated [] (Ok field) (λ _. tests_ok field))

pub pair_tests : (earlier : List (List ℕ)) (field : List ℕ) → Tests (pair_field earlier field) (pair_at earlier field)
unfolding new_pair_at
pair_tests earlier field =
    tests_refuse (not (has_equals field)) reasons.BadForm (key_field (map key_in earlier) (key_in field) ++ value_field (value_in field))
    (key_at (map key_in earlier) (key_in field) >>= λ key. value_at (value_in field) >>= λ value. Ok (record { key = key; value = value })) (λ _.
    tests_then (key_field (map key_in earlier) (key_in field)) (value_field (value_in field)) (key_at (map key_in earlier) (key_in field))
    (λ key. value_at (value_in field) >>= λ value. Ok (record { key = key; value = value })) (key_tests (map key_in earlier) (key_in field)) (λ key e.
    tests_last (value_field (value_in field)) (value_at (value_in field)) (λ value. record { key = key; value = value }) (value_tests (value_in field))))

pub each_tests : {X : Type 0} (tests : List (List ℕ) → List ℕ → List (Option Reason)) (one : Reader X) → ((earlier : List (List ℕ)) (field : List ℕ) → Tests (tests earlier field) (one earlier field))
    → (earlier fields : List (List ℕ)) → Tests (each_field tests earlier fields) (each_at one earlier fields)
unfolding each_at
each_tests tests one h earlier [] = λ more. refl
each_tests tests one h earlier (field ∷ fields) =
    tests_then (tests earlier field) (each_field tests (earlier ++ field ∷ []) fields) (one earlier field) (λ first. each_at one (earlier ++ field ∷ []) fields >>= λ others. Ok (first ∷ others)) (h earlier field) (λ first e.
    tests_last (each_field tests (earlier ++ field ∷ []) fields) (each_at one (earlier ++ field ∷ []) fields) (λ others. first ∷ others) (each_tests tests one h (earlier ++ field ∷ []) fields))

colour_tests : (before : List Item) (earlier : List (List ℕ)) (field : List ℕ) → Tests (colour_field before field ++ when (is_among earlier field) reasons.ColourRepeated ∷ []) (colour_at (colour_names before) earlier field)
unfolding colour_at
colour_tests before earlier field =
    tests_then (colour_field before field) (when (is_among earlier field) reasons.ColourRepeated ∷ []) (number_at reasons.UnknownColour (colour_names before) field)
    (λ colour. refuse (is_among earlier field) reasons.ColourRepeated (Ok colour)) (number_tests reasons.UnknownColour (colour_names before) field) (λ colour e.
    tests_refuse (is_among earlier field) reasons.ColourRepeated [] (Ok colour) (λ _. tests_ok colour))

pub colours_tests : (before : List Item) (fields : List (List ℕ)) → Tests (colour_fields before fields) (each_at (colour_at (colour_names before)) [] fields)
colours_tests before fields = each_tests (λ earlier field. colour_field before field ++ when (is_among earlier field) reasons.ColourRepeated ∷ []) (colour_at (colour_names before)) (colour_tests before) [] fields

-- the number that is read is the name's
number_is : (why : Reason) (names : List (List ℕ)) (field : List ℕ) (n : ℕ) → number_at why names field ≡ Ok n → number_of names field ≡ Some n
unfolding number_at
number_is why names field n e = found_ok why (number_of names field) n e

pub object_colour_tests : (before : List Item) (alone : Bool) (earlier : List (List ℕ)) (field : List ℕ)
    → Tests (object_colour_field before alone earlier field) (object_colour_at (objects before) (colour_names before) alone earlier field)
unfolding object_colour_at
object_colour_tests before alone earlier field =
    let names = colour_names before in
    tests_then (colour_field before field ++ when (is_among earlier field) reasons.ColourRepeated ∷ [])
    (when (is_taken (objects before) alone (unwrap_or (number_of names field) 0)) reasons.ColourTaken ∷ []) (colour_at names earlier field)
    (λ colour. refuse (is_taken (objects before) alone colour) reasons.ColourTaken (Ok colour)) (colour_tests before earlier field) (λ colour e.
    rw (number_is reasons.UnknownColour names field colour (colour_ok names earlier field colour e).0)
    (tests_refuse (is_taken (objects before) alone colour) reasons.ColourTaken [] (Ok colour) (λ _. tests_ok colour)))

-- ---- objects

object_on : (of : Kinds) (os : List Object) (field : List ℕ)
    → Tests (when (is_unknown (find (λ (o : Object). bytes_eq field o.name) os)) reasons.UnknownObject ∷ when (is_other of (find (λ (o : Object). bytes_eq field o.name) os)) reasons.WrongObject ∷ []) (object_at of os field)
unfolding object_at
object_on of [] field = λ more. refl
object_on of (o ∷ os) field =
    elim (cases_Bool (bytes_eq field o.name)) [
      | inl same ↦ rw same (tests_refuse (not (is_of of o.kind)) reasons.WrongObject [] (Ok 0) (λ _. tests_ok {A = ℕ} 0))
      | inr apart ↦ rw apart (tests_last (when (is_unknown (find (λ (o : Object). bytes_eq field o.name) os)) reasons.UnknownObject ∷ when (is_other of (find (λ (o : Object). bytes_eq field o.name) os)) reasons.WrongObject ∷ []) (object_at of os field) (λ n. suc n) (object_on of os field))
    ]

pub object_tests : (before : List Item) (of : Kinds) (field : List ℕ) → Tests (object_field before of field) (object_at of (objects before) field)
object_tests before of field = object_on of (objects before) field

-- ---- so many fields

pub none_tests : {A : Type 0} (x : A) (args : List (List ℕ)) → Tests (when (not (eqb (length args) 0)) reasons.BadForm ∷ []) (with_none (Ok x) args)
none_tests x [] = λ more. refl
none_tests x (a ∷ args) = rw (ne_eqb (suc (length args)) 0 (λ e. omega arith)) (λ more. refl)

pub one_tests : {A : Type 0} (tests : List (List ℕ) → List (Option Reason)) (f : List ℕ → Result A Reason) → ((a : List ℕ) → Tests (tests (a ∷ [])) (f a))
    → (args : List (List ℕ)) → Tests (when (not (eqb (length args) 1)) reasons.BadForm ∷ tests args) (with_one f args)
one_tests tests f h [] = λ more. refl
one_tests tests f h (a ∷ []) = tests_refuse false reasons.BadForm (tests (a ∷ [])) (f a) (λ _. h a)
one_tests tests f h (a ∷ b ∷ args) = rw (ne_eqb (suc (suc (length args))) 1 (λ e. omega arith)) (λ more. refl)

pub two_tests : {A : Type 0} (tests : List (List ℕ) → List (Option Reason)) (f : List ℕ → List ℕ → Result A Reason) → ((a b : List ℕ) → Tests (tests (a ∷ b ∷ [])) (f a b))
    → (args : List (List ℕ)) → Tests (when (not (eqb (length args) 2)) reasons.BadForm ∷ tests args) (with_two f args)
two_tests tests f h [] = λ more. refl
two_tests tests f h (a ∷ []) = λ more. refl
two_tests tests f h (a ∷ b ∷ []) = tests_refuse false reasons.BadForm (tests (a ∷ b ∷ [])) (f a b) (λ _. h a b)
two_tests tests f h (a ∷ b ∷ c ∷ args) = rw (ne_eqb (suc (suc (suc (length args)))) 2 (λ e. omega arith)) (λ more. refl)
