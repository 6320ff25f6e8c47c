-- Readings: what fields give, or the first reason against them.
use Rattle.std.specs.Prelude.{◌≡◌, Bool, true, false, ℕ, suc, not, List, [], ◌∷◌, ◌++◌, length, map, Option, Some, None, Result, Ok, Err, if◌then◌else◌}
use Rattle.std.specs.Str.{bytes_eq}
use Rattle.std.specs.Borrow.{Bor}
use Rattle.log_node.specs.declared.ids.Colours.{Colours}
use Rattle.log_node.specs.declared.forms.Pair.{Pair}
use Rattle.log_node.specs.Sets.{has, set_of}
use Rattle.script_text.specs.declared.script.Object.{Object}
use Rattle.script_text.specs.declared.script.Reason.{Reason}
use Rattle.script_text.specs.declared.script.Reason.TheVariants as reasons
use Rattle.script_text.specs.declared.fault.Fault.{Fault}
use Rattle.script_text.specs.declared.fault.Fault.TheVariants as faults
use Rattle.script_text.specs.declared.table.Kinds.{Kinds}
use Rattle.script_text.specs.Pieces.{is_name, is_key, is_path, is_text, is_number, number_value, is_among, number_of}
use Rattle.script_text.specs.Table.{is_of}
use Rattle.script_text.specs.Apart.{is_taken, is_reserved}
use Rattle.script_text.specs.Grammar.{has_equals, key_in, value_in}

infixl 10 ◌>>=◌
-- what is read on with a value, or the reason why there is none
abbrev pub ◌>>=◌ : {A B : Type 0} → Result A Reason → (A → Result B Reason) → Result B Reason
(Ok x) >>= f = f x
(Err why) >>= f = Err why

-- a reason where the test holds, else what is read on
abbrev pub refuse : {A : Type 0} → Bool → Reason → Result A Reason → Result A Reason
refuse true why reading = Err why
refuse false why reading = reading

-- what a function returned is what is read, unless memory ran out
abbrev pub Fails : {X : Type 0} → Fault → Result X Reason → Type 0
Fails faults.NoMemory reading = Unit {0}
Fails (faults.Refused why) reading = reading ≡ Err why

-- the same of all that it may have returned, a value or a fault
abbrev pub Gives : {X : Type 0} → Result X Fault → Result X Reason → Type 0
Gives (Ok x) reading = reading ≡ Ok x
Gives (Err fault) reading = Fails fault reading

-- the same of what a field gave, where it stands beside the result
abbrev pub Takes : {X : Type 0} → Result Unit Fault → X → Result X Reason → Type 0
Takes (Ok _) next reading = reading ≡ Ok next
Takes (Err fault) next reading = Fails fault reading

-- what was found, or the reason
abbrev pub found_or : {A : Type 0} → Reason → Option A → Result A Reason
found_or why None = Err why
found_or why (Some x) = Ok x

-- the fields that a slice of slices holds
abbrev pub fields_in : List (Bor (List ℕ)) → List (List ℕ)
fields_in fields = map (λ field. field.now) fields

-- the number of a known name
unfoldable pub number_at : Reason → List (List ℕ) → List ℕ → Result ℕ Reason
number_at why names field = found_or why (number_of names field)

-- a name that is new among those of its kind
unfoldable pub new_name_at : List (List ℕ) → List ℕ → Result (List ℕ) Reason
new_name_at names field = refuse (not (is_name field)) reasons.BadName (refuse (is_among names field) reasons.NameRepeated (Ok field))

-- each field by itself, after those before it
unfoldable pub each_at : {X : Type 0} → (List (List ℕ) → List ℕ → Result X Reason) → List (List ℕ) → List (List ℕ) → Result (List X) Reason
each_at one earlier [] = Ok []
each_at one earlier (field ∷ fields) = do
  first ← one earlier field
  others ← each_at one (earlier ++ field ∷ []) fields
  Ok (first ∷ others)

-- new names of one kind, each apart from those before it
abbrev pub new_names_at : List (List ℕ) → Result (List (List ℕ)) Reason
new_names_at fields = each_at new_name_at [] fields

-- the number of a colour that none of the earlier fields names
unfoldable pub colour_at : List (List ℕ) → List (List ℕ) → List ℕ → Result ℕ Reason
colour_at names earlier field = do
  colour ← number_at reasons.UnknownColour names field
  refuse (is_among earlier field) reasons.ColourRepeated (Ok colour)

-- the number of a colour that is not in the set
unfoldable pub fresh_colour_at : List (List ℕ) → Colours → List ℕ → Result ℕ Reason
fresh_colour_at names set field = do
  colour ← number_at reasons.UnknownColour names field
  refuse (has set colour) reasons.ColourRepeated (Ok colour)

-- the number of a colour of a new object: none that the earlier fields name, and none that is taken
unfoldable pub object_colour_at : List Object → List (List ℕ) → Bool → List (List ℕ) → List ℕ → Result ℕ Reason
object_colour_at objects names alone earlier field = do
  colour ← colour_at names earlier field
  refuse (is_taken objects alone colour) reasons.ColourTaken (Ok colour)

-- the numbers of a new object's distinct colours
abbrev pub object_colours_at : List Object → List (List ℕ) → Bool → List (List ℕ) → Result (List ℕ) Reason
object_colours_at objects names alone fields = each_at (object_colour_at objects names alone) [] fields

-- the numbers of distinct colours
abbrev pub colours_at : List (List ℕ) → List (List ℕ) → Result (List ℕ) Reason
colours_at names fields = each_at (colour_at names) [] fields

-- the set of the colours that these fields name, and their number
unfoldable pub colours_set_at : List (List ℕ) → List (List ℕ) → Result (Colours × ℕ) Reason
colours_set_at names fields = do
  order ← colours_at names fields
  Ok (set_of order, length order)

-- a node's text, which none of the objects reserves
unfoldable pub text_at : List Object → List ℕ → Result (List ℕ) Reason
text_at objects field =
    refuse (not (is_text field)) reasons.TextLength (refuse (is_reserved objects field) reasons.ReservedText (Ok field))

-- a value of an object
unfoldable pub value_at : List ℕ → Result (List ℕ) Reason
value_at field = refuse (not (is_key field)) reasons.BadValue (Ok field)

-- a path of a tree, which may be the root
unfoldable pub path_at : Bool → List ℕ → Result (List ℕ) Reason
path_at root field = refuse (not (is_path root field)) reasons.BadPath (Ok field)

-- a key that is none of the earlier ones
unfoldable pub key_at : List (List ℕ) → List ℕ → Result (List ℕ) Reason
key_at earlier field = refuse (not (is_key field)) reasons.BadKey (refuse (is_among earlier field) reasons.KeyRepeated (Ok field))

-- a key and its value, where the key is none of the earlier ones
unfoldable pub new_pair_at : List (List ℕ) → List ℕ → Result Pair Reason
new_pair_at earlier field = refuse (not (has_equals field)) reasons.BadForm (do
  key ← key_at earlier (key_in field)
  value ← value_at (value_in field)
  Ok (record { key = key; value = value }))

-- the same, after these fields
abbrev pub pair_at : List (List ℕ) → List ℕ → Result Pair Reason
pair_at earlier field = new_pair_at (map key_in earlier) field

-- a number of at most so many digits
unfoldable pub digits_at : ℕ → List ℕ → Result ℕ Reason
digits_at most field = refuse (not (is_number most field)) reasons.BadNumber (Ok (number_value field))

-- the number of the object of this name, which is of one of these kinds
unfoldable pub object_at : Kinds → List Object → List ℕ → Result ℕ Reason
object_at of [] field = Err reasons.UnknownObject
object_at of (first ∷ objects) field =
    if bytes_eq field first.name then refuse (not (is_of of first.kind)) reasons.WrongObject (Ok 0)
    else object_at of objects field >>= λ n. Ok (suc n)

-- ---- so many fields

-- a line with no field behind its word
abbrev pub with_none : {A : Type 0} → Result A Reason → List (List ℕ) → Result A Reason
with_none reading [] = reading
with_none reading (a ∷ args) = Err reasons.BadForm

-- a line with one field behind its word
abbrev pub with_one : {A : Type 0} → (List ℕ → Result A Reason) → List (List ℕ) → Result A Reason
with_one f (a ∷ []) = f a
with_one f _ = Err reasons.BadForm

-- a line with two fields behind its word
abbrev pub with_two : {A : Type 0} → (List ℕ → List ℕ → Result A Reason) → List (List ℕ) → Result A Reason
with_two f (a ∷ b ∷ []) = f a b
with_two f _ = Err reasons.BadForm
