-- What is no empty field.
use Rattle.std.proofs.Common.{◌≡◌, ℕ, zero, suc, ◌<◌, Bool, true, false, not, ◌&&◌, ltb, leb, eqb, List, [], ◌∷◌, ◌++◌, length, refl, ap, ◌∙◌, arith}
use Rattle.std.specs.List.{list_any, list_all}
use Rattle.std.proofs.lemmas.Bool.{and_parts, ne_eqb, ltb-true, leb-true}
use Rattle.script_text.specs.declared.item.Item.{Item}
use Rattle.script_text.specs.Pieces.{is_name, is_key, is_path, is_text, is_number, is_between, is_letter_or_digit, is_among, name_of, names_in}
use Rattle.script_text.specs.Items.{region_names, colour_names}
use Rattle.script_text.specs.Grammar.{are_new_names, are_new_keys, are_new_numbers, are_colours, is_region, is_colour, has_equals}
use Rattle.script_text.specs.Known.{known_of}
use Rattle.script_text.proofs.NameLemmas.{named, new_parts}
use Rattle.script_text.proofs.KnownLaws.{IsLawful}

abbrev pub is_empty : List ℕ → Bool
is_empty field = eqb (length field) 0

abbrev pub any_empty : List (List ℕ) → Bool
any_empty fields = list_any is_empty fields

-- ---- what is no empty field

pub name_full : (field : List ℕ) → is_name field ≡ true → is_empty field ≡ false
name_full [] h = absurd cc
name_full (b ∷ bs) h = ne_eqb (suc (length bs)) 0 (λ e. omega arith)

between_full : (most : ℕ) (field : List ℕ) → is_between 1 most (length field) ≡ true → is_empty field ≡ false
between_full most field h =
    let some = leb-true 1 (length field) (and_parts (leb 1 (length field)) (leb (length field) most) h).0 in
    ne_eqb (length field) 0 (λ e. omega arith)

pub key_full : (field : List ℕ) → is_key field ≡ true → is_empty field ≡ false
key_full field h = between_full 16 field (and_parts (is_between 1 16 (length field)) (list_all is_letter_or_digit field) h).0

pub path_full : (root : Bool) (field : List ℕ) → is_path root field ≡ true → is_empty field ≡ false
path_full root [] h = absurd cc
path_full root (b ∷ bs) h = ne_eqb (suc (length bs)) 0 (λ e. omega arith)

pub text_full : (field : List ℕ) → is_text field ≡ true → is_empty field ≡ false
text_full field h = between_full 200 field (and_parts (is_between 1 200 (length field)) (list_all (is_between 33 126) field) h).0

pub number_full : (most : ℕ) (field : List ℕ) → is_number most field ≡ true → is_empty field ≡ false
number_full most [] h = absurd cc
number_full most (b ∷ bs) h = ne_eqb (suc (length bs)) 0 (λ e. omega arith)

equals_full : (field : List ℕ) → has_equals field ≡ true → is_empty field ≡ false
equals_full [] h = absurd cc
equals_full (b ∷ bs) h = ne_eqb (suc (length bs)) 0 (λ e. omega arith)

pub name_of_full : (earlier names : List (List ℕ)) (n : ℕ) → are_new_names earlier names ≡ true → n < length names → is_empty (name_of names n) ≡ false
name_of_full earlier [] n h lt = absurd (omega arith)
name_of_full earlier (first ∷ names) zero h lt = name_full first (new_parts earlier names first h).0
name_of_full earlier (first ∷ names) (suc n) h lt = name_of_full (earlier ++ first ∷ []) names n (new_parts earlier names first h).2 (omega arith)

pub names_full : (earlier names : List (List ℕ)) → are_new_names earlier names ≡ true → any_empty names ≡ false
names_full earlier [] h = refl
names_full earlier (first ∷ names) h =
    let p = new_parts earlier names first h in
    rw (name_full first p.0, names_full (earlier ++ first ∷ []) names p.2) refl

pub named_full : (names : List (List ℕ)) (ns : List ℕ) → are_new_names [] names ≡ true → list_all (λ n. ltb n (length names)) ns ≡ true → any_empty (named names ns) ≡ false
named_full names [] h below = refl
named_full names (n ∷ ns) h below =
    let b = and_parts (ltb n (length names)) (list_all (λ n. ltb n (length names)) ns) below in
    rw (name_of_full [] names n h (ltb-true n (length names) b.0), named_full names ns h b.1) refl

pub keys_full : (earlier keys : List (List ℕ)) → are_new_keys earlier keys ≡ true → any_empty keys ≡ false
keys_full earlier [] h = refl
keys_full earlier (key ∷ keys) h =
    let a = and_parts (is_key key && not (is_among earlier key)) (are_new_keys (earlier ++ key ∷ []) keys) h in
    let b = and_parts (is_key key) (not (is_among earlier key)) a.0 in
    rw (key_full key b.0, keys_full (earlier ++ key ∷ []) keys a.1) refl

pub pairs_full : (fields : List (List ℕ)) → list_all has_equals fields ≡ true → any_empty fields ≡ false
pairs_full [] h = refl
pairs_full (field ∷ fields) h =
    let a = and_parts (has_equals field) (list_all has_equals fields) h in
    rw (equals_full field a.0, pairs_full fields a.1) refl

-- names between commas that are colours' names make no empty field
pub cols_full : (before : List Item) (cols : List ℕ) (ns : List ℕ) → IsLawful (known_of before) → are_colours before ns ≡ true → names_in cols ≡ named (colour_names before) ns → is_empty cols ≡ false
cols_full before [] ns l h e =
    let a = and_parts (leb 1 (length ns) && are_new_numbers [] ns) (list_all (is_colour before) ns) h in
    let full = named_full (colour_names before) ns l.colours a.1 in
    let none : any_empty ([] ∷ []) ≡ false = ap any_empty e ∙ full in
    absurd cc
cols_full before (b ∷ bs) ns l h e = ne_eqb (suc (length bs)) 0 (λ e. omega arith)

-- ---- commands

pub colour_full : (before : List Item) (colour : ℕ) → IsLawful (known_of before) → is_colour before colour ≡ true → is_empty (name_of (colour_names before) colour) ≡ false
colour_full before colour l h = name_of_full [] (colour_names before) colour l.colours (ltb-true colour (length (colour_names before)) h)

pub region_full : (before : List Item) (region : ℕ) → IsLawful (known_of before) → is_region before region ≡ true → is_empty (name_of (region_names before) region) ≡ false
region_full before region l h = name_of_full [] (region_names before) region l.regions (ltb-true region (length (region_names before)) h)
