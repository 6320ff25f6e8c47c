-- The fields of one kind are read exactly.
use Rattle.std.proofs.Common.{◌≡◌, ℕ, suc, ◌≤◌, Bool, true, false, not, ◌&&◌, ◌||◌, leb, eqb, inl, inr, List, [], ◌∷◌, ◌++◌, length, map, take, append-nil, Option, Some, None, Result, Ok, refl, sym, ap, ◌∙◌, arith}
use Rattle.std.specs.Prelude.{slice_get}
use Rattle.std.specs.List.{find, list_all}
use Rattle.std.proofs.lemmas.List.Folds.{list_any-append}
use Rattle.std.proofs.lemmas.Bool.{cases_Bool, and_parts, not-true, not-false, leb-true, eqb-true, lt-ltb, ltb-true, le-leb}
use Rattle.std.proofs.lemmas.List.{length-map}
use Rattle.std.proofs.lemmas.List.Splits.{length-slice_split}
use Rattle.log_node.specs.declared.ids.Colours.{Colours}
use Rattle.log_node.specs.declared.forms.Pair.{Pair}
use Rattle.log_node.specs.Sets.{set_of}
use Rattle.script_text.specs.declared.script.Object.{Object}
use Rattle.script_text.specs.declared.script.Reason.{Reason}
use Rattle.script_text.specs.declared.script.Reason.TheVariants as reasons
use Rattle.script_text.specs.declared.table.Field.{Field}
use Rattle.script_text.specs.declared.table.Field.TheVariants as fields
use Rattle.script_text.specs.declared.table.Kinds.{Kinds}
use Rattle.script_text.specs.declared.given.Given.{Given}
use Rattle.script_text.specs.declared.item.Item.{Item}
use Rattle.script_text.specs.Pieces.{is_text, is_key, is_between, is_number, number_value, name_of, names_in, first_in}
use Rattle.script_text.specs.Items.{region_names, colour_names, object_names, objects}
use Rattle.script_text.specs.Apart.{is_taken, is_reserved}
use Rattle.script_text.specs.Table.{own_in, later_in, at_most, own_fields, later_fields, has, fits}
use Rattle.script_text.specs.Grammar.{Spells, SpellAll, are_colours, are_keys, are_pairs, are_new_keys, are_new_numbers, is_colour, is_free, has_equals, key_in, value_in, pair_of, is_one_of}
use Rattle.script_text.specs.Faults.{when, kind_tests, colour_fields, object_colour_field, key_field, pair_field}
use Rattle.script_text.specs.Known.{known_of}
use Rattle.script_text.specs.Readings.{refuse, each_at, number_at, colour_at, colours_at, colours_set_at, object_colour_at, text_at, value_at, path_at, key_at, pair_at, digits_at, object_at}
use Rattle.script_text.specs.CommandReadings.{taken_at, given_at}
use Rattle.script_text.proofs.EachLemmas.{refused_ok, bind_ok, ok_is}
use Rattle.script_text.proofs.NameLemmas.{named, each_ok_cons, each_ok_nil, each_cons, each_nil, number_ok, number_at_again, colour_ok, colour_again, colours_ok, colours_again}
use Rattle.script_text.proofs.FieldLaws.{value_ok, value_again, path_ok, path_again, key_ok, key_again, keys_ok, keys_again, ArePairFields, pairs_ok, pairs_again, digits_ok, digits_again, object_ok, object_again, object_within}
use Rattle.script_text.proofs.KnownLaws.{IsLawful}
use Rattle.script_text.proofs.TestLaws.{Tests, tests_ok, tests_refuse, tests_last, number_tests, text_tests, value_tests, path_tests, key_tests, pair_tests, each_tests, colours_tests, object_colour_tests}
use Rattle.script_text.proofs.TestLaws as laws
use Rattle.script_text.proofs.FullLaws.{is_empty, any_empty, number_full, key_full, path_full, text_full, cols_full, colour_full, region_full, name_of_full, keys_full, pairs_full, named_full}

-- ---- texts, colours, objects and pairs

pub text_ok : (os : List Object) (field text : List ℕ) → text_at os field ≡ Ok text → (is_text field && not (is_reserved os field) ≡ true) × (text ≡ field)
unfolding text_at
text_ok os field text e =
    let a = refused_ok (not (is_text field)) reasons.TextLength (refuse (is_reserved os field) reasons.ReservedText (Ok field)) text e in
    let b = refused_ok (is_reserved os field) reasons.ReservedText (Ok field) text a.1 in
    (rw (not-false (is_text field) a.0, b.0) refl, sym (ok_is field text b.1))

pub text_again : (os : List Object) (field : List ℕ) → is_text field && not (is_reserved os field) ≡ true → text_at os field ≡ Ok field
unfolding text_at
text_again os field h =
    let p = and_parts (is_text field) (not (is_reserved os field)) h in
    rw (p.0, not-true (is_reserved os field) p.1) refl

-- the colours that a field names, in their order
abbrev pub order_at : List Item → List ℕ → Result (List ℕ) Reason
order_at before cols = colours_at (colour_names before) (names_in cols)

pub order_ok : (before : List Item) (cols : List ℕ) (ns : List ℕ) → order_at before cols ≡ Ok ns → (names_in cols ≡ named (colour_names before) ns) × (are_colours before ns ≡ true)
order_ok before cols ns e =
    let c = colours_ok (colour_names before) [] (names_in cols) ns e in
    let long : 1 ≤ length ns = omega (arith, ap length c.0, length-map ns (name_of (colour_names before)), length-slice_split (λ b. eqb b 44) cols) in
    (c.0, rw (le-leb 1 (length ns) long, c.1, c.2) refl)

pub order_again : (before : List Item) (cols : List ℕ) (ns : List ℕ) → IsLawful (known_of before) → are_colours before ns ≡ true → names_in cols ≡ named (colour_names before) ns → order_at before cols ≡ Ok ns
order_again before cols ns l h e =
    let a = and_parts (leb 1 (length ns) && are_new_numbers [] ns) (list_all (is_colour before) ns) h in
    let b = and_parts (leb 1 (length ns)) (are_new_numbers [] ns) a.0 in
    rw e (colours_again (colour_names before) [] ns l.colours refl b.1 a.1)

-- a colour of a new object is a colour that is free
object_colour_ok : (os : List Object) (names : List (List ℕ)) (alone : Bool) (earlier : List (List ℕ)) (field : List ℕ) (n : ℕ) → object_colour_at os names alone earlier field ≡ Ok n
    → (colour_at names earlier field ≡ Ok n) × (is_taken os alone n ≡ false)
unfolding object_colour_at
object_colour_ok os names alone earlier field n e =
    let b = bind_ok (colour_at names earlier field) (λ colour. refuse (is_taken os alone colour) reasons.ColourTaken (Ok colour)) n e in
    let r = refused_ok (is_taken os alone b.0) reasons.ColourTaken (Ok b.0) n b.2 in
    let same : b.0 ≡ n = ok_is b.0 n r.1 in
    (b.1 ∙ r.1, rw (← same) r.0)

object_colour_again : (os : List Object) (names : List (List ℕ)) (alone : Bool) (earlier : List (List ℕ)) (field : List ℕ) (n : ℕ) → colour_at names earlier field ≡ Ok n
    → is_taken os alone n ≡ false → object_colour_at os names alone earlier field ≡ Ok n
unfolding object_colour_at
object_colour_again os names alone earlier field n e free = rw (e, free) refl

object_colours_ok : (os : List Object) (names : List (List ℕ)) (alone : Bool) (earlier fields : List (List ℕ)) (ns : List ℕ) → each_at (object_colour_at os names alone) earlier fields ≡ Ok ns
    → (each_at (colour_at names) earlier fields ≡ Ok ns) × (list_all (λ n. not (is_taken os alone n)) ns ≡ true)
object_colours_ok os names alone earlier [] ns e =
    rw (each_ok_nil (object_colour_at os names alone) earlier ns e) (each_nil (colour_at names) earlier, refl)
object_colours_ok os names alone earlier (field ∷ fields) ns e =
    let c = each_ok_cons (object_colour_at os names alone) earlier field fields ns e in
    let one = object_colour_ok os names alone earlier field c.0 c.2 in
    let others = object_colours_ok os names alone (earlier ++ field ∷ []) fields c.1 c.3 in
    rw c.4 (each_cons (colour_at names) earlier field fields c.0 c.1 one.0 others.0, rw (one.1, others.1) refl)

object_colours_again : (os : List Object) (names : List (List ℕ)) (alone : Bool) (earlier fields : List (List ℕ)) (ns : List ℕ) → each_at (colour_at names) earlier fields ≡ Ok ns
    → list_all (λ n. not (is_taken os alone n)) ns ≡ true → each_at (object_colour_at os names alone) earlier fields ≡ Ok ns
object_colours_again os names alone earlier [] ns e free =
    each_nil (object_colour_at os names alone) earlier ∙ sym (each_nil (colour_at names) earlier) ∙ e
object_colours_again os names alone earlier (field ∷ fields) ns e free =
    let c = each_ok_cons (colour_at names) earlier field fields ns e in
    let p = and_parts (not (is_taken os alone c.0)) (list_all (λ n. not (is_taken os alone n)) c.1) (rw c.4 at free) in
    let one = object_colour_again os names alone earlier field c.0 c.2 (not-true (is_taken os alone c.0) p.0) in
    rw c.4 (each_cons (object_colour_at os names alone) earlier field fields c.0 c.1 one (object_colours_again os names alone (earlier ++ field ∷ []) fields c.1 c.3 p.1))

object_read : (before : List Item) (of : Kinds) (object : ℕ) → IsLawful (known_of before) → is_one_of of (slice_get (objects before) object) ≡ true
    → object_at of (objects before) (name_of (object_names before) object) ≡ Ok object
object_read before of object l h = object_again [] of (objects before) object l.objects h

length_keys : (fields : List (List ℕ)) → length (map (λ (p : Pair). p.key) (map pair_of fields)) ≡ length fields
length_keys [] = refl
length_keys (f ∷ fs) = ap suc (length_keys fs)

keys_same : (fields : List (List ℕ)) → map (λ (p : Pair). p.key) (map pair_of fields) ≡ map key_in fields
keys_same [] = refl
keys_same (f ∷ fs) = ap (λ ks. key_in f ∷ ks) (keys_same fs)

values_same : (fields : List (List ℕ)) → list_all (λ (p : Pair). is_key p.value) (map pair_of fields) ≡ list_all (λ field. is_key (value_in field)) fields
values_same [] = refl
values_same (f ∷ fs) = ap (λ b. is_key (value_in f) && b) (values_same fs)

-- pairs that are read are lawful ones
pairs_lawful : (most : ℕ) (fields : List (List ℕ)) → is_between 1 most (length fields) ≡ true → ArePairFields [] fields → are_pairs most (map pair_of fields) ≡ true
pairs_lawful most fields few h =
    rw (length_keys fields, few, keys_same fields, h.keys, values_same fields, h.values) refl

-- and lawful ones are read
pairs_read : (most : ℕ) (fields : List (List ℕ)) → list_all has_equals fields ≡ true → are_pairs most (map pair_of fields) ≡ true → (is_between 1 most (length fields) ≡ true) × (each_at pair_at [] fields ≡ Ok (map pair_of fields))
pairs_read most fields equals h =
    let a = and_parts (are_keys most (map (λ (p : Pair). p.key) (map pair_of fields))) (list_all (λ (p : Pair). is_key p.value) (map pair_of fields)) h in
    let b = and_parts (is_between 1 most (length (map (λ (p : Pair). p.key) (map pair_of fields)))) (are_new_keys [] (map (λ (p : Pair). p.key) (map pair_of fields))) a.0 in
    let few : is_between 1 most (length fields) ≡ true = rw length_keys at b.0 in
    let keys : are_new_keys [] (map key_in fields) ≡ true = rw keys_same at b.1 in
    (few, pairs_again [] fields (record { equals = equals; keys = keys; values = sym (values_same fields) ∙ a.1 }))

-- ---- what is given with one field more

unfoldable pub put_number : Given → ℕ → Given
put_number given n = record given { number = n }

unfoldable pub put_colours : Given → List ℕ → Given
put_colours given ns = record given { colours = set_of ns; count = length ns }

unfoldable pub put_set : Given → Colours × ℕ → Given
put_set given s = record given { colours = s.0; count = s.1 }

unfoldable pub put_colour : Given → ℕ → Given
put_colour given n = record given { colour = n }

unfoldable pub put_region : Given → ℕ → Given
put_region given n = record given { region = n }

unfoldable pub put_object : Given → ℕ → Given
put_object given n = record given { object = n }

unfoldable pub put_text : Given → List ℕ → Given
put_text given t = record given { text = t }

unfoldable pub put_key : Given → List ℕ → Given
put_key given t = record given { key = t }

unfoldable pub put_value : Given → List ℕ → Given
put_value given t = record given { value = t }

unfoldable pub put_path : Given → List ℕ → Given
put_path given t = record given { path = t }

unfoldable pub put_target : Given → List ℕ → Given
put_target given t = record given { target = t }

unfoldable pub put_keys : Given → List (List ℕ) → Given
put_keys given ks = record given { keys = ks }

unfoldable pub put_pairs : Given → List Pair → Given
put_pairs given ps = record given { pairs = ps }

unfoldable pub put_order : Given → List ℕ → Given
put_order given ns = record given { order = ns }

-- ---- each kind

single : (args : List (List ℕ)) → leb 1 (length (take 1 args)) ≡ true → take 1 args ≡ first_in (take 1 args) ∷ []
single [] h = absurd cc
single (a ∷ args) h = refl

pub kind_ok : (before : List Item) (field : Field) (args : List (List ℕ)) (given next : Given) → has field (own_fields field args) ≡ true
    → taken_at (known_of before) field (own_fields field args) given ≡ Ok next → Spells before field (own_fields field args) given next
unfolding taken_at colours_set_at put_number put_colours put_set put_colour put_region put_object put_text put_key put_value put_path put_target put_keys put_pairs put_order
kind_ok before fields.Steps args given next h e =
    let f = first_in (take 1 args) in
    let b = bind_ok (digits_at 3 f) (λ n. Ok (put_number given n)) next e in
    let d = digits_ok 3 f b.0 b.1 in
    (f, single args h, d.digits, sym (ok_is (put_number given b.0) next b.2) ∙ ap (put_number given) d.value)
kind_ok before fields.Cols args given next h e =
    let f = first_in (take 1 args) in
    let a = bind_ok (colours_set_at (colour_names before) (names_in f)) (λ s. Ok (put_set given s)) next e in
    let b = bind_ok (order_at before f) (λ ns. Ok (set_of ns, length ns)) a.0 a.1 in
    let o = order_ok before f b.0 b.1 in
    let s = ok_is (set_of b.0, length b.0) a.0 b.2 in
    let last : put_colours given b.0 ≡ next = ap (put_set given) s ∙ ok_is (put_set given a.0) next a.2 in
    (f, single args h, record { order = b.0; lawful = o.1; names = o.0; next_is = sym last })
kind_ok before fields.Colour args given next h e =
    let f = first_in (take 1 args) in
    let b = bind_ok (number_at reasons.UnknownColour (colour_names before) f) (λ n. Ok (put_colour given n)) next e in
    let n = number_ok reasons.UnknownColour (colour_names before) f b.0 b.1 in
    (b.0, single args h ∙ ap (λ f. f ∷ []) (sym n.1), lt-ltb b.0 (length (colour_names before)) n.0, sym (ok_is (put_colour given b.0) next b.2))
kind_ok before fields.Region args given next h e =
    let f = first_in (take 1 args) in
    let b = bind_ok (number_at reasons.UnknownRegion (region_names before) f) (λ n. Ok (put_region given n)) next e in
    let n = number_ok reasons.UnknownRegion (region_names before) f b.0 b.1 in
    (b.0, single args h ∙ ap (λ f. f ∷ []) (sym n.1), lt-ltb b.0 (length (region_names before)) n.0, sym (ok_is (put_region given b.0) next b.2))
kind_ok before fields.Text args given next h e =
    let f = first_in (take 1 args) in
    let b = bind_ok (text_at (objects before) f) (λ t. Ok (put_text given t)) next e in
    let t = text_ok (objects before) f b.0 b.1 in
    (f, single args h, t.0, sym (ok_is (put_text given b.0) next b.2) ∙ ap (put_text given) t.1)
kind_ok before (fields.Object of) args given next h e =
    let f = first_in (take 1 args) in
    let b = bind_ok (object_at of (objects before) f) (λ n. Ok (put_object given n)) next e in
    let o = object_ok of (objects before) f b.0 b.1 in
    (b.0, single args h ∙ ap (λ f. f ∷ []) o.1, o.0, sym (ok_is (put_object given b.0) next b.2))
kind_ok before fields.Key args given next h e =
    let f = first_in (take 1 args) in
    let b = bind_ok (key_at [] f) (λ t. Ok (put_key given t)) next e in
    let k = key_ok [] f b.0 b.1 in
    (f, single args h, k.0, sym (ok_is (put_key given b.0) next b.2) ∙ ap (put_key given) k.2)
kind_ok before fields.Value args given next h e =
    let f = first_in (take 1 args) in
    let b = bind_ok (value_at f) (λ t. Ok (put_value given t)) next e in
    let v = value_ok f b.0 b.1 in
    (f, single args h, v.0, sym (ok_is (put_value given b.0) next b.2) ∙ ap (put_value given) v.1)
kind_ok before (fields.Path root) args given next h e =
    let f = first_in (take 1 args) in
    let b = bind_ok (path_at root f) (λ t. Ok (put_path given t)) next e in
    let p = path_ok root f b.0 b.1 in
    (f, single args h, p.0, sym (ok_is (put_path given b.0) next b.2) ∙ ap (put_path given) p.1)
kind_ok before fields.Target args given next h e =
    let f = first_in (take 1 args) in
    let b = bind_ok (path_at false f) (λ t. Ok (put_target given t)) next e in
    let p = path_ok false f b.0 b.1 in
    (f, single args h, p.0, sym (ok_is (put_target given b.0) next b.2) ∙ ap (put_target given) p.1)
kind_ok before (fields.Keys most) args given next h e =
    let b = bind_ok (each_at key_at [] args) (λ ks. Ok (put_keys given ks)) next e in
    let k = keys_ok [] args b.0 b.1 in
    (rw (h, k.1) refl, sym (ok_is (put_keys given b.0) next b.2) ∙ ap (put_keys given) k.0)
kind_ok before (fields.Pairs most) args given next h e =
    let b = bind_ok (each_at pair_at [] args) (λ ps. Ok (put_pairs given ps)) next e in
    let k = pairs_ok [] args b.0 b.1 in
    (k.1.equals, pairs_lawful most args h k.1, sym (ok_is (put_pairs given b.0) next b.2) ∙ ap (put_pairs given) k.0)
kind_ok before fields.ObjectColour args given next h e =
    let f = first_in (take 1 args) in
    let names = colour_names before in
    let b = bind_ok (object_colour_at (objects before) names false [] f) (λ n. Ok (put_colour given n)) next e in
    let o = object_colour_ok (objects before) names false [] f b.0 b.1 in
    let n = number_ok reasons.UnknownColour names f b.0 (colour_ok names [] f b.0 o.0).0 in
    (b.0, single args h ∙ ap (λ f. f ∷ []) (sym n.1), rw (lt-ltb b.0 (length names) n.0, o.1) refl, sym (ok_is (put_colour given b.0) next b.2))
kind_ok before (fields.ObjectColours most alone) args given next h e =
    let names = colour_names before in
    let b = bind_ok (each_at (object_colour_at (objects before) names alone) [] args) (λ ns. Ok (put_order given ns)) next e in
    let o = object_colours_ok (objects before) names alone [] args b.0 b.1 in
    let c = colours_ok names [] args b.0 o.0 in
    let same : length args ≡ length b.0 = ap length c.0 ∙ length-map b.0 (name_of (colour_names before)) in
    let p = and_parts (leb 1 (length args)) (leb (length args) most) h in
    let some : leb 1 (length b.0) ≡ true = rw (← same) p.0 in
    let few : leb (length b.0) most ≡ true = rw (← same) p.1 in
    (b.0, c.0, rw (some, c.1, c.2, o.1) refl, leb-true (length b.0) most few, sym (ok_is (put_order given b.0) next b.2))

pub kind_again : (before : List Item) (field : Field) (own : List (List ℕ)) (given next : Given) → IsLawful (known_of before) → Spells before field own given next
    → (has field own ≡ true) × (taken_at (known_of before) field own given ≡ Ok next)
unfolding taken_at colours_set_at
kind_again before fields.Steps own given next l s = (rw s.1 refl, rw (s.1, digits_again 3 s.0 (number_value s.0) (record { digits = s.2; value = refl }), s.3) refl)
kind_again before fields.Cols own given next l s =
    let o = s.2 in
    (rw s.1 refl, rw (s.1, order_again before s.0 o.order l o.lawful o.names, o.next_is) refl)
kind_again before fields.Colour own given next l s =
    (rw s.1 refl, rw (s.1, number_at_again reasons.UnknownColour (colour_names before) s.0 l.colours (ltb-true s.0 (length (colour_names before)) s.2), s.3) refl)
kind_again before fields.Region own given next l s =
    (rw s.1 refl, rw (s.1, number_at_again reasons.UnknownRegion (region_names before) s.0 l.regions (ltb-true s.0 (length (region_names before)) s.2), s.3) refl)
kind_again before fields.Text own given next l s = (rw s.1 refl, rw (s.1, text_again (objects before) s.0 s.2, s.3) refl)
kind_again before (fields.Object of) own given next l s = (rw s.1 refl, rw (s.1, object_read before of s.0 l s.2, s.3) refl)
kind_again before fields.Key own given next l s = (rw s.1 refl, rw (s.1, key_again [] s.0 s.2 refl, s.3) refl)
kind_again before fields.Value own given next l s = (rw s.1 refl, rw (s.1, value_again s.0 s.2, s.3) refl)
kind_again before (fields.Path root) own given next l s = (rw s.1 refl, rw (s.1, path_again root s.0 s.2, s.3) refl)
kind_again before fields.Target own given next l s = (rw s.1 refl, rw (s.1, path_again false s.0 s.2, s.3) refl)
kind_again before (fields.Keys most) own given next l s =
    let p = and_parts (is_between 1 most (length own)) (are_new_keys [] own) s.0 in
    (p.0, rw (keys_again [] own p.1, s.1) refl)
kind_again before (fields.Pairs most) own given next l s =
    let p = pairs_read most own s.0 s.1 in
    (p.0, rw (p.1, s.2) refl)
kind_again before fields.ObjectColour own given next l s =
    let names = colour_names before in
    let p = and_parts (is_colour before s.0) (is_free before false s.0) s.2 in
    let read = colour_again names [] s.0 l.colours (ltb-true s.0 (length names) p.0) refl in
    (rw s.1 refl, rw (s.1, object_colour_again (objects before) names false [] (name_of names s.0) s.0 read (not-true (is_taken (objects before) false s.0) p.1), s.3) refl)
kind_again before (fields.ObjectColours most alone) own given next l s =
    let names = colour_names before in
    let o = and_parts (are_colours before s.0) (list_all (is_free before alone) s.0) s.2 in
    let a = and_parts (leb 1 (length s.0) && are_new_numbers [] s.0) (list_all (is_colour before) s.0) o.0 in
    let b = and_parts (leb 1 (length s.0)) (are_new_numbers [] s.0) a.0 in
    let read = object_colours_again (objects before) names alone [] (named names s.0) s.0 (colours_again names [] s.0 l.colours refl b.1 a.1) o.1 in
    (rw (s.1, length-map s.0 (name_of names), b.0, le-leb (length s.0) most s.3) refl, rw (s.1, read, s.4) refl)

-- none of the fields is empty
pub kind_full : (before : List Item) (field : Field) (own : List (List ℕ)) (given next : Given) → IsLawful (known_of before) → Spells before field own given next → any_empty own ≡ false
kind_full before fields.Steps own given next l s = rw (s.1, number_full 3 s.0 s.2) refl
kind_full before fields.Cols own given next l s = rw (s.1, cols_full before s.0 s.2.order l s.2.lawful s.2.names) refl
kind_full before fields.Colour own given next l s = rw (s.1, colour_full before s.0 l s.2) refl
kind_full before fields.Region own given next l s = rw (s.1, region_full before s.0 l s.2) refl
kind_full before fields.Text own given next l s = rw (s.1, text_full s.0 (and_parts (is_text s.0) (not (is_reserved (objects before) s.0)) s.2).0) refl
kind_full before (fields.Object of) own given next l s = rw (s.1, name_of_full [] (object_names before) s.0 l.objects (object_within of (objects before) s.0 s.2)) refl
kind_full before fields.Key own given next l s = rw (s.1, key_full s.0 s.2) refl
kind_full before fields.Value own given next l s = rw (s.1, key_full s.0 s.2) refl
kind_full before (fields.Path root) own given next l s = rw (s.1, path_full root s.0 s.2) refl
kind_full before fields.Target own given next l s = rw (s.1, path_full false s.0 s.2) refl
kind_full before (fields.Keys most) own given next l s = keys_full [] own (and_parts (is_between 1 most (length own)) (are_new_keys [] own) s.0).1
kind_full before (fields.Pairs most) own given next l s = pairs_full own s.0
kind_full before fields.ObjectColour own given next l s = rw (s.1, colour_full before s.0 l (and_parts (is_colour before s.0) (is_free before false s.0) s.2).0) refl
kind_full before (fields.ObjectColours most alone) own given next l s =
    let o = and_parts (are_colours before s.0) (list_all (is_free before alone) s.0) s.2 in
    let a = and_parts (leb 1 (length s.0) && are_new_numbers [] s.0) (list_all (is_colour before) s.0) o.0 in
    rw s.1 (named_full (colour_names before) s.0 l.colours a.1)

-- the first test that fails is the reason of the reading
pub kind_faults : (before : List Item) (field : Field) (own : List (List ℕ)) (given : Given) → Tests (kind_tests before field own) (taken_at (known_of before) field own given)
unfolding taken_at colours_set_at digits_at put_number put_colours put_set put_colour put_region put_object put_text put_key put_value put_path put_target put_keys put_pairs put_order
kind_faults before fields.Steps own given =
    let f = first_in own in
    tests_last (when (not (is_number 3 f)) reasons.BadNumber ∷ []) (digits_at 3 f) (put_number given)
    (tests_refuse (not (is_number 3 f)) reasons.BadNumber [] (Ok (number_value f)) (λ _. tests_ok (number_value f)))
kind_faults before fields.Cols own given =
    let f = first_in own in
    let order = tests_last (colour_fields before (names_in f)) (order_at before f) (λ ns. (set_of ns, length ns)) (colours_tests before (names_in f)) in
    tests_last (colour_fields before (names_in f)) (colours_set_at (colour_names before) (names_in f)) (put_set given) order
kind_faults before fields.Colour own given = tests_last (kind_tests before fields.Colour own) (number_at reasons.UnknownColour (colour_names before) (first_in own)) (put_colour given) (number_tests reasons.UnknownColour (colour_names before) (first_in own))
kind_faults before fields.Region own given = tests_last (kind_tests before fields.Region own) (number_at reasons.UnknownRegion (region_names before) (first_in own)) (put_region given) (number_tests reasons.UnknownRegion (region_names before) (first_in own))
kind_faults before fields.Text own given = tests_last (kind_tests before fields.Text own) (text_at (objects before) (first_in own)) (put_text given) (text_tests before (first_in own))
kind_faults before (fields.Object of) own given = tests_last (kind_tests before (fields.Object of) own) (object_at of (objects before) (first_in own)) (put_object given) (laws.object_tests before of (first_in own))
kind_faults before fields.Key own given = tests_last (kind_tests before fields.Key own) (key_at [] (first_in own)) (put_key given) (key_tests [] (first_in own))
kind_faults before fields.Value own given = tests_last (kind_tests before fields.Value own) (value_at (first_in own)) (put_value given) (value_tests (first_in own))
kind_faults before (fields.Path root) own given = tests_last (kind_tests before (fields.Path root) own) (path_at root (first_in own)) (put_path given) (path_tests root (first_in own))
kind_faults before fields.Target own given = tests_last (kind_tests before fields.Target own) (path_at false (first_in own)) (put_target given) (path_tests false (first_in own))
kind_faults before (fields.Keys most) own given = tests_last (kind_tests before (fields.Keys most) own) (each_at key_at [] own) (put_keys given) (each_tests key_field key_at key_tests [] own)
kind_faults before (fields.Pairs most) own given = tests_last (kind_tests before (fields.Pairs most) own) (each_at pair_at [] own) (put_pairs given) (each_tests pair_field pair_at pair_tests [] own)
kind_faults before fields.ObjectColour own given =
    tests_last (kind_tests before fields.ObjectColour own) (object_colour_at (objects before) (colour_names before) false [] (first_in own)) (put_colour given) (object_colour_tests before false [] (first_in own))
kind_faults before (fields.ObjectColours most alone) own given =
    let one = object_colour_at (objects before) (colour_names before) alone in
    tests_last (kind_tests before (fields.ObjectColours most alone) own) (each_at one [] own) (put_order given) (each_tests (object_colour_field before alone) one (object_colour_tests before alone) [] own)

-- ---- all fields of a row

pub find_passes : {X : Type 0} (p : X → Bool) (xs : List X) (x : X) → find p xs ≡ Some x → p x ≡ true
find_passes p [] x e = absurd cc
find_passes p (y ∷ ys) x e =
    elim (cases_Bool (p y)) [
      | inl same ↦ let h = rw same at e in let k : y ≡ x = cc in rw (← k) same
      | inr other ↦ find_passes p ys x (rw other at e)
    ]

no_fields : (args : List (List ℕ)) → eqb (length args) 0 ≡ true → args ≡ []
no_fields [] h = refl
no_fields (a ∷ args) h = let e = eqb-true (suc (length args)) 0 h in absurd (omega (arith, e))

pub all_ok : (before : List Item) (row : List Field) (args : List (List ℕ)) (given last : Given) → fits row args ≡ true → given_at (known_of before) row args given ≡ Ok last
    → SpellAll before row args given last
unfolding given_at
all_ok before [] args given last h e = (no_fields args h, sym (ok_is given last e))
all_ok before (field ∷ row) args given last h e =
    let p = and_parts (has field (own_fields field args)) (fits row (later_fields field args)) h in
    let b = bind_ok (taken_at (known_of before) field (own_fields field args) given) (λ next. given_at (known_of before) row (later_fields field args) next) last e in
    (b.0, kind_ok before field args given b.0 p.0 b.1, all_ok before row (later_fields field args) b.0 last p.1 b.2)

pub all_again : (before : List Item) (row : List Field) (args : List (List ℕ)) (given last : Given) → IsLawful (known_of before) → SpellAll before row args given last
    → (fits row args ≡ true) × (given_at (known_of before) row args given ≡ Ok last)
unfolding given_at
all_again before [] args given last l s = (rw s.0 refl, rw s.1 refl)
all_again before (field ∷ row) args given last l s =
    let k = kind_again before field (own_fields field args) given s.0 l s.1 in
    let r = all_again before row (later_fields field args) s.0 last l s.2 in
    (rw (k.0, r.0) refl, rw k.1 r.1)

own_later : (most : Option ℕ) (args : List (List ℕ)) → own_in most args ++ later_in most args ≡ args
own_later None [] = refl
own_later None (a ∷ args) = refl
own_later (Some most) args = append-nil args

pub all_full : (before : List Item) (row : List Field) (args : List (List ℕ)) (given last : Given) → IsLawful (known_of before) → SpellAll before row args given last → any_empty args ≡ false
all_full before [] args given last l s = rw s.0 refl
all_full before (field ∷ row) args given last l s =
    let own = own_fields field args in
    let later = later_fields field args in
    ap any_empty (sym (own_later (at_most field) args)) ∙ list_any-append is_empty own later
    ∙ ap (λ b. b || any_empty later) (kind_full before field own given s.0 l s.1) ∙ all_full before row later s.0 last l s.2
