-- A header line gives an item exactly where it says one that may follow.
use Rattle.std.proofs.Common.{◌≡◌, ℕ, ◌+◌, ◌<◌, ◌≤◌, Bool, true, false, not, ◌&&◌, ltb, leb, inl, inr, List, [], ◌∷◌, length, map, drop, Option, Some, None, Result, Ok, refl, sym, ap, subst, ◌∙◌, codes, arith}
use Rattle.std.specs.List.{list_all}
use Rattle.std.specs.Option.{is_some}
use Rattle.std.specs.Fmt.{decimal}
use Rattle.std.specs.Str.{bytes_eq}
use Rattle.std.proofs.lemmas.Bool.{cases_Bool, both_ways, or_cases, and_parts, not-false, lt-ltb, le-ltb, ltb-true, leb-false, lt-leb}
use Rattle.std.proofs.lemmas.List.{length-map}
use Rattle.std.proofs.lemmas.Slice.Eq.{bytes_eq-Decides}
use Rattle.script_text.specs.declared.script.Kind.{Kind}
use Rattle.script_text.specs.declared.table.Sort.{Sort}
use Rattle.script_text.specs.declared.table.Sort.TheVariants as sorts
use Rattle.script_text.specs.declared.table.TheConstants.{SORTS}
use Rattle.script_text.specs.declared.given.Given.{Given}
use Rattle.script_text.specs.Table.{fits, nothing, sort_text, sort_fields, has_sort, sort_at, sort_of, kind_of}
use Rattle.script_text.specs.CommandReadings.{given_at}
use Rattle.script_text.specs.declared.script.Object.{Object}
use Rattle.script_text.specs.declared.script.Reason.{Reason}
use Rattle.script_text.specs.declared.script.Reason.TheVariants as reasons
use Rattle.script_text.specs.declared.item.Item.{Item}
use Rattle.script_text.specs.declared.item.Item.TheVariants as items
use Rattle.script_text.specs.declared.item.Stage.{Stage}
use Rattle.script_text.specs.declared.item.Stage.TheVariants as stages
use Rattle.script_text.specs.declared.known.Known.{Known}
use Rattle.script_text.specs.declared.limits.Limits.{Limits}
use Rattle.script_text.specs.Pieces.{is_among, is_between, is_number, number_value, name_of}
use Rattle.script_text.specs.Versions.{is_version}
use Rattle.script_text.specs.Items.{header_words, may_declare, may_begin, stage_of, version_of, may_come, limits_of, region_names, colour_names, client_names, objects, object_names}
use Rattle.script_text.specs.Grammar.{SpellsNumber, may_follow, are_new_names, are_new_numbers, are_colours, is_region, is_colour, is_free, colour_name, SpellAll}
use Rattle.script_text.specs.Laws.{Follows}
use Rattle.script_text.specs.Known.{known_of}
use Rattle.script_text.specs.Readings.{◌>>=◌, refuse, number_at, new_name_at, new_names_at}
use Rattle.script_text.specs.HeaderReadings.{limits_by, version_at, regions_at, colour_line_at, rows_at, client_named_at, client_at, object_name_at, sorted_at, declared_at, headed_at, header_at}
use Rattle.script_text.proofs.EachLemmas.{refused_ok, bind_ok, ok_is}
use Rattle.script_text.proofs.NameLemmas.{few_numbers, names_ok, names_again, new_name_ok, new_name_again, number_ok, number_at_again}
use Rattle.script_text.proofs.FieldLaws.{none_ok, one_ok, two_ok}
use Rattle.script_text.proofs.KindLaws.{find_passes, all_ok, all_again}
use Rattle.script_text.proofs.VersionLemmas.{which_version, text_1, text_2}
use Rattle.script_text.proofs.KnownLaws.{IsLawful}

-- ---- each line by itself

version_ok : (args : List (List ℕ)) (item : Item) → version_at args ≡ Ok item
    → (version : ℕ) × (args ≡ decimal version ∷ []) × (item ≡ items.Version version) × (is_version version ≡ true)
unfolding version_at
version_ok [] item e = absurd cc
version_ok (field ∷ []) item e =
    elim (cases_Bool (bytes_eq field (codes "1"))) [
      | inl same ↦
          let one : field ≡ codes "1" = (bytes_eq-Decides field (codes "1")).0 same in
          (1, ap (λ f. f ∷ []) (one ∙ sym text_1), sym (ok_is (items.Version 1) item (rw same at e)), refl)
      | inr n1 ↦
          let e1 = rw n1 at e in
          elim (cases_Bool (bytes_eq field (codes "2"))) [
            | inl same ↦
                let two : field ≡ codes "2" = (bytes_eq-Decides field (codes "2")).0 same in
                (2, ap (λ f. f ∷ []) (two ∙ sym text_2), sym (ok_is (items.Version 2) item (rw same at e1)), refl)
            | inr n2 ↦ let none = rw n2 at e1 in absurd cc
          ]
    ]
version_ok (one ∷ two ∷ args) item e = absurd cc

version_again : (version : ℕ) → is_version version ≡ true → version_at (decimal version ∷ []) ≡ Ok (items.Version version)
unfolding version_at
version_again version is =
    elim (which_version version is) [
      | inl one ↦ rw (one, text_1) refl
      | inr two ↦ rw (two, text_2) refl
    ]

regions_ok : (limits : Limits) (args : List (List ℕ)) (item : Item) → regions_at limits args ≡ Ok item → (item ≡ items.Regions args) × (is_between 1 limits.regions (length args) ≡ true) × (are_new_names [] args ≡ true)
unfolding regions_at
regions_ok limits args item e =
    let r = refused_ok (not (is_between 1 limits.regions (length args))) reasons.BadForm (new_names_at args >>= λ names. Ok (items.Regions names)) item e in
    let b = bind_ok (new_names_at args) (λ names. Ok (items.Regions names)) item r.1 in
    let n = names_ok [] args b.0 b.1 in
    (sym (ok_is (items.Regions b.0) item b.2) ∙ ap (λ names. items.Regions names) n.0, not-false (is_between 1 limits.regions (length args)) r.0, n.1)

regions_again : (limits : Limits) (args : List (List ℕ)) → is_between 1 limits.regions (length args) ≡ true → are_new_names [] args ≡ true → regions_at limits args ≡ Ok (items.Regions args)
unfolding regions_at
regions_again limits args few fresh = rw (few, names_again [] args fresh) refl

colours_line_ok : (limits : Limits) (args : List (List ℕ)) (item : Item) → colour_line_at limits args ≡ Ok item → (item ≡ items.Colours args) × (is_between 1 limits.colours (length args) ≡ true) × (are_new_names [] args ≡ true)
unfolding colour_line_at
colours_line_ok limits args item e =
    let r = refused_ok (not (is_between 1 limits.colours (length args))) reasons.BadForm (new_names_at args >>= λ names. Ok (items.Colours names)) item e in
    let b = bind_ok (new_names_at args) (λ names. Ok (items.Colours names)) item r.1 in
    let n = names_ok [] args b.0 b.1 in
    (sym (ok_is (items.Colours b.0) item b.2) ∙ ap (λ names. items.Colours names) n.0, not-false (is_between 1 limits.colours (length args)) r.0, n.1)

colours_line_again : (limits : Limits) (args : List (List ℕ)) → is_between 1 limits.colours (length args) ≡ true → are_new_names [] args ≡ true → colour_line_at limits args ≡ Ok (items.Colours args)
unfolding colour_line_at
colours_line_again limits args few fresh = rw (few, names_again [] args fresh) refl

rows_ok : (limits : Limits) (field : List ℕ) (item : Item) → rows_at limits field ≡ Ok item → (item ≡ items.Rows (number_value field)) × (is_number 10 field ≡ true) × (is_between 1 limits.rows (number_value field) ≡ true)
unfolding rows_at
rows_ok limits field item e =
    let r = refused_ok (not (is_number 10 field && is_between 1 limits.rows (number_value field))) reasons.BadNumber (Ok (items.Rows (number_value field))) item e in
    let p = and_parts (is_number 10 field) (is_between 1 limits.rows (number_value field)) (not-false (is_number 10 field && is_between 1 limits.rows (number_value field)) r.0) in
    (sym (ok_is (items.Rows (number_value field)) item r.1), p.0, p.1)

rows_again : (limits : Limits) (field : List ℕ) (n : ℕ) → SpellsNumber 10 field n → is_between 1 limits.rows n ≡ true → rows_at limits field ≡ Ok (items.Rows n)
unfolding rows_at
rows_again limits field n s few = let small = rw s.value at few in rw (s.digits, small, s.value) refl

client_named_ok : (known : Known) (field region : List ℕ) (item : Item) → client_named_at known field region ≡ Ok item
    → (home : ℕ) × (item ≡ items.Client field home) × (are_new_names known.script.clients (field ∷ []) ≡ true) × (home < length known.script.regions) × (region ≡ name_of known.script.regions home)
unfolding client_named_at
client_named_ok known field region item e =
    let a = bind_ok (new_name_at known.script.clients field) (λ name. number_at reasons.UnknownRegion known.script.regions region >>= λ home. Ok (items.Client name home)) item e in
    let b = bind_ok (number_at reasons.UnknownRegion known.script.regions region) (λ home. Ok (items.Client a.0 home)) item a.2 in
    let n = new_name_ok known.script.clients field a.0 a.1 in
    let r = number_ok reasons.UnknownRegion known.script.regions region b.0 b.1 in
    (b.0, sym (ok_is (items.Client a.0 b.0) item b.2) ∙ ap (λ name. items.Client name b.0) n.1, n.0, r.0, sym r.1)

client_follows : (before : List Item) (number : ℕ) (field region : List ℕ) (item : Item) → may_come before (codes "client") ≡ true → client_at (known_of before) field region ≡ Ok item
    → Follows before number (codes "client" ∷ field ∷ region ∷ []) item
unfolding client_at
client_follows before number field region item come e =
    let r = refused_ok (leb (limits_of before).clients (length (client_names before))) reasons.BadForm (client_named_at (known_of before) field region) item e in
    let c = client_named_ok (known_of before) field region item r.1 in
    rw c.1 (record {
      says = ap (λ f. codes "client" ∷ field ∷ f ∷ []) c.4;
      may = rw (come, lt-ltb (length (client_names before)) (limits_of before).clients (leb-false (limits_of before).clients (length (client_names before)) r.0), c.2, lt-ltb c.0 (length (region_names before)) c.3) refl;
    })

client_again : (before : List Item) (name : List ℕ) (home : ℕ) → IsLawful (known_of before) → length (client_names before) < (limits_of before).clients → are_new_names (client_names before) (name ∷ []) ≡ true → home < length (region_names before)
    → client_at (known_of before) name (name_of (region_names before) home) ≡ Ok (items.Client name home)
unfolding client_at client_named_at
client_again before name home l few fresh lt =
    rw (lt-leb (limits_of before).clients (length (client_names before)) few, new_name_again (client_names before) name fresh, number_at_again reasons.UnknownRegion (region_names before) home l.regions lt) refl

-- ---- objects

-- there is room for one more object, and the name is new
pub record IsNew (before : List Item) (name : List ℕ) : Type 0 where
  few : length (objects before) < (limits_of before).objects
  fresh : are_new_names (object_names before) (name ∷ []) ≡ true

object_name_ok : (before : List Item) (field name : List ℕ) → object_name_at (known_of before) field ≡ Ok name → (name ≡ field) × IsNew before field
unfolding object_name_at
object_name_ok before field name e =
    let r = refused_ok (leb (limits_of before).objects (length (objects before))) reasons.BadForm (new_name_at (object_names before) field) name e in
    let n = new_name_ok (object_names before) field name r.1 in
    (n.1, record { few = leb-false (limits_of before).objects (length (objects before)) r.0; fresh = n.0 })

object_name_again : (before : List Item) (name : List ℕ) → IsNew before name → object_name_at (known_of before) name ≡ Ok name
unfolding object_name_at
object_name_again before name n = rw (lt-leb (limits_of before).objects (length (objects before)) n.few, new_name_again (object_names before) name n.fresh) refl

-- what lies in a declared object
pub record IsDeclared (before : List Item) (object : Object) : Type 0 where
  pub come : may_come before (sort_text (sort_of object.kind)) ≡ true
  new : IsNew before object.name

pub declared_is : (before : List Item) (object : Object) → may_follow before (items.Declared object) ≡ true → IsDeclared before object
declared_is before object h =
    let come = may_come before (sort_text (sort_of object.kind)) in
    let few = ltb (length (objects before)) (limits_of before).objects in
    let b = and_parts (come && few) (are_new_names (object_names before) (object.name ∷ [])) h in
    let c = and_parts come few b.0 in
    record { come = c.0; new = record { few = ltb-true (length (objects before)) (limits_of before).objects c.1; fresh = b.1 } }

sort_kind : (sort : Sort) (given : Given) → sort_of (kind_of sort given) ≡ sort
sort_kind sorts.Map given = refl
sort_kind sorts.Tx given = refl
sort_kind sorts.Causal given = refl
sort_kind sorts.Queue given = refl
sort_kind sorts.Tree given = refl
sort_kind sorts.Parts given = refl

sort_ok : (version : ℕ) (word : List ℕ) (sort : Sort) → sort_at version word ≡ Some sort → word ≡ sort_text sort
sort_ok version word sort e =
    let p = and_parts (bytes_eq word (sort_text sort)) (has_sort version sort) (find_passes (λ s. bytes_eq word (sort_text s) && has_sort version s) SORTS sort e) in
    (bytes_eq-Decides word (sort_text sort)).0 p.0

-- an object's line may come only where the version has it
not_named : (stage : Stage) (sort : Sort) → is_among (header_words stage) (sort_text sort) ≡ false
not_named stages.Nothing sorts.Map = refl
not_named stages.Nothing _ = refl
not_named stages.Version sorts.Map = refl
not_named stages.Version _ = refl
not_named stages.Regions sorts.Map = refl
not_named stages.Regions _ = refl
not_named stages.Colours sorts.Map = refl
not_named stages.Colours _ = refl
not_named stages.Rows sorts.Map = refl
not_named stages.Rows _ = refl
not_named stages.Clients sorts.Map = refl
not_named stages.Clients _ = refl
not_named stages.Objects sorts.Map = refl
not_named stages.Objects _ = refl
not_named stages.Commands _ = refl

not_found : (version : ℕ) (sort : Sort) → has_sort version sort ≡ false → is_some (sort_at version (sort_text sort)) ≡ false
not_found version sorts.Map lacks = rw lacks refl
not_found version _ lacks = rw lacks refl

sort_known : (version : ℕ) (stage : Stage) (sort : Sort) → may_begin version stage (sort_text sort) ≡ true → has_sort version sort ≡ true
sort_known version stage sort come =
    elim (cases_Bool (has_sort version sort)) [
      | inl has ↦ has
      | inr lacks ↦
          let named = is_among (header_words stage) (sort_text sort) in
          let found = is_some (sort_at version (sort_text sort)) in
          elim (or_cases named (may_declare stage && found) come) [
            | inl is ↦ absurd (both_ways named (not_named stage sort) is)
            | inr is ↦ absurd (both_ways found (not_found version sort lacks) (and_parts (may_declare stage) found is).1)
          ]
    ]

abbrev declared : List ℕ → Sort → Given → Item
declared name sort given = items.Declared (record { name = name; kind = kind_of sort given })

sorted_ok : (before : List Item) (number : ℕ) (sort : Sort) (args : List (List ℕ)) (item : Item) → may_come before (sort_text sort) ≡ true → sorted_at (known_of before) sort args ≡ Ok item
    → Follows before number (sort_text sort ∷ args) item
unfolding sorted_at
sorted_ok before number sort [] item come e = absurd cc
sorted_ok before number sort (field ∷ args) item come e =
    let known = known_of before in
    let row = sort_fields sort in
    let reading = object_name_at known field >>= λ name. given_at known row args nothing >>= λ g. Ok (declared name sort g) in
    let many = ltb ((limits_of before).colours + 1) (length args) in
    let a = refused_ok (not (fits row args)) reasons.BadForm (refuse many reasons.BadForm reading) item e in
    let r = refused_ok many reasons.BadForm reading item a.1 in
    let b = bind_ok (object_name_at known field) (λ name. given_at known row args nothing >>= λ g. Ok (declared name sort g)) item r.1 in
    let c = bind_ok (given_at known row args nothing) (λ g. Ok (declared b.0 sort g)) item b.2 in
    let n = object_name_ok before field b.0 b.1 in
    let its : sort_of (kind_of sort c.0) ≡ sort = sort_kind sort c.0 in
    let is : item ≡ declared field sort c.0 = sym (ok_is (declared b.0 sort c.0) item c.2) ∙ ap (λ name. declared name sort c.0) n.0 in
    rw is (record {
      says = (
        args,
        record {
          given = c.0;
          spelled = subst (λ (s : Sort). SpellAll before (sort_fields s) args nothing c.0) (sym its) (all_ok before row args nothing c.0 (not-false (fits row args) a.0) c.1);
          same = ap (λ (s : Sort). kind_of s c.0) (sym its);
        },
        ap (λ (s : Sort). sort_text s ∷ field ∷ args) (sym its),
      );
      may = rw (its, come, lt-ltb (length (objects before)) (limits_of before).objects n.1.few, n.1.fresh) refl;
    })

declared_ok : (before : List Item) (number : ℕ) (word : List ℕ) (args : List (List ℕ)) (item : Item) (found : Option Sort) → may_come before word ≡ true → sort_at (version_of before) word ≡ found
    → declared_at (known_of before) found args ≡ Ok item → Follows before number (word ∷ args) item
unfolding declared_at
declared_ok before number word args item None come f e = absurd cc
declared_ok before number word args item (Some sort) come f e =
    let w = sort_ok (version_of before) word sort f in
    rw w (sorted_ok before number sort args item (rw w at come) e)

-- ---- by the word

pub same_word : (word text : List ℕ) → bytes_eq word text ≡ true → word ≡ text
same_word word text e = (bytes_eq-Decides word text).0 e

rows_follows : (before : List Item) (number : ℕ) (field : List ℕ) (item : Item) → may_come before (codes "rows") ≡ true → rows_at (limits_of before) field ≡ Ok item → Follows before number (codes "rows" ∷ field ∷ []) item
rows_follows before number field item come e =
    let r = rows_ok (limits_of before) field item e in
    rw r.0 (record { says = (field, record { digits = r.1; value = refl }, refl); may = rw (come, r.2) refl })

version_follows : (before : List Item) (number : ℕ) (args : List (List ℕ)) (item : Item) → may_come before (codes "fuzzylog") ≡ true → version_at args ≡ Ok item → Follows before number (codes "fuzzylog" ∷ args) item
version_follows before number args item come e =
    let v = version_ok args item e in
    subst (Follows before number (codes "fuzzylog" ∷ args)) (sym v.2) (record { says = ap (λ fields. codes "fuzzylog" ∷ fields) v.1; may = rw (come, v.3) refl })

headed_ok : (before : List Item) (number : ℕ) (word : List ℕ) (args : List (List ℕ)) (item : Item) → may_come before word ≡ true → headed_at (known_of before) word args ≡ Ok item
    → Follows before number (word ∷ args) item
unfolding headed_at
headed_ok before number word args item come e =
    elim (cases_Bool (bytes_eq word (codes "fuzzylog"))) [
      | inl same ↦
          let w = same_word word (codes "fuzzylog") same in
          rw w (version_follows before number args item (rw w at come) (rw same at e))
      | inr n1 ↦
          let e1 = rw n1 at e in
          elim (cases_Bool (bytes_eq word (codes "regions"))) [
            | inl same ↦
                let w = same_word word (codes "regions") same in
                let v = regions_ok (limits_of before) args item (rw same at e1) in
                rw (v.0, w) (record { says = refl; may = rw (rw w at come, v.1, v.2) refl })
            | inr n2 ↦
                let e2 = rw n2 at e1 in
                elim (cases_Bool (bytes_eq word (codes "colours"))) [
                  | inl same ↦
                      let w = same_word word (codes "colours") same in
                      let v = colours_line_ok (limits_of before) args item (rw same at e2) in
                      rw (v.0, w) (record { says = refl; may = rw (rw w at come, v.1, v.2) refl })
                  | inr n3 ↦
                      let e3 = rw n3 at e2 in
                      elim (cases_Bool (bytes_eq word (codes "rows"))) [
                        | inl same ↦
                            let w = same_word word (codes "rows") same in
                            let t = one_ok (rows_at (limits_of before)) args item (rw same at e3) in
                            rw (w, t.1) (rows_follows before number t.0 item (rw w at come) t.2)
                        | inr n4 ↦
                            let e4 = rw n4 at e3 in
                            elim (cases_Bool (bytes_eq word (codes "client"))) [
                              | inl same ↦
                                  let w = same_word word (codes "client") same in
                                  let t = two_ok (client_at (known_of before)) args item (rw same at e4) in
                                  rw (w, t.2) (client_follows before number t.0 t.1 item (rw w at come) t.3)
                              | inr n5 ↦
                                  let e5 = rw n5 at e4 in
                                  elim (cases_Bool (bytes_eq word (codes "begin"))) [
                                    | inl same ↦
                                        let w = same_word word (codes "begin") same in
                                        let v = none_ok items.Begin item args (rw same at e5) in
                                        rw (v.1, w, v.0) (record { says = refl; may = rw w at come })
                                    | inr n6 ↦ declared_ok before number word args item (sort_at (version_of before) word) come refl (rw n6 at e5)
                                  ]
                            ]
                      ]
                ]
          ]
    ]

pub header_ok : (before : List Item) (number : ℕ) (word : List ℕ) (args : List (List ℕ)) (item : Item) → header_at (known_of before) word args ≡ Ok item → Follows before number (word ∷ args) item
unfolding header_at
header_ok before number word args item e =
    let r = refused_ok (not (may_come before word)) reasons.BadHeader (headed_at (known_of before) word args) item e in
    headed_ok before number word args item (not-false (may_come before word) r.0) r.1

-- ---- and back

pub parts : (x y : List ℕ) (xs ys : List (List ℕ)) → x ∷ xs ≡ y ∷ ys → (x ≡ y) × (xs ≡ ys)
parts x y xs ys e = (cc, cc)

header_on : (before : List Item) (word : List ℕ) (args : List (List ℕ)) → may_come before word ≡ true → header_at (known_of before) word args ≡ headed_at (known_of before) word args
unfolding header_at
header_on before word args come = rw come refl

on_version : (known : Known) (args : List (List ℕ)) → headed_at known (codes "fuzzylog") args ≡ version_at args
unfolding headed_at
on_version known args = refl

on_regions : (known : Known) (args : List (List ℕ)) → headed_at known (codes "regions") args ≡ regions_at (limits_by known) args
unfolding headed_at
on_regions known args = refl

on_colours : (known : Known) (args : List (List ℕ)) → headed_at known (codes "colours") args ≡ colour_line_at (limits_by known) args
unfolding headed_at
on_colours known args = refl

on_rows : (known : Known) (field : List ℕ) → headed_at known (codes "rows") (field ∷ []) ≡ rows_at (limits_by known) field
unfolding headed_at
on_rows known field = refl

on_client : (known : Known) (field region : List ℕ) → headed_at known (codes "client") (field ∷ region ∷ []) ≡ client_at known field region
unfolding headed_at
on_client known field region = refl

on_begin : (known : Known) → headed_at known (codes "begin") [] ≡ Ok items.Begin
unfolding headed_at
on_begin known = refl

on_sort : (known : Known) (sort : Sort) (args : List (List ℕ)) → has_sort known.script.version sort ≡ true → headed_at known (sort_text sort) args ≡ sorted_at known sort args
unfolding headed_at declared_at
on_sort known sorts.Map args has = rw has refl
on_sort known _ args has = rw has refl

pub version_read : (before : List Item) (number : ℕ) (word : List ℕ) (args : List (List ℕ)) (version : ℕ) → Follows before number (word ∷ args) (items.Version version)
    → (may_come before word ≡ true) × (header_at (known_of before) word args ≡ Ok (items.Version version))
version_read before number word args version f =
    let p = parts word (codes "fuzzylog") args (decimal version ∷ []) f.says in
    let a = and_parts (may_come before (codes "fuzzylog")) (is_version version) f.may in
    rw (p.0, p.1) (a.0, header_on before (codes "fuzzylog") (decimal version ∷ []) a.0 ∙ on_version (known_of before) (decimal version ∷ []) ∙ version_again version a.1)

pub regions_read : (before : List Item) (number : ℕ) (word : List ℕ) (args names : List (List ℕ)) → Follows before number (word ∷ args) (items.Regions names)
    → (may_come before word ≡ true) × (header_at (known_of before) word args ≡ Ok (items.Regions names))
regions_read before number word args names f =
    let p = parts word (codes "regions") args names f.says in
    let a = and_parts (may_come before (codes "regions") && is_between 1 (limits_of before).regions (length names)) (are_new_names [] names) f.may in
    let b = and_parts (may_come before (codes "regions")) (is_between 1 (limits_of before).regions (length names)) a.0 in
    rw (p.0, p.1) (b.0, header_on before (codes "regions") names b.0 ∙ on_regions (known_of before) names ∙ regions_again (limits_of before) names b.1 a.1)

pub colours_read : (before : List Item) (number : ℕ) (word : List ℕ) (args names : List (List ℕ)) → Follows before number (word ∷ args) (items.Colours names)
    → (may_come before word ≡ true) × (header_at (known_of before) word args ≡ Ok (items.Colours names))
colours_read before number word args names f =
    let p = parts word (codes "colours") args names f.says in
    let a = and_parts (may_come before (codes "colours") && is_between 1 (limits_of before).colours (length names)) (are_new_names [] names) f.may in
    let b = and_parts (may_come before (codes "colours")) (is_between 1 (limits_of before).colours (length names)) a.0 in
    rw (p.0, p.1) (b.0, header_on before (codes "colours") names b.0 ∙ on_colours (known_of before) names ∙ colours_line_again (limits_of before) names b.1 a.1)

pub rows_read : (before : List Item) (number : ℕ) (word : List ℕ) (args : List (List ℕ)) (rows : ℕ) → Follows before number (word ∷ args) (items.Rows rows)
    → (may_come before word ≡ true) × (header_at (known_of before) word args ≡ Ok (items.Rows rows))
rows_read before number word args rows f =
    let field = f.says.0 in
    let p = parts word (codes "rows") args (field ∷ []) f.says.2 in
    let a = and_parts (may_come before (codes "rows")) (is_between 1 (limits_of before).rows rows) f.may in
    rw (p.0, p.1) (a.0, header_on before (codes "rows") (field ∷ []) a.0 ∙ on_rows (known_of before) field ∙ rows_again (limits_of before) field rows f.says.1 a.1)

pub client_read : (before : List Item) (number : ℕ) (word : List ℕ) (args : List (List ℕ)) (name : List ℕ) (home : ℕ) → IsLawful (known_of before) → Follows before number (word ∷ args) (items.Client name home)
    → (may_come before word ≡ true) × (header_at (known_of before) word args ≡ Ok (items.Client name home))
client_read before number word args name home l f =
    let region = name_of (region_names before) home in
    let p = parts word (codes "client") args (name ∷ region ∷ []) f.says in
    let a = and_parts (may_come before (codes "client") && ltb (length (client_names before)) (limits_of before).clients && are_new_names (client_names before) (name ∷ [])) (is_region before home) f.may in
    let b = and_parts (may_come before (codes "client") && ltb (length (client_names before)) (limits_of before).clients) (are_new_names (client_names before) (name ∷ [])) a.0 in
    let c = and_parts (may_come before (codes "client")) (ltb (length (client_names before)) (limits_of before).clients) b.0 in
    rw (p.0, p.1) (
      c.0,
      header_on before (codes "client") (name ∷ region ∷ []) c.0 ∙ on_client (known_of before) name region
          ∙ client_again before name home l (ltb-true (length (client_names before)) (limits_of before).clients c.1) b.1 (ltb-true home (length (region_names before)) a.1),
    )

pub begin_read : (before : List Item) (number : ℕ) (word : List ℕ) (args : List (List ℕ)) → Follows before number (word ∷ args) items.Begin
    → (may_come before word ≡ true) × (header_at (known_of before) word args ≡ Ok items.Begin)
begin_read before number word args f =
    let p = parts word (codes "begin") args [] f.says in
    rw (p.0, p.1) (f.may, header_on before (codes "begin") [] f.may ∙ on_begin (known_of before))

-- distinct colours are no more than the version allows
few_order : (before : List Item) (order : List ℕ) → IsLawful (known_of before) → are_colours before order ≡ true → length order ≤ (limits_of before).colours
few_order before order l ok =
    let a = and_parts (leb 1 (length order) && are_new_numbers [] order) (list_all (is_colour before) order) ok in
    let b = and_parts (leb 1 (length order)) (are_new_numbers [] order) a.0 in
    let named = few_numbers order (length (colour_names before)) b.1 a.1 in
    let few = l.few in
    omega (arith, named, few)

one_more : (args : List (List ℕ)) → length args ≤ length (drop 1 args) + 1
one_more [] = omega arith
one_more (a ∷ args) = omega arith

few_sharded : (before : List Item) (alone : Bool) (args : List (List ℕ)) (order : List ℕ) → IsLawful (known_of before) → drop 1 args ≡ map (colour_name before) order
    → are_colours before order && list_all (is_free before alone) order ≡ true → length args ≤ (limits_of before).colours + 1
few_sharded before alone args order l named ok =
    let one = one_more args in
    let same = ap length named ∙ length-map order (colour_name before) in
    let few = few_order before order l (and_parts (are_colours before order) (list_all (is_free before alone) order) ok).0 in
    omega (arith, one, same, few)

-- an object's fields are no more than the version allows
few_fields : (before : List Item) (sort : Sort) (args : List (List ℕ)) (given : Given) → IsLawful (known_of before) → SpellAll before (sort_fields sort) args nothing given
    → length args ≤ (limits_of before).colours + 1
few_fields before sorts.Map args given l s = few_sharded before false args s.2.1.0 l s.2.1.1 s.2.1.2
few_fields before sorts.Tx args given l s = few_sharded before false args s.2.1.0 l s.2.1.1 s.2.1.2
few_fields before sorts.Tree args given l s = few_sharded before false args s.2.1.0 l s.2.1.1 s.2.1.2
few_fields before sorts.Parts args given l s = few_sharded before true args s.2.1.0 l s.2.1.1 s.2.1.2
few_fields before sorts.Causal args given l s =
    let one = one_more args in
    let last = ap length s.2.0 in
    omega (arith, one, last)
few_fields before sorts.Queue args given l s =
    let one = one_more args in
    let two = one_more (drop 1 args) in
    let last = ap length s.2.2.0 in
    let named = ltb-true s.2.1.0 (length (colour_names before)) (and_parts (is_colour before s.2.1.0) (is_free before false s.2.1.0) s.2.1.2).0 in
    let few = l.few in
    omega (arith, one, two, last, named, few)

sorted_again : (before : List Item) (name : List ℕ) (sort : Sort) (args : List (List ℕ)) (given : Given) → IsNew before name → fits (sort_fields sort) args ≡ true
    → length args ≤ (limits_of before).colours + 1 → given_at (known_of before) (sort_fields sort) args nothing ≡ Ok given → sorted_at (known_of before) sort (name ∷ args) ≡ Ok (declared name sort given)
unfolding sorted_at
sorted_again before name sort args given new fit few read =
    rw (fit, le-ltb ((limits_of before).colours + 1) (length args) few, object_name_again before name new, read) refl

pub declared_read : (before : List Item) (number : ℕ) (word : List ℕ) (args : List (List ℕ)) (object : Object) → IsLawful (known_of before) → Follows before number (word ∷ args) (items.Declared object)
    → (may_come before word ≡ true) × (header_at (known_of before) word args ≡ Ok (items.Declared object))
declared_read before number word args object l f =
    let sort = sort_of object.kind in
    let more = f.says.0 in
    let says = f.says.1 in
    let p = parts word (sort_text sort) args (object.name ∷ more) f.says.2 in
    let d = declared_is before object f.may in
    let r = all_again before (sort_fields sort) more nothing says.given l says.spelled in
    rw (p.0, p.1) (
      d.come,
      header_on before (sort_text sort) (object.name ∷ more) d.come ∙ on_sort (known_of before) sort (object.name ∷ more) (sort_known (version_of before) (stage_of before) sort d.come)
          ∙ sorted_again before object.name sort more says.given d.new r.0 (few_fields before sort more says.given l says.spelled) r.1 ∙ ap (λ k. said object.name k) (sym says.same),
    ) where
      said : List ℕ → Kind → Result Item Reason
      said name kind = Ok (items.Declared (record { name = name; kind = kind }))
