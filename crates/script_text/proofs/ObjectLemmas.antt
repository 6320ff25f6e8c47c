-- The objects that a script declares, and the commands that use them.
use Rattle.std.proofs.Common.{◌≡◌, ℕ, ◌<◌, ◌≤◌, arith, Bool, true, false, ◌&&◌, List, [], ◌∷◌, ◌++◌, length, Some, None, refl, ap, sym, subst, ◌∙◌, leb-true, ltb-true}
use Rattle.std.specs.Prelude.{IsTrue, nat_le, codes}
use Rattle.std.specs.List.{All, list_all}
use Rattle.std.proofs.lemmas.List.Elements.{All-nil}
use Rattle.log_node.specs.declared.limits.TheConstants.{MAX_COLOURS}
use Rattle.script_text.specs.declared.script.Kind.{Kind}
use Rattle.script_text.specs.declared.script.Kind.TheVariants as kinds
use Rattle.script_text.specs.declared.script.Object.{Object}
use Rattle.script_text.specs.declared.commands.What.{What}
use Rattle.script_text.specs.declared.script.Command.{Command}
use Rattle.script_text.specs.declared.table.Sort.{Sort}
use Rattle.script_text.specs.declared.table.Sort.TheVariants as sorts
use Rattle.script_text.specs.declared.given.Given.{Given}
use Rattle.script_text.specs.declared.item.Item.{Item}
use Rattle.script_text.specs.declared.item.Item.TheVariants as items
use Rattle.script_text.specs.declared.item.Stage.{Stage}
use Rattle.script_text.specs.declared.item.Stage.TheVariants as stages
use Rattle.script_text.specs.Table.{nothing, sort_fields, sort_text, sort_of, kind_of}
use Rattle.script_text.specs.Commands.{word_of}
use Rattle.script_text.specs.Items.{stage_after, stage_of, may_begin, may_come, version_of, regions_in, colours_in, objects_in, commands_in, last_said, region_names, colour_names, client_homes, objects, commands}
use Rattle.script_text.specs.Grammar.{may_follow, is_colour, is_free, are_colours, are_new_numbers, SpellAll, SpellsKind, SpellsWhat, Says}
use Rattle.script_text.specs.Fitting.{AreObjectColours, IsKindWithin, UsesObject}
use Rattle.script_text.proofs.CommandRows.{uses_of}
use Rattle.script_text.proofs.VersionLemmas.{at_fuzzylog}
use Rattle.script_text.proofs.NameLemmas.{few_numbers}
use Rattle.script_text.proofs.FittingLemmas.{Fit, colours_most, and-left, and-right, All-cons, filter_map-more, filter_map-said, last-more, one-more, no, at_regions, at_colours, at_rows, at_end}

-- no object is declared before this stage
abbrev pub Bare : Stage → List Object → Type 0
Bare stages.Nothing made = made ≡ []
Bare stages.Version made = made ≡ []
Bare stages.Regions made = made ≡ []
Bare stages.Colours made = made ≡ []
Bare stages.Rows made = made ≡ []
Bare stages.Clients made = made ≡ []
Bare stages.Objects made = Unit {0}
Bare stages.Commands made = Unit {0}

pub record Named (regions colours : ℕ) (made : List Object) (asked : List Command) (stage : Stage) : Type 0 where
  pub kinds : All (λ (o : Object). IsKindWithin regions colours o.kind) made
  pub uses : All (λ (c : Command). UsesObject made c.what) asked
  pub bare : Bare stage made

abbrev pub Names : List Item → Type 0
Names before = Named (length (region_names before)) (length (colour_names before)) (objects before) (commands before) (stage_of before)

-- nothing is said at first
pub names_nothing : Names []
names_nothing = record {
  kinds = All-nil (λ (o : Object). IsKindWithin 0 0 o.kind);
  uses = All-nil (λ (c : Command). UsesObject [] c.what);
  bare = refl;
}

-- WHAT AN OBJECT IS

-- what passes a test each time holds of each
all_of : (P : ℕ → Type 0) (test : ℕ → Bool) → ((x : ℕ) → test x ≡ true → P x) → (xs : List ℕ)
    → list_all test xs ≡ true → All P xs
all_of P test h [] e = All-nil P
all_of P test h (x ∷ xs) e =
    All-cons P x xs (h x (and-left (test x) (list_all test xs) e)) (all_of P test h xs (and-right (test x) (list_all test xs) e))

-- The colours that a line gives an object are such: none is named twice, so they are no more than the colours that have names.
colours_within : (before : List Item) → length (colour_names before) ≤ MAX_COLOURS → (alone : Bool) (order : List ℕ)
    → IsTrue (are_colours before order && list_all (is_free before alone) order)
    → AreObjectColours (length (colour_names before)) order
colours_within before most alone order ok =
    let lawful : are_colours before order ≡ true = and-left _ _ ok in
    let first = and-left (nat_le 1 (length order) && are_new_numbers [] order) (list_all (is_colour before) order) lawful in
    let named = few_numbers order (length (colour_names before))
    (and-right (nat_le 1 (length order)) (are_new_numbers [] order) first) (and-right _ _ lawful) in
    record {
      some = leb-true _ _ (and-left _ _ first);
      few = omega (arith, named, most);
      below = all_of (λ c. c < length (colour_names before)) (is_colour before) (λ c e. ltb-true _ _ e) order
          (and-right _ _ lawful);
    }

kind_is : (before : List Item) → length (colour_names before) ≤ MAX_COLOURS → (args : List (List ℕ)) (sort : Sort) (given : Given)
    → SpellAll before (sort_fields sort) args nothing given
    → IsKindWithin (length (region_names before)) (length (colour_names before)) (kind_of sort given)
kind_is before few args sorts.Map given s =
    let whole = s.2.2.1 ∙ (s.2.1.4 ∙ ap (λ (g : Given). record g { order = s.2.1.0 }) s.1.3) in
    subst (λ (g : Given). IsKindWithin (length (region_names before)) (length (colour_names before)) (kind_of sorts.Map g))
    (sym whole) (ltb-true _ _ s.1.2, colours_within before few false s.2.1.0 s.2.1.2)
kind_is before few args sorts.Tx given s =
    let whole = s.2.2.1 ∙ (s.2.1.4 ∙ ap (λ (g : Given). record g { order = s.2.1.0 }) s.1.3) in
    subst (λ (g : Given). IsKindWithin (length (region_names before)) (length (colour_names before)) (kind_of sorts.Tx g))
    (sym whole) (ltb-true _ _ s.1.2, colours_within before few false s.2.1.0 s.2.1.2)
kind_is before few args sorts.Tree given s =
    let whole = s.2.2.1 ∙ (s.2.1.4 ∙ ap (λ (g : Given). record g { order = s.2.1.0 }) s.1.3) in
    subst (λ (g : Given). IsKindWithin (length (region_names before)) (length (colour_names before)) (kind_of sorts.Tree g))
    (sym whole) (ltb-true _ _ s.1.2, colours_within before few false s.2.1.0 s.2.1.2)
kind_is before few args sorts.Parts given s =
    let whole = s.2.2.1 ∙ (s.2.1.4 ∙ ap (λ (g : Given). record g { order = s.2.1.0 }) s.1.3) in
    subst (λ (g : Given). IsKindWithin (length (region_names before)) (length (colour_names before)) (kind_of sorts.Parts g))
    (sym whole) (ltb-true _ _ s.1.2, colours_within before few true s.2.1.0 s.2.1.2)
kind_is before few args sorts.Causal given s =
    subst (λ (g : Given). IsKindWithin (length (region_names before)) (length (colour_names before)) (kind_of sorts.Causal g))
    (sym (s.2.1 ∙ s.1.3)) (ltb-true _ _ (and-left _ _ s.1.2))
kind_is before few args sorts.Queue given s =
    let whole = s.2.2.1 ∙ (s.2.1.3 ∙ ap (λ (g : Given). record g { colour = s.2.1.0 }) s.1.3) in
    subst (λ (g : Given). IsKindWithin (length (region_names before)) (length (colour_names before)) (kind_of sorts.Queue g))
    (sym whole) (ltb-true _ _ s.1.2, ltb-true _ _ (and-left _ _ s.2.1.2))

-- ONE MORE ITEM

-- where one more item changes what is said as told, the facts are of what is then said
carried : (r r' c c' : ℕ) (o o' : List Object) (k k' : List Command) (s s' : Stage) → r ≡ r' → c ≡ c' → o ≡ o'
    → k ≡ k' → s ≡ s' → Named r c o k s → Named r' c' o' k' s'
carried r r' c c' o o' k k' s s' er ec eo ek es n =
    subst (λ (z : ℕ × ℕ × List Object × List Command × Stage). Named z.0 z.1 z.2 z.3 z.4)
    (λ i. (er i, ec i, eo i, ek i, es i)) n

none_all : {A : Type 0} (P : A → Type 0) (xs : List A) → xs ≡ [] → All P xs
none_all P xs e = subst (λ l. All P l) (sym e) (All-nil P)

-- no object is declared where clients are named
bare_client : (version : ℕ) (s : Stage) (made : List Object) → may_begin version s (codes "client") ≡ true → Bare s made
    → made ≡ []
bare_client version stages.Colours made e b = b
bare_client version stages.Rows made e b = b
bare_client version stages.Clients made e b = b
bare_client version _ made e b = no e

module _ (before : List Item) (fit : Fit before) (named : Names before) where
  abbrev regions : ℕ
  regions = length (region_names before)

  abbrev colours : ℕ
  colours = length (colour_names before)

  bare_at : (s : Stage) → stage_of before ≡ s → Bare s (objects before)
  bare_at s e = subst (λ (t : Stage). Bare t (objects before)) e named.bare

  stage_more : (item : Item) → stage_after (Some item) ≡ stage_of (before ++ item ∷ [])
  stage_more item = sym (ap stage_after (last-more None before item))

  same_regions : (item : Item) → regions_in item ≡ None
      → length (region_names before) ≡ length (region_names (before ++ item ∷ []))
  same_regions item e =
      ap (λ (l : List (List (List ℕ))). length (last_said [] l)) (sym (filter_map-more regions_in before item e))

  same_colours : (item : Item) → colours_in item ≡ None
      → length (colour_names before) ≡ length (colour_names (before ++ item ∷ []))
  same_colours item e =
      ap (λ (l : List (List (List ℕ))). length (last_said [] l)) (sym (filter_map-more colours_in before item e))

  same_objects : (item : Item) → objects_in item ≡ None → objects before ≡ objects (before ++ item ∷ [])
  same_objects item e = sym (filter_map-more objects_in before item e)

  same_commands : (item : Item) → commands_in item ≡ None → commands before ≡ commands (before ++ item ∷ [])
  same_commands item e = sym (filter_map-more commands_in before item e)

  -- an item that says none of these
  passed : (item : Item) → regions_in item ≡ None → colours_in item ≡ None → objects_in item ≡ None
      → commands_in item ≡ None → Bare (stage_after (Some item)) (objects before) → Names (before ++ item ∷ [])
  passed item r c o k bare =
      carried _ _ _ _ _ _ _ _ (stage_after (Some item)) _ (same_regions item r) (same_colours item c)
      (same_objects item o) (same_commands item k) (stage_more item)
      (record { kinds = named.kinds; uses = named.uses; bare = bare })

  more_regions : (names : List (List ℕ)) → may_come before (codes "regions") ≡ true
      → Names (before ++ items.Regions names ∷ [])
  more_regions names ok =
      let bare : objects before ≡ [] = bare_at stages.Version (at_regions (version_of before) (stage_of before) ok) in
      let item = items.Regions names in
      carried (length (region_names (before ++ item ∷ []))) _ _ _ _ _ _ _ stages.Regions _ refl
      (same_colours item refl) (same_objects item refl) (same_commands item refl) (stage_more item)
      (record {
        kinds = none_all (λ (o : Object). IsKindWithin (length (region_names (before ++ item ∷ []))) colours o.kind)
            (objects before) bare;
        uses = named.uses;
        bare = bare;
      })

  more_colours : (names : List (List ℕ)) → may_come before (codes "colours") ≡ true
      → Names (before ++ items.Colours names ∷ [])
  more_colours names ok =
      let bare : objects before ≡ [] = bare_at stages.Regions (at_colours (version_of before) (stage_of before) ok) in
      let item = items.Colours names in
      carried _ _ (length (colour_names (before ++ item ∷ []))) _ _ _ _ _ stages.Colours _ (same_regions item refl)
      refl (same_objects item refl) (same_commands item refl) (stage_more item)
      (record {
        kinds = none_all (λ (o : Object). IsKindWithin regions (length (colour_names (before ++ item ∷ []))) o.kind)
            (objects before) bare;
        uses = named.uses;
        bare = bare;
      })

  more_object : (object : Object) (args : List (List ℕ)) → commands before ≡ []
      → SpellsKind before args object.kind → Names (before ++ items.Declared object ∷ [])
  more_object object args none spells =
      let item = items.Declared object in
      let few = colours_most before fit in
      carried _ _ _ _ (objects before ++ object ∷ []) _ _ _ stages.Objects _ (same_regions item refl)
      (same_colours item refl) (sym (filter_map-said objects_in before item object refl)) (same_commands item refl)
      (stage_more item)
      (record {
        kinds = one-more (λ (o : Object). IsKindWithin regions colours o.kind) (objects before) object named.kinds
            (subst (λ (k : Kind). IsKindWithin regions colours k) (sym spells.same)
            (kind_is before few args (sort_of object.kind) spells.given spells.spelled));
        uses = none_all (λ (c : Command). UsesObject (objects before ++ object ∷ []) c.what) (commands before) none;
        bare = tt;
      })

  more_command : (command : Command) (args : List (List ℕ)) → SpellsWhat before command.client args command.what
      → Names (before ++ items.Asks command ∷ [])
  more_command command args spells =
      let item = items.Asks command in
      carried _ _ _ _ _ _ (commands before ++ command ∷ []) _ stages.Commands _ (same_regions item refl)
      (same_colours item refl) (same_objects item refl)
      (sym (filter_map-said commands_in before item command refl)) (stage_more item)
      (record {
        kinds = named.kinds;
        uses = one-more (λ (c : Command). UsesObject (objects before) c.what) (commands before) command named.uses
            (subst (λ (w : What). UsesObject (objects before) w) (sym spells.same)
            (uses_of before args (word_of command.what) spells.given spells.spelled));
        bare = tt;
      })

  -- no command is there where objects are
  none_asked : (word : List ℕ) → may_begin (version_of before) stages.Nothing word ≡ false
      → may_begin (version_of before) stages.Version word ≡ false → may_begin (version_of before) stages.Regions word ≡ false
      → may_begin (version_of before) stages.Colours word ≡ false → may_begin (version_of before) stages.Rows word ≡ false
      → may_come before word ≡ true → commands before ≡ []
  unfolding Fit
  none_asked word n0 n1 n2 n3 n4 ok =
      (at_end (version_of before) word n0 n1 n2 n3 n4 (stage_of before) regions colours (client_homes before) (commands before) ok
      fit.early).3

  by_kind : (kind : Kind) → may_come before (sort_text (sort_of kind)) ≡ true → commands before ≡ []
  by_kind (kinds.Map _ _) come = none_asked (codes "map") refl refl refl refl refl come
  by_kind kind come = none_asked (sort_text (sort_of kind)) refl refl refl refl refl come

  pub more_named : (number : ℕ) (fields : List (List ℕ)) (item : Item) → Says before number fields item
      → may_follow before item ≡ true → Names (before ++ item ∷ [])
  more_named number fields (items.Version version) says ok =
      passed (items.Version version) refl refl refl refl
      (bare_at stages.Nothing (at_fuzzylog (version_of before) (stage_of before) (and-left _ _ ok)))
  more_named number fields (items.Regions names) says ok = more_regions names (and-left _ _ (and-left _ _ ok))
  more_named number fields (items.Colours names) says ok = more_colours names (and-left _ _ (and-left _ _ ok))
  more_named number fields (items.Rows rows) says ok =
      passed (items.Rows rows) refl refl refl refl
      (bare_at stages.Colours (at_rows (version_of before) (stage_of before) (and-left _ _ ok)))
  more_named number fields (items.Client name home) says ok =
      passed (items.Client name home) refl refl refl refl
      (bare_client (version_of before) (stage_of before) (objects before)
      (and-left _ _ (and-left _ _ (and-left _ _ ok))) named.bare)
  more_named number fields (items.Declared object) says ok =
      more_object object says.0 (by_kind object.kind (and-left _ _ (and-left _ _ ok))) says.1
  more_named number fields items.Begin says ok = passed items.Begin refl refl refl refl tt
  more_named number fields (items.Asks command) says ok = more_command command says.1 says.2
