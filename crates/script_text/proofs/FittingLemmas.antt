-- The numbers in a script name what there is.
use Rattle.std.proofs.Common.{◌≡◌, ℕ, zero, suc, ◌+◌, ◌*◌, ◌^◌, ◌<◌, ◌≤◌, cond, Bool, true, false, List, [], ◌∷◌, ◌++◌, length, map, Option, Some, None, refl, ap, sym, subst, ◌∙◌, arith, length-append, leb-true, ltb-true}
use Rattle.std.specs.Prelude.{IsTrue, ◌&&◌, nat_le, nat_lt, codes}
use Rattle.std.specs.List.{All, cons_option, filter, filter_map, last_or, list_all, range_with_len}
use Rattle.std.proofs.lemmas.List.{map-append, length-map}
use Rattle.std.proofs.lemmas.List.Elements.{All-nil, All-append}
use Rattle.log_node.specs.declared.ids.Colours.{Colours}
use Rattle.log_node.specs.declared.limits.TheConstants.{MAX_COLOURS}
use Rattle.log_node.specs.Sets.{has, members, set_of}
use Rattle.log_node.proofs.CallerLemmas.{has-set_of}
use Rattle.script_text.specs.declared.script.Kind.{Kind}
use Rattle.script_text.specs.declared.script.Kind.TheVariants as kinds
use Rattle.script_text.specs.declared.commands.What.{What}
use Rattle.script_text.specs.declared.commands.Word.{Word}
use Rattle.script_text.specs.declared.commands.Word.TheVariants as words
use Rattle.script_text.specs.declared.table.Field.{Field}
use Rattle.script_text.specs.declared.table.Field.TheVariants as fields
use Rattle.script_text.specs.declared.given.Given.{Given}
use Rattle.script_text.specs.Table.{row_fields, last_of, own_fields, later_fields, nothing, sort_text, sort_of}
use Rattle.script_text.specs.Commands.{what_of, word_of}
use Rattle.script_text.specs.declared.script.Command.{Command}
use Rattle.script_text.specs.declared.item.Item.{Item}
use Rattle.script_text.specs.declared.item.Item.TheVariants as items
use Rattle.script_text.specs.declared.item.Stage.{Stage}
use Rattle.script_text.specs.declared.item.Stage.TheVariants as stages
use Rattle.script_text.specs.Pieces.{is_between}
use Rattle.script_text.specs.Versions.{is_version, limits_in}
use Rattle.script_text.specs.Items.{stage_after, stage_of, may_begin, may_come, is_begun, has_begun, version_in, regions_in, colours_in, clients_in, commands_in, last_said, version_of, limits_of, region_names, colour_names, client_names, client_homes, commands}
use Rattle.script_text.specs.Grammar.{may_follow, is_colour, is_free, is_region, are_colours, are_new_numbers, ends_well, Spells, SpellAll, SpellsWhat, Says}
use Rattle.script_text.specs.Fitting.{AreBelow, HasColours, IsWithin}
use Rattle.script_text.proofs.VersionLemmas.{limits_within, nothing_before}
use Rattle.script_text.proofs.NameLemmas.{any_turned, below_all}
use Rattle.script_text.proofs.SetLaws.{many_members, bits_few}

pub and-left : (a b : Bool) → (a && b) ≡ true → a ≡ true
and-left true b e = refl
and-left false b e = e

pub and-right : (a b : Bool) → (a && b) ≡ true → b ≡ true
and-right true b e = e
and-right false b e = absurd (let f : ⊥ = cc in f)

-- SETS
pub All-cons : {A : Type 0} (P : A → Type 0) (x : A) (xs : List A) → P x → All P xs → All P (x ∷ xs)
All-cons P x xs one rest zero d lt = one
All-cons P x xs one rest (suc k) d lt = rest k d (omega arith)

filter-all : (P : ℕ → Type 0) (p : ℕ → Bool) (xs : List ℕ) → ((x : ℕ) → p x ≡ true → P x) → All P (filter p xs)
filter-all P p [] h = All-nil P
filter-all P p (x ∷ xs) h = choose (p x) refl (filter-all P p xs h) where
  choose : (b : Bool) → p x ≡ b → All P (filter p xs) → All P (cond b (x ∷ filter p xs) (filter p xs))
  choose true e rest = All-cons P x (filter p xs) (h x e) rest
  choose false e rest = rest

-- a member of the set of some colours is one of them
set-below : (count : ℕ) (order : List ℕ) → IsTrue (list_all (λ c. nat_lt c count) order) → AreBelow count (set_of order)
set-below count order all = filter-all (λ c. c < count) (has (set_of order)) (range_with_len 0 MAX_COLOURS)
    (λ c is. below_all order count c all (sym (any_turned c order) ∙ sym (has-set_of order c) ∙ is))

-- WHAT ONE MORE ITEM SAYS
pub last-more : {A : Type 0} (o : Option A) (xs : List A) (x : A) → last_or o (xs ++ x ∷ []) ≡ Some x
last-more o [] x = refl
last-more o (y ∷ ys) x = last-more (Some y) ys x

pub filter_map-more : {A B : Type 0} (h : A → Option B) (xs : List A) (x : A) → h x ≡ None → filter_map h (xs ++ x ∷ []) ≡ filter_map h xs
filter_map-more h [] x e = none (h x) e where
  none : {B : Type 0} (o : Option B) → o ≡ None → cons_option o [] ≡ []
  none None f = refl
  none (Some y) f = absurd (let g : ⊥ = cc in g)
filter_map-more h (y ∷ ys) x e = ap (cons_option (h y)) (filter_map-more h ys x e)

pub filter_map-said : {A B : Type 0} (h : A → Option B) (xs : List A) (x : A) (y : B) → h x ≡ Some y → filter_map h (xs ++ x ∷ []) ≡ filter_map h xs ++ y ∷ []
filter_map-said h [] x y e = ap (λ o. cons_option o []) e
filter_map-said {A} {B} h (z ∷ zs) x y e = ap (cons_option (h z)) (filter_map-said h zs x y e) ∙ out (h z) where
  out : (o : Option B) → cons_option o (filter_map h zs ++ y ∷ []) ≡ cons_option o (filter_map h zs) ++ y ∷ []
  out None = refl
  out (Some w) = refl

pub said-last : {X : Type 0} (d : X) (xs : List X) (x : X) → last_said d (xs ++ x ∷ []) ≡ x
said-last d [] x = refl
said-last d (y ∷ ys) x = said-last y ys x

pub one-more : {A : Type 0} (P : A → Type 0) (xs : List A) (x : A) → All P xs → P x → All P (xs ++ x ∷ [])
one-more P xs x all one = All-append P xs (x ∷ []) all (All-cons P x [] one (All-nil P))

-- what the stage tells of how much was said
unfoldable pub Early : Stage → ℕ → ℕ → List ℕ → List Command → Type 0
Early stages.Nothing regions colours homes asked = (homes ≡ []) × (asked ≡ [])
Early stages.Version regions colours homes asked = (homes ≡ []) × (asked ≡ [])
Early stages.Regions regions colours homes asked = (0 < regions) × (homes ≡ []) × (asked ≡ [])
Early stages.Colours regions colours homes asked = (0 < regions) × (0 < colours) × (homes ≡ []) × (asked ≡ [])
Early stages.Rows regions colours homes asked = (0 < regions) × (0 < colours) × (homes ≡ []) × (asked ≡ [])
Early stages.Clients regions colours homes asked = (0 < regions) × (0 < colours) × (0 < length homes) × (asked ≡ [])
Early stages.Objects regions colours homes asked = (0 < regions) × (0 < colours) × (0 < length homes) × (asked ≡ [])
Early stages.Commands regions colours homes asked = (0 < regions) × (0 < colours) × (0 < length homes)

pub record Fits (version regions colours : ℕ) (homes : List ℕ) (asked : List Command) (stage : Stage) : Type 0 where
  pub of_version : is_version version ≡ true
  pub few_regions : regions ≤ (limits_in version).regions
  pub few_colours : colours ≤ (limits_in version).colours
  pub few_clients : length homes ≤ (limits_in version).clients
  pub are_homes : All (λ home. home < regions) homes
  pub callers : All (λ (c : Command). c.client < length homes) asked
  pub within : All (λ (c : Command). IsWithin regions colours c.what) asked
  pub early : Early stage regions colours homes asked

unfoldable pub Fit : List Item → Type 0
Fit before = Fits (version_of before) (length (region_names before)) (length (colour_names before)) (client_homes before) (commands before) (stage_of before)

-- a log has the colours that are named
pub colours_most : (before : List Item) → Fit before → length (colour_names before) ≤ MAX_COLOURS
unfolding Fit
colours_most before fit =
    let few = fit.few_colours in let most = (limits_within (version_of before)).colours in omega (arith, few, most)

-- nothing is said at first
pub fit_nothing : Fit []
unfolding Fit Early
fit_nothing = record {
  of_version = refl;
  few_regions = omega arith;
  few_colours = omega arith;
  few_clients = omega arith;
  are_homes = All-nil (λ home. home < 0);
  callers = All-nil (λ (c : Command). c.client < 0);
  within = All-nil (λ (c : Command). IsWithin 0 0 c.what);
  early = (refl, refl);
}

-- nor by the version's line
fit_version : (version : ℕ) → is_version version ≡ true → Fit (items.Version version ∷ [])
unfolding Fit Early
fit_version version is = record {
  of_version = is;
  few_regions = omega arith;
  few_colours = omega arith;
  few_clients = omega arith;
  are_homes = All-nil (λ home. home < 0);
  callers = All-nil (λ (c : Command). c.client < 0);
  within = All-nil (λ (c : Command). IsWithin 0 0 c.what);
  early = (refl, refl);
}

-- where one more item changes what is said as told, the facts are of what is then said
carried : (v v' r r' c c' : ℕ) (h h' : List ℕ) (k k' : List Command) (s s' : Stage) → v ≡ v' → r ≡ r' → c ≡ c' → h ≡ h' → k ≡ k' → s ≡ s'
    → Fits v r c h k s → Fits v' r' c' h' k' s'
carried v v' r r' c c' h h' k k' s s' ev er ec eh ek es f =
    subst (λ (z : ℕ × ℕ × ℕ × List ℕ × List Command × Stage). Fits z.0 z.1 z.2 z.3 z.4 z.5) (λ i. (ev i, er i, ec i, eh i, ek i, es i)) f

module _ (before : List Item) (fit : Fits (version_of before) (length (region_names before)) (length (colour_names before)) (client_homes before) (commands before) (stage_of before)) where
  R : ℕ
  R = length (region_names before)

  C : ℕ
  C = length (colour_names before)

  stage-more : (item : Item) → stage_of (before ++ item ∷ []) ≡ stage_after (Some item)
  stage-more item = ap stage_after (last-more None before item)

  same_version : (item : Item) → version_in item ≡ None → version_of before ≡ version_of (before ++ item ∷ [])
  same_version item e = ap (λ (l : List ℕ). last_said 1 l) (sym (filter_map-more version_in before item e))

  same_regions : (item : Item) → regions_in item ≡ None → length (region_names before) ≡ length (region_names (before ++ item ∷ []))
  same_regions item e = ap (λ (l : List (List (List ℕ))). length (last_said [] l)) (sym (filter_map-more regions_in before item e))

  same_colours : (item : Item) → colours_in item ≡ None → length (colour_names before) ≡ length (colour_names (before ++ item ∷ []))
  same_colours item e = ap (λ (l : List (List (List ℕ))). length (last_said [] l)) (sym (filter_map-more colours_in before item e))

  same_homes : (item : Item) → clients_in item ≡ None → client_homes before ≡ client_homes (before ++ item ∷ [])
  same_homes item e = ap (λ (l : List (List ℕ × ℕ)). map (λ c. c.1) l) (sym (filter_map-more clients_in before item e))

  same_commands : (item : Item) → commands_in item ≡ None → commands before ≡ commands (before ++ item ∷ [])
  same_commands item e = sym (filter_map-more commands_in before item e)

  -- an item that says none of these
  passed : (item : Item) (stage : Stage) → version_in item ≡ None → regions_in item ≡ None → colours_in item ≡ None → clients_in item ≡ None → commands_in item ≡ None → stage_after (Some item) ≡ stage
      → Early stage (length (region_names before)) (length (colour_names before)) (client_homes before) (commands before) → Fit (before ++ item ∷ [])
  unfolding Fit
  passed item stage v r c h k s early = carried _ _ _ _ _ _ _ _ _ _ _ _ (same_version item v) (same_regions item r) (same_colours item c) (same_homes item h) (same_commands item k) (sym (stage-more item ∙ s))
      (record { of_version = fit.of_version; few_regions = fit.few_regions; few_colours = fit.few_colours; few_clients = fit.few_clients; are_homes = fit.are_homes; callers = fit.callers; within = fit.within; early = early })

-- which stage a word may come at
pub no : {A : Type 0} → false ≡ true → A
no e = absurd (let f : ⊥ = cc in f)

pub at_regions : (version : ℕ) (s : Stage) → may_begin version s (codes "regions") ≡ true → s ≡ stages.Version
at_regions version stages.Nothing e = no e
at_regions version stages.Version e = refl
at_regions version stages.Regions e = no e
at_regions version stages.Colours e = no e
at_regions version stages.Rows e = no e
at_regions version stages.Clients e = no e
at_regions version stages.Objects e = no e
at_regions version stages.Commands e = no e

pub at_colours : (version : ℕ) (s : Stage) → may_begin version s (codes "colours") ≡ true → s ≡ stages.Regions
at_colours version stages.Nothing e = no e
at_colours version stages.Version e = no e
at_colours version stages.Regions e = refl
at_colours version stages.Colours e = no e
at_colours version stages.Rows e = no e
at_colours version stages.Clients e = no e
at_colours version stages.Objects e = no e
at_colours version stages.Commands e = no e

pub at_rows : (version : ℕ) (s : Stage) → may_begin version s (codes "rows") ≡ true → s ≡ stages.Colours
at_rows version stages.Nothing e = no e
at_rows version stages.Version e = no e
at_rows version stages.Regions e = no e
at_rows version stages.Colours e = refl
at_rows version stages.Rows e = no e
at_rows version stages.Clients e = no e
at_rows version stages.Objects e = no e
at_rows version stages.Commands e = no e

-- what is told of where clients are named
at_client : (version : ℕ) (s : Stage) (r c : ℕ) (h : List ℕ) (k : List Command) → may_begin version s (codes "client") ≡ true → Early s r c h k → (0 < r) × (0 < c) × (k ≡ [])
unfolding Early
at_client version stages.Nothing r c h k e f = no e
at_client version stages.Version r c h k e f = no e
at_client version stages.Regions r c h k e f = no e
at_client version stages.Colours r c h k e f = (f.0, f.1, f.3)
at_client version stages.Rows r c h k e f = (f.0, f.1, f.3)
at_client version stages.Clients r c h k e f = (f.0, f.1, f.3)
at_client version stages.Objects r c h k e f = no e
at_client version stages.Commands r c h k e f = no e

-- and of where objects are, and the header ends
pub at_end : (version : ℕ) (word : List ℕ) → may_begin version stages.Nothing word ≡ false → may_begin version stages.Version word ≡ false → may_begin version stages.Regions word ≡ false → may_begin version stages.Colours word ≡ false → may_begin version stages.Rows word ≡ false
    → (s : Stage) (r c : ℕ) (h : List ℕ) (k : List Command) → may_begin version s word ≡ true → Early s r c h k → (0 < r) × (0 < c) × (0 < length h) × (k ≡ [])
unfolding Early
at_end version word n0 n1 n2 n3 n4 stages.Nothing r c h k e f = no (sym n0 ∙ e)
at_end version word n0 n1 n2 n3 n4 stages.Version r c h k e f = no (sym n1 ∙ e)
at_end version word n0 n1 n2 n3 n4 stages.Regions r c h k e f = no (sym n2 ∙ e)
at_end version word n0 n1 n2 n3 n4 stages.Colours r c h k e f = no (sym n3 ∙ e)
at_end version word n0 n1 n2 n3 n4 stages.Rows r c h k e f = no (sym n4 ∙ e)
at_end version word n0 n1 n2 n3 n4 stages.Clients r c h k e f = f
at_end version word n0 n1 n2 n3 n4 stages.Objects r c h k e f = f
at_end version word n0 n1 n2 n3 n4 stages.Commands r c h k e f = no e

pub at_commands : (s : Stage) (r c : ℕ) (h : List ℕ) (k : List Command) → is_begun s ≡ true → Early s r c h k → (0 < r) × (0 < c) × (0 < length h)
unfolding Early
at_commands stages.Nothing r c h k e f = no e
at_commands stages.Version r c h k e f = no e
at_commands stages.Regions r c h k e f = no e
at_commands stages.Colours r c h k e f = no e
at_commands stages.Rows r c h k e f = no e
at_commands stages.Clients r c h k e f = no e
at_commands stages.Objects r c h k e f = no e
at_commands stages.Commands r c h k e f = f

-- WHAT A COMMAND NAMES
-- a set of so many colours at least, all of them below a number
record AreGiven (below count : ℕ) (set : Colours) : Type 0 where
  low : AreBelow below set
  many : count ≤ length (members set)
  bits : set.0 < 2 ^ MAX_COLOURS

-- what is given names what there is
record IsGivenWithin (regions colours : ℕ) (given : Given) : Type 0 where
  set : AreGiven colours given.count given.colours
  colour : given.colour < colours
  region : given.region < regions

-- the colours that a line names, each once
are_given : (before : List Item) (order : List ℕ) → length (colour_names before) ≤ MAX_COLOURS → IsTrue (are_colours before order)
    → AreGiven (length (colour_names before)) (length order) (set_of order)
are_given before order few lawful =
    let all = and-right (nat_le 1 (length order) && are_new_numbers [] order) (list_all (is_colour before) order) lawful in
    let first = and-left (nat_le 1 (length order) && are_new_numbers [] order) (list_all (is_colour before) order) lawful in
    record {
      low = set-below (length (colour_names before)) order all;
      many = many_members order (length (colour_names before)) few
          (and-right (nat_le 1 (length order)) (are_new_numbers [] order) first) all;
      bits = bits_few order (length (colour_names before)) few all;
    }

-- a line that names colours names one at least
some_given : (before : List Item) (own : List (List ℕ)) (given next : Given) → Spells before fields.Cols own given next → 1 ≤ next.count
some_given before own given next s =
    let o = s.2 in
    let first = and-left (nat_le 1 (length o.order) && are_new_numbers [] o.order) (list_all (is_colour before) o.order) o.lawful in
    subst (λ (g : Given). 1 ≤ g.count) (sym o.next_is)
    (leb-true 1 (length o.order) (and-left (nat_le 1 (length o.order)) (are_new_numbers [] o.order) first))

kind_within : (before : List Item) → length (colour_names before) ≤ MAX_COLOURS → (field : Field) (own : List (List ℕ)) (given next : Given) → Spells before field own given next
    → IsGivenWithin (length (region_names before)) (length (colour_names before)) given → IsGivenWithin (length (region_names before)) (length (colour_names before)) next
kind_within before few fields.Steps own given next s w = rw s.3 (record { set = w.set; colour = w.colour; region = w.region })
kind_within before few fields.Cols own given next s w =
    let o = s.2 in
    rw o.next_is (record { set = are_given before o.order few o.lawful; colour = w.colour; region = w.region })
kind_within before few fields.Colour own given next s w = rw s.3 (record { set = w.set; colour = ltb-true _ _ s.2; region = w.region })
kind_within before few fields.Region own given next s w = rw s.3 (record { set = w.set; colour = w.colour; region = ltb-true _ _ s.2 })
kind_within before few fields.Text own given next s w = rw s.3 (record { set = w.set; colour = w.colour; region = w.region })
kind_within before few (fields.Object of) own given next s w = rw s.3 (record { set = w.set; colour = w.colour; region = w.region })
kind_within before few fields.Key own given next s w = rw s.3 (record { set = w.set; colour = w.colour; region = w.region })
kind_within before few fields.Value own given next s w = rw s.3 (record { set = w.set; colour = w.colour; region = w.region })
kind_within before few (fields.Path root) own given next s w = rw s.3 (record { set = w.set; colour = w.colour; region = w.region })
kind_within before few fields.Target own given next s w = rw s.3 (record { set = w.set; colour = w.colour; region = w.region })
kind_within before few (fields.Keys most) own given next s w = rw s.1 (record { set = w.set; colour = w.colour; region = w.region })
kind_within before few (fields.Pairs most) own given next s w = rw s.2 (record { set = w.set; colour = w.colour; region = w.region })
kind_within before few fields.ObjectColour own given next s w =
    rw s.3 (record { set = w.set; colour = ltb-true _ _ (and-left (is_colour before s.0) (is_free before false s.0) s.2); region = w.region })
kind_within before few (fields.ObjectColours most alone) own given next s w = rw s.4 (record { set = w.set; colour = w.colour; region = w.region })

all_within : (before : List Item) → length (colour_names before) ≤ MAX_COLOURS → (row : List Field) (args : List (List ℕ)) (given last : Given) → SpellAll before row args given last
    → IsGivenWithin (length (region_names before)) (length (colour_names before)) given → IsGivenWithin (length (region_names before)) (length (colour_names before)) last
all_within before few [] args given last s w = rw s.1 w
all_within before few (field ∷ row) args given last s w =
    all_within before few row (later_fields field args) s.0 last s.2 (kind_within before few field (own_fields field args) given s.0 s.1 w)

-- what is given has as many colours as are counted
has_given : (least regions colours : ℕ) (given : Given) → least ≤ given.count → IsGivenWithin regions colours given → HasColours least given.colours
has_given least regions colours given le w = let many = w.set.many in record { many = omega (arith, le, many); bits = w.set.bits }

what_within : (before : List Item) (client : ℕ) (word : Word) (args : List (List ℕ)) (given : Given) → SpellAll before (row_fields word) args nothing given
    → IsTrue (ends_well before client (last_of word) given) → IsGivenWithin (length (region_names before)) (length (colour_names before)) given
    → IsWithin (length (region_names before)) (length (colour_names before)) (what_of word given)
what_within before client words.Append args given s e w =
    let same : given.count ≡ s.0.count = ap (λ (g : Given). g.count) (s.2.2.1 ∙ s.2.1.3) in
    let some = some_given before (own_fields fields.Cols args) nothing s.0 s.1 in
    (has_given 1 (length (region_names before)) (length (colour_names before)) given (omega (arith, same, some)) w, w.set.low)
what_within before client words.Stop args given s e w =
    let two = leb-true 2 given.count (and-left (nat_le 2 given.count) (nat_le given.number (2 * given.count + 2)) e) in
    let steps = leb-true given.number (2 * given.count + 2) (and-right (nat_le 2 given.count) (nat_le given.number (2 * given.count + 2)) e) in
    let many = w.set.many in
    (has_given 2 (length (region_names before)) (length (colour_names before)) given two w, w.set.low, omega (arith, steps, many))
what_within before client words.Sync args given s e w = w.colour
what_within before client words.Scan args given s e w =
    let same : given.count ≡ s.0.count = ap (λ (g : Given). g.count) s.2.1 in
    let some = some_given before (own_fields fields.Cols args) nothing s.0 s.1 in
    (has_given 1 (length (region_names before)) (length (colour_names before)) given (omega (arith, same, some)) w, w.set.low)
what_within before client words.Pull args given s e w = (w.region, w.colour)
what_within before client words.Trim args given s e w = w.colour
what_within before client words.Only args given s e w = w.colour
what_within before client _ args given s e w = tt

is_within : (before : List Item) (client : ℕ) (args : List (List ℕ)) (what : What) → 0 < length (region_names before) → 0 < length (colour_names before) → length (colour_names before) ≤ MAX_COLOURS
    → SpellsWhat before client args what → IsWithin (length (region_names before)) (length (colour_names before)) what
is_within before client args what r c few s =
    subst (λ (w : What). IsWithin (length (region_names before)) (length (colour_names before)) w) (sym s.same)
    (what_within before client (word_of what) args s.given s.spelled s.ends
    (all_within before few (row_fields (word_of what)) args nothing s.given s.spelled (record { set = none_given; colour = c; region = r }))) where
      none_given : AreGiven (length (colour_names before)) 0 (set_of [])
      none_given = record { low = set-below (length (colour_names before)) [] refl; many = omega arith; bits = omega arith }

-- ONE MORE ITEM
module _ (before : List Item) (fit : Fits (version_of before) (length (region_names before)) (length (colour_names before)) (client_homes before) (commands before) (stage_of before)) where
  abbrev regions : ℕ
  regions = length (region_names before)

  abbrev colours : ℕ
  colours = length (colour_names before)

  abbrev homes : List ℕ
  homes = client_homes before

  abbrev asked : List Command
  asked = commands before

  -- what is told at a stage that is known
  at_stage : (s : Stage) → stage_of before ≡ s → Early s regions colours homes asked
  at_stage s e = subst (λ (t : Stage). Early t regions colours homes asked) e fit.early

  more_version : (version : ℕ) → may_come before (codes "fuzzylog") ≡ true → is_version version ≡ true → Fit (before ++ items.Version version ∷ [])
  more_version version ok is = subst (λ (b : List Item). Fit (b ++ items.Version version ∷ [])) (sym (nothing_before before ok)) (fit_version version is)

  more_rows : (number : ℕ) → may_come before (codes "rows") ≡ true → Fit (before ++ items.Rows number ∷ [])
  unfolding Early
  more_rows number ok = passed before fit (items.Rows number) stages.Rows refl refl refl refl refl refl (at_stage stages.Colours (at_rows (version_of before) (stage_of before) ok))

  more_begin : may_come before (codes "begin") ≡ true → Fit (before ++ items.Begin ∷ [])
  unfolding Early
  more_begin ok = let t = at_end (version_of before) (codes "begin") refl refl refl refl refl (stage_of before) regions colours homes asked ok fit.early in
      passed before fit items.Begin stages.Commands refl refl refl refl refl refl (t.0, t.1, t.2)

  more_object : (object : Rattle.script_text.specs.declared.script.Object.Object) → ((0 < regions) × (0 < colours) × (0 < length homes) × (asked ≡ [])) → Fit (before ++ items.Declared object ∷ [])
  unfolding Early
  more_object object t = passed before fit (items.Declared object) stages.Objects refl refl refl refl refl refl t

  none_all : {A : Type 0} (P : A → Type 0) (xs : List A) → xs ≡ [] → All P xs
  none_all P xs e = subst (λ l. All P l) (sym e) (All-nil P)

  more_regions : (names : List (List ℕ)) → may_come before (codes "regions") ≡ true → is_between 1 (limits_of before).regions (length names) ≡ true → Fit (before ++ items.Regions names ∷ [])
  unfolding Fit Early
  more_regions names ok few =
      let early = at_stage stages.Version (at_regions (version_of before) (stage_of before) ok) in
      let low : 1 ≤ length names = leb-true _ _ (and-left _ _ few) in
      let high : length names ≤ (limits_of before).regions = leb-true _ _ (and-right _ _ few) in
      carried _ _ (length names) _ _ _ _ _ _ _ stages.Regions _ (same_version before fit (items.Regions names) refl)
      (ap length (sym (ap (last_said []) (filter_map-said regions_in before (items.Regions names) names refl) ∙ said-last [] (filter_map regions_in before) names)))
      (same_colours before fit (items.Regions names) refl) (same_homes before fit (items.Regions names) refl) (same_commands before fit (items.Regions names) refl) (sym (stage-more before fit (items.Regions names)))
      (record {
        of_version = fit.of_version;
        few_regions = high;
        few_colours = fit.few_colours;
        few_clients = fit.few_clients;
        are_homes = none_all (λ home. home < length names) homes early.0;
        callers = fit.callers;
        within = none_all (λ (c : Command). IsWithin (length names) colours c.what) asked early.1;
        early = (low, early.0, early.1);
      })

  more_colours : (names : List (List ℕ)) → may_come before (codes "colours") ≡ true → is_between 1 (limits_of before).colours (length names) ≡ true → Fit (before ++ items.Colours names ∷ [])
  unfolding Fit Early
  more_colours names ok few =
      let early = at_stage stages.Regions (at_colours (version_of before) (stage_of before) ok) in
      let low : 1 ≤ length names = leb-true _ _ (and-left _ _ few) in
      let high : length names ≤ (limits_of before).colours = leb-true _ _ (and-right _ _ few) in
      carried _ _ _ _ (length names) _ _ _ _ _ stages.Colours _ (same_version before fit (items.Colours names) refl) (same_regions before fit (items.Colours names) refl)
      (ap length (sym (ap (last_said []) (filter_map-said colours_in before (items.Colours names) names refl) ∙ said-last [] (filter_map colours_in before) names)))
      (same_homes before fit (items.Colours names) refl) (same_commands before fit (items.Colours names) refl) (sym (stage-more before fit (items.Colours names)))
      (record {
        of_version = fit.of_version;
        few_regions = fit.few_regions;
        few_colours = high;
        few_clients = fit.few_clients;
        are_homes = fit.are_homes;
        callers = fit.callers;
        within = none_all (λ (c : Command). IsWithin regions (length names) c.what) asked early.2;
        early = (early.0, low, early.1, early.2);
      })

  as_many : length (client_names before) ≡ length homes
  as_many = length-map (filter_map clients_in before) (λ (c : List ℕ × ℕ). c.0) ∙ sym (length-map (filter_map clients_in before) (λ (c : List ℕ × ℕ). c.1))

  more_client : (name : List ℕ) (home : ℕ) → may_come before (codes "client") ≡ true → nat_lt (length (client_names before)) (limits_of before).clients ≡ true → is_region before home ≡ true → Fit (before ++ items.Client name home ∷ [])
  unfolding Fit Early
  more_client name home ok few its_home =
      let early = at_client (version_of before) (stage_of before) regions colours homes asked ok fit.early in
      let room = ltb-true _ _ few in
      let many = length-append homes (home ∷ []) in
      let e = as_many in
      carried _ _ _ _ _ _ (homes ++ home ∷ []) _ _ _ stages.Clients _ (same_version before fit (items.Client name home) refl) (same_regions before fit (items.Client name home) refl) (same_colours before fit (items.Client name home) refl)
      (sym (ap (λ (l : List (List ℕ × ℕ)). map (λ c. c.1) l) (filter_map-said clients_in before (items.Client name home) (name, home) refl) ∙ map-append (λ (c : List ℕ × ℕ). c.1) (filter_map clients_in before) ((name, home) ∷ [])))
      (same_commands before fit (items.Client name home) refl) (sym (stage-more before fit (items.Client name home)))
      (record {
        of_version = fit.of_version;
        few_regions = fit.few_regions;
        few_colours = fit.few_colours;
        few_clients = omega arith;
        are_homes = one-more (λ home. home < regions) homes home fit.are_homes (ltb-true _ _ its_home);
        callers = none_all (λ (c : Command). c.client < length (homes ++ home ∷ [])) asked early.2;
        within = fit.within;
        early = (early.0, early.1, omega arith, early.2);
      })

  more_command : (command : Command) (args : List (List ℕ)) → has_begun before ≡ true → nat_lt command.client (length (client_names before)) ≡ true → SpellsWhat before command.client args command.what
      → Fit (before ++ items.Asks command ∷ [])
  unfolding Fit Early
  more_command command args begun caller spelled =
      let early = at_commands (stage_of before) regions colours homes asked begun fit.early in
      let its = ltb-true _ _ caller in
      let e = as_many in
      let few : colours ≤ MAX_COLOURS = colours_most before fit in
      carried _ _ _ _ _ _ _ _ (asked ++ command ∷ []) _ stages.Commands _ (same_version before fit (items.Asks command) refl) (same_regions before fit (items.Asks command) refl) (same_colours before fit (items.Asks command) refl) (same_homes before fit (items.Asks command) refl)
      (sym (filter_map-said commands_in before (items.Asks command) command refl)) (sym (stage-more before fit (items.Asks command)))
      (record {
        of_version = fit.of_version;
        few_regions = fit.few_regions;
        few_colours = fit.few_colours;
        few_clients = fit.few_clients;
        are_homes = fit.are_homes;
        callers = one-more (λ (c : Command). c.client < length homes) asked command fit.callers (omega arith);
        within = one-more (λ (c : Command). IsWithin regions colours c.what) asked command fit.within (is_within before command.client args command.what early.0 early.1 few spelled);
        early = early;
      })

  pub more_item : (number : ℕ) (fields : List (List ℕ)) (item : Item) → Says before number fields item → may_follow before item ≡ true → Fit (before ++ item ∷ [])
  more_item number fields (items.Version version) says ok = more_version version (and-left _ _ ok) (and-right _ _ ok)
  more_item number fields (items.Regions names) says ok = more_regions names (and-left _ _ (and-left _ _ ok)) (and-right _ _ (and-left _ _ ok))
  more_item number fields (items.Colours names) says ok = more_colours names (and-left _ _ (and-left _ _ ok)) (and-right _ _ (and-left _ _ ok))
  more_item number fields (items.Rows rows) says ok = more_rows rows (and-left _ _ ok)
  more_item number fields (items.Client name home) says ok = let abc = and-left _ _ ok in let ab = and-left _ _ abc in more_client name home (and-left _ _ ab) (and-right _ _ ab) (and-right _ _ ok)
  more_item number fields (items.Declared object) says ok = more_object object (by_kind object.kind (and-left _ _ (and-left _ _ ok))) where
    by_kind : (kind : Kind) → may_come before (sort_text (sort_of kind)) ≡ true → (0 < regions) × (0 < colours) × (0 < length homes) × (asked ≡ [])
    by_kind (kinds.Map _ _) come = at_end (version_of before) (codes "map") refl refl refl refl refl (stage_of before) regions colours homes asked come fit.early
    by_kind kind come = at_end (version_of before) (sort_text (sort_of kind)) refl refl refl refl refl (stage_of before) regions colours homes asked come fit.early
  more_item number fields items.Begin says ok = more_begin ok
  more_item number fields (items.Asks command) says ok =
      let ab = and-left _ _ ok in more_command command says.1 (and-left _ _ ab) (and-right _ _ ab) says.2
