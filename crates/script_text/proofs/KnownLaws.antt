-- What is known of the lines is what they say, line after line, and names stay distinct and few.
use Rattle.std.proofs.Common.{◌≡◌, ℕ, ◌<◌, ◌≤◌, Bool, true, false, ◌&&◌, not, inl, inr, lit≤, subst, codes, ltb, leb, eqb, List, [], ◌∷◌, ◌++◌, length, map, Option, Some, refl, sym, append_assoc, arith}
use Rattle.std.specs.List.{list_any, filter_map, last_or}
use Rattle.std.proofs.lemmas.Bool.{cases_Bool, and_parts, ltb-true, leb-true}
use Rattle.std.proofs.lemmas.List.{append-nil, map-append, length-append}
use Rattle.std.proofs.lemmas.List.Elements.{filter_map-append}
use Rattle.script_text.specs.declared.script.Command.{Command}
use Rattle.script_text.specs.declared.script.Object.{Object}
use Rattle.script_text.specs.declared.item.Item.{Item}
use Rattle.script_text.specs.declared.item.Item.TheVariants as items
use Rattle.script_text.specs.declared.known.Known.{Known}
use Rattle.script_text.specs.Pieces.{is_name, is_among, is_between}
use Rattle.script_text.specs.Versions.{is_version, limits_in}
use Rattle.script_text.specs.Items.{last_said, is_stop, may_come, version_of, limits_of, client_names, objects, object_names}
use Rattle.script_text.specs.Grammar.{are_new_names, may_follow, is_region}
use Rattle.script_text.specs.Table.{sort_text, sort_of}
use Rattle.script_text.specs.Known.{known_of, known_after, with_item, stops_in, stopped_in, IsSmall}
use Rattle.script_text.proofs.VersionLemmas.{version_some, limits_within, nothing_before}
use Rattle.script_text.proofs.ReadLaws.{held_push}

last_or-push : {A : Type 0} (o : Option A) (xs : List A) (x : A) → last_or o (xs ++ x ∷ []) ≡ Some x
last_or-push o [] x = refl
last_or-push o (y ∷ ys) x = last_or-push (Some y) ys x

last_said-push : {A : Type 0} (d : A) (xs : List A) (x : A) → last_said d (xs ++ x ∷ []) ≡ x
last_said-push d [] x = refl
last_said-push d (y ∷ ys) x = last_said-push y ys x

stopped_push : (command : Command) → filter_map stopped_in (command ∷ []) ≡ stops_in (items.Asks command)
stopped_push command = elim (cases_Bool (is_stop command.what)) [ inl e ↦ rw e refl | inr e ↦ rw e refl ]

pub known_push : (before : List Item) (item : Item) → known_of (before ++ item ∷ []) ≡ known_after (known_of before) item
known_push before (items.Version version) = simp (filter_map-append, append-nil, last_or-push, last_said-push)
known_push before (items.Regions names) = simp (filter_map-append, append-nil, last_or-push, last_said-push)
known_push before (items.Colours names) = simp (filter_map-append, append-nil, last_or-push, last_said-push)
known_push before (items.Rows number) = simp (filter_map-append, append-nil, last_or-push, last_said-push)
known_push before (items.Client name home) = simp (filter_map-append, append-nil, last_or-push, map-append)
known_push before (items.Declared object) = simp (filter_map-append, append-nil, last_or-push)
known_push before items.Begin = simp (filter_map-append, append-nil, last_or-push)
known_push before (items.Asks command) = simp (filter_map-append, append-nil, last_or-push, stopped_push command, held_push)

pub stopped_among : (said : List Command) (client : ℕ) → list_any (λ c. eqb c client) (filter_map stopped_in said) ≡ list_any (λ (c : Command). eqb c.client client && is_stop c.what) said
stopped_among [] client = refl
stopped_among (c ∷ said) client =
    elim (cases_Bool (is_stop c.what)) [
      | inl e ↦ rw (e, stopped_among said client, and_true (eqb c.client client)) refl
      | inr e ↦ rw (e, stopped_among said client, and_false (eqb c.client client)) refl
    ] where
      and_true : (b : Bool) → (b && true) ≡ b
      and_true true = refl
      and_true false = refl

      and_false : (b : Bool) → (b && false) ≡ false
      and_false true = refl
      and_false false = refl

-- ---- names stay distinct and few, and colours as few as the version allows

pub record IsLawful (known : Known) : Type 0 where
  pub regions : are_new_names [] known.script.regions ≡ true
  pub colours : are_new_names [] known.script.colours ≡ true
  pub clients : are_new_names [] known.script.clients ≡ true
  pub objects : are_new_names [] (map (λ (o : Object). o.name) known.script.objects) ≡ true
  pub small : IsSmall known
  pub few : length known.script.colours ≤ (limits_in known.script.version).colours

new_push : (earlier names : List (List ℕ)) (name : List ℕ) → are_new_names earlier names ≡ true → are_new_names (earlier ++ names) (name ∷ []) ≡ true → are_new_names earlier (names ++ name ∷ []) ≡ true
new_push earlier [] name all one = rw append-nil at one
new_push earlier (first ∷ names) name all one =
    let p = and_parts (is_name first && not (is_among earlier first)) (are_new_names (earlier ++ first ∷ []) names) all in
    let later = new_push (earlier ++ first ∷ []) names name p.1 (subst (λ xs. are_new_names xs (name ∷ []) ≡ true) (sym (append_assoc earlier (first ∷ []) names)) one) in
    rw (p.0, later) refl

client_lawful : (known : Known) (name : List ℕ) (home : ℕ) → IsLawful known → length known.script.clients < (limits_in known.script.version).clients → are_new_names known.script.clients (name ∷ []) ≡ true → IsLawful (known_after known (items.Client name home))
client_lawful known name home l few fresh = record {
  regions = l.regions;
  colours = l.colours;
  clients = new_push [] known.script.clients name l.clients fresh;
  objects = l.objects;
  small = record { version = l.small.version; regions = l.small.regions; colours = l.small.colours; clients = omega (arith, length-append known.script.clients (name ∷ []), few, (limits_within known.script.version).clients); objects = l.small.objects };
  few = l.few;
}

object_lawful : (known : Known) (object : Object) → IsLawful known → length known.script.objects < (limits_in known.script.version).objects → are_new_names (map (λ (o : Object). o.name) known.script.objects) (object.name ∷ []) ≡ true → IsLawful (known_after known (items.Declared object))
object_lawful known object l few fresh = record {
  regions = l.regions;
  colours = l.colours;
  clients = l.clients;
  objects = rw map-append (new_push [] (map (λ (o : Object). o.name) known.script.objects) object.name l.objects fresh);
  small = record { version = l.small.version; regions = l.small.regions; colours = l.small.colours; clients = l.small.clients; objects = omega (arith, length-append known.script.objects (object ∷ []), few, (limits_within known.script.version).objects) };
  few = l.few;
}

as_before : (known : Known) (item : Item) → IsLawful known → with_item known.script item ≡ known.script → IsLawful (known_after known item)
as_before known item l same = record {
  regions = rw same l.regions;
  colours = rw same l.colours;
  clients = rw same l.clients;
  objects = rw same l.objects;
  small = record { version = rw same l.small.version; regions = rw same l.small.regions; colours = rw same l.small.colours; clients = rw same l.small.clients; objects = rw same l.small.objects };
  few = rw same l.few;
}

-- what is known after the version's line
lawful_version : (version : ℕ) → is_version version ≡ true → IsLawful (known_after (known_of []) (items.Version version))
lawful_version version is = record {
  regions = refl;
  colours = refl;
  clients = refl;
  objects = refl;
  small = record { version = version_some version is; regions = lit≤ tt; colours = lit≤ tt; clients = lit≤ tt; objects = lit≤ tt };
  few = omega arith;
}

pub lawful_after : (before : List Item) (item : Item) → IsLawful (known_of before) → may_follow before item ≡ true → IsLawful (known_after (known_of before) item)
lawful_after before (items.Version version) l h =
    let come = and_parts (may_come before (codes "fuzzylog")) (is_version version) h in
    subst (λ (b : List Item). IsLawful (known_after (known_of b) (items.Version version))) (sym (nothing_before before come.0)) (lawful_version version come.1)
lawful_after before (items.Regions names) l h =
    let a = and_parts (may_come before (codes "regions") && is_between 1 (limits_of before).regions (length names)) (are_new_names [] names) h in
    let b = and_parts (may_come before (codes "regions")) (is_between 1 (limits_of before).regions (length names)) a.0 in
    let few = leb-true (length names) (limits_of before).regions (and_parts (leb 1 (length names)) (leb (length names) (limits_of before).regions) b.1).1 in
    record {
      regions = a.1;
      colours = l.colours;
      clients = l.clients;
      objects = l.objects;
      small = record { version = l.small.version; regions = omega (arith, few, (limits_within (version_of before)).regions); colours = l.small.colours; clients = l.small.clients; objects = l.small.objects };
      few = l.few;
    }
lawful_after before (items.Colours names) l h =
    let a = and_parts (may_come before (codes "colours") && is_between 1 (limits_of before).colours (length names)) (are_new_names [] names) h in
    let b = and_parts (may_come before (codes "colours")) (is_between 1 (limits_of before).colours (length names)) a.0 in
    let few = leb-true (length names) (limits_of before).colours (and_parts (leb 1 (length names)) (leb (length names) (limits_of before).colours) b.1).1 in
    record {
      regions = l.regions;
      colours = a.1;
      clients = l.clients;
      objects = l.objects;
      small = record { version = l.small.version; regions = l.small.regions; colours = omega (arith, few, (limits_within (version_of before)).colours); clients = l.small.clients; objects = l.small.objects };
      few = few;
    }
lawful_after before (items.Rows number) l h = record {
  regions = l.regions;
  colours = l.colours;
  clients = l.clients;
  objects = l.objects;
  small = record { version = l.small.version; regions = l.small.regions; colours = l.small.colours; clients = l.small.clients; objects = l.small.objects };
  few = l.few;
}
lawful_after before (items.Client name home) l h =
    let a = and_parts (may_come before (codes "client") && ltb (length (client_names before)) (limits_of before).clients && are_new_names (client_names before) (name ∷ [])) (is_region before home) h in
    let b = and_parts (may_come before (codes "client") && ltb (length (client_names before)) (limits_of before).clients) (are_new_names (client_names before) (name ∷ [])) a.0 in
    let few = ltb-true (length (client_names before)) (limits_of before).clients (and_parts (may_come before (codes "client")) (ltb (length (client_names before)) (limits_of before).clients) b.0).1 in
    client_lawful (known_of before) name home l few b.1
lawful_after before (items.Declared object) l h =
    let come = may_come before (sort_text (sort_of object.kind)) in
    let few = ltb (length (objects before)) (limits_of before).objects in
    let a = and_parts (come && few) (are_new_names (object_names before) (object.name ∷ [])) h in
    object_lawful (known_of before) object l (ltb-true (length (objects before)) (limits_of before).objects (and_parts come few a.0).1) a.1
lawful_after before items.Begin l h = as_before (known_of before) items.Begin l refl
lawful_after before (items.Asks command) l h = record {
  regions = l.regions;
  colours = l.colours;
  clients = l.clients;
  objects = l.objects;
  small = record { version = l.small.version; regions = l.small.regions; colours = l.small.colours; clients = l.small.clients; objects = l.small.objects };
  few = l.few;
}

pub lawful_start : IsLawful (known_of [])
lawful_start = record {
  regions = refl;
  colours = refl;
  clients = refl;
  objects = refl;
  small = record { version = lit≤ tt; regions = lit≤ tt; colours = lit≤ tt; clients = lit≤ tt; objects = lit≤ tt };
  few = lit≤ tt;
}

pub lawful_push : (before : List Item) (item : Item) → IsLawful (known_of before) → may_follow before item ≡ true → IsLawful (known_of (before ++ item ∷ []))
lawful_push before item l h = subst IsLawful (sym (known_push before item)) (lawful_after before item l h)
