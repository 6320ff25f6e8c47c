-- What is read as a script has names that are told from one another.
use Rattle.std.proofs.Common.{◌≡◌, ◌≢◌, ◌∙◌, ◌⊎◌, inl, inr, refl, ap, sym, subst, Bool, true, false, not, ◌&&◌, ◌||◌, ℕ, zero, suc, ◌<◌, ◌≤◌, ◌^◌, List, [], ◌∷◌, ◌++◌, length, map, Option, Some, None, arith, append-nil, append_assoc}
use Rattle.std.specs.Prelude.{IsTrue, ◌==◌}
use Rattle.std.specs.Str.{bytes_eq}
use Rattle.std.specs.List.{cons_option, enumerate_from, filter_map}
use Rattle.std.proofs.lemmas.Bool.{and_parts, and_from, both_ways, eqb-true, or_cases, or_left, or_right}
use Rattle.std.proofs.lemmas.List.Elements.{filter_map-append}
use Rattle.std.proofs.lemmas.List.Folds.{list_any-append}
use Rattle.std.proofs.lemmas.Slice.Eq.{bytes_eq-Decides}
use Rattle.log_node.specs.declared.limits.TheConstants.{MAX_REGIONS, MAX_COLOURS, MAX_CLIENTS}
use Rattle.script_text.specs.declared.item.Item.{Item}
use Rattle.script_text.specs.declared.item.Item.TheVariants as items
use Rattle.script_text.specs.declared.script.Script.{Script}
use Rattle.script_text.specs.Grammar.{Say, are_new_names, is_region, may_follow, said_lines}
use Rattle.script_text.specs.Items.{client_names, clients_in, colour_names, colours_in, last_said, region_names, regions_in}
use Rattle.script_text.specs.Pieces.{is_among, is_name, lines_of, name_of}
use Rattle.script_text.specs.Versions.{is_version}
use Rattle.script_text.proofs.CallerLemmas.{script_fits, limits_within}
use Rattle.report_reading.specs.Apart.{AreNames}
use Rattle.name_law.specs.Laws.{ScriptsNameApart}

-- NEW NAMES

-- a name that is none of some is not the one at any place
not_among : (names : List (List ℕ)) (name : List ℕ) → is_among names name ≡ false → (n : ℕ) → n < length names
    → name_of names n ≢ name
not_among [] name none n lt e = omega (arith, lt)
not_among (first ∷ later) name none zero lt e =
    both_ways (is_among (first ∷ later) name) none
    (or_left (bytes_eq name first) (is_among later name) ((bytes_eq-Decides name first).1 (sym e)))
not_among (first ∷ later) name none (suc n) lt e =
    not_among later name (rest (bytes_eq name first) (is_among later name) none) n (omega (arith, lt)) e where
      rest : (a b : Bool) → (a || b) ≡ false → b ≡ false
      rest true b f = absurd (both_ways (true || b) f refl)
      rest false b f = f

not_so : (b : Bool) → not b ≡ true → b ≡ false
not_so true e = absurd (let f : ⊥ = cc (e) in f)
not_so false e = refl

abbrev AreNew : List (List ℕ) → List (List ℕ) → Type 0
AreNew before names = are_new_names before names ≡ true

head_new : (before : List (List ℕ)) (name : List ℕ) (names : List (List ℕ)) → AreNew before (name ∷ names)
    → (is_name name ≡ true) × (is_among before name ≡ false) × AreNew (before ++ name ∷ []) names
head_new before name names e =
    let a = and_parts (is_name name && not (is_among before name)) (are_new_names (before ++ name ∷ []) names) e in
    let b = and_parts (is_name name) (not (is_among before name)) a.0 in
    (b.0, not_so (is_among before name) b.1, a.1)

-- they are lawful, and none is one of those before them
each_lawful : (before names : List (List ℕ)) → AreNew before names → (n : ℕ) → n < length names
    → IsTrue (is_name (name_of names n))
each_lawful before [] e n lt = absurd (let f : ⊥ = omega (arith, lt) in f)
each_lawful before (name ∷ names) e zero lt = (head_new before name names e).0
each_lawful before (name ∷ names) e (suc n) lt =
    each_lawful (before ++ name ∷ []) names (head_new before name names e).2 n (omega (arith, lt))

front_apart : (before more : List (List ℕ)) (name : List ℕ) → is_among (before ++ more) name ≡ false
    → is_among before name ≡ false
front_apart before more name none =
    left_of (is_among before name) (is_among more name) (sym (list_any-append (bytes_eq name) before more) ∙ none) where
      left_of : (a b : Bool) → (a || b) ≡ false → a ≡ false
      left_of true b f = absurd (both_ways (true || b) f refl)
      left_of false b f = refl

-- a name behind others that are new is at none of their places
behind_apart : (before names : List (List ℕ)) → AreNew before names → (n : ℕ) → n < length names
    → is_among before (name_of names n) ≡ false
behind_apart before [] e n lt = absurd (let f : ⊥ = omega (arith, lt) in f)
behind_apart before (name ∷ names) e zero lt = (head_new before name names e).1
behind_apart before (name ∷ names) e (suc n) lt =
    front_apart before (name ∷ []) (name_of names n)
    (behind_apart (before ++ name ∷ []) names (head_new before name names e).2 n (omega (arith, lt)))

-- the last of some is none of the others
last_among : (before : List (List ℕ)) (name : List ℕ) → is_among (before ++ name ∷ []) name ≡ true
last_among before name =
    list_any-append (bytes_eq name) before (name ∷ [])
    ∙ or_right (is_among before name) (is_among (name ∷ []) name)
    (or_left (bytes_eq name name) false ((bytes_eq-Decides name name).1 refl))

head_apart : (before : List (List ℕ)) (name : List ℕ) (names : List (List ℕ)) → AreNew (before ++ name ∷ []) names
    → (n : ℕ) → n < length names → name ≢ name_of names n
head_apart before name names e n lt same =
    both_ways (is_among (before ++ name ∷ []) (name_of names n)) (behind_apart (before ++ name ∷ []) names e n lt)
    (subst (λ (x : List ℕ). is_among (before ++ name ∷ []) x ≡ true) same (last_among before name))

each_apart : (before names : List (List ℕ)) → AreNew before names → (m n : ℕ) → m < length names → n < length names
    → name_of names m ≡ name_of names n → m ≡ n
each_apart before [] e m n lm ln same = absurd (let f : ⊥ = omega (arith, lm) in f)
each_apart before (name ∷ names) e zero zero lm ln same = refl
each_apart before (name ∷ names) e zero (suc n) lm ln same =
    absurd (head_apart before name names (head_new before name names e).2 n (omega (arith, ln)) same)
each_apart before (name ∷ names) e (suc m) zero lm ln same =
    absurd (head_apart before name names (head_new before name names e).2 m (omega (arith, lm)) (sym same))
each_apart before (name ∷ names) e (suc m) (suc n) lm ln same =
    ap suc (each_apart (before ++ name ∷ []) names (head_new before name names e).2 m n (omega (arith, lm))
    (omega (arith, ln)) same)

-- one more new name
one_more : (before names : List (List ℕ)) (name : List ℕ) → AreNew before names → AreNew (before ++ names) (name ∷ [])
    → AreNew before (names ++ name ∷ [])
one_more before [] name e new = subst (λ (l : List (List ℕ)). AreNew l (name ∷ [])) (append-nil before) new
one_more before (first ∷ later) name e new =
    let a = and_parts (is_name first && not (is_among before first)) (are_new_names (before ++ first ∷ []) later) e in
    and_from (is_name first && not (is_among before first)) (are_new_names (before ++ first ∷ []) (later ++ name ∷ [])) a.0
    (one_more (before ++ first ∷ []) later name a.1
    (subst (λ (l : List (List ℕ)). AreNew l (name ∷ [])) (sym (append_assoc before (first ∷ []) later)) new))

-- ITEM BY ITEM

record AreAllNew (regions colours clients : List (List ℕ)) : Type 0 where
  of_regions : AreNew [] regions
  of_colours : AreNew [] colours
  of_clients : AreNew [] clients

abbrev KeepsNew : List Item → Type 0
KeepsNew before = AreAllNew (region_names before) (colour_names before) (client_names before)

last_is : {A : Type 0} (d : A) (xs : List A) (x : A) → last_said d (xs ++ x ∷ []) ≡ x
last_is d [] x = refl
last_is d (y ∷ ys) x = last_is y ys x

map_more : (xs : List (List ℕ × ℕ)) (x : List ℕ × ℕ)
    → map (λ (c : List ℕ × ℕ). c.0) (xs ++ x ∷ []) ≡ map (λ (c : List ℕ × ℕ). c.0) xs ++ x.0 ∷ []
map_more [] x = refl
map_more (y ∷ ys) x = ap (λ (l : List (List ℕ)). y.0 ∷ l) (map_more ys x)

module _ (before : List Item) (keeps : KeepsNew before) where
  same_of : {B : Type 0} (h : Item → Option B) (item : Item) → h item ≡ None
      → filter_map h (before ++ item ∷ []) ≡ filter_map h before
  same_of {B} h item e = filter_map-append h before (item ∷ [])
      ∙ (ap (λ (o : Option B). filter_map h before ++ cons_option o []) e ∙ append-nil (filter_map h before))

  more_of : {B : Type 0} (h : Item → Option B) (item : Item) (b : B) → h item ≡ Some b
      → filter_map h (before ++ item ∷ []) ≡ filter_map h before ++ b ∷ []
  more_of {B} h item b e = filter_map-append h before (item ∷ [])
      ∙ ap (λ (o : Option B). filter_map h before ++ cons_option o []) e

  same_regions : (item : Item) → regions_in item ≡ None → AreNew [] (region_names (before ++ item ∷ []))
  same_regions item e =
      subst (λ (l : List (List (List ℕ))). AreNew [] (last_said [] l)) (sym (same_of regions_in item e)) keeps.of_regions

  same_colours : (item : Item) → colours_in item ≡ None → AreNew [] (colour_names (before ++ item ∷ []))
  same_colours item e =
      subst (λ (l : List (List (List ℕ))). AreNew [] (last_said [] l)) (sym (same_of colours_in item e)) keeps.of_colours

  same_clients : (item : Item) → clients_in item ≡ None → AreNew [] (client_names (before ++ item ∷ []))
  same_clients item e =
      subst (λ (l : List (List ℕ × ℕ)). AreNew [] (map (λ (c : List ℕ × ℕ). c.0) l)) (sym (same_of clients_in item e))
      keeps.of_clients

  -- an item that names none of the three
  passed : (item : Item) → regions_in item ≡ None → colours_in item ≡ None → clients_in item ≡ None
      → KeepsNew (before ++ item ∷ [])
  passed item r c k = record {
    of_regions = same_regions item r;
    of_colours = same_colours item c;
    of_clients = same_clients item k;
  }

  more : (item : Item) → may_follow before item ≡ true → KeepsNew (before ++ item ∷ [])
  more (items.Regions names) ok = record {
    of_regions = subst (AreNew []) (sym (ap (last_said []) (more_of regions_in (items.Regions names) names refl)
        ∙ last_is [] (filter_map regions_in before) names)) (and_parts _ (are_new_names [] names) ok).1;
    of_colours = same_colours (items.Regions names) refl;
    of_clients = same_clients (items.Regions names) refl;
  }
  more (items.Colours names) ok = record {
    of_regions = same_regions (items.Colours names) refl;
    of_colours = subst (AreNew []) (sym (ap (last_said []) (more_of colours_in (items.Colours names) names refl)
        ∙ last_is [] (filter_map colours_in before) names)) (and_parts _ (are_new_names [] names) ok).1;
    of_clients = same_clients (items.Colours names) refl;
  }
  more (items.Client name home) ok = record {
    of_regions = same_regions (items.Client name home) refl;
    of_colours = same_colours (items.Client name home) refl;
    of_clients = subst (AreNew [])
        (sym (ap (map (λ (c : List ℕ × ℕ). c.0)) (more_of clients_in (items.Client name home) (name, home) refl)
        ∙ map_more (filter_map clients_in before) (name, home)))
        (one_more [] (client_names before) name keeps.of_clients
        (and_parts _ (are_new_names (client_names before) (name ∷ []))
        (and_parts _ (is_region before home) ok).0).1);
  }
  more (items.Version version) ok = passed (items.Version version) refl refl refl
  more (items.Rows rows) ok = passed (items.Rows rows) refl refl refl
  more (items.Declared object) ok = passed (items.Declared object) refl refl refl
  more items.Begin ok = passed items.Begin refl refl refl
  more (items.Asks command) ok = passed (items.Asks command) refl refl refl

all_new : (before : List Item) (lines : List (ℕ × List ℕ)) (said : List Item) → KeepsNew before → Say before lines said
    → KeepsNew (before ++ said)
all_new before [] [] keeps say = subst KeepsNew (sym (append-nil before)) keeps
all_new before [] (item ∷ later) keeps say = absurd say
all_new before (line ∷ lines) [] keeps say = absurd say
all_new before (line ∷ lines) (item ∷ later) keeps say =
    subst KeepsNew (append_assoc before (item ∷ []) later)
    (all_new (before ++ item ∷ []) lines later (more before keeps item say.1) say.2)

-- SCRIPTS

names : (most : ℕ) (all : List (List ℕ)) → 0 < length all → length all ≤ most → AreNew [] all → AreNames most all
names most all some few new = record {
  some = some;
  few = few;
  lawful = each_lawful [] all new;
  apart = each_apart [] all new;
}

version_small : (version : ℕ) → is_version version ≡ true → version < 2 ^ 8
version_small version e = by (or_cases (version == 1) (version == 2) e) where
  by : ((version == 1) ≡ true) ⊎ ((version == 2) ≡ true) → version < 2 ^ 8
  by (inl t) = let s = eqb-true version 1 t in omega (arith, s)
  by (inr t) = let s = eqb-true version 2 t in omega (arith, s)

pub scripts_name_apart : ScriptsNameApart
scripts_name_apart bytes script is =
    let fits = script_fits bytes script is in
    let within = limits_within script.version in
    let start : KeepsNew [] = record { of_regions = refl; of_colours = refl; of_clients = refl } in
    let said = all_new [] (said_lines (enumerate_from 1 (lines_of bytes))) is.said start is.lines.say in
    let new : AreAllNew script.regions script.colours script.clients =
    subst (λ (s : Script). AreAllNew s.regions s.colours s.clients) (sym is.same) said in record {
      regions = names MAX_REGIONS script.regions
          (let e = fits.regions in let a = fits.shape.a_region in omega (arith, e, a))
          (let e = fits.regions in let a = fits.shape.few_regions in let w = within.regions in omega (arith, e, a, w))
          new.of_regions;
      colours = names MAX_COLOURS script.colours
          (let e = fits.colours in let a = fits.shape.a_colour in omega (arith, e, a))
          (let e = fits.colours in let a = fits.shape.few_colours in let w = within.colours in omega (arith, e, a, w))
          new.of_colours;
      clients = names MAX_CLIENTS script.clients
          (let e = fits.clients in let a = fits.shape.a_client in omega (arith, e, a))
          (let e = fits.clients in let a = fits.shape.few_clients in let w = within.clients in omega (arith, e, a, w))
          new.of_clients;
      version = version_small script.version fits.version;
    }
