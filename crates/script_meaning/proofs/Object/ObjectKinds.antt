-- The objects of a script: their colours, and their homes.
use Rattle.std.proofs.Common.{◌≡◌, ◌≢◌, inl, ℕ, zero, suc, ◌<◌, ◌≤◌, Bool, true, false, List, [], ◌∷◌, length, Option, Some, None, refl, ap, sym, subst, ◌∙◌, arith, eq-eqb}
use Rattle.std.specs.Prelude.{◌==◌, slice_get}
use Rattle.std.specs.List.{All}
use Rattle.std.specs.Option.{option_map}
use Rattle.std.proofs.lemmas.Bool.{eqb-true, leb-true}
use Rattle.log_node.specs.Sets.{members, set_of}
use Rattle.log_node.specs.declared.limits.TheConstants.{MAX_COLOURS}
use Rattle.log_node.proofs.CallerLemmas.{members-one}
use Rattle.col_core.proofs.CallerLemmas.{both, by_test, if_true, if_false, In}
use Rattle.world_laws.specs.Worlds.{World, home_of}
use Rattle.script_text.specs.declared.script.Kind.{Kind}
use Rattle.script_text.specs.declared.script.Kind.TheVariants as kinds
use Rattle.script_text.specs.declared.script.Object.{Object}
use Rattle.script_text.specs.declared.commands.What.{What}
use Rattle.script_text.specs.Apart.{is_parts}
use Rattle.script_text.specs.Fitting.{AreObjectColours, IsKindWithin, is_tx, is_queue, is_any_map, HasObject}
use Rattle.script_text.specs.Grammar.{are_keys}
use Rattle.report_text.specs.declared.report.Answer.TheVariants as answers
use Rattle.lawful_run.specs.Callers.{Caller}
use Rattle.lawful_run.specs.Asks.{object_colours, object_home, home_asked}
use Rattle.lawful_run.specs.Refusals.{IsAway}
use Rattle.lawful_run.proofs.CallerLemmas.{get_within}
use Rattle.script_meaning.specs.Objects.{other_home}
use Rattle.script_meaning.proofs.Client.Kept.{caller_in, Does}
use Rattle.script_meaning.proofs.World.Playing.{at_or}
use Rattle.script_meaning.proofs.Client.Refusing.{same_world}

pub some_of : {A : Type 0} (xs : List A) → 1 ≤ length xs → (x : A) × In x xs
some_of [] lt = absurd (let f : ⊥ = omega (arith, lt) in f)
some_of (x ∷ xs) lt = (x, inl refl)

-- keys that a command names are one at least
pub a_key : (most : ℕ) (keys : List (List ℕ)) → are_keys most keys ≡ true → (key : List ℕ) × In key keys
a_key most keys e = some_of keys (leb-true _ _ (both _ _ (both _ _ e).0).0)

-- Colours

one_colour : (count c : ℕ) → c < count → AreObjectColours count (c ∷ [])
one_colour count c lt = record { some = omega arith; few = omega arith; below = one } where
  one : All (λ d. d < count) (c ∷ [])
  one zero d low = lt
  one (suc k) d low = absurd (let f : ⊥ = omega (arith, low) in f)

-- those of an object of a kind
pub kind_colours : (regions count : ℕ) (kind : Kind) → IsKindWithin regions count kind
    → AreObjectColours count (object_colours (Some kind))
kind_colours regions count (kinds.Causal colour) w = one_colour count colour w
kind_colours regions count (kinds.Queue home colour) w = one_colour count colour w.1
kind_colours regions count _ w = w.1

queue_set : (regions count : ℕ) → count ≤ MAX_COLOURS → (kind : Kind) → IsKindWithin regions count kind → is_queue kind ≡ true
    → members (set_of (object_colours (Some kind))) ≡ object_colours (Some kind)
queue_set regions count few (kinds.Queue home colour) w q = members-one colour (let lt = w.1 in omega (arith, lt, few))
queue_set regions count few _ w q = absurd (let f : ⊥ = cc in f)

module _ (objects : List Object) (regions count : ℕ)
    (all : All (λ (o : Object). IsKindWithin regions count o.kind) objects) (object : ℕ) (test : Kind → Bool)
    (has : HasObject objects object test) where
  abbrev colours : List ℕ
  colours = object_colours (option_map (λ (o : Object). o.kind) (slice_get objects object))

  within : IsKindWithin regions count has.found.kind
  within = subst (λ (o : Object). IsKindWithin regions count o.kind) (at_or objects object has.found has.found has.there)
      (all object has.found (get_within objects object has.found has.there))

  colours_are : object_colours (Some has.found.kind) ≡ colours
  colours_are = ap (λ (o : Option Object). object_colours (option_map (λ (x : Object). x.kind) o)) (sym has.there)

  pub object_has : AreObjectColours count colours
  object_has = subst (AreObjectColours count) colours_are (kind_colours regions count has.found.kind within)

  pub queue_one : count ≤ MAX_COLOURS → ((kind : Kind) → test kind ≡ true → is_queue kind ≡ true)
      → members (set_of colours) ≡ colours
  queue_one few is =
      subst (λ (l : List ℕ). members (set_of l) ≡ l) colours_are
      (queue_set regions count few has.found.kind within (is has.found.kind has.kind))

queue_of : (regions count : ℕ) (kind : Kind) → IsKindWithin regions count kind → is_queue kind ≡ true
    → (c : ℕ) × (object_colours (Some kind) ≡ c ∷ []) × (c < count)
queue_of regions count (kinds.Queue home colour) w q = (colour, refl, w.1)
queue_of regions count _ w q = absurd (let f : ⊥ = cc in f)

-- the one colour of a queue
pub queue_colour : (objects : List Object) (regions count : ℕ)
    → All (λ (o : Object). IsKindWithin regions count o.kind) objects → (object : ℕ) → HasObject objects object is_queue
    → (c : ℕ) × (object_colours (option_map (λ (o : Object). o.kind) (slice_get objects object)) ≡ c ∷ []) × (c < count)
queue_colour objects regions count all object has =
    let q = queue_of regions count has.found.kind (within objects regions count all object is_queue has) has.kind in
    (q.0, sym (colours_are objects regions count all object is_queue has) ∙ q.1, q.2)

-- the home and the colours of a map that is played by its parts
pub parts_of : (kind : Kind) → is_parts kind ≡ true
    → (home : ℕ) × (colours : List ℕ) × (kind ≡ kinds.Parts home colours)
parts_of (kinds.Parts home colours) t = (home, colours, refl)
parts_of _ t = absurd (let f : ⊥ = cc in f)

-- Homes

-- a transactional map has a home
pub tx_home : (kind : Kind) → is_tx kind ≡ true → (home : ℕ) × (object_home (Some kind) ≡ Some home)
tx_home (kinds.Tx home colours) t = (home, refl)
tx_home (kinds.Parts home colours) t = (home, refl)
tx_home _ t = absurd (let f : ⊥ = cc in f)

none_some : {A : Type 0} (x : A) → Some x ≡ None → ⊥
none_some x e = let f : ⊥ = cc in f

pub not_away : (caller : Caller) (home : Option ℕ) → other_home caller.own home ≡ None → IsAway caller home → ⊥
not_away caller None is away = away
not_away caller (Some home) is away =
    by_test ⊥ (home == caller.own) (λ t. away (sym (eqb-true home caller.own t)))
    (λ f. none_some home (sym (if_false (home == caller.own) None (Some home) f) ∙ is))

pub is_away : (caller : Caller) (asked : Option ℕ) (home : ℕ) → other_home caller.own asked ≡ Some home
    → (asked ≡ Some home) × (caller.own ≢ home)
is_away caller None home is = absurd (let f : ⊥ = cc in f)
is_away caller (Some other) home is =
    by_test _ (other == caller.own)
    (λ t. absurd (none_some home (sym is ∙ if_true (other == caller.own) None (Some other) t)))
    (λ f. let same : Some other ≡ Some home = sym (if_false (other == caller.own) None (Some other) f) ∙ is in
    (same, λ e. let x : other ≡ home = cc in apart_from (other == caller.own) (eq-eqb other caller.own (x ∙ sym e)) f))
  where
    apart_from : (b : Bool) → b ≡ true → b ≡ false → ⊥
    apart_from b t f = let z : true ≡ false = sym t ∙ f in let g : ⊥ = cc in g

-- away from its object's home, a command changes nothing
pub did_stay_away : (objects : List Object) (u : ℕ) (what : What) (w : World) (home : ℕ)
    → home_asked (caller_in w objects u) what ≡ Some home → home_of w u ≢ home
    → Does objects u what w w (answers.NotHome home) []
did_stay_away objects u what w home asked away =
    same_world objects u what w (answers.NotHome home) (λ kept k. (refl, refl, asked, away))

-- the one colour of a causal map
pub causal_colour : (objects : List Object) (regions count : ℕ)
    → All (λ (o : Object). IsKindWithin regions count o.kind) objects → (object : ℕ)
    → HasObject objects object is_any_map → (colour : ℕ)
    → option_map (λ (o : Object). o.kind) (slice_get objects object) ≡ Some (kinds.Causal colour) → colour < count
causal_colour objects regions count all object has colour is =
    let kind : has.found.kind ≡ kinds.Causal colour =
    same_some (sym (ap (λ (o : Option Object). option_map (λ (x : Object). x.kind) o) has.there) ∙ is) in
    subst (IsKindWithin regions count) kind (within objects regions count all object is_any_map has) where
      same_some : {a b : Kind} → Some a ≡ Some b → a ≡ b
      same_some e = cc
