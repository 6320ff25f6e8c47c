-- Where a command of a fitting script appends on colours, it asks for a node of these.
use Rattle.std.proofs.Common.{◌≡◌, refl, ap, sym, subst, true, ℕ, ◌≤◌, List, [], ◌∷◌, ◌++◌, length, map, Option, Some, None, arith}
use Rattle.std.specs.Option.{option_map}
use Rattle.std.proofs.lemmas.List.Elements.{All-contains}
use Rattle.log_node.specs.declared.forms.Version.{Version}
use Rattle.log_node.specs.declared.ids.Colours.{Colours}
use Rattle.log_node.specs.declared.limits.TheConstants.{MAX_COLOURS}
use Rattle.log_node.specs.Sets.{members, set_of}
use Rattle.log_node.proofs.CallerLemmas.{members-one}
use Rattle.object_fold.specs.Nodes.{shard_of}
use Rattle.tree_fold.specs.declared.change.Change.{Change}
use Rattle.tree_fold.specs.Changes.{change_keys}
use Rattle.tree_fold.specs.Readings.{below_root_of, make_of, remove_of, move_of}
use Rattle.col_core.specs.Keeping.{Kept}
use Rattle.col_core.proofs.CallerLemmas.{contains_in, slice_in}
use Rattle.script_text.specs.declared.commands.What.{What}
use Rattle.script_text.specs.declared.commands.What.TheVariants as whats
use Rattle.script_text.specs.declared.script.Kind.{Kind}
use Rattle.script_text.specs.declared.script.Kind.TheVariants as kinds
use Rattle.script_text.specs.declared.script.Object.{Object}
use Rattle.script_text.specs.declared.script.Script.{Script}
use Rattle.script_text.specs.Commands.{use_of}
use Rattle.script_text.specs.Fitting.{HasObject, IsFitting, IsKindWithin, IsWithin, UsesObject, is_queue}
use Rattle.script_text.proofs.CallerLemmas.{colours_few}
use Rattle.lawful_run.specs.Callers.{Caller, caller_of}
use Rattle.lawful_run.specs.Asks.{kind_asked, kind_of_object, keys_of_pairs, object_colours}
use Rattle.lawful_run.specs.Deeds.{AsksToAppend, IsText, Reaches, ShardsOf, Saying, SaysNode, TextSaid, Exactly, ADecision, found_by, saying_of, says_change}
use Rattle.run_rules.specs.Told.{colours_asked, colours_said}
use Rattle.run_rules.specs.Nodes.{any_decision, text_told}
use Rattle.walk_law.proofs.Shards.{shards_of_keys}

-- some set is of a reach that is said
abbrev IsReached : List ℕ → Option Saying → Type 0
IsReached own None = Unit {0}
IsReached own (Some saying) = (colours : Colours) × Reaches own saying.reach colours

shards_reached : (own : List ℕ) (keys : List (List ℕ)) → (colours : Colours) × Reaches own (ShardsOf keys) colours
shards_reached own keys = (set_of (map (λ (k : List ℕ). shard_of own k) keys), shards_of_keys own keys)

change_reached : (own : List ℕ) (change : Option Change) → IsReached own (says_change change)
change_reached own None = tt
change_reached own (Some change) = shards_reached own (change_keys change)

queue_again : (regions count : ℕ) → count ≤ MAX_COLOURS → (kind : Kind) → IsKindWithin regions count kind
    → is_queue kind ≡ true → members (set_of (object_colours (Some kind))) ≡ object_colours (Some kind)
queue_again regions count few (kinds.Queue home colour) w q = members-one colour (let lt = w.1 in omega (arith, lt, few))
queue_again regions count few _ w q = absurd (let f : ⊥ = cc in f)

text_said : (said : TextSaid) → IsText said (text_told any_decision said)
text_said (Exactly text) = refl
text_said ADecision = (any_decision, refl)

module _ (script : Script) (fits : IsFitting script) (n : ℕ) where
  abbrev who : Caller
  who = caller_of script n

  few : script.shape.colours ≤ MAX_COLOURS
  few = colours_few script.version script.shape fits.shape

  queue_own : (object : ℕ) → HasObject script.objects object is_queue
      → members (set_of (object_colours (kind_of_object who object))) ≡ object_colours (kind_of_object who object)
  queue_own object has =
      subst (λ (l : List ℕ). members (set_of l) ≡ l)
      (ap (λ (o : Option Object). object_colours (option_map (λ (x : Object). x.kind) o)) (sym has.there))
      (queue_again script.shape.regions script.shape.colours few has.found.kind
      (All-contains (λ (o : Object). IsKindWithin script.shape.regions script.shape.colours o.kind) script.objects has.found
      fits.objects (contains_in script.objects has.found (slice_in script.objects object has.found has.there))) has.kind)

  asked_reached : (found : Option (List Version)) (what : What) → IsWithin script.shape.regions script.shape.colours what
      → UsesObject script.objects what
      → IsReached (object_colours (kind_asked who what)) (saying_of (kind_asked who what) found what)
  asked_reached found (whats.Append colours text) w u = (colours, refl)
  asked_reached found (whats.Stop steps colours text) w u = (colours, refl)
  asked_reached found (whats.Put object key value) w u = shards_reached (object_colours (kind_of_object who object)) (key ∷ [])
  asked_reached found (whats.Del object key) w u = shards_reached (object_colours (kind_of_object who object)) (key ∷ [])
  asked_reached found (whats.PutAll object pairs) w u =
      shards_reached (object_colours (kind_of_object who object)) (keys_of_pairs pairs)
  asked_reached None (whats.Commit object pairs) w u = tt
  asked_reached (Some versions) (whats.Commit object pairs) w u =
      shards_reached (object_colours (kind_of_object who object))
      (map (λ (v : Version). v.key) versions ++ keys_of_pairs pairs)
  asked_reached found (whats.Enq object value) w u =
      (set_of (object_colours (kind_of_object who object)), queue_own object u.0)
  asked_reached found (whats.Deq object) w u =
      (set_of (object_colours (kind_of_object who object)), queue_own object u.0)
  asked_reached found (whats.Only colour text) w u =
      (set_of (colour ∷ []), members-one colour (let f = few in omega (arith, w, f)))
  asked_reached found (whats.Mk object path value) w u =
      change_reached (object_colours (kind_of_object who object)) (make_of (below_root_of path) value)
  asked_reached found (whats.Rm object path) w u =
      change_reached (object_colours (kind_of_object who object)) (remove_of (below_root_of path))
  asked_reached found (whats.Mv object source target) w u =
      change_reached (object_colours (kind_of_object who object)) (move_of (below_root_of source) (below_root_of target))
  asked_reached found (whats.Decide object key) w u =
      shards_reached (object_colours (kind_of_object who object)) (key ∷ [])
  asked_reached found _ w u = tt

  node_said : (own : List ℕ) (saying : Option Saying) → IsReached own saying → 1 ≤ length (colours_said own saying)
      → (colours : Colours) × (text : List ℕ) × SaysNode own saying colours text
  node_said own None r some = absurd (let f : ⊥ = omega (arith, some) in f)
  node_said own (Some saying) r some = (r.0, text_told any_decision saying.text, (r.1, text_said saying.text))

  -- a node of these colours
  pub node_asked : (kept : Kept) (what : What) → IsWithin script.shape.regions script.shape.colours what
      → UsesObject script.objects what → 1 ≤ length (colours_asked who kept what)
      → (colours : Colours) × (text : List ℕ) × AsksToAppend who kept what colours text
  node_asked kept what w u some =
      node_said (object_colours (kind_asked who what))
      (saying_of (kind_asked who what) (found_by (use_of what) kept) what)
      (asked_reached (found_by (use_of what) kept) what w u) some
