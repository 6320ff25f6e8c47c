-- What commands of objects append, by the calls that do it.
use Rattle.std.proofs.Common.{◌≡◌, inl, inr, ℕ, zero, suc, ◌<◌, ◌≤◌, Bool, true, List, [], ◌∷◌, length, map, take, ◌++◌, ◌+◌, Option, Some, Result, get_or, refl, ap, sym, subst, ◌∙◌, arith, append_assoc, append-nil}
use Rattle.std.specs.Prelude.{IfOk}
use Rattle.std.specs.List.{All}
use Rattle.std.specs.Option.{option_map}
use Rattle.std.specs.declared.alloc.AllocError.{AllocError}
use Rattle.std.proofs.lemmas.List.{map-append, take_more, take_all}
use Rattle.log_node.specs.declared.ids.Colours.{Colours}
use Rattle.log_node.specs.declared.forms.Pair.{Pair}
use Rattle.log_node.specs.declared.forms.Version.{Version}
use Rattle.log_node.specs.declared.forms.Form.{Form}
use Rattle.log_node.specs.declared.limits.TheConstants.{MAX_COLOURS}
use Rattle.log_node.specs.Sets.{members, set_of, with_colour}
use Rattle.log_node.proofs.CallerLemmas.{set_of-more}
use Rattle.object_form.specs.Forms.{IsForm, form_text}
use Rattle.object_fold.specs.Nodes.{shard_of}
use Rattle.col_core.proofs.CallerLemmas.{In}
use Rattle.world_laws.specs.Worlds.{World}
use Rattle.script_text.specs.declared.script.Kind.{Kind}
use Rattle.script_text.specs.declared.script.Kind.TheVariants as kinds
use Rattle.script_text.specs.declared.script.Object.{Object}
use Rattle.script_text.specs.declared.script.Command.{Command}
use Rattle.script_text.specs.Pieces.{is_key}
use Rattle.script_text.specs.Fitting.{AreBelow, HasColours, AreObjectColours, IsKindWithin, is_any_map, is_queue, HasObject}
use Rattle.report_text.specs.declared.report.Answer.{Answer}
use Rattle.lawful_run.specs.Asks.{object_colours, keys_of_pairs, put_form}
use Rattle.script_meaning.specs.States.{kind_in}
use Rattle.script_meaning.specs.Appends.{appended}
use Rattle.script_meaning.specs.Objects.{shard_set}
use Rattle.script_meaning.specs.Transactions.{version_keys}
use Rattle.lawful_run.proofs.CallerLemmas.{key_is_word}
use Rattle.script_meaning.proofs.CallerLemmas.{at_or, keys_set, object_has, queue_one, set_has, shard_members, shards_below, shards_has}
use Rattle.script_in_order.specs.Doing.{DoneBy}

-- the object that stands at a place is the one that a command uses
pub kind_is : {test : Kind → Bool} (objects : List Object) (object : ℕ) (other : Object)
    → HasObject objects object test → Some (get_or objects object other).kind ≡ kind_in objects object
kind_is objects object other has =
    ap (λ (o : Object). Some o.kind) (at_or objects object has.found other has.there)
    ∙ ap (λ (o : Option Object). option_map (λ (x : Object). x.kind) o) (sym has.there)

-- an object that a command uses is of such a kind
pub has_kind : {test : Kind → Bool} (objects : List Object) (object : ℕ) (other : Object)
    → HasObject objects object test → test (get_or objects object other).kind ≡ true
has_kind {test} objects object other has =
    ap (λ (o : Object). test o.kind) (at_or objects object has.found other has.there) ∙ has.kind

-- no map is of another kind than these
pub map_kinds : (kind : Kind) → is_any_map kind ≡ true
    → ((home : ℕ) (colours : List ℕ) → kind ≡ kinds.Map home colours → ⊥)
    → ((colour : ℕ) → kind ≡ kinds.Causal colour → ⊥) → ⊥
map_kinds (kinds.Map home colours) is p q = p home colours refl
map_kinds (kinds.Causal colour) is p q = q colour refl
map_kinds _ is p q = let f : ⊥ = cc in f

pub put_is_form : (kind : Kind) (key value : List ℕ) → is_key key ≡ true → is_key value ≡ true
    → IsForm (put_form (Some kind) key value)
put_is_form (kinds.Map home colours) key value k v = (key_is_word key k, key_is_word value v)
put_is_form _ key value k v = (key_is_word key k, key_is_word value v)

in_at : (xs : List ℕ) (k d : ℕ) → k < length xs → In (get_or xs k d) xs
in_at [] k d lt = absurd (let f : ⊥ = omega (arith, lt) in f)
in_at (x ∷ xs) zero d lt = inl refl
in_at (x ∷ xs) (suc k) d lt = inr (in_at xs k d (omega (arith, lt)))

pub each_below : (count : ℕ) (set : Colours) → ((c : ℕ) → In c (members set) → c < count) → AreBelow count set
each_below count set low k d lt = low (get_or (members set) k d) (in_at (members set) k d lt)

-- the set of the shards of keys, of an object of a script
module _ (regions count : ℕ) (few : count ≤ MAX_COLOURS) (objects : List Object)
    (all : All (λ (o : Object). IsKindWithin regions count o.kind) objects) (object : ℕ) (test : Kind → Bool)
    (has : HasObject objects object test) (kind : Kind) (is : Some kind ≡ kind_in objects object) where
  own : AreObjectColours count (object_colours (Some kind))
  own = subst (λ (k : Option Kind). AreObjectColours count (object_colours k)) (sym is)
      (object_has objects regions count all object test has)

  pub small : AreObjectColours MAX_COLOURS (object_colours (Some kind))
  small = record { some = own.some; few = own.few; below = λ k d lt. let x = own.below k d lt in omega (arith, x, few) }

  pub has_some : (keys : List (List ℕ)) (key : List ℕ) → In key keys
      → HasColours 1 (shard_set (object_colours (Some kind)) keys)
  has_some keys key i = shards_has count few (object_colours (Some kind)) own.some own.below keys key i

  pub are_low : (keys : List (List ℕ)) → AreBelow count (shard_set (object_colours (Some kind)) keys)
  are_low keys = each_below count (shard_set (object_colours (Some kind)) keys) (λ c i.
      shards_below count few (object_colours (Some kind)) own.some own.below keys c
      (subst (λ (l : List ℕ). In c l) (shard_members (object_colours (Some kind)) keys) i))

-- an append of a form's text does what the command does
pub form_done : (command : Command) (w new : World) (r : Result Answer AllocError) (set wanted : Colours)
    (form asked : Form) → set ≡ wanted → form ≡ asked
    → IfOk r (λ answer. DoneBy (λ grants state. appended grants state command set (form_text form) (members set))
    command w new answer [])
    → IfOk r (λ answer. DoneBy (λ grants state. appended grants state command wanted (form_text asked) (members wanted))
    command w new answer [])
form_done command w new r set wanted form asked is same d =
    subst (λ (f : Form). IfOk r (λ answer. DoneBy
    (λ grants state. appended grants state command wanted (form_text f) (members wanted)) command w new answer [])) same
    (subst (λ (s : Colours). IfOk r (λ answer. DoneBy
    (λ grants state. appended grants state command s (form_text form) (members s)) command w new answer [])) is d)

-- Sets made key by key

-- a set with the shard of one key more
pub key_more : (colours : List ℕ) (before : List (List ℕ)) (key : List ℕ) (old new : Colours) (c : ℕ)
    → c ≡ shard_of colours key → new ≡ with_colour old c → old ≡ set_of (map (shard_of colours) before)
    → new ≡ set_of (map (shard_of colours) (before ++ key ∷ []))
key_more colours before key old new c is made was =
    made
    ∙ (ap (λ (s : Colours). with_colour s c) was
    ∙ (set_of-more (map (shard_of colours) before) c
    ∙ ap set_of (ap (λ (x : ℕ). map (shard_of colours) before ++ x ∷ []) is
    ∙ sym (map-append (shard_of colours) before (key ∷ [])))))

-- of listed keys
pub more_keys : (colours : List ℕ) (keys : List (List ℕ)) (i : ℕ) (key : List ℕ) (old new : Colours) (c : ℕ)
    → i < length keys → c ≡ shard_of colours (get_or keys i key) → new ≡ with_colour old c
    → old ≡ set_of (map (shard_of colours) (take i keys)) → new ≡ set_of (map (shard_of colours) (take (i + 1) keys))
more_keys colours keys i key old new c lt is made was =
    key_more colours (take i keys) (get_or keys i key) old new c is made was
    ∙ ap (λ (ks : List (List ℕ)). set_of (map (shard_of colours) ks)) (sym (take_more keys i key lt))

pub all_keys : (colours : List ℕ) → AreObjectColours MAX_COLOURS colours → (keys : List (List ℕ)) (set : Colours) (i : ℕ)
    → length keys ≤ i → set ≡ set_of (map (shard_of colours) (take i keys)) → set ≡ shard_set colours keys
all_keys colours are keys set i whole e =
    e ∙ (ap (λ (l : List (List ℕ)). set_of (map (shard_of colours) l)) (take_all i keys whole)
    ∙ keys_set colours are keys)

-- of the keys of listed versions
pub more_versions : (colours : List ℕ) (versions : List Version) (i : ℕ) (version : Version) (old new : Colours) (c : ℕ)
    → i < length versions → c ≡ shard_of colours (get_or versions i version).key → new ≡ with_colour old c
    → old ≡ set_of (map (shard_of colours) (version_keys (take i versions)))
    → new ≡ set_of (map (shard_of colours) (version_keys (take (i + 1) versions)))
more_versions colours versions i version old new c lt is made was =
    key_more colours (version_keys (take i versions)) (get_or versions i version).key old new c is made was
    ∙ ap (λ (ks : List (List ℕ)). set_of (map (shard_of colours) ks))
    (sym (map-append (λ (v : Version). v.key) (take i versions) (get_or versions i version ∷ []))
    ∙ ap version_keys (sym (take_more versions i version lt)))

pub all_versions : (colours : List ℕ) (versions : List Version) (i : ℕ) (set : Colours) → length versions ≤ i
    → set ≡ set_of (map (shard_of colours) (version_keys (take i versions)))
    → set ≡ set_of (map (shard_of colours) (version_keys versions ++ []))
all_versions colours versions i set whole e =
    e ∙ ap (λ (ks : List (List ℕ)). set_of (map (shard_of colours) ks))
    (ap version_keys (take_all i versions whole) ∙ sym (append-nil (version_keys versions)))

-- of the keys of listed pairs, behind others
pub more_pairs : (colours : List ℕ) (before : List (List ℕ)) (pairs : List Pair) (i : ℕ) (pair : Pair) (old new : Colours)
    (c : ℕ) → i < length pairs → c ≡ shard_of colours (get_or pairs i pair).key → new ≡ with_colour old c
    → old ≡ set_of (map (shard_of colours) (before ++ keys_of_pairs (take i pairs)))
    → new ≡ set_of (map (shard_of colours) (before ++ keys_of_pairs (take (i + 1) pairs)))
more_pairs colours before pairs i pair old new c lt is made was =
    key_more colours (before ++ keys_of_pairs (take i pairs)) (get_or pairs i pair).key old new c is made was
    ∙ ap (λ (ks : List (List ℕ)). set_of (map (shard_of colours) ks))
    (append_assoc before (keys_of_pairs (take i pairs)) ((get_or pairs i pair).key ∷ [])
    ∙ ap (λ (ks : List (List ℕ)). before ++ ks)
    (sym (map-append (λ (p : Pair). p.key) (take i pairs) (get_or pairs i pair ∷ []))
    ∙ ap keys_of_pairs (sym (take_more pairs i pair lt))))

pub all_pairs : (colours : List ℕ) → AreObjectColours MAX_COLOURS colours → (before : List (List ℕ)) (pairs : List Pair)
    (set : Colours) (i : ℕ) → length pairs ≤ i
    → set ≡ set_of (map (shard_of colours) (before ++ keys_of_pairs (take i pairs)))
    → set ≡ shard_set colours (before ++ keys_of_pairs pairs)
all_pairs colours are before pairs set i whole e =
    e ∙ (ap (λ (ps : List Pair). set_of (map (shard_of colours) (before ++ keys_of_pairs ps))) (take_all i pairs whole)
    ∙ keys_set colours are (before ++ keys_of_pairs pairs))

-- the set of the colour of a queue
pub queue_shard : (kind : Kind) → is_queue kind ≡ true → (c : ℕ) → c ≡ shard_of (object_colours (Some kind)) []
    → set_of (c ∷ []) ≡ set_of (object_colours (Some kind))
queue_shard (kinds.Queue home colour) q c is = ap (λ (x : ℕ). set_of (x ∷ [])) is
queue_shard _ q c is = absurd (let f : ⊥ = cc in f)

-- a queue's set of colours
module _ (regions count : ℕ) (few : count ≤ MAX_COLOURS) (objects : List Object)
    (all : All (λ (o : Object). IsKindWithin regions count o.kind) objects) (object : ℕ)
    (has : HasObject objects object is_queue) where
  of_queue : members (set_of (object_colours (kind_in objects object))) ≡ object_colours (kind_in objects object)
  of_queue = queue_one objects regions count all object is_queue has few (λ kind t. t)

  low : (c : ℕ) → In c (object_colours (kind_in objects object)) → c < count
  low c i = at_in (object_colours (kind_in objects object))
      (object_has objects regions count all object is_queue has).below i where
        at_in : (xs : List ℕ) → All (λ d. d < count) xs → In c xs → c < count
        at_in [] all i = absurd i
        at_in (x ∷ xs) all (inl e) = subst (λ (d : ℕ). d < count) e (all 0 0 (omega arith))
        at_in (x ∷ xs) all (inr i) = at_in xs (λ k d lt. all (suc k) d (omega (arith, lt))) i

  pub queue_low : AreBelow count (set_of (object_colours (kind_in objects object)))
  queue_low = each_below count (set_of (object_colours (kind_in objects object)))
      (λ c i. low c (subst (λ (l : List ℕ). In c l) of_queue i))

  pub queue_some : HasColours 1 (set_of (object_colours (kind_in objects object)))
  queue_some = set_has (object_colours (kind_in objects object))
      (λ c i. let lt = low c i in omega (arith, lt, few))
      (subst (λ (l : List ℕ). 1 ≤ length l) (sym of_queue)
      (object_has objects regions count all object is_queue has).some)
