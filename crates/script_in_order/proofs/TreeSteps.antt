-- Changes of trees, and lists of the names in a path, by what their calls did.
use Rattle.std.proofs.Common.{◌≡◌, ◌∙◌, ℕ, ◌≤◌, Bool, true, false, List, [], length, map, get_or, Option, Some, None, Result, Ok, Err, refl, ap, sym, subst, arith}
use Rattle.std.specs.Prelude.{IfOk, IfSome, ◌||◌}
use Rattle.std.specs.List.{All}
use Rattle.std.specs.Option.{option_map}
use Rattle.std.specs.declared.alloc.AllocError.{AllocError}
use Rattle.log_node.specs.declared.ids.Colours.{Colours}
use Rattle.log_node.specs.declared.limits.TheConstants.{MAX_COLOURS}
use Rattle.log_node.specs.Sets.{members}
use Rattle.tree_fold.specs.declared.change.Change.{Change}
use Rattle.tree_fold.specs.declared.told.Told.TheVariants.{Done}
use Rattle.tree_fold.specs.Changes.{IsChange, change_text, change_keys}
use Rattle.tree_fold.specs.Paths.{Path}
use Rattle.tree_fold.specs.Readings.{path_of}
use Rattle.tree_fold.specs.Trees.{tree_after, telling}
use Rattle.tree_fold.proofs.CallerLemmas.{some_keys}
use Rattle.world_laws.specs.Worlds.{World}
use Rattle.script_text.specs.declared.script.Kind.{Kind}
use Rattle.script_text.specs.declared.script.Kind.TheVariants as kinds
use Rattle.script_text.specs.declared.script.Object.{Object}
use Rattle.script_text.specs.declared.script.Command.{Command}
use Rattle.script_text.specs.Fitting.{AreBelow, HasColours, IsKindWithin, HasObject, is_tx, is_tree}
use Rattle.report_text.specs.declared.report.Answer.{Answer}
use Rattle.report_text.specs.declared.report.Answer.TheVariants as answers
use Rattle.report_text.specs.declared.report.RaisePiece.{RaisePiece}
use Rattle.report_text.specs.declared.report.SyncPiece.{SyncPiece}
use Rattle.lawful_run.specs.Asks.{object_colours}
use Rattle.script_meaning.specs.States.{all_granted, kind_in}
use Rattle.script_meaning.specs.Objects.{shard_set}
use Rattle.script_meaning.specs.Telling.{appended_and_told}
use Rattle.script_meaning.specs.Dequeues.{object_node_at}
use Rattle.script_meaning.specs.Stamped.{keys_read}
use Rattle.script_meaning.specs.Trees.{change_answer, changed, changed_so, names_in, names_answer}
use Rattle.script_meaning.proofs.CallerLemmas.{some_of}
use Rattle.script_in_order.specs.Doing.{DoneBy}
use Rattle.script_in_order.specs.Folds.{IsTreeAt}
use Rattle.script_in_order.specs.Telling.{AppendsAndTells, rising_colours, tells_by}
use Rattle.script_in_order.proofs.ObjectSteps.{kind_is, has_kind, has_some, are_low}
use Rattle.script_in_order.proofs.StampedWholes.{Answering}

-- such an object is told what becomes of nodes
or_right : (a b : Bool) → b ≡ true → (a || b) ≡ true
or_right true b t = refl
or_right false b t = t

pub tree_is : (objects : List Object) (object : ℕ) (other : Object) → HasObject objects object is_tree
    → (is_tx (get_or objects object other).kind || is_tree (get_or objects object other).kind) ≡ true
tree_is objects object other has = or_right (is_tx (get_or objects object other).kind) _ (has_kind objects object other has)

its_kinds : (kind : Kind) → is_tree kind ≡ true → (home : ℕ) × (colours : List ℕ) × (kind ≡ kinds.Tree home colours)
its_kinds (kinds.Tree home of) is = (home, of, refl)
its_kinds _ is = absurd (let f : ⊥ = cc in f)

pub tree_at : (objects : List Object) (object : ℕ) → HasObject objects object is_tree → IsTreeAt objects object
tree_at objects object has =
    let kind = its_kinds has.found.kind has.kind in (
      kind.0,
      kind.1,
      ap (option_map (λ (o : Object). o.kind)) has.there ∙ ap (λ (k : Kind). Some k) kind.2,
    )

-- the set of the shards of a change's keys
abbrev pub change_set : List Object → ℕ → Change → Colours
change_set objects object change = shard_set (object_colours (kind_in objects object)) (change_keys change)

module _ (objects : List Object) (object : ℕ) (change : Change) (other : Object) (has : HasObject objects object is_tree)
    (set : Colours) (keys listed : List (List ℕ))
    (made : set ≡ shard_set (object_colours (Some (get_or objects object other).kind)) listed) (same : listed ≡ keys)
    (its : keys ≡ change_keys change) where
  abbrev its_kind : Kind
  its_kind = (get_or objects object other).kind

  as_kind : set ≡ shard_set (object_colours (Some its_kind)) (change_keys change)
  as_kind = made ∙ ap (shard_set (object_colours (Some its_kind))) (same ∙ its)

  pub set_made : set ≡ change_set objects object change
  set_made = as_kind ∙ ap (λ (k : Option Kind). shard_set (object_colours k) (change_keys change)) (kind_is objects object other has)

  module _ (regions count : ℕ) (few : count ≤ MAX_COLOURS)
      (all : All (λ (o : Object). IsKindWithin regions count o.kind) objects) where
    pub set_low : AreBelow count set
    set_low = subst (AreBelow count) (sym as_kind)
        (are_low regions count few objects all object is_tree has its_kind (kind_is objects object other has) (change_keys change))

    pub set_some : IsChange change → HasColours 1 set
    set_some is =
        let key = some_of (change_keys change) (let some = some_keys change is in omega (arith, some)) in
        subst (HasColours 1) (sym as_kind)
        (has_some regions count few objects all object is_tree has its_kind (kind_is objects object other has)
        (change_keys change) key.0 key.1)

-- its node is told what becomes of the change
pub change_told : (objects : List Object) (command : Command) (object : ℕ) (change : Change) (w new : World)
    (r : Result Answer AllocError) (colours set : Colours) (text : List ℕ)
    → members colours ≡ rising_colours objects object → set ≡ change_set objects object change → text ≡ change_text change
    → IfOk r (AppendsAndTells (tells_by telling change_answer (λ own. Done own.stamp)) (members colours) command set text w new)
    → IfOk r (λ answer. DoneBy (λ grants state. changed_so objects grants state command object change) command w new answer [])
change_told objects command object change w new (Ok answer) colours set text all is same d =
    let Changes : Colours → List ℕ → Type 0 = λ cs t. DoneBy
    (λ grants state. appended_and_told (tells_by telling change_answer (λ own. Done own.stamp)) objects grants state command
    object cs t) command w new answer [] in
    subst (λ (t : List ℕ). Changes (change_set objects object change) t) same
    (subst (λ (cs : Colours). Changes cs text) is (d objects object all))
change_told objects command object change w new (Err e) colours set text all is same d = tt

-- a change by what the fields say
pub changed_by : (objects : List Object) (command : Command) (object : ℕ) (said : Option Change) (change : Change) (w new : World)
    (r : Result Answer AllocError) → said ≡ Some change
    → IfOk r (λ answer. DoneBy (λ grants state. changed_so objects grants state command object change) command w new answer [])
    → IfOk r (λ answer. DoneBy (λ grants state. changed objects grants state command object said) command w new answer [])
changed_by objects command object said change w new r is d =
    subst (λ (o : Option Change). IfOk r (λ answer. DoneBy (λ grants state. changed objects grants state command object o)
    command w new answer [])) (sym is) d

pub none_changed : (objects : List Object) (command : Command) (object : ℕ) (said : Option Change) (w : World) → said ≡ None
    → DoneBy (λ grants state. changed objects grants state command object said) command w w answers.NoMemory []
none_changed objects command object said w is =
    subst (λ (o : Option Change). DoneBy (λ grants state. changed objects grants state command object o) command w w
    answers.NoMemory []) (sym is) (record { grants = all_granted; begun = refl; is = λ told. refl })

-- what the fields say may be, if they say something
pub may_be : (said wanted : Option Change) → said ≡ wanted → ((change : Change) → wanted ≡ Some change → IsChange change)
    → IfSome said IsChange
may_be None wanted is fits = tt
may_be (Some change) wanted is fits = fits change (sym is)

-- what is said is done
pub said_so : (objects : List Object) (command : Command) (object : ℕ) (said wanted : Option Change) (w new : World)
    (r : Result Answer AllocError) → said ≡ wanted
    → IfOk r (λ answer. DoneBy (λ grants state. changed objects grants state command object said) command w new answer [])
    → IfOk r (λ answer. DoneBy (λ grants state. changed objects grants state command object wanted) command w new answer [])
said_so objects command object said wanted w new r is =
    subst (λ (o : Option Change). IfOk r (λ answer. DoneBy (λ grants state. changed objects grants state command object o)
    command w new answer [])) is

-- how a list of names is answered
abbrev pub names_answering : List ℕ → Answering
names_answering text w = names_answer w text

-- the names in a path, by the nodes that were read
pub listed_so : (new : World) (client stamp : ℕ) (colours cs text bytes : List ℕ) (path : Option Path)
    (names : Option (List (List ℕ))) → colours ≡ cs → path ≡ path_of bytes → bytes ≡ text
    → names ≡ names_in (tree_after (map (object_node_at new) (keys_read new client stamp colours))) path
    → (raises : List RaisePiece) (syncs : List SyncPiece)
    → answers.Listed names stamp raises syncs
    ≡ names_answer new text stamp raises syncs (keys_read new client stamp cs)
listed_so new client stamp colours cs text bytes path names same is its found raises syncs =
    ap (λ (n : Option (List (List ℕ))). answers.Listed n stamp raises syncs)
    (found
    ∙ (ap (λ (l : List ℕ). names_in (tree_after (map (object_node_at new) (keys_read new client stamp l))) path) same
    ∙ ap (names_in (tree_after (map (object_node_at new) (keys_read new client stamp cs)))) (is ∙ ap path_of its)))
