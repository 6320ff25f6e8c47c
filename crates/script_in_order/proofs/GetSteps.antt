-- Gets of maps, by what their calls did.
use Rattle.std.proofs.Common.{◌≡◌, ℕ, ◌+◌, ◌<◌, ◌≤◌, true, false, List, [], ◌∷◌, ◌++◌, length, map, take, get_or, Result, Ok, Err, Option, Some, None, refl, ap, sym, subst, ◌∙◌, inl, inr, arith}
use Rattle.std.specs.Prelude.{IfOk, OnErr, slice_index, slice_get, if◌then◌else◌}
use Rattle.std.specs.List.{All, Contains}
use Rattle.std.specs.Option.{option_map}
use Rattle.std.proofs.lemmas.List.{map-append, take_more}
use Rattle.std.specs.declared.alloc.AllocError.{AllocError}
use Rattle.log_node.specs.declared.ids.Counts.{Counts}
use Rattle.log_node.specs.declared.ids.Key.{Key}
use Rattle.log_node.specs.declared.node.Shape.{Shape}
use Rattle.log_node.specs.declared.ids.Colours.{Colours}
use Rattle.log_node.specs.Sets.{members}
use Rattle.log_node.specs.Vectors.{at}
use Rattle.log_node.specs.Seen.{PlacedNode}
use Rattle.log_node.specs.declared.limits.TheConstants.{MAX_COLOURS}
use Rattle.object_fold.specs.Nodes.{shard_of}
use Rattle.object_fold.specs.Maps.{Value, shard_value}
use Rattle.col_core.specs.History.{line}
use Rattle.col_core.proofs.CallerLemmas.{In, if_true, if_false, in_contains, contains_in}
use Rattle.world_laws.specs.declared.steps.Step.TheVariants.{Play}
use Rattle.world_laws.specs.Worlds.{World, home_of, home_history, after, may_play, played_cut}
use Rattle.world_laws.specs.Laws.{IsReached, StaysWithinCuts}
use Rattle.world_laws.proofs.CallerLemmas.{run_grows}
use Rattle.playback.specs.Merging.{up_to}
use Rattle.script_text.specs.declared.script.Kind.{Kind}
use Rattle.script_text.specs.declared.script.Kind.TheVariants as kinds
use Rattle.script_text.specs.declared.script.Object.{Object}
use Rattle.script_text.specs.declared.script.Command.{Command}
use Rattle.script_text.specs.Fitting.{AreObjectColours, IsKindWithin, HasObject, is_map}
use Rattle.report_text.specs.declared.report.Answer.{Answer}
use Rattle.report_text.specs.declared.report.Answer.TheVariants as answers
use Rattle.report_text.specs.declared.report.KeyAnswer.{KeyAnswer}
use Rattle.report_text.specs.declared.report.RaisePiece.{RaisePiece}
use Rattle.report_text.specs.declared.report.SyncPiece.{SyncPiece}
use Rattle.lawful_run.specs.Asks.{colours_of_object, object_colours, shards}
use Rattle.lawful_run.proofs.CallerLemmas.{get_within}
use Rattle.script_meaning.specs.States.{State, all_granted, answered, kind_in}
use Rattle.script_meaning.specs.Objects.{caller_in, refusing_home, shard_set}
use Rattle.script_meaning.specs.Dequeues.{object_node_at, first_nodes, sync_now, base_now}
use Rattle.script_meaning.specs.Stamped.{Whole, ReadEnd, StampedRead, read_stamp}
use Rattle.script_meaning.specs.Gets.{got_value, key_answers, keys_answer, value_up_to}
use Rattle.script_meaning.proofs.CallerLemmas.{RunsTo, done_to, read_runs, read_behind, whole_stamp, object_has, shard_below, key_in, shard_members}
use Rattle.script_in_order.specs.declared.folds.Fold.{Fold}
use Rattle.script_in_order.specs.Doing.{DoneBy, Does, DoesAtHome, with_replies}
use Rattle.script_in_order.specs.declared.folds.FirstNodes.{FirstNodes}
use Rattle.script_in_order.specs.declared.stamped.Stamped.{Stamped}
use Rattle.script_in_order.specs.Stamped.{ReadsStamped, end_in}
use Rattle.script_in_order.specs.Folds.{AreFolded, FoldsStay, ShardsWithin, IsMapAt, whole_line, nodes_at}
use Rattle.script_in_order.proofs.CommandKinds.{does_at_home}
use Rattle.script_in_order.proofs.ObjectSteps.{kind_is}
use Rattle.script_in_order.proofs.DequeueSteps.{unanswered}
use Rattle.script_in_order.proofs.FoldsKept.{folds_stay, shards_within}
use Rattle.script_in_order.proofs.StampedWholes.{Showing, read_given}

-- WHAT IS FOLDED

does_to : (objects : List Object) (command : Command) (w new : World) (answer : Answer) (nodes : List PlacedNode)
    → Does objects command w new answer nodes → RunsTo w new
does_to objects command w new answer nodes d =
    subst (RunsTo w) (ap (λ (s : State). s.world) (d.is (unanswered w)))
    (done_to objects d.grants (with_replies w (unanswered w)) command)

-- what is folded stays right
pub folded_on : (objects : List Object) (command : Command) (w new : World) (nodes : List PlacedNode)
    (r : Result Answer AllocError) → IsReached w
    → refusing_home (caller_in w objects command.client) command.what ≡ None
    → IfOk r (λ answer. DoesAtHome objects command w new answer nodes) → OnErr r (new ≡ w) → FoldsStay w new objects
folded_on objects command w new nodes (Ok answer) reached near ok err all f =
    folds_stay w new reached
    (does_to objects command w new answer nodes (does_at_home objects command w new answer nodes near ok)) objects all f
folded_on objects command w new nodes (Err e) reached near ok err all f =
    subst (λ (x : World). AreFolded x objects all) (sym err) f

-- A GET

-- on the colour of its key's shard
abbrev got_on : State → Command → List ℕ → List ℕ → ℕ → State
got_on state command colours key colour =
    let w = state.world in
    let client = command.client in
    if may_play w client colour then
    answered state command (after w (Play client colour))
    (answers.Got (shard_value colours colour
    (first_nodes w client colour (at (played_cut w client colour) (home_of w client))) key)
    (sync_now w client colour)) []
    else answered state command w (answers.Trimmed colour (base_now w client colour)) []

module _ (command : Command) (w new : World) (colours key : List ℕ) (colour : ℕ) (is : colour ≡ shard_of colours key) where
  pub get_trimmed : (base : Counts) → may_play w command.client colour ≡ false → base ≡ base_now w command.client colour
      → new ≡ w
      → DoneBy (λ _ state. got_value state command colours key) command w new (answers.Trimmed colour base) []
  get_trimmed base refused same there =
      subst (λ (x : World). DoneBy (λ _ state. got_value state command colours key) command w x
      (answers.Trimmed colour base) []) (sym there)
      (subst (λ (c : ℕ). DoneBy (λ _ state. got_on state command colours key c) command w w
      (answers.Trimmed colour base) []) is (record {
        grants = all_granted;
        begun = refl;
        is = λ replies.
            if_false (may_play w command.client colour) _
            (answered (with_replies w replies) command w
            (answers.Trimmed colour (base_now w command.client colour)) []) refused
            ∙ ap (λ (b : Counts). answered (with_replies w replies) command w (answers.Trimmed colour b) []) (sym same);
      }))

  pub get_done : (value : Value) (sync : SyncPiece) → may_play w command.client colour ≡ true
      → new ≡ after w (Play command.client colour)
      → value ≡ shard_value colours colour
      (first_nodes w command.client colour (at (played_cut w command.client colour) (home_of w command.client))) key
      → sync ≡ sync_now w command.client colour
      → DoneBy (λ _ state. got_value state command colours key) command w new (answers.Got value sync) []
  get_done value sync may there value_is sync_is =
      subst (λ (c : ℕ). DoneBy (λ _ state. got_on state command colours key c) command w new
      (answers.Got value sync) []) is (record {
        grants = all_granted;
        begun = refl;
        is = λ replies.
            let shown : World → Value → SyncPiece → State =
            λ x v s. answered (with_replies w replies) command x (answers.Got v s) [] in
            let count = at (played_cut w command.client colour) (home_of w command.client) in
            let v = shard_value colours colour (first_nodes w command.client colour count) key in
            if_true (may_play w command.client colour) (shown (after w (Play command.client colour)) v
            (sync_now w command.client colour)) _ may
            ∙ (ap (λ (x : World). shown x v (sync_now w command.client colour)) (sym there)
            ∙ (ap (λ (x : Value). shown new x (sync_now w command.client colour)) (sym value_is)
            ∙ ap (shown new value) (sym sync_is)));
      })

-- SEVERAL KEYS

-- a value over the nodes up to a stamp
pub value_there : (w : World) (client : ℕ) (colours : List ℕ) (stamp : ℕ) (key : List ℕ) (colour : ℕ)
    (first : FirstNodes) (value : Value) → colour ≡ shard_of colours key
    → take first.count (whole_line w first) ≡ up_to stamp (line (home_history w client colour))
    → value ≡ shard_value colours colour (nodes_at w first) key → value ≡ value_up_to w client colours stamp key
value_there w client colours stamp key colour first value is taken v =
    subst (λ (c : ℕ). value ≡ shard_value colours c
    (map (object_node_at w) (up_to stamp (line (home_history w client c)))) key) is
    (v ∙ ap (λ (ks : List Key). shard_value colours colour (map (object_node_at w) ks) key) taken)

-- one key more
pub answers_more : (value_of : List ℕ → Value) (keys : List (List ℕ)) (i : ℕ) (key copy : List ℕ) (value : Value)
    (old : List KeyAnswer) → i < length keys → key ≡ get_or keys i key → copy ≡ key → value ≡ value_of key
    → old ≡ key_answers value_of (take i keys)
    → old ++ (record { key = copy; value = value }) ∷ [] ≡ key_answers value_of (take (i + 1) keys)
answers_more value_of keys i key copy value old lt is same v before =
    let shown : List ℕ → Value → KeyAnswer = λ k x. record { key = k; value = x } in
    ap (λ (l : List KeyAnswer). l ++ shown copy value ∷ []) before
    ∙ (ap (λ (k : List ℕ). key_answers value_of (take i keys) ++ shown k value ∷ []) same
    ∙ (ap (λ (x : Value). key_answers value_of (take i keys) ++ shown key x ∷ []) v
    ∙ (sym (map-append (λ k. shown k (value_of k)) (take i keys) (key ∷ []))
    ∙ ap (key_answers value_of)
    (ap (λ (k : List ℕ). take i keys ++ k ∷ []) is ∙ sym (take_more keys i key lt)))))

-- steps lead to where a read ended
pub read_to : (w v : World) (client : ℕ) (colours : List ℕ) (ends : ReadEnd) → ReadsStamped w v client colours ends
    → RunsTo w v
read_to w v client colours ends reads =
    let g = read_given w v client colours ends reads in
    subst (RunsTo w) (ap (λ (r : StampedRead). r.world) g.1) (read_runs g.0 w client colours)

pub same_home : (w v : World) (client : ℕ) → RunsTo w v → home_of v client ≡ home_of w client
same_home w v client to =
    ap (λ (s : Shape). slice_index s.homes client)
    (ap (λ (x : World). x.shape) (sym to.run) ∙ (run_grows w to.steps).shape)

-- what was folded before a read is up to its stamp
pub shards_behind : (w v : World) → IsReached w → (objects : List Object) (all : List Fold)
    → AreFolded w objects all → (client object : ℕ) (colours cs : List ℕ) (stamp : ℕ) (raises : List RaisePiece)
    (syncs : List SyncPiece) (keys : List Key) → IsMapAt w client objects object colours
    → ReadsStamped w v client cs (Whole stamp raises syncs keys)
    → ShardsWithin all object cs (λ c. length (up_to stamp (line (home_history v client c))))
shards_behind w v reached objects all f client object colours cs stamp raises syncs keys at reads =
    let g = read_given w v client cs (Whole stamp raises syncs keys) reads in
    let to = read_to w v client cs (Whole stamp raises syncs keys) reads in
    let is = whole_stamp g.0 w v client cs stamp raises syncs keys g.1 in
    shards_within w objects all f object (home_of w client) colours cs at
    (λ c. length (up_to stamp (line (home_history v client c))))
    (λ c i. subst (λ (s : ℕ). length (line (home_history w client c)) ≤ length (up_to s (line (home_history v client c))))
    (sym is)
    (subst (λ (r : ℕ). length (line (home_history w client c))
    ≤ length (up_to (read_stamp w client cs) (line (v.histories r c)))) (sym (same_home w v client to))
    (read_behind w v reached to client c cs (in_contains cs c i))))

-- how a getall is answered
abbrev pub key_answering : List Object → ℕ → ℕ → List (List ℕ) → World → ℕ → List RaisePiece → List SyncPiece → List Key
    → Answer
key_answering objects client object asked v =
    keys_answer v client (colours_of_object (caller_in v objects client) object) asked

abbrev pub shows_none : Showing
shows_none w keys = []

-- A MAP OF A SCRIPT

only_one : (x colour : ℕ) → Contains (x ∷ []) colour → x ≡ colour
only_one x colour h = of (in_contains (x ∷ []) colour h) where
  of : In colour (x ∷ []) → x ≡ colour
  of (inl e) = e
  of (inr f) = absurd f

-- the object with a number is a map with these colours
module _ (objects : List Object) (object home : ℕ) (colours : List ℕ)
    (is : kind_in objects object ≡ Some (kinds.Map home colours)) where
  has_map : HasObject objects object is_map
  has_map = of_found (slice_get objects object) refl is where
    of_found : (o : Option Object) → slice_get objects object ≡ o
        → option_map (λ (x : Object). x.kind) o ≡ Some (kinds.Map home colours) → HasObject objects object is_map
    of_found None e none = absurd (let f : ⊥ = cc in f)
    of_found (Some o) e some =
        let k : o.kind ≡ kinds.Map home colours = cc in record { found = o; there = e; kind = ap is_map k }

  pub place_low : object < length objects
  place_low = get_within objects object has_map.found has_map.there

  -- the shard of a key, as it is found by what stands at that place
  pub shard_is : (o : Object) (shard : ℕ) (bytes key : List ℕ)
      → shard ≡ shard_of (object_colours (Some (get_or objects object o).kind)) bytes → bytes ≡ key
      → shard ≡ shard_of colours key
  shard_is o shard bytes key s b =
      s ∙ (ap (λ (k : Option Kind). shard_of (object_colours k) bytes) (kind_is objects object o has_map ∙ is)
      ∙ ap (shard_of colours) b)

  module _ (regions count : ℕ) (all : All (λ (o : Object). IsKindWithin regions count o.kind) objects) where
    own_colours : AreObjectColours count colours
    own_colours = subst (λ (k : Option Kind). AreObjectColours count (object_colours k)) is
        (object_has objects regions count all object is_map has_map)

    pub shard_low : (shard : ℕ) (key : List ℕ) → shard ≡ shard_of colours key → shard < count
    shard_low shard key s =
        subst (λ (c : ℕ). c < count) (sym s) (shard_below count colours own_colours.some own_colours.below key)

    -- it is among the shards of the keys
    pub shard_in : count ≤ MAX_COLOURS → (keys : List (List ℕ)) (i : ℕ) (key : List ℕ) (shard : ℕ) → i < length keys
        → key ≡ get_or keys i key → shard ≡ shard_of colours key
        → In shard (shards (object_colours (kind_in objects object)) keys)
    shard_in few keys i key shard lt there s =
        let low = shard_low (shard_of colours key) key refl in
        subst (λ (k : Option Kind). In shard (shards (object_colours k) keys)) (sym is)
        (subst (λ (c : ℕ). In c (shards colours keys)) (sym s)
        (key_in colours keys key (in_contains keys key (i, lt, sym there)) (omega (arith, low, few))))

-- of the one shard nothing is folded past the bound
pub one_behind : (all : List Fold) (object : ℕ) (bound : ℕ → ℕ) (cs : List ℕ) (first : FirstNodes) (c : ℕ)
    → ShardsWithin all object cs bound → In c cs → first.colour ≡ c → first.count ≡ bound c
    → ShardsWithin all object (first.colour ∷ []) (λ _. first.count)
one_behind all object bound cs first c behind i is count = λ d h shards fold at_object at_colour.
    let e : c ≡ d = sym is ∙ only_one first.colour d h in
    subst (λ (n : ℕ). fold.count ≤ n) (sym (count ∙ ap bound e))
    (behind d (contains_in cs d (subst (λ (x : ℕ). In x cs) e i)) shards fold at_object at_colour)

-- a read of a set of colours is one of the colours that it has
pub reads_same : (w v : World) (client : ℕ) (cs other : List ℕ) (s : Stamped) → cs ≡ other
    → ReadsStamped w v client cs (end_in v client cs s) → ReadsStamped w v client other (end_in v client other s)
reads_same w v client cs other s same reads =
    subst (λ (l : List ℕ). ReadsStamped w v client l (end_in v client l s)) same reads

-- a stamped read of an object's colours, however their set is written
pub its_read : (old new : World) (client : ℕ) (colours cs : List ℕ) (s t : Stamped) → colours ≡ cs → s ≡ t
    → ReadsStamped old new client colours (end_in new client colours s) → ReadsStamped old new client cs (end_in new client cs t)
its_read old new client colours cs s t is same r =
    subst (λ (x : Stamped). ReadsStamped old new client cs (end_in new client cs x)) same
    (subst (λ (l : List ℕ). ReadsStamped old new client l (end_in new client l s)) is r)

-- what is folded, after the read
pub read_folds : (w v : World) (client : ℕ) (colours : List ℕ) (objects : List Object) (folds : List Fold) (s t : Stamped)
    → s ≡ t → IsReached w → ReadsStamped w v client colours (end_in v client colours s) → AreFolded w objects folds
    → AreFolded v objects folds
read_folds w v client colours objects folds s t same reached reads f =
    folds_stay w v reached (read_to w v client colours (end_in v client colours s) reads) objects folds f

-- the colours of the set of the keys' shards
pub set_is : (objects : List Object) (object : ℕ) (o : Object) (set : Colours) (found asked : List (List ℕ))
    → HasObject objects object is_map
    → set ≡ shard_set (object_colours (Some (get_or objects object o).kind)) found → found ≡ asked
    → members set ≡ shards (object_colours (kind_in objects object)) asked
set_is objects object o set found asked has made is =
    ap members made
    ∙ (shard_members (object_colours (Some (get_or objects object o).kind)) found
    ∙ (ap (λ (k : Option Kind). shards (object_colours k) found) (kind_is objects object o has)
    ∙ ap (shards (object_colours (kind_in objects object))) is))

-- what a client plays now of the own line of its column
pub played_here : (w : World) → StaysWithinCuts w → (client colour own : ℕ) → own ≡ home_of w client
    → own < w.shape.regions → w.shape.regions ≤ 4
    → at (played_cut w client colour) own ≡ length (line (w.histories own colour))
played_here w cuts client colour own is lt few =
    let low : own < 4 = omega (arith, lt, few) in
    subst (λ (r : ℕ). at (played_cut w client colour) r ≡ length (line (w.histories r colour))) (sym is)
    (cuts.own_line (home_of w client) colour (subst (λ (r : ℕ). r < 4) is low))

-- nothing of the shard is folded past a whole line
pub one_within : (w : World) (objects : List Object) (all : List Fold) → AreFolded w objects all
    → (object : ℕ) (colours : List ℕ) (first : FirstNodes)
    → kind_in objects object ≡ Some (kinds.Map first.region colours) → first.count ≡ length (whole_line w first)
    → ShardsWithin all object (first.colour ∷ []) (λ _. first.count)
one_within w objects all f object colours first is count =
    shards_within w objects all f object first.region colours (first.colour ∷ []) is (λ _. first.count)
    (λ c i. subst (λ (x : ℕ). length (line (w.histories first.region x)) ≤ first.count)
    (only_one first.colour c i) (omega (arith, count)))

-- the nodes that a client plays now
pub played_nodes : (w : World) (client colour own : ℕ) (sync : SyncPiece) → own ≡ home_of w client
    → sync ≡ sync_now w client colour
    → nodes_at w (record { region = own; colour = colour; count = at sync.counts own })
    ≡ first_nodes w client colour (at (played_cut w client colour) (home_of w client))
played_nodes w client colour own sync home same =
    ap (λ (r : ℕ). nodes_at w (record { region = r; colour = colour; count = at sync.counts r })) home
    ∙ ap (λ (s : SyncPiece). first_nodes w client colour (at s.counts (home_of w client))) same
