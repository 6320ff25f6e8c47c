-- An answer that a command of a script can have names colours that a log can have.
use Rattle.std.proofs.Common.{◌≡◌, refl, sym, subst, inl, inr, ℕ, ◌<◌, Bool, List, [], ◌∷◌, map, Option, Some, None, arith}
use Rattle.std.specs.Prelude.{slice_get, ◌==◌}
use Rattle.std.specs.List.{All, list_any, range_with_len}
use Rattle.std.specs.Option.{option_map}
use Rattle.std.proofs.lemmas.List.{get_or-map, length-map}
use Rattle.std.proofs.lemmas.List.Elements.{All-nil, All-cons, All-head}
use Rattle.std.proofs.lemmas.Option.{get_or_from_slice_get, slice_get_within}
use Rattle.log_node.specs.declared.forms.Version.{Version}
use Rattle.log_node.specs.declared.limits.TheConstants.{MAX_COLOURS}
use Rattle.log_node.specs.Seen.{PlacedNode}
use Rattle.log_node.specs.Sets.{members}
use Rattle.log_node.proofs.CallerLemmas.{members_low}
use Rattle.col_core.specs.Keeping.{Kept}
use Rattle.col_core.proofs.CallerLemmas.{all_in, in_filter, in_range}
use Rattle.object_fold.specs.Maps.{Value}
use Rattle.object_fold.specs.Nodes.{shard_of}
use Rattle.tree_fold.specs.declared.change.Change.{Change}
use Rattle.tree_fold.specs.Readings.{below_root_of, make_of, move_of, remove_of}
use Rattle.script_text.specs.Commands.{use_of}
use Rattle.script_text.specs.Fitting.{IsFitting, IsWithin}
use Rattle.script_text.specs.declared.commands.What.{What}
use Rattle.script_text.specs.declared.commands.What.TheVariants as whats
use Rattle.script_text.specs.declared.script.Kind.{Kind}
use Rattle.script_text.specs.declared.script.Kind.TheVariants as kinds
use Rattle.script_text.specs.declared.script.Object.{Object}
use Rattle.script_text.specs.declared.script.Script.{Script}
use Rattle.script_text.specs.declared.uses.Use.{Use}
use Rattle.script_text.specs.declared.uses.Use.TheVariants.{OfLog, OfObject}
use Rattle.report_text.specs.declared.report.Answer.{Answer}
use Rattle.report_text.specs.declared.report.Answer.TheVariants as answers
use Rattle.report_text.specs.declared.report.Ended.{Ended}
use Rattle.report_text.specs.declared.report.Ended.TheVariants as ends
use Rattle.report_text.specs.declared.report.PointPiece.{PointPiece}
use Rattle.report_text.specs.declared.report.RaisePiece.{RaisePiece}
use Rattle.report_text.specs.declared.report.SyncPiece.{SyncPiece}
use Rattle.lawful_run.specs.Callers.{Caller, caller_of}
use Rattle.lawful_run.specs.Asks.{colours_where, kind_asked, kind_of_object, kind_used, object_colours, rising}
use Rattle.lawful_run.specs.Deeds.{NoColours, Named, One, ShardsOf, Whole, Listed, ShardThenWhole, Reach, Saying, colours_reached, colours_synced, deed_of, found_by, saying_of, says_change}
use Rattle.lawful_run.specs.Parts.{AsksToDecide}
use Rattle.run_rules.specs.Told.{colours_asked, colours_said}
use Rattle.run_rules.specs.Answering.{CanEnd, CanGet, CanHave, HasPoints, HasReads}
use Rattle.walk_law.specs.Asking.{AreLow}
use Rattle.walk_law.specs.Fourth.{ArePointsLow, AreRaisesLow, AreSyncsLow, IsEndLow, NamesLow}
use Rattle.walk_law.proofs.FirstLemmas.{low_objects}
use Rattle.walk_law.proofs.Shards.{shard_low}
use Rattle.walk_law.proofs.ThirdLemmas.{few_colours}

one_low : (colour : ℕ) → colour < MAX_COLOURS → AreLow (colour ∷ [])
one_low colour lt = All-cons (λ c. c < MAX_COLOURS) colour [] lt (All-nil (λ c. c < MAX_COLOURS))

where_low : (test : ℕ → Bool) → AreLow (colours_where test)
where_low test = all_in (λ c. c < MAX_COLOURS) (colours_where test) (λ c i.
    let r = in_range 0 MAX_COLOURS c (in_filter test c (range_with_len 0 MAX_COLOURS) i).0 in
    let lt = r.1 in omega (arith, lt))

rising_low : (own : List ℕ) → AreLow (rising own)
rising_low own = where_low (λ c. list_any (λ d. d == c) own)

-- a reach of one colour is of one that a log can have
abbrev IsOneLow : Reach → Type 0
IsOneLow (One colour) = colour < MAX_COLOURS
IsOneLow _ = Unit {0}

reached_low : (own : List ℕ) → AreLow own → (reach : Reach) → IsOneLow reach → AreLow (colours_reached own reach)
reached_low own low NoColours one = All-nil (λ c. c < MAX_COLOURS)
reached_low own low (Named colours) one = members_low colours
reached_low own low (One colour) one = one_low colour one
reached_low own low (ShardsOf keys) one = where_low (λ c. list_any (λ key. shard_of own key == c) keys)
reached_low own low Whole one = rising_low own
reached_low own low Listed one = low
reached_low own low (ShardThenWhole key) one =
    All-cons (λ c. c < MAX_COLOURS) (shard_of own key) (rising own) (shard_low own key low) (rising_low own)

module _ (script : Script) (fits : IsFitting script) (client : ℕ) where
  abbrev caller : Caller
  caller = caller_of script client

  abbrev Within : What → Type 0
  Within what = IsWithin script.shape.regions script.shape.colours what

  below_low : (colour : ℕ) → colour < script.shape.colours → colour < MAX_COLOURS
  below_low colour lt = let few = few_colours script fits in omega (arith, lt, few)

  found_low : (o : Option Object) → ((x : Object) → o ≡ Some x → AreLow (object_colours (Some x.kind)))
      → AreLow (object_colours (option_map (λ (x : Object). x.kind) o))
  found_low None each = All-nil (λ c. c < MAX_COLOURS)
  found_low (Some x) each = each x refl

  object_low : (object : ℕ) → AreLow (object_colours (kind_of_object caller object))
  object_low object = found_low (slice_get script.objects object) (λ x at.
      subst (λ (o : Object). AreLow (object_colours (Some o.kind))) (get_or_from_slice_get script.objects object x x at)
      (low_objects script fits object x (slice_get_within script.objects object x at)))

  used_low : (how : Use) → AreLow (object_colours (kind_used caller how))
  used_low (OfLog stops) = All-nil (λ c. c < MAX_COLOURS)
  used_low (OfObject object read) = object_low object

  own_low : (what : What) → AreLow (object_colours (kind_asked caller what))
  own_low what = used_low (use_of what)

  synced_one : (what : What) → Within what → IsOneLow (deed_of what).syncs
  synced_one (whats.Sync colour) lt = below_low colour lt
  synced_one _ w = tt

  synced_low : (what : What) → Within what → AreLow (colours_synced caller what)
  synced_low what w = reached_low (object_colours (kind_asked caller what)) (own_low what) (deed_of what).syncs (synced_one what w)

  abbrev IsSaidLow : Option Saying → Type 0
  IsSaidLow None = Unit {0}
  IsSaidLow (Some saying) = IsOneLow saying.reach

  change_one : (change : Option Change) → IsSaidLow (says_change change)
  change_one None = tt
  change_one (Some change) = tt

  said_one : (kind : Option Kind) (found : Option (List Version)) (what : What) → Within what → IsSaidLow (saying_of kind found what)
  said_one kind found (whats.Only colour text) lt = below_low colour lt
  said_one kind None (whats.Commit object pairs) w = tt
  said_one kind (Some versions) (whats.Commit object pairs) w = tt
  said_one kind found (whats.Mk object path value) w = change_one (make_of (below_root_of path) value)
  said_one kind found (whats.Rm object path) w = change_one (remove_of (below_root_of path))
  said_one kind found (whats.Mv object source target) w = change_one (move_of (below_root_of source) (below_root_of target))
  said_one kind found _ w = tt

  said_low : (own : List ℕ) → AreLow own → (saying : Option Saying) → IsSaidLow saying → AreLow (colours_said own saying)
  said_low own low None one = All-nil (λ c. c < MAX_COLOURS)
  said_low own low (Some saying) one = reached_low own low saying.reach one

  asked_low : (kept : Kept) (what : What) → Within what → AreLow (colours_asked caller kept what)
  asked_low kept what w =
      said_low (object_colours (kind_asked caller what)) (own_low what)
      (saying_of (kind_asked caller what) (found_by (use_of what) kept) what)
      (said_one (kind_asked caller what) (found_by (use_of what) kept) what w)

  -- PARTS OF ANSWERS

  mapped_low : {X : Type 0} (f : X → ℕ) (xs : List X) → AreLow (map f xs) → All (λ (x : X). f x < MAX_COLOURS) xs
  mapped_low f xs low = λ n d lt.
      subst (λ (c : ℕ). c < MAX_COLOURS) (get_or-map f xs n d (f d) lt)
      (low n (f d) (let long = length-map xs f in omega (arith, lt, long)))

  points_low : (colours : List ℕ) → AreLow colours → (row : Option ℕ) (points : List PointPiece) → HasPoints colours row points
      → ArePointsLow points
  points_low colours low None points has = mapped_low (λ (p : PointPiece). p.colour) points (subst AreLow (sym has.0) low)
  points_low colours low (Some number) points has = mapped_low (λ (p : PointPiece). p.colour) points (subst AreLow (sym has.0) low)

  reads_low : (colours : List ℕ) → AreLow colours → (raises : List RaisePiece) (syncs : List SyncPiece) → HasReads colours raises syncs
      → AreRaisesLow raises × AreSyncsLow syncs
  reads_low colours low raises syncs has = (
    mapped_low (λ (r : RaisePiece). r.colour) raises (subst AreLow (sym has.0) low),
    mapped_low (λ (s : SyncPiece). s.colour) syncs (subst AreLow (sym has.1) low),
  )

  head_low : (colour : ℕ) (colours : List ℕ) → AreLow (colour ∷ colours) → colour < MAX_COLOURS
  head_low colour colours low = All-head (λ c. c < MAX_COLOURS) colour colours low

  decides_low : (what : What) (sync : SyncPiece) (colours : List ℕ) → AsksToDecide caller what sync colours → sync.colour < MAX_COLOURS
  decides_low what sync colours asks =
      let low = subst (λ (k : Option Kind). AreLow (object_colours k)) asks.4 (object_low asks.0) in
      subst (λ (c : ℕ). c < MAX_COLOURS) (sym asks.5) (shard_low colours asks.1 low)

  sync_low : (what : What) → Within what → (sync : SyncPiece) → colours_synced caller what ≡ sync.colour ∷ [] → sync.colour < MAX_COLOURS
  sync_low what w sync is = head_low sync.colour [] (subst AreLow is (synced_low what w))

  get_low : (what : What) → Within what → (sync : SyncPiece) (value : Value) (kind : Option Kind) → CanGet caller what sync value kind
      → sync.colour < MAX_COLOURS
  get_low what w sync value None can = absurd can
  get_low what w sync value (Some (kinds.Map home colours)) can = sync_low what w sync can.1.3
  get_low what w sync value (Some (kinds.Parts home colours)) can = elim can [
    | inl one ↦ sync_low what w sync one.1.3
    | inr both ↦ decides_low what sync colours both.0
  ]
  get_low what w sync value (Some (kinds.Tx home colours)) can = absurd can
  get_low what w sync value (Some (kinds.Causal colour)) can = absurd can
  get_low what w sync value (Some (kinds.Queue home colour)) can = absurd can
  get_low what w sync value (Some (kinds.Tree home colours)) can = absurd can

  end_low : (colours : List ℕ) → AreLow colours → (ended : Ended) → CanEnd colours ended → IsEndLow ended
  end_low colours low (ends.Stood stamp point) can = head_low point.colour [] (subst AreLow (sym can.0) low)
  end_low colours low (ends.StampEnd colour) can = tt
  end_low colours low ends.NoMemory can = tt

  pub can_low : (kept : Kept) (what : What) → Within what → (nodes : List PlacedNode) (answer : Answer)
      → CanHave caller kept what nodes answer → NamesLow answer
  can_low kept what w nodes (answers.Stood stamp row points) can =
      points_low (colours_asked caller kept what) (asked_low kept what w) row points can.2
  can_low kept what w nodes (answers.Synced sync plays) can = below_low sync.colour (subst Within can w)
  can_low kept what w nodes (answers.Scanned stamp count raises syncs) can =
      reads_low (members can.0) (members_low can.0) raises syncs can.2
  can_low kept what w nodes (answers.Got value sync) can = get_low what w sync value (kind_asked caller what) can.1
  can_low kept what w nodes (answers.GotMany values sync) can =
      head_low sync.colour [] (subst (λ (k : Option Kind). AreLow (object_colours k)) can.4 (object_low can.1))
  can_low kept what w nodes (answers.GotKeys stamp shown raises syncs) can =
      reads_low (colours_synced caller what) (synced_low what w) raises syncs can.2
  can_low kept what w nodes (answers.Ruled conflict stamp row points read_stamp raises syncs) can = (
    points_low (colours_asked caller kept what) (asked_low kept what w) row points can.2,
    (reads_low (colours_synced caller what) (synced_low what w) raises syncs can.3).0,
    (reads_low (colours_synced caller what) (synced_low what w) raises syncs can.3).1,
  )
  can_low kept what w nodes (answers.Changed failed stamp row points read_stamp raises syncs) can = (
    points_low (colours_asked caller kept what) (asked_low kept what w) row points can.2,
    (reads_low (colours_synced caller what) (synced_low what w) raises syncs can.3).0,
    (reads_low (colours_synced caller what) (synced_low what w) raises syncs can.3).1,
  )
  can_low kept what w nodes (answers.Listed names stamp raises syncs) can =
      reads_low (colours_synced caller what) (synced_low what w) raises syncs can.4
  can_low kept what w nodes (answers.Undecided stamp sync) can = sync_low what w sync can.4.3
  can_low kept what w nodes (answers.Decided commits stamp sync read_stamp raises syncs ended) can =
      let reads = reads_low (rising can.1) (rising_low can.1) raises syncs can.3 in (
        decides_low what sync can.1 can.2,
        reads.0,
        reads.1,
        end_low (colours_asked caller kept what) (asked_low kept what w) ended can.4,
      )
  can_low kept what w nodes (answers.Moved lined waiting colour events) can = below_low colour (subst Within can.2 w)
  can_low kept what w nodes (answers.Took value point sync) can =
      let low = head_low point.colour [] (subst AreLow (sym can.2.0) (asked_low kept what w)) in
      (low, subst (λ (c : ℕ). c < MAX_COLOURS) (sym can.3) low)
  can_low kept what w nodes _ can = tt
