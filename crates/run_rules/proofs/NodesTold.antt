-- The nodes that script and report tell are those of the commands.
use Rattle.std.proofs.Common.{◌≡◌, ◌∙◌, refl, ap, sym, subst, Bool, true, false, cond, ℕ, zero, suc, ◌+◌, ◌≤◌, List, [], ◌∷◌, ◌++◌, length, map, Option, Some, None, arith, append-nil, append_assoc, length-append}
use Rattle.std.specs.Prelude.{◌==◌, slice_get}
use Rattle.std.specs.List.{All, list_any}
use Rattle.std.specs.Option.{option_map}
use Rattle.std.proofs.lemmas.Bool.{ltb-true}
use Rattle.std.proofs.lemmas.List.Elements.{All-nil, All-cons, All-head, All-tail, All-contains}
use Rattle.log_node.specs.declared.forms.Version.{Version}
use Rattle.log_node.specs.declared.ids.Colours.{Colours}
use Rattle.log_node.specs.declared.limits.TheConstants.{MAX_COLOURS}
use Rattle.log_node.specs.declared.node.Node.{Node}
use Rattle.log_node.specs.Outcomes.{final_number}
use Rattle.log_node.specs.Seen.{PlacedNode}
use Rattle.log_node.specs.Sets.{members, set_of}
use Rattle.log_node.proofs.CallerLemmas.{members-one}
use Rattle.object_fold.specs.Nodes.{shard_of}
use Rattle.tree_fold.specs.declared.change.Change.{Change}
use Rattle.tree_fold.specs.Changes.{change_keys}
use Rattle.tree_fold.specs.Readings.{below_root_of, make_of, remove_of, move_of}
use Rattle.part_fold.specs.declared.decision.Decision.{Decision}
use Rattle.col_core.specs.Log.{Log}
use Rattle.col_core.specs.Keeping.{Kept, nothing_kept, kept_after_look}
use Rattle.col_core.proofs.CallerLemmas.{all_in, contains_in, in_filter}
use Rattle.script_text.specs.declared.commands.What.{What}
use Rattle.script_text.specs.declared.commands.What.TheVariants as whats
use Rattle.script_text.specs.declared.script.Command.{Command}
use Rattle.script_text.specs.declared.script.Kind.{Kind}
use Rattle.script_text.specs.declared.script.Kind.TheVariants as kinds
use Rattle.script_text.specs.declared.script.Object.{Object}
use Rattle.script_text.specs.declared.script.Script.{Script}
use Rattle.script_text.specs.Commands.{use_of}
use Rattle.script_text.specs.Fitting.{IsFitting, IsWithin, IsKindWithin, HasObject, UsesObject, is_queue}
use Rattle.script_text.proofs.CallerLemmas.{colours_few}
use Rattle.report_text.specs.declared.report.Answer.{Answer}
use Rattle.report_text.specs.declared.report.Answer.TheVariants as answers
use Rattle.report_text.specs.declared.report.Ended.{Ended}
use Rattle.report_text.specs.declared.report.Ended.TheVariants as ends
use Rattle.report_text.specs.declared.report.ClientReport.{ClientReport}
use Rattle.report_text.specs.declared.report.PointPiece.{PointPiece}
use Rattle.report_text.specs.declared.report.RaisePiece.{RaisePiece}
use Rattle.report_text.specs.declared.report.ReplyLine.{ReplyLine}
use Rattle.report_text.specs.declared.report.SyncPiece.{SyncPiece}
use Rattle.report_text.specs.declared.report.Report.{Report}
use Rattle.lawful_run.specs.Callers.{Caller, caller_of, commands_of, node_of}
use Rattle.lawful_run.specs.Asks.{Stopping, kind_asked, keys_of_pairs, kind_of_object, object_colours, shards}
use Rattle.lawful_run.specs.Deeds.{TextSaid, Exactly, ADecision, Saying, IsText, Reaches, SaysNode, found_by, manner_of, saying_of, says_change}
use Rattle.lawful_run.specs.Reads.{kept_after_piece}
use Rattle.lawful_run.specs.Refusals.{kept_behind}
use Rattle.lawful_run.proofs.CallerLemmas.{behind_is}
use Rattle.run_rules.specs.Told.{IsTold, Untold, Step, Account, Follow, colours_asked, colours_said, is_several, kept_after_append, kept_after_end, kept_after_read, kept_after_row, kept_at, kept_deciding, kept_past, kept_pulled, kept_told, kept_trimmed, kept_where, stamp_told, with_found}
use Rattle.run_rules.specs.Telling.{FindKeys, IsWellFormed, account_of, account_with, replies_in, step_finding, steps_finding, journal_among, last_of_steps, log_of, no_nodes, places_shown, replies_to, step_of, steps_of}
use Rattle.run_rules.specs.Answering.{HasPoints, CanEnd, CanHave}
use Rattle.run_rules.specs.Rules.{HasNode, IsReplyTo, Rule1}
use Rattle.run_rules.specs.Nodes.{HasItsNodes, nodes_with, HasItsNode, HasNodeAtEnd, any_decision, node_asked, node_at_end, node_said, node_told, nodes_of, nodes_told, set_reached, text_told}
use Rattle.run_rules.specs.Laws.{NodesAreFound, NodesAreTold, NodesChangeNoStep}
use Rattle.run_rules.proofs.ByNumber.{Numbered}
use Rattle.run_rules.proofs.Deciding.{decide_asked}
use Rattle.run_rules.proofs.Lists.{all_at, all_mapped}
use Rattle.run_rules.proofs.SameKept.{last_same}
use Rattle.run_rules.proofs.LeftOut.{ids_at}
use Rattle.run_rules.proofs.FirstAlike.{first_alike}
use Rattle.run_rules.proofs.Growing.{points_keep}
use Rattle.run_rules.proofs.NodesAlike.{read_ids, pulled_ids, trimmed_ids, found_ids}
use Rattle.run_rules.proofs.ReportsTell.{finds_tell, reports_tell, rows_again, unnamed_account, unnamed_by, unnamed_keys}
use Rattle.run_rules.proofs.RowsTold.{where_again}

-- STEPS REST ON NO NODES

module _ (report : Report) (x y : ℕ → List Node) (caller : Caller) where
  abbrev one : Log
  one = log_of report x

  abbrev two : Log
  two = log_of report y

  pub stamp_one : (kept : Kept) (row : Option ℕ) (points : List PointPiece)
      → stamp_told one caller kept row points ≡ stamp_told two caller kept row points
  stamp_one kept None [] = refl
  stamp_one kept None (p ∷ ps) = refl
  stamp_one kept (Some number) points =
      ap final_number (last_same caller.own (record { client = caller.client; count = kept.ids }) (one.rows caller.own)
      (two.rows caller.own)
      (rows_again (journal_among report.columns) x caller.own report.rows
      ∙ sym (rows_again (journal_among report.columns) y caller.own report.rows)))

  told_one : (untold : Untold) (kept : Kept) (what : What) (answer : Answer)
      → kept_told one untold caller kept what answer ≡ kept_told two untold caller kept what answer
  told_one untold kept what (answers.Ruled conflict stamp row points read_stamp raises syncs) =
      ap (λ (m : ℕ). kept_after_read one caller (kept_after_append untold caller kept m row points) read_stamp raises syncs)
      (stamp_one kept row points)
  told_one untold kept what (answers.Changed failed stamp row points read_stamp raises syncs) =
      ap (λ (m : ℕ). kept_after_read one caller (kept_after_append untold caller kept m row points) read_stamp raises syncs)
      (stamp_one kept row points)
  told_one untold kept what _ = refl

  pub past_one : (step : Step) → kept_past one caller step ≡ kept_past two caller step
  past_one step =
      ap (kept_behind step.command.what) (told_one step.untold (kept_at step) step.command.what step.reply.answer)

  module _ (shown : ℕ → ℕ → List ℕ) where
    steps_one : (kept : Kept) (cs : List Command) (rs : List ReplyLine)
        → steps_of one caller shown kept cs rs ≡ steps_of two caller shown kept cs rs
    steps_one kept [] rs = refl
    steps_one kept (c ∷ cs) [] = refl
    steps_one kept (c ∷ cs) (r ∷ rs) =
        let step = step_of one caller shown kept c r in
        ap (λ (l : List Step). step ∷ l)
        (steps_one (kept_past one caller step) cs rs
        ∙ ap (λ (k : Kept). steps_of two caller shown k cs rs) (past_one step))

    last_one : (kept : Kept) (cs : List Command) (rs : List ReplyLine)
        → last_of_steps one caller shown kept cs rs ≡ last_of_steps two caller shown kept cs rs
    last_one kept [] rs = refl
    last_one kept (c ∷ cs) [] = refl
    last_one kept (c ∷ cs) (r ∷ rs) =
        let step = step_of one caller shown kept c r in
        last_one (kept_past one caller step) cs rs
        ∙ ap (λ (k : Kept). last_of_steps two caller shown k cs rs) (past_one step)

  module _ (shown : ℕ → ℕ → List ℕ) where
    pub finding_one : (found : ℕ → List Version) (kept : Kept) (cs : List Command) (rs : List ReplyLine)
        → steps_finding one caller shown found kept cs rs ≡ steps_finding two caller shown found kept cs rs
    finding_one found kept [] rs = refl
    finding_one found kept (c ∷ cs) [] = refl
    finding_one found kept (c ∷ cs) (r ∷ rs) =
        let step = step_finding one caller shown (found 0) kept c r in
        ap (λ (l : List Step). step ∷ l)
        (finding_one (λ k. found (suc k)) (kept_past one caller step) cs rs
        ∙ ap (λ (k : Kept). steps_finding two caller shown (λ m. found (suc m)) k cs rs) (past_one step))

pub nodes_change_no_step : NodesChangeNoStep
nodes_change_no_step script report nodes n = (
  steps_one report nodes no_nodes (caller_of script n) (places_shown script report n) nothing_kept (commands_of script n)
      (replies_to report n),
  last_one report nodes no_nodes (caller_of script n) (places_shown script report n) nothing_kept (commands_of script n)
      (replies_to report n),
)

-- WHAT A COMMAND ASKS

is_text : (decision : Decision) (said : TextSaid) → IsText said (text_told decision said)
is_text decision (Exactly text) = refl
is_text decision ADecision = (decision, refl)

-- the set of a reach that is said has its colours
abbrev AreReached : List ℕ → Option Saying → Type 0
AreReached own None = Unit {0}
AreReached own (Some saying) = Reaches own saying.reach (set_reached own saying.reach)

shards_again : (own : List ℕ) (keys : List (List ℕ)) → members (set_of (shards own keys)) ≡ shards own keys
shards_again own keys = where_again (λ c. list_any (λ key. shard_of own key == c) keys)

change_reached : (own : List ℕ) (change : Option Change) → AreReached own (says_change change)
change_reached own None = tt
change_reached own (Some change) = shards_again own (change_keys change)

queue_again : (regions count : ℕ) → count ≤ MAX_COLOURS → (kind : Kind) → IsKindWithin regions count kind
    → is_queue kind ≡ true → members (set_of (object_colours (Some kind))) ≡ object_colours (Some kind)
queue_again regions count few (kinds.Queue home colour) w q = members-one colour (let lt = w.1 in omega (arith, lt, few))
queue_again regions count few _ w q = absurd (let f : ⊥ = cc in f)

module _ (script : Script) (fits : IsFitting script) (n : ℕ) where
  abbrev who : Caller
  who = caller_of script n

  few : script.shape.colours ≤ MAX_COLOURS
  few = colours_few script.version script.shape fits.shape

  queue_own : (object : ℕ) → HasObject script.objects object is_queue
      → members (set_of (object_colours (kind_of_object who object))) ≡ object_colours (kind_of_object who object)
  queue_own object has =
      subst (λ (l : List ℕ). members (set_of l) ≡ l)
      (ap (λ (o : Option Object). object_colours (option_map (λ (x : Object). x.kind) o)) (sym has.there))
      (queue_again script.shape.regions script.shape.colours few has.found.kind
      (all_at (λ (o : Object). IsKindWithin script.shape.regions script.shape.colours o.kind) script.objects object has.found
      has.there fits.objects) has.kind)

  module _ (found : Option (List Version)) where
    abbrev AreAsked : What → Type 0
    AreAsked what = AreReached (object_colours (kind_asked who what)) (saying_of (kind_asked who what) found what)

    asked_reached : (what : What) → IsWithin script.shape.regions script.shape.colours what → UsesObject script.objects what
        → AreAsked what
    asked_reached (whats.Append colours text) w u = refl
    asked_reached (whats.Stop steps colours text) w u = refl
    asked_reached (whats.Put object key value) w u = shards_again (object_colours (kind_of_object who object)) (key ∷ [])
    asked_reached (whats.Del object key) w u = shards_again (object_colours (kind_of_object who object)) (key ∷ [])
    asked_reached (whats.PutAll object pairs) w u =
        shards_again (object_colours (kind_of_object who object)) (keys_of_pairs pairs)
    asked_reached (whats.Commit object pairs) w u = by found where
      by : (f : Option (List Version))
          → AreReached (object_colours (kind_of_object who object))
          (saying_of (kind_of_object who object) f (whats.Commit object pairs))
      by None = tt
      by (Some versions) =
          shards_again (object_colours (kind_of_object who object))
          (map (λ (v : Version). v.key) versions ++ keys_of_pairs pairs)
    asked_reached (whats.Enq object value) w u = queue_own object u.0
    asked_reached (whats.Deq object) w u = queue_own object u.0
    asked_reached (whats.Only colour text) w u = members-one colour (let f = few in omega (arith, w, f))
    asked_reached (whats.Mk object path value) w u =
        change_reached (object_colours (kind_of_object who object)) (make_of (below_root_of path) value)
    asked_reached (whats.Rm object path) w u =
        change_reached (object_colours (kind_of_object who object)) (remove_of (below_root_of path))
    asked_reached (whats.Mv object source target) w u =
        change_reached (object_colours (kind_of_object who object)) (move_of (below_root_of source) (below_root_of target))
    asked_reached (whats.Decide object key) w u = shards_again (object_colours (kind_of_object who object)) (key ∷ [])
    asked_reached _ w u = tt

  -- over what a client keeps
  module _ (decision : Decision) (what : What) (within : IsWithin script.shape.regions script.shape.colours what)
      (uses : UsesObject script.objects what) where
    abbrev own : List ℕ
    own = object_colours (kind_asked who what)

    abbrev IsSome : Kept → Type 0
    IsSome kept = 1 ≤ length (colours_asked who kept what)

    one_said : (kept : Kept) (saying : Option Saying) → 1 ≤ length (colours_said own saying)
        → length (node_said decision who kept own saying) ≡ 1
    one_said kept None some = absurd (let f : ⊥ = omega (arith, some) in f)
    one_said kept (Some saying) some = refl

    one_asked : (kept : Kept) → IsSome kept → length (node_asked decision who kept what) ≡ 1
    one_asked kept some = one_said kept (saying_of (kind_asked who what) (found_by (use_of what) kept) what) some

    -- the node that is asked for is there at a place
    abbrev IsThere : List Node → List Node → ℕ → Type 0
    IsThere told all i = (m : Node) → slice_get told 0 ≡ Some m → slice_get all i ≡ Some m

    module _ (other : Log) where
      abbrev all : List Node
      all = other.nodes who.client

      said_there : (kept : Kept) (saying : Option Saying) → AreReached own saying → 1 ≤ length (colours_said own saying)
          → IsThere (node_said decision who kept own saying) all kept.ids
          → (colours : Colours) × (text : List ℕ) × SaysNode own saying colours text
          × (slice_get all kept.ids ≡ Some (node_of who kept colours text))
      said_there kept None r some there = absurd (let f : ⊥ = omega (arith, some) in f)
      said_there kept (Some saying) r some there = (
        set_reached own saying.reach,
        text_told decision saying.text,
        (r, is_text decision saying.text),
        there (node_of who kept (set_reached own saying.reach) (text_told decision saying.text)) refl,
      )

      has_node : (kept : Kept) → IsSome kept → IsThere (node_asked decision who kept what) all kept.ids → HasNode other who kept what
      has_node kept some there =
          said_there kept (saying_of (kind_asked who what) (found_by (use_of what) kept) what)
          (asked_reached (found_by (use_of what) kept) what within uses) some there

    -- ANSWERS

    points_some : (colours : List ℕ) (row : Option ℕ) (points : List PointPiece) → HasPoints colours row points
        → 1 ≤ length colours
    points_some colours None points h = let e = h.1 in omega (arith, e)
    points_some colours (Some number) points h = let e = h.1 in omega (arith, e)

    several_some : (kept : Kept) → is_several who kept what ≡ true → IsSome kept
    several_some kept t = let lt = ltb-true 1 (length (colours_asked who kept what)) t in omega (arith, lt)

    stop_some : (w : What) → IsWithin script.shape.regions script.shape.colours w → manner_of w ≡ Stopping → (kept : Kept)
        → 1 ≤ length (colours_asked who kept w)
    stop_some (whats.Stop steps colours text) w e kept = let m = w.0.many in omega (arith, m)
    stop_some _ w e kept = absurd (let f : ⊥ = cc (e) in f)

    module _ (report : Report) (x y : ℕ → List Node) (untold : Untold) (kept : Kept) (nodes : List PlacedNode) where
      abbrev left : Log
      left = log_of report x

      abbrev right : Log
      right = log_of report y

      abbrev here : List Node
      here = node_asked decision who kept what

      -- as many ids are used as nodes are told
      abbrev Adds : Kept → List Node → Type 0
      Adds after told = after.ids ≡ kept.ids + length told

      none : (after : Kept) → after.ids ≡ kept.ids → Adds after []
      none after e = omega (arith, e)

      asked_adds : (after : Kept) → after.ids ≡ kept.ids + 1 → IsSome kept → Adds after here
      asked_adds after e some = let l = one_asked kept some in omega (arith, e, l)

      append_adds : (stamp : ℕ) (row : Option ℕ) (points : List PointPiece)
          → HasPoints (colours_asked who kept what) row points
          → (kept_after_append untold who kept stamp row points).ids ≡ kept.ids + 1
      append_adds stamp None [] h = absurd (let a = ap length h.0 in let b = h.1 in let f : ⊥ = omega (arith, a, b) in f)
      append_adds stamp None (p ∷ ps) h = refl
      append_adds stamp (Some number) points h = ap (λ (k : ℕ). k + 1) (points_keep who.own kept points).0

      where_adds : (several : Bool) → is_several who kept what ≡ several
          → Adds (kept_where several (kept_after_row untold who kept) kept) (cond several here [])
      where_adds true t = asked_adds (kept_after_row untold who kept) refl (several_some kept t)
      where_adds false t = none kept refl

      end_adds : (middle : Kept) → middle.ids ≡ kept.ids → colours_asked who middle what ≡ colours_asked who kept what
          → (ended : Ended) → CanEnd (colours_asked who kept what) ended
          → Adds (kept_after_end untold who middle ended) (node_at_end decision who middle what ended)
      end_adds middle e same (ends.Stood stamp point) can =
          let l = one_asked middle (subst (λ (cs : List ℕ). 1 ≤ length cs) (sym same)
          (points_some (colours_asked who kept what) None (point ∷ []) can)) in
          omega (arith, e, l)
      end_adds middle e same (ends.StampEnd colour) can = none middle e
      end_adds middle e same ends.NoMemory can = none middle e

      behind_adds : (stamp : ℕ) (row : Option ℕ) (points : List PointPiece)
          → HasPoints (colours_asked who kept what) row points → (read_stamp : ℕ) (raises : List RaisePiece)
          (syncs : List SyncPiece)
          → Adds (kept_after_read left who (kept_after_append untold who kept stamp row points) read_stamp raises syncs) here
      behind_adds stamp row points h read_stamp raises syncs =
          let middle = kept_after_append untold who kept stamp row points in
          asked_adds (kept_after_read left who middle read_stamp raises syncs)
          (read_ids left who middle read_stamp raises syncs ∙ append_adds stamp row points h)
          (points_some (colours_asked who kept what) row points h)

      told_adds : (answer : Answer) → CanHave who kept what nodes answer
          → Adds (kept_told left untold who kept what answer) (node_told decision left who kept what answer)
      told_adds answers.NoMemory can = none kept refl
      told_adds (answers.Stood stamp row points) can =
          asked_adds (kept_after_append untold who kept stamp row points) (append_adds stamp row points can.2)
          (points_some (colours_asked who kept what) row points can.2)
      told_adds (answers.StampEnd colour) can = where_adds (is_several who kept what) refl
      told_adds (answers.Full used) can = none kept refl
      told_adds (answers.Stopped zero) can = none kept refl
      told_adds (answers.Stopped (suc steps)) can =
          asked_adds (kept_after_row untold who kept) refl (stop_some what within can.1 kept)
      told_adds (answers.Synced sync plays) can = none (kept_after_piece left who kept sync) refl
      told_adds (answers.Scanned stamp count raises syncs) can =
          none (kept_after_read left who kept stamp raises syncs) (read_ids left who kept stamp raises syncs)
      told_adds (answers.Pulled count give carry) can =
          none (kept_pulled untold who kept what give carry) (pulled_ids left untold who kept what what give carry)
      told_adds answers.SameRegion can = none kept refl
      told_adds (answers.Based given base) can =
          none (kept_trimmed who kept what given) (trimmed_ids left untold who kept what what given)
      told_adds (answers.Got value sync) can = none (kept_after_piece left who kept sync) refl
      told_adds (answers.GotMany values sync) can = none (kept_after_piece left who kept sync) refl
      told_adds (answers.GotKeys stamp shown raises syncs) can =
          none (with_found (use_of what) untold.found (kept_after_read left who kept stamp raises syncs))
          (found_ids left untold who kept what (use_of what) untold.found (kept_after_read left who kept stamp raises syncs)
          ∙ read_ids left who kept stamp raises syncs)
      told_adds (answers.Ruled conflict stamp row points read_stamp raises syncs) can =
          behind_adds (stamp_told left who kept row points) row points can.2 read_stamp raises syncs
      told_adds (answers.Changed failed stamp row points read_stamp raises syncs) can =
          behind_adds (stamp_told left who kept row points) row points can.2 read_stamp raises syncs
      told_adds (answers.Listed names stamp raises syncs) can =
          none (kept_after_read left who kept stamp raises syncs) (read_ids left who kept stamp raises syncs)
      told_adds (answers.Undecided stamp sync) can = none (kept_after_piece left who kept sync) refl
      told_adds (answers.Decided commits stamp sync read_stamp raises syncs ended) can =
          let middle = kept_deciding left who kept sync read_stamp raises syncs in
          end_adds middle (read_ids left who (kept_after_piece left who kept sync) read_stamp raises syncs)
          (decide_asked who what sync can.1 can.2 middle kept) ended can.4
      told_adds (answers.Moved lined waiting colour events) can = none (kept_after_look kept who.own colour events) refl
      told_adds answers.NoTx can = none kept refl
      told_adds (answers.Took value point sync) can =
          asked_adds (kept_told left untold who kept what (answers.Took value point sync)) refl
          (points_some (colours_asked who kept what) None (point ∷ []) can.2)
      told_adds (answers.UnreadTrimmed stamp colour base) can = none kept refl
      told_adds (answers.UnreadNoMemory stamp) can = none kept refl
      told_adds (answers.Trimmed colour base) can = none kept refl
      told_adds (answers.NotHome home) can = none kept refl

      -- and where they are there, they are those of rule 5
      abbrev Found : List Node → Type 0
      Found told = IsThere told (right.nodes who.client) kept.ids

      end_has : (middle : Kept) → middle.ids ≡ kept.ids → colours_asked who middle what ≡ colours_asked who kept what
          → (ended : Ended) → CanEnd (colours_asked who kept what) ended → Found (node_at_end decision who middle what ended)
          → HasNodeAtEnd right who middle what ended
      end_has middle e same (ends.Stood stamp point) can found =
          has_node right middle (subst (λ (cs : List ℕ). 1 ≤ length cs) (sym same)
          (points_some (colours_asked who kept what) None (point ∷ []) can))
          (subst (IsThere (node_asked decision who middle what) (right.nodes who.client)) (sym e) found)
      end_has middle e same _ can found = tt

      told_has : (answer : Answer) → CanHave who kept what nodes answer → Found (node_told decision left who kept what answer)
          → HasItsNode right who kept what answer
      told_has (answers.Stood stamp row points) can found =
          has_node right kept (points_some (colours_asked who kept what) row points can.2) found
      told_has (answers.StampEnd colour) can found = λ t.
          has_node right kept (several_some kept t) (subst (λ (b : Bool). Found (cond b here [])) t found)
      told_has (answers.Stopped zero) can found = tt
      told_has (answers.Stopped (suc steps)) can found = has_node right kept (stop_some what within can.1 kept) found
      told_has (answers.Ruled conflict stamp row points read_stamp raises syncs) can found =
          has_node right kept (points_some (colours_asked who kept what) row points can.2) found
      told_has (answers.Changed failed stamp row points read_stamp raises syncs) can found =
          has_node right kept (points_some (colours_asked who kept what) row points can.2) found
      told_has (answers.Took value point sync) can found =
          has_node right kept (points_some (colours_asked who kept what) None (point ∷ []) can.2) found
      told_has (answers.Decided commits stamp sync read_stamp raises syncs ended) can found =
          let middle = kept_deciding left who kept sync read_stamp raises syncs in
          end_has middle (read_ids left who (kept_after_piece left who kept sync) read_stamp raises syncs)
          (decide_asked who what sync can.1 can.2 middle kept) ended can.4 found
      told_has _ can found = tt

-- STEPS

pub behind_ids : (what : What) (kept : Kept) → (kept_behind what kept).ids ≡ kept.ids
behind_ids what kept = behind_is (λ (k : Kept). k.ids ≡ kept.ids) what kept refl (λ object. refl)

slice_behind : (pre told rest : List Node) (m : Node) → slice_get told 0 ≡ Some m
    → slice_get (pre ++ (told ++ rest)) (length pre) ≡ Some m
slice_behind [] [] rest m e = absurd (let f : ⊥ = cc (e) in f)
slice_behind [] (t ∷ ts) rest m e = e
slice_behind (p ∷ ps) told rest m e = slice_behind ps told rest m e

-- what a fitting script says of a command
pub record IsFit (script : Script) (command : Command) : Type 0 where
  pub within : IsWithin script.shape.regions script.shape.colours command.what
  pub uses : UsesObject script.objects command.what

commands_fit : (script : Script) → IsFitting script → (n : ℕ) → All (IsFit script) (commands_of script n)
commands_fit script fits n = all_in (IsFit script) (commands_of script n) (λ c i.
    let j = contains_in script.commands c (in_filter (λ (d : Command). d.client == n) c script.commands i).0 in record {
      within = All-contains (λ (d : Command). IsWithin script.shape.regions script.shape.colours d.what) script.commands c
          fits.commands j;
      uses = All-contains (λ (d : Command). UsesObject script.objects d.what) script.commands c fits.uses j;
    })

module _ (script : Script) (fits : IsFitting script) (n : ℕ) (report : Report) (x y : ℕ → List Node) where
  abbrev it : Caller
  it = caller_of script n

  abbrev before : Log
  before = log_of report x

  abbrev after : Log
  after = log_of report y

  abbrev Has : Step → Type 0
  Has s = HasItsNode after it (kept_at s) s.command.what s.reply.answer

  -- what a step is told to append, where decisions say this
  abbrev told_by : Decision → Step → List Node
  told_by decision s = node_told decision before it (kept_at s) s.command.what s.reply.answer

  -- that is there under the client's next id
  abbrev pub IsToldThere : Decision → Step → Type 0
  IsToldThere decision s = (m : Node) → slice_get (told_by decision s) 0 ≡ Some m → slice_get (y n) (kept_at s).ids ≡ Some m

  steps_there : (decided : ℕ → Decision) (xs : List Step) (kept last : Kept) → Follow after it kept xs last
      → All (IsReplyTo it) xs
      → All (λ (s : Step). IsFit script s.command) xs → (pre : List Node) → length pre ≡ kept.ids
      → y n ≡ pre ++ nodes_of decided before it xs
      → Numbered (λ k s. IsToldThere (decided k) s) xs × (length (y n) ≡ last.ids)
  steps_there decided [] kept last follow replies fit pre e all = (
    tt,
    ap length (all ∙ append-nil pre) ∙ (e ∙ ap (λ (k : Kept). k.ids) (sym follow)),
  )
  steps_there decided (s ∷ ss) kept last follow replies fit pre e all =
      let more : ℕ → Decision = λ k. decided (suc k) in
      let told = told_by (decided 0) s in
      let reply = All-head (IsReplyTo it) s ss replies in
      let its = All-head (λ (t : Step). IsFit script t.command) s ss fit in
      let same : (kept_at s).ids ≡ kept.ids = ids_at s ∙ ap (λ (k : Kept). k.ids) follow.0 in
      let adds = told_adds script fits n (decided 0) s.command.what its.within its.uses report y x s.untold (kept_at s)
      s.reply.nodes s.reply.answer reply.answer in
      let past : (kept_past after it s).ids ≡ kept.ids + length told =
      behind_ids s.command.what (kept_told after s.untold it (kept_at s) s.command.what s.reply.answer)
      ∙ (adds ∙ ap (λ (k : ℕ). k + length told) same) in
      let long : length (pre ++ told) ≡ (kept_past after it s).ids =
      let l = length-append pre told in omega (arith, l, e, past) in
      let rest = steps_there more ss (kept_past after it s) last follow.1 (All-tail (IsReplyTo it) s ss replies)
      (All-tail (λ (t : Step). IsFit script t.command) s ss fit) (pre ++ told) long
      (all ∙ sym (append_assoc pre told (nodes_of more before it ss))) in (
        (
          λ m h. ap (λ (l : List Node). slice_get l (kept_at s).ids) all
              ∙ (ap (slice_get (pre ++ (told ++ nodes_of more before it ss))) (same ∙ sym e)
              ∙ slice_behind pre told (nodes_of more before it ss) m h),
          rest.0,
        ),
        rest.1,
      )

  steps_have : (decided : ℕ → Decision) (xs : List Step) → All (IsReplyTo it) xs
      → All (λ (s : Step). IsFit script s.command) xs → Numbered (λ k s. IsToldThere (decided k) s) xs → All Has xs
  steps_have decided [] replies fit there = All-nil Has
  steps_have decided (s ∷ ss) replies fit there =
      let its = All-head (λ (t : Step). IsFit script t.command) s ss fit in
      All-cons Has s ss
      (told_has script fits n (decided 0) s.command.what its.within its.uses report x y s.untold (kept_at s) s.reply.nodes
      s.reply.answer (All-head (IsReplyTo it) s ss replies).answer there.0)
      (steps_have (λ k. decided (suc k)) ss (All-tail (IsReplyTo it) s ss replies)
      (All-tail (λ (t : Step). IsFit script t.command) s ss fit) there.1)

module _ (script : Script) (report : Report) (found : ℕ → ℕ → List Version) (decided : ℕ → ℕ → Decision)
    (fits : IsFitting script) (well : IsWellFormed script report)
    (keys : (n : ℕ) (c : ClientReport) → slice_get report.clients n ≡ Some c → FindKeys (found n) c.replies)
    (first : Rule1 script report (account_of script report no_nodes)) where
  abbrev nodes : ℕ → List Node
  nodes = nodes_with script report found decided

  abbrev full : Account
  full = account_with script report nodes found

  told : IsTold script report full
  told = finds_tell script report nodes found well keys

  pub replies : Rule1 script report full
  replies = first_alike script report (account_of script report no_nodes) full (reports_tell script report no_nodes well) told
      first

  module _ (n : ℕ) (c : ClientReport) (there : slice_get report.clients n ≡ Some c) where
    fit : All (λ (s : Step). IsFit script s.command) (full.steps n)
    fit = all_mapped (IsFit script) (λ (s : Step). s.command) (full.steps n)
        (subst (All (IsFit script)) (sym (told.clients n c there).commands) (commands_fit script fits n))

    -- the nodes of the client's steps are there, where its decisions say this
    pub of_client : Numbered (λ k s. IsToldThere script fits n report no_nodes nodes (decided n k) s) (full.steps n)
        × (length (nodes n) ≡ (full.last n).ids)
    of_client =
        let same = finding_one report nodes no_nodes (caller_of script n) (places_shown script report n) (found n) nothing_kept
        (commands_of script n) (replies_to report n) in
        steps_there script fits n report no_nodes nodes (decided n) (full.steps n) nothing_kept (full.last n)
        (told.clients n c there).follow (replies.replies n c there) fit [] refl
        (ap (nodes_of (decided n) (log_of report no_nodes) (caller_of script n)) (sym same))

pub nodes_are_found : NodesAreFound
nodes_are_found script report found decided fits well keys first = record {
  steps = λ n c there.
      steps_have script fits n report no_nodes (nodes script report found decided fits well keys first) (decided n)
      ((full script report found decided fits well keys first).steps n)
      ((replies script report found decided fits well keys first).replies n c there)
      (fit script report found decided fits well keys first n c there)
      (of_client script report found decided fits well keys first n c there).0;
  all = λ n c there. (of_client script report found decided fits well keys first n c there).1;
}

pub nodes_are_told : NodesAreTold
nodes_are_told script report fits well first =
    subst (λ (b : Account). HasItsNodes script report b)
    (unnamed_account script report (nodes_told script report))
    (subst (λ (nodes : ℕ → List Node). HasItsNodes script report
    (account_with script report nodes (λ n. unnamed_by (replies_to report n))))
    (λ i n. nodes_of (λ k. any_decision) (log_of report no_nodes) (caller_of script n)
    ((unnamed_account script report no_nodes i).steps n))
    (nodes_are_found script report (λ n. unnamed_by (replies_to report n)) (λ n k. any_decision) fits well (λ n c there.
    subst (FindKeys (unnamed_by (replies_to report n))) (ap replies_in there) (unnamed_keys (replies_to report n))) first))
