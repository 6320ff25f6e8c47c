-- A command that is told what becomes of its node: its append, the stamped read behind it, and its answer.
use Rattle.std.proofs.Common.{◌≡◌, ℕ, List, [], ◌++◌, map, Option, Some, refl, ap, sym, subst, ◌∙◌, arith}
use Rattle.std.specs.Prelude.{true, slice_get, slice_index}
use Rattle.log_node.specs.declared.ids.Colours.{Colours}
use Rattle.log_node.specs.declared.ids.Id.{Id}
use Rattle.log_node.specs.declared.ids.Key.{Key}
use Rattle.log_node.specs.declared.node.Node.{Node}
use Rattle.log_node.specs.declared.node.Shape.{Shape}
use Rattle.log_node.specs.Sets.{members}
use Rattle.object_fold.specs.Nodes.{ObjectNode}
use Rattle.col_core.specs.declared.Entry.{Entry}
use Rattle.col_core.specs.History.{line, entry_key}
use Rattle.col_core.specs.Keeping.{Kept}
use Rattle.col_core.specs.Log.{IsLater, Log}
use Rattle.col_core.proofs.CallerLemmas.{choice, In}
use Rattle.world_laws.specs.Worlds.{World, home_of, run_steps, next_id}
use Rattle.world_laws.specs.Laws.{IsReached, log_of}
use Rattle.world_laws.proofs.CallerLemmas.{run_reached, run_steps-append}
use Rattle.script_text.specs.declared.script.Object.{Object}
use Rattle.script_text.specs.declared.script.Command.{Command}
use Rattle.script_text.specs.declared.commands.What.{What}
use Rattle.script_text.specs.declared.commands.What.TheVariants as whats
use Rattle.report_text.specs.declared.report.Answer.{Answer}
use Rattle.report_text.specs.declared.report.Answer.TheVariants as answers
use Rattle.report_text.specs.declared.report.PointPiece.{PointPiece}
use Rattle.report_text.specs.declared.report.RaisePiece.{RaisePiece}
use Rattle.report_text.specs.declared.report.SyncPiece.{SyncPiece}
use Rattle.lawful_run.specs.Asks.{Committing, may_help}
use Rattle.lawful_run.specs.Deeds.{AsksToAppend, colours_synced, manner_of}
use Rattle.lawful_run.specs.Appends.{Appends, AppendsUnshown}
use Rattle.lawful_run.specs.Callers.{Caller, node_of}
use Rattle.lawful_run.specs.Explains.{Explains}
use Rattle.lawful_run.specs.Refusals.{kept_before}
use Rattle.lawful_run.specs.Shapes.{TellsBehind}
use Rattle.lawful_run.specs.Reads.{ReadsAt, HidesRead, RefusesRead}
use Rattle.lawful_run.proofs.CallerLemmas.{append_later, unshown_later, explains_unruled, explains_unruled_without}
use Rattle.script_meaning.specs.States.{State, Grants, LastReads, answered}
use Rattle.script_meaning.specs.Dequeues.{object_node_at}
use Rattle.script_meaning.specs.Helping.{node_by_id}
use Rattle.script_meaning.specs.Stamped.{read_stamp, ReadEnd, Whole, Refused, Unraised, StampedRead, stamped_read}
use Rattle.script_meaning.specs.Telling.{ReadAnswer, answered_by_read}
use Rattle.script_meaning.proofs.World.Additions.{Adds, adds_trans, adds_map}
use Rattle.script_meaning.proofs.Append.AppendOne.{caller_same}
use Rattle.script_meaning.proofs.Append.AppendsBehind.{node, shown, appends, unshown, seen_stamp, next_node, stands_in}
use Rattle.script_meaning.proofs.World.Clearing.{Finished}
use Rattle.script_meaning.proofs.Object.Dequeuing.{listed_objects}
use Rattle.script_meaning.proofs.Client.Kept.{caller_in, IsKeptBy, MadeBy, Does, later_log}
use Rattle.script_meaning.proofs.World.Reached.{held_of}
use Rattle.script_meaning.proofs.Client.ReadsLeft.{LeavesReads}
use Rattle.script_meaning.proofs.Read.StampedEnds.{DidRead, Ends, EndsWhole, did_read}
use Rattle.script_meaning.proofs.Read.StampedPlays.{MayLook}
use Rattle.script_meaning.proofs.Read.StampedRaises.{AreDistinct}
use Rattle.script_meaning.proofs.World.StaysComplete.{of_done_stays}

-- The command asks for an append over what its client keeps of its reads.
abbrev pub AsksOver : List Object → ℕ → What → LastReads → Colours → List ℕ → Type 0
AsksOver objects u what reads set text =
    (x : World) (kept : Kept) → kept.reads ≡ reads → AsksToAppend (caller_in x objects u) kept what set text

-- What the answer of a command that is told says: whatever is so of its own node, which is among those that were read and has
-- the text, was told behind its append.
abbrev pub TellsSo : What → List ℕ → ReadAnswer → Type 1
TellsSo what text tells =
    (x : World) (keys : List Key) (own : Key) (row : Option ℕ) (points : List PointPiece) (at : ℕ) (raises : List RaisePiece)
    (syncs : List SyncPiece) (log : Log) (caller : Caller) (kept after : Kept)
    → In own keys → (own_node : Node) → node_by_id x own.id ≡ Some own_node → own_node.text ≡ text
    → ((Says : Key → List ObjectNode → Type 0) → Says own (map (object_node_at x) keys)
    → TellsBehind log caller kept what row points at raises syncs Says after)
    → Explains log caller kept what (tells x keys own row points at raises syncs) [] after

module _ (objects : List Object) (S : ℕ → Type 0) (state : State) (command : Command) (grants : Grants) (what : What)
    (committing : manner_of what ≡ Committing) (takes_none : (kept : Kept) → kept_before what kept ≡ kept)
    (set : Colours) (text : List ℕ)
    (asks : AsksOver objects command.client what (state.reads command.client) set text)
    (tells : ReadAnswer) (tells_so : TellsSo what text tells)
    (reached : IsReached state.world) (free : S command.client → ⊥) (cs : List ℕ)
    (synced : (x : World) → colours_synced (caller_in x objects command.client) what ≡ cs)
    (distinct : AreDistinct cs) (first : ℕ) (is_first : In first cs)
    (own_colours : (c : ℕ) → In c (members set) → In c cs)
    (v : World) (stamp : ℕ) (row : Option ℕ) (points : List PointPiece)
    (d : Does objects command.client (whats.Append set text) state.world v (answers.Stood stamp row points) [])
    (fin : Finished S v) (look : MayLook objects S command.client (read_stamp v command.client cs) v cs) where
  abbrev u : ℕ
  u = command.client

  abbrev w : World
  w = state.world

  helping : may_help (manner_of what) ≡ true
  helping = ap may_help committing

  reached_v : IsReached v
  reached_v = subst IsReached d.run (run_reached w d.steps reached)

  abbrev read : StampedRead
  read = stamped_read grants v u cs

  abbrev x : World
  x = read.world

  did : DidRead objects S what helping v reached_v fin u free cs distinct look first is_first read
  did = did_read objects S what helping v reached_v fin u free cs distinct look first is_first grants

  reached_x : IsReached x
  reached_x = subst IsReached did.to.run (run_reached v did.to.steps reached_v)

  later : IsLater (log_of v) (log_of x)
  later = later_log v x did.to.steps reached_v did.to.run

  abbrev there : Caller
  there = caller_in x objects u

  home_same : home_of v u ≡ home_of w u
  home_same = ap (λ (y : Shape). slice_index y.homes u) d.shape

  -- what the append made, the command made, and what was complete is complete still
  made_on : (r : ℕ) (e : Entry) → MadeBy u (whats.Append set text) v (home_of w u) r e
      → MadeBy u what x (home_of w u) r e
  made_on r e m = record {
    made = m.made;
    help = λ h. let y = m.help h in record {
      may = helping;
      home = y.home;
      complete = of_done_stays v x (held_of v reached_v) did.to.steps did.to.run e.event y.complete;
    };
  }

  adds : (r c : ℕ) → Adds (MadeBy u what x (home_of w u) r) (w.histories r c) (x.histories r c)
  adds r c =
      adds_trans (MadeBy u what x (home_of w u) r) (w.histories r c) (v.histories r c) (x.histories r c)
      (adds_map (MadeBy u (whats.Append set text) v (home_of w u) r) (MadeBy u what x (home_of w u) r)
      (w.histories r c) (v.histories r c) (made_on r) (d.adds r c))
      (subst (λ (h : ℕ). Adds (MadeBy u what x h r) (v.histories r c) (x.histories r c)) home_same (did.to.adds r c))

  -- the steps of both, with an answer that the log then explains
  leaves : (answer : Answer)
      → ((kept : Kept) → IsKeptBy w u kept → kept.reads ≡ state.reads u
      → (after : Kept) × IsKeptBy x u after × Explains (log_of x) there kept what answer [] after)
      → LeavesReads objects u what w x answer [] (state.reads u)
  leaves answer says = record {
    steps = d.steps ++ did.to.steps;
    run = run_steps-append w d.steps did.to.steps ∙ (ap (λ (y : World). run_steps y did.to.steps) d.run ∙ did.to.run);
    shape = did.to.shape ∙ d.shape;
    others = λ n ne. did.to.others n ne ∙ d.others n ne;
    adds = adds;
    keeps = λ kept k same.
        let a = says kept k same in (
          a.0,
          a.1,
          subst (λ (before : Kept). Explains (log_of x) there before what answer [] a.0) (sym (takes_none kept)) a.2,
        );
  }

  there_same : caller_in v objects u ≡ there
  there_same = sym (caller_same v x objects u did.to.shape)

  module _ (kept : Kept) (k : IsKeptBy w u kept) where
    abbrev its_node : Node
    its_node = node objects w v reached u set text stamp row points d kept k

    abbrev stood : Kept
    stood = (shown objects w v reached u set text stamp row points d kept k).after

    abbrev at_stood : IsKeptBy v u stood
    at_stood = (shown objects w v reached u set text stamp row points d kept k).keeps

    node_same : node_of (caller_in v objects u) kept set text ≡ node_of there kept set text
    node_same = ap (λ (c : Caller). node_of c kept set text) there_same

    -- the append stands in the log then
    stands : Appends (log_of x) there kept (node_of there kept set text) stamp row points stood
    stands =
        subst (λ (c : Caller). Appends (log_of x) c kept (node_of c kept set text) stamp row points stood) there_same
        (append_later (log_of v) (log_of x) later (caller_in v objects u) kept its_node stamp row points stood
        (appends objects w v reached u set text stamp row points d kept k))

    -- and so it does where the answer does not show it
    abbrev hidden_at : Kept
    hidden_at = (unshown objects w v reached u set text stamp row points d kept k).0

    abbrev keeps_at : IsKeptBy v u hidden_at
    keeps_at = (unshown objects w v reached u set text stamp row points d kept k).2

    stands_unshown : AppendsUnshown (log_of x) there kept (node_of there kept set text) stamp hidden_at
    stands_unshown =
        subst (λ (c : Caller). AppendsUnshown (log_of x) c kept (node_of c kept set text) stamp hidden_at) there_same
        (unshown_later (log_of v) (log_of x) later (caller_in v objects u) kept its_node stamp hidden_at
        (unshown objects w v reached u set text stamp row points d kept k).1)

  -- WHOLE

  abbrev IsTold : ℕ → List RaisePiece → List SyncPiece → List Key → Type 0
  IsTold = EndsWhole objects S what helping v reached_v fin u free cs distinct look first is_first x

  module _ (at : ℕ) (raises : List RaisePiece) (syncs : List SyncPiece) (keys : List Key)
      (ended : IsTold at raises syncs keys) where
    abbrev own : Key
    own = entry_key stamp (next_id w u)

    abbrev nodes : List ObjectNode
    nodes = map (object_node_at x) keys

    module _ (kept : Kept) (k : IsKeptBy w u kept) (same : kept.reads ≡ state.reads u) where
      id_same : next_id w u ≡ (node_of there kept set text).id
      id_same = ap (λ (n : ℕ). let i : Id = record { client = u; count = n } in i) (sym k.ids)

      -- the own node is among those that were read
      read_own : In own keys
      read_own =
          let log = log_of v in
          let here = caller_in v objects u in
          let a = appends objects w v reached u set text stamp row points d kept k in
          let s = stands_in log here kept (its_node kept k) stamp row points (stood kept k) a in
          let seen = seen_stamp log here kept (its_node kept k) stamp row points (stood kept k) a in
          let floor = (at_stood kept k).floor in
          ended.has s.0 (own_colours s.0 s.1) own
          (subst (λ (i : Id). In (entry_key stamp i) (line (v.histories (home_of v u) s.0))) (sym id_same) s.2)
          (omega (arith, seen, floor))

      its_read : ReadsAt (log_of x) there (stood kept k) (colours_synced there what) (read_stamp v u cs) raises syncs
          (ended.kept (stood kept k) (at_stood kept k)).after
      its_read = subst (λ (l : List ℕ). ReadsAt (log_of x) there (stood kept k) l (read_stamp v u cs) raises syncs
          (ended.kept (stood kept k) (at_stood kept k)).after) (sym (synced x))
          (ended.kept (stood kept k) (at_stood kept k)).reads

      -- what is so of the own node was told behind the append
      told_so : (Says : Key → List ObjectNode → Type 0) → Says own nodes
          → TellsBehind (log_of x) there kept what row points (read_stamp v u cs) raises syncs Says
          (ended.kept (stood kept k) (at_stood kept k)).after
      told_so Says so = (
        committing,
        (
          set,
          text,
          asks x kept same,
          (
            stamp,
            stood kept k,
            stands kept k,
            (
              its_read,
              keys,
              ended.read,
              nodes,
              listed_objects x reached_x keys ended.nodes,
              subst (λ (i : Id). Says (entry_key stamp i) nodes) id_same so,
            ),
          ),
        ),
      )

      explained : Explains (log_of x) there kept what (tells x keys own row points (read_stamp v u cs) raises syncs) []
          (ended.kept (stood kept k) (at_stood kept k)).after
      explained =
          tells_so x keys own row points (read_stamp v u cs) raises syncs (log_of x) there kept
          (ended.kept (stood kept k) (at_stood kept k)).after read_own (node_of there kept set text)
          (subst (λ (n : ℕ). slice_get (x.nodes u) n ≡ Some (node_of there kept set text)) k.ids
          (next_node (log_of x) there kept (node_of there kept set text) stamp row points (stood kept k)
          (stands kept k))) refl told_so

    did_tell : LeavesReads objects u what w x (tells x keys own row points at raises syncs) [] (state.reads u)
    did_tell = leaves (tells x keys own row points at raises syncs) (λ kept k same.
        let h = ended.kept (stood kept k) (at_stood kept k) in (
          h.after,
          h.keeps,
          subst (λ (n : ℕ). Explains (log_of x) there kept what (tells x keys own row points n raises syncs) [] h.after)
              (sym ended.is) (explained kept k same),
        ))

  -- UNREAD

  hides_so : (kept after : Kept) → HidesRead (log_of x) there kept cs after
      → HidesRead (log_of x) there kept (colours_synced there what) after
  hides_so kept after h = subst (λ (l : List ℕ). HidesRead (log_of x) there kept l after) (sym (synced x)) h

  -- the read behind the append has ended so
  module _ (Goal : State → Type 0)
      (done : (answer : Answer) → LeavesReads objects u what w x answer [] (state.reads u) → Finished S x
      → Goal (answered state command x answer [])) where
    without : ((kept : Kept) → IsKeptBy v u kept → (after : Kept) × IsKeptBy x u after
        × HidesRead (log_of x) there kept cs after)
        → Goal (answered state command x (answers.UnreadNoMemory stamp) [])
    without hides = done (answers.UnreadNoMemory stamp) (leaves (answers.UnreadNoMemory stamp) (λ kept k same.
        let h = hides (hidden_at kept k) (keeps_at kept k) in (
          h.0,
          h.1,
          explains_unruled_without (log_of x) there kept what set text stamp (hidden_at kept k) h.0 committing
              (asks x kept same) (stands_unshown kept k) (hides_so (hidden_at kept k) h.0 h.2),
        ))) did.to.finished

    by_end : (g : Grants) (ends : ReadEnd) → Ends objects S what helping v reached_v fin u free cs distinct look first is_first x ends
        → Goal (answered_by_read tells g state command (entry_key stamp (next_id w u)) row points x ends)
    by_end g (Whole at raises syncs keys) ended =
        choice Goal g.items
        (answered state command x (tells x keys (entry_key stamp (next_id w u)) row points at raises syncs) [])
        (answered state command x (answers.UnreadNoMemory stamp) [])
        (λ _. done (tells x keys (entry_key stamp (next_id w u)) row points at raises syncs)
        (did_tell at raises syncs keys ended) did.to.finished)
        (λ _. without (λ kept k. let h = ended.hidden kept k in (h.after, h.keeps, h.hides)))
    by_end g (Refused colour base) ended =
        done (answers.UnreadTrimmed stamp colour base) (leaves (answers.UnreadTrimmed stamp colour base)
        (λ kept k same.
        let h = ended (hidden_at kept k) (keeps_at kept k) in (
          h.after,
          h.keeps,
          explains_unruled (log_of x) there kept what set text stamp colour base (hidden_at kept k) h.after committing
              (asks x kept same) (stands_unshown kept k)
              (subst (λ (l : List ℕ). RefusesRead (log_of x) there (hidden_at kept k) l colour base h.after)
              (sym (synced x)) h.refuses),
        ))) did.to.finished
    by_end g Unraised ended = without (λ kept k. let h = ended kept k in (h.after, h.keeps, h.hides))

    pub after_telling : (g : Grants)
        → Goal (answered_by_read tells g state command (entry_key stamp (next_id w u)) row points x read.ends)
    after_telling g = by_end g read.ends did.ends
