-- What a client keeps of its reads: no command changes it but a read that found something, and those that let a read go.
use Rattle.std.proofs.Common.{◌≡◌, ◌⊎◌, ℕ, ◌≤◌, List, [], ◌∷◌, length, Option, Some, None, inl, inr, refl, ap, ◌∙◌, arith, length-append}
use Rattle.std.specs.Prelude.{◌≢◌}
use Rattle.log_node.specs.declared.ids.Counts.{Counts}
use Rattle.log_node.specs.declared.node.At.{At}
use Rattle.log_node.specs.declared.node.At.TheVariants.{Event, Look}
use Rattle.log_node.specs.declared.node.Node.{Node}
use Rattle.log_node.specs.Seen.{PlacedNode}
use Rattle.log_node.specs.Sets.{members}
use Rattle.part_fold.specs.Decisions.{decision_text}
use Rattle.col_core.specs.Log.{Log}
use Rattle.col_core.specs.Keeping.{Kept, kept_after_event}
use Rattle.script_text.specs.declared.commands.What.{What}
use Rattle.script_text.specs.declared.commands.What.TheVariants as whats
use Rattle.script_text.specs.declared.script.Command.{Command}
use Rattle.report_text.specs.declared.report.Answer.{Answer}
use Rattle.report_text.specs.declared.report.Answer.TheVariants as answers
use Rattle.report_text.specs.declared.report.Ended.{Ended}
use Rattle.report_text.specs.declared.report.Ended.TheVariants as ends
use Rattle.report_text.specs.declared.report.KeyAnswer.{KeyAnswer}
use Rattle.report_text.specs.declared.report.PointPiece.{PointPiece}
use Rattle.report_text.specs.declared.report.RaisePiece.{RaisePiece}
use Rattle.report_text.specs.declared.report.ReplyLine.{ReplyLine}
use Rattle.report_text.specs.declared.report.SyncPiece.{SyncPiece}
use Rattle.lawful_run.specs.Callers.{Caller, node_of}
use Rattle.lawful_run.specs.Asks.{Manner, Appending, Guarding, Stopping, Syncing, Moving, Getting, Reading, Committing, Dequeuing, Deciding, rising}
use Rattle.lawful_run.specs.Deeds.{colours_synced, manner_of}
use Rattle.lawful_run.specs.Appends.{Appends, AppendsUnshown, one_unshown, several_unshown, HasNoStamp, none_for_one, none_for_several}
use Rattle.lawful_run.specs.Moves.{with_places, kept_after_pull}
use Rattle.lawful_run.specs.Reads.{kept_after_place, kept_after_piece, Raises, ClearSyncs, ReadsAt, HidesSyncs, HidesRead, RefusesRead}
use Rattle.lawful_run.specs.Refusals.{Hides, HidesDecide, Refuses, RefusesDecide, FindsNoMemory, nothing, gone, gave, hidden}
use Rattle.lawful_run.specs.Parts.{EndsAs}
use Rattle.lawful_run.specs.Stops.{Stops, stopped_at_once, stopped_after}
use Rattle.lawful_run.specs.Explains.{Explains, Explained, start, next}
use Rattle.lawful_run.proofs.AppendFacts.{points_leave}
use Rattle.lawful_run.proofs.HiddenReads.{kept_after_hidden}
use Rattle.lawful_run.proofs.Used.{answer_use}

-- the same reads are kept
abbrev pub KeepsReads : Kept → Kept → Type 0
KeepsReads kept after = after.reads ≡ kept.reads

same_kept : (kept after : Kept) → after ≡ kept → KeepsReads kept after
same_kept kept after e = ap (λ (k : Kept). k.reads) e

-- where what is kept afterwards is this
so_kept : (kept middle after : Kept) → after ≡ middle → KeepsReads kept middle → KeepsReads kept after
so_kept kept middle after e r = ap (λ (k : Kept). k.reads) e ∙ r

place_keeps : (kept : Kept) (region colour : ℕ) (at : At) → KeepsReads kept (kept_after_place kept region colour at)
place_keeps kept region colour (Event place) = refl
place_keeps kept region colour (Look events) = refl

raises_keep : (log : Log) (caller : Caller) (stamp : ℕ) (kept : Kept) (raises : List RaisePiece) (after : Kept)
    → Raises log caller stamp kept raises after → KeepsReads kept after
raises_keep log caller stamp kept [] after r = same_kept kept after r
raises_keep log caller stamp kept (raise ∷ raises) after r =
    raises_keep log caller stamp (kept_after_place kept caller.own raise.colour raise.at) raises after r.1
    ∙ place_keeps kept caller.own raise.colour raise.at

clears_keep : (log : Log) (caller : Caller) (stamp : ℕ) (kept : Kept) (syncs : List SyncPiece) (after : Kept)
    → ClearSyncs log caller stamp kept syncs after → KeepsReads kept after
clears_keep log caller stamp kept [] after r = same_kept kept after r
clears_keep log caller stamp kept (sync ∷ syncs) after r =
    clears_keep log caller stamp (kept_after_piece log caller kept sync) syncs after r.2

pub reads_keep : (log : Log) (caller : Caller) (kept : Kept) (colours : List ℕ) (stamp : ℕ) (raises : List RaisePiece)
    (syncs : List SyncPiece) (after : Kept) → ReadsAt log caller kept colours stamp raises syncs after
    → KeepsReads kept after
reads_keep log caller kept colours stamp raises syncs after r =
    ap (λ (k : Kept). k.reads) r.after_is
    ∙ (clears_keep log caller stamp r.raised syncs r.synced r.syncing
    ∙ raises_keep log caller stamp kept raises r.raised r.raising)

syncs_keep : (log : Log) (caller : Caller) (kept : Kept) (colours : List ℕ) (after : Kept)
    → HidesSyncs log caller kept colours after → KeepsReads kept after
syncs_keep log caller kept [] after h = same_kept kept after h
syncs_keep log caller kept (colour ∷ colours) after h =
    syncs_keep log caller (kept_after_hidden kept colour h.0 h.1) colours after h.3

hidden_keeps : (log : Log) (caller : Caller) (kept : Kept) (colours : List ℕ) (after : Kept)
    → HidesRead log caller kept colours after → KeepsReads kept after
hidden_keeps log caller kept colours after h =
    let synced = syncs_keep log caller kept colours h.synced h.syncing in
    elim h.after_is [
      | inl e ↦ so_kept kept _ after e synced
      | inr e ↦ so_kept kept _ after e synced
    ]

decides_keep : (log : Log) (caller : Caller) (kept : Kept) (colours : List ℕ) (after : Kept)
    → HidesDecide log caller kept colours after → KeepsReads kept after
decides_keep log caller kept [] after h = absurd h
decides_keep log caller kept (first ∷ all) after h =
    let synced = syncs_keep log caller kept (first ∷ []) h.0 h.1 in
    elim h.2 [
      | inl e ↦ so_kept kept h.0 after e synced
      | inr r ↦ hidden_keeps log caller h.0 all after r ∙ synced
    ]

hides_keep : (log : Log) (caller : Caller) (kept : Kept) (colours : List ℕ) (manner : Manner) (after : Kept)
    → Hides log caller kept colours manner after → KeepsReads kept after
hides_keep log caller kept colours Appending after h = same_kept kept after h
hides_keep log caller kept colours Guarding after h = same_kept kept after h
hides_keep log caller kept colours Stopping after h = same_kept kept after h
hides_keep log caller kept colours Syncing after h = same_kept kept after h
hides_keep log caller kept colours Moving after h = same_kept kept after h
hides_keep log caller kept colours Getting after h = syncs_keep log caller kept colours after h
hides_keep log caller kept colours Reading after h = hidden_keeps log caller kept colours after h
hides_keep log caller kept colours Committing after h = hidden_keeps log caller kept colours after h
hides_keep log caller kept colours Dequeuing after h = syncs_keep log caller kept colours after h
hides_keep log caller kept colours Deciding after h = decides_keep log caller kept colours after h

refused_keeps : (log : Log) (caller : Caller) (kept : Kept) (colours : List ℕ) (colour : ℕ) (shown : Counts) (after : Kept)
    → RefusesRead log caller kept colours colour shown after → KeepsReads kept after
refused_keeps log caller kept colours colour shown after r =
    clears_keep log caller r.stamp r.raised r.syncs after r.syncing
    ∙ raises_keep log caller r.stamp kept r.raises r.raised r.raising

refused_decide_keeps : (log : Log) (caller : Caller) (kept : Kept) (colours : List ℕ) (colour : ℕ) (shown : Counts)
    (after : Kept) → RefusesDecide log caller kept colours colour shown after → KeepsReads kept after
refused_decide_keeps log caller kept [] colour shown after r = absurd r
refused_decide_keeps log caller kept (first ∷ all) colour shown after r = elim r [
  | inl at_once ↦ same_kept kept after at_once.2
  | inr behind ↦ refused_keeps log caller behind.0 all colour shown after behind.2
      ∙ syncs_keep log caller kept (first ∷ []) behind.0 behind.1
]

refuses_keep : (log : Log) (caller : Caller) (kept : Kept) (colours : List ℕ) (manner : Manner) (colour : ℕ)
    (shown : Counts) (after : Kept) → Refuses log caller kept colours manner colour shown after → KeepsReads kept after
refuses_keep log caller kept colours Appending colour shown after r = absurd r
refuses_keep log caller kept colours Guarding colour shown after r = absurd r
refuses_keep log caller kept colours Stopping colour shown after r = absurd r
refuses_keep log caller kept colours Syncing colour shown after r = same_kept kept after r.2
refuses_keep log caller kept colours Moving colour shown after r = absurd r
refuses_keep log caller kept colours Getting colour shown after r = syncs_keep log caller kept colours after r.2
refuses_keep log caller kept colours Reading colour shown after r =
    refused_keeps log caller kept colours colour shown after r
refuses_keep log caller kept colours Committing colour shown after r =
    refused_keeps log caller kept colours colour shown after r
refuses_keep log caller kept colours Dequeuing colour shown after r = syncs_keep log caller kept colours after r.2
refuses_keep log caller kept colours Deciding colour shown after r =
    refused_decide_keeps log caller kept colours colour shown after r

module _ (log : Log) (caller : Caller) (kept : Kept) where
  appends_keep : (node : Node) (stamp : ℕ) (row : Option ℕ) (points : List PointPiece) (after : Kept)
      → Appends log caller kept node stamp row points after → KeepsReads kept after
  appends_keep node stamp None [] after a = absurd a
  appends_keep node stamp None (p ∷ []) after a = so_kept kept _ after a.4 refl
  appends_keep node stamp None (p ∷ q ∷ points) after a = absurd a
  appends_keep node stamp (Some number) points after a =
      so_kept kept _ after a.3 (points_leave caller.own kept points).reads

  unshown_keeps : (node : Node) (stamp : ℕ) (after : Kept) → AppendsUnshown log caller kept node stamp after
      → KeepsReads kept after
  unshown_keeps node stamp after (one_unshown colour place position only a) = refl
  unshown_keeps node stamp after (several_unshown places begins outcome stand above) = refl

  no_stamp_keeps : (node : Node) (colour : ℕ) (after : Kept) → HasNoStamp log caller kept node colour after
      → KeepsReads kept after
  no_stamp_keeps node colour after (none_for_one only h) = refl
  no_stamp_keeps node colour after (none_for_several places g) = refl

  stop_keeps : (node : Node) (steps : ℕ) (after : Kept) → Stops log caller kept node steps after
      → KeepsReads kept after
  stop_keeps node steps after stopped_at_once = refl
  stop_keeps node steps after (stopped_after n places s) = refl

  ended_keeps : (what : What) (said : List ℕ) (ended : Ended) (after : Kept)
      → EndsAs log caller kept what said ended after → KeepsReads kept after
  ended_keeps what said (ends.Stood stamp point) after e =
      appends_keep (node_of caller kept e.0 e.1) stamp None (point ∷ []) after e.3.1
  ended_keeps what said (ends.StampEnd colour) after e = no_stamp_keeps (node_of caller kept e.0 e.1) colour after e.3.1
  ended_keeps what said ends.NoMemory after e = same_kept kept after e

  memory_keeps : (what : What) (after : Kept) → FindsNoMemory log caller kept what after → KeepsReads kept after
  memory_keeps what after nothing = refl
  memory_keeps what after (gone colours text places asks g) = refl
  memory_keeps what after (gave region colour looked too_low gives is g) = refl
  memory_keeps what after (hidden other h) =
      hides_keep log caller kept (colours_synced caller what) (manner_of what) other h

module _ (log : Log) (caller : Caller) (kept : Kept) where
  -- Whatever an answer says, the client keeps the same reads, unless it tells of a read that found something.
  pub explained_keeps : (what : What) (answer : Answer) (nodes : List PlacedNode) (after : Kept)
      → Explains log caller kept what answer nodes after
      → ((object : ℕ) (asked : List (List ℕ)) → what ≢ whats.Read object asked) ⊎ ((stamp : ℕ)
      (shown : List KeyAnswer) (raises : List RaisePiece) (syncs : List SyncPiece)
      → answer ≢ answers.GotKeys stamp shown raises syncs)
      → KeepsReads kept after
  explained_keeps what answers.NoMemory nodes after e other = memory_keeps log caller kept what after e.1
  explained_keeps what (answers.Stood stamp row points) nodes after e other =
      appends_keep log caller kept (node_of caller kept e.2.0 e.2.1) stamp row points after e.2.3
  explained_keeps what (answers.StampEnd colour) nodes after e other =
      no_stamp_keeps log caller kept (node_of caller kept e.2.0 e.2.1) colour after e.2.3
  explained_keeps what (answers.Full used) nodes after e other = same_kept kept after e.2
  explained_keeps what (answers.Stopped steps) nodes after e other =
      stop_keeps log caller kept (node_of caller kept e.1 e.2) steps after e.4
  explained_keeps what (answers.Synced sync plays) nodes after e other = so_kept kept _ after e.4 refl
  explained_keeps what (answers.Scanned stamp count raises syncs) nodes after e other =
      reads_keep log caller kept (members e.0) stamp raises syncs after e.3
  explained_keeps what (answers.Pulled count give carry) nodes after e other =
      so_kept kept (kept_after_pull kept caller.own e.1 e.2 e.4 carry e.6) after e.8
      (place_keeps (kept_after_event (with_places kept e.1 e.2 e.6) e.1 e.2 e.4) caller.own e.2 carry)
  explained_keeps what answers.SameRegion nodes after e other = same_kept kept after e.1
  explained_keeps what (answers.Based at base) nodes after e other = so_kept kept _ after e.6 refl
  explained_keeps what (answers.Got value sync) nodes after e other = so_kept kept _ after e.3 refl
  explained_keeps what (answers.GotMany values sync) nodes after e other = so_kept kept _ after e.7 refl
  explained_keeps what (answers.GotKeys stamp shown raises syncs) nodes after e other =
      let t = e.2 in
      elim t.5 [
        | inl g ↦ so_kept kept e.1 after g.4
            (reads_keep log caller kept (colours_synced caller what) stamp raises syncs e.1 t.0)
        | inr g ↦ elim other [
          | inl none ↦ absurd (none g.0 g.1 g.2)
          | inr none ↦ absurd (none stamp shown raises syncs refl)
        ]
      ]
  explained_keeps what (answers.Ruled conflict stamp row points read_stamp raises syncs) nodes after e other =
      let a = e.1.1 in
      let s = a.3 in
      reads_keep log caller s.1 (colours_synced caller what) read_stamp raises syncs after s.3.0
      ∙ appends_keep log caller kept (node_of caller kept a.0 a.1) s.0 row points s.1 s.2
  explained_keeps what (answers.Changed failed stamp row points read_stamp raises syncs) nodes after e other =
      let a = e.1.1 in
      let s = a.3 in
      reads_keep log caller s.1 (colours_synced caller what) read_stamp raises syncs after s.3.0
      ∙ appends_keep log caller kept (node_of caller kept a.0 a.1) s.0 row points s.1 s.2
  explained_keeps what (answers.Listed names stamp raises syncs) nodes after e other =
      reads_keep log caller kept (colours_synced caller what) stamp raises syncs after e.4.0
  explained_keeps what (answers.Undecided stamp sync) nodes after e other = so_kept kept _ after e.3 refl
  explained_keeps what (answers.Decided commits stamp sync read_stamp raises syncs ended) nodes after e other =
      let d = e.3 in
      ended_keeps log caller d.read what (decision_text (record { key = d.waits; commits = commits })) ended after d.ends
      ∙ reads_keep log caller (kept_after_piece log caller kept sync) (rising e.1) read_stamp raises syncs d.read d.tells.0
  explained_keeps what (answers.Moved lined waiting colour events) nodes after e other = so_kept kept _ after e.5 refl
  explained_keeps what answers.NoTx nodes after e other = same_kept kept after e.1
  explained_keeps what (answers.Took value point sync) nodes after e other =
      let s = e.3.3 in
      so_kept kept _ after s.5 (appends_keep log caller kept (node_of caller kept e.3.0 e.3.1) s.0 None (point ∷ []) s.1 s.2)
  explained_keeps what (answers.UnreadTrimmed stamp colour base) nodes after e other =
      let s = e.2.3 in
      refuses_keep log caller s.0 (colours_synced caller what) (manner_of what) colour base after s.2
      ∙ unshown_keeps log caller kept (node_of caller kept e.2.0 e.2.1) stamp s.0 s.1
  explained_keeps what (answers.UnreadNoMemory stamp) nodes after e other =
      let s = e.2.3 in
      hides_keep log caller s.0 (colours_synced caller what) (manner_of what) after s.2
      ∙ unshown_keeps log caller kept (node_of caller kept e.2.0 e.2.1) stamp s.0 s.1
  explained_keeps what (answers.Trimmed colour base) nodes after e other =
      refuses_keep log caller kept (colours_synced caller what) (manner_of what) colour base after e.2
  explained_keeps what (answers.NotHome home) nodes after e other = same_kept kept after e.1

-- a client has no more ids than it has asked commands
pub explained_ids : {log : Log} {caller : Caller} {commands : List Command} {replies : List ReplyLine} {kept : Kept}
    → Explained log caller commands replies kept → kept.ids ≤ length commands
explained_ids start = omega arith
explained_ids {log} {caller} (next {commands} {replies} {kept} {after} command reply before answers) =
    let r = explained_ids before in
    let total = length-append commands (command ∷ []) in
    elim (answer_use log caller kept command reply after answers) [
      | inl q ↦ let s = q.0.ids in omega (arith, r, total, s)
      | inr u ↦ let s = u.ids in omega (arith, r, total, s)
    ]
