-- What the reply to a decide says of the node that it appended; and which answers tell nothing of where a node stands.
use Rattle.std.proofs.Common.{◌≡◌, inl, inr, ℕ, Bool, List, Some, slice_get, refl, sym, subst}
use Rattle.std.specs.Prelude.{◌≢◌}
use Rattle.log_node.specs.declared.ids.Colours.{Colours}
use Rattle.log_node.specs.declared.ids.Key.{Key}
use Rattle.log_node.specs.declared.node.Node.{Node}
use Rattle.log_node.specs.Seen.{PlacedNode}
use Rattle.object_fold.specs.Nodes.{ObjectNode}
use Rattle.part_fold.specs.Decisions.{decision_text}
use Rattle.col_core.specs.Keeping.{Kept}
use Rattle.col_core.specs.Log.{Log}
use Rattle.script_text.specs.declared.script.Kind.TheVariants as kinds
use Rattle.script_text.specs.declared.commands.What.{What}
use Rattle.script_text.specs.declared.commands.What.TheVariants as whats
use Rattle.report_text.specs.declared.report.Answer.{Answer}
use Rattle.report_text.specs.declared.report.Answer.TheVariants as answers
use Rattle.report_text.specs.declared.report.Ended.TheVariants as ends
use Rattle.report_text.specs.declared.report.RaisePiece.{RaisePiece}
use Rattle.report_text.specs.declared.report.SyncPiece.{SyncPiece}
use Rattle.lawful_run.specs.Callers.{Caller}
use Rattle.lawful_run.specs.Asks.{Appending, Committing, Deciding, Dequeuing, Guarding, kind_of_object, rising}
use Rattle.lawful_run.specs.Explains.{Explains}
use Rattle.lawful_run.specs.Objects.{AreObjectNodes}
use Rattle.lawful_run.specs.Parts.{IsRuledAs}
use Rattle.lawful_run.specs.Readings.{Nowhere, Perhaps, told}
use Rattle.lawful_run.specs.Reads.{AreKeysRead, ReadsAt, kept_after_piece}

-- a decision that stands: on what, by which read, and in which node
pub record SaysDecided (log : Log) (caller : Caller) (kept : Kept) (object : ℕ) : Type 0 where
  pub home : ℕ
  pub colours : List ℕ
  pub kind : kind_of_object caller object ≡ Some (kinds.Parts home colours)
  pub waits : Key
  pub commits : Bool
  pub before : Kept
  pub same_ids : before.ids ≡ kept.ids
  pub stamp : ℕ
  pub raises : List RaisePiece
  pub syncs : List SyncPiece
  pub read : Kept
  pub reads : ReadsAt log caller before (rising colours) stamp raises syncs read
  pub keys : List Key
  pub are_keys : AreKeysRead log caller stamp syncs keys
  pub nodes : List ObjectNode
  pub are_nodes : AreObjectNodes log keys nodes
  pub ruled : IsRuledAs waits commits nodes
  pub node : Node
  pub there : slice_get (log.nodes caller.client) read.ids ≡ Some node
  pub says : node.text ≡ decision_text (record { key = waits; commits = commits })

appending : Deciding ≡ Appending → ⊥
appending e = cc

guarding : Deciding ≡ Guarding → ⊥
guarding e = cc

committing : Deciding ≡ Committing → ⊥
committing e = cc

dequeuing : Deciding ≡ Dequeuing → ⊥
dequeuing e = cc

pub decided : (log : Log) (caller : Caller) (kept : Kept) (object : ℕ) (key : List ℕ) (answer : Answer)
    (nodes : List PlacedNode) (after : Kept) → Explains log caller kept (whats.Decide object key) answer nodes after
    → told answer ≢ Nowhere → SaysDecided log caller kept object
decided log caller kept object key (answers.Decided commits stamp sync read_stamp raises syncs (ends.Stood at point)) nodes after x t =
    let asks = x.2 in
    let same : object ≡ asks.0 = let e = asks.2 in cc (e) in
    let d = x.3 in
    let read = d.tells in
    let stood = d.ends in record {
      home = asks.3;
      colours = x.1;
      kind = subst (λ (o : ℕ). kind_of_object caller o ≡ Some (kinds.Parts asks.3 x.1)) (sym same) asks.4;
      waits = d.waits;
      commits = commits;
      before = kept_after_piece log caller kept sync;
      same_ids = refl;
      stamp = read_stamp;
      raises = raises;
      syncs = syncs;
      read = d.read;
      reads = read.0;
      keys = read.1;
      are_keys = read.2;
      nodes = read.3;
      are_nodes = read.4;
      ruled = read.5;
      node = _;
      there = stood.3.1.3.next;
      says = stood.3.0;
    }
decided log caller kept object key (answers.Decided commits stamp sync read_stamp raises syncs (ends.StampEnd colour)) nodes after x t =
    absurd (t refl)
decided log caller kept object key (answers.Decided commits stamp sync read_stamp raises syncs ends.NoMemory) nodes after x t =
    absurd (t refl)
decided log caller kept object key (answers.Stood stamp row points) nodes after x t =
    absurd (elim x.1 [ inl e ↦ appending e | inr e ↦ guarding e.0 ])
decided log caller kept object key (answers.Ruled conflict stamp row points read_stamp raises syncs) nodes after x t =
    absurd (committing x.1.0)
decided log caller kept object key (answers.Changed failed stamp row points read_stamp raises syncs) nodes after x t =
    absurd (committing x.1.0)
decided log caller kept object key (answers.Took value point sync) nodes after x t = absurd (dequeuing x.1)
decided log caller kept object key (answers.UnreadTrimmed stamp colour base) nodes after x t =
    absurd (elim x.1 [ inl e ↦ committing e | inr e ↦ dequeuing e ])
decided log caller kept object key (answers.UnreadNoMemory stamp) nodes after x t =
    absurd (elim x.1 [ inl e ↦ committing e | inr e ↦ dequeuing e ])
decided log caller kept object key (answers.Stopped steps) nodes after x t =
    absurd (let e = x.3 in let f : ⊥ = cc (e) in f)
decided log caller kept object key _ nodes after x t = absurd (t refl)

-- no command but a stop leaves open whether its node stands
pub no_stop : (log : Log) (caller : Caller) (kept : Kept) (what : What) (answer : Answer) (nodes : List PlacedNode)
    (after : Kept) → Explains log caller kept what answer nodes after
    → ((steps : ℕ) (colours : Colours) (text : List ℕ) → what ≢ whats.Stop steps colours text) → told answer ≢ Perhaps
no_stop log caller kept what (answers.Stopped steps) nodes after x other e = other steps x.1 x.2 x.3
no_stop log caller kept what (answers.Decided commits stamp sync read_stamp raises syncs (ends.Stood at point)) nodes after x other e = cc
no_stop log caller kept what (answers.Decided commits stamp sync read_stamp raises syncs (ends.StampEnd colour)) nodes after x other e = cc
no_stop log caller kept what (answers.Decided commits stamp sync read_stamp raises syncs ends.NoMemory) nodes after x other e = cc
no_stop log caller kept what _ nodes after x other e = cc
