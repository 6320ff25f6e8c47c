-- What an object keeps beside its client, and what its reads answer.
use Rattle.std.specs.Prelude.{◌≡◌, IsTrue, ℕ, ◌<◌, List, length, Option, Some}
use Rattle.std.specs.List.{All, Contains}
use Rattle.log_node.specs.declared.ids.Colours.{Colours}
use Rattle.log_node.specs.declared.ids.Key.{Key}
use Rattle.log_node.specs.Sets.{members}
use Rattle.object_form.specs.Forms.{is_writer}
use Rattle.object_fold.specs.declared.kept_fold.KeptFold.{KeptFold}
use Rattle.object_fold.specs.Nodes.{ObjectNode}
use Rattle.object_fold.specs.Folds.{last_before, node_with, told_of}
use Rattle.col_core.specs.Log.{Log}
use Rattle.col_core.specs.Keeping.{Kept}
use Rattle.lawful_run.specs.Asks.{rising}
use Rattle.lawful_run.specs.Callers.{Caller}
use Rattle.lawful_run.specs.Reads.{HidesRead, RefusesRead}
use Rattle.lawful_run.specs.Objects.{AreObjectNodes}
use Rattle.log_client.specs.declared.store.Store.{Store}
use Rattle.log_client.specs.declared.client.Client.{Client}
use Rattle.log_client.specs.declared.answers.Appended.{Appended}
use Rattle.log_client.specs.declared.answers.StampedRead.{StampedRead}
use Rattle.log_client.specs.declared.faults.SyncFault.{SyncFault}
use Rattle.log_client.specs.declared.faults.SyncFault.TheVariants as sync_faults
use Rattle.log_client.specs.declared.object_fault.ObjectFault.{ObjectFault}
use Rattle.log_client.specs.Appends.{AppendsAs}
use Rattle.log_client.specs.Calls.{AnswersEach, IsExplained}
use Rattle.log_client.specs.Reading.{raised_colours, synced_colours}
use Rattle.log_client.specs.StampedReads.{CanBeNamed, HasRead, IsAboveSeen, ReadsAs, ReadsOn}
use Rattle.log_client.specs.Refusals.{RefusedBy, Refusals, never}
use Rattle.log_client.specs.Objects.{KeepsRead, NotAppended, StandsThen}

-- each node's key is one that a version can name
abbrev pub AreWriters : List ObjectNode → Type 0
AreWriters nodes = All (λ (node : ObjectNode). IsTrue (is_writer (Some node.key))) nodes

-- What is folded are nodes that the client has read of these colours, with keys that a version can name.
abbrev pub KeepsFold : {F : Type 0} → (F → List ObjectNode → Type 0) → Client → List ℕ → KeptFold F → Type 0
KeepsFold Holds c colours kept =
    (nodes : List ObjectNode) × Holds kept.state nodes × KeepsRead c colours kept.last nodes × AreWriters nodes

-- A stamped read of these colours, one or more, was made, and its answer has the nodes behind the last key, with keys that a
-- version can name.
pub record Fetches (s : Store) (c d : Client) (colours : List ℕ) (last : Option Key) (read : StampedRead) : Type 0 where
  pub some : 0 < length colours
  pub above : IsAboveSeen c colours read.stamp
  pub reads : ReadsOn s c d colours last read
  pub named : CanBeNamed read.items

-- each of these colours is one of the object's
abbrev pub AreOfObject : List ℕ → List ℕ → Type 0
AreOfObject colours own = (colour : ℕ) → Contains own colour → Contains (rising colours) colour

-- what a stamped read had, in the order of the region, of which it answers what comes behind the last key
abbrev pub HasNodesRead : List ℕ → Option Key → StampedRead → (List ObjectNode → Type 0) → Log → Caller → Kept → Kept → Type 0
HasNodesRead colours last read Has log caller kept after =
    (keys : List Key) × ReadsAs colours last read keys log caller kept after
    × (nodes : List ObjectNode) × AreObjectNodes log keys nodes × Has nodes

-- A stamped read of an object with these colours was made, it answers what comes behind the last key, and this is so of its
-- nodes.
abbrev pub ReadsNodes : Store → Client → Client → List ℕ → Option Key → StampedRead → (List ObjectNode → Type 0) → Type 0
ReadsNodes s c d colours last read Has = IsExplained s c d (HasNodesRead (rising colours) last read Has)

-- The answer of a stamped read of an object with these colours tells of a raise and a sync of each, in rising order, and of each
-- sync as the client's own is answered.
pub record ShowsEach (c d : Client) (colours : List ℕ) (read : StampedRead) : Type 0 where
  pub raises : raised_colours read.raises ≡ rising colours
  pub syncs : synced_colours read.syncs ≡ rising colours
  pub played : AnswersEach c d read.syncs

-- A stamped read of these colours was made, and that is what the node with this key among what it had is told. It answers what
-- comes behind the last key, or all where the node was folded already.
abbrev pub AnswersOwnNode : {T : Type 0} → (List ObjectNode → ObjectNode → Option T) → Store → Client → Client → List ℕ → Option Key
    → Key → Option T → StampedRead → Type 0
AnswersOwnNode told s c d colours last own answer read =
    (keys : List Key) × HasRead d colours read.stamp keys
    × IsExplained s c d (λ log caller kept after.
    ReadsAs colours (last_before last own) read keys log caller kept after
    × (nodes : List ObjectNode) × AreObjectNodes log keys nodes × (answer ≡ told_of told nodes own))

-- The own node is among these, with its text, and that is what it is told.
pub record IsOwn {T : Type 0} (told : List ObjectNode → ObjectNode → Option T) (key : Key) (text : List ℕ) (answer : Option T)
    (nodes : List ObjectNode) : Type 0 where
  pub node : ObjectNode
  pub among : node_with key nodes ≡ Some node
  pub key_is : node.key ≡ key
  pub text_is : node.text ≡ text
  pub answer_is : answer ≡ told_of told nodes key

-- A node with this text stands in the colours of the set, and the stamped read behind it says what it is told.
abbrev pub TellsOwn : {T : Type 0} → (List ObjectNode → ObjectNode → Option T) → Colours → List ℕ → List ℕ → Option Key
    → Option T → Appended → StampedRead → Log → Caller → Kept → Kept → Type 0
TellsOwn told set text colours last answer a read log caller kept after =
    (stood : Kept) × AppendsAs set text a log caller kept stood
    × HasNodesRead colours (last_before last a.stood.key) read (IsOwn told a.stood.key text answer) log caller stood after

-- why the own node was told nothing, which stands under the stamp in these colours; the object has those
abbrev pub UntoldLeaves : Store → Client → Client → List ℕ → List ℕ → ℕ → List ℕ → SyncFault → Type 0
UntoldLeaves s c d own text stamp colours (sync_faults.Trimmed colour base) =
    (set : Colours) × (members set ≡ own)
    × IsExplained s c d (StandsThen set text stamp (λ log caller stood after.
    RefusesRead log caller stood colours colour base after))
UntoldLeaves s c d own text stamp colours sync_faults.NoMemory =
    (set : Colours) × (members set ≡ own)
    × IsExplained s c d (StandsThen set text stamp (λ log caller stood after. HidesRead log caller stood colours after))

-- what is said where an append to these colours of an object with those was refused, or the read behind it
abbrev pub tell_refusals : Store → Client → Client → List ℕ → List ℕ → List ℕ → Refusals
tell_refusals s c d own text colours = record never {
  append = NotAppended s c d own text;
  unread = λ stamp why. UntoldLeaves s c d own text stamp (rising colours) why;
}

-- why these two were refused
abbrev pub TellRefused : Store → Client → Client → List ℕ → List ℕ → List ℕ → ObjectFault → Type 0
TellRefused s c d own text colours = RefusedBy (tell_refusals s c d own text colours)
