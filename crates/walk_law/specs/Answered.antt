-- Which answers a command can have, told by the kind of its object and by the colours on which it appends.
use Rattle.std.specs.Prelude.{◌≡◌, ◌⊎◌, IsTrue, ℕ, nat_lt, List, [], ◌∷◌, length, Option, Some, None}
use Rattle.std.specs.List.{Contains}
use Rattle.log_node.specs.declared.ids.Colours.{Colours}
use Rattle.log_node.specs.Seen.{PlacedNode}
use Rattle.object_fold.specs.Maps.{Value}
use Rattle.object_fold.specs.Nodes.{shard_of}
use Rattle.script_text.specs.declared.script.Kind.{Kind}
use Rattle.script_text.specs.declared.script.Kind.TheVariants as kinds
use Rattle.script_text.specs.declared.commands.What.{What}
use Rattle.script_text.specs.declared.commands.What.TheVariants as whats
use Rattle.report_text.specs.declared.report.Answer.{Answer}
use Rattle.report_text.specs.declared.report.Answer.TheVariants as answers
use Rattle.report_text.specs.declared.report.Ended.{Ended}
use Rattle.report_text.specs.declared.report.KeyAnswer.{KeyAnswer}
use Rattle.report_text.specs.declared.report.RaisePiece.{RaisePiece}
use Rattle.report_text.specs.declared.report.SyncPiece.{SyncPiece}
use Rattle.lawful_run.specs.Asks.{Appending, Guarding, Stopping, Committing, Dequeuing, object_colours, object_home}
use Rattle.lawful_run.specs.Deeds.{AsksForKey, manner_of}
use Rattle.run_rules.specs.Answering.{HasPoints, HasReads, CanEnd}
use Rattle.walk_law.specs.Asking.{all_of, colours_in, keys_shown, shards_of}

-- the command gets by one key, of which this colour is the shard
abbrev pub GetsShard : List ℕ → What → SyncPiece → Type 0
GetsShard own what sync = (object : ℕ) × (key : List ℕ) × AsksForKey what object key × (shard_of own key ≡ sync.colour)

-- the command asks for a decision, and this colour is the shard of its key
abbrev pub DecidesShard : List ℕ → What → SyncPiece → Type 0
DecidesShard own what sync =
    (object : ℕ) × (key : List ℕ) × (what ≡ whats.Decide object key) × (sync.colour ≡ shard_of own key)

-- a get of a map, a peek or a decide, of an object of this kind
abbrev pub CanGetOf : Option Kind → What → Value → SyncPiece → Type 0
CanGetOf (Some (kinds.Map home colours)) what value sync = GetsShard colours what sync
CanGetOf (Some (kinds.Parts home colours)) what value sync =
    GetsShard colours what sync ⊎ (DecidesShard colours what sync × (value ≡ None))
CanGetOf _ what value sync = ⊥

-- a get of a causal map of this colour
abbrev pub CanGetMany : Option Kind → What → SyncPiece → Type 0
CanGetMany (Some (kinds.Causal colour)) what sync =
    (colour ≡ sync.colour) × ((object : ℕ) × (key : List ℕ) × AsksForKey what object key)
CanGetMany _ what sync = ⊥

-- a peek
abbrev pub CanWait : Option Kind → What → SyncPiece → Type 0
CanWait (Some (kinds.Parts home colours)) what sync = GetsShard colours what sync
CanWait _ what sync = ⊥

-- a decide
abbrev pub CanDecide : Option Kind → What → List ℕ → SyncPiece → List RaisePiece → List SyncPiece → Ended → Type 0
CanDecide (Some (kinds.Parts home colours)) what asked sync raises syncs ended =
    DecidesShard colours what sync × HasReads (all_of colours) raises syncs × CanEnd asked ended
CanDecide _ what asked sync raises syncs ended = ⊥

-- a read of keys that are shown
abbrev pub ReadsKeys : List ℕ → What → List KeyAnswer → List RaisePiece → List SyncPiece → Type 0
ReadsKeys own (whats.GetAll object keys) shown raises syncs =
    (keys_shown shown ≡ keys) × HasReads (shards_of own keys) raises syncs
ReadsKeys own (whats.Read object keys) shown raises syncs =
    (keys_shown shown ≡ keys) × HasReads (all_of own) raises syncs
ReadsKeys own _ shown raises syncs = ⊥

-- the command reads or plays, and syncs this colour
abbrev pub SyncsIn : List ℕ → What → ℕ → Type 0
SyncsIn own (whats.Sync synced) colour = synced ≡ colour
SyncsIn own (whats.Scan set) colour = Contains (colours_in set) colour
SyncsIn own (whats.Get object key) colour = Contains (shards_of own (key ∷ [])) colour
SyncsIn own (whats.GetAll object keys) colour = Contains (shards_of own keys) colour
SyncsIn own (whats.Read object keys) colour = Contains (all_of own) colour
SyncsIn own (whats.Ls object path) colour = Contains (all_of own) colour
SyncsIn own (whats.Peek object key) colour = Contains (shards_of own (key ∷ [])) colour
SyncsIn own (whats.Decide object key) colour = (shard_of own key ≡ colour) ⊎ Contains (all_of own) colour
SyncsIn own _ colour = ⊥

-- the command, which appends to these colours, can have the answer, where no nodes are shown
abbrev pub CanBeAnswered : Option Kind → What → List ℕ → Answer → Type 0
CanBeAnswered kind what asked answers.NoMemory = Unit {0}
CanBeAnswered kind what asked (answers.Stood stamp row points) =
    ((manner_of what ≡ Appending) ⊎ (manner_of what ≡ Guarding)) × HasPoints asked row points
CanBeAnswered kind what asked (answers.StampEnd colour) = Contains asked colour
CanBeAnswered kind what asked (answers.Full used) = IsTrue (nat_lt 1 (length asked))
CanBeAnswered kind what asked (answers.Stopped steps) = manner_of what ≡ Stopping
CanBeAnswered kind what asked (answers.Synced sync plays) = what ≡ whats.Sync sync.colour
CanBeAnswered kind what asked (answers.Scanned stamp count raises syncs) =
    (colours : Colours) × (what ≡ whats.Scan colours) × HasReads (colours_in colours) raises syncs
CanBeAnswered kind what asked (answers.Pulled count give carry) =
    (region : ℕ) × (colour : ℕ) × (what ≡ whats.Pull region colour)
CanBeAnswered kind what asked answers.SameRegion = (region : ℕ) × (colour : ℕ) × (what ≡ whats.Pull region colour)
CanBeAnswered kind what asked (answers.Based at base) = (colour : ℕ) × (what ≡ whats.Trim colour)
CanBeAnswered kind what asked (answers.Got value sync) = CanGetOf kind what value sync
CanBeAnswered kind what asked (answers.GotMany values sync) = CanGetMany kind what sync
CanBeAnswered kind what asked (answers.GotKeys stamp shown raises syncs) =
    ReadsKeys (object_colours kind) what shown raises syncs
CanBeAnswered kind what asked (answers.Ruled conflict stamp row points read_stamp raises syncs) =
    (manner_of what ≡ Committing) × HasPoints asked row points × HasReads (all_of (object_colours kind)) raises syncs
CanBeAnswered kind what asked (answers.Changed failed stamp row points read_stamp raises syncs) =
    (manner_of what ≡ Committing) × HasPoints asked row points × HasReads (all_of (object_colours kind)) raises syncs
CanBeAnswered kind what asked (answers.Listed names stamp raises syncs) =
    ((object : ℕ) × (path : List ℕ) × (what ≡ whats.Ls object path))
    × HasReads (all_of (object_colours kind)) raises syncs
CanBeAnswered kind what asked (answers.Undecided stamp sync) = CanWait kind what sync
CanBeAnswered kind what asked (answers.Decided commits stamp sync read_stamp raises syncs ended) =
    CanDecide kind what asked sync raises syncs ended
CanBeAnswered kind what asked (answers.Moved lined waiting colour events) =
    (text : List ℕ) × (what ≡ whats.Only colour text)
CanBeAnswered kind what asked answers.NoTx = (object : ℕ) × (pairs : _) × (what ≡ whats.Commit object pairs)
CanBeAnswered kind what asked (answers.Took value point sync) =
    (manner_of what ≡ Dequeuing) × HasPoints asked None (point ∷ []) × (sync.colour ≡ point.colour)
CanBeAnswered kind what asked (answers.UnreadTrimmed stamp colour base) =
    (manner_of what ≡ Committing) ⊎ (manner_of what ≡ Dequeuing)
CanBeAnswered kind what asked (answers.UnreadNoMemory stamp) =
    (manner_of what ≡ Committing) ⊎ (manner_of what ≡ Dequeuing)
CanBeAnswered kind what asked (answers.Trimmed colour base) = SyncsIn (object_colours kind) what colour
CanBeAnswered kind what asked (answers.NotHome home) = (other : ℕ) × (object_home kind ≡ Some other)

-- the answer may be shown with these nodes: those to a sync and to a scan with whatever ones, the others with none
abbrev pub MayShow : List PlacedNode → Answer → Type 0
MayShow nodes (answers.Synced sync plays) = Unit {0}
MayShow nodes (answers.Scanned stamp count raises syncs) = Unit {0}
MayShow nodes _ = nodes ≡ []
