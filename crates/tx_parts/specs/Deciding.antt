-- What a decision is, and why none was made.
use Rattle.std.specs.Prelude.{◌≡◌, ◌⊎◌, ◌≤◌, Bool, false, ℕ, List, [], ◌∷◌, length, map, take, Option, Some, None, Result, Ok, Err, IfOk, unwrap_or}
use Rattle.log_node.specs.declared.ids.Colours.{Colours}
use Rattle.log_node.specs.declared.ids.Key.{Key}
use Rattle.log_node.specs.Sets.{members}
use Rattle.log_node.specs.Vectors.{at}
use Rattle.object_fold.specs.Nodes.{ObjectNode}
use Rattle.object_fold.specs.Transactions.{verdict_of}
use Rattle.part_fold.specs.Agreement.{outcome}
use Rattle.part_fold.specs.Decisions.{decision_text}
use Rattle.part_fold.specs.Ruled.{AreApart}
use Rattle.col_core.specs.History.{line}
use Rattle.col_core.specs.Log.{Log}
use Rattle.col_core.specs.Keeping.{Kept}
use Rattle.append_core.specs.declared.several.MultiFault.{MultiFault}
use Rattle.append_core.specs.declared.several.MultiFault.TheVariants as faults
use Rattle.append_core.specs.declared.stood.Point.{Point}
use Rattle.lawful_run.specs.Appends.{HasNoStamp}
use Rattle.lawful_run.specs.Asks.{rising}
use Rattle.lawful_run.specs.Callers.{Caller, node_of}
use Rattle.lawful_run.specs.Objects.{AreObjectNodes}
use Rattle.lawful_run.specs.Parts.{IsRuledAs, WaitsFor}
use Rattle.lawful_run.specs.Reads.{HidesRead, RefusesRead}
use Rattle.log_client.specs.declared.store.Store.{Store}
use Rattle.log_client.specs.declared.client.Client.{Client}
use Rattle.log_client.specs.declared.answers.Appended.{Appended}
use Rattle.log_client.specs.declared.answers.StampedRead.{StampedRead}
use Rattle.log_client.specs.declared.answers.Synced.{Synced}
use Rattle.log_client.specs.declared.faults.SyncFault.{SyncFault}
use Rattle.log_client.specs.declared.faults.SyncFault.TheVariants as sync_faults
use Rattle.log_client.specs.declared.object_fault.ObjectFault.{ObjectFault}
use Rattle.log_client.specs.declared.object_fault.ObjectFault.TheVariants as object_faults
use Rattle.log_client.specs.Appends.{AppendsAs}
use Rattle.log_client.specs.Calls.{AnswersEach, AnswersSync, IsExplained, SyncRefused}
use Rattle.log_client.specs.Objects.{HidesOne, IsAwayFrom, SyncsUntold}
use Rattle.log_client.specs.Reading.{RestsOn, raised_colours, synced_colours}
use Rattle.log_client.specs.Refusals.{RefusedBy, never}
use Rattle.region_fold.specs.Reads.{HasNodesRead}
use Rattle.tx_parts.specs.declared.answers.Decided.{Decided}
use Rattle.tx_parts.specs.declared.player.PartPlayer.{PartPlayer}
use Rattle.tx_parts.specs.Players.{Plays, PlaysAs, own_part}

-- DECISIONS

-- the text of the decision's node
abbrev pub said_text : Decided → List ℕ
said_text decided = decision_text (record { key = decided.key; commits = decided.commits })

-- How the append of a decision's node ended: it stands; no stamp was left; or memory was refused, and nothing stands.
abbrev pub EndsAs : Colours → List ℕ → Result Appended MultiFault → Log → Caller → Kept → Kept → Type 0
EndsAs set text (Ok a) log caller kept after = AppendsAs set text a log caller kept after
EndsAs set text (Err (faults.StampEnd colour)) log caller kept after =
    HasNoStamp log caller kept (node_of caller kept set text) colour after
EndsAs set text (Err faults.NoMemory) log caller kept after = after ≡ kept
EndsAs set text (Err (faults.Full used)) log caller kept after = ⊥
EndsAs set text (Err (faults.Stopped steps)) log caller kept after = ⊥

-- The player's line waited for this transaction when it was played; the stamped read behind it tells whether it commits; and
-- the append of the node that says so ended thus.
abbrev pub DecidesAs : Colours → PartPlayer → Synced → Decided → Log → Caller → Kept → Kept → Type 0
DecidesAs set p y decided log caller kept after =
    (played : Kept) × PlaysAs y (WaitsFor (Some decided.key) (own_part p)) log caller kept played
    × (read : Kept)
    × HasNodesRead (rising p.colours) p.map.kept.last decided.read (IsRuledAs decided.key decided.commits) log caller played read
    × EndsAs set (said_text decided) decided.appended log caller read after

-- a decision of the player was made, whose node has the player's colour alone
pub record DecidesOne (s : Store) (c d : Client) (p : PartPlayer) (y : Synced) (decided : Decided) : Type 0 where
  pub synced : y.snapshot.colour ≡ p.colour
  pub set : Colours
  pub members_are : members set ≡ p.colour ∷ []
  pub explained : IsExplained s c d (DecidesAs set p y decided)

-- a decide answered with a decision, or with none, where the player's line waits for nothing
abbrev pub Decides : Store → Client → Client → PartPlayer → Synced → Option Decided → Type 0
Decides s c d p y None = Plays s c d p y (WaitsFor None (own_part p))
Decides s c d p y (Some decided) = DecidesOne s c d p y decided

-- where the node stands it stands in this colour alone
abbrev pub StandsInOwn : ℕ → Decided → Type 0
StandsInOwn colour decided =
    IfOk decided.appended (λ a. map (λ (point : Point). point.colour) a.stood.points ≡ colour ∷ [])

-- the read tells of a raise and a sync of each colour, in rising order
abbrev pub ShowsRead : List ℕ → Decided → Type 0
ShowsRead colours decided =
    (raised_colours decided.read.raises ≡ rising colours) × (synced_colours decided.read.syncs ≡ rising colours)

-- the sync names what the client played, and so does each of the read's, which played on from there
abbrev pub NamesPlays : Client → Client → PartPlayer → Synced → Option Decided → Type 0
NamesPlays c d p y None = AnswersSync c d p.colour y
NamesPlays c d p y (Some decided) = (m : Client) × AnswersSync c m p.colour y × AnswersEach m d decided.read.syncs

-- REFUSALS

-- The player's colour was synced, of which no answer tells, and its line, as the client has then played it, waits for a
-- transaction.
pub record PlaysUntold (p : PartPlayer) (log : Log) (caller : Caller) (kept played : Kept) : Type 0 where
  pub hidden : HidesOne p.colour log caller kept played
  pub there : at (played.starts p.colour) caller.own ≤ length (line (log.histories caller.own p.colour))
  pub nodes : List ObjectNode
  pub line_is : AreObjectNodes log
      (take (at (played.starts p.colour) caller.own) (line (log.histories caller.own p.colour))) nodes
  pub key : Key
  pub waits : WaitsFor (Some key) (own_part p) nodes

-- Why nothing was decided on a transaction for which the line waits: the read was refused, or memory for it or for the text of
-- the decision. No node was appended.
abbrev pub NotRuled : Store → Client → Client → PartPlayer → SyncFault → Type 0
NotRuled s c d p (sync_faults.Trimmed colour base) =
    IsExplained s c d (λ log caller kept after. (played : Kept) × PlaysUntold p log caller kept played
    × RefusesRead log caller played (rising p.colours) colour base after)
NotRuled s c d p sync_faults.NoMemory =
    IsExplained s c d (λ log caller kept after. (played : Kept) × PlaysUntold p log caller kept played
    × HidesRead log caller played (rising p.colours) after)

-- why a sync was refused: that of the player's colour, or one of the read behind it
abbrev pub SyncsNot : Store → Client → Client → PartPlayer → SyncFault → Type 0
SyncsNot s c d p (sync_faults.Trimmed colour base) =
    SyncRefused s c d p.colour (sync_faults.Trimmed colour base) ⊎ NotRuled s c d p (sync_faults.Trimmed colour base)
SyncsNot s c d p sync_faults.NoMemory = SyncRefused s c d p.colour sync_faults.NoMemory

-- Why a decide was refused, which has appended nothing. Where memory was refused behind the first sync, this one stands.
abbrev pub DecideRefused : Store → Client → Client → PartPlayer → ObjectFault → Type 0
DecideRefused s c d p = RefusedBy (record never {
  away = IsAwayFrom (Some p.home) c d;
  sync = SyncsNot s c d p;
  memory = SyncsUntold s c d p.colour ⊎ NotRuled s c d p sync_faults.NoMemory;
})

-- how a decide is refused whose read was, or memory behind its first sync
abbrev pub refusal_of : SyncFault → ObjectFault
refusal_of (sync_faults.Trimmed colour base) = object_faults.Sync (sync_faults.Trimmed colour base)
refusal_of sync_faults.NoMemory = object_faults.NoMemory

-- WITHIN A DECIDE

-- the read of a map with these colours, of which it answers what comes behind the last key, tells of the transaction what is
-- said of it, where no two of its nodes have one key
abbrev pub ReadsOutcome : Store → Client → Client → List ℕ → Option Key → Key → Bool → StampedRead → Type 0
ReadsOutcome s c d colours last key commits read =
    IsExplained s c d (HasNodesRead (rising colours) last read
    (λ nodes. AreApart nodes → commits ≡ unwrap_or (outcome (verdict_of nodes key)) false))

-- the same, and then the append to the colour of the node that says so ended thus
pub record Rules (s : Store) (c d : Client) (colours : List ℕ) (colour : ℕ) (last : Option Key) (key : Key)
    (decided : Decided) : Type 0 where
  pub of_key : decided.key ≡ key
  pub set : Colours
  pub members_are : members set ≡ colour ∷ []
  -- the client between the read and the append
  pub between : Client
  pub before : RestsOn s c between
  pub behind : RestsOn s between d
  pub reads : ReadsOutcome s c between colours last key decided.commits decided.read
  pub ends : IsExplained s between d (EndsAs set (said_text decided) decided.appended)
