-- Which answers a command can have.
use Rattle.std.specs.Prelude.{◌≡◌, ◌⊎◌, IsTrue, ℕ, ◌≤◌, List, [], ◌∷◌, length, map, Option, Some, None}
use Rattle.std.specs.List.{Contains}
use Rattle.log_node.specs.Sets.{members}
use Rattle.log_node.specs.Seen.{PlacedNode}
use Rattle.log_node.specs.declared.ids.Colours.{Colours}
use Rattle.object_fold.specs.Maps.{Value}
use Rattle.col_core.specs.Keeping.{Kept}
use Rattle.script_text.specs.declared.script.Kind.{Kind}
use Rattle.script_text.specs.declared.script.Kind.TheVariants as kinds
use Rattle.script_text.specs.declared.commands.What.{What}
use Rattle.script_text.specs.declared.commands.What.TheVariants as whats
use Rattle.report_text.specs.declared.report.Answer.{Answer}
use Rattle.report_text.specs.declared.report.Answer.TheVariants as answers
use Rattle.report_text.specs.declared.report.Ended.{Ended}
use Rattle.report_text.specs.declared.report.Ended.TheVariants as ends
use Rattle.report_text.specs.declared.report.KeyAnswer.{KeyAnswer}
use Rattle.report_text.specs.declared.report.PointPiece.{PointPiece}
use Rattle.report_text.specs.declared.report.RaisePiece.{RaisePiece}
use Rattle.report_text.specs.declared.report.SyncPiece.{SyncPiece}
use Rattle.lawful_run.specs.Callers.{Caller}
use Rattle.lawful_run.specs.Asks.{kind_of_object, kind_asked, home_asked, rising, Appending, Guarding, Stopping, Committing, Dequeuing, Deciding, Syncing, Getting, Reading}
use Rattle.lawful_run.specs.Deeds.{AsksForKey, colours_synced, manner_of}
use Rattle.lawful_run.specs.Parts.{AsksOf, AsksToDecide}
use Rattle.run_rules.specs.Told.{colours_asked, is_several}

-- a point for each colour of the node, and a row where there are several
abbrev pub HasPoints : List ℕ → Option ℕ → List PointPiece → Type 0
HasPoints colours None points = (map (λ (p : PointPiece). p.colour) points ≡ colours) × (length colours ≡ 1)
HasPoints colours (Some number) points = (map (λ (p : PointPiece). p.colour) points ≡ colours) × (2 ≤ length colours)

-- a raise and a sync for each colour
abbrev pub HasReads : List ℕ → List RaisePiece → List SyncPiece → Type 0
HasReads colours raises syncs =
    (map (λ (r : RaisePiece). r.colour) raises ≡ colours) × (map (λ (s : SyncPiece). s.colour) syncs ≡ colours)

-- the command reads these keys
abbrev pub AsksKeys : What → List (List ℕ) → Type 0
AsksKeys what keys = ((object : ℕ) × (what ≡ whats.GetAll object keys)) ⊎ ((object : ℕ) × (what ≡ whats.Read object keys))

-- The command, of an object of this kind, can be answered this value: a get of a map, a peek, or a decide.
abbrev pub CanGet : Caller → What → SyncPiece → Value → Option Kind → Type 0
CanGet caller what sync value (Some (kinds.Map home colours)) =
    (key : List ℕ) × AsksOf caller what sync (Some (kinds.Map home colours)) key
CanGet caller what sync value (Some (kinds.Parts home colours)) =
    ((key : List ℕ) × AsksOf caller what sync (Some (kinds.Parts home colours)) key)
    ⊎ (AsksToDecide caller what sync colours × (value ≡ None))
CanGet caller what sync value _ = ⊥

-- the append of a decision's node can have ended so, on these colours
abbrev pub CanEnd : List ℕ → Ended → Type 0
CanEnd colours (ends.Stood stamp point) = HasPoints colours None (point ∷ [])
CanEnd colours (ends.StampEnd colour) = Contains colours colour
CanEnd colours ends.NoMemory = Unit {0}

-- The command can have this answer; nodes are shown by a sync and by a scan alone.
abbrev pub CanHave : Caller → Kept → What → List PlacedNode → Answer → Type 0
CanHave caller kept what nodes answers.NoMemory = nodes ≡ []
CanHave caller kept what nodes (answers.Stood stamp row points) =
    (nodes ≡ []) × ((manner_of what ≡ Appending) ⊎ (manner_of what ≡ Guarding))
    × HasPoints (colours_asked caller kept what) row points
CanHave caller kept what nodes (answers.StampEnd colour) =
    (nodes ≡ []) × Contains (colours_asked caller kept what) colour
CanHave caller kept what nodes (answers.Full used) = (nodes ≡ []) × IsTrue (is_several caller kept what)
CanHave caller kept what nodes (answers.Stopped stopped) = (nodes ≡ []) × (manner_of what ≡ Stopping)
CanHave caller kept what nodes (answers.Synced sync plays) = what ≡ whats.Sync sync.colour
CanHave caller kept what nodes (answers.Scanned stamp count raises syncs) =
    (colours : Colours) × (what ≡ whats.Scan colours) × HasReads (members colours) raises syncs
CanHave caller kept what nodes (answers.Pulled count give carry) =
    (nodes ≡ []) × (region : ℕ) × (colour : ℕ) × (what ≡ whats.Pull region colour)
CanHave caller kept what nodes answers.SameRegion =
    (nodes ≡ []) × (region : ℕ) × (colour : ℕ) × (what ≡ whats.Pull region colour)
CanHave caller kept what nodes (answers.Based at base) = (nodes ≡ []) × (colour : ℕ) × (what ≡ whats.Trim colour)
CanHave caller kept what nodes (answers.Got value sync) =
    (nodes ≡ []) × CanGet caller what sync value (kind_asked caller what)
CanHave caller kept what nodes (answers.GotMany values sync) =
    (nodes ≡ []) × (object : ℕ) × (key : List ℕ) × AsksForKey what object key
    × (kind_of_object caller object ≡ Some (kinds.Causal sync.colour))
CanHave caller kept what nodes (answers.GotKeys stamp shown raises syncs) =
    (nodes ≡ []) × AsksKeys what (map (λ (k : KeyAnswer). k.key) shown)
    × HasReads (colours_synced caller what) raises syncs
CanHave caller kept what nodes (answers.Ruled conflict stamp row points read_stamp raises syncs) =
    (nodes ≡ []) × (manner_of what ≡ Committing) × HasPoints (colours_asked caller kept what) row points
    × HasReads (colours_synced caller what) raises syncs
CanHave caller kept what nodes (answers.Changed failed stamp row points read_stamp raises syncs) =
    (nodes ≡ []) × (manner_of what ≡ Committing) × HasPoints (colours_asked caller kept what) row points
    × HasReads (colours_synced caller what) raises syncs
CanHave caller kept what nodes (answers.Listed names stamp raises syncs) =
    (nodes ≡ []) × (object : ℕ) × (path : List ℕ) × (what ≡ whats.Ls object path)
    × HasReads (colours_synced caller what) raises syncs
CanHave caller kept what nodes (answers.Undecided stamp sync) =
    (nodes ≡ []) × (home : ℕ) × (colours : List ℕ) × (key : List ℕ)
    × AsksOf caller what sync (Some (kinds.Parts home colours)) key
CanHave caller kept what nodes (answers.Decided commits stamp sync read_stamp raises syncs ended) =
    (nodes ≡ []) × (colours : List ℕ) × AsksToDecide caller what sync colours × HasReads (rising colours) raises syncs
    × CanEnd (colours_asked caller kept what) ended
CanHave caller kept what nodes (answers.Moved lined waiting colour events) =
    (nodes ≡ []) × (text : List ℕ) × (what ≡ whats.Only colour text)
CanHave caller kept what nodes answers.NoTx = (nodes ≡ []) × (object : ℕ) × (pairs : _) × (what ≡ whats.Commit object pairs)
CanHave caller kept what nodes (answers.Took value point sync) =
    (nodes ≡ []) × (manner_of what ≡ Dequeuing) × HasPoints (colours_asked caller kept what) None (point ∷ [])
    × (sync.colour ≡ point.colour)
CanHave caller kept what nodes (answers.UnreadTrimmed stamp colour base) =
    (nodes ≡ []) × ((manner_of what ≡ Committing) ⊎ (manner_of what ≡ Dequeuing))
CanHave caller kept what nodes (answers.UnreadNoMemory stamp) =
    (nodes ≡ []) × ((manner_of what ≡ Committing) ⊎ (manner_of what ≡ Dequeuing))
CanHave caller kept what nodes (answers.Trimmed colour base) =
    (nodes ≡ []) × Contains (colours_synced caller what) colour
    × ((manner_of what ≡ Syncing) ⊎ ((manner_of what ≡ Getting)
    ⊎ ((manner_of what ≡ Reading) ⊎ (manner_of what ≡ Deciding))))
CanHave caller kept what nodes (answers.NotHome home) =
    (nodes ≡ []) × (other : ℕ) × (home_asked caller what ≡ Some other)
