-- The objects of a script, each of which a client opens at its first command on it, and keeps beside itself.
use Rattle.std.specs.Prelude.{◌≡◌, Bool, ℕ, ◌≤◌, List, length, map, Option, Some, None, slice_index_or, IsTrue, IfSome}
use Rattle.std.specs.List.{All, AllZip}
use Rattle.std.specs.Option.{option_map}
use Rattle.log_node.specs.declared.limits.TheConstants.{MAX_COLOURS}
use Rattle.log_node.specs.declared.forms.Version.{Version}
use Rattle.object_form.specs.Forms.{AreVersions}
use Rattle.col_core.specs.Keeping.{Kept, updated}
use Rattle.script_text.specs.declared.table.TheConstants.{PARTS}
use Rattle.script_text.specs.Table.{is_of}
use Rattle.script_text.specs.Fitting.{IsKindWithin, kinds_asked, HasWords}
use Rattle.script_text.specs.Commands.{use_of}
use Rattle.script_text.specs.declared.script.Kind.{Kind}
use Rattle.script_text.specs.declared.script.Kind.TheVariants as kinds
use Rattle.script_text.specs.declared.script.Object.{Object}
use Rattle.script_text.specs.declared.commands.What.{What}
use Rattle.script_text.specs.declared.uses.Use.{Use}
use Rattle.script_text.specs.declared.uses.Use.TheVariants.{OfLog, OfObject}
use Rattle.log_client.specs.declared.client.Client.{Client}
use Rattle.log_client.specs.declared.store.Store.{Store}
use Rattle.log_client.specs.Clients.{tracks_of}
use Rattle.log_map.specs.Maps.{IsMapOf}
use Rattle.log_tree.specs.Trees.{IsTreeOf}
use Rattle.log_queue.specs.Queues.{IsQueueOf}
use Rattle.causal_map.specs.CausalMaps.{IsCausalMapOf}
use Rattle.atomic_map.specs.Several.{IsAtomicMapOf}
use Rattle.region_fold.specs.Transactions.{IsTxMapOf}
use Rattle.region_fold.specs.declared.transactions.Tx.{Tx}
use Rattle.region_fold.specs.declared.transactions.TxMap.{TxMap}
use Rattle.tx_parts.specs.declared.players.PartPlayers.{PartPlayers}
use Rattle.tx_parts.specs.MapPlayers.{ArePlayersOf}
use Rattle.run_script.specs.declared.serving.opened.Opened.{Opened}
use Rattle.run_script.specs.declared.serving.opened.Opened.TheVariants as opened

-- a transactional map with this home and these colours, which it keeps to itself where it has players of them
abbrev pub tx_kind : Option PartPlayers → ℕ → List ℕ → Kind
tx_kind None home colours = kinds.Tx home colours
tx_kind (Some players) home colours = kinds.Parts home colours

-- a transactional map that keeps its colours to itself
abbrev pub is_parts : Kind → Bool
is_parts = is_of PARTS

-- what was opened
abbrev pub kind_opened : Opened → Kind
kind_opened (opened.Map single several) = kinds.Map single.home single.colours
kind_opened (opened.Tx players map found) = tx_kind players map.home map.colours
kind_opened (opened.Causal of) = kinds.Causal of.colour
kind_opened (opened.Queue of) = kinds.Queue of.home of.colour
kind_opened (opened.Tree of) = kinds.Tree of.home of.colours

-- the players are kept beside the client, and are of the map's home and colours
abbrev pub ArePlayersIn : Client → TxMap → PartPlayers → Type 0
ArePlayersIn c map players = ArePlayersOf c players × (players.home ≡ map.home) × (players.colours ≡ map.colours)

-- What is folded of an object is of what the client has played or read, and a commit may rest on what a read found.
abbrev pub IsOpenedOf : Client → Opened → Type 0
IsOpenedOf c (opened.Map single several) =
    IsMapOf c single × IsAtomicMapOf c several × (several.home ≡ single.home) × (several.colours ≡ single.colours)
IsOpenedOf c (opened.Tx players map found) =
    IsTxMapOf c map × IfSome found (λ (t : Tx). AreVersions t.versions) × IfSome players (ArePlayersIn c map)
IsOpenedOf c (opened.Causal of) = IsCausalMapOf c of
IsOpenedOf c (opened.Queue of) = IsQueueOf c of
IsOpenedOf c (opened.Tree of) = IsTreeOf c of

-- SLOTS

-- the slot of an object that is not opened
abbrev pub unopened : Object → Option Opened
unopened object = None

-- a slot for each of these objects, by number, of which none is opened
abbrev pub AreUnopened : List Object → List (Option Opened) → Type 0
AreUnopened objects slots = slots ≡ map unopened objects

-- what was opened in the slot, if it is opened, is this object
abbrev pub IsSlotOf : Object → Option Opened → Type 0
IsSlotOf object None = Unit {0}
IsSlotOf object (Some x) = kind_opened x ≡ object.kind

-- these are slots of the objects of a script, by number
abbrev pub AreOf : List Object → List (Option Opened) → Type 0
AreOf objects slots = AllZip IsSlotOf objects slots

-- what was opened in the slot, if it is opened, is kept beside the client
abbrev pub IsKept : Client → Option Opened → Type 0
IsKept c None = Unit {0}
IsKept c (Some x) = IsOpenedOf c x

-- the same of each of them
abbrev pub AreKept : Client → List (Option Opened) → Type 0
AreKept c slots = All (IsKept c) slots

-- the slot is unopened, or opened of this object and kept beside the client
abbrev pub IsKeptOf : Client → Object → Option Opened → Type 0
IsKeptOf c object slot = IsSlotOf object slot × IsKept c slot

-- each client of the store can open the object
abbrev pub IsOpenable : Store → Object → Type 0
IsOpenable s object = (s.size.colours ≤ MAX_COLOURS) × IsKindWithin (length s.regions) s.size.colours object.kind

-- the same of each of these
abbrev pub AreOpenable : Store → List Object → Type 0
AreOpenable s objects = All (IsOpenable s) objects

-- WHAT READS FOUND

-- what the last read of it found, and no commit has used up
abbrev pub versions_in : Opened → Option (List Version)
versions_in (opened.Map single several) = None
versions_in (opened.Tx players map found) = option_map (λ (t : Tx). t.versions) found
versions_in (opened.Causal of) = None
versions_in (opened.Queue of) = None
versions_in (opened.Tree of) = None

-- the same of a slot: of an object that is not opened nothing was read
abbrev pub found_in : Option Opened → Option (List Version)
found_in None = None
found_in (Some x) = versions_in x

-- what is kept of reads is what was found by those of the objects in these slots, by number
abbrev pub HaveReads : List (Option Opened) → Kept → Type 0
HaveReads slots kept = (n : ℕ) → kept.reads n ≡ found_in (slice_index_or slots n None)

-- of reads is kept what was kept before, but of one object this
abbrev pub KeepsReadsBut : ℕ → Option (List Version) → Kept → Kept → Type 0
KeepsReadsBut object found kept after = (n : ℕ) → after.reads n ≡ updated kept.reads object found n

-- WHILE THE CLIENT GOES ON

-- Nothing was read of it and nothing is folded: it is kept so by each client that has its colours.
abbrev pub IsUnfolded : Opened → Type 0
IsUnfolded x =
    (versions_in x ≡ None)
    × ((c : Client) (regions : ℕ) → length (tracks_of c) ≤ MAX_COLOURS
    → IsKindWithin regions (length (tracks_of c)) (kind_opened x) → IsOpenedOf c x)

-- the client has gone on, and so has what is folded of the same object
abbrev pub StaysOpen : Client → Opened → Opened → Type 0
StaysOpen c x y = (kind_opened y ≡ kind_opened x) × IsOpenedOf c y

-- WHICH OBJECT IS ASKED

-- the number of the object that a row of uses names
abbrev pub object_in : Use → Option ℕ
object_in (OfLog stops) = None
object_in (OfObject object read) = Some object

-- the number of the object that a command is of
abbrev pub object_asked : What → Option ℕ
object_asked what = object_in (use_of what)

-- A command with this row of uses is one that objects of this kind have, and its keys and values may be.
abbrev pub HasBy : Kind → What → Use → Type 0
HasBy kind what (OfLog stops) = ⊥
HasBy kind what (OfObject object read) = IsTrue (is_of (kinds_asked what) kind) × HasWords what

-- an object of this kind has the command
abbrev pub HasCommand : Kind → What → Type 0
HasCommand kind what = HasBy kind what (use_of what)
