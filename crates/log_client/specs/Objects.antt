-- What calls of objects over a client say: what is folded of the nodes that it has played, and what explains the answers.
use Rattle.std.specs.Prelude.{◌≡◌, ◌≢◌, ◌⊎◌, ℕ, ◌<◌, List, [], ◌∷◌, length, map, take, Option, Some, None, Result, Err}
use Rattle.std.specs.List.{All}
use Rattle.log_node.specs.declared.ids.Colours.{Colours}
use Rattle.log_node.specs.declared.ids.Key.{Key}
use Rattle.log_node.specs.declared.limits.TheConstants.{MAX_COLOURS}
use Rattle.log_node.specs.declared.forms.Version.{Version}
use Rattle.log_node.specs.Sets.{members}
use Rattle.object_fold.specs.Nodes.{ObjectNode}
use Rattle.object_fold.specs.Folds.{FoldsFirst}
use Rattle.col_core.specs.Log.{Log}
use Rattle.col_core.specs.Keeping.{Kept}
use Rattle.lawful_run.specs.Callers.{Caller, node_of}
use Rattle.lawful_run.specs.Appends.{AppendsUnshown}
use Rattle.lawful_run.specs.Reads.{HidesSyncs, IsTrimmed}
use Rattle.lawful_run.specs.Objects.{AreObjectNodes}
use Rattle.client_law.specs.Knowing.{Rest, log_seen}
use Rattle.append_core.specs.declared.several.MultiFault.{MultiFault}
use Rattle.append_core.specs.declared.stood.Point.{Point}
use Rattle.log_client.specs.declared.store.Store.{Store}
use Rattle.log_client.specs.declared.client.Client.{Client}
use Rattle.log_client.specs.declared.answers.Appended.{Appended}
use Rattle.log_client.specs.declared.answers.Synced.{Synced}
use Rattle.log_client.specs.declared.faults.SyncFault.{SyncFault}
use Rattle.log_client.specs.declared.faults.SyncFault.TheVariants as sync_faults
use Rattle.log_client.specs.declared.object_fault.ObjectFault.{ObjectFault}
use Rattle.log_client.specs.declared.object_fault.ObjectFault.TheVariants as faults
use Rattle.log_client.specs.Fits.{FitsHolds}
use Rattle.log_client.specs.Clients.{own_line, tracks_of, holds_of, seen_of}
use Rattle.log_client.specs.Calls.{AnswersSync, IsExplained, SyncRefused, SyncsAs}
use Rattle.log_client.specs.Appends.{AppendsAs, AppendRefused}
use Rattle.log_client.specs.StampedReads.{HasRead, ReadHidden, ReadRefused, last_key}
use Rattle.log_client.specs.Refusals.{RefusedBy, never}

-- the keys of versions
abbrev pub version_keys : List Version → List (List ℕ)
version_keys versions = map (λ (v : Version). v.key) versions

-- WHAT IS FOLDED

-- The fold is of the first so many nodes of the own line that the client has played of the colour.
abbrev pub FoldsLine : Client → ℕ → ℕ → (List ObjectNode → Type 0) → Type 0
FoldsLine c colour count Folds = FoldsFirst (own_line c colour) count Folds

-- The nodes are those of the first keys of a stamped read of these colours that the client has made, each as it was appended,
-- and this is the last of those keys.
pub record FoldsRead (c : Client) (colours : List ℕ) (last : Option Key) (nodes : List ObjectNode) : Type 0 where
  pub stamp : ℕ
  pub keys : List Key
  pub has : HasRead c colours stamp keys
  pub count : ℕ
  pub last_is : last ≡ last_key (take count keys)
  pub appended : (rest : Rest) → FitsHolds (holds_of c) rest
      → AreObjectNodes (log_seen (seen_of c) rest) (take count keys) nodes

-- the same, or nothing of any read is folded
abbrev pub KeepsRead : Client → List ℕ → Option Key → List ObjectNode → Type 0
KeepsRead c colours last nodes = ((last ≡ None) × (nodes ≡ [])) ⊎ FoldsRead c colours last nodes

-- an object has these colours, one or more, all of the client
pub record HasColoursOf (c : Client) (colours : List ℕ) : Type 0 where
  pub some : 0 < length colours
  pub within : All (λ colour. colour < length (tracks_of c)) colours
  pub few : All (λ colour. colour < MAX_COLOURS) colours

-- REFUSALS AT ONCE

-- The object has a home, as is shown, and the client is of another region; nothing was done.
abbrev pub IsAwayFrom : Option ℕ → Client → Client → ℕ → Type 0
IsAwayFrom None c d shown = ⊥
IsAwayFrom (Some home) c d shown = (shown ≡ home) × (c.region ≢ home) × (d ≡ c)

-- a client of another region is refused for that
abbrev pub RefusesAway : {T : Type 0} → ℕ → Client → Result T ObjectFault → Type 0
RefusesAway home c result = c.region ≢ home → result ≡ Err (faults.NotHome home)

-- APPENDS

-- A node with the text stands in just these colours, as the answer says.
pub record StandsIn (s : Store) (c d : Client) (colours text : List ℕ) (a : Appended) : Type 0 where
  pub set : Colours
  pub members_are : members set ≡ colours
  pub explained : IsExplained s c d (AppendsAs set text a)
  pub points : map (λ (p : Point). p.colour) a.stood.points ≡ colours

-- why an append to just these colours was refused, of which no stop was asked
abbrev pub NotAppended : Store → Client → Client → List ℕ → List ℕ → MultiFault → Type 0
NotAppended s c d colours text fault =
    (set : Colours) × (members set ≡ colours) × AppendRefused s c d set text None fault

-- why an append of an object was refused
abbrev pub PutRefused : Option ℕ → Store → Client → Client → List ℕ → List ℕ → ObjectFault → Type 0
PutRefused home s c d colours text = RefusedBy (record never {
  away = IsAwayFrom home c d;
  append = NotAppended s c d colours text;
  memory = d ≡ c;
})

-- the same, where no home is asked for
abbrev pub StandsNot : Store → Client → Client → List ℕ → List ℕ → ObjectFault → Type 0
StandsNot s c d colours text = PutRefused None s c d colours text

-- SYNCS

-- A sync of the colour may have been made, of which no answer tells.
abbrev pub HidesOne : ℕ → Log → Caller → Kept → Kept → Type 0
HidesOne colour log caller kept after = HidesSyncs log caller kept (colour ∷ []) after

-- The colour was synced as a sync would have answered, and no answer tells of it.
abbrev pub SyncsUntold : Store → Client → Client → ℕ → Type 0
SyncsUntold s c d colour = (y : Synced) × AnswersSync c d colour y × IsExplained s c d (SyncsAs d colour y)

-- Why a get of an object was refused, whose nodes are of this colour. Where memory was refused to the fold, the colour was
-- synced before.
abbrev pub GetRefused : Option ℕ → Store → Client → Client → ℕ → ObjectFault → Type 0
GetRefused home s c d colour = RefusedBy (record never {
  away = IsAwayFrom home c d;
  sync = SyncRefused s c d colour;
  memory = SyncsUntold s c d colour;
})

-- Why a look at an object with this home was refused, which is a stamped read of these colours. Where memory was refused to
-- the fold, the read was made before.
abbrev pub LookRefused : ℕ → Store → Client → Client → List ℕ → ObjectFault → Type 0
LookRefused home s c d colours = RefusedBy (record never {
  away = IsAwayFrom (Some home) c d;
  sync = ReadRefused s c d colours;
  memory = ReadHidden s c d colours;
})

-- AN APPEND AND A SYNC

-- The own node, of these colours, stands under the stamp, which is all that is told of it; and then this.
abbrev pub StandsThen : Colours → List ℕ → ℕ → (Log → Caller → Kept → Kept → Type 0) → Log → Caller → Kept → Kept → Type 0
StandsThen set text stamp Then log caller kept after =
    (stood : Kept) × AppendsUnshown log caller kept (node_of caller kept set text) stamp stood
    × Then log caller stood after

-- Why nothing was read behind the own node, which stands under the stamp in the one colour. Memory was refused to the sync, or
-- behind it.
abbrev pub UnreadLeaves : Store → Client → Client → ℕ → List ℕ → ℕ → SyncFault → Type 0
UnreadLeaves s c d colour text stamp (sync_faults.Trimmed shown base) =
    (shown ≡ colour) × (set : Colours) × (members set ≡ colour ∷ [])
    × IsExplained s c d (StandsThen set text stamp (λ log caller stood after.
    IsTrimmed log caller stood colour base × (after ≡ stood)))
UnreadLeaves s c d colour text stamp sync_faults.NoMemory =
    (set : Colours) × (members set ≡ colour ∷ []) × IsExplained s c d (StandsThen set text stamp (HidesOne colour))
