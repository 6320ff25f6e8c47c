-- Desks at a lock, and what they answer.
use Rattle.std.specs.Prelude.{◌≡◌, ℕ, ◌<◌, ◌∷◌, [], List, Option, Some, codes, slice_get}
use Rattle.log_node.specs.declared.ids.Colours.{Colours}
use Rattle.log_node.specs.declared.ids.Key.{Key}
use Rattle.log_node.specs.Sets.{members, set_of}
use Rattle.object_fold.specs.Nodes.{ObjectNode}
use Rattle.object_fold.specs.Folds.{told_of}
use Rattle.col_core.specs.Keeping.{Kept}
use Rattle.lawful_run.specs.Asks.{rising}
use Rattle.log_client.specs.declared.store.Store.{Store}
use Rattle.log_client.specs.declared.client.Client.{Client}
use Rattle.log_client.specs.declared.answers.Appended.{Appended}
use Rattle.log_client.specs.declared.answers.StampedRead.{StampedRead}
use Rattle.log_client.specs.declared.object_fault.ObjectFault.{ObjectFault}
use Rattle.log_client.specs.Appends.{AppendsAs}
use Rattle.log_client.specs.Calls.{IsExplained}
use Rattle.log_client.specs.Clients.{IsClient}
use Rattle.log_client.specs.StampedReads.{ReadRefused}
use Rattle.log_client.specs.Refusals.{RefusedBy, never}
use Rattle.region_fold.specs.Reads.{HasNodesRead, KeepsFold, ReadsNodes, TellsOwn, tell_refusals}
use Rattle.lock_fold.specs.declared.lock.Ticket.{Ticket}
use Rattle.lock_fold.specs.Tickets.{HasTickets, tickets_after, told_behind}
use Rattle.example_lock.specs.declared.desk.Desk.{Desk}
use Rattle.example_lock.specs.declared.desk.Place.{Place}
use Rattle.example_lock.specs.declared.folded.Folded.{Folded}

-- the lock that these nodes leave is held
abbrev pub HasLock : Folded → List ObjectNode → Type 0
HasLock folded nodes = HasTickets folded.lock nodes

-- the lock's one colour, as a list and as a set
abbrev pub lock_colours : List ℕ
lock_colours = 0 ∷ []

-- the colours of the lock as a set
abbrev pub lock_set : Colours
lock_set = set_of lock_colours

-- the desk's client rests beside the store, and what is folded are nodes that it has read
pub record IsDesk (s : Store) (desk : Desk) : Type 0 where
  pub client : IsClient s desk.client
  pub colour : 0 < s.size.colours
  pub folds : KeepsFold HasLock desk.client (rising lock_colours) desk.fold.kept

-- A node with this text stands under the stamp, and this is what it is told behind the nodes before it.
abbrev pub Writes : Store → Client → Client → List ℕ → ℕ → Option ℕ → Type 0
Writes s c d text stamp told =
    (a : Appended) × (read : StampedRead) × (last : Option Key) × (a.stood.key.stamp ≡ stamp)
    × IsExplained s c d (TellsOwn told_behind lock_set text (rising lock_colours) last told a read)

-- An ask stands under its token, and behind the nodes before it that many tickets are before its own.
abbrev pub Asks : Store → Client → Client → Place → Type 0
Asks s c d place =
    (a : Appended) × (read : StampedRead) × (last : Option Key) × (a.stood.key.stamp ≡ place.token)
    × IsExplained s c d (λ log caller kept after.
    (stood : Kept) × AppendsAs lock_set (codes "ask") a log caller kept stood
    × HasNodesRead (rising lock_colours) last read (λ nodes. told_of told_behind nodes a.stood.key ≡ Some place.before)
    log caller stood after)

-- A leave stands.
abbrev pub Leaves : Store → Client → Client → Type 0
Leaves s c d = (stamp : ℕ) × (told : Option ℕ) × Writes s c d (codes "leave") stamp told

-- The ticket is the first one that the nodes leave which were read, if one is left.
abbrev pub Looks : Store → Client → Client → Option Ticket → Type 0
Looks s c d ticket =
    (last : Option Key) × (read : StampedRead)
    × ReadsNodes s c d lock_colours last read (λ nodes. ticket ≡ slice_get (tickets_after nodes) 0)

-- why a node with this text was refused, or was told nothing
abbrev pub WriteRefused : Store → Client → Client → List ℕ → ObjectFault → Type 0
WriteRefused s c d text =
    RefusedBy (record (tell_refusals s c d (members lock_set) text lock_colours) { memory = d ≡ c })

-- why a look was refused
abbrev pub LookRefused : Store → Client → Client → ObjectFault → Type 0
LookRefused s c d = RefusedBy (record never { sync = ReadRefused s c d (rising lock_colours) })
