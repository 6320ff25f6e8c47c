-- What explains the answers of a desk.
use Rattle.std.proofs.Common.{◌≡◌, ℕ, List, length, Option, Some, None, refl, ap, sym, subst, ◌∙◌}
use Rattle.std.specs.Prelude.{codes, if◌then◌else◌, slice_get, unwrap_or}
use Rattle.std.specs.Str.{bytes_eq}
use Rattle.log_node.specs.declared.ids.Colours.{Colours}
use Rattle.log_node.specs.declared.ids.Key.{Key}
use Rattle.log_node.specs.Sets.{members}
use Rattle.object_fold.specs.Nodes.{ObjectNode, nodes_before}
use Rattle.object_fold.specs.Folds.{last_before, told_among, told_of}
use Rattle.col_core.specs.Keeping.{Kept}
use Rattle.lawful_run.specs.Asks.{rising}
use Rattle.log_client.specs.declared.store.Store.{Store}
use Rattle.log_client.specs.declared.client.Client.{Client}
use Rattle.log_client.specs.declared.answers.Appended.{Appended}
use Rattle.log_client.specs.declared.answers.StampedRead.{StampedRead}
use Rattle.log_client.specs.declared.object_fault.ObjectFault.{ObjectFault}
use Rattle.log_client.specs.Appends.{AppendsAs}
use Rattle.log_client.specs.Calls.{IsExplained}
use Rattle.log_client.specs.Reading.{RestsOn}
use Rattle.log_client.proofs.CallerLemmas.{explained_less}
use Rattle.region_fold.specs.Reads.{HasNodesRead, IsOwn, KeepsFold, ReadsNodes, TellRefused, TellsOwn}
use Rattle.region_fold.proofs.CallerLemmas.{told_more}
use Rattle.lock_fold.specs.declared.lock.Ticket.{Ticket}
use Rattle.lock_fold.specs.Tickets.{tickets_after, told_behind}
use Rattle.example_lock.specs.declared.desk.Desk.{Desk}
use Rattle.example_lock.specs.Desks.{Asks, HasLock, IsDesk, Looks, WriteRefused, Writes, lock_colours, lock_set}

-- an ask is told how many tickets are before its own
has_place : (nodes : List ObjectNode) (a : Appended) (told : Option ℕ) (d : ℕ)
    → IsOwn told_behind a.stood.key (codes "ask") told nodes → told_of told_behind nodes a.stood.key ≡ Some (unwrap_or told d)
has_place nodes a told d own =
    let before = tickets_after (nodes_before own.node.key nodes) in
    let same : told_of told_behind nodes a.stood.key ≡ Some (length before) =
    ap (told_among told_behind nodes) own.among
    ∙ ap (λ (t : List ℕ). let o : Option ℕ = if bytes_eq t (codes "ask") then Some (length before) else None in o) own.text_is in
    same ∙ ap (λ (n : ℕ). Some n) (sym (ap (λ (o : Option ℕ). unwrap_or o d) (own.answer_is ∙ same)))

-- a node that asks and stands is an ask
pub asks : (s : Store) (c d : Client) (stamp : ℕ) (told : Option ℕ) (other : ℕ) → Writes s c d (codes "ask") stamp told
    → Asks s c d (record { token = stamp; before = unwrap_or told other })
asks s c d stamp told other w = (
  w.0,
  w.1,
  last_before w.2 w.0.stood.key,
  w.3,
  explained_less s c d (TellsOwn told_behind lock_set (codes "ask") (rising lock_colours) w.2 told w.0 w.1)
      (λ log caller kept after. (stood : Kept) × AppendsAs lock_set (codes "ask") w.0 log caller kept stood
      × HasNodesRead (rising lock_colours) (last_before w.2 w.0.stood.key) w.1 (λ nodes. told_of told_behind nodes w.0.stood.key ≡ Some (unwrap_or told other)) log caller stood after)
      (λ log caller kept after t. (t.0, t.1, (t.2.0, t.2.1, t.2.2, t.2.3, has_place t.2.2 w.0 told other t.2.4))) w.4,
)

-- a read after which the first ticket follows from what is held
pub looks : (s : Store) (c d : Client) (last : Option Key) (read : StampedRead) (ticket : Option Ticket)
    (Holds : List ObjectNode → Type 0)
    → ((nodes : List ObjectNode) → Holds nodes → ticket ≡ slice_get (tickets_after nodes) 0)
    → ReadsNodes s c d lock_colours last read Holds → Looks s c d ticket
looks s c d last read ticket Holds so reads = (
  last,
  read,
  explained_less s c d (HasNodesRead (rising lock_colours) last read Holds)
      (HasNodesRead (rising lock_colours) last read (λ nodes. ticket ≡ slice_get (tickets_after nodes) 0))
      (λ log caller before after r. (r.0, r.1, r.2, r.3, so r.2 r.4)) reads,
)

-- a node with this text stands, and is told this
pub writes : (s : Store) (c d : Client) (text written : List ℕ) (told : Option ℕ) (a : Appended) (read : StampedRead)
    (last : Option Key) (set : Colours) → set ≡ lock_set → written ≡ text
    → IsExplained s c d (TellsOwn told_behind set written (rising lock_colours) last told a read)
    → Writes s c d text a.stood.key.stamp told
writes s c d text written told a read last set is same tells = (
  a,
  read,
  last,
  refl,
  subst (λ (t : List ℕ). IsExplained s c d (TellsOwn told_behind lock_set t (rising lock_colours) last told a read)) same
      (subst (λ (x : Colours). IsExplained s c d (TellsOwn told_behind x written (rising lock_colours) last told a read)) is tells),
)

-- why it was refused
pub write_refused : (s : Store) (c d : Client) (text written : List ℕ) (fault : ObjectFault) (set : Colours) → set ≡ lock_set
    → written ≡ text → TellRefused s c d (members set) written lock_colours fault → WriteRefused s c d text fault
write_refused s c d text written fault set is same why =
    told_more s c d (members lock_set) text lock_colours (λ shown. ⊥) (d ≡ c) fault
    (subst (λ (t : List ℕ). TellRefused s c d (members lock_set) t lock_colours fault) same
    (subst (λ (x : Colours). TellRefused s c d (members x) written lock_colours fault) is why))

-- a desk whose client goes on
pub desk_after : (s : Store) (old new : Desk) → IsDesk s old → RestsOn s old.client new.client
    → KeepsFold HasLock new.client (rising lock_colours) new.fold.kept → IsDesk s new
desk_after s old new is on folds = record { client = on.client; colour = is.colour; folds = folds }
