-- What a queue keeps beside its client, and what its dequeues answer.
use Rattle.std.specs.Prelude.{◌≡◌, ℕ, ◌<◌, List, [], ◌∷◌, length, Some, None}
use Rattle.log_node.specs.declared.ids.Colours.{Colours}
use Rattle.log_node.specs.declared.forms.Form.TheVariants as forms
use Rattle.log_node.specs.declared.limits.TheConstants.{MAX_COLOURS}
use Rattle.log_node.specs.Sets.{members}
use Rattle.object_form.specs.Forms.{form_text}
use Rattle.object_fold.specs.Maps.{Value}
use Rattle.object_fold.specs.States.{IsValueQueue}
use Rattle.col_core.specs.Log.{Log}
use Rattle.col_core.specs.Keeping.{Kept}
use Rattle.append_core.specs.declared.stood.Point.{Point}
use Rattle.lawful_run.specs.Callers.{Caller, node_of}
use Rattle.lawful_run.specs.Appends.{Appends}
use Rattle.lawful_run.specs.Reads.{Syncs, kept_after_piece}
use Rattle.lawful_run.specs.Objects.{TakesFront}
use Rattle.log_client.specs.declared.store.Store.{Store}
use Rattle.log_client.specs.declared.client.Client.{Client}
use Rattle.log_client.specs.declared.answers.Appended.{Appended}
use Rattle.log_client.specs.declared.answers.Synced.{Synced}
use Rattle.log_client.specs.declared.object_fault.ObjectFault.{ObjectFault}
use Rattle.log_client.specs.Clients.{tracks_of}
use Rattle.log_client.specs.Calls.{IsExplained}
use Rattle.log_client.specs.Appends.{piece_of}
use Rattle.log_client.specs.StampedReads.{sync_piece}
use Rattle.log_client.specs.Refusals.{RefusedBy, never}
use Rattle.log_client.specs.Objects.{FoldsLine, IsAwayFrom, NotAppended, UnreadLeaves}
use Rattle.log_queue.specs.declared.queue.LogQueue.{LogQueue}

-- The queue is kept beside the client: its colour is one of the client's, and what is folded are the first nodes of the own
-- line that the client has played of it.
pub record IsQueueOf (c : Client) (q : LogQueue) : Type 0 where
  pub colour : q.colour < length (tracks_of c)
  pub few : q.colour < MAX_COLOURS
  pub folds : FoldsLine c q.colour q.kept.count (IsValueQueue q.kept.state)

-- the text of a dequeue's node
abbrev pub dequeue_text : List ℕ
dequeue_text = form_text forms.Dequeue

-- The own node, with the id that is answered, stands at the point; behind it the colour was synced; and the node takes the value,
-- by those before it.
abbrev pub TakesAs : Colours → Appended → Point → Synced → Value → Log → Caller → Kept → Kept → Type 0
TakesAs set a point y value log caller kept after =
    (stood : Kept)
    × Appends log caller kept (node_of caller kept set dequeue_text) a.stood.key.stamp None (piece_of point ∷ []) stood
    × Syncs log caller stood y.snapshot.colour y.events y.snapshot.counts
    × TakesFront log caller (piece_of point) value
    × (after ≡ kept_after_piece log caller stood (sync_piece y))
    × (a.id ≡ (node_of caller kept set dequeue_text).id) × (a.stood.key.id ≡ a.id) × (a.row ≡ None)

-- a dequeue of a queue on this colour answered with this
pub record Dequeues (s : Store) (c d : Client) (colour : ℕ) (value : Value) (a : Appended) (y : Synced) : Type 0 where
  pub set : Colours
  pub members_are : members set ≡ colour ∷ []
  pub point : Point
  pub point_is : a.stood.points ≡ point ∷ []
  pub point_there : point.colour ≡ colour
  pub synced : y.snapshot.colour ≡ colour
  pub explained : IsExplained s c d (TakesAs set a point y value)

-- why a dequeue of a queue at this home on this colour was refused
abbrev pub DeqRefused : ℕ → Store → Client → Client → ℕ → ObjectFault → Type 0
DeqRefused home s c d colour = RefusedBy (record never {
  away = IsAwayFrom (Some home) c d;
  append = NotAppended s c d (colour ∷ []) dequeue_text;
  unread = UnreadLeaves s c d colour dequeue_text;
  memory = d ≡ c;
})
