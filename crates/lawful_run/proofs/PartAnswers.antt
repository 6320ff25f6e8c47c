-- How the answers to peeks and decides are explained, put together from their parts.
use Rattle.std.proofs.Common.{◌≡◌, inl, inr, Bool, ℕ, ◌<◌, List, [], Some, None, slice_get, refl}
use Rattle.log_node.specs.declared.ids.Counts.{Counts}
use Rattle.log_node.specs.declared.ids.Key.{Key}
use Rattle.log_node.specs.declared.limits.TheConstants.{MAX_COLOURS}
use Rattle.object_fold.specs.Maps.{Value}
use Rattle.object_fold.specs.Nodes.{ObjectNode, shard_of}
use Rattle.part_fold.specs.Agreement.{part_at}
use Rattle.part_fold.specs.Decisions.{decision_text}
use Rattle.part_fold.specs.Parts.{part_value, undecided_after}
use Rattle.col_core.specs.Log.{Log}
use Rattle.col_core.specs.Keeping.{Kept}
use Rattle.script_text.specs.declared.script.Kind.TheVariants as kinds
use Rattle.script_text.specs.declared.commands.What.{What}
use Rattle.script_text.specs.declared.commands.What.TheVariants as whats
use Rattle.report_text.specs.declared.report.Answer.TheVariants as answers
use Rattle.report_text.specs.declared.report.Ended.{Ended}
use Rattle.report_text.specs.declared.report.RaisePiece.{RaisePiece}
use Rattle.report_text.specs.declared.report.SyncPiece.{SyncPiece}
use Rattle.lawful_run.specs.Callers.{Caller}
use Rattle.lawful_run.specs.Asks.{kind_of_object, rising}
use Rattle.lawful_run.specs.Deeds.{AsksForKey, colours_synced}
use Rattle.lawful_run.specs.Reads.{Syncs, kept_after_piece, ReadsAt, AreKeysRead}
use Rattle.lawful_run.specs.Objects.{AreObjectNodes, own_played}
use Rattle.lawful_run.specs.Parts.{EndsAs, IsRuledAs}
use Rattle.lawful_run.specs.Refusals.{HidesDecide, RefusesDecide, hidden}
use Rattle.lawful_run.specs.Explains.{Explains}
use Rattle.lawful_run.proofs.Shards.{shard_synced}

module _ (log : Log) (caller : Caller) (kept : Kept) where
  -- A peek is explained by a sync of the key's shard, and the part after the own nodes that its snapshot counts.
  pub explains_peek : (what : What) (object home : ℕ) (colours key : List ℕ) (place : ℕ) (sync : SyncPiece)
      (value : Value) (nodes : List ObjectNode) → AsksForKey what object key
      → kind_of_object caller object ≡ Some (kinds.Parts home colours) → shard_of colours key < MAX_COLOURS
      → sync.colour ≡ shard_of colours key → slice_get colours place ≡ Some sync.colour
      → Syncs log caller kept sync.colour sync.events sync.counts
      → AreObjectNodes log (own_played log caller sync) nodes
      → undecided_after (part_at colours place) nodes ≡ None → value ≡ part_value (part_at colours place) nodes key
      → Explains log caller kept what (answers.Got value sync) [] (kept_after_piece log caller kept sync)
  explains_peek what object home colours key place sync value nodes asks kind low shard here syncs played decided is = (
    refl,
    (
      nodes,
      played,
      inl (
        Some (kinds.Parts home colours),
        key,
        (
          object,
          asks,
          kind,
          shard_synced caller what object key colours (Some (kinds.Parts home colours)) sync asks kind refl low shard,
        ),
        (place, here, (decided, is)),
      ),
    ),
    syncs,
    refl,
  )

  -- One that finds no value yet: the part waits for a decision.
  pub explains_undecided : (what : What) (object home : ℕ) (colours key : List ℕ) (place : ℕ) (sync : SyncPiece)
      (waits : Key) (nodes : List ObjectNode) → AsksForKey what object key
      → kind_of_object caller object ≡ Some (kinds.Parts home colours) → shard_of colours key < MAX_COLOURS
      → sync.colour ≡ shard_of colours key → slice_get colours place ≡ Some sync.colour
      → Syncs log caller kept sync.colour sync.events sync.counts
      → AreObjectNodes log (own_played log caller sync) nodes
      → undecided_after (part_at colours place) nodes ≡ Some waits
      → Explains log caller kept what (answers.Undecided waits.stamp sync) [] (kept_after_piece log caller kept sync)
  explains_undecided what object home colours key place sync waits nodes asks kind low shard here syncs played waiting = (
    refl,
    (
      nodes,
      played,
      (
        home,
        colours,
        key,
        (
          object,
          asks,
          kind,
          shard_synced caller what object key colours (Some (kinds.Parts home colours)) sync asks kind refl low shard,
        ),
        waits,
        refl,
        (place, here, waiting),
      ),
    ),
    syncs,
    refl,
  )

  -- A decide that finds nothing to decide.
  pub explains_settled : (object home : ℕ) (colours key : List ℕ) (place : ℕ) (sync : SyncPiece)
      (nodes : List ObjectNode) → kind_of_object caller object ≡ Some (kinds.Parts home colours)
      → sync.colour ≡ shard_of colours key → slice_get colours place ≡ Some sync.colour
      → Syncs log caller kept sync.colour sync.events sync.counts
      → AreObjectNodes log (own_played log caller sync) nodes
      → undecided_after (part_at colours place) nodes ≡ None
      → Explains log caller kept (whats.Decide object key) (answers.Got None sync) []
      (kept_after_piece log caller kept sync)
  explains_settled object home colours key place sync nodes kind shard here syncs played decided = (
    refl,
    (nodes, played, inr (colours, (object, key, refl, home, kind, shard), refl, (place, here, decided))),
    syncs,
    refl,
  )

  -- A decision is explained by a sync of the key's shard, a stamped read of all colours, the verdict among what was read,
  -- and how the append of its node ended.
  pub explains_decided : (object home : ℕ) (colours key : List ℕ) (place : ℕ) (sync : SyncPiece)
      (played : List ObjectNode) (waits : Key) (commits : Bool) (read_stamp : ℕ) (raises : List RaisePiece)
      (syncs : List SyncPiece) (read : Kept) (keys : List Key) (objects : List ObjectNode) (ended : Ended) (after : Kept)
      → kind_of_object caller object ≡ Some (kinds.Parts home colours)
      → sync.colour ≡ shard_of colours key → slice_get colours place ≡ Some sync.colour
      → Syncs log caller kept sync.colour sync.events sync.counts
      → AreObjectNodes log (own_played log caller sync) played
      → undecided_after (part_at colours place) played ≡ Some waits
      → ReadsAt log caller (kept_after_piece log caller kept sync) (rising colours) read_stamp raises syncs read
      → AreKeysRead log caller read_stamp syncs keys → AreObjectNodes log keys objects → IsRuledAs waits commits objects
      → EndsAs log caller read (whats.Decide object key) (decision_text (record { key = waits; commits = commits }))
      ended after
      → Explains log caller kept (whats.Decide object key)
      (answers.Decided commits waits.stamp sync read_stamp raises syncs ended) [] after
  explains_decided object home colours key place sync played waits commits read_stamp raises syncs read keys objects ended
      after kind shard here synced are_played waiting reads are_read nodes rules ends = (
        refl,
        colours,
        (object, key, refl, home, kind, shard),
        record {
          synced = synced;
          waits = waits;
          stamp_is = refl;
          waiting = (played, are_played, (place, here, waiting));
          read = read;
          tells = (reads, keys, are_read, objects, nodes, rules);
          ends = ends;
        },
      )

  -- A decide that is refused, or finds no memory before its decision.
  pub explains_decide_refused : (object : ℕ) (key : List ℕ) (colour : ℕ) (base : Counts) (after : Kept)
      → RefusesDecide log caller kept (colours_synced caller (whats.Decide object key)) colour base after
      → Explains log caller kept (whats.Decide object key) (answers.Trimmed colour base) [] after
  explains_decide_refused object key colour base after refused = (refl, inr (inr (inr refl)), refused)

  pub explains_decide_hidden : (object : ℕ) (key : List ℕ) (after : Kept)
      → HidesDecide log caller kept (colours_synced caller (whats.Decide object key)) after
      → Explains log caller kept (whats.Decide object key) answers.NoMemory [] after
  explains_decide_hidden object key after hides = (refl, hidden after hides)
