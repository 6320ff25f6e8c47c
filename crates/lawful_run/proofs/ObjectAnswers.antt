-- How the answers to commands of objects are explained, put together from their parts: appends, syncs and folds.
use Rattle.std.proofs.Common.{◌≡◌, ◌≢◌, ◌⊎◌, inl, inr, ℕ, ◌<◌, List, [], ◌∷◌, Option, Some, None, refl, sym, subst}
use Rattle.std.specs.List.{AllZip, Contains}
use Rattle.std.proofs.lemmas.List.Elements.{All-cons, All-nil}
use Rattle.log_node.specs.declared.ids.Colours.{Colours}
use Rattle.log_node.specs.declared.ids.Counts.{Counts}
use Rattle.log_node.specs.declared.ids.Key.{Key}
use Rattle.log_node.specs.declared.forms.Pair.{Pair}
use Rattle.log_node.specs.declared.limits.TheConstants.{MAX_COLOURS}
use Rattle.log_node.specs.declared.node.At.TheVariants.{Event}
use Rattle.log_node.specs.Sets.{members}
use Rattle.log_node.specs.Vectors.{at}
use Rattle.object_form.specs.declared.tree_why.TreeWhy.{TreeWhy}
use Rattle.object_fold.specs.Causal.{ChainNode, IsCausalAnswer}
use Rattle.object_fold.specs.Folds.{told_of}
use Rattle.object_fold.specs.Maps.{Value, shard_value}
use Rattle.object_fold.specs.Nodes.{ObjectNode, shard_of}
use Rattle.object_fold.specs.Transactions.{values_after, versions_after, verdict_of}
use Rattle.tree_fold.specs.Paths.{Path}
use Rattle.tree_fold.specs.Readings.{path_of}
use Rattle.tree_fold.specs.Trees.{tree_after, telling, told_under, IsNamesAnswer}
use Rattle.col_core.specs.History.{entry_key}
use Rattle.col_core.specs.Cuts.{chain}
use Rattle.col_core.specs.Log.{Log, first}
use Rattle.col_core.specs.Keeping.{Kept, kept_after_look, with_read}
use Rattle.script_text.specs.declared.script.Kind.TheVariants as kinds
use Rattle.script_text.specs.declared.commands.What.{What}
use Rattle.script_text.specs.declared.commands.What.TheVariants as whats
use Rattle.report_text.specs.declared.report.Answer.TheVariants as answers
use Rattle.report_text.specs.declared.report.KeyAnswer.{KeyAnswer}
use Rattle.report_text.specs.declared.report.PointPiece.{PointPiece}
use Rattle.report_text.specs.declared.report.RaisePiece.{RaisePiece}
use Rattle.report_text.specs.declared.report.SyncPiece.{SyncPiece}
use Rattle.lawful_run.specs.Callers.{Caller, node_of}
use Rattle.lawful_run.specs.Asks.{kind_of_object, colours_of_object, home_of_object, home_asked, rising, Appending, Getting, Committing, Dequeuing, Manner}
use Rattle.lawful_run.specs.Deeds.{AsksForKey, colours_synced, AsksToAppend, manner_of}
use Rattle.lawful_run.specs.Appends.{Appends, AppendsUnshown, IsSoLong, WasNext}
use Rattle.lawful_run.specs.Reads.{Syncs, IsTrimmed, HidesSyncs, kept_after_piece, ReadsAt, AreKeysRead, HidesRead, RefusesRead}
use Rattle.lawful_run.specs.Objects.{AreObjectNodes, AreAnswers, IsChainNode, TakesFront, own_played, places_within, shown_verdict}
use Rattle.lawful_run.specs.Refusals.{Hides, Refuses, hidden}
use Rattle.lawful_run.specs.Explains.{Explains}
use Rattle.lawful_run.proofs.Shards.{shard_synced}

module _ (log : Log) (caller : Caller) (kept : Kept) where
  -- A put, a deletion, several puts at once and an enqueue are explained by their append.
  pub explains_append : (what : What) (colours : Colours) (text : List ℕ) (stamp : ℕ) (row : Option ℕ)
      (points : List PointPiece) (after : Kept) → manner_of what ≡ Appending
      → AsksToAppend caller kept what colours text
      → Appends log caller kept (node_of caller kept colours text) stamp row points after
      → Explains log caller kept what (answers.Stood stamp row points) [] after
  explains_append what colours text stamp row points after appending asks appends =
      (refl, inl appending, (colours, text, asks, appends))

  -- An append that finds nothing between is explained by its append, and by the line as long as it was played right before its event.
  pub explains_next : (colours : Colours) (text : List ℕ) (stamp : ℕ) (point : PointPiece) (place : ℕ) (after : Kept)
      → members colours ≡ point.colour ∷ [] → point.at ≡ Event place
      → IsSoLong log caller kept point.colour place point.position 0
      → point.position ≡ at (kept.starts point.colour) caller.own
      → Appends log caller kept (node_of caller kept colours text) stamp None (point ∷ []) after
      → Explains log caller kept (whats.Only point.colour text) (answers.Stood stamp None (point ∷ [])) [] after
  explains_next colours text stamp point place after only event so_long played appends = (
    refl,
    inr (
      refl,
      All-cons (WasNext log caller kept) point [] (place, event, so_long, played) (All-nil (WasNext log caller kept)),
    ),
    (colours, text, (only, refl), appends),
  )

  -- One that finds something between is explained by a look at its colour.
  pub explains_moved : (colour : ℕ) (text : List ℕ) (lined waiting events : ℕ)
      → IsSoLong log caller kept colour events lined waiting
      → (waiting ≢ 0) ⊎ (lined ≢ at (kept.starts colour) caller.own)
      → Explains log caller kept (whats.Only colour text) (answers.Moved lined waiting colour events) []
      (kept_after_look kept caller.own colour events)
  explains_moved colour text lined waiting events so_long moved = (refl, text, refl, so_long, moved, refl)

  -- A get of a map is explained by a sync of the key's shard, and the fold of the own nodes that its snapshot counts.
  pub explains_get : (what : What) (object home : ℕ) (colours key : List ℕ) (sync : SyncPiece) (nodes : List ObjectNode)
      → AsksForKey what object key → kind_of_object caller object ≡ Some (kinds.Map home colours)
      → shard_of colours key < MAX_COLOURS
      → sync.colour ≡ shard_of colours key → Syncs log caller kept sync.colour sync.events sync.counts
      → AreObjectNodes log (own_played log caller sync) nodes
      → Explains log caller kept what
      (answers.Got (shard_value colours sync.colour nodes key) sync) [] (kept_after_piece log caller kept sync)
  explains_get what object home colours key sync nodes asks kind low shard syncs played = (
    refl,
    (
      nodes,
      played,
      inl (
        Some (kinds.Map home colours),
        key,
        (
          object,
          asks,
          kind,
          shard_synced caller what object key colours (Some (kinds.Map home colours)) sync asks kind refl low shard,
        ),
        refl,
      ),
    ),
    syncs,
    refl,
  )

  -- A get of a causal map is explained by a sync of its colour, and the answer over all nodes that its snapshot counts.
  pub explains_values : (what : What) (object : ℕ) (key : List ℕ) (sync : SyncPiece) (nodes : List ChainNode)
      (values : List (List ℕ)) → AsksForKey what object key
      → kind_of_object caller object ≡ Some (kinds.Causal sync.colour)
      → Syncs log caller kept sync.colour sync.events sync.counts
      → AllZip (IsChainNode log (chain caller.own (first log caller.own sync.colour sync.events)))
      (places_within sync.counts) nodes
      → IsCausalAnswer nodes key values
      → Explains log caller kept what (answers.GotMany values sync) []
      (kept_after_piece log caller kept sync)
  explains_values what object key sync nodes values asks kind syncs played answer =
      (refl, object, key, asks, kind, syncs, record { nodes = nodes; played = played; answer = answer }, refl)

  -- A get that is refused, or finds no memory after its sync.
  pub explains_get_trimmed : (what : What) (colour : ℕ) (base : Counts) (after : Kept) → manner_of what ≡ Getting
      → Contains (colours_synced caller what) colour → IsTrimmed log caller kept colour base
      → HidesSyncs log caller kept (colours_synced caller what) after
      → Explains log caller kept what (answers.Trimmed colour base) [] after
  explains_get_trimmed what colour base after getting has trimmed hides = (
    refl,
    inr (inl getting),
    subst (λ (m : Manner). Refuses log caller kept (colours_synced caller what) m colour base after) (sym getting)
        (has, trimmed, hides),
  )

  pub explains_get_without : (what : What) (after : Kept) → manner_of what ≡ Getting
      → HidesSyncs log caller kept (colours_synced caller what) after
      → Explains log caller kept what answers.NoMemory [] after
  explains_get_without what after getting hides = (
    refl,
    hidden after
        (subst (λ (m : Manner). Hides log caller kept (colours_synced caller what) m after) (sym getting) hides),
  )

  -- A dequeue is explained by its append, the sync behind it, and the front of the queue before its own node.
  pub explains_take : (what : What) (colours : Colours) (text : List ℕ) (stamp : ℕ) (point : PointPiece)
      (sync : SyncPiece) (value : Value) (stood : Kept) → manner_of what ≡ Dequeuing → sync.colour ≡ point.colour
      → AsksToAppend caller kept what colours text
      → Appends log caller kept (node_of caller kept colours text) stamp None (point ∷ []) stood
      → Syncs log caller stood sync.colour sync.events sync.counts → TakesFront log caller point value
      → Explains log caller kept what (answers.Took value point sync) [] (kept_after_piece log caller stood sync)
  explains_take what colours text stamp point sync value stood dequeuing same asks appends syncs takes =
      (refl, dequeuing, same, (colours, text, asks, (stamp, stood, appends, syncs, takes, refl)))

  -- Its node stands, and the sync or the fold was refused.
  pub explains_unread : (what : What) (colours : Colours) (text : List ℕ) (stamp colour : ℕ) (base : Counts)
      (stood after : Kept) → manner_of what ≡ Dequeuing → Contains (colours_synced caller what) colour
      → AsksToAppend caller kept what colours text
      → AppendsUnshown log caller kept (node_of caller kept colours text) stamp stood
      → IsTrimmed log caller stood colour base → HidesSyncs log caller stood (colours_synced caller what) after
      → Explains log caller kept what (answers.UnreadTrimmed stamp colour base) [] after
  explains_unread what colours text stamp colour base stood after dequeuing has asks appends trimmed hides = (
    refl,
    inr dequeuing,
    (
      colours,
      text,
      asks,
      (
        stood,
        appends,
        subst (λ (m : Manner). Refuses log caller stood (colours_synced caller what) m colour base after) (sym dequeuing)
            (has, trimmed, hides),
      ),
    ),
  )

  pub explains_unread_without : (what : What) (colours : Colours) (text : List ℕ) (stamp : ℕ) (stood after : Kept)
      → manner_of what ≡ Dequeuing → AsksToAppend caller kept what colours text
      → AppendsUnshown log caller kept (node_of caller kept colours text) stamp stood
      → HidesSyncs log caller stood (colours_synced caller what) after
      → Explains log caller kept what (answers.UnreadNoMemory stamp) [] after
  explains_unread_without what colours text stamp stood after dequeuing asks appends hides = (
    refl,
    inr dequeuing,
    (
      colours,
      text,
      asks,
      (
        stood,
        appends,
        subst (λ (m : Manner). Hides log caller stood (colours_synced caller what) m after) (sym dequeuing) hides,
      ),
    ),
  )

  -- A read of a transactional map is explained by its stamped read, and the fold of the nodes that were read.
  pub explains_read : (object : ℕ) (asked : List (List ℕ)) (stamp : ℕ) (shown : List KeyAnswer)
      (raises : List RaisePiece) (syncs : List SyncPiece) (read : Kept) (keys : List Key) (objects : List ObjectNode)
      → ReadsAt log caller kept (rising (colours_of_object caller object)) stamp raises syncs read
      → AreKeysRead log caller stamp syncs keys → AreObjectNodes log keys objects
      → AreAnswers asked (values_after objects asked) shown
      → Explains log caller kept (whats.Read object asked) (answers.GotKeys stamp shown raises syncs) []
      (with_read read object (Some (versions_after objects asked)))
  explains_read object asked stamp shown raises syncs read keys objects reads are_read nodes shows =
      (refl, read, (reads, keys, are_read, objects, nodes, inr (object, asked, refl, shows, refl)))

  -- A commit is explained by its append, the stamped read behind it, and the verdict on its own node among what was read.
  pub explains_verdict : (what : What) (colours : Colours) (text : List ℕ) (own : ℕ) (stood : Kept) (verdict : Value)
      (stamp : ℕ) (row : Option ℕ) (points : List PointPiece) (read_stamp : ℕ) (raises : List RaisePiece)
      (syncs : List SyncPiece) (after : Kept) (keys : List Key) (objects : List ObjectNode)
      → manner_of what ≡ Committing → AsksToAppend caller kept what colours text
      → Appends log caller kept (node_of caller kept colours text) own row points stood
      → ReadsAt log caller stood (colours_synced caller what) read_stamp raises syncs after
      → AreKeysRead log caller read_stamp syncs keys → AreObjectNodes log keys objects
      → verdict_of objects (entry_key own (node_of caller kept colours text).id) ≡ Some (shown_verdict verdict stamp)
      → Explains log caller kept what (answers.Ruled verdict stamp row points read_stamp raises syncs) [] after
  explains_verdict what colours text own stood verdict stamp row points read_stamp raises syncs after keys objects
      committing asks appends reads are_read nodes rules =
      (refl, (committing, (colours, text, asks, (own, stood, appends, (reads, keys, are_read, objects, nodes, rules)))))

  -- A change of a tree is explained by its append, the stamped read behind it, and what its own node is told among what was read.
  pub explains_change : (what : What) (colours : Colours) (text : List ℕ) (own : ℕ) (stood : Kept)
      (failed : Option TreeWhy) (stamp : ℕ) (row : Option ℕ) (points : List PointPiece) (read_stamp : ℕ)
      (raises : List RaisePiece) (syncs : List SyncPiece) (after : Kept) (keys : List Key) (objects : List ObjectNode)
      → manner_of what ≡ Committing → AsksToAppend caller kept what colours text
      → Appends log caller kept (node_of caller kept colours text) own row points stood
      → ReadsAt log caller stood (colours_synced caller what) read_stamp raises syncs after
      → AreKeysRead log caller read_stamp syncs keys → AreObjectNodes log keys objects
      → told_of telling objects (entry_key own (node_of caller kept colours text).id) ≡ Some (told_under stamp failed)
      → Explains log caller kept what (answers.Changed failed stamp row points read_stamp raises syncs) [] after
  explains_change what colours text own stood failed stamp row points read_stamp raises syncs after keys objects
      changing asks appends reads are_read nodes tells =
      (refl, (changing, (colours, text, asks, (own, stood, appends, (reads, keys, are_read, objects, nodes, tells)))))

  -- A list of the names in a path is explained by its stamped read, and the tree after the nodes that were read.
  pub explains_names : (object : ℕ) (text : List ℕ) (path : Path) (names : Option (List (List ℕ))) (stamp : ℕ)
      (raises : List RaisePiece) (syncs : List SyncPiece) (after : Kept) (keys : List Key) (objects : List ObjectNode)
      → ReadsAt log caller kept (rising (colours_of_object caller object)) stamp raises syncs after
      → AreKeysRead log caller stamp syncs keys → AreObjectNodes log keys objects
      → path_of text ≡ Some path → IsNamesAnswer (tree_after objects) path names
      → Explains log caller kept (whats.Ls object text) (answers.Listed names stamp raises syncs) [] after
  explains_names object text path names stamp raises syncs after keys objects reads are_read nodes is answer =
      (refl, object, text, refl, (reads, keys, are_read, objects, nodes, (path, is, answer)))

  -- Its node stands, and the read or the fold behind it was refused.
  pub explains_unruled : (what : What) (colours : Colours) (text : List ℕ) (stamp colour : ℕ) (base : Counts)
      (stood after : Kept) → manner_of what ≡ Committing → AsksToAppend caller kept what colours text
      → AppendsUnshown log caller kept (node_of caller kept colours text) stamp stood
      → RefusesRead log caller stood (colours_synced caller what) colour base after
      → Explains log caller kept what (answers.UnreadTrimmed stamp colour base) [] after
  explains_unruled what colours text stamp colour base stood after committing asks appends refused = (
    refl,
    inl committing,
    (
      colours,
      text,
      asks,
      (
        stood,
        appends,
        subst (λ (m : Manner). Refuses log caller stood (colours_synced caller what) m colour base after)
            (sym committing) refused,
      ),
    ),
  )

  pub explains_unruled_without : (what : What) (colours : Colours) (text : List ℕ) (stamp : ℕ) (stood after : Kept)
      → manner_of what ≡ Committing → AsksToAppend caller kept what colours text
      → AppendsUnshown log caller kept (node_of caller kept colours text) stamp stood
      → HidesRead log caller stood (colours_synced caller what) after
      → Explains log caller kept what (answers.UnreadNoMemory stamp) [] after
  explains_unruled_without what colours text stamp stood after committing asks appends hides = (
    refl,
    inl committing,
    (
      colours,
      text,
      asks,
      (
        stood,
        appends,
        subst (λ (m : Manner). Hides log caller stood (colours_synced caller what) m after) (sym committing) hides,
      ),
    ),
  )

  -- A commit whose client keeps no read of the object is refused.
  pub explains_no_read : (object : ℕ) (pairs : List Pair) → home_of_object caller object ≡ Some caller.own
      → kept.reads object ≡ None → Explains log caller kept (whats.Commit object pairs) answers.NoTx [] kept
  explains_no_read object pairs home none = (refl, refl, object, pairs, refl, home, none)

  -- Away from its object's home a client is refused.
  pub explains_away : (what : What) (home : ℕ) → home_asked caller what ≡ Some home → caller.own ≢ home
      → Explains log caller kept what (answers.NotHome home) [] kept
  explains_away what home asked away = (refl, refl, asked, away)
