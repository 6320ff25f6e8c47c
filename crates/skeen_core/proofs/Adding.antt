-- An entry under a stamp above the clock stands behind all others.
use Rattle.std.proofs.Common.{◌≡◌, ℕ, ◌-◌, ◌<◌, ◌≤◌, true, false, List, [], ◌∷◌, ◌++◌, length, drop}
use Rattle.std.proofs.Common.{sym, ap, subst, ◌∙◌, arith, append_assoc}
use Rattle.std.specs.Prelude.{map}
use Rattle.std.proofs.lemmas.List.{map-append, length_push}
use Rattle.log_node.specs.declared.ids.Key.{Key}
use Rattle.log_node.specs.Order.{same_id, key_below}
use Rattle.log_node.specs.declared.limits.TheConstants.{MAX_STAMP}
use Rattle.skeen_core.specs.declared.waiting.Waiting.{Waiting}
use Rattle.log_node.specs.Standings.{Standing, with_entry, line_of}
use Rattle.skeen_core.specs.Queues.{Queued, standing_of, has_id, entered_queue}
use Rattle.skeen_core.specs.Inside.{final_at, all_entries, all_stored, with_things, queued, AreEntries, StartsOpen}
use Rattle.skeen_core.specs.Inside.{IsQueue, ready_keys, ready_things, left}
use Rattle.skeen_core.proofs.Lists.{each-weaker, each-list_any}
use Rattle.log_node.proofs.CallerLemmas.{stamp-key}
use Rattle.skeen_core.proofs.Delivery.{line-is}
use Rattle.skeen_core.proofs.Stored.{line-queued}
use Rattle.skeen_core.proofs.Delivering.{queued-delivered, queue-delivered}
use Rattle.skeen_core.proofs.Entries.{with_entry-end, entries-with, entries-clock}

module _ {T : Type 0} where
  pub entries-added : (clock : ℕ) (line : List Key) (waiting : List (Waiting T)) (w : Waiting T) →
      AreEntries clock (all_entries line waiting) → clock < w.key.stamp →
      all_entries line (waiting ++ w ∷ []) ≡ with_entry (standing_of w) (all_entries line waiting)
  entries-added clock line waiting w h later =
      ap (λ es. map final_at line ++ es) (map-append standing_of waiting (w ∷ []))
      ∙ sym (append_assoc (map final_at line) (map standing_of waiting) (standing_of w ∷ []))
      ∙ sym (with_entry-end (standing_of w) (all_entries line waiting)
      (each-weaker (λ f. f.key.stamp ≤ clock) (λ f. key_below f.key w.key ≡ true)
      (λ f le. stamp-key f.key w.key (omega arith)) (all_entries line waiting) h.within))

  pub still-entries : (clock : ℕ) (line : List Key) (waiting : List (Waiting T)) (w : Waiting T) →
      AreEntries clock (all_entries line waiting) → clock < w.key.stamp →
      has_id w.key.id (all_entries line waiting) ≡ false →
      AreEntries w.key.stamp (all_entries line (waiting ++ w ∷ []))
  still-entries clock line waiting w h later fresh =
      subst (AreEntries w.key.stamp) (sym (entries-added clock line waiting w h later))
      (entries-with w.key.stamp (standing_of w) (all_entries line waiting)
      (each-list_any (λ e. same_id e.key.id w.key.id) (all_entries line waiting) fresh)
      (omega arith)
      (entries-clock clock w.key.stamp (all_entries line waiting) (omega arith) h))

  -- contracts see the entry come in
  pub queued-added : (clock spare : ℕ) (line : List Key) (kept : List T) (waiting : List (Waiting T))
      (w : Waiting T) → AreEntries clock (all_entries line waiting) → clock < w.key.stamp →
      queued w.key.stamp (spare - 1) line kept (waiting ++ w ∷ []) ≡ entered_queue w
      (queued clock spare line kept waiting)
  queued-added clock spare line kept waiting w h later =
      ap (λ (es : List Standing). let q : Queued T = record {
        clock = w.key.stamp;
        entries = es;
        base = length line - length kept;
        stored = all_stored line kept
            (waiting ++ w ∷ []);
        spare = spare - 1;
      } in q) (entries-added clock line waiting w h later)
      ∙ ap (λ (ws : List (Waiting T)). let q : Queued T = record {
        clock = w.key.stamp;
        entries = with_entry (standing_of w) (all_entries line waiting);
        base = length line -
            length kept;
        stored = ws;
        spare = spare - 1;
      } in q)
      (sym (append_assoc (with_things (drop (length line - length kept) line) kept) waiting (w ∷ [])))

  -- an open entry behind a queue leaves its front as it was
  pub front-added : (waiting : List (Waiting T)) (w : Waiting T) → w.settled ≡ false → StartsOpen waiting →
      StartsOpen (waiting ++ w ∷ [])
  front-added [] w first h = first
  front-added (v ∷ vs) w first h = h

  -- what is left in the fields once an entry was put behind those that wait, and the front was delivered
  pub queue-added : {clock spare : ℕ} {line : List Key} {kept : List T} {waiting : List (Waiting T)} {l k m : ℕ}
      (w : Waiting T) (l' k' m' : ℕ) → IsQueue clock spare line kept waiting l k m → 0 < spare → clock < w.key.stamp →
      w.key.stamp ≤ MAX_STAMP → has_id w.key.id (all_entries line waiting) ≡ false → l ≤ l' → k ≤ k' → m ≤ m' →
      IsQueue w.key.stamp (spare - 1) (line ++ ready_keys (waiting ++ w ∷ []))
      (kept ++ ready_things (waiting ++ w ∷ [])) (left (waiting ++ w ∷ [])) l' k' m'
  queue-added {clock} {spare} {line} {kept} {waiting} w l' k' m' q some later within fresh lower kower mower =
      let n = length_push waiting w in
      queue-delivered w.key.stamp (spare - 1) line kept (waiting ++ w ∷ []) l' k' m'
      (still-entries clock line waiting w q.entries later fresh) within q.fewer
      (let a = q.in_line in omega (arith, n, a)) (let a = q.in_kept in omega (arith, n, a))
      (let a = q.in_waiting in omega (arith, n, a))

  pub view-added : {clock spare : ℕ} {line : List Key} {kept : List T} {waiting : List (Waiting T)} {l k m : ℕ}
      (w : Waiting T) → IsQueue clock spare line kept waiting l k m → clock < w.key.stamp →
      queued w.key.stamp (spare - 1) (line ++ ready_keys (waiting ++ w ∷ []))
      (kept ++ ready_things (waiting ++ w ∷ [])) (left (waiting ++ w ∷ [])) ≡ entered_queue w
      (queued clock spare line kept waiting)
  view-added {clock} {spare} {line} {kept} {waiting} w q later =
      queued-delivered w.key.stamp (spare - 1) line kept (waiting ++ w ∷ []) q.fewer
      ∙ queued-added clock spare line kept waiting w q.entries later

  pub line-still : {clock spare : ℕ} {line : List Key} {kept : List T} {waiting : List (Waiting T)} {l k m : ℕ}
      (w : Waiting T) → IsQueue clock spare line kept waiting l k m → clock < w.key.stamp →
      has_id w.key.id (all_entries line waiting) ≡ false → w.settled ≡ false →
      line_of (all_entries line (waiting ++ w ∷ [])) ≡ line_of (all_entries line waiting)
  line-still {clock} {line} {waiting} w q later fresh first =
      line-is line (waiting ++ w ∷ []) (still-entries clock line waiting w q.entries later fresh).rising
      (front-added waiting w first q.front) ∙ sym (line-queued q)
