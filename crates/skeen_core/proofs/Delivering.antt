-- Moving the final entries in front of those that wait to the line changes no entry.
use Rattle.std.proofs.Common.{◌≡◌, ℕ, suc, ◌+◌, ◌-◌, ◌≤◌, Bool, true, List, [], ◌∷◌}
use Rattle.std.proofs.Common.{◌++◌, length, take, drop, refl, sym, ap, subst, ◌∙◌, arith, append_assoc}
use Rattle.std.proofs.Common.{length-append, take-append-drop}
use Rattle.std.specs.Prelude.{map}
use Rattle.std.specs.List.{AllByRecursion}
use Rattle.std.proofs.lemmas.Bool.{cond_both}
use Rattle.std.proofs.lemmas.List.{map-append, drop-append-le, length-map}
use Rattle.log_node.specs.declared.ids.Key.{Key}
use Rattle.log_node.specs.declared.limits.TheConstants.{MAX_STAMP}
use Rattle.skeen_core.specs.declared.waiting.Waiting.{Waiting}
use Rattle.log_node.specs.Standings.{Standing, line_of}
use Rattle.skeen_core.specs.Queues.{Queued, standing_of, IsContinued}
use Rattle.skeen_core.specs.Inside.{final_at, all_stored, all_entries, with_things, queued, AreEntries, StartsOpen}
use Rattle.skeen_core.specs.Inside.{IsQueue, ready, ready_keys, ready_things, left}
use Rattle.skeen_core.proofs.Stored.{with_things-append, left-of, line-queued}

module _ {T : Type 0} where
  ready-final : (waiting : List (Waiting T)) → AllByRecursion (λ w. w.settled ≡ true) (take (ready waiting) waiting)
  ready-final [] = tt
  ready-final (w ∷ ws) =
      cond_both w.settled (1 + ready ws) 0 (λ n. AllByRecursion (λ v. v.settled ≡ true) (take n (w ∷ ws)))
      (λ t. let e : suc (ready ws) ≡ 1 + ready ws = omega arith in
      subst (λ (n : ℕ). AllByRecursion (λ (v : Waiting T). v.settled ≡ true) (take n (w ∷ ws))) e
      (t, ready-final ws))
      (λ _. tt)

  left-open : (waiting : List (Waiting T)) → StartsOpen (left waiting)
  left-open [] = tt
  left-open (w ∷ ws) =
      cond_both w.settled (1 + ready ws) 0 (λ n. StartsOpen (drop n (w ∷ ws)))
      (λ t. let e : suc (ready ws) ≡ 1 + ready ws = omega arith in
      subst (λ (n : ℕ). StartsOpen (drop n (w ∷ ws))) e (left-open ws))
      (λ f. f)

  -- a final entry that waits alone
  pub alone : (w : Waiting T) → w.settled ≡ true → (left (w ∷ []) ≡ []) × (ready_keys (w ∷ []) ≡ w.key ∷ []) × (ready_things (w ∷ []) ≡ w.thing ∷ [])
  alone w e = (rw e refl, rw e refl, rw e refl)

  finals-of : (ws : List (Waiting T)) → AllByRecursion (λ w. w.settled ≡ true) ws →
      map final_at (map (λ (w : Waiting T). w.key) ws) ≡ map standing_of ws
  finals-of [] h = refl
  finals-of (w ∷ ws) h =
      ap (λ (b : Bool). let e : Standing = record { key = w.key; settled = b } in
      e ∷ map final_at (map (λ (v : Waiting T). v.key) ws)) (sym h.0)
      ∙ ap (λ es. standing_of w ∷ es) (finals-of ws h.1)

  things-of : (ws : List (Waiting T)) → AllByRecursion (λ w. w.settled ≡ true) ws →
      with_things (map (λ (w : Waiting T). w.key) ws) (map (λ (w : Waiting T). w.thing) ws) ≡ ws
  things-of [] h = refl
  things-of (w ∷ ws) h =
      ap (λ (b : Bool). let v : Waiting T = record { key = w.key; settled = b; thing = w.thing } in
      v ∷ with_things (map (λ (v : Waiting T). v.key) ws) (map (λ (v : Waiting T). v.thing) ws)) (sym h.0)
      ∙ ap (λ vs. w ∷ vs) (things-of ws h.1)

  entries-delivered : (line : List Key) (front behind : List (Waiting T)) →
      AllByRecursion (λ w. w.settled ≡ true) front →
      all_entries (line ++ map (λ (w : Waiting T). w.key) front) behind ≡ all_entries line (front ++ behind)
  entries-delivered line front behind h =
      ap (λ es. es ++ map standing_of behind) (map-append final_at line (map (λ (w : Waiting T). w.key) front))
      ∙ append_assoc (map final_at line) (map final_at (map (λ (w : Waiting T). w.key) front)) (map standing_of behind)
      ∙ ap (λ es. map final_at line ++ (es ++ map standing_of behind)) (finals-of front h)
      ∙ ap (λ es. map final_at line ++ es) (sym (map-append standing_of front behind))

  base-delivered : (line : List Key) (kept : List T) (front : List (Waiting T)) →
      length (line ++ map (λ (w : Waiting T). w.key) front) - length (kept ++ map (λ (w : Waiting T). w.thing) front)
      ≡ length line - length kept
  base-delivered line kept front =
      let a = length-append line (map (λ (w : Waiting T). w.key) front) in
      let b = length-append kept (map (λ (w : Waiting T). w.thing) front) in
      let c = length-map front (λ (w : Waiting T). w.key) in
      let d = length-map front (λ (w : Waiting T). w.thing) in
      omega (arith, a, b, c, d)

  stored-delivered : (line : List Key) (kept : List T) (front behind : List (Waiting T)) → length kept ≤ length line →
      AllByRecursion (λ w. w.settled ≡ true) front →
      all_stored (line ++ map (λ (w : Waiting T). w.key) front) (kept ++ map (λ (w : Waiting T). w.thing) front)
      behind ≡ all_stored line kept (front ++ behind)
  stored-delivered line kept front behind fewer h =
      let base : ℕ = length line - length kept in
      let keys : List Key = map (λ (w : Waiting T). w.key) front in
      let things : List T = map (λ (w : Waiting T). w.thing) front in
      ap (λ b. with_things (drop b (line ++ keys)) (kept ++ things) ++ behind) (base-delivered line kept front)
      ∙ ap (λ ks. with_things ks (kept ++ things) ++ behind) (drop-append-le base line keys (omega arith))
      ∙ ap (λ ws. ws ++ behind) (with_things-append (drop base line) keys kept things (left-of line kept fewer))
      ∙ ap (λ ws. (with_things (drop base line) kept ++ ws) ++ behind) (things-of front h)
      ∙ append_assoc (with_things (drop base line) kept) front behind

  -- contracts see no change
  pub queued-delivered : (clock spare : ℕ) (line : List Key) (kept : List T) (waiting : List (Waiting T)) →
      length kept ≤ length line → queued clock spare (line ++ ready_keys waiting) (kept ++ ready_things waiting)
      (left waiting) ≡ queued clock spare line kept waiting
  queued-delivered clock spare line kept waiting fewer =
      let whole = take-append-drop (ready waiting) waiting in
      let front : List (Waiting T) = take (ready waiting) waiting in
      let h = ready-final waiting in
      let e : all_entries (line ++ ready_keys waiting) (left waiting) ≡ all_entries line waiting = entries-delivered
      line front (left waiting) h ∙ ap (λ ws. all_entries line ws) whole in
      let b = base-delivered line kept front in
      let s : all_stored (line ++ ready_keys waiting) (kept ++ ready_things waiting) (left waiting) ≡ all_stored line
      kept waiting = stored-delivered line kept front (left waiting) fewer h
      ∙ ap (λ ws. all_stored line kept ws) whole in
      ap (λ (es : List Standing). let q : Queued T = record {
        clock = clock;
        entries = es;
        base = length (line ++ ready_keys waiting) - length
            (kept ++ ready_things waiting);
        stored = all_stored (line ++ ready_keys waiting)
            (kept ++ ready_things waiting) (left waiting);
        spare = spare;
      } in q) e
      ∙ ap (λ (n : ℕ). let q : Queued T = record {
        clock = clock;
        entries = all_entries line waiting;
        base = n;
        stored
            = all_stored (line ++ ready_keys waiting) (kept ++ ready_things waiting) (left waiting);
        spare = spare;
      } in
      q) b
      ∙ ap (λ (ws : List (Waiting T)). let q : Queued T = record {
        clock = clock;
        entries = all_entries line waiting;
        base = length line - length kept;
        stored = ws;
        spare =
            spare;
      } in q) s

  -- the fields keep what a queue keeps, once the front is delivered
  pub queue-delivered : (clock spare : ℕ) (line : List Key) (kept : List T) (waiting : List (Waiting T)) (l k w : ℕ) →
      AreEntries clock (all_entries line waiting) → clock ≤ MAX_STAMP → length kept ≤ length line →
      length line + (length waiting + spare) ≤ l → length kept + (length waiting + spare) ≤ k →
      length waiting + spare ≤ w → IsQueue clock spare (line ++ ready_keys waiting) (kept ++ ready_things waiting)
      (left waiting) l k w
  queue-delivered clock spare line kept waiting l k w entries bounded fewer in_line in_kept in_waiting =
      let whole = take-append-drop (ready waiting) waiting in
      let front : List (Waiting T) = take (ready waiting) waiting in
      let e : all_entries (line ++ ready_keys waiting) (left waiting) ≡ all_entries line waiting = entries-delivered
      line front (left waiting) (ready-final waiting) ∙ ap (λ ws. all_entries line ws) whole in
      let parts : length front + length (left waiting) ≡ length waiting = sym (length-append front (left waiting))
      ∙ ap length whole in
      let a = length-append line (ready_keys waiting) in
      let b = length-append kept (ready_things waiting) in
      let c = length-map front (λ (w : Waiting T). w.key) in
      let d = length-map front (λ (w : Waiting T). w.thing) in
      record {
        entries = subst (AreEntries clock) (sym e) entries;
        front = left-open waiting;
        bounded = bounded;
        fewer = omega (arith, a, b, c, d, fewer);
        in_line = omega (arith, a, c, parts, in_line);
        in_kept = omega (arith, b, d, parts, in_kept);
        in_waiting = omega (arith, parts, in_waiting);
      }
