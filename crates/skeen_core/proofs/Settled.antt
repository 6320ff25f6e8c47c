-- Settling an open id among those that wait settles it among all entries and all stored ones.
use Rattle.std.proofs.Common.{◌≡◌, ℕ, ◌-◌, ◌≤◌, max, Bool, true, false, List, [], ◌∷◌, ◌++◌, cond, length}
use Rattle.std.proofs.Common.{drop, refl, sym, ap, subst, ◌∙◌, arith}
use Rattle.std.specs.Prelude.{map, not, Some}
use Rattle.std.specs.List.{AllByRecursion, filter, find, list_any}
use Rattle.std.proofs.lemmas.Bool.{not_from_false, cond-false}
use Rattle.std.proofs.lemmas.List.Elements.{filter-append}
use Rattle.log_node.specs.declared.ids.Id.{Id}
use Rattle.log_node.specs.declared.ids.Key.{Key}
use Rattle.log_node.specs.Order.{same_id, key_below}
use Rattle.log_node.specs.declared.limits.TheConstants.{MAX_STAMP}
use Rattle.log_node.specs.declared.marks.Outcome.{Outcome}
use Rattle.log_node.specs.declared.marks.Outcome.TheVariants.{Open, Gone, Final}
use Rattle.skeen_core.specs.declared.waiting.Waiting.{Waiting}
use Rattle.log_node.specs.Outcomes.{final_number}
use Rattle.log_node.specs.Standings.{Standing, with_entry, without_id, settled_entries, is_open_id, open_entry}
use Rattle.skeen_core.specs.Queues.{Queued, standing_of, final_entry, with_stored, stored_without, with_found}
use Rattle.skeen_core.specs.Queues.{settled_stored, settled_queue, MaySettle}
use Rattle.skeen_core.specs.Inside.{final_at, all_entries, all_stored, with_things, queued, AreEntries, IsQueue}
use Rattle.skeen_core.specs.Inside.{ready_keys, ready_things, left}
use Rattle.skeen_core.proofs.Lists.{each-weaker, each-both, each-map, each-of_map, each-drop, filter-all}
use Rattle.skeen_core.proofs.Lists.{filter-map, find-skip, find-some, find-map, cond-map}
use Rattle.log_node.proofs.CallerLemmas.{key-asym, key-raise, same_id-sym}
use Rattle.skeen_core.proofs.Entries.{AllBelow, HasOwnId, with_entry-front, entries-filter, entries-with}
use Rattle.skeen_core.proofs.Entries.{entries-clock, lacks-without, below-over, apart-over}
use Rattle.skeen_core.proofs.Delivering.{queue-delivered, queued-delivered}
use Rattle.skeen_core.proofs.Settling.{opens, opens-parts}

-- they are still entries
pub still-settled : (clock : ℕ) (id : Id) (outcome : Outcome) (es : List Standing) → AreEntries clock es →
    AreEntries (max clock (final_number outcome)) (settled_entries id outcome es)
still-settled clock id Open es h = entries-clock clock (max clock 0) es (omega arith) h
still-settled clock id (Gone why) es h = entries-clock clock (max clock 0) (without_id id es) (omega arith)
    (entries-filter clock (λ e. not (same_id e.key.id id)) es h)
still-settled clock id (Final f) es h =
    entries-with (max clock f) (record { key = record { stamp = f; id = id }; settled = true }) (without_id id es)
    (lacks-without id es) (omega arith)
    (entries-clock clock (max clock f) (without_id id es) (omega arith)
    (entries-filter clock (λ e. not (same_id e.key.id id)) es h))

module _ {T : Type 0} where
  -- the entry that is open under an id, and what stands in front of it
  pub record Opened (id : Id) (line : List Key) (waiting : List (Waiting T)) (w : Waiting T) : Type 0 where
    pub found : find (opens id) waiting ≡ Some w
    pub is : w.key.id ≡ id
    pub below : AllByRecursion (λ k. key_below k w.key ≡ true) line
    pub others : AllByRecursion (λ k. same_id k.id id ≡ false) line

  pub opened : (clock : ℕ) (id : Id) (line : List Key) (waiting : List (Waiting T)) →
      AreEntries clock (all_entries line waiting) → list_any (opens id) waiting ≡ true →
      (w : Waiting T) × Opened id line waiting w
  opened clock id line waiting h some =
      let front : List Standing = map final_at line in
      let P : Standing → Type 0 = λ g. AllBelow g front × HasOwnId g front in
      let each = each-map standing_of P waiting (each-both (λ g. AllBelow g front) (λ g. HasOwnId g front)
      (map standing_of waiting) (below-over front (map standing_of waiting) h.rising)
      (apart-over front (map standing_of waiting) h.apart)) in
      let r = find-some (opens id) (λ w. P (standing_of w)) waiting each some in
      let is : r.0.key.id ≡ id = (opens-parts id r.0 r.2).1 in (
        r.0,
        record {
          found = r.1;
          is = is;
          below = each-map final_at (λ f. key_below f.key r.0.key ≡ true) line r.3.0;
          others = each-weaker (λ k. same_id r.0.key.id k.id ≡ false) (λ k. same_id k.id id ≡ false)
              (λ k e. same_id-sym id k.id (subst (λ (i : Id). same_id i k.id ≡ false) is e)) line
              (each-map final_at (λ f. same_id r.0.key.id f.key.id ≡ false) line r.3.1);
        },
      )

  -- the open entry of an id is that one
  pub opened-entry : (id : Id) (line : List Key) (waiting : List (Waiting T)) (w : Waiting T) →
      Opened id line waiting w → open_entry id (all_entries line waiting) ≡ Some (standing_of w)
  opened-entry id line waiting w o =
      find-skip (is_open_id id) (map final_at line) (map standing_of waiting) (none line)
      ∙ find-map (is_open_id id) standing_of waiting w o.found where
        none : (ks : List Key) → AllByRecursion (λ e. is_open_id id e ≡ false) (map final_at ks)
        none [] = tt
        none (k ∷ ks) = (refl, none ks)

  map-with_stored : (w : Waiting T) (ws : List (Waiting T)) →
      map standing_of (with_stored w ws) ≡ with_entry (standing_of w) (map standing_of ws)
  map-with_stored w [] = refl
  map-with_stored w (v ∷ vs) =
      cond-map (λ us. map standing_of us) (key_below w.key v.key) (w ∷ v ∷ vs) (v ∷ with_stored w vs)
      ∙ ap (λ es. cond (key_below w.key v.key) (standing_of w ∷ standing_of v ∷ map standing_of vs)
      (standing_of v ∷ es)) (map-with_stored w vs)

  entries-gone : (id : Id) (line : List Key) (waiting : List (Waiting T)) →
      AllByRecursion (λ k. same_id k.id id ≡ false) line →
      all_entries line (stored_without id waiting) ≡ without_id id (all_entries line waiting)
  entries-gone id line waiting others =
      let q : Standing → Bool = λ e. not (same_id e.key.id id) in
      sym (filter-append q (map final_at line) (map standing_of waiting)
      ∙ ap (λ es. es ++ filter q (map standing_of waiting))
      (filter-all q (map final_at line) (each-of_map final_at (λ e. q e ≡ true) line
      (each-weaker (λ k. same_id k.id id ≡ false) (λ k. not (same_id k.id id) ≡ true) (λ k e. not_from_false _ e)
      line others)))
      ∙ ap (λ es. map final_at line ++ es) (filter-map q standing_of waiting))

  -- entries in rising key, with this outcome
  pub entries-settled : (id : Id) (outcome : Outcome) (line : List Key) (waiting : List (Waiting T)) (w : Waiting T)
      (last : ℕ) → Opened id line waiting w → MaySettle id outcome (all_entries line waiting) last →
      all_entries line (settled_stored id outcome waiting) ≡ settled_entries id outcome (all_entries line waiting)
  entries-settled id Open line waiting w last o may = refl
  entries-settled id (Gone why) line waiting w last o may = entries-gone id line waiting o.others
  entries-settled id (Final f) line waiting w last o may =
      let le = (may (standing_of w) (opened-entry id line waiting w o)).0 in
      let e : Standing = record { key = record { stamp = f; id = w.key.id }; settled = true } in
      ap (λ x. map final_at line ++ map standing_of (with_found f x (stored_without id waiting))) o.found
      ∙ ap (λ es. map final_at line ++ es) (map-with_stored (final_entry f w) (stored_without id waiting))
      ∙ sym (with_entry-front e (map final_at line) (map standing_of (stored_without id waiting))
      (each-of_map final_at (λ g. key_below g.key e.key ≡ true) line
      (each-weaker (λ k. key_below k w.key ≡ true) (λ k. key_below k e.key ≡ true)
      (λ k b. key-raise k w.key f b le) line o.below)))
      ∙ ap (λ es. with_entry e es) (entries-gone id line waiting o.others)
      ∙ ap (λ (i : Id). let d : Standing = record { key = record { stamp = f; id = i }; settled = true } in
      with_entry d (without_id id (all_entries line waiting))) o.is

  -- a final number is within the range of stamps
  pub final-within : (id : Id) (outcome : Outcome) (line : List Key) (waiting : List (Waiting T)) (w : Waiting T)
      (last : ℕ) → Opened id line waiting w → MaySettle id outcome (all_entries line waiting) last →
      final_number outcome ≤ last
  final-within id Open line waiting w last o may = omega arith
  final-within id (Gone why) line waiting w last o may = omega arith
  final-within id (Final f) line waiting w last o may = (may (standing_of w) (opened-entry id line waiting w o)).1

  things-each : (P : Key → Type 0) (ks : List Key) (ts : List T) → AllByRecursion P ks →
      AllByRecursion (λ v. (v.settled ≡ true) × P v.key) (with_things ks ts)
  things-each P [] ts h = tt
  things-each P (k ∷ ks) [] h = tt
  things-each P (k ∷ ks) (t ∷ ts) h = ((refl, h.0), things-each P ks ts h.1)

  with_stored-front : (w : Waiting T) (us vs : List (Waiting T)) →
      AllByRecursion (λ u. key_below u.key w.key ≡ true) us → with_stored w (us ++ vs) ≡ us ++ with_stored w vs
  with_stored-front w [] vs h = refl
  with_stored-front w (u ∷ us) vs h =
      cond-false (key_below w.key u.key) (w ∷ u ∷ us ++ vs) (u ∷ with_stored w (us ++ vs)) (key-asym u.key w.key h.0)
      ∙ ap (λ xs. u ∷ xs) (with_stored-front w us vs h.1)

  stored-gone : (id : Id) (front behind : List (Waiting T)) →
      AllByRecursion (λ v. (v.settled ≡ true) × (same_id v.key.id id ≡ false)) front →
      front ++ stored_without id behind ≡ stored_without id (front ++ behind)
  stored-gone id front behind others =
      let q : Waiting T → Bool = λ v. not (same_id v.key.id id) in
      sym (filter-append q front behind
      ∙ ap (λ vs. vs ++ filter q behind) (filter-all q front
      (each-weaker (λ v. (v.settled ≡ true) × (same_id v.key.id id ≡ false)) (λ v. q v ≡ true)
      (λ v e. not_from_false _ e.1) front others)))

  -- stored entries, with this outcome
  pub stored-settled : (id : Id) (outcome : Outcome) (line : List Key) (kept : List T) (waiting : List (Waiting T))
      (w : Waiting T) (last : ℕ) → Opened id line waiting w → MaySettle id outcome (all_entries line waiting) last →
      all_stored line kept (settled_stored id outcome waiting) ≡ settled_stored id outcome
      (all_stored line kept waiting)
  stored-settled id Open line kept waiting w last o may = refl
  stored-settled id (Gone why) line kept waiting w last o may =
      let base : ℕ = length line - length kept in
      stored-gone id (with_things (drop base line) kept) waiting
      (things-each (λ k. same_id k.id id ≡ false) (drop base line) kept
      (each-drop (λ k. same_id k.id id ≡ false) base line o.others))
  stored-settled id (Final f) line kept waiting w last o may =
      let base : ℕ = length line - length kept in
      let front : List (Waiting T) = with_things (drop base line) kept in
      let le = (may (standing_of w) (opened-entry id line waiting w o)).0 in
      let others = things-each (λ k. same_id k.id id ≡ false) (drop base line) kept
      (each-drop (λ k. same_id k.id id ≡ false) base line o.others) in
      let below = things-each (λ k. key_below k w.key ≡ true) (drop base line) kept
      (each-drop (λ k. key_below k w.key ≡ true) base line o.below) in
      let skipped = find-skip (opens id) front waiting
      (each-weaker (λ v. (v.settled ≡ true) × (same_id v.key.id id ≡ false)) (λ v. opens id v ≡ false)
      (λ v e. let s = e.0 in rw s refl) front others) in
      ap (λ x. front ++ with_found f x (stored_without id waiting)) o.found
      ∙ sym (with_stored-front (final_entry f w) front (stored_without id waiting)
      (each-weaker (λ v. (v.settled ≡ true) × (key_below v.key w.key ≡ true))
      (λ v. key_below v.key (final_entry f w).key ≡ true) (λ v e. key-raise v.key w.key f e.1 le) front below))
      ∙ ap (λ vs. with_stored (final_entry f w) vs) (stored-gone id front waiting others)
      ∙ ap (λ x. with_found f x (stored_without id (front ++ waiting))) (sym (skipped ∙ o.found))

  -- contracts see the id settled
  pub queued-settled : (clock spare : ℕ) (id : Id) (outcome : Outcome) (line : List Key) (kept : List T)
      (waiting : List (Waiting T)) (w : Waiting T) (last : ℕ) → Opened id line waiting w →
      MaySettle id outcome (all_entries line waiting) last →
      queued (max clock (final_number outcome)) spare line kept (settled_stored id outcome waiting) ≡ settled_queue id
      outcome (queued clock spare line kept waiting)
  queued-settled clock spare id outcome line kept waiting w last o may =
      ap (λ (es : List Standing). let q : Queued T = record {
        clock = max clock (final_number outcome);
        entries = es;
        base = length line - length kept;
        stored =
            all_stored line kept (settled_stored id outcome waiting);
        spare = spare;
      } in q)
      (entries-settled id outcome line waiting w last o may)
      ∙ ap (λ (vs : List (Waiting T)). let q : Queued T = record {
        clock = max clock (final_number outcome);
        entries = settled_entries id outcome (all_entries line waiting);
        base = length line - length kept;
        stored = vs;
        spare = spare;
      } in q)
      (stored-settled id outcome line kept waiting w last o may)

  -- what is left in the fields once an id was settled among those that wait, and the front was delivered
  pub queue-settled : {clock spare : ℕ} {line : List Key} {kept : List T} {waiting : List (Waiting T)} {l k m : ℕ}
      (id : Id) (outcome : Outcome) (l' k' m' : ℕ) → IsQueue clock spare line kept waiting l k m →
      list_any (opens id) waiting ≡ true → MaySettle id outcome (all_entries line waiting) MAX_STAMP →
      length (settled_stored id outcome waiting) ≤ length waiting → l ≤ l' → k ≤ k' → m ≤ m' →
      IsQueue (max clock (final_number outcome)) spare (line ++ ready_keys (settled_stored id outcome waiting))
      (kept ++ ready_things (settled_stored id outcome waiting)) (left (settled_stored id outcome waiting)) l' k' m'
  queue-settled {clock} {spare} {line} {kept} {waiting} id outcome l' k' m' q some may shorter lower kower mower =
      let o = opened clock id line waiting q.entries some in
      let within = final-within id outcome line waiting o.0 MAX_STAMP o.1 may in
      let sound = subst (AreEntries (max clock (final_number outcome)))
      (sym (entries-settled id outcome line waiting o.0 MAX_STAMP o.1 may))
      (still-settled clock id outcome (all_entries line waiting) q.entries) in
      queue-delivered (max clock (final_number outcome)) spare line kept (settled_stored id outcome waiting) l' k' m'
      sound
      (let b = q.bounded in omega (arith, b, within)) q.fewer
      (let a = q.in_line in omega (arith, a)) (let a = q.in_kept in omega (arith, a))
      (let a = q.in_waiting in omega (arith, a))

  pub view-settled : {clock spare : ℕ} {line : List Key} {kept : List T} {waiting : List (Waiting T)} {l k m : ℕ}
      (id : Id) (outcome : Outcome) → IsQueue clock spare line kept waiting l k m →
      list_any (opens id) waiting ≡ true → MaySettle id outcome (all_entries line waiting) MAX_STAMP →
      queued (max clock (final_number outcome)) spare (line ++ ready_keys (settled_stored id outcome waiting))
      (kept ++ ready_things (settled_stored id outcome waiting)) (left (settled_stored id outcome waiting)) ≡
      settled_queue id outcome (queued clock spare line kept waiting)
  view-settled {clock} {spare} {line} {kept} {waiting} id outcome q some may =
      let o = opened clock id line waiting q.entries some in
      queued-delivered (max clock (final_number outcome)) spare line kept (settled_stored id outcome waiting) q.fewer
      ∙ queued-settled clock spare id outcome line kept waiting o.0 MAX_STAMP o.1 may
