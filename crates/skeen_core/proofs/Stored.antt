-- Keys joined with their things, and what the stored entries of a queue are.
use Rattle.std.proofs.Common.{◌≡◌, ℕ, zero, suc, ◌+◌, ◌-◌, ◌≤◌, max, Bool, true, List, [], ◌∷◌}
use Rattle.std.proofs.Common.{◌++◌, length, take, drop, refl, sym, ap, subst, ◌∙◌, arith}
use Rattle.std.proofs.Common.{length-drop}
use Rattle.std.specs.Prelude.{map, not}
use Rattle.std.specs.List.{filter}
use Rattle.std.proofs.lemmas.List.{take_at, drop_at, drop-append-le, drop-drop, length-map}
use Rattle.std.proofs.lemmas.List.Elements.{filter-append}
use Rattle.log_node.specs.declared.ids.Key.{Key}
use Rattle.skeen_core.specs.declared.waiting.Waiting.{Waiting}
use Rattle.skeen_core.specs.Queues.{Queued, standing_of, kept_entries, waiting_entries}
use Rattle.log_node.specs.Standings.{Standing, line_of}
use Rattle.skeen_core.specs.Inside.{final_at, all_stored, all_entries, with_things, queued, IsQueue}
use Rattle.skeen_core.proofs.Delivery.{line-is}
use Rattle.skeen_core.proofs.Lists.{filter-map}

none-open : (line : List Key) → filter (λ (e : Standing). not e.settled) (map final_at line) ≡ []
none-open [] = refl
none-open (k ∷ ks) = none-open ks

module _ {T : Type 0} where
  pub length-with_things : (ks : List Key) (ts : List T) → length ks ≡ length ts →
      length (with_things ks ts) ≡ length ts
  length-with_things [] [] e = refl
  length-with_things [] (t ∷ ts) e = e
  length-with_things (k ∷ ks) [] e = refl
  length-with_things (k ∷ ks) (t ∷ ts) e = ap (λ n. suc n) (length-with_things ks ts (omega arith))

  pub things-with_things : (ks : List Key) (ts : List T) → length ks ≡ length ts →
      map (λ (w : Waiting T). w.thing) (with_things ks ts) ≡ ts
  things-with_things [] [] e = refl
  things-with_things [] (t ∷ ts) e = absurd (omega arith)
  things-with_things (k ∷ ks) [] e = refl
  things-with_things (k ∷ ks) (t ∷ ts) e = ap (λ xs. t ∷ xs) (things-with_things ks ts (omega arith))

  pub keys-with_things : (ks : List Key) (ts : List T) → length ks ≡ length ts →
      map (λ (w : Waiting T). w.key) (with_things ks ts) ≡ ks
  keys-with_things [] [] e = refl
  keys-with_things [] (t ∷ ts) e = refl
  keys-with_things (k ∷ ks) [] e = absurd (omega arith)
  keys-with_things (k ∷ ks) (t ∷ ts) e = ap (λ xs. k ∷ xs) (keys-with_things ks ts (omega arith))

  pub with_things-append : (ks js : List Key) (ts us : List T) → length ks ≡ length ts →
      with_things (ks ++ js) (ts ++ us) ≡ with_things ks ts ++ with_things js us
  with_things-append [] js [] us e = refl
  with_things-append [] js (t ∷ ts) us e = absurd (omega arith)
  with_things-append (k ∷ ks) js [] us e = absurd (omega arith)
  with_things-append (k ∷ ks) js (t ∷ ts) us e = ap
      (λ ws. let w : Waiting T = record { key = k; settled = true; thing = t } in w ∷ ws)
      (with_things-append ks js ts us (omega arith))

  with_things-nothing : (ks : List Key) → with_things {T = T} ks [] ≡ []
  with_things-nothing [] = refl
  with_things-nothing (k ∷ ks) = refl

  pub with_things-drop : (n : ℕ) (ks : List Key) (ts : List T) →
      drop n (with_things ks ts) ≡ with_things (drop n ks) (drop n ts)
  with_things-drop zero ks ts = refl
  with_things-drop (suc n) [] ts = refl
  with_things-drop (suc n) (k ∷ ks) [] = sym (with_things-nothing (drop n ks))
  with_things-drop (suc n) (k ∷ ks) (t ∷ ts) = with_things-drop n ks ts

  -- as many keys as things are left of a line
  pub left-of : (line : List Key) (kept : List T) → length kept ≤ length line →
      length (drop (length line - length kept) line) ≡ length kept
  left-of line kept fewer = let d = length-drop (length line - length kept) line in omega (arith, d)

  -- the kept entries are those of the things that are kept
  pub kept-front : (line : List Key) (kept : List T) (waiting : List (Waiting T)) → length kept ≤ length line →
      take (length line - (length line - length kept)) (all_stored line kept waiting) ≡ with_things
      (drop (length line - length kept) line) kept
  kept-front line kept waiting fewer =
      take_at (with_things (drop (length line - length kept) line) kept) waiting
      (length line - (length line - length kept))
      (length-with_things (drop (length line - length kept) line) kept (left-of line kept fewer) ∙ (omega arith))

  pub waiting-behind : (line : List Key) (kept : List T) (waiting : List (Waiting T)) → length kept ≤ length line →
      drop (length line - (length line - length kept)) (all_stored line kept waiting) ≡ waiting
  waiting-behind line kept waiting fewer =
      drop_at (with_things (drop (length line - length kept) line) kept) waiting
      (length line - (length line - length kept))
      (length-with_things (drop (length line - length kept) line) kept (left-of line kept fewer) ∙ (omega arith))

  pub line-queued : {clock spare : ℕ} {line : List Key} {kept : List T} {waiting : List (Waiting T)} {l k w : ℕ} →
      IsQueue clock spare line kept waiting l k w → line_of (all_entries line waiting) ≡ line
  line-queued {line} {waiting} q = line-is line waiting q.entries.rising q.front

  pub kept-queued : {clock spare : ℕ} {line : List Key} {kept : List T} {waiting : List (Waiting T)} {l k w : ℕ} →
      IsQueue clock spare line kept waiting l k w →
      kept_entries (queued clock spare line kept waiting) ≡ with_things (drop (length line - length kept) line) kept
  kept-queued {line} {kept} {waiting} q =
      ap (λ ks. take (length ks - (length line - length kept)) (all_stored line kept waiting)) (line-queued q)
      ∙ kept-front line kept waiting q.fewer

  pub waiting-queued : {clock spare : ℕ} {line : List Key} {kept : List T} {waiting : List (Waiting T)} {l k w : ℕ} →
      IsQueue clock spare line kept waiting l k w → waiting_entries (queued clock spare line kept waiting) ≡ waiting
  waiting-queued {line} {kept} {waiting} q =
      ap (λ ks. drop (length ks - (length line - length kept)) (all_stored line kept waiting)) (line-queued q)
      ∙ waiting-behind line kept waiting q.fewer

  -- each open entry waits
  pub open-waits : (line : List Key) (waiting : List (Waiting T)) →
      length (filter (λ e. not e.settled) (all_entries line waiting)) ≡ length (filter (λ w. not w.settled) waiting)
  open-waits line waiting =
      let p : Standing → Bool = λ e. not e.settled in
      ap length (filter-append p (map final_at line) (map standing_of waiting)
      ∙ ap (λ es. es ++ filter p (map standing_of waiting)) (none-open line)
      ∙ filter-map p standing_of waiting)
      ∙ length-map (filter (λ w. not w.settled) waiting) standing_of

  -- fewer things are kept
  pub stored-drop : (n : ℕ) (line : List Key) (kept : List T) (waiting : List (Waiting T)) →
      length kept ≤ length line → n ≤ length kept →
      all_stored line (drop n kept) waiting ≡ drop n (all_stored line kept waiting)
  stored-drop n line kept waiting fewer le =
      let base : ℕ = length line - length kept in
      let front : List (Waiting T) = with_things (drop base line) kept in
      let d = length-drop n kept in
      let further : length line - length (drop n kept) ≡ base + n = omega (arith, d) in
      let long : n ≤ length front = subst (λ (m : ℕ). n ≤ m)
      (sym (length-with_things (drop base line) kept (left-of line kept fewer))) le in
      ap (λ b. with_things (drop b line) (drop n kept) ++ waiting) further
      ∙ ap (λ ks. with_things ks (drop n kept) ++ waiting) (sym (drop-drop n base line))
      ∙ ap (λ ws. ws ++ waiting) (sym (with_things-drop n (drop base line) kept))
      ∙ sym (drop-append-le n front waiting long)

  -- contracts see a higher base
  pub queued-dropped : (clock spare : ℕ) (line : List Key) (kept : List T) (waiting : List (Waiting T)) (to n : ℕ) →
      length kept ≤ length line → to ≤ length line → n ≡ to - (length line - length kept) →
      queued clock spare line (drop n kept) waiting ≡ record (queued clock spare line kept waiting) {
        base = max to (length line - length kept);
        stored = drop (to - (length line - length kept))
            (all_stored line kept waiting);
      }
  queued-dropped clock spare line kept waiting to n fewer within is =
      let d = length-drop n kept in
      let b : length line - length (drop n kept) ≡ max to (length line - length kept) = omega (arith, d) in
      let s : all_stored line (drop n kept) waiting ≡ drop (to - (length line - length kept))
      (all_stored line kept waiting) =
      stored-drop n line kept waiting fewer (omega arith) ∙ ap (λ m. drop m (all_stored line kept waiting)) is in
      ap (λ (m : ℕ). let q : Queued T = record {
        clock = clock;
        entries = all_entries line waiting;
        base = m;
        stored =
            all_stored line (drop n kept) waiting;
        spare = spare;
      } in q) b
      ∙ ap (λ (ws : List (Waiting T)). let q : Queued T = record {
        clock = clock;
        entries = all_entries line waiting;
        base = max to (length line - length kept);
        stored = ws;
        spare = spare;
      } in q) s
