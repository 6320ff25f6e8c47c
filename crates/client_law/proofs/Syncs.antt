-- Syncs: what they say of the log, and that the floor then is above all that was played.
use Rattle.std.proofs.Common.{◌≡◌, ℕ, zero, suc, ◌+◌, ◌<◌, ◌≤◌, max, List, [], ◌∷◌, length, take, Bool, true, cond, Some, slice_get, refl, ap, sym, subst, ◌∙◌, inl, inr, ◌⊎◌, arith, take_all}
use Rattle.std.specs.List.{AllZip, count_by}
use Rattle.std.proofs.lemmas.Bool.{cases_lt}
use Rattle.std.proofs.lemmas.Option.{same_Some}
use Rattle.log_node.specs.declared.ids.Key.{Key}
use Rattle.log_node.specs.declared.ids.Counts.{Counts}
use Rattle.log_node.specs.declared.node.Head.{Head}
use Rattle.log_node.specs.Seen.{PlacedNode}
use Rattle.log_node.specs.Vectors.{at, IsWithin}
use Rattle.log_node.specs.Reach.{Reachable, IsGreatestReachable}
use Rattle.col_core.specs.declared.Entry.{Entry}
use Rattle.col_core.specs.History.{line}
use Rattle.col_core.specs.Cuts.{Dated, chain, base}
use Rattle.col_core.specs.Computed.{dated}
use Rattle.col_core.specs.PlayOrder.{Place, Stands, IsPlayOrder, same_place, is_between}
use Rattle.col_core.specs.Keeping.{Kept}
use Rattle.col_core.proofs.CallerLemmas.{by_test, cut-is_greatest, head_with, if_true, is_in_between, own_line_within, same_place-is}
use Rattle.lawful_run.specs.Callers.{Caller}
use Rattle.lawful_run.specs.Reads.{ShowsNode, greatest_stamp}
use Rattle.client_law.specs.Knowing.{Seen, Rest, log_seen, SeesOn}
use Rattle.client_law.specs.Kept.{AreUnder, IsKeptBy}
use Rattle.client_law.specs.Moves.{home_dated, LooksThere, SyncsStand, ShowsThere, PlaysThere, PlaysStand, KeptAfterSync, KeptAfterKeys, PlaysKeys, TrimmedThere}
use Rattle.client_law.proofs.Lists.{at_new, map_at}
use Rattle.client_law.proofs.Keeping.{own_chain, seen_on, known_on, under_on, made_on, starts_on, reached_on}
use Rattle.client_law.proofs.Events.{seen_here}
use Rattle.log_node.proofs.CallerLemmas.{count_by-cons as counted}
use Rattle.log_node.proofs.CallerLemmas.{all_zip_of}

pub whole : (new : Seen) (caller : Caller) (colour : ℕ)
    → take (length (new caller.own colour)) (new caller.own colour) ≡ new caller.own colour
whole new caller colour = take_all (length (new caller.own colour)) (new caller.own colour) (omega arith)

-- the snapshot counts the whole own line
pub counts_line : (caller : Caller) (old new : Seen) (kept : Kept) (colour : ℕ) (snapshot : Counts) → SeesOn caller old new
    → LooksThere new caller kept colour snapshot
    → at snapshot caller.own ≡ length (line (new caller.own colour))
counts_line caller old new kept colour snapshot on l =
    ap (λ (v : Counts). at v caller.own) l.is_cut
    ∙ own_line_within caller.own caller.regions (new caller.own colour) on.home (on.lawful caller.own colour)

pub is_greatest : (new : Seen) (caller : Caller) (kept : Kept) (colour : ℕ) (snapshot : Counts)
    → LooksThere new caller kept colour snapshot
    → IsGreatestReachable (chain caller.own (home_dated new caller colour)) snapshot
is_greatest new caller kept colour snapshot l =
    subst (IsGreatestReachable (chain caller.own (home_dated new caller colour))) (sym l.is_cut)
    (cut-is_greatest caller.own (home_dated new caller colour))

pub syncs_stand : SyncsStand
syncs_stand old new rest caller kept colour snapshot on k l = record {
  unseen = seen_on caller old new kept on k caller.own colour;
  there = omega arith;
  cut = subst (λ (h : List Entry). IsGreatestReachable (chain caller.own (dated caller.own h)) snapshot)
      (sym (whole new caller colour)) (is_greatest new caller kept colour snapshot l);
  not_trimmed = subst (λ (h : List Entry). IsWithin (base caller.own caller.regions (dated caller.own h))
      (kept.starts colour)) (sym (whole new caller colour)) l.not_trimmed;
  within =
      let a = known_on caller old new kept on k colour in
      let b = counts_line caller old new kept colour snapshot on l in
      omega (arith, a, b);
}

pub plays_stand : PlaysStand
plays_stand new rest caller kept colour snapshot nodes p = record {
  order = p.order;
  played = subst (λ (h : List Entry). IsPlayOrder (chain caller.own (dated caller.own h)) (kept.starts colour) snapshot
      p.order) (sym (whole new caller colour)) p.played;
  lines = all_zip_of (ShowsThere new rest caller colour)
      (ShowsNode (log_seen new rest) caller colour (length (new caller.own colour))) shows p.order nodes p.lines;
} where
  shows : (place : Place) (item : PlacedNode) → ShowsThere new rest caller colour place item
      → ShowsNode (log_seen new rest) caller colour (length (new caller.own colour)) place item
  shows place item s = record {
    head = s.head;
    stands = subst (λ (h : List Entry). Stands (chain caller.own (dated caller.own h)) place s.head)
        (sym (whole new caller colour)) s.stands;
    key = s.key;
    text = s.text;
  }

-- WHAT WAS PLAYED

some_counted : {A : Type 0} (p : A → Bool) (xs : List A) → 0 < count_by p xs
    → (i : ℕ) × (x : A) × (slice_get xs i ≡ Some x) × (p x ≡ true)
some_counted p [] h = absurd (let f : ⊥ = omega (arith, h) in f)
some_counted p (y ∷ ys) h =
    by_test _ (p y) (λ t. (0, y, refl, t))
    (λ f. let c = counted p y ys ∙ ap (λ b. cond b 1 0 + count_by p ys) f in
    let r = some_counted p ys (omega (arith, c, h)) in (suc r.0, r.1, r.2, r.3))

zipped_at : {A B : Type 0} (R : A → B → Type 0) (xs : List A) (ys : List B) (i : ℕ) (x : A) → AllZip R xs ys
    → slice_get xs i ≡ Some x → (y : B) × (slice_get ys i ≡ Some y) × R x y
zipped_at R [] ys i x a e = absurd (let f : ⊥ = cc in f)
zipped_at R (z ∷ xs) [] i x a e = absurd a
zipped_at R (z ∷ xs) (y ∷ ys) zero x a e = (y, refl, subst (λ w. R w y) (same_Some z x e) a.0)
zipped_at R (z ∷ xs) (y ∷ ys) (suc i) x a e = zipped_at R xs ys i x a.1 e

stamp_within : (nodes : List PlacedNode) (i : ℕ) (item : PlacedNode) → slice_get nodes i ≡ Some item
    → item.head.key.stamp ≤ greatest_stamp nodes
stamp_within [] i item e = absurd (let f : ⊥ = cc in f)
stamp_within (x ∷ xs) zero item e =
    let s = ap (λ (n : PlacedNode). n.head.key.stamp) (same_Some x item e) in omega (arith, s)
stamp_within (x ∷ xs) (suc i) item e = let a = stamp_within xs i item e in omega (arith, a)

module _ (old new : Seen) (caller : Caller) (kept : Kept) (colour : ℕ) (snapshot : Counts)
    (nodes : List PlacedNode) (on : SeesOn caller old new) (k : IsKeptBy old caller kept)
    (l : LooksThere new caller kept colour snapshot) (p : PlaysKeys new caller kept colour snapshot nodes) where
  abbrev ds : List Dated
  ds = home_dated new caller colour

  -- a node of the own line that is played now has no stamp above the greatest one played
  now_played : (i : ℕ) (key : Key) → at (kept.starts colour) caller.own ≤ i → i < at snapshot caller.own
      → slice_get (line (new caller.own colour)) i ≡ Some key → key.stamp ≤ greatest_stamp nodes
  now_played i key past lt there =
      let place : Place = record { region = caller.own; position = i } in
      let between = is_in_between (kept.starts colour) snapshot place
      (record { in_range = on.home; past = past; short = lt }) in
      let n : count_by (same_place place) p.order ≡ 1 = p.played.each_once place
      ∙ if_true (is_between (kept.starts colour) snapshot place) 1 0 between in
      let r = some_counted (same_place place) p.order (omega (arith, n)) in
      let q = zipped_at (λ place (item : PlacedNode). (head : Head) × Stands (chain caller.own ds) place head
      × (item.head.key ≡ head.key)) p.order nodes r.0 place p.keys
      (r.2 ∙ ap Some (sym (same_place-is place r.1 r.3))) in
      let stands : slice_get (chain caller.own ds caller.own) i ≡ Some q.2.0 = q.2.1 in
      let is : slice_get (chain caller.own ds caller.own) i ≡ Some (head_with ds key) =
      ap (λ (hs : List Head). slice_get hs i) (own_chain caller.own (new caller.own colour))
      ∙ map_at (head_with ds) (line (new caller.own colour)) i key there in
      let same : q.2.0 ≡ head_with ds key = same_Some q.2.0 (head_with ds key) (sym stands ∙ is) in
      let stamp = ap (λ (x : Key). x.stamp) (q.2.2 ∙ ap (λ (h : Head). h.key) same) in
      let le = stamp_within nodes r.0 q.0 q.1 in
      omega (arith, stamp, le)

  pub all_under : AreUnder (new caller.own colour) (at snapshot caller.own) (max kept.floor (greatest_stamp nodes))
  all_under i key lt there = turn (cases_lt i (at (kept.starts colour) caller.own)) where
    turn : (i < at (kept.starts colour) caller.own) ⊎ (at (kept.starts colour) caller.own ≤ i)
        → key.stamp ≤ max kept.floor (greatest_stamp nodes)
    turn (inl less) =
        starts_on caller old new kept on k (max kept.floor (greatest_stamp nodes)) colour (omega arith) i key less there
    turn (inr past) = let a = now_played i key past lt there in omega (arith, a)

pub kept_after_keys : KeptAfterKeys
kept_after_keys old new caller kept colour snapshot nodes on none k l p =
    let own = caller.own in
    let greater = max kept.floor (greatest_stamp nodes) in
    let all = all_under old new caller kept colour snapshot nodes on k l p in
    let g = is_greatest new caller kept colour snapshot l in
    let count = counts_line caller old new kept colour snapshot on l in
    record {
      seen_within = seen_here caller old new kept on k own colour (length (new own colour)) (omega arith);
      known_within = λ c. at_new (λ (n : ℕ). n ≤ length (line (new own c))) kept.known colour (at snapshot own) c
          (λ e. subst (λ (d : ℕ). at snapshot own ≤ length (line (new own d))) (sym e) (omega (arith, count)))
          (λ _. known_on caller old new kept on k c);
      known_under = λ c. at_new (λ (n : ℕ). AreUnder (new own c) n greater) kept.known colour (at snapshot own) c
          (λ e. subst (λ (d : ℕ). AreUnder (new own d) (at snapshot own) greater) (sym e) all)
          (λ _. under_on caller old new kept on k greater c (omega arith));
      starts_under = λ c. at_new (λ (v : Counts). AreUnder (new own c) (at v own) greater) kept.starts colour snapshot c
          (λ e. subst (λ (d : ℕ). AreUnder (new own d) (at snapshot own) greater) (sym e) all)
          (λ _. starts_on caller old new kept on k greater c (omega arith));
      starts_reached = λ c. at_new (λ (v : Counts). Reachable (chain own (dated own (new own c))) v) kept.starts colour
          snapshot c
          (λ e. subst (λ (d : ℕ). Reachable (chain own (dated own (new own d))) snapshot) (sym e) g.reached)
          (λ _. reached_on caller old new kept on k c);
      steps_made = λ r c. made_on caller old new kept on k r c (none r c);
    }

keys_there : (new : Seen) (rest : Rest) (caller : Caller) (kept : Kept) (colour : ℕ) (snapshot : Counts)
    (nodes : List PlacedNode) → PlaysThere new rest caller kept colour snapshot nodes
    → PlaysKeys new caller kept colour snapshot nodes
keys_there new rest caller kept colour snapshot nodes p = record {
  order = p.order;
  played = p.played;
  keys = all_zip_of (ShowsThere new rest caller colour)
      (λ place (item : PlacedNode). (head : Head) × Stands (chain caller.own (home_dated new caller colour)) place head
      × (item.head.key ≡ head.key)) (λ place item s. (s.head, s.stands, s.key)) p.order nodes p.lines;
}

pub kept_after_syncing : KeptAfterSync
kept_after_syncing old new rest caller kept colour snapshot nodes on none k l p =
    kept_after_keys old new caller kept colour snapshot nodes on none k l
    (keys_there new rest caller kept colour snapshot nodes p)

pub trimmed_there : TrimmedThere
trimmed_there old new rest caller kept colour shown on k is below = record {
  events = length (new caller.own colour);
  unseen = seen_on caller old new kept on k caller.own colour;
  there = omega arith;
  is_base = is ∙ ap (λ (h : List Entry). base caller.own caller.regions (dated caller.own h))
      (sym (whole new caller colour));
  below = below;
}
