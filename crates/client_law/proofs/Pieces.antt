-- Syncs whose nodes no answer shows: the floor is above all that was played.
use Rattle.std.proofs.Common.{◌≡◌, ℕ, zero, suc, ◌<◌, ◌≤◌, max, List, [], ◌∷◌, length, map, take, drop, Some, slice_get, refl, ap, sym, subst, ◌∙◌, inl, inr, ◌⊎◌, arith, take-append-drop, length-take-le, flat_map}
use Rattle.std.proofs.lemmas.Bool.{cases_lt}
use Rattle.std.proofs.lemmas.List.{length-map}
use Rattle.log_node.specs.declared.ids.Key.{Key}
use Rattle.log_node.specs.declared.ids.Counts.{Counts}
use Rattle.log_node.specs.declared.node.Head.{Head}
use Rattle.log_node.specs.Vectors.{at, all_regions}
use Rattle.log_node.specs.Outcomes.{greatest}
use Rattle.log_node.specs.Reach.{Reachable}
use Rattle.col_core.specs.declared.Entry.{Entry}
use Rattle.col_core.specs.History.{line}
use Rattle.col_core.specs.Cuts.{Dated, chain}
use Rattle.col_core.specs.Computed.{dated}
use Rattle.col_core.specs.PlayOrder.{nodes_between, greatest_between}
use Rattle.col_core.specs.Keeping.{Kept, kept_after_sync}
use Rattle.col_core.proofs.CallerLemmas.{head_with, In, in_left, in_right, slice_in}
use Rattle.lawful_run.specs.Callers.{Caller}
use Rattle.lawful_run.specs.Reads.{played, greatest_played}
use Rattle.client_law.specs.Knowing.{Seen, Rest, log_seen, SeesOn}
use Rattle.client_law.specs.Kept.{AreUnder, IsKeptBy}
use Rattle.client_law.specs.Moves.{home_dated, LooksThere}
use Rattle.client_law.specs.Pieces.{KeptAfterPiece, stamp_there, kept_hidden, PlayedUntold, KeptUntold}
use Rattle.client_law.proofs.Lists.{at_new, map_at, prefix_back, get_behind}
use Rattle.client_law.proofs.Keeping.{own_chain, seen_on, known_on, under_on, made_on, starts_on, reached_on}
use Rattle.client_law.proofs.Events.{seen_here}
use Rattle.client_law.proofs.Syncs.{whole, counts_line, is_greatest, syncs_stand}

take_short : {A : Type 0} (n : ℕ) (xs : List A) → length (take n xs) ≤ n
take_short zero xs = omega arith
take_short (suc n) [] = omega arith
take_short (suc n) (x ∷ xs) = let a = take_short n xs in omega (arith, a)

-- an item from a place on and before another
between : {A : Type 0} (xs : List A) (low high i : ℕ) (x : A) → low ≤ i → i < high → high ≤ length xs
    → slice_get xs i ≡ Some x → In x (drop low (take high xs))
between xs low high i x past short le there =
    let front = take high xs in
    let long = length-take-le high xs le in
    let at = prefix_back front xs i x (drop high xs, take-append-drop high xs) (omega (arith, long, short)) there in
    let few = take_short low front in
    let r = get_behind (take low front) (drop low front) i x (omega (arith, few, past))
    (ap (λ l. slice_get l i) (take-append-drop low front) ∙ at) in
    slice_in (drop low front) r.0 x r.2

in_flat : {A : Type 0} (f : ℕ → List A) (rs : List ℕ) (r : ℕ) (x : A) → In r rs → In x (f r) → In x (flat_map f rs)
in_flat f [] r x i j = absurd i
in_flat {A} f (s ∷ rs) r x (inl e) j =
    in_left x (f s) (flat_map f rs) (subst (λ (n : ℕ). In x (f n)) (sym e) j)
in_flat f (s ∷ rs) r x (inr i) j = in_right x (f s) (flat_map f rs) (in_flat f rs r x i j)

a_region : (r : ℕ) → r < 4 → In r all_regions
a_region zero lt = inl refl
a_region (suc zero) lt = inr (inl refl)
a_region (suc (suc zero)) lt = inr (inr (inl refl))
a_region (suc (suc (suc zero))) lt = inr (inr (inr (inl refl)))
a_region (suc (suc (suc (suc r)))) lt = absurd (let f : ⊥ = omega (arith, lt) in f)

stamp_in : (heads : List Head) (head : Head) → In head heads
    → head.key.stamp ≤ greatest (map (λ (h : Head). h.key.stamp) heads)
stamp_in [] head i = absurd i
stamp_in (h ∷ heads) head (inl e) = let s = ap (λ (x : Head). x.key.stamp) e in omega (arith, s)
stamp_in (h ∷ heads) head (inr i) = let a = stamp_in heads head i in omega (arith, a)

module _ (old new : Seen) (caller : Caller) (kept : Kept) (colour : ℕ) (snapshot : Counts)
    (on : SeesOn caller old new) (k : IsKeptBy old caller kept)
    (l : LooksThere new caller kept colour snapshot) where
  abbrev ds : List Dated
  ds = home_dated new caller colour

  abbrev stamp : ℕ
  stamp = greatest_between (chain caller.own ds) (kept.starts colour) snapshot

  now_played : (i : ℕ) (key : Key) → at (kept.starts colour) caller.own ≤ i → i < at snapshot caller.own
      → slice_get (line (new caller.own colour)) i ≡ Some key → key.stamp ≤ stamp
  now_played i key past short there =
      let own = caller.own in
      let is : slice_get (chain own ds own) i ≡ Some (head_with ds key) =
      ap (λ (hs : List Head). slice_get hs i) (own_chain own (new own colour))
      ∙ map_at (head_with ds) (line (new own colour)) i key there in
      let long = ap length (own_chain own (new own colour)) ∙ length-map (line (new own colour)) (head_with ds) in
      let count = counts_line caller old new kept colour snapshot on l in
      let here = between (chain own ds own) (at (kept.starts colour) own) (at snapshot own) i (head_with ds key) past
      short (omega (arith, long, count)) is in
      stamp_in (flat_map (nodes_between (chain own ds) (kept.starts colour) snapshot) all_regions) (head_with ds key)
      (in_flat (nodes_between (chain own ds) (kept.starts colour) snapshot) all_regions own (head_with ds key)
      (a_region own on.home) here)

  pub all_under : AreUnder (new caller.own colour) (at snapshot caller.own) (max kept.floor stamp)
  all_under i key lt there = turn (cases_lt i (at (kept.starts colour) caller.own)) where
    turn : (i < at (kept.starts colour) caller.own) ⊎ (at (kept.starts colour) caller.own ≤ i)
        → key.stamp ≤ max kept.floor stamp
    turn (inl less) = starts_on caller old new kept on k (max kept.floor stamp) colour (omega arith) i key less there
    turn (inr past) = let a = now_played i key past lt there in omega (arith, a)

-- the stamp that a look at all that is seen plays up to
same_stamp : (new : Seen) (rest : Rest) (caller : Caller) (kept : Kept) (colour : ℕ) (snapshot : Counts)
    → stamp_there new rest caller kept colour snapshot
    ≡ greatest_between (chain caller.own (home_dated new caller colour)) (kept.starts colour) snapshot
same_stamp new rest caller kept colour snapshot =
    ap (λ (h : List Entry). greatest_between (chain caller.own (dated caller.own h)) (kept.starts colour) snapshot)
    (whole new caller colour)

under_there : (old new : Seen) (rest : Rest) (caller : Caller) (kept : Kept) (colour : ℕ) (snapshot : Counts)
    → SeesOn caller old new → IsKeptBy old caller kept → LooksThere new caller kept colour snapshot
    → AreUnder (new caller.own colour) (at snapshot caller.own)
    (max kept.floor (stamp_there new rest caller kept colour snapshot))
under_there old new rest caller kept colour snapshot on k l =
    subst (λ (n : ℕ). AreUnder (new caller.own colour) (at snapshot caller.own) (max kept.floor n))
    (sym (same_stamp new rest caller kept colour snapshot)) (all_under old new caller kept colour snapshot on k l)

pub kept_untold : KeptUntold
kept_untold old new rest caller kept colour snapshot on none k l =
    let own = caller.own in
    let greater = max kept.floor (stamp_there new rest caller kept colour snapshot) in
    let all = under_there old new rest caller kept colour snapshot on k l in
    let g = is_greatest new caller kept colour snapshot l in
    record {
      seen_within = seen_on caller old new kept on k;
      known_within = known_on caller old new kept on k;
      known_under = λ c. under_on caller old new kept on k greater c (omega arith);
      starts_under = λ c. at_new (λ (v : Counts). AreUnder (new own c) (at v own) greater) kept.starts colour snapshot c
          (λ e. subst (λ (d : ℕ). AreUnder (new own d) (at snapshot own) greater) (sym e) all)
          (λ _. starts_on caller old new kept on k greater c (omega arith));
      starts_reached = λ c. at_new (λ (v : Counts). Reachable (chain own (dated own (new own c))) v) kept.starts colour
          snapshot c
          (λ e. subst (λ (d : ℕ). Reachable (chain own (dated own (new own d))) snapshot) (sym e) g.reached)
          (λ _. reached_on caller old new kept on k c);
      steps_made = λ r c. made_on caller old new kept on k r c (none r c);
    }

pub played_untold : PlayedUntold
played_untold old new rest caller kept colour snapshot on k l =
    played (length (new caller.own colour)) snapshot (syncs_stand old new rest caller kept colour snapshot on k l)

-- with the look, and the own nodes that it plays, known
kept_looked : (old new : Seen) (rest : Rest) (caller : Caller) (kept : Kept) (colour : ℕ) (snapshot : Counts)
    → SeesOn caller old new → IsKeptBy old caller kept → LooksThere new caller kept colour snapshot
    → IsKeptBy new caller (kept_hidden new rest caller kept colour snapshot)
    → IsKeptBy new caller (kept_after_sync kept caller.own colour (length (new caller.own colour)) snapshot
    (stamp_there new rest caller kept colour snapshot))
kept_looked old new rest caller kept colour snapshot on k l hidden =
    let own = caller.own in
    let greater = max kept.floor (stamp_there new rest caller kept colour snapshot) in
    let all = under_there old new rest caller kept colour snapshot on k l in
    let count = counts_line caller old new kept colour snapshot on l in
    record {
      seen_within = seen_here caller old new kept on k own colour (length (new own colour)) (omega arith);
      known_within = λ c. at_new (λ (n : ℕ). n ≤ length (line (new own c))) kept.known colour (at snapshot own) c
          (λ e. subst (λ (d : ℕ). at snapshot own ≤ length (line (new own d))) (sym e) (omega (arith, count)))
          (λ _. known_on caller old new kept on k c);
      known_under = λ c. at_new (λ (n : ℕ). AreUnder (new own c) n greater) kept.known colour (at snapshot own) c
          (λ e. subst (λ (d : ℕ). AreUnder (new own d) (at snapshot own) greater) (sym e) all)
          (λ _. under_on caller old new kept on k greater c (omega arith));
      starts_under = hidden.starts_under;
      starts_reached = hidden.starts_reached;
      steps_made = hidden.steps_made;
    }

pub kept_after_a_piece : KeptAfterPiece
kept_after_a_piece old new rest caller kept sync on none k l events =
    let all = kept_looked old new rest caller kept sync.colour sync.counts on k l
    (kept_untold old new rest caller kept sync.colour sync.counts on none k l) in
    subst (λ (n : ℕ). IsKeptBy new caller (kept_after_sync kept caller.own sync.colour n sync.counts
    (greatest_played (log_seen new rest) caller kept sync.colour n sync.counts))) (sym events) all
