-- Keys beside node lines, and lines of which a scan is merged.
use Rattle.std.proofs.Common.{◌≡◌, ◌∙◌, refl, ap, sym, subst, ℕ, zero, suc, ◌+◌, ◌*◌, ◌<◌, ◌≤◌, min, Bool, true, false, List, [], ◌∷◌, ◌++◌, length, map, take, get_or, Some, ◌⊎◌, inl, inr, arith}
use Rattle.std.specs.Prelude.{nat_eq, slice_get}
use Rattle.std.proofs.lemmas.Bool.{and_from, cases_lt, eq-eqb, true≢false}
use Rattle.std.proofs.lemmas.List.{take_all, take_more}
use Rattle.std.proofs.lemmas.List.Elements.{All-contains}
use Rattle.std.proofs.lemmas.Option.{slice_get-get_or}
use Rattle.std.specs.List.{fold}
use Rattle.log_node.specs.declared.ids.Key.{Key}
use Rattle.log_node.specs.Order.{same_id, same_key}
use Rattle.log_node.specs.Seen.{PlacedNode}
use Rattle.log_node.proofs.CallerLemmas.{get_map, same_id-refl, same_key-is, same_some}
use Rattle.col_core.specs.declared.Entry.{Entry}
use Rattle.col_core.specs.Computed.{dated}
use Rattle.col_core.specs.History.{line}
use Rattle.col_core.specs.Laws.{RegionOrderIsUnique}
use Rattle.col_core.specs.Legal.{IsColumnHistory}
use Rattle.col_core.specs.RegionOrder.{IsRegionOrder}
use Rattle.col_core.proofs.CallerLemmas.{contains_in, in_contains, in_map, slice_in}
use Rattle.column_track.specs.Tracks.{Tells, Tracked}
use Rattle.playback.specs.Laws.{RegionOrderIsLawful}
use Rattle.playback.specs.Merging.{AreRising, merged, region_order, up_to}
use Rattle.report_text.specs.declared.report.SyncPiece.{SyncPiece}
use Rattle.lawful_run.specs.Callers.{Caller}
use Rattle.lawful_run.specs.Reads.{AreKeysRead, lines_read}
use Rattle.col_core.specs.Log.{Log}
use Rattle.walk_law.specs.Ninth.{key_shown}
use Rattle.report_text.specs.declared.report.ColumnReport.{ColumnReport}
use Rattle.run_rules.specs.Rules.{IsLawfulColumn}
use Rattle.walk_law.specs.Walking.{MayWalk, Walked, journal_walked}
use Rattle.walk_law.proofs.ColumnPlaces.{column_there}
use Rattle.walk_law.proofs.SubjectLemmas.{column_at, column_none}
use Rattle.walk_law.proofs.ChainBeginnings.{beginning_legal, line_first, line_rising}
use Rattle.walk_law.proofs.Members.{told_as}

-- KEYS BESIDE LINES

same_key-refl : (a : Key) → same_key a a ≡ true
same_key-refl a = and_from (nat_eq a.stamp a.stamp) (same_id a.id a.id) (eq-eqb a.stamp a.stamp refl) (same_id-refl a.id)

map_longer : (xs : List PlacedNode) (y : PlacedNode) → map key_shown (xs ++ y ∷ []) ≡ map key_shown xs ++ key_shown y ∷ []
map_longer [] y = refl
map_longer (x ∷ xs) y = ap (λ (l : List Key). key_shown x ∷ l) (map_longer xs y)

module _ (keys : List Key) (nodes : List PlacedNode) (at : ℕ) (k : Key) (n : PlacedNode) (lt : at < length keys)
    (low : at < length nodes) where
  pub keys_more : take at keys ≡ map key_shown (take at nodes) → same_key (get_or keys at k) (key_shown (get_or nodes at n)) ≡ true
      → take (at + 1) keys ≡ map key_shown (take (at + 1) nodes)
  keys_more so same =
      take_more keys at k lt
      ∙ (ap (λ (x : Key). take at keys ++ x ∷ []) (same_key-is (get_or keys at k) (key_shown (get_or nodes at n)) same)
      ∙ (ap (λ (l : List Key). l ++ key_shown (get_or nodes at n) ∷ []) so
      ∙ (sym (map_longer (take at nodes) (get_or nodes at n)) ∙ ap (map key_shown) (sym (take_more nodes at n low)))))

  pub keys_other : (same_key (get_or keys at k) (key_shown (get_or nodes at n)) ≡ false) → keys ≡ map key_shown nodes → ⊥
  keys_other other all =
      let here : slice_get keys at ≡ Some (key_shown (get_or nodes at n)) =
      ap (λ (l : List Key). slice_get l at) all
      ∙ get_map key_shown nodes at (get_or nodes at n) (slice_get-get_or nodes at n low) in
      let same : get_or keys at k ≡ key_shown (get_or nodes at n) = same_some (sym (slice_get-get_or keys at k lt) ∙ here) in
      true≢false (sym (ap (λ (x : Key). same_key x (key_shown (get_or nodes at n))) same ∙ same_key-refl (key_shown (get_or nodes at n)))
      ∙ other)

-- A SCAN

module _ (log : Log) (caller : Caller) (stamp : ℕ) where
  pub read_more : (syncs : List SyncPiece) (i : ℕ) (d : SyncPiece) → i < length syncs
      → region_order stamp (lines_read log caller (take (i + 1) syncs))
      ≡ merged (region_order stamp (lines_read log caller (take i syncs)))
      (up_to stamp (line (take (get_or syncs i d).events (log.histories caller.own (get_or syncs i d).colour))))
  read_more syncs i d lt =
      ap (λ (l : List SyncPiece). region_order stamp (lines_read log caller l)) (take_more syncs i d lt)
      ∙ join [] (take i syncs) (get_or syncs i d) where
        join : (keys : List Key) (xs : List SyncPiece) (x : SyncPiece)
            → fold (λ ks l. merged ks (up_to stamp l)) keys (lines_read log caller (xs ++ x ∷ []))
            ≡ merged (fold (λ ks l. merged ks (up_to stamp l)) keys (lines_read log caller xs))
            (up_to stamp (line (take x.events (log.histories caller.own x.colour))))
        join keys [] x = refl
        join keys (y ∷ ys) x = join (merged keys (up_to stamp (line (take y.events (log.histories caller.own y.colour))))) ys x

  pub scan_told : RegionOrderIsUnique → RegionOrderIsLawful
      → ((colour events : ℕ) → AreRising (line (take events (log.histories caller.own colour))))
      → (syncs : List SyncPiece) (keys : List Key) (nodes : List PlacedNode)
      → keys ≡ region_order stamp (lines_read log caller syncs) → (b : Bool)
      → Tells b (keys ≡ map key_shown nodes) → Tells b (AreKeysRead log caller stamp syncs (map key_shown nodes))
  scan_told unique lawful rising syncs keys nodes is b =
      let order = lawful stamp (lines_read log caller syncs) (λ l i.
      let m = in_map (λ (s : SyncPiece). line (take s.events (log.histories caller.own s.colour))) syncs l
      (in_contains (lines_read log caller syncs) l i) in
      subst AreRising m.2 (rising m.0.colour m.0.events)) in
      told_as b (keys ≡ map key_shown nodes) (AreKeysRead log caller stamp syncs (map key_shown nodes))
      (λ e. subst (IsRegionOrder (lines_read log caller syncs) stamp) (sym is ∙ e) order)
      (λ o. is ∙ unique (lines_read log caller syncs) stamp (region_order stamp (lines_read log caller syncs)) (map key_shown nodes) order o)

-- A LINE CUT

module _ (own regions : ℕ) (h : List Entry) (legal : IsColumnHistory own regions (dated own h)) (events n : ℕ)
    (n_is : n ≡ min events (length h)) (count : ℕ) (count_is : count ≡ length (line (take n h))) (keys : List Key)
    (keys_are : keys ≡ line h) where
  same_take : take n h ≡ take events h
  same_take = elim (cases_lt events (length h)) [
    | inl lt ↦ ap (λ (k : ℕ). take k h) (omega (arith, n_is, lt))
    | inr ge ↦ take_all n h (omega (arith, n_is, ge)) ∙ sym (take_all events h ge)
  ]

  pub line_cut : take count keys ≡ line (take events h)
  line_cut = ap (take count) keys_are ∙ (line_first own regions h legal n count count_is ∙ ap line same_take)

  pub line_cut_short : count ≡ length (take count keys)
  line_cut_short = count_is ∙ ap length (sym (ap (take count) keys_are ∙ line_first own regions h legal n count count_is))

  pub line_cut_rises : AreRising (take count keys)
  line_cut_rises =
      subst AreRising (sym line_cut) (line_rising own regions (take events h) (beginning_legal own regions h events legal))

-- ALL LINES

module _ (walked : Walked) (tracks : List Tracked) (may : MayWalk walked.script walked.report tracks) (region colour : ℕ) where
  pub journal_legal : region < walked.script.shape.regions → colour < walked.script.shape.colours
      → IsColumnHistory region walked.script.shape.regions (dated region (journal_walked walked region colour))
  journal_legal lt low =
      let script = walked.script in
      let columns = walked.report.columns in
      let place = region * script.shape.colours + colour in
      let at = column_at script walked.report tracks may region colour place lt low refl in
      let there = column_there script.shape.regions script.shape.colours columns may.first.columns region colour lt low in
      let same : there.0 ≡ at.0 = same_some (sym there.1 ∙ at.1) in
      let of_region : at.0.region ≡ region = ap (λ (c : ColumnReport). c.region) (sym same) ∙ there.2 in
      let law = All-contains (IsLawfulColumn script) columns at.0 may.second.each (contains_in columns at.0 (slice_in columns place at.0 at.1)) in
      subst (λ (h : List Entry). IsColumnHistory region script.shape.regions (dated region h)) at.2
      (subst (λ (r : ℕ). IsColumnHistory r script.shape.regions (dated r at.0.journal)) of_region law.legal)

  pub lines_rise : (events : ℕ) → AreRising (line (take events (journal_walked walked region colour)))
  lines_rise events = elim (cases_lt region walked.script.shape.regions) [
    | inr ge ↦ none (inl ge)
    | inl lt ↦ elim (cases_lt colour walked.script.shape.colours) [
      | inr ge ↦ none (inr ge)
      | inl low ↦ line_rising region walked.script.shape.regions (take events (journal_walked walked region colour))
          (beginning_legal region walked.script.shape.regions (journal_walked walked region colour) events (journal_legal lt low))
    ]
  ] where
    none : (walked.script.shape.regions ≤ region) ⊎ (walked.script.shape.colours ≤ colour)
        → AreRising (line (take events (journal_walked walked region colour)))
    none beyond =
        subst (λ (h : List Entry). AreRising (line (take events h)))
        (sym (column_none walked.script walked.report tracks may region colour beyond)) (empty events) where
          empty : (n : ℕ) → AreRising (line (take n []))
          empty zero = λ i j d lt low. absurd (let f : ⊥ = omega (arith, low) in f)
          empty (suc n) = λ i j d lt low. absurd (let f : ⊥ = omega (arith, low) in f)
