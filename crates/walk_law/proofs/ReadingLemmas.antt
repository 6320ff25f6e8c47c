-- Syncs and stamped reads, part after part.
use Rattle.std.proofs.Common.{◌≡◌, ◌∙◌, refl, ap, sym, subst, ℕ, zero, suc, ◌+◌, ◌<◌, ◌≤◌, Bool, true, false, List, [], ◌∷◌, ◌++◌, length, map, take, get_or, inl, inr, arith}
use Rattle.std.specs.List.{All}
use Rattle.std.proofs.lemmas.List.{take_more}
use Rattle.std.proofs.lemmas.List.Elements.{All-contains}
use Rattle.std.proofs.lemmas.List.Sums.{fold_more}
use Rattle.std.proofs.lemmas.Option.{slice_get-get_or}
use Rattle.log_node.specs.declared.ids.Counts.{Counts}
use Rattle.log_node.specs.declared.node.Node.{Node}
use Rattle.log_node.specs.Reach.{IsGreatestReachable}
use Rattle.log_node.specs.Vectors.{IsWithin, at}
use Rattle.log_node.proofs.CallerLemmas.{at-vector}
use Rattle.col_core.specs.declared.Entry.{Entry}
use Rattle.col_core.specs.Computed.{cut, dated}
use Rattle.col_core.specs.Cuts.{Dated, base, chain, held}
use Rattle.col_core.specs.History.{line}
use Rattle.col_core.specs.Keeping.{Kept}
use Rattle.col_core.specs.Log.{Log}
use Rattle.col_core.proofs.CallerLemmas.{all_in, contains_in, cut-is_greatest, cut_unique, in_map, in_map-back, slice_in}
use Rattle.column_track.specs.declared.marks.Mark.{Mark}
use Rattle.column_track.specs.Tracks.{Tells, mark_after}
use Rattle.script_text.specs.declared.script.Script.{Script}
use Rattle.report_text.specs.declared.report.RaisePiece.{RaisePiece}
use Rattle.report_text.specs.declared.report.SyncPiece.{SyncPiece}
use Rattle.report_text.specs.declared.report.ReplyLine.{ReplyLine}
use Rattle.walk_law.specs.Ninth.{PassesTo}
use Rattle.lawful_run.specs.Callers.{Caller, caller_of}
use Rattle.lawful_run.specs.Reads.{ClearSyncs, IsReadStamp, Raises, RaisesClock, kept_after_piece, kept_after_place}
use Rattle.run_rules.specs.Answering.{HasReads}
use Rattle.run_rules.specs.Told.{kept_after_raises, kept_after_syncs}
use Rattle.run_rules.specs.Telling.{log_of, replies_to}
use Rattle.run_rules.specs.Shown.{ReadsColours, SyncsAsTold}
use Rattle.walk_law.specs.Keepings.{Counted, IsCell, IsCounted, known_at, seen_at, start_at}
use Rattle.walk_law.specs.Looks.{IsInShape, IsSyncedAt}
use Rattle.walk_law.specs.Reading.{AreBelow, IsAboveClock, IsClearSync, WasClockOf}
use Rattle.walk_law.specs.Walking.{MayWalk, Walked, journal_walked}
use Rattle.walk_law.proofs.HeadLemmas.{own_chain}
use Rattle.walk_law.proofs.Members.{told_as}
use Rattle.walk_law.proofs.SubjectLemmas.{few_regions}
use Rattle.walk_law.proofs.ThirdLemmas.{few_colours}
use Rattle.column_track.specs.Tracks.{Tracked}
use Rattle.std.proofs.lemmas.List.{length-map}

-- LOOKS

pub in_shape : (walked : Walked) (tracks : List Tracked) → MayWalk walked.script walked.report tracks → (region colour : ℕ)
    → region < walked.script.shape.regions → colour < walked.script.shape.colours → IsInShape walked region colour true
in_shape walked tracks may region colour lt low =
    let regions = few_regions walked.script may.fitting in
    let colours = few_colours walked.script may.fitting in (
      lt,
      low,
      (omega (arith, lt, regions), omega (arith, low, colours)),
    )

-- how much of its own line a column holds is how long it is
pub line_held : (own : ℕ) → own < 4 → (h : List Entry) → at (held own (dated own h)) own ≡ length (line h)
line_held own lt h =
    at-vector (λ r. length (chain own (dated own h) r)) own lt
    ∙ (ap length (own_chain own h) ∙ length-map (line h) _)

-- SYNCS

module _ (walked : Walked) (nodes : ℕ → List Node) (client : ℕ) (kept : Kept) (counted : Counted)
    (is : IsCounted (replies_to walked.report client) kept counted) where
  abbrev caller : Caller
  caller = caller_of walked.script client

  abbrev log : Log
  log = log_of walked.report nodes

  module _ (sync : SyncPiece) (seen known : ℕ) (start : Counts) (mark : Mark) (known_is : known ≡ known_at counted sync.colour)
      (start_is : start ≡ start_at counted sync.colour) where
    sync_here : IsCell caller.own sync.colour → seen ≡ seen_at counted caller.own sync.colour
        → mark ≡ mark_after caller.own caller.regions (take sync.events (journal_walked walked caller.own sync.colour))
        → sync.events ≤ length (journal_walked walked caller.own sync.colour) → (b : Bool)
        → Tells b (IsSyncedAt caller.own seen known start mark sync) → Tells b (SyncsAsTold log caller kept sync)
    sync_here cell seen_is mark_is there b =
        told_as b (IsSyncedAt caller.own seen known start mark sync) (SyncsAsTold log caller kept sync)
        (λ x.
        let x0 = x.0 in
        let x1 = x.1 in record {
          unseen = omega (arith, x0, saw);
          there = there;
          cut = subst (IsGreatestReachable (chain caller.own dates)) (sym (x.2 ∙ ap (λ (m : Mark). m.cut) mark_is))
              (cut-is_greatest caller.own dates);
          not_trimmed = subst (IsWithin (base caller.own caller.regions dates)) began
              (subst (λ (v : Counts). IsWithin v start) (ap (λ (m : Mark). m.base) mark_is) x.3);
          within = omega (arith, x1, knew);
        })
        (λ x.
        let x0 = x.unseen in
        let x1 = x.within in (
          omega (arith, x0, saw),
          omega (arith, x1, knew),
          cut_unique (chain caller.own dates) sync.counts (cut caller.own dates) x.cut (cut-is_greatest caller.own dates)
              ∙ sym (ap (λ (m : Mark). m.cut) mark_is),
          subst (λ (v : Counts). IsWithin v start) (sym (ap (λ (m : Mark). m.base) mark_is))
              (subst (IsWithin (base caller.own caller.regions dates)) (sym began) x.not_trimmed),
        )) where
          dates : List Dated
          dates = dated caller.own (take sync.events (journal_walked walked caller.own sync.colour))

          low : sync.colour < 256
          low = let c = cell.1 in omega (arith, c)

          saw : seen ≡ kept.seen caller.own sync.colour
          saw = seen_is ∙ is.seen caller.own sync.colour cell

          knew : known ≡ kept.known sync.colour
          knew = known_is ∙ is.known sync.colour low

          began : start ≡ kept.starts sync.colour
          began = start_is ∙ is.starts sync.colour low

    pub sync_told : (own : ℕ) → own ≡ caller.own → IsCell own sync.colour → seen ≡ seen_at counted own sync.colour
        → mark ≡ mark_after own caller.regions (take sync.events (journal_walked walked own sync.colour))
        → sync.events ≤ length (journal_walked walked own sync.colour) → (b : Bool)
        → Tells b (IsSyncedAt own seen known start mark sync) → Tells b (SyncsAsTold log caller kept sync)
    sync_told own e =
        subst (λ (o : ℕ). IsCell o sync.colour → seen ≡ seen_at counted o sync.colour
        → mark ≡ mark_after o caller.regions (take sync.events (journal_walked walked o sync.colour))
        → sync.events ≤ length (journal_walked walked o sync.colour) → (b : Bool)
        → Tells b (IsSyncedAt o seen known start mark sync) → Tells b (SyncsAsTold log caller kept sync)) (sym e) sync_here

-- ONE AFTER ANOTHER

module _ (log : Log) (caller : Caller) (stamp : ℕ) where
  raises_join : (kept : Kept) (xs : List RaisePiece) (x : RaisePiece)
      → Raises log caller stamp kept xs (kept_after_raises caller kept xs)
      → RaisesClock log caller (kept_after_raises caller kept xs) stamp x.colour x.at
      → Raises log caller stamp kept (xs ++ x ∷ []) (kept_after_raises caller kept (xs ++ x ∷ []))
  raises_join kept [] x so here = (here, refl)
  raises_join kept (y ∷ ys) x so here =
      (so.0, raises_join (kept_after_place kept caller.own y.colour y.at) ys x so.1 here)

  pub raises_more : (kept : Kept) (xs : List RaisePiece) (i : ℕ) (d : RaisePiece) → i < length xs
      → Raises log caller stamp kept (take i xs) (kept_after_raises caller kept (take i xs))
      → RaisesClock log caller (kept_after_raises caller kept (take i xs)) stamp (get_or xs i d).colour (get_or xs i d).at
      → Raises log caller stamp kept (take (i + 1) xs) (kept_after_raises caller kept (take (i + 1) xs))
  raises_more kept xs i d lt so here =
      subst (λ (l : List RaisePiece). Raises log caller stamp kept l (kept_after_raises caller kept l)) (sym (take_more xs i d lt))
      (raises_join kept (take i xs) (get_or xs i d) so here)

  pub raises_at : (kept after : Kept) (xs : List RaisePiece) (i : ℕ) (d : RaisePiece) → i < length xs
      → Raises log caller stamp kept xs after
      → RaisesClock log caller (kept_after_raises caller kept (take i xs)) stamp (get_or xs i d).colour (get_or xs i d).at
  raises_at kept after [] i d lt so = absurd (let f : ⊥ = omega (arith, lt) in f)
  raises_at kept after (x ∷ xs) zero d lt so = so.0
  raises_at kept after (x ∷ xs) (suc i) d lt so =
      raises_at (kept_after_place kept caller.own x.colour x.at) after xs i d (omega (arith, lt)) so.1

  pub raises_end : (kept after : Kept) (xs : List RaisePiece) → Raises log caller stamp kept xs after
      → after ≡ kept_after_raises caller kept xs
  raises_end kept after [] so = so
  raises_end kept after (x ∷ xs) so = raises_end (kept_after_place kept caller.own x.colour x.at) after xs so.1

  syncs_join : (kept : Kept) (xs : List SyncPiece) (x : SyncPiece)
      → ClearSyncs log caller stamp kept xs (kept_after_syncs log caller kept xs)
      → IsClearSync log caller stamp (kept_after_syncs log caller kept xs) x
      → ClearSyncs log caller stamp kept (xs ++ x ∷ []) (kept_after_syncs log caller kept (xs ++ x ∷ []))
  syncs_join kept [] x so here = (here.0, here.1, refl)
  syncs_join kept (y ∷ ys) x so here =
      (so.0, so.1, syncs_join (kept_after_piece log caller kept y) ys x so.2 here)

  pub syncs_more : (kept : Kept) (xs : List SyncPiece) (i : ℕ) (d : SyncPiece) → i < length xs
      → ClearSyncs log caller stamp kept (take i xs) (kept_after_syncs log caller kept (take i xs))
      → IsClearSync log caller stamp (kept_after_syncs log caller kept (take i xs)) (get_or xs i d)
      → ClearSyncs log caller stamp kept (take (i + 1) xs) (kept_after_syncs log caller kept (take (i + 1) xs))
  syncs_more kept xs i d lt so here =
      subst (λ (l : List SyncPiece). ClearSyncs log caller stamp kept l (kept_after_syncs log caller kept l))
      (sym (take_more xs i d lt)) (syncs_join kept (take i xs) (get_or xs i d) so here)

  pub syncs_at : (kept after : Kept) (xs : List SyncPiece) (i : ℕ) (d : SyncPiece) → i < length xs
      → ClearSyncs log caller stamp kept xs after
      → IsClearSync log caller stamp (kept_after_syncs log caller kept (take i xs)) (get_or xs i d)
  syncs_at kept after [] i d lt so = absurd (let f : ⊥ = omega (arith, lt) in f)
  syncs_at kept after (x ∷ xs) zero d lt so = (so.0, so.1)
  syncs_at kept after (x ∷ xs) (suc i) d lt so =
      syncs_at (kept_after_piece log caller kept x) after xs i d (omega (arith, lt)) so.2

  pub syncs_end : (kept after : Kept) (xs : List SyncPiece) → ClearSyncs log caller stamp kept xs after
      → after ≡ kept_after_syncs log caller kept xs
  syncs_end kept after [] so = so
  syncs_end kept after (x ∷ xs) so = syncs_end (kept_after_piece log caller kept x) after xs so.2

-- behind one more
pub raised_more : (caller : Caller) (kept : Kept) (xs : List RaisePiece) (i : ℕ) (d : RaisePiece) → i < length xs
    → kept_after_raises caller kept (take (i + 1) xs)
    ≡ kept_after_place (kept_after_raises caller kept (take i xs)) caller.own (get_or xs i d).colour (get_or xs i d).at
raised_more caller kept xs i d lt =
    fold_more (λ (k : Kept) (r : RaisePiece). kept_after_place k caller.own r.colour r.at) kept xs i d lt

pub raised_behind : (caller : Caller) (kept : Kept) (xs : List RaisePiece) (i : ℕ) (d : RaisePiece) → i < length xs → (own : ℕ)
    → own ≡ caller.own → (replies : List ReplyLine) (counted : Counted)
    → IsCounted replies (kept_after_place (kept_after_raises caller kept (take i xs)) own (get_or xs i d).colour (get_or xs i d).at) counted
    → IsCounted replies (kept_after_raises caller kept (take (i + 1) xs)) counted
raised_behind caller kept xs i d lt own e replies counted is =
    subst (λ (k : Kept). IsCounted replies k counted)
    (ap (λ (o : ℕ). kept_after_place (kept_after_raises caller kept (take i xs)) o (get_or xs i d).colour (get_or xs i d).at) e
    ∙ sym (raised_more caller kept xs i d lt)) is

-- what a part passes to
pub passes_so : {Asked : Type 0} (replies : List ReplyLine) (after : Kept) (counted : Counted) (b : Bool)
    → PassesTo replies Asked after counted b → b ≡ true → Asked × IsCounted replies after counted
passes_so {Asked} replies after counted b passes is = subst (PassesTo replies Asked after counted) is passes

pub passes_not : {Asked : Type 0} (replies : List ReplyLine) (after : Kept) (counted : Counted) (b : Bool)
    → PassesTo replies Asked after counted b → b ≡ false → Asked → ⊥
passes_not {Asked} replies after counted b passes is = subst (PassesTo replies Asked after counted) is passes

pub passes_as : {Asked Other : Type 0} (replies : List ReplyLine) (after : Kept) (counted : Counted) → (Asked → Other) → (Other → Asked)
    → (b : Bool) → PassesTo replies Asked after counted b → PassesTo replies Other after counted b
passes_as replies after counted to back true passes = (to passes.0, passes.1)
passes_as replies after counted to back false passes = λ other. passes (back other)

pub synced_more : (log : Log) (caller : Caller) (kept : Kept) (xs : List SyncPiece) (i : ℕ) (d : SyncPiece) → i < length xs
    → kept_after_syncs log caller kept (take (i + 1) xs)
    ≡ kept_after_piece log caller (kept_after_syncs log caller kept (take i xs)) (get_or xs i d)
synced_more log caller kept xs i d lt =
    fold_more (λ (k : Kept) (s : SyncPiece). kept_after_piece log caller k s) kept xs i d lt

-- THE STAMP

module _ (log : Log) (caller : Caller) (kept : Kept) (stamp : ℕ) (raises : List RaisePiece) where
  pub stamp_by : (i : ℕ) (d : RaisePiece) → i < length raises → WasClockOf log caller kept stamp (get_or raises i d)
      → IsReadStamp log caller kept raises stamp
  stamp_by i d lt was =
      let x = get_or raises i d in
      inr (x, contains_in raises x (slice_in raises i x (slice_get-get_or raises i d lt)), was.0, was.1, was.2, was.3)

  pub stamp_none : (stamp ≡ kept.floor → ⊥) → All (λ (r : RaisePiece). WasClockOf log caller kept stamp r → ⊥) raises
      → IsReadStamp log caller kept raises stamp → ⊥
  stamp_none floor none s = elim s [
    | inl e ↦ floor e
    | inr x ↦ All-contains (λ (r : RaisePiece). WasClockOf log caller kept stamp r → ⊥) raises x.0 none x.1 (x.2, x.3, x.4, x.5)
  ]

-- THE WHOLE READ

all_through : {A B : Type 0} (P : B → Type 0) (f : A → B) (xs : List A) → All (λ x. P (f x)) xs → All P (map f xs)
all_through P f xs all =
    all_in P (map f xs) (λ y i.
    let m = in_map f xs y i in subst P m.2 (All-contains (λ x. P (f x)) xs m.0 all (contains_in xs m.0 m.1)))

all_back : {A B : Type 0} (P : B → Type 0) (f : A → B) (xs : List A) → All P (map f xs) → All (λ x. P (f x)) xs
all_back P f xs all =
    all_in (λ x. P (f x)) xs (λ x i. All-contains P (map f xs) (f x) all (contains_in (map f xs) (f x) (in_map-back f xs x i)))

module _ (log : Log) (caller : Caller) (kept : Kept) (colours : List ℕ) (stamp : ℕ) (raises : List RaisePiece)
    (syncs : List SyncPiece) (has : HasReads colours raises syncs) where
  pub raises_below : (script : Script) → All (λ c. c < script.shape.colours) colours
      → AreBelow script (λ (r : RaisePiece). r.colour) raises
  raises_below script low =
      all_back (λ c. c < script.shape.colours) (λ (r : RaisePiece). r.colour) raises
      (subst (All (λ c. c < script.shape.colours)) (sym has.0) low)

  pub syncs_below : (script : Script) → All (λ c. c < script.shape.colours) colours
      → AreBelow script (λ (s : SyncPiece). s.colour) syncs
  syncs_below script low =
      all_back (λ c. c < script.shape.colours) (λ (s : SyncPiece). s.colour) syncs
      (subst (All (λ c. c < script.shape.colours)) (sym has.1) low)

  pub clocks_of : ReadsColours log caller kept colours stamp raises syncs
      → All (λ (r : RaisePiece). IsAboveClock log caller kept stamp r.colour) raises
  clocks_of x =
      all_back (IsAboveClock log caller kept stamp) (λ (r : RaisePiece). r.colour) raises
      (subst (All (IsAboveClock log caller kept stamp)) (sym has.0) x.above_clocks)

  pub raises_of : ReadsColours log caller kept colours stamp raises syncs
      → Raises log caller stamp kept raises (kept_after_raises caller kept raises)
  raises_of x =
      subst (Raises log caller stamp kept raises) (raises_end log caller stamp kept x.raised raises x.raising) x.raising

  pub syncs_of : ReadsColours log caller kept colours stamp raises syncs
      → ClearSyncs log caller stamp (kept_after_raises caller kept raises) syncs
      (kept_after_syncs log caller (kept_after_raises caller kept raises) syncs)
  syncs_of x =
      let from = subst (λ (k : Kept). ClearSyncs log caller stamp k syncs x.synced)
      (raises_end log caller stamp kept x.raised raises x.raising) x.syncing in
      subst (ClearSyncs log caller stamp (kept_after_raises caller kept raises) syncs)
      (syncs_end log caller stamp (kept_after_raises caller kept raises) x.synced syncs from) from

  pub reads_so : kept.floor ≤ stamp → All (λ (r : RaisePiece). IsAboveClock log caller kept stamp r.colour) raises
      → IsReadStamp log caller kept raises stamp → Raises log caller stamp kept raises (kept_after_raises caller kept raises)
      → ClearSyncs log caller stamp (kept_after_raises caller kept raises) syncs
      (kept_after_syncs log caller (kept_after_raises caller kept raises) syncs)
      → ReadsColours log caller kept colours stamp raises syncs
  reads_so floor clocks chosen raising syncing = record {
    raised_colours = has.0;
    synced_colours = has.1;
    above_floor = floor;
    above_clocks = subst (All (IsAboveClock log caller kept stamp)) has.0
        (all_through (IsAboveClock log caller kept stamp) (λ (r : RaisePiece). r.colour) raises clocks);
    chosen = chosen;
    raised = kept_after_raises caller kept raises;
    raising = raising;
    synced = kept_after_syncs log caller (kept_after_raises caller kept raises) syncs;
    syncing = syncing;
    after_is = refl;
  }
