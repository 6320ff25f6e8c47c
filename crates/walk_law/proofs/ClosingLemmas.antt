-- Columns one by one: makers, closing lines and tracks.
use Rattle.std.proofs.Common.{◌≡◌, ℕ, suc, ◌+◌, ◌<◌, ◌≤◌, Bool, true, false, List, [], ◌∷◌, ◌++◌, length, take, map, get_or, Option, Some, None, ap, sym, subst, ◌∙◌, refl, arith, ◌⊎◌, inl, inr}
use Rattle.std.specs.Prelude.{slice_get, is_none}
use Rattle.std.specs.List.{All}
use Rattle.std.specs.Option.{option_map}
use Rattle.std.proofs.lemmas.Bool.{true≢false, cases_lt}
use Rattle.std.proofs.lemmas.List.{length-map, map_more, take_all}
use Rattle.std.proofs.lemmas.Option.{slice_get_past, slice_get_within, slice_get_read}
use Rattle.log_node.specs.declared.ids.Key.{Key}
use Rattle.log_node.specs.Standings.{Standing, queue_of}
use Rattle.log_node.proofs.CallerLemmas.{get_map, get_within, same_some}
use Rattle.col_core.specs.declared.Entry.{Entry}
use Rattle.col_core.specs.History.{entries}
use Rattle.col_core.specs.Computed.{dated}
use Rattle.col_core.specs.Legal.{IsColumnHistory}
use Rattle.script_text.specs.declared.script.Script.{Script}
use Rattle.report_text.specs.declared.report.QueueKey.{QueueKey}
use Rattle.report_text.specs.declared.report.ColumnReport.{ColumnReport}
use Rattle.report_text.specs.declared.report.Report.{Report}
use Rattle.lawful_run.specs.Columns.{ShowsClosing}
use Rattle.column_track.specs.Tracks.{EndsAs, IsDoneAgain, Tells, Tracked}
use Rattle.run_rules.specs.Rules.{IsLawfulColumn, Rule2}
use Rattle.walk_law.proofs.Lists.{all_next, told_not, told_so}
use Rattle.walk_law.specs.Journals.{AreMakers, IsTrackOf, standing_shown, track_shown}

-- lists with the same at each place are one
pub same_places : {A : Type 0} (xs ys : List A) → ((k : ℕ) → slice_get xs k ≡ slice_get ys k) → xs ≡ ys
same_places [] [] same = refl
same_places [] (y ∷ ys) same = absurd (let f = same 0 in let g : ⊥ = cc (f) in g)
same_places (x ∷ xs) [] same = absurd (let f = same 0 in let g : ⊥ = cc (f) in g)
same_places {A} (x ∷ xs) (y ∷ ys) same =
    ap (λ (z : A). z ∷ xs) (same_some (same 0)) ∙ ap (λ (l : List A). y ∷ l) (same_places xs ys (λ k. same (suc k)))

-- THE QUEUE

abbrev pub pair_of : Standing → Key × Bool
pair_of e = (e.key, e.settled)

-- what a track says waits at a place
abbrev pub waits_at : List Entry → ℕ → Option (Key × Bool)
waits_at journal at = option_map pair_of (slice_get (queue_of (entries journal)) at)

unpaired : (o : Option Standing) (key : Key) (settled : Bool) → option_map pair_of o ≡ Some (key, settled)
    → o ≡ Some (record { key = key; settled = settled })
unpaired None key settled e = absurd (let f : ⊥ = cc (e) in f)
unpaired (Some s) key settled e =
    let p : pair_of s ≡ (key, settled) = same_some e in
    ap (λ (q : Key × Bool). let o : Option Standing = Some (record { key = q.0; settled = q.1 }) in o) p

module _ (journal : List Entry) (queue : List QueueKey) where
  abbrev Q : List Standing
  Q = queue_of (entries journal)

  -- as far as the loop has come
  abbrev pub ShowsTo : ℕ → Type 0
  ShowsTo at = (k : ℕ) → k < at → slice_get (map standing_shown queue) k ≡ slice_get (queue_of (entries journal)) k

  pub shows_more : (at : ℕ) (shown : QueueKey) → at < length queue → shown ≡ get_or queue at shown
      → waits_at journal at ≡ Some (shown.key, shown.settled)
      → ShowsTo at → ShowsTo (at + 1)
  shows_more at shown lt is told so k less = by (cases_lt k at) where
    by : (k < at) ⊎ (at ≤ k) → slice_get (map standing_shown queue) k ≡ slice_get Q k
    by (inl before) = so k before
    by (inr ge) =
        let e : k ≡ at = omega (arith, less, ge) in
        subst (λ (n : ℕ). slice_get (map standing_shown queue) n ≡ slice_get Q n) (sym e)
        (get_map standing_shown queue at shown (slice_get_read queue (length queue) at shown refl lt is)
        ∙ sym (unpaired (slice_get Q at) shown.key shown.settled told))

  pub shows_other : (at : ℕ) (shown : QueueKey) → at < length queue → shown ≡ get_or queue at shown
      → (waits_at journal at ≡ Some (shown.key, shown.settled) → ⊥)
      → map standing_shown queue ≡ queue_of (entries journal) → ⊥
  shows_other at shown lt is differs same =
      differs
      (ap (option_map pair_of)
      (ap (λ (l : List Standing). slice_get l at) (sym same)
      ∙ get_map standing_shown queue at shown (slice_get_read queue (length queue) at shown refl lt is)))

  pub shows_all : (at : ℕ) → length queue ≤ at → at ≤ length queue → ShowsTo at → (b : Bool)
      → b ≡ is_none (waits_at journal (length queue))
      → Tells b (map standing_shown queue ≡ queue_of (entries journal))
  shows_all at ge le so b is = by (slice_get Q (length queue)) refl b is where
    long : length (map standing_shown queue) ≡ length queue
    long = length-map queue standing_shown

    by : (o : Option Standing) → slice_get Q (length queue) ≡ o → (t : Bool) → t ≡ is_none (option_map pair_of o)
        → Tells t (map standing_shown queue ≡ Q)
    by None none true e = same_places (map standing_shown queue) Q (λ k. each k (cases_lt k at)) where
      each : (k : ℕ) → (k < at) ⊎ (at ≤ k) → slice_get (map standing_shown queue) k ≡ slice_get Q k
      each k (inl lt) = so k lt
      each k (inr past) =
          let few : length Q ≤ length queue = short (cases_lt (length queue) (length Q)) in
          slice_get_past (map standing_shown queue) k (omega (arith, long, ge, past))
          ∙ sym (slice_get_past Q k (omega (arith, few, ge, past))) where
            short : (length queue < length Q) ⊎ (length Q ≤ length queue) → length Q ≤ length queue
            short (inl lt) =
                absurd (let one = get_within Q (length queue) lt in let f : ⊥ = cc (one.1, none) in f)
            short (inr le) = le
    by None none false e = absurd (true≢false (sym e))
    by (Some s) some true e = absurd (true≢false e)
    by (Some s) some false e = λ same.
        let low = slice_get_within Q (length queue) s some in
        let f : length (map standing_shown queue) ≡ length Q = ap length same in
        omega (arith, low, f, long)

-- THE CLOSING LINE

module _ (track : Tracked) (column : ColumnReport) (journal : track.journal ≡ column.journal) (region : track.region ≡ column.region) where
  pub ends_otherwise : (EndsAs track column.clock column.line column.cut column.base → ⊥)
      → ShowsClosing track.regions column.journal column → ⊥
  ends_otherwise fails shows = fails (subst (λ (t : Tracked). EndsAs t column.clock column.line column.cut column.base) same (record {
    clock_is = shows.clock_shown;
    line_is = shows.line_shown;
    cut_is = shows.cut_shown;
    base_is = shows.base_shown;
  })) where
    same : track_shown track.regions column ≡ track
    same = ap (λ (r : ℕ). let t : Tracked = record { region = r; regions = track.regions; journal = column.journal } in t) (sym region)
        ∙ ap (λ (j : List Entry). let t : Tracked = record { region = track.region; regions = track.regions; journal = j } in t) (sym journal)

  pub closing_told : EndsAs track column.clock column.line column.cut column.base → (b : Bool)
      → Tells b (map standing_shown column.queue ≡ queue_of (entries track.journal))
      → Tells b (ShowsClosing track.regions column.journal column)
  closing_told ends b told = by b (subst (λ (j : List Entry). Tells b (map standing_shown column.queue ≡ queue_of (entries j))) journal told) where
    same : track ≡ track_shown track.regions column
    same = ap (λ (r : ℕ). let t : Tracked = record { region = r; regions = track.regions; journal = track.journal } in t) region
        ∙ ap (λ (j : List Entry). let t : Tracked = record { region = column.region; regions = track.regions; journal = j } in t) journal

    moved : EndsAs (track_shown track.regions column) column.clock column.line column.cut column.base
    moved = subst (λ (t : Tracked). EndsAs t column.clock column.line column.cut column.base) same ends

    by : (t : Bool) → Tells t (map standing_shown column.queue ≡ queue_of (entries column.journal))
        → Tells t (ShowsClosing track.regions column.journal column)
    by true queue = record {
      clock_shown = moved.clock_is;
      line_shown = moved.line_is;
      queue_shown = queue;
      cut_shown = moved.cut_is;
      base_shown = moved.base_is;
    }
    by false other = λ shows. other shows.queue_shown

-- THE TRACKS

-- the tracks of the first columns
pub record AreTracksTo (script : Script) (columns : List ColumnReport) (at : ℕ) (tracks : List Tracked) : Type 0 where
  pub tracks_are : tracks ≡ map (track_shown script.shape.regions) (take at columns)
  pub lawful : All (IsLawfulColumn script) (take at columns)

module _ (script : Script) (columns : List ColumnReport) (at : ℕ) (tracks : List Tracked) (so : AreTracksTo script columns at tracks) where
  pub tracks_more : (column : ColumnReport) (track : Tracked) (more : List Tracked) → at < length columns → column ≡ get_or columns at column
      → IsTrackOf script column (Some track) → more ≡ tracks ++ track ∷ [] → AreTracksTo script columns (at + 1) more
  tracks_more column track more lt is told pushed = record {
    tracks_are =
        pushed
        ∙ (ap (λ (l : List Tracked). l ++ track ∷ []) so.tracks_are
        ∙ (ap (λ (t : Tracked). map (track_shown script.shape.regions) (take at columns) ++ t ∷ [])
        (told.0 ∙ ap (track_shown script.shape.regions) is)
        ∙ sym (map_more (track_shown script.shape.regions) columns at column lt)));
    lawful = all_next (IsLawfulColumn script) columns at column lt is so.lawful told.1;
  }

  pub tracks_end : length columns ≤ at → (report : Report) → report.columns ≡ columns
      → (tracks ≡ map (track_shown script.shape.regions) report.columns) × Rule2 script report
  tracks_end ge report is =
      let all : take at columns ≡ report.columns = take_all at columns ge ∙ sym is in (
        so.tracks_are ∙ ap (map (track_shown script.shape.regions)) all,
        record { each = subst (All (IsLawfulColumn script)) all so.lawful },
      )

module _ (script : Script) (column : ColumnReport) where
  -- a journal that is not done again
  pub track_none : (journal : List Entry) (o : Option Tracked) → journal ≡ column.journal → o ≡ None
      → IsDoneAgain column.region script.shape.regions journal o → IsLawfulColumn script column → ⊥
  track_none journal o same is done lawful =
      subst (λ (p : Option Tracked). IsDoneAgain column.region script.shape.regions column.journal p) is
      (subst (λ (j : List Entry). IsDoneAgain column.region script.shape.regions j o) same done) lawful.legal

  -- and one that is
  pub track_some : (journal : List Entry) (o : Option Tracked) (track : Tracked) → journal ≡ column.journal → o ≡ Some track
      → IsDoneAgain column.region script.shape.regions journal o → track ≡ track_shown script.shape.regions column
  track_some journal o track same is done =
      (subst (λ (p : Option Tracked). IsDoneAgain column.region script.shape.regions column.journal p) is
      (subst (λ (j : List Entry). IsDoneAgain column.region script.shape.regions j o) same done)).0

  pub lawful_told : (track : Tracked) → track ≡ track_shown script.shape.regions column
      → IsColumnHistory track.region track.regions (dated track.region track.journal)
      → AreMakers (length script.clients) column.journal → (b : Bool)
      → Tells b (ShowsClosing track.regions column.journal column) → Tells b (IsLawfulColumn script column)
  lawful_told track is legal makers true closing = record {
    legal = subst (λ (t : Tracked). IsColumnHistory t.region t.regions (dated t.region t.journal)) is legal;
    makers = makers;
    closing = subst (λ (t : Tracked). ShowsClosing t.regions column.journal column) is closing;
  }
  lawful_told track is legal makers false other = λ lawful.
      other (subst (λ (t : Tracked). ShowsClosing t.regions column.journal column) (sym is) lawful.closing)

module _ (script : Script) (column : ColumnReport) (journal : List Entry) (clients : ℕ) (b : Bool) (same : journal ≡ column.journal)
    (many : clients ≡ length script.clients) (told : Tells b (AreMakers clients journal)) where
  pub makers_not : b ≡ false → IsLawfulColumn script column → ⊥
  makers_not is lawful =
      told_not b told is
      (subst (λ (n : ℕ). AreMakers n journal) (sym many)
      (subst (λ (j : List Entry). AreMakers (length script.clients) j) (sym same) lawful.makers))

  pub makers_so : b ≡ true → AreMakers (length script.clients) column.journal
  makers_so is =
      subst (λ (j : List Entry). AreMakers (length script.clients) j) same
      (subst (λ (n : ℕ). AreMakers n journal) many (told_so b told is))
