-- Two clients that keep the same keep the same behind one answer.
use Rattle.std.proofs.Common.{◌≡◌, ◌∙◌, refl, ap, subst, Bool, true, false, cond, ℕ, ◌+◌, ◌<◌, List, [], ◌∷◌, ◌++◌, map, take, Option, Some, None, inl, inr}
use Rattle.std.specs.Prelude.{◌==◌, max, slice_get, IsTrue}
use Rattle.std.specs.List.{find}
use Rattle.std.proofs.lemmas.Bool.{eqb-true}
use Rattle.log_node.specs.declared.ids.Id.{Id}
use Rattle.log_node.specs.declared.ids.Counts.{Counts}
use Rattle.log_node.specs.declared.node.At.{At}
use Rattle.log_node.specs.declared.node.At.TheVariants.{Event, Look}
use Rattle.log_node.specs.declared.forms.Version.{Version}
use Rattle.log_node.specs.Order.{same_id}
use Rattle.log_node.specs.Outcomes.{final_number}
use Rattle.col_core.specs.declared.Entry.{Entry}
use Rattle.col_core.specs.Log.{Log, first}
use Rattle.col_core.specs.Rows.{BegunRow}
use Rattle.col_core.specs.Keeping.{Kept, updated, updated_at, seen_past, kept_after_point, kept_after_event, kept_after_look, kept_after_single, kept_after_sync, with_floor, with_made, with_row, with_read}
use Rattle.col_core.specs.Cuts.{chain}
use Rattle.col_core.specs.Computed.{dated}
use Rattle.col_core.specs.PlayOrder.{greatest_between}
use Rattle.col_core.proofs.CallerLemmas.{In}
use Rattle.script_text.specs.declared.commands.What.{What}
use Rattle.script_text.specs.declared.commands.What.TheVariants as whats
use Rattle.script_text.specs.declared.script.Script.{Script}
use Rattle.script_text.specs.declared.uses.ReadUse.TheVariants.{Takes, UsesUp}
use Rattle.script_text.specs.declared.uses.Use.{Use}
use Rattle.script_text.specs.declared.uses.Use.TheVariants.{OfObject}
use Rattle.script_text.specs.Commands.{use_of}
use Rattle.report_text.specs.declared.report.RowReport.{RowReport}
use Rattle.report_text.specs.declared.report.PointPiece.{PointPiece}
use Rattle.report_text.specs.declared.report.RaisePiece.{RaisePiece}
use Rattle.report_text.specs.declared.report.SyncPiece.{SyncPiece}
use Rattle.lawful_run.specs.Callers.{Caller}
use Rattle.lawful_run.specs.Columns.{row_report}
use Rattle.lawful_run.specs.Appends.{kept_after_points}
use Rattle.lawful_run.specs.Moves.{with_places}
use Rattle.lawful_run.specs.Reads.{events_until, greatest_played, kept_after_place, kept_after_piece}
use Rattle.lawful_run.specs.Refusals.{before_by, behind_by, kept_before, kept_behind}
use Rattle.run_rules.specs.Told.{Untold, kept_after_append, kept_after_row, kept_after_raises, kept_after_syncs, kept_after_read, kept_pulled, kept_trimmed, kept_where, with_found, stamp_told, stamp_of, last_of}
use Rattle.run_rules.specs.Shown.{is_row}
use Rattle.run_rules.specs.Agreeing.{HasColumn, KeepSame, keys_found}

-- FUNCTIONS WITH OTHER VALUES

same_if : {A : Type 0} (b : Bool) (x y u v : A) → (b ≡ true → x ≡ u) → y ≡ v → cond b x y ≡ cond b u v
same_if true x y u v e f = e refl
same_if false x y u v e f = f

same_at : {A : Type 0} (b : Bool) (f g h k : ℕ → A) (c : ℕ) → (b ≡ true → f c ≡ h c) → g c ≡ k c
    → (cond b f g) c ≡ (cond b h k) c
same_at true f g h k c e d = e refl
same_at false f g h k c e d = d

updated_same : {A : Type 0} (f g : ℕ → A) (k : ℕ) (x y : A) (n : ℕ) → f n ≡ g n → x ≡ y
    → updated f k x n ≡ updated g k y n
updated_same f g k x y n e s = same_if (n == k) x (f n) y (g n) (λ t. s) e

-- functions of region and colour with the same values at the columns of the shape
module _ (script : Script) where
  abbrev Alike : {A : Type 0} → (ℕ → ℕ → A) → (ℕ → ℕ → A) → Type 0
  Alike f g = (r c : ℕ) → HasColumn script r c → f r c ≡ g r c

  column_same : {A : Type 0} (f g : ℕ → ℕ → A) (region colour : ℕ) (x y : A) → Alike f g
      → (HasColumn script region colour → x ≡ y) → Alike (updated_at f region colour x) (updated_at g region colour y)
  column_same f g region colour x y e s r c has =
      same_at (r == region) (updated (f region) colour x) (f r) (updated (g region) colour y) (g r) c
      (λ t. let own : region < script.shape.regions =
      subst (λ (n : ℕ). n < script.shape.regions) (eqb-true r region t) has.0 in
      same_if (c == colour) x (f region c) y (g region c)
      (λ u. s (own, subst (λ (n : ℕ). n < script.shape.colours) (eqb-true c colour u) has.1))
      (e region c (own, has.1)))
      (e r c has)

  region_same : {A : Type 0} (f g : ℕ → ℕ → A) (own : ℕ) (x y : ℕ → A) → Alike f g
      → ((c : ℕ) → HasColumn script own c → x c ≡ y c) → Alike (updated f own x) (updated g own y)
  region_same f g own x y e s r c has =
      same_at (r == own) x (f r) y (g r) c
      (λ t. s c (subst (λ (n : ℕ). n < script.shape.regions) (eqb-true r own t) has.0, has.1))
      (e r c has)

  -- WHAT IS KEPT

  module _ {a b : Kept} (s : KeepSame script a b) where
    event_same : (region colour place : ℕ)
        → KeepSame script (kept_after_event a region colour place) (kept_after_event b region colour place)
    event_same region colour place = record {
      floor = s.floor;
      starts = s.starts;
      seen = column_same a.seen b.seen region colour (place + 1) (place + 1) s.seen (λ has. refl);
      known = s.known;
      made = column_same a.made b.made region colour (a.made region colour ++ place ∷ [])
          (b.made region colour ++ place ∷ []) s.made
          (λ has. ap (λ (l : List ℕ). l ++ place ∷ []) (s.made region colour has));
      ids = s.ids;
      rows = s.rows;
      reads = s.reads;
    }

    pub look_same : (region colour events : ℕ)
        → KeepSame script (kept_after_look a region colour events) (kept_after_look b region colour events)
    look_same region colour events = record {
      floor = s.floor;
      starts = s.starts;
      seen = column_same a.seen b.seen region colour events events s.seen (λ has. refl);
      known = s.known;
      made = s.made;
      ids = s.ids;
      rows = s.rows;
      reads = s.reads;
    }

    pub place_same : (region colour : ℕ) (at : At)
        → KeepSame script (kept_after_place a region colour at) (kept_after_place b region colour at)
    place_same region colour (Event place) = event_same region colour place
    place_same region colour (Look events) = look_same region colour events

    single_same : (own colour place m n position : ℕ) → m ≡ n
        → KeepSame script (kept_after_single a own colour place m position) (kept_after_single b own colour place n position)
    single_same own colour place m n position e = let v = event_same own colour place in record {
      floor = let f = s.floor in ap (λ (k : ℕ). max k m) f ∙ ap (max b.floor) e;
      starts = s.starts;
      seen = v.seen;
      known = λ c. updated_same a.known b.known colour (position + 1) (position + 1) c (s.known c) refl;
      made = v.made;
      ids = ap (λ (k : ℕ). k + 1) s.ids;
      rows = s.rows;
      reads = s.reads;
    }

    point_same : (own colour : ℕ) (at : At) (position : ℕ)
        → KeepSame script (kept_after_point a own colour at position) (kept_after_point b own colour at position)
    point_same own colour at position = record {
      floor = s.floor;
      starts = s.starts;
      seen = column_same a.seen b.seen own colour _ _ s.seen (λ has. refl);
      known = λ c. updated_same a.known b.known colour (position + 1) (position + 1) c (s.known c) refl;
      made = s.made;
      ids = s.ids;
      rows = s.rows;
      reads = s.reads;
    }

    sync_same : (own colour events : ℕ) (snapshot : Counts) (m n : ℕ) → m ≡ n
        → KeepSame script (kept_after_sync a own colour events snapshot m) (kept_after_sync b own colour events snapshot n)
    sync_same own colour events snapshot m n e = let v = look_same own colour events in record {
      floor = ap (λ (k : ℕ). max k m) s.floor ∙ ap (max b.floor) e;
      starts = λ c. updated_same a.starts b.starts colour snapshot snapshot c (s.starts c) refl;
      seen = v.seen;
      known = λ c. updated_same a.known b.known colour _ _ c (s.known c) refl;
      made = s.made;
      ids = s.ids;
      rows = s.rows;
      reads = s.reads;
    }

    floor_same : (stamp : ℕ) → KeepSame script (with_floor a stamp) (with_floor b stamp)
    floor_same stamp = record {
      floor = ap (λ (k : ℕ). max k stamp) s.floor;
      starts = s.starts;
      seen = s.seen;
      known = s.known;
      made = s.made;
      ids = s.ids;
      rows = s.rows;
      reads = s.reads;
    }

    row_same : (own : ℕ) (x y : ℕ → List ℕ) → ((c : ℕ) → HasColumn script own c → x c ≡ y c)
        → KeepSame script (with_made (with_row a) own x) (with_made (with_row b) own y)
    row_same own x y e = record {
      floor = s.floor;
      starts = s.starts;
      seen = region_same a.seen b.seen own (λ c. seen_past (a.seen own c) (x c)) (λ c. seen_past (b.seen own c) (y c))
          s.seen
          (λ c has. ap (λ (n : ℕ). seen_past n (x c)) (s.seen own c has) ∙ ap (seen_past (b.seen own c)) (e c has));
      known = s.known;
      made = region_same a.made b.made own (λ c. a.made own c ++ x c) (λ c. b.made own c ++ y c) s.made
          (λ c has. ap (λ (l : List ℕ). l ++ x c) (s.made own c has) ∙ ap (λ (l : List ℕ). b.made own c ++ l) (e c has));
      ids = ap (λ (k : ℕ). k + 1) s.ids;
      rows = ap (λ (k : ℕ). k + 1) s.rows;
      reads = s.reads;
    }

    places_same : (region colour : ℕ) (x y : List ℕ) → x ≡ y
        → KeepSame script (with_places a region colour x) (with_places b region colour y)
    places_same region colour x y e = record {
      floor = s.floor;
      starts = s.starts;
      seen = column_same a.seen b.seen region colour _ _ s.seen
          (λ has. ap (λ (n : ℕ). seen_past n x) (s.seen region colour has) ∙ ap (seen_past (b.seen region colour)) e);
      known = s.known;
      made = column_same a.made b.made region colour _ _ s.made
          (λ has. ap (λ (l : List ℕ). l ++ x) (s.made region colour has)
          ∙ ap (λ (l : List ℕ). b.made region colour ++ l) e);
      ids = s.ids;
      rows = s.rows;
      reads = s.reads;
    }

    read_same : (object : ℕ) (x y : Option (List Version)) → keys_found x ≡ keys_found y
        → KeepSame script (with_read a object x) (with_read b object y)
    read_same object x y e = record {
      floor = s.floor;
      starts = s.starts;
      seen = s.seen;
      known = s.known;
      made = s.made;
      ids = s.ids;
      rows = s.rows;
      reads = λ n. keys_at (n == object) (a.reads n) (b.reads n) (s.reads n);
    } where
      keys_at : (t : Bool) (u v : Option (List Version)) → keys_found u ≡ keys_found v
          → keys_found (cond t x u) ≡ keys_found (cond t y v)
      keys_at true u v f = e
      keys_at false u v f = f

    pub before_same : (what : What) → KeepSame script (kept_before what a) (kept_before what b)
    before_same what = by (use_of what) where
      by : (u : Use) → KeepSame script (before_by u a) (before_by u b)
      by (OfObject object Takes) = read_same object None None refl
      by _ = s

    pub behind_same : (what : What) → KeepSame script (kept_behind what a) (kept_behind what b)
    behind_same what = by (use_of what) where
      by : (u : Use) → KeepSame script (behind_by u a) (behind_by u b)
      by (OfObject object UsesUp) = read_same object None None refl
      by _ = s

    pub found_same : (u : Use) (x y : List Version) → keys_found (Some x) ≡ keys_found (Some y)
        → KeepSame script (with_found u x a) (with_found u y b)
    found_same (OfObject object Takes) x y e = read_same object (Some x) (Some y) e
    found_same _ x y e = s

  points_same : (own : ℕ) (points : List PointPiece) {a b : Kept} → KeepSame script a b
      → KeepSame script (kept_after_points a own points) (kept_after_points b own points)
  points_same own [] s = s
  points_same own (p ∷ ps) s = points_same own ps (point_same s own p.colour p.at p.position)

  pub raises_same : (caller : Caller) (raises : List RaisePiece) {a b : Kept} → KeepSame script a b
      → KeepSame script (kept_after_raises caller a raises) (kept_after_raises caller b raises)
  raises_same caller [] s = s
  raises_same caller (x ∷ xs) s = raises_same caller xs (place_same s caller.own x.colour x.at)

-- the last outcome of an id's row
pub last_same : (region : ℕ) (id : Id) (xs ys : List BegunRow) → map (row_report region) xs ≡ map (row_report region) ys
    → last_of (find (λ (r : BegunRow). same_id id r.node.id) xs) ≡ last_of (find (λ (r : BegunRow). same_id id r.node.id) ys)
last_same region id [] [] e = refl
last_same region id [] (y ∷ ys) e = absurd (let f : ⊥ = cc (e) in f)
last_same region id (x ∷ xs) [] e = absurd (let f : ⊥ = cc (e) in f)
last_same region id (x ∷ xs) (y ∷ ys) e =
    let h : row_report region x ≡ row_report region y = cc (e) in
    let t : map (row_report region) xs ≡ map (row_report region) ys = cc (e) in
    let same = ap (λ (r : RowReport). same_id id r.id) h in
    step (same_id id x.node.id) (same_id id y.node.id) same (ap (λ (r : RowReport). r.last) h)
    (last_same region id xs ys t) where
      step : (p q : Bool) → p ≡ q → x.last ≡ y.last
          → last_of (find (λ (r : BegunRow). same_id id r.node.id) xs)
          ≡ last_of (find (λ (r : BegunRow). same_id id r.node.id) ys)
          → last_of (cond p (Some x) (find (λ (r : BegunRow). same_id id r.node.id) xs))
          ≡ last_of (cond q (Some y) (find (λ (r : BegunRow). same_id id r.node.id) ys))
      step true true same l m = l
      step true false same l m = absurd (let f : ⊥ = cc (same) in f)
      step false true same l m = absurd (let f : ⊥ = cc (same) in f)
      step false false same l m = m

module _ (script : Script) (caller : Caller) (log other : Log)
    (histories : (r c : ℕ) → HasColumn script r c → log.histories r c ≡ other.histories r c)
    (home : caller.own < script.shape.regions)
    (rows : map (row_report caller.own) (log.rows caller.own) ≡ map (row_report caller.own) (other.rows caller.own)) where
  played_same : {a b : Kept} → KeepSame script a b → (colour events : ℕ) (snapshot : Counts) → colour < script.shape.colours
      → greatest_played log caller a colour events snapshot ≡ greatest_played other caller b colour events snapshot
  played_same {a} {b} s colour events snapshot lt =
      ap (λ (h : List Entry). greatest_between (chain caller.own (dated caller.own (take events h))) (a.starts colour) snapshot)
      (histories caller.own colour (home, lt))
      ∙ ap (λ (v : Counts). greatest_between (chain caller.own (first other caller.own colour events)) v snapshot)
      (s.starts colour)

  pub piece_same : {a b : Kept} → KeepSame script a b → (sync : SyncPiece) → sync.colour < script.shape.colours
      → KeepSame script (kept_after_piece log caller a sync) (kept_after_piece other caller b sync)
  piece_same {a} {b} s sync lt =
      sync_same script s caller.own sync.colour sync.events sync.counts
      (greatest_played log caller a sync.colour sync.events sync.counts)
      (greatest_played other caller b sync.colour sync.events sync.counts)
      (played_same s sync.colour sync.events sync.counts lt)

  pub syncs_same : (syncs : List SyncPiece) → ((x : SyncPiece) → In x syncs → x.colour < script.shape.colours)
      → {a b : Kept} → KeepSame script a b
      → KeepSame script (kept_after_syncs log caller a syncs) (kept_after_syncs other caller b syncs)
  syncs_same [] lt s = s
  syncs_same (x ∷ xs) lt s = syncs_same xs (λ y i. lt y (inr i)) (piece_same s x (lt x (inl refl)))

  pub stamp_same : {a b : Kept} → KeepSame script a b → (row : Option ℕ) (points : List PointPiece)
      → ((p : PointPiece) → In p points → p.colour < script.shape.colours)
      → stamp_told log caller a row points ≡ stamp_told other caller b row points
  stamp_same s None [] lt = refl
  stamp_same s None (p ∷ ps) lt =
      ap (λ (h : List Entry). stamp_of (slice_get h (events_until p.at)))
      (histories caller.own p.colour (home, lt p (inl refl)))
  stamp_same {a} {b} s (Some number) points lt =
      ap (λ (n : ℕ). final_number (last_of (find (λ (r : BegunRow).
      same_id (record { client = caller.client; count = n }) r.node.id) (log.rows caller.own)))) s.ids
      ∙ ap final_number (last_same caller.own (record { client = caller.client; count = b.ids })
      (log.rows caller.own) (other.rows caller.own) rows)

  pub readings_same : (stamp : ℕ) (raises : List RaisePiece) (syncs : List SyncPiece)
      → ((x : SyncPiece) → In x syncs → x.colour < script.shape.colours) → {a b : Kept} → KeepSame script a b
      → KeepSame script (kept_after_read log caller a stamp raises syncs) (kept_after_read other caller b stamp raises syncs)
  readings_same stamp raises syncs lt s =
      floor_same script (syncs_same syncs lt (raises_same script caller raises s)) stamp

  module _ (u v : Untold) where
    abbrev pub SamePlaces : Type 0
    SamePlaces = (c : ℕ) → HasColumn script caller.own c → u.places c ≡ v.places c

    pub append_same : {a b : Kept} → KeepSame script a b → (m n : ℕ) → m ≡ n → (row : Option ℕ) (points : List PointPiece)
        → (IsTrue (is_row row) → SamePlaces)
        → KeepSame script (kept_after_append u caller a m row points) (kept_after_append v caller b n row points)
    append_same s m n e None [] p = s
    append_same s m n e None (x ∷ xs) p =
        single_same script s caller.own x.colour (events_until x.at) m n x.position e
    append_same {a} {b} s m n e (Some number) points p =
        subst (λ (k : ℕ). KeepSame script (kept_after_append u caller a m (Some number) points)
        (kept_after_append v caller b k (Some number) points)) e
        (row_same script (floor_same script (points_same script caller.own points s) m) caller.own u.places v.places (p refl))

    pub where_same : {a b : Kept} → KeepSame script a b → (x y : Bool) → x ≡ y → (IsTrue x → SamePlaces)
        → KeepSame script (kept_where x (kept_after_row u caller a) a) (kept_where y (kept_after_row v caller b) b)
    where_same s true true e p = row_same script s caller.own u.places v.places (p refl)
    where_same s true false e p = absurd (let f : ⊥ = cc (e) in f)
    where_same s false true e p = absurd (let f : ⊥ = cc (e) in f)
    where_same s false false e p = s

    pub pull_same : {a b : Kept} → KeepSame script a b → (what : What) (give carry : At) → u.too_low ≡ v.too_low
        → KeepSame script (kept_pulled u caller a what give carry) (kept_pulled v caller b what give carry)
    pull_same s (whats.Pull region colour) give carry e =
        place_same script (event_same script (places_same script s region colour u.too_low v.too_low e) region colour
        (events_until give)) caller.own colour carry
    pull_same s _ give carry e = s

    pub trim_same : {a b : Kept} → KeepSame script a b → (what : What) (given : At)
        → KeepSame script (kept_trimmed caller a what given) (kept_trimmed caller b what given)
    trim_same s (whats.Trim colour) given = event_same script s caller.own colour (events_until given)
    trim_same s _ given = s
