-- What a walk finds of a client's next node.
use Rattle.std.proofs.Common.{◌≡◌, ◌⊎◌, ◌∙◌, refl, ap, sym, subst, Bool, true, false, ℕ, ◌+◌, ◌<◌, List, [], ◌∷◌, ◌++◌, length, map, take, get_or, Option, Some, None, inl, inr, arith, append-nil}
use Rattle.std.specs.Prelude.{◌==◌, if◌then◌else◌}
use Rattle.std.specs.List.{All, filter}
use Rattle.std.proofs.lemmas.Bool.{cases_Bool, eq-eqb, eqb-true, true≢false}
use Rattle.std.proofs.lemmas.Option.{get_or_from_slice_get}
use Rattle.log_node.specs.declared.ids.Id.{Id}
use Rattle.log_node.specs.declared.ids.Counts.{Counts}
use Rattle.std.proofs.lemmas.List.{take_more}
use Rattle.col_core.proofs.CallerLemmas.{by_test, if_true, if_false}
use Rattle.col_core.specs.Log.{Log}
use Rattle.col_core.specs.Keeping.{Kept}
use Rattle.script_text.specs.declared.script.Script.{Script}
use Rattle.report_text.specs.declared.report.RowReport.{RowReport}
use Rattle.lawful_run.specs.Callers.{Caller, caller_of}
use Rattle.lawful_run.specs.Columns.{IsClientIn}
use Rattle.run_rules.specs.Telling.{is_in}
use Rattle.log_node.specs.declared.ids.Row.{Row}
use Rattle.log_node.specs.declared.marks.ColourMark.{ColourMark}
use Rattle.run_rules.specs.Telling.{marked_colours}
use Rattle.walk_law.specs.Fifth.{AreRowIds, IsNextRow, MarksNext, row_ids}
use Rattle.walk_law.specs.PlaceTables.{places_at}
use Rattle.walk_law.specs.RowsBeside.{is_by, rows_by}
use Rattle.walk_law.specs.Third.{rows_in}
use Rattle.col_core.specs.declared.Event.{Event}
use Rattle.col_core.specs.declared.Event.TheVariants.{Single, Propose, Settle, Raise, Give, Carry, Trim}
use Rattle.col_core.specs.declared.Entry.{Entry}
use Rattle.col_core.specs.History.{enters}
use Rattle.col_core.specs.Computed.{dated}
use Rattle.col_core.specs.Legal.{IsColumnHistory}
use Rattle.column_track.specs.Tracks.{EntersAt, Tells}
use Rattle.walk_law.specs.Fifth.{ProposesNode, ProposesSo}
use Rattle.walk_law.specs.Proposals.{proposal, proposes}
use Rattle.walk_law.proofs.ProposalLemmas.{entered_alone, entered_so, not_entered, proposes_is}

-- EVENTS

-- an event that proposes no node tells anything
so_none : (id : Id) (floor : ℕ) (wants : Counts) (event : Event) → proposes id event ≡ false → enters id event ≡ true
    → ProposesSo floor wants event
so_none id floor wants (Single other told wanted) f t = tt
so_none id floor wants (Propose other told wanted) f t = absurd (true≢false (sym t ∙ f))
so_none id floor wants (Settle other outcome) f t = tt
so_none id floor wants (Raise to) f t = tt
so_none id floor wants (Give region from) f t = tt
so_none id floor wants (Carry region start heads) f t = tt
so_none id floor wants (Trim counts) f t = tt

proposed_told : (id : Id) (floor : ℕ) (wants : Counts) (event : Event) → proposes id event ≡ true → (b : Bool)
    → Tells b (ProposesSo floor wants event) → Tells b (event ≡ Propose id floor wants)
proposed_told id floor wants event p b told = by b (subst (λ (v : Event). Tells b (ProposesSo floor wants v)) how.2 told) where
  how : (f : ℕ) × (w : Counts) × (event ≡ Propose id f w)
  how = proposes_is id event p

  by : (t : Bool) → Tells t ((how.0 ≡ floor) × (how.1 ≡ wants)) → Tells t (event ≡ Propose id floor wants)
  by true is =
      how.2
      ∙ (ap (λ (x : ℕ). let v : Event = Propose id x how.1 in v) is.0
      ∙ ap (λ (x : Counts). let v : Event = Propose id floor x in v) is.1)
  by false fails = λ e. fails (parts (sym how.2 ∙ e)) where
    parts : (let v : Event = Propose id how.0 how.1 in v) ≡ Propose id floor wants → (how.0 ≡ floor) × (how.1 ≡ wants)
    parts e = (cc (e), cc (e))

pub proposes_told : (own regions : ℕ) (history : List Entry) → IsColumnHistory own regions (dated own history) → (id : Id)
    (place : ℕ) (e : Entry) → EntersAt history id (Some place) → (floor : ℕ) (wants : Counts) (b : Bool)
    → Tells b (ProposesSo floor wants (get_or history place e).event) → Tells b (ProposesNode id floor wants (proposal id history))
proposes_told own regions history lawful id place e (d, at, t) floor wants b told = by (cases_Bool (proposes id d.event)) where
  here : Tells b (ProposesSo floor wants d.event)
  here = subst (λ (x : Entry). Tells b (ProposesSo floor wants x.event)) (get_or_from_slice_get history place d e at) told

  none : (c : Bool) → Tells c (ProposesSo floor wants d.event) → ProposesSo floor wants d.event → Tells c (Unit {0})
  none true h so = tt
  none false h so = absurd (h so)

  by : (proposes id d.event ≡ true) ⊎ (proposes id d.event ≡ false) → Tells b (ProposesNode id floor wants (proposal id history))
  by (inl p) =
      subst (λ (o : Option Entry). Tells b (ProposesNode id floor wants o)) (sym (entered_so own regions history lawful id place d at p))
      (proposed_told id floor wants d.event p b here)
  by (inr f) =
      subst (λ (o : Option Entry). Tells b (ProposesNode id floor wants o))
      (sym (entered_alone own regions history lawful id place d at t f)) (none b here (so_none id floor wants d.event f t))

pub proposes_none : (history : List Entry) (id : Id) → EntersAt history id None → (floor : ℕ) (wants : Counts)
    → ProposesNode id floor wants (proposal id history)
proposes_none history id fresh floor wants = subst (ProposesNode id floor wants) (sym (not_entered history id fresh)) tt

-- ROWS OF CLIENTS

filter_more : {X : Type 0} (test : X → Bool) (xs ys : List X) → filter test (xs ++ ys) ≡ filter test xs ++ filter test ys
filter_more test [] ys = refl
filter_more {X} test (x ∷ xs) ys =
    by_test (filter test ((x ∷ xs) ++ ys) ≡ filter test (x ∷ xs) ++ filter test ys) (test x)
    (λ t. if_true (test x) (x ∷ filter test (xs ++ ys)) (filter test (xs ++ ys)) t
    ∙ (ap (λ (l : List X). x ∷ l) (filter_more test xs ys)
    ∙ ap (λ (l : List X). l ++ filter test ys) (sym (if_true (test x) (x ∷ filter test xs) (filter test xs) t))))
    (λ f. if_false (test x) (x ∷ filter test (xs ++ ys)) (filter test (xs ++ ys)) f
    ∙ (filter_more test xs ys
    ∙ ap (λ (l : List X). l ++ filter test ys) (sym (if_false (test x) (x ∷ filter test xs) (filter test xs) f))))

map_more : {X Y : Type 0} (f : X → Y) (xs ys : List X) → map f (xs ++ ys) ≡ map f xs ++ map f ys
map_more f [] ys = refl
map_more {X} {Y} f (x ∷ xs) ys = ap (λ (l : List Y). f x ∷ l) (map_more f xs ys)

module _ (script : Script) (n : ℕ) where
  abbrev own : ℕ
  own = (caller_of script n).own

  abbrev count : RowReport → ℕ
  count r = r.id.count

  ids_more : (xs ys : List RowReport) → row_ids script n (xs ++ ys) ≡ row_ids script n xs ++ row_ids script n ys
  ids_more xs ys =
      ap (λ (l : List RowReport). map count (rows_by n l)) (filter_more (is_in own) xs ys)
      ∙ (ap (map count) (filter_more (is_by n) (rows_in own xs) (rows_in own ys))
      ∙ map_more count (rows_by n (rows_in own xs)) (rows_by n (rows_in own ys)))

  -- a row of the client
  ids_own : (r : RowReport) → r.region ≡ own → r.row.client ≡ n → row_ids script n (r ∷ []) ≡ r.id.count ∷ []
  ids_own r here of =
      ap (λ (l : List RowReport). map count (rows_by n l)) (if_true (r.region == own) (r ∷ []) [] (eq-eqb r.region own here))
      ∙ ap (map count) (if_true (r.row.client == n) (r ∷ []) [] (eq-eqb r.row.client n of))

  -- one of another
  ids_other : (r : RowReport) → (r.region ≡ own → r.row.client ≡ n → ⊥) → row_ids script n (r ∷ []) ≡ []
  ids_other r not =
      by_test (row_ids script n (r ∷ []) ≡ []) (r.region == own)
      (λ t. ap (λ (l : List RowReport). map count (rows_by n l)) (if_true (r.region == own) (r ∷ []) [] t)
      ∙ by_test (map count (rows_by n (r ∷ [])) ≡ []) (r.row.client == n)
      (λ u. absurd (not (eqb-true r.region own t) (eqb-true r.row.client n u)))
      (λ f. ap (map count) (if_false (r.row.client == n) (r ∷ []) [] f)))
      (λ f. ap (λ (l : List RowReport). map count (rows_by n l)) (if_false (r.region == own) (r ∷ []) [] f))

module _ (script : Script) (rows : List RowReport) (i : ℕ) (r : RowReport) (lt : i < length rows) where
  next_ids : (n : ℕ) → r ≡ get_or rows i r
      → row_ids script n (take (i + 1) rows) ≡ row_ids script n (take i rows) ++ row_ids script n (r ∷ [])
  next_ids n is =
      ap (row_ids script n) (take_more rows i r lt)
      ∙ (ids_more script n (take i rows) (get_or rows i r ∷ [])
      ∙ ap (λ (x : RowReport). row_ids script n (take i rows) ++ row_ids script n (x ∷ [])) (sym is))

  -- one row more, of a client in its region
  pub ids_added : r ≡ get_or rows i r → IsClientIn script r.region r.row.client → (old new : List (List ℕ))
      → length old ≡ length script.shape.homes
      → ((other : ℕ) → other < length old → places_at new other
      ≡ (if other == r.row.client then places_at old other ++ r.id.count ∷ [] else places_at old other))
      → AreRowIds script (take i rows) old → AreRowIds script (take (i + 1) rows) new
  ids_added is of old new many added are n low =
      by_test (places_at new n ≡ row_ids script n (take (i + 1) rows)) (n == r.row.client)
      (λ t. let e : n ≡ r.row.client = eqb-true n r.row.client t in
      added n (omega (arith, low, many))
      ∙ (if_true (n == r.row.client) (places_at old n ++ r.id.count ∷ []) (places_at old n) t
      ∙ (ap (λ (l : List ℕ). l ++ r.id.count ∷ []) (are n low)
      ∙ (ap (λ (l : List ℕ). row_ids script n (take i rows) ++ l)
      (sym (ids_own script n r (sym of.1 ∙ ap (λ (k : ℕ). (caller_of script k).own) (sym e)) (sym e)))
      ∙ sym (next_ids n is)))))
      (λ f. added n (omega (arith, low, many))
      ∙ (if_false (n == r.row.client) (places_at old n ++ r.id.count ∷ []) (places_at old n) f
      ∙ (are n low
      ∙ (sym (append-nil (row_ids script n (take i rows)))
      ∙ (ap (λ (l : List ℕ). row_ids script n (take i rows) ++ l)
      (sym (ids_other script n r (λ here e. true≢false (sym (eq-eqb n r.row.client (sym e)) ∙ f))))
      ∙ sym (next_ids n is))))))

  -- one of another region
  pub ids_passed : r ≡ get_or rows i r → (IsClientIn script r.region r.row.client → ⊥) → (old : List (List ℕ))
      → AreRowIds script (take i rows) old → AreRowIds script (take (i + 1) rows) old
  ids_passed is not old are n low =
      are n low
      ∙ (sym (append-nil (row_ids script n (take i rows)))
      ∙ (ap (λ (l : List ℕ). row_ids script n (take i rows) ++ l)
      (sym (ids_other script n r (λ here e. not (
        subst (λ (k : ℕ). k < length script.shape.homes) (sym e) low,
        ap (λ (k : ℕ). (caller_of script k).own) e ∙ sym here,
      ))))
      ∙ sym (next_ids n is)))

-- THE NEXT ROW

pub next_row_told : (colours : ℕ) (log : Log) (caller : Caller) (kept : Kept) (asked : List ℕ) (r : RowReport)
    (marks : List ColourMark) → r.row.client ≡ caller.client → r.row.number ≡ kept.rows → marked_colours r.marks ≡ asked
    → marks ≡ r.marks → (b : Bool) → Tells b (All (MarksNext colours log caller kept) marks)
    → Tells b (IsNextRow colours log caller kept asked r)
next_row_told colours log caller kept asked r marks of number are same true all = record {
  row = ap (λ (n : ℕ). let w : Row = record { client = n; number = r.row.number } in w) of
      ∙ ap (λ (n : ℕ). let w : Row = record { client = caller.client; number = n } in w) number;
  colours_are = are;
  marks_are = subst (All (MarksNext colours log caller kept)) same all;
}
next_row_told colours log caller kept asked r marks of number are same false fails = λ is.
    fails (subst (All (MarksNext colours log caller kept)) (sym same) is.marks_are)
