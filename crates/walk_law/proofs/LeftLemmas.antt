-- What is left open, and what was helped, by look-ups.
use Rattle.std.proofs.Common.{◌≡◌, ◌⊎◌, ℕ, ◌+◌, ◌*◌, ◌<◌, ◌≤◌, Bool, true, false, cond, List, [], ◌∷◌, ◌++◌, length, map, take, get_or, Option, Some, None, ap, sym, subst, ◌∙◌, inl, inr, refl, arith}
use Rattle.std.specs.Prelude.{slice_get, ◌==◌, ◌&&◌, ◌||◌, not, IsTrue, Result, Ok, Err, OnOk}
use Rattle.std.specs.List.{All, Contains, filter, list_all, list_any, range_with_len}
use Rattle.std.proofs.lemmas.Bool.{and_parts, and_from, eqb-true, eq-eqb, ne_eqb, true≢false}
use Rattle.std.proofs.lemmas.List.{take_all, take_more}
use Rattle.std.proofs.lemmas.List.Elements.{All-contains}
use Rattle.std.proofs.lemmas.List.Folds.{list_any-append}
use Rattle.log_node.specs.declared.ids.Id.{Id}
use Rattle.log_node.specs.declared.marks.Outcome.TheVariants.{Open}
use Rattle.log_node.specs.declared.node.Node.{Node}
use Rattle.log_node.specs.Order.{key_below, same_id}
use Rattle.log_node.specs.Standings.{Standing, is_delivered, is_open_id, open_entry, queue_of}
use Rattle.log_node.proofs.CallerLemmas.{any_default, same_id-is, same_id-refl, same_some}
use Rattle.col_core.specs.declared.Event.{Event}
use Rattle.col_core.specs.declared.Event.TheVariants.{Single, Propose, Settle, Raise, Give, Carry, Trim}
use Rattle.col_core.specs.declared.Entry.{Entry}
use Rattle.col_core.specs.History.{entries}
use Rattle.col_core.specs.Ids.{IsStepOf}
use Rattle.col_core.specs.Rows.{BegunRow}
use Rattle.col_core.proofs.CallerLemmas.{In, all_in, any_in, contains_in, in_contains, in_filter, in_filter-back, in_map, in_map-back, in_range, in_flat_map, slice_in}
use Rattle.script_text.specs.declared.script.Script.{Script}
use Rattle.report_text.specs.declared.report.ClientReport.{ClientReport}
use Rattle.report_text.specs.declared.report.ColumnReport.{ColumnReport}
use Rattle.report_text.specs.declared.report.QueueKey.{QueueKey}
use Rattle.report_text.specs.declared.report.ReplyLine.{ReplyLine}
use Rattle.report_text.specs.declared.report.Report.{Report}
use Rattle.report_text.specs.declared.report.RowReport.{RowReport}
use Rattle.lawful_run.specs.Lawful.{HasStopped, IsHelp}
use Rattle.column_track.specs.Tracks.{Tells}
use Rattle.run_rules.specs.Rules.{IsLawfulColumn, Rule2, Rule8}
use Rattle.run_rules.specs.Telling.{IsWellFormed, account_of, bare_node, is_in, journal_among, node_or, row_of}
use Rattle.run_rules.proofs.CallerLemmas.{reports_tell}
use Rattle.walk_law.specs.Columns.{AreAllColumns}
use Rattle.walk_law.specs.Journals.{standing_shown}
use Rattle.walk_law.specs.LeftOpen.{AreAllWhole, IsColumnLeft, IsHelpedWhole, IsLeftBy, IsRowLeft, IsStopped, helps, is_help_among, is_help_in, is_open_among, is_open_in, is_open_key}
use Rattle.walk_law.proofs.Lists.{Finds, find_cases}
use Rattle.walk_law.proofs.ColumnPlaces.{column_there, column_within}

-- STOPS

module _ (report : Report) (client : ℕ) where
  pub stopped_nowhere : slice_get report.clients client ≡ None → HasStopped report client → ⊥
  stopped_nowhere none has = let there = has.of_client in let f : ⊥ = cc (there, none) in f

  pub stopped_empty : (shown : ClientReport) → slice_get report.clients client ≡ Some shown → shown.replies ≡ [] → HasStopped report client → ⊥
  stopped_empty shown at empty has =
      let same : has.shown ≡ shown = same_some (sym has.of_client ∙ at) in
      let long = ap (λ (c : ClientReport). length c.replies) same in
      let none = ap length empty in
      let last = has.last in
      omega (arith, long, none, last)

  pub stopped_told : (shown : ClientReport) → slice_get report.clients client ≡ Some shown → (reply : ReplyLine) (at : ℕ)
      → length shown.replies ≡ at + 1 → slice_get shown.replies at ≡ Some reply → (b : Bool)
      → Tells b (IsStopped reply.answer) → Tells b (HasStopped report client)
  stopped_told shown at reply before long there true stops = record {
    shown = shown;
    of_client = at;
    before = before;
    reply = reply;
    last = long;
    there = there;
    steps = stops.0;
    stopped = stops.1;
  }
  stopped_told shown at reply before long there false goes = λ has.
      let same : has.shown ≡ shown = same_some (sym has.of_client ∙ at) in
      let count = ap (λ (c : ClientReport). length c.replies) same in
      let last = has.last in
      let place : has.before ≡ before = omega (arith, long, count, last) in
      let one : reply ≡ has.reply =
      same_some (sym there ∙ (ap (λ (c : ClientReport). slice_get c.replies before) (sym same)
      ∙ (ap (slice_get has.shown.replies) (sym place) ∙ has.there))) in
      goes (has.steps, ap (λ (r : ReplyLine). r.answer) one ∙ has.stopped)

pub settled_left : (report : Report) (q : QueueKey) → q.settled ≡ true → IsLeftBy report q
settled_left report q t = inl t

pub open_left : (report : Report) (q : QueueKey) → q.settled ≡ false → (b : Bool) → Tells b (HasStopped report q.key.id.client)
    → Tells b (IsLeftBy report q)
open_left report q f true has = inr has
open_left report q f false fails = neither where
  neither : IsLeftBy report q → ⊥
  neither (inl t) = true≢false (sym t ∙ f)
  neither (inr has) = fails has

-- IDS THAT ARE PUT IN

or_shuffled : (a b c : Bool) → (a || (b || c)) ≡ (b || (c || (a || false)))
or_shuffled true true c = refl
or_shuffled true false true = refl
or_shuffled true false false = refl
or_shuffled false true c = refl
or_shuffled false false true = refl
or_shuffled false false false = refl

or_same : (b c : Bool) → (b || c) ≡ (b || (c || (false || false)))
or_same true c = refl
or_same false true = refl
or_same false false = refl

module _ {X : Type 0} (xs : List X) (i : ℕ) (x : X) (lt : i < length xs) (is : x ≡ get_or xs i x) where
  any_more : (test : X → Bool) → list_any test (take (i + 1) xs) ≡ (list_any test (take i xs) || (test x || false))
  any_more test =
      ap (list_any test) (take_more xs i x lt)
      ∙ (ap (λ (y : X). list_any test (take i xs ++ y ∷ [])) (sym is) ∙ list_any-append test (take i xs) (x ∷ []))

  -- one that passes as the id that is put in
  pub put_more : (test : X → Bool) (start old new same : Bool) → old ≡ (start || list_any test (take i xs)) → new ≡ (same || old)
      → test x ≡ same → new ≡ (start || list_any test (take (i + 1) xs))
  put_more test start old new same before put passes =
      put
      ∙ (ap (λ (b : Bool). same || b) before
      ∙ (or_shuffled same start (list_any test (take i xs))
      ∙ (ap (λ (b : Bool). start || (list_any test (take i xs) || (b || false))) (sym passes)
      ∙ ap (λ (b : Bool). start || b) (sym (any_more test)))))

  -- one that does not pass
  pub put_none : (test : X → Bool) (start old : Bool) → old ≡ (start || list_any test (take i xs)) → test x ≡ false
      → old ≡ (start || list_any test (take (i + 1) xs))
  put_none test start old before fails =
      before
      ∙ (or_same start (list_any test (take i xs))
      ∙ (ap (λ (b : Bool). start || (list_any test (take i xs) || (b || false))) (sym fails)
      ∙ ap (λ (b : Bool). start || b) (sym (any_more test))))

  -- those of one item more
  pub put_all : (test : X → Bool) (old new : Bool) → old ≡ list_any test (take i xs) → new ≡ (old || test x)
      → new ≡ list_any test (take (i + 1) xs)
  put_all test old new before put =
      put ∙ (ap (λ (b : Bool). b || test x) before ∙ (or_end (list_any test (take i xs)) (test x) ∙ sym (any_more test))) where
        or_end : (a b : Bool) → (a || b) ≡ (a || (b || false))
        or_end true b = refl
        or_end false true = refl
        or_end false false = refl

  pub put_past : (test : X → Bool) (old : Bool) → old ≡ list_any test (take i xs) → test x ≡ false → old ≡ list_any test (take (i + 1) xs)
  put_past test old before fails =
      before ∙ (or_false (list_any test (take i xs)) ∙ (ap (λ (b : Bool). list_any test (take i xs) || (b || false)) (sym fails) ∙ sym (any_more test))) where
        or_false : (a : Bool) → a ≡ (a || (false || false))
        or_false true = refl
        or_false false = refl

-- one item more, that is put in where it passes
pub put_item : {X : Type 0} (xs : List X) (i : ℕ) (x : X) → i < length xs → x ≡ get_or xs i x → (test : X → Bool)
    (start old new same : Bool) → old ≡ (start || list_any test (take i xs)) → test x ≡ same → new ≡ (same || old)
    → new ≡ (start || list_any test (take (i + 1) xs))
put_item xs i x lt is test start old new same before passes put = put_more xs i x lt is test start old new same before put passes

-- the same of plain data
pub put_next : {X : Type 0} (xs : List X) (i : ℕ) (d : X) → i < length xs → (test : X → Bool) (start old new same : Bool)
    → old ≡ (start || list_any test (take i xs)) → test (get_or xs i d) ≡ same → new ≡ (same || old)
    → new ≡ (start || list_any test (take (i + 1) xs))
put_next xs i d lt test start old new same before passes put =
    put_more xs i (get_or xs i d) lt (any_default xs i d (get_or xs i d) lt) test start old new same before put passes

pub put_end : {X : Type 0} (xs : List X) (i : ℕ) (test : X → Bool) → length xs ≤ i → list_any test (take i xs) ≡ list_any test xs
put_end xs i test ge = ap (list_any test) (take_all i xs ge)

-- what follows at an Ok
pub on_ok : {T E : Type 0} (r : Result T E) (P Q : Type 0) → (P → Q) → OnOk r P → OnOk r Q
on_ok (Ok x) P Q f p = f p
on_ok (Err e) P Q f p = tt

-- ONE ROW

pub whole_told : (r : RowReport) (region : ℕ) (helped waits : Bool) → r.region ≡ region → helped ≡ true → waits ≡ false → (b : Bool)
    → Tells b (r.last ≡ Open)
    → Tells (not b) (r.region ≡ region → helped ≡ true → (r.last ≡ Open → ⊥) × (waits ≡ false))
whole_told r region helped waits in_it t f true is = λ all. (all in_it t).0 is
whole_told r region helped waits in_it t f false is = λ a c. (is, f)

pub whole_as : (region : ℕ) (columns : List ColumnReport) (r : RowReport) (helped waits b : Bool)
    → helped ≡ is_help_among region columns r.id → waits ≡ is_open_among region columns r.id
    → Tells b (r.region ≡ region → helped ≡ true → (r.last ≡ Open → ⊥) × (waits ≡ false)) → Tells b (IsHelpedWhole region columns r)
whole_as region columns r helped waits b one two told =
    subst (λ (w : Bool). Tells b (r.region ≡ region → is_help_among region columns r.id ≡ true → (r.last ≡ Open → ⊥) × (w ≡ false))) two
    (subst (λ (h : Bool). Tells b (r.region ≡ region → h ≡ true → (r.last ≡ Open → ⊥) × (waits ≡ false))) one told)

-- FROM THE RULE AND TO IT

any_there : {X : Type 0} (test : X → Bool) (xs : List X) → list_any test xs ≡ true → (x : X) × In x xs × (test x ≡ true)
any_there test [] t = absurd (true≢false (sym t))
any_there {X} test (y ∷ ys) t = by (test y) refl (any_there test ys) where
  by : (b : Bool) → test y ≡ b → (list_any test ys ≡ true → (x : X) × In x ys × (test x ≡ true)) → (x : X) × In x (y ∷ ys) × (test x ≡ true)
  by true is rest = (y, inl refl, is)
  by false is rest = let more = rest (sym (ap (λ b. b || list_any test ys) is) ∙ t) in (more.0, inr more.1, more.2)

pub none_there : {X : Type 0} (test : X → Bool) (xs : List X) → ((x : X) → In x xs → test x ≡ false) → list_any test xs ≡ false
none_there test [] all = refl
none_there test (y ∷ ys) all = ap (λ b. b || list_any test ys) (all y (inl refl)) ∙ none_there test ys (λ x i. all x (inr i))

-- a help by its id
helps_is : (id : Id) (by : ℕ) (event : Event) → helps id by event ≡ true → IsHelp by event × IsStepOf id event
helps_is id by (Single other floor wants) t = absurd (true≢false (sym t))
helps_is id by (Propose other floor wants) t =
    let two = and_parts (not (other.client == by)) (same_id id other) t in
    (λ e. not_same other.client by two.0 e, sym (same_id-is id other two.1)) where
      not_same : (a b : ℕ) → not (a == b) ≡ true → a ≡ b → ⊥
      not_same a b n e = true≢false (sym n ∙ ap not (eq-eqb a b e))
helps_is id by (Settle other outcome) t =
    let two = and_parts (not (other.client == by)) (same_id id other) t in
    (λ e. not_same other.client by two.0 e, sym (same_id-is id other two.1)) where
      not_same : (a b : ℕ) → not (a == b) ≡ true → a ≡ b → ⊥
      not_same a b n e = true≢false (sym n ∙ ap not (eq-eqb a b e))
helps_is id by (Raise to) t = absurd (true≢false (sym t))
helps_is id by (Give region from) t = absurd (true≢false (sym t))
helps_is id by (Carry region start heads) t = absurd (true≢false (sym t))
helps_is id by (Trim counts) t = absurd (true≢false (sym t))

is_helps : (id : Id) (by : ℕ) (event : Event) → IsHelp by event → IsStepOf id event → helps id by event ≡ true
is_helps id by (Single other floor wants) h s = absurd h
is_helps id by (Propose other floor wants) h s =
    and_from (not (other.client == by)) (same_id id other) (ap not (ne_eqb other.client by h))
    (subst (λ (i : Id). same_id i other ≡ true) s (same_id-refl other))
is_helps id by (Settle other outcome) h s =
    and_from (not (other.client == by)) (same_id id other) (ap not (ne_eqb other.client by h))
    (subst (λ (i : Id). same_id i other ≡ true) s (same_id-refl other))
is_helps id by (Raise to) h s = absurd h
is_helps id by (Give region from) h s = absurd h
is_helps id by (Carry region start heads) h s = absurd h
is_helps id by (Trim counts) h s = absurd h

-- an open entry stands in the queue
module _ (column : ColumnReport) (history : List Entry) (shown : map standing_shown column.queue ≡ queue_of (entries history)) where
  in_queue : (e : Standing) → In e (entries history) → e.settled ≡ false → In e (map standing_shown column.queue)
  in_queue e i f =
      subst (In e) (sym shown)
      (in_filter-back (λ (x : Standing). not (is_delivered (entries history) x)) e (entries history) i
      (ap (λ (b : Bool). not (b && list_all_below e)) f)) where
        list_all_below : Standing → Bool
        list_all_below x = list_all (λ (y : Standing). y.settled || key_below x.key y.key) (entries history)

  from_queue : (q : QueueKey) → In q column.queue → In (standing_shown q) (entries history)
  from_queue q i =
      (in_filter (λ (x : Standing). not (is_delivered (entries history) x)) (standing_shown q) (entries history)
      (subst (In (standing_shown q)) shown (in_map-back standing_shown column.queue q i))).0

  pub none_open : (id : Id) → is_open_in id column ≡ false → open_entry id (entries history) ≡ None
  none_open id f = by (find_cases (is_open_id id) (entries history)) where
    by : Finds (is_open_id id) (entries history) → open_entry id (entries history) ≡ None
    by (inl none) = none.0
    by (inr some) =
        let e = some.0 in
        let two = and_parts (not e.settled) (same_id e.key.id id) some.2 in
        let there = in_map standing_shown column.queue e (in_queue e some.1 (not_settled e.settled two.0)) in
        let same : same_id id there.0.key.id ≡ true =
        subst (λ (i : Id). same_id i there.0.key.id ≡ true)
        (ap (λ (x : Standing). x.key.id) there.2 ∙ same_id-is e.key.id id two.1) (same_id-refl there.0.key.id) in
        absurd (true≢false
        (sym (any_in (is_open_key id) column.queue there.0 there.1
        (and_from (not there.0.settled) (same_id id there.0.key.id) (ap (λ (x : Standing). not x.settled) there.2 ∙ two.0) same)) ∙ f)) where
          not_settled : (b : Bool) → not b ≡ true → b ≡ false
          not_settled true n = absurd (true≢false (sym n))
          not_settled false n = refl

  pub open_there : (id : Id) → open_entry id (entries history) ≡ None → is_open_in id column ≡ false
  open_there id none = none_there (is_open_key id) column.queue each where
    each : (q : QueueKey) → In q column.queue → is_open_key id q ≡ false
    each q i = by (is_open_key id q) refl where
      by : (b : Bool) → is_open_key id q ≡ b → b ≡ false
      by false e = refl
      by true e =
          let two = and_parts (not q.settled) (same_id id q.key.id) e in
          absurd (found (find_cases (is_open_id id) (entries history))
          (and_from (not q.settled) (same_id q.key.id id) two.0
          (subst (λ (k : Id). same_id k id ≡ true) (same_id-is id q.key.id two.1) (same_id-refl id)))) where
            found : Finds (is_open_id id) (entries history) → is_open_id id (standing_shown q) ≡ true → ⊥
            found (inl all) t = true≢false (sym t ∙ all.1 (standing_shown q) (from_queue q i))
            found (inr some) t = let f : ⊥ = cc (some.3, none) in f

  pub left_here : (report : Report) → IsColumnLeft report column
      → All (λ (e : Standing). IsTrue e.settled ⊎ HasStopped report e.key.id.client) (entries history)
  left_here report left = all_in _ (entries history) (λ e i. by e i e.settled refl) where
    by : (e : Standing) → In e (entries history) → (b : Bool) → e.settled ≡ b → IsTrue e.settled ⊎ HasStopped report e.key.id.client
    by e i true t = inl t
    by e i false f =
        let there = in_map standing_shown column.queue e (in_queue e i f) in
        let h = All-contains (IsLeftBy report) column.queue there.0 left (contains_in column.queue there.0 there.1) in
        subst (λ (x : Standing). IsTrue x.settled ⊎ HasStopped report x.key.id.client) there.2 h

  pub here_left : (report : Report) → All (λ (e : Standing). IsTrue e.settled ⊎ HasStopped report e.key.id.client) (entries history)
      → IsColumnLeft report column
  here_left report all = all_in (IsLeftBy report) column.queue (λ q i.
      All-contains (λ (e : Standing). IsTrue e.settled ⊎ HasStopped report e.key.id.client) (entries history) (standing_shown q) all
      (contains_in (entries history) (standing_shown q) (from_queue q i)))

module _ (script : Script) (report : Report) (formed : IsWellFormed script report)
    (columns : AreAllColumns script.shape.regions script.shape.colours report.columns) (second : Rule2 script report)
    (nodes : ℕ → List Node) where
  abbrev H : ℕ → ℕ → List Entry
  H = journal_among report.columns

  pub journal_is : (c : ColumnReport) → In c report.columns → c.journal ≡ journal_among report.columns c.region c.colour
  journal_is c i =
      All-contains (λ (d : ColumnReport). d.journal ≡ journal_among report.columns d.region d.colour) report.columns c
      (reports_tell script report nodes formed).histories (contains_in report.columns c i)

  shown_at : (c : ColumnReport) → In c report.columns → map standing_shown c.queue ≡ queue_of (entries (H c.region c.colour))
  shown_at c i =
      (All-contains (IsLawfulColumn script) report.columns c second.each (contains_in report.columns c i)).closing.queue_shown
      ∙ ap (λ (h : List Entry). queue_of (entries h)) (journal_is c i)

  -- what is so of each column is so at each place of the shape
  pub by_place : (P : ℕ → ℕ → Type 0) → ((c : ColumnReport) → In c report.columns → P c.region c.colour)
      → (region colour : ℕ) → region < script.shape.regions → colour < script.shape.colours → P region colour
  by_place P each region colour lt low =
      let c = column_there script.shape.regions script.shape.colours report.columns columns region colour lt low in
      subst (λ (r : ℕ). P r colour) c.2
      (subst (P c.0.region) c.3 (each c.0 (slice_in report.columns (region * script.shape.colours + colour) c.0 c.1)))

  -- an id that no column of a region leaves open, by the closing lines and by the histories
  pub closed_in : (region colour : ℕ) (id : Id) → region < script.shape.regions → colour < script.shape.colours
      → is_open_among region report.columns id ≡ false → open_entry id (entries (H region colour)) ≡ None
  closed_in region colour id lt low f =
      by_place (λ r k. r ≡ region → open_entry id (entries (H r k)) ≡ None)
      (λ c i is. none_open c (H c.region c.colour) (shown_at c i) id (open_no c i is (is_open_in id c) refl)) region colour lt low refl where
        open_no : (c : ColumnReport) → In c report.columns → c.region ≡ region → (b : Bool) → is_open_in id c ≡ b → is_open_in id c ≡ false
        open_no c i is false e = e
        open_no c i is true e =
            absurd (true≢false (sym (any_in (λ (d : ColumnReport). (d.region == region) && is_open_in id d) report.columns c i
            (and_from (c.region == region) (is_open_in id c) (eq-eqb c.region region is) e)) ∙ f))

  pub closed_among : (region : ℕ) (id : Id)
      → ((colour : ℕ) → colour < script.shape.colours → open_entry id (entries (H region colour)) ≡ None)
      → is_open_among region report.columns id ≡ false
  closed_among region id closed =
      none_there (λ (d : ColumnReport). (d.region == region) && is_open_in id d) report.columns (λ d j.
      by_region d j (d.region == region) refl
      (closed d.colour (column_within script.shape.regions script.shape.colours report.columns columns d j).1)) where
        by_region : (d : ColumnReport) → In d report.columns → (b : Bool) → (d.region == region) ≡ b
            → open_entry id (entries (H region d.colour)) ≡ None → ((d.region == region) && is_open_in id d) ≡ false
        by_region d j false f none = ap (λ (b : Bool). b && is_open_in id d) f
        by_region d j true t none =
            let is = eqb-true d.region region t in
            ap (λ (b : Bool). b && is_open_in id d) t
            ∙ open_there d (H d.region d.colour) (shown_at d j) id
            (subst (λ (r : ℕ). open_entry id (entries (H r d.colour)) ≡ None) (sym is) none)

  row_id : (r : RowReport) → (row_of H nodes r).node.id ≡ r.id
  row_id r = by (slice_get (nodes r.id.client) r.id.count) where
    by : (o : Option Node) → (node_or H r o).id ≡ r.id
    by None = refl
    by (Some node) = pick (same_id node.id r.id) refl where
      pick : (b : Bool) → same_id node.id r.id ≡ b → (cond b node (bare_node H r)).id ≡ r.id
      pick true t = same_id-is node.id r.id t
      pick false f = refl

  row_there : (region : ℕ) (r : BegunRow) → In r (map (row_of H nodes) (filter (is_in region) report.rows))
      → (x : RowReport) × In x report.rows × (x.region ≡ region) × (row_of H nodes x ≡ r)
  row_there region r i =
      let back = in_map (row_of H nodes) (filter (is_in region) report.rows) r i in
      let two = in_filter (is_in region) back.0 report.rows back.1 in
      (back.0, two.0, eqb-true back.0.region region two.1, back.2)

  there_row : (region : ℕ) (x : RowReport) → In x report.rows → x.region ≡ region
      → In (row_of H nodes x) (map (row_of H nodes) (filter (is_in region) report.rows))
  there_row region x i is =
      in_map-back (row_of H nodes) (filter (is_in region) report.rows) x
      (in_filter-back (is_in region) x report.rows i (eq-eqb x.region region is))

  -- by regions and columns of the report
  help_seen : (region colour : ℕ) (e : Entry) (id : Id) → region < script.shape.regions → colour < script.shape.colours
      → Contains (H region colour) e → IsHelp e.by e.event → IsStepOf id e.event → is_help_among region report.columns id ≡ true
  help_seen region colour e id lt low there help step =
      let c = column_there script.shape.regions script.shape.colours report.columns columns region colour lt low in
      let i = slice_in report.columns (region * script.shape.colours + colour) c.0 c.1 in
      help_at c.0 i c.2 (sym (ap (λ (n : ℕ). H n colour) c.2) ∙ (ap (H c.0.region) (sym c.3) ∙ sym (journal_is c.0 i))) where
        help_at : (c : ColumnReport) → In c report.columns → c.region ≡ region → H region colour ≡ c.journal
            → is_help_among region report.columns id ≡ true
        help_at c i is same =
            any_in (λ (d : ColumnReport). (d.region == region) && is_help_in id d) report.columns c i
            (and_from (c.region == region) (is_help_in id c) (eq-eqb c.region region is)
            (any_in (λ (d : Entry). helps id d.by d.event) c.journal e
            (subst (In e) same (in_contains (H region colour) e there)) (is_helps id e.by e.event help step)))

  pub eighth_from : All (IsColumnLeft report) report.columns → All (IsRowLeft report) report.rows
      → ((region : ℕ) → region < script.shape.regions → All (IsHelpedWhole region report.columns) report.rows)
      → Rule8 script report (account_of script report nodes)
  eighth_from left rows whole = record {
    left_open = record {
      ids = by_place (λ region colour. All (λ (e : Standing). IsTrue e.settled ⊎ HasStopped report e.key.id.client) (entries (H region colour)))
          (λ c i. left_here c (H c.region c.colour) (shown_at c i) report
          (All-contains (IsColumnLeft report) report.columns c left (contains_in report.columns c i)));
      rows = λ region lt. all_in (λ (r : BegunRow). r.last ≡ Open → HasStopped report r.row.client) _ (λ r i.
          let x = row_there region r i in
          subst (λ (y : BegunRow). y.last ≡ Open → HasStopped report y.row.client) x.3
          (All-contains (IsRowLeft report) report.rows x.0 rows (contains_in report.rows x.0 x.1)));
    };
    helped = λ region colour e r lt low there help begun step.
        let x = row_there region r (in_contains _ r begun) in
        let id : r.node.id ≡ x.0.id = ap (λ (y : BegunRow). y.node.id) (sym x.3) ∙ row_id x.0 in
        let seen = help_seen region colour e x.0.id lt low there help (subst (λ (i : Id). IsStepOf i e.event) id step) in
        let is = All-contains (IsHelpedWhole region report.columns) report.rows x.0 (whole region lt) (contains_in report.rows x.0 x.1) x.2 seen in
        record {
          decided = λ still. is.0 (ap (λ (y : BegunRow). y.last) x.3 ∙ still);
          open_nowhere = λ other less.
              subst (λ (i : Id). open_entry i (entries (H region other)) ≡ None) (sym id) (closed_in region other x.0.id lt less is.1);
        };
  }

  pub columns_left : Rule8 script report (account_of script report nodes) → All (IsColumnLeft report) report.columns
  columns_left rule = all_in (IsColumnLeft report) report.columns (λ c i.
      let within = column_within script.shape.regions script.shape.colours report.columns columns c i in
      here_left c (H c.region c.colour) (shown_at c i) report (rule.left_open.ids c.region c.colour within.0 within.1))

  pub rows_left : Rule8 script report (account_of script report nodes) → All (IsRowLeft report) report.rows
  rows_left rule = all_in (IsRowLeft report) report.rows (λ x i.
      All-contains (λ (r : BegunRow). r.last ≡ Open → HasStopped report r.row.client) _ (row_of H nodes x)
      (rule.left_open.rows x.region (row_within x i)) (contains_in _ (row_of H nodes x) (there_row x.region x i refl))) where
        row_within : (x : RowReport) → In x report.rows → x.region < script.shape.regions
        row_within x i =
            let f = in_flat_map (λ (region : ℕ). filter (is_in region) report.rows) (range_with_len 0 script.shape.regions) x
            (subst (In x) formed.rows i) in
            let two = in_filter (is_in f.0) x report.rows f.2 in
            let lt = (in_range 0 script.shape.regions f.0 f.1).1 in
            let is = eqb-true x.region f.0 two.1 in
            omega (arith, lt, is)

  pub whole_left : Rule8 script report (account_of script report nodes)
      → (region : ℕ) → region < script.shape.regions → All (IsHelpedWhole region report.columns) report.rows
  whole_left rule region lt = all_in (IsHelpedWhole region report.columns) report.rows (λ x i is seen.
      let c = any_there (λ (d : ColumnReport). (d.region == region) && is_help_in x.id d) report.columns seen in
      let two = and_parts (c.0.region == region) (is_help_in x.id c.0) c.2 in
      let e = any_there (λ (d : Entry). helps x.id d.by d.event) c.0.journal two.1 in
      let help = helps_is x.id e.0.by e.0.event e.2 in
      let in_region = eqb-true c.0.region region two.0 in
      let within = column_within script.shape.regions script.shape.colours report.columns columns c.0 c.1 in
      let whole = rule.helped region c.0.colour e.0 (row_of H nodes x) lt within.1
      (contains_in (H region c.0.colour) e.0
      (subst (In e.0) (journal_is c.0 c.1 ∙ ap (λ (n : ℕ). H n c.0.colour) in_region) e.1))
      help.0 (contains_in _ (row_of H nodes x) (there_row region x i is))
      (subst (λ (k : Id). IsStepOf k e.0.event) (sym (row_id x)) help.1) in (
        whole.decided,
        closed_among region x.id (λ colour low.
            subst (λ (k : Id). open_entry k (entries (H region colour)) ≡ None) (row_id x) (whole.open_nowhere colour low)),
      ))

  pub eighth_told : All (IsColumnLeft report) report.columns → All (IsRowLeft report) report.rows → (b : Bool)
      → (columns_shown : List ColumnReport) (rows_shown : List RowReport) → columns_shown ≡ report.columns → rows_shown ≡ report.rows
      → Tells b (AreAllWhole script.shape.regions columns_shown rows_shown) → Tells b (Rule8 script report (account_of script report nodes))
  eighth_told left rows b columns_shown rows_shown one two told =
      by b
      (subst (λ (cs : List ColumnReport). Tells b (AreAllWhole script.shape.regions cs report.rows)) one
      (subst (λ (rs : List RowReport). Tells b (AreAllWhole script.shape.regions columns_shown rs)) two told)) where
        by : (t : Bool) → Tells t (AreAllWhole script.shape.regions report.columns report.rows) → Tells t (Rule8 script report (account_of script report nodes))
        by true whole = eighth_from left rows whole
        by false fails = λ rule. fails (whole_left rule)
