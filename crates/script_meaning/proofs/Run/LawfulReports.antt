-- The report of a state to which a script's commands lead is that of a lawful run.
use Rattle.std.proofs.Common.{◌≡◌, ◌⊎◌, inl, inr, ℕ, zero, suc, ◌+◌, ◌<◌, ◌≤◌, List, [], ◌∷◌, ◌++◌, length, map, Option, Some, None, slice_get, refl, ap, sym, subst, ◌∙◌, arith, length-append}
use Rattle.std.specs.Prelude.{IsTrue, slice_index, unwrap_or}
use Rattle.std.specs.Option.{option_map}
use Rattle.std.specs.List.{All, Contains, filter, flat_map, range_with_len, enumerate_from}
use Rattle.std.proofs.lemmas.Bool.{lt-ltb, ltb-true}
use Rattle.std.proofs.lemmas.List.{map-append, length-map}
use Rattle.std.proofs.lemmas.List.Elements.{All-nil, All-append, All-map}
use Rattle.std.proofs.lemmas.Option.{slice_get-map}
use Rattle.std.proofs.lemmas.Simd.{map-map}
use Rattle.log_node.specs.declared.node.Shape.{Shape}
use Rattle.log_node.specs.declared.marks.Outcome.TheVariants.{Open}
use Rattle.log_node.specs.Standings.{Standing, queue_of, open_entry}
use Rattle.col_core.specs.declared.Entry.{Entry}
use Rattle.col_core.specs.History.{entries}
use Rattle.col_core.specs.Computed.{dated}
use Rattle.col_core.specs.Copies.{AreTrueCopies}
use Rattle.col_core.specs.Legal.{IsColumnHistory}
use Rattle.col_core.specs.Rows.{BegunRow, AreLawfulRows, is_of}
use Rattle.col_core.specs.Log.{Log}
use Rattle.col_core.proofs.CallerLemmas.{by_test, cut-is_greatest}
use Rattle.object_form.specs.Laws.{ReadsBack}
use Rattle.script_meaning.proofs.Tree.TreeLaws.{TreesReadBack}
use Rattle.world_laws.specs.Worlds.{World, home_of}
use Rattle.world_laws.specs.Laws.{log_of, rows_of_region}
use Rattle.world_laws.proofs.CallerLemmas.{in_contains, contains_in, slice_last, have_lawful_rows, all_in, OfRegion}
use Rattle.world_laws.proofs.CallerLemmas.{of_region, same_number}
use Rattle.script_text.specs.declared.script.Command.{Command}
use Rattle.script_text.specs.declared.script.Script.{Script}
use Rattle.script_text.specs.Fitting.{IsFitting}
use Rattle.report_text.specs.declared.report.QueueKey.{QueueKey}
use Rattle.report_text.specs.declared.report.ReplyLine.{ReplyLine}
use Rattle.report_text.specs.declared.report.ClientReport.{ClientReport}
use Rattle.report_text.specs.declared.report.ColumnReport.{ColumnReport}
use Rattle.lawful_run.specs.Callers.{caller_of}
use Rattle.lawful_run.specs.Columns.{IsColumnReport, AreColumns, AreRowReports, HoldsTrueCopies, IsClientIn}
use Rattle.col_core.specs.Ids.{IsStepOf}
use Rattle.lawful_run.specs.Lawful.{IsClientRun, IsHelp, HasHelping, HasStopped, LeavesOpen, IsComplete, LawfulRun}
use Rattle.script_meaning.specs.States.{State}
use Rattle.script_meaning.specs.Meaning.{column_report, report_of}
use Rattle.script_meaning.specs.Laws.{RunsAreLawful}
use Rattle.lawful_run.proofs.CallerLemmas.{get_within}
use Rattle.script_meaning.proofs.Lists.{all_at, in_range}
use Rattle.script_meaning.proofs.World.Rows.{node_id, IsDone}
use Rattle.script_meaning.proofs.World.StaysComplete.{step_of_one}
use Rattle.script_meaning.proofs.World.Settled.{no_open}
use Rattle.script_meaning.proofs.World.Completions.{HasRow, open_row}
use Rattle.script_meaning.proofs.World.Reached.{held_of, told_of, listed_of}
use Rattle.script_meaning.proofs.World.Clearing.{waits_not_done}
use Rattle.script_meaning.proofs.World.RowsOfClients.{by_client, rows_begun}
use Rattle.script_meaning.proofs.Run.Invariant.{IsStopped, Runs}
use Rattle.script_meaning.proofs.Run.InvariantHolds.{runs_all}

-- Lists

range-all : (P : ℕ → Type 0) (a n : ℕ) → ((i : ℕ) → a ≤ i → i < a + n → P i) → All P (range_with_len a n)
range-all P a n h = all_in P (range_with_len a n) (λ i j. let r = in_range a n i j in h i r.0 r.1)

flat_map-all : {A B : Type 0} (P : B → Type 0) (f : A → List B) (xs : List A) → All (λ x. All P (f x)) xs
    → All P (flat_map f xs)
flat_map-all P f [] all = All-nil P
flat_map-all {A} P f (x ∷ xs) all =
    All-append P (f x) (flat_map f xs) (all 0 x (omega arith))
    (flat_map-all P f xs (λ k d lt. all (suc k) d (omega arith)))

map-flat_map : {A B C : Type 0} (g : B → C) (f : A → List B) (xs : List A)
    → map g (flat_map f xs) ≡ flat_map (λ x. map g (f x)) xs
map-flat_map g f [] = refl
map-flat_map g f (x ∷ xs) = map-append g (f x) (flat_map f xs) ∙ ap (λ l. map g (f x) ++ l) (map-flat_map g f xs)

map-same : {A : Type 0} (f : A → A) → ((x : A) → f x ≡ x) → (xs : List A) → map f xs ≡ xs
map-same f same [] = refl
map-same {A} f same (x ∷ xs) = ap (λ (y : A). y ∷ map f xs) (same x) ∙ ap (λ (l : List A). x ∷ l) (map-same f same xs)

-- each item with its number
numbered-second : {A : Type 0} (n : ℕ) (xs : List A) → map (λ (p : ℕ × A). p.1) (enumerate_from n xs) ≡ xs
numbered-second n [] = refl
numbered-second n (x ∷ xs) = ap (λ l. x ∷ l) (numbered-second (n + 1) xs)

pub numbered-get : {A : Type 0} (n : ℕ) (xs : List A) (i : ℕ) (p : ℕ × A) → slice_get (enumerate_from n xs) i ≡ Some p
    → p.0 ≡ n + i
numbered-get n [] i p e = absurd cc
numbered-get {A} n (x ∷ xs) zero p e =
    let f : (n, x) ≡ p = cc (e) in let g : n ≡ p.0 = ap (λ (q : ℕ × A). q.0) f in omega arith
numbered-get n (x ∷ xs) (suc i) p e = let f = numbered-get (n + 1) xs i p e in omega arith

pub numbered-at : {A : Type 0} (n : ℕ) (xs : List A) (i : ℕ) → i < length xs
    → (p : ℕ × A) × (slice_get (enumerate_from n xs) i ≡ Some p)
numbered-at n [] i lt = absurd (let f : ⊥ = omega (arith, lt) in f)
numbered-at n (x ∷ xs) zero lt = ((n, x), refl)
numbered-at n (x ∷ xs) (suc i) lt = numbered-at (n + 1) xs i (omega (arith, lt))

module _ (script : Script) (fits : IsFitting script) (state : State) (is : Runs script script.commands state) where
  abbrev w : World
  w = state.world

  log : Log
  log = log_of w

  abbrev regions : ℕ
  regions = script.shape.regions

  abbrev colours : ℕ
  colours = script.shape.colours

  named : (names : List (List ℕ)) (n : ℕ) → n < length names → slice_get names n ≡ Some
      (unwrap_or (slice_get names n) [])
  named [] n lt = absurd (omega arith)
  named (name ∷ names) zero lt = refl
  named (name ∷ names) (suc n) lt = named names n (omega arith)

  shown_back : (s : List Standing) → map (λ (q : QueueKey). record { key = q.key; settled = q.settled })
      (map (λ (e : Standing). record { key = e.key; settled = e.settled }) s) ≡ s
  shown_back s =
      map-map (λ (q : QueueKey). record { key = q.key; settled = q.settled })
      (λ (e : Standing). record { key = e.key; settled = e.settled }) s
      ∙ map-same (λ (e : Standing). record { key = e.key; settled = e.settled }) (λ e. refl) s

  column : (region colour : ℕ) → region < regions → colour < colours
      → IsColumnReport log script (column_report script w region colour)
  unfolding log
  column region colour lt lc = record {
    history = refl;
    legal = subst (λ (s : Shape). IsColumnHistory region s.regions (dated region (w.histories region colour))) is.shape
        ((held_of w is.reached).lawful region colour);
    makers = all_in (λ (e : Entry). e.by < length script.clients) (w.histories region colour)
        (λ e i. let m = is.makers region colour e i in let c = fits.clients in omega (arith, m, c));
    closing = record {
      clock_shown = refl;
      line_shown = refl;
      queue_shown = shown_back (queue_of (entries (w.histories region colour)));
      cut_shown = cut-is_greatest region (dated region (w.histories region colour));
      base_shown = refl;
    };
    region_named = named script.regions region (let e = fits.regions in omega (arith, e, lt));
    colour_named = named script.colours colour (let e = fits.colours in omega (arith, e, lc));
  }

  columns : AreColumns log script (report_of script state).columns
  columns = record {
    all = map-flat_map (λ (c : ColumnReport). (c.region, c.colour))
        (λ region. map (column_report script w region) (range_with_len 0 colours)) (range_with_len 0 regions)
        ∙ ap (λ (f : ℕ → List (ℕ × ℕ)). flat_map f (range_with_len 0 regions))
        (λ i region. map-map (λ (c : ColumnReport). (c.region, c.colour)) (column_report script w region)
        (range_with_len 0 colours) i);
    each = flat_map-all (IsColumnReport log script)
        (λ region. map (column_report script w region) (range_with_len 0 colours)) (range_with_len 0 regions)
        (range-all (λ region. All (IsColumnReport log script)
        (map (column_report script w region) (range_with_len 0 colours))) 0 regions (λ region _ lt.
        All-map (IsColumnReport log script) (column_report script w region) (range_with_len 0 colours)
        (range-all (λ colour. IsColumnReport log script (column_report script w region colour)) 0 colours
        (λ colour _ lc. column region colour (omega (arith, lt)) (omega (arith, lc))))));
  }

  begun : AreRowReports log script (report_of script state).rows
  unfolding log
  begun = record {
    all = refl;
    by_client = λ region lt. by_client w region;
    of_clients = λ region lt. all_in (λ (r : BegunRow). IsClientIn script region r.row.client)
        (rows_of_region w region) (λ r i. client_in region r (of_region w region r i));
    lawful = λ region lt. subst (λ (s : Shape). AreLawfulRows region s.colours (w.histories region)
        (rows_of_region w region))
        is.shape (have_lawful_rows w (held_of w is.reached) (told_of w is.reached) region);
  } where
    client_in : (region : ℕ) (r : BegunRow) → (a : ℕ) × OfRegion w region a r → IsClientIn script region r.row.client
    client_in region r o =
        let same : o.0 ≡ r.row.client = ap (λ (y : BegunRow). y.row.client) o.1.is in
        let there = (told_of w is.reached).clients o.0 o.1.number o.1.begun in
        subst (λ (n : ℕ). IsClientIn script region n) same
        (subst (λ (s : Shape). (o.0 < length s.homes) × (slice_index s.homes o.0 ≡ region)) is.shape (there, o.1.home))

  copies : HoldsTrueCopies log script
  unfolding log
  copies colour lt =
      subst (λ (s : Shape). AreTrueCopies s.regions (λ region. dated region (w.histories region colour))) is.shape
      ((held_of w is.reached).copies colour)

  names : map (λ (c : ClientReport). c.name) (report_of script state).clients ≡ script.clients
  names =
      map-map (λ (c : ClientReport). c.name) (λ (c : ℕ × List ℕ). record { name = c.1; replies = state.replies c.0 })
      (enumerate_from 0 script.clients) ∙ numbered-second 0 script.clients

  replies_are : (n : ℕ) (c : ClientReport) → slice_get (report_of script state).clients n ≡ Some c
      → state.replies n ≡ c.replies
  replies_are n c there =
      grants (slice_get (enumerate_from 0 script.clients) n) refl
      (sym (slice_get-map (λ (p : ℕ × List ℕ). record { name = p.1; replies = state.replies p.0 })
      (enumerate_from 0 script.clients) n) ∙ there) where
        grants : (o : Option (ℕ × List ℕ)) → slice_get (enumerate_from 0 script.clients) n ≡ o
            → option_map (λ (p : ℕ × List ℕ). record { name = p.1; replies = state.replies p.0 }) o ≡ Some c
            → state.replies n ≡ c.replies
        grants None e f = absurd (let g : ⊥ = cc in g)
        grants (Some p) e f =
            let number = numbered-get 0 script.clients n p e in
            let same : n ≡ p.0 = omega (arith, number) in
            ap state.replies same ∙ ap (λ (o : Option ClientReport). (unwrap_or o c).replies) f

  -- a client that is shown is one of the script's
  client_there : (n : ℕ) (c : ClientReport) → slice_get (report_of script state).clients n ≡ Some c
      → n < length w.shape.homes
  client_there n c there =
      let lt = get_within (report_of script state).clients n c there in
      let long : length (report_of script state).clients ≡ length script.clients =
      length-map (enumerate_from 0 script.clients)
      (λ (p : ℕ × List ℕ). record { name = p.1; replies = state.replies p.0 })
      ∙ (sym (length-map (enumerate_from 0 script.clients) (λ (p : ℕ × List ℕ). p.1))
      ∙ ap length (numbered-second 0 script.clients)) in
      let c = fits.clients in
      subst (λ (s : Shape). n < length s.homes) (sym is.shape) (omega (arith, lt, long, c))

  client : (n : ℕ) (c : ClientReport) → slice_get (report_of script state).clients n ≡ Some c
      → IsClientRun log script n c.replies
  unfolding log
  client n c there =
      let k = is.clients n in
      let home : home_of w n ≡ slice_index script.shape.homes n = ap (λ (s : Shape). slice_index s.homes n) is.shape in
      subst (λ (replies : List ReplyLine). IsClientRun log script n replies) (replies_are n c there) (record {
        kept = k.kept;
        explained = k.explained;
        made = λ region colour lt lc. k.keeps.made region colour;
        nodes = (listed_of w is.reached).counts n ∙ sym k.keeps.ids;
        rows = subst (λ (r : ℕ). length (filter (is_of n) (rows_of_region w r)) ≡ k.kept.rows) home
            (rows_begun w n (client_there n c there) ∙ sym k.keeps.rows);
        row_nodes = λ r among of_client. row_node r (of_region w (slice_index script.shape.homes n) r
            (in_contains _ _ among))
            of_client;
      }) where
        row_node : (r : BegunRow) → (a : ℕ) × OfRegion w (slice_index script.shape.homes n) a r → r.row.client ≡ n
            → slice_get (w.nodes n) r.node.id.count ≡ Some r.node
        row_node r o of_client =
            let a = o.0 in
            let x = o.1 in
            let same : a ≡ n = ap (λ (y : BegunRow). y.row.client) x.is ∙ of_client in
            subst (λ (y : BegunRow). slice_get (w.nodes n) y.node.id.count ≡ Some y.node) x.is
            (ap (λ (m : ℕ). slice_get (w.nodes m) (w.rows a x.number).node.id.count) (sym same)
            ∙ (listed_of w is.reached).rows a x.number x.begun)

  helpers : (region colour : ℕ) (e : Entry) → region < regions → colour < colours
      → Contains (log.histories region colour) e → IsHelp e.by e.event
      → HasHelping script e.by × ((caller_of script e.by).own ≡ region)
  unfolding log
  helpers region colour e lt lc among help =
      let m = is.helpers region colour e (in_contains _ _ among) help in
      ((m.command, contains_in _ _ m.there, m.may), m.home)

  -- the append of a row that is done is complete
  complete : (region : ℕ) (r : BegunRow) (a : ℕ) (o : OfRegion w region a r)
      → IsDone w (record { client = a; number = o.number }) → IsComplete log script region r
  unfolding log
  complete region r a o done = record {
    decided = λ e. done.decided (ap (λ (y : BegunRow). y.last) o.is ∙ e);
    open_nowhere = λ c _. subst (λ (y : BegunRow). open_entry y.node.id (entries (w.histories region c)) ≡ None) o.is
        (no_open w (held_of w is.reached) region c (w.rows a o.number).node.id (done.waits region c));
  }

  helped : (region colour : ℕ) (e : Entry) (r : BegunRow) → region < regions → colour < colours
      → Contains (log.histories region colour) e → IsHelp e.by e.event → Contains (log.rows region) r
      → IsStepOf r.node.id e.event → IsComplete log script region r
  unfolding log
  helped region colour e r lt lc among help listed of =
      let m = (is.helpers region colour e (in_contains _ _ among) help).complete in
      let o = of_region w region r (in_contains _ _ listed) in
      let ids : node_id w m.row ≡ (w.rows o.0 o.1.number).node.id =
      step_of_one (node_id w m.row) r.node.id e.event m.of of ∙ ap (λ (y : BegunRow). y.node.id) (sym o.1.is) in
      let same = same_number w (held_of w is.reached) m.row.client m.row.number o.0 o.1.number
      (ltb-true _ _ m.begun) o.1.begun ids in
      complete region r o.0 o.1 (subst (IsDone w) (ap (λ (n : ℕ). record { client = n; number = m.row.number }) same.0
      ∙ ap (λ (n : ℕ). record { client = o.0; number = n }) same.1) m.done)

  -- a client that stopped is shown so
  has_stopped : (n : ℕ) → IsStopped script.commands state.replies n → HasStopped (report_of script state) n
  has_stopped n s =
      let lt = all_at (λ (c : Command). c.client < length script.shape.homes) script.commands fits.callers s.command
      s.there in
      let less : n < length script.clients = let e = s.of_client in let f = fits.clients in omega (arith, lt, e, f) in
      let p = numbered-at 0 script.clients n less in
      let number = numbered-get 0 script.clients n p.0 p.1 in
      let same : p.0.0 ≡ n = omega (arith, number) in
      let last : state.replies p.0.0 ≡ s.before ++ s.reply ∷ [] = ap state.replies same ∙ s.last in
      let z : length s.before ≡ length s.before + 0 = omega arith in
      record {
        shown = record { name = p.0.1; replies = state.replies p.0.0 };
        of_client = slice_get-map (λ (q : ℕ × List ℕ). record { name = q.1; replies = state.replies q.0 })
            (enumerate_from 0 script.clients) n
            ∙ ap (option_map (λ (q : ℕ × List ℕ). record { name = q.1; replies = state.replies q.0 })) p.1;
        before = length s.before;
        reply = s.reply;
        last = ap length last ∙ length-append s.before (s.reply ∷ []);
        there = ap (λ (l : List ReplyLine). slice_get l (length s.before)) last
            ∙ slice_last s.before s.reply;
        steps = s.steps;
        stopped = s.stopped;
      }

  left_open : LeavesOpen log script (report_of script state)
  unfolding log
  left_open = record {
    ids = λ region colour lt lc. all_in
        (λ (e : Standing). IsTrue e.settled ⊎ HasStopped (report_of script state) e.key.id.client)
        (entries (w.histories region colour)) (λ e i. by_test _ e.settled (λ t. inl t)
        (λ f. open_id region colour e (open_row w (held_of w is.reached) region colour e i f)));
    rows = λ region lt. all_in (λ (r : BegunRow). r.last ≡ Open → HasStopped (report_of script state) r.row.client)
        (rows_of_region w region) (λ r i undecided. open_in region r (of_region w region r i) undecided);
  } where
    open_id : (region colour : ℕ) (e : Standing) → HasRow w region colour e
        → IsTrue e.settled ⊎ HasStopped (report_of script state) e.key.id.client
    open_id region colour e k = turn (is.finished k.row k.begun) where
      turn : IsStopped script.commands state.replies k.row.client ⊎ IsDone w k.row
          → IsTrue e.settled ⊎ HasStopped (report_of script state) e.key.id.client
      turn (inl s) = inr (subst (HasStopped (report_of script state)) k.client (has_stopped k.row.client s))
      turn (inr d) = absurd (waits_not_done w k.row region colour e.key.stamp k.waits d)

    open_in : (region : ℕ) (r : BegunRow) → (a : ℕ) × OfRegion w region a r → r.last ≡ Open
        → HasStopped (report_of script state) r.row.client
    open_in region r o undecided = turn (is.finished (record { client = o.0; number = o.1.number })
        (lt-ltb _ _ o.1.begun)) where
          turn : IsStopped script.commands state.replies o.0 ⊎ IsDone w (record { client = o.0; number = o.1.number })
              → HasStopped (report_of script state) r.row.client
          turn (inl s) = subst (HasStopped (report_of script state)) (ap (λ (y : BegunRow). y.row.client) o.1.is)
              (has_stopped o.0 s)
          turn (inr d) = absurd (d.decided (ap (λ (y : BegunRow). y.last) o.1.is ∙ undecided))

  lawful : LawfulRun script (report_of script state)
  lawful = record {
    log = log;
    version = refl;
    names = names;
    clients = client;
    columns = columns;
    begun = begun;
    copies = copies;
    helpers = helpers;
    helped = helped;
    left_open = left_open;
  }

-- what the commands of a script lead to is reported as a lawful run
pub runs_are_lawful : ReadsBack → TreesReadBack → RunsAreLawful
runs_are_lawful back tree script fits last state leads = lawful script fits state (runs_all back tree script fits last leads)
