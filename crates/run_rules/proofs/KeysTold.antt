-- The key of a node in a line stands above the node's floor, where nodes are of commands and moves name their events.
use Rattle.std.proofs.Common.{◌≡◌, ◌∙◌, refl, ap, sym, subst, true, ℕ, zero, suc, ◌+◌, ◌<◌, List, [], ◌∷◌, length, take, drop, take-append-drop, Option, Some, None, ◌⊎◌, inl, inr, arith, get_or}
use Rattle.std.specs.Prelude.{◌==◌, ◌&&◌, slice_get}
use Rattle.std.specs.List.{All}
use Rattle.std.proofs.lemmas.Bool.{and_from, eq-eqb}
use Rattle.std.proofs.lemmas.List.Elements.{All-contains, All-head, All-tail}
use Rattle.log_node.specs.declared.ids.Counts.{Counts}
use Rattle.log_node.specs.declared.ids.Id.{Id}
use Rattle.log_node.specs.declared.ids.Key.{Key}
use Rattle.log_node.specs.declared.node.At.{At}
use Rattle.log_node.specs.declared.node.At.TheVariants.{Event, Look}
use Rattle.log_node.specs.declared.node.Node.{Node}
use Rattle.log_node.specs.Seen.{PlacedNode}
use Rattle.col_core.specs.declared.Event as events
use Rattle.col_core.specs.declared.Event.TheVariants.{Single, Propose}
use Rattle.col_core.specs.declared.Entry.{Entry}
use Rattle.col_core.specs.Computed.{dated}
use Rattle.col_core.specs.History.{line}
use Rattle.col_core.specs.Legal.{IsColumnHistory}
use Rattle.col_core.specs.Log.{Log, is_own, places_from, places_of}
use Rattle.col_core.specs.Rows.{BegunRow, FitsRow, FitsRows}
use Rattle.col_core.specs.Keeping.{Kept, nothing_kept}
use Rattle.col_core.proofs.CallerLemmas.{In, choice, contains_in, if_true, in_append, in_slice, in_take, lawful_beginning, slice_in}
use Rattle.script_text.specs.declared.commands.What.{What}
use Rattle.script_text.specs.declared.commands.What.TheVariants as whats
use Rattle.script_text.specs.declared.script.Script.{Script}
use Rattle.script_text.specs.Fitting.{IsFitting}
use Rattle.report_text.specs.declared.report.Answer.{Answer}
use Rattle.report_text.specs.declared.report.Answer.TheVariants as answers
use Rattle.report_text.specs.declared.report.Ended.{Ended}
use Rattle.report_text.specs.declared.report.Ended.TheVariants as ends
use Rattle.report_text.specs.declared.report.ClientReport.{ClientReport}
use Rattle.report_text.specs.declared.report.PointPiece.{PointPiece}
use Rattle.report_text.specs.declared.report.RaisePiece.{RaisePiece}
use Rattle.report_text.specs.declared.report.Report.{Report}
use Rattle.lawful_run.specs.Callers.{Caller, caller_of, node_of}
use Rattle.lawful_run.specs.Columns.{IsClientIn}
use Rattle.lawful_run.specs.Reads.{events_until, kept_after_place, kept_after_piece}
use Rattle.run_rules.specs.Told.{Untold, Step, Account, IsTold, OfEachStep, kept_at, kept_after_append, kept_deciding, stamp_told}
use Rattle.run_rules.specs.Printed.{only_at, printed, printed_append, printed_at, printed_end, printed_raises}
use Rattle.run_rules.specs.Naming.{GivesTo, CarriesOf, IsRaise, IsTrim, NamesPlace, NamesRaises, Names}
use Rattle.run_rules.specs.Rules.{EntersAsNode, HasNode, IsLawfulColumn, Rule1, Rule2, Rule3, Rule4, Rule5, UsesEnd, UsesNode}
use Rattle.run_rules.specs.Shown.{Rule9, Shows}
use Rattle.run_rules.specs.Agreeing.{HasColumn}
use Rattle.run_rules.proofs.Growing.{follow_grows}
use Rattle.run_rules.proofs.LeftOut.{IsLeftOut, Obeys, StandsLeftOut, in_only, parts_in, printed_by, same_entry}
use Rattle.run_rules.proofs.MarksWithin.{shown_client}
use Rattle.run_rules.proofs.NodesAlike.{Uses}
use Rattle.run_rules.proofs.OneAccount.{column_there, history_is, obeys}
use Rattle.run_rules.proofs.EntersBelow.{EntersBelow, key_enters}

-- an own event is among the places of its client
place_there : (from client : ℕ) (h : List Entry) (n : ℕ) (e : Entry) → slice_get h n ≡ Some e → e.by ≡ client
    → is_own client e.event ≡ true → In (from + n) (places_from from client h)
place_there from client [] n e there by own = absurd (let f : ⊥ = cc (there) in f)
place_there from client (d ∷ ds) zero e there by own =
    let same : d ≡ e = cc (there) in
    let t : ((d.by == client) && is_own client d.event) ≡ true =
    subst (λ (x : Entry). ((x.by == client) && is_own client x.event) ≡ true) (sym same)
    (and_from (e.by == client) (is_own client e.event) (eq-eqb e.by client by) own) in
    subst (In (from + 0)) (sym (if_true ((d.by == client) && is_own client d.event) (from ∷ places_from (from + 1) client ds)
    (places_from (from + 1) client ds) t)) (inl (omega arith))
place_there from client (d ∷ ds) (suc n) e there by own =
    let more = place_there (from + 1) client ds n e there by own in
    let is : from + 1 + n ≡ from + suc n = omega arith in
    choice (In (from + suc n)) ((d.by == client) && is_own client d.event) (from ∷ places_from (from + 1) client ds)
    (places_from (from + 1) client ds)
    (λ t. inr (subst (λ (k : ℕ). In k (places_from (from + 1) client ds)) is more))
    (λ f. subst (λ (k : ℕ). In k (places_from (from + 1) client ds)) is more)

-- MOVES

-- a pull's give and a trim are events, and no looks
abbrev pub NamesMoves : Answer → Type 0
NamesMoves (answers.Pulled count give carry) = (place : ℕ) × (give ≡ Event place)
NamesMoves (answers.Based at base) = (place : ℕ) × (at ≡ Event place)
NamesMoves _ = Unit {0}

abbrev pub MovesNamed : Script → Report → Account → Type 0
MovesNamed script report a = OfEachStep script report a (λ caller step. NamesMoves step.reply.answer)

-- rule 9 says so
pub shows_moves : (log : Log) (untold : Untold) (caller : Caller) (kept : Kept) (what : What) (nodes : List PlacedNode) (answer : Answer)
    → Shows log untold caller kept what nodes answer → NamesMoves answer
shows_moves log untold caller kept what nodes (answers.Pulled count give carry) s = (s.3, s.4)
shows_moves log untold caller kept what nodes (answers.Based at base) s = (s.2, s.3)
shows_moves log untold caller kept what nodes _ s = tt

pub moves_named : (script : Script) (report : Report) (a : Account) → Rule9 script report a → MovesNamed script report a
moves_named script report a ninth n c there k d lt =
    let s = get_or (a.steps n) k d in
    shows_moves a.log s.untold (caller_of script n) (kept_at s) s.command.what s.reply.nodes s.reply.answer
    (ninth.shows n c there k d lt)

-- SINGLES

-- an event enters an id by itself, at a place
module _ (log : Log) (caller : Caller) (id : Id) (floor : ℕ) (wants : Counts) (r c p : ℕ) (e : Entry)
    (there : slice_get (log.histories r c) p ≡ Some e) (is : e.event ≡ Single id floor wants) where
  -- the client has a node of this id with this floor
  abbrev pub HasFloor : Type 0
  HasFloor =
      (node : Node) × (slice_get (log.nodes caller.client) id.count ≡ Some node) × (node.id ≡ id) × (node.floor ≡ floor)
      × (id.client ≡ caller.client)

  -- at such a place stands none
  place_none : (kept : Kept) (region colour : ℕ) (IsSuch : events.Event → Type 0) → (IsSuch (Single id floor wants) → ⊥)
      → (given : At) → NamesPlace log caller kept region colour IsSuch given → In p (printed_at region colour given r c) → ⊥
  place_none kept region colour IsSuch none (Event place) n i =
      let x = in_only region colour (place ∷ []) r c p i in
      let h = n.1 in
      let at : place ≡ p = elim x.2 [ inl s ↦ s | inr f ↦ absurd f ] in
      let same = same_entry (log.histories r c) p h.0 e
      (ap (λ (k : ℕ). slice_get (log.histories k c) p) x.0
      ∙ (ap (λ (k : ℕ). slice_get (log.histories region k) p) x.1
      ∙ (ap (slice_get (log.histories region colour)) (sym at) ∙ h.1))) there in
      none (subst IsSuch is (subst (λ (d : Entry). IsSuch d.event) same h.3))
  place_none kept region colour IsSuch none (Look events) n i = i

  raises_none : (kept : Kept) (raises : List RaisePiece) → NamesRaises log caller kept raises
      → In p (printed_raises caller.own raises r c) → ⊥
  raises_none kept [] n i = i
  raises_none kept (x ∷ xs) n i =
      turn (in_append p (printed_at caller.own x.colour x.at r c) (printed_raises caller.own xs r c) i)
      (raises_none (kept_after_place kept caller.own x.colour x.at) xs n.2) where
        turn : In p (printed_at caller.own x.colour x.at r c) ⊎ In p (printed_raises caller.own xs r c)
            → (In p (printed_raises caller.own xs r c) → ⊥) → ⊥
        turn (inl j) more = place_none kept caller.own x.colour IsRaise (λ f. f) x.at n.0 j
        turn (inr j) more = more j

  append_floor : (kept : Kept) (what : What) (row : Option ℕ) (points : List PointPiece) → HasNode log caller kept what
      → EntersAsNode log caller kept row points → In p (printed_append caller.own row points r c) → HasFloor
  append_floor kept what None [] h n i = absurd i
  append_floor kept what None (point ∷ points) h n i =
      let x = in_only caller.own point.colour (events_until point.at ∷ []) r c p i in
      let at : events_until point.at ≡ p = elim x.2 [ inl s ↦ s | inr f ↦ absurd f ] in
      let entry = n e (ap (λ (k : ℕ). slice_get (log.histories caller.own point.colour) k) at
      ∙ (ap (λ (k : ℕ). slice_get (log.histories k point.colour) p) (sym x.0)
      ∙ (ap (λ (k : ℕ). slice_get (log.histories r k) p) (sym x.1) ∙ there))) in
      let one : Single id floor wants ≡ Single (record { client = caller.client; count = kept.ids }) kept.floor (kept.starts point.colour) =
      sym is ∙ entry in
      let its_id : id ≡ record { client = caller.client; count = kept.ids } = cc (one) in
      let its_floor : floor ≡ kept.floor = cc (one) in (
        node_of caller kept h.0 h.1,
        ap (λ (k : Id). slice_get (log.nodes caller.client) k.count) its_id ∙ h.3,
        sym its_id,
        sym its_floor,
        ap (λ (k : Id). k.client) its_id,
      )
  append_floor kept what (Some number) points h n i = absurd i

  -- one that an answer prints is that of its command's node
  step_floor : (untold : Untold) (kept : Kept) (what : What) (answer : Answer)
      → Names log untold caller kept what answer → UsesNode log caller kept what answer
      → NamesMoves answer → In p (printed caller.own answer what r c) → HasFloor
  step_floor untold kept what (answers.Stood stamp row points) n u s i =
      append_floor kept what row points u.0 u.1 i
  step_floor untold kept what (answers.Scanned stamp count raises syncs) n u s i = absurd (raises_none kept raises n.0 i)
  step_floor untold kept what (answers.Pulled count give carry) n u s i =
      absurd (turn (in_append p (only_at n.0 n.1 (events_until give ∷ []) r c) (printed_at caller.own n.1 carry r c)
      (subst (λ (w : What). In p (printed caller.own (answers.Pulled count give carry) w r c)) n.2 i))) where
        turn : In p (only_at n.0 n.1 (events_until give ∷ []) r c) ⊎ In p (printed_at caller.own n.1 carry r c) → ⊥
        turn (inl j) =
            place_none kept n.0 n.1 (GivesTo caller.own) (λ f. f) (Event s.0)
            (subst (NamesPlace log caller kept n.0 n.1 (GivesTo caller.own)) s.1 n.3.1)
            (subst (λ (g : At). In p (only_at n.0 n.1 (events_until g ∷ []) r c)) s.1 j)
        turn (inr j) = place_none kept caller.own n.1 (CarriesOf n.0) (λ f. f) carry n.3.2 j
  step_floor untold kept what (answers.Based given base) n u s i =
      absurd (place_none kept caller.own n.0 IsTrim (λ f. f) (Event s.0)
      (subst (NamesPlace log caller kept caller.own n.0 IsTrim) s.1 n.2)
      (subst (λ (g : At). In p (only_at caller.own n.0 (events_until g ∷ []) r c)) s.1
      (subst (λ (w : What). In p (printed caller.own (answers.Based given base) w r c)) n.1 i)))
  step_floor untold kept what (answers.GotKeys stamp shown raises syncs) n u s i = absurd (raises_none kept raises n.0 i)
  step_floor untold kept what (answers.Ruled conflict stamp row points read_stamp raises syncs) n u s i =
      turn (in_append p (printed_append caller.own row points r c) (printed_raises caller.own raises r c) i) where
        turn : In p (printed_append caller.own row points r c) ⊎ In p (printed_raises caller.own raises r c) → HasFloor
        turn (inl j) = append_floor kept what row points u.0 u.1 j
        turn (inr j) = absurd (raises_none
            (kept_after_append untold caller kept (stamp_told log caller kept row points) row points) raises n.1.0 j)
  step_floor untold kept what (answers.Changed failed stamp row points read_stamp raises syncs) n u s i =
      turn (in_append p (printed_append caller.own row points r c) (printed_raises caller.own raises r c) i) where
        turn : In p (printed_append caller.own row points r c) ⊎ In p (printed_raises caller.own raises r c) → HasFloor
        turn (inl j) = append_floor kept what row points u.0 u.1 j
        turn (inr j) = absurd (raises_none
            (kept_after_append untold caller kept (stamp_told log caller kept row points) row points) raises n.1.0 j)
  step_floor untold kept what (answers.Listed names stamp raises syncs) n u s i = absurd (raises_none kept raises n.0 i)
  step_floor untold kept what (answers.Decided commits stamp sync read_stamp raises syncs ended) n u s i =
      turn (in_append p (printed_raises caller.own raises r c) (printed_end caller.own ended r c) i) where
        end : (x : Ended) → UsesEnd log caller (kept_deciding log caller kept sync read_stamp raises syncs) what x
            → In p (printed_end caller.own x r c) → HasFloor
        end (ends.Stood own point) v j =
            append_floor (kept_deciding log caller kept sync read_stamp raises syncs) what None (point ∷ []) v.0 v.1 j
        end _ v j = absurd j

        turn : In p (printed_raises caller.own raises r c) ⊎ In p (printed_end caller.own ended r c) → HasFloor
        turn (inl j) = absurd (raises_none (kept_after_piece log caller kept sync) raises n.1.0 j)
        turn (inr j) = end ended u j
  step_floor untold kept what (answers.Took value point sync) n u s i =
      append_floor kept what None (point ∷ []) u.0 u.1 i
  step_floor untold kept what _ n u s i = absurd i

  -- and so is one that steps print
  abbrev NamesAt : Step → Type 0
  NamesAt s = NamesMoves s.reply.answer

  steps_floor : (script : Script) (xs : List Step) → All (Obeys script log caller) xs → All (Uses log caller) xs
      → All NamesAt xs → In p (printed_by caller xs r c) → HasFloor
  steps_floor script [] o u s i = absurd i
  steps_floor script (x ∷ xs) o u s i =
      turn (in_append p (printed caller.own x.reply.answer x.command.what r c) (printed_by caller xs r c) i)
      (steps_floor script xs (All-tail (Obeys script log caller) x xs o) (All-tail (Uses log caller) x xs u)
      (All-tail NamesAt x xs s)) where
        turn : In p (printed caller.own x.reply.answer x.command.what r c) ⊎ In p (printed_by caller xs r c)
            → (In p (printed_by caller xs r c) → HasFloor) → HasFloor
        turn (inl j) more =
            step_floor x.untold (kept_at x) x.command.what x.reply.answer
            (All-head (Obeys script log caller) x xs o).names (All-head (Uses log caller) x xs u) (All-head NamesAt x xs s) j
        turn (inr j) more = more j

-- KEYS

module _ (script : Script) (report : Report) (a : Account) (fits : IsFitting script) (told : IsTold script report a)
    (first : Rule1 script report a) (second : Rule2 script report) (third : Rule3 script a) (fourth : Rule4 script report a)
    (fifth : Rule5 script report a) (moves : MovesNamed script report a) where
  -- the journal of a column is lawful, and made by clients
  pub column_of : (r c : ℕ) → HasColumn script r c
      → IsColumnHistory r script.shape.regions (dated r (a.log.histories r c))
      × All (λ (e : Entry). e.by < length script.clients) (a.log.histories r c)
  column_of r c has =
      let k = column_there script report first.columns r c has in
      let l = All-contains (IsLawfulColumn script) report.columns k.0 second.each (contains_in report.columns k.0 k.1) in
      let is = history_is script report a told k.0 k.1 r c k.2 k.3 in (
        subst (λ (h : List Entry). IsColumnHistory r script.shape.regions (dated r h)) is
            (subst (λ (n : ℕ). IsColumnHistory n script.shape.regions (dated n k.0.journal)) k.2 l.legal),
        subst (All (λ (e : Entry). e.by < length script.clients)) is l.makers,
      )

  -- a shown client has the node of the id, with a floor below the stamp
  pub record IsAbove (key : Key) : Type 0 where
    pub client : ClientReport
    pub shown : slice_get report.clients key.id.client ≡ Some client
    pub node : Node
    pub there : slice_get (a.log.nodes key.id.client) key.id.count ≡ Some node
    pub its_id : node.id ≡ key.id
    pub below : node.floor < key.stamp

  module _ (r c : ℕ) (has : HasColumn script r c) (key : Key) where
    single_above : (e : Entry) → In e (a.log.histories r c) → (floor : ℕ) (wants : Counts)
        → e.event ≡ Single key.id floor wants → floor < key.stamp → IsAbove key
    single_above e i floor wants is lt =
        let n = e.by in
        let at = in_slice (a.log.histories r c) e i in
        let low = All-contains (λ (x : Entry). x.by < length script.clients) (a.log.histories r c) e (column_of r c has).1
        (contains_in (a.log.histories r c) e i) in
        let long = fits.clients in
        let shown = shown_client script report fits first.names n (omega (arith, low, long)) in
        let caller = caller_of script n in
        let own : is_own n e.event ≡ true = ap (is_own n) is in
        let among = place_there 0 n (a.log.histories r c) at.0 e at.1 refl own in
        let place : In at.0 (places_of n (a.log.histories r c)) =
        subst (λ (k : ℕ). In k (places_of n (a.log.histories r c))) (omega arith) among in
        let made = fourth.made n shown.0 shown.1 r c has.0 has.1
        ∙ follow_grows a.log caller nothing_kept (a.steps n) (a.last n) (told.clients n shown.0 shown.1).follow r c in
        let obeying = obeys script fits report a told first fourth n shown.0 shown.1 in
        let part = parts_in script a.log caller (a.steps n) obeying nothing_kept (a.last n)
        (told.clients n shown.0 shown.1).follow r c at.0 (subst (In at.0) made place) in
        of_floor n shown.0 shown.1 (turn n at.0 at.1 obeying shown.0 shown.1 part) where
          turn : (n p : ℕ) → slice_get (a.log.histories r c) p ≡ Some e
              → All (Obeys script a.log (caller_of script n)) (a.steps n) → (d : ClientReport)
              → slice_get report.clients n ≡ Some d
              → In p (printed_by (caller_of script n) (a.steps n) r c)
              ⊎ StandsLeftOut a.log (caller_of script n) nothing_kept.ids r c p
              → (node : Node) × (slice_get (a.log.nodes n) key.id.count ≡ Some node) × (node.id ≡ key.id)
              × (node.floor ≡ floor) × (key.id.client ≡ n)
          turn n p there obeying d shown (inl j) =
              steps_floor a.log (caller_of script n) key.id floor wants r c p e there is script (a.steps n) obeying
              (fifth.used n d shown) (moves n d shown) j
          turn n p there obeying d shown (inr s) =
              absurd (none s.2) where
                same : s.0 ≡ e
                same = same_entry (a.log.histories r c) p s.0 e s.1 there

                event : s.0.event ≡ Single key.id floor wants
                event = ap (λ (x : Entry). x.event) same ∙ is

                none : IsLeftOut n (caller_of script n).own 0 s.0.event → ⊥
                none l = elim (subst (IsLeftOut n (caller_of script n).own 0) event l) [ inl x ↦ x.2 | inr g ↦ g ]

          of_floor : (n : ℕ) (d : ClientReport) → slice_get report.clients n ≡ Some d
              → (node : Node) × (slice_get (a.log.nodes n) key.id.count ≡ Some node) × (node.id ≡ key.id)
              × (node.floor ≡ floor) × (key.id.client ≡ n) → IsAbove key
          of_floor n d shown f = record {
            client = d;
            shown = ap (slice_get report.clients) f.4 ∙ shown;
            node = f.0;
            there = ap (λ (k : ℕ). slice_get (a.log.nodes k) key.id.count) f.4 ∙ f.1;
            its_id = f.2;
            below = let e = f.3 in omega (arith, e, lt);
          }

    row_above : (e : Entry) → In e (a.log.histories r c) → (floor : ℕ) (wants : Counts)
        → e.event ≡ Propose key.id floor wants → floor < key.stamp → IsAbove key
    row_above e i floor wants is lt =
        let l = third.lawful r has.0 in
        let f = subst (FitsRows (a.log.rows r) c) is
        (All-contains (λ (x : Entry). FitsRows (a.log.rows r) c x.event) (a.log.histories r c) e (l.events c has.1)
        (contains_in (a.log.histories r c) e i)) in
        let row = f.1 in
        let among = slice_in (a.log.rows r) f.0 row f.2 in
        let fit = All-contains (FitsRow r) (a.log.rows r) row l.fit (contains_in (a.log.rows r) row among) in
        let in_region = All-contains (λ (x : BegunRow). IsClientIn script r x.row.client) (a.log.rows r) row
        (third.of_clients r has.0) (contains_in (a.log.rows r) row among) in
        let n = row.row.client in
        let shown = shown_client script report fits first.names n in_region.0 in
        let own : In row (a.log.rows (caller_of script n).own) =
        subst (λ (k : ℕ). In row (a.log.rows k)) (sym in_region.1) among in
        let node = (fifth.own n shown.0 shown.1).row_nodes row (contains_in (a.log.rows (caller_of script n).own) row own) refl in
        let client : key.id.client ≡ n = ap (λ (k : Id). k.client) (sym f.3) ∙ fit.client in record {
          client = shown.0;
          shown = ap (slice_get report.clients) client ∙ shown.1;
          node = row.node;
          there = ap (λ (k : ℕ). slice_get (a.log.nodes k) key.id.count) client
              ∙ (ap (λ (k : Id). slice_get (a.log.nodes n) k.count) (sym f.3) ∙ node);
          its_id = f.3;
          below = let e = f.5 in omega (arith, e, lt);
        }

    entered_above : (h : List Entry) → ((e : Entry) → In e h → In e (a.log.histories r c)) → EntersBelow h key.id key.stamp
        → IsAbove key
    entered_above h more b = turn b.is where
      turn : (b.entry.event ≡ Single key.id b.floor b.wants) ⊎ (b.entry.event ≡ Propose key.id b.floor b.wants) → IsAbove key
      turn (inl is) = single_above b.entry (more b.entry b.among) b.floor b.wants is b.below
      turn (inr is) = row_above b.entry (more b.entry b.among) b.floor b.wants is b.below

    -- a key in the line after some events
    pub key_above : (n : ℕ) → In key (line (take n (a.log.histories r c))) → IsAbove key
    key_above n i =
        let h = a.log.histories r c in
        let legal : IsColumnHistory r script.shape.regions (dated r (take n h)) =
        lawful_beginning r script.shape.regions (take n h) (drop n h)
        (subst (λ (l : List Entry). IsColumnHistory r script.shape.regions (dated r l)) (sym (take-append-drop n h))
        (column_of r c has).0) in
        entered_above (take n h) (λ e j. in_take n h e j) (key_enters r script.shape.regions (take n h) legal key i)
