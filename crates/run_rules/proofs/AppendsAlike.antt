-- Appends and stops that stand at one account as they are told stand at one that agrees.
use Rattle.std.proofs.Common.{◌≡◌, ◌∙◌, refl, ap, sym, subst, ℕ, ◌+◌, ◌<◌, ◌≤◌, List, [], ◌∷◌, map, take, length, Option, Some, None, ◌⊎◌, inl, inr, arith}
use Rattle.std.specs.Prelude.{IsTrue, slice_get}
use Rattle.std.specs.List.{All, Contains}
use Rattle.std.proofs.lemmas.List.Elements.{All-contains}
use Rattle.log_node.specs.declared.ids.Id.{Id}
use Rattle.log_node.specs.declared.ids.Counts.{Counts}
use Rattle.log_node.specs.declared.ids.Colours.{Colours}
use Rattle.log_node.specs.declared.node.At.{At}
use Rattle.log_node.specs.declared.node.At.TheVariants.{Event, Look}
use Rattle.log_node.specs.declared.node.Node.{Node}
use Rattle.log_node.specs.declared.marks.Why.{Why}
use Rattle.log_node.specs.declared.marks.Mark.{Mark}
use Rattle.log_node.specs.declared.marks.Mark.TheVariants as marks
use Rattle.log_node.specs.declared.marks.ColourMark.{ColourMark}
use Rattle.log_node.specs.declared.marks.Outcome.{Outcome}
use Rattle.log_node.specs.Sets.{members}
use Rattle.log_node.specs.Standings.{open_entry}
use Rattle.col_core.specs.declared.Event.TheVariants.{Single, Propose}
use Rattle.col_core.specs.declared.Entry.{Entry}
use Rattle.col_core.specs.History.{entries, line, entry_key, has_entered}
use Rattle.col_core.specs.Log.{Log, IsBegunFor, HasMark, HasOutcome}
use Rattle.col_core.specs.Appending.{EntersBehind, IsStepWithin}
use Rattle.col_core.specs.Rows.{BegunRow, FitsRow, node_wants, wants_of}
use Rattle.col_core.specs.Keeping.{Kept, kept_after_single}
use Rattle.col_core.proofs.CallerLemmas.{In, in_contains, contains_in, all_in, in_map-back, slice_in}
use Rattle.script_text.specs.declared.commands.What.{What}
use Rattle.script_text.specs.declared.script.Script.{Script}
use Rattle.script_text.specs.Fitting.{IsFitting, IsWithin}
use Rattle.report_text.specs.declared.report.PointPiece.{PointPiece}
use Rattle.report_text.specs.declared.report.RowReport.{RowReport}
use Rattle.lawful_run.specs.Callers.{Caller, caller_of, node_of}
use Rattle.lawful_run.specs.Columns.{row_report}
use Rattle.lawful_run.specs.Appends.{AppendsOne, BeginsRow, StandsAt, Appends, IsSettledIn}
use Rattle.lawful_run.specs.Stops.{StopsAfter}
use Rattle.lawful_run.specs.Reads.{events_until}
use Rattle.run_rules.specs.Told.{Untold, kept_after_append}
use Rattle.run_rules.specs.Naming.{NamesSteps}
use Rattle.run_rules.specs.Rules.{with_room}
use Rattle.run_rules.specs.Shown.{is_row}
use Rattle.run_rules.specs.Agreeing.{HasColumn, KeepSame, AreNodesAlike}
use Rattle.run_rules.proofs.NodesAlike.{of_command}
use Rattle.run_rules.proofs.OpenAlike.{row_other}

module _ (script : Script) (fits : IsFitting script) (n : ℕ) (log other : Log)
    (histories : (r c : ℕ) → HasColumn script r c → log.histories r c ≡ other.histories r c)
    (home : (caller_of script n).own < script.shape.regions)
    (rows : map (row_report (caller_of script n).own) (log.rows (caller_of script n).own)
    ≡ map (row_report (caller_of script n).own) (other.rows (caller_of script n).own))
    (fit : All (FitsRow (caller_of script n).own) (log.rows (caller_of script n).own))
    (row_nodes : (r : BegunRow) → Contains (log.rows (caller_of script n).own) r → r.row.client ≡ n
    → slice_get (log.nodes n) r.node.id.count ≡ Some r.node)
    (what : What) (within : IsWithin script.shape.regions script.shape.colours what) (a b : Kept)
    (s : KeepSame script a b) where
  abbrev who : Caller
  who = caller_of script n

  module _ (x y : Colours) (t u : List ℕ) (m : members x ≡ members y)
      (below : (c : ℕ) → In c (members x) → c < script.shape.colours)
      (next : slice_get (log.nodes n) a.ids ≡ Some (node_of who a x t)) where
    abbrev pub node : Node
    node = node_of who a x t

    abbrev pub mate : Node
    mate = node_of who b y u

    alike : AreNodesAlike node mate
    alike = of_command script who s x y t u m

    -- the row of the one is told as that of the other
    its_row : (r : BegunRow) → IsBegunFor other mate r
        → (q : BegunRow) × IsBegunFor log node q × (row_report who.own q ≡ row_report who.own r)
    its_row r begun =
        let q = row_other who.own (other.rows who.own) (log.rows who.own) (sym rows) r
        (in_contains (other.rows who.own) r begun.begun) in
        let there = contains_in (log.rows who.own) q.0 q.1 in
        let id : q.0.node.id ≡ node.id =
        ap (λ (k : RowReport). k.id) q.2 ∙ (ap (λ (k : Node). k.id) begun.of_node ∙ sym alike.id) in
        let f = All-contains (FitsRow who.own) (log.rows who.own) q.0 fit there in
        let client : q.0.row.client ≡ n = sym f.client ∙ ap (λ (i : Id). i.client) id in
        let same : Some q.0.node ≡ Some node =
        sym (row_nodes q.0 there client) ∙ (ap (λ (i : Id). slice_get (log.nodes n) i.count) id ∙ next) in
        let is : q.0.node ≡ node = cc (same) in
        (q.0, record { begun = there; of_node = is }, q.2)

    pub mark_same : (colour : ℕ) (mark : Mark) → HasMark other mate colour mark → HasMark log node colour mark
    mark_same colour mark h =
        let q = its_row h.0 h.1 in (
          q.0,
          q.1,
          subst (λ (all : List ColourMark). Contains all (record { colour = colour; mark = mark }))
              (sym (ap (λ (k : RowReport). k.marks) q.2)) h.2,
        )

    pub outcome_same : (outcome : Outcome) → HasOutcome other mate outcome → HasOutcome log node outcome
    outcome_same outcome h =
        let q = its_row h.0 h.1 in (q.0, q.1, ap (λ (k : RowReport). k.last) q.2 ∙ h.2)

    proposed : (colour : ℕ)
        → Propose mate.id mate.floor (node_wants mate colour) ≡ Propose node.id node.floor (node_wants node colour)
    proposed colour =
        let wants : node_wants mate colour ≡ node_wants node colour =
        ap (λ (w : List Counts). wants_of (members y) w colour) (sym alike.wants)
        ∙ ap (λ (cs : List ℕ). wants_of cs node.wants colour) (sym m) in
        ap (λ (i : Id). Propose i mate.floor (node_wants mate colour)) (sym alike.id)
        ∙ (ap (λ (f : ℕ). Propose node.id f (node_wants mate colour)) (sym alike.floor)
        ∙ ap (λ (w : Counts). Propose node.id node.floor w) wants)

    module _ (colour : ℕ) (lt : colour < script.shape.colours) where
      same_history : log.histories who.own colour ≡ other.histories who.own colour
      same_history = histories who.own colour (home, lt)

      same_seen : b.seen who.own colour ≡ a.seen who.own colour
      same_seen = sym (s.seen who.own colour (home, lt))

      stands_same : (stamp position : ℕ)
          → slice_get (line (other.histories who.own colour)) position ≡ Some (entry_key stamp mate.id)
          → slice_get (line (log.histories who.own colour)) position ≡ Some (entry_key stamp node.id)
      stands_same stamp position e =
          ap (λ (h : List Entry). slice_get (line h) position) same_history
          ∙ (e ∙ ap (λ (i : Id). Some (entry_key stamp i)) (sym alike.id))

      enters_same : (at : At)
          → EntersBehind (b.seen who.own colour) (other.histories who.own colour) n mate colour at
          → EntersBehind (a.seen who.own colour) (log.histories who.own colour) n node colour at
      enters_same (Event place) e = (
        subst (λ (k : ℕ). k ≤ place) same_seen e.0,
        e.1,
        ap (λ (h : List Entry). slice_get h place) same_history ∙ e.2,
        e.3,
        e.4 ∙ proposed colour,
      )
      enters_same (Look seen) e = (
        subst (λ (k : ℕ). k ≤ seen) same_seen e.0,
        subst (λ (h : List Entry). seen ≤ length h) (sym same_history) e.1,
        e.2,
        e.3,
        e.4,
        ap (λ (h : List Entry). slice_get h e.2) same_history ∙ e.5,
        e.6,
        e.7 ∙ proposed colour,
      )

      point_same : (stamp : ℕ) (p : PointPiece) → p.colour ≡ colour
          → StandsAt other (with_room who b) b mate stamp p → StandsAt log (with_room who a) a node stamp p
      point_same stamp p is st = record {
        entered = subst (λ (c : ℕ). EntersBehind (a.seen who.own c) (log.histories who.own c) n node c p.at) (sym is)
            (enters_same p.at (subst (λ (c : ℕ). EntersBehind (b.seen who.own c) (other.histories who.own c) n mate c p.at) is
            st.entered));
        stands = subst (λ (c : ℕ). slice_get (line (log.histories who.own c)) p.position ≡ Some (entry_key stamp node.id))
            (sym is) (stands_same stamp p.position (subst (λ (c : ℕ).
            slice_get (line (other.histories who.own c)) p.position ≡ Some (entry_key stamp mate.id)) is st.stands));
        behind = subst (λ (k : ℕ). k ≤ p.position) (sym (s.known p.colour)) st.behind;
      }

      one_same : (stamp place position : ℕ) → AppendsOne other (with_room who b) b mate colour stamp place position
          → AppendsOne log (with_room who a) a node colour stamp place position
      one_same stamp place position o = record {
        next = next;
        entered = ap (λ (h : List Entry). slice_get h place) same_history
            ∙ (o.entered
            ∙ (ap (λ (i : Id). entered_by i b.floor (b.starts colour)) (sym alike.id)
            ∙ (ap (λ (f : ℕ). entered_by node.id f (b.starts colour)) (sym s.floor)
            ∙ ap (λ (w : Counts). entered_by node.id a.floor w) (sym (s.starts colour)))));
        unseen = subst (λ (k : ℕ). k ≤ place) same_seen o.unseen;
        stands = stands_same stamp position o.stands;
        behind = subst (λ (k : ℕ). k ≤ position) (sym (s.known colour)) o.behind;
        above = subst (λ (k : ℕ). k < stamp) (sym s.floor) o.above;
      } where
        entered_by : Id → ℕ → Counts → Option Entry
        entered_by i f w = Some (record { by = n; event = Single i f w; stamp = stamp })

    pub begins_same : (places ours : ℕ → List ℕ) → NamesSteps log who a ours
        → BeginsRow other (with_room who b) b mate places → BeginsRow log (with_room who a) a node ours
    begins_same places ours named g =
        let q = its_row g.row g.begun in record {
          several = subst (λ (cs : List ℕ). 2 ≤ length cs) (sym m) g.several;
          next = next;
          room = omega arith;
          row = q.0;
          begun = q.1;
          steps = λ colour k d lt. let h = named colour k d lt in (h.0, h.1.0, h.1.1, h.1.2, h.1.3);
        }

    pub appends_same : (v w : Untold) (stamp : ℕ) (row : Option ℕ) (points : List PointPiece)
        → (IsTrue (is_row row) → NamesSteps log who a v.places)
        → Appends other (with_room who b) b mate stamp row points (kept_after_append w who b stamp row points)
        → Appends log (with_room who a) a node stamp row points (kept_after_append v who a stamp row points)
    appends_same v w stamp None [] named e = e
    appends_same v w stamp None (p ∷ []) named e =
        let mine = m ∙ e.0 in
        let lt = below p.colour (subst (In p.colour) (sym mine) (inl refl)) in (
          mine,
          e.1,
          e.2,
          one_same p.colour lt stamp e.1 p.position e.3,
          ap (λ (k : ℕ). kept_after_single a who.own p.colour k stamp p.position) (ap events_until e.2),
        )
    appends_same v w stamp None (p ∷ q ∷ ps) named e = e
    appends_same v w stamp (Some number) points named e = (
      e.0 ∙ sym s.rows,
      v.places,
      record {
        begins = begins_same e.1 v.places (named refl) e.2.begins;
        outcome = outcome_same _ e.2.outcome;
        colours = e.2.colours ∙ sym m;
        each = all_in (StandsAt log (with_room who a) a node stamp) points (λ p i.
            point_same p.colour (point_below points e.2.colours p i) stamp p refl
            (All-contains (StandsAt other (with_room who b) b mate stamp) points p e.2.each (contains_in points p i)));
        above = subst (λ (k : ℕ). k < stamp) (sym s.floor) e.2.above;
      },
      refl,
    ) where
      point_below : (ps : List PointPiece) → map (λ (p : PointPiece). p.colour) ps ≡ members mate.colours
          → (p : PointPiece) → In p ps → p.colour < script.shape.colours
      point_below ps is p i =
          below p.colour (subst (In p.colour) (is ∙ sym m) (in_map-back (λ (k : PointPiece). k.colour) ps p i))

    -- STOPS

    pub settled_same : (colour : ℕ) → colour < script.shape.colours → IsSettledIn other (with_room who b) mate colour
        → IsSettledIn log (with_room who a) node colour
    settled_same colour lt e =
        let h = histories who.own colour (home, lt) in (
          e.0,
          subst (λ (k : List Entry). e.0 ≤ length k) (sym h) e.1,
          record {
            not_open = ap (λ (k : List Entry). open_entry node.id (entries (take e.0 k))) h
                ∙ (ap (λ (i : Id). open_entry i (entries (take e.0 (other.histories who.own colour)))) alike.id
                ∙ e.2.not_open);
            for_good = turn h e.2.for_good;
          },
        ) where
          turn : log.histories who.own colour ≡ other.histories who.own colour
              → ((why : Why) × HasMark other mate colour (marks.Fenced why))
              ⊎ IsTrue (has_entered mate.id (take e.0 (other.histories who.own colour)))
              → ((why : Why) × HasMark log node colour (marks.Fenced why))
              ⊎ IsTrue (has_entered node.id (take e.0 (log.histories who.own colour)))
          turn h (inl f) = inl (f.0, mark_same colour (marks.Fenced f.0) f.1)
          turn h (inr f) =
              inr (ap (λ (k : List Entry). has_entered node.id (take e.0 k)) h
              ∙ (ap (λ (i : Id). has_entered i (take e.0 (other.histories who.own colour))) alike.id ∙ f))

    pub after_same : (steps : ℕ) (places ours : ℕ → List ℕ) → NamesSteps log who a ours
        → ((c : ℕ) → c < script.shape.colours → ours c ≡ places c)
        → StopsAfter other (with_room who b) b mate steps places → StopsAfter log (with_room who a) a node steps ours
    after_same steps places ours named same st = record {
      begins = begins_same places ours named st.begins;
      marked = λ k colour there lt. let h = st.marked k colour (its k colour there) lt in
          (h.0, h.1, mark_same colour h.0 h.2);
      decided = λ le. let h = st.decided (subst (λ (cs : List ℕ). length cs + 2 ≤ steps) m le) in
          (h.0, h.1, outcome_same h.0 h.2);
      settled = λ k colour there lt. settled_same colour (low k colour there)
          (st.settled k colour (its k colour there) (subst (λ (cs : List ℕ). k + length cs + 2 < steps) m lt));
      no_later = λ k colour there. later k colour there;
    } where
      its : (k colour : ℕ) → slice_get (members node.colours) k ≡ Some colour → slice_get (members mate.colours) k ≡ Some colour
      its k colour there = ap (λ (cs : List ℕ). slice_get cs k) (sym m) ∙ there

      low : (k colour : ℕ) → slice_get (members node.colours) k ≡ Some colour → colour < script.shape.colours
      low k colour there = below colour (slice_in (members node.colours) k colour there)

      later : (k colour : ℕ) → slice_get (members node.colours) k ≡ Some colour → All (λ place.
          (e : Entry) × (slice_get (log.histories who.own colour) place ≡ Some e)
          × IsStepWithin k (length (members node.colours)) steps e.event) (ours colour)
      later k colour there =
          subst (λ (h : List Entry). All (λ place. (e : Entry) × (slice_get h place ≡ Some e)
          × IsStepWithin k (length (members node.colours)) steps e.event) (ours colour))
          (sym (histories who.own colour (home, low k colour there)))
          (subst (λ (ps : List ℕ). All (λ place. (e : Entry) × (slice_get (other.histories who.own colour) place ≡ Some e)
          × IsStepWithin k (length (members node.colours)) steps e.event) ps) (sym (same colour (low k colour there)))
          (subst (λ (cs : List ℕ). All (λ place. (e : Entry) × (slice_get (other.histories who.own colour) place ≡ Some e)
          × IsStepWithin k (length cs) steps e.event) (places colour)) (sym m)
          (st.no_later k colour (its k colour there))))
