-- Which rules a report keeps of two clients of one region with two columns in which nothing happened, and one row that the first
-- of them began; and reports that break the seventh or the eighth.
use Rattle.std.proofs.Common.{◌≡◌, ◌∙◌, ◌⊎◌, ℕ, zero, suc, ◌+◌, ◌<◌, ◌≤◌, List, [], ◌∷◌, length, map, Some, inl, inr, refl, ap, sym, subst, arith, codes, cond}
use Rattle.std.specs.Prelude.{◌≢◌, ◌==◌, ◌&&◌, slice_get}
use Rattle.std.specs.List.{All, AllPairs, Contains, filter, flat_map, range_with_len}
use Rattle.std.specs.List.Sorted.{IsNonDecreasing}
use Rattle.std.proofs.lemmas.List.Elements.{All-nil, All-contains}
use Rattle.log_node.specs.declared.node.Node.{Node}
use Rattle.log_node.specs.declared.marks.Mark.{Mark}
use Rattle.log_node.specs.declared.marks.Mark.TheVariants as marks
use Rattle.log_node.specs.declared.marks.ColourMark.{ColourMark}
use Rattle.log_node.specs.declared.marks.Outcome.TheVariants.{Open}
use Rattle.log_node.specs.declared.ids.Colours.{Colours}
use Rattle.log_node.specs.Sets.{members}
use Rattle.col_core.specs.declared.Entry.{Entry}
use Rattle.col_core.specs.Computed.{dated}
use Rattle.col_core.specs.Appending.{IsMarked, IsStepWithin}
use Rattle.col_core.specs.Ids.{Proposes, IsStepOf}
use Rattle.col_core.specs.Log.{Log, places_of}
use Rattle.col_core.specs.Rows.{BegunRow, AreLawfulRows, FitsRow, FitsRows, FitsMarks, IsMarkOf, is_of}
use Rattle.col_core.specs.Keeping.{Kept, nothing_kept}
use Rattle.col_core.proofs.CallerLemmas.{In, choice, contains_in, cut-is_greatest, in_contains, in_flat_map, in_flat_map-back, in_map, in_map-back, range_has}
use Rattle.script_text.specs.declared.script.Command.{Command}
use Rattle.script_text.specs.declared.script.Script.{Script}
use Rattle.script_text.specs.declared.commands.What.TheVariants as whats
use Rattle.script_text.specs.declared.commands.Word.TheVariants as words
use Rattle.report_text.specs.declared.report.Answer.TheVariants as answers
use Rattle.report_text.specs.declared.report.ClientReport.{ClientReport}
use Rattle.report_text.specs.declared.report.ColumnReport.{ColumnReport}
use Rattle.report_text.specs.declared.report.ReplyLine.{ReplyLine}
use Rattle.report_text.specs.declared.report.Report.{Report}
use Rattle.report_text.specs.declared.report.RowReport.{RowReport}
use Rattle.lawful_run.specs.Callers.{Caller, caller_of, commands_of, node_of}
use Rattle.lawful_run.specs.Columns.{IsClientIn, row_report}
use Rattle.lawful_run.specs.Lawful.{HasStopped}
use Rattle.lawful_run.specs.Stops.{Stops, stopped_at_once, stopped_after}
use Rattle.run_rules.specs.Told.{Account, Step, IsTold, OfEachStep, kept_at, kept_past, kept_after_stop}
use Rattle.run_rules.specs.Telling.{account_of, journal_among, places_shown, row_of, step_of, step_places}
use Rattle.run_rules.specs.Naming.{Names, NamesSteps, Has}
use Rattle.run_rules.specs.Rules.{with_room, Rule1, Rule2, Rule3, Rule4, Rule5, Rule6, IsReplyTo, IsNamed, IsLawfulColumn, UsesNode, HasOwnNodes, Stands, StopsAsTold}
use Rattle.run_rules.specs.Keeping.{Keeps, one, two, three, four, five, six, seven}
use Rattle.run_rules.proofs.CallerLemmas.{reports_tell, rule7, rule8}
use Rattle.wrong_reports.specs.Cases.{Case, a, e, x, y, id, on_both, counts, together, shows, to_both, asks, replies, look, empty}
use Rattle.wrong_reports.specs.Rows.{row}
use Rattle.wrong_reports.specs.Helping.{a_stop_before_its_steps, a_row_left_open}
use Rattle.least_rules.specs.Breaking.{Breaks}
use Rattle.least_rules.proofs.Lists.{some_same}
use Rattle.least_rules.proofs.Tools.{client_tells, breaks_next}
use Rattle.least_rules.proofs.Alone.{one_of, two_of}

-- row e a.0 a.0 x=- y=- open
abbrev shown_row : RowReport
shown_row = row e a 0 (id a 0) marks.None marks.None Open

abbrev columns : List ColumnReport
columns = empty e x ∷ empty e y ∷ []

-- the node that the first client appends first
abbrev its_node : Node
its_node = record {
  id = id a 0;
  region = 0;
  colours = on_both;
  text = codes "s";
  floor = 0;
  wants = counts 0 0 ∷ counts 0 0 ∷ [];
  row = Some (record { client = 0; number = 0 });
}

abbrev its_nodes : ℕ → List Node
its_nodes zero = its_node ∷ []
its_nodes (suc n) = []

abbrev its_row : BegunRow
its_row = row_of (journal_among columns) its_nodes shown_row

-- nothing happened in any column
no_history : (region colour : ℕ) → journal_among columns region colour ≡ []
no_history region colour =
    choice (λ (l : List Entry). l ≡ []) ((0 == region) && (0 == colour)) []
    (cond ((0 == region) && (1 == colour)) [] []) (λ t. refl)
    (λ f. choice (λ (l : List Entry). l ≡ []) ((0 == region) && (1 == colour)) [] [] (λ t. refl) (λ f. refl))

module _ (commands : List Command) (lines : List ReplyLine) where
  abbrev s : Script
  s = together commands

  abbrev r : Report
  r = shows (to_both lines []) (shown_row ∷ []) columns

  abbrev its : Account
  its = account_of s r its_nodes

  nothing_in : (P : Entry → Type 0) (region colour : ℕ) → All P (its.log.histories region colour)
  nothing_in P region colour = subst (All P) (sym (no_history region colour)) (All-nil P)

  never_in : (region colour : ℕ) (z : Entry) → Contains (its.log.histories region colour) z → ⊥
  never_in region colour z among =
      let c : Contains [] z = subst (λ (es : List Entry). Contains es z) (no_history region colour) among in
      let l = c.1 in let f : ⊥ = omega (arith, l) in f

  its_told : length (commands_of s 0) ≡ length lines → commands_of s 1 ≡ [] → IsTold s r its
  its_told long none = reports_tell s r its_nodes (record { replied = replied; apart = apart; rows = refl }) where
    replied : (n : ℕ) (c : ClientReport) → slice_get r.clients n ≡ Some c → length (commands_of s n) ≡ length c.replies
    replied zero c there = long ∙ ap (λ (z : ClientReport). length z.replies) (some_same _ c there)
    replied (suc zero) c there = ap length none ∙ ap (λ (z : ClientReport). length z.replies) (some_same _ c there)
    replied (suc (suc n)) c there = absurd (let f : ⊥ = cc (there) in f)

    apart : AllPairs (λ (c d : ColumnReport). c.region ≡ d.region → c.colour ≢ d.colour) columns
    apart zero zero d lt within = absurd (let f : ⊥ = omega (arith, lt) in f)
    apart zero (suc zero) d lt within = λ same other. let f : ◌≡◌ {A = ℕ} 0 1 = other in omega (arith, f)
    apart zero (suc (suc j)) d lt within = absurd (let f : ⊥ = omega (arith, within) in f)
    apart (suc i) zero d lt within = absurd (let f : ⊥ = omega (arith, lt) in f)
    apart (suc i) (suc j) d lt within = absurd (let f : ⊥ = omega (arith, lt, within) in f)

  of_steps : (P : Caller → Step → Type 0) → All (P (caller_of s 0)) (its.steps 0) → its.steps 1 ≡ []
      → OfEachStep s r its P
  of_steps P all none zero c there = all
  of_steps P all none (suc zero) c there =
      subst (All (P (caller_of s 1))) (sym none) (All-nil (P (caller_of s 1)))
  of_steps P all none (suc (suc n)) c there = absurd (let f : ⊥ = cc (there) in f)

  rule1_of : All (IsReplyTo (caller_of s 0)) (its.steps 0) → its.steps 1 ≡ [] → Rule1 s r its
  rule1_of all none = record {
    version = refl;
    names = refl;
    replies = of_steps IsReplyTo all none;
    columns = refl;
    named = two_of (IsNamed s) (empty e x) (empty e y) (record { region = refl; colour = refl })
        (record { region = refl; colour = refl });
    by_client = by_client;
  } where
    by_client : (region : ℕ) → region < 1
        → IsNonDecreasing (map (λ (z : BegunRow). z.row.client) (its.log.rows region))
    by_client zero lt zero zero d le within = omega arith
    by_client zero lt zero (suc j) d le within = absurd (let f : ⊥ = omega (arith, within) in f)
    by_client zero lt (suc i) j d le within = absurd (let f : ⊥ = omega (arith, le, within) in f)
    by_client (suc region) lt i j d le within = absurd (let f : ⊥ = omega (arith, lt) in f)

  rule2_of : Rule2 s r
  rule2_of = record { each = two_of (IsLawfulColumn s) (empty e x) (empty e y) nothing nothing } where
    nothing : {c : ℕ} → IsLawfulColumn s (empty e c)
    nothing {c} = record {
      legal = λ n d there. absurd (let f : ⊥ = cc (there) in f);
      makers = All-nil (λ (z : Entry). z.by < 2);
      closing = record {
        clock_shown = refl;
        line_shown = refl;
        queue_shown = refl;
        cut_shown = cut-is_greatest 0 (dated 0 []);
        base_shown = refl;
      };
    }

  no_proposal : (colour : ℕ) (stamp : ℕ) → Proposes (its.log.histories 0 colour) (id a 0) stamp → ⊥
  no_proposal colour stamp p =
      let g = ap (λ (es : List Entry). slice_get es p.0) (sym (no_history 0 colour)) ∙ p.4 in
      let f : ⊥ = cc (g) in f

  rule3_of : Rule3 s its
  rule3_of = record {
    of_clients = of_clients;
    lawful = lawful;
    marked = marked;
    copies = λ colour less origin copier c d apart. absurd (apart (let f : origin ≡ copier = omega (arith, c, d) in f));
  } where
    of_clients : (region : ℕ) → region < 1 → All (λ (z : BegunRow). IsClientIn s region z.row.client) (its.log.rows region)
    of_clients zero lt = one_of (λ (z : BegunRow). IsClientIn s 0 z.row.client) its_row (omega arith, refl)
    of_clients (suc region) lt = absurd (let f : ⊥ = omega (arith, lt) in f)

    in_order : (client : ℕ) → map (λ (z : BegunRow). z.row.number) (filter (is_of client) (its_row ∷ []))
        ≡ range_with_len 0 (length (filter (is_of client) (its_row ∷ [])))
    in_order client = choice (λ (l : List BegunRow). map (λ (z : BegunRow). z.row.number) l ≡ range_with_len 0 (length l))
        (is_of client its_row) (its_row ∷ []) [] (λ t. refl) (λ f. refl)

    lawful : (region : ℕ) → region < 1 → AreLawfulRows region 2 (its.log.histories region) (its.log.rows region)
    lawful zero lt = record {
      in_order = in_order;
      fit = one_of (FitsRow 0) its_row
          (record { client = refl; row = refl; in_region = refl; several = omega arith; a_mark_each = refl });
      ids_differ = λ i j d less within. absurd (let f : ⊥ = omega (arith, less, within) in f);
      marks = one_of (λ (z : BegunRow). All (λ (m : ColourMark). IsMarkOf (its.log.histories 0 m.colour) z.node m.mark) z.marks)
          its_row (two_of (λ (m : ColourMark). IsMarkOf (its.log.histories 0 m.colour) its_node m.mark)
          (record { colour = x; mark = marks.None }) (record { colour = y; mark = marks.None })
          (no_proposal 0) (no_proposal 1));
      outcomes = one_of (λ (z : BegunRow). FitsMarks (map (λ (m : ColourMark). m.mark) z.marks) z.last) its_row tt;
      events = λ colour less. nothing_in (λ (z : Entry). FitsRows (its_row ∷ []) colour z.event) 0 colour;
    }
    lawful (suc region) lt = absurd (let f : ⊥ = omega (arith, lt) in f)

    marked : (region : ℕ) → region < 1
        → All (λ (z : BegunRow). All (λ (m : ColourMark). m.colour < 2) z.marks) (its.log.rows region)
    marked zero lt = one_of (λ (z : BegunRow). All (λ (m : ColourMark). m.colour < 2) z.marks) its_row
        (two_of (λ (m : ColourMark). m.colour < 2) (record { colour = x; mark = marks.None })
        (record { colour = y; mark = marks.None }) (omega arith) (omega arith))
    marked (suc region) lt = absurd (let f : ⊥ = omega (arith, lt) in f)

  rule4_of : All (λ (t : Step). Names its.log t.untold (caller_of s 0) (kept_at t) t.command.what t.reply.answer) (its.steps 0)
      → its.steps 1 ≡ []
      → ((colour : ℕ) → colour < 2 → [] ≡ (its.last 0).made 0 colour) → (its.last 1) ≡ nothing_kept → Rule4 s r its
  rule4_of named none made idle = record {
    named = of_steps (λ c t. Names its.log t.untold c (kept_at t) t.command.what t.reply.answer) named none;
    made = all_made;
    helpers = λ region colour z lt less among help. absurd (never_in region colour z among);
  } where
    all_made : (n : ℕ) (c : ClientReport) → slice_get r.clients n ≡ Some c → (region colour : ℕ) → region < 1 → colour < 2
        → places_of n (its.log.histories region colour) ≡ (its.last n).made region colour
    all_made zero c there zero colour lt less = ap (places_of 0) (no_history 0 colour) ∙ made colour less
    all_made (suc zero) c there zero colour lt less =
        ap (places_of 1) (no_history 0 colour) ∙ ap (λ (k : Kept). k.made 0 colour) (sym idle)
    all_made (suc (suc n)) c there zero colour lt less = absurd (let f : ⊥ = cc (there) in f)
    all_made n c there (suc region) colour lt less = absurd (let f : ⊥ = omega (arith, lt) in f)

  only_row : (z : BegunRow) → Contains (its_row ∷ []) z → its_row ≡ z
  only_row z c = only (in_contains (its_row ∷ []) z c) where
    only : (its_row ≡ z) ⊎ ⊥ → its_row ≡ z
    only (inl same) = same
    only (inr none) = absurd none

  rule5_of : All (λ (t : Step). UsesNode its.log (caller_of s 0) (kept_at t) t.command.what t.reply.answer) (its.steps 0)
      → its.steps 1 ≡ [] → 1 ≡ (its.last 0).ids → 1 ≡ (its.last 0).rows → (its.last 1) ≡ nothing_kept → Rule5 s r its
  rule5_of used none ids rows idle = record {
    used = of_steps (λ c t. UsesNode its.log c (kept_at t) t.command.what t.reply.answer) used none;
    own = own;
  } where
    own : (n : ℕ) (c : ClientReport) → slice_get r.clients n ≡ Some c → HasOwnNodes s its n
    own zero c there = record {
      nodes = ids;
      rows = rows;
      row_nodes = λ z among same. subst (λ (w : BegunRow). slice_get (its_node ∷ []) w.node.id.count ≡ Some w.node)
          (only_row z among) refl;
    }
    own (suc zero) c there = record {
      nodes = ap (λ (k : Kept). k.ids) (sym idle);
      rows = ap (λ (k : Kept). k.rows) (sym idle);
      row_nodes = λ z among same. absurd
          (let f : ◌≡◌ {A = ℕ} 0 1 = ap (λ (w : BegunRow). w.row.client) (only_row z among) ∙ same in omega (arith, f));
    }
    own (suc (suc n)) c there = absurd (let f : ⊥ = cc (there) in f)

  rule6_of : All (λ (t : Step). Stands its.log t.untold (caller_of s 0) (kept_at t) t.command.what t.reply.answer) (its.steps 0)
      → its.steps 1 ≡ [] → Rule6 s r its
  rule6_of stands none = record {
    stands = of_steps (λ c t. Stands its.log t.untold c (kept_at t) t.command.what t.reply.answer) stands none;
  }

-- a report's only row, in an account that it tells
row_shown : (case : Case) (shown : RowReport) → case.report.rows ≡ shown ∷ [] → 0 < case.script.shape.regions
    → (account : Account) → IsTold case.script case.report account → (z : BegunRow) → Contains (account.log.rows 0) z
    → row_report 0 z ≡ shown
row_shown case shown is some account told z among =
    only (subst (In (row_report 0 z)) (sym told.rows ∙ is)
    (in_flat_map-back (λ region. map (row_report region) (account.log.rows region))
    (range_with_len 0 case.script.shape.regions) 0 (row_report 0 z) first
    (in_map-back (row_report 0) (account.log.rows 0) z (in_contains (account.log.rows 0) z among)))) where
      first : In 0 (range_with_len 0 case.script.shape.regions)
      first = range_has 0 case.script.shape.regions 0 (omega arith)
          (let l : 0 < 0 + case.script.shape.regions = omega (arith, some) in l)

      only : (shown ≡ row_report 0 z) ⊎ ⊥ → row_report 0 z ≡ shown
      only (inl same) = sym same
      only (inr none) = absurd none

-- a stop after two steps or more has marked its first colour
first_marked : (log : Log) (c : Caller) (kept after : Kept) (node : Node) (steps : ℕ)
    → Stops log c kept node steps after → 2 ≤ steps → (colour : ℕ) → slice_get (members node.colours) 0 ≡ Some colour
    → IsMarked log node colour
first_marked log c kept _ node _ stopped_at_once le colour there = absurd (let f : ⊥ = omega (arith, le) in f)
first_marked log c kept _ node _ (stopped_after steps places t) le colour there =
    t.marked 0 colour there (let l : 0 + 1 < steps + 1 = omega (arith, le) in l)

abbrev stop_asked : List Command
stop_asked = asks 8 a (whats.Stop 2 on_both (codes "s")) ∷ []

abbrev stop_told : List ReplyLine
stop_told = replies 8 words.Stop (answers.Stopped 2) ∷ []

-- the places that the first client's replies print
abbrev shown : List Command → List ReplyLine → ℕ → List ℕ
shown commands lines colour = places_shown (s commands lines) (r commands lines) 0 0 colour

-- an append of which its client took no step in the columns
no_steps : (lines : List ReplyLine) (commands : List Command) → NamesSteps (its commands lines).log (caller_of (s commands lines) 0) nothing_kept
    (λ colour. step_places 0 (id a 0) (shown commands lines colour) (journal_among columns 0 colour))
no_steps lines commands colour =
    subst (All (λ (place : ℕ). (0 ≤ place) × Has 0 (journal_among columns 0 colour) (IsStepOf (id a 0)) place))
    (sym (ap (step_places 0 (id a 0) (shown commands lines colour)) (no_history 0 colour)))
    (All-nil (λ (place : ℕ). (0 ≤ place) × Has 0 (journal_among columns 0 colour) (IsStepOf (id a 0)) place))

stops_kept : Keeps (s stop_asked stop_told) (r stop_asked stop_told) 6
stops_kept = (
  its stop_asked stop_told,
  its_told stop_asked stop_told refl refl,
  (
    (
      (
        (
          (
            (
              tt,
              one (rule1_of stop_asked stop_told
                  (one_of (IsReplyTo (caller_of (s stop_asked stop_told) 0)) _
                  (record { line = refl; word = refl; answer = (refl, refl) })) refl),
            ),
            two (rule2_of stop_asked stop_told),
          ),
          three (rule3_of stop_asked stop_told),
        ),
        four (rule4_of stop_asked stop_told (one_of (λ (t : Step). Names (its stop_asked stop_told).log t.untold
            (caller_of (s stop_asked stop_told) 0) (kept_at t) t.command.what t.reply.answer) _ (no_steps stop_told stop_asked)) refl
            (λ colour less. sym (ap (step_places 0 (id a 0) (shown stop_asked stop_told colour)) (no_history 0 colour))) refl),
      ),
      five (rule5_of stop_asked stop_told (one_of (λ (t : Step). UsesNode (its stop_asked stop_told).log
          (caller_of (s stop_asked stop_told) 0) (kept_at t) t.command.what t.reply.answer) _
          (on_both, codes "s", (refl, refl), refl)) refl refl refl refl),
    ),
    six (rule6_of stop_asked stop_told (one_of (λ (t : Step). Stands (its stop_asked stop_told).log t.untold
        (caller_of (s stop_asked stop_told) 0) (kept_at t) t.command.what t.reply.answer) _ tt) refl),
  ),
)

-- a mark among two that are not set
unset : (mark : Mark) → Contains {X = ColourMark} shown_row.marks (record { colour = 0; mark = mark }) → marks.None ≡ mark
unset mark among = turn (in_contains {A = ColourMark} shown_row.marks (record { colour = 0; mark = mark }) among) where
  turn : In {A = ColourMark} (record { colour = 0; mark = mark }) shown_row.marks → marks.None ≡ mark
  turn (inl same) = ap (λ (m : ColourMark). m.mark) same
  turn (inr (inl same)) =
      absurd (let f : ◌≡◌ {A = ℕ} 1 0 = ap (λ (m : ColourMark). m.colour) same in let g : ⊥ = omega (arith, f) in g)
  turn (inr (inr none)) = absurd none

pub before_steps : Breaks a_stop_before_its_steps 7
before_steps = breaks_next a_stop_before_its_steps 6 (omega arith) (omega arith) stops_kept
    (λ keeps.
    let t = client_tells a_stop_before_its_steps.script a_stop_before_its_steps.report keeps.0 keeps.1
    (λ c t. StopsAsTold keeps.0.log t.untold c (kept_at t) t.command.what t.reply.answer) (rule7 keeps.2.1).stops 0 _ refl in
    let c : on_both ≡ t.1.0 = (let w = t.1.2 in cc (w)) in
    let m = first_marked keeps.0.log _ _ _ _ 2 t.1.3 (omega arith) 0
    (subst (λ (cs : Colours). slice_get (members cs) 0 ≡ Some 0) c refl) in
    let z = m.2.0 in
    let is = row_shown a_stop_before_its_steps shown_row refl (omega arith) keeps.0 keeps.1 z m.2.1.begun in
    let among = subst (λ (ms : List ColourMark). Contains ms (record { colour = 0; mark = m.0 }))
    (ap (λ (w : RowReport). w.marks) is) m.2.2 in
    m.1 (sym (unset m.0 among)))

-- A ROW LEFT OPEN
-- some row of an account is the one that is shown, where there is one region
pub row_there : (case : Case) (shown : RowReport) → case.report.rows ≡ shown ∷ [] → case.script.shape.regions ≡ 1
    → (account : Account) → IsTold case.script case.report account
    → (z : BegunRow) × Contains (account.log.rows 0) z × (row_report 0 z ≡ shown)
row_there case shown is single account told =
    let there : In shown (flat_map (λ region. map (row_report region) (account.log.rows region))
    (range_with_len 0 case.script.shape.regions)) =
    subst (In shown) (sym is ∙ told.rows) (inl refl) in
    let f = in_flat_map (λ region. map (row_report region) (account.log.rows region))
    (range_with_len 0 case.script.shape.regions) shown there in
    let first : In f.0 (0 ∷ []) = subst (λ (n : ℕ). In f.0 (range_with_len 0 n)) single f.1 in
    turn f.0 (only f.0 first) f.2 where
      only : (region : ℕ) → In region (0 ∷ []) → 0 ≡ region
      only region (inl same) = same
      only region (inr none) = absurd none

      turn : (region : ℕ) → 0 ≡ region → In shown (map (row_report region) (account.log.rows region))
          → (z : BegunRow) × Contains (account.log.rows 0) z × (row_report 0 z ≡ shown)
      turn region same among =
          let m = in_map (row_report 0) (account.log.rows 0) shown
          (subst (λ (n : ℕ). In shown (map (row_report n) (account.log.rows n))) (sym same) among) in
          (m.0, contains_in (account.log.rows 0) m.0 m.1, m.2)

abbrev open_asked : List Command
open_asked = asks 8 a (whats.Stop 1 on_both (codes "s")) ∷ asks 9 a (whats.Sync y) ∷ []

abbrev open_told : List ReplyLine
open_told =
    replies 8 words.Stop (answers.Stopped 1) ∷ replies 9 words.Sync (answers.Synced (look y 0 (counts 0 0)) 0) ∷ []

abbrev open_log : Log
open_log = (its open_asked open_told).log

abbrev open_caller : Caller
open_caller = caller_of (s open_asked open_told) 0

abbrev step_one : Step
step_one = step_of open_log open_caller (places_shown (s open_asked open_told) (r open_asked open_told) 0) nothing_kept (asks 8 a (whats.Stop 1 on_both (codes "s")))
    (replies 8 words.Stop (answers.Stopped 1))

abbrev step_two : Step
step_two = step_of open_log open_caller (places_shown (s open_asked open_told) (r open_asked open_told) 0)
    (kept_past open_log open_caller step_one) (asks 9 a (whats.Sync y))
    (replies 9 words.Sync (answers.Synced (look y 0 (counts 0 0)) 0))

abbrev places : ℕ → List ℕ
places colour = step_places 0 (id a 0) (shown open_asked open_told colour) (journal_among columns 0 colour)

none_placed : (P : ℕ → Type 0) (colour : ℕ) → All P (places colour)
none_placed P colour =
    subst (All P) (sym (ap (step_places 0 (id a 0) (shown open_asked open_told colour)) (no_history 0 colour))) (All-nil P)

stops_once : Stops open_log (with_room open_caller nothing_kept) nothing_kept
    (node_of open_caller nothing_kept on_both (codes "s")) 1 (kept_after_stop step_one.untold open_caller nothing_kept 1)
stops_once = stopped_after 0 places (record {
  begins = record {
    several = omega arith;
    next = refl;
    room = omega arith;
    row = its_row;
    begun = record { begun = contains_in (its_row ∷ []) its_row (inl refl); of_node = refl };
    steps = λ colour. none_placed (λ (place : ℕ). (0 ≤ place)
        × (z : Entry) × (slice_get (journal_among columns 0 colour) place ≡ Some z) × (z.by ≡ 0) × IsStepOf (id a 0) z.event)
        colour;
  };
  marked = λ n colour there lt. absurd (let f : ⊥ = omega (arith, lt) in f);
  decided = λ le. absurd (let f : ⊥ = omega (arith, le) in f);
  settled = λ n colour there lt. absurd (let f : ⊥ = omega (arith, lt) in f);
  no_later = λ n colour there. none_placed (λ (place : ℕ).
      (z : Entry) × (slice_get (journal_among columns 0 colour) place ≡ Some z) × IsStepWithin n 2 1 z.event) colour;
})

open_kept : Keeps (s open_asked open_told) (r open_asked open_told) 7
open_kept = (
  its open_asked open_told,
  its_told open_asked open_told refl refl,
  (
    (
      (
        (
          (
            (
              (
                tt,
                one (rule1_of open_asked open_told (two_of (IsReplyTo open_caller) step_one step_two
                    (record { line = refl; word = refl; answer = (refl, refl) })
                    (record { line = refl; word = refl; answer = refl })) refl),
              ),
              two (rule2_of open_asked open_told),
            ),
            three (rule3_of open_asked open_told),
          ),
          four (rule4_of open_asked open_told
              (two_of (λ (t : Step). Names open_log t.untold open_caller (kept_at t) t.command.what t.reply.answer) step_one
              step_two (no_steps open_told open_asked) ((omega arith, omega arith), omega arith)) refl
              (λ colour less. sym (ap (step_places 0 (id a 0) (shown open_asked open_told colour)) (no_history 0 colour))) refl),
        ),
        five (rule5_of open_asked open_told
            (two_of (λ (t : Step). UsesNode open_log open_caller (kept_at t) t.command.what t.reply.answer) step_one step_two
            (on_both, codes "s", (refl, refl), refl) tt) refl refl refl refl),
      ),
      six (rule6_of open_asked open_told
          (two_of (λ (t : Step). Stands open_log t.untold open_caller (kept_at t) t.command.what t.reply.answer) step_one step_two
          tt tt) refl),
    ),
    seven (record {
      stops = of_steps open_asked open_told
          (λ c t. StopsAsTold open_log t.untold c (kept_at t) t.command.what t.reply.answer)
          (two_of (λ (t : Step). StopsAsTold open_log t.untold open_caller (kept_at t) t.command.what t.reply.answer) step_one
          step_two (on_both, codes "s", refl, stops_once) tt) refl;
    }),
  ),
)

-- the last reply is to the sync
not_stopped : HasStopped a_row_left_open.report 0 → ⊥
not_stopped h =
    let same = some_same _ h.shown h.of_client in
    let long : 2 ≡ h.before + 1 = ap (λ (c : ClientReport). length c.replies) same ∙ h.last in
    let at : 1 ≡ h.before = omega (arith, long) in
    let there = ap (λ (c : ClientReport). slice_get c.replies 1) same
    ∙ (ap (λ (n : ℕ). slice_get h.shown.replies n) at ∙ h.there) in
    let reply = ap (λ (l : ReplyLine). l.answer) (some_same _ h.reply there) ∙ h.stopped in
    cc (reply)

pub left_open : Breaks a_row_left_open 8
left_open = breaks_next a_row_left_open 7 (omega arith) (omega arith) open_kept
    (λ keeps.
    let z = row_there a_row_left_open shown_row refl refl keeps.0 keeps.1 in
    let all = (rule8 keeps.2.1).left_open.rows 0 (omega arith) in
    let stopped = All-contains (λ (w : BegunRow). w.last ≡ Open → HasStopped a_row_left_open.report w.row.client)
    (keeps.0.log.rows 0) z.0 all z.1 (ap (λ (w : RowReport). w.last) z.2) in
    not_stopped (subst (HasStopped a_row_left_open.report) (ap (λ (w : RowReport). w.row.client) z.2) stopped))
