-- What rule 11 says of a step it says of one that is alike, by a log with the same histories in the shape and the same nodes.
use Rattle.std.proofs.Common.{◌≡◌, ◌∙◌, refl, ap, sym, subst, Bool, true, false, ℕ, ◌<◌, ◌≤◌, List, [], ◌∷◌, length, map, take, Option, Some, ◌⊎◌, inl, inr, arith}
use Rattle.std.specs.Prelude.{◌≢◌, IsTrue, nat_lt, slice_get}
use Rattle.std.specs.List.{Contains, All}
use Rattle.std.proofs.lemmas.Bool.{lt-ltb}
use Rattle.std.proofs.lemmas.List.Elements.{All-contains}
use Rattle.log_node.specs.declared.forms.Version.{Version}
use Rattle.log_node.specs.declared.ids.Colours.{Colours}
use Rattle.log_node.specs.declared.ids.Id.{Id}
use Rattle.log_node.specs.declared.marks.Mark.{Mark}
use Rattle.log_node.specs.declared.marks.Mark.TheVariants as marks
use Rattle.log_node.specs.declared.marks.Outcome.TheVariants.{Gone}
use Rattle.log_node.specs.declared.marks.Why.TheVariants.{StampEnd}
use Rattle.log_node.specs.declared.node.Node.{Node}
use Rattle.log_node.specs.Seen.{PlacedNode}
use Rattle.log_node.specs.Sets.{members}
use Rattle.col_core.specs.declared.Entry.{Entry}
use Rattle.col_core.specs.History.{IsAtEnd}
use Rattle.col_core.specs.Log.{Log, HasMark}
use Rattle.col_core.specs.Rows.{BegunRow, FitsRow}
use Rattle.col_core.specs.Keeping.{Kept}
use Rattle.col_core.proofs.CallerLemmas.{In, all_in, contains_in, in_contains}
use Rattle.script_text.specs.declared.commands.What.{What}
use Rattle.script_text.specs.declared.script.Script.{Script}
use Rattle.script_text.specs.Commands.{use_of}
use Rattle.script_text.specs.Fitting.{IsFitting, IsWithin}
use Rattle.report_text.specs.declared.report.Answer.{Answer}
use Rattle.report_text.specs.declared.report.Answer.TheVariants as answers
use Rattle.report_text.specs.declared.report.Ended.{Ended}
use Rattle.report_text.specs.declared.report.Ended.TheVariants as ends
use Rattle.lawful_run.specs.Callers.{Caller, caller_of, node_of}
use Rattle.lawful_run.specs.Appends.{HadNoStamp, HasNoStamp, IsGoneAtEnd, IsSettledIn, none_for_one, none_for_several}
use Rattle.lawful_run.specs.Asks.{kind_asked, object_colours}
use Rattle.lawful_run.specs.Columns.{row_report}
use Rattle.lawful_run.specs.Shapes.{AppendsBy}
use Rattle.lawful_run.specs.Reads.{kept_after_piece}
use Rattle.lawful_run.specs.Deeds.{AsksToAppend, SaysNode, colours_synced, saying_of}
use Rattle.run_rules.specs.Told.{Untold, colours_asked, is_several, kept_after_row, kept_where}
use Rattle.run_rules.specs.Answering.{CanHave}
use Rattle.run_rules.specs.Finding.{KeepReads}
use Rattle.run_rules.specs.Naming.{Names, NamesSteps}
use Rattle.run_rules.specs.Rules.{HasNode, UsesNode, with_room}
use Rattle.run_rules.specs.Shown.{EndHasCause, HasCause}
use Rattle.run_rules.specs.Agreeing.{HasColumn, KeepSame}
use Rattle.run_rules.proofs.Facts.{asked_colours}
use Rattle.run_rules.proofs.FindsAlike.{found_by_same}
use Rattle.run_rules.proofs.FirstAlike.{read_reads}
use Rattle.run_rules.proofs.AppendsAlike.{begins_same, mark_same, outcome_same, settled_same}
use Rattle.run_rules.proofs.Reached.{appended_within, synced_within}
use Rattle.run_rules.proofs.ReadsAlike.{trimmed_alike}
use Rattle.run_rules.proofs.TextsAlike.{TextsAlike}
use Rattle.run_rules.proofs.ToldAlike.{asked_same, deciding_same}

-- no stamp was left: for one colour nothing was done, and for several a row was begun
no_stamp_of : (log : Log) (caller : Caller) (kept : Kept) (node : Node) (colour : ℕ) (after : Kept)
    → HasNoStamp log caller kept node colour after
    → ((members node.colours ≡ colour ∷ []) × HadNoStamp log caller kept colour)
    ⊎ ((places : ℕ → List ℕ) × IsGoneAtEnd log caller kept node colour places)
no_stamp_of log caller kept node colour after (none_for_one only had) = inl (only, had)
no_stamp_of log caller kept node colour after (none_for_several places gone) = inr (places, gone)

-- what is kept alike the other way round
turned : {script : Script} {a b : Kept} → KeepSame script a b → KeepSame script b a
turned s = record {
  floor = sym s.floor;
  starts = λ c. sym (s.starts c);
  seen = λ r c has. sym (s.seen r c has);
  known = λ c. sym (s.known c);
  made = λ r c has. sym (s.made r c has);
  ids = sym s.ids;
  rows = sym s.rows;
  reads = λ object. sym (s.reads object);
}

module _ (script : Script) (fits : IsFitting script) (n : ℕ) (one two : Log)
    (histories : (r c : ℕ) → HasColumn script r c → one.histories r c ≡ two.histories r c)
    (home : (caller_of script n).own < script.shape.regions)
    (rows : map (row_report (caller_of script n).own) (one.rows (caller_of script n).own)
    ≡ map (row_report (caller_of script n).own) (two.rows (caller_of script n).own))
    (Decided : Type 0) (Seen : Id → Type 0) (texts : TextsAlike script n Decided one two Seen)
    (fit : All (FitsRow (caller_of script n).own) (two.rows (caller_of script n).own))
    (row_nodes : (r : BegunRow) → Contains (two.rows (caller_of script n).own) r → r.row.client ≡ n
    → slice_get (two.nodes n) r.node.id.count ≡ Some r.node) where
  abbrev who : Caller
  who = caller_of script n

  abbrev own : ℕ
  own = who.own

  had_alike : {a b : Kept} → KeepSame script a b → (colour : ℕ) → colour < script.shape.colours
      → HadNoStamp one who a colour → HadNoStamp two who b colour
  had_alike {a} {b} s colour lt x =
      let is = histories own colour (home, lt) in record {
        events = x.events;
        unseen = subst (λ (k : ℕ). k ≤ x.events) (s.seen own colour (home, lt)) x.unseen;
        there = subst (λ (h : List Entry). x.events ≤ length h) is x.there;
        ended = subst (IsAtEnd (take x.events (two.histories own colour))) s.floor
            (subst (λ (h : List Entry). IsAtEnd (take x.events h) a.floor) is x.ended);
      }

  -- the command asks for the same node over what is kept alike
  asks_alike : (what : What) (a b : Kept) → KeepReads a b → (colours : Colours) (text : List ℕ)
      → AsksToAppend who a what colours text → AsksToAppend who b what colours text
  asks_alike what a b reads colours text x =
      subst (λ (f : Option (List Version)). SaysNode (object_colours (kind_asked who what))
      (saying_of (kind_asked who what) f what) colours text) (found_by_same (use_of what) a b reads) x

  back : (r c : ℕ) → HasColumn script r c → two.histories r c ≡ one.histories r c
  back r c has = sym (histories r c has)

  module _ (what : What) (within : IsWithin script.shape.regions script.shape.colours what) (u v : Untold) (a b : Kept)
      (s : KeepSame script a b) (reads : KeepReads a b) (shown : List PlacedNode) where
    its_low : (kept : Kept) (colours : Colours) (text : List ℕ) → AsksToAppend who kept what colours text → (c : ℕ)
        → In c (members colours) → c < script.shape.colours
    its_low kept colours text asks c i =
        appended_within script fits n kept what within c (subst (In c) (asked_colours who kept what colours text asks) i)

    -- an append to several colours is gone for the node of the command, whichever set has its colours
    module _ (colour : ℕ) (x : Colours) (t : List ℕ) (asks : AsksToAppend who a what x t) (h : HasNode two who b what)
        (named : NamesSteps two who b v.places) (places : ℕ → List ℕ)
        (gone : IsGoneAtEnd one (with_room who a) a (node_of who a x t) colour places) where
      same : members h.0 ≡ members x
      same =
          asked_colours who b what h.0 h.1 h.2
          ∙ (sym (asked_same script who what s) ∙ sym (asked_colours who a what x t asks))

      low : (c : ℕ) → In c (members h.0) → c < script.shape.colours
      low = its_low b h.0 h.1 h.2

      its_mark : (c : ℕ) (mark : Mark) → HasMark one (node_of who a x t) c mark → HasMark two (node_of who b h.0 h.1) c mark
      its_mark c mark m =
          mark_same script fits n two one back home (sym rows) fit row_nodes what within b a (turned s) h.0 x h.1 t same low h.3 c
          mark m

      gone_alike : IsGoneAtEnd two (with_room who b) b (node_of who b h.0 h.1) colour v.places
      gone_alike = record {
        begins = begins_same script fits n two one back home (sym rows) fit row_nodes what within b a (turned s) h.0 x h.1 t same
            low h.3 places v.places named gone.begins;
        ends = record {
          outcome = outcome_same script fits n two one back home (sym rows) fit row_nodes what within b a (turned s) h.0 x h.1 t
              same low h.3 (Gone StampEnd) gone.ends.outcome;
          fence = its_mark colour (marks.Fenced StampEnd) gone.ends.fence;
          least = all_in (IsMarkedBefore two (node_of who b h.0 h.1)) (members h.0) (λ other i lt.
              let y = All-contains (IsMarkedBefore one (node_of who a x t)) (members x) other gone.ends.least
              (contains_in (members x) other (subst (In other) same i)) lt in
              (y.0, y.1, y.2, its_mark other y.0 y.3));
        };
        settled = all_in (IsSettledIn two (with_room who b) (node_of who b h.0 h.1)) (members h.0) (λ c i.
            settled_same script fits n two one back home (sym rows) fit row_nodes what within b a (turned s) h.0 x h.1 t same low
            h.3 c (low c i)
            (All-contains (IsSettledIn one (with_room who a) (node_of who a x t)) (members x) c gone.settled
            (contains_in (members x) c (subst (In c) same i))));
      } where
        IsMarkedBefore : Log → Node → ℕ → Type 0
        IsMarkedBefore log node other =
            other < colour → (mark : Mark) × (mark ≢ marks.None) × (mark ≢ marks.Fenced StampEnd) × HasMark log node other mark

    no_stamp_alike : (colour : ℕ) → (IsTrue (is_several who b what) → NamesSteps two who b v.places)
        → (IsTrue (is_several who b what) → HasNode two who b what)
        → AppendsBy who a what (λ colours text. HasNoStamp one (with_room who a) a (node_of who a colours text) colour
        (kept_where (is_several who a what) (kept_after_row u who a) a))
        → AppendsBy who b what (λ colours text. HasNoStamp two (with_room who b) b (node_of who b colours text) colour
        (kept_where (is_several who b what) (kept_after_row v who b) b))
    no_stamp_alike colour named node x =
        turn (no_stamp_of one (with_room who a) a (node_of who a x.0 x.1) colour
        (kept_where (is_several who a what) (kept_after_row u who a) a) x.3) where
          asked : members x.0 ≡ colours_asked who b what
          asked = asked_colours who a what x.0 x.1 x.2 ∙ asked_same script who what s

          after : Bool → Kept
          after t = kept_where t (kept_after_row v who b) b

          turn : ((members x.0 ≡ colour ∷ []) × HadNoStamp one (with_room who a) a colour)
              ⊎ ((places : ℕ → List ℕ) × IsGoneAtEnd one (with_room who a) a (node_of who a x.0 x.1) colour places)
              → AppendsBy who b what (λ colours text. HasNoStamp two (with_room who b) b (node_of who b colours text) colour
              (kept_where (is_several who b what) (kept_after_row v who b) b))
          turn (inl y) =
              let single : false ≡ is_several who b what =
              ap (λ (cs : List ℕ). nat_lt 1 (length cs)) (sym y.0 ∙ asked) in (
                x.0,
                x.1,
                asks_alike what a b reads x.0 x.1 x.2,
                subst (λ (t : Bool). HasNoStamp two (with_room who b) b (node_of who b x.0 x.1) colour
                    (kept_where t (kept_after_row v who b) b)) single
                    (none_for_one y.0 (roomy (had_alike s colour
                    (its_low a x.0 x.1 x.2 colour (subst (In colour) (sym y.0) (inl refl))) (unroomy y.1)))),
              )
            where
              unroomy : HadNoStamp one (with_room who a) a colour → HadNoStamp one who a colour
              unroomy h = record { events = h.events; unseen = h.unseen; there = h.there; ended = h.ended }

              roomy : HadNoStamp two who b colour → HadNoStamp two (with_room who b) b colour
              roomy h = record { events = h.events; unseen = h.unseen; there = h.there; ended = h.ended }
          turn (inr y) =
              let many : true ≡ is_several who b what =
              let l = y.1.begins.several in
              sym (lt-ltb 1 (length (members x.0)) (omega (arith, l)))
              ∙ ap (λ (cs : List ℕ). nat_lt 1 (length cs)) asked in
              let h = node (sym many) in (
                h.0,
                h.1,
                h.2,
                subst (λ (t : Bool). HasNoStamp two (with_room who b) b (node_of who b h.0 h.1) colour
                    (kept_where t (kept_after_row v who b) b)) many
                    (none_for_several v.places
                    (gone_alike colour x.0 x.1 x.2 h (named (sym many)) y.0 y.1)),
              )

  -- the end of a decision's append
  end_alike : (what : What) → IsWithin script.shape.regions script.shape.colours what → {c d : Kept} → KeepSame script c d
      → KeepReads c d → (ended : Ended) → EndHasCause one who c what ended → EndHasCause two who d what ended
  end_alike what within {c} {d} t reads (ends.StampEnd colour) x = (
    x.0,
    x.1,
    asks_alike what c d reads x.0 x.1 x.2,
    (
      x.3.0,
      had_alike t colour
          (appended_within script fits n c what within colour
          (subst (In colour) (asked_colours who c what x.0 x.1 x.2) (subst (In colour) (sym x.3.0) (inl refl)))) x.3.1,
    ),
  )
  end_alike what within t reads _ x = tt

  module _ (what : What) (within : IsWithin script.shape.regions script.shape.colours what) (u v : Untold) (a b : Kept)
      (s : KeepSame script a b) (reads : KeepReads a b) (shown : List PlacedNode) where
    pub cause_alike : (answer : Answer) → CanHave who a what shown answer → Names two v who b what answer
        → UsesNode two who b what answer → HasCause one u who a what answer → HasCause two v who b what answer
    cause_alike (answers.StampEnd colour) can named used x =
        (x.0, no_stamp_alike what within u v a b s reads shown colour named used x.1)
    cause_alike (answers.Full begun) can named used x = (
      x.0,
      (
        x.1.0,
        x.1.1,
        asks_alike what a b reads x.1.0 x.1.1 x.1.2,
        record {
          several = x.1.3.several;
          shown = x.1.3.shown ∙ s.rows;
          all = sym s.rows ∙ x.1.3.all;
        },
      ),
    )
    cause_alike (answers.Decided commits stamp sync read_stamp raises syncs ended) can named used x =
        end_alike what within
        (deciding_same script fits n one two histories home rows what within u v a b s shown sync read_stamp raises syncs
        can.1 can.2 can.3)
        (λ object.
        ap (λ (r : ℕ → Option (List Version)). r object) (read_reads one who (kept_after_piece one who a sync) read_stamp raises syncs)
        ∙ (reads object
        ∙ ap (λ (r : ℕ → Option (List Version)). r object)
        (sym (read_reads two who (kept_after_piece two who b sync) read_stamp raises syncs)))) ended x
    cause_alike answers.SameRegion can named used x = x
    cause_alike answers.NoTx can named used x = (x.0, x.1, x.2, x.3, sym (reads x.0) ∙ x.4)
    cause_alike (answers.Trimmed colour base) can named used x =
        trimmed_alike script n one two histories home rows Seen texts.known s colour base
        (synced_within script fits n what within colour (in_contains (colours_synced who what) colour can.1)) x
    cause_alike (answers.NotHome home_told) can named used x = x
    cause_alike _ can named used x = tt
