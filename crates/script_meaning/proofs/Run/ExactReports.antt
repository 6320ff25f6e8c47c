-- A run in which memory is granted everywhere gives the one report that the meaning has.
use Rattle.std.proofs.Common.{◌≡◌, ◌≢◌, inl, inr, ℕ, ◌<◌, List, [], ◌∷◌, ◌++◌, length, map, Some, refl, ap, sym, subst, ◌∙◌, arith, append-nil, append_assoc}
use Rattle.std.specs.Prelude.{slice_get, slice_index}
use Rattle.std.specs.List.{All, fold, flat_map, range_with_len, enumerate_from}
use Rattle.std.proofs.lemmas.Bool.{ltb-true}
use Rattle.std.proofs.lemmas.Grind.{fold-append}
use Rattle.std.proofs.lemmas.Option.{slice_get-map}
use Rattle.std.specs.Option.{option_map}
use Rattle.log_node.specs.declared.node.Shape.{Shape}
use Rattle.log_node.specs.declared.marks.Why.TheVariants.{Memory}
use Rattle.log_node.specs.declared.marks.Mark.TheVariants as marks
use Rattle.log_node.specs.declared.marks.ColourMark.{ColourMark}
use Rattle.col_core.proofs.CallerLemmas.{In}
use Rattle.object_form.specs.Laws.{ReadsBack}
use Rattle.script_meaning.proofs.Tree.TreeLaws.{TreesReadBack}
use Rattle.world_laws.specs.Worlds.{home_of, row_of}
use Rattle.world_laws.specs.Completing.{colours_of}
use Rattle.world_laws.specs.Laws.{begun_row, rows_of_region}
use Rattle.world_laws.proofs.CallerLemmas.{in_left, in_right, slice_in, colour_in, row_stands}
use Rattle.script_text.specs.declared.script.Command.{Command}
use Rattle.script_text.specs.declared.script.Script.{Script}
use Rattle.script_text.specs.Fitting.{IsFitting}
use Rattle.report_text.specs.declared.report.ReplyLine.{ReplyLine}
use Rattle.report_text.specs.declared.report.ClientReport.{ClientReport}
use Rattle.report_text.specs.declared.report.RowReport.{RowReport}
use Rattle.lawful_run.specs.Columns.{row_report}
use Rattle.script_meaning.specs.States.{State, all_granted, opening}
use Rattle.script_meaning.specs.Meaning.{TellsNoWant, done, LeadTo, nothing, next, report_of, FindsMemory}
use Rattle.script_meaning.specs.Laws.{RunsAreExact}
use Rattle.script_meaning.proofs.World.Reached.{told_of}
use Rattle.script_meaning.proofs.Run.GrantedSteps.{IsClean, clean_from}
use Rattle.script_meaning.proofs.Run.Invariant.{Runs}
use Rattle.script_meaning.proofs.Lists.{all_at, range_in, in_map_back}
use Rattle.script_meaning.proofs.Run.LawfulReports.{numbered-at, numbered-get}
use Rattle.script_meaning.proofs.Run.InvariantHolds.{runs_all}
use Rattle.script_meaning.proofs.Run.DoneCommands.{done_extends, done_exact}

-- All commands

-- no reply to a client of the script tells of want of memory
abbrev TellsOfNone : Script → State → Type 0
TellsOfNone script state =
    (n : ℕ) → n < length script.shape.homes → (r : ReplyLine) → In r (state.replies n) → TellsNoWant r.answer

module _ (script : Script) (fits : IsFitting script) where
  exact_leads : {commands : List Command} {state : State} → LeadTo script commands state → (rest : List Command)
      → script.commands ≡ commands ++ rest → IsClean state.world → TellsOfNone script state
      → state ≡ fold (done script.objects all_granted) (opening script) commands
  exact_leads nothing rest is clean tells = refl
  exact_leads (next {commands} {state} command grants leads) rest is clean tells =
      let whole : script.commands ≡ commands ++ command ∷ rest = is ∙ append_assoc commands (command ∷ []) rest in
      let there : In command script.commands =
      subst (λ (l : List Command). In command l) (sym whole) (in_right command commands (command ∷ rest) (inl refl)) in
      let caller = all_at (λ (c : Command). c.client < length script.shape.homes) script.commands fits.callers command
      there in
      let more = done_extends script.objects grants state command in
      let before = exact_leads leads (command ∷ rest) whole
      (clean_from state.world (done script.objects grants state command).world more.world clean)
      (λ n lt r i. tells n lt r (more.replies n r i)) in
      done_exact script.objects grants state command (record { clean = clean; tells = tells command.client caller })
      ∙ (ap (λ (s : State). done script.objects all_granted s command) before
      ∙ sym (fold-append (done script.objects all_granted) (opening script) commands (command ∷ [])))

  -- what the report says of replies and rows
  tells_none : (state : State) → FindsMemory (report_of script state) → TellsOfNone script state
  tells_none state finds n lt r i =
      let less : n < length script.clients = let c = fits.clients in omega (arith, lt, c) in
      let p = numbered-at 0 script.clients n less in
      let number = numbered-get 0 script.clients n p.0 p.1 in
      let same : p.0.0 ≡ n = omega (arith, number) in
      let shown : ClientReport = record { name = p.0.1; replies = state.replies p.0.0 } in
      let there : slice_get (report_of script state).clients n ≡ Some shown =
      slice_get-map (λ (q : ℕ × List ℕ). record { name = q.1; replies = state.replies q.0 })
      (enumerate_from 0 script.clients) n
      ∙ ap (option_map (λ (q : ℕ × List ℕ). record { name = q.1; replies = state.replies q.0 })) p.1 in
      let all = all_at (λ (c : ClientReport). All (λ (x : ReplyLine). TellsNoWant x.answer) c.replies)
      (report_of script state).clients finds.replies shown
      (slice_in (report_of script state).clients n shown there) in
      all_at (λ (x : ReplyLine). TellsNoWant x.answer) (state.replies p.0.0) all r
      (subst (λ (k : ℕ). In r (state.replies k)) (sym same) i)

  is_clean : (state : State) → Runs script script.commands state → FindsMemory (report_of script state)
      → IsClean state.world
  is_clean state runs finds row c b has =
      let w = state.world in
      let told = told_of w runs.reached in
      let lt = ltb-true row.number (w.clients row.client).used b in
      let region = home_of w row.client in
      let client : row.client < length script.shape.homes =
      subst (λ (s : Shape). row.client < length s.homes) runs.shape (told.clients row.client row.number lt) in
      let few : region < script.shape.regions =
      subst (λ (s : Shape). slice_index s.homes row.client < script.shape.regions) (sym runs.shape)
      (fits.shape.homes row.client 0 client) in
      let r = begun_row w row in
      let here : In r (rows_of_region w region) = row_stands w told region row.client row.number lt refl in
      let shown : In (row_report region r) (report_of script state).rows =
      flat_map_there (λ k. map (row_report k) (rows_of_region w k)) (range_with_len 0 script.shape.regions) region
      (row_report region r) (range_in 0 script.shape.regions region (omega arith) (omega (arith, few)))
      (in_map_back (row_report region) (rows_of_region w region) r here) in
      let all = all_at (λ (x : RowReport). All (λ (m : ColourMark). m.mark ≢ marks.Fenced Memory) x.marks)
      (report_of script state).rows finds.marks (row_report region r) shown in
      all_at (λ (m : ColourMark). m.mark ≢ marks.Fenced Memory) r.marks all
      (record { colour = c; mark = (row_of w row).marks c })
      (in_map_back (λ (d : ℕ). record { colour = d; mark = (row_of w row).marks d }) (colours_of w row) c
      (colour_in (colours_of w row) c has)) where
        flat_map_there : {A B : Type 0} (f : A → List B) (xs : List A) (x : A) (y : B) → In x xs → In y (f x)
            → In y (flat_map f xs)
        flat_map_there f [] x y i j = absurd i
        flat_map_there {A} {B} f (z ∷ xs) x y (inl e) j =
            in_left y (f z) (flat_map f xs) (subst (λ (k : A). In y (f k)) (sym e) j)
        flat_map_there f (z ∷ xs) x y (inr i) j = in_right y (f z) (flat_map f xs) (flat_map_there f xs x y i j)

-- where no reply and no mark tells of want of memory, the report is the one that is meant
pub runs_are_exact : ReadsBack → TreesReadBack → RunsAreExact
runs_are_exact back tree script fits last state leads finds =
    ap (report_of script) (exact_leads script fits leads [] (sym (append-nil script.commands))
    (is_clean script fits state (runs_all back tree script fits last leads) finds) (tells_none script fits state finds))
