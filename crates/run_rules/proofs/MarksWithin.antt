-- The marks of rows are of colours of the shape, where rows are of commands.
use Rattle.std.proofs.Common.{◌≡◌, ◌∙◌, refl, ap, sym, subst, ℕ, zero, suc, ◌<◌, ◌≤◌, List, [], ◌∷◌, length, map, Some, ◌⊎◌, inl, inr, arith}
use Rattle.std.specs.Prelude.{slice_get}
use Rattle.std.specs.List.{All}
use Rattle.std.proofs.lemmas.Bool.{cases_lt}
use Rattle.std.proofs.lemmas.List.{length-map}
use Rattle.std.proofs.lemmas.List.Elements.{All-contains, All-head, All-tail}
use Rattle.log_node.specs.declared.node.Node.{Node}
use Rattle.log_node.specs.declared.marks.ColourMark.{ColourMark}
use Rattle.log_node.specs.Sets.{members}
use Rattle.col_core.specs.Log.{Log}
use Rattle.col_core.specs.Rows.{BegunRow, FitsRow}
use Rattle.col_core.specs.Keeping.{Kept, nothing_kept}
use Rattle.col_core.proofs.CallerLemmas.{In, all_in, contains_in, in_map-back}
use Rattle.script_text.specs.declared.commands.What.{What}
use Rattle.script_text.specs.declared.script.Script.{Script}
use Rattle.script_text.specs.Fitting.{IsFitting, IsWithin}
use Rattle.report_text.specs.declared.report.ClientReport.{ClientReport}
use Rattle.report_text.specs.declared.report.Report.{Report}
use Rattle.lawful_run.specs.Callers.{Caller, caller_of, node_of}
use Rattle.lawful_run.specs.Columns.{IsClientIn}
use Rattle.lawful_run.proofs.CallerLemmas.{get_within}
use Rattle.run_rules.specs.Told.{Step, Account, IsTold, Follow, kept_at, kept_past}
use Rattle.run_rules.specs.Rules.{HasNode, Rule1, Rule4, Rule5}
use Rattle.run_rules.proofs.Facts.{asked_colours}
use Rattle.run_rules.proofs.Reached.{Below, appended_within}
use Rattle.run_rules.proofs.LeftOut.{Obeys, ids_at}
use Rattle.run_rules.proofs.OneAccount.{obeys}
use Rattle.run_rules.proofs.NodesAlike.{MayUse, Uses, over, over_ids, step_uses}

-- NODES

module _ (script : Script) (fits : IsFitting script) (n : ℕ) (log : Log) where
  abbrev who : Caller
  who = caller_of script n

  -- the node with this number has colours of the shape
  abbrev NodeWithin : ℕ → Type 0
  NodeWithin i = (node : Node) × (slice_get (log.nodes n) i ≡ Some node) × Below script.shape.colours (members node.colours)

  node_within : (what : What) → IsWithin script.shape.regions script.shape.colours what → (kept : Kept)
      → HasNode log who kept what → NodeWithin kept.ids
  node_within what within kept h = (
    node_of who kept h.0 h.1,
    h.3,
    subst (Below script.shape.colours) (sym (asked_colours who kept what h.0 h.1 h.2))
        (appended_within script fits n kept what within),
  )

  -- and so has each that steps use
  nodes_within : (xs : List Step) → All (Obeys script log who) xs → All (Uses log who) xs → (kept last : Kept)
      → Follow log who kept xs last → (i : ℕ) → kept.ids ≤ i → i < last.ids → NodeWithin i
  nodes_within [] o u kept last follow i le lt =
      let e = ap (λ (k : Kept). k.ids) follow in absurd (let f : ⊥ = omega (arith, e, le, lt) in f)
  nodes_within (x ∷ xs) o u kept last follow i le lt =
      turn (step_uses log who x (All-head (Uses log who) x xs u))
      (λ more. nodes_within xs (All-tail (Obeys script log who) x xs o) (All-tail (Uses log who) x xs u) (kept_past log who x)
      last follow.1 i more lt)
      (cases_lt kept.ids i) where
        its_ids : (kept_at x).ids ≡ kept.ids
        its_ids = ids_at x ∙ ap (λ (k : Kept). k.ids) follow.0

        turn : MayUse log who (kept_at x) (over log who x) x.command.what (kept_past log who x)
            → ((kept_past log who x).ids ≤ i → NodeWithin i) → (kept.ids < i) ⊎ (i ≤ kept.ids) → NodeWithin i
        turn (inl e) more c = let k = its_ids in more (omega (arith, e, k, le))
        turn (inr e) more (inl less) = let f = e.0 in let k = its_ids in more (omega (arith, f, k, less))
        turn (inr e) more (inr most) =
            let k = its_ids in
            let v = over_ids log who (kept_at x) x.reply.answer in
            let is : (over log who x).ids ≡ i = omega (arith, k, v, le, most) in
            subst NodeWithin is
            (node_within x.command.what (All-head (Obeys script log who) x xs o).within (over log who x) e.1)

-- ROWS

there_at : {A : Type 0} (xs : List A) (i : ℕ) → i < length xs → (x : A) × (slice_get xs i ≡ Some x)
there_at [] i lt = absurd (let f : ⊥ = omega (arith, lt) in f)
there_at (x ∷ xs) zero lt = (x, refl)
there_at (x ∷ xs) (suc i) lt = there_at xs i (omega (arith, lt))

-- each client of the shape is shown
pub shown_client : (script : Script) (report : Report) → IsFitting script
    → map (λ (c : ClientReport). c.name) report.clients ≡ script.clients → (n : ℕ) → n < length script.shape.homes
    → (c : ClientReport) × (slice_get report.clients n ≡ Some c)
shown_client script report fits names n lt =
    let long = sym (length-map report.clients (λ (x : ClientReport). x.name)) ∙ ap length names in
    let all = fits.clients in
    there_at report.clients n (omega (arith, lt, long, all))

module _ (script : Script) (report : Report) (a : Account) (fits : IsFitting script) (told : IsTold script report a)
    (first : Rule1 script report a) (fourth : Rule4 script report a) (fifth : Rule5 script report a)
    (of_clients : (region : ℕ) → region < script.shape.regions
    → All (λ (r : BegunRow). IsClientIn script region r.row.client) (a.log.rows region))
    (fit : (region : ℕ) → region < script.shape.regions → All (FitsRow region) (a.log.rows region)) where
  abbrev MarkWithin : ColourMark → Type 0
  MarkWithin m = m.colour < script.shape.colours

  row_within : (region : ℕ) → region < script.shape.regions → (r : BegunRow) → In r (a.log.rows region)
      → All MarkWithin r.marks
  row_within region lt r i = all_in MarkWithin r.marks (λ m j.
      below m.colour (subst (In m.colour) its.a_mark_each (in_map-back (λ (x : ColourMark). x.colour) r.marks m j))) where
        its : FitsRow region r
        its = All-contains (FitsRow region) (a.log.rows region) r (fit region lt) (contains_in (a.log.rows region) r i)

        client : IsClientIn script region r.row.client
        client = All-contains (λ (x : BegunRow). IsClientIn script region x.row.client) (a.log.rows region) r
            (of_clients region lt) (contains_in (a.log.rows region) r i)

        below : Below script.shape.colours (members r.node.colours)
        below =
            let n = r.row.client in
            let c = shown_client script report fits first.names n client.0 in
            let own : In r (a.log.rows (caller_of script n).own) = subst (λ (k : ℕ). In r (a.log.rows k)) (sym client.1) i in
            let node = (fifth.own n c.0 c.1).row_nodes r (contains_in (a.log.rows (caller_of script n).own) r own) refl in
            let long = get_within (a.log.nodes n) r.node.id.count r.node node in
            let all = (fifth.own n c.0 c.1).nodes in
            let w = nodes_within script fits n a.log (a.steps n) (obeys script fits report a told first fourth n c.0 c.1)
            (fifth.used n c.0 c.1) nothing_kept (a.last n) (told.clients n c.0 c.1).follow r.node.id.count (omega arith)
            (omega (arith, long, all)) in
            let same : w.0 ≡ r.node = let s = sym w.1 ∙ node in cc (s) in
            subst (λ (x : Node). Below script.shape.colours (members x.colours)) same w.2

  pub marks_within : (region : ℕ) → region < script.shape.regions
      → All (λ (r : BegunRow). All (λ (m : ColourMark). m.colour < script.shape.colours) r.marks) (a.log.rows region)
  marks_within region lt = all_in (λ (r : BegunRow). All MarkWithin r.marks) (a.log.rows region) (row_within region lt)
