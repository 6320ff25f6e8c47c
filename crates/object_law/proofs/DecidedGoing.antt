-- The nodes of a client's commands, of which those of decisions may still say any, one command after another.
use Rattle.std.proofs.Common.{◌≡◌, ◌∙◌, refl, ap, sym, subst, ℕ, ◌+◌, ◌<◌, ◌≤◌, ◌^◌, List, [], ◌∷◌, ◌++◌, length, length-append, map, Option, Some, None, arith}
use Rattle.std.specs.Prelude.{nat_lt, slice_get}
use Rattle.std.specs.Option.{option_map}
use Rattle.std.proofs.lemmas.Bool.{ltb-false, ltb-true}
use Rattle.std.proofs.lemmas.List.{map-append}
use Rattle.log_node.specs.declared.node.Node.{Node}
use Rattle.log_node.specs.declared.forms.Version.{Version}
use Rattle.log_node.proofs.CallerLemmas.{same_some}
use Rattle.part_fold.specs.declared.decision.Decision.{Decision}
use Rattle.col_core.specs.Keeping.{Kept, nothing_kept}
use Rattle.col_core.proofs.CallerLemmas.{by_test}
use Rattle.column_track.specs.Tracks.{Tracked}
use Rattle.script_text.specs.declared.script.Command.{Command}
use Rattle.report_text.specs.declared.report.ReplyLine.{ReplyLine}
use Rattle.lawful_run.specs.Callers.{caller_of, commands_of}
use Rattle.lawful_run.specs.Refusals.{kept_before}
use Rattle.run_rules.specs.Nodes.{any_decision}
use Rattle.run_rules.specs.Said.{with_text}
use Rattle.run_rules.specs.Telling.{FindKeys, replies_to}
use Rattle.object_law.specs.Decided.{AreDecided, AreDecidedOf, decided_at, drafted, drafted_node, said_by}
use Rattle.object_law.specs.Drafts.{StepsOn, filled}
use Rattle.object_law.specs.declared.decided_nodes.DecidedNode.{DecidedNode}
use Rattle.object_law.specs.declared.drafts.Draft.{Draft}
use Rattle.walk_law.specs.Finds.{CountsFinding, FindsKeys, node_list}
use Rattle.walk_law.specs.Keepings.{Counted, IsCounted}
use Rattle.walk_law.specs.Walking.{HasFew, MayWalk, Walked, log_walked}
use Rattle.object_law.proofs.DecidedTexts.{decider_text, text_by, told_again}
use Rattle.object_law.proofs.FindingLemmas.{found_keys}
use Rattle.object_law.proofs.GoingLemmas.{Gone, all_gone, at_before, at_last, at_past, begun, few, gone_on, no_client}

-- So many of a client's commands are gone over, and these are their nodes, whatever decisions say.
pub record AllGone (walked : Walked) (client : ℕ) (found : ℕ → ℕ → List Version) (place : ℕ) (now : Counted)
    (table : List (Option ℕ)) (nodes : List DecidedNode) : Type 0 where
  pub each : (decided : ℕ → ℕ → Decision) → Gone walked client found decided place now table (map (said_by (decided client)) nodes)

any : ℕ → ℕ → Decision
any n k = any_decision

module _ (walked : Walked) (tracks : List Tracked) (may : MayWalk walked.script walked.report tracks) (client : ℕ)
    (walker : client < length walked.report.clients) (found : ℕ → ℕ → List Version) where
  abbrev commands : List Command
  commands = commands_of walked.script client

  abbrev replies : List ReplyLine
  replies = replies_to walked.report client

  pub decided_begun : (now : Counted) (table : List (Option ℕ)) (nodes : List DecidedNode) → nodes ≡ []
      → CountsFinding replies (found client) nothing_kept now table → (now.ids ≡ 0) × (now.rows ≡ 0)
      → AllGone walked client found 0 now table nodes
  decided_begun now table nodes none counts none_used = record {
    each = λ decided.
        begun walked tracks may client walker found decided now table (map (said_by (decided client)) nodes)
        (ap (map (said_by (decided client))) none) counts none_used;
  }

  module _ (place : ℕ) (less : place < length commands) (now : Counted) (table : List (Option ℕ)) (nodes : List DecidedNode)
      (gone : AllGone walked client found place now table nodes) where
    pub decided_few : length commands < 2 ^ 15 → HasFew now
    decided_few =
        few walked tracks may client walker found any place less now table (map (said_by (any client)) nodes) (gone.each any)

    pub decided_counted : (kept : Kept) × IsCounted replies kept now
    decided_counted = ((gone.each any).kept, (gone.each any).counts.counted)

    module _ (made : Option Draft) (new : Counted) (later : List (Option ℕ)) (command : Command)
        (asks : slice_get commands place ≡ Some command) (decided : ℕ → ℕ → Decision) where
      -- the node of the draft by these decisions
      abbrev said : Draft → Node
      said draft = said_by (decided client) (drafted_node commands (found client) command.what place draft)

      abbrev as_draft : Draft → Draft
      as_draft draft = record { node = said draft; used = None }

      its_text : (draft : Draft)
          → said draft ≡ with_text (text_by (decided client place) command.what) (filled commands (found client) draft)
      its_text draft =
          ap (λ (t : Option (List ℕ)). with_text t (filled commands (found client) draft))
          (decider_text (decided client) command.what place)

      texts : (o : Option Draft) → node_list (option_map (filled commands (found client)) (option_map as_draft o))
          ≡ map (with_text (text_by (decided client place) command.what)) (node_list (option_map (filled commands (found client)) o))
      texts None = refl
      texts (Some draft) = ap (λ (n : Node). n ∷ []) (its_text draft)

      lists : (o : Option Draft) → map (said_by (decided client)) (drafted commands (found client) command.what place o)
          ≡ node_list (option_map (filled commands (found client)) (option_map as_draft o))
      lists None = refl
      lists (Some draft) = refl

      steps : (kept : Kept) (c : Command) (r : ReplyLine) → slice_get commands place ≡ Some c
          → StepsOn walked client place (found client) any_decision kept made new later c r
          → StepsOn walked client place (found client) (decided client place) kept (option_map as_draft made) new later c r
      steps kept c r at st = record {
        node = texts made
            ∙ (ap (λ (m : Command). map (with_text (text_by (decided client place) m.what))
            (node_list (option_map (filled commands (found client)) made))) (same_some (sym asks ∙ at))
            ∙ (ap (map (with_text (text_by (decided client place) c.what))) st.node
            ∙ sym (told_again (decided client place) any_decision (caller_of walked.script client) (log_walked walked)
            (kept_before c.what kept) c.what r.answer)));
        behind = st.behind;
      }

    pub decided_on : (made : Option Draft) (new : Counted) (later : List (Option ℕ)) (command : Command)
        → slice_get commands place ≡ Some command
        → ((f : ℕ → List Version) (kept : Kept) (c : Command) (r : ReplyLine) → FindKeys f replies
        → CountsFinding replies f kept now table → slice_get commands place ≡ Some c → slice_get replies place ≡ Some r
        → StepsOn walked client place f any_decision kept made new later c r)
        → FindsKeys walked.report found → new.ids ≤ now.ids + 1 → new.rows ≤ now.rows + 1 → (more : List DecidedNode)
        → more ≡ nodes ++ drafted commands (found client) command.what place made
        → AllGone walked client found (place + 1) new later more
    decided_on made new later command asks on keys ids rows more is = record {
      each = λ decided.
          let says = said_by (decided client) in
          gone_on walked tracks may client walker found decided place less now table (map says nodes) (gone.each decided)
          (option_map (as_draft made new later command asks decided) made) new later
          (λ kept c r counts at told. steps made new later command asks decided kept c r at
          (on (found client) kept c r (found_keys walked.report found keys client) counts at told)) ids rows (map says more)
          (ap (map says) is ∙ (map-append says nodes (drafted commands (found client) command.what place made)
          ∙ ap (λ (l : List Node). map says nodes ++ l) (lists made new later command asks decided made)));
    }

  pub decided_all : (place : ℕ) → length commands ≤ place → (now : Counted) (table : List (Option ℕ)) (nodes : List DecidedNode)
      → AllGone walked client found place now table nodes → AreDecidedOf walked found client nodes
  decided_all place past now table nodes gone decided =
      all_gone walked tracks may client walker found decided place past now table (map (said_by (decided client)) nodes)
      (gone.each decided)

-- OF ALL CLIENTS

-- those of the first so many clients are in a table
pub record HaveDecided (walked : Walked) (found : ℕ → ℕ → List Version) (count : ℕ) (table : List (List DecidedNode)) : Type 0 where
  pub many : length table ≡ count
  pub each : (client : ℕ) → client < count → AreDecidedOf walked found client (decided_at table client)

module _ (walked : Walked) (found : ℕ → ℕ → List Version) where
  pub decided_more : (count : ℕ) (table more : List (List DecidedNode)) (its : List DecidedNode)
      → AreDecidedOf walked found count its → more ≡ table ++ its ∷ [] → HaveDecided walked found count table
      → HaveDecided walked found (count + 1) more
  decided_more count table more its are longer has = record {
    many = ap length longer ∙ (length-append table (its ∷ []) ∙ ap (λ (n : ℕ). n + 1) has.many);
    each = λ client lt.
        subst (λ (t : List (List DecidedNode)). AreDecidedOf walked found client (decided_at t client)) (sym longer)
        (by_test _ (nat_lt client count)
        (λ t. let less = ltb-true client count t in
        let many = has.many in
        subst (AreDecidedOf walked found client) (sym (at_before table (its ∷ []) client [] (omega (arith, less, many))))
        (has.each client less))
        (λ f. let ge = ltb-false client count f in
        let many = has.many in
        let e : length table ≡ client = omega (arith, lt, ge, many) in
        subst (λ (n : ℕ). AreDecidedOf walked found n (decided_at (table ++ its ∷ []) n)) e
        (subst (AreDecidedOf walked found (length table)) (sym (at_last table its []))
        (subst (λ (n : ℕ). AreDecidedOf walked found n its) (sym many) are))));
  }

  pub decided_every : (count : ℕ) (table : List (List DecidedNode)) → length walked.report.clients ≤ count
      → HaveDecided walked found count table → AreDecided walked found table
  decided_every count table le has client =
      by_test _ (nat_lt client count)
      (λ t. has.each client (ltb-true client count t))
      (λ f decided. let ge = ltb-false client count f in
      let many = has.many in
      ap (map (said_by (decided client))) (at_past table client [] (omega (arith, ge, many)))
      ∙ sym (no_client walked.script walked.report found decided client (omega (arith, ge, le))))
