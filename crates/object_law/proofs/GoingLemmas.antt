-- The nodes of a client's commands, and their drafts, one command after another.
use Rattle.std.proofs.Common.{◌≡◌, ◌∙◌, refl, ap, sym, subst, ℕ, zero, suc, ◌+◌, ◌<◌, ◌≤◌, ◌^◌, List, [], ◌∷◌, ◌++◌, length, map, drop, append_assoc, append-nil, length-append, Option, Some, None, arith}
use Rattle.std.specs.Prelude.{nat_lt, slice_get, slice_index_or}
use Rattle.std.specs.Option.{option_map}
use Rattle.std.proofs.lemmas.Bool.{ltb-false, ltb-true}
use Rattle.std.proofs.lemmas.List.{drop_all, drop_more, map-append}
use Rattle.std.proofs.lemmas.Option.{get_or_from_slice_get, slice_get_within}
use Rattle.log_node.specs.declared.node.Node.{Node}
use Rattle.log_node.specs.declared.forms.Version.{Version}
use Rattle.log_node.proofs.CallerLemmas.{get_within}
use Rattle.part_fold.specs.declared.decision.Decision.{Decision}
use Rattle.col_core.specs.Log.{Log}
use Rattle.col_core.specs.Keeping.{Kept, nothing_kept}
use Rattle.col_core.proofs.CallerLemmas.{by_test}
use Rattle.script_text.specs.declared.script.Command.{Command}
use Rattle.script_text.specs.declared.script.Script.{Script}
use Rattle.report_text.specs.declared.report.ReplyLine.{ReplyLine}
use Rattle.report_text.specs.declared.report.Report.{Report}
use Rattle.lawful_run.specs.Callers.{Caller, caller_of, commands_of}
use Rattle.column_track.specs.Tracks.{Tracked}
use Rattle.lawful_run.specs.Refusals.{kept_before}
use Rattle.run_rules.specs.Nodes.{node_told, nodes_of, nodes_with}
use Rattle.run_rules.specs.Computing.{answer_to}
use Rattle.run_rules.specs.Told.{Step, kept_past}
use Rattle.run_rules.specs.Telling.{FindKeys, replies_in, replies_to, step_finding, steps_finding, unnamed}
use Rattle.object_law.specs.declared.drafts.Draft.{Draft}
use Rattle.object_law.specs.Drafts.{AreDrafts, AreDraftsOf, StepsOn, drafts_at, filled}
use Rattle.walk_law.specs.Finds.{CountsFinding, FindsKeys, node_list}
use Rattle.walk_law.specs.Keepings.{Counted, IsCounted}
use Rattle.object_law.specs.NodeTables.{AreNodes, nodes_at}
use Rattle.walk_law.specs.Walking.{HasFew, MayWalk, Walked, log_walked, places_printed}
use Rattle.object_law.proofs.FindingLemmas.{found_keys}
use Rattle.walk_law.proofs.CallerLemmas.{find_keys, keys_unnamed}
use Rattle.walk_law.proofs.CallerLemmas.{replies_many}

-- the nodes of steps whose reads find this
abbrev pub nodes_left : Walked → ℕ → (ℕ → List Version) → (ℕ → Decision) → Kept → List Command → List ReplyLine → List Node
nodes_left walked client found decided kept commands replies =
    nodes_of decided (log_walked walked) (caller_of walked.script client)
    (steps_finding (log_walked walked) (caller_of walked.script client) (places_printed walked client) found kept commands replies)

-- So many of a client's commands are gone over: the nodes of these stand before those of the commands that are left.
pub record Gone (walked : Walked) (client : ℕ) (found : ℕ → ℕ → List Version) (decided : ℕ → ℕ → Decision) (place : ℕ)
    (now : Counted) (table : List (Option ℕ)) (nodes : List Node) : Type 0 where
  pub kept : Kept
  -- what is found and decided from here on
  pub finds : ℕ → List Version
  pub finds_are : (k : ℕ) → finds k ≡ found client (place + k)
  pub decides : ℕ → Decision
  pub decides_are : (k : ℕ) → decides k ≡ decided client (place + k)
  pub counts : CountsFinding (replies_to walked.report client) (found client) kept now table
  pub all : nodes ++ nodes_left walked client finds decides kept (drop place (commands_of walked.script client))
      (drop place (replies_to walked.report client)) ≡ nodes_with walked.script walked.report found decided client
  pub ids : now.ids ≤ place
  pub rows : now.rows ≤ place

module _ (walked : Walked) (tracks : List Tracked) (may : MayWalk walked.script walked.report tracks) (client : ℕ)
    (walker : client < length walked.report.clients) (found : ℕ → ℕ → List Version) (decided : ℕ → ℕ → Decision) where
  abbrev log : Log
  log = log_walked walked

  abbrev caller : Caller
  caller = caller_of walked.script client

  abbrev commands : List Command
  commands = commands_of walked.script client

  abbrev replies : List ReplyLine
  replies = replies_to walked.report client

  pub begun : (now : Counted) (table : List (Option ℕ)) (nodes : List Node) → nodes ≡ []
      → CountsFinding replies (found client) nothing_kept now table → (now.ids ≡ 0) × (now.rows ≡ 0)
      → Gone walked client found decided 0 now table nodes
  begun now table nodes none counts few = record {
    kept = nothing_kept;
    finds = found client;
    finds_are = λ k. ap (found client) (let e : k ≡ 0 + k = omega arith in e);
    decides = decided client;
    decides_are = λ k. ap (decided client) (let e : k ≡ 0 + k = omega arith in e);
    counts = counts;
    all = ap (λ (l : List Node). l ++ nodes_with walked.script walked.report found decided client) none;
    ids = let e = few.0 in omega (arith, e);
    rows = let e = few.1 in omega (arith, e);
  }

  module _ (place : ℕ) (less : place < length commands) (now : Counted) (table : List (Option ℕ)) (nodes : List Node)
      (gone : Gone walked client found decided place now table nodes) where
    pub few : length commands < 2 ^ 15 → HasFew now
    few most = let i = gone.ids in let r = gone.rows in record {
      ids = omega (arith, i, less, most);
      rows = omega (arith, r, less, most);
    }

    rest : {A : Type 0} (xs : List A) (x : A) → slice_get xs place ≡ Some x → drop place xs ≡ x ∷ drop (place + 1) xs
    rest {A} xs x at =
        drop_more xs place x (slice_get_within xs place x at)
        ∙ ap (λ (y : A). y ∷ drop (place + 1) xs) (get_or_from_slice_get xs place x x at)

    module _ (made : Option Draft) (new : Counted) (later : List (Option ℕ)) (command : Command) (reply : ReplyLine)
        (asks : slice_get commands place ≡ Some command) (replied : slice_get replies place ≡ Some reply)
        (steps : StepsOn walked client place (found client) (decided client place) gone.kept made new later command reply)
        (ids : new.ids ≤ now.ids + 1) (rows : new.rows ≤ now.rows + 1) where
      -- the node of this step, if one is told of it
      abbrev its : List Node
      its = node_list (option_map (filled commands (found client)) made)

      abbrev step : List Version → Step
      step v = step_finding log caller (places_printed walked client) v gone.kept command reply

      abbrev left : List Version → List Node
      left v =
          nodes_left walked client (λ k. gone.finds (suc k)) (λ k. gone.decides (suc k)) (kept_past log caller (step v))
          (drop (place + 1) commands) (drop (place + 1) replies)

      abbrev told : Decision → List Version → List Node
      told d v = node_told d log caller (kept_before command.what gone.kept) command.what reply.answer ++ left v

      here : gone.finds 0 ≡ found client place
      here = gone.finds_are 0 ∙ ap (found client) (let e : place + 0 ≡ place = omega arith in e)

      says : gone.decides 0 ≡ decided client place
      says = gone.decides_are 0 ∙ ap (decided client) (let e : place + 0 ≡ place = omega arith in e)

      -- the nodes that were left are the one of this step, and those that are left now
      parted : nodes_left walked client gone.finds gone.decides gone.kept (drop place commands) (drop place replies)
          ≡ its ++ left (found client place)
      parted =
          ap (λ (cs : List Command). nodes_left walked client gone.finds gone.decides gone.kept cs (drop place replies))
          (rest commands command asks)
          ∙ (ap (λ (rs : List ReplyLine). nodes_left walked client gone.finds gone.decides gone.kept
          (command ∷ drop (place + 1) commands) rs) (rest replies reply replied)
          ∙ (ap (λ (v : List Version). told (gone.decides 0) v) here ∙ (ap (λ (d : Decision). told d (found client place)) says
          ∙ ap (λ (ns : List Node). ns ++ left (found client place)) (sym steps.node))))

      one_on : (more : List Node) → more ≡ nodes ++ its → Gone walked client found decided (place + 1) new later more
      one_on more is = record {
        kept = kept_past log caller (step (found client place));
        finds = λ k. gone.finds (suc k);
        finds_are = λ k. gone.finds_are (suc k) ∙ ap (found client) (let e : place + suc k ≡ place + 1 + k = omega arith in e);
        decides = λ k. gone.decides (suc k);
        decides_are = λ k. gone.decides_are (suc k) ∙ ap (decided client) (let e : place + suc k ≡ place + 1 + k = omega arith in e);
        counts = steps.behind;
        all = ap (λ (l : List Node). l ++ left (found client place)) is
            ∙ (append_assoc nodes its (left (found client place))
            ∙ (ap (λ (l : List Node). nodes ++ l) (sym parted) ∙ gone.all));
        ids = let i = gone.ids in omega (arith, i, ids);
        rows = let r = gone.rows in omega (arith, r, rows);
      }

    pub gone_on : (made : Option Draft) (new : Counted) (later : List (Option ℕ))
        → ((kept : Kept) (c : Command) (r : ReplyLine) → CountsFinding replies (found client) kept now table
        → slice_get commands place ≡ Some c → slice_get replies place ≡ Some r
        → StepsOn walked client place (found client) (decided client place) kept made new later c r)
        → new.ids ≤ now.ids + 1 → new.rows ≤ now.rows + 1 → (more : List Node)
        → more ≡ nodes ++ node_list (option_map (filled commands (found client)) made)
        → Gone walked client found decided (place + 1) new later more
    gone_on made new later on ids rows =
        let c = get_within commands place less in
        let r = get_within replies place (let many = replies_many walked tracks may client walker in omega (arith, less, many)) in
        one_on made new later c.0 r.0 c.1 r.1 (on gone.kept c.0 r.0 gone.counts c.1 r.1) ids rows

  -- all are gone over
  pub all_gone : (place : ℕ) → length commands ≤ place → (now : Counted) (table : List (Option ℕ)) (nodes : List Node)
      → Gone walked client found decided place now table nodes
      → nodes ≡ nodes_with walked.script walked.report found decided client
  all_gone place past now table nodes gone =
      sym (append-nil nodes)
      ∙ (ap (λ (cs : List Command). nodes ++ nodes_left walked client gone.finds gone.decides gone.kept cs
      (drop place replies)) (sym (drop_all place commands past)) ∙ gone.all)

-- a client that there is not has no nodes
pub no_client : (script : Script) (report : Report) (found : ℕ → ℕ → List Version) (decided : ℕ → ℕ → Decision) (client : ℕ)
    → length report.clients ≤ client → nodes_with script report found decided client ≡ []
no_client script report found decided client past =
    ap (λ (rs : List ReplyLine). nodes_left (record { script = script; report = report }) client (found client) (decided client) nothing_kept
    (commands_of script client) rs) (ap replies_in (get_past report.clients client past))
    ∙ none (commands_of script client) where
      get_past : {A : Type 0} (xs : List A) (n : ℕ) → length xs ≤ n → slice_get xs n ≡ None
      get_past [] n le = refl
      get_past (x ∷ xs) zero le = absurd (let f : ⊥ = omega (arith, le) in f)
      get_past (x ∷ xs) (suc n) le = get_past xs n (omega (arith, le))

      none : (cs : List Command)
          → nodes_left (record { script = script; report = report }) client (found client) (decided client) nothing_kept cs [] ≡ []
      none [] = refl
      none (c ∷ cs) = refl

-- DRAFTS

-- what nobody is named as the writer of is of the keys that replies show
unnamed_keys : (report : Report) → FindsKeys report (λ n k. unnamed (answer_to report n k))
unnamed_keys report n c there =
    subst (FindKeys (λ k. unnamed (answer_to report n k))) (ap replies_in there)
    (find_keys (λ k. unnamed (answer_to report n k)) (replies_to report n) (λ k. keys_unnamed (answer_to report n k)))

-- a draft, where there is one
abbrev pub draft_list : Option Draft → List Draft
draft_list None = []
draft_list (Some draft) = draft ∷ []

-- So many of a client's commands are gone over, and these are the drafts of their nodes, whatever reads find.
pub record AreGone (walked : Walked) (client : ℕ) (decided : ℕ → ℕ → Decision) (place : ℕ) (now : Counted) (table : List (Option ℕ))
    (drafts : List Draft) : Type 0 where
  pub each : (found : ℕ → ℕ → List Version) → FindsKeys walked.report found
      → Gone walked client found decided place now table (map (filled (commands_of walked.script client) (found client)) drafts)

module _ (walked : Walked) (tracks : List Tracked) (may : MayWalk walked.script walked.report tracks) (client : ℕ)
    (walker : client < length walked.report.clients) (decided : ℕ → ℕ → Decision) where
  pub drafts_begun : (now : Counted) (table : List (Option ℕ)) (drafts : List Draft) → drafts ≡ []
      → ((found : ℕ → List Version) → CountsFinding (replies_to walked.report client) found nothing_kept now table)
      → (now.ids ≡ 0) × (now.rows ≡ 0) → AreGone walked client decided 0 now table drafts
  drafts_begun now table drafts none counts few = record {
    each = λ found keys.
        begun walked tracks may client walker found decided now table _
        (ap (map (filled (commands_of walked.script client) (found client))) none) (counts (found client)) few;
  }

  module _ (place : ℕ) (less : place < length (commands_of walked.script client)) (now : Counted) (table : List (Option ℕ))
      (drafts : List Draft) (gone : AreGone walked client decided place now table drafts) where
    abbrev any : Gone walked client (λ n k. unnamed (answer_to walked.report n k)) decided place now table
        (map (filled (commands_of walked.script client) (λ k. unnamed (answer_to walked.report client k))) drafts)
    any = gone.each (λ n k. unnamed (answer_to walked.report n k)) (unnamed_keys walked.report)

    pub drafts_few : length (commands_of walked.script client) < 2 ^ 15 → HasFew now
    drafts_few =
        few walked tracks may client walker (λ n k. unnamed (answer_to walked.report n k)) decided place less now table _ any

    pub drafts_counted : (kept : Kept) × IsCounted (replies_to walked.report client) kept now
    drafts_counted = (any.kept, any.counts.counted)

    pub drafts_on : (made : Option Draft) (new : Counted) (later : List (Option ℕ))
        → ((found : ℕ → List Version) (kept : Kept) (c : Command) (r : ReplyLine) → FindKeys found (replies_to walked.report client)
        → CountsFinding (replies_to walked.report client) found kept now table
        → slice_get (commands_of walked.script client) place ≡ Some c → slice_get (replies_to walked.report client) place ≡ Some r
        → StepsOn walked client place found (decided client place) kept made new later c r)
        → new.ids ≤ now.ids + 1 → new.rows ≤ now.rows + 1 → (more : List Draft) → more ≡ drafts ++ draft_list made
        → AreGone walked client decided (place + 1) new later more
    drafts_on made new later on ids rows more is = record {
      each = λ found keys.
          let fill = filled (commands_of walked.script client) (found client) in
          gone_on walked tracks may client walker found decided place less now table (map fill drafts) (gone.each found keys) made new later
          (λ kept c r counts asks told. on (found client) kept c r (found_keys walked.report found keys client) counts asks told) ids rows
          (map fill more) (ap (map fill) is ∙ (map-append fill drafts (draft_list made)
          ∙ ap (λ (l : List Node). map fill drafts ++ l) (one fill made)));
    } where
      one : (fill : Draft → Node) (o : Option Draft) → map fill (draft_list o) ≡ node_list (option_map fill o)
      one fill None = refl
      one fill (Some d) = refl

  pub all_drafts : (place : ℕ) → length (commands_of walked.script client) ≤ place → (now : Counted) (table : List (Option ℕ))
      (drafts : List Draft) → AreGone walked client decided place now table drafts → AreDraftsOf walked decided client drafts
  all_drafts place past now table drafts gone found keys =
      all_gone walked tracks may client walker found decided place past now table _ (gone.each found keys)

-- OF ALL CLIENTS

module _ {A : Type 0} where
  pub none_left : (xs : List A) → length xs ≡ 0 → xs ≡ []
  none_left [] none = refl
  none_left (x ∷ xs) none = absurd (let f : ⊥ = omega (arith, none) in f)

  pub at_before : (xs ys : List A) (n : ℕ) (d : A) → n < length xs → slice_index_or (xs ++ ys) n d ≡ slice_index_or xs n d
  at_before [] ys n d lt = absurd (let f : ⊥ = omega (arith, lt) in f)
  at_before (x ∷ xs) ys zero d lt = refl
  at_before (x ∷ xs) ys (suc n) d lt = at_before xs ys n d (omega (arith, lt))

  pub at_last : (xs : List A) (x d : A) → slice_index_or (xs ++ x ∷ []) (length xs) d ≡ x
  at_last [] x d = refl
  at_last (y ∷ ys) x d = at_last ys x d

  pub at_past : (xs : List A) (n : ℕ) (d : A) → length xs ≤ n → slice_index_or xs n d ≡ d
  at_past [] n d le = refl
  at_past (x ∷ xs) zero d le = absurd (let f : ⊥ = omega (arith, le) in f)
  at_past (x ∷ xs) (suc n) d le = at_past xs n d (omega (arith, le))

-- the nodes of the first so many clients are in a table
pub record HasFirst (nodes : ℕ → List Node) (count : ℕ) (table : List (List Node)) : Type 0 where
  pub many : length table ≡ count
  pub each : (client : ℕ) → client < count → nodes_at table client ≡ nodes client

pub has_more : (nodes : ℕ → List Node) (count : ℕ) (table more : List (List Node)) (its : List Node) → its ≡ nodes count
    → more ≡ table ++ its ∷ [] → HasFirst nodes count table → HasFirst nodes (count + 1) more
has_more nodes count table more its is longer has = record {
  many = ap length longer ∙ (length-append table (its ∷ []) ∙ ap (λ (n : ℕ). n + 1) has.many);
  each = λ client lt.
      ap (λ (t : List (List Node)). nodes_at t client) longer
      ∙ by_test _ (nat_lt client count)
      (λ t. let less = ltb-true client count t in
      let many = has.many in
      at_before table (its ∷ []) client [] (omega (arith, less, many)) ∙ has.each client less)
      (λ f. let ge = ltb-false client count f in
      let e : client ≡ count = omega (arith, lt, ge) in
      ap (λ (n : ℕ). nodes_at (table ++ its ∷ []) n) (e ∙ sym has.many) ∙ (at_last table its [] ∙ (is ∙ ap nodes (sym e))));
}

-- and those of all, where the others have none
pub has_all : (nodes : ℕ → List Node) (count : ℕ) (table : List (List Node)) → HasFirst nodes count table
    → ((client : ℕ) → count ≤ client → nodes client ≡ []) → AreNodes nodes table
has_all nodes count table has none client =
    by_test _ (nat_lt client count)
    (λ t. has.each client (ltb-true client count t))
    (λ f. let ge = ltb-false client count f in
    let many = has.many in
    at_past table client [] (omega (arith, ge, many)) ∙ sym (none client ge))

-- so it is of drafts
pub record HaveFirst (walked : Walked) (decided : ℕ → ℕ → Decision) (count : ℕ) (table : List (List Draft)) : Type 0 where
  pub many : length table ≡ count
  pub each : (client : ℕ) → client < count → AreDraftsOf walked decided client (drafts_at table client)

module _ (walked : Walked) (decided : ℕ → ℕ → Decision) where
  pub have_more : (count : ℕ) (table more : List (List Draft)) (its : List Draft) → AreDraftsOf walked decided count its
      → more ≡ table ++ its ∷ [] → HaveFirst walked decided count table → HaveFirst walked decided (count + 1) more
  have_more count table more its are longer has = record {
    many = ap length longer ∙ (length-append table (its ∷ []) ∙ ap (λ (n : ℕ). n + 1) has.many);
    each = λ client lt.
        subst (λ (t : List (List Draft)). AreDraftsOf walked decided client (drafts_at t client)) (sym longer)
        (by_test _ (nat_lt client count)
        (λ t. let less = ltb-true client count t in
        let many = has.many in
        subst (AreDraftsOf walked decided client) (sym (at_before table (its ∷ []) client [] (omega (arith, less, many))))
        (has.each client less))
        (λ f. let ge = ltb-false client count f in
        let many = has.many in
        let e : length table ≡ client = omega (arith, lt, ge, many) in
        subst (λ (n : ℕ). AreDraftsOf walked decided n (drafts_at (table ++ its ∷ []) n)) e
        (subst (AreDraftsOf walked decided (length table)) (sym (at_last table its []))
        (subst (λ (n : ℕ). AreDraftsOf walked decided n its) (sym many) are))));
  }

  pub have_all : (count : ℕ) (table : List (List Draft)) → length walked.report.clients ≤ count → HaveFirst walked decided count table
      → AreDrafts walked decided table
  have_all count table le has client =
      by_test _ (nat_lt client count)
      (λ t. has.each client (ltb-true client count t))
      (λ f found keys. let ge = ltb-false client count f in
      let many = has.many in
      ap (map (filled (commands_of walked.script client) (found client))) (at_past table client [] (omega (arith, ge, many)))
      ∙ sym (no_client walked.script walked.report found decided client (omega (arith, ge, le))))
