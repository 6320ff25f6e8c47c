-- What reads found, computed one stamp after another, is what they had to find.
use Rattle.std.proofs.Common.{◌≡◌, ◌∙◌, refl, ap, sym, subst, false, ℕ, zero, suc, ◌<◌, ◌≤◌, List, [], ◌∷◌, ◌++◌, length, map, take, drop, take-append-drop, Option, Some, None, ◌⊎◌, inl, inr, arith}
use Rattle.std.specs.Prelude.{◌==◌, slice_get, slice_index_or}
use Rattle.std.specs.List.{AllZip, fold}
use Rattle.std.proofs.lemmas.Bool.{cases_lt, eq-eqb, eqb-true}
use Rattle.log_node.specs.declared.ids.Key.{Key}
use Rattle.log_node.specs.declared.node.Node.{Node}
use Rattle.log_node.specs.declared.forms.Version.{Version}
use Rattle.log_node.specs.Seen.{PlacedNode}
use Rattle.object_fold.specs.Nodes.{ObjectNode}
use Rattle.object_fold.specs.Transactions.{Write, versions_after, writer_of}
use Rattle.part_fold.specs.declared.decision.Decision.{Decision}
use Rattle.part_fold.specs.Laws.{DecisionsArePlain}
use Rattle.col_core.specs.declared.Entry.{Entry}
use Rattle.col_core.specs.Computed.{dated}
use Rattle.col_core.specs.Cuts.{entries_of}
use Rattle.col_core.specs.History.{line}
use Rattle.col_core.specs.Legal.{IsColumnHistory}
use Rattle.col_core.specs.Log.{Log}
use Rattle.col_core.specs.Keeping.{Kept, nothing_kept}
use Rattle.col_core.specs.RegionOrder.{IsRegionOrder}
use Rattle.col_core.proofs.CallerLemmas.{In, by_test, contains_in, entries_dated, if_false, if_true, in_contains, in_flat_map-back, in_map, lawful_beginning, line_rises, slice_in}
use Rattle.playback.specs.Laws.{RegionOrderIsLawful}
use Rattle.playback.specs.Merging.{AreRising, region_order}
use Rattle.script_text.specs.declared.commands.What.{What}
use Rattle.script_text.specs.declared.commands.What.TheVariants as whats
use Rattle.script_text.specs.declared.script.Command.{Command}
use Rattle.script_text.specs.declared.script.Script.{Script}
use Rattle.script_text.specs.Fitting.{IsFitting, IsWithin}
use Rattle.report_text.specs.declared.report.Answer.{Answer}
use Rattle.report_text.specs.declared.report.Answer.TheVariants as answers
use Rattle.report_text.specs.declared.report.ClientReport.{ClientReport}
use Rattle.report_text.specs.declared.report.KeyAnswer.{KeyAnswer}
use Rattle.report_text.specs.declared.report.RaisePiece.{RaisePiece}
use Rattle.report_text.specs.declared.report.ReplyLine.{ReplyLine}
use Rattle.report_text.specs.declared.report.Report.{Report}
use Rattle.report_text.specs.declared.report.SyncPiece.{SyncPiece}
use Rattle.lawful_run.specs.Callers.{Caller, caller_of, commands_of}
use Rattle.lawful_run.specs.Deeds.{colours_synced}
use Rattle.lawful_run.specs.Objects.{AreObjectNodes, IsObjectNode}
use Rattle.lawful_run.specs.Reads.{lines_read}
use Rattle.run_rules.specs.Told.{Account, AreKeysFound, IsTold, Step, kept_at, kept_past}
use Rattle.run_rules.specs.Telling.{FindKeys, IsWellFormed, places_shown, replies_in, replies_to, step_finding, steps_finding}
use Rattle.run_rules.specs.Answering.{AsksKeys, CanHave}
use Rattle.run_rules.specs.Nodes.{nodes_with}
use Rattle.run_rules.specs.Agreeing.{AreNodesAlike}
use Rattle.run_rules.specs.Finding.{HasItsFinds, IsFound}
use Rattle.run_rules.specs.Keeping.{Keeps, RulesTo, all_replies}
use Rattle.run_rules.specs.Computing.{account_finding, answer_in, answer_to, any_decisions, finds_below, finds_of, found_at, keys_shown, last_read, node_read, nodes_read, stamp_read, versions_told}
use Rattle.run_rules.specs.Laws.{ComputedFindsAreRight}
use Rattle.run_rules.proofs.Lists.{greatest_above, map_map, zip_at}
use Rattle.run_rules.proofs.Numbers.{keeps_fewer, rule1, rule2, rule3, rule4, rule5, rule9}
use Rattle.run_rules.proofs.Decided.{found_account_decides}
use Rattle.run_rules.proofs.FindsAlike.{FoundBelow, KeysStandAbove, SameFound, form_there, keys_above, write, writes_same}
use Rattle.run_rules.proofs.KeysTold.{column_of, moves_named}
use Rattle.run_rules.proofs.NodesAlike.{told_nodes_agree}
use Rattle.run_rules.proofs.OneAccount.{obeys, told_accounts_agree}
use Rattle.run_rules.proofs.Reached.{home_within, synced_within}
use Rattle.run_rules.proofs.ReportsTell.{finds_tell, keys_unnamed}
use Rattle.run_rules.proofs.ToldAlike.{mapped_below}

-- LINES

-- the line of a lawful history rises
line_rising : (own regions : ℕ) (h : List Entry) → IsColumnHistory own regions (dated own h) → AreRising (line h)
line_rising own regions h lawful i j d lt there =
    line_rises own regions (dated own h) lawful i j (slice_index_or (line h) i d) (slice_index_or (line h) j d) lt
    (at_index i (omega (arith, lt, there))) (at_index j there) where
      found : (xs : List Key) (n : ℕ) → n < length xs → slice_get xs n ≡ Some (slice_index_or xs n d)
      found [] n low = absurd (let f : ⊥ = omega (arith, low) in f)
      found (x ∷ xs) zero low = refl
      found (x ∷ xs) (suc n) low = found xs n (omega (arith, low))

      at_index : (n : ℕ) → n < length (line h) → slice_get (line (entries_of (dated own h))) n ≡ Some (slice_index_or (line h) n d)
      at_index n low = ap (λ (x : List Entry). slice_get (line x) n) (entries_dated own h) ∙ found (line h) n low

-- each key has its node by the log
pub nodes_there : (log : Log) (keys : List Key)
    → ((k : Key) → In k keys
    → (node : Node) × (slice_get (log.nodes k.id.client) k.id.count ≡ Some node) × (node.id ≡ k.id))
    → AreObjectNodes log keys (nodes_read log keys)
nodes_there log [] f = tt
nodes_there log (k ∷ ks) f =
    let its = f k (inl refl) in
    let node : ObjectNode = record { key = k; colours = its.0.colours; text = its.0.text } in
    let is : IsObjectNode log k node = record {
      appended = its.0;
      there = its.1;
      same = its.2;
      key_is = refl;
      colours = refl;
      text = refl;
    } in
    subst (λ (o : Option Node). AreObjectNodes log (k ∷ ks) (node_read k o ++ nodes_read log ks)) (sym its.1)
    (is, nodes_there log ks (λ m i. f m (inr i)))

-- STAMPS

-- of what was found the keys are those that are shown
keys_at : (now : ℕ) (log : Log) (caller : Caller) (answer : Answer) (found : List Version) → AreKeysFound found answer
    → AreKeysFound (found_at now log caller answer found) answer
keys_at now log caller (answers.GotKeys stamp shown raises syncs) found k =
    by_test _ (stamp == now)
    (λ t. ap (map (λ (v : Version). v.key)) (if_true (stamp == now) (versions_told log caller stamp shown syncs) found t)
    ∙ (map_map (λ (v : Version). v.key) _ (keys_shown shown) ∙ map_map (λ (key : List ℕ). key) (λ (a : KeyAnswer). a.key) shown))
    (λ f. ap (map (λ (v : Version). v.key)) (if_false (stamp == now) (versions_told log caller stamp shown syncs) found f) ∙ k)
keys_at now log caller _ found k = k

find_keys : (found : ℕ → List Version) (rs : List ReplyLine)
    → ((k : ℕ) → AreKeysFound (found k) (answer_in (slice_get rs k))) → FindKeys found rs
find_keys found [] f = tt
find_keys found (r ∷ rs) f = (f 0, find_keys (λ k. found (suc k)) rs (λ k. f (suc k)))

module _ (script : Script) (report : Report) where
  -- the log by what the reads below a stamp found
  abbrev log_at : ℕ → Log
  log_at now = (account_finding script report (finds_below script report now) any_decisions).log

  keys_below : (now n k : ℕ) → AreKeysFound (finds_below script report now n k) (answer_to report n k)
  keys_below zero n k = keys_unnamed (answer_to report n k)
  keys_below (suc now) n k =
      keys_at now (log_at now) (caller_of script n) (answer_to report n k) (finds_below script report now n k) (keys_below now n k)

  found_keys : (now n : ℕ) (c : ClientReport) → slice_get report.clients n ≡ Some c
      → FindKeys (finds_below script report now n) c.replies
  found_keys now n c there =
      subst (FindKeys (finds_below script report now n)) (ap replies_in there)
      (find_keys (finds_below script report now n) (replies_to report n) (keys_below now n))

  -- so it is of what all found
  pub found_keys_of : (n : ℕ) (c : ClientReport) → slice_get report.clients n ≡ Some c
      → FindKeys (finds_of script report n) c.replies
  found_keys_of = found_keys (suc (last_read (all_replies report)))

  -- a read found what it did when its own stamp had come
  found_then : (n k stamp : ℕ) (shown : List KeyAnswer) (raises : List RaisePiece) (syncs : List SyncPiece)
      → answer_to report n k ≡ answers.GotKeys stamp shown raises syncs → (now : ℕ) → stamp < now
      → finds_below script report now n k ≡ versions_told (log_at stamp) (caller_of script n) stamp shown syncs
  found_then n k stamp shown raises syncs e zero lt = absurd (let f : ⊥ = omega (arith, lt) in f)
  found_then n k stamp shown raises syncs e (suc now) lt =
      let before = finds_below script report now n k in
      let told = versions_told (log_at now) (caller_of script n) stamp shown syncs in
      ap (λ (a : Answer). found_at now (log_at now) (caller_of script n) a before) e
      ∙ by_test _ (stamp == now)
      (λ t. if_true (stamp == now) told before t
      ∙ ap (λ (w : ℕ). versions_told (log_at w) (caller_of script n) stamp shown syncs) (sym (eqb-true stamp now t)))
      (λ f. if_false (stamp == now) told before f
      ∙ found_then n k stamp shown raises syncs e now (by f (cases_lt stamp now))) where
        by : (stamp == now) ≡ false → (stamp < now) ⊎ (now ≤ stamp) → stamp < now
        by f (inl less) = less
        by f (inr le) =
            let same : stamp ≡ now = omega (arith, lt, le) in
            let t = eq-eqb stamp now same in absurd (let g : ⊥ = cc (t, f) in g)

  -- so below a stamp it is the same whichever stamp came last
  found_alike : (low high : ℕ) → low ≤ high → (n k : ℕ) (what : What) (answer : Answer) → answer_to report n k ≡ answer
      → SameFound low what answer (finds_below script report low n k) (finds_below script report high n k)
  found_alike low high le n k (whats.Read object asked) (answers.GotKeys stamp shown raises syncs) e = λ lt.
      found_then n k stamp shown raises syncs e low lt ∙ sym (found_then n k stamp shown raises syncs e high (omega (arith, lt, le)))
  found_alike low high le n k _ _ e = tt

  below_last : (n : ℕ) (c : ClientReport) → slice_get report.clients n ≡ Some c → (k : ℕ)
      → stamp_read (answer_to report n k) ≤ last_read (all_replies report)
  below_last n c there k = by (slice_get (replies_to report n) k) refl where
    by : (o : Option ReplyLine) → slice_get (replies_to report n) k ≡ o
        → stamp_read (answer_in o) ≤ last_read (all_replies report)
    by None e = omega arith
    by (Some r) e =
        (greatest_above (λ (x : ReplyLine). stamp_read x.answer) (all_replies report) 0).1 r
        (in_flat_map-back (λ (d : ClientReport). d.replies) report.clients c r (slice_in report.clients n c there)
        (slice_in c.replies k r (ap (λ (rs : List ReplyLine). slice_get rs k) (sym (ap replies_in there)) ∙ e)))

-- STEPS

-- of steps of the same commands with the same replies
steps_alike : (w : ℕ) (one two : Log) (caller : Caller) (shown : ℕ → ℕ → List ℕ) (f g : ℕ → List Version) (a b : Kept)
    (cs : List Command) (rs : List ReplyLine)
    → ((k : ℕ) (what : What) → SameFound w what (answer_in (slice_get rs k)) (f k) (g k))
    → AllZip (FoundBelow w) (steps_finding one caller shown f a cs rs) (steps_finding two caller shown g b cs rs)
steps_alike w one two caller shown f g a b [] rs same = tt
steps_alike w one two caller shown f g a b (c ∷ cs) [] same = tt
steps_alike w one two caller shown f g a b (c ∷ cs) (r ∷ rs) same = (
  same 0 c.what,
  steps_alike w one two caller shown (λ k. f (suc k)) (λ k. g (suc k))
      (kept_past one caller (step_finding one caller shown (f 0) a c r))
      (kept_past two caller (step_finding two caller shown (g 0) b c r)) cs rs (λ k. same (suc k)),
)

-- a step has the reply of its number, and found what that found
step_there : (log : Log) (caller : Caller) (shown : ℕ → ℕ → List ℕ) (f : ℕ → List Version) (a : Kept) (cs : List Command)
    (rs : List ReplyLine) (k : ℕ) (d : Step) → k < length (steps_finding log caller shown f a cs rs)
    → ((slice_index_or (steps_finding log caller shown f a cs rs) k d).untold.found ≡ f k)
    × (answer_in (slice_get rs k) ≡ (slice_index_or (steps_finding log caller shown f a cs rs) k d).reply.answer)
step_there log caller shown f a [] rs k d lt = absurd (let e : ⊥ = omega (arith, lt) in e)
step_there log caller shown f a (c ∷ cs) [] k d lt = absurd (let e : ⊥ = omega (arith, lt) in e)
step_there log caller shown f a (c ∷ cs) (r ∷ rs) zero d lt = (refl, refl)
step_there log caller shown f a (c ∷ cs) (r ∷ rs) (suc k) d lt =
    step_there log caller shown (λ n. f (suc n)) (kept_past log caller (step_finding log caller shown (f 0) a c r)) cs rs k d
    (omega (arith, lt))

-- ACCOUNTS

-- keys stand above the nodes of one account where they do so above those of one that agrees
pub keys_move : (script : Script) (report : Report) (a b : Account) → IsFitting script → IsTold script report a
    → IsTold script report b → RulesTo script report a 5 → RulesTo script report b 5 → KeysStandAbove script report a.log
    → KeysStandAbove script report b.log
keys_move script report a b fits ta tb ra rb above r k has key events i =
    let agree = told_accounts_agree script report a b fits ta tb ra.0 rb.0 in
    let its = above r k has key events
    (subst (λ (h : List Entry). In key (line (take events h))) (sym (agree.histories r k has)) i) in
    let n = key.id.client in
    let beside = zip_at AreNodesAlike (a.log.nodes n) (b.log.nodes n)
    (told_nodes_agree script report a b fits ta tb ra rb n its.client its.shown) key.id.count its.node its.there in record {
      client = its.client;
      shown = its.shown;
      node = beside.0;
      there = beside.1;
      its_id = sym beside.2.id ∙ its.its_id;
      below = subst (λ (m : ℕ). m < key.stamp) beside.2.floor its.below;
    }

module _ (lawful : RegionOrderIsLawful) (plain : DecisionsArePlain) (script : Script) (report : Report)
    (fits : IsFitting script) (keeps : Keeps script report 9) where
  -- the account by what the reads below a stamp found
  module _ (now : ℕ) (decided : ℕ → ℕ → Decision) where
    abbrev found : ℕ → ℕ → List Version
    found = finds_below script report now

    abbrev account : Account
    account = account_finding script report found decided

    five : IsWellFormed script report × RulesTo script report account 5
    five = (found_account_decides script report found decided fits (found_keys script report now) 5 (omega arith) (omega arith)).0
        (keeps_fewer script report 5 9 (omega arith) keeps)

    told : IsTold script report account
    told = finds_tell script report (nodes_with script report found decided) found five.0 (found_keys script report now)

    above : KeysStandAbove script report account.log
    above = keys_move script report keeps.0 account fits keeps.1 told keeps.2.0.0.0.0 five.1
        (keys_above script report keeps.0 fits keeps.1 keeps.2)

  module _ (decided : ℕ → ℕ → Decision) where
    abbrev end : ℕ
    end = suc (last_read (all_replies report))

    abbrev full : Account
    full = account end decided

    rules : RulesTo script report full 5
    rules = (five end decided).1

    module _ (n : ℕ) (c : ClientReport) (there : slice_get report.clients n ≡ Some c) where
      abbrev who : Caller
      who = caller_of script n

      home : who.own < script.shape.regions
      home = home_within script report fits (rule1 rules.0.0.0.0.1).names n c there

      column_lawful : (colour : ℕ) → colour < script.shape.colours
          → IsColumnHistory who.own script.shape.regions (dated who.own (full.log.histories who.own colour))
      column_lawful colour lt =
          let r = keeps.2 in
          let agree = told_accounts_agree script report keeps.0 full fits keeps.1 (told end decided) r.0.0.0.0.0 rules.0 in
          subst (λ (h : List Entry). IsColumnHistory who.own script.shape.regions (dated who.own h))
          (agree.histories who.own colour (home, lt))
          (column_of script report keeps.0 fits keeps.1 (rule1 r.0.0.0.0.0.0.0.0.1) (rule2 r.0.0.0.0.0.0.0.1)
          (rule3 r.0.0.0.0.0.0.1) (rule4 r.0.0.0.0.0.1) (rule5 r.0.0.0.0.1) (moves_named script report keeps.0 (rule9 r.1)) who.own colour (home, lt)).0

      -- what a read found, by the texts that those of lower stamps leave, is what it is by all texts
      module _ (stamp : ℕ) (syncs : List SyncPiece)
          (low : (s : SyncPiece) → In s syncs → s.colour < script.shape.colours) where
        abbrev then_log : Log
        then_log = log_at script report stamp

        abbrev lines : List (List Key)
        lines = lines_read full.log who syncs

        abbrev keys : List Key
        keys = region_order stamp lines

        -- a line that was read is that of a column
        of_line : (l : List Key) → In l lines
            → (s : SyncPiece) × In s syncs × (line (take s.events (full.log.histories who.own s.colour)) ≡ l)
        of_line l i = in_map (λ (s : SyncPiece). line (take s.events (full.log.histories who.own s.colour))) syncs l i

        rising : (l : List Key) → In l lines → AreRising l
        rising l i =
            let s = of_line l i in
            let h = full.log.histories who.own s.0.colour in
            subst AreRising s.2 (line_rising who.own script.shape.regions (take s.0.events h)
            (lawful_beginning who.own script.shape.regions (take s.0.events h) (drop s.0.events h)
            (subst (λ (x : List Entry). IsColumnHistory who.own script.shape.regions (dated who.own x))
            (sym (take-append-drop s.0.events h))
            (column_lawful s.0.colour (low s.0 s.1)))))

        ordered : IsRegionOrder lines stamp keys
        ordered = lawful stamp lines (λ l j. rising l (in_contains lines l j))

        -- so is a key
        of_key : (k : Key) → In k keys
            → (s : SyncPiece) × In s syncs × In k (line (take s.events (full.log.histories who.own s.colour)))
            × (k.stamp ≤ stamp)
        of_key k i =
            let o = ordered.no_other k (contains_in keys k i) in
            let s = of_line o.1 (in_contains lines o.1 o.2) in
            (s.0, s.1, subst (In k) (sym s.2) (in_contains o.1 k o.3), o.0)

        stands : (log : Log) → KeysStandAbove script report log
            → ((r k : ℕ) → log.histories r k ≡ full.log.histories r k) → (k : Key) → In k keys
            → (node : Node) × (slice_get (log.nodes k.id.client) k.id.count ≡ Some node) × (node.id ≡ k.id)
        stands log keys_are same k i =
            let s = of_key k i in
            let its = keys_are who.own s.0.colour (home, low s.0 s.1) k s.0.events
            (subst (λ (h : List Entry). In k (line (take s.0.events h))) (sym (same who.own s.0.colour)) s.2) in
            (its.node, its.there, its.its_id)

        nodes_then : AreObjectNodes then_log keys (nodes_read then_log keys)
        nodes_then = nodes_there then_log keys (stands then_log (above stamp any_decisions) (λ r k. refl))

        nodes_now : AreObjectNodes full.log keys (nodes_read full.log keys)
        nodes_now = nodes_there full.log keys (stands full.log (above end decided) (λ r k. refl))

        alike : (m : ℕ) (d : ClientReport) → slice_get report.clients m ≡ Some d → stamp ≤ end
            → AllZip (FoundBelow stamp) ((account stamp any_decisions).steps m) (full.steps m)
        alike m d shown le =
            steps_alike stamp then_log full.log (caller_of script m) (places_shown script report m)
            (finds_below script report stamp m) (finds_below script report end m) nothing_kept nothing_kept
            (commands_of script m) (replies_to report m)
            (λ k what. found_alike script report stamp end le m k what (answer_to report m k) refl)

        writes_then : stamp ≤ end → fold write [] (nodes_read then_log keys) ≡ fold write [] (nodes_read full.log keys)
        writes_then le =
            writes_same then_log full.log keys (nodes_read then_log keys) (nodes_read full.log keys) nodes_then nodes_now
            (λ k i x y ix iy.
            let s = of_key k i in
            form_there plain script report (account stamp any_decisions) full fits (told stamp any_decisions) (told end decided)
            (five stamp any_decisions).1 rules (above stamp any_decisions) stamp (λ m d shown. alike m d shown le)
            who.own s.0.colour (home, low s.0 s.1) k s.0.events s.2 s.3 x y ix iy) []

      right_at : (k : ℕ) (what : What) (answer : Answer) (found_there : List Version)
          → IsWithin script.shape.regions script.shape.colours what → (kept : Kept) (nodes : List PlacedNode)
          → CanHave who kept what nodes answer → answer_to report n k ≡ answer
          → found_there ≡ finds_below script report end n k → IsFound full.log who what answer found_there
      right_at k (whats.Read object asked) (answers.GotKeys stamp shown raises syncs) found_there within kept nodes can e f =
          let low : (s : SyncPiece) → In s syncs → s.colour < script.shape.colours =
          λ s i. mapped_below script.shape.colours (λ (p : SyncPiece). p.colour) syncs
          (colours_synced who (whats.Read object asked)) can.2.1
          (synced_within script fits n (whats.Read object asked) within) s i in
          let last : stamp ≤ last_read (all_replies report) =
          subst (λ (a : Answer). stamp_read a ≤ last_read (all_replies report)) e (below_last script report n c there k) in (
            keys stamp syncs low,
            ordered stamp syncs low,
            nodes_read full.log (keys stamp syncs low),
            nodes_now stamp syncs low,
            f ∙ (found_then script report n k stamp shown raises syncs e end (omega (arith, last))
                ∙ (ap (λ (ws : List Write). map (λ (key : List ℕ). record { key = key; writer = writer_of ws key }) (keys_shown shown))
                (writes_then stamp syncs low (omega (arith, last)))
                ∙ ap (versions_after (nodes_read full.log (keys stamp syncs low))) (asked_shown can.1))),
          ) where
            asked_shown : AsksKeys (whats.Read object asked) (keys_shown shown) → keys_shown shown ≡ asked
            asked_shown (inl g) = absurd (let h = g.1 in let z : ⊥ = cc (h) in z)
            asked_shown (inr g) = let h = g.1 in cc (h)
      right_at k _ _ found_there within kept nodes can e f = tt

    right : HasItsFinds script report full
    right = record {
      found = λ n c there k d lt.
          let steps = full.steps n in
          let s = slice_index_or steps k d in
          let its = step_there full.log (caller_of script n) (places_shown script report n) (finds_below script report end n)
          nothing_kept (commands_of script n) (replies_to report n) k d lt in
          let o = obeys script fits report full (told end decided) (rule1 rules.0.0.0.0.1) (rule4 rules.0.1) n c there k d lt in
          right_at n c there k s.command.what s.reply.answer s.untold.found o.within (kept_at s) s.reply.nodes o.can its.1 its.0;
    }

pub computed_finds_are_right : RegionOrderIsLawful → DecisionsArePlain → ComputedFindsAreRight
computed_finds_are_right lawful plain script report decided fits keeps = right lawful plain script report fits keeps decided
