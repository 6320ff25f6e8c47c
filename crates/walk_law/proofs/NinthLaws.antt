-- The ninth rule is what is looked at of each step.
use Rattle.std.proofs.Common.{◌≡◌, ◌∙◌, refl, ap, sym, subst, ℕ, ◌<◌, List, [], ◌∷◌, map, take, Option, Some, None, inl, inr}
use Rattle.std.specs.Prelude.{slice_get}
use Rattle.std.specs.List.{All, AllZip}
use Rattle.std.proofs.lemmas.List.Elements.{All-contains}
use Rattle.std.proofs.lemmas.Option.{slice_get-map}
use Rattle.std.specs.Option.{option_map}
use Rattle.log_node.specs.declared.ids.Id.{Id}
use Rattle.log_node.specs.declared.ids.Key.{Key}
use Rattle.log_node.specs.declared.node.Head.{Head}
use Rattle.log_node.specs.declared.node.Node.{Node}
use Rattle.log_node.specs.Seen.{PlacedNode}
use Rattle.log_node.proofs.CallerLemmas.{same_some}
use Rattle.col_core.specs.Cuts.{chain}
use Rattle.col_core.specs.History.{line}
use Rattle.col_core.specs.Keeping.{Kept}
use Rattle.col_core.specs.Log.{HasText, Log, first}
use Rattle.col_core.specs.PlayOrder.{Place, Stands}
use Rattle.col_core.proofs.CallerLemmas.{In, all_in, contains_in, in_contains, in_flat_map-back, in_map, in_map-back, slice_in}
use Rattle.script_text.specs.Fitting.{IsFitting, IsWithin}
use Rattle.script_text.specs.declared.commands.What.{What}
use Rattle.script_text.specs.declared.script.Script.{Script}
use Rattle.report_text.specs.declared.report.Answer.{Answer}
use Rattle.report_text.specs.declared.report.Answer.TheVariants as answers
use Rattle.report_text.specs.declared.report.ClientReport.{ClientReport}
use Rattle.report_text.specs.declared.report.ReplyLine.{ReplyLine}
use Rattle.report_text.specs.declared.report.Report.{Report}
use Rattle.report_text.specs.declared.report.SyncPiece.{SyncPiece}
use Rattle.lawful_run.specs.Callers.{Caller, caller_of}
use Rattle.lawful_run.specs.Deeds.{colours_synced}
use Rattle.lawful_run.specs.Reads.{AreKeysRead, ShowsKey, ShowsNode, lines_read}
use Rattle.run_rules.specs.Told.{Account, IsTold, OfEachStep, Step, Untold, kept_at}
use Rattle.run_rules.specs.Telling.{IsWellFormed, account_of}
use Rattle.run_rules.specs.Answering.{CanHave}
use Rattle.run_rules.specs.Nodes.{nodes_told}
use Rattle.run_rules.specs.Rules.{Rule1, Rule4}
use Rattle.run_rules.specs.Shown.{Shows}
use Rattle.run_rules.specs.Said.{node_lines, nodes_shown, shown_text, with_text}
use Rattle.run_rules.specs.Keeping.{RulesTo, all_replies}
use Rattle.run_rules.specs.Laws.{NodesChangeNoStep}
use Rattle.run_rules.proofs.CallerLemmas.{IsAbove, MovesNamed, NamesMoves, Obeys, head_above, home_within, key_above, obeys, reports_tell, rule1, rule2, rule3, rule4, rule5, shows_text, synced_within, zip_before, zip_mapped}
use Rattle.walk_law.specs.Ninth.{IsTextFirst, NinthIsShown, ShowsFirst, ShowsPlace, StepShows, key_shown, log_shown}

-- TEXTS

texts_in : (text : List ℕ) (node : Node) (o : Option (List ℕ)) → o ≡ Some text → (with_text o node).text ≡ text
texts_in text node None e = absurd (let f : ⊥ = cc (e) in f)
texts_in text node (Some other) e = same_some e

id_stays : (o : Option (List ℕ)) (node : Node) → (with_text o node).id ≡ node.id
id_stays None node = refl
id_stays (Some text) node = refl

module _ (script : Script) (report : Report) where
  abbrev showing : Node → Node
  showing node = with_text (shown_text report node.id) node

  -- a node that was told shows the text that is shown
  pub has_shown : (id : Id) (node : Node) (text : List ℕ) → slice_get (nodes_told script report id.client) id.count ≡ Some node
      → node.id ≡ id → shown_text report id ≡ Some text → HasText (log_shown script report) id text
  has_shown id node text there is shown = (
    showing node,
    slice_get-map showing (nodes_told script report id.client) id.count ∙ ap (option_map showing) there,
    id_stays (shown_text report node.id) node ∙ is,
    texts_in text node (shown_text report node.id) (ap (shown_text report) is ∙ shown),
  )

  -- what a node line shows of a node's text is what is shown first
  pub shows_first : (item : PlacedNode) → In item (node_lines report) → (id : Id) → id ≡ item.head.key.id
      → HasText (log_shown script report) id item.node.text → IsTextFirst report item
  shows_first item i id same (node, there, is, text) = turn (slice_get told count) refl where
    told : List Node
    told = nodes_told script report id.client

    count : ℕ
    count = id.count

    some : (t : List ℕ) × (shown_text report item.head.key.id ≡ Some t)
    some = shows_text report item i

    turn : (o : Option Node) → slice_get (nodes_told script report id.client) id.count ≡ o → IsTextFirst report item
    turn None e =
        let n : Option Node = None in
        let f : n ≡ Some node =
        sym (slice_get-map showing (nodes_told script report id.client) id.count ∙ ap (option_map showing) e) ∙ there in
        absurd (let g : ⊥ = cc (f) in g)
    turn (Some m) e =
        let same_node : showing m ≡ node =
        same_some (sym (slice_get-map showing (nodes_told script report id.client) id.count ∙ ap (option_map showing) e) ∙ there) in
        let its_id : m.id ≡ item.head.key.id =
        sym (id_stays (shown_text report m.id) m) ∙ (ap (λ (x : Node). x.id) same_node ∙ (is ∙ same)) in
        let first : (showing m).text ≡ some.0 = texts_in some.0 m (shown_text report m.id) (ap (shown_text report) its_id ∙ some.1) in
        some.1 ∙ ap (λ (t : List ℕ). Some t) (sym first ∙ (ap (λ (x : Node). x.text) same_node ∙ text))

-- STEP BY STEP

keys_of_zip : (log : Log) (keys : List Key) (nodes : List PlacedNode) → AllZip (ShowsKey log) keys nodes
    → keys ≡ map key_shown nodes
keys_of_zip log [] [] z = refl
keys_of_zip log [] (x ∷ xs) z = absurd z
keys_of_zip log (k ∷ ks) [] z = absurd z
keys_of_zip log (k ∷ ks) (x ∷ xs) z =
    ap (λ (y : Key). y ∷ ks) (sym z.0.0) ∙ ap (λ (l : List Key). key_shown x ∷ l) (keys_of_zip log ks xs z.1)

zip_of_keys : (log : Log) (nodes : List PlacedNode) → ((item : PlacedNode) → In item nodes → HasText log item.head.key.id item.node.text)
    → AllZip (ShowsKey log) (map key_shown nodes) nodes
zip_of_keys log [] has = tt
zip_of_keys log (x ∷ xs) has = ((refl, has x (inl refl)), zip_of_keys log xs (λ item i. has item (inr i)))

module _ (script : Script) (report : Report) (untold : Untold) (caller : Caller) (kept : Kept) (what : What)
    (nodes : List PlacedNode) where
  abbrev log : Log
  log = log_shown script report

  -- what the rule says is what is looked at
  pub looks : ((item : PlacedNode) → In item nodes → In item (node_lines report)) → (answer : Answer)
      → Shows log untold caller kept what nodes answer → ShowsFirst report log untold caller kept what nodes answer
  looks among (answers.Synced sync plays) x = (
    x.0,
    x.1,
    (
      x.2.order,
      x.2.played,
      zip_mapped (ShowsNode log caller sync.colour sync.events)
          (ShowsPlace (chain caller.own (first log caller.own sync.colour sync.events))) x.2.order nodes
          (λ place item i j r. (r.head, r.stands, r.key)) x.2.lines,
    ),
    all_in (IsTextFirst report) nodes (λ item i.
        let z = zip_before (ShowsNode log caller sync.colour sync.events) x.2.order nodes x.2.lines item i in
        shows_first script report item (among item i) z.2.head.key.id (ap (λ (k : Key). k.id) (sym z.2.key)) z.2.text),
  )
  looks among (answers.Scanned stamp count raises syncs) x = (
    x.0,
    x.1,
    subst (AreKeysRead log caller stamp syncs) (keys_of_zip log x.2 nodes x.4) x.3,
    all_in (IsTextFirst report) nodes (λ item i.
        let z = zip_before (ShowsKey log) x.2 nodes x.4 item i in
        shows_first script report item (among item i) z.0.id (ap (λ (k : Key). k.id) (sym z.2.0)) z.2.1),
  )
  looks among _ x = x

-- a sync's colour is one of the command's
synced_low : (script : Script) → IsFitting script → (n : ℕ) (what : What) → IsWithin script.shape.regions script.shape.colours what
    → (colours : List ℕ) → colours_synced (caller_of script n) what ≡ colours → (colour : ℕ) → In colour colours
    → colour < script.shape.colours
synced_low script fits n what within colours is colour i =
    synced_within script fits n what within colour (subst (In colour) (sym is) i)

module _ (script : Script) (report : Report) (fits : IsFitting script) (n : ℕ) where
  abbrev who : Caller
  who = caller_of script n

  abbrev full : Log
  full = log_shown script report

  -- the texts that are shown first of the nodes of chains and of lines are those of the log
  pub record HasTexts : Type 0 where
    pub of_chain : (colour events : ℕ) → colour < script.shape.colours → (place : Place) (head : Head)
        → Stands (chain who.own (first full who.own colour events)) place head → (text : List ℕ)
        → shown_text report head.key.id ≡ Some text → HasText full head.key.id text
    pub of_line : (colour events : ℕ) → colour < script.shape.colours → (key : Key)
        → In key (line (take events (full.histories who.own colour))) → (text : List ℕ)
        → shown_text report key.id ≡ Some text → HasText full key.id text

  -- what is looked at is what the rule says
  pub says : (untold : Untold) (kept : Kept) (what : What) (nodes : List PlacedNode) → HasTexts
      → IsWithin script.shape.regions script.shape.colours what → (answer : Answer)
      → CanHave who kept what nodes answer → ShowsFirst report full untold who kept what nodes answer
      → Shows full untold who kept what nodes answer
  says untold kept what nodes has within (answers.Synced sync plays) can x =
      let low = synced_low script fits n what within (sync.colour ∷ []) (ap (colours_synced who) can) sync.colour (inl refl) in (
        x.0,
        x.1,
        record {
          order = x.2.0;
          played = x.2.1;
          lines = zip_mapped (ShowsPlace (chain who.own (first full who.own sync.colour sync.events)))
              (ShowsNode full who sync.colour sync.events) x.2.0 nodes (λ place item i j r. record {
                head = r.0;
                stands = r.1;
                key = r.2;
                text = has.of_chain sync.colour sync.events low place r.0 r.1 item.node.text
                    (ap (λ (k : Key). shown_text report k.id) (sym r.2)
                    ∙ All-contains (IsTextFirst report) nodes item x.3 (contains_in nodes item j));
              }) x.2.2;
        },
      )
  says untold kept what nodes has within (answers.Scanned stamp count raises syncs) can x = (
    x.0,
    x.1,
    map key_shown nodes,
    x.2,
    zip_of_keys full nodes (λ item i.
        let keys = map key_shown nodes in
        let there = x.2.no_other (key_shown item) (contains_in keys (key_shown item) (in_map-back key_shown nodes item i)) in
        let read = in_map (λ (s : SyncPiece). line (take s.events (full.histories who.own s.colour))) syncs there.1
        (in_contains (lines_read full who syncs) there.1 there.2) in
        let low = synced_low script fits n what within (map (λ (s : SyncPiece). s.colour) syncs)
        (ap (colours_synced who) can.1 ∙ sym can.2.1) read.0.colour
        (in_map-back (λ (s : SyncPiece). s.colour) syncs read.0 read.1) in
        has.of_line read.0.colour read.0.events low (key_shown item)
        (subst (In (key_shown item)) (sym read.2) (in_contains there.1 (key_shown item) there.3)) item.node.text
        (All-contains (IsTextFirst report) nodes item x.3 (contains_in nodes item i))),
  )
  says untold kept what nodes has within _ can x = x

-- ALL STEPS

first_moves : (report : Report) (log : Log) (untold : Untold) (caller : Caller) (kept : Kept) (what : What)
    (nodes : List PlacedNode) (answer : Answer) → ShowsFirst report log untold caller kept what nodes answer → NamesMoves answer
first_moves report whole untold caller kept what nodes (answers.Pulled count give carry) x = (x.3, x.4)
first_moves report whole untold caller kept what nodes (answers.Based given base) x = (x.2, x.3)
first_moves report whole untold caller kept what nodes _ x = tt

module _ (law : NodesChangeNoStep) (script : Script) (report : Report) (fits : IsFitting script) (well : IsWellFormed script report)
    (rules : RulesTo script report (account_of script report (nodes_told script report)) 8) where
  abbrev told : Account
  told = account_of script report (nodes_told script report)

  abbrev shown : Account
  shown = account_of script report (nodes_shown script report)

  steps_are : (n : ℕ) → shown.steps n ≡ told.steps n
  steps_are n = (law script report (nodes_shown script report) n).0 ∙ sym (law script report (nodes_told script report) n).0

  is_told : IsTold script report told
  is_told = reports_tell script report (nodes_told script report) well

  five : RulesTo script report told 5
  five = rules.0.0.0

  r1 : Rule1 script report told
  r1 = rule1 five.0.0.0.0.1

  r4 : Rule4 script report told
  r4 = rule4 five.0.1

  module _ (n : ℕ) (c : ClientReport) (there : slice_get report.clients n ≡ Some c) where
    abbrev caller : Caller
    caller = caller_of script n

    -- the lines of a reply are the report's
    among : (s : Step) → In s (shown.steps n) → (item : PlacedNode) → In item s.reply.nodes → In item (node_lines report)
    among s i item j =
        let shown_is = reports_tell script report (nodes_shown script report) well in
        let reply : In s.reply c.replies =
        subst (In s.reply) (shown_is.clients n c there).replied (in_map-back (λ (t : Step). t.reply) (shown.steps n) s i) in
        in_flat_map-back (λ (r : ReplyLine). r.nodes) (all_replies report) s.reply item
        (in_flat_map-back (λ (d : ClientReport). d.replies) report.clients c s.reply (slice_in report.clients n c there) reply) j

    each_looks : All (λ (s : Step). Shows shown.log s.untold caller (kept_at s) s.command.what s.reply.nodes s.reply.answer)
        (shown.steps n) → All (StepShows script report report caller) (shown.steps n)
    each_looks all =
        all_in (StepShows script report report caller) (shown.steps n) (λ s i.
        looks script report s.untold caller (kept_at s) s.command.what s.reply.nodes (among s i) s.reply.answer
        (All-contains (λ (s : Step). Shows shown.log s.untold caller (kept_at s) s.command.what s.reply.nodes s.reply.answer)
        (shown.steps n) s all (contains_in (shown.steps n) s i)))

  module _ (all : OfEachStep script report shown (StepShows script report report)) where
    moves : MovesNamed script report told
    moves n c there =
        subst (All (λ (s : Step). NamesMoves s.reply.answer)) (steps_are n)
        (all_in (λ (s : Step). NamesMoves s.reply.answer) (shown.steps n) (λ s i.
        first_moves report shown.log s.untold (caller_of script n) (kept_at s) s.command.what s.reply.nodes s.reply.answer
        (All-contains (StepShows script report report (caller_of script n)) (shown.steps n) s (all n c there)
        (contains_in (shown.steps n) s i))))

    text_of : (key : Key) → IsAbove script report told fits is_told r1 (rule2 five.0.0.0.1) (rule3 five.0.0.1) r4 (rule5 five.1) moves key
        → (text : List ℕ) → shown_text report key.id ≡ Some text → HasText shown.log key.id text
    text_of key above text is = has_shown script report key.id above.node text above.there above.its_id is

    texts : (n : ℕ) (c : ClientReport) → slice_get report.clients n ≡ Some c → HasTexts script report fits n
    texts n c there = record {
      of_chain = λ colour events low place head stands.
          text_of head.key (head_above script report told fits is_told r1 (rule2 five.0.0.0.1) (rule3 five.0.0.1) r4 (rule5 five.1) moves
          (caller_of script n).own colour (home_within script report fits r1.names n c there, low) events place head stands);
      of_line = λ colour events low key i.
          text_of key (key_above script report told fits is_told r1 (rule2 five.0.0.0.1) (rule3 five.0.0.1) r4 (rule5 five.1) moves
          (caller_of script n).own colour (home_within script report fits r1.names n c there, low) key events i);
    }

    each_says : (n : ℕ) (c : ClientReport) → slice_get report.clients n ≡ Some c
        → All (λ (s : Step). Shows shown.log s.untold (caller_of script n) (kept_at s) s.command.what s.reply.nodes s.reply.answer)
        (shown.steps n)
    each_says n c there =
        all_in (λ (s : Step). Shows shown.log s.untold (caller_of script n) (kept_at s) s.command.what s.reply.nodes s.reply.answer)
        (shown.steps n) (λ s i.
        let o = All-contains (Obeys script told.log (caller_of script n)) (told.steps n) s (obeys script fits report told is_told r1 r4 n c there)
        (contains_in (told.steps n) s (subst (In s) (steps_are n) i)) in
        says script report fits n s.untold (kept_at s) s.command.what s.reply.nodes (texts n c there) o.within s.reply.answer o.can
        (All-contains (StepShows script report report (caller_of script n)) (shown.steps n) s (all n c there)
        (contains_in (shown.steps n) s i)))

pub ninth_is_shown : NodesChangeNoStep → NinthIsShown
ninth_is_shown law script report fits well rules = (
  λ all. record { shows = λ n c there. each_says law script report fits well rules all n c there },
  λ ninth n c there. each_looks law script report fits well rules n c there (ninth.shows n c there),
)
