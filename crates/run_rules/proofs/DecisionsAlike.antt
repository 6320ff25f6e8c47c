-- What decisions say is one family: each account that keeps all rules has what is computed, one stamp after another.
use Rattle.std.proofs.Common.{◌≡◌, ◌∙◌, refl, ap, sym, subst, Bool, false, cond, ℕ, zero, suc, ◌<◌, ◌≤◌, List, [], ◌∷◌, length, take, drop, take-append-drop, reverse, Option, Some, None, ◌⊎◌, inl, inr, arith}
use Rattle.std.specs.Prelude.{◌==◌, ◌≢◌, slice_get}
use Rattle.std.specs.List.{AllPairs, AllZip, list_any, range_with_len}
use Rattle.std.specs.Option.{option_map}
use Rattle.std.proofs.lemmas.Bool.{cases_lt, eq-eqb, eqb-true}
use Rattle.std.proofs.lemmas.List.Elements.{All-contains}
use Rattle.log_node.specs.declared.ids.Key.{Key}
use Rattle.log_node.specs.declared.limits.TheConstants.{MAX_COLOURS}
use Rattle.log_node.specs.declared.node.Node.{Node}
use Rattle.log_node.specs.Sets.{members}
use Rattle.log_node.specs.Standings.{Standing}
use Rattle.log_node.specs.Vectors.{at}
use Rattle.object_form.specs.Readings.{form_of}
use Rattle.object_fold.specs.Nodes.{ObjectNode}
use Rattle.tree_fold.specs.Readings.{change_of}
use Rattle.part_fold.specs.declared.decision.Decision.{Decision}
use Rattle.part_fold.specs.Agreement.{part_at}
use Rattle.part_fold.specs.Decisions.{decision_text}
use Rattle.part_fold.specs.Laws.{DecisionsArePlain}
use Rattle.part_fold.specs.Parts.{undecided_after}
use Rattle.col_core.specs.declared.Entry.{Entry}
use Rattle.col_core.specs.Computed.{dated}
use Rattle.col_core.specs.History as history
use Rattle.col_core.specs.History.{line}
use Rattle.col_core.specs.Laws.{RegionOrderIsUnique}
use Rattle.col_core.specs.Legal.{IsColumnHistory}
use Rattle.col_core.specs.Log.{Log}
use Rattle.col_core.specs.Keeping.{Kept, updated, updated_at}
use Rattle.col_core.proofs.CallerLemmas.{In, IsLawfulPast, any_in, by_test, clock, clock-of, contains_in, dated-is_dated, entries-of, entry_within, if_false, if_true, in_filter-back, in_flat_map-back, in_line, in_take, lawful_beginning, lawful_past, range_has, slice_in}
use Rattle.playback.specs.Laws.{RegionOrderIsLawful}
use Rattle.script_text.specs.Apart.{colours_of}
use Rattle.script_text.specs.Commands.{use_of}
use Rattle.script_text.specs.declared.commands.What.{What}
use Rattle.script_text.specs.declared.script.Command.{Command}
use Rattle.script_text.specs.declared.script.Object.{Object}
use Rattle.script_text.specs.declared.script.Script.{Script}
use Rattle.script_text.specs.declared.uses.Use.{Use}
use Rattle.script_text.specs.declared.uses.Use.TheVariants.{OfLog, OfObject}
use Rattle.script_text.specs.Fitting.{IsFitting}
use Rattle.script_text.proofs.CallerLemmas.{colours_few}
use Rattle.report_text.specs.declared.report.Answer.{Answer}
use Rattle.report_text.specs.declared.report.Answer.TheVariants as answers
use Rattle.report_text.specs.declared.report.ClientReport.{ClientReport}
use Rattle.report_text.specs.declared.report.ReplyLine.{ReplyLine}
use Rattle.report_text.specs.declared.report.SyncPiece.{SyncPiece}
use Rattle.report_text.specs.declared.report.Report.{Report}
use Rattle.lawful_run.specs.Asks.{kind_asked, kind_used, object_colours, rising}
use Rattle.lawful_run.specs.Callers.{Caller, caller_of}
use Rattle.lawful_run.specs.Objects.{AreObjectNodes, IsObjectNode, own_played}
use Rattle.lawful_run.specs.Parts.{OfNodesPlayed, OfPart, WaitsFor}
use Rattle.lawful_run.specs.Reads.{kept_after_piece}
use Rattle.run_rules.specs.Told.{Account, IsTold, Step, kept_at, kept_deciding}
use Rattle.run_rules.specs.Telling.{IsWellFormed, replies_in}
use Rattle.run_rules.specs.Answering.{CanHave}
use Rattle.run_rules.specs.Shown.{PartAnswers, SaysSo, Shows}
use Rattle.run_rules.specs.Agreeing.{Agree, AreNodesAlike, HasColumn}
use Rattle.run_rules.specs.Finding.{AgreeOnFinds, DecideSame, DecisionsSame}
use Rattle.run_rules.specs.Computing.{answer_in, answer_to, finds_of, nodes_read}
use Rattle.run_rules.specs.Deciding.{ColoursDiffer, account_deciding, colours_named, colours_used, decided_at, decisions_below, decisions_of, key_or, last_decided, stamp_decided, place_in, waited_for}
use Rattle.run_rules.specs.Keeping.{RulesTo, all_replies, rule_count}
use Rattle.run_rules.specs.Laws.{ComputedDecisionsDecide, ToldDecisionsAgree}
use Rattle.run_rules.proofs.AnswersAlike.{waits_same}
use Rattle.run_rules.proofs.BareObjects.{AreAlike}
use Rattle.run_rules.proofs.ByNumber.{Numbered, all_numbered, numbered_more}
use Rattle.run_rules.proofs.ComputedFinds.{found_keys_of, keys_move, nodes_there}
use Rattle.run_rules.proofs.ComputedRules.{agree, computed_finds_keep, eight, five, five_told, told}
use Rattle.run_rules.proofs.Decided.{first}
use Rattle.run_rules.proofs.FindsAlike.{KeysStandAbove, keys_above, zip_both, zip_each}
use Rattle.run_rules.proofs.Deciding.{decide_synced}
use Rattle.run_rules.proofs.DecisionTexts.{SaysBelow, TextBelow, texts_below}
use Rattle.run_rules.proofs.DecisionsSaid.{decisions_said}
use Rattle.run_rules.proofs.KeysTold.{column_of, moves_named}
use Rattle.run_rules.proofs.LeftOut.{Obeys}
use Rattle.run_rules.proofs.Lists.{all_at, greatest_above, slice_mapped, zip_at}
use Rattle.run_rules.proofs.NodesAlike.{told_nodes_agree}
use Rattle.run_rules.proofs.Numbers.{AllRules, all_of, rules_fewer}
use Rattle.run_rules.proofs.OneAccount.{obeys, told_accounts_agree}
use Rattle.run_rules.proofs.Reached.{home_within, synced_within}

-- COLOURS

-- a colour's place among colours of which each is there once
place_is : (colours : List ℕ) → AllPairs (λ (a b : ℕ). a ≢ b) colours → (place colour : ℕ) → slice_get colours place ≡ Some colour
    → place_in colour colours ≡ place
place_is [] apart place colour e = absurd (let f : ⊥ = cc (e) in f)
place_is (c ∷ cs) apart zero colour e =
    let same : c ≡ colour = cc (e) in
    if_true (c == colour) 0 (suc (place_in colour cs)) (eq-eqb c colour same)
place_is (c ∷ cs) apart (suc place) colour e =
    by_test _ (c == colour)
    (λ t.
    let there = contains_in cs colour (slice_in cs place colour e) in
    let lt = there.1 in
    absurd (apart 0 (suc there.0) colour (omega arith) (omega (arith, lt)) (eqb-true c colour t ∙ sym there.2)))
    (λ f. if_false (c == colour) 0 (suc (place_in colour cs)) f
    ∙ ap (λ (k : ℕ). suc k)
    (place_is cs (λ k m d lt within. apart (suc k) (suc m) d (omega (arith, lt)) (omega (arith, within))) place colour e))

-- each colour of an object is among them in rising number
in_rising : (colours : List ℕ) (colour : ℕ) → In colour colours → colour < MAX_COLOURS → In colour (rising colours)
in_rising colours colour i lt =
    in_filter-back (λ (c : ℕ). list_any (λ d. d == c) colours) colour (range_with_len 0 MAX_COLOURS)
    (range_has 0 MAX_COLOURS colour (omega arith) (omega (arith, lt)))
    (any_in (λ (d : ℕ). d == colour) colours colour i (eq-eqb colour colour refl))

-- STAMPS

-- no key in the line of a lawful history is above its clock
within_clock : (own regions : ℕ) (h : List Entry) → IsColumnHistory own regions (dated own h) → (key : Key) → In key (line h)
    → key.stamp ≤ history.clock h
within_clock own regions h legal key i =
    let past : IsLawfulPast (reverse h) =
    subst (λ (es : List Entry). IsLawfulPast (reverse es)) (dated-is_dated own h).same
    (lawful_past own regions (dated own h) legal) in
    let s = in_line (history.entries h) key i in
    let there = subst (λ (es : List Standing). In s.0 es) (entries-of h) s.1 in
    subst (λ (m : ℕ). key.stamp ≤ m) (sym (clock-of h))
    (subst (λ (k : Key). k.stamp ≤ clock (reverse h)) s.2 (entry_within (reverse h) past s.0 there))

-- NODES

-- nodes of keys by two logs, each alike
objects_alike : (one two : Log) (keys : List Key) (xs ys : List ObjectNode) → AreObjectNodes one keys xs
    → AreObjectNodes two keys ys
    → ((k : Key) → In k keys → (x y : ObjectNode) → IsObjectNode one k x → IsObjectNode two k y → AreAlike (Unit {0}) x y)
    → AllZip (AreAlike (Unit {0})) xs ys
objects_alike one two [] [] [] p q f = tt
objects_alike one two [] (x ∷ xs) ys p q f = absurd p
objects_alike one two [] [] (y ∷ ys) p q f = absurd q
objects_alike one two (k ∷ ks) [] ys p q f = absurd p
objects_alike one two (k ∷ ks) (x ∷ xs) [] p q f = absurd q
objects_alike one two (k ∷ ks) (x ∷ xs) (y ∷ ys) p q f =
    (f k (inl refl) x y p.0 q.0, objects_alike one two ks xs ys p.1 q.1 (λ m i. f m (inr i)))

-- nodes that two logs have under a key, of which these are alike and have one text
alike_there : (one two : Log) (k : Key) (x y : ObjectNode) → IsObjectNode one k x → IsObjectNode two k y → (p q : Node)
    → slice_get (one.nodes k.id.client) k.id.count ≡ Some p → slice_get (two.nodes k.id.client) k.id.count ≡ Some q
    → AreNodesAlike p q → p.text ≡ q.text → AreAlike (Unit {0}) x y
alike_there one two k x y ix iy p q ep eq alike text =
    let sx = ix.there in
    let sy = iy.there in
    let px : ix.appended ≡ p = cc (sx, ep) in
    let py : iy.appended ≡ q = cc (sy, eq) in
    let same : x.text ≡ y.text =
    ix.text ∙ (ap (λ (m : Node). m.text) px ∙ (text ∙ (ap (λ (m : Node). m.text) (sym py) ∙ sym iy.text))) in record {
      key = ix.key_is ∙ sym iy.key_is;
      form = ap form_of same;
      change = ap change_of same;
      text = λ d. same;
      colours = ap members ix.colours ∙ (ap (λ (m : Node). members m.colours) px
          ∙ (alike.colours ∙ (ap (λ (m : Node). members m.colours) (sym py) ∙ ap members (sym iy.colours))));
    }

-- STEPS

seen_here : (seen : ℕ → ℕ → ℕ) (region colour events : ℕ) → updated_at seen region colour events region colour ≡ events
seen_here seen region colour events =
    ap (λ (b : Bool). cond b (updated (seen region) colour events) (seen region) colour) (eq-eqb region region refl)
    ∙ ap (λ (b : Bool). cond b events (seen region colour)) (eq-eqb colour colour refl)

-- each colour of the object that a command names is there once
own_apart : (script : Script) → IsFitting script → ColoursDiffer script → (n : ℕ) (what : What)
    → AllPairs (λ (m k : ℕ). m ≢ k) (object_colours (kind_asked (caller_of script n) what))
own_apart script fits differ n what = by (use_of what) where
  none : AllPairs (λ (m k : ℕ). m ≢ k) []
  none k m d lt within = absurd (let f : ⊥ = omega (arith, within) in f)

  of_object : (o : Option Object) (object : ℕ) → slice_get script.objects object ≡ o
      → AllPairs (λ (m k : ℕ). m ≢ k) (object_colours (option_map (λ (x : Object). x.kind) o))
  of_object None object e = none
  of_object (Some o) object e =
      all_at (λ (x : Object). AllPairs (λ (m k : ℕ). m ≢ k) (colours_of x.kind)) script.objects object o e differ

  by : (u : Use) → AllPairs (λ (m k : ℕ). m ≢ k) (object_colours (kind_used (caller_of script n) u))
  by (OfLog stops) = none
  by (OfObject object read) = of_object (slice_get script.objects object) object refl

-- ACCOUNTS

module _ (unique : RegionOrderIsUnique) (lawful : RegionOrderIsLawful) (plain : DecisionsArePlain) (script : Script)
    (report : Report) (fits : IsFitting script) (differ : ColoursDiffer script) (a : Account) (ta : IsTold script report a)
    (ra : RulesTo script report a 14) where
  ten : RulesTo script report a 10
  ten = rules_fewer script report a 14 10 (omega arith) ra

  rules : AllRules script report a
  rules = all_of ra

  above_a : KeysStandAbove script report a.log
  above_a = keys_above script report a fits ta ten.0

  -- the account by what the decisions say whose reads have stamps below one
  module _ (w : ℕ) where
    abbrev decided : ℕ → ℕ → Decision
    decided = decisions_below script report w

    abbrev b : Account
    b = account_deciding script report decided

    well : IsWellFormed script report
    well = (eight unique lawful plain script report decided fits a ta ten).0

    tb : IsTold script report b
    tb = told unique lawful plain script report decided fits well

    five_a : RulesTo script report a 5
    five_a = five_told unique lawful plain script report decided fits a ta ten

    five_b : RulesTo script report b 5
    five_b = five unique lawful plain script report decided fits a ta ten

    agreeing : Agree script report a b
    agreeing = told_accounts_agree script report a b fits ta tb five_a.0 five_b.0

    finding : AgreeOnFinds report a b
    finding = agree unique lawful plain script report decided fits a ta ten

    above_b : KeysStandAbove script report b.log
    above_b = keys_move script report a b fits ta tb five_a five_b above_a

    abbrev TextsBelow : Type 0
    TextsBelow = (n : ℕ) (c : ClientReport) → slice_get report.clients n ≡ Some c
        → AllZip (TextBelow w) (a.log.nodes n) (b.log.nodes n)

    module _ (texts : TextsBelow) (n : ℕ) (c : ClientReport) (there : slice_get report.clients n ≡ Some c) where
      abbrev who : Caller
      who = caller_of script n

      home : who.own < script.shape.regions
      home = home_within script report fits rules.r1.names n c there

      module _ (sync : SyncPiece) (low : sync.colour < script.shape.colours)
          (until : (key : Key) → In key (line (take sync.events (a.log.histories who.own sync.colour))) → key.stamp ≤ w) where
        abbrev has : HasColumn script who.own sync.colour
        has = (home, low)

        in_column : (k : Key) → In k (own_played a.log who sync)
            → In k (line (take sync.events (a.log.histories who.own sync.colour)))
        in_column k i = in_take (at sync.counts who.own) (line (take sync.events (a.log.histories who.own sync.colour))) k i

        node_alike : (k : Key) → In k (own_played a.log who sync) → (x y : ObjectNode) → IsObjectNode a.log k x
            → IsObjectNode b.log k y → AreAlike (Unit {0}) x y
        node_alike k i x y ix iy =
            let above = above_a who.own sync.colour has k sync.events (in_column k i) in
            let m = k.id.client in
            let beside = zip_at (λ (p q : Node). AreNodesAlike p q × TextBelow w p q) (a.log.nodes m) (b.log.nodes m)
            (zip_both AreNodesAlike (TextBelow w) (a.log.nodes m) (b.log.nodes m)
            (told_nodes_agree script report a b fits ta tb five_a five_b m above.client above.shown)
            (texts m above.client above.shown)) k.id.count above.node above.there in
            alike_there a.log b.log k x y ix iy above.node beside.0 above.there beside.1 beside.2.0
            (by above.node beside.0 beside.2.1 above.below) where
              by : (p q : Node) → TextBelow w p q → p.floor < k.stamp → p.text ≡ q.text
              by p q (inl le) lt =
                  let u = until k (in_column k i) in absurd (let f : ⊥ = omega (arith, le, lt, u) in f)
              by p q (inr same) lt = same

        -- the part waits for what is computed
        waits_is : (colours : List ℕ) → AllPairs (λ (m k : ℕ). m ≢ k) colours → (waits : Key)
            → OfNodesPlayed a.log who sync (OfPart colours sync.colour (WaitsFor (Some waits)))
            → waits ≡ waited_for b.log who colours sync
        waits_is colours apart waits x =
            let mine = own_played a.log who sync in
            let theirs = own_played b.log who sync in
            let same : mine ≡ theirs =
            ap (λ (h : List Entry). take (at sync.counts who.own) (line (take sync.events h)))
            (agreeing.histories who.own sync.colour has) in
            let nodes = nodes_read b.log theirs in
            let played = nodes_there b.log theirs (λ k i.
            let stands = above_b who.own sync.colour has k sync.events (in_take (at sync.counts who.own)
            (line (take sync.events (b.log.histories who.own sync.colour))) k i) in
            (stands.node, stands.there, stands.its_id)) in
            let alike = objects_alike a.log b.log mine x.0 nodes x.1
            (subst (λ (ks : List Key). AreObjectNodes b.log ks nodes) (sym same) played) node_alike in
            let p = waits_same (Unit {0}) tt colours sync.colour (Some waits) x.0 nodes alike x.2 in
            sym (ap (λ (place : ℕ). key_or (undecided_after (part_at colours place) nodes))
            (place_is colours apart p.0 sync.colour p.1)
            ∙ ap key_or p.2)

      -- the step with this number
      module _ (k : ℕ) (s : Step) (there_at : slice_get (a.steps n) k ≡ Some s) where
        abbrev what : What
        what = s.command.what

        abbrev kept : Kept
        kept = kept_at s

        obeying : Obeys script a.log who s
        obeying = all_at (Obeys script a.log who) (a.steps n) k s there_at
            (obeys script fits report a ta rules.r1 rules.r4 n c there)

        answer_at : answer_to report n k ≡ s.reply.answer
        answer_at =
            ap (λ (rs : List ReplyLine). answer_in (slice_get rs k)) (ap replies_in there ∙ sym (ta.clients n c there).replied)
            ∙ ap answer_in (slice_mapped (λ (t : Step). t.reply) (a.steps n) k s there_at)

        colours_at : colours_named script n k ≡ object_colours (kind_asked who what)
        colours_at =
            ap (λ (cs : List Command). colours_used who (slice_get cs k)) (sym (ta.clients n c there).commands)
            ∙ ap (colours_used who) (slice_mapped (λ (t : Step). t.command) (a.steps n) k s there_at)

        abbrev old : Decision
        old = decisions_below script report w n k

        says_next : (answer : Answer) → CanHave who kept what s.reply.nodes answer
            → Shows a.log s.untold who kept what s.reply.nodes answer → PartAnswers a.log who kept what answer
            → answer_to report n k ≡ answer → SaysBelow w old a.log who kept answer
            → SaysBelow (suc w) (decisions_below script report (suc w) n k) a.log who kept answer
        says_next (answers.Decided commits stamp sync read_stamp raises syncs ended) can shows part e before = λ lt.
            by_test _ (read_stamp == w)
            (λ t. subst Says (sym (unfolds ∙ if_true (read_stamp == w) new old t)) (is_new (eqb-true read_stamp w t)))
            (λ f. subst Says (sym (unfolds ∙ if_false (read_stamp == w) new old f)) (before (less lt f (cases_lt read_stamp w))))
          where
            own : List ℕ
            own = object_colours (kind_asked who what)

            Says : Decision → Type 0
            Says decision = SaysSo a.log who (kept_deciding a.log who kept sync read_stamp raises syncs) (decision_text decision) ended

            new : Decision
            new = record { key = waited_for b.log who (colours_named script n k) sync; commits = commits }

            unfolds : decisions_below script report (suc w) n k ≡ cond (read_stamp == w) new old
            unfolds = ap (λ (x : Answer). decided_at w b.log who (colours_named script n k) x old) e

            less : read_stamp < suc w → (read_stamp == w) ≡ false → (read_stamp < w) ⊎ (w ≤ read_stamp) → read_stamp < w
            less lt f (inl l) = l
            less lt f (inr le) =
                let same : read_stamp ≡ w = omega (arith, lt, le) in
                let t = eq-eqb read_stamp w same in absurd (let g : ⊥ = cc (t, f) in g)

            low : sync.colour < script.shape.colours
            low = synced_within script fits n what obeying.within sync.colour
                (subst (In sync.colour) (sym (decide_synced who what sync can.1 can.2)) (inl refl))

            among : In sync.colour own
            among = slice_in own part.2.2.0 sync.colour part.2.2.1

            reached : history.clock (take sync.events (a.log.histories who.own sync.colour)) ≤ read_stamp
            reached =
                let after = kept_after_piece a.log who kept sync in
                let few = colours_few script.version script.shape fits.shape in
                let h = a.log.histories who.own sync.colour in
                subst (λ (m : ℕ). history.clock (take m h) ≤ read_stamp) (seen_here kept.seen who.own sync.colour sync.events)
                (All-contains (λ (colour : ℕ). (after.seen who.own colour ≤ length (a.log.histories who.own colour))
                × (history.clock (take (after.seen who.own colour) (a.log.histories who.own colour)) ≤ read_stamp)) (rising own)
                sync.colour shows.1.above_clocks
                (contains_in (rising own) sync.colour (in_rising own sync.colour among (omega (arith, low, few))))).1

            until : read_stamp ≡ w → (key : Key) → In key (line (take sync.events (a.log.histories who.own sync.colour)))
                → key.stamp ≤ w
            until is key i =
                let h = a.log.histories who.own sync.colour in
                let legal = lawful_beginning who.own script.shape.regions (take sync.events h) (drop sync.events h)
                (subst (λ (x : List Entry). IsColumnHistory who.own script.shape.regions (dated who.own x))
                (sym (take-append-drop sync.events h))
                (column_of script report a fits ta rules.r1 rules.r2 rules.r3 rules.r4 rules.r5 (moves_named script report a rules.r9) who.own sync.colour
                (home, low)).0) in
                let le = within_clock who.own script.shape.regions (take sync.events h) legal key i in
                let r = reached in omega (arith, le, r, is)

            is_new : read_stamp ≡ w → Says new
            is_new is =
                subst (λ (key : Key). Says (record { key = key; commits = commits }))
                (waits_is sync low (until is) own (own_apart script fits differ n what) part.0 part.2
                ∙ ap (λ (cs : List ℕ). waited_for b.log who cs sync) (sym colours_at))
                part.4
        says_next _ can shows part e before = tt

        next : SaysBelow w old a.log who kept s.reply.answer
            → SaysBelow (suc w) (decisions_below script report (suc w) n k) a.log who kept s.reply.answer
        next before =
            says_next s.reply.answer obeying.can
            (all_at (λ (t : Step). Shows a.log t.untold who (kept_at t) t.command.what t.reply.nodes t.reply.answer) (a.steps n) k s
            there_at (rules.r9.shows n c there))
            (all_at (λ (t : Step). PartAnswers a.log who (kept_at t) t.command.what t.reply.answer) (a.steps n) k s there_at
            (rules.r14.part n c there))
            answer_at before

  -- what the decisions of the account say whose reads have stamps below one
  abbrev SaysAt : ℕ → ℕ → ℕ → ℕ → Step → Type 0
  SaysAt w v n k s = SaysBelow w (decisions_below script report v n k) a.log (caller_of script n) (kept_at s) s.reply.answer

  abbrev SaysTo : ℕ → ℕ → Type 0
  SaysTo w v = (n : ℕ) (c : ClientReport) → slice_get report.clients n ≡ Some c → Numbered (SaysAt w v n) (a.steps n)

  texts_at : (w v : ℕ) → SaysTo w v → (n : ℕ) (c : ClientReport) → slice_get report.clients n ≡ Some c
      → AllZip (TextBelow w) (a.log.nodes n) ((b v).log.nodes n)
  texts_at w v says n c there =
      texts_below script report a (b v) fits ta (tb v) (five_a v) (five_b v) w n c there ((finding v).steps n c there)
      (decisions_below script report v n) (says n c there)
      (decisions_said script report (finds_of script report) (decisions_below script report v) fits (well v)
      (found_keys_of script report) (first script report fits a ta (rules_fewer script report a 14 1 (omega arith) ra)) n c there)

  none_below : (decision : Decision) (log : Log) (caller : Caller) (kept : Kept) (answer : Answer)
      → SaysBelow 0 decision log caller kept answer
  none_below decision log caller kept (answers.Decided commits stamp sync read_stamp raises syncs ended) =
      λ lt. absurd (let f : ⊥ = omega (arith, lt) in f)
  none_below decision log caller kept _ = tt

  says_to : (w : ℕ) → SaysTo w w
  says_to zero n c there =
      all_numbered (SaysAt 0 0 n) (a.steps n)
      (λ k s at. none_below (decisions_below script report 0 n k) a.log (caller_of script n) (kept_at s) s.reply.answer)
  says_to (suc w) n c there =
      numbered_more (SaysAt w w n) (SaysAt (suc w) (suc w) n) (a.steps n) (says_to w n c there)
      (λ k s at before. next w (texts_at w w (says_to w)) n c there k s at before)

  -- ALL DECISIONS

  abbrev last : ℕ
  last = last_decided (all_replies report)

  decided_last : (n : ℕ) (c : ClientReport) → slice_get report.clients n ≡ Some c → (k : ℕ) (s : Step)
      → slice_get (a.steps n) k ≡ Some s → stamp_decided s.reply.answer ≤ last
  decided_last n c there k s at =
      let reply = slice_mapped (λ (t : Step). t.reply) (a.steps n) k s at in
      (greatest_above (λ (r : ReplyLine). stamp_decided r.answer) (all_replies report) 0).1 s.reply
      (in_flat_map-back (λ (d : ClientReport). d.replies) report.clients c s.reply (slice_in report.clients n c there)
      (slice_in c.replies k s.reply
      (ap (λ (rs : List ReplyLine). slice_get rs k) (sym (ta.clients n c there).replied) ∙ reply)))

  any_below : (w : ℕ) (decision : Decision) (log : Log) (caller : Caller) (kept : Kept) (answer : Answer)
      → stamp_decided answer ≤ last → SaysBelow (suc last) decision log caller kept answer
      → SaysBelow w decision log caller kept answer
  any_below w decision log caller kept (answers.Decided commits stamp sync read_stamp raises syncs ended) le says =
      λ lt. says (omega (arith, le))
  any_below w decision log caller kept _ le says = tt

  says_all : (w : ℕ) → SaysTo w (suc last)
  says_all w n c there =
      numbered_more (SaysAt (suc last) (suc last) n) (SaysAt w (suc last) n) (a.steps n) (says_to (suc last) n c there)
      (λ k s at says. any_below w (decisions_below script report (suc last) n k) a.log (caller_of script n) (kept_at s)
      s.reply.answer (decided_last n c there k s at) says)

  same_decided : DecisionsSame report a (b (suc last))
  same_decided n c there =
      zip_each TextBelow DecideSame (a.log.nodes n) ((b (suc last)).log.nodes n)
      (λ w. texts_at w (suc last) (says_all w) n c there) (λ p q f. by p q (f (suc p.floor))) where
        by : (p q : Node) → TextBelow (suc p.floor) p q → DecideSame p q
        by p q (inl le) = absurd (let f : ⊥ = omega (arith, le) in f)
        by p q (inr same) = λ x y. same

pub told_decisions_agree : RegionOrderIsUnique → RegionOrderIsLawful → DecisionsArePlain → ToldDecisionsAgree
told_decisions_agree unique lawful plain script report fits differ a ta ra =
    same_decided unique lawful plain script report fits differ a ta ra

pub computed_decisions_decide : RegionOrderIsUnique → RegionOrderIsLawful → DecisionsArePlain → ComputedDecisionsDecide
computed_decisions_decide unique lawful plain script report fits differ = (
  λ k. (
    (eight unique lawful plain script report (decisions_of script report) fits k.0 k.1
        (rules_fewer script report k.0 rule_count 10 (omega arith) k.2)).0,
    computed_finds_keep unique lawful plain script report (decisions_of script report) fits k.0 k.1
        (same_decided unique lawful plain script report fits differ k.0 k.1 k.2) k.2,
  ),
  λ w. (
    account_deciding script report (decisions_of script report),
    told unique lawful plain script report (decisions_of script report) fits w.0,
    w.1,
  ),
)
