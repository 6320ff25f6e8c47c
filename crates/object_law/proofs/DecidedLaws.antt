-- A decision says for which transaction the part of its sync's colour waits, behind nodes that rest on decisions with lower reads.
use Rattle.std.proofs.Common.{◌≡◌, ◌⊎◌, ◌∙◌, refl, ap, sym, subst, Bool, false, cond, ℕ, zero, suc, ◌<◌, ◌≤◌, List, [], ◌∷◌, ◌++◌, length, map, take, drop, take-append-drop, reverse, ◌%◌, mod-lt, Option, Some, None, inl, inr, arith}
use Rattle.std.specs.Prelude.{◌==◌, ◌≢◌, max, slice_get, slice_index, sum}
use Rattle.std.specs.List.{All, AllPairs, fold, list_any, range_with_len}
use Rattle.std.proofs.lemmas.Bool.{cases_lt, eq-eqb, eqb-true}
use Rattle.std.proofs.lemmas.List.Elements.{All-contains}
use Rattle.log_node.specs.declared.ids.Key.{Key}
use Rattle.log_node.specs.declared.limits.TheConstants.{MAX_COLOURS}
use Rattle.log_node.specs.declared.node.Node.{Node}
use Rattle.log_node.specs.Standings.{Standing}
use Rattle.log_node.specs.Vectors.{at}
use Rattle.log_node.proofs.CallerLemmas.{same_some}
use Rattle.object_fold.specs.Nodes.{ObjectNode, shard_of}
use Rattle.part_fold.specs.declared.decision.Decision.{Decision}
use Rattle.part_fold.specs.Agreement.{part_at}
use Rattle.part_fold.specs.Parts.{undecided_after}
use Rattle.col_core.specs.declared.Entry.{Entry}
use Rattle.col_core.specs.Computed.{dated}
use Rattle.col_core.specs.History as history
use Rattle.col_core.specs.History.{line}
use Rattle.col_core.specs.Legal.{IsColumnHistory}
use Rattle.col_core.specs.Log.{Log}
use Rattle.col_core.specs.Keeping.{updated, updated_at}
use Rattle.col_core.proofs.CallerLemmas.{In, IsLawfulPast, all_in, any_in, by_test, clock, clock-of, contains_in, dated-is_dated, entries-of, entry_within, if_false, if_true, in_filter-back, in_flat_map-back, in_line, in_take, lawful_beginning, lawful_past, range_has, slice_in}
use Rattle.script_text.specs.declared.commands.What.TheVariants as whats
use Rattle.script_text.specs.declared.script.Command.{Command}
use Rattle.script_text.specs.declared.script.Kind.TheVariants as kinds
use Rattle.script_text.specs.declared.script.Script.{Script}
use Rattle.script_text.specs.Fitting.{IsFitting}
use Rattle.script_text.proofs.CallerLemmas.{colours_few, regions_few}
use Rattle.report_text.specs.declared.report.Answer.{Answer}
use Rattle.report_text.specs.declared.report.Answer.TheVariants as answers
use Rattle.report_text.specs.declared.report.ClientReport.{ClientReport}
use Rattle.report_text.specs.declared.report.Ended.{Ended}
use Rattle.report_text.specs.declared.report.RaisePiece.{RaisePiece}
use Rattle.report_text.specs.declared.report.ReplyLine.{ReplyLine}
use Rattle.report_text.specs.declared.report.Report.{Report}
use Rattle.report_text.specs.declared.report.SyncPiece.{SyncPiece}
use Rattle.lawful_run.specs.Asks.{kind_asked, object_colours, rising}
use Rattle.lawful_run.specs.Callers.{Caller, caller_of, commands_of}
use Rattle.lawful_run.specs.Objects.{own_played}
use Rattle.lawful_run.specs.Reads.{kept_after_piece}
use Rattle.run_rules.specs.Agreeing.{AreNodesAlike, HasColumn}
use Rattle.run_rules.specs.Answering.{CanHave}
use Rattle.run_rules.specs.Computing.{account_finding, answer_in, answer_to, finds_of, node_read, nodes_read}
use Rattle.run_rules.specs.Deciding.{ColoursDiffer, account_deciding, colours_named, colours_used, decided_at, decisions_below, decisions_of, key_or, last_decided, place_in, stamp_decided, waited_for}
use Rattle.run_rules.specs.Keeping.{Keeps, RulesTo, all_replies}
use Rattle.run_rules.specs.Laws.{FindsTell, FoundAccountDecides}
use Rattle.run_rules.specs.Nodes.{any_decision}
use Rattle.run_rules.specs.Shown.{Shows}
use Rattle.run_rules.specs.Telling.{IsWellFormed, replies_in}
use Rattle.run_rules.specs.Told.{Account, IsTold, Step, kept_at}
use Rattle.run_rules.proofs.CallerLemmas.{Obeys, all_at, column_of, found_keys_of, home_within, keeps_fewer, keys_above, moves_named, obeys, rule1, rule2, rule3, rule4, rule5, rule9, slice_mapped, told_accounts_agree, told_nodes_agree, zip_at}
use Rattle.walk_law.specs.Walking.{Walked, journal_walked}
use Rattle.walk_law.proofs.CallerLemmas.{shards_within}
use Rattle.object_law.specs.Decided.{AreDecidedBelow, DecisionsStand, IsDecidedBy, IsReadFrom, StandsDecided, node_deciding, synced_keys}
use Rattle.object_law.specs.PartAnswers.{part_colours}
use Rattle.object_law.proofs.DecidedTexts.{SameFrom, all_from}
use Rattle.object_law.proofs.PartLemmas.{AreOwn, own_are}
use Rattle.object_law.proofs.ReadsWhole.{played_begin}

-- LISTS

greatest : {A : Type 0} (number : A → ℕ) (xs : List A) (from : ℕ)
    → (from ≤ fold (λ (m : ℕ) (x : A). max m (number x)) from xs)
    × ((x : A) → In x xs → number x ≤ fold (λ (m : ℕ) (y : A). max m (number y)) from xs)
greatest number [] from = (omega arith, λ x i. absurd i)
greatest {A} number (x ∷ xs) from =
    let rest = greatest number xs (max from (number x)) in
    let low = rest.0 in
    let left : from ≤ max from (number x) = omega arith in
    let right : number x ≤ max from (number x) = omega arith in
    (omega (arith, low, left), λ y i. by y i rest.1 (omega (arith, low, right))) where
      all : ℕ
      all = fold (λ (m : ℕ) (y : A). max m (number y)) (max from (number x)) xs

      by : (y : A) → (x ≡ y) ⊎ In y xs → ((z : A) → In z xs → number z ≤ all) → number x ≤ all → number y ≤ all
      by y (inl e) more here = subst (λ (z : A). number z ≤ all) e here
      by y (inr i) more here = more y i

-- what a list's image has in a place is of what it has there itself
mapped_back : {A B : Type 0} (f : A → B) (xs : List A) (k : ℕ) (y : B) → slice_get (map f xs) k ≡ Some y
    → (x : A) × (slice_get xs k ≡ Some x) × (f x ≡ y)
mapped_back f [] k y e = absurd (let h : ⊥ = cc (e) in h)
mapped_back f (x ∷ xs) zero y e = (x, refl, cc (e))
mapped_back f (x ∷ xs) (suc k) y e = mapped_back f xs k y e

-- a colour's place among colours of which each is there once
place_is : (colours : List ℕ) → AllPairs (λ (a b : ℕ). a ≢ b) colours → (place colour : ℕ) → slice_get colours place ≡ Some colour
    → place_in colour colours ≡ place
place_is [] apart place colour e = absurd (let f : ⊥ = cc (e) in f)
place_is (c ∷ cs) apart zero colour e =
    let same : c ≡ colour = cc (e) in
    if_true (c == colour) 0 (suc (place_in colour cs)) (eq-eqb c colour same)
place_is (c ∷ cs) apart (suc place) colour e =
    by_test _ (c == colour)
    (λ t.
    let there = contains_in cs colour (slice_in cs place colour e) in
    let lt = there.1 in
    absurd (apart 0 (suc there.0) colour (omega arith) (omega (arith, lt)) (eqb-true c colour t ∙ sym there.2)))
    (λ f. if_false (c == colour) 0 (suc (place_in colour cs)) f
    ∙ ap (λ (k : ℕ). suc k)
    (place_is cs (λ k m d lt within. apart (suc k) (suc m) d (omega (arith, lt)) (omega (arith, within))) place colour e))

-- each colour of an object is among them in rising number
in_rising : (colours : List ℕ) (colour : ℕ) → In colour colours → colour < MAX_COLOURS → In colour (rising colours)
in_rising colours colour i lt =
    in_filter-back (λ (c : ℕ). list_any (λ d. d == c) colours) colour (range_with_len 0 MAX_COLOURS)
    (range_has 0 MAX_COLOURS colour (omega arith) (omega (arith, lt)))
    (any_in (λ (d : ℕ). d == colour) colours colour i (eq-eqb colour colour refl))

place_of_in : (xs : List ℕ) (x : ℕ) → In x xs → (k : ℕ) × (slice_get xs k ≡ Some x)
place_of_in [] x i = absurd i
place_of_in (y ∷ ys) x (inl e) = (0, ap (λ (z : ℕ). Some z) e)
place_of_in (y ∷ ys) x (inr i) = let r = place_of_in ys x i in (suc r.0, r.1)

index_in : (xs : List ℕ) (n : ℕ) → n < length xs → In (slice_index xs n) xs
index_in [] n lt = absurd (let f : ⊥ = omega (arith, lt) in f)
index_in (x ∷ xs) zero lt = inl refl
index_in (x ∷ xs) (suc n) lt = inr (index_in xs n (omega (arith, lt)))

-- a key's shard is one of the colours
shard_among : (colours key : List ℕ) → 0 < length colours → In (shard_of colours key) colours
shard_among colours key some = index_in colours (sum key % length colours) (mod-lt (sum key) (omega (arith, some)))

-- STAMPS

-- no key in the line of a lawful history is above its clock
within_clock : (own regions : ℕ) (h : List Entry) → IsColumnHistory own regions (dated own h) → (key : Key) → In key (line h)
    → key.stamp ≤ history.clock h
within_clock own regions h legal key i =
    let past : IsLawfulPast (reverse h) =
    subst (λ (es : List Entry). IsLawfulPast (reverse es)) (dated-is_dated own h).same
    (lawful_past own regions (dated own h) legal) in
    let s = in_line (history.entries h) key i in
    let there = subst (λ (es : List Standing). In s.0 es) (entries-of h) s.1 in
    subst (λ (m : ℕ). key.stamp ≤ m) (sym (clock-of h))
    (subst (λ (k : Key). k.stamp ≤ clock (reverse h)) s.2 (entry_within (reverse h) past s.0 there))

seen_here : (seen : ℕ → ℕ → ℕ) (region colour events : ℕ) → updated_at seen region colour events region colour ≡ events
seen_here seen region colour events =
    ap (λ (b : Bool). cond b (updated (seen region) colour events) (seen region) colour) (eq-eqb region region refl)
    ∙ ap (λ (b : Bool). cond b events (seen region colour)) (eq-eqb colour colour refl)

-- NODES

-- the nodes of keys are the same by two logs where that of each is
read_same : (one two : Log) (keys : List Key)
    → ((key : Key) → In key keys
    → slice_get (one.nodes key.id.client) key.id.count ≡ slice_get (two.nodes key.id.client) key.id.count)
    → nodes_read one keys ≡ nodes_read two keys
read_same one two [] f = refl
read_same one two (k ∷ ks) f =
    ap (λ (o : Option Node). node_read k o ++ nodes_read one ks) (f k (inl refl))
    ∙ ap (λ (ns : List ObjectNode). node_read k (slice_get (two.nodes k.id.client) k.id.count) ++ ns)
    (read_same one two ks (λ j i. f j (inr i)))

-- ANSWERS

-- the answer is no decision
abbrev pub IsNoDecision : Answer → Type 0
IsNoDecision (answers.Decided commits stamp sync read_stamp raises syncs ended) = ⊥
IsNoDecision _ = Unit {0}

stays : (now : ℕ) (log : Log) (caller : Caller) (colours : List ℕ) (answer : Answer) (d : Decision) → IsNoDecision answer
    → decided_at now log caller colours answer d ≡ d
stays now log caller colours (answers.Decided commits stamp sync read_stamp raises syncs ended) d other = absurd other
stays now log caller colours _ d other = refl

module _ (script : Script) (report : Report) where
  abbrev log_at : ℕ → Log
  log_at now = (account_deciding script report (decisions_below script report now)).log

  pub never : (n k : ℕ) → IsNoDecision (answer_to report n k) → (now : ℕ) → decisions_below script report now n k ≡ any_decision
  never n k other zero = refl
  never n k other (suc now) =
      stays now (log_at now) (caller_of script n) (colours_named script n k) (answer_to report n k)
      (decisions_below script report now n k) other
      ∙ never n k other now

  module _ (n k : ℕ) (commits : Bool) (stamp : ℕ) (sync : SyncPiece) (read_stamp : ℕ) (raises : List RaisePiece)
      (syncs : List SyncPiece) (ended : Ended)
      (e : answer_to report n k ≡ answers.Decided commits stamp sync read_stamp raises syncs ended) where
    -- what it says when the stamp of its read has come
    abbrev said : ℕ → Decision
    said w = record { key = waited_for (log_at w) (caller_of script n) (colours_named script n k) sync; commits = commits }

    decided_then : (now : ℕ) → read_stamp < now → decisions_below script report now n k ≡ said read_stamp
    decided_then zero lt = absurd (let f : ⊥ = omega (arith, lt) in f)
    decided_then (suc now) lt =
        let before = decisions_below script report now n k in
        ap (λ (a : Answer). decided_at now (log_at now) (caller_of script n) (colours_named script n k) a before) e
        ∙ by_test _ (read_stamp == now)
        (λ t. if_true (read_stamp == now) (said now) before t ∙ ap said (sym (eqb-true read_stamp now t)))
        (λ f. if_false (read_stamp == now) (said now) before f ∙ decided_then now (by f (cases_lt read_stamp now))) where
          by : (read_stamp == now) ≡ false → (read_stamp < now) ⊎ (now ≤ read_stamp) → read_stamp < now
          by f (inl less) = less
          by f (inr le) =
              let same : read_stamp ≡ now = omega (arith, lt, le) in
              let t = eq-eqb read_stamp now same in absurd (let g : ⊥ = cc (t, f) in g)

    -- the reply is there
    pub record IsThere : Type 0 where
      pub client : ClientReport
      pub shown : slice_get report.clients n ≡ Some client
      pub reply : ReplyLine
      pub replied : slice_get client.replies k ≡ Some reply
      pub answered : reply.answer ≡ answers.Decided commits stamp sync read_stamp raises syncs ended

    pub it_is_there : IsThere
    it_is_there = of_client (slice_get report.clients n) refl e where
      of_reply : (c : ClientReport) → slice_get report.clients n ≡ Some c → (o : Option ReplyLine) → slice_get c.replies k ≡ o
          → answer_in o ≡ answers.Decided commits stamp sync read_stamp raises syncs ended → IsThere
      of_reply c there None at a = absurd (let f : ⊥ = cc (a) in f)
      of_reply c there (Some r) at a = record { client = c; shown = there; reply = r; replied = at; answered = a }

      of_client : (o : Option ClientReport) → slice_get report.clients n ≡ o
          → answer_in (slice_get (replies_in o) k) ≡ answers.Decided commits stamp sync read_stamp raises syncs ended → IsThere
      of_client None there a = absurd (let f : ⊥ = cc (a) in f)
      of_client (Some c) there a = of_reply c there (slice_get c.replies k) refl a

    -- all have come in the end
    has_come : read_stamp < suc (last_decided (all_replies report))
    has_come =
        let le = (greatest (λ (r : ReplyLine). stamp_decided r.answer) (all_replies report) 0).1 it_is_there.reply
        (in_flat_map-back (λ (d : ClientReport). d.replies) report.clients it_is_there.client it_is_there.reply
        (slice_in report.clients n it_is_there.client it_is_there.shown)
        (slice_in it_is_there.client.replies k it_is_there.reply it_is_there.replied)) in
        let is : stamp_decided it_is_there.reply.answer ≡ read_stamp = ap stamp_decided it_is_there.answered in
        omega (arith, le, is)

    decided_last : decisions_of script report n k ≡ said read_stamp
    decided_last = decided_then (suc (last_decided (all_replies report))) has_come

  -- the decisions with reads below a stamp say then what they say in the end
  below_agree : (w n k : ℕ) → (decisions_below script report w n k ≡ decisions_of script report n k)
      ⊎ IsReadFrom w (answer_to report n k)
  below_agree w n k = by (answer_to report n k) refl where
    by : (a : Answer) → answer_to report n k ≡ a
        → (decisions_below script report w n k ≡ decisions_of script report n k) ⊎ IsReadFrom w (answer_to report n k)
    by (answers.Decided commits stamp sync read_stamp raises syncs ended) e = turn (cases_lt read_stamp w) where
      turn : (read_stamp < w) ⊎ (w ≤ read_stamp)
          → (decisions_below script report w n k ≡ decisions_of script report n k) ⊎ IsReadFrom w (answer_to report n k)
      turn (inl lt) =
          inl (decided_then n k commits stamp sync read_stamp raises syncs ended e w lt
          ∙ sym (decided_last n k commits stamp sync read_stamp raises syncs ended e))
      turn (inr le) = inr (subst (IsReadFrom w) (sym e) le)
    by _ e =
        let other : IsNoDecision (answer_to report n k) = subst IsNoDecision (sym e) tt in
        inl (never n k other w ∙ sym (never n k other (suc (last_decided (all_replies report)))))

-- KEYS

module _ (tell : FindsTell) (decide : FoundAccountDecides) (walked : Walked) (fits : IsFitting walked.script)
    (keeps : Keeps walked.script walked.report 9) where
  abbrev script : Script
  script = walked.script

  abbrev report : Report
  report = walked.report

  abbrev a : Account
  a = keeps.0

  abbrev ta : IsTold script report a
  ta = keeps.1

  abbrev ra : RulesTo script report a 9
  ra = keeps.2

  -- the account by decisions
  module _ (decided : ℕ → ℕ → Decision) where
    abbrev deciding : Account
    deciding = account_finding script report (finds_of script report) decided

    five : IsWellFormed script report × RulesTo script report deciding 5
    five = (decide script report (finds_of script report) decided fits (found_keys_of script report) 5 (omega arith) (omega arith)).0
        (keeps_fewer script report 5 9 (omega arith) keeps)

    told : IsTold script report deciding
    told = tell script report deciding.log.nodes (finds_of script report) five.0 (found_keys_of script report)

    histories : (region colour : ℕ) → HasColumn script region colour
        → a.log.histories region colour ≡ journal_walked walked region colour
    histories region colour has =
        (told_accounts_agree script report a deciding fits ta told ra.0.0.0.0.0 five.1.0).histories region colour has

  -- a key of a line, after some events
  module _ (w : ℕ) (d e : ℕ → ℕ → Decision) (same : (n k : ℕ) → (d n k ≡ e n k) ⊎ IsReadFrom w (answer_to report n k))
      (region colour : ℕ) (has : HasColumn script region colour) (key : Key) (events : ℕ)
      (i : In key (line (take events (a.log.histories region colour)))) (le : key.stamp ≤ w) where
    key_same : node_deciding walked d key.id ≡ node_deciding walked e key.id
    key_same =
        let n = key.id.client in
        let above = keys_above script report a fits ta ra region colour has key events i in
        let mine = zip_at AreNodesAlike (a.log.nodes n) ((deciding d).log.nodes n)
        (told_nodes_agree script report a (deciding d) fits ta (told d) ra.0.0.0.0 (five d).1 n above.client above.shown) key.id.count
        above.node above.there in
        let floor = mine.2.floor in
        let below = above.below in
        let its = zip_at (SameFrom w) ((deciding d).log.nodes n) ((deciding e).log.nodes n)
        (all_from script report (finds_of script report) w d e same n) key.id.count mine.0 mine.1 in
        mine.1 ∙ (ap (λ (m : Node). Some m) (by mine.0 its.0 (omega (arith, floor, below, le)) its.2) ∙ sym its.1) where
          by : (p q : Node) → p.floor < w → SameFrom w p q → p ≡ q
          by p q lt (inl high) = absurd (let f : ⊥ = omega (arith, lt, high) in f)
          by p q lt (inr same) = same

  -- A DECISION

  module _ (differ : ColoursDiffer script) (n k : ℕ) (commits : Bool) (stamp : ℕ) (sync : SyncPiece) (read_stamp : ℕ)
      (raises : List RaisePiece) (syncs : List SyncPiece) (ended : Ended)
      (e : answer_to report n k ≡ answers.Decided commits stamp sync read_stamp raises syncs ended) where
    abbrev answer : Answer
    answer = answers.Decided commits stamp sync read_stamp raises syncs ended

    abbrev who : Caller
    who = caller_of script n

    pub there : IsThere script report n k commits stamp sync read_stamp raises syncs ended e
    there = it_is_there script report n k commits stamp sync read_stamp raises syncs ended e

    -- its step
    pub of_step : (s : Step) × (slice_get (a.steps n) k ≡ Some s) × (s.reply ≡ there.reply)
    of_step =
        mapped_back (λ (t : Step). t.reply) (a.steps n) k there.reply
        (ap (λ (rs : List ReplyLine). slice_get rs k) (ta.clients n there.client there.shown).replied ∙ there.replied)

    abbrev s : Step
    s = of_step.0

    answered : s.reply.answer ≡ answer
    answered = ap (λ (r : ReplyLine). r.answer) of_step.2 ∙ there.answered

    obeying : Obeys script a.log who s
    obeying = all_at (Obeys script a.log who) (a.steps n) k s of_step.1
        (obeys script fits report a ta (rule1 ra.0.0.0.0.0.0.0.0.1) (rule4 ra.0.0.0.0.0.1) n there.client there.shown)

    can : CanHave who (kept_at s) s.command.what s.reply.nodes answer
    can = subst (CanHave who (kept_at s) s.command.what s.reply.nodes) answered obeying.can

    shows : Shows a.log s.untold who (kept_at s) s.command.what s.reply.nodes answer
    shows =
        subst (Shows a.log s.untold who (kept_at s) s.command.what s.reply.nodes) answered
        (all_at (λ (t : Step). Shows a.log t.untold who (kept_at t) t.command.what t.reply.nodes t.reply.answer) (a.steps n) k s
        of_step.1 ((rule9 ra.1).shows n there.client there.shown))

    command_is : slice_get (commands_of script n) k ≡ Some s.command
    command_is =
        ap (λ (cs : List Command). slice_get cs k) (sym (ta.clients n there.client there.shown).commands)
        ∙ slice_mapped (λ (t : Step). t.command) (a.steps n) k s of_step.1

    -- the colours of its map
    abbrev own : List ℕ
    own = can.1

    kind : kind_asked who s.command.what ≡ Some (kinds.Parts can.2.3 own)
    kind = ap (kind_asked who) can.2.2 ∙ can.2.4

    own_is : object_colours (kind_asked who s.command.what) ≡ own
    own_is = ap object_colours kind

    named : colours_named script n k ≡ own
    named = ap (colours_used who) command_is ∙ own_is

    are : AreOwn script who s.command.what own
    are = own_are script fits differ n s.command.what own (ap part_colours kind)

    low : sync.colour < script.shape.colours
    low =
        subst (λ (c : ℕ). c < script.shape.colours)
        (ap (λ (cs : List ℕ). shard_of cs can.2.1) (ap object_colours can.2.4) ∙ sym can.2.5)
        (shards_within script fits n can.2.0 can.2.1)

    among : In sync.colour own
    among =
        subst (λ (c : ℕ). In c own) (sym can.2.5)
        (shard_among own can.2.1 (let some = are.within.some in omega (arith, some)))

    home : who.own < script.shape.regions
    home = home_within script report fits (rule1 ra.0.0.0.0.0.0.0.0.1).names n there.client there.shown

    abbrev has : HasColumn script who.own sync.colour
    has = (home, low)

    abbrev h : List Entry
    h = a.log.histories who.own sync.colour

    lawful : IsColumnHistory who.own script.shape.regions (dated who.own h)
    lawful =
        (column_of script report a fits ta (rule1 ra.0.0.0.0.0.0.0.0.1) (rule2 ra.0.0.0.0.0.0.0.1) (rule3 ra.0.0.0.0.0.0.1)
        (rule4 ra.0.0.0.0.0.1) (rule5 ra.0.0.0.0.1) (moves_named script report a (rule9 ra.1)) who.own sync.colour has).0

    -- the clock had not come farther than the read
    reached : history.clock (take sync.events h) ≤ read_stamp
    reached =
        let after = kept_after_piece a.log who (kept_at s) sync in
        let few = colours_few script.version script.shape fits.shape in
        subst (λ (m : ℕ). history.clock (take m h) ≤ read_stamp) (seen_here (kept_at s).seen who.own sync.colour sync.events)
        (All-contains (λ (colour : ℕ). (after.seen who.own colour ≤ length (a.log.histories who.own colour))
        × (history.clock (take (after.seen who.own colour) (a.log.histories who.own colour)) ≤ read_stamp)) (rising own)
        sync.colour
        (subst (λ (cs : List ℕ). All (λ (colour : ℕ). (after.seen who.own colour ≤ length (a.log.histories who.own colour))
        × (history.clock (take (after.seen who.own colour) (a.log.histories who.own colour)) ≤ read_stamp)) (rising cs)) own_is
        shows.1.above_clocks)
        (contains_in (rising own) sync.colour (in_rising own sync.colour among (omega (arith, low, few))))).1

    until : (key : Key) → In key (line (take sync.events h)) → key.stamp ≤ read_stamp
    until key i =
        let legal = lawful_beginning who.own script.shape.regions (take sync.events h) (drop sync.events h)
        (subst (λ (x : List Entry). IsColumnHistory who.own script.shape.regions (dated who.own x))
        (sym (take-append-drop sync.events h)) lawful) in
        let le = within_clock who.own script.shape.regions (take sync.events h) legal key i in
        let r = reached in omega (arith, le, r)

    -- the nodes that the sync played are the first of the whole line
    begun : take (at sync.counts who.own) (line h) ≡ own_played a.log who sync
    begun =
        let few = regions_few script.version script.shape fits.shape in
        let in_shape = home in
        (played_begin a.log who (kept_at s) sync (omega (arith, in_shape, few)) lawful shows.0).0

    any : ℕ → ℕ → Decision
    any m j = any_decision

    same_line : h ≡ journal_walked walked who.own sync.colour
    same_line = histories any who.own sync.colour has

    -- those of the computed accounts
    played : own_played (log_at script report read_stamp) who sync ≡ synced_keys walked n sync
    played =
        ap (λ (es : List Entry). take (at sync.counts who.own) (line (take sync.events es))) (sym same_line)
        ∙ (sym begun ∙ ap (λ (es : List Entry). take (at sync.counts who.own) (line es)) same_line)

    in_first : (key : Key) → In key (synced_keys walked n sync) → In key (line (take sync.events h))
    in_first key i =
        in_take (at sync.counts who.own) (line (take sync.events h)) key
        (subst (In key) (ap (λ (es : List Entry). take (at sync.counts who.own) (line es)) (sym same_line) ∙ begun) i)

    its_stand : (d : ℕ → ℕ → Decision) → AreDecidedBelow walked read_stamp d → (key : Key) → In key (synced_keys walked n sync)
        → StandsDecided walked d key
    its_stand d below key i =
        key_same read_stamp d (decisions_of script report) below who.own sync.colour has key sync.events (in_first key i)
        (until key (in_first key i))

    pub decided_by : IsDecidedBy walked n k s.command.what commits sync read_stamp
    decided_by =
        let place = place_of_in own sync.colour among in record {
          own = own;
          kind = ap part_colours kind;
          low = low;
          place = place.0;
          there = place.1;
          says = decided_last script report n k commits stamp sync read_stamp raises syncs ended e
              ∙ (ap (λ (cs : List ℕ). by_key (waited_for (log_at script report read_stamp) who cs sync)) named
              ∙ (ap (λ (p : ℕ). by_key (key_or (undecided_after (part_at own p)
              (nodes_read (log_at script report read_stamp) (own_played (log_at script report read_stamp) who sync)))))
              (place_is own are.differ place.0 sync.colour place.1)
              ∙ (ap (λ (ks : List Key). by_key (key_or (undecided_after (part_at own place.0)
              (nodes_read (log_at script report read_stamp) ks)))) played
              ∙ ap (λ (ns : List ObjectNode). by_key (key_or (undecided_after (part_at own place.0) ns)))
              (read_same (log_at script report read_stamp) (account_deciding script report (decisions_of script report)).log
              (synced_keys walked n sync)
              (λ key i. its_stand (decisions_below script report read_stamp) (below_agree script report read_stamp) key i)))));
          stand = λ d below.
              all_in (StandsDecided walked d) (synced_keys walked n sync) (λ key i. its_stand d below key i);
        } where
          by_key : Key → Decision
          by_key key = record { key = key; commits = commits }

pub decisions_stand : FindsTell → FoundAccountDecides → DecisionsStand
decisions_stand tell decide walked tracks may keeps differ n k commits stamp sync read_stamp raises syncs ended e command asks =
    subst (λ (c : Command). IsDecidedBy walked n k c.what commits sync read_stamp)
    (same_some (sym (command_is tell decide walked may.fitting keeps differ n k commits stamp sync read_stamp raises syncs ended e)
    ∙ asks))
    (decided_by tell decide walked may.fitting keeps differ n k commits stamp sync read_stamp raises syncs ended e)
