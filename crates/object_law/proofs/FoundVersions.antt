-- What a read found is what the nodes of its colours up to its stamp left, by what all reads found.
use Rattle.std.proofs.Common.{◌≡◌, ◌⊎◌, ◌∙◌, refl, ap, sym, subst, false, ℕ, zero, suc, ◌<◌, ◌≤◌, List, [], ◌∷◌, ◌++◌, length, map, take, drop, take-append-drop, Option, Some, None, inl, inr, max, arith}
use Rattle.std.specs.Prelude.{◌==◌, slice_get}
use Rattle.std.specs.List.{All, Contains, fold}
use Rattle.std.proofs.lemmas.Bool.{cases_lt, eq-eqb, eqb-true}
use Rattle.std.proofs.lemmas.List.{length-map}
use Rattle.std.proofs.lemmas.List.Elements.{All-contains}
use Rattle.std.proofs.lemmas.Option.{slice_get_within}
use Rattle.log_node.specs.declared.forms.Version.{Version}
use Rattle.log_node.specs.declared.ids.Key.{Key}
use Rattle.log_node.specs.declared.node.Node.{Node}
use Rattle.log_node.proofs.CallerLemmas.{get_map_back}
use Rattle.object_form.specs.Readings.{form_of}
use Rattle.object_fold.specs.Nodes.{ObjectNode}
use Rattle.object_fold.specs.Transactions.{Write, versions_after, writer_of, writes_with}
use Rattle.part_fold.specs.Laws.{DecisionsArePlain}
use Rattle.col_core.specs.Computed.{dated}
use Rattle.col_core.specs.declared.Entry.{Entry}
use Rattle.col_core.specs.History.{line}
use Rattle.col_core.specs.Laws.{RegionOrderIsUnique}
use Rattle.col_core.specs.Legal.{IsColumnHistory}
use Rattle.col_core.specs.Log.{Log}
use Rattle.col_core.specs.RegionOrder.{IsRegionOrder}
use Rattle.col_core.proofs.CallerLemmas.{In, all_in, by_test, contains_in, if_false, if_true, in_contains, in_flat_map-back, in_map, in_map-back, lawful_beginning, slice_in}
use Rattle.column_track.specs.Tracks.{Tracked}
use Rattle.playback.specs.Laws.{RegionOrderIsLawful}
use Rattle.playback.specs.Merging.{AreRising, region_order}
use Rattle.script_text.specs.Fitting.{IsFitting}
use Rattle.script_text.specs.declared.script.Script.{Script}
use Rattle.report_text.specs.declared.report.Answer.{Answer}
use Rattle.report_text.specs.declared.report.Answer.TheVariants as answers
use Rattle.report_text.specs.declared.report.ClientReport.{ClientReport}
use Rattle.report_text.specs.declared.report.KeyAnswer.{KeyAnswer}
use Rattle.report_text.specs.declared.report.RaisePiece.{RaisePiece}
use Rattle.report_text.specs.declared.report.ReplyLine.{ReplyLine}
use Rattle.report_text.specs.declared.report.Report.{Report}
use Rattle.report_text.specs.declared.report.SyncPiece.{SyncPiece}
use Rattle.lawful_run.specs.Callers.{Caller, caller_of}
use Rattle.lawful_run.specs.Deeds.{colours_synced}
use Rattle.lawful_run.specs.Laws.{ReadItemsLast}
use Rattle.lawful_run.specs.Reads.{ReadsAt, lines_read}
use Rattle.run_rules.specs.Computing.{account_finding, answer_in, answer_to, any_decisions, finds_below, finds_of, found_at, keys_shown, last_read, node_read, nodes_read, stamp_read, versions_told}
use Rattle.run_rules.specs.Answering.{CanHave}
use Rattle.run_rules.specs.Keeping.{Keeps, all_replies}
use Rattle.run_rules.specs.Laws.{FindsTell, FoundAccountDecides}
use Rattle.run_rules.specs.Shown.{Shows}
use Rattle.run_rules.specs.Telling.{replies_in, replies_to, unnamed}
use Rattle.run_rules.specs.Told.{Account, AreKeysFound, Step, kept_after_read, kept_at}
use Rattle.run_rules.proofs.CallerLemmas.{Obeys, all_at, column_of, found_keys_of, moves_named, obeys, rule1, rule2, rule3, rule4, rule5, rule9}
use Rattle.object_law.specs.Found.{AreFoundBelow, StandsAs, VersionsStand, account_found, colours_read, form_in, found_nodes, read_stamp, stamped_keys}
use Rattle.object_law.specs.KeysRead.{whole_lines}
use Rattle.walk_law.specs.Finds.{FindsKeys}
use Rattle.walk_law.specs.Walking.{MayWalk, Walked, journal_walked, log_walked}
use Rattle.walk_law.proofs.CallerLemmas.{find_keys, keys_unnamed, synced_within}
use Rattle.run_rules.specs.Telling.{FindKeys}
use Rattle.object_law.proofs.FoundTexts.{histories, texts_stand}
use Rattle.object_law.proofs.LineOrder.{line_rising}
use Rattle.object_law.proofs.ObjectOrders.{rising}
use Rattle.object_law.proofs.ReadsWhole.{keys_ordered}

-- LISTS

map_same : {A B : Type 0} (f g : A → B) (xs : List A) → ((x : A) → In x xs → f x ≡ g x) → map f xs ≡ map g xs
map_same f g [] same = refl
map_same {A} {B} f g (x ∷ xs) same =
    ap (λ (y : B). y ∷ map f xs) (same x (inl refl)) ∙ ap (λ (ys : List B). g x ∷ ys) (map_same f g xs (λ y i. same y (inr i)))

-- the greatest of a number and those of items is no less than any
greatest : {A : Type 0} (number : A → ℕ) (xs : List A) (from : ℕ) → (from ≤ fold (λ (m : ℕ) (x : A). max m (number x)) from xs)
    × ((x : A) → In x xs → number x ≤ fold (λ (m : ℕ) (y : A). max m (number y)) from xs)
greatest number [] from = (omega arith, λ x i. absurd i)
greatest {A} number (x ∷ xs) from =
    let rest = greatest number xs (max from (number x)) in
    let low = rest.0 in
    let left : from ≤ max from (number x) = omega arith in
    let right : number x ≤ max from (number x) = omega arith in
    (omega (arith, low, left), λ y i. by y i rest.1 (omega (arith, low, right))) where
      all : ℕ
      all = fold (λ (m : ℕ) (y : A). max m (number y)) (max from (number x)) xs

      by : (y : A) → (x ≡ y) ⊎ In y xs → ((z : A) → In z xs → number z ≤ all) → number x ≤ all → number y ≤ all
      by y (inl e) more here = subst (λ (z : A). number z ≤ all) e here
      by y (inr i) more here = more y i

-- NODES

abbrev write : List Write → ObjectNode → List Write
write writes node = writes_with node.key writes (form_of node.text)

-- nodes with the same keys and forms write the same
forms_write : (one two : Log) (keys : List Key)
    → ((k : Key) → In k keys
    → form_in (slice_get (one.nodes k.id.client) k.id.count) ≡ form_in (slice_get (two.nodes k.id.client) k.id.count))
    → (writes : List Write) → fold write writes (nodes_read one keys) ≡ fold write writes (nodes_read two keys)
forms_write one two [] f writes = refl
forms_write one two (k ∷ ks) f writes =
    by (forms_write one two ks (λ m i. f m (inr i))) (slice_get (one.nodes k.id.client) k.id.count)
    (slice_get (two.nodes k.id.client) k.id.count) (f k (inl refl)) where
      by : ((ws : List Write) → fold write ws (nodes_read one ks) ≡ fold write ws (nodes_read two ks)) → (o p : Option Node)
          → form_in o ≡ form_in p
          → fold write writes (node_read k o ++ nodes_read one ks) ≡ fold write writes (node_read k p ++ nodes_read two ks)
      by rest None None e = rest writes
      by rest None (Some q) e = absurd (let f : ⊥ = cc (e) in f)
      by rest (Some p) None e = absurd (let f : ⊥ = cc (e) in f)
      by rest (Some p) (Some q) e =
          let same : form_of p.text ≡ form_of q.text = cc (e) in
          rest (writes_with k writes (form_of p.text))
          ∙ ap (λ (ws : List Write). fold write ws (nodes_read two ks)) (ap (writes_with k writes) same)

-- the keys of versions are those of which they are
version_keys : (writes : List Write) (shown : List KeyAnswer)
    → map (λ (v : Version). v.key) (map (λ (key : List ℕ). let v : Version = record { key = key; writer = writer_of writes key } in v) (keys_shown shown))
    ≡ map (λ (a : KeyAnswer). a.key) shown
version_keys writes [] = refl
version_keys writes (a ∷ more) = ap (λ (ks : List (List ℕ)). a.key ∷ ks) (version_keys writes more)

-- ONE STAMP AFTER ANOTHER

keys_at : (now : ℕ) (log : Log) (caller : Caller) (answer : Answer) (found : List Version) → AreKeysFound found answer
    → AreKeysFound (found_at now log caller answer found) answer
keys_at now log caller (answers.GotKeys stamp shown raises syncs) found k =
    by_test _ (stamp == now)
    (λ t. ap (map (λ (v : Version). v.key)) (if_true (stamp == now) (versions_told log caller stamp shown syncs) found t)
    ∙ version_keys _ shown)
    (λ f. ap (map (λ (v : Version). v.key)) (if_false (stamp == now) (versions_told log caller stamp shown syncs) found f) ∙ k)
keys_at now log caller _ found k = k

-- what is no read finds what it did
no_read : (now : ℕ) (log : Log) (caller : Caller) (answer : Answer) (found : List Version) → read_stamp answer ≡ None
    → found_at now log caller answer found ≡ found
no_read now log caller (answers.GotKeys stamp shown raises syncs) found e = absurd (let f : ⊥ = cc (e) in f)
no_read now log caller _ found e = refl

-- the reply that a report shows
record IsShownAs (report : Report) (n k : ℕ) (answer : Answer) : Type 0 where
  client : ClientReport
  is_shown : slice_get report.clients n ≡ Some client
  reply : ReplyLine
  there : slice_get client.replies k ≡ Some reply
  is : reply.answer ≡ answer

shown_as : (report : Report) (n k stamp : ℕ) (shown : List KeyAnswer) (raises : List RaisePiece) (syncs : List SyncPiece)
    → answer_to report n k ≡ answers.GotKeys stamp shown raises syncs
    → IsShownAs report n k (answers.GotKeys stamp shown raises syncs)
shown_as report n k stamp shown raises syncs e = by (slice_get report.clients n) refl e where
  answer : Answer
  answer = answers.GotKeys stamp shown raises syncs

  at : (c : ClientReport) → slice_get report.clients n ≡ Some c → (o : Option ReplyLine) → slice_get c.replies k ≡ o
      → answer_in o ≡ answers.GotKeys stamp shown raises syncs → IsShownAs report n k (answers.GotKeys stamp shown raises syncs)
  at c s None t f = absurd (let no : ⊥ = cc (f) in no)
  at c s (Some r) t f = record { client = c; is_shown = s; reply = r; there = t; is = f }

  by : (o : Option ClientReport) → slice_get report.clients n ≡ o
      → answer_in (slice_get (replies_in o) k) ≡ answers.GotKeys stamp shown raises syncs
      → IsShownAs report n k (answers.GotKeys stamp shown raises syncs)
  by None s f = absurd (let no : ⊥ = cc (f) in no)
  by (Some c) s f = at c s (slice_get c.replies k) refl f

module _ (walked : Walked) where
  abbrev script : Script
  script = walked.script

  abbrev report : Report
  report = walked.report

  abbrev below : ℕ → ℕ → ℕ → List Version
  below = finds_below script report

  -- the log by what the reads below a stamp found
  abbrev log_at : ℕ → Log
  log_at now = (account_finding script report (below now) any_decisions).log

  -- when all stamps have come
  abbrev end : ℕ
  end = suc (last_read (all_replies report))

  keys_below : (now n k : ℕ) → AreKeysFound (below now n k) (answer_to report n k)
  keys_below zero n k = keys_unnamed (answer_to report n k)
  keys_below (suc now) n k =
      keys_at now (log_at now) (caller_of script n) (answer_to report n k) (below now n k) (keys_below now n k)

  below_keys : (now : ℕ) → FindsKeys report (below now)
  below_keys now n c there =
      subst (FindKeys (below now n)) (ap replies_in there) (find_keys (below now n) (replies_to report n) (keys_below now n))

  stays : (now n k : ℕ) → read_stamp (answer_to report n k) ≡ None → below now n k ≡ unnamed (answer_to report n k)
  stays zero n k e = refl
  stays (suc now) n k e =
      no_read now (log_at now) (caller_of script n) (answer_to report n k) (below now n k) e ∙ stays now n k e

  -- what is no read finds nothing
  pub others_find : (n k : ℕ) → read_stamp (answer_to report n k) ≡ None
      → finds_of script report n k ≡ unnamed (answer_to report n k)
  others_find = stays end

  pub all_keys : (n k : ℕ) → AreKeysFound (finds_of script report n k) (answer_to report n k)
  all_keys = keys_below end

  -- a read found what it did when its own stamp had come
  found_then : (n k stamp : ℕ) (shown : List KeyAnswer) (raises : List RaisePiece) (syncs : List SyncPiece)
      → answer_to report n k ≡ answers.GotKeys stamp shown raises syncs → (now : ℕ) → stamp < now
      → below now n k ≡ versions_told (log_at stamp) (caller_of script n) stamp shown syncs
  found_then n k stamp shown raises syncs e zero lt = absurd (let f : ⊥ = omega (arith, lt) in f)
  found_then n k stamp shown raises syncs e (suc now) lt =
      let before = below now n k in
      let told = versions_told (log_at now) (caller_of script n) stamp shown syncs in
      ap (λ (a : Answer). found_at now (log_at now) (caller_of script n) a before) e
      ∙ by_test _ (stamp == now)
      (λ t. if_true (stamp == now) told before t
      ∙ ap (λ (w : ℕ). versions_told (log_at w) (caller_of script n) stamp shown syncs) (sym (eqb-true stamp now t)))
      (λ f. if_false (stamp == now) told before f
      ∙ found_then n k stamp shown raises syncs e now (by f (cases_lt stamp now))) where
        by : (stamp == now) ≡ false → (stamp < now) ⊎ (now ≤ stamp) → stamp < now
        by f (inl less) = less
        by f (inr le) =
            let same : stamp ≡ now = omega (arith, lt, le) in
            let t = eq-eqb stamp now same in absurd (let g : ⊥ = cc (t, f) in g)

  within_end : (n k stamp : ℕ) (shown : List KeyAnswer) (raises : List RaisePiece) (syncs : List SyncPiece)
      → answer_to report n k ≡ answers.GotKeys stamp shown raises syncs → stamp ≤ last_read (all_replies report)
  within_end n k stamp shown raises syncs e =
      let s = shown_as report n k stamp shown raises syncs e in
      subst (λ (a : Answer). stamp_read a ≤ last_read (all_replies report)) s.is
      ((greatest (λ (x : ReplyLine). stamp_read x.answer) (all_replies report) 0).1 s.reply
      (in_flat_map-back (λ (d : ClientReport). d.replies) report.clients s.client s.reply (slice_in report.clients n s.client s.is_shown)
      (slice_in s.client.replies k s.reply s.there)))

  -- below a stamp reads found then what they found
  are_below : (w : ℕ) → AreFoundBelow walked w (below w)
  are_below w = record { keys = below_keys w; below = λ n k. by n k (answer_to report n k) refl } where
    by : (n k : ℕ) (answer : Answer) → answer_to report n k ≡ answer → stamp_read (answer_to report n k) < w
        → below w n k ≡ finds_of script report n k
    by n k (answers.GotKeys stamp shown raises syncs) e lt =
        let low = within_end n k stamp shown raises syncs e in
        found_then n k stamp shown raises syncs e w (subst (λ (a : Answer). stamp_read a < w) e lt)
        ∙ sym (found_then n k stamp shown raises syncs e end (omega (arith, low)))
    by n k _ e lt = stays w n k (ap read_stamp e) ∙ sym (stays end n k (ap read_stamp e))

  -- A READ

  module _ (tell : FindsTell) (decide : FoundAccountDecides) (ordered : RegionOrderIsLawful) (unique : RegionOrderIsUnique)
      (last : ReadItemsLast) (plain : DecisionsArePlain) (tracks : List Tracked)
      (may : MayWalk walked.script walked.report tracks) (keeps : Keeps walked.script walked.report 9) where
    abbrev fits : IsFitting walked.script
    fits = may.fitting

    abbrev a : Account
    a = keeps.0

    module _ (n k stamp : ℕ) (shown : List KeyAnswer) (raises : List RaisePiece) (syncs : List SyncPiece)
        (e : answer_to walked.report n k ≡ answers.GotKeys stamp shown raises syncs) where
      abbrev who : Caller
      who = caller_of script n

      seen : IsShownAs report n k (answers.GotKeys stamp shown raises syncs)
      seen = shown_as report n k stamp shown raises syncs e

      step : (x : Step) × (slice_get (a.steps n) k ≡ Some x) × (x.reply ≡ seen.reply)
      step = get_map_back (λ (s : Step). s.reply) (a.steps n) k seen.reply
          (ap (λ (rs : List ReplyLine). slice_get rs k) (keeps.1.clients n seen.client seen.is_shown).replied ∙ seen.there)

      abbrev x : Step
      x = step.0

      answered : x.reply.answer ≡ answers.GotKeys stamp shown raises syncs
      answered = ap (λ (r : ReplyLine). r.answer) step.2 ∙ seen.is

      obeying : Obeys script a.log who x
      obeying =
          let r = keeps.2 in
          all_at (Obeys script a.log who) (a.steps n) k x step.1
          (obeys script fits report a keeps.1 (rule1 r.0.0.0.0.0.0.0.0.1) (rule4 r.0.0.0.0.0.1) n seen.client seen.is_shown)

      shows : Shows a.log x.untold who (kept_at x) x.command.what x.reply.nodes (answers.GotKeys stamp shown raises syncs)
      shows =
          subst (Shows a.log x.untold who (kept_at x) x.command.what x.reply.nodes) answered
          (all_at (λ (s : Step). Shows a.log s.untold who (kept_at s) s.command.what s.reply.nodes s.reply.answer) (a.steps n) k x step.1
          ((rule9 keeps.2.1).shows n seen.client seen.is_shown))

      colours_are : colours_read syncs ≡ colours_synced who x.command.what
      colours_are =
          (subst (λ (an : Answer). CanHave who (kept_at x) x.command.what x.reply.nodes an) answered obeying.can).2.1

      reads : ReadsAt a.log who (kept_at x) (colours_read syncs) stamp raises syncs
          (kept_after_read a.log who (kept_at x) stamp raises syncs)
      reads =
          subst (λ (cs : List ℕ). ReadsAt a.log who (kept_at x) cs stamp raises syncs (kept_after_read a.log who (kept_at x) stamp raises syncs))
          (sym colours_are) shows

      low : (colour : ℕ) → In colour (colours_read syncs) → colour < walked.script.shape.colours
      low colour i = synced_within script fits n x.command.what obeying.within colour (subst (In colour) colours_are i)

      pub all_low : All (λ colour. colour < walked.script.shape.colours) (colours_read syncs)
      all_low = all_in (λ colour. colour < walked.script.shape.colours) (colours_read syncs) low

      home : who.own < walked.script.shape.regions
      home =
          let lt = slice_get_within report.clients n seen.client seen.is_shown in
          let names = ap length (rule1 keeps.2.0.0.0.0.0.0.0.0.1).names in
          let long = length-map report.clients (λ (c : ClientReport). c.name) in
          let many = fits.clients in
          fits.shape.homes n 0 (omega (arith, lt, names, long, many))

      history : (colour : ℕ) → In colour (colours_read syncs)
          → a.log.histories who.own colour ≡ journal_walked walked who.own colour
      history colour i =
          histories tell decide walked fits keeps (finds_of script report) (found_keys_of script report) who.own colour
          (home, low colour i)

      lawful : (colour : ℕ) → In colour (colours_read syncs)
          → IsColumnHistory who.own walked.script.shape.regions (dated who.own (a.log.histories who.own colour))
      lawful colour i =
          let r = keeps.2 in
          (column_of script report a fits keeps.1 (rule1 r.0.0.0.0.0.0.0.0.1) (rule2 r.0.0.0.0.0.0.0.1) (rule3 r.0.0.0.0.0.0.1)
          (rule4 r.0.0.0.0.0.1) (rule5 r.0.0.0.0.1) (moves_named script report a (rule9 r.1)) who.own colour (home, low colour i)).0

      abbrev keys : List Key
      keys = stamped_keys walked who.own (colours_read syncs) stamp

      abbrev lines : List (List Key)
      lines = lines_read (log_at stamp) who syncs

      order : IsRegionOrder (whole_lines a.log who.own (colours_read syncs)) stamp keys
      order =
          subst (λ (ls : List (List Key)). IsRegionOrder ls stamp keys)
          (map_same (λ (c : ℕ). line (journal_walked walked who.own c)) (λ (c : ℕ). line (a.log.histories who.own c)) (colours_read syncs)
          (λ c i. ap (λ (h : List Entry). line h) (sym (history c i))))
          (ordered stamp (whole_lines (log_walked walked) who.own (colours_read syncs))
          (rising ordered walked tracks may who.own home (colours_read syncs) all_low))

      abbrev colour_in : (s : SyncPiece) → In s syncs → In s.colour (colours_read syncs)
      colour_in s i = in_map-back (λ (p : SyncPiece). p.colour) syncs s i

      read_order : IsRegionOrder lines stamp keys
      read_order =
          subst (λ (ls : List (List Key)). IsRegionOrder ls stamp keys)
          (map_same (λ (s : SyncPiece). line (take s.events (a.log.histories who.own s.colour)))
          (λ (s : SyncPiece). line (take s.events (journal_walked walked who.own s.colour))) syncs
          (λ s i. ap (λ (h : List Entry). line (take s.events h)) (history s.colour (colour_in s i))))
          (keys_ordered a.log who stamp ordered last (colours_read syncs) lawful (kept_at x) raises syncs
          (kept_after_read a.log who (kept_at x) stamp raises syncs) keys reads order)

      lines_rise : (l : List Key) → Contains lines l → AreRising l
      lines_rise l c =
          let m = in_map (λ (s : SyncPiece). line (take s.events (journal_walked walked who.own s.colour))) syncs l (in_contains lines l c) in
          let s = m.0 in
          let h = journal_walked walked who.own s.colour in
          subst AreRising m.2 (line_rising who.own walked.script.shape.regions (take s.events h)
          (lawful_beginning who.own walked.script.shape.regions (take s.events h) (drop s.events h)
          (subst (λ (es : List Entry). IsColumnHistory who.own walked.script.shape.regions (dated who.own es))
          (history s.colour (colour_in s m.1) ∙ sym (take-append-drop s.events h)) (lawful s.colour (colour_in s m.1)))))

      keys_are : region_order stamp lines ≡ keys
      keys_are = unique lines stamp (region_order stamp lines) keys (ordered stamp lines lines_rise) read_order

      stand : All (StandsAs walked (below stamp)) keys
      stand = texts_stand tell decide ordered plain walked tracks may keeps stamp (below stamp) (are_below stamp) who.own home
          (colours_read syncs) all_low

      written : fold write [] (nodes_read (log_at stamp) keys) ≡ fold write [] (found_nodes walked keys)
      written =
          forms_write (log_at stamp) (account_found walked).log keys
          (λ key i. (All-contains (StandsAs walked (below stamp)) keys key stand (contains_in keys key i)).form) []

      pub versions_are : finds_of script report n k ≡ versions_after (found_nodes walked keys) (keys_shown shown)
      versions_are =
          let within = within_end n k stamp shown raises syncs e in
          found_then n k stamp shown raises syncs e end (omega (arith, within))
          ∙ (ap (λ (ks : List Key). versions_after (nodes_read (log_at stamp) ks) (keys_shown shown)) keys_are
          ∙ ap (λ (ws : List Write). map (λ (key : List ℕ). let v : Version = record { key = key; writer = writer_of ws key } in v) (keys_shown shown))
          written)

pub versions_stand : FindsTell → FoundAccountDecides → RegionOrderIsLawful → RegionOrderIsUnique → ReadItemsLast → DecisionsArePlain
    → VersionsStand
versions_stand tell decide ordered unique last plain walked tracks may keeps n k stamp shown raises syncs e = (
  all_low walked tell decide ordered unique last plain tracks may keeps n k stamp shown raises syncs e,
  versions_are walked tell decide ordered unique last plain tracks may keeps n k stamp shown raises syncs e,
)
