-- Stamped reads and objects answer by the nodes of the closing lines.
use Rattle.std.proofs.Common.{None, ◌≡◌, ℕ, ◌<◌, List, [], ◌∷◌, ◌++◌, length, take, drop, map, Some, slice_get, refl, ap, sym, subst, ◌∙◌, inl, inr, arith}
use Rattle.std.specs.Prelude.{◌==◌, ◌≢◌}
use Rattle.std.specs.List.{All, AllZip}
use Rattle.std.proofs.lemmas.Bool.{eq-eqb}
use Rattle.std.proofs.lemmas.List.{length-map}
use Rattle.std.proofs.lemmas.List.Elements.{All-cons, All-nil}
use mathlib.Core.List.{IsPrefix}
use Rattle.log_node.specs.declared.ids.Id.{Id}
use Rattle.log_node.specs.declared.ids.Key.{Key}
use Rattle.log_node.specs.declared.ids.Colours.{Colours}
use Rattle.log_node.specs.declared.node.Node.{Node}
use Rattle.log_node.specs.Seen.{PlacedNode}
use Rattle.log_node.specs.Vectors.{at}
use Rattle.object_fold.specs.Folds.{told_of}
use Rattle.object_fold.specs.Nodes.{ObjectNode}
use Rattle.object_fold.specs.Transactions.{verdict_of}
use Rattle.part_fold.specs.Decisions.{decision_text}
use Rattle.tree_fold.specs.Trees.{telling, told_under}
use Rattle.col_core.specs.declared.Entry.{Entry}
use Rattle.col_core.specs.History.{line, entry_key}
use Rattle.col_core.specs.Cuts.{chain, entries_of, needs_of}
use Rattle.col_core.specs.Computed.{dated}
use Rattle.col_core.specs.Legal.{IsColumnHistory}
use Rattle.col_core.specs.Log.{first}
use Rattle.col_core.specs.Keeping.{Kept}
use Rattle.col_core.specs.RegionOrder.{IsRegionOrder}
use Rattle.col_core.proofs.CallerLemmas.{if_true, line_grows, reached_within, dated-is_dated, later, dates_longer, In}
use Rattle.script_text.specs.declared.script.Command.{Command}
use Rattle.script_text.specs.declared.script.Script.{Script}
use Rattle.script_text.specs.Fitting.{IsFitting}
use Rattle.script_text.proofs.CallerLemmas.{regions_few}
use Rattle.report_text.specs.declared.report.Answer.{Answer}
use Rattle.report_text.specs.declared.report.Ended.{Ended}
use Rattle.report_text.specs.declared.report.Ended.TheVariants as ends
use Rattle.report_text.specs.declared.report.SyncPiece.{SyncPiece}
use Rattle.report_text.specs.declared.report.RaisePiece.{RaisePiece}
use Rattle.report_text.specs.declared.report.ReplyLine.{ReplyLine}
use Rattle.report_text.specs.declared.report.ClientReport.{ClientReport}
use Rattle.report_text.specs.declared.report.Report.{Report}
use Rattle.lawful_run.specs.Callers.{caller_of, commands_of, node_of}
use Rattle.lawful_run.specs.Asks.{rising}
use Rattle.lawful_run.specs.Deeds.{AsksToAppend}
use Rattle.lawful_run.specs.Reads.{Syncs, ShowsKey, ReadsAt, AreKeysRead, kept_after_piece}
use Rattle.lawful_run.specs.Objects.{IsObjectNode, AreObjectNodes, own_played, shown_verdict}
use Rattle.lawful_run.specs.Parts.{AsksToDecide, EndsAs}
use Rattle.lawful_run.specs.Refusals.{kept_before}
use Rattle.lawful_run.specs.Explains.{Explains}
use Rattle.lawful_run.specs.Lawful.{LawfulRun}
use Rattle.lawful_run.specs.Readings.{HasReply, IsAppend, IsLogged, Nowhere, kept_of, kept_at, told_end, StandsAtPoints}
use Rattle.lawful_run.specs.ObjectReadings.{IsNodeOf, AreNodesOf, IsClosing, AreClosing, ScansAreWhole, GetsAreFolds, UndecidedAreFolds, DecisionsAreFolds, DequeuesAreFolds, ReadsAreFolds, VerdictsAreFolds, ChangesAreFolds, ListsAreFolds}
use Rattle.lawful_run.proofs.Prefixes.{prefix_get, prefix_take}
use Rattle.lawful_run.proofs.Listed.{to_in, from_in, in_get, get_in}
use Rattle.lawful_run.proofs.Replies.{step_of}
use Rattle.lawful_run.proofs.Beginnings.{split}
use Rattle.lawful_run.proofs.Clients.{shown_there}
use Rattle.lawful_run.proofs.Used.{before_ids}
use Rattle.lawful_run.proofs.Decisions.{decide_asks, reads_behind}
use Rattle.lawful_run.proofs.Standing.{Stands, column_is, column_within}
use Rattle.lawful_run.proofs.Lines.{node_there, append_of}
use Rattle.lawful_run.proofs.LettingGo.{asks_before}
use Rattle.lawful_run.proofs.Returned.{at_points, in_log}
use Rattle.lawful_run.proofs.Shown.{stands_in, legal_at}
use Rattle.lawful_run.proofs.ReadOrder.{closing_order}
use Rattle.col_core.proofs.CallerLemmas.{in_take}

zip_in : {A B : Type 0} (R : A → B → Type 0) (xs : List A) (ys : List B) → AllZip R xs ys → (x : A) → In x xs → (y : B)
    × R x y
zip_in R [] ys a x i = absurd i
zip_in R (z ∷ xs) [] a x i = absurd a
zip_in {A} {B} R (z ∷ xs) (w ∷ ys) a x (inl e) = (w, subst (λ (v : A). R v w) e a.0)
zip_in R (z ∷ xs) (w ∷ ys) a x (inr i) = zip_in R xs ys a.1 x i

zip_in_back : {A B : Type 0} (R : A → B → Type 0) (xs : List A) (ys : List B) → AllZip R xs ys → (y : B) → In y ys →
    (x : A) × R x y
zip_in_back R [] [] a y i = absurd i
zip_in_back R [] (w ∷ ys) a y i = absurd a
zip_in_back R (z ∷ xs) [] a y i = absurd a
zip_in_back {A} {B} R (z ∷ xs) (w ∷ ys) a y (inl e) = (z, subst (λ (v : B). R z v) e a.0)
zip_in_back R (z ∷ xs) (w ∷ ys) a y (inr i) = zip_in_back R xs ys a.1 y i

-- the second items are those that the first ones tell
zip_map : {A B : Type 0} (R : A → B → Type 0) (f : A → B) → ((x : A) (y : B) → R x y → y ≡ f x) → (xs : List A)
    (ys : List B) → AllZip R xs ys → ys ≡ map f xs
zip_map R f tell [] [] a = refl
zip_map R f tell [] (y ∷ ys) a = absurd a
zip_map R f tell (x ∷ xs) [] a = absurd a
zip_map {A} {B} R f tell (x ∷ xs) (y ∷ ys) a = ap (λ (z : B). z ∷ ys) (tell x y a.0) ∙ ap (λ (l : List B). f x ∷ l)
    (zip_map R f tell xs ys a.1)

zip_back : {A B : Type 0} (R : A → B → Type 0) (f : B → A) → ((x : A) (y : B) → R x y → f y ≡ x) → (xs : List A)
    (ys : List B) → AllZip R xs ys → map f ys ≡ xs
zip_back R f tell [] [] a = refl
zip_back R f tell [] (y ∷ ys) a = absurd a
zip_back R f tell (x ∷ xs) [] a = absurd a
zip_back {A} {B} R f tell (x ∷ xs) (y ∷ ys) a = ap (λ (z : A). z ∷ map f ys) (tell x y a.0) ∙ ap (λ (l : List A). x ∷ l)
    (zip_back R f tell xs ys a.1)

module _ (script : Script) (report : Report) (fits : IsFitting script) (run : LawfulRun script report) where
  abbrev regions : ℕ
  regions = script.shape.regions

  -- a closing line is that of the whole history
  pub closing_line : (region colour : ℕ) (l : List Key) → IsClosing report region colour l
      → (region < regions) × (colour < script.shape.colours) × (l ≡ line (run.log.histories region colour))
  closing_line region colour l c =
      let x = column_is script report fits run c.0 c.1 in
      let w = column_within script report fits run c.0 c.1 in
      let r = w.0 in
      let k = w.1 in
      let e = c.2 in
      let f = c.3 in (
        omega (arith, r, e),
        omega (arith, k, f),
        sym c.4 ∙ (x.closing.line_shown ∙ (ap line x.history ∙ (ap (λ n. line (run.log.histories n c.0.colour)) c.2
            ∙ ap (λ n. line (run.log.histories region n)) c.3))),
      )

  -- the line of the first events begins the line
  pub line_prefix : (own colour : ℕ) → own < regions → colour < script.shape.colours → (events : ℕ)
      → IsPrefix (line (take events (run.log.histories own colour))) (line (run.log.histories own colour))
  line_prefix own colour lo lc events =
      let h = run.log.histories own colour in
      let ds = dated own (take events h) in
      let more = later own ds (drop events h) in
      let dates : dated own h ≡ ds ++ more = ap (dated own) (sym (split h events)) ∙ dates_longer own (take events h)
      (drop events h) in
      let grown = line_grows own regions ds more
      (subst (IsColumnHistory own regions) dates (legal_at script report fits run own colour lo lc)) in (
        grown.0,
        ap (λ (es : List Entry). line es ++ grown.0) (sym (dated-is_dated own (take events h)).same)
            ∙ (grown.1 ∙ ap line (ap entries_of (sym dates) ∙ (dated-is_dated own h).same)),
      )

  -- an object's node is the one that its command appended
  node_is : (region colour : ℕ) (key : Key) → Stands run region colour key → (node : ObjectNode)
      → IsObjectNode run.log key node → IsNodeOf run node
  node_is region colour key s node o =
      let n = node_there script report fits run region colour key s in
      let there = o.there in
      let e : Some o.appended ≡ Some (node_of (caller_of script key.id.client) s.origin.over s.origin.colours
      s.origin.text) = sym there ∙ n in
      let same : o.appended ≡ node_of (caller_of script key.id.client) s.origin.over s.origin.colours s.origin.text = cc
      (e) in
      let colours : s.origin.colours ≡ node.colours = sym (o.colours ∙ ap (λ (x : Node). x.colours) same) in
      let text : s.origin.text ≡ node.text = sym (o.text ∙ ap (λ (x : Node). x.text) same) in
      let a = append_of script report fits run region colour key s in
      record {
        k = s.origin.k;
        reply = s.origin.step.reply;
        append = subst (λ (x : Key). IsAppend run x.id.client s.origin.k s.origin.step.reply x.id node.colours
            node.text) (sym o.key_is)
            (subst (λ (t : List ℕ). IsAppend run key.id.client s.origin.k s.origin.step.reply key.id node.colours t)
            text
            (subst (λ (c : Colours). IsAppend run key.id.client s.origin.k s.origin.step.reply key.id c s.origin.text)
            colours a));
        tells = s.stands;
      }

  nodes_are : (keys : List Key) (nodes : List ObjectNode) →
      ((key : Key) → In key keys → (region : ℕ) × (colour : ℕ) × Stands run region colour key)
      → AreObjectNodes run.log keys nodes → AreNodesOf run keys nodes
  nodes_are keys nodes stand a = record {
    keys_are = zip_back (IsObjectNode run.log) (λ (n : ObjectNode). n.key) (λ key node o. o.key_is) keys nodes a;
    each = each keys nodes stand a;
  } where
    each : (keys : List Key) (nodes : List ObjectNode) →
        ((key : Key) → In key keys → (region : ℕ) × (colour : ℕ) × Stands run region colour key)
        → AreObjectNodes run.log keys nodes → All (IsNodeOf run) nodes
    each [] [] stand a = All-nil (IsNodeOf run)
    each [] (n ∷ ns) stand a = absurd a
    each (k ∷ ks) [] stand a = absurd a
    each (k ∷ ks) (n ∷ ns) stand a =
        let s = stand k (inl refl) in
        All-cons (IsNodeOf run) n ns (node_is s.0 s.1 k s.2 n a.0) (each ks ns (λ key i. stand key (inr i)) a.1)

  -- what explains a reply
  pub record Reason (client n : ℕ) (reply : ReplyLine) (answer : Answer) : Type 0 where
    pub command : Command
    pub asked : slice_get (commands_of script client) n ≡ Some command
    pub kept : Kept
    pub after : Kept
    pub ids : kept.ids ≡ (kept_of run client n).ids
    pub asks : (colours : Colours) (text : List ℕ)
        → AsksToAppend (caller_of script client) kept command.what colours text
        → AsksToAppend (caller_of script client) (kept_of run client n) command.what colours text
    pub explained : Explains run.log (caller_of script client) kept command.what answer reply.nodes after

  pub reason : (client n : ℕ) (reply : ReplyLine) (answer : Answer) → HasReply report client n reply
      → reply.answer ≡ answer
      → Reason client n reply answer
  reason client n reply answer h is =
      let c = shown_there run client h.0 h.1 in
      let e = (run.clients client c.0.shown c.0.of_client).explained in
      let s = step_of e n reply (ap (λ (x : ClientReport). slice_get x.replies n) c.1 ∙ h.2) in
      let step = s.0 in
      subst (λ (x : ReplyLine). Reason client n x answer) s.1 (record {
        command = step.command;
        asked = step.asked;
        kept = kept_before step.command.what (kept_at e n);
        after = step.answers.answered;
        ids = before_ids step.command.what (kept_at e n) ∙ ap (λ (k : Kept). k.ids) (sym (c.0.numbered n));
        asks = λ colours text a.
            subst (λ (k : Kept). AsksToAppend (caller_of script client) k step.command.what colours text)
            (sym (c.0.numbered n))
            (asks_before (caller_of script client) step.command.what (kept_at e n) colours text a);
        explained = subst (λ (y : Answer). Explains run.log (caller_of script client)
            (kept_before step.command.what (kept_at e n)) step.command.what y
            step.reply.nodes step.answers.answered) (ap (λ (x : ReplyLine). x.answer) s.1 ∙ is) step.answers.explained;
      })

  -- the order of a stamped read is that of the closing lines
  pub read_order : (client : ℕ) (kept : Kept) (colours : List ℕ) (stamp : ℕ) (raises : List RaisePiece)
      (syncs : List SyncPiece) (after : Kept) (keys : List Key)
      → ReadsAt run.log (caller_of script client) kept colours stamp raises syncs after → AreKeysRead run.log
      (caller_of script client) stamp syncs keys
      → (lines : List (List Key)) → AreClosing report (caller_of script client).own syncs lines
      → IsRegionOrder lines stamp keys
  read_order client kept colours stamp raises syncs after keys r a lines c =
      let own = (caller_of script client).own in
      let closing = λ (s : SyncPiece) (i : In s syncs). zip_in
      (λ (x : SyncPiece) l. IsClosing report own x.colour l) syncs lines c s i in
      let whole : lines ≡ map (λ (s : SyncPiece). line (run.log.histories own s.colour)) syncs =
      zip_map (λ (x : SyncPiece) l. IsClosing report own x.colour l)
      (λ (s : SyncPiece). line (run.log.histories own s.colour))
      (λ s l x. (closing_line own s.colour l x).2) syncs lines c in
      subst (λ (ls : List (List Key)). IsRegionOrder ls stamp keys) (sym whole)
      (closing_order run.log (caller_of script client) stamp kept colours raises syncs after keys r a
      (λ s i. let x = closing s i in let l = closing_line own s.colour x.0 x.1 in
      legal_at script report fits run own s.colour l.0 l.1)
      (λ s key i inside.
      let x = closing s i in
      let l = closing_line own s.colour x.0 x.1 in
      let p = line_prefix own s.colour l.0 l.1 s.events in
      let at = in_get (line (take s.events (run.log.histories own s.colour))) key inside in
      get_in (line (run.log.histories own s.colour)) at.0 key
      (prefix_get (line (take s.events (run.log.histories own s.colour)))
      (line (run.log.histories own s.colour)) at.0 key p at.1)))

  -- where the keys of a stamped read stand
  read_stands : (own : ℕ) (stamp : ℕ) (syncs : List SyncPiece) (lines : List (List Key))
      → AreClosing report own syncs lines → (keys : List Key)
      → IsRegionOrder lines stamp keys → (key : Key) → In key keys → (region : ℕ) × (colour : ℕ)
      × Stands run region colour key
  read_stands own stamp syncs lines c keys order key i =
      let o = order.no_other key (from_in keys key i) in
      let z = zip_in_back (λ (x : SyncPiece) l. IsClosing report own x.colour l) syncs lines c o.1
      (to_in lines o.1 o.2) in
      let l = closing_line own z.0.colour o.1 z.1 in (
        own,
        z.0.colour,
        stands_in script report fits run own z.0.colour l.0 l.1 key
            (subst (λ (ks : List Key). In key ks) l.2 (to_in o.1 key o.3)),
      )

  -- a key of a closing line stands
  stands_at : (region colour : ℕ) (l : List Key) → IsClosing report region colour l → (key : Key) → In key l → (r : ℕ) ×
      (c : ℕ) × Stands run r c key
  stands_at region colour l is key i =
      let x = closing_line region colour l is in (
        region,
        colour,
        stands_in script report fits run region colour x.0 x.1 key
            (subst (λ (ks : List Key). In key ks) x.2 i),
      )

  -- what a sync's snapshot counts of the own line are the first keys of the closing line
  pub played_first : (client : ℕ) (kept : Kept) (sync : SyncPiece) → Syncs run.log
      (caller_of script client) kept sync.colour sync.events sync.counts
      → (l : List Key) → IsClosing report (caller_of script client).own sync.colour l
      → take (at sync.counts (caller_of script client).own) l ≡ own_played run.log (caller_of script client) sync
  played_first client kept sync s l is =
      let own = (caller_of script client).own in
      let x = closing_line own sync.colour l is in
      let h = take sync.events (run.log.histories own sync.colour) in
      let few = regions_few script.version script.shape fits.shape in
      let lo = x.0 in
      let within = reached_within (chain own (first run.log own sync.colour sync.events)) s.cut.reached own
      (omega (arith, lo, few)) in
      let long : length (chain own (dated own h) own) ≡ length (line h) =
      ap length (if_true (own == own) _ _ (eq-eqb own own refl))
      ∙ (length-map (line (entries_of (dated own h)))
      (λ (key : Key). record { key = key; needs = needs_of (dated own h) key.id })
      ∙ ap (λ (es : List Entry). length (line es)) (dated-is_dated own h).same) in
      ap (take (at sync.counts own)) x.2
      ∙ prefix_take (line h) (line (run.log.histories own sync.colour)) (at sync.counts own)
      (line_prefix own sync.colour x.0 x.1 sync.events)
      (omega (arith, within, long))

  -- and the nodes that a sync played are those of these keys
  first_are : (client : ℕ) (kept : Kept) (sync : SyncPiece) → Syncs run.log
      (caller_of script client) kept sync.colour sync.events sync.counts
      → (l : List Key) → IsClosing report (caller_of script client).own sync.colour l → (nodes : List ObjectNode)
      → AreObjectNodes run.log (own_played run.log (caller_of script client) sync) nodes
      → AreNodesOf run (take (at sync.counts (caller_of script client).own) l) nodes
  first_are client kept sync s l closing nodes played =
      let own = (caller_of script client).own in
      nodes_are (take (at sync.counts own) l) nodes
      (λ key i. stands_at own sync.colour l closing key (in_take (at sync.counts own) l key i))
      (subst (λ (ks : List Key). AreObjectNodes run.log ks nodes) (sym (played_first client kept sync s l closing)) played)

pub scans_are_whole : ScansAreWhole
scans_are_whole script report fits run client n reply h stamp count raises syncs is lines c =
    let r = reason script report fits run client n reply _ h is in
    let x = r.explained in
    let keys : map (λ (item : PlacedNode). item.head.key) reply.nodes ≡ x.4 =
    zip_back (ShowsKey run.log) (λ (item : PlacedNode). item.head.key) (λ key item s. s.0) x.4 reply.nodes x.6 in
    subst (IsRegionOrder lines stamp) (sym keys)
    (read_order script report fits run client r.kept _ stamp raises syncs r.after x.4 x.3 x.5 lines c)

pub gets_are_folds : GetsAreFolds
gets_are_folds script report fits run client n reply h value sync is l closing =
    let r = reason script report fits run client n reply _ h is in
    let x = r.explained in
    let p = x.1 in (
      r.command.what,
      (r.command, r.asked, refl),
      p.0,
      first_are script report fits run client r.kept sync x.2 l closing p.0 p.1,
      p.2,
    )

pub undecided_are_folds : UndecidedAreFolds
undecided_are_folds script report fits run client n reply h stamp sync is l closing =
    let r = reason script report fits run client n reply _ h is in
    let x = r.explained in
    let p = x.1 in (
      r.command.what,
      (r.command, r.asked, refl),
      p.0,
      first_are script report fits run client r.kept sync x.2 l closing p.0 p.1,
      p.2,
    )

-- the node of a decision that stands
decision_appends : (script : Script) (report : Report) (run : LawfulRun script report) (client n : ℕ) (reply : ReplyLine)
    → HasReply report client n reply → (command : Command) → slice_get (commands_of script client) n ≡ Some command
    → (sync : SyncPiece) (own : List ℕ) → AsksToDecide (caller_of script client) command.what sync own
    → (read : Kept) (said : List ℕ) (ended : Ended) (after : Kept) → read.ids ≡ (kept_of run client n).ids
    → EndsAs run.log (caller_of script client) read command.what said ended after → told_end ended ≢ Nowhere
    → (id : Id) × (colours : Colours) × IsAppend run client n reply id colours said
decision_appends script report run client n reply h command asked sync own asks read said (ends.Stood stamp point) after ids a
    stands = (
      record { client = client; count = (kept_of run client n).ids },
      a.0,
      subst (λ (text : List ℕ). IsAppend run client n reply
          (record { client = client; count = (kept_of run client n).ids }) a.0 text) a.3.0 (record {
            replied = h;
            command = command;
            asked = asked;
            asks = decide_asks (caller_of script client) read (kept_of run client n) command.what sync own asks a.0 a.1 a.2;
            id_is = refl;
            logged = subst (λ (m : ℕ). IsLogged run.log (record { client = client; count = m }) a.1) ids
                (in_log script report run client read a.0 a.1 stamp None (point ∷ []) after a.3.1);
          }),
    )
decision_appends script report run client n reply h command asked sync own asks read said (ends.StampEnd colour) after ids a
    stands = absurd (stands refl)
decision_appends script report run client n reply h command asked sync own asks read said ends.NoMemory after ids a stands =
    absurd (stands refl)

pub decisions_are_folds : DecisionsAreFolds
decisions_are_folds script report fits run client n reply h commits stamp sync read_stamp raises syncs ended is l closing
    lines c =
    let r = reason script report fits run client n reply _ h is in
    let x = r.explained in
    let d = x.3 in
    let own = (caller_of script client).own in
    let p = d.waiting in
    let t = d.tells in
    let order = read_order script report fits run client
    (kept_after_piece run.log (caller_of script client) r.kept sync) _ read_stamp raises syncs d.read t.1 t.0 t.2 lines c in
    let nodes = nodes_are script report fits run t.1 t.3
    (read_stands script report fits run own read_stamp syncs lines c t.1 order) t.4 in (
      r.command.what,
      (r.command, r.asked, refl),
      x.1,
      x.2,
      d.waits,
      d.stamp_is,
      p.0,
      first_are script report fits run client r.kept sync d.synced l closing p.0 p.1,
      p.2,
      t.1,
      order,
      t.3,
      nodes,
      t.5,
      t.0.synced_colours,
      decision_appends script report run client n reply h r.command r.asked sync x.1 x.2 d.read
          (decision_text (record { key = d.waits; commits = commits })) ended r.after
          ((reads_behind run.log (caller_of script client) r.kept sync (rising x.1) read_stamp raises syncs d.read d.tells.0).ids
          ∙ r.ids) d.ends,
    )

pub dequeues_are_folds : DequeuesAreFolds
dequeues_are_folds script report fits run client n reply h value point sync is l closing =
    let r = reason script report fits run client n reply _ h is in
    let x = r.explained in
    let own = (caller_of script client).own in
    let t = x.3.3.4 in
    let whole = (closing_line script report fits run own point.colour l closing).2 in (
      t.nodes,
      nodes_are script report fits run (take point.position l) t.nodes
          (λ key i. stands_at script report fits run own point.colour l closing key (in_take point.position l key i))
          (subst (λ (ks : List Key). AreObjectNodes run.log (take point.position ks) t.nodes)
          (sym whole) t.before),
      t.value_is,
    )

pub reads_are_folds : ReadsAreFolds
reads_are_folds script report fits run client n reply h stamp shown raises syncs is lines c =
    let r = reason script report fits run client n reply _ h is in
    let x = r.explained in
    let own = (caller_of script client).own in
    let t = x.2 in
    let order = read_order script report fits run client r.kept _ stamp raises syncs x.1 t.1 t.0 t.2 lines c in
    let nodes = nodes_are script report fits run t.1 t.3
    (read_stands script report fits run own stamp syncs lines c t.1 order) t.4 in
    elim t.5 [
      | inl g ↦ (t.1, order, t.3, nodes, g.0, g.1, inl ((r.command, r.asked, g.2), g.3))
      | inr g ↦ (t.1, order, t.3, nodes, g.0, g.1, inr ((r.command, r.asked, g.2), g.3))
    ]

pub verdicts_are_folds : VerdictsAreFolds
verdicts_are_folds script report fits run client n reply h conflict stamp row points read_stamp raises syncs is lines c =
    let r = reason script report fits run client n reply _ h is in
    let x = r.explained.1.1 in
    let s = x.3 in
    let t = s.3 in
    let own = (caller_of script client).own in
    let order = read_order script report fits run client s.1 _ read_stamp raises syncs r.after t.1 t.0 t.2 lines c in
    let nodes = nodes_are script report fits run t.1 t.3
    (read_stands script report fits run own read_stamp syncs lines c t.1 order) t.4 in
    let stands = at_points script report run client r.kept x.0 x.1 s.0 row points s.1 s.2 in (
      t.1,
      order,
      t.3,
      nodes,
      record { client = client; count = (kept_of run client n).ids },
      x.0,
      x.1,
      record {
        replied = h;
        command = r.command;
        asked = r.asked;
        asks = r.asks x.0 x.1 x.2;
        id_is = refl;
        logged = subst (λ (m : ℕ). IsLogged run.log (record { client = client; count = m }) x.1) r.ids
            (in_log script report run client r.kept x.0 x.1 s.0 row points s.1 s.2);
      },
      s.0,
      subst (λ (m : ℕ). StandsAtPoints report own (record { client = client; count = m }) x.0 s.0 points) r.ids stands,
      subst (λ (m : ℕ). verdict_of t.3 (entry_key s.0 (record { client = client; count = m }))
          ≡ Some (shown_verdict conflict stamp)) r.ids t.5,
    )

pub changes_are_folds : ChangesAreFolds
changes_are_folds script report fits run client n reply h failed stamp row points read_stamp raises syncs is lines c =
    let r = reason script report fits run client n reply _ h is in
    let x = r.explained.1.1 in
    let s = x.3 in
    let t = s.3 in
    let own = (caller_of script client).own in
    let order = read_order script report fits run client s.1 _ read_stamp raises syncs r.after t.1 t.0 t.2 lines c in
    let nodes = nodes_are script report fits run t.1 t.3
    (read_stands script report fits run own read_stamp syncs lines c t.1 order) t.4 in
    let stands = at_points script report run client r.kept x.0 x.1 s.0 row points s.1 s.2 in (
      t.1,
      order,
      t.3,
      nodes,
      record { client = client; count = (kept_of run client n).ids },
      x.0,
      x.1,
      record {
        replied = h;
        command = r.command;
        asked = r.asked;
        asks = r.asks x.0 x.1 x.2;
        id_is = refl;
        logged = subst (λ (m : ℕ). IsLogged run.log (record { client = client; count = m }) x.1) r.ids
            (in_log script report run client r.kept x.0 x.1 s.0 row points s.1 s.2);
      },
      s.0,
      subst (λ (m : ℕ). StandsAtPoints report own (record { client = client; count = m }) x.0 s.0 points) r.ids stands,
      subst (λ (m : ℕ). told_of telling t.3 (entry_key s.0 (record { client = client; count = m }))
          ≡ Some (told_under stamp failed)) r.ids t.5,
    )

pub lists_are_folds : ListsAreFolds
lists_are_folds script report fits run client n reply h names stamp raises syncs is lines c =
    let r = reason script report fits run client n reply _ h is in
    let x = r.explained in
    let own = (caller_of script client).own in
    let t = x.4 in
    let order = read_order script report fits run client r.kept _ stamp raises syncs r.after t.1 t.0 t.2 lines c in
    let nodes = nodes_are script report fits run t.1 t.3
    (read_stands script report fits run own stamp syncs lines c t.1 order) t.4 in
    let shows = t.5 in
    (t.1, order, t.3, nodes, x.1, x.2, (r.command, r.asked, x.3), shows.0, shows.1, shows.2)
