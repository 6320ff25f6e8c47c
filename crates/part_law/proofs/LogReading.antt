-- What is told of a lawful run's log.
use Rattle.std.proofs.Common.{◌≡◌, inl, inr, ℕ, ◌+◌, ◌-◌, ◌<◌, true, List, [], ◌∷◌, ◌++◌, length, map, Option, Some, None, refl, ap, sym, subst, ◌∙◌, arith, reverse}
use Rattle.std.specs.Prelude.{◌==◌, take}
use Rattle.std.specs.List.{All}
use Rattle.std.specs.Option.{option_map}
use Rattle.std.proofs.lemmas.List.{length-map}
use Rattle.std.proofs.lemmas.List.Sums.{count_by-le-length, length-filter}
use Rattle.std.proofs.lemmas.List.Elements.{All-contains}
use Rattle.std.proofs.lemmas.Option.{slice_get_within}
use Rattle.log_node.specs.declared.ids.Key.{Key}
use Rattle.log_node.specs.declared.forms.Version.{Version}
use Rattle.log_node.specs.Seen.{PlacedNode}
use Rattle.object_form.specs.Forms.{AreVersions, is_writer}
use Rattle.object_fold.specs.Nodes.{ObjectNode}
use Rattle.object_fold.specs.Transactions.{versions_after}
use Rattle.col_core.specs.declared.Entry.{Entry}
use Rattle.col_core.specs.History.{line}
use Rattle.col_core.specs.Computed.{dated}
use Rattle.col_core.specs.Keeping.{Kept, with_read}
use Rattle.col_core.proofs.CallerLemmas.{In, IsLawfulPast, choice, contains_in, dated-is_dated, in_contains, in_filter, in_left, in_map, in_map-back, in_right, lawful_past, shown, slice_in}
use Rattle.script_text.specs.declared.commands.What.{What}
use Rattle.script_text.specs.declared.commands.What.TheVariants as whats
use Rattle.script_text.specs.declared.script.Command.{Command}
use Rattle.script_text.specs.declared.script.Kind.{Kind}
use Rattle.script_text.specs.declared.script.Kind.TheVariants as kinds
use Rattle.script_text.specs.Apart.{colours_of}
use Rattle.script_text.specs.declared.script.Object.{Object}
use Rattle.script_text.specs.declared.script.Script.{Script}
use Rattle.script_text.specs.Fitting.{IsFitting, IsKindWithin, UsesObject}
use Rattle.script_text.proofs.CallerLemmas.{clients_few}
use Rattle.report_text.specs.declared.report.Answer.{Answer}
use Rattle.report_text.specs.declared.report.Answer.TheVariants as answers
use Rattle.report_text.specs.declared.report.ClientReport.{ClientReport}
use Rattle.report_text.specs.declared.report.ReplyLine.{ReplyLine}
use Rattle.report_text.specs.declared.report.SyncPiece.{SyncPiece}
use Rattle.report_text.specs.declared.report.Report.{Report}
use Rattle.lawful_run.specs.Callers.{Caller, caller_of, commands_of, node_of}
use Rattle.lawful_run.specs.Asks.{object_colours, rising}
use Rattle.lawful_run.specs.Deeds.{colours_synced}
use Rattle.lawful_run.specs.Explains.{Answers, Explained, Explains, next, start}
use Rattle.lawful_run.specs.Lawful.{LawfulRun}
use Rattle.lawful_run.specs.Objects.{AreObjectNodes, IsObjectNode}
use Rattle.lawful_run.specs.ObjectReadings.{IsClosing}
use Rattle.lawful_run.specs.Readings.{HasReply, kept_at, kept_of}
use Rattle.lawful_run.specs.Reads.{AreKeysRead, lines_read}
use Rattle.lawful_run.specs.Refusals.{kept_before}
use Rattle.lawful_run.proofs.CallerLemmas.{append_of, at_updated, before_is, behind_is, closing_line, explained_ids, explained_keeps, legal_at, line_prefix, node_there, played_first, read_order, read_quiet, reads_keep, read_versions_fit, reason, shown_there, stands_in, writer_fits, zip_of}
use Rattle.part_law.proofs.Colours.{in_rising}
use Rattle.part_law.proofs.Reading.{LineNode, Reading}

-- what is kept of reads is such as a transaction's text may name
abbrev FitsReads : Kept → Type 0
FitsReads kept = (object : ℕ) (found : List Version) → kept.reads object ≡ Some found → AreVersions found

same_fits : (kept after : Kept) → after.reads ≡ kept.reads → FitsReads kept → FitsReads after
same_fits kept after same fits object found e =
    fits object found (sym (ap (λ (r : ℕ → Option (List Version)). r object) same) ∙ e)

without_fits : (kept : Kept) → FitsReads kept → (object : ℕ) → FitsReads (with_read kept object None)
without_fits kept fits object other found =
    at_updated (λ (o : Option (List Version)). o ≡ Some found) (AreVersions found) kept.reads object None other
    (λ _ e. absurd (let f : ⊥ = cc (e) in f)) (fits other found)

with_fits : (kept : Kept) → FitsReads kept → (object : ℕ) (versions : List Version) → AreVersions versions
    → FitsReads (with_read kept object (Some versions))
with_fits kept fits object versions good other found =
    at_updated (λ (o : Option (List Version)). o ≡ Some found) (AreVersions found) kept.reads object (Some versions) other
    (λ _ e. let same : versions ≡ found = cc (e) in subst AreVersions same good) (fits other found)

module _ (script : Script) (report : Report) (fits : IsFitting script) (run : LawfulRun script report) where
  -- KEYS

  pub key_ranged : (region colour : ℕ) → region < script.shape.regions → colour < script.shape.colours → (key : Key)
      → In key (line (run.log.histories region colour)) → is_writer (Some key) ≡ true
  key_ranged region colour lr lc key i =
      let h = run.log.histories region colour in
      let lawful : IsLawfulPast (reverse h) =
      subst (λ (es : List Entry). IsLawfulPast (reverse es)) (dated-is_dated region h).same
      (lawful_past region script.shape.regions (dated region h) (legal_at script report fits run region colour lr lc)) in
      let stands = stands_in script report fits run region colour lr lc key i in
      let client = key.id.client in
      let node = node_there script report fits run region colour key stands in
      let count = slice_get_within (run.log.nodes client) key.id.count _ node in
      let of = run.clients client stands.client.shown stands.client.of_client in
      let listed = of.nodes in
      let ids = explained_ids of.explained in
      let kept = length-filter (λ (c : Command). c.client == client) script.commands in
      let all = count_by-le-length (λ (c : Command). c.client == client) script.commands in
      let short = fits.few in
      let named = slice_get_within report.clients client stands.client.shown stands.client.of_client in
      let names : length report.clients ≡ length script.clients =
      sym (length-map report.clients (λ (c : ClientReport). c.name)) ∙ ap length run.names in
      let homes = fits.clients in
      let few = clients_few script.version script.shape fits.shape in
      writer_fits h lawful key i (omega (arith, named, names, homes, few))
      (omega (arith, count, listed, ids, kept, all, short))

  -- KEPT READS

  module _ (client : ℕ) (home : (caller_of script client).own < script.shape.regions) where
    abbrev own : ℕ
    own = (caller_of script client).own

    abbrev caller : Caller
    caller = caller_of script client

    -- a key that a read found in some colour's line
    read_key : (colour events : ℕ) → colour < script.shape.colours → (key : Key)
        → In key (line (take events (run.log.histories own colour))) → is_writer (Some key) ≡ true
    read_key colour events lc key i =
        let p = line_prefix script report fits run own colour home lc events in
        let s = contains_in (line (take events (run.log.histories own colour))) key i in
        let whole : line (take events (run.log.histories own colour)) ++ p.0 ≡ line (run.log.histories own colour) = p.1 in
        key_ranged own colour home lc key
        (subst (λ (ks : List Key). In key ks) whole (in_front key (line (take events (run.log.histories own colour))) p.0 i)) where
          in_front : (k : Key) (xs ys : List Key) → In k xs → In k (xs ++ ys)
          in_front k [] ys j = absurd j
          in_front k (x ∷ xs) ys (inl e) = inl e
          in_front k (x ∷ xs) ys (inr j) = inr (in_front k xs ys j)

    -- a read of an object is of its colours, which there are
    read_colour : (object : ℕ) (asked : List (List ℕ)) → UsesObject script.objects (whats.Read object asked) → (c : ℕ)
        → In c (colours_synced caller (whats.Read object asked)) → c < script.shape.colours
    read_colour object asked uses c i =
        let u = uses.0 in
        let same : colours_synced caller (whats.Read object asked) ≡ rising (object_colours (Some u.found.kind)) =
        ap (λ (o : Option Object). rising (object_colours (option_map (λ (x : Object). x.kind) o))) u.there in
        below u.found.kind
        (All-contains (λ (o : Object). IsKindWithin script.shape.regions script.shape.colours o.kind) script.objects u.found
        fits.objects (contains_in script.objects u.found (slice_in script.objects object u.found u.there)))
        (in_rising (colours_of u.found.kind) c (subst (λ (l : List ℕ). In c l) same i)) where
          one : (colours : List ℕ) → All (λ d. d < script.shape.colours) colours → In c colours → c < script.shape.colours
          one colours all j = All-contains (λ (d : ℕ). d < script.shape.colours) colours c all (contains_in colours c j)

          alone : (colour : ℕ) → colour < script.shape.colours → In c (colour ∷ []) → c < script.shape.colours
          alone colour lt (inl e) = subst (λ (d : ℕ). d < script.shape.colours) e lt
          alone colour lt (inr none) = absurd none

          below : (kind : Kind) → IsKindWithin script.shape.regions script.shape.colours kind → In c (colours_of kind)
              → c < script.shape.colours
          below (kinds.Map home' colours) w j = one colours w.1.below j
          below (kinds.Tx home' colours) w j = one colours w.1.below j
          below (kinds.Causal colour) w j = alone colour w j
          below (kinds.Queue home' colour) w j = alone colour w.1 j
          below (kinds.Tree home' colours) w j = one colours w.1.below j
          below (kinds.Parts home' colours) w j = one colours w.1.below j

    answered_fits : (kept after : Kept) (what : What) (answer : Answer) (nodes : List PlacedNode) → UsesObject script.objects what
        → Explains run.log caller kept what answer nodes after → FitsReads kept → FitsReads after
    answered_fits kept after what (answers.GotKeys stamp told raises syncs) nodes uses e old =
        let t = e.2 in
        elim t.5 [
          | inl g ↦ same_fits kept after (ap (λ (k : Kept). k.reads) g.4
              ∙ reads_keep run.log caller kept (colours_synced caller what) stamp raises syncs e.1 t.0) old
          | inr g ↦ subst FitsReads (sym g.4)
              (with_fits e.1
              (same_fits kept e.1 (reads_keep run.log caller kept (colours_synced caller what) stamp raises syncs e.1 t.0) old)
              g.0 (versions_after t.3 g.1)
              (read_versions_fit t.3
              (λ node i. good g.0 g.1 (subst (UsesObject script.objects) g.2 uses) t.0.synced_colours g.2 t.1 t.2 t.3 t.4 node i)
              g.1 (subst (UsesObject script.objects) g.2 uses).1))
        ] where
          good : (object : ℕ) (asked : List (List ℕ)) → UsesObject script.objects (whats.Read object asked)
              → map (λ (s : SyncPiece). s.colour) syncs ≡ colours_synced caller what → what ≡ whats.Read object asked
              → (keys : List Key) → AreKeysRead run.log caller stamp syncs keys → (objects : List ObjectNode)
              → AreObjectNodes run.log keys objects → (node : ObjectNode) → In node objects → is_writer (Some node.key) ≡ true
          good object asked u synced is keys are objects read node i =
              let z = zip_of (IsObjectNode run.log) keys objects read node i in
              let o = are.no_other z.0 (contains_in keys z.0 z.1) in
              let m = in_map (λ (s : SyncPiece). line (take s.events (run.log.histories own s.colour))) syncs o.1
              (in_contains (lines_read run.log caller syncs) o.1 o.2) in
              let c : In m.0.colour (colours_synced caller (whats.Read object asked)) =
              subst (λ (w : What). In m.0.colour (colours_synced caller w)) is
              (subst (λ (l : List ℕ). In m.0.colour l) synced (in_map-back (λ (s : SyncPiece). s.colour) syncs m.0 m.1)) in
              subst (λ (k : Key). is_writer (Some k) ≡ true) (sym z.2.key_is)
              (read_key m.0.colour m.0.events (read_colour object asked u m.0.colour c) z.0
              (subst (λ (ks : List Key). In z.0 ks) (sym m.2) (in_contains o.1 z.0 o.3)))
    answered_fits kept after what answer nodes uses e old =
        same_fits kept after (explained_keeps run.log caller kept what answer nodes after e
        (inr (λ stamp told raises syncs is. let f : ⊥ = cc (is) in f))) old

    step_fits : (kept after : Kept) (command : Command) (reply : ReplyLine) → UsesObject script.objects command.what
        → Answers run.log caller kept command reply after → FitsReads kept → FitsReads after
    step_fits kept after command reply uses a old =
        subst FitsReads (sym a.after_is)
        (behind_is FitsReads command.what a.answered answered (λ object. without_fits a.answered answered object)) where
          answered : FitsReads a.answered
          answered = answered_fits (kept_before command.what kept) a.answered command.what reply.answer reply.nodes uses a.explained
              (before_is FitsReads command.what kept old (λ object. without_fits kept old object))

    end_fits : {commands : List Command} {replies : List ReplyLine} {kept : Kept}
        → Explained run.log caller commands replies kept
        → ((c : Command) → In c commands → UsesObject script.objects c.what) → FitsReads kept
    end_fits start uses = λ object found e. absurd (let f : ⊥ = cc (e) in f)
    end_fits (next {commands} {replies} {kept} {after} command reply before a) uses =
        step_fits kept after command reply (uses command (in_right command commands (command ∷ []) (inl refl))) a
        (end_fits before (λ c i. uses c (in_left c commands (command ∷ []) i)))

    at_fits : {commands : List Command} {replies : List ReplyLine} {kept : Kept}
        (e : Explained run.log caller commands replies kept)
        → ((c : Command) → In c commands → UsesObject script.objects c.what) → (k : ℕ) → FitsReads (kept_at e k)
    at_fits start uses k = λ object found e. absurd (let f : ⊥ = cc (e) in f)
    at_fits (next {commands} {replies} {kept} {after} command reply before a) uses k =
        choice FitsReads (k == length replies + 1) after (kept_at before k)
        (λ _. step_fits kept after command reply (uses command (in_right command commands (command ∷ []) (inl refl))) a
        (end_fits before (λ c i. uses c (in_left c commands (command ∷ []) i))))
        (λ _. at_fits before (λ c i. uses c (in_left c commands (command ∷ []) i)) k)

  -- ALL OF IT

  line_node : (region colour : ℕ) (l : List Key) → IsClosing report region colour l → (key : Key) → In key l
      → LineNode run region colour key
  line_node region colour l closes key i =
      let c = closing_line script report fits run region colour l closes in
      let inside : In key (line (run.log.histories region colour)) = subst (λ (ks : List Key). In key ks) c.2 i in
      let s = stands_in script report fits run region colour c.0 c.1 key inside in
      let there = node_there script report fits run region colour key s in
      let node : ObjectNode = record { key = key; colours = s.origin.colours; text = s.origin.text } in
      record {
        node = node;
        is = record {
          appended = node_of (caller_of script key.id.client) s.origin.over s.origin.colours s.origin.text;
          there = there;
          key_is = refl;
          colours = refl;
          text = refl;
        };
        appended = record {
          k = s.origin.k;
          reply = s.origin.step.reply;
          append = append_of script report fits run region colour key s;
          tells = s.stands;
        };
        among = s.among;
        own = s.own;
        ranged = key_ranged region colour c.0 c.1 key inside;
      }

  pub log_reading : Reading run
  log_reading = record {
    reason = λ client n reply has.
        let r = reason script report fits run client n reply reply.answer has refl in record {
          command = r.command;
          asked = r.asked;
          kept = r.kept;
          after = r.after;
          ids = r.ids;
          explained = r.explained;
        };
    one = λ region colour a b x y. (closing_line script report fits run region colour a x).2
        ∙ sym (closing_line script report fits run region colour b y).2;
    nodes = line_node;
    played = played_first script report fits run;
    order = read_order script report fits run;
    ids = λ client kept colours stamp raises syncs after r.
        (read_quiet run.log (caller_of script client) kept colours stamp raises syncs after r).ids;
    versions = versions;
  } where
    versions : (client n : ℕ) (reply : ReplyLine) → HasReply report client n reply → (object : ℕ) (found : List Version)
        → (kept_of run client n).reads object ≡ Some found → AreVersions found
    versions client n reply has object found e =
        let c = (shown_there run client has.0 has.1).0 in
        let x = run.clients client c.shown c.of_client in
        let named = slice_get_within report.clients client c.shown c.of_client in
        at_fits client (home client (omega (arith, named))) x.explained uses n object found
        (ap (λ (k : Kept). k.reads object) (sym (c.numbered n)) ∙ e) where
          uses : (d : Command) → In d (commands_of script client) → UsesObject script.objects d.what
          uses d i = All-contains (λ (y : Command). UsesObject script.objects y.what) script.commands d fits.uses
              (contains_in script.commands d (in_filter (λ (y : Command). y.client == client) d script.commands i).0)

          home : (m : ℕ) → m < length report.clients → (caller_of script m).own < script.shape.regions
          home m lt =
              let names : length report.clients ≡ length script.clients =
              sym (length-map report.clients (λ (y : ClientReport). y.name)) ∙ ap length run.names in
              let homes = fits.clients in
              fits.shape.homes m 0 (omega (arith, lt, names, homes))
