-- The nodes of a map that is played by its parts: what each of its closing lines has.
use Rattle.std.proofs.Common.{◌≡◌, ◌⊎◌, inl, inr, ℕ, ◌<◌, true, false, List, [], ◌∷◌, ◌++◌, map, Option, Some, slice_get, refl, ap, sym, subst, ◌∙◌, arith}
use Rattle.std.specs.Prelude.{◌≢◌, ◌==◌}
use Rattle.std.specs.List.{AllZip}
use Rattle.std.specs.Option.{option_map}
use Rattle.std.proofs.lemmas.List.Elements.{All-contains}
use Rattle.log_node.specs.declared.ids.Colours.{Colours}
use Rattle.log_node.specs.declared.ids.Id.{Id}
use Rattle.log_node.specs.declared.ids.Key.{Key}
use Rattle.log_node.specs.declared.forms.Pair.{Pair}
use Rattle.log_node.specs.declared.forms.Version.{Version}
use Rattle.log_node.specs.declared.forms.Form.TheVariants as forms
use Rattle.log_node.specs.declared.limits.TheConstants.{MAX_COLOURS}
use Rattle.log_node.specs.declared.node.Node.{Node}
use Rattle.log_node.specs.Sets.{has, members}
use Rattle.object_form.specs.Forms.{IsForm, form_text}
use Rattle.object_form.specs.Laws.{ReadsBack}
use Rattle.object_fold.specs.Nodes.{ObjectNode}
use Rattle.part_fold.specs.declared.decision.Decision.{Decision}
use Rattle.part_fold.specs.Agreement.{PartsAgree, PartsAreShards}
use Rattle.part_fold.specs.Decisions.{decision_text}
use Rattle.part_fold.specs.Laws.{DecisionsArePlain, DecisionsDiffer, ReadsDecisions}
use Rattle.col_core.specs.History.{entry_key}
use Rattle.col_core.proofs.CallerLemmas.{any_in, contains_in, In, in_filter, in_map, slice_in}
use Rattle.script_text.specs.declared.script.Command.{Command}
use Rattle.script_text.specs.declared.script.Kind.{Kind}
use Rattle.script_text.specs.declared.script.Kind.TheVariants as kinds
use Rattle.script_text.specs.declared.script.Object.{Object}
use Rattle.script_text.specs.declared.script.Script.{Script}
use Rattle.script_text.specs.declared.commands.What.TheVariants as whats
use Rattle.script_text.specs.Apart.{colours_of, has_parts, is_parts}
use Rattle.script_text.specs.Commands.{content_of}
use Rattle.script_text.specs.Fitting.{AreObjectColours, IsFitting, IsKindWithin, UsesObject}
use Rattle.script_text.specs.Pieces.{is_transactional}
use Rattle.script_text.proofs.CallerLemmas.{colours_few}
use Rattle.report_text.specs.declared.report.PointPiece.{PointPiece}
use Rattle.report_text.specs.declared.report.Report.{Report}
use Rattle.lawful_run.specs.Callers.{caller_of, commands_of}
use Rattle.lawful_run.specs.Asks.{colours_of_object, keys_of_pairs, object_colours, rising, shards}
use Rattle.lawful_run.specs.Deeds.{AsksToAppend}
use Rattle.lawful_run.specs.Lawful.{LawfulRun}
use Rattle.lawful_run.specs.ObjectReadings.{IsClosing, IsNodeOf}
use Rattle.lawful_run.specs.Readings.{ClosingLinesRise, IsAppend, NodeTold, Nowhere, OneKey, Perhaps, ReturnedAppendsStand, StandsAs, StandsAtEnd, StandsAtPoints, StoodAt, Under, UnderAt, kept_of, told}
use Rattle.part_law.specs.Premises.{AreApart, AreTextsFree, IsFree}
use Rattle.lawful_run.proofs.CallerLemmas.{pairs_are, zip_of, zip_to}
use Rattle.part_law.proofs.Asking.{Commits, DecidesBy, IsOne, same_colours, which}
use Rattle.part_law.proofs.Colours.{has_in, in_rising, in_set, kind_some, rising_in, same_object, shards_in}
use Rattle.part_law.proofs.Deciding.{no_stop}
use Rattle.part_law.proofs.Reading.{IsLogged, LineNode, Reading, Reason}

-- laws of lower crates
pub record Cited : Type 0 where
  pub returned : ReturnedAppendsStand
  pub one_key : OneKey
  pub rise : ClosingLinesRise
  pub back : ReadsBack
  pub reads : ReadsDecisions
  pub differ : DecisionsDiffer
  pub plain : DecisionsArePlain
  pub agree : PartsAgree
  pub parts : PartsAreShards

-- one node in a log has a key
pub same_node : {script : Script} {report : Report} (run : LawfulRun script report) (key : Key) (a b : ObjectNode)
    → IsLogged run.log key a → IsLogged run.log key b → a ≡ b
same_node run key a b x y =
    let e : Some x.appended ≡ Some y.appended = sym x.there ∙ y.there in
    let same : x.appended ≡ y.appended = cc (e) in
    let k : a.key ≡ b.key = x.key_is ∙ sym y.key_is in
    let c : a.colours ≡ b.colours = x.colours ∙ (ap (λ (n : Node). n.colours) same ∙ sym y.colours) in
    let t : a.text ≡ b.text = x.text ∙ (ap (λ (n : Node). n.text) same ∙ sym y.text) in
    λ i. record { key = k i; colours = c i; text = t i }

-- where a node stands, by what its answer tells
point_of : (report : Report) (region : ℕ) (id : Id) (colours : Colours) (stamp : ℕ) (points : List PointPiece)
    → StandsAtPoints report region id colours stamp points → (c : ℕ) → In c (members colours)
    → (position : ℕ) × StandsAtEnd report region c position (entry_key stamp id)
point_of report region id colours stamp points s c i =
    let m = in_map (λ (p : PointPiece). p.colour) points c (subst (λ (l : List ℕ). In c l) (sym s.all) i) in (
      m.0.position,
      subst (λ (d : ℕ). StandsAtEnd report region d m.0.position (entry_key stamp id)) m.2
          (s.each m.0 (contains_in points m.0 m.1)),
    )

at_some : (report : Report) (region : ℕ) (id : Id) (colours : Colours) (tells : NodeTold)
    → StandsAs report region id colours tells → (tells ≡ Perhaps → ⊥) → (c : ℕ) → In c (members colours)
    → (position : ℕ) × (stamp : ℕ) × StandsAtEnd report region c position (entry_key stamp id)
at_some report region id colours Nowhere s t c i = absurd s
at_some report region id colours (UnderAt stamp points) s t c i =
    let p = point_of report region id colours stamp points s c i in (p.0, stamp, p.1)
at_some report region id colours (StoodAt points) s t c i =
    let p = point_of report region id colours s.0 points s.1 c i in (p.0, s.0, p.1)
at_some report region id colours (Under stamp) s t c i =
    let p = s c (contains_in (members colours) c i) in (p.0, stamp, p.1)
at_some report region id colours Perhaps s t c i = absurd (t refl)

module _ (script : Script) (report : Report) (fits : IsFitting script) (apart : AreApart script.objects)
    (texts : AreTextsFree script) (run : LawfulRun script report) (reading : Reading run) (cited : Cited) (own object : ℕ)
    (held : Object) (there : slice_get script.objects object ≡ Some held) (home : ℕ) (colours : List ℕ)
    (kind : held.kind ≡ kinds.Parts home colours) (lines : List (List Key))
    (closing : AllZip (λ (colour : ℕ) (line : List Key). IsClosing report own colour line) (rising colours) lines) where
  -- THE OBJECT

  object_within : (o : ℕ) (found : Object) → slice_get script.objects o ≡ Some found
      → IsKindWithin script.shape.regions script.shape.colours found.kind
  object_within o found at =
      All-contains (λ (x : Object). IsKindWithin script.shape.regions script.shape.colours x.kind) script.objects found
      fits.objects (contains_in script.objects found (slice_in script.objects o found at))

  within : AreObjectColours script.shape.colours colours
  within = (subst (λ (k : Kind). IsKindWithin script.shape.regions script.shape.colours k) kind (object_within object held there)).1

  pub low : (c : ℕ) → In c colours → c < MAX_COLOURS
  low c i =
      let few = colours_few script.version script.shape fits.shape in
      let lt = All-contains (λ (d : ℕ). d < script.shape.colours) colours c within.below (contains_in colours c i) in
      omega (arith, lt, few)

  kept_apart : is_parts held.kind ≡ true
  kept_apart = subst (λ (k : Kind). is_parts k ≡ true) (sym kind) refl

  parts : has_parts script.objects ≡ true
  parts = any_in (λ (o : Object). is_parts o.kind) script.objects held (slice_in script.objects object held there) kept_apart

  -- an object whose shards are of one of these colours is this one
  object_is : (o : ℕ) (found : Object) → slice_get script.objects o ≡ Some found → (keys : List (List ℕ)) (c : ℕ)
      → In c colours → In c (shards (colours_of found.kind) keys) → o ≡ object
  object_is o found at keys c mine theirs =
      same_object script.objects apart object o held found there at kept_apart c
      (has_in held.kind c (subst (λ (k : Kind). In c (colours_of k)) (sym kind) mine))
      (has_in found.kind c (shards_in (colours_of found.kind) keys
      (kind_some script.shape.regions script.shape.colours found.kind (object_within o found at)) c theirs))

  colours_are : (client o : ℕ) → o ≡ object → colours_of_object (caller_of script client) o ≡ colours
  colours_are client o same =
      ap (λ (n : ℕ). colours_of_object (caller_of script client) n) same
      ∙ (ap (λ (x : Option Object). object_colours (option_map (λ (y : Object). y.kind) x)) there
      ∙ ap (λ (k : Kind). colours_of k) kind)

  -- ITS LINES

  -- a key stands in one of them
  pub record InLines (key : Key) : Type 0 where
    pub colour : ℕ
    pub among : In colour colours
    pub line : List Key
    pub listed : In line lines
    pub is : IsClosing report own colour line
    pub inside : In key line

  pub in_lines : (line : List Key) (key : Key) → In line lines → In key line → InLines key
  in_lines line key listed inside =
      let z = zip_of (λ (c : ℕ) (l : List Key). IsClosing report own c l) (rising colours) lines closing line listed in
      record { colour = z.0; among = in_rising colours z.0 z.1; line = line; listed = listed; is = z.2; inside = inside }

  pub line_at : (c : ℕ) → In c colours → (line : List Key) × In line lines × IsClosing report own c line
  line_at c i =
      zip_to (λ (d : ℕ) (l : List Key). IsClosing report own d l) (rising colours) lines closing c (rising_in colours c i (low c i))

  -- ITS NODES

  -- the node stands in the line of each of its colours
  abbrev pub StandsInAll : ObjectNode → Type 0
  StandsInAll node = (c : ℕ) → In c colours → has node.colours c ≡ true → (line : List Key) → IsClosing report own c line
      → In node.key line

  pub record IsTx (node : ObjectNode) : Type 0 where
    pub versions : List Version
    pub pairs : List Pair
    pub form : IsForm (forms.Transaction versions pairs)
    pub says : node.text ≡ form_text (forms.Transaction versions pairs)
    pub on : members node.colours ≡ shards colours (map (λ (v : Version). v.key) versions ++ keys_of_pairs pairs)
    pub stands : StandsInAll node

  pub record IsDecider (node : ObjectNode) : Type 0 where
    pub of : IsNodeOf run node
    pub key : List ℕ
    pub asks : of.append.command.what ≡ whats.Decide object key
    pub decision : Decision
    pub says : node.text ≡ decision_text decision
    pub own_is : (caller_of script node.key.id.client).own ≡ own
    pub stands : StandsInAll node

  abbrev pub IsSort : ObjectNode → Type 0
  IsSort node = (is_transactional node.text ≡ false) ⊎ (IsTx node ⊎ IsDecider node)

  stands_all : (key : Key) (at : InLines key) (l : LineNode run own at.colour key)
      → ((steps : ℕ) (set : Colours) (text : List ℕ) → l.appended.append.command.what ≢ whats.Stop steps set text)
      → StandsInAll l.node
  stands_all key at l other c i is line closes =
      subst (λ (ks : List Key). In node.key ks) closes.4 (subst (λ (k : Key). In k closes.0.line) (sym same) inside) where
        node : ObjectNode
        node = l.node

        client : ℕ
        client = node.key.id.client

        n : IsNodeOf run node
        n = l.appended

        why : Reason run client n.k n.reply
        why = reading.reason client n.k n.reply n.append.replied

        -- how its append stands
        r : (id : Id) × (set : Colours) × (text : List ℕ) × IsAppend run client n.k n.reply id set text
            × StandsAs report (caller_of script client).own id set (told n.reply.answer)
        r = cited.returned script report run client n.k n.reply n.append.replied n.tells

        explained : why.command ≡ n.append.command
        explained = let e : Some why.command ≡ Some n.append.command = sym why.asked ∙ n.append.asked in cc (e)

        asked : r.3.command ≡ n.append.command
        asked = let e : Some r.3.command ≡ Some n.append.command = sym r.3.asked ∙ n.append.asked in cc (e)

        set : members node.colours ≡ members r.1
        set = same_colours (caller_of script client) (kept_of run client n.k) n.append.command.what node.colours r.1 node.text r.2
            n.append.asks
            (subst (λ (d : Command). AsksToAppend (caller_of script client) (kept_of run client n.k) d.what r.1 r.2) asked
            r.3.asks)

        id : node.key.id ≡ r.0
        id = n.append.id_is ∙ sym r.3.id_is

        known : told n.reply.answer ≢ Perhaps
        known = no_stop run.log (caller_of script client) why.kept why.command.what n.reply.answer n.reply.nodes why.after
            why.explained (λ steps colours' text e. other steps colours' text (ap (λ (d : Command). d.what) (sym explained) ∙ e))

        s : (position : ℕ) × (stamp : ℕ)
            × StandsAtEnd report (caller_of script client).own c position (entry_key stamp r.0)
        s = at_some report (caller_of script client).own r.0 r.1 (told n.reply.answer) r.4 known c
            (subst (λ (cs : List ℕ). In c cs) set (in_set node.colours c (low c i) is))

        inside : In (entry_key s.1 r.0) closes.0.line
        inside = slice_in closes.0.line s.0 (entry_key s.1 r.0) (s.2 closes.0 closes.1 (closes.2 ∙ sym l.own) closes.3)

        here : In node.key at.is.0.line
        here = subst (λ (ks : List Key). In node.key ks) (sym at.is.4)
            (subst (λ (k : Key). In k at.line) (sym l.is.key_is) at.inside)

        same : node.key ≡ entry_key s.1 r.0
        same = (cited.one_key script report fits run at.is.0 closes.0 at.is.1 closes.1 node.key (entry_key s.1 r.0)
            (contains_in at.is.0.line node.key here) (contains_in closes.0.line (entry_key s.1 r.0) inside) id).0

  -- what a key's node in these lines is
  pub sort_of : (key : Key) (at : InLines key) (l : LineNode run own at.colour key) → IsSort l.node
  sort_of key at l =
      by (which (caller_of script client) (kept_of run client n.k) n.append.command.what l.node.colours l.node.text parts free
      n.append.asks) where
        client : ℕ
        client = l.node.key.id.client

        n : IsNodeOf run l.node
        n = l.appended

        listed : In n.append.command script.commands
        listed = (in_filter (λ (c : Command). c.client == client) n.append.command script.commands
            (slice_in (commands_of script client) n.k n.append.command n.append.asked)).0

        free : IsFree script.objects (content_of n.append.command.what)
        free = All-contains (λ (c : Command). IsFree script.objects (content_of c.what)) script.commands n.append.command texts
            (contains_in script.commands n.append.command listed)

        uses : UsesObject script.objects n.append.command.what
        uses = All-contains (λ (c : Command). UsesObject script.objects c.what) script.commands n.append.command fits.uses
            (contains_in script.commands n.append.command listed)

        shown : (o : ℕ) (found : Object) → slice_get script.objects o ≡ Some found
            → colours_of_object (caller_of script client) o ≡ colours_of found.kind
        shown o found e = ap (λ (x : Option Object). object_colours (option_map (λ (y : Object). y.kind) x)) e

        is_this : (o : ℕ) (found : Object) → slice_get script.objects o ≡ Some found → (keys : List (List ℕ))
            → members l.node.colours ≡ shards (colours_of_object (caller_of script client) o) keys → o ≡ object
        is_this o found e keys on =
            object_is o found e keys at.colour at.among
            (subst (λ (cs : List ℕ). In at.colour (shards cs keys)) (shown o found e)
            (subst (λ (x : List ℕ). In at.colour x) on l.among))

        committed : Commits (caller_of script client) (kept_of run client n.k) n.append.command.what l.node.colours l.node.text
            → IsTx l.node
        committed c =
            let u : UsesObject script.objects (whats.Commit c.object c.pairs) = subst (UsesObject script.objects) c.asks uses in
            let same = is_this c.object u.0.found u.0.there (map (λ (v : Version). v.key) c.versions ++ keys_of_pairs c.pairs) c.on in
            record {
              versions = c.versions;
              pairs = c.pairs;
              form = (reading.versions client n.k n.reply n.append.replied c.object c.versions c.found, pairs_are 2 c.pairs u.1);
              says = c.says;
              on = c.on ∙ ap (λ (cs : List ℕ). shards cs (map (λ (v : Version). v.key) c.versions ++ keys_of_pairs c.pairs))
                  (colours_are client c.object same);
              stands = stands_all key at l (λ steps set text e.
                  let f : whats.Commit c.object c.pairs ≡ whats.Stop steps set text = sym c.asks ∙ e in
                  let g : ⊥ = cc (f) in g);
            }

        deciding : DecidesBy (caller_of script client) n.append.command.what l.node.colours l.node.text → IsDecider l.node
        deciding d =
            let u : UsesObject script.objects (whats.Decide d.object d.key) = subst (UsesObject script.objects) d.asks uses in
            let same = is_this d.object u.0.found u.0.there (d.key ∷ []) d.on in
            record {
              of = n;
              key = d.key;
              asks = d.asks ∙ ap (λ (o : ℕ). whats.Decide o d.key) same;
              decision = d.decision;
              says = d.says;
              own_is = l.own;
              stands = stands_all key at l (λ steps set text e.
                  let f : whats.Decide d.object d.key ≡ whats.Stop steps set text = sym d.asks ∙ e in
                  let g : ⊥ = cc (f) in g);
            }

        by : IsOne (caller_of script client) (kept_of run client n.k) n.append.command.what l.node.colours l.node.text
            → (is_transactional l.node.text ≡ false) ⊎ (IsTx l.node ⊎ IsDecider l.node)
        by (inl other) = inl other
        by (inr (inl c)) = inr (inl (committed c))
        by (inr (inr d)) = inr (inr (deciding d))
