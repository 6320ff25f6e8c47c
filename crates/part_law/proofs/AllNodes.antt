-- All nodes of such a map up to a point: transactions have their shards, decisions are true, and a part agrees with them.
use Rattle.std.proofs.Common.{◌≡◌, ◌⊎◌, inl, inr, ℕ, ◌<◌, ◌≤◌, true, false, cond, List, [], ◌++◌, length, map, Option, Some, None, slice_get, refl, ap, sym, subst, ◌∙◌, arith}
use Rattle.std.specs.Prelude.{◌≢◌, IsTrue, slice_index, slice_index_or, take}
use Rattle.std.specs.List.{AllPairs, AllZip, Contains, filter}
use Rattle.std.specs.Option.{option_map}
use Rattle.std.proofs.lemmas.Bool.{eq-eqb}
use Rattle.std.proofs.lemmas.List.{append-nil}
use Rattle.std.proofs.lemmas.Option.{get_or_from_slice_get, slice_get-get_or, slice_get_within}
use Rattle.log_node.specs.declared.ids.Id.{Id}
use Rattle.log_node.specs.declared.ids.Key.{Key}
use Rattle.log_node.specs.declared.forms.Pair.{Pair}
use Rattle.log_node.specs.declared.forms.Version.{Version}
use Rattle.log_node.specs.declared.forms.Form.{Form}
use Rattle.log_node.specs.declared.forms.Form.TheVariants as forms
use Rattle.log_node.specs.declared.node.Node.{Node}
use Rattle.log_node.specs.Order.{key_below}
use Rattle.log_node.specs.Sets.{has}
use Rattle.log_node.proofs.CallerLemmas.{key-stamps, key-trans}
use Rattle.object_form.specs.Forms.{is_writer}
use Rattle.object_form.specs.Readings.{form_of}
use Rattle.object_fold.specs.Nodes.{ObjectNode, nodes_of, shard_of}
use Rattle.object_fold.specs.Transactions.{value_of, verdict_of, writes_after}
use Rattle.part_fold.specs.declared.decision.Decision.{Decision}
use Rattle.part_fold.specs.Agreement.{AreAllNodes, HasItsShards, SaysTheVerdict, outcome, part_at, shard_line, touches}
use Rattle.part_fold.specs.Decisions.{decision_of, decision_text}
use Rattle.part_fold.specs.declared.transaction.Transaction.{Transaction}
use Rattle.part_fold.specs.Parts.{Known, Part, is_in_shard, known_after, known_of, part_value, transaction_by, transactions, decisions, undecided_after}
use Rattle.col_core.specs.RegionOrder.{IsRegionOrder}
use Rattle.col_core.proofs.CallerLemmas.{apart as both_ways, contains_in, In, in_contains, in_filter, in_filter-back, in_take}
use Rattle.script_text.specs.declared.script.Command.{Command}
use Rattle.script_text.specs.declared.script.Kind.{Kind}
use Rattle.script_text.specs.declared.script.Kind.TheVariants as kinds
use Rattle.script_text.specs.declared.script.Object.{Object}
use Rattle.script_text.specs.declared.script.Script.{Script}
use Rattle.script_text.specs.declared.commands.What.{What}
use Rattle.script_text.specs.Fitting.{IsFitting}
use Rattle.script_text.specs.Pieces.{is_transactional}
use Rattle.report_text.specs.declared.report.SyncPiece.{SyncPiece}
use Rattle.report_text.specs.declared.report.Report.{Report}
use Rattle.lawful_run.specs.Callers.{caller_of}
use Rattle.lawful_run.specs.Asks.{rising}
use Rattle.lawful_run.specs.Explains.{Explains}
use Rattle.lawful_run.specs.Lawful.{LawfulRun}
use Rattle.lawful_run.specs.ObjectReadings.{IsClosing, IsNodeOf}
use Rattle.part_law.specs.Premises.{AreApart, AreTextsFree}
use Rattle.lawful_run.proofs.CallerLemmas.{zip_of, zip_to}
use Rattle.part_law.proofs.Colours.{set_has, shards_touch}
use Rattle.part_law.proofs.Deciding.{SaysDecided, decided}
use Rattle.part_law.proofs.Lists.{in_first, pairs_take, zip_images, zip_map}
use Rattle.part_law.proofs.Reading.{AreLogged, IsLogged, Reading, Reason, all_logged}
use Rattle.part_law.proofs.Rising.{Rises, rises_filter, rises_from, rises_to, same_lists, same_verdict, stands_among}
use Rattle.part_law.proofs.Texts.{is_said, no_decision, no_transaction, same_decisions, same_transactions}
use Rattle.part_law.specs.UpTo.{AreUpTo, IsUpTo}
use Rattle.part_law.proofs.Standing.{Cited, same_node}
use Rattle.part_law.proofs.Standing as standing

module _ (script : Script) (report : Report) (fits : IsFitting script) (apart : AreApart script.objects)
    (texts : AreTextsFree script) (run : LawfulRun script report) (reading : Reading run) (cited : Cited) (own object : ℕ)
    (held : Object) (there : slice_get script.objects object ≡ Some held) (home : ℕ) (colours : List ℕ)
    (kind : held.kind ≡ kinds.Parts home colours) (lines : List (List Key))
    (closing : AllZip (λ (colour : ℕ) (line : List Key). IsClosing report own colour line) (rising colours) lines) where
  -- what stands there
  abbrev InLines : Key → Type 0
  InLines = standing.InLines script report fits apart texts run reading cited own object held there home colours kind lines closing

  abbrev IsSort : ObjectNode → Type 0
  IsSort = standing.IsSort script report fits apart texts run reading cited own object held there home colours kind lines closing

  abbrev IsTx : ObjectNode → Type 0
  IsTx = standing.IsTx script report fits apart texts run reading cited own object held there home colours kind lines closing

  abbrev IsDecider : ObjectNode → Type 0
  IsDecider = standing.IsDecider script report fits apart texts run reading cited own object held there home colours kind lines closing

  -- SHARDS AND DECISIONS

  pub has_its_shards : (node : ObjectNode) → IsSort node → HasItsShards colours node
  has_its_shards node sort reads pairs is c i = by sort where
    by : (is_transactional node.text ≡ false) ⊎ (IsTx node ⊎ IsDecider node)
        → has node.colours c ≡ touches colours c reads pairs
    by (inl other) =
        let e : transaction_by node.key (forms.Transaction reads pairs) ≡ None =
        subst (λ (f : Form). transaction_by node.key f ≡ None) is (no_transaction node.text other node.key) in
        absurd (let f : ⊥ = cc (e) in f)
    by (inr (inl t)) =
        let e : forms.Transaction t.versions t.pairs ≡ forms.Transaction reads pairs =
        sym (ap form_of t.says ∙ cited.back (forms.Transaction t.versions t.pairs) t.form) ∙ is in
        let v : t.versions ≡ reads = cc (e) in
        let p : t.pairs ≡ pairs = cc (e) in
        shards_touch colours t.versions t.pairs node.colours t.on c (standing.low script report fits apart texts run reading cited own object held there home colours kind lines closing c (in_contains colours c i))
        ∙ (ap (λ (x : List Version). touches colours c x t.pairs) v ∙ ap (λ (x : List Pair). touches colours c reads x) p)
    by (inr (inr d)) =
        let e : forms.Plain ≡ forms.Transaction reads pairs = sym (ap form_of d.says ∙ cited.plain d.decision) ∙ is in
        absurd (let f : ⊥ = cc (e) in f)

  -- the nodes up to some point
  module _ (played upto : List Key) (are : AreUpTo lines played upto) (nodes : List ObjectNode)
      (read : AreLogged run.log upto nodes) where
    pub rises : Rises nodes
    rises = rises_from nodes (subst (λ (ks : List Key). AllPairs (λ (a b : Key). IsTrue (key_below a b)) ks)
        (sym (zip_map (IsLogged run.log) (λ (n : ObjectNode). n.key) (λ k n o. o.key_is) upto nodes read)) are.rising)

    -- a node of them, by its key
    pub is_node : (node : ObjectNode) → In node nodes → In node.key upto × IsLogged run.log node.key node
    is_node node i =
        let z = zip_of (IsLogged run.log) upto nodes read node i in
        let same = sym z.2.key_is in
        (subst (λ (k : Key). In k upto) same z.1, subst (λ (k : Key). IsLogged run.log k node) same z.2)

    pub has_node : (key : Key) (node : ObjectNode) → In key upto → IsLogged run.log key node → In node nodes
    has_node key node i is =
        let z = zip_to (IsLogged run.log) upto nodes read key i in
        subst (λ (n : ObjectNode). In n nodes) (same_node run key z.0 node z.2 is) z.1

    pub lines_of : (key : Key) → In key upto → InLines key
    lines_of key i =
        let o = are.no_other key (contains_in upto key i) in
        standing.in_lines script report fits apart texts run reading cited own object held there home colours kind lines closing o.1 key (in_contains lines o.1 o.2) (in_contains o.1 key o.3)

    pub sort_in : (node : ObjectNode) → In node nodes → IsSort node
    sort_in node i =
        let n = is_node node i in
        let at = lines_of node.key n.0 in
        let l = reading.nodes own at.colour at.line at.is node.key at.inside in
        subst IsSort (same_node run node.key l.node node l.is n.1) (standing.sort_of script report fits apart texts run reading cited own object held there home colours kind lines closing node.key at l)

    -- A decision that stands among them is that of a read of these lines, and so it says what they say.
    decides_so : (node : ObjectNode) → In node nodes → (d : IsDecider node) → SaysTheVerdict nodes node
    decides_so node i d decision is commits ruled =
        ap (λ (x : Decision). x.commits) same ∙ (let e = sym ended in let f : said.commits ≡ commits = cc (e) in f) where
          client : ℕ
          client = node.key.id.client

          n : IsNodeOf run node
          n = d.of

          why : Reason run client n.k n.reply
          why = reading.reason client n.k n.reply n.append.replied

          command : why.command ≡ n.append.command
          command = let e : Some why.command ≡ Some n.append.command = sym why.asked ∙ n.append.asked in cc (e)

          said : SaysDecided run.log (caller_of script client) why.kept object
          said = decided run.log (caller_of script client) why.kept object d.key n.reply.answer n.reply.nodes why.after
              (subst (λ (w : What). Explains run.log (caller_of script client) why.kept w n.reply.answer n.reply.nodes why.after)
              (ap (λ (x : Command). x.what) command ∙ d.asks) why.explained) n.tells

          whole : said.colours ≡ colours
          whole =
              let e : Some (kinds.Parts said.home said.colours) ≡ Some (kinds.Parts home colours) =
              sym said.kind ∙ (ap (λ (x : Option Object). option_map (λ (y : Object). y.kind) x) there
              ∙ ap (λ (k : Kind). Some k) kind) in cc (e)

          -- its text

          object_node : IsLogged run.log node.key node
          object_node = (is_node node i).1

          counted : node.key.id.count ≡ said.read.ids
          counted = ap (λ (x : Id). x.count) n.append.id_is
              ∙ sym (reading.ids client said.before (rising said.colours) said.stamp said.raises said.syncs said.read said.reads
              ∙ (said.same_ids ∙ why.ids))

          text : node.text ≡ decision_text (record { key = said.waits; commits = said.commits })
          text =
              let e : Some object_node.appended ≡ Some said.node =
              sym object_node.there ∙ (ap (λ (x : ℕ). slice_get (run.log.nodes client) x) counted ∙ said.there) in
              let f : object_node.appended ≡ said.node = cc (e) in
              object_node.text ∙ (ap (λ (x : Node). x.text) f ∙ said.says)

          -- its read

          order : IsRegionOrder lines said.stamp said.keys
          order =
              let cs : rising colours ≡ map (λ (s : SyncPiece). s.colour) said.syncs =
              sym (said.reads.synced_colours ∙ ap rising whole) in
              let at_home : AllZip (λ (c : ℕ) (l : List Key). IsClosing report (caller_of script client).own c l) (rising colours) lines =
              subst (λ (r : ℕ). AllZip (λ (c : ℕ) (l : List Key). IsClosing report r c l) (rising colours) lines)
              (sym d.own_is) closing in
              reading.order client said.before (rising said.colours) said.stamp said.raises said.syncs said.read said.keys said.reads
              said.are_keys lines
              (zip_images (λ (c : ℕ) (l : List Key). IsClosing report (caller_of script client).own c l)
              (λ (s : SyncPiece). s.colour) said.syncs lines
              (subst (λ (x : List ℕ). AllZip (λ (c : ℕ) (l : List Key). IsClosing report (caller_of script client).own c l) x lines)
              cs at_home))

          there_are : AreLogged run.log said.keys said.nodes
          there_are = all_logged run.log said.keys said.nodes said.are_nodes

          rises_there : Rises said.nodes
          rises_there = rises_from said.nodes (subst (λ (ks : List Key). AllPairs (λ (a b : Key). IsTrue (key_below a b)) ks)
              (sym (zip_map (IsLogged run.log) (λ (n : ObjectNode). n.key) (λ k n o. o.key_is) said.keys said.nodes there_are))
              order.rising)

          there_is : (x : ObjectNode) → In x said.nodes → In x.key said.keys × IsLogged run.log x.key x
          there_is x j =
              let z = zip_of (IsLogged run.log) said.keys said.nodes there_are x j in
              let e = sym z.2.key_is in
              (subst (λ (k : Key). In k said.keys) e z.1, subst (λ (k : Key). IsLogged run.log k x) e z.2)

          there_has : (key : Key) (x : ObjectNode) → In key said.keys → IsLogged run.log key x → In x said.nodes
          there_has key x j o =
              let z = zip_to (IsLogged run.log) said.keys said.nodes there_are key j in
              subst (λ (n : ObjectNode). In n said.nodes) (same_node run key z.0 x z.2 o) z.1

          -- what it is on

          on : (m : ObjectNode) × In m said.nodes × (m.key ≡ said.waits)
          on = stands_among said.nodes said.waits said.commits said.ruled

          on_listed : In said.waits said.keys
          on_listed = subst (λ (k : Key). In k said.keys) on.2 (there_is on.0 on.1).0

          found : (said.waits.stamp ≤ said.stamp) × (line : List Key) × Contains lines line × Contains line said.waits
          found = order.no_other said.waits (contains_in said.keys said.waits on_listed)

          ranged : is_writer (Some said.waits) ≡ true
          ranged =
              let at = standing.in_lines script report fits apart texts run reading cited own object held there home colours kind lines closing found.1 said.waits (in_contains lines found.1 found.2) (in_contains found.1 said.waits found.3) in
              let l = reading.nodes own at.colour at.line at.is said.waits at.inside in
              subst (λ (k : Key). is_writer (Some k) ≡ true) l.is.key_is l.ranged

          same : decision ≡ record { key = said.waits; commits = said.commits }
          same = cited.differ decision (record { key = said.waits; commits = said.commits }) node.text
              ((cited.reads node.text decision).1 is) (ranged, sym text)

          -- what becomes of that

          ruled_here : outcome (verdict_of nodes said.waits) ≡ Some commits
          ruled_here = subst (λ (x : Decision). outcome (verdict_of nodes x.key) ≡ Some commits) same ruled

          here : (m : ObjectNode) × In m nodes × (m.key ≡ said.waits)
          here = stands_among nodes said.waits commits ruled_here

          one_node : here.0 ≡ on.0
          one_node = same_node run said.waits here.0 on.0
              (subst (λ (k : Key). IsLogged run.log k here.0) here.2 (is_node here.0 here.1).1)
              (subst (λ (k : Key). IsLogged run.log k on.0) on.2 (there_is on.0 on.1).1)

          forth : (x : ObjectNode) → In x nodes → key_below x.key said.waits ≡ true → In x said.nodes
          forth x j below =
              let n = is_node x j in
              let o = are.no_other x.key (contains_in upto x.key n.0) in
              let less = key-stamps x.key said.waits below in
              let most = found.0 in
              there_has x.key x (in_contains said.keys x.key (order.all o.1 x.key o.2 o.3 (omega (arith, less, most)))) n.1

          back : (x : ObjectNode) → In x said.nodes → key_below x.key said.waits ≡ true → In x nodes
          back x j below =
              let n = there_is x j in
              let o = order.no_other x.key (contains_in said.keys x.key n.0) in
              let upto_last : IsUpTo played x.key = (w.0, w.1, inr (by w.2)) in
              has_node x.key x (in_contains upto x.key (are.all o.1 x.key o.2 o.3 upto_last)) n.1 where
                w : IsUpTo played said.waits
                w = (are.no_other said.waits (contains_in upto said.waits
                    (subst (λ (k : Key). In k upto) here.2 (is_node here.0 here.1).0))).0

                by : (said.waits ≡ w.0) ⊎ IsTrue (key_below said.waits w.0) → IsTrue (key_below x.key w.0)
                by (inl e) = subst (λ (k : Key). key_below x.key k ≡ true) e below
                by (inr e) = key-trans x.key said.waits w.0 below e

          ended : Some commits ≡ Some said.commits
          ended =
              sym ruled_here
              ∙ (ap outcome (same_verdict nodes said.nodes said.waits on.0 rises rises_there
              (subst (λ (m : ObjectNode). In m nodes) one_node here.1) on.1 on.2 forth back) ∙ said.ruled)

    pub says_verdict : (node : ObjectNode) → In node nodes → SaysTheVerdict nodes node
    says_verdict node i = by (sort_in node i) where
      by : IsSort node → SaysTheVerdict nodes node
      by (inl other) = λ decision is.
          let e : None ≡ Some decision = sym (no_decision node.text other) ∙ is in absurd (let f : ⊥ = cc (e) in f)
      by (inr (inl t)) = λ decision is.
          let e : None ≡ Some decision = ap decision_of (sym t.says) ∙ is in absurd (let f : ⊥ = cc (e) in f)
      by (inr (inr d)) = decides_so node i d

    -- all of them
    all_nodes : AreAllNodes colours (nodes ++ [])
    all_nodes = subst (AreAllNodes colours) (sym (append-nil nodes)) (record {
      rising = rises_to nodes rises;
      shards = λ node i. has_its_shards node (sort_in node (in_contains nodes node i));
      decisions = λ node i. says_verdict node (in_contains nodes node i);
    })

    -- THE SHARD'S LINE
    module _ (c : ℕ) (among : In c colours) (line : List Key) (closes : IsClosing report own c line) (count : ℕ)
        (first : take count line ≡ played) (mine : List ObjectNode) (theirs : AreLogged run.log played mine) where
      line_rises : AllPairs (λ (a b : Key). IsTrue (key_below a b)) line
      line_rises = subst (λ (ks : List Key). AllPairs (λ (a b : Key). IsTrue (key_below a b)) ks) closes.4
          (λ i j d lt inside. cited.rise script report run closes.0 closes.1 i j (slice_index_or closes.0.line i d)
          (slice_index_or closes.0.line j d) (slice_get-get_or closes.0.line i d (omega (arith, lt, inside)))
          (slice_get-get_or closes.0.line j d inside) lt)

      mine_rises : Rises mine
      mine_rises = rises_from mine (subst (λ (ks : List Key). AllPairs (λ (a b : Key). IsTrue (key_below a b)) ks)
          (sym (zip_map (IsLogged run.log) (λ (n : ObjectNode). n.key) (λ k n o. o.key_is) played mine theirs))
          (subst (λ (ks : List Key). AllPairs (λ (a b : Key). IsTrue (key_below a b)) ks) first
          (pairs_take (λ (a b : Key). IsTrue (key_below a b)) count line line_rises)))

      in_played : (key : Key) → In key line → IsUpTo played key → In key played
      in_played key i u = subst (λ (ks : List Key). In key ks) first
          (in_first count line key u.0 line_rises i
          (subst (λ (ks : List Key). In u.0 ks) (sym first) (in_contains played u.0 u.1)) u.2)

      into : (node : ObjectNode) → In node (filter is_said (nodes_of c nodes)) → In node (filter is_said mine)
      into node i = in_filter-back is_said node mine (by (sort_in node u.0)) t.1 where
        t : In node (nodes_of c nodes) × (is_said node ≡ true)
        t = in_filter is_said node (nodes_of c nodes) i

        u : In node nodes × (has node.colours c ≡ true)
        u = in_filter (λ (n : ObjectNode). has n.colours c) node nodes t.0

        stood : In node.key line → In node mine
        stood inside =
            let n = is_node node u.0 in
            let z = zip_to (IsLogged run.log) played mine theirs node.key
            (in_played node.key inside (are.no_other node.key (contains_in upto node.key n.0)).0) in
            subst (λ (x : ObjectNode). In x mine) (same_node run node.key z.0 node z.2 n.1) z.1

        by : IsSort node → In node mine
        by (inl other) = absurd (both_ways (is_transactional node.text) t.1 other)
        by (inr (inl tx)) = stood (tx.stands c among u.1 line closes)
        by (inr (inr d)) = stood (d.stands c among u.1 line closes)

      out : (node : ObjectNode) → In node (filter is_said mine) → In node (filter is_said (nodes_of c nodes))
      out node i =
          let t = in_filter is_said node mine i in
          let z = zip_of (IsLogged run.log) played mine theirs node t.0 in
          let inside : In z.0 line = in_take count line z.0 (subst (λ (ks : List Key). In z.0 ks) (sym first) z.1) in
          let other = standing.line_at script report fits apart texts run reading cited own object held there home colours kind lines closing c among in
          let listed : In line lines = subst (λ (ks : List Key). In ks lines) (reading.one own c other.0 line other.2 closes) other.1 in
          let up : In z.0 upto = in_contains upto z.0 (are.all line z.0 (contains_in lines line listed) (contains_in line z.0 inside)
          (z.0, contains_in played z.0 z.1, inl refl)) in
          let l = reading.nodes own c line closes z.0 inside in
          let same : l.node ≡ node = same_node run z.0 l.node node l.is z.2 in
          let coloured : has node.colours c ≡ true =
          subst (λ (n : ObjectNode). has n.colours c ≡ true) same (set_has l.node.colours c l.among) in
          in_filter-back is_said node (nodes_of c nodes)
          (in_filter-back (λ (n : ObjectNode). has n.colours c) node nodes (has_node z.0 node up z.2) coloured) t.1

      same_line : filter is_said (nodes_of c nodes) ≡ filter is_said mine
      same_line = same_lists (filter is_said (nodes_of c nodes)) (filter is_said mine)
          (rises_filter is_said (nodes_of c nodes) (rises_filter (λ (n : ObjectNode). has n.colours c) nodes rises))
          (rises_filter is_said mine mine_rises) into out

      -- where the part waits for nothing, it has what all nodes leave
      pub agreeing : (place : ℕ) → slice_get colours place ≡ Some c → AllPairs (λ (a b : ℕ). a ≢ b) colours
          → (key : List ℕ) → c ≡ shard_of colours key → undecided_after (part_at colours place) mine ≡ None
          → part_value (part_at colours place) mine key ≡ value_of (writes_after nodes) key
      agreeing place at differ key shard waits =
          ap (λ (k : Known). cond (is_in_shard part key) (value_of k.writes key) None) (sym same_known)
          ∙ (cited.agree colours place nodes [] lt all_nodes).values (ap (λ (k : Known). k.undecided) same_known ∙ waits) key
          mine_key where
            part : Part
            part = part_at colours place

            lt : place < length colours
            lt = slice_get_within colours place c at

            colour_is : slice_index colours place ≡ c
            colour_is = get_or_from_slice_get colours place c 0 at

            mine_key : is_in_shard part key ≡ true
            mine_key = cited.parts colours place key lt differ
                ∙ eq-eqb (shard_of colours key) (slice_index colours place) (sym shard ∙ sym colour_is)

            same_txs : transactions (nodes_of c nodes) ≡ transactions mine
            same_txs = same_transactions (nodes_of c nodes) ∙ (ap transactions same_line ∙ sym (same_transactions mine))

            same_said : decisions (nodes_of c nodes) ≡ decisions mine
            same_said = same_decisions (nodes_of c nodes) ∙ (ap decisions same_line ∙ sym (same_decisions mine))

            same_known : known_after part (shard_line colours place nodes) ≡ known_after part mine
            same_known =
                ap (λ (x : ℕ). known_after part (nodes_of x nodes)) colour_is
                ∙ (ap (λ (ds : List Decision). known_of part ds (transactions (nodes_of c nodes))) same_said
                ∙ ap (λ (ts : List Transaction). known_of part (decisions mine) ts) same_txs)
