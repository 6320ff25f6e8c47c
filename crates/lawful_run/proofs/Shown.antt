-- What node lines show.
use Rattle.std.proofs.Common.{◌≡◌, ℕ, zero, suc, ◌<◌, List, [], ◌∷◌, ◌++◌, length, map, take, drop, Some, slice_get, refl, ap, sym, subst, ◌∙◌, arith}
use Rattle.std.specs.Prelude.{◌==◌, ◌≢◌}
use Rattle.std.specs.List.{All, AllZip, Contains, flat_map, range_with_len}
use Rattle.std.proofs.lemmas.Bool.{eq-eqb, eqb-true}
use Rattle.std.proofs.lemmas.List.{length-map}
use Rattle.std.proofs.lemmas.List.Elements.{All-contains}
use Rattle.log_node.specs.declared.ids.Key.{Key}
use Rattle.log_node.specs.declared.ids.Colours.{Colours}
use Rattle.log_node.specs.declared.node.Head.{Head}
use Rattle.log_node.specs.declared.node.Node.{Node}
use Rattle.log_node.specs.Seen.{PlacedNode}
use Rattle.log_node.specs.Sets.{members}
use Rattle.col_core.specs.declared.Event.{Event}
use Rattle.col_core.specs.declared.Event.TheVariants as events
use Rattle.col_core.specs.declared.Entry.{Entry}
use Rattle.col_core.specs.History.{line}
use Rattle.col_core.specs.Cuts.{Dated, chain, carried, entries_of, needs_of}
use Rattle.col_core.specs.Computed.{dated}
use Rattle.col_core.specs.Legal.{IsColumnHistory, IsLawfulEvent}
use Rattle.col_core.specs.Log.{first, HasText}
use Rattle.col_core.specs.Keeping.{Kept}
use Rattle.col_core.proofs.CallerLemmas.{choice, if_true, if_false, by_test, chains_grow, line_grows, dated-is_dated}
use Rattle.col_core.proofs.CallerLemmas.{later, dates_longer, In, in_filter}
use Rattle.script_text.specs.declared.script.Command.{Command}
use Rattle.script_text.specs.declared.script.Script.{Script}
use Rattle.script_text.specs.declared.commands.What.{What}
use Rattle.script_text.specs.Fitting.{IsFitting, IsWithin as NamesWithin}
use Rattle.report_text.specs.declared.report.Answer.{Answer}
use Rattle.report_text.specs.declared.report.Answer.TheVariants as answers
use Rattle.report_text.specs.declared.report.SyncPiece.{SyncPiece}
use Rattle.report_text.specs.declared.report.ReplyLine.{ReplyLine}
use Rattle.report_text.specs.declared.report.ClientReport.{ClientReport}
use Rattle.report_text.specs.declared.report.ColumnReport.{ColumnReport}
use Rattle.report_text.specs.declared.report.Report.{Report}
use Rattle.lawful_run.specs.Callers.{caller_of, commands_of, node_of}
use Rattle.lawful_run.specs.Reads.{ShowsNode, ShowsKey}
use Rattle.lawful_run.specs.Refusals.{kept_before}
use Rattle.lawful_run.specs.Explains.{Explains}
use Rattle.lawful_run.specs.Lawful.{LawfulRun}
use Rattle.lawful_run.specs.Readings.{Nowhere, told, kept_at, IsAppend, ShownAsAppended}
use Rattle.lawful_run.proofs.Prefixes.{prefix_get, get_within}
use Rattle.lawful_run.proofs.Listed.{to_in, from_in, in_get, get_in, in_map, in_map_back, in_flat_map}
use Rattle.lawful_run.proofs.Replies.{step_of, contains_at}
use Rattle.lawful_run.proofs.Standing as standing
use Rattle.lawful_run.proofs.Standing.{column_is, stands_of}
use Rattle.lawful_run.proofs.Lines.{node_there, append_of}
use Rattle.lawful_run.proofs.Beginnings.{split}
use Rattle.log_node.proofs.CallerLemmas.{get_map_back as get-map}
use Rattle.col_core.proofs.CallerLemmas.{range_has as range_in}
use Rattle.col_core.proofs.CallerLemmas.{in_flat_map-back as in_flat}

-- LISTS
pub zip_at : {A B : Type 0} (R : A → B → Type 0) (xs : List A) (ys : List B) → AllZip R xs ys → (k : ℕ) (y : B)
    → slice_get ys k ≡ Some y
    → (x : A) × (slice_get xs k ≡ Some x) × R x y
zip_at R [] [] a k y e = absurd (let g : ⊥ = cc in g)
zip_at R [] (z ∷ ys) a k y e = absurd a
zip_at R (x ∷ xs) [] a k y e = absurd a
zip_at {A} {B} R (x ∷ xs) (z ∷ ys) a zero y e = let same : z ≡ y = cc in (x, refl, subst (R x) same a.0)
zip_at R (x ∷ xs) (z ∷ ys) a (suc k) y e = zip_at R xs ys a.1 k y e

-- CHAINS
-- the own chain of a column has the keys of its line
own_chain : (own : ℕ) (h : List Entry) (p : ℕ) (head : Head) → slice_get (chain own (dated own h) own) p ≡ Some head
    → slice_get (line h) p ≡ Some head.key
own_chain own h p head there =
    let ds = dated own h in
    let m = get-map (λ (key : Key). record { key = key; needs = needs_of ds key.id }) (line (entries_of ds)) p head
    (subst (λ (hs : List Head). slice_get hs p ≡ Some head) (if_true (own == own) _ _ (eq-eqb own own refl)) there) in
    subst (λ (es : List Entry). slice_get (line es) p ≡ Some head.key) (dated-is_dated own h).same
    (m.1 ∙ ap (λ (x : Head). Some x.key) m.2)

-- only regions that there are have nodes carried of them
carried_within : (own regions region : ℕ) (ds : List Dated) → IsColumnHistory own regions ds → (head : Head) → In head
    (flat_map (λ (d : Dated). carried region d.entry.event) ds)
    → region < regions
carried_within own regions region ds legal head i =
    let f = in_flat_map (λ (d : Dated). carried region d.entry.event) ds head i in
    let at = in_get ds f.0 f.1 in
    brings _ _ f.0.entry.event f.2 (legal at.0 f.0 at.1) where
      brings : (before : List Dated) (stamp : ℕ) (ev : Event) → In head (carried region ev)
          → IsLawfulEvent own regions before ev stamp → region < regions
      brings before stamp (events.Single id floor wants) j l = absurd j
      brings before stamp (events.Propose id floor wants) j l = absurd j
      brings before stamp (events.Settle id outcome) j l = absurd j
      brings before stamp (events.Raise to) j l = absurd j
      brings before stamp (events.Give other from) j l = absurd j
      brings before stamp (events.Carry other start heads) j l =
          choice (λ (hs : List Head). In head hs → region < regions) (other == region) heads []
          (λ t _. let e = eqb-true other region t in let lt = l.2 in omega (arith, e, lt)) (λ _ n. absurd n) j
      brings before stamp (events.Trim counts) j l = absurd j

module _ (script : Script) (report : Report) (fits : IsFitting script) (run : LawfulRun script report) where
  abbrev regions : ℕ
  regions = script.shape.regions

  column_at : (region colour : ℕ) → region < regions → colour < script.shape.colours
      → (column : ColumnReport) × Contains report.columns column × (column.region ≡ region) × (column.colour ≡ colour)
  column_at region colour lr lc =
      let i = in_flat (λ r. map (λ c. (r, c)) (range_with_len 0 script.shape.colours)) (range_with_len 0 regions) region
      (region, colour)
      (range_in 0 regions region (omega arith) (omega (arith, lr)))
      (in_map (λ c. (region, c)) (range_with_len 0 script.shape.colours) colour
      (range_in 0 script.shape.colours colour (omega arith) (omega (arith, lc)))) in
      let m = in_map_back (λ (c : ColumnReport). (c.region, c.colour)) report.columns (region, colour)
      (subst (λ (l : List (ℕ × ℕ)). In (region, colour) l) (sym run.columns.all) i) in
      (m.0, from_in report.columns m.0 m.1, ap (λ (p : ℕ × ℕ). p.0) m.2, ap (λ (p : ℕ × ℕ). p.1) m.2)

  -- what the columns of the report say of any column
  pub legal_at : (region colour : ℕ) → region < regions → colour < script.shape.colours
      → IsColumnHistory region regions (dated region (run.log.histories region colour))
  legal_at region colour lr lc =
      let c = column_at region colour lr lc in
      let x = column_is script report fits run c.0 c.1 in
      let l = subst (λ (es : List Entry). IsColumnHistory c.0.region regions (dated c.0.region es)) x.history x.legal in
      subst (λ d. IsColumnHistory region regions (dated region (run.log.histories region d))) c.3
      (subst (λ r. IsColumnHistory r regions (dated r (run.log.histories r c.0.colour))) c.2 l)

  pub stands_in : (region colour : ℕ) → region < regions → colour < script.shape.colours → (key : Key) → In key
      (line (run.log.histories region colour))
      → standing.Stands run region colour key
  stands_in region colour lr lc key i =
      let c = column_at region colour lr lc in
      let x = column_is script report fits run c.0 c.1 in
      let m = subst (λ (es : List Entry). All (λ (e : Entry). e.by < length script.clients) es) x.history x.makers in
      stands_of script report fits run region colour lr lc (legal_at region colour lr lc)
      (subst (λ d. All (λ (e : Entry). e.by < length script.clients) (run.log.histories region d)) c.3
      (subst (λ r. All (λ (e : Entry). e.by < length script.clients) (run.log.histories r c.0.colour)) c.2 m)) key i

  -- a node of a chain that a region holds stands in the line of its own region
  pub chain_at : (own colour : ℕ) → own < regions → colour < script.shape.colours → (events region p : ℕ) (head : Head)
      → slice_get (chain own (first run.log own colour events) region) p ≡ Some head
      → (region < regions) × (slice_get (line (run.log.histories region colour)) p ≡ Some head.key)
  chain_at own colour lo lc events region p head there =
      let h = run.log.histories own colour in
      let legal = legal_at own colour lo lc in
      let more = later own (first run.log own colour events) (drop events h) in
      let dates : dated own h ≡ first run.log own colour events ++ more =
      ap (dated own) (sym (split h events)) ∙ dates_longer own (take events h) (drop events h) in
      let grown = chains_grow own regions (first run.log own colour events) more
      (subst (IsColumnHistory own regions) dates legal) region in
      let whole : slice_get (chain own (dated own h) region) p ≡ Some head =
      subst (λ (ds : List Dated). slice_get (chain own ds region) p ≡ Some head) (sym dates)
      (prefix_get (chain own (first run.log own colour events) region)
      (chain own (first run.log own colour events ++ more) region) p head grown there) in
      by_test ((region < regions) × (slice_get (line (run.log.histories region colour)) p ≡ Some head.key))
      (region == own)
      (λ t. let e = eqb-true region own t in (
        omega (arith, e, lo),
        subst (λ r. slice_get (line (run.log.histories r colour)) p ≡ Some head.key) (sym e)
            (own_chain own h p head (subst (λ r. slice_get (chain own (dated own h) r) p ≡ Some head) e whole)),
      ))
      (λ f.
      let lt = carried_within own regions region (dated own h) legal head
      (get_in _ p head (subst (λ (hs : List Head). slice_get hs p ≡ Some head)
      (if_false (region == own) _ _ f) whole)) in
      let copy = run.copies colour lc region own lt lo
      (λ e. absurd (let g : ⊥ = (let q = eq-eqb region own e in cc) in g)) in (
        lt,
        own_chain region (run.log.histories region colour) p head
            (prefix_get (chain own (dated own h) region)
            (chain region (dated region (run.log.histories region colour)) region) p head
            (copy.rest, copy.beginning) whole),
      ))

  -- the text of a node that stands is the one that its command appended
  pub text_of : (region colour : ℕ) (key : Key) → standing.Stands run region colour key → (text : List ℕ)
      → HasText run.log key.id text
      → (k : ℕ) × (other : ReplyLine) × (colours : Colours) × IsAppend run key.id.client k other key.id colours text ×
      (told other.answer ≢ Nowhere)
  text_of region colour key s text t =
      let n = node_there script report fits run region colour key s in
      let there = t.1 in
      let e : Some t.0 ≡ Some (node_of (caller_of script key.id.client) s.origin.over s.origin.colours s.origin.text) =
      sym there ∙ n in
      let same : t.0 ≡ node_of (caller_of script key.id.client) s.origin.over s.origin.colours s.origin.text = cc (e) in
      let is : s.origin.text ≡ text = sym (ap (λ (x : Node). x.text) same) ∙ t.3 in (
        s.origin.k,
        s.origin.step.reply,
        s.origin.colours,
        subst (λ (x : List ℕ). IsAppend run key.id.client s.origin.k s.origin.step.reply key.id s.origin.colours x) is
            (append_of script report fits run region colour key s),
        s.stands,
      )

  -- a client of the report is one of the script's, in a region that there is
  pub home : (client : ℕ) (shown : ClientReport) → slice_get report.clients client ≡ Some shown →
      (caller_of script client).own < regions
  home client shown there =
      let lt = get_within report.clients client shown there in
      let long : length report.clients ≡ length script.clients = sym
      (length-map report.clients (λ (c : ClientReport). c.name)) ∙ ap length run.names in
      let all = fits.clients in
      fits.shape.homes client 0 (omega (arith, lt, long, all))

  -- what commands name is within the script's shape
  pub named : (client k : ℕ) (command : Command) → slice_get (commands_of script client) k ≡ Some command
      → NamesWithin regions script.shape.colours command.what
  named client k command there =
      let i = in_filter (λ (c : Command). c.client == client) command script.commands
      (get_in (commands_of script client) k command there) in
      All-contains (λ (c : Command). NamesWithin regions script.shape.colours c.what) script.commands command
      fits.commands (from_in script.commands command i.0)

  -- a key of an own line that was looked at stands in the whole line
  line_first : (own colour : ℕ) → own < regions → colour < script.shape.colours → (events : ℕ) (key : Key)
      → In key (line (take events (run.log.histories own colour))) → In key (line (run.log.histories own colour))
  line_first own colour lo lc events key i =
      let h = run.log.histories own colour in
      let ds = dated own (take events h) in
      let more = later own ds (drop events h) in
      let dates : dated own h ≡ ds ++ more = ap (dated own) (sym (split h events)) ∙ dates_longer own (take events h)
      (drop events h) in
      let grown = line_grows own regions ds more
      (subst (IsColumnHistory own regions) dates (legal_at own colour lo lc)) in
      let p = in_get (line (take events h)) key i in
      let q : slice_get (line (entries_of ds)) p.0 ≡ Some key =
      subst (λ (es : List Entry). slice_get (line es) p.0 ≡ Some key)
      (sym (dated-is_dated own (take events h)).same) p.1 in
      let r = prefix_get (line (entries_of ds)) (line (entries_of (ds ++ more))) p.0 key grown q in
      get_in (line h) p.0 key (subst (λ (es : List Entry). slice_get (line es) p.0 ≡ Some key)
      (ap entries_of (sym dates) ∙ (dated-is_dated own h).same) r)

  -- a node line shows what was appended
  abbrev IsAppended : PlacedNode → Type 0
  IsAppended item =
      (k : ℕ) × (other : ReplyLine) × (colours : Colours)
      × IsAppend run item.head.key.id.client k other item.head.key.id colours item.node.text
      × (told other.answer ≢ Nowhere)

  by_key : (item : PlacedNode) (key : Key) → item.head.key ≡ key
      → (k : ℕ) × (other : ReplyLine) × (colours : Colours)
      × IsAppend run key.id.client k other key.id colours item.node.text
      × (told other.answer ≢ Nowhere) → IsAppended item
  by_key item key is a =
      subst (λ (x : Key). (k : ℕ) × (other : ReplyLine) × (colours : Colours)
      × IsAppend run x.id.client k other x.id colours item.node.text
      × (told other.answer ≢ Nowhere)) (sym is) a

  none_shown : (nodes : List PlacedNode) (n : ℕ) (item : PlacedNode) → nodes ≡ [] → slice_get nodes n ≡ Some item
      → IsAppended item
  none_shown nodes n item e there = let f : slice_get [] n ≡ Some item = subst
      (λ (l : List PlacedNode). slice_get l n ≡ Some item) e there in absurd (let g : ⊥ = cc in g)

  shown_in : (client : ℕ) → (caller_of script client).own < regions → (kept : Kept) (what : What) (answer : Answer)
      (nodes : List PlacedNode) (after : Kept)
      → Explains run.log (caller_of script client) kept what answer nodes after
      → NamesWithin regions script.shape.colours what
      → (n : ℕ) (item : PlacedNode) → slice_get nodes n ≡ Some item → IsAppended item
  shown_in client lo kept what answers.NoMemory nodes after e w n item there = none_shown nodes n item e.0 there
  shown_in client lo kept what (answers.Stood stamp row points) nodes after e w n item there =
      none_shown nodes n item e.0 there
  shown_in client lo kept what (answers.StampEnd colour) nodes after e w n item there =
      none_shown nodes n item e.0 there
  shown_in client lo kept what (answers.Full used) nodes after e w n item there = none_shown nodes n item e.0 there
  shown_in client lo kept what (answers.Stopped steps) nodes after e w n item there = none_shown nodes n item e.0 there
  shown_in client lo kept what (answers.Synced sync plays) nodes after e w n item there =
      let own = (caller_of script client).own in
      let lc : sync.colour < script.shape.colours = subst (NamesWithin regions script.shape.colours) e.0 w in
      let z = zip_at (ShowsNode run.log (caller_of script client) sync.colour sync.events) e.3.order nodes e.3.lines n
      item there in
      let s = z.2 in
      let c = chain_at own sync.colour lo lc sync.events z.0.region z.0.position s.head s.stands in
      by_key item s.head.key s.key
      (text_of z.0.region sync.colour s.head.key
      (stands_in z.0.region sync.colour c.0 lc s.head.key
      (get_in (line (run.log.histories z.0.region sync.colour)) z.0.position s.head.key c.1)) item.node.text s.text)
  shown_in client lo kept what (answers.Scanned stamp count raises syncs) nodes after e w n item there =
      let own = (caller_of script client).own in
      let below : All (λ c. c < script.shape.colours) (members e.0) =
      (subst (NamesWithin regions script.shape.colours) e.1 w).1 in
      let z = zip_at (ShowsKey run.log) e.4 nodes e.6 n item there in
      let o = e.5.no_other z.0 (contains_at e.4 n z.0 z.1) in
      let m = in_map_back (λ (s : SyncPiece). line (take s.events (run.log.histories own s.colour))) syncs o.1
      (to_in _ o.1 o.2) in
      let s = m.0 in
      let named = subst (λ (l : List ℕ). In s.colour l) e.3.synced_colours
      (in_map (λ (x : SyncPiece). x.colour) syncs s m.1) in
      let lc = All-contains (λ c. c < script.shape.colours) (members e.0) s.colour below
      (from_in (members e.0) s.colour named) in
      let i = subst (λ (l : List Key). In z.0 l) (sym m.2) (to_in o.1 z.0 o.3) in
      by_key item z.0 z.2.0
      (text_of own s.colour z.0 (stands_in own s.colour lo lc z.0
      (line_first own s.colour lo lc s.events z.0 i)) item.node.text z.2.1)
  shown_in client lo kept what (answers.Pulled count give carry) nodes after e w n item there =
      none_shown nodes n item e.0 there
  shown_in client lo kept what answers.SameRegion nodes after e w n item there = none_shown nodes n item e.0 there
  shown_in client lo kept what (answers.Based shown base) nodes after e w n item there =
      none_shown nodes n item e.0 there
  shown_in client lo kept what (answers.Got value sync) nodes after e w n item there = none_shown nodes n item e.0 there
  shown_in client lo kept what (answers.GotMany values sync) nodes after e w n item there =
      none_shown nodes n item e.0 there
  shown_in client lo kept what (answers.GotKeys stamp shown raises syncs) nodes after e w n item there =
      none_shown nodes n item e.0 there
  shown_in client lo kept what (answers.Ruled conflict stamp row points read_stamp raises syncs) nodes after e w n item
      there = none_shown nodes n item e.0 there
  shown_in client lo kept what (answers.Changed failed stamp row points read_stamp raises syncs) nodes after e w n item
      there = none_shown nodes n item e.0 there
  shown_in client lo kept what (answers.Listed names stamp raises syncs) nodes after e w n item there =
      none_shown nodes n item e.0 there
  shown_in client lo kept what (answers.Undecided stamp sync) nodes after e w n item there =
      none_shown nodes n item e.0 there
  shown_in client lo kept what (answers.Decided commits stamp sync read_stamp raises syncs ended) nodes after e w n item
      there = none_shown nodes n item e.0 there
  shown_in client lo kept what (answers.Moved lined waiting colour events) nodes after e w n item there =
      none_shown nodes n item e.0 there
  shown_in client lo kept what answers.NoTx nodes after e w n item there = none_shown nodes n item e.0 there
  shown_in client lo kept what (answers.Took value point sync) nodes after e w n item there =
      none_shown nodes n item e.0 there
  shown_in client lo kept what (answers.UnreadTrimmed stamp colour base) nodes after e w n item there =
      none_shown nodes n item e.0 there
  shown_in client lo kept what (answers.UnreadNoMemory stamp) nodes after e w n item there =
      none_shown nodes n item e.0 there
  shown_in client lo kept what (answers.Trimmed colour base) nodes after e w n item there =
      none_shown nodes n item e.0 there
  shown_in client lo kept what (answers.NotHome home) nodes after e w n item there = none_shown nodes n item e.0 there

pub shown_as_appended : ShownAsAppended
shown_as_appended script report fits run client n reply there item inside =
    let e = (run.clients client there.0 there.1).explained in
    let s = step_of e n reply there.2 in
    let step = s.0 in
    let m = in_get reply.nodes item (to_in reply.nodes item inside) in
    shown_in script report fits run client (home script report fits run client there.0 there.1)
    (kept_before step.command.what (kept_at e n)) step.command.what step.reply.answer step.reply.nodes
    step.answers.answered step.answers.explained
    (named script report fits run client n step.command step.asked) m.0 item
    (subst (λ (x : ReplyLine). slice_get x.nodes m.0 ≡ Some item) (sym s.1) m.1)
