-- Closing lines rise, and an id has one key in all of them.
use Rattle.std.proofs.Common.{refl, ◌≡◌, ℕ, ◌<◌, ◌≤◌, List, [], ◌∷◌, length, Some, slice_get, ap, sym, subst, ◌∙◌, ◌⊎◌, inl, inr, arith}
use Rattle.std.specs.Prelude.{◌≢◌, IsTrue}
use Rattle.std.specs.List.{All, Contains}
use Rattle.std.proofs.lemmas.Bool.{cases_lt}
use Rattle.std.proofs.lemmas.List.Elements.{All-contains}
use Rattle.log_node.specs.declared.ids.Id.{Id}
use Rattle.log_node.specs.declared.ids.Key.{Key}
use Rattle.log_node.specs.declared.node.Node.{Node}
use Rattle.log_node.specs.Order.{key_below}
use Rattle.log_node.specs.Sets.{members}
use Rattle.log_node.specs.declared.marks.Outcome.TheVariants.{Final}
use Rattle.col_core.specs.declared.Entry.{Entry}
use Rattle.col_core.specs.History.{line, entry_key}
use Rattle.col_core.specs.Computed.{dated}
use Rattle.col_core.specs.Legal.{IsColumnHistory}
use Rattle.col_core.specs.Rows.{BegunRow, FitsRows}
use Rattle.col_core.proofs.CallerLemmas.{key-irrefl, key-trans, In, line_rises, dated-is_dated}
use Rattle.col_core.specs.Keeping.{Kept}
use Rattle.script_text.specs.declared.script.Script.{Script}
use Rattle.script_text.specs.Fitting.{IsFitting}
use Rattle.report_text.specs.declared.report.ColumnReport.{ColumnReport}
use Rattle.report_text.specs.declared.report.Report.{Report}
use Rattle.lawful_run.specs.Callers.{caller_of, node_of}
use Rattle.lawful_run.specs.Deeds.{AsksToAppend}
use Rattle.lawful_run.specs.Columns.{IsColumnReport}
use Rattle.lawful_run.specs.Lawful.{LawfulRun}
use Rattle.lawful_run.specs.Readings.{IsAppend, ClosingLinesRise, OneKey, OneOrder, NothingElseStands}
use Rattle.lawful_run.proofs.Listed.{to_in, from_in, in_get, get_in, same_one}
use Rattle.lawful_run.proofs.Entered.{HasSingle, one_in_line}
use Rattle.lawful_run.proofs.Standing.{Stands, column_is, column_within, stands_of}

-- a line of the log rises
pub rising : (own regions : ℕ) (h : List Entry) → IsColumnHistory own regions (dated own h) → (i j : ℕ) (k l : Key)
    → i < j
    → slice_get (line h) i ≡ Some k → slice_get (line h) j ≡ Some l → IsTrue (key_below k l)
rising own regions h legal i j k l lt a b =
    let same = (dated-is_dated own h).same in
    line_rises own regions (dated own h) legal i j k l lt
    (subst (λ (es : List Entry). slice_get (line es) i ≡ Some k) (sym same) a)
    (subst (λ (es : List Entry). slice_get (line es) j ≡ Some l) (sym same) b)

pub closing_lines_rise : ClosingLinesRise
closing_lines_rise script report run column there i j k l a b lt =
    let c = All-contains (IsColumnReport run.log script) report.columns column run.columns.each there in
    let shown = c.closing.line_shown in
    rising column.region script.shape.regions column.journal c.legal i j k l lt
    (subst (λ (ks : List Key). slice_get ks i ≡ Some k) shown a)
    (subst (λ (ks : List Key). slice_get ks j ≡ Some l) shown b)

module _ (script : Script) (report : Report) (fits : IsFitting script) (run : LawfulRun script report) where
  -- a key of a closing line
  pub key_of : (column : ColumnReport) (key : Key) → Contains report.columns column → In key column.line
      → Stands run column.region column.colour key
  key_of column key there inside =
      let c = column_is script report fits run column there in
      let w = column_within script report fits run column there in
      let h = run.log.histories column.region column.colour in
      stands_of script report fits run column.region column.colour w.0 w.1
      (subst (λ (es : List Entry). IsColumnHistory column.region script.shape.regions
      (dated column.region es)) c.history c.legal)
      (subst (λ (es : List Entry). All (λ (e : Entry). e.by < length script.clients) es) c.history c.makers)
      key (subst (λ (ks : List Key). In key ks) (c.closing.line_shown ∙ ap line c.history) inside)

  pub node_there : (region colour : ℕ) (key : Key) (s : Stands run region colour key)
      → slice_get (run.log.nodes key.id.client) key.id.count ≡ Some
      (node_of (caller_of script key.id.client) s.origin.over s.origin.colours s.origin.text)
  node_there region colour key s = ap (λ (i : Id). slice_get (run.log.nodes key.id.client) i.count) s.origin.id_is
      ∙ s.origin.node

  -- of one id, on the same colours
  same_colours : (r c : ℕ) (k : Key) (r' c' : ℕ) (l : Key) (s : Stands run r c k) (t : Stands run r' c' l) → k.id ≡ l.id
      → members s.origin.colours ≡ members t.origin.colours
  same_colours r c k r' c' l s t same =
      let a = node_there r c k s in
      let b = subst (λ (i : Id). slice_get (run.log.nodes i.client) i.count
      ≡ Some (node_of (caller_of script l.id.client) t.origin.over t.origin.colours t.origin.text)) (sym same)
      (node_there r' c' l t) in
      let e = sym a ∙ b in
      let n : node_of (caller_of script k.id.client) s.origin.over s.origin.colours s.origin.text
      ≡ node_of (caller_of script l.id.client) t.origin.over t.origin.colours t.origin.text = cc (e) in
      ap (λ (x : Node). members x.colours) n

  -- no row has the id of a single
  no_row : (region colour : ℕ) → region < script.shape.regions → colour < script.shape.colours → (id : Id) → HasSingle
      (run.log.histories region colour) id
      → (r : BegunRow) → In r (run.log.rows region) → r.node.id ≡ id → ⊥
  no_row region colour lr lc id s r among is =
      let h = run.log.histories region colour in
      let f = All-contains (λ (x : Entry). FitsRows (run.log.rows region) colour x.event) h s.entry
      ((run.begun.lawful region lr).events colour lc) (from_in h s.entry s.among) in
      let g : All (λ (x : BegunRow). x.node.id ≢ id) (run.log.rows region) = subst
      (FitsRows (run.log.rows region) colour) s.is f in
      All-contains (λ (x : BegunRow). x.node.id ≢ id) (run.log.rows region) r g
      (from_in (run.log.rows region) r among) is

  pub same_region : (r c : ℕ) (k : Key) (r' c' : ℕ) (l : Key) → Stands run r c k → Stands run r' c' l → k.id ≡ l.id → r
      ≡ r'
  same_region r c k r' c' l s t same = sym s.own ∙ (ap (λ (i : Id). (caller_of script i.client).own) same ∙ t.own)

  -- with one key
  pub one : (a b : ColumnReport) (k l : Key) → Contains report.columns a → Contains report.columns b → In k a.line
      → In l b.line → k.id ≡ l.id
      → (k ≡ l) × (a.region ≡ b.region)
  one a b k l there there' i j same =
      let s = key_of a k there i in
      let t = key_of b l there' j in
      let region = same_region a.region a.colour k b.region b.colour l s t same in
      (turn s t region s.came t.came, region) where
        lines : (c : ColumnReport) → Contains report.columns c → c.line ≡ line (run.log.histories c.region c.colour)
        lines c at = let x = column_is script report fits run c at in x.closing.line_shown ∙ ap line x.history

        legal : IsColumnHistory a.region script.shape.regions (dated a.region (run.log.histories a.region a.colour))
        legal = let x = column_is script report fits run a there in
            subst (λ (es : List Entry). IsColumnHistory a.region script.shape.regions
            (dated a.region es)) x.history x.legal

        turn : (s : Stands run a.region a.colour k) (t : Stands run b.region b.colour l) → a.region ≡ b.region
            → (HasSingle (run.log.histories a.region a.colour) k.id × (members s.origin.colours ≡ a.colour ∷ []))
            ⊎ ((r : BegunRow) × In r (run.log.rows a.region) × (r.node.id ≡ k.id) × (r.last ≡ Final k.stamp))
            → (HasSingle (run.log.histories b.region b.colour) l.id × (members t.origin.colours ≡ b.colour ∷ []))
            ⊎ ((r : BegunRow) × In r (run.log.rows b.region) × (r.node.id ≡ l.id) × (r.last ≡ Final l.stamp))
            → k ≡ l
        turn s t region (inl x) (inl y) =
            let e : a.colour ∷ [] ≡ b.colour ∷ [] = sym x.1 ∙
            (same_colours a.region a.colour k b.region b.colour l s t same ∙ y.1) in
            let colour : a.colour ≡ b.colour = cc (e) in
            let j' = subst (λ (c : ℕ). In l (line (run.log.histories a.region c))) (sym colour)
            (subst (λ (r : ℕ). In l (line (run.log.histories r b.colour))) (sym region)
            (subst (λ (ks : List Key). In l ks) (lines b there') j)) in
            one_in_line a.region script.shape.regions (run.log.histories a.region a.colour) legal k l
            (subst (λ (ks : List Key). In k ks) (lines a there) i) j' same
        turn s t region (inl x) (inr y) =
            let w = column_within script report fits run a there in
            absurd (no_row a.region a.colour w.0 w.1 k.id x.0 y.0
            (subst (λ (r : ℕ). In y.0 (run.log.rows r)) (sym region) y.1) (y.2 ∙ sym same))
        turn s t region (inr x) (inl y) =
            let w = column_within script report fits run b there' in
            absurd (no_row b.region b.colour w.0 w.1 l.id y.0 x.0
            (subst (λ (r : ℕ). In x.0 (run.log.rows r)) region x.1) (x.2 ∙ same))
        turn s t region (inr x) (inr y) =
            let w = column_within script report fits run a there in
            let rows = run.log.rows a.region in
            let at = in_get rows x.0 x.1 in
            let at' = in_get rows y.0 (subst (λ (r : ℕ). In y.0 (run.log.rows r)) (sym region) y.1) in
            let e : x.0 ≡ y.0 = same_one (λ (r : BegunRow). r.node.id) rows
            (run.begun.lawful a.region w.0).ids_differ at.0 at'.0 x.0 y.0 at.1 at'.1
            (x.2 ∙ (same ∙ sym y.2)) in
            let f : Final k.stamp ≡ Final l.stamp = sym x.3 ∙ (ap (λ (r : BegunRow). r.last) e ∙ y.3) in
            let g : k.stamp ≡ l.stamp = cc (f) in
            ap (λ (n : ℕ). entry_key n k.id) g ∙ ap (λ (i : Id). entry_key l.stamp i) same

  -- the command of a key that stands
  pub append_of : (region colour : ℕ) (key : Key) (s : Stands run region colour key)
      → IsAppend run key.id.client s.origin.k s.origin.step.reply key.id s.origin.colours s.origin.text
  append_of region colour key s =
      let o = s.origin in
      let same = o.kept_is ∙ sym (s.client.numbered o.k) in record {
        replied = (s.client.shown, s.client.of_client, o.step.replied);
        command = o.step.command;
        asked = o.step.asked;
        asks = subst (λ (kept : Kept). AsksToAppend
            (caller_of script key.id.client) kept o.step.command.what o.colours o.text) same o.asks;
        id_is = o.id_is ∙ ap (λ (kept : Kept). record { client = key.id.client; count = kept.ids }) same;
        logged = (
          node_of (caller_of script key.id.client) o.over o.colours o.text,
          node_there region colour key s,
          refl,
        );
      }

pub one_key : OneKey
one_key script report fits run a b there there' k l i j same =
    one script report fits run a b k l there there' (to_in a.line k i) (to_in b.line l j) same

pub one_order : OneOrder
one_order script report fits run a b there there' i j m n k l p q ki pm kp lj qn lq le = turn (cases_lt n m) where
  x : k ≡ p
  x = (one script report fits run a b k p there there' (get_in a.line i k ki) (get_in b.line m p pm) kp).0

  y : l ≡ q
  y = (one script report fits run a b l q there there' (get_in a.line j l lj) (get_in b.line n q qn) lq).0

  turn : (n < m) ⊎ (m ≤ n) → m ≤ n
  turn (inr ge) = ge
  turn (inl lt) =
      let back : IsTrue (key_below l k) = subst (λ (z : Key). IsTrue (key_below z k)) (sym y)
      (subst (λ (z : Key). IsTrue (key_below q z)) (sym x)
      (closing_lines_rise script report run b there' n m q p qn pm lt)) in
      elim (cases_lt i j) [
        | inl before ↦ absurd (key-irrefl k (key-trans k l k
            (closing_lines_rise script report run a there i j k l ki lj before) back))
        | inr ge ↦
            let e : i ≡ j = omega (arith, ge, le) in
            let s : Some k ≡ Some l = sym ki ∙ (ap (slice_get a.line) e ∙ lj) in
            let same : k ≡ l = cc (s) in
            absurd (key-irrefl k (subst (λ (z : Key). IsTrue (key_below z k)) (sym same) back))
      ]

pub nothing_else_stands : NothingElseStands
nothing_else_stands script report fits run column there key inside =
    let s = key_of script report fits run column key there (to_in column.line key inside) in
    let o = s.origin in (
      o.k,
      o.step.reply,
      o.colours,
      o.text,
      append_of script report fits run column.region column.colour key s,
      s.stands,
      from_in (members o.colours) column.colour s.among,
      s.own,
    )
