-- A hold that has begun a row, or has learnt of one.
use Rattle.std.proofs.Common.{Vec, Global, ◌≡◌, ◌≢◌, ℕ, ◌+◌, ◌<◌, ◌≤◌, ◌^◌, inl, inr, List, refl, ap, sym, subst, ◌∙◌, arith}
use Rattle.std.specs.Prelude.{if◌then◌else◌, ◌==◌}
use Rattle.std.proofs.lemmas.Bool.{cases_eq, eq-eqb, ne_eqb}
use Rattle.log_node.specs.declared.limits.TheConstants.{MAX_STAMP}
use Rattle.log_node.specs.declared.ids.Id.{Id}
use Rattle.log_node.specs.declared.ids.Row.{Row}
use Rattle.log_node.specs.declared.node.Node.{Node}
use Rattle.col_core.specs.declared.Event.{Event}
use Rattle.col_core.specs.declared.Event.TheVariants.{Single, Propose, Settle, Raise, Give, Carry, Trim}
use Rattle.col_core.proofs.CallerLemmas.{if_true, if_false}
use Rattle.stamp_board.specs.declared.view.Size.{Size}
use Rattle.stamp_board.specs.declared.view.View.{View}
use Rattle.stamp_board.specs.Rows.{AreColours}
use Rattle.stamp_board.specs.Views.{Grows, KnowsBegun}
use Rattle.stamp_board.specs.Seats.{IsLater, Begins, IsNext, IsNextNode, seen as seat_seen}
use Rattle.stamp_board.proofs.CallerLemmas.{Learns-from, begun_learnt}
use Rattle.chain_store.specs.declared.told.Told.{Told}
use Rattle.chain_store.specs.declared.hold.Hold.{Hold}
use Rattle.chain_store.specs.declared.hold.ColumnPasses.{ColumnPasses}
use Rattle.chain_store.specs.declared.region.Region.{Region}
use Rattle.chain_store.specs.declared.read_view.desk.Desk.{Desk}
use Rattle.chain_store.specs.Owning.{Owns, HasRowOf, IsAccountedFor, IsRowNode, row_of}
use Rattle.chain_store.specs.Desks.{HasDesks}
use Rattle.chain_store.specs.Holds.{HasPasses, IsHold, made_in, view_of}
use Rattle.chain_store.specs.Beginning.{HasNextRow, BeginsRow}
use Rattle.chain_store.proofs.Holding.{clients_later, owns_step}

-- one node more, for the row after those that were begun
module _ (used : ℕ) (x : Node) (nodes : ℕ → Node) where
  abbrev pub with_node : ℕ → Node
  with_node j = if j == used then x else nodes j

  last : (j : ℕ) → j ≡ used → with_node j ≡ x
  last j e = if_true (j == used) x (nodes j) (eq-eqb j used e)

  early : (j : ℕ) → j ≢ used → with_node j ≡ nodes j
  early j ne = if_false (j == used) x (nodes j) (ne_eqb j used ne)

  row_more : (id : Id) → HasRowOf nodes used id → HasRowOf with_node (used + 1) id
  row_more id h =
      let lt = h.1 in
      (h.0, omega (arith, lt), ap (λ (z : Node). z.id) (early h.0 (λ e. omega (arith, e, lt))) ∙ h.2)

  module _ (client next more : ℕ) (above : next ≤ x.id.count) (is : more ≡ x.id.count + 1) where
    pub accounted_more : (e : Event) → IsAccountedFor client used next nodes e
        → IsAccountedFor client (used + 1) more with_node e
    accounted_more (Single id floor wants) a =
        let b = a.0 in (
          omega (arith, b, above, is),
          λ j lt same. elim (cases_eq j used) [
            | inl e ↦ let c = ap (λ (z : Node). z.id.count) (last j e) in omega (arith, c, same, b, above)
            | inr ne ↦ a.1 j (omega (arith, lt, ne)) (ap (λ (z : Node). z.id.count) (sym (early j ne)) ∙ same)
          ],
        )
    accounted_more (Propose id floor wants) a = λ mine. row_more id (a mine)
    accounted_more (Settle id outcome) a = λ mine. row_more id (a mine)
    accounted_more (Raise to) a = tt
    accounted_more (Give region from) a = tt
    accounted_more (Carry region start heads) a = tt
    accounted_more (Trim counts) a = tt

pub owns_more : (size : Size) (region : ℕ) (v w : View) (client used next more : ℕ) (x : Node) (made : ℕ → List Told)
    → Grows v w → KnowsBegun w (row_of client used) x → IsRowNode size region (row_of client used) x
    → next ≤ x.id.count → more ≡ x.id.count + 1 → Owns size region v client used next made
    → Owns size region w client (used + 1) more made
owns_more size region v w client used next more x made g new fits above is o = record {
  nodes = with_node used x o.nodes;
  known = λ j l. elim (cases_eq j used) [
    | inl e ↦ subst (λ (z : Node). KnowsBegun w (row_of client j) z) (sym (last used x o.nodes j e))
        (subst (λ (i : ℕ). KnowsBegun w (row_of client i) x) (sym e) new)
    | inr ne ↦ subst (λ (z : Node). KnowsBegun w (row_of client j) z) (sym (early used x o.nodes j ne))
        (begun_learnt v w (row_of client j) g.size (Learns-from v w g) (o.nodes j)
        (o.known j (omega (arith, l, ne))))
  ];
  fit = λ j l. elim (cases_eq j used) [
    | inl e ↦ subst (λ (z : Node). IsRowNode size region (row_of client j) z) (sym (last used x o.nodes j e))
        (subst (λ (i : ℕ). IsRowNode size region (row_of client i) x) (sym e) fits)
    | inr ne ↦ subst (λ (z : Node). IsRowNode size region (row_of client j) z) (sym (early used x o.nodes j ne))
        (o.fit j (omega (arith, l, ne)))
  ];
  below = λ j l. elim (cases_eq j used) [
    | inl e ↦ let c = ap (λ (z : Node). z.id.count) (last used x o.nodes j e) in omega (arith, c, is)
    | inr ne ↦
        let c = ap (λ (z : Node). z.id.count) (early used x o.nodes j ne) in
        let b = o.below j (omega (arith, l, ne)) in
        omega (arith, c, b, above, is)
  ];
  rising = λ i j l m.
      let ci = ap (λ (z : Node). z.id.count) (early used x o.nodes i (λ e. omega (arith, e, l, m))) in
      elim (cases_eq j used) [
        | inl e ↦
            let c = ap (λ (z : Node). z.id.count) (last used x o.nodes j e) in
            let b = o.below i (omega (arith, l, e)) in
            omega (arith, ci, c, b, above)
        | inr ne ↦
            let c = ap (λ (z : Node). z.id.count) (early used x o.nodes j ne) in
            let b = o.rising i j l (omega (arith, m, ne)) in
            omega (arith, ci, c, b)
      ];
  entries = λ colour n t at. accounted_more used x o.nodes client next more above is t.entry.event
      (o.entries colour n t at);
}

-- the client's rows are begun for nodes of counts below that of a node that it has given no row yet
pub next_node : (r : Region) (h : Hold) (x : Node) → IsHold r h → x.id.client ≡ h.passes.number
    → h.next ≤ x.id.count → IsNextNode h.seat x
next_node r h x is mine above = (
  mine ∙ sym is.number,
  λ j lt. (
    is.owns.nodes j,
    subst (λ (n : ℕ). KnowsBegun (seat_seen h.seat) (row_of n j) (is.owns.nodes j)) (sym is.number) (is.owns.known j lt),
    (let b = is.owns.below j lt in omega (arith, b, above)),
  ),
)

-- a hold of which the seat alone has learnt
pub hold_learnt : (r : Region) (h g : Hold) → IsHold r h → g.passes ≡ h.passes → g.next ≡ h.next
    → g.desks ≡ h.desks → IsLater h.seat g.seat → IsHold r g
hold_learnt r h g is same next kept later = record {
  passes = subst (λ (z : ColumnPasses). HasPasses r.columns.items z.number z.items.items) (sym same) is.passes;
  seat = (later.board ∙ is.seat.0, later.grows.size ∙ is.seat.1);
  clients = clients_later r h.seat g.seat later is.clients;
  number = later.client ∙ is.number ∙ ap (λ (z : ColumnPasses). z.number) (sym same);
  owns = subst (λ (z : ColumnPasses). Owns r.board.size r.number (view_of g) z.number g.seat.used g.next
      (made_in (record { passes = z; seat = g.seat; next = g.next; desks = g.desks }))) (sym same)
      (subst (λ (z : ℕ × ℕ). Owns r.board.size r.number (view_of g) h.passes.number z.0 z.1 (made_in h))
      (λ i. (sym later.used i, sym next i))
      (owns_step r.board.size r.number (view_of h) (view_of g) h.passes.number h.seat.used h.next h.next (made_in h)
      (made_in h) later.grows (omega arith) is.owns (λ colour n t at. inl at)));
  desks = subst (λ (z : Vec Desk Global). HasDesks r.shares.items z.items) (sym kept) is.desks;
}

-- a hold that has begun a row
module _ (r : Region) (h g : Hold) (x : Node) (row : Row) (is : IsHold r h) (same : g.passes ≡ h.passes)
    (kept : g.desks ≡ h.desks) (more : g.next ≡ x.id.count + 1) (next : IsNext r.board h.seat row) (began : Begins h.seat g.seat row x)
    (mine : x.id.client ≡ h.passes.number) (above : h.next ≤ x.id.count) (counted : x.id.count < 2 ^ 63)
    (named : HasNextRow r.board h.seat x) (region : x.region ≡ r.number)
    (coloured : AreColours r.board.size x.colours) (floored : x.floor ≤ MAX_STAMP) where
  abbrev n : ℕ
  n = h.passes.number

  row_is : row ≡ row_of n h.seat.used
  row_is = next.1 ∙ ap (λ (c : ℕ). row_of c h.seat.used) is.number

  fits : IsRowNode r.board.size r.number row x
  fits = record {
    on_board = (
      let c = is.clients.0 in let e = ap (λ (z : Row). z.client) next.1 in omega (arith, c, e),
      let u = next.0 in let e = ap (λ (z : Row). z.number) next.1 in omega (arith, u, e),
    );
    named = named row next;
    client = mine ∙ sym (ap (λ (z : Row). z.client) row_is);
    in_region = region;
    coloured = coloured;
    counted = counted;
    floored = floored;
  }

  pub hold_began : IsHold r g
  hold_began = record {
    passes = subst (λ (z : ColumnPasses). HasPasses r.columns.items z.number z.items.items) (sym same) is.passes;
    seat = (began.board ∙ is.seat.0, began.grows.size ∙ is.seat.1);
    clients = (
      subst (λ (z : ℕ). z < r.board.size.clients) (sym began.client) is.clients.0,
      began.grows.low ∙ is.clients.1 ∙ ap (λ (z : ℕ). 1 + z) (sym began.client),
      began.grows.high ∙ is.clients.2 ∙ ap (λ (z : ℕ). 2 + z) (sym began.client),
    );
    number = began.client ∙ is.number ∙ ap (λ (z : ColumnPasses). z.number) (sym same);
    owns = subst (λ (z : ColumnPasses). Owns r.board.size r.number (view_of g) z.number g.seat.used g.next
        (made_in (record { passes = z; seat = g.seat; next = g.next; desks = g.desks }))) (sym same)
        (subst (λ (u : ℕ). Owns r.board.size r.number (view_of g) n u g.next (made_in h)) (sym began.used)
        (owns_more r.board.size r.number (view_of h) (view_of g) n h.seat.used h.next g.next x (made_in h) began.grows
        (subst (λ (z : Row). KnowsBegun (view_of g) z x) row_is began.knows)
        (subst (λ (z : Row). IsRowNode r.board.size r.number z x) row_is fits) above more is.owns));
    desks = subst (λ (z : Vec Desk Global). HasDesks r.shares.items z.items) (sym kept) is.desks;
  }

  pub begins : BeginsRow r h g row x
  begins = record {
    seat = began;
    knows = (
      x,
      record {
        row = fits.on_board;
        knows = began.knows;
        of = record { id = refl; colours = refl; row = named row next; node_is = inr refl };
        mine = fits.client;
        in_region = region;
        counted = counted;
        floored = floored;
        several = coloured;
      },
    );
    next = more;
  }
