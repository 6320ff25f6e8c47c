-- A hold after a call on a colour's column.
use Rattle.std.proofs.Common.{Vec, Global, ◌≡◌, ℕ, ◌<◌, ◌≤◌, List, true, Option, None, Some, set, get_or, refl, ap, sym, subst, ◌∙◌, Result, Ok, Err, inl, inr, ◌⊎◌, arith}
use Rattle.std.specs.Prelude.{IfOk, IfSome, OnErr}
use Rattle.log_node.specs.declared.ids.Counts.{Counts}
use Rattle.log_node.specs.declared.node.Node.{Node}
use Rattle.log_node.specs.declared.node.At.{At}
use Rattle.log_node.specs.declared.node.At.TheVariants.{Event, Look}
use Rattle.log_node.specs.declared.ids.Id.{Id}
use Rattle.log_node.specs.declared.marks.Mark.{Mark}
use Rattle.log_node.specs.declared.marks.Mark.TheVariants.{Number}
use Rattle.log_node.specs.declared.marks.Outcome.{Outcome}
use Rattle.log_node.specs.Seen.{BegunAppend}
use Rattle.log_node.specs.Sets.{has}
use Rattle.col_core.specs.declared.Event.{Event as ColumnEvent}
use Rattle.stamp_board.specs.declared.view.Size.{Size}
use Rattle.stamp_board.specs.declared.view.View.{View}
use Rattle.stamp_board.specs.declared.seats.Seat.{Seat}
use Rattle.stamp_board.specs.Views.{KnowsBegun}
use Rattle.std.specs.Vec.{with_item}
use Rattle.stamp_board.specs.Seats.{IsLater, IsClients, seen as seat_seen}
use Rattle.turn_cell.specs.Cells.{seen}
use Rattle.chain_store.specs.declared.told.Tag.{Tag}
use Rattle.chain_store.specs.declared.told.Told.{Told}
use Rattle.chain_store.specs.declared.hold.Hold.{Hold}
use Rattle.chain_store.specs.declared.region.Region.{Region}
use Rattle.chain_store.specs.declared.read_view.desk.Desk.{Desk}
use Rattle.chain_store.specs.Histories.{maker}
use Rattle.chain_store.specs.Passes.{ColumnCell, ColumnPass, IsBeside, IsHolder, SeesMore, Looks, MakesOne, tag_in}
use Rattle.chain_store.specs.Moves.{LooksAt, RaisesAt, GivesAt, CarriesAt, TrimsAt}
use Rattle.chain_store.specs.Regions.{tag_at, IsColumnAt}
use Rattle.chain_store.specs.Owning.{IsAccountedFor, HasRowOf, row_of}
use Rattle.chain_store.specs.Columns.{told_propose, told_settle}
use Rattle.chain_store.specs.Rows.{IsBegunRow, KnowsRow, IsKnownBelow, OneNode}
use Rattle.chain_store.specs.Steps.{MatchAt}
use Rattle.chain_store.specs.Desks.{HasDesks}
use Rattle.chain_store.specs.Holds.{passes_of, seen_in, view_of, IsHold, SameBut, KnowsAppend}
use Rattle.chain_store.proofs.Holding.{reached, client_few, same_seat, same_but, of_pass, hold_looked, hold_made, turned}

-- it has seen more, and made nothing or an entry of which F holds
abbrev pub MovesBy : (ColumnEvent → Type 0) → ℕ → List Told → List Told → Type 0
MovesBy F n old new =
    SeesMore n old new
    ⊎ ((t : Told) × (at : At) × MakesOne n t old new at × (maker t ≡ n) × F t.entry.event)

-- it has seen more, and made nothing or an entry that needs no account
abbrev pub Moves : ℕ → List Told → List Told → Type 0
Moves n old new =
    MovesBy (λ (e : ColumnEvent). (used next : ℕ) (nodes : ℕ → Node) → IsAccountedFor n used next nodes e) n old new

module _ (n : ℕ) (old new : List Told) where
  pub raised : (to : ℕ) (at : At) → RaisesAt n to old new at → Moves n old new
  raised to at r = elim r.either [
    | inl look ↦ inl look.0
    | inr m ↦ inr (_, at, m.0, refl, λ used next nodes. tt)
  ]

  pub gave : (region from : ℕ) (at : At) (lined : ℕ) → GivesAt n region from old new at lined → Moves n old new
  gave region from at lined m =
      inr (
        m.told,
        at,
        m.made,
        ap maker m.note,
        λ used next nodes. subst (λ (u : Told). IsAccountedFor n used next nodes u.entry.event) (sym m.note) tt,
      )

  pub carried : (t : Tag) (region least : ℕ) (at : At) (nodes : ℕ)
      → CarriesAt t n region least old new at nodes → Moves n old new
  carried t region least at nodes r = elim r.either [
    | inl look ↦ inl look.0.0
    | inr m ↦ inr (
      m.0,
      at,
      m.2,
      ap maker m.3,
      λ used next nodes. subst (λ (u : Told). IsAccountedFor n used next nodes u.entry.event) (sym m.3) tt,
    )
  ]

  pub trimmed : (t : Tag) (counts : Counts) (at : At) (answer : Counts) → TrimsAt t n counts old new at answer →
      Moves n old new
  trimmed t counts at answer m = inr (_, at, m.0, refl, λ used next nodes. tt)

  -- a call that may refuse, in which case it has looked
  pub or_looked : {T E : Type 0} (P : T → Type 0) (res : Result T E) → ((x : T) → P x → Moves n old new)
      → IfOk res P → OnErr res (SeesMore n old new) → Moves n old new
  or_looked P (Ok x) f ok err = f x ok
  or_looked P (Err e) f ok err = inl err

  -- one that may also find too little
  pub or_waited : {T E : Type 0} (P : T → Type 0) (res : Result (Option T) E) → ((x : T) → P x → Moves n old new)
      → IfOk res (λ (o : Option T). IfSome o P) → (res ≡ Ok None → SeesMore n old new) → OnErr res (SeesMore n old new)
      → Moves n old new
  or_waited P (Ok (Some x)) f ok none err = f x ok
  or_waited P (Ok None) f ok none err = inl (none refl)
  or_waited P (Err e) f ok none err = inl err

-- the hold after a turn of the pass p of the colour's cell, which is q then
module _ (r : Region) (h g : Hold) (k : ℕ) (c : ColumnCell) (p q : ColumnPass) (is : IsHold r h)
    (lt : k < r.board.size.colours) (col : IsColumnAt r k c) (e : p ≡ get_or (passes_of h) k p)
    (number : g.passes.number ≡ h.passes.number) (changed : passes_of g ≡ set (passes_of h) k q) where
  pub but_there : SameBut k h g
  but_there = same_but r h g k c p q is col.there (reached r h k p is lt e) number changed

  -- what holds of the cell's tag and of what the pass had seen and has seen holds of the hold
  pub of_turn : (P : Tag → List Told → List Told → Type 0) → P (tag_in c) (seen p) (seen q)
      → P (tag_at r k) (seen_in h k) (seen_in g k)
  of_turn P x = of_pass r h g k c p q is col.there (reached r h k p is lt e) number changed (P (tag_at r k))
      (subst (λ (t : Tag). P t (seen p) (seen q)) col.tagged x)

  pub hold_moved : IsHolder c h.passes.number q → IsLater h.seat g.seat → h.next ≤ g.next
      → HasDesks r.shares.items g.desks.items
      → MovesBy (IsAccountedFor h.passes.number h.seat.used g.next is.owns.nodes) h.passes.number (seen p) (seen q)
      → IsHold r g
  hold_moved good later le desks (inl s) =
      hold_looked r h g k c p q is col.there (reached r h k p is lt e) number changed good later le desks s
  hold_moved good later le desks (inr m) =
      hold_made r h g k c p q is col.there (reached r h k p is lt e) number changed good later le desks m.0 m.1 m.3 m.2
      m.4

-- a turn of the pass p of the colour's cell, which is q behind it
pub record TurnOf (r : Region) (h : Hold) (k : ℕ) (c : ColumnCell) (p q : ColumnPass) : Type 0 where
  pub hold : IsHold r h
  pub inside : k < r.board.size.colours
  pub column : IsColumnAt r k c
  pub pass : p ≡ get_or (passes_of h) k p

-- the same, where nothing of the hold but the pass and the desks is changed
module _ {r : Region} {h : Hold} {k : ℕ} {c : ColumnCell} {p q : ColumnPass} (t : TurnOf r h k c p q)
    (ds : Vec Desk Global) where
  pub turned_but : SameBut k h (turned h k q h.next ds)
  turned_but = but_there r h (turned h k q h.next ds) k c p q t.hold t.inside t.column t.pass refl refl

  pub of_turned : (P : Tag → List Told → List Told → Type 0) → P (tag_in c) (seen p) (seen q)
      → P (tag_at r k) (seen_in h k) (seen_in (turned h k q h.next ds) k)
  of_turned P x = of_turn r h (turned h k q h.next ds) k c p q t.hold t.inside t.column t.pass refl refl P x

  pub turned_hold : IsHolder c h.passes.number q → HasDesks r.shares.items ds.items
      → Moves h.passes.number (seen p) (seen q) → IsHold r (turned h k q h.next ds)
  turned_hold good desks m =
      hold_moved r h (turned h k q h.next ds) k c p q t.hold t.inside t.column t.pass refl refl good
      (same_seat h.seat) (omega arith) desks
      (elim m [
        | inl s ↦ inl s
        | inr x ↦ inr (x.0, x.1, x.2, x.3, x.4 h.seat.used h.next t.hold.owns.nodes)
      ])

-- the client is one of those that a column's tag counts
pub client_tagged : (r : Region) (h : Hold) (k : ℕ) (c : ColumnCell) → IsHold r h → IsColumnAt r k c
    → h.passes.number < (tag_in c).size.clients
client_tagged r h k c is col =
    subst (λ (t : Tag). h.passes.number < t.size.clients) (sym col.tagged) (client_few r h is).1

-- a hold that has learnt of the board's rows too

-- the hold with another pass of a colour's column, another seat, and these desks
abbrev pub turned_told : Hold → ℕ → ColumnPass → Seat → Vec Desk Global → Hold
turned_told h k q s ds = record {
  passes = record { number = h.passes.number; items = with_item h.passes.items k q };
  seat = s;
  next = h.next;
  desks = ds;
}

-- the append is of one of the client's rows, where it is of the client's ids
pub own_row : (r : Region) (h : Hold) (b : BegunAppend) (is : IsHold r h) → KnowsAppend r h b
    → OneNode (view_of h) b.row → b.id.client ≡ h.passes.number
    → HasRowOf is.owns.nodes h.seat.used b.id
own_row r h b is known single mine =
    let x = known.knows.0 in
    let w = known.knows.1 in
    let client : b.row.client ≡ h.passes.number = sym w.mine ∙ ap (λ (i : Id). i.client) (sym w.of.id) ∙ mine in
    let below = known.own client in
    let theirs : KnowsBegun (view_of h) b.row (is.owns.nodes b.row.number) =
    subst (λ (n : ℕ). KnowsBegun (view_of h) (row_of n b.row.number) (is.owns.nodes b.row.number)) (sym client)
    (is.owns.known b.row.number below) in
    (b.row.number, below, ap (λ (y : Node). y.id) (single (is.owns.nodes b.row.number) x theirs w.knows) ∙ sym w.of.id)

module _ (n used next : ℕ) (nodes : ℕ → Node) (b : BegunAppend) (old new : List Told)
    (own : b.id.client ≡ n → HasRowOf nodes used b.id) where
  pub proposed : (size : Size) (region colour : ℕ) (v : View) (mark : Mark) (at : At)
      → MatchAt at
      (λ place. (x : Node) × (s : ℕ) × IsBegunRow size region v b x × (mark ≡ Number s)
      × MakesOne n (told_propose colour n x s) old new at)
      (λ events. Looks n old new events)
      → MovesBy (IsAccountedFor n used next nodes) n old new
  proposed size region colour v mark (Event place) m = inr (
    told_propose colour n m.0 m.1,
    Event place,
    m.4,
    refl,
    subst (λ (i : Id). i.client ≡ n → HasRowOf nodes used i) m.2.of.id own,
  )
  proposed size region colour v mark (Look events) s = inl s.0

  pub settled : (outcome : Outcome) (at : At)
      → MatchAt at (λ place. MakesOne n (told_settle n b.id outcome) old new at) (λ events. Looks n old new events)
      → MovesBy (IsAccountedFor n used next nodes) n old new
  settled outcome (Event place) m = inr (told_settle n b.id outcome, Event place, m, refl, own)
  settled outcome (Look events) s = inl s.0

-- a look after so many events, as the answer says it
pub look_answers : (n : ℕ) (old new : List Told) (P : ℕ → Type 0) (at : At) → MatchAt at P (λ events. Looks n old new
    events)
    → MatchAt at P (λ events. LooksAt n old new at)
look_answers n old new P (Event place) m = m
look_answers n old new P (Look events) s = (s.0, ap Look s.1)

module _ {r : Region} {h : Hold} {k : ℕ} {c : ColumnCell} {p q : ColumnPass} (t : TurnOf r h k c p q) (s : Seat)
    (ds : Vec Desk Global) where
  pub told_but : SameBut k h (turned_told h k q s ds)
  told_but = but_there r h (turned_told h k q s ds) k c p q t.hold t.inside t.column t.pass refl refl

  pub of_told : (P : Tag → List Told → List Told → Type 0) → P (tag_in c) (seen p) (seen q)
      → P (tag_at r k) (seen_in h k) (seen_in (turned_told h k q s ds) k)
  of_told P x = of_turn r h (turned_told h k q s ds) k c p q t.hold t.inside t.column t.pass refl refl P x

  pub told_hold : IsHolder c h.passes.number q → IsLater h.seat s → HasDesks r.shares.items ds.items
      → MovesBy (IsAccountedFor h.passes.number h.seat.used h.next t.hold.owns.nodes) h.passes.number (seen p) (seen q)
      → IsHold r (turned_told h k q s ds)
  told_hold good later desks m =
      hold_moved r h (turned_told h k q s ds) k c p q t.hold t.inside t.column t.pass refl refl good later (omega arith) desks m

-- a colour's column is beside the region's board
pub beside : (r : Region) (k : ℕ) (c : ColumnCell) → IsColumnAt r k c → IsBeside r.board c
beside r k c col = (ap (λ (t : Tag). t.size) col.tagged, ap (λ (t : Tag). t.board) col.tagged)

-- the hold knows of the append that a look at a column found
pub knows_first : (r : Region) (h : Hold) (k : ℕ) (c : ColumnCell) (q : ColumnPass) (s : Seat) (ds : Vec Desk Global)
    → IsHold r h → IsColumnAt r k c
    → IsLater h.seat s → (first : Option BegunAppend)
    → IfSome first (IsKnownBelow r.board.size (tag_in c).region (tag_in c).colour (seat_seen s))
    → IfSome first (λ (b : BegunAppend). IsClients r.board h.seat → b.row.client ≡ h.seat.client
    → b.row.number < h.seat.used)
    → IfSome first (λ (b : BegunAppend). KnowsAppend r (turned_told h k q s ds) b × (has b.colours k ≡ true))
knows_first r h k c q s ds is col later None known own = tt
knows_first r h k c q s ds is col later (Some b) known own = (
  record {
    knows = subst (λ (t : Tag). KnowsRow r.board.size t.region (seat_seen s) b) col.tagged known.0;
    own = λ mine. subst (λ (u : ℕ). b.row.number < u) (sym later.used) (own is.clients (mine ∙ sym is.number));
  },
  subst (λ (t : Tag). has b.colours t.colour ≡ true) col.tagged known.1,
)
