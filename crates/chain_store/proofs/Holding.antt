-- A hold after a turn at one column.
use Rattle.std.proofs.Common.{Vec, Global, ◌≡◌, ◌≢◌, ℕ, zero, suc, ◌+◌, ◌<◌, ◌≤◌, List, [], ◌∷◌, ◌++◌, length, Some, set, get_or, refl, ap, sym, subst, ◌∙◌, arith, inl, inr, ◌⊎◌, length-set}
use Rattle.std.specs.Prelude.{slice_get}
use Rattle.std.specs.Vec.{with_item}
use Rattle.std.proofs.lemmas.Bool.{cases_eq}
use Rattle.std.proofs.lemmas.Option.{slice_get_read, slice_get_within}
use Rattle.log_node.specs.declared.limits.TheConstants.{MAX_CLIENTS}
use Rattle.log_node.specs.declared.node.Node.{Node}
use Rattle.log_node.specs.declared.node.At.{At}
use Rattle.col_core.specs.declared.Event.{Event}
use Rattle.col_core.specs.declared.Event.TheVariants.{Single, Propose, Settle, Raise, Give, Carry, Trim}
use Rattle.stamp_board.specs.declared.view.Size.{Size}
use Rattle.stamp_board.specs.declared.view.View.{View}
use Rattle.stamp_board.specs.declared.seats.Seat.{Seat}
use Rattle.stamp_board.specs.Views.{Grows}
use Rattle.stamp_board.specs.Seats.{IsLater, IsClients, seen as seat_seen}
use Rattle.stamp_board.proofs.CallerLemmas.{Learns-from, Grows-refl, begun_learnt}
use Rattle.turn_cell.specs.Histories.{made_by}
use Rattle.turn_cell.specs.Cells.{seen}
use Rattle.chain_store.specs.declared.told.Told.{Told}
use Rattle.chain_store.specs.declared.hold.Hold.{Hold}
use Rattle.chain_store.specs.declared.region.Region.{Region}
use Rattle.chain_store.specs.declared.read_view.desk.Share.{Share}
use Rattle.chain_store.specs.declared.read_view.desk.Desk.{Desk}
use Rattle.column.specs.Columns.{single_event}
use Rattle.chain_store.specs.Histories.{maker}
use Rattle.chain_store.specs.Passes.{ColumnCell, ColumnPass, IsHolder, SeesMore, MakesOne}
use Rattle.chain_store.specs.Regions.{IsColumnAt}
use Rattle.chain_store.specs.Owning.{Owns, IsAccountedFor, row_of}
use Rattle.chain_store.specs.Desks.{IsDesk, HasDesks}
use Rattle.chain_store.specs.Holds.{history_seen, passes_of, turned_in, made_in, view_of, HasPasses, IsHold, SameBut}
use Rattle.chain_store.proofs.Entering.{get_cases}
use Rattle.chain_store.proofs.Passing.{made_with}

-- a list with one place changed

module _ {A : Type 0} where
  pub got_set : (xs : List A) (i k : ℕ) (x y : A) → slice_get (set xs i x) k ≡ Some y
      → ((k ≡ i) × (x ≡ y)) ⊎ ((k ≢ i) × (slice_get xs k ≡ Some y))
  got_set [] i k x y e = absurd cc
  got_set (z ∷ xs) zero zero x y e = inl (refl, cc (e))
  got_set (z ∷ xs) zero (suc k) x y e = inr ((λ h. omega arith), e)
  got_set (z ∷ xs) (suc i) zero x y e = inr ((λ h. omega arith), e)
  got_set (z ∷ xs) (suc i) (suc k) x y e = elim (got_set xs i k x y e) [
    | inl t ↦ inl (ap suc t.0, t.1)
    | inr t ↦ inr ((λ h. t.0 (omega arith)), t.1)
  ]

  pub set_got : (xs : List A) (i : ℕ) (x y : A) → slice_get xs i ≡ Some y → slice_get (set xs i x) i ≡ Some x
  set_got [] i x y e = absurd cc
  set_got (z ∷ xs) zero x y e = refl
  set_got (z ∷ xs) (suc i) x y e = set_got xs i x y e

  pub set_other : (xs : List A) (i k : ℕ) (x : A) → k ≢ i → slice_get (set xs i x) k ≡ slice_get xs k
  set_other [] i k x n = refl
  set_other (y ∷ xs) zero zero x n = absurd (n refl)
  set_other (y ∷ xs) zero (suc k) x n = refl
  set_other (y ∷ xs) (suc i) zero x n = refl
  set_other (y ∷ xs) (suc i) (suc k) x n = set_other xs i k x (λ e. n (ap suc e))

pub passes_set : (cells : List ColumnCell) (ps : List ColumnPass) (n i : ℕ) (c : ColumnCell) (q : ColumnPass)
    → slice_get cells i ≡ Some c → IsHolder c n q → HasPasses cells n ps → HasPasses cells n (set ps i q)
passes_set cells ps n i c q here good all = (
  length-set ps i q ∙ all.0,
  λ k d p at pat. elim (got_set ps i k q p pat) [
    | inl t ↦
        let two : Some c ≡ Some d = sym here ∙ (ap (slice_get cells) (sym t.0) ∙ at) in
        let same : c ≡ d = cc (two) in
        subst (λ (z : ColumnCell). IsHolder z n p) same (subst (IsHolder c n) t.1 good)
    | inr t ↦ all.1 k d p at t.1
  ],
)

pub desks_set : (shares : List Share) (ds : List Desk) (i : ℕ) (s : Share) (d : Desk) → slice_get shares i ≡ Some s
    → IsDesk s d → HasDesks shares ds → HasDesks shares (set ds i d)
desks_set shares ds i s d here good all = record {
  count = length-set ds i d ∙ all.count;
  each = λ k z e at eat. elim (got_set ds i k d e eat) [
    | inl t ↦
        let two : Some s ≡ Some z = sym here ∙ (ap (slice_get shares) (sym t.0) ∙ at) in
        let same : s ≡ z = cc (two) in
        subst (λ (x : Share). IsDesk x e) same (subst (IsDesk s) t.1 good)
    | inr t ↦ all.each k z e at t.1
  ];
}

-- the desk of a colour
pub desk_there : (shares : List Share) (ds : List Desk) (k : ℕ) (s : Share) (d : Desk) → HasDesks shares ds
    → slice_get shares k ≡ Some s → d ≡ get_or ds k d → IsDesk s d
desk_there shares ds k s d all here e =
    let many = all.count in
    let inside = slice_get_within shares k s here in
    all.each k s d here (slice_get_read ds (length ds) k d refl (omega (arith, many, inside)) e)

-- what is accounted for stays so with more counts given out
pub accounted_later : (client used next more : ℕ) (nodes : ℕ → Node) (e : Event) → next ≤ more
    → IsAccountedFor client used next nodes e → IsAccountedFor client used more nodes e
accounted_later client used next more nodes (Single id floor wants) le a = ((let b = a.0 in omega (arith, le, b)), a.1)
accounted_later client used next more nodes (Propose id floor wants) le a = a
accounted_later client used next more nodes (Settle id outcome) le a = a
accounted_later client used next more nodes (Raise to) le a = tt
accounted_later client used next more nodes (Give region from) le a = tt
accounted_later client used next more nodes (Carry region start heads) le a = tt
accounted_later client used next more nodes (Trim counts) le a = tt

-- the same rows, with what more was made
pub owns_step : (size : Size) (region : ℕ) (v w : View) (client used next more : ℕ) (made made' : ℕ → List Told)
    → Grows v w → next ≤ more → (o : Owns size region v client used next made)
    → ((colour n : ℕ) (t : Told) → slice_get (made' colour) n ≡ Some t
    → (slice_get (made colour) n ≡ Some t) ⊎ IsAccountedFor client used more o.nodes t.entry.event)
    → Owns size region w client used more made'
owns_step size region v w client used next more made made' g le o new = record {
  nodes = o.nodes;
  known = λ j l. begun_learnt v w (row_of client j) g.size (Learns-from v w g) (o.nodes j) (o.known j l);
  fit = o.fit;
  below = λ j l. let b = o.below j l in omega (arith, le, b);
  rising = o.rising;
  entries = λ colour n t at. elim (new colour n t at) [
    | inl old ↦ accounted_later client used next more o.nodes t.entry.event le (o.entries colour n t old)
    | inr now ↦ now
  ];
}

pub clients_later : (r : Region) (s t : Seat) → IsLater s t → IsClients r.board s → IsClients r.board t
clients_later r s t later is = (
  subst (λ (z : ℕ). z < r.board.size.clients) (sym later.client) is.0,
  later.grows.low ∙ is.1 ∙ ap (λ (z : ℕ). 1 + z) (sym later.client),
  later.grows.high ∙ is.2 ∙ ap (λ (z : ℕ). 2 + z) (sym later.client),
)

module _ (r : Region) (h g : Hold) (k : ℕ) (c : ColumnCell) (p q : ColumnPass) (is : IsHold r h)
    (cell_at : slice_get r.columns.items k ≡ Some c) (pass_at : slice_get (passes_of h) k ≡ Some p)
    (number : g.passes.number ≡ h.passes.number) (changed : passes_of g ≡ set (passes_of h) k q) where
  abbrev n : ℕ
  n = h.passes.number

  was : turned_in h k ≡ seen p
  was = ap history_seen pass_at

  now : turned_in g k ≡ seen q
  now = ap history_seen (ap (λ (l : List ColumnPass). slice_get l k) changed ∙ set_got (passes_of h) k q p pass_at)

  elsewhere : (j : ℕ) → j ≢ k → turned_in g j ≡ turned_in h j
  elsewhere j ne =
      ap history_seen (ap (λ (l : List ColumnPass). slice_get l j) changed ∙ set_other (passes_of h) k j q ne)

  pub same_but : SameBut k h g
  same_but = record { number = number; others = elsewhere }

  -- the entries that the hold made there, before and after
  made_was : made_in h k ≡ made_by maker n (seen p)
  made_was = ap (made_by maker n) was

  made_now : made_in g k ≡ made_by maker n (seen q)
  made_now = ap (λ (m : ℕ). made_by maker m (turned_in g k)) number ∙ ap (made_by maker n) now

  made_else : (j : ℕ) → j ≢ k → made_in g j ≡ made_in h j
  made_else j ne = ap (λ (m : ℕ). made_by maker m (turned_in g j)) number ∙ ap (made_by maker n) (elsewhere j ne)

  -- what holds of what the pass had seen and has seen holds of the hold
  pub of_pass : (P : List Told → List Told → Type 0) → P (seen p) (seen q) → P (turned_in h k) (turned_in g k)
  of_pass P is = subst (λ (l : List Told). P l (turned_in g k)) (sym was) (subst (P (seen p)) (sym now) is)

  made_none : SeesMore n (seen p) (seen q) → made_in g k ≡ made_in h k
  made_none s = made_now ∙ s.none ∙ sym made_was

  made_more : (t : Told) (at : At) → maker t ≡ n → MakesOne n t (seen p) (seen q) at
      → made_in g k ≡ made_in h k ++ t ∷ []
  made_more t at by m = made_now ∙ ap (made_by maker n) m.adds ∙ made_with n m.before t by
      ∙ ap (λ (l : List Told). l ++ t ∷ []) (m.none ∙ sym made_was)

  module _ (good : IsHolder c n q) (later : IsLater h.seat g.seat) (le : h.next ≤ g.next)
      (desks : HasDesks r.shares.items g.desks.items) where
    held : Owns r.board.size r.number (view_of g) n h.seat.used g.next (made_in g) → IsHold r g
    held o = record {
      passes = subst (λ (m : ℕ). HasPasses r.columns.items m (passes_of g)) (sym number)
          (subst (HasPasses r.columns.items n) (sym changed)
          (passes_set r.columns.items (passes_of h) n k c q cell_at good is.passes));
      seat = (later.board ∙ is.seat.0, later.grows.size ∙ is.seat.1);
      clients = clients_later r h.seat g.seat later is.clients;
      number = later.client ∙ is.number ∙ sym number;
      owns = subst (λ (z : ℕ × ℕ). Owns r.board.size r.number (view_of g) z.0 z.1 g.next (made_in g))
          (λ i. (sym number i, sym later.used i)) o;
      desks = desks;
    }

    pub hold_looked : SeesMore n (seen p) (seen q) → IsHold r g
    hold_looked s = held (owns_step r.board.size r.number (view_of h) (view_of g) n h.seat.used h.next g.next (made_in h)
        (made_in g) later.grows le is.owns
        (λ j i t at. inl (elim (cases_eq j k) [
          | inl e ↦ subst (λ (z : ℕ). slice_get (made_in h z) i ≡ Some t) (sym e)
              (ap (λ (l : List Told). slice_get l i) (sym (made_none s))
              ∙ subst (λ (z : ℕ). slice_get (made_in g z) i ≡ Some t) e at)
          | inr ne ↦ ap (λ (l : List Told). slice_get l i) (sym (made_else j ne)) ∙ at
        ])))

    pub hold_made : (t : Told) (at : At) → maker t ≡ n → MakesOne n t (seen p) (seen q) at
        → IsAccountedFor n h.seat.used g.next is.owns.nodes t.entry.event → IsHold r g
    hold_made t place by m fits =
        held (owns_step r.board.size r.number (view_of h) (view_of g) n h.seat.used h.next g.next (made_in h)
        (made_in g) later.grows le is.owns
        (λ j i u at. elim (cases_eq j k) [
          | inl e ↦ elim (get_cases (made_in h k) t i u
              (ap (λ (l : List Told). slice_get l i) (sym (made_more t place by m))
              ∙ subst (λ (z : ℕ). slice_get (made_in g z) i ≡ Some u) e at)) [
                | inl old ↦ inl (subst (λ (z : ℕ). slice_get (made_in h z) i ≡ Some u) (sym e) old)
                | inr same ↦ inr (subst (λ (x : Told). IsAccountedFor n h.seat.used g.next is.owns.nodes x.entry.event)
                    same fits)
              ]
          | inr ne ↦ inl (ap (λ (l : List Told). slice_get l i) (sym (made_else j ne)) ∙ at)
        ]))

-- the pass of a colour's column
pub reached : (r : Region) (h : Hold) (k : ℕ) (p : ColumnPass) → IsHold r h → k < r.board.size.colours
    → p ≡ get_or (passes_of h) k p → slice_get (passes_of h) k ≡ Some p
reached r h k p is lt e =
    let many = is.passes.0 in
    let all = r.count in
    slice_get_read (passes_of h) (length (passes_of h)) k p refl (omega (arith, many, all, lt)) e

-- it is a holder of it
pub holder : (r : Region) (h : Hold) (k : ℕ) (c : ColumnCell) (p : ColumnPass) → IsHold r h
    → k < r.board.size.colours → IsColumnAt r k c → p ≡ get_or (passes_of h) k p → IsHolder c h.passes.number p
holder r h k c p is lt at e = is.passes.1 k c p at.there (reached r h k p is lt e)

-- the client is one of the board's, of which there are no more than a log may have
pub client_few : (r : Region) (h : Hold) → IsHold r h
    → (h.passes.number < MAX_CLIENTS) × (h.passes.number < r.board.size.clients)
client_few r h is =
    let inside = is.clients.0 in
    let number = is.number in
    let few = r.board.is_size.few_clients in
    (omega (arith, inside, number, few), omega (arith, inside, number))

-- a hold whose passes alone have changed, or that has given out more counts
pub same_seat : (s : Seat) → IsLater s s
same_seat s = record { board = refl; client = refl; used = refl; grows = Grows-refl (seat_seen s) }

-- a single with a count that was not given out yet is accounted for by the next
pub single_of : (r : Region) (h : Hold) (x : Node) (is : IsHold r h) → h.next ≤ x.id.count
    → (next : ℕ) → next ≡ x.id.count + 1 → (colour : ℕ)
    → IsAccountedFor h.passes.number h.seat.used next is.owns.nodes (single_event colour x)
single_of r h x is le next e colour = (
  omega (arith, e),
  (λ j lt same. let b = is.owns.below j lt in omega (arith, b, le, same)),
)

-- the hold with another pass of a colour's column, and these desks
abbrev pub turned : Hold → ℕ → ColumnPass → ℕ → Vec Desk Global → Hold
turned h k q next ds = record {
  passes = record { number = h.passes.number; items = with_item h.passes.items k q };
  seat = h.seat;
  next = next;
  desks = ds;
}
