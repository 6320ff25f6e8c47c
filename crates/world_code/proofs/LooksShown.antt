-- What a look at a column shows of the world, and whose row the least open entry below a key is.
use Rattle.std.proofs.Common.{◌≡◌, ℕ, zero, suc, ◌<◌, List, [], ◌∷◌, length, get_or, take, drop, Some, None, Option}
use Rattle.std.proofs.Common.{Bool, true, false, refl, ap, sym, subst, ◌∙◌, arith, inl, inr}
use Rattle.std.specs.Prelude.{IfSome, slice_get, ◌==◌, ◌&&◌, ◌-◌, not}
use Rattle.std.specs.List.{AllByRecursion, filter, find}
use Rattle.std.specs.Option.{option_map}
use Rattle.std.proofs.lemmas.Bool.{cases_eq, lt-ltb, ltb-true, eqb-true, cond-true, cond-false, not-true, and_parts}
use Rattle.std.proofs.lemmas.Option.{same_Some}
use Rattle.std.proofs.Common.{cond}
use Rattle.log_node.specs.declared.ids.Id.{Id}
use Rattle.log_node.specs.declared.ids.Key.{Key}
use Rattle.log_node.specs.declared.ids.Row.{Row}
use Rattle.log_node.specs.declared.node.Node.{Node}
use Rattle.log_node.specs.Seen.{PlacedNode, BegunAppend}
use Rattle.log_node.specs.Vectors.{at}
use Rattle.log_node.specs.declared.marks.Mark.{Mark}
use Rattle.log_node.specs.declared.marks.Mark.TheVariants as marks
use Rattle.log_node.specs.declared.marks.Outcome.{Outcome}
use Rattle.skeen_core.specs.declared.waiting.Waiting.{Waiting}
use Rattle.skeen_core.specs.Queues.{waiting_entries, kept_count}
use Rattle.log_node.specs.Standings.{Standing}
use Rattle.skeen_core.proofs.CallerLemmas.{each-drop}
use Rattle.col_core.specs.History.{entries}
use Rattle.col_core.specs.Computed.{cut, dated}
use Rattle.col_core.specs.Cuts.{base, chain}
use Rattle.col_core.proofs.CallerLemmas.{choice, by_test, open_waits, In, in_filter, Status, Absent, Alone, Waits}
use Rattle.col_core.specs.declared.view.View.{View}
use Rattle.column.specs.declared.views.Below.{Below}
use Rattle.column.specs.Entering.{EnteredNode}
use Rattle.column.specs.Columns.{ColumnState, copy_of, AreItems, greater, is_open_below, is_waiting_below, IsBegun}
use Rattle.column.specs.Columns.{IsBegunAt}
use Rattle.column.specs.Views.{IsView, IsBelow}
use Rattle.world_laws.specs.Worlds.{World, home_of, row_of, is_begun}
use Rattle.world_laws.proofs.CallerLemmas.{status_in, Agrees, column_mark, Kind, Unborn, OfSingle, OfRow, Fits, Held}
use Rattle.world_laws.proofs.CallerLemmas.{entry_shown, told, Told}
use Rattle.world_code.specs.Clients.{ClientView, fresh_client}
use Rattle.world_code.specs.WorldView.{WorldView, world_of, column_at, client_at, IsAppended, IsPlaced, HasAppended, IsWhole}
use Rattle.world_code.specs.Looks.{AreShown, IsLook, IsFirstBelow, open_below}
use Rattle.world_code.proofs.AppendedNodes.{is_listed}
use Rattle.world_code.proofs.SingleCalls.{is_held}

each_get : {A : Type 0} (P : A → Type 0) (xs : List A) (n : ℕ) (x : A) → AllByRecursion P xs → slice_get xs n ≡ Some x
    → P x
each_get P [] n x h e = absurd (let f : ⊥ = cc in f)
each_get P (y ∷ ys) zero x h e = subst P (let f : y ≡ x = cc in f) h.0
each_get P (y ∷ ys) (suc n) x h e = each_get P ys n x h.1 e

-- the nodes that a column gives are those that clients appended
pub items_appended : (cs : List ClientView) (column : ColumnState) → HasAppended cs column → (region from to : ℕ)
    (items : List PlacedNode) → AreItems column region from to items → (n : ℕ) (i : PlacedNode)
    → slice_get items n ≡ Some i → IsAppended cs i.head.key.id i.node
items_appended cs column h region from to items a n i e = elim (cases_eq region column.region) [
  | inl own ↦
      let s = a.nodes own n i e in
      subst (λ (node : Node). IsAppended cs i.head.key.id node) s.4
      (subst (λ (key : Key). IsAppended cs key.id s.1.thing.node) s.3
      (each_get (λ (x : Waiting EnteredNode). IsAppended cs x.key.id x.thing.node) column.queue.stored s.0 s.1 h.stored
      s.2))
  | inr other ↦
      let s = a.carried other n i e in
      each_get (λ (x : PlacedNode). IsAppended cs x.head.key.id x.node) (copy_of column region) s.0 i (h.copies region)
      s.1
]

-- Looks

pub home_there : (code : WorldView) → IsWhole code → (client : ℕ) → client < length code.shape.homes
    → home_of (world_of code) client < code.shape.regions
home_there code w client lt = w.homes client 0 lt

pub played_there : (code : WorldView) → IsWhole code → (client colour : ℕ) → client < length code.shape.homes
    → colour < code.shape.colours → colour < length (client_at code client).played
played_there code w client colour lt in_colours =
    let there : client < length code.clients = (let n = w.clients in omega (arith, n, lt)) in
    let n = w.colours client fresh_client there in
    let few = w.few_colours in
    omega (arith, n, few, in_colours)

module _ (code : WorldView) (w : IsWhole code) (client colour : ℕ)
    (in_regions : home_of (world_of code) client < code.shape.regions) (in_colours : colour < code.shape.colours) where
  abbrev home : ℕ
  home = home_of (world_of code) client

  abbrev column : ColumnState
  column = column_at code.columns home colour

  placed : IsPlaced column home colour code.shape.regions
  placed = w.placed home colour in_regions in_colours

  items_shown : (region from to : ℕ) (items : List PlacedNode) → AreItems column region from to items
      → AreShown (world_of code) client colour region from to items
  items_shown region from to items a = record {
    heads = a.heads
        ∙ ap (λ (r : ℕ). take (to - from) (drop from (chain r (dated r column.journal) region))) placed.in_region;
    nodes = items_appended code.clients column (w.appended home colour) region from to items a;
  }

  pub looked : (view : View) → IsView column (((world_of code).clients client).played colour) view
      → IsLook (world_of code) client colour view
  looked view v = record {
    region = v.region ∙ placed.in_region;
    of_colour = v.colour ∙ placed.of_colour;
    events = v.events;
    cut = v.cut ∙ ap (λ (r : ℕ). cut r (dated r column.journal)) placed.in_region;
    base = base_is;
    start = v.start ∙ ap (greater (((world_of code).clients client).played colour)) (sym v.base);
    chains = v.chains;
    items = λ region lt. items_shown region (at view.from region) (at view.cut region)
        (get_or view.items region []) (v.items region lt);
  } where
    base_is : view.base ≡ base home code.shape.regions (dated home column.journal)
    base_is =
        v.base
        ∙ (ap (λ (r : ℕ). base r column.regions (dated r column.journal)) placed.in_region
        ∙ ap (λ (n : ℕ). base home n (dated home column.journal)) placed.of_regions)

-- Open entries

-- where a status waits, the mark is a number
waits_number : (m : Mark) (last : Outcome) (st : Status) (s : ℕ) → Agrees m last st → st ≡ Waits s
    → (n : ℕ) × (m ≡ marks.Number n)
waits_number marks.None last st s a e = absurd (let x : ⊥ = cc in x)
waits_number (marks.Fenced why) last st s a e = absurd (let x : ⊥ = cc in x)
waits_number (marks.Number n) last st s a e = (n, refl)

marked_home : (home : ℕ) (f : ℕ → Mark) (region c s : ℕ)
    → (m : Mark) → m ≡ cond (region == home) (f c) marks.None → m ≡ marks.Number s → region ≡ home
marked_home home f region c s m is e = by_test (region ≡ home) (region == home) (λ t. eqb-true region home t)
    (λ other. absurd (none other)) where
      none : (region == home) ≡ false → ⊥
      none other = let n : m ≡ marks.None = is ∙ cond-false (region == home) (f c) marks.None other in
          let x : marks.None ≡ marks.Number s = sym n ∙ e in cc

-- the row of an open entry
record HasRow (w : World) (r c : ℕ) (x : Standing) : Type 0 where
  row : Row
  begun : is_begun w row ≡ true
  is : (row_of w row).node.id ≡ x.key.id
  client : row.client ≡ x.key.id.client
  home : home_of w row.client ≡ r

open_row : (w : World) → Held w → (r c : ℕ) (x : Standing) → In x (entries (w.histories r c)) → x.settled ≡ false
    → HasRow w r c x
open_row w h r c x i o =
    of_kind (h.kind x.key.id) (h.fits x.key.id r c)
    (open_waits x.key.id (status_in (w.histories r c) x.key.id) x (entry_shown w h r c x i) o) where
      of_kind : (k : Kind) → Fits w x.key.id k r c (status_in (w.histories r c) x.key.id)
          → status_in (w.histories r c) x.key.id ≡ Waits x.key.stamp → HasRow w r c x
      of_kind Unborn f e = absurd (let y : ⊥ = cc in y)
      of_kind (OfSingle region colour stamp) f e =
          choice (λ (st : Status). status_in (w.histories r c) x.key.id ≡ st → HasRow w r c x)
          ((r == region) && (c == colour)) (Alone stamp) Absent
          (λ _ g. absurd (let y : ⊥ = cc in y)) (λ _ g. absurd (let y : ⊥ = cc in y)) f
      of_kind (OfRow number) f e =
          let home = home_of w x.key.id.client in
          let n = waits_number (column_mark home (w.rows x.key.id.client number) r c)
          (w.rows x.key.id.client number).last _ x.key.stamp f.agrees e in
          record {
            row = record { client = x.key.id.client; number = number };
            begun = lt-ltb _ _ f.begun;
            is = f.is;
            client = refl;
            home = sym (marked_home home (w.rows x.key.id.client number).marks r c n.0
                (column_mark home (w.rows x.key.id.client number) r c) refl n.1);
          }

find_first : (p : Standing → Bool) (es : List Standing) → find p es ≡ slice_get (filter p es) 0
find_first p [] = refl
find_first p (e ∷ es) =
    choice (λ (l : List Standing). find p (e ∷ es) ≡ slice_get l 0) (p e) (e ∷ filter p es) (filter p es)
    (λ t. cond-true (p e) (Some e) (find p es) t) (λ f. cond-false (p e) (Some e) (find p es) f ∙ find_first p es)

first_of : (p : Standing → Bool) (es : List Standing) (e : Standing) → find p es ≡ Some e
    → (rest : List Standing) × (filter p es ≡ e ∷ rest)
first_of p es e is = turn (filter p es) (sym (find_first p es) ∙ is) where
  turn : (fs : List Standing) → slice_get fs 0 ≡ Some e → (rest : List Standing) × (fs ≡ e ∷ rest)
  turn [] h = absurd (let x : ⊥ = cc in x)
  turn (f ∷ fs) h = (fs, ap (λ (g : Standing). g ∷ fs) (let x : f ≡ e = cc in x))

none_of : (p : Standing → Bool) (es : List Standing) → find p es ≡ None → filter p es ≡ []
none_of p es is = turn (filter p es) (sym (find_first p es) ∙ is) where
  turn : (fs : List Standing) → slice_get fs 0 ≡ None → fs ≡ []
  turn [] h = refl
  turn (f ∷ fs) h = absurd (let x : ⊥ = cc in x)

some_of : (o : Option Standing) (id : Id) → Some id ≡ option_map (λ (e : Standing). e.key.id) o
    → (e : Standing) × (o ≡ Some e) × (id ≡ e.key.id)
some_of None id h = absurd (let x : ⊥ = cc in x)
some_of (Some e) id h = (e, refl, let x : id ≡ e.key.id = cc in x)

found_get : (p : Waiting EnteredNode → Bool) (P : Waiting EnteredNode → Type 0) (xs : List (Waiting EnteredNode))
    (x : Waiting EnteredNode) → AllByRecursion P xs → find p xs ≡ Some x → P x
found_get p P [] x h is = absurd (let f : ⊥ = cc in f)
found_get p P (y ∷ ys) x h is =
    choice (λ (o : Option (Waiting EnteredNode)). o ≡ Some x → P x) (p y) (Some y) (find p ys)
    (λ _ e. subst P (let f : y ≡ x = cc in f) h.0) (λ _ e. found_get p P ys x h.1 e) is

begun_some : (b : BegunAppend) (o : Option (Waiting EnteredNode)) → IsBegunAt (Some b) o
    → (s : Waiting EnteredNode) × (o ≡ Some s) × IsBegun b s.thing.node
begun_some b None h = absurd h
begun_some b (Some s) h = (s, refl, h)

told_of : (code : WorldView) → IsWhole code → Told (world_of code)
told_of code w = subst Told w.reached.is (told w.reached.shape w.reached.steps)

module _ (code : WorldView) (w : IsWhole code) (region colour : ℕ) (key : Key) where
  abbrev looked_at : ColumnState
  looked_at = column_at code.columns region colour

  pub none_below : (below : Below) → IsBelow looked_at key below → below.first ≡ None
      → open_below key ((world_of code).histories region colour) ≡ []
  none_below below b none =
      none_of (is_open_below key) (entries looked_at.journal)
      (is_none (find (is_open_below key) (entries looked_at.journal))
      (sym (ap (option_map (λ (x : BegunAppend). x.id)) none) ∙ b.first_id)) where
        is_none : (o : Option Standing) → None ≡ option_map (λ (e : Standing). e.key.id) o → o ≡ None
        is_none None h = refl
        is_none (Some e) h = absurd (let x : ⊥ = cc in x)

  pub first_below : (below : Below) (begun : BegunAppend) → IsBelow looked_at key below → below.first ≡ Some begun
      → IsFirstBelow (world_of code) region colour key begun.row
  first_below below begun b some =
      let world = world_of code in
      let es = entries looked_at.journal in
      let queue = looked_at.queue in
      let found = some_of (find (is_open_below key) es) begun.id
      (sym (ap (option_map (λ (x : BegunAppend). x.id)) some) ∙ b.first_id) in
      let e = found.0 in
      let rest = first_of (is_open_below key) es e found.1 in
      let i = in_filter (is_open_below key) e es (subst (λ (l : List Standing). In e l) (sym rest.1) (inl refl)) in
      let opens = not-true e.settled (and_parts (not e.settled) _ i.1).0 in
      let has = open_row world (is_held code w) region colour e i.0 opens in
      let s = begun_some begun (find (is_waiting_below key) (waiting_entries queue))
      (subst (λ (o : Option BegunAppend). IsBegunAt o (find (is_waiting_below key) (waiting_entries queue))) some
      b.first) in
      let there = found_get (is_waiting_below key)
      (λ (x : Waiting EnteredNode). IsAppended code.clients x.key.id x.thing.node) (waiting_entries queue) s.0
      (each-drop (λ (x : Waiting EnteredNode). IsAppended code.clients x.key.id x.thing.node) (kept_count queue)
      queue.stored (w.appended region colour).stored) s.1 in
      let ids = (is_listed code w).ids s.0.key.id.client s.0.key.id.count s.0.thing.node there in
      let same_id : s.0.key.id ≡ e.key.id = sym ids ∙ (sym s.2.id ∙ found.2) in
      let stored_node : slice_get (world.nodes e.key.id.client) e.key.id.count ≡ Some s.0.thing.node =
      subst (λ (x : Id). slice_get (world.nodes x.client) x.count ≡ Some s.0.thing.node) same_id there in
      let lt = ltb-true has.row.number (world.clients has.row.client).used has.begun in
      let listed_node : slice_get (world.nodes e.key.id.client) e.key.id.count ≡ Some (row_of world has.row).node =
      ap (λ (n : ℕ). slice_get (world.nodes n) e.key.id.count) (sym has.client)
      ∙ (ap (λ (x : Id). slice_get (world.nodes has.row.client) x.count) (sym has.is)
      ∙ (is_listed code w).rows has.row.client has.row.number lt) in
      let same_node : (row_of world has.row).node ≡ s.0.thing.node = same_Some _ _ (sym listed_node ∙ stored_node) in
      let own_row : (row_of world has.row).node.row ≡ Some has.row =
      ((told_of code w).rows has.row.client has.row.number lt).row in
      let same : has.row ≡ begun.row =
      same_Some _ _ (sym own_row ∙ (ap (λ (n : Node). n.row) same_node ∙ s.2.row)) in
      record {
        first = e;
        rest = rest.0;
        is_first = rest.1;
        node = subst (λ (r : Row). slice_get (world.nodes e.key.id.client) e.key.id.count ≡ Some (row_of world r).node)
            same
            listed_node;
        named = subst (λ (r : Row). (row_of world r).node.row ≡ Some r) same own_row;
        home = subst (λ (r : Row). home_of world r.client ≡ region) same has.home;
        begun = subst (λ (r : Row). is_begun world r ≡ true) same has.begun;
      }

  -- the row, if there is one
  abbrev row_in : Option BegunAppend → Option Row
  row_in o = option_map (λ (b : BegunAppend). b.row) o

  pub row_below : (below : Below) → IsBelow looked_at key below → (answer : Option Row) → answer ≡ row_in below.first
      → IfSome answer (λ row. IsFirstBelow (world_of code) region colour key row)
  row_below below b answer is = by_first below.first refl where
    by_first : (o : Option BegunAppend) → below.first ≡ o
        → IfSome answer (λ row. IsFirstBelow (world_of code) region colour key row)
    by_first None e =
        subst (λ (x : Option Row). IfSome x (λ row. IsFirstBelow (world_of code) region colour key row))
        (sym (is ∙ ap row_in e)) tt
    by_first (Some begun) e =
        subst (λ (x : Option Row). IfSome x (λ row. IsFirstBelow (world_of code) region colour key row))
        (sym (is ∙ ap row_in e)) (first_below below begun b e)

  pub no_row_below : (below : Below) → IsBelow looked_at key below → (answer : Option Row) → answer ≡ row_in below.first
      → answer ≡ None → open_below key ((world_of code).histories region colour) ≡ []
  no_row_below below b answer is none = none_below below b (by_first below.first (sym is ∙ none)) where
    by_first : (o : Option BegunAppend) → row_in o ≡ None → o ≡ None
    by_first None e = refl
    by_first (Some begun) e = absurd (let x : ⊥ = cc in x)
