-- What is known and what stands after a client's seat and a column's have told one another.
use Rattle.std.proofs.Common.{◌≡◌, ◌<◌, ◌++◌, ◌∷◌, [], ℕ, zero, suc, drop, true, List, Option, Some, None, length, refl, ap, sym, subst, ◌∙◌, inr}
use Rattle.std.specs.Prelude.{IfSome}
use Rattle.std.specs.List.{find}
use Rattle.log_node.specs.declared.ids.Id.{Id}
use Rattle.log_node.specs.declared.ids.Key.{Key}
use Rattle.log_node.specs.declared.ids.Row.{Row}
use Rattle.log_node.specs.declared.ids.Colours.{Colours}
use Rattle.log_node.specs.declared.node.Node.{Node}
use Rattle.log_node.specs.Seen.{BegunAppend}
use Rattle.log_node.specs.Sets.{has}
use Rattle.skeen_core.specs.declared.waiting.Waiting.{Waiting}
use Rattle.skeen_core.specs.Queues.{waiting_entries, kept_count}
use Rattle.col_core.specs.declared.Event.{Event}
use Rattle.col_core.specs.declared.Event.TheVariants as events
use Rattle.col_core.specs.History.{enters}
use Rattle.col_core.proofs.CallerLemmas.{In}
use Rattle.column.specs.Entering.{EnteredNode}
use Rattle.column.specs.Columns.{ColumnState, IsBegun, IsBegunAt, is_waiting_below}
use Rattle.stamp_board.specs.declared.view.Size.{Size}
use Rattle.stamp_board.specs.declared.view.View.{View}
use Rattle.stamp_board.specs.declared.seats.ColumnSeat.{ColumnSeat}
use Rattle.stamp_board.specs.Rows.{IsRow, AreColours}
use Rattle.stamp_board.specs.Views.{Agree, Learns, own_mark, told}
use Rattle.stamp_board.specs.Seats.{column_seen, SetsNone}
use Rattle.chain_store.specs.declared.told.Told.{Told}
use Rattle.chain_store.specs.declared.seated.Seated.{Seated}
use Rattle.chain_store.specs.Histories.{Brings, FitsColumn}
use Rattle.chain_store.specs.Marks.{Backs, IsRowOf}
use Rattle.chain_store.specs.Columns.{Stands, Stays, Gains, newest_in}
use Rattle.log_node.specs.declared.node.At.{At}
use Rattle.log_node.specs.declared.node.At.TheVariants as ats
use Rattle.chain_store.specs.Steps.{MatchAt}
use Rattle.chain_store.specs.Rows.{IsKnownBelow}
use Rattle.chain_store.proofs.Settlings.{found_in, in_get}

-- what a note says
pub learns_told : (v w u : View) → u ≡ told v → Learns u w → Learns v w
learns_told v w u is l = from (subst (λ (z : View). Learns z w) is l) where
  from : Learns (told v) w → Learns v w
  from k = record { known = k.known; begun = k.begun }

pub agree_told : (u v w : View) → w ≡ told v → Agree u w → Agree u v
agree_told u v w is a = from (subst (λ (z : View). Agree u z) is a) where
  from : Agree u (told v) → Agree u v
  from k = record { id = k.id; node = k.node; mark = k.mark; outcome = k.outcome }

-- a seat that knows the same has set the same marks
pub same_marks : (s t : ColumnSeat) → column_seen t ≡ column_seen s → t.colour ≡ s.colour → SetsNone s t
same_marks s t same colour row = λ i. own_mark (same i) row (colour i)

-- a step between two that stay
pub gains_between : (s s1 s2 s3 : Seated) (t : Told) → Stays s s1 → Gains s1 s2 t → s3.column ≡ s2.column → Stays s2 s3
    → Gains s s3 t
gains_between s s1 s2 s3 t before g same after = (
  ap newest_in same ∙ g.0,
  subst (λ (c : ColumnState). length c.journal < 18446744073709551616) (sym same) g.1,
  λ log st. after (log ++ t ∷ []) (g.2 log (before log st)),
)

-- an open entry's node is that of a row of which the column's seat knows

one_of : (x y : Node) (nodes : List Node) → nodes ≡ x ∷ [] → nodes ≡ y ∷ [] → x ≡ y
one_of x y nodes p q = let f : x ∷ [] ≡ y ∷ [] = sym p ∙ q in let g : x ≡ y = cc in g

-- the node of an entry that entered an id, where the node has a row
pub entered_row : (v : View) (region colour : ℕ) (id : Id) (x : Node) (row : Row) (e : Event) (nodes : List Node)
    → nodes ≡ x ∷ [] → enters id e ≡ true → x.row ≡ Some row → Brings region colour e nodes → Backs v e nodes
    → IsRowOf v row x × FitsColumn region colour x
entered_row v region colour id x row (events.Single other floor wants) nodes brought it of brings backs =
    absurd (let same = one_of x brings.0 nodes brought brings.1 in
    let f : Some row ≡ None = sym of ∙ ap (λ (y : Node). y.row) same ∙ brings.2 in let g : ⊥ = cc in g)
entered_row v region colour id x row (events.Propose other floor wants) nodes brought it of brings backs =
    let one = one_of brings.0 x nodes brings.1 brought in
    let two = one_of backs.0 x nodes backs.2 brought in
    let here : IsRowOf v backs.1 x = subst (λ (y : Node). IsRowOf v backs.1 y) two backs.3 in
    let row_is : backs.1 ≡ row = (let f : Some backs.1 ≡ Some row = sym here.of_row ∙ of in let g : backs.1 ≡ row = cc in g) in
    (subst (λ (r : Row). IsRowOf v r x) row_is here, subst (λ (y : Node). FitsColumn region colour y) one brings.4)
entered_row v region colour id x row (events.Settle other outcome) nodes brought it of brings backs = absurd (let g : ⊥ = cc in g)
entered_row v region colour id x row (events.Raise to) nodes brought it of brings backs = absurd (let g : ⊥ = cc in g)
entered_row v region colour id x row (events.Give other from) nodes brought it of brings backs = absurd (let g : ⊥ = cc in g)
entered_row v region colour id x row (events.Carry other start heads) nodes brought it of brings backs = absurd (let g : ⊥ = cc in g)
entered_row v region colour id x row (events.Trim counts) nodes brought it of brings backs = absurd (let g : ⊥ = cc in g)

pub drop_get : {A : Type 0} (n : ℕ) (xs : List A) (x : A) → In x (drop n xs) → In x xs
drop_get zero xs x i = i
drop_get (suc n) [] x i = i
drop_get (suc n) (y ∷ ys) x i = inr (drop_get n ys x i)

-- the least open entry below a key is known to the column's seat
pub first_known : (s : Seated) (size : Size) (key : Key) (first : Option BegunAppend) → (column_seen s.seat).size ≡ size
    → IsBegunAt first (find (is_waiting_below key) (waiting_entries s.column.queue)) → (log : List Told) → Stands s log
    → IfSome first (IsKnownBelow size s.column.region s.column.colour (column_seen s.seat))
first_known s size key None sized at log stands = tt
first_known s size key (Some begun) sized at log stands =
    found (find (is_waiting_below key) (waiting_entries s.column.queue)) refl at where
      known : (w : Waiting EnteredNode) → In w s.column.queue.stored → IsBegun begun w.thing.node
          → IsKnownBelow size s.column.region s.column.colour (column_seen s.seat) begun
      known w i of =
          let x = w.thing.node in
          let place = in_get s.column.queue.stored w i in
          let e = stands.0.stored w.key x (place.0, w, place.1, refl, refl) in
          let r = entered_row (column_seen s.seat) s.column.region s.column.colour w.key.id x begun.row e.told.entry.event
          e.told.nodes e.brought e.entered of.row (stands.0.brings e.place e.told e.there)
          (stands.1.0.backs e.place e.told e.there) in (
            (
              x,
              record {
                row = subst (λ (k : Size). IsRow k begun.row) sized r.0.inside;
                knows = r.0.knows;
                of = of;
                mine = r.0.mine;
                in_region = r.1.in_region;
                counted = r.1.counted;
                floored = r.1.floored;
                several = subst (λ (k : Size). AreColours k x.colours) sized r.0.several;
              },
            ),
            subst (λ (c : Colours). has c s.column.colour ≡ true) (sym of.colours) r.1.coloured,
          )

      found : (o : Option (Waiting EnteredNode)) → find (is_waiting_below key) (waiting_entries s.column.queue) ≡ o
          → IsBegunAt (Some begun) o → IsKnownBelow size s.column.region s.column.colour (column_seen s.seat) begun
      found None e h = absurd h
      found (Some w) e h =
          known w
          (drop_get (kept_count s.column.queue) s.column.queue.stored w
          (found_in (is_waiting_below key) (waiting_entries s.column.queue) w e)) h

-- an answer that is an event, and one that is a look
pub at_event : (at : At) (place : ℕ) (P Q : ℕ → Type 0) → at ≡ ats.Event place → P place → MatchAt at P Q
at_event at place P Q is h = subst (λ (a : At). MatchAt a P Q) (sym is) h

pub at_look : (at : At) (events : ℕ) (P Q : ℕ → Type 0) → at ≡ ats.Look events → Q events → MatchAt at P Q
at_look at events P Q is h = subst (λ (a : At). MatchAt a P Q) (sym is) h
