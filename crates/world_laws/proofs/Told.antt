-- The rows and the histories tell the same: each event of a row is as its node and marks say, and each mark has its
-- event.
use Rattle.std.proofs.Common.{◌≡◌, ℕ, ◌+◌, ◌<◌, ◌≤◌, max, List, [], ◌∷◌, ◌++◌, length, Some, subst, ap, sym, ◌∙◌, arith}
use Rattle.std.specs.Prelude.{◌≢◌, slice_get, slice_index}
use mathlib.Core.List.{IsPrefix}
use Rattle.log_node.specs.declared.ids.Id.{Id}
use Rattle.log_node.specs.declared.ids.Counts.{Counts}
use Rattle.log_node.specs.declared.node.Node.{Node}
use Rattle.log_node.specs.declared.node.Shape.{Shape}
use Rattle.log_node.specs.Sets.{members}
use Rattle.log_node.specs.declared.marks.Why.TheVariants.{StampEnd}
use Rattle.log_node.specs.declared.marks.Mark.{Mark}
use Rattle.log_node.specs.declared.marks.Mark.TheVariants as marks
use Rattle.log_node.specs.declared.marks.Outcome.{Outcome}
use Rattle.log_node.specs.declared.marks.Outcome.TheVariants.{Open}
use Rattle.col_core.specs.declared.Event.TheVariants as events
use Rattle.col_core.specs.declared.Event.{Event}
use Rattle.col_core.specs.declared.Entry.{Entry}
use Rattle.col_core.specs.History.{clock, last_stamp, IsAtEnd}
use Rattle.col_core.specs.Rows.{node_wants, Proposes}
use Rattle.col_core.proofs.CallerLemmas.{slice_longer, In}
use Rattle.world_laws.specs.Worlds.{World, RowState, home_of}
use Rattle.world_laws.proofs.Held.{Held}
use Rattle.world_laws.proofs.Histories.{lawful_past_in, clock_within}
use Rattle.world_laws.proofs.Growing.{Grows}

-- What the rows say of an event

pub record FitsPropose (w : World) (r c : ℕ) (id : Id) (floor : ℕ) (wants : Counts) (stamp : ℕ) : Type 0 where
  pub number : ℕ
  pub begun : number < (w.clients id.client).used
  pub is : (w.rows id.client number).node.id ≡ id
  pub home : r ≡ home_of w id.client
  pub mark : (w.rows id.client number).marks c ≡ marks.Number stamp
  pub floor_is : (w.rows id.client number).node.floor ≡ floor
  pub wants_is : node_wants (w.rows id.client number).node c ≡ wants

pub record FitsSettle (w : World) (r : ℕ) (id : Id) (o : Outcome) : Type 0 where
  pub number : ℕ
  pub begun : number < (w.clients id.client).used
  pub is : (w.rows id.client number).node.id ≡ id
  pub home : r ≡ home_of w id.client
  pub last : (w.rows id.client number).last ≡ o
  pub decided : o ≢ Open

abbrev pub FitsEvent : World → ℕ → ℕ → Event → ℕ → Type 0
FitsEvent w r c (events.Single id floor wants) stamp = Unit {0}
FitsEvent w r c (events.Propose id floor wants) stamp = FitsPropose w r c id floor wants stamp
FitsEvent w r c (events.Settle id o) stamp = FitsSettle w r id o
FitsEvent w r c (events.Raise _) stamp = Unit {0}
FitsEvent w r c (events.Give _ _) stamp = Unit {0}
FitsEvent w r c (events.Carry _ _ _) stamp = Unit {0}
FitsEvent w r c (events.Trim _) stamp = Unit {0}

number_set : (m : Mark) (s : ℕ) → m ≡ marks.Number s → m ≢ marks.None
number_set m s e n = cc

same_home : (w w' : World) → Grows w w' → (a : ℕ) → home_of w a ≡ home_of w' a
same_home w w' g a = ap (λ (s : Shape). slice_index s.homes a) (sym g.shape)

pub fits_grow : (w w' : World) → Grows w w' → (r c : ℕ) (ev : Event) (stamp : ℕ) → FitsEvent w r c ev stamp
    → FitsEvent w' r c ev stamp
fits_grow w w' g r c (events.Single id floor wants) stamp f = tt
fits_grow w w' g r c (events.Propose id floor wants) stamp f =
    let x = g.rows id.client f.number f.begun in
    record {
      number = f.number;
      begun = g.used id.client f.number f.begun;
      is = ap (λ (n : Node). n.id) x.node ∙ f.is;
      home = f.home ∙ same_home w w' g id.client;
      mark = x.marks c (number_set _ stamp f.mark) ∙ f.mark;
      floor_is = ap (λ (n : Node). n.floor) x.node ∙ f.floor_is;
      wants_is = ap (λ (n : Node). node_wants n c) x.node ∙ f.wants_is;
    }
fits_grow w w' g r c (events.Settle id o) stamp f =
    let x = g.rows id.client f.number f.begun in
    record {
      number = f.number;
      begun = g.used id.client f.number f.begun;
      is = ap (λ (n : Node). n.id) x.node ∙ f.is;
      home = f.home ∙ same_home w w' g id.client;
      last = x.last (λ e. f.decided (sym f.last ∙ e)) ∙ f.last;
      decided = f.decided;
    }
fits_grow w w' g r c (events.Raise _) stamp f = tt
fits_grow w w' g r c (events.Give _ _) stamp f = tt
fits_grow w w' g r c (events.Carry _ _ _) stamp f = tt
fits_grow w w' g r c (events.Trim _) stamp f = tt

-- What the histories say of a row

pub record RowTold (w : World) (a n : ℕ) (r : RowState) : Type 0 where
  pub numbers : (c s : ℕ) → r.marks c ≡ marks.Number s → Proposes (w.histories (home_of w a) c) r.node.id s
  pub at_end : (c : ℕ) → r.marks c ≡ marks.Fenced StampEnd → IsAtEnd (w.histories (home_of w a) c) r.node.floor
  pub row : r.node.row ≡ Some (record { client = a; number = n })
  pub region : r.node.region ≡ home_of w a
  pub several : 2 ≤ length (members r.node.colours)

proposes_longer : (history later : List Entry) (id : Id) (s : ℕ) → IsPrefix history later → Proposes history id s
    → Proposes later id s
proposes_longer history later id s p x = (
  x.0,
  x.1,
  x.2,
  x.3,
  subst (λ (h : List Entry). slice_get h x.0 ≡ Some x.1) p.1
      (slice_longer history p.0 x.0 x.1 x.4),
  x.5,
  x.6,
)

clock_longer : (history more : List Entry) → clock history ≤ clock (history ++ more)
clock_longer [] more = omega arith
clock_longer (d ∷ ds) more = let h = clock_longer ds more in omega (arith, h)

still_at_end : (c c' floor last : ℕ) → max c floor ≡ last → c ≤ c' → c' ≤ last → max c' floor ≡ last
still_at_end c c' floor last e a b = omega (arith, e, a, b)

at_end_longer : (history later : List Entry) (floor : ℕ) → IsPrefix history later → clock later ≤ last_stamp
    → IsAtEnd history floor → IsAtEnd later floor
at_end_longer history later floor p within e =
    let a : clock history ≤ clock later = subst (λ (h : List Entry). clock history ≤ clock h) p.1
    (clock_longer history p.0) in
    still_at_end (clock history) (clock later) floor last_stamp e a within

pub row_told_grow : (w w' : World) → Grows w w' → Held w' → (a n : ℕ) (r : RowState) → RowTold w a n r
    → RowTold w' a n r
row_told_grow w w' g h' a n r t =
    let same = same_home w w' g a in
    record {
      numbers = λ c s e. subst (λ (k : ℕ). Proposes (w'.histories k c) r.node.id s) same
          (proposes_longer (w.histories (home_of w a) c) (w'.histories (home_of w a) c) r.node.id s
          (g.histories (home_of w a) c) (t.numbers c s e));
      at_end = λ c e. subst (λ (k : ℕ). IsAtEnd (w'.histories k c) r.node.floor) same
          (at_end_longer (w.histories (home_of w a) c) (w'.histories (home_of w a) c) r.node.floor
          (g.histories (home_of w a) c)
          (clock_within (w'.histories (home_of w a) c) (lawful_past_in w' h' (home_of w a) c)) (t.at_end c e));
      row = t.row;
      region = t.region ∙ same;
      several = t.several;
    }

pub record Told (w : World) : Type 0 where
  pub events : (r c : ℕ) (e : Entry) → In e (w.histories r c) → FitsEvent w r c e.event e.stamp
  pub rows : (a n : ℕ) → n < (w.clients a).used → RowTold w a n (w.rows a n)
  pub counts : (a : ℕ) → (w.clients a).count ≤ (w.clients a).floor + (w.clients a).used
  pub used : (a : ℕ) → (w.clients a).used ≤ w.shape.rows
  pub clients : (a n : ℕ) → n < (w.clients a).used → a < length w.shape.homes
