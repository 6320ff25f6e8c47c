-- What is known stays known, and lists of two seats: for those who carry seats from call to call.
use Rattle.std.proofs.Common.{◌≡◌, ℕ, ◌+◌, ◌*◌, ◌<◌, ◌≤◌, sym, refl, ◌∙◌, subst, arith, inl, inr, mul-le-mul}
use Rattle.std.proofs.lemmas.Bool.{cases_eq}
use Rattle.log_node.specs.declared.ids.Row.{Row}
use Rattle.log_node.specs.declared.node.Node.{Node}
use Rattle.log_node.specs.declared.marks.Mark.{Mark}
use Rattle.log_node.specs.declared.marks.Outcome.{Outcome}
use Rattle.stamp_board.specs.declared.view.TheConstants.{MAX_WORDS}
use Rattle.stamp_board.specs.declared.view.Size.{Size}
use Rattle.stamp_board.specs.declared.view.View.{View}
use Rattle.stamp_board.specs.Words.{row_at, word_at}
use Rattle.stamp_board.specs.declared.seats.Seat.{Seat}
use Rattle.stamp_board.specs.Views.{Has, Grows, Learns, KnowsBegun, KnowsMark, KnowsOutcome}
use Rattle.stamp_board.specs.Seats.{IsLater, Begins, AreRowsBelow, next_row_of, seen}
pub use Rattle.stamp_board.proofs.Pairs.{last_two, two_colours}

-- a board that is within some limits has no more words than one of these limits
pub words_within : (clients rows colours most_clients most_rows most_colours : ℕ) → clients ≤ most_clients → rows ≤ most_rows
    → colours ≤ most_colours → most_clients * most_rows * (most_colours + 2) ≤ MAX_WORDS
    → clients * rows * (colours + 2) ≤ MAX_WORDS
words_within clients rows colours most_clients most_rows most_colours few_clients few_rows few_colours few =
    let width : colours + 2 ≤ most_colours + 2 = omega (arith, few_colours) in
    let all : clients * rows * (colours + 2) ≤ most_clients * most_rows * (most_colours + 2) =
    mul-le-mul (mul-le-mul few_clients few_rows) width in
    omega (arith, all, few)

pub Learns-refl : (v : View) → Learns v v
Learns-refl v = record { known = λ _ _ h. h; begun = λ _ _ h. h }

pub Learns-trans : (u v w : View) → Learns u v → Learns v w → Learns u w
Learns-trans u v w a b = record {
  known = λ i n h. b.known i n (a.known i n h);
  begun = λ r x h. b.begun r x (a.begun r x h);
}

pub Learns-from : (v w : View) → Grows v w → Learns v w
Learns-from v w g = record { known = g.known; begun = g.begun }

pub Grows-refl : (v : View) → Grows v v
Grows-refl v = record { size = refl; low = refl; high = refl; known = λ _ _ h. h; begun = λ _ _ h. h }

pub Grows-trans : (u v w : View) → Grows u v → Grows v w → Grows u w
Grows-trans u v w a b = record {
  size = b.size ∙ a.size;
  low = b.low ∙ a.low;
  high = b.high ∙ a.high;
  known = λ i n h. b.known i n (a.known i n h);
  begun = λ r x h. b.begun r x (a.begun r x h);
}

module _ (v w : View) (row : Row) (size : w.size ≡ v.size) (learns : Learns v w) where
  pub begun_learnt : (x : Node) → KnowsBegun v row x → KnowsBegun w row x
  begun_learnt x h = subst (λ (z : Size). Has w.begun (row_at z row) x) (sym size) (learns.begun (row_at v.size row) x h)

  pub mark_learnt : (c : ℕ) (m : Mark) → KnowsMark v row c m → KnowsMark w row c m
  mark_learnt c m h = (
    h.0,
    subst (λ (z : Size). Has w.known (word_at z (row_at z row) (1 + c)) h.0) (sym size)
        (learns.known (word_at v.size (row_at v.size row) (1 + c)) h.0 h.1),
    h.2,
  )

  pub outcome_learnt : (o : Outcome) → KnowsOutcome v row o → KnowsOutcome w row o
  outcome_learnt o h = (
    h.0,
    subst (λ (z : Size). Has w.known (word_at z (row_at z row) (z.colours + 1)) h.0) (sym size)
        (learns.known (word_at v.size (row_at v.size row) (v.size.colours + 1)) h.0 h.1),
    h.2,
  )

-- the rows of a client stay below a count, also once it has begun the next one
pub rows_below_later : (s t : Seat) (count more : ℕ) → IsLater s t → count ≤ more → AreRowsBelow s count
    → AreRowsBelow t more
rows_below_later s t count more later le all j lt =
    let y = all j (subst (λ (n : ℕ). j < n) later.used lt) in
    let less = y.2 in (
      y.0,
      subst (λ (c : ℕ). KnowsBegun (seen t) (record { client = c; number = j }) y.0) (sym later.client)
          (begun_learnt (seen s) (seen t) (record { client = s.client; number = j }) later.grows.size
          (Learns-from (seen s) (seen t) later.grows) y.0 y.1),
      omega (arith, less, le),
    )

pub rows_below_more : (s t : Seat) (row : Row) (x : Node) → row ≡ next_row_of s → Begins s t row x
    → AreRowsBelow s x.id.count → AreRowsBelow t (x.id.count + 1)
rows_below_more s t row x is begun all j lt = elim (cases_eq j s.used) [
  | inl last ↦ (
    x,
    subst (λ (r : Row). KnowsBegun (seen t) r x)
        (is ∙ (λ i. record { client = sym begun.client i; number = sym last i })) begun.knows,
    omega arith,
  )
  | inr before ↦
      let near = subst (λ (n : ℕ). j < n) begun.used lt in
      let y = all j (omega (arith, near, before)) in
      let less = y.2 in (
        y.0,
        subst (λ (c : ℕ). KnowsBegun (seen t) (record { client = c; number = j }) y.0) (sym begun.client)
            (begun_learnt (seen s) (seen t) (record { client = s.client; number = j }) begun.grows.size
            (Learns-from (seen s) (seen t) begun.grows) y.0 y.1),
        omega (arith, less),
      )
]
