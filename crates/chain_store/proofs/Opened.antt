-- The mark of an append that is open in a column.
use Rattle.std.proofs.Common.{◌≡◌, ◌≢◌, ℕ, zero, suc, Bool, true, false, List, [], ◌∷◌, ◌++◌, Option, Some, None, refl, ap, sym, subst, ◌∙◌}
use Rattle.std.specs.Prelude.{slice_get, IfSome, if◌then◌else◌}
use Rattle.std.specs.List.{find}
use Rattle.log_node.specs.declared.ids.Id.{Id}
use Rattle.log_node.specs.declared.ids.Key.{Key}
use Rattle.log_node.specs.declared.ids.Row.{Row}
use Rattle.log_node.specs.declared.node.Node.{Node}
use Rattle.log_node.specs.declared.marks.Mark.{Mark}
use Rattle.log_node.specs.declared.marks.Mark.TheVariants as marks
use Rattle.log_node.specs.Seen.{BegunAppend}
use Rattle.skeen_core.specs.declared.waiting.Waiting.{Waiting}
use Rattle.skeen_core.specs.Queues.{waiting_entries, kept_count}
use Rattle.col_core.specs.declared.Event.{Event}
use Rattle.col_core.specs.declared.Event.TheVariants as events
use Rattle.col_core.specs.History.{enters}
use Rattle.col_core.proofs.CallerLemmas.{In}
use Rattle.column.specs.Entering.{EnteredNode}
use Rattle.column.specs.Columns.{IsBegun, IsBegunAt, is_waiting_below}
use Rattle.stamp_board.specs.declared.view.Size.{Size}
use Rattle.stamp_board.specs.declared.view.View.{View}
use Rattle.stamp_board.specs.Rows.{IsRow}
use Rattle.stamp_board.specs.Views.{Agree, KnowsBegun, KnowsMark, Learns}
use Rattle.stamp_board.specs.Seats.{column_seen, set_mark}
use Rattle.stamp_board.proofs.CallerLemmas.{mark_learnt}
use Rattle.chain_store.specs.declared.told.Told.{Told}
use Rattle.chain_store.specs.declared.seated.Seated.{Seated}
use Rattle.chain_store.specs.Histories.{Brings}
use Rattle.chain_store.specs.Marks.{is_row, is_first_of, proposes, stamps_of, numbers}
use Rattle.chain_store.specs.Columns.{Stands}
use Rattle.chain_store.specs.Proposals.{IsMarkedOpen}
use Rattle.chain_store.specs.Rows.{IsKnownBelow}
use Rattle.chain_store.proofs.Backing.{same_row-refl}
use Rattle.chain_store.proofs.Heard.{entered_row, drop_get}
use Rattle.chain_store.proofs.Settlings.{found_in, in_get}

-- a history that proposes the row has a stamp of it
stamped : (row : Row) (log : List Told) (i : ℕ) (t : Told) → slice_get log i ≡ Some t
    → proposes row t.entry.event t.nodes ≡ true → stamps_of row log ≢ []
stamped row [] i t e it = absurd (let f : ⊥ = cc (e) in f)
stamped row (u ∷ log) zero t e it =
    first (proposes row u.entry.event u.nodes) (subst (λ (z : Told). proposes row z.entry.event z.nodes ≡ true)
    (let g : t ≡ u = cc (e) in g) it) where
      first : (b : Bool) → b ≡ true → (if b then u.entry.stamp ∷ [] else []) ++ stamps_of row log ≢ []
      first true is f = let g : ⊥ = cc (f) in g
      first false is f = let g : ⊥ = cc (is) in g
stamped row (u ∷ log) (suc i) t e it =
    later (proposes row u.entry.event u.nodes) (stamped row log i t e it) where
      later : (b : Bool) → stamps_of row log ≢ [] → (if b then u.entry.stamp ∷ [] else []) ++ stamps_of row log ≢ []
      later true ne f = let g : ⊥ = cc (f) in g
      later false ne f = ne f

numbered : (m : Mark) → numbers m ≢ [] → (n : ℕ) × (m ≡ marks.Number n)
numbered marks.None ne = absurd (ne refl)
numbered (marks.Number n) ne = (n, refl)
numbered (marks.Fenced why) ne = absurd (ne refl)

one_of : (x y : Node) (nodes : List Node) → nodes ≡ x ∷ [] → nodes ≡ y ∷ [] → x ≡ y
one_of x y nodes p q = let f : x ∷ [] ≡ y ∷ [] = sym p ∙ q in let g : x ≡ y = cc in g

-- an entry that entered the node of a row proposes the row
enters_row : (region colour : ℕ) (id : Id) (x : Node) (row : Row) (e : Event) (nodes : List Node) → nodes ≡ x ∷ []
    → enters id e ≡ true → x.row ≡ Some row → Brings region colour e nodes → proposes row e nodes ≡ true
enters_row region colour id x row (events.Single other floor wants) nodes brought it of brings =
    absurd (let same = one_of x brings.0 nodes brought brings.1 in
    let f : Some row ≡ None = sym of ∙ ap (λ (y : Node). y.row) same ∙ brings.2 in let g : ⊥ = cc in g)
enters_row region colour id x row (events.Propose other floor wants) nodes brought it of brings =
    subst (λ (ns : List Node). is_first_of row ns ≡ true) (sym brought) (ap (is_row row) of ∙ same_row-refl row)
enters_row region colour id x row (events.Settle other outcome) nodes brought it of brings = absurd (let g : ⊥ = cc in g)
enters_row region colour id x row (events.Raise to) nodes brought it of brings = absurd (let g : ⊥ = cc in g)
enters_row region colour id x row (events.Give other from) nodes brought it of brings = absurd (let g : ⊥ = cc in g)
enters_row region colour id x row (events.Carry other start heads) nodes brought it of brings = absurd (let g : ⊥ = cc in g)
enters_row region colour id x row (events.Trim counts) nodes brought it of brings = absurd (let g : ⊥ = cc in g)

-- the mark of the append's row is the number under which the history proposes it
abbrev pub HasNumber : Seated → List Told → BegunAppend → Type 0
HasNumber s log b = (n : ℕ) × (set_mark s.seat b.row ≡ marks.Number n) × (stamps_of b.row log ≡ n ∷ [])

-- so it is of the least open entry below a key
pub first_numbered : (s : Seated) (key : Key) (first : Option BegunAppend)
    → IsBegunAt first (find (is_waiting_below key) (waiting_entries s.column.queue)) → (log : List Told) → Stands s log
    → IfSome first (HasNumber s log)
first_numbered s key None at log stands = tt
first_numbered s key (Some begun) at log stands =
    found (find (is_waiting_below key) (waiting_entries s.column.queue)) refl at where
      known : (w : Waiting EnteredNode) → In w s.column.queue.stored → IsBegun begun w.thing.node → HasNumber s log begun
      known w i of =
          let x = w.thing.node in
          let place = in_get s.column.queue.stored w i in
          let e = stands.0.stored w.key x (place.0, w, place.1, refl, refl) in
          let brings = stands.0.brings e.place e.told e.there in
          let r = entered_row (column_seen s.seat) s.column.region s.column.colour w.key.id x begun.row e.told.entry.event
          e.told.nodes e.brought e.entered of.row brings (stands.1.0.backs e.place e.told e.there) in
          let it = enters_row s.column.region s.column.colour w.key.id x begun.row e.told.entry.event e.told.nodes e.brought
          e.entered of.row brings in
          let same = stands.1.0.numbered begun.row r.0.inside in
          let n = numbered (set_mark s.seat begun.row)
          (λ none. stamped begun.row log e.place e.told e.there it (same ∙ none)) in
          (n.0, n.1, same ∙ ap numbers n.1)

      found : (o : Option (Waiting EnteredNode)) → find (is_waiting_below key) (waiting_entries s.column.queue) ≡ o
          → IsBegunAt (Some begun) o → HasNumber s log begun
      found None e h = absurd h
      found (Some w) e h =
          known w
          (drop_get (kept_count s.column.queue) s.column.queue.stored w
          (found_in (is_waiting_below key) (waiting_entries s.column.queue) w e)) h

-- and the client's seat knows it, once it was looked at and told
module _ (size : Size) (region colour : ℕ) (old new : View) (s : Seated) (log : List Told) (old_size : old.size ≡ size)
    (same_size : new.size ≡ (column_seen s.seat).size) (learns : Learns (column_seen s.seat) new)
    (agree : Agree old (column_seen s.seat)) where
  abbrev v : View
  v = column_seen s.seat

  marked_one : (b : BegunAppend) → IsKnownBelow size region colour v b → HasNumber s log b
      → (set_mark s.seat b.row ≢ marks.None → KnowsMark v b.row colour (set_mark s.seat b.row))
      → IsMarkedOpen size colour old new log b
  marked_one b known has_number shown =
      let n = has_number.0 in
      let there : KnowsMark v b.row colour (marks.Number n) =
      subst (λ (m : Mark). KnowsMark v b.row colour m) has_number.1
      (shown (λ none. let f : marks.Number n ≡ marks.None = sym has_number.1 ∙ none in let g : ⊥ = cc (f) in g)) in
      let y = known.0.0 in
      let of = known.0.1 in record {
        number = n;
        known = mark_learnt v new b.row same_size learns colour (marks.Number n) there;
        stamped = has_number.2;
        same = λ row x is begun id.
            let one : row ≡ b.row =
            agree.id row b.row x y (subst (λ (z : Size). IsRow z row) (sym old_size) is)
            (subst (λ (z : Size). IsRow z b.row) (sym old_size) of.row) begun of.knows (id ∙ of.of.id) in
            let same_node : x ≡ y =
            agree.node row x y begun (subst (λ (r : Row). KnowsBegun v r y) (sym one) of.knows) in (
              one,
              ap (λ (z : Node). z.colours) same_node ∙ sym of.of.colours,
              λ m knows. agree.mark row colour m (marks.Number n) knows
                  (subst (λ (r : Row). KnowsMark v r colour (marks.Number n)) (sym one) there),
            );
      }

  pub marked_first : (first : Option BegunAppend) → IfSome first (IsKnownBelow size region colour v)
      → IfSome first (HasNumber s log)
      → IfSome first (λ (b : BegunAppend). set_mark s.seat b.row ≢ marks.None
      → KnowsMark v b.row colour (set_mark s.seat b.row))
      → IfSome first (IsMarkedOpen size colour old new log)
  marked_first None known has_number shown = tt
  marked_first (Some b) known has_number shown = marked_one b known has_number shown
