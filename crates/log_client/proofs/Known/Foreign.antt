-- What a client helps is not its own, where each append that it began before is closed.
use Rattle.std.proofs.Common.{◌≡◌, ℕ, suc, ◌+◌, ◌<◌, List, [], ◌∷◌, length, Some, None, true, slice_get, refl, ap, sym, subst, ◌∙◌, inl, inr, ◌⊎◌, arith, eqb-true}
use Rattle.std.specs.Prelude.{IsTrue}
use Rattle.std.specs.List.{All}
use Rattle.std.proofs.lemmas.Bool.{cases_eq}
use Rattle.std.proofs.lemmas.List.Elements.{All-contains, All-cons, All-nil}
use Rattle.log_node.specs.declared.ids.Id.{Id}
use Rattle.log_node.specs.declared.ids.Row.{Row}
use Rattle.log_node.specs.declared.node.Node.{Node}
use Rattle.log_node.specs.declared.marks.Why.{Why}
use Rattle.log_node.specs.declared.marks.Mark.TheVariants.{Fenced}
use Rattle.log_node.specs.Sets.{has}
use Rattle.log_node.specs.Standings.{open_entry}
use Rattle.col_core.specs.declared.Event as event_types
use Rattle.col_core.specs.declared.Event.TheVariants as events
use Rattle.col_core.specs.History.{entries, has_entered}
use Rattle.col_core.specs.Ids.{IsStepOf}
use Rattle.col_core.specs.Log.{is_own}
use Rattle.col_core.proofs.CallerLemmas.{contains_in, slice_in}
use Rattle.stamp_board.specs.declared.view.Size.{Size}
use Rattle.stamp_board.specs.Rows.{IsRow}
use Rattle.stamp_board.specs.Views.{KnowsBegun, KnowsMark}
use Rattle.stamp_board.proofs.CallerLemmas.{begun_learnt}
use Rattle.chain_store.specs.declared.told.Told.{Told}
use Rattle.chain_store.specs.declared.hold.Hold.{Hold}
use Rattle.chain_store.specs.declared.region.Region.{Region}
use Rattle.chain_store.specs.Histories.{entries_in}
use Rattle.chain_store.specs.Owning.{IsAccountedFor, row_of}
use Rattle.chain_store.specs.Rows.{OneNode}
use Rattle.chain_store.specs.Going.{GoesOn}
use Rattle.chain_store.specs.Holds.{IsHold, made_in, seen_in, view_of}
use Rattle.append_core.specs.Helping.{HelpsOpen}
use Rattle.append_core.proofs.CallerLemmas.{never_helped}
use Rattle.log_client.specs.Clients.{AllClosed, AreBegunRows}
use Rattle.log_client.specs.Fits.{HasGoneOn}
use Rattle.log_client.proofs.Lists.{got, got_onward}

all_by : {A : Type 0} (P : A → Type 0) (xs : List A) → ((n : ℕ) (x : A) → slice_get xs n ≡ Some x → P x) → All P xs
all_by P [] each = All-nil P
all_by P (x ∷ xs) each = All-cons P x xs (each 0 x refl) (all_by P xs (λ n y at. each (suc n) y at))

module _ (r : Region) (g h : Hold) (rests : IsHold r h) where
  -- an event that the hold made is accounted for by its rows
  abbrev pub Accounted : event_types.Event → Type 0
  Accounted e = IsAccountedFor h.passes.number h.seat.used h.next rests.owns.nodes e

  pub goes_accounted : (Made : ℕ → event_types.Event → Type 0) → GoesOn Made g h
      → GoesOn (λ c e. Made c e × Accounted e) g h
  goes_accounted Made goes = record {
    number = goes.number;
    more = goes.more;
    made = λ c. let m = goes.made c in (
      m.0,
      m.1,
      all_by (λ (t : Told). Made c t.entry.event × Accounted t.entry.event) m.0
          (λ k t at. (
            All-contains (λ (u : Told). Made c u.entry.event) m.0 t m.2 (contains_in m.0 t (slice_in m.0 k t at)),
            rests.owns.entries c (length (made_in g c) + k) t
                (ap (λ (l : List Told). slice_get l (length (made_in g c) + k)) m.1 ∙ got_onward (made_in g c) m.0 k t at),
          )),
    );
  }

  -- an own step of an id is of one of its rows
  own_row_of : (id : Id) (e : event_types.Event) → IsStepOf id e → Accounted e → IsTrue (is_own h.passes.number e)
      → (j : ℕ) × (j < h.seat.used) × ((rests.owns.nodes j).id ≡ id)
  own_row_of id (events.Single other floor wants) step acc own = absurd step
  own_row_of id (events.Propose other floor wants) step acc own =
      let j = acc (eqb-true other.client h.passes.number own) in (j.0, j.1, j.2 ∙ step)
  own_row_of id (events.Settle other outcome) step acc own =
      let j = acc (eqb-true other.client h.passes.number own) in (j.0, j.1, j.2 ∙ step)
  own_row_of id (events.Raise to) step acc own = absurd step
  own_row_of id (events.Give region from) step acc own = absurd step
  own_row_of id (events.Carry region start heads) step acc own = absurd step
  own_row_of id (events.Trim counts) step acc own = absurd step

  module _ (on : HasGoneOn g h) (one : (row : Row) → OneNode (view_of h) row) (rows : List Node)
      (begun : AreBegunRows h.passes.number g rows) (closed : AllClosed g rows) where
    -- an older row of the client is not helped
    old_not_helped : (j : ℕ) (e : event_types.Event) (helps : HelpsOpen g h e) → j < g.seat.used → j < h.seat.used
        → (rests.owns.nodes j).id ≡ helps.0 → ⊥
    old_not_helped j e helps old lt is =
        let many = begun.many in
        let x = got rows j (omega (arith, old, many)) in
        let knows = begun.begun j x.0 x.1 in
        let same : rests.owns.nodes j ≡ x.0 =
        one (row_of h.passes.number j) (rests.owns.nodes j) x.0 (rests.owns.known j lt)
        (begun_learnt (view_of g) (view_of h) (row_of h.passes.number j) on.size on.learns x.0 knows) in
        let fit = rests.owns.fit j lt in
        never_helped r g h (row_of h.passes.number j) x.0 e rests
        (λ c of. fit.coloured.within c (subst (λ (y : Node). has y.colours c ≡ true) (sym same) of))
        (subst (λ (k : Size). IsRow k (row_of h.passes.number j)) (sym rests.seat.1 ∙ on.size) fit.on_board) knows
        (λ c of. shut j x.0 x.1 c of) helps
        (subst (λ (i : Id). IsStepOf i e) (sym is ∙ ap (λ (y : Node). y.id) same) helps.1) where
          shut : (j : ℕ) (x : Node) → slice_get rows j ≡ Some x → (c : ℕ) → has x.colours c ≡ true
              → ((why : Why) × KnowsMark (view_of g) (row_of h.passes.number j) c (Fenced why))
              ⊎ ((has_entered x.id (entries_in (seen_in g c)) ≡ true)
              × (open_entry x.id (entries (entries_in (seen_in g c))) ≡ None))
          shut j x at c of =
              subst (λ (u : ℕ). ((why : Why) × KnowsMark (view_of g) (row_of u j) c (Fenced why))
              ⊎ ((has_entered x.id (entries_in (seen_in g c)) ≡ true)
              × (open_entry x.id (entries (entries_in (seen_in g c))) ≡ None)))
              (sym on.number) ((closed j x at).in_colours c of)

    -- where it began no row, no own append was helped
    pub foreign : h.seat.used ≡ g.seat.used → (e : event_types.Event) → HelpsOpen g h e → Accounted e
        → IsTrue (is_own h.passes.number e) → ⊥
    foreign used e helps acc own =
        let j = own_row_of helps.0 e helps.1 acc own in
        let lt = j.1 in
        old_not_helped j.0 e helps (omega (arith, lt, used)) lt j.2

    -- where it began one, for this node, what it helped of its own is that
    pub foreign_but : (x : Node) → h.seat.used ≡ g.seat.used + 1
        → KnowsBegun (view_of h) (row_of g.passes.number g.seat.used) x → (e : event_types.Event) → HelpsOpen g h e
        → Accounted e → IsTrue (is_own h.passes.number e) → IsStepOf x.id e
    foreign_but x used knows e helps acc own =
        let j = own_row_of helps.0 e helps.1 acc own in
        let lt = j.1 in
        elim (cases_eq j.0 g.seat.used) [
          | inl last ↦
              let there : KnowsBegun (view_of h) (row_of h.passes.number j.0) x =
              subst (λ (k : ℕ). KnowsBegun (view_of h) (row_of h.passes.number k) x) (sym last)
              (subst (λ (u : ℕ). KnowsBegun (view_of h) (row_of u g.seat.used) x) (sym on.number) knows) in
              let same = one (row_of h.passes.number j.0) (rests.owns.nodes j.0) x (rests.owns.known j.0 lt) there in
              subst (λ (i : Id). IsStepOf i e) (sym j.2 ∙ ap (λ (y : Node). y.id) same) helps.1
          | inr before ↦ absurd (old_not_helped j.0 e helps (omega (arith, lt, used, before)) lt j.2)
        ]
