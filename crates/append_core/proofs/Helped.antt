-- What helps between two sights of a hold, and what no help is of.
use Rattle.std.proofs.Common.{◌≡◌, ℕ, ◌<◌, List, ◌++◌, true, None, refl, ap, sym, subst, ◌∙◌, inl, inr, ◌⊎◌}
use mathlib.Core.List.{IsPrefix}
use Rattle.log_node.specs.declared.ids.Id.{Id}
use Rattle.log_node.specs.declared.ids.Row.{Row}
use Rattle.log_node.specs.declared.node.Node.{Node}
use Rattle.log_node.specs.declared.marks.Why.{Why}
use Rattle.log_node.specs.declared.marks.Mark.TheVariants.{Fenced}
use Rattle.log_node.specs.Sets.{has}
use Rattle.log_node.specs.Standings.{open_entry}
use Rattle.col_core.specs.declared.Entry.{Entry}
use Rattle.col_core.specs.declared.Event.{Event as ColumnEvent}
use Rattle.col_core.specs.declared.Event.TheVariants.{Single, Propose, Settle, Raise, Give, Carry, Trim}
use Rattle.col_core.specs.History.{entries, has_entered}
use Rattle.col_core.specs.Computed.{dated}
use Rattle.col_core.specs.Legal.{IsColumnHistory}
use Rattle.col_core.specs.Ids.{IsStepOf}
use Rattle.col_core.proofs.CallerLemmas.{lawful_beginning}
use Rattle.stamp_board.specs.declared.view.Size.{Size}
use Rattle.stamp_board.specs.Rows.{IsRow}
use Rattle.stamp_board.specs.Views.{Grows, KnowsBegun, KnowsMark}
use Rattle.stamp_board.proofs.CallerLemmas.{Grows-refl, Learns-from, begun_learnt, mark_learnt}
use Rattle.chain_store.specs.declared.told.Told.{Told}
use Rattle.chain_store.specs.declared.hold.Hold.{Hold}
use Rattle.chain_store.specs.declared.region.Region.{Region}
use Rattle.chain_store.specs.Histories.{entries_in}
use Rattle.chain_store.specs.Holds.{IsHold, seen_in, view_of}
use Rattle.chain_store.specs.Going.{GoesOn}
use Rattle.chain_store.proofs.CallerLemmas.{prefix_then, goes_same, goes_then, goes_weaken, lawful_seen}
use Rattle.append_core.specs.Helping.{MayBeOpenIn, WasOpen, HelpsOpen}
use Rattle.append_core.specs.Settled.{HoldKnowsComplete}
use Rattle.append_core.proofs.Complete.{complete_later}
use Rattle.append_core.proofs.Taking.{entries_split}
use Rattle.append_core.proofs.Lasting.{closed_longer}

-- what was open between two sights was so between wider ones

may_open_before : (g h : Hold) (id : Id) (colour : ℕ) → Grows (view_of g) (view_of h) → MayBeOpenIn h id colour
    → MayBeOpenIn g id colour
may_open_before g h id colour grows may row x is begun of =
    let learns = Learns-from (view_of g) (view_of h) grows in
    let m = may row x (subst (λ (k : Size). IsRow k row) (sym grows.size) is)
    (begun_learnt (view_of g) (view_of h) row grows.size learns x begun) of in (
      m.0,
      λ why fenced. m.1 why
          (mark_learnt (view_of g) (view_of h) row grows.size learns colour (Fenced why) fenced),
    )

opened_longer : (g h k l : Hold) (id : Id) → ((c : ℕ) → IsPrefix (seen_in g c) (seen_in h c))
    → Grows (view_of g) (view_of h) → ((c : ℕ) → IsPrefix (seen_in k c) (seen_in l c)) → WasOpen h k id → WasOpen g l id
opened_longer g h k l id low grows high o = record {
  colour = o.colour;
  log = o.log;
  after = prefix_then (seen_in g o.colour) (seen_in h o.colour) o.log (low o.colour) o.after;
  before = prefix_then o.log (seen_in k o.colour) (seen_in l o.colour) o.before (high o.colour);
  opened = o.opened;
  unfenced = may_open_before g h id o.colour grows o.unfenced;
}

pub helped_longer : (Before After : ℕ → ColumnEvent → Type 0) (g h k l : Hold) → GoesOn Before g h
    → Grows (view_of g) (view_of h) → GoesOn After k l → Grows (view_of k) (view_of l)
    → GoesOn (λ c e. HelpsOpen h k e) h k → GoesOn (λ c e. HelpsOpen g l e) h k
helped_longer Before After g h k l a before b after =
    goes_weaken (λ c e. HelpsOpen h k e) h k (λ c e. HelpsOpen g l e)
    (λ c e m. (
      m.0,
      m.1,
      opened_longer g h k l m.0 a.more before b.more m.2,
      complete_later k l b.more after.size (Learns-from (view_of k) (view_of l) after) m.0 m.3,
    ))

-- help after help
pub helps_then : (g h k : Hold) → GoesOn (λ c e. HelpsOpen g h e) g h → Grows (view_of g) (view_of h)
    → GoesOn (λ c e. HelpsOpen h k e) h k → Grows (view_of h) (view_of k) → GoesOn (λ c e. HelpsOpen g k e) g k
helps_then g h k a before b after =
    goes_then (λ c e. HelpsOpen g k e) g h k
    (helped_longer (λ c e. HelpsOpen g k e) (λ c e. HelpsOpen h k e) g g h k
    (goes_same (λ c e. HelpsOpen g k e) g g refl) (Grows-refl (view_of g)) b after a)
    (helped_longer (λ c e. HelpsOpen g h e) (λ c e. HelpsOpen g k e) g h k k a before
    (goes_same (λ c e. HelpsOpen g k e) k k refl) (Grows-refl (view_of k)) b)

-- an event is a step of one id at most
step_once : (a b : Id) (e : ColumnEvent) → IsStepOf a e → IsStepOf b e → a ≡ b
step_once a b (Single other floor wants) p q = absurd p
step_once a b (Propose other floor wants) p q = sym p ∙ q
step_once a b (Settle other outcome) p q = sym p ∙ q
step_once a b (Raise to) p q = absurd p
step_once a b (Give region from) p q = absurd p
step_once a b (Carry region start heads) p q = absurd p
step_once a b (Trim counts) p q = absurd p

-- the append that an event helps is complete
pub helped_complete : (g h : Hold) (e : ColumnEvent) → HelpsOpen g h e → (id : Id) → IsStepOf id e → HoldKnowsComplete h id
helped_complete g h e helps id step = subst (HoldKnowsComplete h) (step_once helps.0 id e helps.1 step) helps.3

-- what had entered and was open no more was so at each time since
closed_between : (r : Region) (h : Hold) (k : ℕ) → IsHold r h → k < r.board.size.colours → (old log : List Told)
    → IsPrefix old log → IsPrefix log (seen_in h k) → (id : Id) → has_entered id (entries_in old) ≡ true
    → open_entry id (entries (entries_in old)) ≡ None → open_entry id (entries (entries_in log)) ≡ None
closed_between r h k is lt old log after before id entered none =
    let more = entries_in after.0 in
    let split : entries_in old ++ more ≡ entries_in log = sym (entries_split old after.0) ∙ ap entries_in after.1 in
    let whole : entries_in log ++ entries_in before.0 ≡ entries_in (seen_in h k) =
    sym (entries_split log before.0) ∙ ap entries_in before.1 in
    let lawful = lawful_beginning r.number r.regions (entries_in log) (entries_in before.0)
    (subst (λ (l : List Entry). IsColumnHistory r.number r.regions (dated r.number l)) (sym whole)
    (lawful_seen r h k is lt)) in
    subst (λ (l : List Entry). open_entry id (entries l) ≡ None) split
    (closed_longer r.number r.regions (entries_in old) more id
    (subst (λ (l : List Entry). IsColumnHistory r.number r.regions (dated r.number l)) (sym split) lawful) entered none)

-- No help is of an id that was closed, or known to be fenced, in each colour of its node: what has entered and is open no
-- more stays so, and what is open somewhere is not fenced there.
pub never_helped : (r : Region) (g h : Hold) (row : Row) (x : Node) (e : ColumnEvent) → IsHold r h
    → ((c : ℕ) → has x.colours c ≡ true → c < r.board.size.colours)
    → IsRow (view_of g).size row → KnowsBegun (view_of g) row x
    → ((c : ℕ) → has x.colours c ≡ true
    → ((why : Why) × KnowsMark (view_of g) row c (Fenced why))
    ⊎ ((has_entered x.id (entries_in (seen_in g c)) ≡ true)
    × (open_entry x.id (entries (entries_in (seen_in g c))) ≡ None)))
    → HelpsOpen g h e → IsStepOf x.id e → ⊥
never_helped r g h row x e is within in_row begun closed helps step =
    let id = helps.0 in
    let o = helps.2 in
    let same = step_once id x.id e helps.1 step in
    let may = o.unfenced row x in_row begun (sym same) in
    elim (closed o.colour may.0) [
      | inl fenced ↦ may.1 fenced.0 fenced.1
      | inr over ↦
          o.opened (subst (λ (i : Id). open_entry i (entries (entries_in o.log)) ≡ None) (sym same)
          (closed_between r h o.colour is (within o.colour may.0) (seen_in g o.colour) o.log o.after o.before x.id over.0
          over.1))
    ]
