-- What a hold knows of an append stays known.
use Rattle.std.proofs.Common.{◌≡◌, ◌≢◌, ◌<◌, ℕ, Option, Result, Ok, Err, ap, sym, subst, ◌∙◌, inl, inr}
use Rattle.std.specs.Prelude.{IfOk, IfErr}
use Rattle.log_node.specs.declared.node.Node.{Node}
use Rattle.log_node.specs.Seen.{BegunAppend}
use Rattle.stamp_board.specs.declared.view.Size.{Size}
use Rattle.stamp_board.specs.Words.{row_at}
use Rattle.stamp_board.specs.Views.{Has}
use Rattle.stamp_board.specs.Seats.{IsLater}
use Rattle.stamp_board.proofs.CallerLemmas.{Learns-from, begun_learnt}
use Rattle.chain_store.specs.declared.hold.Hold.{Hold}
use Rattle.chain_store.specs.declared.region.Region.{Region}
use Rattle.chain_store.specs.declared.telling.HoldNote.{HoldNote}
use Rattle.chain_store.specs.Holds.{IsHold, KnowsAppend, view_of}
use Rattle.chain_store.specs.Telling.{Tells, Hears, view_told}
use Rattle.append_core.specs.declared.stood.Stood.{Stood}
use Rattle.append_core.specs.declared.several.MultiFault.{MultiFault}
use Rattle.append_core.specs.declared.several.MultiFault.TheVariants as faults
use Rattle.append_core.specs.Several.{HoldLeaves, HoldAppendsSeveral}

module _ (r : Region) (g h : Hold) (b : BegunAppend) where
  pub append_later : IsLater g.seat h.seat → h.passes.number ≡ g.passes.number → KnowsAppend r g b → KnowsAppend r h b
  append_later later same k = let x = k.knows.0 in let w = k.knows.1 in record {
    knows = (
      x,
      record {
        row = w.row;
        knows = begun_learnt (view_of g) (view_of h) b.row later.grows.size
            (Learns-from (view_of g) (view_of h) later.grows) x w.knows;
        of = w.of;
        mine = w.mine;
        in_region = w.in_region;
        counted = w.counted;
        floored = w.floored;
        several = w.several;
      },
    );
    own = λ is. subst (λ (n : ℕ). b.row.number < n) (sym later.used) (k.own (is ∙ same));
  }

-- one who hears of another's append knows it
pub append_heard : (r : Region) (teller g h : Hold) (note : HoldNote) (b : BegunAppend) → IsHold r teller → IsHold r h
    → Tells teller note → Hears g note h → g.passes.number ≢ b.row.client → KnowsAppend r teller b → KnowsAppend r h b
append_heard r teller g h note b of of' tells hears other k =
    let x = k.knows.0 in
    let w = k.knows.1 in
    let size : (view_of teller).size ≡ (view_of h).size = of.seat.1 ∙ sym of'.seat.1 in
    let in_note : Has (view_told note).begun (row_at (view_of teller).size b.row) x =
    subst (λ l. Has l (row_at (view_of teller).size b.row) x) (sym tells.begun) w.knows in
    record {
      knows = (
        x,
        record {
          row = w.row;
          knows = subst (λ (z : Size). Has (view_of h).begun (row_at z b.row) x) size
              (hears.learns.begun (row_at (view_of teller).size b.row) x in_note);
          of = w.of;
          mine = w.mine;
          in_region = w.in_region;
          counted = w.counted;
          floored = w.floored;
          several = w.several;
        },
      );
      own = λ is. absurd (other (sym hears.number ∙ sym is));
    }

-- an append to several colours is of the same client's hold, whatever comes
fault_number : (r : Region) (g h : Hold) (x : Node) (stop : Option ℕ) (fault : MultiFault) → HoldLeaves r g h x stop fault
    → h.passes.number ≡ g.passes.number
fault_number r g h x stop (faults.Full used) l = absurd l
fault_number r g h x stop (faults.StampEnd colour) l = l.1.all.goes.number
fault_number r g h x stop (faults.Stopped steps) l = elim l.1 [
  | inl none ↦ ap (λ (k : Hold). k.passes.number) none.1
  | inr some ↦ some.1.goes.number
]
fault_number r g h x stop faults.NoMemory l = elim l [
  | inl same ↦ ap (λ (k : Hold). k.passes.number) same
  | inr gone ↦ gone.1.goes.number
]

pub several_number : (r : Region) (g h : Hold) (x : Node) (stop : Option ℕ) (answer : Result Stood MultiFault)
    → IfOk answer (HoldAppendsSeveral r g h x) → IfErr answer (HoldLeaves r g h x stop) → h.passes.number ≡ g.passes.number
several_number r g h x stop (Ok s) ok err = ok.goes.number
several_number r g h x stop (Err fault) ok err = fault_number r g h x stop fault err
