use Rattle.std.proofs.Common.{◌≡◌, ◌∙◌, ◌<◌, [], ◌∷◌, List, Some, ap, sym, subst, ℕ, length, map}
use Rattle.std.specs.List.{All, Contains}
use Rattle.log_node.specs.Sets.{members}
use Rattle.log_node.specs.declared.node.Shape.{Shape}
use Rattle.report_text.specs.declared.report.PointPiece.{PointPiece}
use Rattle.log_node.specs.declared.marks.Outcome.{Outcome}
use Rattle.world_laws.specs.declared.steps.Step.TheVariants.{Seen}
use Rattle.world_laws.specs.Laws.{LogGrows, IsFinal}
use Rattle.log_node.specs.declared.ids.Id.{Id}
use Rattle.log_node.specs.declared.ids.Row.{Row}
use Rattle.log_node.specs.declared.marks.Why.{Why}
use Rattle.log_node.specs.declared.marks.Why.TheVariants.{Memory, StampEnd}
use Rattle.log_node.specs.declared.marks.Outcome.TheVariants.{Gone, Final}
use Rattle.std.specs.List.{fold}
use Rattle.col_core.specs.History.{entry_key}
use Rattle.report_text.specs.declared.report.Answer.TheVariants as answers
use Rattle.world_laws.specs.Worlds.{World, home_history, run_steps, after}
use Rattle.script_meaning.specs.Helping.{cleared}
use Rattle.script_meaning.specs.Appends.{ended_colour}
use Rattle.script_in_order.specs.Helps.{HelpsLead}
use Rattle.world_laws.proofs.CallerLemmas.{of_reached}
use Rattle.world_code.specs.WorldView.{world_of}
use Rattle.script_in_order.specs.Points.{AreFinal, EndsByOutcome, standing_in}
use Rattle.script_in_order.proofs.Finals.{final_later, run_shape}
use Rattle.script_in_order.proofs.ListsChanged.{all_placed, all_there}
use Rattle.script_in_order.proofs.AppendsAndStops.{ends_memory, ends_stamps, ends_final}
use Rattle.script_in_order.proofs.appends.end.Goals as goal

pub unreachable-requires : goal.unreachable-requires
unreachable-requires c = c.requires.decided c.in-Open.is

pub clear_all-requires-clause-by : goal.clear_all-requires-clause-by
clear_all-requires-clause-by c =
    subst (λ (s : Shape). c.args.row.client < length s.homes)
    (sym (run_shape (world_of c.args.world.now) (world_of c.see.new.self) (Seen c.args.row.client c.in-Final.stamp
    ∷ [])
    (sym c.see.ensures))) c.requires.caller

pub clear_all-requires-clause-colours : goal.clear_all-requires-clause-colours
clear_all-requires-clause-colours c =
    subst (λ (s : Shape). All (λ k. k < s.colours) (members c.args.colours))
    (sym (run_shape (world_of c.args.world.now) (world_of c.see.new.self) (Seen c.args.row.client c.in-Final.stamp
    ∷ [])
    (sym c.see.ensures))) c.requires.within

final_at : (w : World) (client : ℕ) (id : Id) (colours : List ℕ) (outcome : Outcome) (stamp : ℕ) → outcome ≡ Final stamp
    → AreFinal w client id colours outcome → (colour : ℕ) → Contains colours colour
    → IsFinal (home_history w client colour) id stamp
final_at w client id colours outcome stamp is all =
    let a : AreFinal w client id colours (Final stamp) = subst (AreFinal w client id colours) is all in a

pub with_positions-requires : goal.with_positions-requires
with_positions-requires c =
    let w = world_of c.args.world.now in
    let new = world_of c.clear_all.new.world in
    let client = c.args.row.client in
    let seen = sym c.see.ensures in
    let helps = c.clear_all.ensures.helps in
    let shape = c.clear_all.ensures.shape
    ∙ run_shape w (world_of c.see.new.self) (Seen client c.in-Final.stamp ∷ []) seen in
    let run : run_steps w (Seen client c.in-Final.stamp ∷ helps.steps) ≡ new =
    ap (λ (x : World). run_steps x helps.steps) seen ∙ helps.run in
    let over = λ (P : ℕ → Type 0) (a : All P (members c.args.colours)).
    all_placed P c.args.places.items (subst (λ (l : List ℕ). All P l) (sym c.requires.placed) a) in record {
      client = subst (λ (s : Shape). client < length s.homes) (sym shape) c.requires.caller;
      within = over (λ k. k < c.clear_all.new.world.shape.colours)
          (subst (λ (s : Shape). All (λ k. k < s.colours) (members c.args.colours)) (sym shape) c.requires.within);
      stamped = over (λ k. IsFinal (home_history new client k) c.args.id c.in-Final.stamp)
          (all_there (λ k. IsFinal (home_history new client k) c.args.id c.in-Final.stamp) (members c.args.colours)
          (λ colour i. final_later w new (Seen client c.in-Final.stamp ∷ helps.steps) c.agrees.ensures
          (of_reached LogGrows c.log_only_grows.ensures.log w c.agrees.ensures) run client colour c.in-Final.stamp
          c.args.id
          (final_at w client c.args.id (members c.args.colours) c.args.outcome c.in-Final.stamp c.in-Final.is
          c.requires.stamped
          colour i)));
    }

as_gone : (w : World) (row : Row) (id : Id) (colours : List ℕ) (places : List PointPiece) (outcome : Outcome)
    (why : Why)
    (colour : ℕ) → outcome ≡ Gone why → why ≡ StampEnd → colour ≡ ended_colour w row colours
    → EndsByOutcome w row id colours outcome places w (answers.StampEnd colour)
as_gone w row id colours places outcome why colour is reason e =
    subst (λ (o : Outcome). EndsByOutcome w row id colours o places w (answers.StampEnd colour)) (sym (is ∙ ap Gone reason))
    (ends_stamps w row id colours places colour e)

pub returns-in-Gone-StampEnd : goal.returns-in-Gone-StampEnd
returns-in-Gone-StampEnd c =
    let why : c.in-Gone-StampEnd.field-0 ≡ StampEnd = rw c.in-Gone-StampEnd.is at c.in-Gone-StampEnd.field-0-is in
    as_gone (world_of c.args.world.now) c.args.row c.args.id (members c.args.colours) c.args.places.items c.args.outcome
    c.in-Gone-StampEnd.field-0 c.ended_colour.result c.in-Gone-StampEnd.is why c.ended_colour.ensures

as_final : (w w2 new : World) (row : Row) (id : Id) (colours : List ℕ) (stamp : ℕ) (places points : List PointPiece)
    (outcome : Outcome) → outcome ≡ Final stamp
    → w2 ≡ after w (Seen row.client stamp)
    → HelpsLead (λ grants h. fold (cleared grants row.client (entry_key stamp id)) h colours) w2 new
    → points ≡ map (standing_in new row.client id) places
    → EndsByOutcome w row id colours outcome places new (answers.Stood stamp (Some row.number) points)
as_final w w2 new row id colours stamp places points outcome is seen helps e =
    subst (λ (o : Outcome). EndsByOutcome w row id colours o places new (answers.Stood stamp (Some row.number) points))
    (sym is)
    (ends_final w w2 new row id colours stamp places points seen helps e)

pub returns : goal.returns
returns c =
    as_final (world_of c.args.world.now) (world_of c.see.new.self) (world_of c.clear_all.new.world) c.args.row
    c.args.id
    (members c.args.colours) c.in-Final.stamp c.args.places.items c.with_positions.result c.args.outcome c.in-Final.is
    c.see.ensures c.clear_all.ensures.helps c.with_positions.ensures

as_memory : (w : World) (row : Row) (id : Id) (colours : List ℕ) (places : List PointPiece) (outcome : Outcome) (why : Why)
    → outcome ≡ Gone why → why ≡ Memory → EndsByOutcome w row id colours outcome places w answers.NoMemory
as_memory w row id colours places outcome why is reason =
    subst (λ (o : Outcome). EndsByOutcome w row id colours o places w answers.NoMemory) (sym (is ∙ ap Gone reason))
    (ends_memory w row id colours places)

pub returns-in-Gone-Memory : goal.returns-in-Gone-Memory
returns-in-Gone-Memory c =
    let why : c.in-Gone-Memory.field-0 ≡ Memory = rw c.in-Gone-Memory.is at c.in-Gone-Memory.field-0-is in
    as_memory (world_of c.args.world.now) c.args.row c.args.id (members c.args.colours) c.args.places.items c.args.outcome
    c.in-Gone-Memory.field-0 c.in-Gone-Memory.is why
