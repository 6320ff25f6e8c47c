-- Where the nodes of appends stand, and how an append to several colours ends.
use Rattle.std.specs.Prelude.{◌≡◌, ℕ, Bool, Option, None, Some, List, [], map, length}
use Rattle.std.specs.List.{Contains}
use Rattle.log_node.specs.declared.ids.Id.{Id}
use Rattle.log_node.specs.declared.ids.Row.{Row}
use Rattle.log_node.specs.declared.node.At.{At}
use Rattle.log_node.specs.declared.node.At.TheVariants.{Event, Look}
use Rattle.log_node.specs.declared.marks.Outcome.{Outcome}
use Rattle.log_node.specs.declared.marks.Outcome.TheVariants.{Open, Gone, Final}
use Rattle.col_core.specs.History.{line}
use Rattle.world_laws.specs.Worlds.{World, home_history, next_id}
use Rattle.world_laws.specs.Laws.{IsFinal}
use Rattle.script_text.specs.declared.script.Command.{Command}
use Rattle.report_text.specs.declared.report.Answer.{Answer}
use Rattle.report_text.specs.declared.report.PointPiece.{PointPiece}
use Rattle.script_meaning.specs.States.{State, Grants, answered, position_of}
use Rattle.script_meaning.specs.Appends.{appended_by}
use Rattle.script_in_order.specs.Doing.{with_replies}
use Rattle.script_in_order.specs.Helps.{FindsNext}

-- the event at this place, if a step has added one, and else the look after so many events
abbrev pub event_or_look : Option ℕ → ℕ → At
event_or_look None events = Look events
event_or_look (Some place) events = Event place

-- where a colour's next event will stand in the client's region
abbrev pub next_point : World → ℕ → ℕ → PointPiece
next_point w client colour = record { colour = colour; at = Event (length (home_history w client colour)); position = 0 }

-- the same of each of these colours
abbrev pub places_in : World → ℕ → List ℕ → List PointPiece
places_in w client colours = map (next_point w client) colours

-- the same point with the position of the id in the line
abbrev pub standing_in : World → ℕ → Id → PointPiece → PointPiece
standing_in w client id point =
    record point { position = position_of id (line (home_history w client point.colour)) }

-- where the outcome is final, the id is final under that stamp in all these colours
abbrev pub AreFinal : World → ℕ → Id → List ℕ → Outcome → Type 0
AreFinal w client id colours Open = Unit {0}
AreFinal w client id colours (Gone why) = Unit {0}
AreFinal w client id colours (Final stamp) =
    (colour : ℕ) → Contains colours colour → IsFinal (home_history w client colour) id stamp

-- The append of a complete row, which was begun in any world where these were the next places, is answered so by its
-- outcome.
pub record EndsByOutcome (w : World) (row : Row) (id : Id) (colours : List ℕ) (outcome : Outcome) (places : List PointPiece)
    (new : World) (answer : Answer) : Type 0 where
  pub finds : List (ℕ → Bool)
  pub is : (grants : Grants) → FindsNext grants 0 finds → (before : World) → next_id before row.client ≡ id
      → places ≡ places_in before row.client colours
      → (command : Command) → command.client ≡ row.client → (told : State)
      → appended_by grants (with_replies before told) command w row colours outcome
      ≡ answered (with_replies before told) command new answer []
