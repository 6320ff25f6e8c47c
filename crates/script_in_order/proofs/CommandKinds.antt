-- Commands, by what they ask for.
use Rattle.std.proofs.Common.{◌≡◌, ℕ, Bool, List, [], Result, Ok, Err, Option, Some, None, refl, ap, sym, subst, ◌∙◌}
use Rattle.std.specs.Prelude.{IfOk, if◌then◌else◌}
use Rattle.std.specs.declared.alloc.AllocError.{AllocError}
use Rattle.log_node.specs.Seen.{PlacedNode}
use Rattle.world_laws.specs.Worlds.{World}
use Rattle.script_text.specs.declared.script.Object.{Object}
use Rattle.script_text.specs.declared.commands.What.{What}
use Rattle.script_text.specs.declared.script.Command.{Command}
use Rattle.script_text.specs.declared.commands.What.{What}
use Rattle.report_text.specs.declared.report.Answer.{Answer}
use Rattle.report_text.specs.declared.report.Answer.TheVariants as answers
use Rattle.script_meaning.specs.States.{State, Grants, all_granted, answered}
use Rattle.script_meaning.specs.Objects.{caller_in, refusing_home}
use Rattle.script_meaning.specs.Meaning.{done_one, done_from}
use Rattle.script_in_order.specs.Doing.{DoneBy, Does, DoesAtHome, with_replies}

-- what a command does that asks for this, and that no home refuses
module _ (objects : List Object) (command : Command) {what : What} (asks : command.what ≡ what) where
  pub does_what : {w new : World} {answer : Answer} {nodes : List PlacedNode}
      → DoneBy (λ grants state. done_one objects grants state command what) command w new answer nodes
      → DoesAtHome objects command w new answer nodes
  does_what {w} {new} {answer} {nodes} d =
      subst (λ (x : What). DoneBy (λ grants state. done_one objects grants state command x) command w new answer nodes)
      (sym asks) d

  pub all_do : (r : Result Answer AllocError) (w new : World) (nodes : List PlacedNode)
      → IfOk r (λ answer. DoneBy (λ grants state. done_one objects grants state command what) command w new answer nodes)
      → IfOk r (λ answer. DoesAtHome objects command w new answer nodes)
  all_do (Ok answer) w new nodes d = does_what d
  all_do (Err e) w new nodes d = tt

-- what shows no nodes
pub shows_none : (objects : List Object) (command : Command) (w new : World) (r : Result Answer AllocError)
    (nodes : List PlacedNode) → nodes ≡ [] → IfOk r (λ answer. DoesAtHome objects command w new answer [])
    → IfOk r (λ answer. DoesAtHome objects command w new answer nodes)
shows_none objects command w new r nodes none d =
    subst (λ (l : List PlacedNode). IfOk r (λ answer. DoesAtHome objects command w new answer l)) (sym none) d

-- a command that no home refuses
pub does_at_home : (objects : List Object) (command : Command) (w new : World) (answer : Answer)
    (nodes : List PlacedNode) → refusing_home (caller_in w objects command.client) command.what ≡ None
    → DoesAtHome objects command w new answer nodes → Does objects command w new answer nodes
does_at_home objects command w new answer nodes near d = record {
  grants = d.grants;
  begun = d.begun;
  is = λ replies.
      let state = with_replies w replies in
      ap (λ (b : Bool). if b then done_from (refusing_home (caller_in w objects command.client) command.what) objects
      d.grants state command
      else answered state command state.world answers.NoMemory []) d.begun
      ∙ (ap (λ (home : Option ℕ). done_from home objects d.grants state command) near ∙ d.is replies);
}

-- a command that a home refuses
pub does_not_at_home : (objects : List Object) (command : Command) (w : World) (home : ℕ)
    → refusing_home (caller_in w objects command.client) command.what ≡ Some home
    → Does objects command w w (answers.NotHome home) []
does_not_at_home objects command w home away = record {
  grants = all_granted;
  begun = refl;
  is = λ replies. ap (λ (h : Option ℕ). done_from h objects all_granted (with_replies w replies) command) away;
}

pub with_nodes : (command : Command) (meaning : Grants → State → State) (w new : World) (answer : Answer)
    (nodes : List PlacedNode) → nodes ≡ [] → DoneBy meaning command w new answer [] → DoneBy meaning command w new
    answer nodes
with_nodes command meaning w new answer nodes none d =
    subst (λ (l : List PlacedNode). DoneBy meaning command w new answer l) (sym none) d
