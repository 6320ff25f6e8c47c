-- The changes of trees that commands ask for.
use Rattle.std.specs.Prelude.{◌≡◌, ℕ, List, Option, Some}
use Rattle.log_node.specs.declared.forms.Version.{Version}
use Rattle.tree_fold.specs.declared.change.Change.{Change}
use Rattle.tree_fold.specs.Changes.{IsChange}
use Rattle.script_text.specs.declared.script.Kind.{Kind}
use Rattle.script_text.specs.declared.commands.What.{What}
use Rattle.script_text.specs.declared.uses.ReadUse.TheVariants.{Leaves}
use Rattle.script_text.specs.declared.uses.Use.TheVariants.{OfObject}
use Rattle.script_text.specs.Commands.{use_of}
use Rattle.lawful_run.specs.Asks.{Committing}
use Rattle.lawful_run.specs.Deeds.{Whole, deed_of, saying_of, says_change}

-- the command asks for this change of an object, which may be, and what it says is this change
pub record AsksChange (what : What) (change : Change) : Type 0 where
  pub object : ℕ
  pub uses : use_of what ≡ OfObject object Leaves
  pub deed : deed_of what ≡ record { manner = Committing; syncs = Whole }
  pub says : (kind : Option Kind) (found : Option (List Version)) → saying_of kind found what ≡ says_change (Some change)
  pub may_be : IsChange change
