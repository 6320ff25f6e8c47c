-- The commands of no object.
use Rattle.std.proofs.Common.{◌≡◌, ℕ, List, refl}
use Rattle.log_node.specs.declared.ids.Colours.{Colours}
use Rattle.script_text.specs.declared.commands.What.{What}
use Rattle.script_text.specs.declared.commands.What.TheVariants as whats
use Rattle.script_text.specs.Commands.{use_of}
use Rattle.run_picture.specs.Labels.{IsOfLog}

-- there is no other
pub log_commands : (what : What) → IsOfLog (use_of what) → ((c : Colours) (t : List ℕ) → what ≡ whats.Append c t → ⊥)
    → ((n : ℕ) (c : Colours) (t : List ℕ) → what ≡ whats.Stop n c t → ⊥) → ((c : Colours) → what ≡ whats.Scan c → ⊥)
    → ((c : ℕ) → what ≡ whats.Sync c → ⊥) → ((c : ℕ) → what ≡ whats.Trim c → ⊥)
    → ((r c : ℕ) → what ≡ whats.Pull r c → ⊥) → ((c : ℕ) (t : List ℕ) → what ≡ whats.Only c t → ⊥) → ⊥
log_commands (whats.Append colours text) of append stop scan sync trim pull only = append colours text refl
log_commands (whats.Stop steps colours text) of append stop scan sync trim pull only = stop steps colours text refl
log_commands (whats.Scan colours) of append stop scan sync trim pull only = scan colours refl
log_commands (whats.Sync colour) of append stop scan sync trim pull only = sync colour refl
log_commands (whats.Trim colour) of append stop scan sync trim pull only = trim colour refl
log_commands (whats.Pull region colour) of append stop scan sync trim pull only = pull region colour refl
log_commands (whats.Only colour text) of append stop scan sync trim pull only = only colour text refl
log_commands _ of append stop scan sync trim pull only = of
