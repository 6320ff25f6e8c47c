-- What an answer says of the names in a path.
use Rattle.std.proofs.Common.{◌≡◌, ◌∙◌, sym, subst, Bool, ℕ, List, Option, Some}
use Rattle.log_node.proofs.CallerLemmas.{same_some}
use Rattle.object_fold.specs.Nodes.{ObjectNode}
use Rattle.tree_fold.specs.Laws.{NamesAreOne}
use Rattle.tree_fold.specs.Paths.{Path}
use Rattle.tree_fold.specs.Readings.{path_of}
use Rattle.tree_fold.specs.Trees.{IsNamesAnswer, tree_after}
use Rattle.column_track.specs.Tracks.{Tells}
use Rattle.lawful_run.specs.Explains.{ShowsNames}
use Rattle.walk_law.proofs.CallerLemmas.{told_as}

-- it is right where it says what the tree says
pub names_told : NamesAreOne → (nodes : List ObjectNode) (text : List ℕ) (path : Path) (names found : Option (List (List ℕ)))
    → path_of text ≡ Some path → IsNamesAnswer (tree_after nodes) path found → (b : Bool) → Tells b (names ≡ found)
    → Tells b (ShowsNames text names nodes)
names_told one nodes text path names found reads answer b told =
    told_as b (names ≡ found) (ShowsNames text names nodes)
    (λ e. (path, reads, subst (IsNamesAnswer (tree_after nodes) path) (sym e) answer))
    (λ s. one (tree_after nodes) path names found
    (subst (λ (p : Path). IsNamesAnswer (tree_after nodes) p names) (same_some (sym s.1 ∙ reads)) s.2) answer) told
