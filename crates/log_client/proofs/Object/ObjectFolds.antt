-- Folds of what a client has played stay right while it goes on.
use Rattle.std.proofs.Common.{◌≡◌, ℕ, List, [], take, sym, subst, arith}
use mathlib.Core.List.{IsPrefix}
use Rattle.log_node.specs.Seen.{PlacedNode}
use Rattle.object_fold.specs.Nodes.{ObjectNode, object_nodes}
use Rattle.object_fold.specs.Folds.{FoldsFirst}
use Rattle.lawful_run.proofs.CallerLemmas.{prefix_length, prefix_take}
use Rattle.log_client.specs.declared.client.Client.{Client}
use Rattle.log_client.specs.Clients.{own_line}
use Rattle.log_client.specs.Growing.{HasGrown}
use Rattle.log_client.specs.Objects.{FoldsLine}

-- the fold of no node
pub folds_none : (line : List PlacedNode) (count : ℕ) (Folds : List ObjectNode → Type 0) → count ≡ 0 → Folds []
    → FoldsFirst line count Folds
folds_none line count Folds none empty = (
  omega (arith, none),
  subst (λ (n : ℕ). Folds (object_nodes (take n line))) (sym none) empty,
)

-- a line that goes on
pub folds_on : (old new : List PlacedNode) (count : ℕ) (Folds : List ObjectNode → Type 0) → IsPrefix old new
    → FoldsFirst old count Folds → FoldsFirst new count Folds
folds_on old new count Folds p f =
    let within = f.0 in
    let long = prefix_length old new p in (
      omega (arith, within, long),
      subst (λ (nodes : List PlacedNode). Folds (object_nodes nodes)) (sym (prefix_take old new count p within)) f.1,
    )

-- a client that goes on
pub follows_later : (c d : Client) (colour count : ℕ) (Folds : List ObjectNode → Type 0) → HasGrown c d
    → FoldsLine c colour count Folds → FoldsLine d colour count Folds
follows_later c d colour count Folds grown f = folds_on (own_line c colour) (own_line d colour) count Folds (grown colour).1 f
