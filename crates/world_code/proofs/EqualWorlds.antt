-- Worlds of equal parts are equal.
use Rattle.std.proofs.Common.{◌≡◌, ℕ, List, ap, ◌∙◌}
use Rattle.log_node.specs.declared.node.Node.{Node}
use Rattle.log_node.specs.declared.node.Shape.{Shape}
use Rattle.col_core.specs.declared.Entry.{Entry}
use Rattle.world_laws.specs.Worlds.{World, ClientState, RowState}

abbrev pub world_with : Shape → (ℕ → ClientState) → (ℕ → ℕ → RowState) → (ℕ → ℕ → List Entry) → (ℕ → List Node) → World
world_with shape clients rows histories nodes = record {
  shape = shape;
  clients = clients;
  rows = rows;
  histories = histories;
  nodes = nodes;
}

pub worlds : (shape : Shape) (hs hs' : ℕ → ℕ → List Entry) {cs cs' : ℕ → ClientState} {rs rs' : ℕ → ℕ → RowState}
    {ns ns' : ℕ → List Node}
    → cs ≡ cs' → rs ≡ rs' → hs ≡ hs' → ns ≡ ns' → world_with shape cs rs hs ns ≡ world_with shape cs' rs' hs' ns'
worlds shape hs hs' {cs} {cs'} {rs} {rs'} {ns} {ns'} p q r s =
    ap (λ (x : ℕ → ClientState). world_with shape x rs hs ns) p
    ∙ (ap (λ (x : ℕ → ℕ → RowState). world_with shape cs' x hs ns) q
    ∙ (ap (λ (x : ℕ → ℕ → List Entry). world_with shape cs' rs' x ns) r
    ∙ ap (λ (x : ℕ → List Node). world_with shape cs' rs' hs' x) s))
