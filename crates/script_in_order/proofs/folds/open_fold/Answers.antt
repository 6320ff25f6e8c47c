use Rattle.std.proofs.Common.{◌≡◌, ◌<◌, ◌⊎◌, inl, inr, ℕ, List, true, ap, subst, arith}
use Rattle.log_node.specs.declared.node.Shape.{Shape}
use Rattle.script_text.specs.declared.script.Kind.{Kind}
use Rattle.script_text.specs.declared.script.Kind.TheVariants as kinds
use Rattle.script_text.specs.Fitting.{IsKindWithin, is_tx}
use Rattle.script_meaning.proofs.CallerLemmas.{kind_colours}
use Rattle.script_in_order.proofs.folds.open_fold.Goals as goal

pub returns-in_ok-open_shards-in-Map : goal.returns-in_ok-open_shards-in-Map
returns-in_ok-open_shards-in-Map c = λ w same. (
  c.in-Map._home,
  c.in-Map.colours,
  c.in-Map.is,
  c.in_ok-open_shards-in-Map.ensures w c.in-Map._home (ap (λ (s : Shape). s.colours) same),
)

pub returns-in_ok-open_causal-in-Causal : goal.returns-in_ok-open_causal-in-Causal
returns-in_ok-open_causal-in-Causal c = λ w same. (
  c.in-Causal._colour,
  c.in-Causal.is,
  c.in_ok-open_causal-in-Causal.ensures w c.in-Causal._colour (ap (λ (s : Shape). s.regions) same)
      (let within : c.in-Causal._colour < c.args.shape.now.colours =
      subst (IsKindWithin c.args.shape.now.regions c.args.shape.now.colours) c.in-Causal.is c.requires.within in
      let few = c.requires.few in omega (arith, within, few)),
)

-- such a kind is a transactional map's
is_one : (kind : Kind)
    → ((home : ℕ) × (colours : List ℕ) × (kind ≡ kinds.Tx home colours))
    ⊎ ((home : ℕ) × (colours : List ℕ) × (kind ≡ kinds.Parts home colours))
    → is_tx kind ≡ true
is_one kind (inl at) = ap is_tx at.2
is_one kind (inr at) = ap is_tx at.2

pub returns-in_ok-open-in-Tx : goal.returns-in_ok-open-in-Tx
returns-in_ok-open-in-Tx c = λ w same. (is_one c.args.kind.now c.in-Tx.is, c.in_ok-open-in-Tx.ensures w)

pub returns-in-Tree : goal.returns-in-Tree
returns-in-Tree c = λ w same. (c.in-Tree._home, c.in-Tree._colours, c.in-Tree.is, c.open.ensures.folded w)

pub open-requires-in-Tx : goal.open-requires-in-Tx
open-requires-in-Tx c =
    (kind_colours c.args.shape.now.regions c.args.shape.now.colours c.args.kind.now c.requires.within).few
