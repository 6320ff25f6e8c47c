-- What is known of a begun append.
use Rattle.std.proofs.Common.{◌≡◌, ℕ, true, Some, None, sym, subst, ◌∙◌, inl, inr}
use Rattle.log_node.specs.declared.ids.Colours.{Colours}
use Rattle.log_node.specs.declared.node.Node.{Node}
use Rattle.log_node.specs.Seen.{BegunAppend}
use Rattle.log_node.specs.Sets.{has}
use Rattle.stamp_board.specs.declared.view.Size.{Size}
use Rattle.stamp_board.specs.declared.view.View.{View}
use Rattle.stamp_board.specs.Rows.{IsRow, AreColours}
use Rattle.stamp_board.specs.Views.{Learns}
use Rattle.stamp_board.proofs.CallerLemmas.{begun_learnt}
use Rattle.chain_store.specs.Histories.{FitsColumn}
use Rattle.chain_store.specs.Marks.{IsRowOf}
use Rattle.chain_store.specs.Rows.{IsBegunRow, KnowsRow}

module _ (size : Size) (region : ℕ) (begun : BegunAppend) where
  -- it is known where more is
  pub begun_later : (v w : View) → w.size ≡ v.size → Learns v w → (x : Node) → IsBegunRow size region v begun x
      → IsBegunRow size region w begun x
  begun_later v w same learns x h = record {
    row = h.row;
    knows = begun_learnt v w begun.row same learns x h.knows;
    of = h.of;
    mine = h.mine;
    in_region = h.in_region;
    counted = h.counted;
    floored = h.floored;
    several = h.several;
  }

  -- its row is known as that of its node
  pub begun_row : (v : View) → v.size ≡ size → (x : Node) → IsBegunRow size region v begun x → IsRowOf v begun.row x
  begun_row v same x h = record {
    of_row = h.of.row;
    mine = h.mine;
    inside = subst (λ (k : Size). IsRow k begun.row) (sym same) h.row;
    knows = h.knows;
    several = subst (λ (k : Size). AreColours k x.colours) (sym same) h.several;
  }

  -- a column of one of its colours may take its node
  pub begun_fits : (v : View) (colour : ℕ) (x : Node) → IsBegunRow size region v begun x
      → has begun.colours colour ≡ true → FitsColumn region colour x
  begun_fits v colour x h coloured = record {
    in_region = h.in_region;
    coloured = subst (λ (s : Colours). has s colour ≡ true) h.of.colours coloured;
    counted = h.counted;
    floored = h.floored;
  }

  -- the node that it has is its node
  pub begun_at : (v : View) (y : Node) → KnowsRow size region v begun → begun.node ≡ Some y
      → IsBegunRow size region v begun y
  begun_at v y h is =
      subst (λ (x : Node). IsBegunRow size region v begun x)
      (elim h.1.of.node_is [
        | inl none ↦ absurd (let f : None ≡ Some y = sym none ∙ is in let g : ⊥ = cc in g)
        | inr some ↦ (let f : Some h.0 ≡ Some y = sym some ∙ is in let g : h.0 ≡ y = cc in g)
      ])
      h.1
