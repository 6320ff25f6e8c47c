-- What fits what is known later fits what was known, and what it says of nodes and rows.
use Rattle.std.proofs.Common.{◌≡◌, ℕ, List, Some, true, slice_get, refl, sym, subst, arith}
use Rattle.std.specs.List.{Contains}
use Rattle.std.proofs.lemmas.Option.{slice_get_within}
use mathlib.Core.List.{IsPrefix}
use Rattle.log_node.specs.declared.ids.Id.{Id}
use Rattle.log_node.specs.declared.ids.Row.{Row}
use Rattle.log_node.specs.declared.node.Node.{Node}
use Rattle.log_node.specs.declared.marks.Mark.{Mark}
use Rattle.log_node.specs.declared.marks.Outcome.{Outcome}
use Rattle.log_node.specs.Sets.{has}
use Rattle.col_core.specs.Rows.{BegunRow}
use Rattle.col_core.specs.Log.{HasText, IsBegunFor, HasMark, HasOutcome}
use Rattle.stamp_board.specs.declared.view.Size.{Size}
use Rattle.stamp_board.specs.Rows.{IsRow}
use Rattle.stamp_board.specs.Views.{KnowsBegun, KnowsMark, KnowsOutcome}
use Rattle.stamp_board.proofs.CallerLemmas.{begun_learnt, mark_learnt, outcome_learnt}
use Rattle.chain_store.specs.declared.told.Told.{Told}
use Rattle.chain_store.specs.declared.hold.Hold.{Hold}
use Rattle.chain_store.specs.Histories.{Names}
use Rattle.chain_store.specs.Holds.{seen_in, view_of}
use Rattle.chain_store.specs.Closing.{AgreesWith}
use Rattle.client_law.specs.Knowing.{Seen, Rest, log_seen}
use Rattle.lawful_run.proofs.CallerLemmas.{prefix_get}
use Rattle.log_client.specs.Fits.{FitsHold, FitsHolds, HasGoneOn, HaveGoneOn}
use Rattle.log_client.proofs.Lists.{got}

pub names_longer : (old new : List Told) (id : Id) (x : Node) → IsPrefix old new → Names old id x → Names new id x
names_longer old new id x p n = record {
  place = n.place;
  told = n.told;
  there = prefix_get old new n.place n.told p n.there;
  brought = n.brought;
  of_id = n.of_id;
}

-- a row that is as a hold knows it later is as it knew it
agrees_less : (g h : Hold) (b : BegunRow) → HasGoneOn g h → AgreesWith h b → AgreesWith g b
agrees_less g h b on a = record {
  node = λ x k. a.node x (begun_learnt (view_of g) (view_of h) b.row on.size on.learns x k);
  marks = λ c m has k. a.marks c m has (mark_learnt (view_of g) (view_of h) b.row on.size on.learns c m k);
  last = λ o k. a.last o (outcome_learnt (view_of g) (view_of h) b.row on.size on.learns o k);
}

hold_less : (nodes : ℕ → List Node) (rows : List BegunRow) (g h : Hold) → HasGoneOn g h → FitsHold nodes rows h
    → FitsHold nodes rows g
hold_less nodes rows g h on fits = record {
  named = λ colour id x n. fits.named colour id x (names_longer (seen_in g colour) (seen_in h colour) id x (on.more colour) n);
  begun = λ row x is k.
      let b = fits.begun row x (subst (λ (z : Size). IsRow z row) (sym on.size) is)
      (begun_learnt (view_of g) (view_of h) row on.size on.learns x k) in
      (b.0, b.1, b.2, b.3, agrees_less g h b.0 on b.4);
  begun_listed = λ row x is k. fits.begun_listed row x (subst (λ (z : Size). IsRow z row) (sym on.size) is)
      (begun_learnt (view_of g) (view_of h) row on.size on.learns x k);
}

pub fits_less : (gs hs : List Hold) (rest : Rest) → HaveGoneOn gs hs → FitsHolds hs rest → FitsHolds gs rest
fits_less gs hs rest on fits region g at =
    let lt = slice_get_within gs region g at in
    let many = on.0 in
    let h = got hs region (omega (arith, lt, many)) in
    hold_less rest.nodes (rest.rows region) g h.0 (on.1 region g h.0 at h.1) (fits region h.0 h.1)

-- what fits a hold, by region
module _ (hs : List Hold) (rest : Rest) (region : ℕ) (h : Hold) (at : slice_get hs region ≡ Some h) (fits : FitsHolds hs rest) where
  -- a node that is named is listed, and its text is the one that stands
  pub listed : (colour : ℕ) (id : Id) (x : Node) → Names (seen_in h colour) id x
      → slice_get (rest.nodes id.client) id.count ≡ Some x
  listed colour id x n =
      subst (λ (i : Id). slice_get (rest.nodes i.client) i.count ≡ Some x) n.of_id ((fits region h at).named colour id x n)

  pub text_named : (seen : Seen) (colour : ℕ) (id : Id) (x : Node) → Names (seen_in h colour) id x
      → HasText (log_seen seen rest) id x.text
  text_named seen colour id x n = (x, listed colour id x n, n.of_id, refl)

  -- a row that is known as begun
  module _ (seen : Seen) (row : Row) (x : Node) (is : IsRow (view_of h).size row) (k : KnowsBegun (view_of h) row x)
      (home : x.region ≡ region) where
    pub row_begun : (b : BegunRow) × IsBegunFor (log_seen seen rest) x b × AgreesWith h b × (b.row ≡ row)
    row_begun =
        let b = (fits region h at).begun row x is k in (
          b.0,
          record {
            begun = subst (λ (n : ℕ). Contains (rest.rows n) b.0) (sym home) b.1;
            of_node = b.3;
          },
          b.4,
          b.2,
        )

    pub row_listed : slice_get (rest.nodes x.id.client) x.id.count ≡ Some x
    row_listed = (fits region h at).begun_listed row x is k

    -- its mark and its outcome, where they are known
    pub mark_there : (colour : ℕ) (m : Mark) → has x.colours colour ≡ true → KnowsMark (view_of h) row colour m
        → HasMark (log_seen seen rest) x colour m
    mark_there colour m of known =
        let b = row_begun in (
          b.0,
          b.1,
          b.2.marks colour m (subst (λ (y : Node). has y.colours colour ≡ true) (sym b.1.of_node) of)
              (subst (λ (r : Row). KnowsMark (view_of h) r colour m) (sym b.3) known),
        )

    pub outcome_there : (o : Outcome) → KnowsOutcome (view_of h) row o → HasOutcome (log_seen seen rest) x o
    outcome_there o known =
        let b = row_begun in
        (b.0, b.1, b.2.last o (subst (λ (r : Row). KnowsOutcome (view_of h) r o) (sym b.3) known))
