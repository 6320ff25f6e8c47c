-- The outcome that a row keeps is that of the marks that a seat knows.
use Rattle.std.proofs.Common.{◌≡◌, ◌≢◌, ℕ, List, [], ◌∷◌, map, refl, ap, sym, ◌∙◌, inl, inr}
use Rattle.std.specs.List.{range_with_len}
use Rattle.log_node.specs.declared.limits.TheConstants.{MAX_COLOURS}
use Rattle.log_node.specs.declared.ids.Row.{Row}
use Rattle.log_node.specs.declared.node.Node.{Node}
use Rattle.log_node.specs.declared.marks.Mark.{Mark}
use Rattle.log_node.specs.declared.marks.Outcome.{Outcome}
use Rattle.log_node.specs.declared.marks.Outcome.TheVariants.{Open}
use Rattle.log_node.specs.Outcomes.{outcome_of}
use Rattle.log_node.specs.Sets.{has, members}
use Rattle.col_core.proofs.CallerLemmas.{In, in_filter}
use Rattle.stamp_board.specs.declared.view.Size.{Size}
use Rattle.stamp_board.specs.declared.view.View.{View}
use Rattle.stamp_board.specs.Rows.{mark_in, decided_in}
use Rattle.stamp_board.specs.Views.{Grows, KnowsBegun, Possibly}
use Rattle.stamp_board.proofs.CallerLemmas.{Learns-from, begun_learnt, mark_learnt}
use Rattle.chain_store.specs.Beginning.{KnowsMarks}
use Rattle.chain_store.proofs.Outcomes.{decided_of_marks}

map_same : (f g : ℕ → Mark) (cs : List ℕ) → ((c : ℕ) → In c cs → f c ≡ g c) → map f cs ≡ map g cs
map_same f g [] same = refl
map_same f g (c ∷ cs) same = λ i. same c (inl refl) i ∷ map_same f g cs (λ d j. same d (inr j)) i

module _ (k : Size) (v w : View) (row : Row) (o : Outcome) (grows : Grows v w) (shut : o ≢ Open)
    (possibly : Possibly k w (λ (ws : List ℕ). decided_in k ws row ≡ o)) (x : Node) (begun : KnowsBegun v row x) where
  -- the outcome of the row is that of the marks that were known, if they are all
  pub decided_as : (mark : ℕ → Mark) → KnowsMarks v row x mark → o ≡ outcome_of (map mark (members x.colours))
  decided_as mark knows =
      let ws = possibly.0 in
      let learns = Learns-from v w grows in
      let of_marks = decided_of_marks k ws w possibly.1 row x (begun_learnt v w row grows.size learns x begun) o shut possibly.2 in
      let each : map (λ (c : ℕ). mark_in k ws row c) (members x.colours) ≡ map mark (members x.colours) =
      map_same (λ (c : ℕ). mark_in k ws row c) mark (members x.colours)
      (λ c i. possibly.1.marks row c (mark c)
      (mark_learnt v w row grows.size learns c (mark c)
      (knows c (in_filter (has x.colours) c (range_with_len 0 MAX_COLOURS) i).1))) in
      sym of_marks ∙ ap outcome_of each
