use Rattle.std.proofs.Common.{ℕ, refl, ap, sym, subst, ◌∙◌, ◌≡◌, ◌≤◌, arith, false, ◌+◌}
use Rattle.std.specs.Prelude.{slice_index}
use Rattle.std.proofs.lemmas.List.{length-set}
use Rattle.log_node.specs.declared.node.Node.{Node}
use Rattle.col_core.specs.History.{has_entered}
use Rattle.col_core.proofs.CallerLemmas.{same_id-true}
use Rattle.column.specs.Columns.{ColumnState, with_room, after_single}
use Rattle.chain_store.specs.Columns.{single_told}
use Rattle.chain_store.proofs.CallerLemmas.{fresh, single_entered, entered_below}
use Rattle.bench.proofs.columns.locked.Locked.single.Goals as goal

pub single-requires-clause-fresh : goal.single-requires-clause-fresh
single-requires-clause-fresh c =
    let x = c.args.node.now.value in
    let e = c.args.self.now.entered in
    let h = c.args.self.now.column.journal in
    let no = c.if-count-self.false in
    let low : slice_index e c.args.by ≤ c.args.count = omega (arith, no) in
    let below : slice_index e x.id.client ≤ x.id.count =
    subst (λ (k : ℕ). slice_index e k ≤ x.id.count) (sym c.requires.node.client_is)
    (subst (λ (n : ℕ). slice_index e c.args.by ≤ n) (sym c.requires.node.count_is) low) in
    subst (λ (y : Node). has_entered y.id h ≡ false) (sym c.in-Ok.ensures.cases)
    (fresh h e x.id c.args.self.now.above below)

pub invariant_of-self : goal.invariant_of-self
invariant_of-self c =
    let x = c.args.node.now.value in
    let s = c.args.self.now in
    let told = single_told s.column c.args.by x in
    let same = c.in-Ok-single.ensures.entry ∙ ap (after_single (with_room s.column) c.args.by) c.in-Ok.ensures.cases in
    let no = c.if-count-self.false in
    record {
      region = ap (λ (q : ColumnState). q.region) same ∙ s.region;
      colour = ap (λ (q : ColumnState). q.colour) same ∙ s.colour;
      all = length-set s.entered c.args.by (c.args.count + 1) ∙ s.all;
      above = entered_below s.column c.single.new.self told x refl
          (single_entered s.column c.single.new.self c.args.by x same) s.entered c.args.by c.args.count s.above
          (let long = s.all in let few = c.requires.by in omega (arith, long, few)) (omega (arith, no))
          (λ other is. same_id-true other x.id is) c.requires.node.client_is c.requires.node.count_is;
    }
