use Rattle.std.proofs.Common.{◌≡◌, ℕ, min, max, length, ap, sym, subst, ◌∙◌, arith}
use Rattle.log_node.specs.declared.ids.Counts.{Counts}
use Rattle.log_node.specs.Vectors.{at}
use Rattle.col_core.specs.History.{line}
use Rattle.column.specs.Columns.{ColumnState, held_of, base_of, AreItems, IsGiven}
use Rattle.column.proofs.Moving.{own_held}
use Rattle.column.proofs.column.Column.give.Goals as goal

pub stretch-requires-clause-held : goal.stretch-requires-clause-held
stretch-requires-clause-held c =
    let k = c.self.inside.contents in
    let a = ap length c.line.ensures in
    let b = own_held k c.agrees.ensures in
    let d = ap (held_of k) c.own_region-own.ensures in
    omega (arith, a, b, d)

pub returns-clause-given : goal.returns-clause-given
returns-clause-given c =
    let k = c.self.inside.contents in
    let own = c.own_region-own.ensures in
    let end : length c.line.result.now ≡ length (line k.journal) = ap length c.line.ensures in
    let base : c.of_region.result ≡ at (base_of k) k.region =
    c.of_region.ensures ∙ (ap (λ (v : Counts). at v c.own_region-own.result) c.base.ensures ∙ ap (at (base_of k)) own) in
    subst (λ (q : ColumnState). IsGiven q c.args.from (record { start = c.max-start.result; items = c.in_ok-items.items }))
    c.self.view_is (record {
      start = c.max-start.ensures
          ∙ (ap (λ (n : ℕ). max n c.of_region.result) (c.min.ensures ∙ ap (min c.args.from) end)
          ∙ ap (max (min c.args.from (length (line k.journal)))) base);
      items = subst (λ (n : ℕ). AreItems k k.region c.max-start.result n c.in_ok-items.items) end
          (subst (λ (r : ℕ). AreItems k r c.max-start.result (length c.line.result.now) c.in_ok-items.items) own
          c.in_ok-items.ensures);
    })
