use Rattle.std.proofs.Common.{◌≡◌, ◌≤◌, ◌<◌, ◌+◌, ◌-◌, List, Some, length, ap, sym, subst, ◌∙◌, arith}
use Rattle.std.specs.Prelude.{slice_get, slice_index_or}
use Rattle.std.proofs.lemmas.Option.{slice_get-get_or}
use Rattle.log_node.specs.declared.ids.Key.{Key}
use Rattle.log_node.specs.Vectors.{at}
use Rattle.log_node.specs.Standings.{line_of}
use Rattle.col_core.specs.History.{line}
use Rattle.column.specs.Entering.{EnteredNode}
use Rattle.column.specs.Columns.{ColumnState, base_of, chains_of, HasStored}
use Rattle.column.proofs.Items.{own_entry, kept_length}
use Rattle.column.proofs.Moving.{line_is}
use Rattle.column.proofs.contents.Contents.own_entered.Goals as goal

pub overflow_sub-result : goal.overflow_sub-result
overflow_sub-result c =
    let a = c.kept-base.ensures.base in
    let b = c.self.invariant.column_is.dropped in
    let d = subst (λ (q : ColumnState). at (base_of q) q.region ≤ c.args.place) (sym c.self.view_is) c.requires.base in
    omega (arith, a, b, d)

pub bounds-things-place : goal.bounds-things-place
bounds-things-place c =
    let i = c.self.inside in
    let old : ColumnState = record {
      region = i.region;
      colour = i.colour;
      regions = i.regions;
      journal = i.journal.items;
      queue = i.queue;
      copies = i.copies;
    } in
    let a = kept_length old c.self.invariant.column_is c.kept-base.ensures.keys in
    let b = c.kept-base.ensures.base in
    let d = ap length c.kept-base.ensures.things in
    let e = subst (λ (q : ColumnState). c.args.place < length (line q.journal)) (sym c.self.view_is) c.requires.end in
    let f = ap length (line_is old c.self.invariant.column_is) in
    let g = c.self.invariant.column_is.dropped in
    let j = subst (λ (q : ColumnState). at (base_of q) q.region ≤ c.args.place) (sym c.self.view_is) c.requires.base in
    omega (arith, a, b, d, e, f, g, j)

abbrev old_of : goal.After-index-things-place → ColumnState
old_of c =
    let i = c.self.inside in
    record {
      region = i.region;
      colour = i.colour;
      regions = i.regions;
      journal = i.journal.items;
      queue = i.queue;
      copies = i.copies;
    }

-- the key that is answered
abbrev key_of : goal.After-index-things-place → Key
key_of c = slice_index_or c.line-keys.result.now c.args.place (record { stamp = 0; id = record { client = 0; count = 0 } })

in_line : (c : goal.After-index-things-place) → c.args.place < length (line_of (old_of c).queue.entries)
in_line c =
    let e = subst (λ (q : ColumnState). c.args.place < length (line q.journal)) (sym c.self.view_is) c.requires.end in
    let f = ap length (line_is (old_of c) c.self.invariant.column_is) in
    omega (arith, e, f)

stands : (c : goal.After-index-things-place) → slice_get (line_of (old_of c).queue.entries) c.args.place ≡ Some (key_of c)
stands c =
    let g = ap length c.line-keys.ensures in
    ap (λ (ks : List Key). slice_get ks c.args.place) (sym c.line-keys.ensures)
    ∙ slice_get-get_or c.line-keys.result.now c.args.place _ (let h = in_line c in omega (arith, g, h))

entry : (c : goal.After-index-things-place) → HasStored (old_of c) (key_of c) c.index-things-place.result.node
    × (slice_get (chains_of (old_of c) (old_of c).region) c.args.place
    ≡ Some (record { key = key_of c; needs = c.index-things-place.result.needs }))
entry c =
    let k = c.args.place - c.kept-base.result.0 in
    let here : k + c.self.inside.queue.base ≡ c.args.place =
    let a = c.kept-base.ensures.base in
    let b = c.self.invariant.column_is.dropped in
    let d = subst (λ (q : ColumnState). at (base_of q) q.region ≤ c.args.place) (sym c.self.view_is) c.requires.base in
    omega (arith, a, b, d) in
    let inside : k < length c.kept-base.result.1.now =
    let a = kept_length (old_of c) c.self.invariant.column_is c.kept-base.ensures.keys in
    let b = ap length c.kept-base.ensures.things in
    let d = in_line c in omega (arith, a, b, d, here) in
    own_entry (old_of c) c.self.invariant.column_is c.kept-base.ensures.keys c.args.place k (key_of c)
    c.index-things-place.result here (stands c)
    (ap (λ (ts : List EnteredNode). slice_get ts k) (sym c.kept-base.ensures.things)
    ∙ (slice_get-get_or c.kept-base.result.1.now k c.index-things-place.result inside
    ∙ ap (λ (thing : EnteredNode). Some thing) (sym c.index-things-place.is)))

pub returns-clause-key : goal.returns-clause-key
returns-clause-key c =
    subst (λ (q : ColumnState). slice_get (line q.journal) c.args.place ≡ Some (key_of c)) c.self.view_is
    (ap (λ (ks : List Key). slice_get ks c.args.place) ((line_is (old_of c) c.self.invariant.column_is)) ∙ stands c)

pub returns-clause-node : goal.returns-clause-node
returns-clause-node c =
    subst (λ (q : ColumnState). HasStored q (key_of c) c.index-things-place.result.node) c.self.view_is (entry c).0

pub returns-clause-head : goal.returns-clause-head
returns-clause-head c =
    subst (λ (q : ColumnState). slice_get (chains_of q q.region) c.args.place
    ≡ Some (record { key = key_of c; needs = c.index-things-place.result.needs })) c.self.view_is (entry c).1
