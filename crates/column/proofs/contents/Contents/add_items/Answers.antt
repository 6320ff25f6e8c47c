use Rattle.std.proofs.Common.{◌≡◌, ◌≢◌, ◌+◌, ◌<◌, ℕ, List, [], ◌∷◌, ◌++◌, length, ap, sym, subst, ◌∙◌, arith}
use Rattle.std.specs.Prelude.{◌==◌, map, slice_set, if◌then◌else◌}
use Rattle.std.specs.Vec.{vec_capacity}
use Rattle.log_node.specs.declared.ids.Counts.{Counts}
use Rattle.log_node.specs.declared.node.Head.{Head}
use Rattle.log_node.specs.Seen.{PlacedNode}
use Rattle.log_node.specs.Vectors.{at, vector}
use Rattle.col_core.specs.declared.Event.TheVariants as events
use Rattle.col_core.specs.declared.Entry.{Entry}
use Rattle.column.specs.Columns.{ColumnState, held_of, copy_of}
use Rattle.column.specs.Inside.{IsKept, IsStillReached}
use Rattle.column.proofs.Carrying.{carry_entry, with_carried, carried_kept, carried_reached}
use Rattle.column.proofs.contents.Contents.add_items.Goals as goal

abbrev old_of : goal.After-push_reserved → ColumnState
old_of c =
    let i = c.self.inside in
    record {
      region = i.region;
      colour = i.colour;
      regions = i.regions;
      journal = i.journal.items;
      queue = i.queue;
      copies = i.copies;
    }

other : (c : goal.After-push_reserved) → c.args.region ≢ (old_of c).region
other c = subst (λ (q : ColumnState). c.args.region ≢ q.region) (sym c.self.view_is) c.requires.other

in_range : (c : goal.After-push_reserved) → c.args.region < (old_of c).regions
in_range c = subst (λ (q : ColumnState). c.args.region < q.regions) (sym c.self.view_is) c.requires.region

below_four : (c : goal.After-push_reserved) → c.args.region < 4
below_four c = let a = in_range c in let b = c.self.invariant.column_is.few_regions in omega (arith, a, b)

start_is : (c : goal.After-push_reserved) → c.of_region-start.result ≡ held_of (old_of c) c.args.region
start_is c =
    c.of_region-start.ensures
    ∙ c.self.invariant.numbers_are.carried_are c.args.region (below_four c) (other c)

-- the column with this journal and these copies
abbrev with_parts : ColumnState → List Entry → List (List PlacedNode) → ColumnState
with_parts column journal copies = record column { journal = journal; copies = copies }

entry_is : (c : goal.After-push_reserved)
    → ◌≡◌ {A = Entry} (record {
      by = c.args.by;
      event = events.Carry c.args.region c.of_region-start.result c.in_ok-heads.heads;
      stamp = 0;
    }) (carry_entry (old_of c) c.args.by c.args.region c.args.items.now.items)
entry_is c =
    ap (λ (n : ℕ). let e : Entry = record {
      by = c.args.by;
      event = events.Carry c.args.region n c.in_ok-heads.heads;
      stamp = 0;
    } in e) (start_is c)
    ∙ ap (λ (hs : List Head). let e : Entry = record {
      by = c.args.by;
      event = events.Carry c.args.region (held_of (old_of c) c.args.region) hs;
      stamp = 0;
    } in e) (c.in_ok-heads.ensures ∙ ap (map (λ (i : PlacedNode). i.head)) c.deref.ensures.value)

state : (c : goal.After-push_reserved)
    → with_parts (old_of c) c.push_reserved.new.self.items c.append.new.self
    ≡ with_carried (old_of c) c.args.by c.args.region c.args.items.now.items
state c =
    ap (λ (l : List Entry). with_parts (old_of c) l c.append.new.self)
    (c.push_reserved.ensures.items
    ∙ (ap (λ (l : List Entry). l ++ record {
      by = c.args.by;
      event = events.Carry c.args.region c.of_region-start.result c.in_ok-heads.heads;
      stamp = 0;
    } ∷ []) c.in_ok-reserve.ensures.items
    ∙ ap (λ (e : Entry). (old_of c).journal ++ e ∷ []) (entry_is c)))
    ∙ ap (λ (cs : List (List PlacedNode)). with_parts (old_of c)
    ((old_of c).journal ++ carry_entry (old_of c) c.args.by c.args.region c.args.items.now.items ∷ []) cs)
    c.in_ok-append.ensures.ok

some : (c : goal.After-push_reserved) → 0 < length c.args.items.now.items
some c = let a = c.requires.items in let b = c.args.items.now.ok.0 in omega (arith, a, b)

pub invariant_of-self-2 : goal.invariant_of-self-2
invariant_of-self-2 c =
    let i = c.self.inside in
    subst (λ (v : Counts). IsKept (with_parts (old_of c) c.push_reserved.new.self.items c.append.new.self) v i.notes i.base
    i.opens i.spare (vec_capacity c.push_reserved.new.self)) (sym c.with_number-self-inside.ensures)
    (subst (λ (q : ColumnState). IsKept q
    (vector (λ here. if here == c.args.region then c.in-Some.end else at i.carried here)) i.notes i.base
    i.opens i.spare (vec_capacity c.push_reserved.new.self)) (sym (state c))
    (carried_kept (old_of c) c.args.by c.args.region c.self.invariant.column_is (other c) (in_range c) c.args.items.now.items (some c)
    i.carried i.notes i.base c.in-Some.end c.self.invariant.numbers_are
    (let a = c.of_region-start.ensures in let b = c.in-Some.ensures in let d = c.len.ensures in
    let e = c.args.items.now.ok.0 in omega (arith, a, b, d, e))
    i.opens i.spare _ (vec_capacity c.push_reserved.new.self) c.self.invariant.room_is
    (omega (
      arith,
      c.in_ok-reserve.ensures.ok,
      c.in_ok-reserve.ensures.len,
      c.push_reserved.ensures.capacity,
      i.journal.ok.0,
    ))))

pub returns-clause-cut : goal.returns-clause-cut
returns-clause-cut c =
    subst (λ (q : ColumnState). IsStillReached q
    (with_parts (old_of c) c.push_reserved.new.self.items c.append.new.self)) c.self.view_is
    (subst (λ (q : ColumnState). IsStillReached (old_of c) q) (sym (state c))
    (carried_reached (old_of c) c.args.by c.args.region c.self.invariant.column_is (other c) (in_range c)
    c.args.items.now.items (some c)))
