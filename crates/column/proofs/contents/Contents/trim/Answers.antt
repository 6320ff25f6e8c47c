use Rattle.std.proofs.Common.{◌≡◌, ◌≤◌, ℕ, List, [], ◌∷◌, ◌++◌, length, refl, ap, sym, subst, ◌∙◌, arith}
use Rattle.std.specs.Prelude.{◌-◌, map, drop, slice_index_or}
use Rattle.std.specs.Vec.{vec_capacity}
use Rattle.log_node.specs.declared.ids.Counts.{Counts}
use Rattle.log_node.specs.Seen.{PlacedNode}
use Rattle.log_node.specs.Vectors.{at, all_regions}
use Rattle.log_node.specs.Standings.{line_of}
use Rattle.skeen_core.specs.Queues.{Queued, dropped_queue}
use Rattle.col_core.specs.declared.Event.TheVariants as events
use Rattle.col_core.specs.declared.Entry.{Entry}
use Rattle.col_core.proofs.CallerLemmas.{entries-append}
use Rattle.column.specs.Entering.{EnteredNode}
use Rattle.column.specs.Columns.{ColumnState, cut_of, base_of, base_after, kept_copy, after_trim}
use Rattle.column.specs.Inside.{IsKept}
use Rattle.column.proofs.Steps.{still_cut}
use Rattle.column.proofs.Entering.{event-room}
use Rattle.column.proofs.Moving.{trimming, trim_is, trim_numbers, trimmed_is, base_in_line}
use Rattle.column.proofs.contents.Contents.trim.Goals as goal

abbrev old_of : goal.After-push_reserved → ColumnState
old_of c =
    let i = c.self.inside in
    record {
      region = i.region;
      colour = i.colour;
      regions = i.regions;
      journal = i.journal.items;
      queue = i.queue;
      copies = i.copies;
    }

-- the column with these parts
abbrev with_parts : ColumnState → List Entry → Queued EnteredNode → List (List PlacedNode) → ColumnState
with_parts column journal queue copies = record column { journal = journal; queue = queue; copies = copies }

pub drop_to-requires : goal.drop_to-requires
drop_to-requires c =
    let i = c.self.inside in
    let old : ColumnState = record {
      region = i.region;
      colour = i.colour;
      regions = i.regions;
      journal = i.journal.items;
      queue = i.queue;
      copies = i.copies;
    } in
    let base = c.base_after-base.ensures
    ∙ trimmed_is old c.args.by c.args.counts c.self.invariant.column_is i.carried i.notes i.base c.args.cut
    c.self.invariant.numbers_are (c.requires ∙ sym (ap cut_of c.self.view_is)) in
    let is = c.of_region.ensures ∙ ap (λ (v : Counts). at v i.region) base in
    let low = base_in_line old c.args.by c.args.counts c.self.invariant.column_is in
    subst (λ (n : ℕ). n ≤ length (line_of i.queue.entries)) (sym is) low

abbrev entry_of : goal.After-push_reserved → Entry
entry_of c = trimming (old_of c) c.args.by c.args.counts c.self.invariant.column_is

base_is : (c : goal.After-push_reserved) → c.base_after-base.result ≡ base_after (old_of c) c.args.by c.args.counts
base_is c =
    c.base_after-base.ensures
    ∙ trimmed_is (old_of c) c.args.by c.args.counts c.self.invariant.column_is c.self.inside.carried c.self.inside.notes
    c.self.inside.base c.args.cut c.self.invariant.numbers_are (c.requires ∙ sym (ap cut_of c.self.view_is))

journal_is : (c : goal.After-push_reserved) → c.push_reserved.new.self.items ≡ (old_of c).journal ++ entry_of c ∷ []
journal_is c =
    c.push_reserved.ensures.items ∙ ap (λ (l : List Entry). l ++ entry_of c ∷ []) c.in_ok-reserve.ensures.items

queue_is : (c : goal.After-push_reserved)
    → c.drop_to.new.self ≡ (after_trim (old_of c) c.args.by c.args.counts).queue
queue_is c =
    c.drop_to.ensures
    ∙ ap (λ (n : ℕ). dropped_queue n c.self.inside.queue)
    (c.of_region.ensures ∙ ap (λ (v : Counts). at v c.self.inside.region) (base_is c))

copies_is : (c : goal.After-push_reserved)
    → c.drop_to-2.new.self ≡ (after_trim (old_of c) c.args.by c.args.counts).copies
copies_is c =
    c.drop_to-2.ensures
    ∙ (ap (λ (v : Counts). map (λ (r : ℕ). drop (at c.base_after-base.result r - at v r)
    (slice_index_or c.self.inside.copies r [])) all_regions) c.self.invariant.numbers_are.base_is
    ∙ ap (λ (v : Counts). map (kept_copy (old_of c) v) all_regions) (base_is c))

-- the column then
state : (c : goal.After-push_reserved)
    → with_parts (old_of c) c.push_reserved.new.self.items c.drop_to.new.self c.drop_to-2.new.self
    ≡ after_trim (old_of c) c.args.by c.args.counts
state c =
    ap (λ (l : List Entry). with_parts (old_of c) l c.drop_to.new.self c.drop_to-2.new.self) (journal_is c)
    ∙ (ap (λ (q : Queued EnteredNode). with_parts (old_of c) ((old_of c).journal ++ entry_of c ∷ []) q c.drop_to-2.new.self)
    (queue_is c)
    ∙ ap (with_parts (old_of c) ((old_of c).journal ++ entry_of c ∷ []) (after_trim (old_of c) c.args.by c.args.counts).queue)
    (copies_is c))

pub invariant_of-self-2 : goal.invariant_of-self-2
invariant_of-self-2 c =
    let i = c.self.inside in
    let h = c.self.invariant.column_is in
    let new = after_trim (old_of c) c.args.by c.args.counts in
    subst (λ (q : ColumnState). IsKept q i.carried i.notes c.base_after-base.result i.opens i.spare
    (vec_capacity c.push_reserved.new.self)) (sym (state c))
    (subst (λ (v : Counts). IsKept (after_trim (old_of c) c.args.by c.args.counts) i.carried i.notes v i.opens i.spare
    (vec_capacity c.push_reserved.new.self)) (sym (base_is c)) (record {
      column_is = trim_is (old_of c) c.args.by c.args.counts h;
      numbers_are = trim_numbers (old_of c) c.args.by c.args.counts h i.carried i.notes i.base
          c.self.invariant.numbers_are;
      room_is = event-room (old_of c) (entry_of c) new.queue new.copies i.opens i.spare _ _ c.self.invariant.room_is refl
          refl
          (omega (
            arith,
            c.in_ok-reserve.ensures.ok,
            c.in_ok-reserve.ensures.len,
            c.push_reserved.ensures.capacity,
            i.journal.ok.0,
          ));
    }))

pub returns-clause-base : goal.returns-clause-base
returns-clause-base c = base_is c ∙ ap base_of (sym (state c))

pub returns-clause-column : goal.returns-clause-column
returns-clause-column c = state c ∙ ap (λ (q : ColumnState). after_trim q c.args.by c.args.counts) c.self.view_is

pub returns-clause-cut : goal.returns-clause-cut
returns-clause-cut c =
    let new = after_trim (old_of c) c.args.by c.args.counts in
    ap cut_of (state c)
    ∙ (still_cut (old_of c) (entry_of c) new.queue new.copies c.self.invariant.column_is refl (λ region. refl)
    (ap line_of (entries-append (old_of c).journal (entry_of c))) ∙ ap cut_of c.self.view_is)
