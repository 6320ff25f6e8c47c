use Rattle.std.proofs.Common.{◌≡◌, ◌≢◌, ◌<◌, ℕ, List, [], ◌∷◌, ◌++◌, length, min, max, refl, ap, sym, subst, ◌∙◌, arith}
use Rattle.std.specs.Prelude.{◌==◌, if◌then◌else◌}
use Rattle.log_node.specs.declared.ids.Counts.{Counts}
use Rattle.log_node.specs.declared.ids.Key.{Key}
use Rattle.log_node.specs.Vectors.{at, vector}
use Rattle.log_node.specs.Standings.{line_of}
use Rattle.col_core.specs.declared.Event.TheVariants as events
use Rattle.col_core.specs.declared.Entry.{Entry}
use Rattle.col_core.specs.History.{line}
use Rattle.col_core.proofs.CallerLemmas.{entries-append}
use Rattle.column.specs.Columns.{ColumnState, cut_of}
use Rattle.column.proofs.Steps.{still_cut}
use Rattle.column.proofs.Entering.{event-room}
use Rattle.column.proofs.Moving.{line_is, giving, give_next, give_is, give_numbers}
use Rattle.column.proofs.contents.Contents.note.Goals as goal

abbrev old_of : goal.After-push_reserved → ColumnState
old_of c =
    let i = c.self.inside in
    record {
      region = i.region;
      colour = i.colour;
      regions = i.regions;
      journal = i.journal.items;
      queue = i.queue;
      copies = i.copies;
    }

-- the number from which the line is given
from_is : (c : goal.After-push_reserved) → c.min-from.result ≡ min c.args.from (length (line (old_of c).journal))
from_is c =
    c.min-from.ensures
    ∙ ap (λ (keys : List Key). min c.args.from (length keys))
    (c.line.ensures ∙ sym (line_is (old_of c) c.self.invariant.column_is))

other : (c : goal.After-push_reserved) → c.args.region ≢ (old_of c).region
other c = subst (λ (q : ColumnState). c.args.region ≢ q.region) (sym c.self.view_is) c.requires.other

in_range : (c : goal.After-push_reserved) → c.args.region < (old_of c).regions
in_range c = subst (λ (q : ColumnState). c.args.region < q.regions) (sym c.self.view_is) c.requires.region

abbrev entry_of : goal.After-push_reserved → Entry
entry_of c = giving (old_of c) c.args.by c.args.region c.args.from c.self.invariant.column_is (other c) (in_range c)

journal_is : (c : goal.After-push_reserved) → c.push_reserved.new.self.items ≡ (old_of c).journal ++ entry_of c ∷ []
journal_is c =
    c.push_reserved.ensures.items
    ∙ (ap (λ (l : List Entry).
    l ++ record { by = c.args.by; event = events.Give c.args.region c.min-from.result; stamp = 0 } ∷ [])
    c.in_ok-reserve.ensures.items
    ∙ ap (λ (n : ℕ). (old_of c).journal ++ record { by = c.args.by; event = events.Give c.args.region n; stamp = 0 } ∷ [])
    (from_is c))

notes_is : (c : goal.After-push_reserved) → c.with_number-self-inside.result
    ≡ vector (λ here. if here == c.args.region
    then max (at c.self.inside.notes c.args.region) (min c.args.from (length (line (old_of c).journal)))
    else at c.self.inside.notes here)
notes_is c =
    c.with_number-self-inside.ensures
    ∙ ap (λ (n : ℕ). vector (λ here. if here == c.args.region then n else at c.self.inside.notes here))
    (c.max.ensures ∙ (ap (λ (n : ℕ). max n c.min-from.result) c.of_region.ensures
    ∙ ap (max (at c.self.inside.notes c.args.region)) (from_is c)))

pub invariant_of-self-2 : goal.invariant_of-self-2
invariant_of-self-2 c =
    let i = c.self.inside in
    let h = c.self.invariant.column_is in
    rw (journal_is c, notes_is c) (record {
      column_is = give_is (old_of c) c.args.by c.args.region c.args.from h (other c) (in_range c);
      numbers_are = give_numbers (old_of c) c.args.by c.args.region c.args.from h (other c) (in_range c) i.carried i.notes
          i.base c.self.invariant.numbers_are;
      room_is = event-room (old_of c) (entry_of c) i.queue i.copies i.opens i.spare _ _ c.self.invariant.room_is refl refl
          (omega (
            arith,
            c.in_ok-reserve.ensures.ok,
            c.in_ok-reserve.ensures.len,
            c.push_reserved.ensures.capacity,
            i.journal.ok.0,
          ));
    })

pub returns-clause-cut : goal.returns-clause-cut
returns-clause-cut c =
    rw (journal_is c) (still_cut (old_of c) (entry_of c) (old_of c).queue (old_of c).copies c.self.invariant.column_is
    (give_next (old_of c) c.args.by c.args.region c.args.from c.self.invariant.column_is (other c) (in_range c))
    (λ region. refl) (ap line_of (entries-append (old_of c).journal (entry_of c))) ∙ ap cut_of c.self.view_is)
