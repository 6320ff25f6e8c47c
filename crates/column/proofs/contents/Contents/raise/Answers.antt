use Rattle.std.proofs.Common.{◌<◌, refl, sym, ◌∙◌, ◌++◌, ◌∷◌, [], List, ap, arith, length-append}
use Rattle.col_core.specs.declared.Event.TheVariants as events
use Rattle.col_core.specs.declared.Entry.{Entry}
use Rattle.col_core.specs.History.{clock as hclock}
use Rattle.log_node.specs.Standings.{line_of}
use Rattle.col_core.proofs.CallerLemmas.{entries-append}
use Rattle.column.specs.Columns.{ColumnState, cut_of, after_raise}
use Rattle.column.proofs.Steps.{raising, raise_is, raise_next, raise_quiet, quiet_numbers, still_cut}
use Rattle.column.proofs.contents.Contents.raise.Goals as goal

pub invariant_of-self-2 : goal.invariant_of-self-2
invariant_of-self-2 c =
    let i = c.self.inside in
    let k = c.self.invariant.column_is in
    let r = c.self.invariant.room_is in
    let old : ColumnState = record {
      region = i.region;
      colour = i.colour;
      regions = i.regions;
      journal = i.journal.items;
      queue = i.queue;
      copies = i.copies;
    } in
    let e : Entry = record { by = c.args.by; event = events.Raise c.args.to; stamp = 0 } in
    let journal = c.push_reserved.ensures.items ∙ ap (λ (l : List Entry). l ++ e ∷ []) c.in_ok-reserve.ensures.items in
    let now = k.clock_is in
    let lower = c.if-to-clock.false in
    let clock = c.clock.ensures in
    let above : hclock i.journal.items < c.args.to = omega (arith, now, lower, clock) in
    let longer = length-append i.journal.items (e ∷ []) in
    rw (journal, c.raise.ensures.clock) (record {
      column_is = raise_is old c.args.by c.args.to k above c.requires;
      numbers_are = quiet_numbers old (raising old c.args.by c.args.to k above c.requires) k
          (raise_next old c.args.by c.args.to k above c.requires) (raise_quiet old c.args.by c.args.to k above c.requires)
          (λ region. refl) (after_raise old c.args.by c.args.to).queue i.carried i.notes i.base c.self.invariant.numbers_are;
      room_is = record {
        enough = r.enough;
        few = omega (arith, longer, r.few);
        room = omega (
          arith,
          longer,
          c.in_ok-reserve.ensures.ok,
          c.in_ok-reserve.ensures.len,
          c.push_reserved.ensures.capacity,
          i.journal.ok.0,
        );
        spares = r.spares;
      };
    })

pub returns-clause-cut : goal.returns-clause-cut
returns-clause-cut c =
    let i = c.self.inside in
    let k = c.self.invariant.column_is in
    let old : ColumnState = record {
      region = i.region;
      colour = i.colour;
      regions = i.regions;
      journal = i.journal.items;
      queue = i.queue;
      copies = i.copies;
    } in
    let e : Entry = record { by = c.args.by; event = events.Raise c.args.to; stamp = 0 } in
    let journal = c.push_reserved.ensures.items ∙ ap (λ (l : List Entry). l ++ e ∷ []) c.in_ok-reserve.ensures.items in
    let now = k.clock_is in
    let lower = c.if-to-clock.false in
    let clock = c.clock.ensures in
    let above : hclock i.journal.items < c.args.to = omega (arith, now, lower, clock) in
    let next = raise_next old c.args.by c.args.to k above c.requires in
    let rise = raising old c.args.by c.args.to k above c.requires in
    rw journal (still_cut old rise (after_raise old c.args.by c.args.to).queue i.copies k next
    (λ region. refl) (ap line_of (entries-append i.journal.items rise)) ∙ ap cut_of c.self.view_is)
