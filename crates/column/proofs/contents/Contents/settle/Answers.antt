use Rattle.std.proofs.Common.{◌≡◌, true, ◌∙◌, ◌∷◌, [], sym, ap, subst, arith, length-append, refl}
use Rattle.std.proofs.lemmas.Bool.{and_parts}
use Rattle.log_node.specs.declared.limits.TheConstants.{MAX_STAMP}
use Rattle.skeen_core.specs.Queues.{MaySettle, has_open, is_decided}
use Rattle.col_core.specs.declared.Event.TheVariants as events
use Rattle.col_core.specs.declared.Entry.{Entry}
use Rattle.col_core.specs.History.{entries}
use Rattle.column.specs.Columns.{ColumnState, after_settle}
use Rattle.column.specs.Inside.{IsStillReached}
use Rattle.column.proofs.Steps.{settlement, settle_is, settle_next, settle_quiet, quiet_numbers, still_reached, reached_yet}
use Rattle.column.proofs.Opens.{count-settled}
use Rattle.column.proofs.contents.Contents.settle.Goals as goal

pub overflow_sub-self : goal.overflow_sub-self
overflow_sub-self c =
    let i = c.self.inside in
    let p = and_parts (has_open c.args.id i.queue.entries) (is_decided c.args.outcome)
    (sym c.if-not-settle.ensures.answer) in
    let less = count-settled c.args.id c.args.outcome i.queue.entries p.0 p.1 in
    let enough = c.self.invariant.room_is.enough in
    omega (arith, less, enough)

pub push_reserved-requires : goal.push_reserved-requires
push_reserved-requires c =
    let i = c.self.inside in
    let p = and_parts (has_open c.args.id i.queue.entries) (is_decided c.args.outcome)
    (sym c.if-not-settle.ensures.answer) in
    let less = count-settled c.args.id c.args.outcome i.queue.entries p.0 p.1 in
    let r = c.self.invariant.room_is in
    omega (arith, less, r.enough, r.room, i.journal.ok.0)

pub invariant_of-self-2 : goal.invariant_of-self-2
invariant_of-self-2 c =
    let i = c.self.inside in
    let k = c.self.invariant.column_is in
    let r = c.self.invariant.room_is in
    let id = c.args.id in
    let outcome = c.args.outcome in
    let old : ColumnState = record {
      region = i.region;
      colour = i.colour;
      regions = i.regions;
      journal = i.journal.items;
      queue = i.queue;
      copies = i.copies;
    } in
    let e : Entry = record { by = c.args.by; event = events.Settle id outcome; stamp = 0 } in
    let p = and_parts (has_open id i.queue.entries) (is_decided outcome) (sym c.if-not-settle.ensures.answer) in
    let some : has_open id (entries i.journal.items) ≡ true = ap (has_open id) (sym k.entries_are) ∙ p.0 in
    let may = subst (λ (q : ColumnState). MaySettle id outcome (entries q.journal) MAX_STAMP) (sym c.self.view_is)
    c.requires in
    let less = count-settled id outcome i.queue.entries p.0 p.1 in
    let longer = length-append i.journal.items (e ∷ []) in
    rw (c.push_reserved.ensures.items, c.if-not-settle.ensures.queue) (record {
      column_is = settle_is old c.args.by id outcome k some p.1 may;
      numbers_are = quiet_numbers old (settlement old c.args.by id outcome k some p.1 may) k
          (settle_next old c.args.by id outcome k some p.1 may) (settle_quiet old c.args.by id outcome k some p.1 may)
          (λ region. refl) (after_settle old c.args.by id outcome).queue i.carried i.notes i.base c.self.invariant.numbers_are;
      room_is = record {
        enough = omega (arith, less, r.enough);
        few = omega (arith, longer, r.few);
        room = omega (arith, longer, less, r.enough, r.room, c.push_reserved.ensures.capacity);
        spares = r.spares;
      };
    })

pub returns-then-not-settle-clause-cut : goal.returns-then-not-settle-clause-cut
returns-then-not-settle-clause-cut c =
    let i = c.self.inside in
    let old : ColumnState = record {
      region = i.region;
      colour = i.colour;
      regions = i.regions;
      journal = i.journal.items;
      queue = i.queue;
      copies = i.copies;
    } in
    rw c.if-not-settle.ensures.queue (subst (λ (q : ColumnState). IsStillReached q old) c.self.view_is
    (reached_yet old c.self.invariant.column_is))

pub returns-clause-cut : goal.returns-clause-cut
returns-clause-cut c =
    let i = c.self.inside in
    let k = c.self.invariant.column_is in
    let id = c.args.id in
    let outcome = c.args.outcome in
    let old : ColumnState = record {
      region = i.region;
      colour = i.colour;
      regions = i.regions;
      journal = i.journal.items;
      queue = i.queue;
      copies = i.copies;
    } in
    let p = and_parts (has_open id i.queue.entries) (is_decided outcome) (sym c.if-not-settle.ensures.answer) in
    let some : has_open id (entries i.journal.items) ≡ true = ap (has_open id) (sym k.entries_are) ∙ p.0 in
    let may = subst (λ (q : ColumnState). MaySettle id outcome (entries q.journal) MAX_STAMP) (sym c.self.view_is)
    c.requires in
    let new = still_reached old (settlement old c.args.by id outcome k some p.1 may) k
    (settle_next old c.args.by id outcome k some p.1 may) (after_settle old c.args.by id outcome).queue i.copies in
    rw (c.push_reserved.ensures.items, c.if-not-settle.ensures.queue)
    (subst (λ (q : ColumnState). IsStillReached q (after_settle old c.args.by id outcome)) c.self.view_is new)
