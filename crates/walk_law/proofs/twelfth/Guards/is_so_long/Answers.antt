use Rattle.std.proofs.Common.{◌∙◌, ap, subst, ◌≤◌, length, List}
use Rattle.std.specs.Prelude.{◌==◌}
use Rattle.script_text.specs.declared.script.Script.{Script}
use Rattle.col_core.specs.declared.Entry.{Entry}
use Rattle.walk_law.specs.Twelfth.{open_in}
use Rattle.walk_law.proofs.CauseLemmas.{cell_of}
use Rattle.walk_law.proofs.GuardLemmas.{long_told, not_long, same_told}
use Rattle.walk_law.proofs.twelfth.Guards.is_so_long.Goals as goal

pub returns-then-of_region-lined : goal.returns-then-of_region-lined
returns-then-of_region-lined c = λ kept is low.
    not_long c.args.subject.now c.args.client c.own-own.result c.own-own.ensures.own kept c.args.keeping.now is c.args.colour
    (cell_of c.args.subject.now.script c.agrees.ensures.may.1.fitting c.own-own.result c.args.colour c.own-own.ensures.within low)
    c.track-track.result.now c.track-track.ensures.region c.track-track.ensures.journal c.agrees-2.ensures c.own_line_within.ensures
    (open_in c.args.subject.now.script.shape.colours c.args.self.now.opens.by_column.items) c.args.events
    (subst (λ (h : List Entry). c.args.events ≤ length h) c.journal.ensures c.if-events-all.false) c.mark.result c.mark.ensures
    c.args.lined c.args.waiting c.of_region.result c.of_region.ensures c.if-of_region-lined.true

pub returns : goal.returns
returns c = λ kept is low.
    long_told c.args.subject.now c.args.client c.own-own.result c.own-own.ensures.own kept c.args.keeping.now is c.args.colour
    (cell_of c.args.subject.now.script c.agrees.ensures.may.1.fitting c.own-own.result c.args.colour c.own-own.ensures.within low)
    c.track-track.result.now c.track-track.ensures.region c.track-track.ensures.journal c.agrees-2.ensures c.own_line_within.ensures
    (open_in c.args.subject.now.script.shape.colours c.args.self.now.opens.by_column.items) c.args.events
    (subst (λ (h : List Entry). c.args.events ≤ length h) c.journal.ensures c.if-events-all.false) c.mark.result c.mark.ensures
    c.seen-seen.result c.seen-seen.ensures c.if-seen-events.false c.args.lined c.args.waiting c.of_region.result c.number.result
    c.of_region.ensures c.if-of_region-lined.false
    (c.number.ensures
    ∙ ap (λ (s : Script). open_in s.shape.colours c.args.self.now.opens.by_column.items c.own-own.result c.args.colour c.args.events)
    c.script.ensures) (c.number.result == c.args.waiting) (same_told c.number.result c.args.waiting)
