use Rattle.std.proofs.Common.{◌≡◌, ◌∙◌, ◌<◌, ℕ, List, Some, ap, sym, subst, arith, length}
use Rattle.std.specs.Prelude.{slice_get, slice_index_or}
use Rattle.std.proofs.lemmas.Option.{get_or_from_slice_get, slice_get_within}
use Rattle.script_text.specs.declared.script.Command.{Command}
use Rattle.walk_law.specs.Walking.{Walked}
use Rattle.walk_law.proofs.SubjectLemmas.{command_at, commands_count, commands_few, seen}
use Rattle.walk_law.proofs.subject.Subject.command.Goals as goal

pub offset_bounds-places-place : goal.offset_bounds-places-place
offset_bounds-places-place c =
    let inv = seen c.args.self.now c.self.inside.script.now c.self.inside.report.now c.self.inside.tracks.now c.self.inside.commands
    c.self.inside.places.items c.self.inside.printed c.self.inside.rows c.self.view_is c.self.invariant in
    let of = commands_count c.args.self.now.script c.args.self.now.report c.self.inside.tracks.now inv.may c.self.inside.commands
    inv.commands_are c.args.client c.requires.walker c.places.result.now c.places.ensures in
    let few = commands_few c.args.self.now.script c.args.self.now.report c.self.inside.tracks.now inv.may c.self.inside.commands
    inv.commands_are c.args.client c.requires.walker c.places.result.now c.places.ensures in
    let there = c.requires.there in
    omega (arith, of, few, there)

pub bounds-places-place : goal.bounds-places-place
bounds-places-place c =
    let inv = seen c.args.self.now c.self.inside.script.now c.self.inside.report.now c.self.inside.tracks.now c.self.inside.commands
    c.self.inside.places.items c.self.inside.printed c.self.inside.rows c.self.view_is c.self.invariant in
    let of = commands_count c.args.self.now.script c.args.self.now.report c.self.inside.tracks.now inv.may c.self.inside.commands
    inv.commands_are c.args.client c.requires.walker c.places.result.now c.places.ensures in
    let there = c.requires.there in
    omega (arith, of, there)

pub offset_bounds-as_slice-at : goal.offset_bounds-as_slice-at
offset_bounds-as_slice-at c =
    let inv = seen c.args.self.now c.self.inside.script.now c.self.inside.report.now c.self.inside.tracks.now c.self.inside.commands
    c.self.inside.places.items c.self.inside.printed c.self.inside.rows c.self.view_is c.self.invariant in
    let at = command_at c.args.self.now.script c.args.self.now.report c.self.inside.tracks.now inv.may c.self.inside.commands
    inv.commands_are c.args.client c.requires.walker c.places.result.now c.places.ensures c.args.place c.requires.there 0 in
    let within = slice_get_within c.args.self.now.script.commands (slice_index_or c.places.result.now c.args.place 0) at.0 at.1 in
    let few = inv.may.fitting.few in
    omega (arith, within, few)

pub bounds-as_slice-at : goal.bounds-as_slice-at
bounds-as_slice-at c =
    let inv = seen c.args.self.now c.self.inside.script.now c.self.inside.report.now c.self.inside.tracks.now c.self.inside.commands
    c.self.inside.places.items c.self.inside.printed c.self.inside.rows c.self.view_is c.self.invariant in
    let at = command_at c.args.self.now.script c.args.self.now.report c.self.inside.tracks.now inv.may c.self.inside.commands
    inv.commands_are c.args.client c.requires.walker c.places.result.now c.places.ensures c.args.place c.requires.there 0 in
    let within = slice_get_within c.args.self.now.script.commands (slice_index_or c.places.result.now c.args.place 0) at.0 at.1 in
    let same = ap length c.as_slice.ensures in
    let seen_so = ap (λ (w : Walked). length w.script.commands) c.self.view_is in
    omega (arith, within, same, seen_so)

pub returns : goal.returns
returns c =
    let inv = seen c.args.self.now c.self.inside.script.now c.self.inside.report.now c.self.inside.tracks.now c.self.inside.commands
    c.self.inside.places.items c.self.inside.printed c.self.inside.rows c.self.view_is c.self.invariant in
    let at = command_at c.args.self.now.script c.args.self.now.report c.self.inside.tracks.now inv.may c.self.inside.commands
    inv.commands_are c.args.client c.requires.walker c.places.result.now c.places.ensures c.args.place c.requires.there 0 in
    let commands = subst (λ (w : Walked). c.as_slice.result.now ≡ w.script.commands) c.self.view_is c.as_slice.ensures in
    at.2 ∙ ap (λ (x : Command). Some x) (sym (c.index-as_slice-at.is
    ∙ (ap (λ (l : List Command). slice_index_or l (slice_index_or c.places.result.now c.args.place 0) c.index-as_slice-at.result) commands
    ∙ get_or_from_slice_get c.args.self.now.script.commands (slice_index_or c.places.result.now c.args.place 0) at.0 c.index-as_slice-at.result at.1)))
