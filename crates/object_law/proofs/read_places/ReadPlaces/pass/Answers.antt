use Rattle.std.proofs.Common.{◌∙◌, sym, ap, refl, None}
use Rattle.std.specs.Option.{option_map}
use Rattle.script_text.specs.declared.uses.Use.TheVariants.{OfLog, OfObject}
use Rattle.script_text.specs.declared.uses.ReadUse.TheVariants.{Leaves, Takes, UsesUp}
use Rattle.object_law.proofs.FindingLemmas.{found_there, past_by}
use Rattle.object_law.proofs.read_places.ReadPlaces.pass.Goals as goal

pub returns-in-OfObject-default-Takes : goal.returns-in-OfObject-default-Takes
returns-in-OfObject-default-Takes c = λ found log caller shown kept command reply asked replied reads.
    let w = c.in-OfObject-default-Takes in
    past_by found log caller shown kept command reply c.args.place c.keep.new.self (OfObject w.object Takes)
    c.args.what.now c.args.answer.now (sym c.use_of.ensures ∙ (w.is ∙ ap (OfObject w.object) w.read-is)) asked replied
    (c.keep.ensures found kept.reads _
    (found_there found c.args.place c.args.answer.now ∙ ap (option_map found) (sym c.place_read.ensures)) reads)

pub returns-in-OfObject-default-UsesUp : goal.returns-in-OfObject-default-UsesUp
returns-in-OfObject-default-UsesUp c = λ found log caller shown kept command reply asked replied reads.
    let w = c.in-OfObject-default-UsesUp in
    past_by found log caller shown kept command reply c.args.place c.keep-in-OfObject-default-UsesUp.new.self (OfObject w.object UsesUp)
    c.args.what.now c.args.answer.now (sym c.use_of.ensures ∙ (w.is ∙ ap (OfObject w.object) w.read-is)) asked replied
    (c.keep-in-OfObject-default-UsesUp.ensures found kept.reads None refl reads)

pub returns-in-OfObject-default-Leaves : goal.returns-in-OfObject-default-Leaves
returns-in-OfObject-default-Leaves c = λ found log caller shown kept command reply asked replied reads.
    let w = c.in-OfObject-default-Leaves in
    past_by found log caller shown kept command reply c.args.place c.args.self.now (OfObject w._object Leaves)
    c.args.what.now c.args.answer.now (sym c.use_of.ensures ∙ (w.is ∙ ap (OfObject w._object) w.read-is)) asked replied reads

pub returns-in-OfLog : goal.returns-in-OfLog
returns-in-OfLog c = λ found log caller shown kept command reply asked replied reads.
    let w = c.in-OfLog in
    past_by found log caller shown kept command reply c.args.place c.args.self.now (OfLog w._stops)
    c.args.what.now c.args.answer.now (sym c.use_of.ensures ∙ w.is) asked replied reads
