use Rattle.walk_law.proofs.SubjectLemmas.{commands_count, commands_few, seen}
use Rattle.walk_law.proofs.subject.Subject.count.Goals as goal

pub returns-clause-count : goal.returns-clause-count
returns-clause-count c =
    let inv = seen c.args.self.now c.self.inside.script.now c.self.inside.report.now c.self.inside.tracks.now c.self.inside.commands
    c.self.inside.places.items c.self.inside.printed c.self.inside.rows c.self.view_is c.self.invariant in
    commands_count c.args.self.now.script c.args.self.now.report c.self.inside.tracks.now inv.may c.self.inside.commands
    inv.commands_are c.args.client c.requires c.places.result.now c.places.ensures

pub returns-clause-few : goal.returns-clause-few
returns-clause-few c =
    let inv = seen c.args.self.now c.self.inside.script.now c.self.inside.report.now c.self.inside.tracks.now c.self.inside.commands
    c.self.inside.places.items c.self.inside.printed c.self.inside.rows c.self.view_is c.self.invariant in
    commands_few c.args.self.now.script c.args.self.now.report c.self.inside.tracks.now inv.may c.self.inside.commands
    inv.commands_are c.args.client c.requires c.places.result.now c.places.ensures
