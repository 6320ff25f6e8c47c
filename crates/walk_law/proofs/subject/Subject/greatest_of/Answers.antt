use Rattle.std.proofs.Common.{◌∙◌, ℕ, ap, arith, drop, length, take}
use Rattle.log_node.specs.Outcomes.{greatest}
use Rattle.log_node.specs.Vectors.{at}
use Rattle.walk_law.proofs.SubjectLemmas.{few_regions}
use Rattle.walk_law.proofs.PlayedLemmas.{bound_is, held_few, held_stamps, stamps}
use Rattle.walk_law.proofs.subject.Subject.greatest_of.Goals as goal

pub last_stamp-requires-clause-within : goal.last_stamp-requires-clause-within
last_stamp-requires-clause-within c =
    let walked = c.args.self.now in
    let may = c.agrees.ensures.may in
    let four = few_regions walked.script may.1.fitting in
    let low = c.requires.region in
    let bound = bound_is walked may.0 may.1 c.args.own c.args.region c.args.sync.colour c.args.sync.events c.requires.own c.requires.region
    c.requires.colour c.requires.lawful (omega (arith, four, low)) c.args.sync.counts c.args.held c.requires.held in
    let few = held_few walked may.0 may.1 c.args.own c.args.region c.args.sync.colour c.args.sync.events c.requires.own c.requires.region
    c.requires.colour c.requires.lawful in
    let to = c.of_region-to.ensures in
    let made = ap (λ v. at v c.args.region) c.least.ensures in
    let line = ap length c.line.ensures.line in
    omega (arith, bound, few, to, made, line)

pub returns : goal.returns
returns c =
    let walked = c.args.self.now in
    let may = c.agrees.ensures.may in
    let four = few_regions walked.script may.1.fitting in
    let low = c.requires.region in
    let bound = bound_is walked may.0 may.1 c.args.own c.args.region c.args.sync.colour c.args.sync.events c.requires.own c.requires.region
    c.requires.colour c.requires.lawful (omega (arith, four, low)) c.args.sync.counts c.args.held c.requires.held in
    c.last_stamp.ensures
    ∙ (ap (λ (n : ℕ). greatest (stamps (drop n (take c.of_region-to.result c.line.result.now)))) c.of_region.ensures
    ∙ held_stamps walked may.0 may.1 c.args.own c.args.region c.args.sync.colour c.args.sync.events c.requires.own c.requires.region
    c.requires.colour c.requires.lawful (at c.args.start c.args.region) (at c.args.sync.counts c.args.region) c.of_region-to.result
    c.line.result.now c.line.ensures.line
    (c.of_region-to.ensures ∙ (ap (λ v. at v c.args.region) c.least.ensures ∙ bound)))
