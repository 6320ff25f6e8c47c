use Rattle.std.proofs.Common.{◌∙◌, ap, arith, true}
use Rattle.col_core.specs.Cuts.{chain}
use Rattle.col_core.specs.Log.{first}
use Rattle.script_text.specs.declared.script.Script.{Script}
use Rattle.walk_law.specs.Behind.{HasColumn}
use Rattle.walk_law.specs.Walking.{journal_walked, log_walked}
use Rattle.walk_law.proofs.SubjectLemmas.{few_regions}
use Rattle.walk_law.proofs.PlayedLemmas.{chain_none, greatest_all}
use Rattle.walk_law.proofs.subject.Subject.greatest_played.Goals as goal

pub returns : goal.returns
returns c =
    let walked = c.args.self.now in
    let may = c.agrees.ensures.may in
    let four = few_regions walked.script may.1.fitting in
    let has : HasColumn walked c.args.own c.args.sync.colour true = c.if-not-has_column.ensures in
    let ge = c.loop-region-test.false in
    let end = ap (λ (s : Script). s.shape.regions) c.script.ensures in
    c.loop-region.invariant
    ∙ greatest_all (chain c.args.own (first (log_walked walked) c.args.own c.args.sync.colour c.args.sync.events)) c.args.start
    c.args.sync.counts walked.script.shape.regions c.loop-region.region four (omega (arith, ge, end))
    (λ r beyond. chain_none c.args.own walked.script.shape.regions r c.args.sync.events
    (journal_walked walked c.args.own c.args.sync.colour) c.held-held.ensures.lawful has.0 beyond)
