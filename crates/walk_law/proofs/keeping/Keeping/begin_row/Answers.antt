use Rattle.std.proofs.Common.{◌+◌, sym}
use Rattle.col_core.specs.Keeping.{Kept, with_made}
use Rattle.lawful_run.specs.Callers.{caller_of}
use Rattle.walk_law.specs.Behind.{steps_untold}
use Rattle.walk_law.proofs.MadeLemmas.{made_same}
use Rattle.walk_law.proofs.keeping.Keeping.begin_row.Goals as goal

pub returns-clause-kept : goal.returns-clause-kept
returns-clause-kept c replies kept untold leaves s =
    let walked = c.args.subject.now in
    let own = (caller_of walked.script c.args.client).own in
    let made : Kept = with_made kept own untold.places in
    let used : Kept = record made { ids = made.ids + 1 } in
    c.use_row.ensures.kept replies used
    (c.use_id.ensures.kept replies made
    (made_same replies kept own c.make_steps.new.self (steps_untold walked c.args.client kept.ids) untold.places
    (λ k low. sym (leaves k)) (c.in_ok-make_steps.ensures.kept replies kept s)))
