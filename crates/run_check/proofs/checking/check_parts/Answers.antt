use Rattle.std.proofs.Common.{ap, subst}
use Rattle.std.specs.Prelude.{Err}
use Rattle.std.specs.Option.{option_copied}
use Rattle.script_text.specs.Parse.{GivesScript, IsFaultOf}
use Rattle.script_text.proofs.CallerLemmas.{script_fits}
use Rattle.run_check.proofs.VerdictLemmas.{said_of, the_script}
use Rattle.run_check.proofs.checking.check_parts.Goals as goal

pub returns-in-Err-Refused : goal.returns-in-Err-Refused
returns-in-Err-Refused c =
    let it = c.in-Err-Refused in
    rw it.field-0-is (record {
      refused = subst (IsFaultOf c.args.script.now) it.field-0-is it.ensures.refused;
      none = λ script is. subst (λ f. GivesScript (Err f) script) it.field-0-is (it.ensures.only script is);
    })

pub check_text-requires-clause-fitting : goal.check_text-requires-clause-fitting
check_text-requires-clause-fitting c = script_fits c.args.script.now c.in-Ok.script c.in-Ok.ensures.accepted

pub returns-in-Some : goal.returns-in-Some
returns-in-Some c =
    said_of c.check_text.result c.args.script.now c.in-Some.text.now (option_copied c.args.report) c.in-Ok.script
    (the_script c.args.script.now c.in-Ok.script c.in-Ok.ensures.accepted) (ap option_copied c.in-Some.is) c.check_text.ensures

pub returns : goal.returns
returns c =
    (c.in-Ok.script, the_script c.args.script.now c.in-Ok.script c.in-Ok.ensures.accepted, ap option_copied c.in-None.is)
