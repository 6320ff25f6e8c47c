use Rattle.std.proofs.Common.{◌∷◌, [], None}
use Rattle.run_rules.specs.Told.{kept_after_append}
use Rattle.run_rules.specs.Naming.{NamesPoint}
use Rattle.walk_law.specs.Walking.{log_walked}
use Rattle.walk_law.proofs.FourthLemmas.{all_one, and_told, both_told}
use Rattle.walk_law.proofs.Lists.{told_not, told_so}
use Rattle.walk_law.proofs.fourth.names_took.Goals as goal

pub returns-then-not-names_point : goal.returns-then-not-names_point
returns-then-not-names_point c = λ caller kept untold stamp s low last named.
    told_not c.names_point.result
    (all_one (NamesPoint (log_walked c.args.subject.now) caller kept) c.args.point c.names_point.result
    (c.names_point.ensures caller kept s low)) c.if-not-names_point.true named.0

pub returns : goal.returns
returns c = λ caller kept untold stamp s low last.
    both_told _ _ c.names_sync.result
    (told_so c.names_point.result
    (all_one (NamesPoint (log_walked c.args.subject.now) caller kept) c.args.point c.names_point.result
    (c.names_point.ensures caller kept s low)) c.if-not-names_point.false)
    (and_told _ _ c.names_sync.result
    (c.names_sync.ensures caller (kept_after_append untold caller kept stamp None (c.args.point ∷ [])) (c.single.ensures caller kept stamp s)
    last))
