use Rattle.walk_law.specs.Listed.{IsListed}
use Rattle.walk_law.specs.Lists.{HasLists}
use Rattle.walk_law.proofs.ListedLaws.{listed_have_lists, lists_are_listed}
use Rattle.walk_law.proofs.Members.{ok_as, told_as}
use Rattle.walk_law.proofs.listing.is_listed.Goals as goal

pub returns : goal.returns
returns c =
    let script = c.args.script.now in
    let report = c.args.report.now in
    ok_as c.are_lists.result (IsListed script report) (HasLists script report)
    (λ b told. told_as b (IsListed script report) (HasLists script report) (listed_have_lists script report)
    (lists_are_listed script report) told) c.are_lists.ensures
