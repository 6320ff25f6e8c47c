use Rattle.wrong_reports.proofs.FollowingLaws.{once}
use Rattle.wrong_reports.proofs.following.raises_once.Goals as goal

pub returns : goal.returns
returns c = once
