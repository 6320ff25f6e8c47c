use Rattle.wrong_reports.proofs.FollowingLaws.{above_floor}
use Rattle.wrong_reports.proofs.following.enters_above_its_floor.Goals as goal

pub returns : goal.returns
returns c = above_floor
