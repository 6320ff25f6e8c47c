use Rattle.std.proofs.Common.{◌≡◌, Some, None, subst}
use Rattle.log_node.specs.Vectors.{all_regions}
use Rattle.playback.specs.Inside.{free_in, first_of}
use Rattle.playback.proofs.ShownNext.{IsNextOf, next_of_all, none_next, goes_next}
use Rattle.playback.proofs.free.next_region.Goals as goal

pub returns-in-None : goal.returns-in-None
returns-in-None c =
    let view = c.args.view.now in
    let played = c.args.played in
    let e : first_of (free_in view played 0) (first_of (free_in view played 1) (first_of (free_in view played 2)
    (free_in view played 3))) ≡ None = cc in
    none_next view played c.requires (subst (IsNextOf view played c.requires all_regions) e (next_of_all view played
    c.requires))

pub returns-in-Some : goal.returns-in-Some
returns-in-Some c =
    let view = c.args.view.now in
    let played = c.args.played in
    let e : first_of (free_in view played 0) (first_of (free_in view played 1) (first_of (free_in view played 2)
    (free_in view played 3))) ≡ Some c.in-Some.free = cc in
    goes_next view played c.requires c.in-Some.free (subst (IsNextOf view played c.requires all_regions) e (next_of_all
    view played c.requires))
