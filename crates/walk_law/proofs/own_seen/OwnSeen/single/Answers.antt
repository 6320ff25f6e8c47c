use Rattle.std.proofs.Common.{◌+◌, refl, subst, ℕ}
use Rattle.lawful_run.specs.Reads.{events_until}
use Rattle.col_core.specs.Keeping.{Kept, kept_after_look, kept_after_single, updated}
use Rattle.walk_law.specs.Fourth.{Sees}
use Rattle.walk_law.proofs.FourthLemmas.{sees_as}
use Rattle.walk_law.proofs.own_seen.OwnSeen.single.Goals as goal

pub returns : goal.returns
returns c = λ caller kept stamp s.
    let p = c.args.point in
    let one = kept_after_look kept caller.own p.colour (events_until p.at + 1) in
    let two : Kept = record one { known = updated one.known p.colour (p.position + 1) } in
    sees_as caller two (kept_after_single kept caller.own p.colour (events_until p.at) stamp p.position) c.know.new.self
    (λ colour low. refl) (λ colour low. refl)
    (c.know.ensures caller one
    (subst (λ (n : ℕ). Sees caller (kept_after_look kept caller.own p.colour (n + 1)) c.see.new.self) c.events_until.ensures
    (c.see.ensures.kept caller kept s)))
