use Rattle.std.proofs.Common.{◌≡◌, ◌∙◌, ap, refl, ℕ}
use Rattle.log_node.specs.Vectors.{at}
use Rattle.col_core.specs.Keeping.{Kept, kept_after_look, updated}
use Rattle.lawful_run.specs.Reads.{kept_after_piece}
use Rattle.walk_law.specs.Fourth.{Sighted}
use Rattle.walk_law.specs.Walking.{log_walked}
use Rattle.walk_law.proofs.FourthLemmas.{sees_as}
use Rattle.walk_law.proofs.own_seen.OwnSeen.synced.Goals as goal

pub returns : goal.returns
returns c = λ caller kept s.
    let sync = c.args.sync in
    let look = kept_after_look kept caller.own sync.colour sync.events in
    let known : Kept = record look { known = updated look.known sync.colour c.of_region-stood.result } in
    let region = ap (λ (o : Sighted). o.region) c.self.view_is ∙ s.region in
    let stood : c.of_region-stood.result ≡ at sync.counts caller.own = c.of_region-stood.ensures ∙ ap (at sync.counts) region in
    sees_as caller known (kept_after_piece (log_walked c.args.subject.now) caller kept sync) c.know.new.self (λ colour low. refl)
    (λ colour low. ap (λ (n : ℕ). updated kept.known sync.colour n colour) stood)
    (c.know.ensures caller look (c.see.ensures.kept caller kept s))
