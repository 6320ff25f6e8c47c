use Rattle.std.proofs.Common.{◌∙◌, ◌≤◌, ap, subst, ℕ}
use Rattle.std.specs.Prelude.{nat_le}
use Rattle.column_track.specs.Tracks.{Tells}
use Rattle.run_rules.specs.Naming.{EntersOf, NamesPlace}
use Rattle.walk_law.specs.Fourth.{Sighted}
use Rattle.walk_law.specs.Walking.{journal_walked, log_walked}
use Rattle.walk_law.proofs.FourthLemmas.{both_told, le_told, place_named}
use Rattle.walk_law.proofs.Lists.{told_so}
use Rattle.walk_law.proofs.own_seen.OwnSeen.names_point.Goals as goal

pub returns : goal.returns
returns c = λ caller kept s low.
    let point = c.args.point.now in
    let log = log_walked c.args.subject.now in
    let client = ap (λ (o : Sighted). o.client) c.self.view_is ∙ s.client in
    let region = ap (λ (o : Sighted). o.region) c.self.view_is ∙ s.region in
    let named = place_named log caller kept caller.own point.colour (EntersOf c.self.inside.client) point.at c.self.inside.client
    c.seen.result c.journal-journal.result.now c.is_named.result client (c.seen.ensures.kept caller kept s low)
    (c.journal-journal.ensures ∙ ap (λ (r : ℕ). journal_walked c.args.subject.now r point.colour) region) c.is_named.ensures in
    let b = nat_le c.known.result point.position in
    both_told _ _ b
    (subst (λ (n : ℕ). NamesPlace log caller kept caller.own point.colour (EntersOf n) point.at) client
    (told_so c.is_named.result named c.if-not-is_named.false))
    (subst (λ (n : ℕ). Tells b (n ≤ point.position)) (c.known.ensures caller kept s low) (le_told c.known.result point.position))
