use Rattle.std.proofs.Common.{◌∙◌, ◌≤◌, ap, subst, length, take, ℕ}
use Rattle.std.specs.Prelude.{nat_le}
use Rattle.col_core.specs.History.{line}
use Rattle.lawful_run.specs.Reads.{events_until}
use Rattle.column_track.specs.Tracks.{Tells}
use Rattle.run_rules.specs.Naming.{IsRaise}
use Rattle.walk_law.specs.Fourth.{Sighted}
use Rattle.walk_law.specs.Walking.{journal_walked, log_walked}
use Rattle.walk_law.proofs.FourthLemmas.{both_told, le_told, place_named}
use Rattle.walk_law.proofs.Lists.{told_so}
use Rattle.walk_law.proofs.own_seen.OwnSeen.names_raise.Goals as goal

pub returns : goal.returns
returns c = λ caller kept s low.
    let raise = c.args.raise in
    let walked = c.args.subject.now in
    let client = ap (λ (o : Sighted). o.client) c.self.view_is ∙ s.client in
    let region = ap (λ (o : Sighted). o.region) c.self.view_is ∙ s.region in
    let named = place_named (log_walked walked) caller kept caller.own raise.colour IsRaise raise.at c.self.inside.client c.seen-seen.result
    c.journal-journal.result.now c.is_named.result client (c.seen-seen.ensures.kept caller kept s low)
    (c.journal-journal.ensures ∙ ap (λ (r : ℕ). journal_walked walked r raise.colour) region) c.is_named.ensures in
    let b = nat_le c.known.result c.line_length-stood.result in
    let stood = c.line_length-stood.ensures
    ∙ (ap (λ (n : ℕ). length (line (take n (journal_walked walked c.self.inside.region raise.colour)))) c.events_until.ensures
    ∙ ap (λ (r : ℕ). length (line (take (events_until raise.at) (journal_walked walked r raise.colour)))) region) in
    both_told _ _ b (told_so c.is_named.result named c.if-not-is_named.false)
    (subst (λ (n : ℕ). Tells b (kept.known raise.colour ≤ n)) stood
    (subst (λ (n : ℕ). Tells b (n ≤ c.line_length-stood.result)) (c.known.ensures caller kept s low)
    (le_told c.known.result c.line_length-stood.result)))
