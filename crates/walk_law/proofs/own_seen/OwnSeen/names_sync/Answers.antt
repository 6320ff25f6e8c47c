use Rattle.std.proofs.Common.{◌≡◌, ◌∙◌, ap, arith}
use Rattle.log_node.specs.Vectors.{at}
use Rattle.walk_law.specs.Fourth.{Sighted}
use Rattle.walk_law.proofs.Lists.{told_so}
use Rattle.walk_law.proofs.own_seen.OwnSeen.names_sync.Goals as goal

pub returns-then-of_region-known : goal.returns-then-of_region-known
returns-then-of_region-known c = λ caller kept s low named.
    let sync = c.args.sync in
    let stood : c.of_region.result ≡ at sync.counts caller.own =
    c.of_region.ensures ∙ ap (at sync.counts) (ap (λ (o : Sighted). o.region) c.self.view_is ∙ s.region) in
    let known = c.known.ensures caller kept s low in
    let lt = c.if-of_region-known.true in
    let le = named.1 in
    let f : ⊥ = omega (arith, stood, known, lt, le) in f

pub returns : goal.returns
returns c = λ caller kept s low.
    let sync = c.args.sync in
    let stood : c.of_region.result ≡ at sync.counts caller.own =
    c.of_region.ensures ∙ ap (at sync.counts) (ap (λ (o : Sighted). o.region) c.self.view_is ∙ s.region) in
    let known = c.known.ensures caller kept s low in
    let ge = c.if-of_region-known.false in (
      (told_so c.names_look.result (c.names_look.ensures caller kept s low) c.if-not-names_look.false, omega (arith, stood, known, ge)),
      c.synced.ensures caller kept s,
    )
