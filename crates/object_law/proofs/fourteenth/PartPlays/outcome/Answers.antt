use Rattle.std.proofs.Common.{◌∙◌, ◌<◌, ap, subst, sym, List, ℕ}
use Rattle.std.specs.List.{All}
use Rattle.object_fold.specs.Transactions.{verdict_of}
use Rattle.part_fold.specs.Agreement.{outcome}
use Rattle.lawful_run.specs.Asks.{rising}
use Rattle.object_law.specs.Tenth.{stamped_nodes}
use Rattle.object_law.proofs.PartLemmas.{all_rising, rising_low}
use Rattle.object_law.proofs.fourteenth.PartPlays.outcome.Goals as goal

pub ruled_of-requires-clause-colours : goal.ruled_of-requires-clause-colours
ruled_of-requires-clause-colours c =
    subst (λ (cs : List ℕ). All (λ (colour : ℕ). colour < c.args.subject.now.script.shape.colours) cs)
    (sym c.in_ok-colours.ensures)
    (rising_low c.args.subject.now.script.shape.colours c.agrees.ensures.may.1.fitting.shape.a_colour c.args.own.now c.requires.own)

pub outcome-requires : goal.outcome-requires
outcome-requires c = c.in_ok-play.ensures.play c.args.nodes.now c.requires.stands.plays_are

pub returns-clause-told : goal.returns-clause-told
returns-clause-told c =
    let walked = c.args.subject.now in
    let table = c.args.nodes.now in
    let stamp = c.args.stamp in
    c.in_ok-outcome.ensures.told
    ∙ (ap (λ (r : ℕ). outcome (verdict_of (stamped_nodes walked table r c.in_ok-play.play.order.colours stamp) c.args.key))
    c.in_ok-play.ensures.region
    ∙ (ap (λ (cs : List ℕ). outcome (verdict_of (stamped_nodes walked table c.own-region.result cs stamp) c.args.key))
    (c.in_ok-play.ensures.colours ∙ (c.in_ok-colours.ensures ∙ all_rising c.args.own.now))
    ∙ ap (λ (r : ℕ). outcome (verdict_of (stamped_nodes walked table r (rising c.args.own.now) stamp) c.args.key))
    c.own-region.ensures.own))

pub returns-clause-stands : goal.returns-clause-stands
returns-clause-stands c =
    let table = c.args.nodes.now in
    record {
      plays_are = c.put_ruled.ensures c.args.subject.now table (c.in_ok-play.ensures.plays table c.requires.stands.plays_are)
          c.in_ok-outcome.ensures.holds;
      differ = c.requires.stands.differ;
    }
