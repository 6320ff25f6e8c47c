use Rattle.std.proofs.Common.{◌≡◌, IfOk, List, ℕ, map, refl, subst, sym}
use Rattle.append_core.specs.declared.stood.Point.{Point}
use Rattle.log_client.specs.Appends.{AreColoursOf}
use Rattle.log_client.specs.Calls.{IsExplained}
use Rattle.log_client.proofs.CallerLemmas.{rests_then}
use Rattle.tx_parts.specs.Deciding.{EndsAs}
use Rattle.tx_parts.proofs.PlayerAnswers.{ends_as, names_still, own_member, own_set, player_later, rests_appended}
use Rattle.tx_parts.proofs.player.PartPlayer.rule.Goals as goal

pub append-appended-requires-clause-colours : goal.append-appended-requires-clause-colours
append-appended-requires-clause-colours g c κs within =
    let e = c.read_outcome.ensures in
    subst (AreColoursOf c.args.store.now) (sym c.of-own.ensures)
    (own_set c.args.store.now c.read_outcome.new.client c.read_outcome.new.self e.client.client e.player)

pub returns-clause-client : goal.returns-clause-client
returns-clause-client g c =
    let e = c.append-appended.ensures in
    rests_then c.args.store.now c.args.client.now c.read_outcome.new.client c.append-appended.new.self c.read_outcome.ensures.client
    (rests_appended c.args.store.now c.read_outcome.new.client c.append-appended.new.self c.of-own.result c.in-Ok.text
    c.append-appended.result e.client e.same e.goes e.grows e.finished e.err)

pub returns-clause-player : goal.returns-clause-player
returns-clause-player g c =
    let e = c.append-appended.ensures in
    player_later c.reads_go_on.ensures c.args.store.now c.read_outcome.new.client c.append-appended.new.self
    (rests_appended c.args.store.now c.read_outcome.new.client c.append-appended.new.self c.of-own.result c.in-Ok.text
    c.append-appended.result e.client e.same e.goes e.grows e.finished e.err)
    c.read_outcome.new.self c.read_outcome.ensures.client.client c.read_outcome.ensures.player

pub returns-clause-ok : goal.returns-clause-ok
returns-clause-ok g c =
    let e = c.append-appended.ensures in
    let r = c.read_outcome.ensures in
    let one = own_member c.read_outcome.new.client c.args.self.now c.read_outcome.new.self c.of-own.result r.player r.same
    c.of-own.ensures in record {
      of_key = refl;
      set = c.of-own.result;
      members_are = one;
      between = c.read_outcome.new.client;
      before = r.client;
      behind = rests_appended c.args.store.now c.read_outcome.new.client c.append-appended.new.self c.of-own.result c.in-Ok.text
          c.append-appended.result e.client e.same e.goes e.grows e.finished e.err;
      reads = c.in_ok-commits.ensures.ok;
      ends = subst (λ (t : List ℕ). IsExplained c.args.store.now c.read_outcome.new.client c.append-appended.new.self
          (EndsAs c.of-own.result t c.append-appended.result)) c.in-Ok.ensures
          (ends_as c.args.store.now c.read_outcome.new.client c.append-appended.new.self c.of-own.result c.in-Ok.text
          c.args.self.now.colour one c.append-appended.result e.ok e.err);
    }

pub returns-clause-stands : goal.returns-clause-stands
returns-clause-stands g c =
    let r = c.read_outcome.ensures in
    subst (λ (l : List ℕ). IfOk c.append-appended.result (λ a. map (λ (p : Point). p.colour) a.stood.points ≡ l))
    (own_member c.read_outcome.new.client c.args.self.now c.read_outcome.new.self c.of-own.result r.player r.same c.of-own.ensures)
    c.append-appended.ensures.points

pub returns-clause-shows : goal.returns-clause-shows
returns-clause-shows g c =
    let shows = c.in_ok-commits.ensures.shows in record {
      raises = shows.raises;
      syncs = shows.syncs;
      played = names_still c.args.client.now c.read_outcome.new.client c.append-appended.new.self c.in_ok-commits.read.syncs
          c.append-appended.ensures.plays shows.played;
    }
