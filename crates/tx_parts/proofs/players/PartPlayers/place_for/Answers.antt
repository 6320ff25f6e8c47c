use Rattle.std.proofs.Common.{◌≡◌, ℕ, List, Some, length, refl, ap, sym, subst, ◌∙◌}
use Rattle.std.specs.Prelude.{slice_get}
use Rattle.log_client.specs.Objects.{HasColoursOf}
use Rattle.tx_parts.specs.declared.player.PartPlayer.{PartPlayer}
use Rattle.tx_parts.proofs.MapAnswers.{last_there, players_as, players_more}
use Rattle.tx_parts.proofs.players.PartPlayers.place_for.Goals as goal

pub returns-in_err-push-clause-players : goal.returns-in_err-push-clause-players
returns-in_err-push-clause-players c client of =
    players_as client c.args.self.now (record c.args.self.now { players = c.push.new.self }) (refl, refl) of
    (λ n p at. of.each n p (sym (ap (λ (l : List PartPlayer). slice_get l n) c.in_err-push.ensures.items) ∙ at))

pub returns-clause-players : goal.returns-clause-players
returns-clause-players c client of =
    let e = c.open-player.ensures in
    let copy : c.from-copy.result ≡ c.args.self.now.colours =
    c.from-copy.ensures ∙ (c.in_ok-from_slice.ensures.items ∙ c.as_slice.ensures) in
    players_more client c.args.self.now (record c.args.self.now { players = c.push.new.self }) c.open-player.result (refl, refl) of
    c.in_ok-push.ensures.items (e.player client (subst (HasColoursOf client) (sym copy) of.colours)) (e.of.0, e.of.1 ∙ copy)

pub returns-clause-there : goal.returns-clause-there
returns-clause-there c = (
  c.open-player.result,
  subst (λ (k : ℕ). slice_get c.push.new.self.items k ≡ Some c.open-player.result) (sym (c.len-place.ensures ∙ c.args.self.now.players.ok.0))
      (ap (λ (l : List PartPlayer). slice_get l (length c.args.self.now.players.items)) c.in_ok-push.ensures.items
      ∙ last_there c.args.self.now.players.items c.open-player.result),
  c.open-player.ensures.of.2,
)
