-- The players of a transactional map, while their client goes on.
use Rattle.std.proofs.Common.{◌≡◌, ◌≢◌, ℕ, List, Option, Some, None, ap, sym, ◌∙◌}
use Rattle.std.specs.Prelude.{IfSome}
use Rattle.log_client.specs.declared.store.Store.{Store}
use Rattle.log_client.specs.declared.client.Client.{Client}
use Rattle.log_client.specs.Clients.{IsClient}
use Rattle.log_client.specs.Reading.{RestsOn}
use Rattle.log_client.specs.StampedReads.{ReadsGoOn}
use Rattle.region_fold.specs.declared.transactions.TxMap.{TxMap}
use Rattle.region_fold.specs.Transactions.{IsSameTx}
use Rattle.tx_parts.specs.declared.players.PartPlayers.{PartPlayers}
use Rattle.tx_parts.proofs.CallerLemmas.{players_later}
use Rattle.run_script.specs.Opened.{ArePlayersIn}

-- they stay so beside the map, of which more may be folded
pub tx_players_later : ReadsGoOn → (s : Store) (c d : Client) (m n : TxMap) (players : Option PartPlayers) → IsClient s c
    → RestsOn s c d → IsSameTx m n → IfSome players (ArePlayersIn c m) → IfSome players (ArePlayersIn d n)
tx_players_later law s c d m n None is on same kept = tt
tx_players_later law s c d m n (Some players) is on same kept =
    (players_later law s c d on players is kept.0, kept.1 ∙ sym same.0, kept.2 ∙ sym same.1)
