-- How keys and entries are told apart: each is stored as the tuple of its fields.
use Rattle.std.specs.Prelude.{Bool, ℕ, refl}
use Rattle.std.specs.Coded.{Coded, code_by, coded×, coded_ℕ, coded_bool}
use Rattle.log_node.specs.declared.ids.Key.{Key}
use Rattle.skeen_core.specs.declared.waiting.Waiting.{Waiting}
use Rattle.log_node.specs.Standings.{Standing}

abbrev pub key_code : Coded Key
key_code =
    code_by
    (ℕ × (ℕ × ℕ))
    (coded× coded_ℕ (coded× coded_ℕ coded_ℕ))
    (λ k. (k.stamp, (k.id.client, k.id.count)))
    (λ p. record { stamp = p.0; id = record { client = p.1.0; count = p.1.1 } })
    (λ _. refl)

abbrev pub standing_code : Coded Standing
standing_code =
    code_by
    (Key × Bool)
    (coded× key_code coded_bool)
    (λ e. (e.key, e.settled))
    (λ p. record { key = p.0; settled = p.1 })
    (λ _. refl)

abbrev pub waiting_code : {T : Type 0} → Coded T → Coded (Waiting T)
waiting_code {T} code =
    code_by
    (Key × (Bool × T))
    (coded× key_code (coded× coded_bool code))
    (λ w. (w.key, (w.settled, w.thing)))
    (λ p. record { key = p.0; settled = p.1.0; thing = p.1.1 })
    (λ _. refl)
