-- Entries that wait, one after another.
use Rattle.std.proofs.Common.{◌≡◌, ◌∙◌, refl, ap, ℕ, zero, suc, ◌+◌, Bool, Some, None, List, [], ◌∷◌, ◌++◌, map, take, arith}
use Rattle.std.specs.Prelude.{slice_get}
use Rattle.std.specs.Option.{option_map}
use Rattle.log_node.specs.declared.ids.Key.{Key}
use Rattle.log_node.specs.Standings.{Standing}
use Rattle.report_text.specs.declared.report.QueueKey.{QueueKey}
use Rattle.closing_report.specs.Columns.{waiting_shown}

abbrev waiting_pair : Standing → Key × Bool
waiting_pair e = (e.key, e.settled)

pub waiting_more : (q : List Standing) (n : ℕ) (key : Key) (settled : Bool)
    → option_map waiting_pair (slice_get q n) ≡ Some (key, settled)
    → map waiting_shown (take (n + 1) q)
    ≡ map waiting_shown (take n q) ++ (let k : QueueKey = record { key = key; settled = settled } in k) ∷ []
waiting_more [] n key settled is = absurd (let f : ⊥ = cc in f)
waiting_more (e ∷ q) zero key settled is =
    let p : (e.key, e.settled) ≡ (key, settled) = cc in
    ap (λ (x : Key × Bool). (let k : QueueKey = record { key = x.0; settled = x.1 } in k) ∷ []) p
waiting_more (e ∷ q) (suc n) key settled is =
    let s : suc n + 1 ≡ suc (n + 1) = omega arith in
    ap (λ (k : ℕ). map waiting_shown (take k (e ∷ q))) s
    ∙ ap (λ (l : List QueueKey). waiting_shown e ∷ l) (waiting_more q n key settled is)

pub waiting_all : (q : List Standing) (n : ℕ) → option_map waiting_pair (slice_get q n) ≡ None → take n q ≡ q
waiting_all [] zero is = refl
waiting_all [] (suc n) is = refl
waiting_all (e ∷ q) zero is = absurd (let f : ⊥ = cc in f)
waiting_all (e ∷ q) (suc n) is = ap (λ (l : List Standing). e ∷ l) (waiting_all q n is)
