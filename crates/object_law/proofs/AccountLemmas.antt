-- Tables of nodes with the texts that are shown.
use Rattle.std.proofs.Common.{◌≡◌, refl, ℕ, zero, suc, List, [], ◌∷◌, length, map, arith}
use Rattle.log_node.specs.declared.node.Node.{Node}
use Rattle.report_text.specs.declared.report.Report.{Report}
use Rattle.object_law.specs.AccountTables.{as_shown}
use Rattle.object_law.specs.NodeTables.{nodes_at}

pub lists_none : (table : List (List Node)) → length table ≡ 0 → table ≡ []
lists_none [] e = refl
lists_none (x ∷ xs) e = absurd (let f : ⊥ = omega (arith, e) in f)

-- each client's nodes with the texts that are shown
pub lists_shown : (report : Report) (table : List (List Node)) (client : ℕ)
    → nodes_at (map (as_shown report) table) client ≡ as_shown report (nodes_at table client)
lists_shown report [] client = refl
lists_shown report (x ∷ xs) zero = refl
lists_shown report (x ∷ xs) (suc client) = lists_shown report xs client
