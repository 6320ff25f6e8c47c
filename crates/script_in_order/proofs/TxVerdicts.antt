-- A commit is told the verdict on its transaction.
use Rattle.std.proofs.Common.{◌≡◌, List, map, Option, Some, None, refl, ap}
use Rattle.std.proofs.Math.Path.{fun_ext}
use Rattle.std.specs.Prelude.{unwrap_or}
use Rattle.std.specs.List.{find}
use Rattle.log_node.specs.declared.ids.Key.{Key}
use Rattle.log_node.specs.Order.{same_key}
use Rattle.object_fold.specs.declared.verdict.Verdict.{Verdict}
use Rattle.object_fold.specs.declared.verdict.Verdict.TheVariants.{Committed}
use Rattle.object_fold.specs.Nodes.{ObjectNode}
use Rattle.object_fold.specs.Folds.{told_among, told_of}
use Rattle.object_fold.specs.Transactions.{ruling, verdict_among, verdict_of}
use Rattle.script_meaning.specs.Dequeues.{object_node_at}
use Rattle.script_meaning.specs.Transactions.{verdict_answer, verdict_tells}
use Rattle.script_in_order.specs.Telling.{tells_by}

among : (nodes : List ObjectNode) (node : Option ObjectNode) → told_among ruling nodes node ≡ verdict_among nodes node
among nodes None = refl
among nodes (Some node) = refl

told_verdict : (nodes : List ObjectNode) (own : Key) → told_of ruling nodes own ≡ verdict_of nodes own
told_verdict nodes own = among nodes (find (λ (node : ObjectNode). same_key node.key own) nodes)

-- what the object tells its node, is what it is told
pub tells_verdict : tells_by ruling verdict_answer (λ own. Committed own.stamp) ≡ verdict_tells
tells_verdict = fun_ext (λ w. fun_ext (λ keys. fun_ext (λ own.
    ap (λ (found : Option Verdict). verdict_answer (unwrap_or found (Committed own.stamp)))
    (told_verdict (map (object_node_at w) keys) own))))
