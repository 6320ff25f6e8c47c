use Rattle.std.proofs.Common.{take}
use Rattle.std.specs.List.{flat_map}
use Rattle.report_text.specs.Replies.{client_lines}
use Rattle.report_beside.specs.Parts.{HaveMore}
use Rattle.report_beside.proofs.parts.push_clients.Given as goal

-- the clients so far stand behind the parts
abbrev pub invariant-loop-client : goal.invariant-loop-client
invariant-loop-client l = HaveMore (λ r. flat_map (client_lines r) (take l.client-index l.clients)) l.initial.parts.items l.parts.items
