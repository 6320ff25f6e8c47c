use Rattle.std.proofs.Common.{◌≡◌, ◌++◌, map}
use Rattle.lawful_run.specs.Callers.{commands_of}
use Rattle.object_law.specs.Drafts.{filled}
use Rattle.walk_law.specs.Finds.{finds_at}
use Rattle.object_law.proofs.node_told.client_nodes.Given as goal

-- the nodes so far stand before those of the drafts that are left
abbrev pub invariant-loop-draft : goal.invariant-loop-draft
invariant-loop-draft l =
    let fill = filled (commands_of l.subject.script l.client) (finds_at l.finds l.client) in
    l.nodes ++ map fill l.draft-iterator.rest.items ≡ map fill l.initial.draft-iterator.rest.items
