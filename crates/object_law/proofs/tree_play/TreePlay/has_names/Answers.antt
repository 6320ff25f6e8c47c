use Rattle.std.proofs.Common.{◌≡◌, ◌∙◌, ap, subst, sym, List, take}
use Rattle.log_node.specs.declared.ids.Key.{Key}
use Rattle.tree_fold.specs.Readings.{path_of}
use Rattle.tree_fold.specs.TreeStates.{IsTree}
use Rattle.column_track.specs.Tracks.{Tells}
use Rattle.lawful_run.specs.Explains.{ShowsNames}
use Rattle.playback.specs.Merging.{up_to}
use Rattle.object_law.specs.NodeTables.{nodes_under}
use Rattle.object_law.proofs.NamesTold.{names_told}
use Rattle.object_law.proofs.tree_play.TreePlay.has_names.Goals as goal

pub returns-clause-so : goal.returns-clause-so
returns-clause-so c =
    let table = c.args.nodes.now in
    let keys = c.args.self.now.keys.items in
    let count = c.count_up_to-count.result in
    let taken = subst (λ (l : List Key). take count l ≡ up_to c.args.stamp l) c.as_slice.ensures.value
    c.count_up_to-count.ensures.taken in
    subst (λ (l : List Key). Tells c.same_names.result (ShowsNames c.args.path.now c.args.names.now (nodes_under table l))) taken
    (names_told c.names_are_one.ensures (nodes_under table (take count keys)) c.args.path.now c.in-Some.path c.args.names.now
    c.in_ok-found.found (ap path_of (sym c.as_bytes.ensures) ∙ (sym c.in_ok-path.ensures ∙ c.in-Some.is))
    (c.in_ok-found.ensures (nodes_under table (take count keys))
    (subst (λ (l : List Key). IsTree c.go_to.new.self.fold (nodes_under table (take count l))) c.as_slice-2.ensures.value
    c.in_ok-go_to.ensures.here))
    c.same_names.result c.same_names.ensures)
