use Rattle.std.proofs.Common.{◌≡◌, ◌++◌, ◌∷◌, [], ℕ, List, ◌∙◌, ap}
use Rattle.object_fold.specs.Nodes.{keyed_node}
use Rattle.object_fold.specs.Tables.{value_at}
use Rattle.object_law.specs.AmongMaps.{IsAmongMap, counted_with}
use Rattle.object_law.proofs.AmongLemmas.{ok_for_all, one_more}
use Rattle.object_law.proofs.among_map.AmongMapLineFold.feed.Goals as goal

pub returns-clause-ok : goal.returns-clause-ok
returns-clause-ok c = λ nodes stands.
    let old = c.args.self.now in
    let new = c.apply.new.self in
    let set = c.args.node.now.colours in
    let node = keyed_node c.args._key c.args.node.now in
    let P : List ℕ → Type 0 = λ key. value_at new.values.entries key ≡ counted_with old set key c.in_ok-form.form in
    ok_for_all c.apply.result P (IsAmongMap new (nodes ++ node ∷ [])) c.apply.ensures.ok
    (λ each. one_more old new nodes node c.apply.ensures.colours (λ key. each key ∙ ap (counted_with old set key) c.in_ok-form.ensures.form) stands)
