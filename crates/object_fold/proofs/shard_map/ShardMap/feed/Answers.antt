use Rattle.std.proofs.Common.{◌≡◌, ◌++◌, ◌∷◌, [], ℕ, List, sym, ap, ◌∙◌}
use Rattle.object_form.specs.Readings.{form_of}
use Rattle.object_fold.specs.Tables.{value_at}
use Rattle.object_fold.specs.States.{IsShardMap, mine_with}
use Rattle.object_fold.proofs.MapLemmas.{one_more, ok_for_all}
use Rattle.object_fold.proofs.shard_map.ShardMap.feed.Goals as goal

pub returns-clause-ok : goal.returns-clause-ok
returns-clause-ok c = λ nodes node text stands.
    let old = c.args.self.now in
    let new = c.apply.new.self in
    let P : List ℕ → Type 0 = λ key. value_at new.values.entries key ≡ mine_with old key c.in_ok-form.form in
    let form : c.in_ok-form.form ≡ form_of node.text = c.in_ok-form.ensures.form ∙ ap form_of (sym text) in
    ok_for_all c.apply.result P (IsShardMap new (nodes ++ node ∷ [])) c.apply.ensures.ok
    (λ each. one_more old new nodes node c.apply.ensures.shard (λ key. each key ∙ ap (mine_with old key) form) stands)
