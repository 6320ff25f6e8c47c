use Rattle.std.proofs.Common.{◌≡◌, ◌∙◌, ◌++◌, List, Vec, Global, ap, sym, subst}
use Rattle.std.specs.List.{Contains}
use Rattle.std.proofs.lemmas.Result.{IfOk-weaker}
use Rattle.log_node.specs.declared.ids.Key.{Key}
use Rattle.log_node.specs.Sets.{members}
use Rattle.world_code.specs.WorldView.{world_of}
use Rattle.script_meaning.specs.Stamped.{keys_read}
use Rattle.script_in_order.specs.declared.folds.FirstNodes.{FirstNodes}
use Rattle.script_in_order.specs.Folds.{first_keys, keys_behind}
use Rattle.script_in_order.proofs.LinesFolds.{goes_on}
use Rattle.script_in_order.proofs.lines_fold.LinesFold.keys_to.Goals as goal

pub keys_behind-requires : goal.keys_behind-requires
keys_behind-requires g c = record {
  there = λ first i.
      c.requires.folded.there first (subst (λ (l : List FirstNodes). Contains l first) c.as_slice.ensures.value i);
}

pub returns-then-branch-clause-keys : goal.returns-then-branch-clause-keys
returns-then-branch-clause-keys g c =
    let w = world_of c.args.world.now in
    let read = c.args.read in
    let firsts = c.args.self.now.firsts.items in
    let before = c.in_ok-goes_on.ensures c.if-branch.true in
    IfOk-weaker c.keys_behind.result
    (λ (keys : Vec Key Global). keys.items ≡ keys_behind w read.stamp c.as_slice.result.now)
    (λ (keys : Vec Key Global). keys_read w read.client read.stamp (members read.colours) ≡ first_keys w firsts ++ keys.items)
    (λ keys is. goes_on w read.client c.args.self.now.stamp (members read.colours) firsts before.1 read.stamp before.0
    ∙ ap (λ (l : List Key). first_keys w firsts ++ l)
    (sym (is ∙ ap (keys_behind w read.stamp) c.as_slice.ensures.value))) c.keys_behind.ensures

pub returns-else-branch-clause-folded : goal.returns-else-branch-clause-folded
returns-else-branch-clause-folded g c = c.clear.ensures.folded (world_of c.args.world.now)
