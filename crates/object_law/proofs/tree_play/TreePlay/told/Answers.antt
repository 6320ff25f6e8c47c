use Rattle.std.proofs.Common.{◌≡◌, ◌∙◌, subst, List, take}
use Rattle.log_node.specs.declared.ids.Key.{Key}
use Rattle.tree_fold.specs.Trees.{telling}
use Rattle.playback.specs.Merging.{up_to}
use Rattle.object_law.specs.ToldNodes.{HasPlace}
use Rattle.object_law.proofs.ToldOfLemmas.{none_there, none_up, told_up}
use Rattle.object_law.proofs.tree_play.TreePlay.told.Goals as goal

pub returns-then-place-count : goal.returns-then-place-count
returns-then-place-count c = λ table are.
    c.index.ensures
    ∙ told_up telling table c.args.self.now.keys.items c.requires.rising c.args.own c.count_up_to-count.result _
    (subst (λ (l : List Key). take c.count_up_to-count.result l ≡ up_to c.args.stamp l) c.as_slice.ensures.value
    c.count_up_to-count.ensures.taken) c.args.self.now.told.items are c.in-Some.place
    (subst (HasPlace c.args.self.now.keys.items c.args.own) c.in-Some.is
    (subst (λ (l : List Key). HasPlace l c.args.own c.place_of.result) c.as_slice-2.ensures.value c.place_of.ensures)) c.if-place-count.true _

pub returns-else-place-count : goal.returns-else-place-count
returns-else-place-count c = λ table are.
    none_up telling table c.args.self.now.keys.items c.requires.rising c.args.own c.count_up_to-count.result _
    (subst (λ (l : List Key). take c.count_up_to-count.result l ≡ up_to c.args.stamp l) c.as_slice.ensures.value
    c.count_up_to-count.ensures.taken) c.in-Some.place
    (subst (HasPlace c.args.self.now.keys.items c.args.own) c.in-Some.is
    (subst (λ (l : List Key). HasPlace l c.args.own c.place_of.result) c.as_slice-2.ensures.value c.place_of.ensures)) c.if-place-count.false

pub returns-in-None : goal.returns-in-None
returns-in-None c = λ table are.
    none_there telling table c.args.self.now.keys.items c.requires.rising c.args.own c.count_up_to-count.result _
    (subst (λ (l : List Key). take c.count_up_to-count.result l ≡ up_to c.args.stamp l) c.as_slice.ensures.value
    c.count_up_to-count.ensures.taken)
    (subst (HasPlace c.args.self.now.keys.items c.args.own) c.in-None.is
    (subst (λ (l : List Key). HasPlace l c.args.own c.place_of.result) c.as_slice-2.ensures.value c.place_of.ensures))
