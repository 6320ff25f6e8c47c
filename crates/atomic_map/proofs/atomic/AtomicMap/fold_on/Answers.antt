use Rattle.std.proofs.Common.{◌∙◌, ◌++◌, ◌∷◌, [], ℕ, List, sym, subst}
use Rattle.log_node.specs.Sets.{members}
use Rattle.atomic_map.proofs.MapLines.{FoldsLines, all_folded, folded_next, next_folds, next_low, next_map, none_folded}
use Rattle.atomic_map.proofs.atomic.AtomicMap.fold_on.Goals as goal

pub loop-colour-init : goal.loop-colour-init
loop-colour-init c = (
  [],
  subst (λ (l : List ℕ). FoldsLines c.args.client.now c.args.self.now c.args.self.now c.args.stamp [] l (members c.args.set))
      (sym (c.into_iter-colour-iterator.ensures.into_iter_gives ∙ c.members-colour-items.ensures))
      (none_folded c.args.client.now c.args.self.now c.args.stamp (members c.args.set) c.requires.map c.requires.goes),
)

pub fold_on-requires-clause-folds : goal.fold_on-requires-clause-folds
fold_on-requires-clause-folds c =
    let l = c.loop-colour in
    let i = l.invariant in
    let all = members c.args.set in
    let f = subst (λ (m : List ℕ). FoldsLines c.args.client.now c.args.self.now l.self c.args.stamp i.0 m all)
    c.in-Some.ensures.steps i.1 in
    next_folds c.args.client.now c.args.self.now l.self c.args.stamp c.in-Some.colour i.0 c.next.new.self all
    c.index_mut.result.now f c.requires.lines c.index_mut.ensures.value c.line.result.now c.line.ensures

pub fold_on-requires-clause-low : goal.fold_on-requires-clause-low
fold_on-requires-clause-low c =
    let l = c.loop-colour in
    let i = l.invariant in
    let all = members c.args.set in
    let f = subst (λ (m : List ℕ). FoldsLines c.args.client.now c.args.self.now l.self c.args.stamp i.0 m all)
    c.in-Some.ensures.steps i.1 in
    next_low c.args.client.now c.args.self.now l.self c.args.stamp c.in-Some.colour i.0 c.next.new.self all
    c.index_mut.result.now f c.requires.lines c.index_mut.ensures.value c.line.result.now c.line.ensures

pub loop-colour-preserved : goal.loop-colour-preserved
loop-colour-preserved c =
    let l = c.loop-colour in
    let i = l.invariant in
    let all = members c.args.set in
    let f = subst (λ (m : List ℕ). FoldsLines c.args.client.now c.args.self.now l.self c.args.stamp i.0 m all)
    c.in-Some.ensures.steps i.1 in (
      i.0 ++ c.in-Some.colour ∷ [],
      folded_next c.args.client.now c.args.self.now l.self c.args.stamp c.in-Some.colour i.0 c.next.new.self all
          c.index_mut.result.now f c.requires.lines c.index_mut.ensures.value c.line.result.now c.line.ensures
          c.fold_on.new.kept c.fold_on.ensures.colours c.fold_on.ensures.folds c.fold_on.ensures.low
          c.in_ok-fold_on.ensures.whole,
    )

pub returns-in_err-fold_on-clause-map : goal.returns-in_err-fold_on-clause-map
returns-in_err-fold_on-clause-map c =
    let l = c.loop-colour in
    let i = l.invariant in
    let all = members c.args.set in
    let f = subst (λ (m : List ℕ). FoldsLines c.args.client.now c.args.self.now l.self c.args.stamp i.0 m all)
    c.in-Some.ensures.steps i.1 in
    next_map c.args.client.now c.args.self.now l.self c.args.stamp c.in-Some.colour i.0 c.next.new.self all
    c.index_mut.result.now f c.requires.lines c.index_mut.ensures.value c.line.result.now c.line.ensures
    c.fold_on.new.kept c.fold_on.ensures.colours c.fold_on.ensures.folds c.fold_on.ensures.low

pub returns-clause-whole : goal.returns-clause-whole
returns-clause-whole c =
    let l = c.loop-colour in
    let i = l.invariant in
    let all = members c.args.set in
    all_folded c.args.client.now c.args.self.now l.self c.args.stamp i.0 all
    (subst (λ (m : List ℕ). FoldsLines c.args.client.now c.args.self.now l.self c.args.stamp i.0 m all)
    c.in-None.ensures.steps.0 i.1)
