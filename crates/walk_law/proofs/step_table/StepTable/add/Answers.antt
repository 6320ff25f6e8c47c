use Rattle.std.proofs.Common.{◌∙◌, ap, sym, subst, cond, ◌≡◌, List, ℕ, Some}
use Rattle.std.specs.Ordering.{is_eq}
use Rattle.std.specs.Map.{lookup}
use Rattle.log_node.specs.declared.ids.Id.{Id}
use Rattle.log_node.specs.contracts.ids.IdOrd.TheImpl.{cmp-value}
use Rattle.walk_law.proofs.PlaceLemmas.{listed, one_step}
use Rattle.walk_law.proofs.step_table.StepTable.add.Goals as goal
use Rattle.walk_law.proofs.step_table.StepTable.add.Goals.{in-Some, in-None}

pub returns : goal.returns
returns c =
    let old = c.args.self.now.by_id.entries in
    let taken = c.remove.new.self.entries in
    let new = c.insert.new.self.entries in
    let was = c.match-remove.places in
    let here : was ≡ listed (lookup (λ k. is_eq (cmp-value.it c.args.id k)) old) =
    elim c.match-remove.branch [
      | in-Some w ↦ w.places-is ∙ ap listed (sym w.in-Some.is ∙ c.remove.ensures.value)
      | in-None w ↦ w.places-is ∙ (w.new-places.ensures ∙ ap listed (sym w.in-None.is ∙ c.remove.ensures.value))
    ] in
    one_step old taken new c.args.id c.args.place was here c.remove.ensures.updates.0
    (subst (λ (l : List ℕ). (other : Id) → lookup (λ k. is_eq (cmp-value.it other k)) new
    ≡ cond (is_eq (cmp-value.it c.args.id other)) (Some l) (lookup (λ k. is_eq (cmp-value.it other k)) taken))
    c.in_ok-push.ensures.ok c.in_ok-insert.ensures.updates.0)
