use Rattle.std.proofs.Common.{◌≡◌, ap, subst, sym, take}
use Rattle.std.specs.List.{All}
use Rattle.object_law.specs.Found.{StandsAs}
use Rattle.object_law.specs.declared.found_plays.FoundPlay.{FoundPlay}
use Rattle.object_law.specs.declared.key_order.KeyOrder.{KeyOrder}
use Rattle.walk_law.specs.Finds.{finds_at}
use Rattle.object_law.proofs.found_plays.FoundPlay.go_to.Goals as goal
use Rattle.object_law.proofs.found_plays.FoundPlay.go_to.Goals.{then-count-self, else-count-self}

pub go_on-requires-clause-stand : goal.go_on-requires-clause-stand
go_on-requires-clause-stand c =
    let same : c.if-count-self.self.order ≡ c.args.self.now.order = elim c.if-count-self.branch [
      | then-count-self w ↦ ap (λ (p : FoundPlay). p.order) w.self-is
      | else-count-self w ↦ ap (λ (p : FoundPlay). p.order) w.self-is
    ] in
    subst (λ (o : KeyOrder). All (StandsAs c.args.subject.now (finds_at c.args.finds.now)) (take c.args.count o.keys.items)) (sym same)
    c.requires.stand
