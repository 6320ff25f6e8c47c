use Rattle.std.proofs.Common.{subst, sym, List}
use Rattle.std.specs.List.{All}
use Rattle.log_node.specs.declared.ids.Key.{Key}
use Rattle.object_law.specs.Found.{StandsAs}
use Rattle.walk_law.specs.Finds.{finds_at}
use Rattle.object_law.proofs.found_plays.FoundPlay.find.Goals as goal

pub go_to-requires-clause-stand : goal.go_to-requires-clause-stand
go_to-requires-clause-stand c =
    let walked = c.args.subject.now in
    let order = c.args.self.now.order in
    let its = c.requires.play.order in
    subst (λ (keys : List Key). All (StandsAs walked (finds_at c.args.finds.now)) keys) (sym c.count-count.ensures.stamped)
    (c.texts_stand.ensures walked c.agrees.ensures.may.0 c.agrees.ensures.may.1 c.requires.keeps c.args.stamp
    (finds_at c.args.finds.now) c.requires.found order.region its.region order.colours its.colours)
