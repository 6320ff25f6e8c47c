use Rattle.std.proofs.Common.{◌<◌, arith, subst, sym}
use Rattle.std.proofs.lemmas.Option.{slice_get_within}
use Rattle.object_law.specs.declared.part_plays.Shard.{Shard}
use Rattle.object_law.proofs.PartLemmas.{own_low}
use Rattle.object_law.proofs.fourteenth.PartPlays.played.Goals as goal

pub go_to-requires-clause-holds : goal.go_to-requires-clause-holds
go_to-requires-clause-holds c = (c.part_of-play.ensures.play c.args.nodes.now c.requires.plays).0

pub go_to-requires-clause-colour : goal.go_to-requires-clause-colour
go_to-requires-clause-colour c =
    subst (λ (s : Shard). s.colour < c.args.subject.now.script.shape.colours) (sym c.part_of-play.ensures.shard)
    (own_low c.args.subject.now.script.shape.colours c.args.own.now c.requires.own c.in-Some.place c.args.sync.now.colour
    c.in-Some.ensures)

pub go_to-requires-clause-place : goal.go_to-requires-clause-place
go_to-requires-clause-place c =
    let lt = slice_get_within c.args.own.now c.in-Some.place c.args.sync.now.colour c.in-Some.ensures in
    let few = c.requires.own.few in
    subst (λ (s : Shard). s.place < s.colours) (sym c.part_of-play.ensures.shard) (omega (arith, lt, few))

pub returns-clause-plays : goal.returns-clause-plays
returns-clause-plays c = (c.part_of-play.ensures.play c.args.nodes.now c.requires.plays).1
