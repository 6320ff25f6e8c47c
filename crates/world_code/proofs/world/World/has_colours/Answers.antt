use Rattle.std.proofs.Common.{ℕ, List, ap, ◌∙◌, rules, tests}
use Rattle.std.specs.Prelude.{nat_lt}
use Rattle.std.specs.List.{list_all}
use Rattle.std.proofs.lemmas.Iterator.Consumers.{YieldsList-from_first}
use Rattle.std.proofs.lemmas.Iterator.Search.{all_from_yields_List}
use Rattle.log_node.specs.Sets.{members}
use Rattle.world_code.specs.WorldView.{WorldView}
use Rattle.world_code.proofs.world.World.has_colours.Goals as goal

pub returns : goal.returns
returns c =
    let set = c.args.colours in
    let limit = c.self.inside.shape.colours in
    all_from_yields_List (λ (k : ℕ). nat_lt k limit) _ _ _ c.all.ensures.ran
    (YieldsList-from_first (λ (k : ℕ). k) (λ (l : List ℕ). l) (members set) c.members.ensures)
    (λ x b q k. search (rules, tests))
    ∙ ap (λ (k : WorldView). list_all (λ n. nat_lt n k.shape.colours) (members set)) c.self.view_is
