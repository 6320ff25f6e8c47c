use Rattle.std.proofs.Common.{◌≡◌, ◌<◌, ◌++◌, ◌∷◌, ◌==◌, [], ℕ, cond, length, subst, sym}
use Rattle.script_text.specs.declared.script.Command.{Command}
use Rattle.walk_law.specs.PlaceTables.{places_at}
use Rattle.walk_law.proofs.PlaceLemmas.{commands_more}
use Rattle.walk_law.proofs.place_lists.commands_by_client.Goals as goal

pub loop-at-preserved : goal.loop-at-preserved
loop-at-preserved c =
    let at = c.loop-at.at in
    let old = c.loop-at.lists in
    let new = c.add.new.self in
    commands_more c.args.clients c.args.commands.now at c.index-commands-at.result c.loop-at-test.true c.index-commands-at.is
    old new c.in_ok-add.ensures.many
    (subst (λ (x : Command). (other : ℕ) → other < length old
    → places_at new other ≡ cond (other == x.client) (places_at old other ++ at ∷ []) (places_at old other))
    (sym c.index-commands-at.is) c.in_ok-add.ensures.added)
    c.loop-at.invariant
