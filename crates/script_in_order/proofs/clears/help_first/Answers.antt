use Rattle.std.proofs.Common.{◌≡◌, ◌∙◌, ap, subst, ℕ, [], refl}
use Rattle.world_laws.specs.Worlds.{World, home_of}
use Rattle.world_laws.proofs.CallerLemmas.{run_grows}
use Rattle.world_laws.specs.Completing.{complete_steps}
use Rattle.world_code.specs.WorldView.{world_of}
use Rattle.world_code.specs.Looks.{IsFirstBelow, open_below}
use Rattle.script_in_order.proofs.HelpsAndClears.{first_helped, none_helped, next_helped}
use Rattle.script_in_order.proofs.clears.help_first.Goals as goal

pub returns-in-Some-clause-helps : goal.returns-in-Some-clause-helps
returns-in-Some-clause-helps c =
    let w = world_of c.args.world.now in
    let new = world_of c.complete.new.self in
    first_helped w new c.args.by (home_of w c.args.by) c.args.colour c.args.key c.in-Some.row c.complete.result
    (subst (λ (r : ℕ). IsFirstBelow w r c.args.colour c.args.key c.in-Some.row) c.home-home.ensures.home
    c.in-Some.ensures.some)
    c.complete.ensures (next_helped c.args.by c.args.colour c.args.key) (λ grants count. refl)

pub returns-in-Some-clause-shape : goal.returns-in-Some-clause-shape
returns-in-Some-clause-shape c =
    let w = world_of c.args.world.now in
    let done = c.complete.ensures in
    ap (λ (x : World). x.shape) done.world ∙ (run_grows w (complete_steps w c.args.by c.in-Some.row done.found)).shape

pub returns-in_default-clause-helps : goal.returns-in_default-clause-helps
returns-in_default-clause-helps c =
    let w = world_of c.args.world.now in
    none_helped w c.args.by (home_of w c.args.by) c.args.colour c.args.key
    (subst (λ (r : ℕ). open_below c.args.key (w.histories r c.args.colour) ≡ []) c.home-home.ensures.home
    (c.open_row_below.ensures.none c.in_default.is))
    (next_helped c.args.by c.args.colour c.args.key) (λ grants count. refl)
