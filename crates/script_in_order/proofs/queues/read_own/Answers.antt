use Rattle.std.proofs.Common.{◌≤◌, ◌∙◌, ℕ, [], ◌∷◌, Some, length, ap, sym, subst}
use Rattle.col_core.specs.History.{line}
use Rattle.world_laws.specs.declared.steps.Step.TheVariants.{Play}
use Rattle.world_code.specs.WorldView.{world_of}
use Rattle.script_text.specs.declared.script.Kind.TheVariants as kinds
use Rattle.script_in_order.proofs.FoldsKept.{folds_stay}
use Rattle.script_in_order.proofs.queues.read_own.Goals as goal

pub front-front-requires-clause-may : goal.front-front-requires-clause-may
front-front-requires-clause-may c =
    let w = world_of c.args.world.now in
    let f = c.requires.folded in (
      f.0,
      record {
        folded = f.2;
        is_kind = f.1
            ∙ ap (λ (r : ℕ). Some (kinds.Queue r c.args.point.colour)) (sym c.home.ensures.home);
        there = record {
          region = c.home.ensures.within;
          colour = c.requires.colour;
          count = subst (λ (r : ℕ). c.args.point.position ≤ length (line (w.histories r c.args.point.colour)))
              (sym c.home.ensures.home) c.requires.count;
        };
      },
    )

pub returns-in-Ok-clause-folded : goal.returns-in-Ok-clause-folded
returns-in-Ok-clause-folded c = λ objects at f.
    let w = world_of c.args.world.now in
    folds_stay w (world_of c.play-played.new.self) c.is_whole.ensures.reached
    (record { steps = Play c.args.client c.args.point.colour ∷ []; run = sym c.play-played.ensures.world })
    objects c.front-front.new.self
    (c.front-front.ensures.folded objects
    (at ∙ ap (λ (r : ℕ). Some (kinds.Queue r c.args.point.colour)) (sym c.home.ensures.home)) f)

pub returns-in-Err-clause-folded : goal.returns-in-Err-clause-folded
returns-in-Err-clause-folded c = λ objects at f.
    let w = world_of c.args.world.now in
    folds_stay w (world_of c.play-played.new.self) c.is_whole.ensures.reached
    (record { steps = Play c.args.client c.args.point.colour ∷ []; run = sym c.play-played.ensures.world })
    objects c.front-front.new.self
    (c.front-front.ensures.folded objects
    (at ∙ ap (λ (r : ℕ). Some (kinds.Queue r c.args.point.colour)) (sym c.home.ensures.home)) f)
