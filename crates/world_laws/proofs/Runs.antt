-- Every world that steps have made has what holds.
use Rattle.std.proofs.Common.{List, [], ◌∷◌, ◌++◌, ◌≡◌, ℕ, refl, ap, sym, ◌∙◌, arith}
use Rattle.log_node.specs.declared.node.Shape.{Shape}
use Rattle.world_laws.specs.declared.steps.Step.{Step}
use Rattle.world_laws.specs.declared.steps.Step.TheVariants as steps
use Rattle.world_laws.specs.Worlds.{World, after, run_steps, opened, may_begin, may_propose, may_fence, may_decide, may_settle, may_single, may_raise, may_give, may_carry, is_column, may_play, may_see}
use Rattle.std.specs.Prelude.{◌==◌}
use Rattle.log_node.specs.declared.node.Head.{Head}
use Rattle.col_core.specs.Cuts.{chain}
use Rattle.col_core.proofs.CallerLemmas.{choice}
use Rattle.world_laws.proofs.Held.{Held, Unborn}
use Rattle.world_laws.proofs.Clients.{keeps_begin, keeps_single, keeps_play, keeps_seen}
use Rattle.world_laws.proofs.OfColumns.{keeps_raise, keeps_give, keeps_carry, keeps_trim}
use Rattle.world_laws.proofs.OfRows.{may_fence_marks, keeps_propose, keeps_fence, keeps_decide, keeps_settle}

-- where nothing has happened all chains are empty
empty_chain : (own region : ℕ) → chain own [] region ≡ []
empty_chain own region = choice (λ (l : List Head). l ≡ []) (region == own) [] [] (λ _. refl) (λ _. refl)

empty_chains : (origin copier : ℕ) → chain copier [] origin ++ [] ≡ chain origin [] origin
empty_chains origin copier =
    ap (λ (l : List Head). l ++ []) (empty_chain copier origin) ∙ sym (empty_chain origin origin)

pub opened_held : (shape : Shape) → Held (opened shape)
opened_held shape = record {
  kind = λ id. Unborn;
  fresh = λ id le. refl;
  fits = λ id r c. refl;
  rows = λ a n lt. absurd (let x : ⊥ = omega (arith, lt) in x);
  lawful = λ r c n d at. absurd (let x : ⊥ = cc in x);
  heads = λ r c region head i. absurd i;
  floors = λ a. omega arith;
  copies = λ c origin copier lo lc ne. record {
    rest = [];
    beginning = empty_chains origin copier;
    noted_held = omega arith;
  };
}

pub after_held : (w : World) → Held w → (s : Step) → Held (after w s)
after_held w h (steps.Begin client colours text) =
    choice Held (may_begin w client colours) _ w (λ ok. keeps_begin w h client colours text) (λ other. h)
after_held w h (steps.Propose by row colour) =
    choice Held (may_propose w row colour) _ w (λ ok. keeps_propose w h by row colour ok) (λ other. h)
after_held w h (steps.Fence row colour why) =
    choice Held (may_fence w row colour why) _ w
    (λ ok. keeps_fence w h row colour why (may_fence_marks w row colour why ok)) (λ other. h)
after_held w h (steps.Decide row) = choice Held (may_decide w row) _ w (λ ok. keeps_decide w h row ok) (λ other. h)
after_held w h (steps.Settle by row colour) =
    choice Held (may_settle w row colour) _ w (λ ok. keeps_settle w h by row colour ok) (λ other. h)
after_held w h (steps.Single client colour text) =
    choice Held (may_single w client colour) _ w (λ ok. keeps_single w h client colour text ok) (λ other. h)
after_held w h (steps.Raise by region colour to) =
    choice Held (may_raise w region colour to) _ w (λ ok. keeps_raise w h by region colour to ok) (λ other. h)
after_held w h (steps.Give by origin region colour from) =
    choice Held (may_give w origin region colour from) _ w
    (λ ok. keeps_give w h by origin region colour from ok) (λ other. h)
after_held w h (steps.Carry by origin region colour start count) =
    choice Held (may_carry w origin region colour start count) _ w
    (λ ok. keeps_carry w h by origin region colour start count ok) (λ other. h)
after_held w h (steps.Trim by region colour counts) =
    choice Held (is_column w region colour) _ w (λ _. keeps_trim w h by region colour counts) (λ other. h)
after_held w h (steps.Play client colour) =
    choice Held (may_play w client colour) _ w (λ ok. keeps_play w h client colour) (λ other. h)
after_held w h (steps.Seen client to) =
    choice Held (may_see w client to) _ w (λ ok. keeps_seen w h client to ok) (λ other. h)

pub run_held : (w : World) → Held w → (steps : List Step) → Held (run_steps w steps)
run_held w h [] = h
run_held w h (s ∷ steps) = run_held (after w s) (after_held w h s) steps

pub held : (shape : Shape) (steps : List Step) → Held (run_steps (opened shape) steps)
held shape steps = run_held (opened shape) (opened_held shape) steps

pub run_steps-append : (w : World) (xs ys : List Step) → run_steps w (xs ++ ys) ≡ run_steps (run_steps w xs) ys
run_steps-append w [] ys = refl
run_steps-append w (x ∷ xs) ys = run_steps-append (after w x) xs ys
