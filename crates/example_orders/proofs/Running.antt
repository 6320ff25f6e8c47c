-- Worlds after the writer's steps and the reader's plays.
use Rattle.std.proofs.Common.{◌≡◌, ℕ, ◌+◌, ◌≤◌, List, [], ◌∷◌, ◌++◌, Some, take, drop, ap, sym, ◌∙◌, arith}
use Rattle.std.specs.Prelude.{slice_get}
use Rattle.std.proofs.lemmas.List.{take_more, drop-append-le, length-take-le}
use Rattle.std.proofs.lemmas.Option.{slice_get_within, get_or_from_slice_get}
use Rattle.world_laws.specs.declared.steps.Step.{Step}
use Rattle.world_laws.specs.Worlds.{World, after, run_steps}
use Rattle.world_laws.proofs.CallerLemmas.{run_steps-append}

-- one step more
pub step_more : (w : World) (steps : List Step) (i n : ℕ) (s : Step) → i ≤ n → slice_get steps n ≡ Some s
    → run_steps w (drop i (take (n + 1) steps)) ≡ after (run_steps w (drop i (take n steps))) s
step_more w steps i n s le there =
    let lt = slice_get_within steps n s there in
    let long = length-take-le n steps (omega (arith, lt)) in
    ap (λ (l : List Step). run_steps w (drop i l))
    (take_more steps n s lt ∙ ap (λ (x : Step). take n steps ++ x ∷ []) (get_or_from_slice_get steps n s s there))
    ∙ (ap (run_steps w) (drop-append-le i (take n steps) (s ∷ []) (omega (arith, long, le)))
    ∙ run_steps-append w (drop i (take n steps)) (s ∷ []))

-- some steps, one, some, and one: each from the world that the ones before it made
pub in_parts : (start w x y z last : World) (before between : List Step) (one other : Step) → w ≡ start
    → x ≡ run_steps w before → y ≡ after x one → z ≡ run_steps y between → last ≡ after z other
    → last ≡ run_steps start (before ++ (one ∷ (between ++ (other ∷ []))))
in_parts start w x y z last before between one other at_w at_x at_y at_z at_last =
    at_last
    ∙ (ap (λ (v : World). after v other)
    (at_z ∙ ap (λ (v : World). run_steps v between)
    (at_y ∙ ap (λ (v : World). after v one) (at_x ∙ ap (λ (v : World). run_steps v before) at_w)))
    ∙ (sym (run_steps-append (after (run_steps start before) one) between (other ∷ []))
    ∙ sym (run_steps-append start before (one ∷ (between ++ (other ∷ []))))))
