-- The store of a script is no larger than a stamp board may be.
use Rattle.std.proofs.Common.{◌≡◌, ℕ, ◌+◌, ◌*◌, ◌≤◌, inl, inr, length, subst, lit≤}
use Rattle.log_node.specs.declared.node.Shape.{Shape}
use Rattle.stamp_board.specs.declared.view.TheConstants.{MAX_WORDS}
use Rattle.stamp_board.proofs.CallerLemmas.{words_within}
use Rattle.script_text.specs.declared.limits.Limits.{Limits}
use Rattle.script_text.specs.declared.limits.TheConstants.{VERSION_1, VERSION_2}
use Rattle.script_text.specs.Versions.{limits_in}
use Rattle.script_text.specs.Fitting.{IsShape}
use Rattle.script_text.proofs.CallerLemmas.{which_limits}

-- a row for each client that its version allows, with two words more than colours
pub words_few : (version : ℕ) (shape : Shape) → IsShape (limits_in version) shape → shape.rows ≤ (limits_in version).rows
    → length shape.homes * shape.rows * (shape.colours + 2) ≤ MAX_WORDS
words_few version shape is rows =
    elim (which_limits version) [
      | inl first ↦ by VERSION_1 first (lit≤ tt)
      | inr second ↦ by VERSION_2 second (lit≤ tt)
    ] where
      by : (limits : Limits) → limits_in version ≡ limits → limits.clients * limits.rows * (limits.colours + 2) ≤ MAX_WORDS
          → length shape.homes * shape.rows * (shape.colours + 2) ≤ MAX_WORDS
      by limits same most =
          let few = subst (λ (l : Limits). IsShape l shape) same is in
          words_within (length shape.homes) shape.rows shape.colours limits.clients limits.rows limits.colours few.few_clients
          (subst (λ (l : Limits). shape.rows ≤ l.rows) same rows) few.few_colours most
