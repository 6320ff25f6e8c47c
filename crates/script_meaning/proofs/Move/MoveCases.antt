-- Syncs, pulls and trims by their cases.
use Rattle.std.proofs.Common.{◌≡◌, ℕ, [], length, true, refl}
use Rattle.std.specs.Prelude.{◌==◌, nat_lt, if◌then◌else◌}
use Rattle.log_node.specs.declared.node.At.TheVariants.{Event}
use Rattle.col_core.proofs.CallerLemmas.{if_true}
use Rattle.world_laws.specs.declared.steps.Step.TheVariants.{Play, Trim}
use Rattle.world_laws.specs.Worlds.{World, home_of, home_history, after, base_after, played_cut, may_play}
use Rattle.script_text.specs.declared.script.Command.{Command}
use Rattle.report_text.specs.declared.report.Answer.{Answer}
use Rattle.report_text.specs.declared.report.Answer.TheVariants as answers
use Rattle.script_meaning.specs.States.{State, Grants, all_granted, answered}
use Rattle.script_meaning.specs.Moves.{nodes_unplayed, synced, lacking, with_give, with_carry, next_at, pulled_from, pulled, trimmed}

-- Answers

abbrev pub play_answer : World → ℕ → ℕ → Answer
play_answer w client colour =
    answers.Synced (record {
      colour = colour;
      events = length (home_history w client colour);
      counts = played_cut w client colour;
    }) (length (nodes_unplayed w client colour))

abbrev pub trimmed_answer : World → ℕ → ℕ → Answer
trimmed_answer w client colour =
    answers.Trimmed colour (base_after w.shape.regions (home_of w client) (home_history w client colour))

abbrev pub pull_answer : World → ℕ → ℕ → ℕ → Answer
pull_answer w client region colour =
    answers.Pulled (lacking w client region colour) (Event (length (w.histories region colour)))
    (next_at (home_history w client colour) (nat_lt 0 (lacking w client region colour)))

abbrev pub with_trim : World → ℕ → ℕ → World
with_trim w client colour = after w (Trim client (home_of w client) colour ((w.clients client).played colour))

-- the first world, and the one after the trim
abbrev pub base_answer : World → World → ℕ → ℕ → Answer
base_answer w w' client colour =
    answers.Based (Event (length (home_history w client colour)))
    (base_after w.shape.regions (home_of w client) (home_history w' client colour))

-- Cases

module _ (grants : Grants) (state : State) (command : Command) where
  abbrev u : ℕ
  u = command.client

  abbrev w : World
  w = state.world

  abbrev pub played : ℕ → State
  played c = answered state command (after w (Play u c)) (play_answer w u c) (nodes_unplayed w u c)

  abbrev pub refused : ℕ → State
  refused c = answered state command w (trimmed_answer w u c) []

  pub synced_is : (c : ℕ) → synced state command c ≡ (if may_play w u c then played c else refused c)
  synced_is c = refl

  abbrev pub stayed : State
  stayed = answered state command w answers.SameRegion []

  abbrev pub carried : ℕ → ℕ → State
  carried region c = answered state command (with_carry w u region c) (pull_answer w u region c) []

  abbrev pub given : ℕ → ℕ → State
  given region c = answered state command (with_give w u region c) answers.NoMemory []

  pub pulled_is : (region c : ℕ) → pulled grants state command region c
      ≡ (if region == home_of w u then stayed else pulled_from grants state command region c)
  pulled_is region c = refl

  pub from_is : (region c : ℕ) → pulled_from grants state command region c
      ≡ (if grants.carry then carried region c else given region c)
  from_is region c = refl

  -- with memory granted everywhere it carries
  pub from_all : (region c : ℕ) → pulled_from all_granted state command region c ≡ carried region c
  from_all region c =
      let t : all_granted.carry ≡ true = refl in
      if_true all_granted.carry (carried region c) (given region c) t

  pub trimmed_is : (c : ℕ) → trimmed state command c
      ≡ answered state command (with_trim w u c) (base_answer w (with_trim w u c) u c) []
  trimmed_is c = refl
