-- What a fitting command may do: its client is one of the world's, and its colours are columns of its region.
use Rattle.std.proofs.Common.{◌≡◌, ℕ, ◌<◌, List, length, true, sym, subst, arith}
use Rattle.std.specs.Prelude.{slice_index}
use Rattle.std.proofs.lemmas.Bool.{and_from, lt-ltb}
use Rattle.log_node.specs.declared.node.Shape.{Shape}
use Rattle.col_core.proofs.CallerLemmas.{In}
use Rattle.world_laws.specs.Worlds.{World, home_of, is_client, is_column}
use Rattle.script_text.specs.declared.script.Command.{Command}
use Rattle.script_text.specs.declared.script.Script.{Script}
use Rattle.script_meaning.specs.States.{State}
use Rattle.script_meaning.specs.Stamped.{read_stamp}
use Rattle.script_meaning.proofs.Run.Invariant.{IsStopped, Runs, IsFitWhere}
use Rattle.script_meaning.proofs.Read.StampedPlays.{MayLook}

module _ (script : Script) (commands : List Command) (state : State) (command : Command)
    (runs : Runs script commands state) {Away Read : Type 0}
    (fit : IsFitWhere script commands command Away Read) where
  abbrev u : ℕ
  u = command.client

  abbrev w : World
  w = state.world

  own_region : home_of w u < w.shape.regions
  own_region = subst (λ (s : Shape). slice_index s.homes u < s.regions) (sym runs.shape) fit.home

  pub own_few : home_of w u < 4
  own_few =
      let a : slice_index script.shape.homes u < 4 = let b = fit.home in let c = fit.few in omega (arith, b, c) in
      subst (λ (s : Shape). slice_index s.homes u < 4) (sym runs.shape) a

  pub client_ok : is_client w u ≡ true
  client_ok = lt-ltb u (length w.shape.homes)
      (subst (λ (s : Shape). u < length s.homes) (sym runs.shape) fit.caller)

  pub column_ok : (c : ℕ) → c < script.shape.colours → is_column w (home_of w u) c ≡ true
  column_ok c lt = and_from _ _ (lt-ltb _ _ own_region)
      (lt-ltb c w.shape.colours (subst (λ (s : Shape). c < s.colours) (sym runs.shape) lt))

  -- colours of the script may be read
  pub may_look : (colours : List ℕ) → ((c : ℕ) → In c colours → c < script.shape.colours)
      → MayLook script.objects (IsStopped commands state.replies) u (read_stamp w u colours) w colours
  may_look colours below =
      record { reached = runs.reached; few = own_few; caller = client_ok; columns = λ c i. column_ok c (below c i) }
