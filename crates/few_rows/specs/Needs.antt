-- How many rows the clients of a script need: how many are as good as those of the script.
use Rattle.std.specs.Prelude.{◌≡◌, ◌⊎◌, ℕ, ◌≤◌}
use Rattle.script_text.specs.declared.script.Script.{Script}
use Rattle.script_beside.specs.Begins.{begins_in}
use Rattle.lawful_run.specs.Callers.{commands_of}

-- the script, where each client may begin so many rows
abbrev pub with_rows : Script → ℕ → Script
with_rows script rows = record script { shape = record script.shape { rows = rows } }

-- So many rows are as good as those of the script: they are no more, and either all of them, or one for each command of
-- each client that may begin one.
pub record AreEnough (script : Script) (rows : ℕ) : Type 0 where
  pub few : rows ≤ script.shape.rows
  pub enough : (rows ≡ script.shape.rows)
      ⊎ ((client : ℕ) → begins_in (commands_of script client) ≤ rows)
