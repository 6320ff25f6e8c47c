-- Why a call of an object over a client was refused.
use Rattle.std.specs.Prelude.{ℕ}
use Rattle.append_core.specs.declared.several.MultiFault.{MultiFault}
use Rattle.log_client.specs.declared.faults.SyncFault.{SyncFault}
use Rattle.log_client.specs.declared.object_fault.ObjectFault.{ObjectFault}
use Rattle.log_client.specs.declared.object_fault.ObjectFault.TheVariants as faults

-- What each refusal of a call says.
pub record Refusals : Type 1 where
  -- the home that is shown is not the client's region
  pub away : ℕ → Type 0
  pub append : MultiFault → Type 0
  -- a sync or a stamped read was refused, and no node of the call stands
  pub sync : SyncFault → Type 0
  -- the own node stands under the stamp, and what is behind it was refused
  pub unread : ℕ → SyncFault → Type 0
  pub no_tx : Type 0
  pub memory : Type 0

-- None comes: a call says of each that may come what it says.
abbrev pub never : Refusals
never = record {
  away = λ _. ⊥;
  append = λ _. ⊥;
  sync = λ _. ⊥;
  unread = λ _ _. ⊥;
  no_tx = ⊥;
  memory = ⊥;
}

-- what the refusal says that came
abbrev pub RefusedBy : Refusals → ObjectFault → Type 0
RefusedBy refusals (faults.NotHome home) = refusals.away home
RefusedBy refusals (faults.Append fault) = refusals.append fault
RefusedBy refusals (faults.Sync fault) = refusals.sync fault
RefusedBy refusals (faults.Unread stamp why) = refusals.unread stamp why
RefusedBy refusals faults.NoTx = refusals.no_tx
RefusedBy refusals faults.NoMemory = refusals.memory
