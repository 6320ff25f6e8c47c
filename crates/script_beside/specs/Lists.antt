-- Lists of commands, one for each client.
use Rattle.std.specs.Prelude.{◌≡◌, ℕ, ◌<◌, ◌≤◌, List, [], ◌∷◌, ◌++◌, length, slice_index_or, Vec}
use Rattle.std.specs.Global.{Global}
use Rattle.script_text.specs.declared.script.Command.{Command}
use Rattle.script_beside.specs.Begins.{own}
use Rattle.script_beside.specs.Dealt.{share_commands}

-- so many lists, all empty
pub record AreEmptyLists {X : Type 0} (count : ℕ) (lists : List (Vec X Global)) : Type 0 where
  pub many : length lists ≡ count
  pub each : (n : ℕ) (d : Vec X Global) → n < length lists → (slice_index_or lists n d).items ≡ []

-- each list has the client's own of the commands behind what it had
pub record HaveOwn (commands : List Command) (before after : List (Vec Command Global)) : Type 0 where
  pub many : length after ≡ length before
  pub each : (n : ℕ) (d : Vec Command Global) → n < length before
      → (slice_index_or after n d).items ≡ (slice_index_or before n d).items ++ own n commands

-- so many lists, each of just the client's own of the commands
pub record AreOwn (count : ℕ) (commands : List Command) (lists : List (Vec Command Global)) : Type 0 where
  pub many : length lists ≡ count
  pub each : (n : ℕ) (d : Vec Command Global) → n < length lists → (slice_index_or lists n d).items ≡ own n commands

-- each share has the list of its number behind what it had, for as many as there are lists
pub record AreBehind (lists : List (Vec Command Global)) (before after : List (Vec (Vec Command Global) Global)) : Type 0 where
  pub many : length after ≡ length before
  pub each : (n : ℕ) (d : Vec (Vec Command Global) Global) (e : Vec Command Global) → n < length lists → n < length before
      → (slice_index_or after n d).items ≡ (slice_index_or before n d).items ++ slice_index_or lists n e ∷ []
  pub others : (n : ℕ) (d : Vec (Vec Command Global) Global) → length lists ≤ n → slice_index_or after n d ≡ slice_index_or before n d

-- the shares of so many clients, in each of which are the client's own of the commands
pub record AreShares (count : ℕ) (commands : List Command) (shares : List (Vec (Vec Command Global) Global)) : Type 0 where
  pub many : length shares ≡ count
  pub each : (n : ℕ) (d : Vec (Vec Command Global) Global) → n < length shares → share_commands (slice_index_or shares n d).items ≡ own n commands
