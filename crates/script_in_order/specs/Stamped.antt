-- What the parts of a stamped read do, wherever they are granted memory.
use Rattle.std.specs.Prelude.{◌≡◌, Bool, ℕ, Option, None, List, map}
use Rattle.log_node.specs.Vectors.{zeros}
use Rattle.world_laws.specs.Worlds.{World}
use Rattle.report_text.specs.declared.report.RaisePiece.{RaisePiece}
use Rattle.report_text.specs.declared.report.SyncPiece.{SyncPiece}
use Rattle.script_meaning.specs.States.{Grants}
use Rattle.script_meaning.specs.Stamped.{raised, ReadEnd, Whole, Refused, Unraised, read_stamp, raise_in, sync_in, keys_read, read_after_raises, stamped_read}
use Rattle.script_in_order.specs.declared.stamped.Stamped.{Stamped}
use Rattle.script_in_order.specs.declared.stamped.Stamped.TheVariants as stamped
use Rattle.script_in_order.specs.Helps.{FindsNext}

-- a sync of a colour before it is known what it looked at
abbrev pub no_look : ℕ → SyncPiece
no_look colour = record { colour = colour; events = 0; counts = zeros }

-- the same sync, with what it looks at in a world
abbrev pub looked_in : World → ℕ → SyncPiece → SyncPiece
looked_in w client piece = sync_in w client piece.colour

-- The columns of these colours are raised, as far as memory is found; the colour at which it stopped.
pub record RaisesColumns (old : World) (client stamp : ℕ) (colours : List ℕ) (new : World) (stopped : Option ℕ) : Type 0 where
  pub found : ℕ → Bool
  pub is : (grants : Grants) → grants.raises ≡ found
      → raised grants client stamp old colours ≡ record { world = new; stopped = stopped }

-- what the code answers of a read, in the world in which it ended
abbrev pub end_in : World → ℕ → List ℕ → Stamped → ReadEnd
end_in w client colours (stamped.Whole stamp raises syncs) =
    Whole stamp raises syncs (keys_read w client stamp colours)
end_in w client colours (stamped.Refused colour base) = Refused colour base
end_in w client colours stamped.Unraised = Unraised

-- A stamped read to this stamp, of which these raises are told, led on from the one world, in which its columns are
-- raised, to the other, and ended so.
pub record ReadsRaised (old new : World) (client stamp : ℕ) (colours : List ℕ) (raises : List RaisePiece)
    (ends : ReadEnd) : Type 0 where
  pub finds : List (ℕ → Bool)
  pub is : (grants : Grants) → FindsNext grants 0 finds
      → (first : World) → read_stamp first client colours ≡ stamp
      → map (raise_in first client stamp) colours ≡ raises
      → read_after_raises grants client colours first old None ≡ record { world = new; ends = ends }

-- A stamped read led from the one world to the other, and ended so.
pub record ReadsStamped (old new : World) (client : ℕ) (colours : List ℕ) (ends : ReadEnd) : Type 0 where
  pub found : ℕ → Bool
  pub finds : List (ℕ → Bool)
  pub is : (grants : Grants) → grants.raises ≡ found → FindsNext grants 0 finds
      → stamped_read grants old client colours ≡ record { world = new; ends = ends }
