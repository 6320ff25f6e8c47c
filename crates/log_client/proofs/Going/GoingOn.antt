-- A client that has gone on is the same caller, and sees on.
use Rattle.std.proofs.Common.{◌≡◌, List, length, sym, arith}
use Rattle.script_text.specs.declared.script.Object.{Object}
use Rattle.client_law.specs.Knowing.{SeesOn}
use Rattle.log_client.specs.declared.store.Store.{Store}
use Rattle.log_client.specs.declared.client.Client.{Client}
use Rattle.log_client.specs.Fits.{HaveGoneOn}
use Rattle.log_client.specs.Clients.{IsClient, caller_of, holds_of, seen_of}
use Rattle.log_client.specs.Calls.{IsSame}
use Rattle.log_client.proofs.Known.Seeing.{sees_on}
use Rattle.log_client.proofs.Going.AtHome.{are_regions}

pub same_caller : (s : Store) (c d : Client) (objects : List Object) → IsSame c d
    → caller_of s c objects ≡ caller_of s d objects
same_caller s c d objects same = λ i. record {
  client = sym same.0 i;
  own = sym same.1 i;
  regions = length s.regions;
  rows = s.size.rows;
  objects = objects;
}

pub client_sees_on : (s : Store) (c d : Client) (objects : List Object) → IsClient s d → HaveGoneOn (holds_of c) (holds_of d)
    → SeesOn (caller_of s d objects) (seen_of c) (seen_of d)
client_sees_on s c d objects is goes =
    let few = s.fit.few in
    let lt = is.region in
    sees_on (caller_of s d objects) s.regions (holds_of c) (holds_of d) (omega (arith, few, lt)) (are_regions s) is.holds goes
