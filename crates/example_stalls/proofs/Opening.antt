-- New stalls, of new clients.
use Rattle.std.proofs.Common.{◌≡◌, ℕ, zero, suc, List, [], ◌∷◌, ◌++◌, ◌<◌, length, Some, take, refl, ap, sym, subst, ◌∙◌, arith}
use Rattle.std.specs.Prelude.{slice_get, slice_index_or, codes}
use Rattle.std.specs.List.{AllZip}
use Rattle.log_node.specs.Seen.{PlacedNode}
use Rattle.log_client.specs.declared.store.Store.{Store}
use Rattle.log_client.specs.declared.client.Client.{Client}
use Rattle.log_client.specs.Clients.{IsClient, played_of}
use Rattle.example_stalls.specs.declared.counter.Counter.{Counter}
use Rattle.example_stalls.specs.declared.stall.Stall.{Stall}
use Rattle.example_stalls.specs.Stalls.{CountsFirst, IsStall, IsNewCounter, IsNewStall, count_of, cups}

new_counts : (name : List ℕ) (k : Counter) (nodes : List PlacedNode) → IsNewCounter name k → CountsFirst k nodes
new_counts name k nodes new = record {
  within = let none = new.unfolded in omega (arith, none);
  count = new.nothing ∙ sym (ap (λ (n : ℕ). count_of k.name (take n nodes)) new.unfolded);
}

new_stall : (s : Store) (c : Client) (stall : Stall) → IsNewStall c stall → IsClient s c → IsStall s stall
new_stall s c stall new rests = record {
  client = subst (IsClient s) (sym new.client_is) rests;
  tea = new_counts (codes "tea") stall.tea (played_of stall.client cups) new.tea;
  coffee = new_counts (codes "coffee") stall.coffee (played_of stall.client cups) new.coffee;
}

-- one stall more
pub stall_more : (clients : List Client) (stalls : List Stall) (c : Client) (stall : Stall)
    → AllZip IsNewStall clients stalls → IsNewStall c stall
    → AllZip IsNewStall (clients ++ c ∷ []) (stalls ++ stall ∷ [])
stall_more [] [] c stall all new = (new, tt)
stall_more [] (y ∷ stalls) c stall all new = absurd all
stall_more (x ∷ clients) [] c stall all new = absurd all
stall_more (x ∷ clients) (y ∷ stalls) c stall all new = (all.0, stall_more clients stalls c stall all.1 new)

-- the stalls of clients who are all at rest
pub all_stalls : (s : Store) (clients : List Client) (stalls : List Stall)
    → ((n : ℕ) (c : Client) → slice_get clients n ≡ Some c → IsClient s c) → AllZip IsNewStall clients stalls
    → (k : ℕ) (d : Stall) → k < length stalls → IsStall s (slice_index_or stalls k d)
all_stalls s [] [] rest all k d lt = absurd (let f : ⊥ = omega (arith, lt) in f)
all_stalls s [] (y ∷ stalls) rest all k d lt = absurd all
all_stalls s (x ∷ clients) [] rest all k d lt = absurd all
all_stalls s (x ∷ clients) (y ∷ stalls) rest all zero d lt = new_stall s x y all.0 (rest 0 x refl)
all_stalls s (x ∷ clients) (y ∷ stalls) rest all (suc k) d lt =
    all_stalls s clients stalls (λ n c there. rest (suc n) c there) all.1 k d (omega (arith, lt))
