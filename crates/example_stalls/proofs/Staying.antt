-- What a stall has folded stays right while its client goes on.
use Rattle.std.proofs.Common.{◌≡◌, ◌<◌, ℕ, List, length, None, take, refl, inl, ap, sym, subst, ◌∙◌, arith}
use Rattle.std.proofs.lemmas.List.{take_all}
use Rattle.log_node.specs.Seen.{PlacedNode}
use Rattle.lawful_run.proofs.CallerLemmas.{prefix_length, prefix_take}
use Rattle.log_client.specs.declared.store.Store.{Store}
use Rattle.log_client.specs.declared.client.Client.{Client}
use Rattle.log_client.specs.Clients.{IsClient, played_of}
use Rattle.log_client.specs.Growing.{HasGrown}
use Rattle.log_client.specs.Appends.{AreColoursOf, AppendFindsNoMemory}
use Rattle.log_client.specs.Calls.{IsExplained}
use Rattle.log_client.proofs.CallerLemmas.{one_of_store}
use Rattle.example_stalls.specs.declared.counter.Counter.{Counter}
use Rattle.example_stalls.specs.declared.stall.Stall.{Stall}
use Rattle.example_stalls.specs.Stalls.{CountsFirst, IsShop, IsStall, count_of, cups, set_of_cups}

-- what a counter has folded stays the first of what its client has played
pub counts_stay : (k : Counter) (c d : Client) → HasGrown c d → CountsFirst k (played_of c cups)
    → CountsFirst k (played_of d cups)
counts_stay k c d grown first =
    let prefix = (grown cups).0 in
    let within = first.within in
    let long = prefix_length (played_of c cups) (played_of d cups) prefix in record {
      within = omega (arith, within, long);
      count = first.count ∙ ap (λ (nodes : List PlacedNode). count_of k.name nodes)
          (sym (prefix_take (played_of c cups) (played_of d cups) k.folded prefix within));
    }

-- a stall whose client goes on
pub stall_stays : (s : Store) (stall : Stall) (d : Client) → IsStall s stall → IsClient s d → HasGrown stall.client d
    → IsStall s (record stall { client = d })
stall_stays s stall d is rests grown = record {
  client = rests;
  tea = counts_stay stall.tea stall.client d grown is.tea;
  coffee = counts_stay stall.coffee stall.client d grown is.coffee;
}

-- what a counter says of nodes that it has folded to their end
pub all_counted : (old new : Counter) (nodes all : List PlacedNode) (n : ℕ) → nodes ≡ all → CountsFirst new nodes
    → new.folded ≡ length nodes → new.name ≡ old.name → n ≡ new.count → n ≡ count_of old.name all
all_counted old new nodes all n same first whole name is =
    is
    ∙ (first.count ∙ (ap (λ (k : ℕ). count_of new.name (take k nodes)) whole
    ∙ (ap (count_of new.name) (take_all (length nodes) nodes (omega arith) ∙ same) ∙ ap (λ (t : List ℕ). count_of t all) name)))

-- the cups are of the shop's colours
pub cups_are_of : (s : Store) → IsShop s → AreColoursOf s set_of_cups
cups_are_of s shop = let one = shop.colours in one_of_store s 0 (omega (arith, one)) (omega arith)

-- an append for whose text there is no memory does nothing
pub nothing_done : (s : Store) (c : Client) (text : List ℕ) → IsExplained s c c (AppendFindsNoMemory set_of_cups text None)
nothing_done s c text = λ objects kept finished keeps. (kept, keeps, λ rest fits. inl refl)
