-- Stalls, and what they count.
use Rattle.std.specs.Prelude.{◌≡◌, ◌≤◌, ℕ, List, [], ◌∷◌, length, take, codes}
use Rattle.std.specs.List.{count_by}
use Rattle.std.specs.Str.{bytes_eq}
use Rattle.log_node.specs.declared.ids.Colours.{Colours}
use Rattle.log_node.specs.Seen.{PlacedNode}
use Rattle.log_node.specs.Sets.{set_of}
use Rattle.log_client.specs.declared.store.Store.{Store}
use Rattle.log_client.specs.declared.client.Client.{Client}
use Rattle.log_client.specs.Clients.{IsClient, played_of}
use Rattle.example_stalls.specs.declared.counter.Counter.{Counter}
use Rattle.example_stalls.specs.declared.stall.Stall.{Stall}
use Rattle.example_stalls.specs.declared.stall.Drink.{Drink}
use Rattle.example_stalls.specs.declared.stall.Drink.TheVariants.{Tea, Coffee}

-- the colour of the cups that are sold, and the set of it alone
abbrev pub cups : ℕ
cups = 0

-- the colour of cups, as a set
abbrev pub set_of_cups : Colours
set_of_cups = set_of (cups ∷ [])

-- how many of these nodes bear the name
abbrev pub count_of : List ℕ → List PlacedNode → ℕ
count_of name nodes = count_by (λ (item : PlacedNode). bytes_eq item.node.text name) nodes

-- the counter has folded the first of these nodes
pub record CountsFirst (k : Counter) (nodes : List PlacedNode) : Type 0 where
  pub within : k.folded ≤ length nodes
  pub count : k.count ≡ count_of k.name (take k.folded nodes)

-- a counter of a name that has folded nothing
pub record IsNewCounter (name : List ℕ) (k : Counter) : Type 0 where
  pub name_is : k.name ≡ name
  pub nothing : k.count ≡ 0
  pub unfolded : k.folded ≡ 0

-- a store of two regions and one colour
pub record IsShop (s : Store) : Type 0 where
  pub regions : length s.regions ≡ 2
  pub colours : s.size.colours ≡ 1

-- the name of a drink
abbrev pub name_of : Stall → Drink → List ℕ
name_of stall Tea = stall.tea.name
name_of stall Coffee = stall.coffee.name

-- the stall of a client, which has folded nothing
pub record IsNewStall (c : Client) (stall : Stall) : Type 0 where
  pub client_is : stall.client ≡ c
  pub tea : IsNewCounter (codes "tea") stall.tea
  pub coffee : IsNewCounter (codes "coffee") stall.coffee

-- the stall's client rests beside the store, and its counters have folded first nodes of those that it has played
pub record IsStall (s : Store) (stall : Stall) : Type 0 where
  pub client : IsClient s stall.client
  pub tea : CountsFirst stall.tea (played_of stall.client cups)
  pub coffee : CountsFirst stall.coffee (played_of stall.client cups)
