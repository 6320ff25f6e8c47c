-- The log with which a store ends, put together.
use Rattle.std.proofs.Common.{◌≡◌, ℕ, ◌<◌, ◌≤◌, List, length, Option, Some, None, slice_get, refl, sym, subst, ◌∙◌, inl, inr, arith}
use Rattle.std.proofs.lemmas.Bool.{cases_lt}
use Rattle.std.proofs.lemmas.Option.{same_Some, slice_get_within}
use Rattle.log_node.specs.declared.node.Node.{Node}
use Rattle.col_core.specs.Log.{Log}
use Rattle.chain_store.specs.declared.hold.Hold.{Hold}
use Rattle.chain_store.specs.declared.region.Region.{Region}
use Rattle.chain_store.specs.declared.closed.ClosedRegion.{ClosedRegion}
use Rattle.chain_store.specs.Joined.{ends_in, AreCarriedAlong}
use Rattle.log_client.specs.Ending.{AreRegions, AreHoldsIn, PullsTruly, HasOwnNodes}
use Rattle.log_client.specs.Closing.{AreHoldsAt, HaveEnded, EndsRegion, EndsStore}
use Rattle.log_client.proofs.Lists.{got, same_items}
use Rattle.log_client.proofs.End.Ends.{Ended, IsEnd, AreCopied}
use Rattle.log_client.proofs.End.JoinedEnds.{copied_at}
use Rattle.log_client.proofs.End.EndsLog.{client_ends, copies, lawful, log, makers}
use Rattle.log_client.proofs.End.EndsRows.{enters_listed, region_ends}

-- for each number below a bound something that is there, and nothing beyond
module _ {A : Type 0} (P : ℕ → A → Type 0) (n : ℕ) (each : (c : ℕ) → c < n → (x : A) × P c x) where
  pub choice_at : (c : ℕ) → (o : Option A) × ((x : A) → o ≡ Some x → P c x) × (c < n → (x : A) × (o ≡ Some x))
      × (n ≤ c → o ≡ None)
  choice_at c = elim (cases_lt c n) [
    | inl lt ↦ (
      Some (each c lt).0,
      λ x e. subst (P c) (same_Some (each c lt).0 x e) (each c lt).1,
      λ _. ((each c lt).0, refl),
      λ le. absurd (let f : ⊥ = omega (arith, lt, le) in f),
    )
    | inr le ↦ (
      None,
      λ x e. absurd (let f : ⊥ = cc in f),
      λ lt. absurd (let f : ⊥ = omega (arith, lt, le) in f),
      λ _. refl,
    )
  ]

module _ (rs : List Region) (regions colours : ℕ) (clients : List (List Hold)) (ends : List ClosedRegion)
    (nodes : ℕ → List Node)
    (are : AreRegions regions rs) (few : length rs ≡ regions)
    (sizes : (n : ℕ) (r : Region) → slice_get rs n ≡ Some r → r.board.size.colours ≡ colours)
    (holds : (u : ℕ) (hs : List Hold) → slice_get clients u ≡ Some hs → AreHoldsIn rs hs)
    (pulls : (u : ℕ) (hs : List Hold) → slice_get clients u ≡ Some hs → PullsTruly rs hs)
    (own : (u : ℕ) (hs : List Hold) → slice_get clients u ≡ Some hs → HasOwnNodes u hs (nodes u))
    (ended : HaveEnded rs clients ends) (along : AreCarriedAlong (ends_in ends)) where
  ends_at : (n : ℕ) → n < regions → (x : Ended) × IsEnd rs clients ends n x
  ends_at n lt =
      let many = ended.0 in
      let r = got rs n (omega (arith, lt, few)) in
      let e = got ends n (omega (arith, lt, few, many)) in
      let h = ended.1 n r.0 e.0 r.1 e.1 in (
        record { r = r.0; e = e.0; ks = h.ks; are_of = h.are_of; closed = h.closed },
        record { region = r.1; end = e.1; holds = h.are_at },
      )

  end_of : ℕ → Option Ended
  end_of n = (choice_at (IsEnd rs clients ends) regions ends_at n).0

  is_end : (n : ℕ) (x : Ended) → end_of n ≡ Some x → IsEnd rs clients ends n x
  unfolding end_of
  is_end n x e = (choice_at (IsEnd rs clients ends) regions ends_at n).1 x e

  has_end : (n : ℕ) → n < regions → (x : Ended) × (end_of n ≡ Some x)
  unfolding end_of
  has_end n lt = (choice_at (IsEnd rs clients ends) regions ends_at n).2 lt

  none_beyond : (n : ℕ) → regions ≤ n → end_of n ≡ None
  unfolding end_of
  none_beyond n le = (choice_at (IsEnd rs clients ends) regions ends_at n).3 le

  below : (n : ℕ) (x : Ended) → end_of n ≡ Some x → n < regions
  below n x e = elim (cases_lt n regions) [
    | inl lt ↦ lt
    | inr le ↦ absurd (let none = sym e ∙ none_beyond n le in let f : ⊥ = cc (none) in f)
  ]

  copied : AreCopied colours end_of
  copied n m colour x y x_there y_there ne lt =
      copied_at rs regions colours clients ends are sizes along n m colour x y (is_end n x x_there) (is_end m y y_there)
      (below n x x_there) (below m y y_there) ne lt

  abbrev the_log : Log
  the_log = log rs regions colours clients ends nodes are few sizes holds pulls own end_of is_end copied has_end none_beyond

  -- A store whose regions have ended, of which each client pulled truly and has its nodes, ends with a log in which each
  -- client has these nodes.
  pub store_ends : (l : Log) × EndsStore regions colours clients ends l × ((u : ℕ) → l.nodes u ≡ nodes u)
  store_ends = (
    the_log,
    record {
      many = ended.0 ∙ few;
      lawful = lawful rs regions colours clients ends nodes are few sizes holds pulls own end_of is_end copied has_end none_beyond;
      makers = makers rs regions colours clients ends nodes are few sizes holds pulls own end_of is_end copied has_end none_beyond;
      ends_with = λ n e at. of_region n e at;
      copies = λ colour lt.
          copies rs regions colours clients ends nodes are few sizes holds pulls own end_of is_end copied has_end none_beyond colour lt;
      each_client = λ u hs at.
          client_ends rs regions colours clients ends nodes are few sizes holds pulls own end_of is_end copied has_end none_beyond
          u hs at;
      entered =
          enters_listed rs regions colours clients ends nodes are few sizes holds pulls own end_of is_end copied has_end none_beyond;
    },
    λ u. refl,
  ) where
    of_region : (n : ℕ) (e : ClosedRegion) → slice_get ends n ≡ Some e
        → (ks : List Hold) × AreHoldsAt clients n ks × EndsRegion the_log regions colours n ks e
    of_region n e at =
        let lt = slice_get_within ends n e at in
        let many = ended.0 in
        let x = has_end n (omega (arith, lt, many, few)) in
        let is = is_end n x.0 x.1 in (
          x.0.ks,
          is.holds,
          subst (EndsRegion the_log regions colours n x.0.ks) (same_items ends n x.0.e e is.end at)
              (region_ends rs regions colours clients ends nodes are few sizes holds pulls own end_of is_end copied has_end none_beyond
              n x.0 x.1),
        )
