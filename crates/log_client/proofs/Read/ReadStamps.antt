-- The stamp of a read: the clocks of its colours are looked at, one after another.
use Rattle.std.proofs.Common.{◌≡◌, ℕ, ◌≤◌, max, List, [], ◌∷◌, ◌++◌, length, reverse, refl, ap, sym, subst, ◌∙◌, inl, inr, arith, append_assoc, append-nil}
use Rattle.std.specs.List.{All}
use Rattle.std.proofs.lemmas.Bool.{cases_lt}
use Rattle.std.proofs.lemmas.List.{take_all}
use mathlib.Core.List.{IsPrefix}
use Rattle.log_node.specs.declared.limits.TheConstants.{MAX_STAMP}
use Rattle.col_core.specs.declared.Entry.{Entry}
use Rattle.col_core.specs.Computed.{dated}
use Rattle.col_core.specs.History.{clock}
use Rattle.col_core.specs.Legal.{IsColumnHistory}
use Rattle.col_core.proofs.CallerLemmas.{In, contains_in, in_append, in_contains, in_left, in_right, past_clock_within, clock-of, lawful_past, dated-is_dated, IsLawfulPast}
use Rattle.lawful_run.proofs.CallerLemmas.{prefix_length, prefix_take}
use Rattle.log_client.specs.declared.store.Store.{Store}
use Rattle.log_client.specs.declared.client.Client.{Client}
use Rattle.log_client.specs.Clients.{seen_of}
use Rattle.log_client.specs.Reading.{RestsOn, IsChosen, home_seen}
use Rattle.log_client.proofs.Going.Explaining.{sees_then}
use Rattle.log_client.proofs.Read.HiddenReads.{all_from}
use Rattle.log_client.proofs.Read.ClearedHolds.{clock_grows}

module _ (s : Store) (c d : Client) (on : RestsOn s c d) where
  pub home_more : (k : ℕ) → IsPrefix (home_seen c k) (home_seen d k)
  home_more k = subst (λ (r : ℕ). IsPrefix (seen_of c r k) (home_seen d k)) on.same.1
      ((sees_then s c d on []).more d.region k)

  pub home_lawful : (k : ℕ) → IsColumnHistory d.region (length s.regions) (dated d.region (home_seen d k))
  home_lawful k = (sees_then s c d on []).lawful d.region k

  pub home_clock : (k : ℕ) → clock (home_seen c k) ≤ clock (home_seen d k)
  home_clock k = clock_grows d.region (length s.regions) (home_seen c k) (home_seen d k) (home_more k) (home_lawful k)

-- the clocks of the first of these colours were looked at
pub record LookedFirst (c d : Client) (left colours : List ℕ) (stamp : ℕ) : Type 0 where
  pub first : List ℕ
  pub apart : first ++ left ≡ colours
  pub above : (k : ℕ) → In k first → clock (home_seen c k) ≤ stamp
  pub chosen : IsChosen c d first stamp

pub none_looked : (c : Client) (colours : List ℕ) → LookedFirst c c colours colours c.floor
none_looked c colours = record { first = []; apart = refl; above = λ k i. absurd i; chosen = inl refl }

-- what is chosen stays so
chosen_on : (s : Store) (c d e : Client) (first more : List ℕ) (stamp : ℕ) → RestsOn s d e → IsChosen c d first stamp
    → IsChosen c e (first ++ more) stamp
chosen_on s c d e first more stamp on (inl is) = inl is
chosen_on s c d e first more stamp on (inr (k, among, events, since, there, is)) =
    let p = home_more s d e on k in
    let long = prefix_length (home_seen d k) (home_seen e k) p in
    inr (
      k,
      contains_in (first ++ more) k (in_left k first more (in_contains first k among)),
      events,
      since,
      omega (arith, long, there),
      is ∙ ap clock (sym (prefix_take (home_seen d k) (home_seen e k) events p there)),
    )

-- one more
pub looked_next : (s : Store) (c d e : Client) (k : ℕ) (left colours : List ℕ) (stamp value : ℕ) → RestsOn s c e
    → RestsOn s d e → value ≡ clock (home_seen e k) → LookedFirst c d (k ∷ left) colours stamp
    → LookedFirst c e left colours (max value stamp)
looked_next s c d e k left colours stamp value far near is before = record {
  first = before.first ++ k ∷ [];
  apart = append_assoc before.first (k ∷ []) left ∙ before.apart;
  above = λ m i. elim (in_append m before.first (k ∷ []) i) [
    | inl early ↦ (let a = before.above m early in omega (arith, a))
    | inr late ↦ elim late [
      | inl same ↦ subst (λ (n : ℕ). clock (home_seen c n) ≤ max value stamp) same
          (let a = home_clock s c e far k in omega (arith, a, is))
      | inr none ↦ absurd none
    ]
  ];
  chosen = elim (cases_lt stamp value) [
    | inl less ↦
        let whole = take_all (length (home_seen e k)) (home_seen e k) (omega arith) in
        inr (
          k,
          contains_in (before.first ++ k ∷ []) k (in_right k before.first (k ∷ []) (inl refl)),
          length (home_seen e k),
          prefix_length (home_seen c k) (home_seen e k) (home_more s c e far k),
          omega arith,
          (let v = ap clock whole in omega (arith, less, is, v)),
        )
    | inr more ↦
        subst (IsChosen c e (before.first ++ k ∷ [])) (omega (arith, more))
        (chosen_on s c d e before.first (k ∷ []) stamp near before.chosen)
  ];
}

-- all of them
pub all_above : (c d : Client) (colours : List ℕ) (stamp : ℕ) → LookedFirst c d [] colours stamp
    → All (λ k. clock (home_seen c k) ≤ stamp) colours
all_above c d colours stamp f =
    all_from (λ k. clock (home_seen c k) ≤ stamp) colours
    (λ k i. f.above k (subst (In k) (sym f.apart ∙ append-nil f.first) i))

pub all_chosen : (c d : Client) (colours : List ℕ) (stamp : ℕ) → LookedFirst c d [] colours stamp
    → IsChosen c d colours stamp
all_chosen c d colours stamp f =
    subst (λ (l : List ℕ). IsChosen c d l stamp) (sym (append-nil f.first) ∙ f.apart) f.chosen

-- a clock is a stamp
pub stamp_within : (s : Store) (c d : Client) (k value : ℕ) → RestsOn s c d → value ≡ clock (home_seen d k)
    → value ≤ MAX_STAMP
stamp_within s c d k value on is =
    let h = home_seen d k in
    let past = lawful_past d.region (length s.regions) (dated d.region h) (home_lawful s c d on k) in
    let same = (dated-is_dated d.region h).same in
    let top = past_clock_within (reverse h) (subst (λ (l : List Entry). IsLawfulPast (reverse l)) same past) in
    let e = clock-of h in
    omega (arith, top, e, is)
