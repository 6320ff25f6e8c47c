-- What one more lawful event makes of a column's chains, cut and base.
use Rattle.std.proofs.Common.{◌≡◌, ◌≢◌, ◌⊎◌, inl, inr, ℕ, ◌<◌, ◌≤◌, min, max, List, [], ◌∷◌, ◌++◌, length, refl, ap, sym}
use Rattle.std.proofs.Common.{subst, ◌∙◌, arith, le_refl, append-nil}
use Rattle.std.specs.Prelude.{◌==◌, if◌then◌else◌}
use Rattle.std.specs.List.{fold, range_with_len}
use mathlib.Core.List.{IsPrefix}
use Rattle.std.proofs.lemmas.Bool.{cond_both}
use Rattle.log_node.specs.declared.ids.Counts.{Counts}
use Rattle.log_node.specs.declared.node.Head.{Head}
use Rattle.log_node.specs.Vectors.{at, vector, IsWithin}
use Rattle.col_core.specs.declared.Event.{Event}
use Rattle.col_core.specs.declared.Event.TheVariants as events
use Rattle.col_core.specs.declared.Entry.{Entry}
use Rattle.col_core.specs.History.{line}
use Rattle.log_node.specs.Reach.{Chains, Reachable, IsGreatestReachable}
use Rattle.col_core.specs.Cuts.{Dated, carried, chain, entries_of, trimmed_to}
use Rattle.col_core.specs.Cuts.{noted, noted_by_all, base, base_from}
use Rattle.col_core.specs.Computed.{cut, dated}
use Rattle.col_core.specs.Legal.{IsColumnHistory}
use Rattle.col_core.proofs.CallerLemmas.{dated-append, chains_grow, reachable_grows, cut_grows, cut-is_greatest}
use Rattle.col_core.proofs.CallerLemmas.{cut_unique}
use Rattle.log_node.proofs.CallerLemmas.{within, within-at, within-trans, at-vector, same_vectors}
use Rattle.column.proofs.Vectors.{own_or_other}
use Rattle.column.proofs.Histories.{same_entries, own_chain-length, other_chain-append, whole_prefix, base_from-append}

-- the least of a bound and other numbers is no more than the bound
least_le : (own : ℕ) (f : ℕ → ℕ) (rs : List ℕ) (bound : ℕ)
    → fold (λ n region. if region == own then n else min n (f region)) bound rs ≤ bound
least_le own f [] bound = le_refl bound
least_le own f (r ∷ rs) bound =
    let rest = least_le own f rs (if r == own then bound else min bound (f r)) in
    cond_both (r == own) bound (min bound (f r))
    (λ n. fold (λ m region. if region == own then m else min m (f region)) n rs ≤ n
    → fold (λ m region. if region == own then m else min m (f region)) n rs ≤ bound)
    (λ _ h. h) (λ _ h. omega (arith, h)) rest

-- nothing is trimmed that could not be played
pub trimmed_within : (own regions : ℕ) (before : List Dated) (ev : Event) (v : Counts) (r : ℕ)
    → trimmed_to own regions before ev v r ≤ at v r
trimmed_within own regions before (events.Single _ _ _) v r = omega arith
trimmed_within own regions before (events.Propose _ _ _) v r = omega arith
trimmed_within own regions before (events.Settle _ _) v r = omega arith
trimmed_within own regions before (events.Raise _) v r = omega arith
trimmed_within own regions before (events.Give _ _) v r = omega arith
trimmed_within own regions before (events.Carry _ _ _) v r = omega arith
trimmed_within own regions before (events.Trim counts) v r =
    let low = least_le own (noted before) (range_with_len 0 regions) (min (at counts r) (at v r)) in
    cond_both (r == own) (noted_by_all own regions before (min (at counts r) (at v r))) (min (at counts r) (at v r))
    (λ n. n ≤ at v r) (λ _. omega (arith, low)) (λ _. omega arith)

module _ (own regions : ℕ) (journal : List Entry) (e : Entry)
    (lawful : IsColumnHistory own regions (dated own (journal ++ e ∷ []))) where
  abbrev later : List Entry
  later = journal ++ e ∷ []

  abbrev date : Dated
  date = record { entry = e; cut_before = cut own (dated own journal) }

  dates : dated own later ≡ dated own journal ++ date ∷ []
  dates = dated-append own journal e

  lawful_dates : IsColumnHistory own regions (dated own journal ++ date ∷ [])
  lawful_dates = subst (IsColumnHistory own regions) dates lawful

  -- each chain grows at its end
  pub chain_more : (region : ℕ) → IsPrefix (chain own (dated own journal) region) (chain own (dated own later) region)
  chain_more region = subst (λ (ds : List Dated). IsPrefix (chain own (dated own journal) region) (chain own ds region))
      (sym dates) (chains_grow own regions (dated own journal) (date ∷ []) lawful_dates region)

  -- the cut can be reached yet
  pub cut_reached : Reachable (chain own (dated own later)) (cut own (dated own journal))
  cut_reached = reachable_grows (chain own (dated own journal)) (chain own (dated own later)) chain_more
      (cut own (dated own journal)) (cut-is_greatest own (dated own journal)).reached

  pub cut_more : IsWithin (cut own (dated own journal)) (cut own (dated own later))
  cut_more = (cut-is_greatest own (dated own later)).greatest (cut own (dated own journal)) cut_reached

  -- the base then
  pub base_now : base own regions (dated own later)
      ≡ vector (λ r. max (at (base own regions (dated own journal)) r)
      (trimmed_to own regions (dated own journal) e.event (cut own (dated own journal)) r))
  base_now =
      same_vectors (λ r. base_from own regions r [] (dated own later)) _ (λ r lt.
      ap (base_from own regions r []) dates
      ∙ (base_from-append own regions r [] (dated own journal) date
      ∙ ap (λ (n : ℕ). max n (trimmed_to own regions (dated own journal) e.event (cut own (dated own journal)) r))
      (sym (at-vector (λ q. base_from own regions q [] (dated own journal)) r lt))))

  pub base_below : IsWithin (base own regions (dated own journal)) (cut own (dated own journal))
      → IsWithin (base own regions (dated own later)) (cut own (dated own journal))
  base_below old = within (base own regions (dated own later)) (cut own (dated own journal)) (λ r lt.
      let a : at (base own regions (dated own later)) r
      ≡ max (at (base own regions (dated own journal)) r)
      (trimmed_to own regions (dated own journal) e.event (cut own (dated own journal)) r)
      = ap (λ (v : Counts). at v r) base_now
      ∙ at-vector (λ q. max (at (base own regions (dated own journal)) q)
      (trimmed_to own regions (dated own journal) e.event (cut own (dated own journal)) q)) r lt in
      let b = within-at (base own regions (dated own journal)) (cut own (dated own journal)) old r lt in
      let c = trimmed_within own regions (dated own journal) e.event (cut own (dated own journal)) r in
      omega (arith, a, b, c))

  pub base_below_now : IsWithin (base own regions (dated own journal)) (cut own (dated own journal))
      → IsWithin (base own regions (dated own later)) (cut own (dated own later))
  base_below_now old = within-trans (base own regions (dated own later)) (cut own (dated own journal))
      (cut own (dated own later)) (base_below old) cut_more

  -- another region's chain
  pub other_chain : (region : ℕ) → region ≢ own
      → chain own (dated own later) region ≡ chain own (dated own journal) region ++ carried region e.event
  other_chain region ne =
      ap (λ (ds : List Dated). chain own ds region) dates ∙ other_chain-append own (dated own journal) date region ne

  pub other_stays : (region : ℕ) → region ≢ own → carried region e.event ≡ []
      → chain own (dated own later) region ≡ chain own (dated own journal) region
  other_stays region ne none =
      other_chain region ne
      ∙ (ap (λ (l : List Head). chain own (dated own journal) region ++ l) none
      ∙ append-nil (chain own (dated own journal) region))

  -- where neither the line nor what is carried grows the cut stays
  module _ (line_same : line later ≡ line journal) (carries_none : (region : ℕ) → carried region e.event ≡ []) where
    own_same : chain own (dated own later) own ≡ chain own (dated own journal) own
    own_same = sym (whole_prefix (chain own (dated own journal) own) (chain own (dated own later) own) (chain_more own)
        (let a = own_chain-length own journal in let b = own_chain-length own later in let c = ap length line_same in
        omega (arith, a, b, c)))

    pub chain_same : (region : ℕ) → chain own (dated own later) region ≡ chain own (dated own journal) region
    chain_same region = each (own_or_other region own) where
      each : (region ≡ own) ⊎ (region ≢ own)
          → chain own (dated own later) region ≡ chain own (dated own journal) region
      each (inl is) =
          ap (chain own (dated own later)) is ∙ (own_same ∙ sym (ap (chain own (dated own journal)) is))
      each (inr ne) = other_stays region ne (carries_none region)

    back : (region : ℕ) → IsPrefix (chain own (dated own later) region) (chain own (dated own journal) region)
    back region = ([], append-nil (chain own (dated own later) region) ∙ chain_same region)

    pub cut_same : cut own (dated own later) ≡ cut own (dated own journal)
    cut_same = cut_unique (chain own (dated own later)) (cut own (dated own later)) (cut own (dated own journal))
        (cut-is_greatest own (dated own later)) (record {
          reached = cut_reached;
          greatest = λ w h. (cut-is_greatest own (dated own journal)).greatest w
              (reachable_grows (chain own (dated own later)) (chain own (dated own journal)) back w h);
        })
