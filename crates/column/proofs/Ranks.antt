-- What stands beside a member of a set: at the member's rank, the number of lesser members.
use Rattle.std.proofs.Common.{◌≡◌, ◌≢◌, ℕ, zero, suc, ◌+◌, ◌<◌, Bool, true, false, List, [], ◌∷◌, length, refl, ap, sym}
use Rattle.std.proofs.Common.{◌∙◌, arith, eq-eqb, ne_eqb, inl, inr, ◌⊎◌, zero-add}
use Rattle.std.specs.Prelude.{◌==◌, slice_get, unwrap_or}
use Rattle.std.specs.List.{filter, range_with_len}
use Rattle.std.proofs.lemmas.Bool.{cond-true, cond-false, cases_Bool}
use Rattle.log_node.specs.declared.ids.Counts.{Counts}
use Rattle.log_node.specs.declared.limits.TheConstants.{MAX_COLOURS}
use Rattle.log_node.specs.declared.node.Node.{Node}
use Rattle.log_node.specs.Sets.{has}
use Rattle.log_node.specs.Vectors.{zeros}
use Rattle.col_core.specs.Rows.{wants_of, node_wants}

module _ (p : ℕ → Bool) where
  -- how many of the numbers from one on pass
  abbrev rank : ℕ → ℕ → ℕ
  rank from d = length (filter p (range_with_len from d))

  pub wants_at : (len d from colour : ℕ) (ws : List Counts) → d < len → colour ≡ from + d → p colour ≡ true
      → wants_of (filter p (range_with_len from len)) ws colour ≡ unwrap_or (slice_get ws (rank from d)) zeros
  wants_at zero d from colour ws lt is passes = absurd (let f : ⊥ = omega (arith, lt) in f)
  wants_at (suc len) zero from colour ws lt is passes =
      let same : from ≡ colour = omega (arith, is) in
      ap (λ (cs : List ℕ). wants_of cs ws colour)
      (cond-true (p from) (from ∷ filter p (range_with_len (from + 1) len))
      (filter p (range_with_len (from + 1) len)) (ap p same ∙ passes))
      ∙ here ws same where
        here : (ws : List Counts) → from ≡ colour
            → wants_of (from ∷ filter p (range_with_len (from + 1) len)) ws colour ≡ unwrap_or (slice_get ws 0) zeros
        here [] same = refl
        here (w ∷ ws) same = cond-true (from == colour) _ _ (eq-eqb from colour same)
  wants_at (suc len) (suc d) from colour ws lt is passes =
      each (λ (vs : List Counts). wants_at len d (from + 1) colour vs (omega (arith, lt)) (omega (arith, is)) passes)
      (cases_Bool (p from)) ws where
        differs : from ≢ colour
        differs e = omega (arith, is, e)

        each : ((vs : List Counts) → wants_of (filter p (range_with_len (from + 1) len)) vs colour
            ≡ unwrap_or (slice_get vs (rank (from + 1) d)) zeros)
            → (p from ≡ true) ⊎ (p from ≡ false) → (ws : List Counts)
            → wants_of (filter p (range_with_len from (suc len))) ws colour
            ≡ unwrap_or (slice_get ws (rank from (suc d))) zeros
        each rest (inl t) [] =
            ap (λ (cs : List ℕ). wants_of cs [] colour)
            (cond-true (p from) (from ∷ filter p (range_with_len (from + 1) len))
            (filter p (range_with_len (from + 1) len)) t)
        each rest (inl t) (w ∷ ws) =
            ap (λ (cs : List ℕ). wants_of cs (w ∷ ws) colour)
            (cond-true (p from) (from ∷ filter p (range_with_len (from + 1) len))
            (filter p (range_with_len (from + 1) len)) t)
            ∙ (cond-false (from == colour) _ _ (ne_eqb from colour differs)
            ∙ (rest ws
            ∙ ap (λ (cs : List ℕ). unwrap_or (slice_get (w ∷ ws) (length cs)) zeros)
            (sym (cond-true (p from) (from ∷ filter p (range_with_len (from + 1) d))
            (filter p (range_with_len (from + 1) d)) t))))
        each rest (inr f) ws =
            ap (λ (cs : List ℕ). wants_of cs ws colour)
            (cond-false (p from) (from ∷ filter p (range_with_len (from + 1) len))
            (filter p (range_with_len (from + 1) len)) f)
            ∙ (rest ws
            ∙ ap (λ (cs : List ℕ). unwrap_or (slice_get ws (length cs)) zeros)
            (sym (cond-false (p from) (from ∷ filter p (range_with_len (from + 1) d))
            (filter p (range_with_len (from + 1) d)) f)))

-- what a node wants of one of its colours
pub wants_by_rank : (node : Node) (colour : ℕ) → colour < MAX_COLOURS → has node.colours colour ≡ true
    → node_wants node colour
    ≡ unwrap_or (slice_get node.wants (length (filter (has node.colours) (range_with_len 0 colour)))) zeros
wants_by_rank node colour lt in_set =
    wants_at (has node.colours) MAX_COLOURS colour 0 colour node.wants lt (sym (zero-add colour)) in_set
