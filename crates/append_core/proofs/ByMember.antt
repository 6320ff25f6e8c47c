-- What is done for each member of a set of colours, one after another.
use Rattle.std.proofs.Common.{◌≡◌, ◌≢◌, ◌<◌, ℕ, List, [], ◌∷◌, ◌++◌, true, refl, sym, subst, ◌∙◌, inl, inr, append_assoc, append-nil}
use Rattle.std.proofs.lemmas.Bool.{cases_eq}
use Rattle.log_node.specs.declared.ids.Colours.{Colours}
use Rattle.log_node.specs.declared.limits.TheConstants.{MAX_COLOURS}
use Rattle.log_node.specs.Sets.{has, members}
use Rattle.col_core.proofs.CallerLemmas.{In, in_append, in_right, in_slice, slice_in}
use Rattle.chain_store.proofs.CallerLemmas.{member_at, member_has}

-- it is done for the first members, and the others are left
pub record AreDone (P : ℕ → Type 0) (left : List ℕ) (set : Colours) : Type 0 where
  pub first : List ℕ
  pub apart : first ++ left ≡ members set
  pub done : (c : ℕ) → In c first → P c

pub none_done : (P : ℕ → Type 0) (set : Colours) → AreDone P (members set) set
none_done P set = record { first = []; apart = refl; done = λ c i. absurd i }

module _ (P : ℕ → Type 0) (k : ℕ) (left : List ℕ) (set : Colours) (before : AreDone P (k ∷ left) set) where
  -- the next one is a member
  pub next_has : has set k ≡ true
  next_has =
      let at = in_slice (members set) k (subst (In k) before.apart (in_right k before.first (k ∷ left) (inl refl))) in
      member_has set at.0 k at.1

  -- it is done for one more
  pub done_next : (Q : ℕ → Type 0) → ((c : ℕ) → c ≢ k → P c → Q c) → Q k → AreDone Q left set
  done_next Q keeps here = record {
    first = before.first ++ k ∷ [];
    apart = append_assoc before.first (k ∷ []) left ∙ before.apart;
    done = λ c i. elim (cases_eq c k) [
      | inl is ↦ subst Q (sym is) here
      | inr ne ↦ keeps c ne (elim (in_append c before.first (k ∷ []) i) [
        | inl early ↦ before.done c early
        | inr late ↦ elim late [ inl same ↦ absurd (ne (sym same)) | inr none ↦ absurd none ]
      ])
    ];
  }

-- it is done for all
pub all_done : (P : ℕ → Type 0) (set : Colours) → AreDone P [] set → (c : ℕ) → c < MAX_COLOURS → has set c ≡ true → P c
all_done P set all c low it =
    let at = member_at set c low it in
    all.done c (subst (In c) (sym all.apart ∙ append-nil all.first) (slice_in (members set) at.0 c at.1))
