-- The colours of a set, one after another.
use Rattle.std.proofs.Common.{◌≡◌, ℕ, ◌<◌, List, ◌∷◌, ◌++◌, refl, subst, inl}
use Rattle.std.specs.List.{All, range_with_len}
use Rattle.log_node.specs.declared.ids.Colours.{Colours}
use Rattle.log_node.specs.declared.limits.TheConstants.{MAX_COLOURS}
use Rattle.log_node.specs.Sets.{has, members}
use Rattle.col_core.proofs.CallerLemmas.{In, in_filter, in_right}
use Rattle.log_client.specs.declared.store.Store.{Store}
use Rattle.log_client.specs.Appends.{AreColoursOf}
use Rattle.log_client.proofs.Read.HiddenReads.{all_from}

-- a member is one of the store's
pub member_within : (s : Store) (set : Colours) → AreColoursOf s set → (k : ℕ) → In k (members set) → k < s.size.colours
member_within s set are k i = are.within k (in_filter (has set) k (range_with_len 0 MAX_COLOURS) i).1

pub next_within : (s : Store) (set : Colours) → AreColoursOf s set → (first : List ℕ) (k : ℕ) (left : List ℕ)
    → first ++ k ∷ left ≡ members set → k < s.size.colours
next_within s set are first k left is =
    member_within s set are k (subst (In k) is (in_right k first (k ∷ left) (inl refl)))

pub all_within : (s : Store) (set : Colours) → AreColoursOf s set → All (λ k. k < s.size.colours) (members set)
all_within s set are = all_from (λ k. k < s.size.colours) (members set) (member_within s set are)
