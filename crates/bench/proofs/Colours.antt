-- The sets of the first of the two colours, and of both.
use Rattle.std.proofs.Common.{◌≡◌, ℕ, ◌<◌, [], ◌∷◌, arith}
use Rattle.std.specs.List.{All}
use Rattle.std.proofs.lemmas.List.Elements.{All-cons, All-nil}
use Rattle.log_node.specs.declared.limits.TheConstants.{MAX_COLOURS}
use Rattle.log_node.specs.Sets.{set_of}
use Rattle.log_client.specs.declared.store.Store.{Store}
use Rattle.log_client.specs.Appends.{AreColoursOf}
use Rattle.log_client.proofs.CallerLemmas.{listed_of_store, one_of_store}

pub first_of_store : (s : Store) → s.size.colours ≡ 2 → AreColoursOf s (set_of (0 ∷ []))
first_of_store s two = one_of_store s 0 (omega (arith, two)) (omega arith)

pub both_of_store : (s : Store) → s.size.colours ≡ 2 → AreColoursOf s (set_of (0 ∷ 1 ∷ []))
both_of_store s two =
    listed_of_store s (0 ∷ 1 ∷ []) (omega arith)
    (both (λ (c : ℕ). c < s.size.colours) (omega (arith, two)) (omega (arith, two)))
    (both (λ (c : ℕ). c < MAX_COLOURS) (omega arith) (omega arith)) where
      both : (P : ℕ → Type 0) → P 0 → P 1 → All P (0 ∷ 1 ∷ [])
      both P first second = All-cons P 0 (1 ∷ []) first (All-cons P 1 [] second (All-nil P))
