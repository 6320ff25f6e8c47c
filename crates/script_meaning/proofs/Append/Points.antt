-- What a client keeps after the points and the steps of an append.
use Rattle.std.proofs.Common.{ℕ, ◌+◌, ◌<◌, ◌≤◌, List, [], ◌∷◌, refl, subst, sym, inl, inr}
use Rattle.std.specs.List.{All}
use Rattle.col_core.specs.Keeping.{Kept, seen_after, seen_past, kept_after_point, with_made}
use Rattle.col_core.proofs.CallerLemmas.{In}
use Rattle.world_laws.proofs.CallerLemmas.{at_updated, at_updated_at}
use Rattle.report_text.specs.declared.report.PointPiece.{PointPiece}
use Rattle.lawful_run.specs.Appends.{kept_after_points}
use Rattle.lawful_run.proofs.CallerLemmas.{past_within}

-- what is seen and known keeps its bounds
pub record IsBounded (seen_max : ℕ → ℕ → ℕ) (known_max : ℕ → ℕ) (after : Kept) : Type 0 where
  pub seen : (r c : ℕ) → after.seen r c ≤ seen_max r c
  pub known : (c : ℕ) → after.known c ≤ known_max c

-- what a point shows is within the bounds
pub record IsBoundedPoint (own : ℕ) (seen_max : ℕ → ℕ → ℕ) (known_max : ℕ → ℕ) (p : PointPiece) : Type 0 where
  pub seen : seen_after p.at ≤ seen_max own p.colour
  pub known : p.position + 1 ≤ known_max p.colour

pub points_kept : (own : ℕ) (seen_max : ℕ → ℕ → ℕ) (known_max : ℕ → ℕ) (points : List PointPiece) (kept : Kept)
    → ((p : PointPiece) → In p points → IsBoundedPoint own seen_max known_max p)
    → ((r c : ℕ) → kept.seen r c ≤ seen_max r c) → ((c : ℕ) → kept.known c ≤ known_max c)
    → IsBounded seen_max known_max (kept_after_points kept own points)
points_kept own seen_max known_max [] kept all seen known = record { seen = seen; known = known }
points_kept own seen_max known_max (p ∷ points) kept all seen known =
    let one = all p (inl refl) in
    let kept1 = kept_after_point kept own p.colour p.at p.position in
    points_kept own seen_max known_max points kept1 (λ q i. all q (inr i))
    (λ r c. at_updated_at (λ (n : ℕ). n ≤ seen_max r c) kept.seen own p.colour (seen_after p.at) r c
    (λ er ec. subst (λ (n : ℕ). seen_after p.at ≤ seen_max n c) (sym er)
    (subst (λ (n : ℕ). seen_after p.at ≤ seen_max own n) (sym ec) one.seen)) (λ _. seen r c))
    (λ c. at_updated (λ (n : ℕ). n ≤ known_max c) kept.known p.colour (p.position + 1) c
    (λ ec. subst (λ (n : ℕ). p.position + 1 ≤ known_max n) (sym ec) one.known) (λ _. known c))

pub made_seen : (own : ℕ) (seen_max : ℕ → ℕ → ℕ) (kept : Kept) (places : ℕ → List ℕ)
    → ((r c : ℕ) → kept.seen r c ≤ seen_max r c) → ((c : ℕ) → All (λ place. place < seen_max own c) (places c))
    → (r c : ℕ) → (with_made kept own places).seen r c ≤ seen_max r c
made_seen own seen_max kept places seen there r c =
    at_updated (λ (f : ℕ → ℕ). f c ≤ seen_max r c) kept.seen own (λ d. seen_past (kept.seen own d) (places d)) r
    (λ e. subst (λ (n : ℕ). seen_past (kept.seen own c) (places c) ≤ seen_max n c) (sym e)
    (past_within (seen_max own c) (kept.seen own c) (places c) (seen own c) (there c))) (λ _. seen r c)
