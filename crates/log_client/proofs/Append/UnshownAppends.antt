-- An append to several colours of which the answer does not show where its node stands.
use Rattle.std.proofs.Common.{◌≡◌, ℕ, ◌+◌, ◌≤◌, min, max, Bool, cond, true, false, List, [], ◌∷◌, ◌++◌, length, drop, Some, refl, ap, sym, subst, ◌∙◌, inl, inr, suc, arith, eq-eqb}
use Rattle.std.specs.Prelude.{◌==◌}
use mathlib.Core.Path.{fun_ext}
use Rattle.std.proofs.lemmas.Bool.{eqb-true}
use Rattle.std.proofs.lemmas.List.Elements.{All-contains}
use Rattle.log_node.specs.declared.ids.Counts.{Counts}
use Rattle.log_node.specs.declared.forms.Version.{Version}
use Rattle.log_node.specs.declared.node.Node.{Node}
use Rattle.col_core.specs.Log.{Log}
use Rattle.col_core.specs.Keeping.{Kept, kept_after_point, seen_after, seen_past, updated, with_floor, with_made, with_row}
use Rattle.col_core.proofs.CallerLemmas.{In, choice, contains_in, if_true}
use Rattle.report_text.specs.declared.report.PointPiece.{PointPiece}
use Rattle.lawful_run.specs.Callers.{Caller}
use Rattle.lawful_run.specs.Appends.{Appends, AppendsUnshown, StandsAt, kept_after_points}
use Rattle.lawful_run.proofs.CallerLemmas.{enters_after, PointsLeave, points_leave, unshown_too}
use Rattle.client_law.proofs.CallerLemmas.{at_new_at}

-- no less is seen, and known to stand
record NoLess (base kept : Kept) : Type 0 where
  pub seen : (r c : ℕ) → base.seen r c ≤ kept.seen r c
  pub known : (c : ℕ) → base.known c ≤ kept.known c

module _ (log : Log) (caller : Caller) (base : Kept) (node : Node) (stamp : ℕ) where
  one_after : (kept : Kept) (p : PointPiece) → NoLess base kept → StandsAt log caller base node stamp p
      → NoLess base (kept_after_point kept caller.own p.colour p.at p.position)
  one_after kept p a stands = record {
    seen = λ r c. at_new_at (λ (n : ℕ). base.seen r c ≤ n) kept.seen caller.own p.colour (seen_after p.at) r c
        (λ same e. subst (λ (q : ℕ). base.seen q c ≤ seen_after p.at) (sym same)
        (subst (λ (q : ℕ). base.seen caller.own q ≤ seen_after p.at) (sym e) (enters_after (base.seen caller.own p.colour)
        (log.histories caller.own p.colour) caller.client node p.colour p.at stands.entered)))
        (λ _. a.seen r c);
    known = λ c. choice (λ (n : ℕ). base.known c ≤ n) (c == p.colour) (p.position + 1) (kept.known c)
        (λ t. let behind = stands.behind in
        subst (λ (q : ℕ). base.known q ≤ p.position + 1) (sym (eqb-true c p.colour t)) (omega (arith, behind)))
        (λ _. a.known c);
  }

  points_after : (kept : Kept) (points : List PointPiece) → NoLess base kept
      → ((p : PointPiece) → In p points → StandsAt log caller base node stamp p)
      → NoLess base (kept_after_points kept caller.own points)
  points_after kept [] a each = a
  points_after kept (p ∷ points) a each =
      points_after (kept_after_point kept caller.own p.colour p.at p.position) points (one_after kept p a (each p (inl refl)))
      (λ q i. each q (inr i))

past_more : (a b : ℕ) (places : List ℕ) → a ≤ b → seen_past a places ≤ seen_past b places
past_more a b [] le = le
past_more a b (place ∷ places) le = past_more (max a (place + 1)) (max b (place + 1)) places (omega (arith, le))

behind_front : (xs ys : List ℕ) → drop (length xs) (xs ++ ys) ≡ ys
behind_front [] ys = refl
behind_front (x ∷ xs) ys =
    let e : length (x ∷ xs) ≡ suc (length xs) = omega arith in
    ap (λ (n : ℕ). drop n (x ∷ (xs ++ ys))) e ∙ behind_front xs ys

-- What is kept of such an append: of the own region only its own events are seen, and no node is known to stand.
abbrev pub unshown : ℕ → Kept → Kept → Kept
unshown own kept after = record after {
  seen = λ r c. min (updated kept.seen own
      (λ k. seen_past (kept.seen own k) (drop (length (kept.made own k)) (after.made own k))) r c) (after.seen r c);
  known = λ c. min (kept.known c) (after.known c);
}

module _ (own : ℕ) (kept after : Kept) (stamp : ℕ) (places : ℕ → List ℕ) (l : PointsLeave kept after)
    (more : NoLess kept after) where
  abbrev whole : Kept
  whole = with_made (with_row (with_floor after stamp)) own places

  its_places : (c : ℕ) → drop (length (kept.made own c)) (whole.made own c) ≡ places c
  its_places c =
      ap (λ (f : ℕ → List ℕ). drop (length (kept.made own c)) (f c))
      (if_true (own == own) (λ k. after.made own k ++ places k) (after.made own) (eq-eqb own own refl))
      ∙ (ap (λ (m : ℕ → ℕ → List ℕ). drop (length (kept.made own c)) (m own c ++ places c)) l.made
      ∙ behind_front (kept.made own c) (places c))

  same_seen : (r c : ℕ) (b : Bool)
      → min (cond b (λ k. seen_past (kept.seen own k) (drop (length (kept.made own k)) (whole.made own k))) (kept.seen r) c)
      (cond b (λ k. seen_past (after.seen own k) (places k)) (after.seen r) c)
      ≡ cond b (λ k. seen_past (kept.seen own k) (places k)) (kept.seen r) c
  same_seen r c true =
      let same = ap (seen_past (kept.seen own c)) (its_places c) in
      let low = past_more (kept.seen own c) (after.seen own c) (places c) (more.seen own c) in
      omega (arith, same, low)
  same_seen r c false = let low = more.seen r c in omega (arith, low)

  unshown_is : unshown own kept whole ≡ with_made (with_row (with_floor kept stamp)) own places
  unshown_is i = record {
    floor = ap (λ (n : ℕ). max n stamp) l.floor i;
    starts = l.starts i;
    seen = fun_ext (λ r. fun_ext (λ c. same_seen r c (r == own))) i;
    known = fun_ext (λ c. least (kept.known c) (after.known c) (more.known c)) i;
    made = ap (λ (m : ℕ → ℕ → List ℕ). updated m own (λ c. m own c ++ places c)) l.made i;
    ids = ap (λ (n : ℕ). n + 1) l.ids i;
    rows = ap (λ (n : ℕ). n + 1) l.rows i;
    reads = l.reads i;
  } where
    least : (m n : ℕ) → m ≤ n → min m n ≡ m
    least m n le = omega (arith, le)

-- so its answer is that of an append whose places in the lines are not told
pub several_are_unshown : (log : Log) (caller : Caller) (kept after : Kept) (node : Node) (stamp number : ℕ)
    (points : List PointPiece) → Appends log caller kept node stamp (Some number) points after
    → AppendsUnshown log caller kept node stamp (unshown caller.own kept after)
several_are_unshown log caller kept after node stamp number points a =
    let s = a.2 in
    let more = points_after log caller kept node stamp kept points
    (record { seen = λ r c. omega arith; known = λ c. omega arith })
    (λ p i. All-contains (StandsAt log caller kept node stamp) points p s.each (contains_in points p i)) in
    subst (AppendsUnshown log caller kept node stamp)
    (sym (ap (unshown caller.own kept) a.3
    ∙ unshown_is caller.own kept (kept_after_points kept caller.own points) stamp a.1
    (points_leave caller.own kept points) more))
    (unshown_too log caller node kept stamp points a.1 s)
