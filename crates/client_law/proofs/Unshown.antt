-- Appends that stand and whose answer does not show where.
use Rattle.std.proofs.Common.{◌≡◌, ◌≢◌, ℕ, ◌+◌, ◌≤◌, max, List, [], ◌∷◌, ◌++◌, length, false, cond, refl, sym, subst, ◌∙◌, inl, inr, arith, append-nil, eqb-true, eq-eqb}
use Rattle.std.specs.Prelude.{◌==◌}
use Rattle.col_core.specs.Log.{places_of}
use Rattle.col_core.specs.Keeping.{seen_past, with_floor, with_row}
use Rattle.col_core.proofs.CallerLemmas.{choice}
use Rattle.lawful_run.specs.Appends.{one_unshown}
use Rattle.lawful_run.proofs.CallerLemmas.{unshown_too}
use Rattle.client_law.specs.Knowing.{log_seen}
use Rattle.client_law.specs.Appends.{steps_since}
use Rattle.client_law.specs.Unshown.{kept_unshown_alone, kept_unshown_several, UnshownAlone, KeptUnshownAlone, UnshownInAll, KeptUnshownInAll}
use Rattle.client_law.proofs.Lists.{at_new}
use Rattle.client_law.proofs.Keeping.{keeps_on, seen_on, known_on, under_on, made_on}
use Rattle.client_law.proofs.Events.{made_one, place_seen}
use Rattle.client_law.proofs.AppendOne.{appends_stand, own_single}
use Rattle.client_law.proofs.Rows.{steps_seen, steps_made}
use Rattle.client_law.proofs.Several.{several_stand}

pub unshown_alone : UnshownAlone
unshown_alone old new rest caller kept node colour stamp place position on k only s =
    one_unshown colour place position only
    (appends_stand old new rest caller kept node colour stamp place position on k s)

pub kept_unshown_one : KeptUnshownAlone
kept_unshown_one old new rest caller kept node colour stamp place position on k s m =
    let own = caller.own in
    let step = own_single old new rest caller kept node colour stamp place position on k s in
    let there = place_seen (new own colour) place step.1 step.2 in
    keeps_on caller old new kept (kept_unshown_alone caller kept colour stamp place) on k refl (omega arith)
    (λ r c. at_new (λ (f : ℕ → ℕ). f c ≤ length (new r c)) kept.seen own
    (λ d. seen_past (kept.seen own d) (cond (d == colour) (place ∷ []) [])) r
    (λ e. subst (λ (x : ℕ). seen_past (kept.seen own c) (cond (c == colour) (place ∷ []) []) ≤ length (new x c)) (sym e)
    (choice (λ (l : List ℕ). seen_past (kept.seen own c) l ≤ length (new own c)) (c == colour) (place ∷ []) []
    (λ t. let a = seen_on caller old new kept on k own c in
    let b = subst (λ (d : ℕ). place + 1 ≤ length (new own d)) (sym (eqb-true c colour t)) there in omega (arith, a, b))
    (λ _. seen_on caller old new kept on k own c)))
    (λ _. seen_on caller old new kept on k r c))
    (known_on caller old new kept on k) (λ c. under_on caller old new kept on k (max kept.floor stamp) c (omega arith))
    (λ r c. at_new (λ (f : ℕ → List ℕ). places_of caller.client (new r c) ≡ f c) kept.made own
    (λ d. kept.made own d ++ cond (d == colour) (place ∷ []) []) r
    (λ e. subst (λ (x : ℕ). places_of caller.client (new x c)
    ≡ kept.made own c ++ cond (c == colour) (place ∷ []) []) (sym e)
    (choice (λ (l : List ℕ). places_of caller.client (new own c) ≡ kept.made own c ++ l) (c == colour) (place ∷ []) []
    (λ t. subst (λ (d : ℕ). places_of caller.client (new own d) ≡ kept.made own d ++ place ∷ [])
    (sym (eqb-true c colour t)) (made_one caller old new kept on k own colour place m.here step))
    (λ f. made_on caller old new kept on k own c (m.others own c (inr (differ c colour f)))
    ∙ sym (append-nil (kept.made own c)))))
    (λ ne. made_on caller old new kept on k r c (m.others r c (inl ne)))) where
      differ : (c d : ℕ) → (c == d) ≡ false → c ≢ d
      differ c d f e = let t = eq-eqb c d e in let g : ⊥ = cc in g

pub unshown_in_all : UnshownInAll
unshown_in_all old new rest caller kept node stamp points on k s =
    unshown_too (log_seen new rest) caller node kept stamp points (steps_since caller old new)
    (several_stand old new rest caller kept node stamp points on k s)

pub kept_unshown_all : KeptUnshownInAll
kept_unshown_all old new caller kept stamp on home k =
    keeps_on caller old new kept (kept_unshown_several caller old new kept stamp) on k refl (omega arith)
    (steps_seen caller old new kept on (with_row (with_floor kept stamp)) (seen_on caller old new kept on k))
    (known_on caller old new kept on k) (λ c. under_on caller old new kept on k (max kept.floor stamp) c (omega arith))
    (steps_made caller old new kept on k home)
