-- The greatest vector that can be reached is one, and so are the cuts of a history.
use Rattle.std.proofs.Common.{◌≡◌, ℕ, suc, ◌<◌, List, [], ◌∷◌, ◌++◌, take, refl, subst, ap, sym, ◌∙◌, arith, lit<, append_assoc, append-nil}
use Rattle.log_node.specs.declared.ids.Counts.{Counts}
use Rattle.log_node.specs.Vectors.{at, vector, IsWithin}
use Rattle.col_core.specs.declared.Entry.{Entry}
use Rattle.log_node.specs.Reach.{Chains, Reachable, nothing, next, IsGreatestReachable}
use Rattle.col_core.specs.Cuts.{Dated, entries_of, chain, IsDated}
use Rattle.col_core.specs.Computed.{cut, dated}
use Rattle.col_core.proofs.CutLaws.{cut-is_greatest, within-at}
use Rattle.col_core.proofs.DatedLaws.{AreCuts, later, fold-later}

-- a vector that can be reached is the vector of its four numbers
four_numbers : {chains : Chains} {v : Counts} → Reachable chains v → v ≡ vector (at v)
four_numbers nothing = refl
four_numbers (next region head before lt there needs) = refl

four : ℕ → ℕ → ℕ → ℕ → Counts
four a b c d = record { 0 = a ∷ b ∷ c ∷ d ∷ [] }

four_same : (a b c d a' b' c' d' : ℕ) → a ≡ a' → b ≡ b' → c ≡ c' → d ≡ d' → four a b c d ≡ four a' b' c' d'
four_same a b c d a' b' c' d' e f g h = ap (λ x. four x b c d) e ∙ (ap (λ x. four a' x c d) f ∙ (ap (λ x. four a' b' x d) g ∙ ap (λ x. four a' b' c' x) h))

antisymmetric : (v w : Counts) → IsWithin v w → IsWithin w v → (r : ℕ) → r < 4 → at v r ≡ at w r
antisymmetric v w p q r lt = let a = within-at v w p r lt in let b = within-at w v q r lt in omega (arith, a, b)

pub cut_unique : (chains : Chains) (v w : Counts) → IsGreatestReachable chains v → IsGreatestReachable chains w → v ≡ w
unfolding four
cut_unique chains v w a b =
    let s = antisymmetric v w (b.greatest v a.reached) (a.greatest w b.reached) in
    four_numbers a.reached ∙ (four_same (at v 0) (at v 1) (at v 2) (at v 3) (at w 0) (at w 1) (at w 2) (at w 3) (s 0 (lit< tt)) (s 1 (lit< tt)) (s 2 (lit< tt)) (s 3 (lit< tt)) ∙ sym (four_numbers b.reached))

dates_are : (own : ℕ) (before ds : List Dated) → AreCuts own before ds → ds ≡ later own before (entries_of ds)
dates_are own before [] h = refl
dates_are own before (d ∷ ds) h =
    let g : IsGreatestReachable (chain own before) d.cut_before = subst (λ (b : List Dated). IsGreatestReachable (chain own b) d.cut_before) (append-nil before) (h 0 d refl) in
    let c : d.cut_before ≡ cut own before = cut_unique (chain own before) d.cut_before (cut own before) g (cut-is_greatest own before) in
    let is : d ≡ record { entry = d.entry; cut_before = cut own before } = ap (λ (v : Counts). dated_with d.entry v) c in
    let rest = dates_are own (before ++ d ∷ []) ds (λ n e there. subst (λ (b : List Dated). IsGreatestReachable (chain own b) e.cut_before) (sym (append_assoc before (d ∷ []) (take n ds))) (h (suc n) e there)) in
    ap (λ (x : Dated). x ∷ ds) is ∙ ap (λ (l : List Dated). dated_with d.entry (cut own before) ∷ l) (rest ∙ ap (λ (x : Dated). later own (before ++ x ∷ []) (entries_of ds)) is) where
      dated_with : Entry → Counts → Dated
      dated_with e v = record { entry = e; cut_before = v }

pub dated_unique : (own : ℕ) (history : List Entry) (ds : List Dated) → IsDated own history ds → ds ≡ dated own history
dated_unique own history ds h =
    let a : AreCuts own [] ds = h.each in
    dates_are own [] ds a ∙ (ap (later own []) h.same ∙ sym (fold-later own [] history))
