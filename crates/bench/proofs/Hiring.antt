-- Writers that get new passes, and give them back.
use Rattle.std.proofs.Common.{◌≡◌, ℕ, ◌+◌, List, [], ◌∷◌, ◌++◌, length, refl, subst, sym, ap, arith}
use Rattle.std.proofs.Common.{length-append}
use Rattle.turn_cell.specs.Cells.{Pass, IsNumbered, IsNewPass, AreNewPasses}
use Rattle.turn_cell.proofs.CallerLemmas.{new_is_numbered, left_at}
use Rattle.bench.specs.declared.turns.tally.Tally.{Tally}
use Rattle.bench.specs.declared.turns.writers.Writer.{Writer}
use Rattle.bench.specs.Writers.{no_tag, TallyCell, IsWriter}

abbrev pub TallyPass : Type 0 → Type 0
TallyPass P = Pass (Tally P) ℕ (Unit {0})

pub are_new : {P : Type 0} (c : TallyCell P) (ps qs : List (TallyPass P))
    → qs ≡ ps → AreNewPasses no_tag c (length ps) ps → AreNewPasses no_tag c (length qs) qs
are_new c ps qs same new = subst (λ l. AreNewPasses no_tag c (length l) l) (sym same) new

pub left_new : {P : Type 0} (c : TallyCell P) (ps qs : List (TallyPass P)) (p : TallyPass P)
    → ps ≡ qs ++ p ∷ []
    → AreNewPasses no_tag c (length ps) ps
    → AreNewPasses no_tag c (length qs) qs × IsNewPass no_tag c (length qs) p
left_new c ps qs p e new = let r = left_at ps qs p (IsNewPass no_tag c) e new.1 in ((refl, r.0), r.1)

pub hired : {P : Type 0} (c : TallyCell P) (w : Writer P) (n : ℕ) → w.by ≡ n → IsNewPass no_tag c n w.pass → IsWriter c w
hired c w n by new =
    subst (λ k. IsNumbered no_tag c k w.pass) (sym by) (new_is_numbered no_tag c n w.pass new)

-- one went from the end of one list to the end of another
pub moved_one : {A B : Type 0} (xs xs' : List A) (x : A) (ys ys' : List B) (y : B) (n : ℕ)
    → xs ≡ xs' ++ x ∷ [] → ys' ≡ ys ++ y ∷ [] → length xs + length ys ≡ n → length xs' + length ys' ≡ n
moved_one xs xs' x ys ys' y n e f is =
    omega (arith, ap length e, ap length f, length-append xs' (x ∷ []), length-append ys (y ∷ []))
