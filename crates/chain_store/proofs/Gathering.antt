-- The clients' passes while the columns are closed, the last one first.
use Rattle.std.proofs.Common.{◌≡◌, ℕ, zero, suc, ◌+◌, ◌<◌, List, [], ◌∷◌, ◌++◌, length, set, Some, slice_get, refl, ap}
use Rattle.std.proofs.Common.{sym, subst, ◌∙◌, arith, inl, inr, length-append, length-set}
use Rattle.std.proofs.lemmas.Bool.{cases_eq}
use Rattle.std.proofs.lemmas.Option.{slice_get_within}
use Rattle.chain_store.specs.declared.hold.ColumnPasses.{ColumnPasses}
use Rattle.chain_store.specs.declared.seated.Seated.{Seated}
use Rattle.chain_store.specs.declared.read_view.desk.Share.{Share}
use Rattle.chain_store.specs.declared.read_view.desk.Desk.{Desk}
use Rattle.chain_store.specs.Passes.{ColumnCell, ColumnPass}
use Rattle.chain_store.specs.Desks.{HasDesks, IsDesk}
use Rattle.chain_store.specs.Ends.{AreHolders}
use Rattle.chain_store.specs.Closings.{HaveOneMore, Gave, Gathered, AllHold, AreOfColour, IsClosed}
use Rattle.chain_store.proofs.Holding.{set_got, set_other}
use Rattle.chain_store.proofs.Entering.{get_last, get_old}
use Rattle.chain_store.proofs.Places.{got}

-- one client more gave its last pass
pub gathered_one : (old now : List ColumnPasses) (ps qs : List ColumnPass) (i : ℕ) (c d : ColumnPasses) (p : ColumnPass)
    → Gathered old now ps i → i < length old → slice_get now i ≡ Some c → Gave c d p → qs ≡ ps ++ p ∷ []
    → Gathered old (set now i d) qs (i + 1)
gathered_one old now ps qs i c d p g near here gave e =
    let count = g.count in record {
      same = length-set now i d ∙ g.same;
      count = ap length e ∙ length-append ps (p ∷ [])
          ∙ (let z : length ps + length (p ∷ []) ≡ i + 1 = omega (arith, count) in z);
      gave = λ j b lt at. elim (cases_eq j i) [
        | inl is ↦
            let was : Some c ≡ Some b = sym here ∙ g.later i (omega arith) ∙ ap (slice_get old) (sym is) ∙ at in
            let same : c ≡ b = cc was in (
              d,
              p,
              ap (slice_get (set now i d)) is ∙ set_got now i d c here,
              ap (λ l. slice_get l j) e ∙ ap (slice_get (ps ++ p ∷ [])) (is ∙ sym count) ∙ get_last ps p,
              subst (λ (z : ColumnPasses). Gave z d p) same gave,
            )
        | inr other ↦
            let b = g.gave j b (omega (arith, lt, other)) at in
            (b.0, b.1, set_other now i j d other ∙ b.2, ap (λ l. slice_get l j) e ∙ get_old ps (p ∷ []) j b.1 b.3, b.4)
      ];
      later = λ j after. set_other now i j d (λ is. omega (arith, after, is)) ∙ g.later j (omega (arith, after));
    }

-- each client has the first n of its passes left
pub record Shrunk (old now : List ColumnPasses) (n : ℕ) : Type 0 where
  pub same : length now ≡ length old
  pub each : (i : ℕ) (c d : ColumnPasses) → slice_get old i ≡ Some c → slice_get now i ≡ Some d
      → (length d.items.items ≡ n)
      × ((k : ℕ) (p : ColumnPass) → slice_get d.items.items k ≡ Some p → slice_get c.items.items k ≡ Some p)

pub begins : (cells : List ColumnCell) (old : List ColumnPasses) → AllHold cells old → Shrunk old old (length cells)
begins cells old all = record {
  same = refl;
  each = λ i c d at dat.
      let two : Some c ≡ Some d = sym at ∙ dat in
      let is : c ≡ d = cc two in
      ((all i d dat).0, λ k p e. subst (λ (z : ColumnPasses). slice_get z.items.items k ≡ Some p) (sym is) e);
}

-- the client that is left as this one
began : (old now : List ColumnPasses) (n i : ℕ) (d : ColumnPasses) → Shrunk old now n → slice_get now i ≡ Some d
    → (c : ColumnPasses) × (slice_get old i ≡ Some c)
began old now n i d s at =
    let near = slice_get_within now i d at in
    let same = s.same in
    got old i (omega (arith, near, same))

module _ (old now : List ColumnPasses) (n m : ℕ) (s : Shrunk old now n) (more : n ≡ m + 1) where
  pub one_more : HaveOneMore now
  one_more i d at =
      let b = began old now n i d s at in
      let l = (s.each i b.0 d b.1 at).0 in
      omega (arith, l, more)

  module _ (next : List ColumnPasses) (ps : List ColumnPass) (g : Gathered now next ps (length now)) where
    pub shrinks : Shrunk old next m
    shrinks = record {
      same = g.same ∙ s.same;
      each = λ i c d at dat.
          let near = slice_get_within next i d dat in
          let same = g.same in
          let b = got now i (omega (arith, near, same)) in
          let t = s.each i c b.0 at b.1 in
          let v = g.gave i b.0 (omega (arith, near, same)) b.1 in
          let two : Some v.0 ≡ Some d = sym v.2 ∙ dat in
          let is : v.0 ≡ d = cc two in
          let gave : Gave b.0 d v.1 = subst (λ (z : ColumnPasses). Gave b.0 z v.1) is v.4 in
          let long = ap length gave ∙ length-append d.items.items (v.1 ∷ []) in
          let l = t.0 in
          let short : length d.items.items + length (v.1 ∷ []) ≡ n = sym long ∙ l in (
            omega (arith, short, more),
            λ k p e. t.1 k p (ap (λ z. slice_get z k) gave ∙ get_old d.items.items (v.1 ∷ []) k p e),
          );
    }

    -- what was given are the passes of the last colour
    pub of_last : AreOfColour old m ps
    of_last = record {
      count = g.count ∙ s.same;
      each = λ i c p at pat.
          let near = slice_get_within old i c at in
          let same = s.same in
          let b = got now i (omega (arith, near, same)) in
          let t = s.each i c b.0 at b.1 in
          let v = g.gave i b.0 (omega (arith, near, same)) b.1 in
          let two : Some v.1 ≡ Some p = sym v.3 ∙ pat in
          let is : v.1 ≡ p = cc two in
          let long = ap length v.4 ∙ length-append v.0.items.items (v.1 ∷ []) in
          let l = t.0 in
          let all : length v.0.items.items + length (v.1 ∷ []) ≡ n = sym long ∙ l in
          let short : length v.0.items.items ≡ m = omega (arith, all, more) in
          t.1 m p (ap (λ z. slice_get z m) v.4 ∙ ap (slice_get (v.0.items.items ++ v.1 ∷ [])) (sym short)
          ∙ get_last v.0.items.items v.1 ∙ ap Some is);
    }

-- passes of a colour are of clients of its cell
pub are_holders : (cells : List ColumnCell) (old : List ColumnPasses) (m : ℕ) (cell : ColumnCell) (ps : List ColumnPass)
    → AllHold cells old → slice_get cells m ≡ Some cell → AreOfColour old m ps → AreHolders cell ps
are_holders cells old m cell ps all at of = λ i p pat.
    let near = slice_get_within ps i p pat in
    let count = of.count in
    let b = got old i (omega (arith, near, count)) in
    (all i b.0 b.1).1 m cell p at (of.each i b.0 p b.1 pat)

-- the columns from the colour n on are closed, and then those from m on
pub closed_more : (cells : List ColumnCell) (old : List ColumnPasses) (m n : ℕ) (cell : ColumnCell) (s : Seated)
    (closed next : List Seated)
    → n ≡ m + 1 → next ≡ s ∷ closed → slice_get cells m ≡ Some cell → IsClosed cell old m s
    → ((k : ℕ) (d : ColumnCell) (t : Seated) → slice_get cells (n + k) ≡ Some d → slice_get closed k ≡ Some t
    → IsClosed d old (n + k) t)
    → (k : ℕ) (d : ColumnCell) (t : Seated) → slice_get cells (m + k) ≡ Some d → slice_get next k ≡ Some t
    → IsClosed d old (m + k) t
closed_more cells old m n cell s closed next more is here good rest k d t at nat =
    by k at (sym (ap (λ l. slice_get l k) is) ∙ nat) where
      by : (k : ℕ) → slice_get cells (m + k) ≡ Some d → slice_get (s ∷ closed) k ≡ Some t → IsClosed d old (m + k) t
      by zero at tat =
          let z : m + 0 ≡ m = omega arith in
          let two : Some cell ≡ Some d = sym here ∙ ap (slice_get cells) (sym z) ∙ at in
          let same : cell ≡ d = cc two in
          let one : s ≡ t = cc tat in
          subst (λ (i : ℕ). IsClosed d old i t) (sym z)
          (subst (λ (y : Seated). IsClosed d old m y) one (subst (λ (y : ColumnCell). IsClosed y old m s) same good))
      by (suc k) at tat =
          let z : n + k ≡ m + suc k = omega (arith, more) in
          subst (λ (i : ℕ). IsClosed d old i t) z (rest k d t (ap (slice_get cells) z ∙ at) tat)

-- the last desk is at the last copies, and the others at the others
pub desks_less : (shares rest : List Share) (s : Share) (ds left : List Desk) (d : Desk) → HasDesks shares ds
    → shares ≡ rest ++ s ∷ [] → ds ≡ left ++ d ∷ [] → HasDesks rest left × IsDesk s d
desks_less shares rest s ds left d h is are =
    let a : length shares ≡ length rest + 1 = ap length is ∙ length-append rest (s ∷ []) in
    let b : length ds ≡ length left + 1 = ap length are ∙ length-append left (d ∷ []) in
    let count = h.count in
    let same : length left ≡ length rest = omega (arith, a, b, count) in (
      record {
        count = same;
        each = λ k t e at eat. h.each k t e (ap (λ l. slice_get l k) is ∙ get_old rest (s ∷ []) k t at)
            (ap (λ l. slice_get l k) are ∙ get_old left (d ∷ []) k e eat);
      },
      h.each (length rest) s d (ap (λ l. slice_get l (length rest)) is ∙ get_last rest s)
          (ap (λ l. slice_get l (length rest)) are ∙ ap (slice_get (left ++ d ∷ [])) (sym same) ∙ get_last left d),
    )
