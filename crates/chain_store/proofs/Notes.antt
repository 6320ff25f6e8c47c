-- Passes that have told or heard.
use Rattle.std.proofs.Common.{Vec, Global, ◌≡◌, Bool, ℕ, zero, suc, ◌+◌, ◌<◌, ◌≤◌, inl, inr, List, [], ◌∷◌, ◌++◌, length, Option, Some, set, get_or, slice_get, refl, ap, sym, subst, ◌∙◌, arith, length-append, append-nil}
use Rattle.std.proofs.lemmas.Bool.{cases_eq}
use Rattle.std.proofs.lemmas.Option.{slice_get_within, slice_get_past, slice_get_read}
use Rattle.std.proofs.lemmas.List.Elements.{filter-append}
use Rattle.std.specs.Prelude.{◌==◌}
use mathlib.Core.List.{IsPrefix}
use mathlib.Core.Logic.{dite}
use native.Mathlib.Decide.{dec_le}
use Rattle.stamp_board.specs.Seats.{IsLater}
use Rattle.turn_cell.specs.Histories.{IsLonger, maker as maker_with, made_by}
use Rattle.turn_cell.specs.Cells.{seen, own, IsReady, IsSameView, IsAccounted}
use Rattle.chain_store.specs.declared.told.Told.{Told}
use Rattle.chain_store.specs.declared.hold.Hold.{Hold}
use Rattle.chain_store.specs.declared.region.Region.{Region}
use Rattle.chain_store.specs.declared.read_view.desk.Desk.{Desk}
use Rattle.chain_store.specs.Histories.{maker, HasIds}
use Rattle.chain_store.specs.Columns.{tag_of}
use Rattle.chain_store.specs.Passes.{ColumnCell, ColumnPass, IsHolder, IsLawfulTold, tag_in}
use Rattle.chain_store.specs.Owning.{Owns}
use Rattle.chain_store.specs.Desks.{HasDesks}
use Rattle.chain_store.specs.Holds.{history_seen, passes_of, HasPasses, IsHold, made_in, seen_in, view_of}
use Rattle.chain_store.specs.Telling.{IsTold, SeenAlike, Heard, HeardAll}
use Rattle.chain_store.proofs.Entering.{get_last}
use Rattle.chain_store.proofs.Holding.{set_got, set_other, passes_set, owns_step, clients_later}

-- who has seen all that it made made nothing of what it then sees of a history that has no more of it
pub made_between : (n : ℕ) (xs es log : List Told) → IsPrefix xs es → IsPrefix es log
    → made_by maker n log ≡ made_by maker n xs → made_by maker n es ≡ made_by maker n xs
made_between n xs es log a b whole =
    let of : Told → Bool = λ t. maker t == n in
    let first : made_by maker n es ≡ made_by maker n xs ++ made_by maker n a.0 =
    ap (made_by maker n) (sym a.1) ∙ filter-append of xs a.0 in
    let all : made_by maker n log ≡ (made_by maker n xs ++ made_by maker n a.0) ++ made_by maker n b.0 =
    ap (made_by maker n) (sym b.1) ∙ filter-append of es b.0 ∙ ap (λ (l : List Told). l ++ made_by maker n b.0) first in
    let long = ap length (sym all ∙ whole) in
    let l = length-append (made_by maker n xs ++ made_by maker n a.0) (made_by maker n b.0) in
    let m = length-append (made_by maker n xs) (made_by maker n a.0) in
    let short : length (made_by maker n a.0) ≡ 0 = omega (arith, long, l, m) in
    first ∙ ap (λ (l : List Told). made_by maker n xs ++ l) (empty (made_by maker n a.0) short)
    ∙ append-nil (made_by maker n xs) where
      empty : (l : List Told) → length l ≡ 0 → l ≡ []
      empty [] e = refl
      empty (x ∷ l) e = absurd (omega (arith, e))

-- a pass that was split knows what it knew
pub split_holder : (c : ColumnCell) (n : ℕ) (p q : ColumnPass) → IsHolder c n p → IsReady tag_of c q × IsSameView p q
    → IsHolder c n q
split_holder c n p q holds same = record {
  ready = same.0;
  mine = same.1.1.0 ∙ holds.mine ∙ ap (λ (l : List Told). Some (maker_with n (made_by maker n l))) (sym same.1.0);
  lawful = subst (IsLawfulTold (tag_in c)) (sym same.1.0) holds.lawful;
  ids = subst HasIds (sym same.1.0) holds.ids;
}

-- and what was split off has seen what it had
pub split_told : (c : ColumnCell) (n : ℕ) (p t : ColumnPass) → IsHolder c n p → IsReady tag_of c t → seen t ≡ seen p
    → IsTold c t
split_told c n p t holds ready same = record {
  ready = ready;
  lawful = subst (IsLawfulTold (tag_in c)) (sym same) holds.lawful;
  ids = subst HasIds (sym same) holds.ids;
}

module _ (c : ColumnCell) (n : ℕ) (p t q : ColumnPass) (holds : IsHolder c n p) (told : IsTold c t)
    (ready : IsReady tag_of c q) (longer : IsLonger (seen p) (seen t) (seen q)) (same : own q ≡ own p)
    (accounted : IsAccounted maker q) where
  none : made_by maker n (seen q) ≡ made_by maker n (seen p)
  none =
      made_between n (seen p) (seen q) accounted.0 longer.0 accounted.1
      (accounted.2.0 (maker_with n (made_by maker n (seen p))) (same ∙ holds.mine))

  pub met_holder : IsHolder c n q
  met_holder = record {
    ready = ready;
    mine = same ∙ holds.mine ∙ ap (λ (l : List Told). Some (maker_with n l)) (sym none);
    lawful = elim longer.2 [
      | inl e ↦ subst (IsLawfulTold (tag_in c)) (sym e) holds.lawful
      | inr e ↦ subst (IsLawfulTold (tag_in c)) (sym e) told.lawful
    ];
    ids = elim longer.2 [
      | inl e ↦ subst HasIds (sym e) holds.ids
      | inr e ↦ subst HasIds (sym e) told.ids
    ];
  }

  pub met_heard : Heard n (seen p) (seen t) (seen q)
  met_heard = record { longer = longer; none = none }

-- lists of passes

early_same : {A : Type 0} (xs ys : List A) (k : ℕ) → k < length xs → slice_get (xs ++ ys) k ≡ slice_get xs k
early_same [] ys k lt = absurd (omega (arith, lt))
early_same (x ∷ xs) ys zero lt = refl
early_same (x ∷ xs) ys (suc k) lt = early_same xs ys k (omega (arith, lt))

pub alike_set : (ps : List ColumnPass) (i : ℕ) (p q : ColumnPass) → slice_get ps i ≡ Some p → seen q ≡ seen p
    → SeenAlike ps (set ps i q)
alike_set ps i p q at same k = elim (cases_eq k i) [
  | inl e ↦
      ap (λ j. history_seen (slice_get (set ps i q) j)) e ∙ ap history_seen (set_got ps i q p at) ∙ same
      ∙ ap history_seen (sym at) ∙ ap (λ j. history_seen (slice_get ps j)) (sym e)
  | inr ne ↦ ap history_seen (set_other ps i k q ne)
]

-- the cell and the pass of a colour
pub reached_at : (cells : List ColumnCell) (n : ℕ) (ps : List ColumnPass) (k : ℕ) (c : ColumnCell) (p : ColumnPass)
    → HasPasses cells n ps → k < length cells → c ≡ get_or cells k c → p ≡ get_or ps k p
    → (slice_get cells k ≡ Some c) × (slice_get ps k ≡ Some p) × IsHolder c n p
reached_at cells n ps k c p all near here there =
    let long = all.0 in
    let at = slice_get_read cells (length cells) k c refl near here in
    let pat = slice_get_read ps (length ps) k p refl (omega (arith, near, long)) there in
    (at, pat, all.1 k c p at pat)

-- a pass of a colour was split
pub split_step : (cells : List ColumnCell) (n : ℕ) (old ps : List ColumnPass) (k : ℕ) (c : ColumnCell) (p q : ColumnPass)
    → HasPasses cells n ps → SeenAlike old ps → slice_get cells k ≡ Some c → slice_get ps k ≡ Some p → IsHolder c n p
    → IsReady tag_of c q × IsSameView p q
    → HasPasses cells n (set ps k q) × SeenAlike old (set ps k q)
split_step cells n old ps k c p q all same at pat holds kept = (
  passes_set cells ps n k c q at (split_holder c n p q holds kept) all,
  λ j. alike_set ps k p q pat kept.1.0 j ∙ same j,
)

-- one pass more was split off
module _ (cells : List ColumnCell) (ts us : List ColumnPass) (i : ℕ) (c : ColumnCell) (t : ColumnPass)
    (count : length ts ≡ i) (at : slice_get cells i ≡ Some c) (told : IsTold c t) (is : us ≡ ts ++ t ∷ []) where
  newest : slice_get us i ≡ Some t
  newest = ap (slice_get us) (sym count) ∙ ap (λ l. slice_get l (length ts)) is ∙ get_last ts t

  older : (k : ℕ) → k < i → slice_get us k ≡ slice_get ts k
  older k lt = ap (λ l. slice_get l k) is ∙ early_same ts (t ∷ []) k (omega (arith, lt, count))

  pub long : length us ≡ i + 1
  long = ap length is ∙ length-append ts (t ∷ []) ∙ (let z : length ts + length (t ∷ []) ≡ i + 1 = omega (arith, count) in z)

  pub told_more : ((k : ℕ) (d : ColumnCell) (p : ColumnPass) → slice_get cells k ≡ Some d → slice_get ts k ≡ Some p → IsTold d p)
      → (k : ℕ) (d : ColumnCell) (p : ColumnPass) → slice_get cells k ≡ Some d → slice_get us k ≡ Some p → IsTold d p
  told_more all k d p there here = elim (cases_eq k i) [
    | inl e ↦
        let a : c ≡ d = let f : Some c ≡ Some d = sym at ∙ ap (slice_get cells) (sym e) ∙ there in cc (f) in
        let b : t ≡ p = let f : Some t ≡ Some p = sym newest ∙ ap (slice_get us) (sym e) ∙ here in cc (f) in
        subst (λ (z : ColumnCell). IsTold z p) a (subst (λ (z : ColumnPass). IsTold c z) b told)
    | inr ne ↦
        let w = slice_get_within us k p here in
        let l = long in
        all k d p there (sym (older k (omega (arith, w, l, ne))) ∙ here)
  ]

  pub alike_more : (ps : List ColumnPass) → seen t ≡ history_seen (slice_get ps i)
      → ((k : ℕ) → k < i → history_seen (slice_get ts k) ≡ history_seen (slice_get ps k))
      → (k : ℕ) → k < i + 1 → history_seen (slice_get us k) ≡ history_seen (slice_get ps k)
  alike_more ps same all k lt = elim (cases_eq k i) [
    | inl e ↦ ap (λ j. history_seen (slice_get us j)) e ∙ ap history_seen newest ∙ same
        ∙ ap (λ j. history_seen (slice_get ps j)) (sym e)
    | inr ne ↦ ap history_seen (older k (omega (arith, lt, ne))) ∙ all k (omega (arith, lt, ne))
  ]

-- all of them were
pub alike_all : (ps ts : List ColumnPass) → length ts ≡ length ps
    → ((k : ℕ) → k < length ps → history_seen (slice_get ts k) ≡ history_seen (slice_get ps k)) → SeenAlike ps ts
alike_all ps ts same all k =
    dite (dec_le (length ps) k)
    (λ le. ap history_seen (slice_get_past ts k (omega (arith, le, same))) ∙ ap history_seen (sym (slice_get_past ps k le)))
    (λ lt. all k (omega (arith, lt)))

-- passes of colours that there are not have heard nothing
pub heard_none : (n : ℕ) (ps ts : List ColumnPass) → length ts ≡ length ps → (k : ℕ) → length ts ≤ k
    → Heard n (history_seen (slice_get ps k)) (history_seen (slice_get ts k)) (history_seen (slice_get ps k))
heard_none n ps ts same k le =
    let a = slice_get_past ps k (omega (arith, le, same)) in
    let b = slice_get_past ts k le in
    subst (λ (o : Option ColumnPass). Heard n (history_seen o) (history_seen (slice_get ts k)) (history_seen o)) (sym a)
    (subst (λ (o : Option ColumnPass). Heard n [] (history_seen o) []) (sym b)
    (record { longer = (([], refl), ([], refl), inl refl); none = refl }))

-- one pass more has heard
pub heard_more : (n : ℕ) (ps ts now : List ColumnPass) (i m : ℕ) (p t q : ColumnPass) → i ≡ m + 1
    → slice_get ps m ≡ Some p → slice_get ts m ≡ Some t → slice_get now m ≡ Some p → Heard n (seen p) (seen t) (seen q)
    → ((k : ℕ) → i ≤ k → Heard n (history_seen (slice_get ps k)) (history_seen (slice_get ts k)) (history_seen (slice_get now k)))
    → (k : ℕ) → m ≤ k
    → Heard n (history_seen (slice_get ps k)) (history_seen (slice_get ts k)) (history_seen (slice_get (set now m q) k))
heard_more n ps ts now i m p t q e pat tat nat one all k le = elim (cases_eq k m) [
  | inl is ↦
      subst (λ (j : ℕ). Heard n (history_seen (slice_get ps j)) (history_seen (slice_get ts j))
      (history_seen (slice_get (set now m q) j))) (sym is)
      (subst (λ (o : Option ColumnPass). Heard n (history_seen o) (history_seen (slice_get ts m))
      (history_seen (slice_get (set now m q) m))) (sym pat)
      (subst (λ (o : Option ColumnPass). Heard n (seen p) (history_seen o) (history_seen (slice_get (set now m q) m))) (sym tat)
      (subst (λ (o : Option ColumnPass). Heard n (seen p) (seen t) (history_seen o)) (sym (set_got now m q p nat)) one)))
  | inr ne ↦
      subst (λ (o : Option ColumnPass). Heard n (history_seen (slice_get ps k)) (history_seen (slice_get ts k)) (history_seen o))
      (sym (set_other now m k q ne)) (all k (omega (arith, le, ne, e)))
]

-- holds

-- a hold of the same client that has made and begun what it had
pub hold_stays : (r : Region) (h g : Hold) → IsHold r h → g.passes.number ≡ h.passes.number
    → HasPasses r.columns.items h.passes.number (passes_of g) → ((c : ℕ) → made_in g c ≡ made_in h c)
    → g.next ≡ h.next → g.desks ≡ h.desks → IsLater h.seat g.seat → IsHold r g
hold_stays r h g is number passes made next same later = record {
  passes = subst (λ (z : ℕ). HasPasses r.columns.items z (passes_of g)) (sym number) passes;
  seat = (later.board ∙ is.seat.0, later.grows.size ∙ is.seat.1);
  clients = clients_later r h.seat g.seat later is.clients;
  number = later.client ∙ is.number ∙ sym number;
  owns = subst (λ (z : ℕ × ℕ × ℕ). Owns r.board.size r.number (view_of g) z.0 z.1 z.2 (made_in g))
      (λ i. (sym number i, sym later.used i, sym next i))
      (owns_step r.board.size r.number (view_of h) (view_of g) h.passes.number h.seat.used h.next h.next (made_in h)
      (made_in g) later.grows (omega arith) is.owns
      (λ c n t at. inl (ap (λ (l : List Told). slice_get l n) (sym (made c)) ∙ at)));
  desks = subst (λ (z : Vec Desk Global). HasDesks r.shares.items z.items) (sym same) is.desks;
}

-- what a hold made of what it has seen
pub made_alike : (h g : Hold) → g.passes.number ≡ h.passes.number → SeenAlike (passes_of h) (passes_of g)
    → (c : ℕ) → made_in g c ≡ made_in h c
made_alike h g number same c =
    ap (λ (n : ℕ). made_by maker n (seen_in g c)) number ∙ ap (made_by maker h.passes.number) (same c)

pub made_heard : (h g : Hold) (ts : List ColumnPass) → g.passes.number ≡ h.passes.number
    → HeardAll h.passes.number (passes_of h) ts (passes_of g) → (c : ℕ) → made_in g c ≡ made_in h c
made_heard h g ts number heard c = ap (λ (n : ℕ). made_by maker n (seen_in g c)) number ∙ (heard c).none
