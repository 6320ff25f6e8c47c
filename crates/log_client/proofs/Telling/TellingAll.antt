-- How all of a client's holds tell and hear.
use Rattle.std.proofs.Common.{◌≡◌, inl, inr, ℕ, ◌+◌, ◌<◌, ◌≤◌, List, [], ◌∷◌, ◌++◌, length, Some, refl, ap, sym, subst, ◌∙◌, arith, append-nil, length-append}
use Rattle.std.specs.Prelude.{slice_get, slice_set}
use Rattle.std.proofs.lemmas.Bool.{cases_eq}
use Rattle.std.proofs.lemmas.Option.{same_Some, slice_get_within}
use Rattle.chain_store.specs.declared.hold.Hold.{Hold}
use Rattle.chain_store.specs.declared.region.Region.{Region}
use Rattle.chain_store.specs.declared.telling.HoldNote.{HoldNote}
use Rattle.chain_store.specs.Holds.{IsHold, seen_in, turned_in}
use Rattle.chain_store.specs.Histories.{maker}
use Rattle.turn_cell.specs.Histories.{made_by}
use Rattle.chain_store.specs.Telling.{IsHoldNote, KnowsSame, Tells, Hears}
use Rattle.chain_store.proofs.CallerLemmas.{later_same}
use Rattle.log_client.proofs.Lists.{got, got_end}
use Rattle.log_client.specs.Ending.{AreHoldsIn}
use Rattle.log_client.specs.Notes.{TellsAll, KnowSame, HearAll}
use Rattle.log_client.proofs.Going.AtHome.{set_there, set_elsewhere, set_long}
use Rattle.log_client.proofs.Going.Everywhere.{GoesAlong}

-- a hold that told goes along
pub told_along : (g h : Hold) → KnowsSame g h → GoesAlong g h
told_along g h k = record {
  on = record {
    number = k.number;
    more = λ c. ([], append-nil (seen_in g c) ∙ sym (k.seen c));
    size = k.seat.grows.size;
    learns = record { known = k.seat.grows.known; begun = k.seat.grows.begun };
  };
  made = λ c. ap (λ (n : ℕ). made_by maker n (turned_in h c)) k.number ∙ ap (made_by maker g.passes.number) (k.seen c);
  used = k.seat.used;
  next = k.next;
}

-- one that heard does
pub heard_along : (g h : Hold) (note : HoldNote) → Hears g note h → GoesAlong g h
heard_along g h note k = record {
  on = record {
    number = k.number;
    more = λ c. (k.seen c).0;
    size = k.seat.grows.size;
    learns = record { known = k.seat.grows.known; begun = k.seat.grows.begun };
  };
  made = k.made;
  used = k.seat.used;
  next = k.next;
}

-- holds by region, of which one has changed
pub holds_set : (rs : List Region) (hs : List Hold) (i : ℕ) (r : Region) (h k : Hold) → slice_get rs i ≡ Some r
    → slice_get hs i ≡ Some h → IsHold r k → AreHoldsIn rs hs → AreHoldsIn rs (slice_set hs i k)
holds_set rs hs i r h k at_r at_h is are = (
  set_long hs i k ∙ are.0,
  λ n q l a b. elim (cases_eq n i) [
    | inl same ↦
        (let is_k : k ≡ l = same_Some k l (sym (set_there hs i k h at_h) ∙ (ap (slice_get (slice_set hs i k)) (sym same) ∙ b)) in
        let is_r : r ≡ q = same_Some r q (sym at_r ∙ (ap (slice_get rs) (sym same) ∙ a)) in
        subst (IsHold q) is_k (subst (λ (z : Region). IsHold z k) is_r is))
    | inr ne ↦ are.1 n q l a (sym (set_elsewhere hs i k n ne) ∙ b)
  ],
)

module _ (rs : List Region) (gs hs : List Hold) (notes : List HoldNote) (i : ℕ) (r : Region) (h k : Hold)
    (at_r : slice_get rs i ≡ Some r) (at_h : slice_get hs i ≡ Some h)
    (later : (n : ℕ) → i ≤ n → slice_get hs n ≡ slice_get gs n) where
  at_g : slice_get gs i ≡ Some h
  at_g = sym (later i (omega arith)) ∙ at_h

  pub same_set : KnowsSame h k → KnowSame gs hs → KnowSame gs (slice_set hs i k)
  same_set now before n g l a b = elim (cases_eq n i) [
    | inl same ↦
        (let is_k : k ≡ l = same_Some k l (sym (set_there hs i k h at_h) ∙ (ap (slice_get (slice_set hs i k)) (sym same) ∙ b)) in
        let is_g : h ≡ g = same_Some h g (sym at_g ∙ (ap (slice_get gs) (sym same) ∙ a)) in
        subst (KnowsSame g) is_k (subst (λ (z : Hold). KnowsSame z k) is_g now))
    | inr ne ↦ before n g l a (sym (set_elsewhere hs i k n ne) ∙ b)
  ]

  pub later_set : (n : ℕ) → i + 1 ≤ n → slice_get (slice_set hs i k) n ≡ slice_get gs n
  later_set n le = set_elsewhere hs i k n (λ e. omega (arith, e, le)) ∙ later n (omega (arith, le))

  module _ (note : HoldNote) (count : length notes ≡ i) where
    pub notes_more : IsHoldNote r note
        → ((n : ℕ) (q : Region) (m : HoldNote) → slice_get rs n ≡ Some q → slice_get notes n ≡ Some m → IsHoldNote q m)
        → (n : ℕ) (q : Region) (m : HoldNote) → slice_get rs n ≡ Some q → slice_get (notes ++ note ∷ []) n ≡ Some m
        → IsHoldNote q m
    notes_more now before n q m a b = elim (got_end notes note n m b) [
      | inl old ↦ before n q m a old
      | inr last ↦
          (let is_r : r ≡ q = same_Some r q (sym at_r ∙ (ap (slice_get rs) (sym (last.0 ∙ count)) ∙ a)) in
          subst (IsHoldNote q) last.1 (subst (λ (z : Region). IsHoldNote z note) is_r now))
    ]

    pub tells_more : Tells h note → TellsAll gs notes → TellsAll gs (notes ++ note ∷ [])
    tells_more now before n g m a b = elim (got_end notes note n m b) [
      | inl old ↦ before n g m a old
      | inr last ↦
          (let is_g : h ≡ g = same_Some h g (sym at_g ∙ (ap (slice_get gs) (sym (last.0 ∙ count)) ∙ a)) in
          subst (Tells g) last.1 (subst (λ (z : Hold). Tells z note) is_g now))
    ]

    pub count_more : length (notes ++ note ∷ []) ≡ i + 1
    count_more = length-append notes (note ∷ []) ∙ ap (λ (n : ℕ). n + 1) count

-- hearing: the last ones have heard
pub heard_set : (gs hs : List Hold) (notes : List HoldNote) (i : ℕ) (h k : Hold) (note : HoldNote)
    → slice_get hs i ≡ Some h → slice_get notes i ≡ Some note
    → ((n : ℕ) → n < i + 1 → slice_get hs n ≡ slice_get gs n) → Hears h note k
    → ((n : ℕ) (g l : Hold) (m : HoldNote) → i + 1 ≤ n → slice_get gs n ≡ Some g → slice_get notes n ≡ Some m
    → slice_get hs n ≡ Some l → Hears g m l)
    → (n : ℕ) (g l : Hold) (m : HoldNote) → i ≤ n → slice_get gs n ≡ Some g → slice_get notes n ≡ Some m
    → slice_get (slice_set hs i k) n ≡ Some l → Hears g m l
heard_set gs hs notes i h k note at_h at_m early now before n g l m le a b d = elim (cases_eq n i) [
  | inl same ↦
      (let is_k : k ≡ l = same_Some k l (sym (set_there hs i k h at_h) ∙ (ap (slice_get (slice_set hs i k)) (sym same) ∙ d)) in
      let is_g : h ≡ g = same_Some h g (sym at_h ∙ (early i (omega arith) ∙ (ap (slice_get gs) (sym same) ∙ a))) in
      let is_m : note ≡ m = same_Some note m (sym at_m ∙ (ap (slice_get notes) (sym same) ∙ b)) in
      subst (Hears g m) is_k (subst (λ (z : HoldNote). Hears g z k) is_m (subst (λ (z : Hold). Hears z note k) is_g now)))
  | inr ne ↦ before n g l m (omega (arith, le, ne)) a b (sym (set_elsewhere hs i k n ne) ∙ d)
]

-- all holds that told go along, and all that heard
pub told_all : (gs hs : List Hold) → KnowSame gs hs → (n : ℕ) (g h : Hold) → slice_get gs n ≡ Some g
    → slice_get hs n ≡ Some h → GoesAlong g h
told_all gs hs same n g h a b = told_along g h (same n g h a b)

pub heard_all : (rs : List Region) (gs : List Hold) (notes : List HoldNote) (hs : List Hold) → length hs ≡ length rs
    → length notes ≡ length rs → HearAll gs notes hs → (n : ℕ) (g h : Hold) → slice_get gs n ≡ Some g
    → slice_get hs n ≡ Some h → GoesAlong g h
heard_all rs gs notes hs many count heard n g h a b =
    let lt = slice_get_within hs n h b in
    let m = got notes n (omega (arith, lt, many, count)) in
    heard_along g h m.0 (heard n g h m.0 a m.1 b)
