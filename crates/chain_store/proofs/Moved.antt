-- What the calls say that enter no node.
use Rattle.std.proofs.Common.{◌≡◌, ℕ, ◌+◌, ◌<◌, ◌≤◌, Bool, true, false, List, length, refl, ap, sym, subst, ◌∙◌, arith, inl, inr, ◌⊎◌}
use Rattle.std.specs.Prelude.{nat_lt, min, max}
use Rattle.std.proofs.lemmas.Bool.{ltb-true, ltb-false}
use Rattle.log_node.specs.declared.node.At.{At}
use Rattle.log_node.specs.declared.node.At.TheVariants.{Look}
use Rattle.log_node.specs.Seen.{PlacedNode}
use Rattle.log_node.specs.Vectors.{at}
use Rattle.col_core.specs.declared.Entry.{Entry}
use Rattle.col_core.specs.declared.Event.TheVariants.{Raise, Give}
use Rattle.col_core.specs.History.{clock, line}
use Rattle.col_core.specs.Cuts.{chain, base, held}
use Rattle.col_core.specs.Computed.{dated}
use Rattle.col_core.proofs.CallerLemmas.{clock-append}
use Rattle.column.specs.Columns.{history_of, base_of, held_of}
use Rattle.turn_cell.specs.Cells.{seen, Adds, MayPut, IsLook, IsEvent}
use Rattle.chain_store.specs.declared.told.Tag.{Tag}
use Rattle.chain_store.specs.declared.told.Told.{Told}
use Rattle.chain_store.specs.declared.seated.Seated.{Seated}
use Rattle.chain_store.specs.Histories.{entries_in, maker}
use Rattle.chain_store.specs.Columns.{Stands, Gains, Stays, newest_of, tag_of, told_event, told_carry}
use Rattle.chain_store.specs.Passes.{ColumnCell, ColumnPass, HasTurnOf, SeesMore, MakesOne, dated_in}
use Rattle.chain_store.specs.Moves.{held_in, base_in, LooksAt, RaisesAt, GivesAt, CarriesAt, WaitsAt}
use Rattle.chain_store.proofs.Entering.{map_with}
use Rattle.chain_store.proofs.Turning.{stood, adds, saw, makes_at}

pub looks_at : (n : ℕ) (p q r : ColumnPass) (at : At) → SeesMore n (seen p) (seen q) → IsLook q r at → LooksAt n (seen p) (seen r) at
looks_at n p q r at s w = (
  saw n p q r s w.1.0,
  w.0 ∙ ap (λ (l : List Told). Look (length l)) (sym w.1.0),
)

-- the journal is what was seen
pub journal_at : (x y : Seated) (q r : ColumnPass) → y ≡ x → Stands x (seen q) → seen r ≡ seen q
    → y.column.journal ≡ entries_in (seen r)
journal_at x y q r same stands kept = (stood x y (seen q) same stands).0.same ∙ ap entries_in (sym kept)

pub held_at : (y : Seated) (t : Tag) (log : List Told) → y.column.journal ≡ entries_in log → tag_of y ≡ t
    → held y.column.region (history_of y.column) ≡ held t.region (dated_in t log)
held_at y t log same is =
    ap (λ (l : List Entry). held y.column.region (dated y.column.region l)) same
    ∙ ap (λ (u : Tag). held u.region (dated_in u log)) is

pub base_at : (y : Seated) (t : Tag) (log : List Told) → y.column.journal ≡ entries_in log → tag_of y ≡ t
    → base_of y.column ≡ base_in t log
base_at y t log same is =
    ap (λ (l : List Entry). base y.column.region y.column.regions (dated y.column.region l)) same
    ∙ ap (λ (u : Tag). base_in u log) is

-- a step that adds its entry where a test holds
pub may_move : (cell : ColumnCell) (n : ℕ) (q : ColumnPass) → HasTurnOf cell n q → (x y : Seated) (t : Told)
    → Stands x (seen q) → maker t ≡ n → (b : Bool) → (b ≡ true → Gains x y t) → (b ≡ false → Stays x y)
    → MayPut Stands maker newest_of y q
may_move cell n q turn x y t stands by true gains stays = inr (t, adds cell n q turn x y t stands (gains refl) by)
may_move cell n q turn x y t stands by false gains stays = inl (stays refl (seen q) stands)

module _ (cell : ColumnCell) (n : ℕ) (p q r : ColumnPass) (at : At) (turn : HasTurnOf cell n q) (s : SeesMore n (seen p) (seen q))
    (x y : Seated) (t : Told) (stands : Stands x (seen q)) (by : maker t ≡ n) where
  module _ (look : Stands y (seen q) → IsLook q r at)
      (event : (u : Told) → Adds Stands maker newest_of y q u → IsEvent u q r at) where
    pub made_at : Gains x y t → (m : MakesOne n t (seen p) (seen r) at) × (m.before ≡ seen q)
    made_at gains = makes_at n t p q r at s (event t (adds cell n q turn x y t stands gains by))

    pub moved_at : (b : Bool) → (b ≡ true → Gains x y t) → (b ≡ false → Stays x y)
        → ((b ≡ false) × LooksAt n (seen p) (seen r) at × (seen r ≡ seen q))
        ⊎ ((b ≡ true) × (m : MakesOne n t (seen p) (seen r) at) × (m.before ≡ seen q))
    moved_at true gains stays = let m = made_at (gains refl) in inr (refl, m.0, m.1)
    moved_at false gains stays =
        let w = look (stays refl (seen q) stands) in inl (refl, looks_at n p q r at s w, w.1.0)

-- a raise reaches its number
pub raises_at : (n to : ℕ) (p r : ColumnPass) (at : At) (log : List Told) (b : Bool)
    → b ≡ nat_lt (clock (entries_in log)) to
    → ((b ≡ false) × LooksAt n (seen p) (seen r) at × (seen r ≡ log))
    ⊎ ((b ≡ true) × (m : MakesOne n (told_event n (Raise to)) (seen p) (seen r) at) × (m.before ≡ log))
    → RaisesAt n to (seen p) (seen r) at
raises_at n to p r at log b test (inl l) = record {
  reached =
      let le = ltb-false (clock (entries_in log)) to (sym test ∙ l.0) in
      subst (λ (h : List Told). to ≤ clock (entries_in h)) (sym l.2) le;
  either = inl l.1;
}
raises_at n to p r at log b test (inr m) = record {
  reached =
      let t = told_event n (Raise to) in
      let c : clock (entries_in (seen r)) ≡ max (clock (entries_in m.1.before)) to =
      ap (λ (h : List Told). clock (entries_in h)) m.1.adds
      ∙ ap clock (map_with (λ (u : Told). u.entry) m.1.before t) ∙ clock-append (entries_in m.1.before) t.entry in
      omega (arith, c);
  either = inr (
    m.1,
    subst (λ (h : List Told). clock (entries_in h) < to) (sym m.2)
        (ltb-true (clock (entries_in log)) to (sym test ∙ m.0)),
  );
}

-- the own line was given
pub gives_at : (x : Seated) (n region from lined : ℕ) (p q r : ColumnPass) (at : At)
    → Stands x (seen q) → lined ≡ length (line x.column.journal)
    → (m : MakesOne n (told_event n (Give region (min from (length (line x.column.journal))))) (seen p) (seen r) at)
    → m.before ≡ seen q → GivesAt n region from (seen p) (seen r) at lined
gives_at x n region from lined p q r at stands long m before =
    let same : x.column.journal ≡ entries_in m.before = stands.0.same ∙ ap entries_in (sym before) in record {
      told = told_event n (Give region (min from (length (line x.column.journal))));
      made = m;
      note = ap (λ (l : List Entry). told_event n (Give region (min from (length (line l))))) same;
      line_is = long ∙ ap (λ (l : List Entry). length (line l)) same;
    }

-- what is held is so by the history
pub held_is : (x : Seated) (t : Tag) (log : List Told) (region : ℕ) → Stands x log → tag_of x ≡ t
    → held_of x.column region ≡ held_in t log region
held_is x t log region stands is =
    ap (λ (l : List Entry). length (chain x.column.region (dated x.column.region l) region)) stands.0.same
    ∙ ap (λ (u : Tag). held_in u log region) is

-- what waited was carried, where there was something
pub carries_at : (t : Tag) (x y : Seated) (n region least : ℕ) (items : List PlacedNode) (p q r : ColumnPass) (at : At)
    (nodes : ℕ) → Stands x (seen q) → tag_of x ≡ t → Stands y (seen r) → tag_of y ≡ t → nodes ≡ length items
    → least ≤ held_of y.column region
    → ((nat_lt 0 nodes ≡ false) × LooksAt n (seen p) (seen r) at × (seen r ≡ seen q))
    ⊎ ((nat_lt 0 nodes ≡ true)
    × (m : MakesOne n (told_carry n region (held_of x.column region) items) (seen p) (seen r) at) × (m.before ≡ seen q))
    → CarriesAt t n region least (seen p) (seen r) at nodes
carries_at t x y n region least items p q r at nodes stands is after tagged count covers e = record {
  either = elim e [
    | inl l ↦ inl (l.1, let le = ltb-false 0 nodes l.0 in omega (arith, le))
    | inr m ↦
        inr (
          told_carry n region (held_of x.column region) items,
          items,
          m.1,
          ap (λ (k : ℕ). told_carry n region k items)
              (held_is x t (seen q) region stands is ∙ ap (λ (l : List Told). held_in t l region) (sym m.2)),
          count,
          ltb-true 0 nodes m.0,
        )
  ];
  covers = subst (λ (k : ℕ). least ≤ k) (held_is y t (seen r) region after tagged) covers;
}

-- nothing was carried, since too little is held and waits
pub waits_at : (t : Tag) (y : Seated) (n region least waiting : ℕ) (p q r : ColumnPass) → Stands y (seen r) → tag_of y ≡ t
    → SeesMore n (seen p) (seen r) → held_of y.column region + waiting < least → WaitsAt t n region least (seen p) (seen r)
waits_at t y n region least waiting p q r after tagged sees few = record {
  sees = sees;
  fewer = let e = held_is y t (seen r) region after tagged in omega (arith, e, few);
}
