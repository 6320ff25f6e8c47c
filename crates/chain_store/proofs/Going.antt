-- How facts on a hold that goes on compose.
use Rattle.std.proofs.Common.{◌≡◌, ◌≢◌, ℕ, ◌<◌, List, [], ◌∷◌, ◌++◌, refl, ap, sym, subst, ◌∙◌, inl, inr}
use Rattle.std.proofs.Common.{append_assoc, append-nil}
use Rattle.std.specs.Prelude.{slice_get}
use Rattle.std.specs.List.{All}
use Rattle.std.proofs.lemmas.Bool.{cases_eq}
use Rattle.std.proofs.lemmas.List.Elements.{All-nil, All-cons, All-append, All-weaker}
use mathlib.Core.List.{IsPrefix}
use Rattle.log_node.specs.declared.node.At.{At}
use Rattle.log_node.specs.Seen.{BegunAppend}
use Rattle.col_core.specs.declared.Event.{Event}
use Rattle.stamp_board.specs.declared.seats.Seat.{Seat}
use Rattle.stamp_board.specs.Seats.{IsLater, seen as seat_seen}
use Rattle.stamp_board.proofs.CallerLemmas.{Grows-refl, Grows-trans, Learns-from}
use Rattle.turn_cell.specs.Histories.{made_by}
use Rattle.chain_store.specs.declared.told.Told.{Told}
use Rattle.chain_store.specs.declared.hold.Hold.{Hold}
use Rattle.chain_store.specs.declared.hold.ColumnPasses.{ColumnPasses}
use Rattle.chain_store.specs.declared.region.Region.{Region}
use Rattle.chain_store.specs.Histories.{maker}
use Rattle.chain_store.specs.Holds.{KnowsAppend, SameBut, SeesMoreIn, MakesOneIn, history_seen, turned_in, seen_in}
use Rattle.chain_store.specs.Holds.{made_in, view_of}
use Rattle.chain_store.proofs.Begun.{begun_later}
use Rattle.chain_store.proofs.Passing.{made_with}
use Rattle.chain_store.specs.Going.{GoesOn}

-- beginnings of lists

module _ {A : Type 0} where
  pub prefix_same : (xs ys : List A) → ys ≡ xs → IsPrefix xs ys
  prefix_same xs ys e = ([], append-nil xs ∙ sym e)

  pub prefix_with : (xs ys : List A) (y : A) → IsPrefix xs ys → IsPrefix xs (ys ++ y ∷ [])
  prefix_with xs ys y p = (p.0 ++ y ∷ [], sym (append_assoc xs p.0 (y ∷ [])) ∙ ap (λ l. l ++ y ∷ []) p.1)

  pub prefix_then : (xs ys zs : List A) → IsPrefix xs ys → IsPrefix ys zs → IsPrefix xs zs
  prefix_then xs ys zs p q = (p.0 ++ q.0, sym (append_assoc xs p.0 q.0) ∙ (ap (λ l. l ++ q.0) p.1 ∙ q.1))

-- seats

pub later_same : (s : Seat) → IsLater s s
later_same s = record { board = refl; client = refl; used = refl; grows = Grows-refl (seat_seen s) }

pub later_then : (s t u : Seat) → IsLater s t → IsLater t u → IsLater s u
later_then s t u a b = record {
  board = b.board ∙ a.board;
  client = b.client ∙ a.client;
  used = b.used ∙ a.used;
  grows = Grows-trans (seat_seen s) (seat_seen t) (seat_seen u) a.grows b.grows;
}

-- an append that a hold knows it knows later
pub append_later : (r : Region) (g h : Hold) (b : BegunAppend) → IsLater g.seat h.seat
    → h.passes.number ≡ g.passes.number → KnowsAppend r g b → KnowsAppend r h b
append_later r g h b later same k = record {
  knows = (
    k.knows.0,
    begun_later r.board.size r.number b (view_of g) (view_of h) later.grows.size
        (Learns-from (view_of g) (view_of h) later.grows) k.knows.0 k.knows.1,
  );
  own = λ is. subst (λ (n : ℕ). b.row.number < n) (sym later.used) (k.own (is ∙ same));
}

-- holds that go on

module _ (Made : ℕ → Event → Type 0) (g h : Hold) where
  -- whose passes are as they were
  pub goes_same : h.passes ≡ g.passes → GoesOn Made g h
  goes_same same = record {
    number = ap (λ (p : ColumnPasses). p.number) same;
    more = λ c. prefix_same (seen_in g c) (seen_in h c)
        (ap (λ (p : ColumnPasses). history_seen (slice_get p.items.items c)) same);
    made = λ c. (
      [],
      ap (λ (p : ColumnPasses). made_by maker p.number (history_seen (slice_get p.items.items c))) same
          ∙ sym (append-nil (made_in g c)),
      All-nil (λ (t : Told). Made c t.entry.event),
    );
  }

  pub goes_then : (k : Hold) → GoesOn Made g h → GoesOn Made h k → GoesOn Made g k
  goes_then k a b = record {
    number = b.number ∙ a.number;
    more = λ c. prefix_then (seen_in g c) (seen_in h c) (seen_in k c) (a.more c) (b.more c);
    made = λ c. let x = a.made c in let y = b.made c in (
      x.0 ++ y.0,
      y.1 ∙ (ap (λ (l : List Told). l ++ y.0) x.1 ∙ append_assoc (made_in g c) x.0 y.0),
      All-append (λ (t : Told). Made c t.entry.event) x.0 y.0 x.2 y.2,
    );
  }

  pub goes_weaken : (More : ℕ → Event → Type 0) → ((c : ℕ) (e : Event) → Made c e → More c e) → GoesOn Made g h
      → GoesOn More g h
  goes_weaken More f a = record {
    number = a.number;
    more = a.more;
    made = λ c. let x = a.made c in (
      x.0,
      x.1,
      All-weaker (λ (t : Told). Made c t.entry.event) (λ (t : Told). More c t.entry.event)
          (λ t m. f c t.entry.event m) x.0 x.2,
    );
  }

-- after a call on one colour's column
module _ (Made : ℕ → Event → Type 0) (k : ℕ) (g h : Hold) (but : SameBut k g h) where
  made_now : made_in h k ≡ made_by maker g.passes.number (seen_in h k)
  made_now = ap (λ (n : ℕ). made_by maker n (turned_in h k)) but.number

  made_else : (c : ℕ) → c ≢ k → made_in h c ≡ made_in g c
  made_else c ne = ap (λ (n : ℕ). made_by maker n (turned_in h c)) but.number
      ∙ ap (made_by maker g.passes.number) (but.others c ne)

  at_all : IsPrefix (seen_in g k) (seen_in h k)
      → (ts : List Told) × (made_in h k ≡ made_in g k ++ ts) × All (λ (t : Told). Made k t.entry.event) ts
      → GoesOn Made g h
  at_all more made = record {
    number = but.number;
    more = λ c. elim (cases_eq c k) [
      | inl is ↦ subst (λ (d : ℕ). IsPrefix (seen_in g d) (seen_in h d)) (sym is) more
      | inr ne ↦ prefix_same (seen_in g c) (seen_in h c) (but.others c ne)
    ];
    made = λ c. elim (cases_eq c k) [
      | inl is ↦
          subst (λ (d : ℕ). (ts : List Told) × (made_in h d ≡ made_in g d ++ ts)
          × All (λ (t : Told). Made d t.entry.event) ts) (sym is) made
      | inr ne ↦ (
        [],
        made_else c ne ∙ sym (append-nil (made_in g c)),
        All-nil (λ (t : Told). Made c t.entry.event),
      )
    ];
  }

  -- that looked
  pub looks_on : SeesMoreIn k g h → GoesOn Made g h
  looks_on s = at_all s.more (
    [],
    made_now ∙ (s.none ∙ sym (append-nil (made_in g k))),
    All-nil (λ (t : Told). Made k t.entry.event),
  )

  -- that made an entry
  pub makes_on : (t : Told) (at : At) → MakesOneIn k g h t at → maker t ≡ g.passes.number → Made k t.entry.event
      → GoesOn Made g h
  makes_on t at m by fits = at_all
      (subst (λ (l : List Told). IsPrefix (seen_in g k) l) (sym m.adds) (prefix_with (seen_in g k) m.before t m.more)) (
        t ∷ [],
        made_now
            ∙ (ap (made_by maker g.passes.number) m.adds
            ∙ (made_with g.passes.number m.before t by ∙ ap (λ (l : List Told). l ++ t ∷ []) m.none)),
        All-cons (λ (u : Told). Made k u.entry.event) t [] fits (All-nil (λ (u : Told). Made k u.entry.event)),
      )
