-- A stopped append that another client completes: the row is lawful beside the histories of its two columns.
use Rattle.std.proofs.Common.{◌≡◌, ℕ, zero, suc, ◌<◌, List, [], ◌∷◌, length, Some, Bool, true, false, cond, refl, subst, ap, arith, lit≤}
use Rattle.std.specs.Prelude.{◌≢◌, codes, map, ◌==◌}
use Rattle.std.specs.List.{All, AllPairs, range_with_len}
use Rattle.std.proofs.lemmas.List.Elements.{All-cons, All-nil}
use Rattle.log_node.specs.declared.ids.Id.{Id}
use Rattle.log_node.specs.declared.node.Node.{Node}
use Rattle.log_node.specs.Vectors.{zeros}
use Rattle.log_node.specs.declared.marks.Mark.TheVariants as marks
use Rattle.log_node.specs.declared.marks.ColourMark.{ColourMark}
use Rattle.log_node.specs.declared.marks.Outcome.TheVariants.{Final}
use Rattle.col_core.specs.declared.Event.{Event}
use Rattle.col_core.specs.declared.Event.TheVariants.{Single, Propose, Settle, Give, Carry}
use Rattle.col_core.specs.declared.Entry.{Entry}
use Rattle.col_core.specs.Rows.{BegunRow, FitsRow, FitsRows, IsMarkOf, FitsMarks, RegionHistories, AreLawfulRows}
use Rattle.col_core.specs.Cuts.{Dated}
use Rattle.col_core.specs.Copies.{IsTrueCopy}
use Rattle.col_core.specs.Computed.{dated}
use Rattle.col_core.specs.History.{entry_key}

abbrev id : ℕ → ℕ → Id
id client count = record { client = client; count = count }

abbrev entry : ℕ → Event → ℕ → Entry
entry by event stamp = record { by = by; event = event; stamp = stamp }

abbrev e0 : Entry
e0 = entry 0 (Propose (id 0 0) 0 zeros) 1

abbrev e1 : Entry
e1 = entry 1 (Single (id 1 0) 0 zeros) 2

abbrev e2 : Entry
e2 = entry 1 (Settle (id 0 0) (Final 1)) 0

abbrev f0 : Entry
f0 = entry 1 (Propose (id 0 0) 0 zeros) 1

abbrev histories : RegionHistories
histories zero = e0 ∷ e1 ∷ e2 ∷ []
histories (suc zero) = f0 ∷ e2 ∷ []
histories (suc (suc c)) = []

abbrev node : Node
node = record { id = id 0 0; region = 0; colours = record { 0 = 3 }; text = codes "one"; floor = 0; wants = zeros ∷ zeros ∷ []; row = Some (record { client = 0; number = 0 }) }

abbrev m0 : ColourMark
m0 = record { colour = 0; mark = marks.Number 1 }

abbrev m1 : ColourMark
m1 = record { colour = 1; mark = marks.Number 1 }

abbrev row : BegunRow
row = record { row = record { client = 0; number = 0 }; node = node; marks = m0 ∷ m1 ∷ []; last = Final 1 }

by_choice : (b : Bool) → map (λ (r : BegunRow). r.row.number) (cond b (row ∷ []) []) ≡ range_with_len 0 (length (cond b (row ∷ []) []))
by_choice true = refl
by_choice false = refl

alone : (R : BegunRow → BegunRow → Type 0) → AllPairs R (row ∷ [])
alone R i j d h k = absurd (let f : ⊥ = omega (arith, h, k) in f)

IsMark : ColourMark → Type 0
IsMark m = IsMarkOf (histories m.colour) node m.mark

row_marks : All IsMark (m0 ∷ m1 ∷ [])
unfolding IsMark
row_marks = All-cons IsMark m0 (m1 ∷ []) (0, e0, 0, zeros, refl, refl, refl) (All-cons IsMark m1 [] (0, f0, 0, zeros, refl, refl, refl) (All-nil IsMark))

differs : (r : BegunRow) → r ≡ row → r.node.id ≢ id 1 0
differs r e bad = let f : 0 ≡ 1 = ap (λ (i : Id). i.client) (subst (λ (s : BegunRow). s.node.id ≡ id 1 0) e bad) in absurd (let g : ⊥ = omega (arith, f) in g)

row_events : (colour : ℕ) → colour < 2 → All (λ (e : Entry). FitsRows (row ∷ []) colour e.event) (histories colour)
row_events zero h =
    let P : Entry → Type 0 = λ (e : Entry). FitsRows (row ∷ []) 0 e.event in
    All-cons P e0 (e1 ∷ e2 ∷ []) (0, row, refl, refl, refl, refl, 0, refl)
    (All-cons P e1 (e2 ∷ []) (All-cons (λ (r : BegunRow). r.node.id ≢ id 1 0) row [] (differs row refl) (All-nil (λ (r : BegunRow). r.node.id ≢ id 1 0)))
    (All-cons P e2 [] (0, row, refl, refl, refl) (All-nil P)))
row_events (suc zero) h =
    let P : Entry → Type 0 = λ (e : Entry). FitsRows (row ∷ []) 1 e.event in
    All-cons P f0 (e2 ∷ []) (0, row, refl, refl, refl, refl, 1, refl) (All-cons P e2 [] (0, row, refl, refl, refl) (All-nil P))
row_events (suc (suc c)) h = absurd (let f : ⊥ = omega (arith, h) in f)

rows_lawful : AreLawfulRows 0 2 histories (row ∷ [])
unfolding IsMark
rows_lawful = record {
  in_order = λ client. by_choice (0 == client);
  fit = All-cons (FitsRow 0) row [] (record { client = refl; row = refl; in_region = refl; several = lit≤ tt; a_mark_each = refl }) (All-nil (FitsRow 0));
  ids_differ = alone (λ r s. r.node.id ≢ s.node.id);
  marks = All-cons (λ (r : BegunRow). All (λ (m : ColourMark). IsMarkOf (histories m.colour) r.node m.mark) r.marks) row [] row_marks (All-nil (λ (r : BegunRow). All (λ (m : ColourMark). IsMarkOf (histories m.colour) r.node m.mark) r.marks));
  outcomes = All-cons (λ (r : BegunRow). FitsMarks (map (λ (m : ColourMark). m.mark) r.marks) r.last) row [] refl (All-nil (λ (r : BegunRow). FitsMarks (map (λ (m : ColourMark). m.mark) r.marks) r.last));
  events = row_events;
}

-- two regions: the second holds the first one's node, and the first the second's
abbrev east : List Dated
east = dated 0 (entry 0 (Single (id 0 0) 0 zeros) 1 ∷ entry 1 (Give 1 0) 0 ∷ entry 0 (Carry 1 0 (record { key = entry_key 2 (id 1 0); needs = record { 0 = 1 ∷ 0 ∷ 0 ∷ 0 ∷ [] } } ∷ [])) 0 ∷ [])

abbrev west : List Dated
west = dated 1 (entry 1 (Carry 0 0 (record { key = entry_key 1 (id 0 0); needs = zeros } ∷ [])) 0 ∷ entry 1 (Single (id 1 0) 1 (record { 0 = 1 ∷ 0 ∷ 0 ∷ 0 ∷ [] })) 2 ∷ entry 0 (Give 0 0) 0 ∷ [])

west_copies_east : IsTrueCopy 0 1 east west
west_copies_east = record { rest = []; beginning = refl; noted_held = lit≤ tt }

east_copies_west : IsTrueCopy 1 0 west east
east_copies_west = record { rest = []; beginning = refl; noted_held = lit≤ tt }
