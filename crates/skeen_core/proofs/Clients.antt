-- A board whose rows of one client have changed.
use Rattle.std.proofs.Common.{◌≡◌, ℕ, zero, suc, ◌<◌, List, [], ◌∷◌, length, get_or, set, refl, sym, ap, subst}
use Rattle.std.proofs.Common.{◌∙◌, true, Some, None, arith, inl, inr}
use Rattle.std.specs.Prelude.{map, replicate, slice_get, Option}
use Rattle.std.proofs.lemmas.List.{map-set, get_or-map, length-map, get_or_past}
use Rattle.std.proofs.lemmas.Bool.{cases_lt, false≢true}
use Rattle.skeen_core.specs.Boards.{BoardRow}
use Rattle.log_node.specs.declared.ids.Row.{Row}
use Rattle.skeen_core.specs.Boards.{Board, RowsOfClient, begun_at, has_in}

-- the begun rows of the clients, with those of one replaced
pub client-set : (clients : List RowsOfClient) (i : ℕ) (old new : RowsOfClient) (begun : List (List BoardRow))
    (f : List BoardRow → List BoardRow) → i < length clients → old ≡ get_or clients i old →
    map (λ (c : RowsOfClient). c.begun) clients ≡ begun → new.begun ≡ f old.begun →
    map (λ (c : RowsOfClient). c.begun) (set clients i new) ≡ set begun i (f (get_or begun i []))
client-set clients i old new begun f lt read is change =
    map-set (λ (c : RowsOfClient). c.begun) clients i new
    ∙ ap (λ bs. set bs i new.begun) is
    ∙ ap (λ rs. set begun i rs) (change ∙ ap f (ap (λ (c : RowsOfClient). c.begun) read
    ∙ sym (get_or-map (λ (c : RowsOfClient). c.begun) clients i old [] lt) ∙ ap (λ bs. get_or bs i []) is))

pub client-rows : (clients : List RowsOfClient) (i : ℕ) (old : RowsOfClient) (begun : List (List BoardRow)) →
    i < length clients → old ≡ get_or clients i old → map (λ (c : RowsOfClient). c.begun) clients ≡ begun →
    old.begun ≡ get_or begun i []
client-rows clients i old begun lt read is = ap (λ (c : RowsOfClient). c.begun) read
    ∙ sym (get_or-map (λ (c : RowsOfClient). c.begun) clients i old [] lt) ∙ ap (λ bs. get_or bs i []) is

-- what is there stands within the list
pub some-within : {X : Type 0} (xs : List X) (n : ℕ) (x : X) → slice_get xs n ≡ Some x → n < length xs
some-within [] n x e = absurd (let h : ⊥ = cc in h)
some-within (y ∷ ys) zero x e = omega arith
some-within (y ∷ ys) (suc n) x e = let h = some-within ys n x e in omega (arith, h)

pub map-replicate : (n : ℕ) (c : RowsOfClient) → map (λ (d : RowsOfClient). d.begun) (replicate n c) ≡ replicate n
    c.begun
map-replicate zero c = refl
map-replicate (suc n) c = ap (λ bs. c.begun ∷ bs) (map-replicate n c)

-- a board, by the rows of its clients
abbrev pub board_of : ℕ → ℕ → List RowsOfClient → Board
board_of colours rows clients = record { colours = colours; rows = rows; begun = map (λ c. c.begun) clients }

pub clients-length : (colours rows : ℕ) (clients : List RowsOfClient) (board : Board) →
    board_of colours rows clients ≡ board → length board.begun ≡ length clients
clients-length colours rows clients board is = sym (ap (λ (b : Board). length b.begun) is)
    ∙ length-map clients (λ (c : RowsOfClient). c.begun)

pub board-set : (colours rows : ℕ) (clients : List RowsOfClient) (board : Board) (i : ℕ) (old new : RowsOfClient)
    (f : List BoardRow → List BoardRow) → board_of colours rows clients ≡ board → i < length clients →
    old ≡ get_or clients i old → new.begun ≡ f old.begun →
    board_of colours rows (set clients i new) ≡ record board
    { begun = set board.begun i (f (get_or board.begun i [])) }
board-set colours rows clients board i old new f is lt read change =
    subst (λ (b : Board). board_of colours rows (set clients i new) ≡ record b
    { begun = set b.begun i (f (get_or b.begun i [])) }) is
    (ap (λ (bs : List (List BoardRow)). let b : Board = record { colours = colours; rows = rows; begun = bs } in b)
    (client-set clients i old new (map (λ (c : RowsOfClient). c.begun) clients) f lt read refl change))

-- the rows of one client
pub board-rows : (colours rows : ℕ) (clients : List RowsOfClient) (board : Board) (i : ℕ) (old : RowsOfClient) →
    board_of colours rows clients ≡ board → i < length clients → old ≡ get_or clients i old →
    old.begun ≡ get_or board.begun i []
board-rows colours rows clients board i old is lt read = client-rows clients i old board.begun lt read
    (ap (λ (b : Board). b.begun) is)

-- a begun row is that of a client of the board
pub client-within : (colours rows : ℕ) (clients : List RowsOfClient) (board : Board) (row : Row) (r : BoardRow) →
    board_of colours rows clients ≡ board → begun_at board row ≡ Some r → row.client < length clients
client-within colours rows clients board row r is there = elim (cases_lt row.client (length clients)) [
  | inl lt ↦ lt
  | inr out ↦
      let long = clients-length colours rows clients board is in
      let none : get_or board.begun row.client [] ≡ [] = get_or_past board.begun row.client [] (omega (arith, long)) in
      let some = some-within (get_or board.begun row.client []) row.number r there in
      absurd (omega (arith, some, ap length none))
]

-- a row with a colour is begun
pub some-begun : (o : Option BoardRow) (colour : ℕ) → has_in o colour ≡ true → (r : BoardRow) × (o ≡ Some r)
some-begun None colour e = absurd (false≢true e)
some-begun (Some r) colour e = (r, refl)
