-- What a seat knows after it was to set a mark, and after it has begun a row.
use Rattle.std.proofs.Common.{◌≡◌, ◌≢◌, ℕ, ◌+◌, ◌-◌, ◌*◌, ◌/◌, ◌%◌, ◌<◌, ◌≤◌, ◌∷◌, sym, refl, ap, ◌∙◌, subst}
use Rattle.std.proofs.Common.{arith, inl, inr}
use Rattle.std.proofs.Math.Nat.{mul_comm, div-add-mod}
use Rattle.std.specs.Prelude.{if◌then◌else◌, ◌==◌}
use mathlib.Core.Logic.{dite}
use mathlib.Core.Option.{some}
use native.Mathlib.Decide.{ℕ_discrete}
use Rattle.log_node.specs.declared.ids.Id.{Id}
use Rattle.log_node.specs.declared.ids.Row.{Row}
use Rattle.log_node.specs.declared.node.Node.{Node}
use Rattle.log_node.specs.declared.marks.Mark.TheVariants as marks
use Rattle.stamp_board.specs.declared.view.Size.{Size}
use Rattle.stamp_board.specs.declared.view.View.{View}
use Rattle.stamp_board.specs.Words.{row_at, word_at, mark_from}
use Rattle.stamp_board.specs.Views.{Has, at, Grows, KnowsWord, KnowsBegun, KnowsMark, own_mark}
use Rattle.stamp_board.specs.Law.{IsNewTo, Told, heard, wrote, with_node}
use Rattle.stamp_board.specs.Rows.{AreColours, IsRow}
use Rattle.stamp_board.proofs.Colours.{not_empty}
use Rattle.stamp_board.proofs.Knowing.{if_yes, if_no, at_here, at_else, heard_mine, heard_size, heard_knows}
use Rattle.stamp_board.proofs.Places.{same_row, one_row}
use Rattle.stamp_board.proofs.Deciding.{mark_from-none}
use Rattle.stamp_board.proofs.Keeps.{client_set}

pub number_word : (s : ℕ) → 0 < s → mark_from (s + 2) ≡ marks.Number s
number_word s pos = if_no (s + 2) 0 _ _ (λ z. omega arith) ∙ if_no (s + 2) 1 _ _ (λ z. omega arith)
    ∙ if_no (s + 2) 2 _ _ (λ z. omega arith)
    ∙ (let e : s + 2 - 2 ≡ s = omega arith in ap marks.Number e)

-- a seat that has set nothing has the marks that it had
pub same_own : (v w : View) → w.mine ≡ v.mine → w.size ≡ v.size → (row : Row) (c : ℕ)
    → own_mark w row c ≡ own_mark v row c
same_own v w mine size row c = λ i. mark_from (at (mine i) (word_at (size i) (row_at (size i) row) (1 + c)))

-- a column's seat after its mark in the row was to be set to n, where `found` was found
module _ (k : Size) (v w : View) (row : Row) (c n found : ℕ) (is : v.size ≡ k)
    (turns : w ≡ (if found == 0 then wrote v (word_at k (row_at k row) (1 + c)) n else heard v
    (word_at k (row_at k row) (1 + c)) found))
    (own : at v.mine (word_at v.size (row_at v.size row) (1 + c)) ≡ found) where
  abbrev place : ℕ
  place = word_at v.size (row_at v.size row) (1 + c)

  abbrev set_view : found ≡ 0 → w ≡ wrote v place n
  set_view e = turns ∙ if_yes found 0 _ _ e ∙ ap (λ (z : Size). wrote v (word_at z (row_at z row) (1 + c)) n) (sym is)

  found_view : found ≢ 0 → w ≡ heard v place found
  found_view ne = turns ∙ if_no found 0 _ _ ne
      ∙ ap (λ (z : Size). heard v (word_at z (row_at z row) (1 + c)) found) (sym is)

  pub was : own_mark v row c ≡ mark_from found
  was = ap mark_from own

  pub was_unset : found ≡ 0 → own_mark v row c ≡ marks.None
  was_unset e = was ∙ ap mark_from e

  pub was_set : found ≢ 0 → own_mark v row c ≢ marks.None
  was_set ne e = ne (mark_from-none found (sym was ∙ e))

  pub set_now : found ≡ 0 → own_mark w row c ≡ mark_from n
  set_now e =
      let sum : at ((place, n) ∷ v.mine) place ≡ n + at v.mine place = at_here v.mine place n place refl in
      let all : at ((place, n) ∷ v.mine) place ≡ n = sum ∙ ap (λ (z : ℕ). n + z) (own ∙ e) ∙ (omega arith) in
      ap (λ (z : View). own_mark z row c) (set_view e) ∙ ap mark_from all

  pub others_stay : found ≡ 0 → c < v.size.colours → (other : Row) → IsRow v.size row → IsRow v.size other
      → other ≢ row → own_mark w other c ≡ own_mark v other c
  others_stay e colour other h h' ne =
      let there : ℕ = word_at v.size (row_at v.size other) (1 + c) in
      let apart : place ≢ there = λ d. ne (sym (one_row v.size row other h.1 h'.1
      (same_row v.size (row_at v.size row) (1 + c) (row_at v.size other) (1 + c) (omega arith) (omega arith) d)))
      in
      ap (λ (z : View). own_mark z other c) (set_view e) ∙ ap mark_from (at_else v.mine place n there apart)

  pub all_stay : found ≢ 0 → (other : Row) → own_mark w other c ≡ own_mark v other c
  all_stay ne other = same_own v w (ap (λ (z : View). z.mine) (found_view ne)
      ∙ heard_mine v place found) (ap (λ (z : View). z.size) (found_view ne) ∙ heard_size v place found) other c

  pub knows_own : KnowsMark w row c (own_mark w row c)
  knows_own = dite (ℕ_discrete found 0)
      (λ e. (n, subst (λ (z : View). KnowsWord z row (1 + c) n) (sym (set_view e)) (inl (refl, refl)), sym (set_now e)))
      (λ ne. (
        found,
        (let size = ap (λ (z : View). z.size) (found_view ne) ∙ heard_size v place found in
            subst (λ (z : Size). Has w.known (word_at z (row_at z row) (1 + c)) found) (sym size)
            (subst (λ (z : View). Has z.known place found) (sym (found_view ne)) (heard_knows v place found ne))),
        sym (all_stay ne row ∙ was),
      ))

-- the client's row `used` is begun for x, beside those before it
pub record IsNextBegun (v w : View) (client used : ℕ) (x : Node) : Type 0 where
  pub knows : KnowsBegun w record { client = client; number = used } x
  pub grows : Grows v w
  pub few : used + 1 ≤ w.size.rows
  pub rows : (j : ℕ) → at w.mine (word_at w.size (client * w.size.rows + j) 0) ≢ 0 → j < used + 1
  pub all : (j : ℕ) → j < used + 1 → at w.mine (word_at w.size (client * w.size.rows + j) 0) ≢ 0

-- a client's seat of which `used` rows are begun, and what it is after the next
module _ (k : Size) (v w : View) (client used found : ℕ) (x : Node) (is : v.size ≡ k) (room : used < k.rows)
    (low : v.low ≡ 1 + client) (high : v.high ≡ v.low + 1)
    (begun : (j : ℕ) → at v.mine (word_at v.size (client * v.size.rows + j) 0) ≢ 0 → j < used)
    (all : (j : ℕ) → j < used → at v.mine (word_at v.size (client * v.size.rows + j) 0) ≢ 0)
    (told : Told v (word_at k (row_at k record { client = client; number = used }) 0) found)
    (bits : AreColours k x.colours)
    (view : found ≡ 0 → w ≡ with_node (wrote v (word_at k (row_at k record { client = client; number = used }) 0)
    x.colours.0) (row_at k record { client = client; number = used }) (some x)) where
  abbrev next : Row
  next = record { client = client; number = used }

  none_found : found ≡ 0
  none_found = let c = client_set k v next found is room low high told in
      let here : at v.mine (word_at k (row_at k next) 0) ≡ 0 = dite
      (ℕ_discrete (at v.mine (word_at k (row_at k next) 0)) 0) (λ z. z)
      (λ ne. absurd (let more : used < used = begun used
      (subst (λ (z : Size). at v.mine (word_at z (row_at z next) 0) ≢ 0) (sym is) ne) in omega arith)) in sym c
      ∙ here

  now : w ≡ with_node (wrote v (word_at v.size (row_at v.size next) 0) x.colours.0) (row_at v.size next) (some x)
  now = view none_found
      ∙ ap (λ (z : Size). with_node (wrote v (word_at z (row_at z next) 0) x.colours.0) (row_at z next) (some x))
      (sym is)

  begun_knows : KnowsBegun w next x
  begun_knows = subst (λ (z : View). KnowsBegun z next x) (sym now) (inl (refl, refl))

  begun_grows : Grows v w
  begun_grows = subst (Grows v) (sym now) record
      { size = refl; low = refl; high = refl; known = λ _ _ h. inr h; begun = λ _ _ h. inr h }

  begun_few : used + 1 ≤ w.size.rows
  begun_few = let r : k.rows ≡ w.size.rows = ap (λ (z : Size). z.rows) (sym is)
      ∙ ap (λ (z : View). z.size.rows) (sym now) in omega arith

  differ : (j : ℕ) → j ≢ used → word_at v.size (row_at v.size next) 0 ≢ word_at v.size (client * v.size.rows + j) 0
  differ j ne e = let r : client * v.size.rows + used ≡ client * v.size.rows + j = same_row v.size
      (row_at v.size next) 0 (client * v.size.rows + j) 0 (omega arith) (omega arith) e in
      let p : ℕ = client * v.size.rows in let r' : p + used ≡ p + j = r in ne (omega arith)

  begun_rows : (j : ℕ) → at w.mine (word_at w.size (client * w.size.rows + j) 0) ≢ 0 → j < used + 1
  begun_rows j = subst (λ (z : View). at z.mine (word_at z.size (client * z.size.rows + j) 0) ≢ 0
      → j < used + 1) (sym now) (λ ne. dite (ℕ_discrete j used) (λ e. omega arith)
      (λ d. let old : j < used = begun j (λ z. ne
      (at_else v.mine (word_at v.size (row_at v.size next) 0) x.colours.0
      (word_at v.size (client * v.size.rows + j) 0) (differ j d) ∙ z)) in omega arith))

  begun_all : (j : ℕ) → j < used + 1 → at w.mine (word_at w.size (client * w.size.rows + j) 0) ≢ 0
  begun_all j lt = subst (λ (z : View). at z.mine (word_at z.size (client * z.size.rows + j) 0) ≢ 0) (sym now)
      (dite (ℕ_discrete j used)
      (λ e z. let same : word_at v.size (row_at v.size next) 0 ≡ word_at v.size (client * v.size.rows + j) 0 = ap
      (λ (n : ℕ). word_at v.size (client * v.size.rows + n) 0) (sym e) in
      let sum : at ((word_at v.size (row_at v.size next) 0, x.colours.0) ∷ v.mine)
      (word_at v.size (client * v.size.rows + j) 0) ≡ x.colours.0 + at v.mine
      (word_at v.size (client * v.size.rows + j) 0)
      = at_here v.mine (word_at v.size (row_at v.size next) 0) x.colours.0
      (word_at v.size (client * v.size.rows + j) 0) same in
      let many = bits.many in let filled : x.colours.0 ≢ 0 = not_empty x.colours (omega arith) in omega arith)
      (λ d z. all j (omega arith) (sym (at_else v.mine (word_at v.size (row_at v.size next) 0) x.colours.0
      (word_at v.size (client * v.size.rows + j) 0) (differ j d)) ∙ z)))

  pub next_begun : IsNextBegun v w client used x
  next_begun = record { knows = begun_knows; grows = begun_grows; few = begun_few; rows = begun_rows; all = begun_all }

-- where each of the client's first rows is known as begun for a node of a lesser count, the id is new
pub new_to : (v : View) (client used : ℕ) (id : Id)
    → ((j : ℕ) → at v.mine (word_at v.size (client * v.size.rows + j) 0) ≢ 0 → j < used)
    → ((j : ℕ) → j < used → (y : Node) × KnowsBegun v (record { client = client; number = j }) y × (y.id.count < id.count))
    → IsNewTo v client id
new_to v client used id begun each q of_client set_one =
    let rows : ℕ = v.size.rows in
    let parts : client * rows + q % rows ≡ q =
    ap (λ (c : ℕ). c * rows + q % rows) (sym of_client) ∙ ap (λ (m : ℕ). m + q % rows) (mul_comm (q / rows) rows)
    ∙ div-add-mod q rows in
    let known = each (q % rows)
    (begun (q % rows) (subst (λ (r : ℕ). at v.mine (word_at v.size r 0) ≢ 0) (sym parts) set_one)) in
    let less = known.2 in (
      known.0,
      subst (λ (r : ℕ). Has v.begun r known.0) parts known.1,
      (λ e. let same = ap (λ (i : Id). i.count) e in omega (arith, less, same)),
    )
