-- Where the words of a row lie.
use Rattle.std.proofs.Common.{◌≡◌, ℕ, suc, ◌+◌, ◌*◌, ◌/◌, ◌%◌, ◌<◌, ◌≤◌, sym, ap, ◌∙◌, arith, mul-le-mul_right, suc-mul}
use Rattle.std.proofs.lemmas.Nat.{div-mul-add, mod-mul-add}
use Rattle.std.proofs.lemmas.Bool.{le-leb}
use Rattle.std.proofs.Common.{Bool}
use Rattle.std.specs.Prelude.{if◌then◌else◌}
use Rattle.stamp_board.proofs.Knowing.{if_no}
use Rattle.log_node.specs.declared.ids.Row.{Row}
use Rattle.stamp_board.specs.declared.view.Size.{Size}
use Rattle.stamp_board.specs.Words.{width, rows_of, words_of, row_at, word_at, owner_in, owner_of}

pub row_of_word : (k : Size) (r p : ℕ) → p < width k → word_at k r p / width k ≡ r
row_of_word k r p h = div-mul-add r (width k) p h

pub part_of_word : (k : Size) (r p : ℕ) → p < width k → word_at k r p % width k ≡ p
part_of_word k r p h = mod-mul-add r (width k) p h

pub owner_of_word : (k : Size) (r p : ℕ) → p < width k → owner_of k (word_at k r p) ≡ owner_in k r p
owner_of_word k r p h = λ i. owner_in k (row_of_word k r p h i) (part_of_word k r p h i)

pub same_row : (k : Size) (r p r' p' : ℕ) → p < width k → p' < width k → word_at k r p ≡ word_at k r' p' → r ≡ r'
same_row k r p r' p' h h' e = sym (row_of_word k r p h) ∙ ap (λ (n : ℕ). n / width k) e ∙ row_of_word k r' p' h'

pub same_part : (k : Size) (r p r' p' : ℕ) → p < width k → p' < width k → word_at k r p ≡ word_at k r' p' → p ≡ p'
same_part k r p r' p' h h' e = sym (part_of_word k r p h) ∙ ap (λ (n : ℕ). n % width k) e ∙ part_of_word k r' p' h'

below : (a b n p : ℕ) → a < b → p < n → a * n + p < b * n
below a b n p h h' = let m : suc a * n ≤ b * n = mul-le-mul_right n h in omega (arith, suc-mul a n)

pub row_in : (k : Size) (r : Row) → r.client < k.clients → r.number < k.rows → row_at k r < rows_of k
row_in k r h h' = below r.client k.clients k.rows r.number h h'

pub client_of_row : (k : Size) (r : Row) → r.number < k.rows → row_at k r / k.rows ≡ r.client
client_of_row k r h = div-mul-add r.client k.rows r.number h

pub number_of_row : (k : Size) (r : Row) → r.number < k.rows → row_at k r % k.rows ≡ r.number
number_of_row k r h = mod-mul-add r.client k.rows r.number h

-- a row's number among all rows is its own
pub one_row : (k : Size) (a b : Row) → a.number < k.rows → b.number < k.rows → row_at k a ≡ row_at k b → a ≡ b
one_row k a b h h' e =
    let clients : a.client ≡ b.client = sym (client_of_row k a h) ∙ ap (λ (n : ℕ). n / k.rows) e
    ∙ client_of_row k b h' in
    let numbers : a.number ≡ b.number = sym (number_of_row k a h) ∙ ap (λ (n : ℕ). n % k.rows) e
    ∙ number_of_row k b h' in
    λ i. record { client = clients i; number = numbers i }

pub owner_of_mark : (k : Size) (r c : ℕ) → c < k.colours → owner_of k (word_at k r (1 + c)) ≡ 1 + k.clients + c
owner_of_mark k r c h = owner_of_word k r (1 + c) (omega arith) ∙ if_no (1 + c) 0 _ _ (λ z. omega arith)
    ∙ ap (λ (b : Bool). if b then k.clients + (1 + c) else 0) (le-leb (1 + c) k.colours (omega arith)) ∙ omega arith

pub owner_of_row : (k : Size) (r : Row) → r.number < k.rows → owner_of k (word_at k (row_at k r) 0) ≡ 1 + r.client
owner_of_row k r h = owner_of_word k (row_at k r) 0 (omega arith) ∙ ap (λ (n : ℕ). 1 + n) (client_of_row k r h)
