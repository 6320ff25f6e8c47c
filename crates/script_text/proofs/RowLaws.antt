-- What is read as a script lets each client begin a row at least, and no more than its version allows.
use Rattle.std.proofs.Common.{◌≡◌, ℕ, ◌<◌, ◌≤◌, true, List, [], ◌∷◌, ◌++◌, Some, None, refl, ap, sym, subst, ◌∙◌, arith}
use Rattle.std.proofs.Common.{append-nil, append_assoc, leb-true}
use Rattle.std.specs.Prelude.{IsTrue, codes, nat_le}
use Rattle.std.specs.List.{enumerate_from, filter_map}
use Rattle.script_text.specs.declared.script.Script.{Script}
use Rattle.script_text.specs.declared.item.Item.{Item}
use Rattle.script_text.specs.declared.item.Item.TheVariants as items
use Rattle.script_text.specs.declared.limits.TheConstants.{VERSION_1}
use Rattle.script_text.specs.Pieces.{lines_of, is_between}
use Rattle.script_text.specs.Versions.{limits_in}
use Rattle.script_text.specs.Items.{version_in, rows_in, version_of, limits_of, row_number, last_said, may_come}
use Rattle.script_text.specs.Grammar.{may_follow, Say, said_lines, IsScript}
use Rattle.script_text.specs.Laws.{RowsAreWithinLimits}
use Rattle.script_text.proofs.VersionLemmas.{limits_within}
use Rattle.script_text.proofs.FittingLemmas.{and-left, and-right, filter_map-more, filter_map-said, said-last}

-- so many rows are some, and few
record AreRows (version rows : ℕ) : Type 0 where
  some : 0 < rows
  few : rows ≤ (limits_in version).rows

HasRows : List Item → Type 0
HasRows before = AreRows (version_of before) (row_number before)

-- an item that names no version leaves it
same_version : (before : List Item) (item : Item) → version_in item ≡ None
    → version_of (before ++ item ∷ []) ≡ version_of before
same_version before item e = ap (last_said 1) (filter_map-more version_in before item e)

-- an item that says no rows leaves their number
as_many : (before : List Item) (item : Item) → version_in item ≡ None → rows_in item ≡ None → HasRows before
    → HasRows (before ++ item ∷ [])
unfolding HasRows
as_many before item v e has =
    let same : row_number (before ++ item ∷ []) ≡ row_number before =
    ap (last_said VERSION_1.unsaid_rows) (filter_map-more rows_in before item e) in
    rw (same, same_version before item v) has

-- an item that says rows gives their number
new_rows : (before : List Item) (item : Item) (number : ℕ) → rows_in item ≡ Some number
    → row_number (before ++ item ∷ []) ≡ number
new_rows before item number e =
    ap (last_said VERSION_1.unsaid_rows) (filter_map-said rows_in before item number e)
    ∙ said-last VERSION_1.unsaid_rows (filter_map rows_in before) number

-- the version's line gives as many as are not said
of_version : (before : List Item) (version : ℕ) → HasRows (before ++ items.Version version ∷ [])
unfolding HasRows
of_version before version =
    let item = items.Version version in
    let named : version_of (before ++ item ∷ []) ≡ version =
    ap (last_said 1) (filter_map-said version_in before item version refl)
    ∙ said-last 1 (filter_map version_in before) version in
    let within = limits_within version in
    rw (new_rows before item (limits_in version).unsaid_rows refl, named)
    (record { some = let one = within.a_row in omega (arith, one); few = within.unsaid_rows })

-- the line of the rows gives as many as it says
of_rows : (before : List Item) (number : ℕ) → is_between 1 (limits_of before).rows number ≡ true
    → HasRows (before ++ items.Rows number ∷ [])
unfolding HasRows
of_rows before number ok =
    let item = items.Rows number in
    let most = (limits_of before).rows in
    let least = leb-true 1 number (and-left (nat_le 1 number) (nat_le number most) ok) in
    rw (new_rows before item number refl, same_version before item refl)
    (record { some = omega (arith, least); few = leb-true number most (and-right (nat_le 1 number) (nat_le number most) ok) })

-- one item more
one_more : (before : List Item) (item : Item) → HasRows before → IsTrue (may_follow before item)
    → HasRows (before ++ item ∷ [])
one_more before (items.Version version) has ok = of_version before version
one_more before (items.Regions names) has ok = as_many before (items.Regions names) refl refl has
one_more before (items.Colours names) has ok = as_many before (items.Colours names) refl refl has
one_more before (items.Rows number) has ok =
    of_rows before number (and-right (may_come before (codes "rows")) (is_between 1 (limits_of before).rows number) ok)
one_more before (items.Client name home) has ok = as_many before (items.Client name home) refl refl has
one_more before (items.Declared object) has ok = as_many before (items.Declared object) refl refl has
one_more before items.Begin has ok = as_many before items.Begin refl refl has
one_more before (items.Asks command) has ok = as_many before (items.Asks command) refl refl has

-- the items of some lines, one after another
all_have : (before : List Item) (lines : List (ℕ × List ℕ)) (said : List Item) → HasRows before
    → Say before lines said → HasRows (before ++ said)
all_have before [] [] has say = subst HasRows (sym (append-nil before)) has
all_have before [] (item ∷ later) has say = absurd say
all_have before (line ∷ lines) [] has say = absurd say
all_have before (line ∷ lines) (item ∷ later) has say =
    subst HasRows (append_assoc before (item ∷ []) later)
    (all_have (before ++ item ∷ []) lines later (one_more before item has say.1) say.2)

of_script : (bytes : List ℕ) (script : Script) → IsScript bytes script → AreRows script.version script.shape.rows
unfolding HasRows
of_script bytes script is =
    subst (λ (s : Script). AreRows s.version s.shape.rows) (sym is.same)
    (all_have [] (said_lines (enumerate_from 1 (lines_of bytes))) is.said
    (record { some = omega arith; few = omega arith }) is.lines.say)

pub rows_are_within_limits : RowsAreWithinLimits
rows_are_within_limits bytes script is = (of_script bytes script is).few

-- what is read as a script has a row for each client
pub some_rows : (bytes : List ℕ) (script : Script) → IsScript bytes script → 0 < script.shape.rows
some_rows bytes script is = (of_script bytes script is).some
