-- The versions: which there are, and their limits; only a script's first line names one.
use Rattle.std.proofs.Common.{◌≡◌, ℕ, ◌≤◌, ◌⊎◌, inl, inr, lit<, lit≤, cond, Bool, true, false, eqb, List, [], ◌∷◌, length, Some, refl, codes, arith}
use Rattle.std.specs.Fmt.{decimal}
use Rattle.std.specs.List.{last_or}
use Rattle.std.proofs.lemmas.Fmt.{decimal_digit}
use Rattle.std.proofs.lemmas.Bool.{or_cases, eqb-true, cases_Bool}
use Rattle.log_node.specs.declared.node.Shape.{Shape}
use Rattle.log_node.specs.declared.limits.TheConstants.{MAX_REGIONS, MAX_COLOURS, MAX_CLIENTS, MAX_ROWS}
use Rattle.script_text.specs.declared.item.Item.{Item}
use Rattle.script_text.specs.declared.item.Item.TheVariants as items
use Rattle.script_text.specs.declared.item.Stage.{Stage}
use Rattle.script_text.specs.declared.item.Stage.TheVariants as stages
use Rattle.script_text.specs.declared.limits.TheConstants.{VERSION_1, VERSION_2}
use Rattle.script_text.specs.Versions.{is_version, limits_in, AreWithin}
use Rattle.script_text.specs.Fitting.{IsShape}
use Rattle.script_text.specs.Items.{stage_after, stage_of, may_begin, may_come, version_of}

-- there are two versions
pub which_version : (version : ℕ) → is_version version ≡ true → (version ≡ 1) ⊎ (version ≡ 2)
which_version version is =
    elim (or_cases (eqb version 1) (eqb version 2) is) [
      | inl one ↦ inl (eqb-true version 1 one)
      | inr two ↦ inr (eqb-true version 2 two)
    ]

pub version_some : (version : ℕ) → is_version version ≡ true → 1 ≤ version
version_some version is =
    elim (which_version version is) [
      | inl one ↦ omega (arith, one)
      | inr two ↦ omega (arith, two)
    ]

-- with these texts
pub text_1 : decimal 1 ≡ codes "1"
text_1 = decimal_digit 1 (lit< tt)

pub text_2 : decimal 2 ≡ codes "2"
text_2 = decimal_digit 2 (lit< tt)

-- and they have two sets of limits
pub which_limits : (version : ℕ) → (limits_in version ≡ VERSION_1) ⊎ (limits_in version ≡ VERSION_2)
which_limits version =
    elim (cases_Bool (eqb version 2)) [
      | inl two ↦ inr (rw two refl)
      | inr other ↦ inl (rw other refl)
    ]

pub limits_within : (version : ℕ) → AreWithin (limits_in version)
limits_within version = by (eqb version 2) where
  by : (second : Bool) → AreWithin (cond second VERSION_2 VERSION_1)
  by true = record { regions = lit≤ tt; colours = lit≤ tt; clients = lit≤ tt; objects = lit≤ tt; rows = lit≤ tt; a_row = lit≤ tt; unsaid_rows = lit≤ tt }
  by false = record { regions = lit≤ tt; colours = lit≤ tt; clients = lit≤ tt; objects = lit≤ tt; rows = lit≤ tt; a_row = lit≤ tt; unsaid_rows = lit≤ tt }

-- ---- a script's shape is one that the log has room for

pub regions_few : (version : ℕ) (shape : Shape) → IsShape (limits_in version) shape → shape.regions ≤ MAX_REGIONS
regions_few version shape is = let few = is.few_regions in let most = (limits_within version).regions in omega (arith, few, most)

pub colours_few : (version : ℕ) (shape : Shape) → IsShape (limits_in version) shape → shape.colours ≤ MAX_COLOURS
colours_few version shape is = let few = is.few_colours in let most = (limits_within version).colours in omega (arith, few, most)

pub clients_few : (version : ℕ) (shape : Shape) → IsShape (limits_in version) shape → length shape.homes ≤ MAX_CLIENTS
clients_few version shape is = let few = is.few_clients in let most = (limits_within version).clients in omega (arith, few, most)

pub rows_few : (version rows : ℕ) → rows ≤ (limits_in version).rows → rows ≤ MAX_ROWS
rows_few version rows few = let most = (limits_within version).rows in omega (arith, few, most)

-- ---- the first line

-- at the first stage alone the version may come
pub at_fuzzylog : (version : ℕ) (s : Stage) → may_begin version s (codes "fuzzylog") ≡ true → s ≡ stages.Nothing
at_fuzzylog version stages.Nothing e = refl
at_fuzzylog version stages.Version e = absurd cc
at_fuzzylog version stages.Regions e = absurd cc
at_fuzzylog version stages.Colours e = absurd cc
at_fuzzylog version stages.Rows e = absurd cc
at_fuzzylog version stages.Clients e = absurd cc
at_fuzzylog version stages.Objects e = absurd cc
at_fuzzylog version stages.Commands e = absurd cc

-- an item leads away from it
pub something : (item : Item) → stage_after (Some item) ≡ stages.Nothing → ⊥
something (items.Version version) e = cc
something (items.Regions names) e = cc
something (items.Colours names) e = cc
something (items.Rows rows) e = cc
something (items.Client name home) e = cc
something (items.Declared object) e = cc
something items.Begin e = cc
something (items.Asks command) e = cc

pub something_last : (item : Item) (later : List Item) → stage_after (last_or (Some item) later) ≡ stages.Nothing → ⊥
something_last item [] e = something item e
something_last item (next ∷ later) e = something_last next later e

-- so nothing has been said where the version may come
pub nothing_before : (before : List Item) → may_come before (codes "fuzzylog") ≡ true → before ≡ []
nothing_before [] come = refl
nothing_before (item ∷ later) come = absurd (something_last item later (at_fuzzylog (version_of (item ∷ later)) (stage_of (item ∷ later)) come))
