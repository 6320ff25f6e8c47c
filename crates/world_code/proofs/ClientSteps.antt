-- What the code reads of clients, and what a step of one client alone makes of the world.
use Rattle.std.proofs.Common.{◌≡◌, ℕ, suc, ◌+◌, ◌<◌, Bool, true, List, [], ◌∷◌, length, get_or, set, Some, refl, ap}
use Rattle.std.proofs.Common.{sym, ◌∙◌, arith, zero-add}
use Rattle.std.specs.Prelude.{◌&&◌, ◌||◌, nat_lt, nat_le, slice_get}
use Rattle.std.specs.List.{list_any, range_with_len}
use Rattle.std.proofs.lemmas.Bool.{and_parts, ltb-true, lt-ltb, cond-true}
use Rattle.std.proofs.lemmas.Option.{slice_get_within, get_or_from_slice_get}
use Rattle.col_core.specs.History.{clock}
use Rattle.column.specs.Columns.{ColumnState}
use Rattle.world_laws.specs.declared.steps.Step.TheVariants as steps
use Rattle.world_laws.specs.Worlds.{home_of, is_client, may_see, after_seen}
use Rattle.world_code.specs.Clients.{ClientView, fresh_client}
use Rattle.world_code.specs.WorldView.{WorldView, no_column, column_at, client_at, world_of, IsWhole}
use Rattle.world_code.proofs.ChangedParts.{client_world, whole_client}
use Rattle.world_code.proofs.RaiseSteps.{default_free}

-- a test of what stands at each place is one of each item
any_from : (p : ColumnState → Bool) (f : ℕ → ColumnState) (xs : List ColumnState) (from : ℕ)
    → ((k : ℕ) → k < length xs → f (from + k) ≡ get_or xs k no_column)
    → list_any (λ c. p (f c)) (range_with_len from (length xs)) ≡ list_any p xs
any_from p f [] from h = refl
any_from p f (x ∷ xs) from h =
    ap (λ (b : Bool). b || list_any (λ c. p (f c)) (range_with_len (from + 1) (length xs)))
    (ap p (ap f (none from) ∙ h 0 (omega arith)))
    ∙ ap (λ (b : Bool). p x || b) (any_from p f xs (from + 1) (λ k lt. later from k ∙ h (suc k) (omega (arith, lt))))
  where
    none : (n : ℕ) → n ≡ n + 0
    none n = omega arith

    later : (from k : ℕ) → f (from + 1 + k) ≡ f (from + suc k)
    later from k = ap f (let e : from + 1 + k ≡ from + suc k = omega arith in e)

-- the region of a client
pub home_is : (code : WorldView) (client home : ℕ) → slice_get code.shape.homes client ≡ Some home
    → (home_of (world_of code) client ≡ home) × (client < length code.shape.homes)
home_is code client home is =
    (get_or_from_slice_get code.shape.homes client home 0 is, slice_get_within code.shape.homes client home is)

pub may_see_is : (code : WorldView) (client home to : ℕ) → IsWhole code → slice_get code.shape.homes client ≡ Some home
    → home < code.shape.regions → (client_at code client).floor < to
    → may_see (world_of code) client to
    ≡ list_any (λ (column : ColumnState). nat_le to (clock column.journal)) (get_or code.columns home [])
may_see_is code client home to w is in_range above =
    let h = home_is code client home is in
    let p : ColumnState → Bool = λ column. nat_le to (clock column.journal) in
    let n = w.regions in
    let wide = w.wide home [] (omega (arith, n, in_range)) in
    all_true (nat_lt client (length code.shape.homes)) (nat_lt (client_at code client).floor to) _
    (lt-ltb client (length code.shape.homes) h.1) (lt-ltb (client_at code client).floor to above)
    ∙ (ap (λ (r : ℕ). list_any (λ c. p (column_at code.columns r c)) (range_with_len 0 code.shape.colours)) h.0
    ∙ (ap (λ (k : ℕ). list_any (λ c. p (column_at code.columns home c)) (range_with_len 0 k)) (sym wide)
    ∙ any_from p (λ c. column_at code.columns home c) (get_or code.columns home []) 0
    (λ k lt. ap (λ (i : ℕ). column_at code.columns home i) (zero-add k)))) where
      all_true : (a b x : Bool) → a ≡ true → b ≡ true → (a && (b && x)) ≡ x
      all_true a b x s t = rw (s, t) refl

-- a client that there is
pub client_there : (code : WorldView) (client to : ℕ) → IsWhole code → may_see (world_of code) client to ≡ true
    → client < length code.clients
client_there code client to w may =
    let p = and_parts (is_client (world_of code) client) _ may in
    let lt = ltb-true client (length code.shape.homes) p.0 in
    let n = w.clients in
    omega (arith, lt, n)

abbrev pub seen_client : ClientView → ℕ → ClientView
seen_client c to = record c { floor = to }

pub seen_world : (code : WorldView) (client to : ℕ) → client < length code.clients
    → world_of (record code { clients = set code.clients client (seen_client (client_at code client) to) })
    ≡ after_seen (world_of code) client to
seen_world code client to lt = client_world code client (seen_client (client_at code client) to) lt refl refl

pub seen_whole : (code : WorldView) (client to : ℕ) → IsWhole code → may_see (world_of code) client to ≡ true
    → IsWhole (record code { clients = set code.clients client (seen_client (client_at code client) to) })
seen_whole code client to w may =
    let lt = client_there code client to w may in
    whole_client code client (seen_client (client_at code client) to) (steps.Seen client to) w lt
    (w.colours client _ lt) refl refl
    (seen_world code client to lt ∙ sym (cond-true (may_see (world_of code) client to) _ _ may))

-- the clients with one that has seen a stamp, as the code changes them
pub seen_list : (cs : List ClientView) (client to : ℕ) (old new : ClientView) → client < length cs → old
    ≡ get_or cs client old
    → new ≡ seen_client old to → set cs client new ≡ set cs client (seen_client (get_or cs client fresh_client) to)
seen_list cs client to old new there old_is new_is =
    ap (λ (x : ClientView). set cs client x)
    (new_is ∙ ap (λ (x : ClientView). seen_client x to) (old_is ∙ default_free cs client old fresh_client there))
