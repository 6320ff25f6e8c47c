-- What the steps answer by which appends begin.
use Rattle.std.proofs.Common.{◌≡◌, ℕ, suc, ◌+◌, ◌<◌, Bool, true, false, List, [], ◌∷◌, length, refl, ap, sym}
use Rattle.std.proofs.Common.{subst, ◌∙◌, arith, lt-ltb}
use Rattle.std.specs.Prelude.{◌&&◌, not, nat_lt, if◌then◌else◌}
use Rattle.std.specs.List.{All, list_all}
use Rattle.std.proofs.lemmas.Bool.{and_parts, and_from, ltb-false}
use Rattle.log_node.specs.declared.ids.Id.{Id}
use Rattle.log_node.specs.declared.ids.Row.{Row}
use Rattle.log_node.specs.declared.ids.Colours.{Colours}
use Rattle.log_node.specs.Sets.{members}
use Rattle.world_laws.specs.declared.steps.Step.TheVariants.{Begin, Single}
use Rattle.world_laws.specs.declared.steps.Reply.TheVariants as replies
use Rattle.log_node.specs.declared.marks.Mark.TheVariants as marks
use Rattle.log_node.specs.declared.marks.Outcome.TheVariants.{Open}
use Rattle.world_laws.specs.Worlds.{World, ClientState, RowState, after, reply, home_of, home_history, is_client}
use Rattle.world_laws.specs.Worlds.{is_column, may_begin, may_single, next_row, next_id, single_stamp, after_begin}
use Rattle.world_laws.specs.Worlds.{after_single, begun_node, is_begun, row_of}
use Rattle.world_laws.specs.Laws.{IsBounded}
use Rattle.world_laws.proofs.CallerLemmas.{updated-here, updated_at-here}
use Rattle.script_meaning.specs.Appends.{has_no_row_left}

-- A row that is begun

begun_reply : (b : Bool) (row row' : Row) (id id' : Id)
    → (if b then replies.Begun row id else replies.Nothing) ≡ replies.Begun row' id'
    → (b ≡ true) × (row ≡ row') × (id ≡ id')
begun_reply true row row' id id' e = (refl, cc, cc)
begun_reply false row row' id id' e = absurd (let f : ⊥ = cc in f)

pub no_reply : (b : Bool) (row : Row) (id : Id)
    → (if b then replies.Begun row id else replies.Nothing) ≡ replies.Nothing → b ≡ false
no_reply true row id e = absurd (let f : ⊥ = cc in f)
no_reply false row id e = refl

-- the world and the row of an append that began
pub record Begins (w : World) (client : ℕ) (colours : Colours) (text : List ℕ) (row : Row) (id : Id) (w1 : World) :
    Type 0 where
  pub may : may_begin w client colours ≡ true
  pub row_is : row ≡ next_row w client
  pub id_is : id ≡ next_id w client
  pub world : w1 ≡ after w (Begin client colours text)
  pub begun : is_begun w1 row ≡ true
  pub node : (row_of w1 row).node ≡ begun_node w client colours text

pub begins : (w : World) (client : ℕ) (colours : Colours) (text : List ℕ) (row : Row) (id : Id) (w1 : World)
    → replies.Begun row id ≡ reply w (Begin client colours text) → w1 ≡ after w (Begin client colours text)
    → Begins w client colours text row id w1
begins w client colours text row id w1 answer is =
    let b = begun_reply (may_begin w client colours) (next_row w client) row (next_id w client) id (sym answer) in
    let world : w1 ≡ after_begin w client colours text =
    is ∙ ap (λ (x : Bool). if x then after_begin w client colours text else w) b.0 in record {
      may = b.0;
      row_is = sym b.1;
      id_is = sym b.2;
      world = is;
      begun = subst (λ (x : World). is_begun x row ≡ true) (sym world)
          (subst (λ (r : Row). is_begun (after_begin w client colours text) r ≡ true) b.1
          (begun_there w client colours text));
      node = subst (λ (x : World). (row_of x row).node ≡ begun_node w client colours text) (sym world)
          (subst (λ (r : Row). (row_of (after_begin w client colours text) r).node ≡ begun_node w client colours text)
          b.1
          (node_there w client colours text));
    } where
      begun_there : (w : World) (client : ℕ) (colours : Colours) (text : List ℕ)
          → is_begun (after_begin w client colours text) (next_row w client) ≡ true
      begun_there w client colours text =
          let used = (w.clients client).used in
          ap (λ (c : ClientState). nat_lt used c.used)
          (updated-here w.clients client (record (w.clients client) {
            count = (w.clients client).count + 1;
            used = used
                + 1;
          }))
          ∙ lt-ltb used (used + 1) (omega arith)

      node_there : (w : World) (client : ℕ) (colours : Colours) (text : List ℕ)
          → (row_of (after_begin w client colours text) (next_row w client)).node ≡ begun_node w client colours text
      node_there w client colours text =
          ap (λ (r : RowState). r.node) (updated_at-here w.rows client (w.clients client).used
          (record { node = begun_node w client colours text; marks = λ _. marks.None; last = Open }))

-- A row that can't begin

all_columns : (w : World) (home : ℕ) (colours : List ℕ) → home < w.shape.regions
    → All (λ c. c < w.shape.colours) colours → list_all (is_column w home) colours ≡ true
all_columns w home [] low all = refl
all_columns w home (c ∷ colours) low all =
    and_from (is_column w home c) (list_all (is_column w home) colours)
    (and_from (nat_lt home w.shape.regions) (nat_lt c w.shape.colours) (lt-ltb home w.shape.regions low)
    (lt-ltb c w.shape.colours (all 0 c (omega arith))))
    (all_columns w home colours low (λ k d h. all (suc k) d (omega (arith, h))))

may_as_left : (w : World) (client : ℕ) (colours : Colours) → client < length w.shape.homes
    → home_of w client < w.shape.regions → 1 < length (members colours)
    → All (λ c. c < w.shape.colours) (members colours)
    → may_begin w client colours ≡ nat_lt (w.clients client).used w.shape.rows
may_as_left w client colours here low many all =
    both (is_client w client) (nat_lt (w.clients client).used w.shape.rows) (nat_lt 1 (length (members colours)))
    (list_all (is_column w (home_of w client)) (members colours)) (lt-ltb client (length w.shape.homes) here)
    (lt-ltb 1 (length (members colours)) many) (all_columns w (home_of w client) (members colours) low all) where
      both : (a b c d : Bool) → a ≡ true → c ≡ true → d ≡ true → (a && (b && (c && d))) ≡ b
      both true true true true p q r = refl
      both true false true true p q r = refl
      both false b c d p q r = absurd (let f : ⊥ = cc in f)
      both true b false d p q r = absurd (let f : ⊥ = cc in f)
      both true b true false p q r = absurd (let f : ⊥ = cc in f)

-- the client has begun as many rows as it may
pub record Fills (w : World) (client : ℕ) : Type 0 where
  pub full : has_no_row_left w client ≡ true
  pub used : w.shape.rows ≡ (w.clients client).used

pub fills : (w : World) (client : ℕ) (colours : Colours) (text : List ℕ) → client < length w.shape.homes
    → home_of w client < w.shape.regions → 1 < length (members colours)
    → All (λ c. c < w.shape.colours) (members colours) → IsBounded w
    → replies.Nothing ≡ reply w (Begin client colours text) → Fills w client
fills w client colours text here low many all bounds answer =
    let may = no_reply (may_begin w client colours) (next_row w client) (next_id w client) (sym answer) in
    let left = sym (may_as_left w client colours here low many all) ∙ may in
    let most = ltb-false (w.clients client).used w.shape.rows left in
    let few = bounds.used client in record {
      full = ap not left;
      used = omega (arith, most, few);
    }

pub not_full : (w : World) (client : ℕ) (colours : Colours) → may_begin w client colours ≡ true
    → has_no_row_left w client ≡ false
not_full w client colours may =
    let rest = and_parts (is_client w client) (nat_lt (w.clients client).used w.shape.rows
    && (nat_lt 1 (length (members colours)) && list_all (is_column w (home_of w client)) (members colours))) may in
    let left = and_parts (nat_lt (w.clients client).used w.shape.rows)
    (nat_lt 1 (length (members colours)) && list_all (is_column w (home_of w client)) (members colours)) rest.1 in
    ap not left.0

-- nothing began, so nothing changed
pub nothing_begun : (w w1 : World) (client : ℕ) (colours : Colours) (text : List ℕ)
    → replies.Nothing ≡ reply w (Begin client colours text) → w1 ≡ after w (Begin client colours text) → w1 ≡ w
nothing_begun w w1 client colours text answer is =
    is ∙ ap (λ (b : Bool). if b then after_begin w client colours text else w)
    (no_reply (may_begin w client colours) (next_row w client) (next_id w client) (sym answer))

-- A node that enters one colour

entered_reply : (b : Bool) (place place' stamp stamp' : ℕ)
    → (if b then replies.Event place stamp else replies.Nothing) ≡ replies.Event place' stamp'
    → (b ≡ true) × (place' ≡ place) × (stamp' ≡ stamp)
entered_reply true place place' stamp stamp' e = (refl, cc, cc)
entered_reply false place place' stamp stamp' e = absurd (let f : ⊥ = cc in f)

pub entered : (w : World) (client colour : ℕ) (text : List ℕ) (place stamp : ℕ)
    → replies.Event place stamp ≡ reply w (Single client colour text)
    → (may_single w client colour ≡ true) × (place ≡ length (home_history w client colour))
    × (stamp ≡ single_stamp w client colour)
entered w client colour text place stamp e =
    entered_reply (may_single w client colour) (length (home_history w client colour)) place
    (single_stamp w client colour) stamp (sym e)

refused_reply : (b : Bool) (place stamp : ℕ)
    → (if b then replies.Event place stamp else replies.Nothing) ≡ replies.Nothing → b ≡ false
refused_reply true place stamp e = absurd (let f : ⊥ = cc in f)
refused_reply false place stamp e = refl

pub not_entered : (w w1 : World) (client colour : ℕ) (text : List ℕ)
    → replies.Nothing ≡ reply w (Single client colour text) → w1 ≡ after w (Single client colour text)
    → (may_single w client colour ≡ false) × (w1 ≡ w)
not_entered w w1 client colour text e is =
    let b = refused_reply (may_single w client colour) (length (home_history w client colour))
    (single_stamp w client colour) (sym e) in
    (b, is ∙ ap (λ (x : Bool). if x then after_single w client colour text else w) b)
