-- A row is begun: what that makes of the world.
use Rattle.std.proofs.Common.{◌≡◌, ◌≢◌, ◌⊎◌, inl, inr, ℕ, zero, suc, ◌+◌, ◌<◌, ◌≤◌, Bool, true, false, List, [], ◌∷◌}
use Rattle.std.proofs.Common.{◌++◌, length}
use Rattle.std.proofs.Common.{Option, get_or, set, Some, refl, ap, sym, subst, ◌∙◌, arith, length-set, length-append}
use Rattle.std.proofs.Common.{get_or-set_same, get_or-set_other}
use Rattle.std.specs.Prelude.{◌&&◌, nat_lt, slice_get, slice_index}
use Rattle.std.specs.List.{list_all}
use mathlib.Core.Path.{fun_ext}
use Rattle.std.proofs.lemmas.Bool.{and_parts, ltb-true, lt-ltb, cond-true, cases_eq, false_from_ne_true}
use Rattle.std.proofs.lemmas.List.Elements.{All-set}
use Rattle.std.proofs.lemmas.Option.{slice_get_within}
use Rattle.log_node.specs.declared.ids.Colours.{Colours}
use Rattle.log_node.specs.declared.node.Node.{Node}
use Rattle.log_node.specs.declared.limits.TheConstants.{MAX_COLOURS}
use Rattle.log_node.specs.Sets.{members}
use Rattle.skeen_core.specs.Boards.{BoardRow}
use Rattle.log_node.specs.declared.marks.Mark.{Mark}
use Rattle.log_node.specs.declared.marks.Mark.TheVariants as marks
use Rattle.log_node.specs.declared.marks.Outcome.TheVariants.{Open}
use Rattle.skeen_core.specs.Boards.{Board, rows_of, mark_in, last_in, with_begun, fresh_row_of}
use Rattle.world_laws.specs.declared.steps.Step.TheVariants as steps
use Rattle.world_laws.specs.Worlds.{ClientState, RowState, no_row, home_of, is_client, is_column, is_member}
use Rattle.world_laws.specs.Worlds.{may_begin, after_begin}
use Rattle.world_laws.proofs.CallerLemmas.{at_updated_at, not_place, slice_last}
use Rattle.col_core.specs.Keeping.{updated, updated_at}
use Rattle.world_code.specs.Clients.{ClientView, fresh_client, with_next_row, next_begun}
use Rattle.world_code.specs.WorldView.{WorldView, client_at, client_of, row_in, world_of, AreRows, IsRowNode, IsWhole}
use Rattle.world_code.proofs.EqualWorlds.{worlds}
use Rattle.world_code.proofs.FirstWorld.{get_replicate}
use Rattle.world_code.proofs.ChangedParts.{clients_appended}
use Rattle.world_code.proofs.ChangedParts.{clients_changed, nodes_changed, rows_by, AreClients, placed_of, whole_after}
use Rattle.world_code.proofs.ChangedParts.{reached_step}
use Rattle.world_code.proofs.RaiseSteps.{default_free}
use Rattle.world_code.proofs.Sets.{all_pass}
pub use Rattle.log_node.proofs.CallerLemmas.{get_push as pushed}

-- A list with one more item: what stands at its end, and elsewhere

pub push_here : {A : Type 0} (xs : List A) (x d : A) → get_or (xs ++ x ∷ []) (length xs) d ≡ x
push_here [] x d = refl
push_here (y ∷ ys) x d = push_here ys x d

pub push_other : {A : Type 0} (xs : List A) (x d : A) (n : ℕ) → n ≢ length xs
    → get_or (xs ++ x ∷ []) n d ≡ get_or xs n d
push_other [] x d zero ne = absurd (ne refl)
push_other [] x d (suc n) ne = refl
push_other (y ∷ ys) x d zero ne = refl
push_other (y ∷ ys) x d (suc n) ne = push_other ys x d n (λ e. ne (ap (λ (k : ℕ). suc k) e))

pub slice_other : {A : Type 0} (xs : List A) (x : A) (n : ℕ) → n ≢ length xs
    → slice_get (xs ++ x ∷ []) n ≡ slice_get xs n
slice_other [] x zero ne = absurd (ne refl)
slice_other [] x (suc n) ne = refl
slice_other (y ∷ ys) x zero ne = refl
slice_other (y ∷ ys) x (suc n) ne = slice_other ys x n (λ e. ne (ap (λ (k : ℕ). suc k) e))

-- the row that is begun for a node
abbrev pub new_row : Node → RowState
new_row node = record { node = node; marks = λ _. marks.None; last = Open }

row_here : (begun : List Node) (rows : List BoardRow) (node : Node) → length rows ≡ length begun
    → row_in (begun ++ node ∷ []) (rows ++ fresh_row_of node ∷ []) (length begun) ≡ new_row node
row_here begun rows node same =
    ap (λ (x : Node). let r : RowState = record {
      node = x;
      marks = mark_in (slice_get (rows ++ fresh_row_of node ∷ []) (length begun));
      last = last_in (slice_get (rows ++ fresh_row_of node ∷ []) (length begun));
    } in r) (push_here begun node no_row.node)
    ∙ (ap (λ (k : ℕ). let r : RowState = record {
      node = node;
      marks = mark_in (slice_get (rows ++ fresh_row_of node ∷ []) k);
      last = last_in (slice_get (rows ++ fresh_row_of node ∷ []) k);
    } in r) (sym same)
    ∙ (ap (λ (o : Option BoardRow). let r : RowState = record { node = node; marks = mark_in o; last = last_in o } in r)
    (slice_last rows (fresh_row_of node))
    ∙ ap (λ (m : ℕ → Mark). let r : RowState = record { node = node; marks = m; last = Open } in r)
    (fun_ext (λ c. get_replicate MAX_COLOURS c marks.None))))

row_elsewhere : (begun : List Node) (rows : List BoardRow) (node : Node) (row : BoardRow) (n : ℕ)
    → length rows ≡ length begun → n ≢ length begun
    → row_in (begun ++ node ∷ []) (rows ++ row ∷ []) n ≡ row_in begun rows n
row_elsewhere begun rows node row n same ne =
    ap (λ (x : Node). let r : RowState = record {
      node = x;
      marks = mark_in (slice_get (rows ++ row ∷ []) n);
      last = last_in (slice_get (rows ++ row ∷ []) n);
    } in r) (push_other begun node no_row.node n ne)
    ∙ ap (λ (o : Option BoardRow). let r : RowState =
    record { node = get_or begun n no_row.node; marks = mark_in o; last = last_in o } in r)
    (slice_other rows row n (λ e. ne (e ∙ same)))

-- what a row asks for
pub record MayBegin (code : WorldView) (client : ℕ) (colours : Colours) : Type 0 where
  pub is_client : client < length code.shape.homes
  pub has_row : length (client_at code client).begun < code.shape.rows
  pub all : list_all (is_column (world_of code) (home_of (world_of code) client)) (members colours) ≡ true

pub may_begin_is : (code : WorldView) (client : ℕ) (colours : Colours) → may_begin (world_of code) client colours ≡ true
    → MayBegin code client colours
may_begin_is code client colours t =
    let w = world_of code in
    let p = and_parts (is_client w client) _ t in
    let q = and_parts (nat_lt (length (client_at code client).begun) code.shape.rows) _ p.1 in
    let r = and_parts (nat_lt 1 (length (members colours))) _ q.1 in
    record {
      is_client = ltb-true client (length code.shape.homes) p.0;
      has_row = ltb-true (length (client_at code client).begun) code.shape.rows q.0;
      all = r.1;
    }

module _ (code : WorldView) (w : IsWhole code) (client : ℕ) (colours : Colours) (text : List ℕ)
    (may : MayBegin code client colours) where
  abbrev home : ℕ
  home = home_of (world_of code) client

  abbrev old : ClientView
  old = client_at code client

  abbrev rows : List BoardRow
  rows = rows_of code.board client

  abbrev pub its_node : Node
  its_node = next_begun old client home colours text

  abbrev new_client : ClientView
  new_client = with_next_row old its_node

  abbrev new_board : Board
  new_board = with_begun code.board client (fresh_row_of its_node)

  abbrev pub new_code : WorldView
  new_code = record code { clients = set code.clients client new_client; board = new_board }

  pub in_clients : client < length code.clients
  in_clients = let n = w.clients in let lt = may.is_client in omega (arith, n, lt)

  pub in_board : client < length code.board.begun
  in_board = let n = w.board_clients in let lt = may.is_client in omega (arith, n, lt)

  rows_used : length rows ≡ length old.begun
  rows_used = (w.rows client).used

  begun_is : (get_or (set code.clients client new_client) client fresh_client).begun ≡ old.begun ++ its_node ∷ []
  begun_is = ap (λ (c : ClientView). c.begun) (get_or-set_same code.clients client new_client fresh_client in_clients)

  rows_are : rows_of new_board client ≡ rows ++ fresh_row_of its_node ∷ []
  rows_are = get_or-set_same code.board.begun client (rows ++ fresh_row_of its_node ∷ []) [] in_board

  begun_other : (a : ℕ) → a ≢ client
      → (get_or (set code.clients client new_client) a fresh_client).begun ≡ (client_at code a).begun
  begun_other a ne =
      ap (λ (c : ClientView). c.begun) (get_or-set_other code.clients client a new_client fresh_client ne)

  rows_other : (a : ℕ) → a ≢ client → rows_of new_board a ≡ rows_of code.board a
  rows_other a ne = get_or-set_other code.board.begun client a (rows ++ fresh_row_of its_node ∷ []) [] ne

  begun_rows : ◌≡◌ {A = ℕ → ℕ → RowState} (rows_by (set code.clients client new_client) new_board)
      (updated_at (rows_by code.clients code.board) client (length old.begun) (new_row its_node))
  begun_rows =
      fun_ext (λ a. fun_ext (λ n.
      at_updated_at (λ (v : RowState). rows_by (set code.clients client new_client) new_board a n ≡ v)
      (rows_by code.clients code.board) client (length old.begun) (new_row its_node) a n
      (λ ea en.
      ap (λ (k : ℕ). rows_by (set code.clients client new_client) new_board k n) ea
      ∙ (ap (λ (k : ℕ). rows_by (set code.clients client new_client) new_board client k) en
      ∙ (ap (λ (b : List Node). row_in b (rows_of new_board client) (length old.begun)) begun_is
      ∙ (ap (λ (rs : List BoardRow). row_in (old.begun ++ its_node ∷ []) rs (length old.begun)) rows_are
      ∙ row_here old.begun rows its_node rows_used))))
      (λ other. elsewhere a n (not_place client (length old.begun) a n other)))) where
        elsewhere : (a n : ℕ) → (a ≡ client → n ≡ length old.begun → ⊥)
            → rows_by (set code.clients client new_client) new_board a n ≡ rows_by code.clients code.board a n
        elsewhere a n ne = elim (cases_eq a client) [
          | inl e ↦
              ap (λ (k : ℕ). rows_by (set code.clients client new_client) new_board k n) e
              ∙ (ap (λ (b : List Node). row_in b (rows_of new_board client) n) begun_is
              ∙ (ap (λ (rs : List BoardRow). row_in (old.begun ++ its_node ∷ []) rs n) rows_are
              ∙ (row_elsewhere old.begun rows its_node (fresh_row_of its_node) n rows_used (ne e)
              ∙ ap (λ (k : ℕ). rows_by code.clients code.board k n) (sym e))))
          | inr f ↦
              ap (λ (b : List Node). row_in b (rows_of new_board a) n) (begun_other a f)
              ∙ ap (λ (rs : List BoardRow). row_in (client_at code a).begun rs n) (rows_other a f)
        ]

  client_is : client_of new_client
      ≡ record (client_of old) { count = old.count + 1; used = length old.begun + 1 }
  client_is = ap (λ (k : ℕ). let s : ClientState = record (client_of old) { count = old.count + 1; used = k } in s)
      (let n = length-append old.begun (its_node ∷ []) in
      let e : length (old.begun ++ its_node ∷ []) ≡ length old.begun + 1 = omega (arith, n) in e)

  pub begin_world : world_of new_code ≡ after_begin (world_of code) client colours text
  begin_world =
      worlds code.shape (world_of code).histories (world_of code).histories
      (clients_changed code.clients client new_client in_clients
      ∙ ap (λ (s : ClientState). updated (world_of code).clients client s) client_is)
      begun_rows refl (nodes_changed code.clients client new_client in_clients)

  -- the rows are those of the nodes
  own_rows : AreRows (old.begun ++ its_node ∷ []) (rows ++ fresh_row_of its_node ∷ [])
  own_rows = record {
    used =
        let a = length-append rows (fresh_row_of its_node ∷ []) in
        let b = length-append old.begun (its_node ∷ []) in
        let c = rows_used in
        omega (arith, a, b, c);
    colours = λ n r e. colour_is n r (pushed rows (fresh_row_of its_node) n r e);
    marks = λ n r e. marks_are n r (pushed rows (fresh_row_of its_node) n r e);
  } where
    colour_is : (n : ℕ) (r : BoardRow) → (slice_get rows n ≡ Some r) ⊎ ((n ≡ length rows) × (fresh_row_of its_node ≡ r))
        → r.colours ≡ (get_or (old.begun ++ its_node ∷ []) n no_row.node).colours
    colour_is n r (inl e) =
        let lt = slice_get_within rows n r e in
        let same = rows_used in
        (w.rows client).colours n r e
        ∙ sym (ap (λ (x : Node). x.colours) (push_other old.begun its_node no_row.node n
        (λ f. let x : ⊥ = omega (arith, lt, same, f) in x)))
    colour_is n r (inr e) =
        ap (λ (x : BoardRow). x.colours) (sym e.1)
        ∙ sym (ap (λ (k : ℕ). (get_or (old.begun ++ its_node ∷ []) k no_row.node).colours) (e.0 ∙ rows_used)
        ∙ ap (λ (x : Node). x.colours) (push_here old.begun its_node no_row.node))

    marks_are : (n : ℕ) (r : BoardRow) → (slice_get rows n ≡ Some r) ⊎ ((n ≡ length rows) × (fresh_row_of its_node ≡ r))
        → length r.marks ≡ MAX_COLOURS
    marks_are n r (inl e) = (w.rows client).marks n r e
    marks_are n r (inr e) = ap (λ (x : BoardRow). length x.marks) (sym e.1)

  own_node : (n : ℕ) (node : Node) → slice_get (old.begun ++ its_node ∷ []) n ≡ Some node
      → IsRowNode home client n code.shape.colours node
  own_node n node e = turn (pushed old.begun its_node n node e) where
    within : (colour : ℕ) → is_member colours colour ≡ true → colour < code.shape.colours
    within colour m =
        let p = all_pass (is_column (world_of code) home) (members colours) colour may.all m in
        ltb-true colour code.shape.colours (and_parts (nat_lt home code.shape.regions) _ p).1

    turn : (slice_get old.begun n ≡ Some node) ⊎ ((n ≡ length old.begun) × (its_node ≡ node))
        → IsRowNode home client n code.shape.colours node
    turn (inl f) = w.begun client n node f
    turn (inr f) =
        subst (λ (x : Node). IsRowNode home client n code.shape.colours x) f.1
        (subst (λ (k : ℕ). IsRowNode home client k code.shape.colours its_node) (sym f.0)
        (record { in_region = refl; row = refl; within = within }))

  begin_clients : AreClients code.shape (set code.clients client new_client) new_board
  begin_clients = record {
    all = length-set code.clients client new_client ∙ w.clients;
    colours = All-set (λ (x : ClientView). length x.played ≡ MAX_COLOURS) code.clients client new_client
        (w.colours client fresh_client in_clients) w.colours;
    board_colours = w.board_colours;
    board_rows = w.board_rows;
    board_clients = length-set code.board.begun client (rows ++ fresh_row_of its_node ∷ []) ∙ w.board_clients;
    rows = λ a. elim (cases_eq a client) [
      | inl e ↦ subst (λ (k : ℕ). AreRows (get_or (set code.clients client new_client) k fresh_client).begun
          (rows_of new_board k)) (sym e)
          (subst (λ (b : List Node). AreRows b (rows_of new_board client)) (sym begun_is)
          (subst (λ (rs : List BoardRow). AreRows (old.begun ++ its_node ∷ []) rs) (sym rows_are) own_rows))
      | inr f ↦ subst (λ (b : List Node). AreRows b (rows_of new_board a)) (sym (begun_other a f))
          (subst (λ (rs : List BoardRow). AreRows (client_at code a).begun rs) (sym (rows_other a f)) (w.rows a))
    ];
    begun = λ a n node e. elim (cases_eq a client) [
      | inl f ↦ subst (λ (k : ℕ). IsRowNode (slice_index code.shape.homes k) k n code.shape.colours node) (sym f)
          (own_node n node
          (ap (λ (b : List Node). slice_get b n) (sym begun_is)
          ∙ (ap (λ (k : ℕ). slice_get (get_or (set code.clients client new_client) k fresh_client).begun n) (sym f)
          ∙ e)))
      | inr f ↦ w.begun a n node (ap (λ (b : List Node). slice_get b n) (sym (begun_other a f)) ∙ e)
    ];
  }

  pub begin_whole : may_begin (world_of code) client colours ≡ true → IsWhole new_code
  begin_whole t =
      whole_after code (set code.clients client new_client) new_board code.columns w begin_clients (placed_of code w)
      (clients_appended code client new_client (its_node ∷ []) in_clients refl w.appended)
      (reached_step code (world_of new_code) (steps.Begin client colours text) w
      (begin_world ∙ sym (cond-true (may_begin (world_of code) client colours) _ _ t)))

  -- as the code changes the clients and the board
  pub begin_list : (before after : ClientView) (board : Board) (node : Node) → before ≡ get_or code.clients client
      before
      → after ≡ with_next_row before node → board ≡ with_begun code.board client (fresh_row_of node) → node ≡ its_node
      → ◌≡◌ {A = WorldView} (record code { clients = set code.clients client after; board = board }) new_code
  begin_list before after board node before_is after_is board_is node_is =
      ap (λ (x : ClientView). let k : WorldView =
      record code { clients = set code.clients client x; board = board } in k)
      (after_is
      ∙ (ap (λ (x : ClientView). with_next_row x node)
      (before_is ∙ default_free code.clients client before fresh_client in_clients)
      ∙ ap (λ (x : Node). with_next_row old x) node_is))
      ∙ ap (λ (b : Board). let k : WorldView = record code {
        clients = set code.clients client new_client;
        board = b;
      } in k)
      (board_is ∙ ap (λ (x : Node). with_begun code.board client (fresh_row_of x)) node_is)

-- The guard, test by test

lt_false : (a b : ℕ) → b ≤ a → nat_lt a b ≡ false
lt_false a b le = false_from_ne_true (nat_lt a b) (λ t. let lt = ltb-true a b t in let x : ⊥ = omega (arith, lt, le) in
    x)

lead : (a b : Bool) → a ≡ true → (a && b) ≡ b
lead a b t = rw t refl

stop : (a b : Bool) → a ≡ false → false ≡ (a && b)
stop a b f = rw f refl

module _ (code : WorldView) (w : IsWhole code) (client : ℕ) (colours : Colours) where
  abbrev used_rows : Bool
  used_rows = nat_lt (length (client_at code client).begun) code.shape.rows

  abbrev all_colours : Bool
  all_colours = list_all (is_column (world_of code) (home_of (world_of code) client)) (members colours)

  pub no_client : length code.shape.homes ≤ client → false ≡ may_begin (world_of code) client colours
  no_client le = stop (is_client (world_of code) client) _ (lt_false client (length code.shape.homes) le)

  is_one : client < length code.shape.homes → is_client (world_of code) client ≡ true
  is_one lt = lt-ltb client (length code.shape.homes) lt

  row_left : length (rows_of code.board client) < code.board.rows → used_rows ≡ true
  row_left lt =
      let same = (w.rows client).used in
      let limit = w.board_rows in
      lt-ltb (length (client_at code client).begun) code.shape.rows (omega (arith, same, limit, lt))

  pub too_few : client < length code.shape.homes → length (rows_of code.board client) < code.board.rows
      → length (members colours) < 2 → false ≡ may_begin (world_of code) client colours
  too_few there left few =
      stop (nat_lt 1 (length (members colours))) all_colours (lt_false 1 (length (members colours))
      (omega (arith, few)))
      ∙ (sym (lead used_rows (nat_lt 1 (length (members colours)) && all_colours) (row_left left))
      ∙ sym (lead (is_client (world_of code) client) _ (is_one there)))

  pub by_colours : client < length code.shape.homes → length (rows_of code.board client) < code.board.rows
      → 2 ≤ length (members colours)
      → list_all (λ c. nat_lt c code.shape.colours) (members colours) ≡ may_begin (world_of code) client colours
  by_colours there left several =
      ap (λ (b : Bool). list_all (λ c. b && nat_lt c code.shape.colours) (members colours))
      (sym (lt-ltb (home_of (world_of code) client) code.shape.regions (w.homes client 0 there)))
      ∙ (sym (lead (nat_lt 1 (length (members colours))) all_colours
      (lt-ltb 1 (length (members colours)) (omega (arith, several))))
      ∙ (sym (lead used_rows (nat_lt 1 (length (members colours)) && all_colours) (row_left left))
      ∙ sym (lead (is_client (world_of code) client) _ (is_one there))))
