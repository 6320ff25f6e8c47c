-- What is known of a node whose append stands, to the read that its command makes behind it.
use Rattle.std.proofs.Common.{◌≡◌, ℕ, ◌+◌, ◌<◌, ◌≤◌, max, List, [], ◌∷◌, ◌++◌, length, Option, Some, None, inl, refl, ap, sym, subst, ◌∙◌, arith}
use Rattle.std.specs.Prelude.{slice_get, slice_index}
use Rattle.std.specs.List.{All}
use Rattle.log_node.specs.declared.ids.Colours.{Colours}
use Rattle.log_node.specs.declared.node.Node.{Node}
use Rattle.log_node.specs.declared.node.Shape.{Shape}
use Rattle.log_node.specs.Sets.{members}
use Rattle.col_core.specs.History.{line, entry_key}
use Rattle.col_core.specs.Keeping.{Kept, updated, kept_after_single, with_made, with_floor, with_row}
use Rattle.col_core.specs.Log.{Log, IsLater}
use Rattle.col_core.proofs.CallerLemmas.{In, slice_in}
use Rattle.world_laws.specs.Worlds.{World, home_of}
use Rattle.world_laws.specs.Laws.{IsReached, log_of}
use Rattle.script_text.specs.declared.script.Object.{Object}
use Rattle.script_text.specs.declared.commands.What.TheVariants as whats
use Rattle.report_text.specs.declared.report.Answer.TheVariants as answers
use Rattle.report_text.specs.declared.report.PointPiece.{PointPiece}
use Rattle.lawful_run.specs.Appends.{AppendsSeveral, Appends, AppendsUnshown, one_unshown, kept_after_points}
use Rattle.lawful_run.specs.Callers.{Caller, node_of}
use Rattle.lawful_run.proofs.CallerLemmas.{get_within, prefix_length, PointsLeave, points_leave, unshown_too}
use Rattle.script_meaning.proofs.Object.Dequeuing.{stood_unshown, unshown_keeps}
use Rattle.script_meaning.proofs.Client.Kept.{caller_in, IsKeptBy, KeptAfter, Does, later_log}
use Rattle.script_meaning.proofs.Append.Points.{made_seen}

-- OF ITS ANSWER

module _ (log : Log) (caller : Caller) (kept : Kept) (node : Node) (stamp : ℕ) where
  -- the client has seen its stamp
  pub seen_stamp : (row : Option ℕ) (points : List PointPiece) (after : Kept)
      → Appends log caller kept node stamp row points after → stamp ≤ after.floor
  seen_stamp None [] after a = absurd a
  seen_stamp None (p ∷ []) after a = let e = ap (λ (k : Kept). k.floor) a.4 in omega (arith, e)
  seen_stamp None (p ∷ q ∷ points) after a = absurd a
  seen_stamp (Some number) points after a = let e = ap (λ (k : Kept). k.floor) a.3 in omega (arith, e)

  -- it is the next of its client's nodes
  pub next_node : (row : Option ℕ) (points : List PointPiece) (after : Kept)
      → Appends log caller kept node stamp row points after
      → slice_get (log.nodes caller.client) kept.ids ≡ Some node
  next_node None [] after a = absurd a
  next_node None (p ∷ []) after a = a.3.next
  next_node None (p ∷ q ∷ points) after a = absurd a
  next_node (Some number) points after a = a.2.begins.next

  -- and stands in the line of a colour
  first_point : (points : List PointPiece) (places : ℕ → List ℕ)
      → AppendsSeveral log caller kept node stamp points places
      → (c : ℕ) × In c (members node.colours) × In (entry_key stamp node.id) (line (log.histories caller.own c))
  first_point [] places s =
      let many = s.begins.several in
      let none : 0 ≡ length (members node.colours) = ap length s.colours in
      absurd (let f : ⊥ = omega (arith, many, none) in f)
  first_point (p ∷ points) places s =
      let at = s.each 0 p (omega arith) in (
        p.colour,
        subst (In p.colour) s.colours (inl refl),
        slice_in (line (log.histories caller.own p.colour)) p.position (entry_key stamp node.id) at.stands,
      )

  pub stands_in : (row : Option ℕ) (points : List PointPiece) (after : Kept)
      → Appends log caller kept node stamp row points after
      → (c : ℕ) × In c (members node.colours) × In (entry_key stamp node.id) (line (log.histories caller.own c))
  stands_in None [] after a = absurd a
  stands_in None (p ∷ []) after a = (
    p.colour,
    subst (In p.colour) (sym a.0) (inl refl),
    slice_in (line (log.histories caller.own p.colour)) p.position (entry_key stamp node.id) a.3.stands,
  )
  stands_in None (p ∷ q ∷ points) after a = absurd a
  stands_in (Some number) points after a = first_point points a.1 a.2

-- WHERE THE ANSWER DOES NOT SHOW IT

module _ (objects : List Object) (w v : World) (reached : IsReached w) (u : ℕ) (set : Colours) (text : List ℕ)
    (stamp : ℕ) (row : Option ℕ) (points : List PointPiece)
    (d : Does objects u (whats.Append set text) w v (answers.Stood stamp row points) []) (kept : Kept)
    (k : IsKeptBy w u kept) where
  abbrev caller : Caller
  caller = caller_in v objects u

  abbrev pub node : Node
  node = node_of caller kept set text

  abbrev pub shown : KeptAfter v objects u kept (whats.Append set text) (answers.Stood stamp row points) []
  shown = d.keeps kept k

  pub appends : Appends (log_of v) caller kept node stamp row points shown.after
  appends =
      let e = shown.explains.2 in
      subst (λ (c : Colours). Appends (log_of v) caller kept (node_of caller kept c text) stamp row points shown.after)
      e.2.0
      (subst (λ (t : List ℕ). Appends (log_of v) caller kept (node_of caller kept e.0 t) stamp row points shown.after)
      e.2.1 e.3)

  later : IsLater (log_of w) (log_of v)
  later = later_log w v d.steps reached d.run

  home_same : home_of v u ≡ home_of w u
  home_same = ap (λ (x : Shape). slice_index x.homes u) d.shape

  known_still : (c : ℕ) → kept.known c ≤ length (line (v.histories (home_of v u) c))
  known_still c =
      let x = k.known c in
      let y = prefix_length (line (w.histories (home_of w u) c)) (line (v.histories (home_of w u) c))
      (later.lines (home_of w u) c) in
      subst (λ (n : ℕ). kept.known c ≤ length (line (v.histories n c))) (sym home_same) (omega (arith, x, y))

  seen_still : (r c : ℕ) → kept.seen r c ≤ length (v.histories r c)
  seen_still r c =
      let x = k.seen r c in
      let y = prefix_length (w.histories r c) (v.histories r c) (later.histories r c) in omega (arith, x, y)

  abbrev Unshown : Type 0
  Unshown = (after : Kept) × AppendsUnshown (log_of v) caller kept node stamp after × IsKeptBy v u after

  several : (number : ℕ) (ps : List PointPiece) (places : ℕ → List ℕ)
      → AppendsSeveral (log_of v) caller kept node stamp ps places
      → IsKeptBy v u (with_made (with_row (with_floor (kept_after_points kept (home_of v u) ps) stamp)) (home_of v u)
      places)
      → Unshown
  several number ps places s keeps = (
    with_made (with_row (with_floor kept stamp)) own places,
    unshown_too (log_of v) caller node kept stamp ps places s,
    record {
      floor = ap (λ (n : ℕ). max n stamp) (sym same.floor) ∙ keeps.floor;
      starts = sym same.starts ∙ keeps.starts;
      seen = made_seen own (λ r c. length (v.histories r c)) (with_row (with_floor kept stamp)) places seen_still below;
      known = known_still;
      made = λ r c. keeps.made r c
          ∙ ap (λ (m : ℕ → ℕ → List ℕ). updated m own (λ colour. m own colour ++ places colour) r c) same.made;
      ids = ap (λ (n : ℕ). n + 1) (sym same.ids) ∙ keeps.ids;
      rows = ap (λ (n : ℕ). n + 1) (sym same.rows) ∙ keeps.rows;
    },
  ) where
    own : ℕ
    own = home_of v u

    same : PointsLeave kept (kept_after_points kept (home_of v u) ps)
    same = points_leave (home_of v u) kept ps

    below : (c : ℕ) → All (λ place. place < length (v.histories (home_of v u) c)) (places c)
    below c i place lt =
        let e = s.begins.steps c i place lt in get_within (v.histories (home_of v u) c) _ e.1 e.2

  unshown_by : (r : Option ℕ) (ps : List PointPiece) (after : Kept)
      → Appends (log_of v) caller kept node stamp r ps after → IsKeptBy v u after → Unshown
  unshown_by None [] after a keeps = absurd a
  unshown_by None (p ∷ []) after a keeps =
      let stands : IsKeptBy v u (kept_after_single kept (home_of v u) p.colour a.1 stamp p.position) =
      subst (IsKeptBy v u) a.4 keeps in (
        stood_unshown objects w v u kept node p.colour stamp a.1 p.position stands a.3 known_still seen_still,
        one_unshown p.colour a.1 p.position a.0 a.3,
        unshown_keeps objects w v u kept node p.colour stamp a.1 p.position stands a.3 known_still seen_still,
      )
  unshown_by None (p ∷ q ∷ ps) after a keeps = absurd a
  unshown_by (Some number) ps after a keeps =
      several number ps a.1 a.2 (subst (IsKeptBy v u) a.3 keeps)

  -- what the client keeps where the answer does not show where its node stands
  pub unshown : Unshown
  unshown = unshown_by row points shown.after appends shown.keeps
