-- What holds of a client's floor, nodes and events, where it holds of each stamp that the client comes to.
use Rattle.std.proofs.Common.{◌≡◌, ℕ, ◌+◌, ◌<◌, ◌≤◌, max, List, [], ◌∷◌, ◌++◌, map, Option, Some, None, slice_get, refl, ap, sym, subst, ◌∙◌, ◌⊎◌, inl, inr, arith}
use Rattle.std.specs.Prelude.{◌≢◌, ◌==◌}
use Rattle.std.specs.List.{All, AllZip, Contains}
use Rattle.std.proofs.lemmas.Bool.{eqb-true, cases_lt}
use Rattle.std.proofs.lemmas.List.Elements.{All-contains}
use Rattle.log_node.specs.declared.ids.Colours.{Colours}
use Rattle.log_node.specs.declared.ids.Counts.{Counts}
use Rattle.log_node.specs.declared.ids.Id.{Id}
use Rattle.log_node.specs.declared.ids.Key.{Key}
use Rattle.log_node.specs.declared.marks.Outcome.TheVariants.{Final}
use Rattle.log_node.specs.declared.node.At.{At}
use Rattle.log_node.specs.declared.node.At.TheVariants as ats
use Rattle.log_node.specs.declared.node.Head.{Head}
use Rattle.log_node.specs.declared.node.Node.{Node}
use Rattle.log_node.specs.Outcomes.{greatest}
use Rattle.log_node.specs.Seen.{PlacedNode}
use Rattle.log_node.specs.Sets.{members}
use Rattle.col_core.specs.declared.Event.{Event}
use Rattle.col_core.specs.declared.Event.TheVariants.{Single, Propose, Settle, Raise, Give, Carry, Trim}
use Rattle.col_core.specs.declared.Entry.{Entry}
use Rattle.col_core.specs.Cuts.{chain}
use Rattle.col_core.specs.Ids.{IsStepOf}
use Rattle.col_core.specs.Keeping.{Kept, updated, updated_at, kept_after_event, with_made, with_row, with_floor}
use Rattle.col_core.specs.Log.{Log, first, HasOutcome}
use Rattle.col_core.specs.PlayOrder.{Place, Stands}
use Rattle.col_core.proofs.CallerLemmas.{In, in_append, in_left, in_right, contains_in, choice}
use Rattle.script_text.specs.declared.commands.What.{What}
use Rattle.script_text.specs.declared.script.Command.{Command}
use Rattle.script_text.specs.Fitting.{AreBelow, IsWithin}
use Rattle.report_text.specs.declared.report.Answer.{Answer}
use Rattle.report_text.specs.declared.report.Answer.TheVariants as answers
use Rattle.report_text.specs.declared.report.PointPiece.{PointPiece}
use Rattle.report_text.specs.declared.report.ReplyLine.{ReplyLine}
use Rattle.lawful_run.specs.Callers.{Caller, node_of}
use Rattle.lawful_run.specs.Appends.{Appends, kept_after_points, BeginsRow, HasNoStamp, none_for_one, none_for_several}
use Rattle.lawful_run.specs.Reads.{ShowsNode, ShowsPlayed, greatest_stamp, kept_after_place, events_until}
use Rattle.lawful_run.specs.Moves.{GivesTooLow, CarriesNodes, with_places}
use Rattle.lawful_run.specs.Explains.{Explained, start, next}
use Rattle.lawful_run.proofs.CallerLemmas.{points_leave}
use Rattle.load_script.specs.Plain.{IsPlainWhat}
use Rattle.load_script.proofs.Answers.{Comes, stood, without_stamp, full, synced, pulled, unchanged, answer_comes}

-- what is made of a column's places
made_at : (f : ℕ → ℕ → List ℕ) (a n : ℕ) (x : List ℕ) (b m place : ℕ) → In place (updated_at f a n (f a n ++ x) b m)
    → In place (f b m) ⊎ ((b ≡ a) × (m ≡ n) × In place x)
made_at f a n x b m place =
    choice (λ (g : ℕ → List ℕ). In place (g m) → In place (f b m) ⊎ ((b ≡ a) × (m ≡ n) × In place x)) (b == a)
    (updated (f a) n (f a n ++ x)) (f b)
    (λ t. let e = eqb-true b a t in
    choice (λ (l : List ℕ). In place l → In place (f b m) ⊎ ((b ≡ a) × (m ≡ n) × In place x)) (m == n) (f a n ++ x)
    (f a m)
    (λ u i. split e (eqb-true m n u) (in_append place (f a n) x i))
    (λ _ i. inl (subst (λ c. In place (f c m)) (sym e) i)))
    (λ _ i. inl i) where
      split : b ≡ a → m ≡ n → In place (f a n) ⊎ In place x → In place (f b m) ⊎ ((b ≡ a) × (m ≡ n) × In place x)
      split e u (inl i) = inl (subst (λ c. In place (f c m)) (sym e) (subst (λ c. In place (f a c)) (sym u) i))
      split e u (inr i) = inr (e, u, i)

-- of a region's places
made_own : (f : ℕ → ℕ → List ℕ) (a : ℕ) (g : ℕ → List ℕ) (b m place : ℕ)
    → In place (updated f a (λ c. f a c ++ g c) b m) → In place (f b m) ⊎ ((b ≡ a) × In place (g m))
made_own f a g b m place =
    choice (λ (h : ℕ → List ℕ). In place (h m) → In place (f b m) ⊎ ((b ≡ a) × In place (g m))) (b == a)
    (λ c. f a c ++ g c) (f b)
    (λ t i. split (eqb-true b a t) (in_append place (f a m) (g m) i)) (λ _ i. inl i) where
      split : b ≡ a → In place (f a m) ⊎ In place (g m) → In place (f b m) ⊎ ((b ≡ a) × In place (g m))
      split e (inl i) = inl (subst (λ c. In place (f c m)) (sym e) i)
      split e (inr i) = inr (e, i)

-- the greater of two numbers is one of them
pub either : (F : ℕ → Type 0) (a b : ℕ) → F a → F b → F (max a b)
either F a b x y = elim (cases_lt a b) [
  | inl lt ↦ subst F (let e : b ≡ max a b = omega (arith, lt) in e) y
  | inr ge ↦ subst F (let e : a ≡ max a b = omega (arith, ge) in e) x
]

pub of_greatest : (F : ℕ → Type 0) → F 0 → (xs : List ℕ) → ((x : ℕ) → In x xs → F x) → F (greatest xs)
of_greatest F z [] all = z
of_greatest F z (x ∷ xs) all = either F x (greatest xs) (all x (inl refl)) (of_greatest F z xs (λ y i. all y (inr i)))

-- an event of a client that has used so many ids
abbrev pub MadeBy : (ℕ → Type 0) → ℕ → ℕ → Event → Type 0
MadeBy F client ids (Single id floor wants) = (id.client ≡ client) × (id.count < ids) × F floor
MadeBy F client ids (Propose id floor wants) = Unit {0}
MadeBy F client ids (Settle id outcome) = Unit {0}
MadeBy F client ids (Raise to) = ⊥
MadeBy F client ids (Give region from) = Unit {0}
MadeBy F client ids (Carry region held heads) = Unit {0}
MadeBy F client ids (Trim counts) = Unit {0}

abbrev pub IsMade : (ℕ → Type 0) → Log → Caller → ℕ → ℕ → ℕ → ℕ → Type 0
IsMade F log caller ids region colour place =
    (e : Entry) × (slice_get (log.histories region colour) place ≡ Some e) × MadeBy F caller.client ids e.event

made_by_more : (F : ℕ → Type 0) (client ids more : ℕ) → ids ≤ more → (e : Event) → MadeBy F client ids e → MadeBy F
    client more e
made_by_more F client ids more le (Single id floor wants) m = let lt = m.1 in (m.0, omega (arith, lt, le), m.2)
made_by_more F client ids more le (Propose id floor wants) m = tt
made_by_more F client ids more le (Settle id outcome) m = tt
made_by_more F client ids more le (Raise to) m = absurd m
made_by_more F client ids more le (Give region from) m = tt
made_by_more F client ids more le (Carry region held heads) m = tt
made_by_more F client ids more le (Trim counts) m = tt

step_made : (F : ℕ → Type 0) (client ids : ℕ) (id : Id) (e : Event) → IsStepOf id e → MadeBy F client ids e
step_made F client ids id (Single other floor wants) s = absurd s
step_made F client ids id (Propose other floor wants) s = tt
step_made F client ids id (Settle other outcome) s = tt
step_made F client ids id (Raise to) s = absurd s
step_made F client ids id (Give region from) s = absurd s
step_made F client ids id (Carry region held heads) s = absurd s
step_made F client ids id (Trim counts) s = absurd s

-- a node of the client's
abbrev pub IsNodeAt : (ℕ → Type 0) → ℕ → Log → Caller → ℕ → Type 0
IsNodeAt F colours log caller count =
    (node : Node) × (slice_get (log.nodes caller.client) count ≡ Some node) × AreBelow colours node.colours × F
    node.floor

-- what holds of a client that keeps this
pub record Trace (F : ℕ → Type 0) (colours : ℕ) (log : Log) (caller : Caller) (kept : Kept) : Type 0 where
  pub floor : F kept.floor
  pub nodes : (count : ℕ) → count < kept.ids → IsNodeAt F colours log caller count
  pub made : (region colour place : ℕ) → In place (kept.made region colour)
      → IsMade F log caller kept.ids region colour place

-- what is asked of F: it holds of 0, and of the stamps of singles, of rows and of what is played
pub record Holds (F : ℕ → Type 0) (colours : ℕ) (log : Log) (caller : Caller) : Type 0 where
  pub none : F 0
  pub single : (colour place : ℕ) (e : Entry) (id : Id) (floor : ℕ) (wants : Counts) → colour < colours
      → slice_get (log.histories caller.own colour) place ≡ Some e → e.event ≡ Single id floor wants → F e.stamp
  pub final : (node : Node) (f : ℕ) → node.region ≡ caller.own → AreBelow colours node.colours
      → HasOutcome log node (Final f) → F f
  pub played : (colour events : ℕ) (place : Place) (head : Head) → colour < colours
      → Stands (chain caller.own (first log caller.own colour events)) place head → F head.key.stamp

module _ (F : ℕ → Type 0) (colours : ℕ) (log : Log) (caller : Caller) (holds : Holds F colours log caller) where
  -- what was made is old or made by the client
  later : (kept after : Kept) → Trace F colours log caller kept → F after.floor → after.ids ≡ kept.ids
      → ((region colour place : ℕ) → In place (after.made region colour)
      → In place (kept.made region colour) ⊎ IsMade F log caller kept.ids region colour place)
      → Trace F colours log caller after
  later kept after t floor same more = record {
    floor = floor;
    nodes = λ count lt. t.nodes count (subst (λ n. count < n) same lt);
    made = λ region colour place i.
        subst (λ n. IsMade F log caller n region colour place) (sym same)
        (elim (more region colour place i) [ inl old ↦ t.made region colour place old | inr new ↦ new ]);
  }

  -- a node more
  one_later : (kept after : Kept) (node : Node) → Trace F colours log caller kept → F after.floor
      → after.ids ≡ kept.ids + 1 → slice_get (log.nodes caller.client) kept.ids ≡ Some node
      → AreBelow colours node.colours → F node.floor
      → ((region colour place : ℕ) → In place (after.made region colour)
      → In place (kept.made region colour) ⊎ IsMade F log caller (kept.ids + 1) region colour place)
      → Trace F colours log caller after
  one_later kept after node t floor more there below own made = record {
    floor = floor;
    nodes = λ count lt. elim (cases_lt count kept.ids) [
      | inl old ↦ t.nodes count old
      | inr ge ↦
          let e : kept.ids ≡ count = omega (arith, lt, more, ge) in
          subst (λ n. IsNodeAt F colours log caller n) e (node, there, below, own)
    ];
    made = λ region colour place i.
        subst (λ n. IsMade F log caller n region colour place) (sym more)
        (elim (made region colour place i) [
          | inl old ↦ let m = t.made region colour place old in
              (m.0, m.1, made_by_more F caller.client kept.ids (kept.ids + 1) (omega arith) m.0.event m.2)
          | inr new ↦ new
        ]);
  }

  module _ (kept : Kept) (t : Trace F colours log caller kept) (set : Colours) (text : List ℕ)
      (below : AreBelow colours set) where
    abbrev node : Node
    node = node_of caller kept set text

    row_later : (middle : Kept) (places : ℕ → List ℕ) → F middle.floor → middle.ids ≡ kept.ids + 1 → middle.made ≡
        kept.made
        → BeginsRow log caller kept node places → Trace F colours log caller (with_made middle caller.own places)
    row_later middle places floor ids same b =
        one_later kept (with_made middle caller.own places) node t floor ids b.next below t.floor made where
          step : (region colour place : ℕ) → (region ≡ caller.own) × In place (places colour)
              → IsMade F log caller (kept.ids + 1) region colour place
          step region colour place i =
              let s = All-contains (λ (p : ℕ). (kept.seen caller.own colour ≤ p)
              × (e : Entry) × (slice_get (log.histories caller.own colour) p ≡ Some e)
              × (e.by ≡ caller.client) × IsStepOf node.id e.event) (places colour) place (b.steps colour)
              (contains_in (places colour) place i.1) in (
                s.1,
                ap (λ r. slice_get (log.histories r colour) place) i.0 ∙ s.2,
                step_made F caller.client
                    (kept.ids + 1) node.id s.1.event s.4,
              )

          made : (region colour place : ℕ) → In place ((with_made middle caller.own places).made region colour)
              → In place (kept.made region colour) ⊎ IsMade F log caller (kept.ids + 1) region colour place
          made region colour place i = elim (made_own middle.made caller.own places region colour place i) [
            | inl old ↦ inl (subst (λ (m : ℕ → ℕ → List ℕ). In place (m region colour)) same old)
            | inr new ↦ inr (step region colour place new)
          ]

    one_of : (colour c : ℕ) → members set ≡ colour ∷ [] → c ≡ colour → colour < colours
    one_of colour c e f =
        All-contains (λ c. c < colours) (members set) colour below
        (subst (λ (l : List ℕ). Contains l colour) (sym e) (0, omega arith, refl))

    stood_later : (stamp : ℕ) (row : Option ℕ) (points : List PointPiece) (after : Kept)
        → Appends log caller kept node stamp row points after → Trace F colours log caller after
    stood_later stamp None [] after a = absurd a
    stood_later stamp None (p ∷ []) after a =
        let one = a.3 in
        subst (λ (k : Kept). Trace F colours log caller k) (sym a.4)
        (one_later kept _ node t
        (either F kept.floor stamp t.floor
        (holds.single p.colour a.1 _ node.id kept.floor (kept.starts p.colour) (one_of p.colour p.colour a.0 refl)
        one.entered refl))
        refl one.next below t.floor made) where
          new : (region colour place : ℕ) → (region ≡ caller.own) × (colour ≡ p.colour) × ((a.1 ≡ place) ⊎ ⊥)
              → IsMade F log caller (kept.ids + 1) region colour place
          new region colour place (e, f, inl is) = (
            record { by = caller.client; event = Single node.id kept.floor (kept.starts p.colour); stamp = stamp },
            ap (λ r. slice_get (log.histories r colour) place) e
                ∙ (ap (λ c. slice_get (log.histories caller.own c) place) f
                ∙ (ap (λ n. slice_get (log.histories caller.own p.colour) n) (sym is) ∙ a.3.entered)),
            (refl, omega arith, t.floor),
          )
          new region colour place (e, f, inr x) = absurd x

          made : (region colour place : ℕ)
              → In place (updated_at kept.made caller.own p.colour (kept.made caller.own p.colour ++ a.1 ∷ []) region
              colour)
              → In place (kept.made region colour) ⊎ IsMade F log caller (kept.ids + 1) region colour place
          made region colour place i = elim (made_at kept.made caller.own p.colour (a.1 ∷ []) region colour place i) [
            | inl old ↦ inl old
            | inr x ↦ inr (new region colour place x)
          ]
    stood_later stamp None (p ∷ q ∷ points) after a = absurd a
    stood_later stamp (Some number) points after a =
        let same = points_leave caller.own kept points in
        subst (λ (k : Kept). Trace F colours log caller k) (sym a.3)
        (row_later (with_row (with_floor (kept_after_points kept caller.own points) stamp)) a.1
        (either F (kept_after_points kept caller.own points).floor stamp (subst F (sym same.floor) t.floor)
        (holds.final node stamp refl below a.2.outcome))
        (ap (λ n. n + 1) same.ids) same.made a.2.begins)

    stampless_later : (colour : ℕ) (after : Kept) → HasNoStamp log caller kept node colour after → Trace F colours
        log caller after
    stampless_later colour _ (none_for_one only h) = t
    stampless_later colour _ (none_for_several places g) =
        row_later (with_row kept) places t.floor refl refl g.begins

  -- the nodes that are shown
  shown : (colour events : ℕ) → colour < colours → (order : List Place) (nodes : List PlacedNode)
      → AllZip (ShowsNode log caller colour events) order nodes → (n : ℕ)
      → In n (map (λ (item : PlacedNode). item.head.key.stamp) nodes) → F n
  shown colour events lt [] [] z n i = absurd i
  shown colour events lt [] (x ∷ xs) z n i = absurd z
  shown colour events lt (p ∷ ps) [] z n i = absurd i
  shown colour events lt (p ∷ ps) (x ∷ xs) z n (inl e) =
      subst F e (subst F (sym (ap (λ (k : Key). k.stamp) z.0.key))
      (holds.played colour events p z.0.head lt z.0.stands))
  shown colour events lt (p ∷ ps) (x ∷ xs) z n (inr i) = shown colour events lt ps xs z.1 n i

  synced_later : (kept : Kept) → Trace F colours log caller kept → (colour events : ℕ) (snapshot : Counts)
      (nodes : List PlacedNode)
      → colour < colours → ShowsPlayed log caller kept colour events snapshot nodes → F
      (max kept.floor (greatest_stamp nodes))
  synced_later kept t colour events snapshot nodes lt s =
      either F kept.floor (greatest_stamp nodes) t.floor
      (of_greatest F holds.none (map (λ (item : PlacedNode). item.head.key.stamp) nodes)
      (shown colour events lt s.order nodes s.lines))

  -- events of another kind
  event_later : (kept : Kept) → Trace F colours log caller kept → (region colour place : ℕ) (e : Entry)
      → slice_get (log.histories region colour) place ≡ Some e → MadeBy F caller.client kept.ids e.event
      → Trace F colours log caller (kept_after_event kept region colour place)
  event_later kept t region colour place e there m =
      later kept (kept_after_event kept region colour place) t t.floor refl made where
        new : (r c p : ℕ) → (r ≡ region) × (c ≡ colour) × ((place ≡ p) ⊎ ⊥) → IsMade F log caller kept.ids r c p
        new r c p (x, y, inl is) = (
          e,
          ap (λ z. slice_get (log.histories z c) p) x ∙ (ap (λ z. slice_get (log.histories region z) p) y
              ∙ (ap (λ z. slice_get (log.histories region colour) z) (sym is) ∙ there)),
          m,
        )
        new r c p (x, y, inr f) = absurd f

        made : (r c p : ℕ) → In p ((kept_after_event kept region colour place).made r c)
            → In p (kept.made r c) ⊎ IsMade F log caller kept.ids r c p
        made r c p i = elim (made_at kept.made region colour (place ∷ []) r c p i) [
          | inl old ↦ inl old
          | inr x ↦ inr (new r c p x)
        ]

  gives_later : (kept : Kept) → Trace F colours log caller kept → (region colour seen until : ℕ) (places : List ℕ)
      → All (GivesTooLow log caller region colour seen until) places → Trace F colours log caller
      (with_places kept region colour places)
  gives_later kept t region colour seen until places all =
      later kept (with_places kept region colour places) t t.floor refl made where
        new : (r c p : ℕ) → (r ≡ region) × (c ≡ colour) × In p places → IsMade F log caller kept.ids r c p
        new r c p (x, y, i) =
            let g = All-contains (GivesTooLow log caller region colour seen until) places p all (contains_in places p i) in (
              _,
              ap (λ z. slice_get (log.histories z c) p) x ∙ (ap (λ z. slice_get (log.histories region z) p) y ∙ g.1),
              tt,
            )

        made : (r c p : ℕ) → In p ((with_places kept region colour places).made r c)
            → In p (kept.made r c) ⊎ IsMade F log caller kept.ids r c p
        made r c p i = elim (made_at kept.made region colour places r c p i) [
          | inl old ↦ inl old
          | inr x ↦ inr (new r c p x)
        ]

  carry_later : (kept held : Kept) → Trace F colours log caller kept → (region colour nodes : ℕ) (at : At)
      → CarriesNodes log caller held region colour nodes at → Trace F colours log caller
      (kept_after_place kept caller.own colour at)
  carry_later kept held t region colour nodes (ats.Event place) c = event_later kept t caller.own colour place _ c.3 tt
  carry_later kept held t region colour nodes (ats.Look events) c =
      later kept (kept_after_place kept caller.own colour (ats.Look events)) t t.floor refl (λ r d p i. inl i)

  comes_later : (what : What) (answer : Answer) (regions : ℕ) (kept after : Kept) → IsWithin regions colours what
      → Trace F colours log caller kept → Comes log caller kept what answer after → Trace F colours log caller after
  comes_later what answer regions kept after w t (stood set text stamp row points is tells a) =
      stood_later kept t set text (subst (IsWithin regions colours) is w).1 stamp row points after a
  comes_later what answer regions kept after w t (without_stamp set text colour is h) =
      stampless_later kept t set text (subst (IsWithin regions colours) is w).1 colour after h
  comes_later what answer regions kept after w t (full set text used is same f) =
      subst (λ (k : Kept). Trace F colours log caller k) (sym same) t
  comes_later what answer regions kept after w t (synced colour events snapshot nodes is tells s shows same) =
      subst (λ (k : Kept). Trace F colours log caller k) (sym same)
      (later kept _ t (synced_later kept t colour events snapshot nodes (subst (IsWithin regions colours) is w)
      shows) refl (λ r d p i. inl i))
  comes_later what answer regions kept after w t (pulled region colour count place carry too_low is tells p same) =
      subst (λ (k : Kept). Trace F colours log caller k) (sym same)
      (carry_later (kept_after_event (with_places kept region colour too_low) region colour place) kept
      (event_later (with_places kept region colour too_low) (gives_later kept t region colour (kept.seen caller.own colour)
      (events_until carry) too_low p.made_again)
      region colour place _ p.gives tt) region colour count carry p.carries)
  comes_later what answer regions kept after w t (unchanged none tells same) =
      subst (λ (k : Kept). Trace F colours log caller k) (sym same) t

  -- the client's commands only append, sync and pull, and its replies tell of no want of memory
  pub trace : (regions : ℕ) {commands : List Command} {replies : List ReplyLine} {kept : Kept}
      → Explained log caller commands replies kept
      → ((c : Command) → In c commands → IsPlainWhat c.what × IsWithin regions colours c.what)
      → ((r : ReplyLine) → In r replies → r.answer ≢ answers.NoMemory) → Trace F colours log caller kept
  trace regions start plain memory = record {
    floor = holds.none;
    nodes = λ count lt. absurd (let f : ⊥ = omega (arith, lt) in f);
    made = λ region colour place i. absurd i;
  }
  trace regions (next {commands} {replies} {kept} {after} command reply e a) plain memory =
      let t = trace regions e (λ c i. plain c (in_left c commands (command ∷ []) i))
      (λ r i. memory r (in_left r replies (reply ∷ []) i)) in
      let q = plain command (in_right command commands (command ∷ []) (inl refl)) in
      comes_later command.what reply.answer regions kept after q.1 t
      (answer_comes log caller kept command reply after q.0 (memory reply
      (in_right reply replies (reply ∷ []) (inl refl))) a)
