-- Which id a command uses, and for which node.
use Rattle.std.proofs.Common.{◌≡◌, ℕ, ◌+◌, ◌<◌, List, [], ◌∷◌, ◌++◌, Option, Some, None, slice_get, refl, ap, sym, subst, ◌∙◌, ◌⊎◌, inl, inr, arith}
use Rattle.std.specs.Prelude.{◌==◌, ◌≢◌, if◌then◌else◌}
use Rattle.std.specs.List.{Contains}
use Rattle.std.proofs.lemmas.Bool.{eqb-true}
use Rattle.std.proofs.lemmas.List.Elements.{Contains-append_cases}
use Rattle.log_node.specs.declared.ids.Id.{Id}
use Rattle.log_node.specs.declared.ids.Colours.{Colours}
use Rattle.log_node.specs.declared.ids.Counts.{Counts}
use Rattle.log_node.specs.declared.node.Node.{Node}
use Rattle.log_node.specs.Sets.{members}
use Rattle.log_node.specs.declared.marks.Why.{Why}
use Rattle.log_node.specs.declared.marks.Why.TheVariants.{Memory, StampEnd}
use Rattle.log_node.specs.declared.marks.Outcome.TheVariants.{Gone}
use Rattle.col_core.specs.declared.Event.TheVariants as events
use Rattle.col_core.specs.declared.Entry.{Entry}
use Rattle.col_core.specs.Log.{Log, HasOutcome}
use Rattle.col_core.specs.Keeping.{Kept, kept_after_single, with_made, with_floor, with_row}
use Rattle.col_core.proofs.CallerLemmas.{choice}
use Rattle.script_text.specs.declared.commands.What.{What}
use Rattle.report_text.specs.declared.report.PointPiece.{PointPiece}
use Rattle.lawful_run.specs.Callers.{Caller, node_of}
use Rattle.lawful_run.specs.Deeds.{AsksToAppend, colours_synced, manner_of}
use Rattle.lawful_run.specs.Appends.{BeginsRow, AppendsOne, Appends, AppendsUnshown, one_unshown, several_unshown, kept_after_points, HasNoStamp, none_for_one, none_for_several}
use Rattle.lawful_run.specs.Moves.{with_places}
use Rattle.lawful_run.specs.Stops.{Stops, stopped_at_once, stopped_after}
use Rattle.lawful_run.specs.Refusals.{FindsNoMemory, nothing, gone, gave, hidden}
use Rattle.lawful_run.specs.Readings.{NodeTold, Nowhere}
use Rattle.lawful_run.proofs.AppendFacts.{points_leave}
use Rattle.lawful_run.proofs.Traces.{IsSingleAt, one_of, in_none, at_updated, at_updated_at, Made, Quiet, quiet_self, quiet_then, more_made, steps_are_none, hides, held_gives, too_low_gives}

-- what is made afterwards of singles is old, or the single of the node in this colour
abbrev MadeOne : Log → Caller → Kept → ℕ → Id → Kept → Type 0
MadeOne log caller kept colour own after =
    (region c place : ℕ) (id : Id) → IsSingleAt log region c place id → Contains (after.made region c) place
    → Contains (kept.made region c) place ⊎ ((region ≡ caller.own) × (c ≡ colour) × (id ≡ own))

-- the node stands, or its row is gone
abbrev pub Fate : Log → NodeTold → Node → Type 0
Fate log tells node = (tells ≢ Nowhere) ⊎ ((why : Why) × HasOutcome log node (Gone why))

-- An id was used for the next node, on one colour, with a single, or on several, with none. The node is made over what the
-- client kept when it was appended.
pub record Uses (log : Log) (caller : Caller) (kept : Kept) (what : What) (tells : NodeTold) (after : Kept) : Type 0 where
  pub colours : Colours
  pub text : List ℕ
  pub asks : AsksToAppend caller kept what colours text
  pub over : Kept
  pub next : slice_get (log.nodes caller.client) kept.ids ≡ Some (node_of caller over colours text)
  pub ids : after.ids ≡ kept.ids + 1
  pub fate : Fate log tells (node_of caller over colours text)
  pub made : Made log kept after ⊎ ((colour : ℕ) × (members colours ≡ colour ∷ []) × (tells ≢ Nowhere)
      × MadeOne log caller kept colour (record { client = caller.client; count = kept.ids }) after)

-- no id was used, and the answer tells of no node; or one was
abbrev pub Leaves : Log → Caller → Kept → What → NodeTold → Kept → Type 0
Leaves log caller kept what tells after =
    (Quiet log kept after × (tells ≡ Nowhere)) ⊎ Uses log caller kept what tells after

pub uses_then : {log : Log} {caller : Caller} {kept middle after : Kept} {what : What} {tells : NodeTold}
    → Uses log caller kept what tells middle
    → Quiet log middle after → Uses log caller kept what tells after
uses_then {log} {caller} {kept} {middle} {after} {what} {tells} u q = record {
  colours = u.colours;
  text = u.text;
  asks = u.asks;
  over = u.over;
  next = u.next;
  ids = q.ids ∙ u.ids;
  fate = u.fate;
  made = turn u.made;
} where
  turn : Made log kept middle ⊎ ((colour : ℕ) × (members u.colours ≡ colour ∷ []) × (tells ≢ Nowhere)
      × MadeOne log caller kept colour (record { client = caller.client; count = kept.ids }) middle)
      → Made log kept after ⊎ ((colour : ℕ) × (members u.colours ≡ colour ∷ []) × (tells ≢ Nowhere)
      × MadeOne log caller kept colour (record { client = caller.client; count = kept.ids }) after)
  turn (inl m) = inl (λ region colour place id s c. m region colour place id s (q.made region colour place id s c))
  turn (inr (colour, only, stands, m)) = inr (
    colour,
    only,
    stands,
    λ region c place id s i. m region c place id s
        (q.made region c place id s i),
  )

-- an id is used behind what uses none
pub then_uses : {log : Log} {caller : Caller} {kept middle after : Kept} {what : What} {tells : NodeTold}
    → Quiet log kept middle
    → ((colours : Colours) (text : List ℕ) → AsksToAppend caller middle what colours text
    → AsksToAppend caller kept what colours text)
    → Uses log caller middle what tells after → Uses log caller kept what tells after
then_uses {log} {caller} {kept} {middle} {after} {what} {tells} q asks u = record {
  colours = u.colours;
  text = u.text;
  asks = asks u.colours u.text u.asks;
  over = u.over;
  next = subst (λ (n : ℕ). slice_get (log.nodes caller.client) n ≡ Some (node_of caller u.over u.colours u.text)) q.ids u.next;
  ids = u.ids ∙ ap (λ n. n + 1) q.ids;
  fate = u.fate;
  made = turn u.made;
} where
  one : (colour region c place : ℕ) (id : Id)
      → Contains (middle.made region c) place ⊎ ((region ≡ caller.own) × (c ≡ colour)
      × (id ≡ record { client = caller.client; count = middle.ids }))
      → IsSingleAt log region c place id
      → Contains (kept.made region c) place ⊎ ((region ≡ caller.own) × (c ≡ colour)
      × (id ≡ record { client = caller.client; count = kept.ids }))
  one colour region c place id (inl i) s = inl (q.made region c place id s i)
  one colour region c place id (inr (own, here, is)) s =
      inr (own, here, is ∙ ap (λ (n : ℕ). record { client = caller.client; count = n }) q.ids)

  turn : Made log middle after ⊎ ((colour : ℕ) × (members u.colours ≡ colour ∷ []) × (tells ≢ Nowhere)
      × MadeOne log caller middle colour (record { client = caller.client; count = middle.ids }) after)
      → Made log kept after ⊎ ((colour : ℕ) × (members u.colours ≡ colour ∷ []) × (tells ≢ Nowhere)
      × MadeOne log caller kept colour (record { client = caller.client; count = kept.ids }) after)
  turn (inl m) = inl (λ region colour place id s c. q.made region colour place id s (m region colour place id s c))
  turn (inr (colour, only, stands, m)) = inr (
    colour,
    only,
    stands,
    λ region c place id s i. one colour region c place id (m region c place id s i) s,
  )

pub then_leaves : {log : Log} {caller : Caller} {kept middle after : Kept} {what : What} {tells : NodeTold}
    → Quiet log kept middle
    → ((colours : Colours) (text : List ℕ) → AsksToAppend caller middle what colours text
    → AsksToAppend caller kept what colours text)
    → Leaves log caller middle what tells after → Leaves log caller kept what tells after
then_leaves q asks (inl r) = inl (quiet_then q r.0, r.1)
then_leaves q asks (inr u) = inr (then_uses q asks u)

single_id : (log : Log) (region colour place : ℕ) (id other : Id) (e : Entry) (floor : ℕ) (wants : Counts) → slice_get
    (log.histories region colour) place ≡ Some e
    → e.event ≡ events.Single other floor wants → IsSingleAt log region colour place id → id ≡ other
single_id log region colour place id other e floor wants there is s =
    let t = s.there in
    let i = s.single in
    let same : s.entry ≡ e = cc in
    let f : events.Single id s.floor s.wants ≡ events.Single other floor wants = sym i ∙
    (ap (λ (x : Entry). x.event) same ∙ is) in
    cc (f)

module _ (log : Log) (caller : Caller) (kept : Kept) (what : What) (colours : Colours) (text : List ℕ)
    (asks : AsksToAppend caller kept what colours text) where
  abbrev node : Node
  node = node_of caller kept colours text

  one_made : (colour stamp place position : ℕ) → AppendsOne log caller kept node colour stamp place position
      → (region c p : ℕ) (id : Id) → IsSingleAt log region c p id → region ≡ caller.own → c ≡ colour → Contains
      (kept.made caller.own colour ++ place ∷ []) p
      → Contains (kept.made region c) p ⊎ ((region ≡ caller.own) × (c ≡ colour) × (id ≡ node.id))
  one_made colour stamp place position a region c p id s e f i = split
      (Contains-append_cases (kept.made caller.own colour) (place ∷ []) p i) where
        split : Contains (kept.made caller.own colour) p ⊎ Contains (place ∷ []) p → Contains (kept.made region c) p ⊎
            ((region ≡ caller.own) × (c ≡ colour) × (id ≡ node.id))
        split (inl old) = inl (subst (λ x. Contains (kept.made x c) p) (sym e)
            (subst (λ x. Contains (kept.made caller.own x) p) (sym f) old))
        split (inr new) = inr (
          e,
          f,
          single_id log caller.own colour place id node.id _ kept.floor (kept.starts colour) a.entered refl
              (subst (λ n. IsSingleAt log caller.own colour n id) (sym (one_of place p new))
              (subst (λ x. IsSingleAt log caller.own x p id) f (subst (λ x. IsSingleAt log x c p id) e s))),
        )

  uses_one : (tells : NodeTold) (colour stamp place position : ℕ) → tells ≢ Nowhere → members colours ≡ colour ∷ []
      → AppendsOne log caller kept node colour stamp place position
      → Uses log caller kept what tells (kept_after_single kept caller.own colour place stamp position)
  uses_one tells colour stamp place position stands only a = record {
    colours = colours;
    text = text;
    asks = asks;
    over = kept;
    next = a.next;
    ids = refl;
    fate = inl stands;
    made = inr (
      colour,
      only,
      stands,
      λ region c p id s i. turn region c p id s
          (at_updated_at kept.made caller.own colour (kept.made caller.own colour ++ place ∷ []) region c p i),
    );
  } where
    turn : (region c p : ℕ) (id : Id) → IsSingleAt log region c p id
        → ((region ≡ caller.own) × (c ≡ colour) × Contains (kept.made caller.own colour ++ place ∷ []) p) ⊎ Contains
        (kept.made region c) p
        → Contains (kept.made region c) p ⊎ ((region ≡ caller.own) × (c ≡ colour) × (id ≡ node.id))
    turn region c p id s (inl (e, f, i)) = one_made colour stamp place position a region c p id s e f i
    turn region c p id s (inr i) = inl i

  -- a row was begun
  uses_row : (tells : NodeTold) (places : ℕ → List ℕ) (middle : Kept) → middle.ids ≡ kept.ids + 1 → middle.made ≡ kept.made
      → Fate log tells node
      → BeginsRow log caller kept node places → Uses log caller kept what tells (with_made middle caller.own places)
  uses_row tells places middle ids same fate b = record {
    colours = colours;
    text = text;
    asks = asks;
    over = kept;
    next = b.next;
    ids = ids;
    fate = fate;
    made = inl (λ region colour place id s i. subst (λ (m : ℕ → ℕ → List ℕ). Contains (m region colour) place) same
        ((more_made log middle caller.own places
        (steps_are_none log caller kept node places b.steps)).made region colour place id s i));
  }

  pub appends_use : (tells : NodeTold) (stamp : ℕ) (row : Option ℕ) (points : List PointPiece) (after : Kept)
      → tells ≢ Nowhere
      → Appends log caller kept node stamp row points after → Uses log caller kept what tells after
  appends_use tells stamp None [] after stands a = absurd a
  appends_use tells stamp None (p ∷ []) after stands a =
      subst (λ (k : Kept). Uses log caller kept what tells k) (sym a.4)
      (uses_one tells p.colour stamp a.1 p.position stands a.0 a.3)
  appends_use tells stamp None (p ∷ q ∷ points) after stands a = absurd a
  appends_use tells stamp (Some number) points after stands a =
      let same = points_leave caller.own kept points in
      subst (λ (k : Kept). Uses log caller kept what tells k) (sym a.3)
      (uses_row tells a.1 (with_row (with_floor (kept_after_points kept caller.own points) stamp))
      (ap (λ n. n + 1) same.ids) same.made (inl stands) a.2.begins)

  pub unshown_use : (tells : NodeTold) (stamp : ℕ) (after : Kept) → tells ≢ Nowhere
      → AppendsUnshown log caller kept node stamp after → Uses log caller kept what tells after
  unshown_use tells stamp after stands (one_unshown colour place position only a) = record {
    colours = colours;
    text = text;
    asks = asks;
    over = kept;
    next = a.next;
    ids = refl;
    fate = inl stands;
    made = inr (
      colour,
      only,
      stands,
      λ region c p id s.
          at_updated (λ (g : ℕ → List ℕ). Contains (g c) p)
          (Contains (kept.made region c) p ⊎ ((region ≡ caller.own) × (c ≡ colour) × (id ≡ node.id)))
          kept.made caller.own (λ d. kept.made caller.own d ++ (if d == colour then place ∷ [] else [])) region
          (λ e i. split region c p id s e (Contains-append_cases (kept.made caller.own c)
          (if c == colour then place ∷ [] else []) p i)) inl,
    );
  } where
    new : (region c p : ℕ) (id : Id) → IsSingleAt log region c p id → region ≡ caller.own → Contains
        (if c == colour then place ∷ [] else []) p
        → Contains (kept.made region c) p ⊎ ((region ≡ caller.own) × (c ≡ colour) × (id ≡ node.id))
    new region c p id s e =
        choice (λ (l : List ℕ). Contains l p → Contains (kept.made region c) p ⊎
        ((region ≡ caller.own) × (c ≡ colour) × (id ≡ node.id)))
        (c == colour) (place ∷ []) []
        (λ t i. let f = eqb-true c colour t in inr (
          e,
          f,
          single_id log caller.own colour place id node.id _ kept.floor (kept.starts colour) a.entered refl
              (subst (λ n. IsSingleAt log caller.own colour n id) (sym (one_of place p i))
              (subst (λ x. IsSingleAt log caller.own x p id) f (subst (λ x. IsSingleAt log x c p id) e s))),
        ))
        (λ _ i. absurd (in_none p i))

    split : (region c p : ℕ) (id : Id) → IsSingleAt log region c p id → region ≡ caller.own
        → Contains (kept.made caller.own c) p ⊎ Contains (if c == colour then place ∷ [] else []) p
        → Contains (kept.made region c) p ⊎ ((region ≡ caller.own) × (c ≡ colour) × (id ≡ node.id))
    split region c p id s e (inl i) = inl (subst (λ x. Contains (kept.made x c) p) (sym e) i)
    split region c p id s e (inr i) = new region c p id s e i
  unshown_use tells stamp after stands (several_unshown places begins outcome stand above) =
      uses_row tells places (with_row (with_floor kept stamp)) refl refl (inl stands) begins

  pub no_stamp_use : (tells : NodeTold) → tells ≡ Nowhere → (colour : ℕ) (after : Kept)
      → HasNoStamp log caller kept node colour after
      → Leaves log caller kept what tells after
  no_stamp_use tells none colour after (none_for_one only h) = inl (quiet_self log kept, none)
  no_stamp_use tells none colour after (none_for_several places g) =
      inr (uses_row tells places (with_row kept) refl refl (inr (StampEnd, g.ends.outcome)) g.begins)

  pub stop_use : (tells : NodeTold) (steps : ℕ) (after : Kept) → (steps ≡ 0 → tells ≡ Nowhere) →
      (0 < steps → tells ≢ Nowhere)
      → Stops log caller kept node steps after → Leaves log caller kept what tells after
  stop_use tells steps after none stands stopped_at_once = inl (quiet_self log kept, none refl)
  stop_use tells steps after none stands (stopped_after n places s) =
      inr (uses_row tells places (with_row kept) refl refl (inl (stands (omega arith))) s.begins)

pub memory_use : (log : Log) (caller : Caller) (kept : Kept) (what : What) (after : Kept)
    → FindsNoMemory log caller kept what after → Leaves log caller kept what Nowhere after
memory_use log caller kept what after nothing = inl (quiet_self log kept, refl)
memory_use log caller kept what after (gone colours text places asks g) =
    inr (uses_row log caller kept what colours text asks Nowhere places (with_row kept) refl refl
    (inr (Memory, g.outcome)) g.begins)
memory_use log caller kept what after (gave region colour looked too_low places is g) =
    let seen = kept.seen caller.own colour in
    let q = quiet_then (too_low_gives log caller kept region colour seen looked too_low g.made_again)
    (held_gives log caller (with_places kept region colour too_low) region colour seen looked places g.given) in
    inl (record { ids = q.ids; made = q.made }, refl)
memory_use log caller kept what after (hidden later h) =
    inl (hides log caller kept (colours_synced caller what) (manner_of what) later h, refl)

pub quiet_same : (log : Log) (kept after : Kept) → after.ids ≡ kept.ids → after.made ≡ kept.made → Quiet log kept after
quiet_same log kept after ids same = record {
  ids = ids;
  made = λ region colour place id s i. subst (λ (m : ℕ → ℕ → List ℕ). Contains (m region colour) place) same i;
}
