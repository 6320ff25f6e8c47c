-- The stages of an append, as one has them who holds its begun append.
use Rattle.std.proofs.Common.{◌≡◌, ◌≢◌, ℕ, ◌+◌, List, length, set as with_at, Option, Some, None, slice_get, true, ap, sym, subst, ◌∙◌, arith}
use Rattle.std.proofs.lemmas.List.{length-map}
use Rattle.log_node.specs.declared.node.At.{At}
use Rattle.log_node.specs.declared.node.Node.{Node}
use Rattle.log_node.specs.declared.marks.Mark.{Mark}
use Rattle.log_node.specs.declared.marks.Mark.TheVariants as marks
use Rattle.log_node.specs.declared.marks.Outcome.{Outcome}
use Rattle.log_node.specs.declared.marks.Outcome.TheVariants.{Final}
use Rattle.log_node.specs.Seen.{BegunAppend}
use Rattle.log_node.specs.Sets.{has, members}
use Rattle.log_node.specs.Standings.{open_entry}
use Rattle.col_core.specs.History.{entries}
use Rattle.col_core.specs.Ids.{IsFinal}
use Rattle.stamp_board.specs.Seats.{IsLater}
use Rattle.stamp_board.specs.Views.{KnowsMark}
use Rattle.chain_store.specs.declared.hold.Hold.{Hold}
use Rattle.chain_store.specs.declared.region.Region.{Region}
use Rattle.chain_store.specs.Columns.{told_propose, told_settle}
use Rattle.chain_store.specs.Proposals.{HasProposal}
use Rattle.chain_store.specs.Rows.{IsBegunRow, place_after}
use Rattle.chain_store.specs.Steps.{MatchAt}
use Rattle.chain_store.specs.Holds.{KnowsAppend, SameBut, MakesOneIn, LooksIn, seen_in, entries_seen, view_of}
use Rattle.append_core.specs.declared.stood.Point.{Point}
use Rattle.append_core.specs.Several.{HoldStopsAfter, own_append}
use Rattle.append_core.specs.Inside.{ArePointsOf, AreProposed, AreSettled, IsAhead, IsNextOf, end_after}
use Rattle.append_core.proofs.Marked.{below_all}
use Rattle.append_core.proofs.Pointing.{point_member, set_here, set_other}
use Rattle.append_core.proofs.Proposed.{proposed_next}
use Rattle.append_core.proofs.Settling.{settled_next}

-- how many points there are
pub count_of : (points : List Point) (b : BegunAppend) (g : Hold) (x : Node) → ArePointsOf points b.colours
    → b ≡ own_append g x → length points ≡ length (members x.colours)
count_of points b g x of is =
    sym (length-map points (λ (p : Point). p.colour)) ∙ ap (λ (l : List ℕ). length l) of.same
    ∙ ap (λ (a : BegunAppend). length (members a.colours)) is

-- a stop is ahead of one step more, where it is not at it
pub ahead_more : (stop : Option ℕ) (steps more : ℕ) → more ≡ steps + 1 → stop ≢ Some more → IsAhead stop steps
    → IsAhead stop more
ahead_more None steps more is ne ahead = tt
ahead_more (Some s) steps more is ne ahead =
    let other : s ≢ more = λ e. ne (ap Some e) in omega (arith, is, ahead, other)

pub ahead_at : (stop : Option ℕ) (a b : ℕ) → a ≡ b → IsAhead stop a → IsAhead stop b
ahead_at stop a b is ahead = subst (IsAhead stop) is ahead

pub steps_at : (r : Region) (g h : Hold) (x : Node) (a b : ℕ) → a ≡ b → HoldStopsAfter r g h x a → HoldStopsAfter r g h x b
steps_at r g h x a b is s = subst (λ (n : ℕ). HoldStopsAfter r g h x n) is s

module _ (r : Region) (h k : Hold) (b : BegunAppend) (points : List Point) (n : ℕ) (p : Point)
    (knows : KnowsAppend r h b) (of : ArePointsOf points b.colours) (here : slice_get points n ≡ Some p)
    (but : SameBut p.colour h k) (later : IsLater h.seat k.seat) (next : k.next ≡ h.next) where
  member : (g : Hold) (x : Node) → b ≡ own_append g x → slice_get (members x.colours) n ≡ Some p.colour
  member g x is =
      subst (λ (a : BegunAppend). slice_get (members a.colours) n ≡ Some p.colour) is
      (point_member points b.colours of n p here)

  -- after a proposal in the colour of a point
  pub proposes_more : (q : Point) (mark : Mark) (at : At) (ended : Option ℕ) → slice_get points n ≡ Some q
      → mark ≢ marks.None → KnowsMark (view_of k) b.row p.colour mark
      → ((s : ℕ) → mark ≡ marks.Number s
      → HasProposal r.board.size r.number p.colour (view_of k) b (seen_in k p.colour) s)
      → MatchAt at
      (λ _. (y : Node) × (s : ℕ) × IsBegunRow r.board.size r.number (view_of k) b y × (mark ≡ marks.Number s)
      × MakesOneIn p.colour h k (told_propose p.colour h.passes.number y s) at)
      (λ _. LooksIn p.colour h k at)
      → (g : Hold) (x : Node) → IsNextOf r g x → b ≡ own_append g x → AreProposed r g h x points n ended
      → AreProposed r g k x (with_at points n (record { colour = q.colour; at = at; position = q.position })) (n + 1)
      (end_after ended p.colour mark)
  proposes_more q mark at ended there set known entered answers g x fresh is was =
      let new : Point = record { colour = q.colour; at = at; position = q.position } in
      let same : p ≡ q = (let f : Some p ≡ Some q = sym here ∙ there in let e : p ≡ q = cc f in e) in
      proposed_next r g h k x p.colour n mark at fresh (member g x is) but later next set
      (subst (λ (a : BegunAppend). KnowsMark (view_of k) a.row p.colour mark) is known)
      (λ d it. let lt = below_all r h b knows d (subst (λ (a : BegunAppend). has a.colours d ≡ true) (sym is) it) in
      omega (arith, lt))
      (subst (λ (a : BegunAppend). (s : ℕ) → mark ≡ marks.Number s
      → HasProposal r.board.size r.number p.colour (view_of k) a (seen_in k p.colour) s) is entered)
      (subst (λ (a : BegunAppend). MatchAt at
      (λ _. (y : Node) × (s : ℕ) × IsBegunRow r.board.size r.number (view_of k) a y × (mark ≡ marks.Number s)
      × MakesOneIn p.colour h k (told_propose p.colour h.passes.number y s) at)
      (λ _. LooksIn p.colour h k at)) is answers)
      points (with_at points n new) ended
      (λ i ne. set_other points n new i ne)
      (λ z e.
      let z_is = set_here points n new z e in
      (ap (λ (w : Point). w.colour) z_is ∙ ap (λ (w : Point). w.colour) (sym same), ap (λ (w : Point). w.at) z_is))
      was

  -- after a settling there
  pub settles_more : (o : Outcome) (at : At) (place : Option ℕ) (places : List (Option ℕ))
      → MatchAt at (λ _. MakesOneIn p.colour h k (told_settle h.passes.number b.id o) at) (λ _. LooksIn p.colour h k at)
      → open_entry b.id (entries (entries_seen k p.colour)) ≡ None
      → ((f : ℕ) → o ≡ Final f → IsFinal (entries_seen k p.colour) b.id f)
      → place ≡ place_after (entries_seen k p.colour) b.id o
      → (g : Hold) (x : Node) → b ≡ own_append g x → AreSettled r g h x o places n
      → AreSettled r g k x o (with_at places n place) (n + 1)
  settles_more o at place places answers closed stands placed g x is was =
      settled_next r g h k x o p.colour n at place (member g x is) but later next
      (subst (λ (a : BegunAppend). MatchAt at (λ _. MakesOneIn p.colour h k (told_settle h.passes.number a.id o) at)
      (λ _. LooksIn p.colour h k at)) is answers)
      (subst (λ (a : BegunAppend). open_entry a.id (entries (entries_seen k p.colour)) ≡ None) is closed)
      (subst (λ (a : BegunAppend). (f : ℕ) → o ≡ Final f → IsFinal (entries_seen k p.colour) a.id f) is stands)
      (subst (λ (a : BegunAppend). place ≡ place_after (entries_seen k p.colour) a.id o) is placed)
      places (with_at places n place) (λ i ne. set_other places n place i ne)
      (λ q e. set_here places n place q e) was
