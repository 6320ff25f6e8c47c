-- What a hold knows of a begun append in the columns of its colours, and that it knows it later.
use Rattle.std.proofs.Common.{◌≡◌, ◌≢◌, ℕ, ◌<◌, List, true, None, refl, sym, subst, arith, inl, inr}
use Rattle.log_node.specs.declared.limits.TheConstants.{MAX_COLOURS}
use Rattle.log_node.specs.declared.ids.Colours.{Colours}
use Rattle.log_node.specs.declared.marks.Mark.{Mark}
use Rattle.log_node.specs.declared.marks.Mark.TheVariants as marks
use Rattle.log_node.specs.declared.marks.Outcome.{Outcome}
use Rattle.log_node.specs.declared.marks.Outcome.TheVariants.{Final}
use Rattle.log_node.specs.Seen.{BegunAppend}
use Rattle.log_node.specs.Sets.{has}
use Rattle.log_node.specs.Standings.{open_entry}
use Rattle.col_core.specs.declared.Event.{Event}
use Rattle.col_core.specs.History.{entries}
use Rattle.col_core.specs.Ids.{IsFinal}
use Rattle.stamp_board.specs.Views.{Grows, KnowsAll, KnowsMark, Learns}
use Rattle.stamp_board.proofs.CallerLemmas.{Learns-from, mark_learnt}
use Rattle.chain_store.specs.declared.told.Told.{Told}
use Rattle.chain_store.specs.declared.hold.Hold.{Hold}
use Rattle.chain_store.specs.declared.region.Region.{Region}
use Rattle.chain_store.specs.Proposals.{HasProposal}
use Rattle.chain_store.specs.Holds.{KnowsAppend, SameBut, seen_in, entries_seen, view_of}
use Rattle.chain_store.specs.Going.{GoesOn}
use Rattle.append_core.specs.Settled.{HoldKnowsMarked, HoldKnowsSettledOver, HoldKnowsSettled}
use Rattle.append_core.proofs.Taking.{entered_proposed, entered_more}

module _ (r : Region) (h : Hold) (b : BegunAppend) (knows : KnowsAppend r h b) where
  -- its colours are those of the region
  pub colour_within : (c : ℕ) → has b.colours c ≡ true → c < r.board.size.colours
  colour_within c coloured =
      knows.knows.1.several.within c (subst (λ (s : Colours). has s c ≡ true) knows.knows.1.of.colours coloured)

  pub below_all : (c : ℕ) → has b.colours c ≡ true → c < MAX_COLOURS
  below_all c coloured =
      let lt = colour_within c coloured in
      let few = r.board.is_size.few_colours in
      omega (arith, lt, few)

  -- all its marks are known where it is marked in each colour
  pub all_known : ((c : ℕ) → has b.colours c ≡ true → HoldKnowsMarked h b c) → KnowsAll (view_of h) b.row
  all_known marked = (
    knows.knows.0,
    knows.knows.1.knows,
    λ c it. let m = marked c (subst (λ (s : Colours). has s c ≡ true) (sym knows.knows.1.of.colours) it) in (
      m.mark,
      m.known,
    ),
  )

-- by a proposal it is marked in the colour
pub marked_at : (r : Region) (h : Hold) (b : BegunAppend) (k : ℕ) (mark : Mark) → mark ≢ marks.None
    → KnowsMark (view_of h) b.row k mark
    → ((n : ℕ) → mark ≡ marks.Number n → HasProposal r.board.size r.number k (view_of h) b (seen_in h k) n)
    → HoldKnowsMarked h b k
marked_at r h b k marks.None set known entered = absurd (set refl)
marked_at r h b k (marks.Fenced why) set known entered = record {
  mark = marks.Fenced why;
  set = set;
  known = known;
  done = inl (why, refl);
}
marked_at r h b k (marks.Number n) set known entered = let p = entered n refl in record {
  mark = marks.Number n;
  set = set;
  known = known;
  done = inr (entered_proposed (seen_in h k) k p.0 n p.1 b.id (sym p.2.of.id) p.3);
}

-- the hold has gone on
module _ (Made : ℕ → Event → Type 0) (g h : Hold) (b : BegunAppend) (goes : GoesOn Made g h)
    (grows : Grows (view_of g) (view_of h)) where
  known_later : (c : ℕ) (m : Mark) → KnowsMark (view_of g) b.row c m → KnowsMark (view_of h) b.row c m
  known_later c m = mark_learnt (view_of g) (view_of h) b.row grows.size
      (Learns-from (view_of g) (view_of h) grows) c m

  pub marked_later : (c : ℕ) → HoldKnowsMarked g b c → HoldKnowsMarked h b c
  marked_later c m = record {
    mark = m.mark;
    set = m.set;
    known = known_later c m.mark m.known;
    done = elim m.done [
      | inl fenced ↦ inl fenced
      | inr entered ↦ inr (entered_more (seen_in g c) (seen_in h c) b.id (goes.more c) entered)
    ];
  }

-- by a settling it is settled in the colour where it was marked
pub settled_at : (h : Hold) (b : BegunAppend) (o : Outcome) (c : ℕ) → HoldKnowsMarked h b c
    → open_entry b.id (entries (entries_seen h c)) ≡ None
    → ((f : ℕ) → o ≡ Final f → IsFinal (entries_seen h c) b.id f) → HoldKnowsSettled h b o c
settled_at h b o c m closed final = record {
  mark = m.mark;
  set = m.set;
  known = m.known;
  closed = closed;
  done = m.done;
  final = final;
}

-- what is settled over a history is so for one who knows more
pub over_learnt : (g h : Hold) → (view_of h).size ≡ (view_of g).size → Learns (view_of g) (view_of h)
    → (b : BegunAppend) (o : Outcome) (c : ℕ) (log : List Told)
    → HoldKnowsSettledOver g b o c log → HoldKnowsSettledOver h b o c log
over_learnt g h size learns b o c log s = record {
  mark = s.mark;
  set = s.set;
  known = mark_learnt (view_of g) (view_of h) b.row size learns c s.mark s.known;
  closed = s.closed;
  done = s.done;
  final = s.final;
}

-- it stays settled in other columns than that of a call
pub settled_elsewhere : (g h : Hold) (b : BegunAppend) (o : Outcome) (k c : ℕ) → SameBut k g h
    → Grows (view_of g) (view_of h) → c ≢ k → HoldKnowsSettled g b o c → HoldKnowsSettled h b o c
settled_elsewhere g h b o k c but grows ne s =
    subst (λ (l : List Told). HoldKnowsSettledOver h b o c l) (sym (but.others c ne))
    (over_learnt g h grows.size (Learns-from (view_of g) (view_of h) grows) b o c (seen_in g c) s)
