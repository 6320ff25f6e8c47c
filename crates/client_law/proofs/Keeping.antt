-- What one client knows goes on explaining its replies, and what it keeps stays of what it has seen.
use Rattle.std.proofs.Common.{◌≡◌, ℕ, ◌+◌, ◌<◌, ◌≤◌, List, [], ◌∷◌, ◌++◌, length, map, take, true, Some, slice_get, refl, ap, sym, subst, ◌∙◌, inl, inr, ◌⊎◌, arith, eq-eqb}
use Rattle.std.specs.Prelude.{◌==◌}
use Rattle.std.specs.List.{AllZip}
use Rattle.std.proofs.lemmas.Bool.{cases_lt}
use Rattle.std.proofs.lemmas.List.{length-map}
use Rattle.std.proofs.lemmas.Option.{same_Some}
use mathlib.Core.List.{IsPrefix}
use Rattle.log_node.specs.declared.ids.Key.{Key}
use Rattle.log_node.specs.declared.ids.Counts.{Counts}
use Rattle.log_node.specs.Order.{key_below}
use Rattle.log_node.specs.Vectors.{at}
use Rattle.log_node.specs.Reach.{Reachable, nothing}
use Rattle.log_node.specs.declared.marks.ColourMark.{ColourMark}
use Rattle.col_core.specs.declared.Entry.{Entry}
use Rattle.col_core.specs.History.{line}
use Rattle.col_core.specs.Cuts.{Dated, chain}
use Rattle.col_core.specs.Computed.{dated}
use Rattle.col_core.specs.Legal.{IsColumnHistory, IsLawfulEvent}
use Rattle.col_core.specs.Rows.{BegunRow}
use Rattle.col_core.specs.Log.{IsLater, IsLaterRow, IsLaterMark, places_of}
use Rattle.col_core.specs.Keeping.{Kept}
use Rattle.col_core.proofs.CallerLemmas.{chains_grow, cut-is_greatest, dated-is_dated, dates_longer, entries_dated, head_with, if_true, key-stamps, later, later_by_growth, line_rises, reachable_grows, reached_within}
use Rattle.lawful_run.specs.Callers.{Caller}
use Rattle.lawful_run.specs.Explains.{next}
use Rattle.lawful_run.proofs.CallerLemmas.{explained_later, prefix_length}
use Rattle.client_law.specs.Knowing.{Seen, Rest, log_seen, SeesOn, RepliesLast, ExplainedOn, ExplainedAtEnd}
use Rattle.client_law.specs.Making.{own_steps}
use Rattle.client_law.specs.Kept.{AreUnder, IsKeptBy, NothingIsKept, KeptStays, StartsWithin, StepsAtEnd}
use Rattle.client_law.proofs.Lists.{prefix_self, prefix_back, image_at}
use Rattle.client_law.proofs.Counting.{places_stay}

-- EXPLANATIONS

later_marks : (ms : List ColourMark) → AllZip IsLaterMark ms ms
later_marks [] = tt
later_marks (m ∷ ms) = ((refl, λ _. refl), later_marks ms)

later_row : (r : BegunRow) → IsLaterRow r r
later_row r = record { row = refl; node = refl; marks = later_marks r.marks; last = λ _. refl }

-- what was seen later, beside the same nodes and rows, is a later log
pub seen_later : (caller : Caller) (old new : Seen) (rest : Rest) → SeesOn caller old new
    → IsLater (log_seen old rest) (log_seen new rest)
seen_later caller old new rest on =
    later_by_growth caller.regions (log_seen old rest) (log_seen new rest) on.more
    (λ client. prefix_self (rest.nodes client)) (λ region r i. (r, i, later_row r)) on.lawful

pub explained_on : ExplainedOn
explained_on old new Fitted Fits caller commands replies kept on less before rest fits =
    explained_later (log_seen old rest) (log_seen new rest) (seen_later caller old new rest on) caller
    (before rest (less rest fits))

pub replies_last : RepliesLast
replies_last old new Fitted Fits caller commands replies kept after command reply on less before last rest fits =
    next command reply
    (explained_on old new Fitted Fits caller commands replies kept on less before rest fits) (last rest fits)

pub explained_at_end : ExplainedAtEnd
explained_at_end seen Fits caller commands replies kept closing on fits before =
    explained_on seen closing.histories Fits Fits caller commands replies kept on (λ rest f. f) before
    (record { nodes = closing.nodes; rows = closing.rows }) fits

-- WHAT IS SEEN OF ONE COLUMN

-- an entry of a lawful history is lawful after those before it
pub lawful_at : (own regions : ℕ) (history : List Entry) (n : ℕ) (e : Entry)
    → IsColumnHistory own regions (dated own history) → slice_get history n ≡ Some e
    → IsLawfulEvent own regions (take n (dated own history)) e.event e.stamp
lawful_at own regions history n e lawful there =
    let d = image_at (λ (x : Dated). x.entry) (dated own history) n e
    (ap (λ l. slice_get l n) ((dated-is_dated own history).same) ∙ there) in
    subst (λ (x : Entry). IsLawfulEvent own regions (take n (dated own history)) x.event x.stamp) d.2
    (lawful n d.0 d.1)

pub line_later : (caller : Caller) (old new : Seen) → SeesOn caller old new → (region colour : ℕ)
    → IsPrefix (line (old region colour)) (line (new region colour))
line_later caller old new on region colour =
    (seen_later caller old new (record { nodes = λ _. []; rows = λ _. [] }) on).lines region colour

pub chain_later : (own regions : ℕ) (old new : List Entry) → IsPrefix old new
    → IsColumnHistory own regions (dated own new) → (region : ℕ)
    → IsPrefix (chain own (dated own old) region) (chain own (dated own new) region)
chain_later own regions old new p lawful region =
    let whole : IsColumnHistory own regions (dated own (old ++ p.0)) =
    subst (λ (h : List Entry). IsColumnHistory own regions (dated own h)) (sym p.1) lawful in
    subst (λ (h : List Entry). IsPrefix (chain own (dated own old) region) (chain own (dated own h) region)) p.1
    (subst (λ (ds : List Dated). IsPrefix (chain own (dated own old) region) (chain own ds region))
    (sym (dates_longer own old p.0))
    (chains_grow own regions (dated own old) (later own (dated own old) p.0)
    (subst (IsColumnHistory own regions) (dates_longer own old p.0) whole) region))

pub reached_later : (own regions : ℕ) (old new : List Entry) (v : Counts) → IsPrefix old new
    → IsColumnHistory own regions (dated own new) → Reachable (chain own (dated own old)) v
    → Reachable (chain own (dated own new)) v
reached_later own regions old new v p lawful r =
    reachable_grows (chain own (dated own old)) (chain own (dated own new)) (chain_later own regions old new p lawful) v r

pub own_chain : (own : ℕ) (history : List Entry) → chain own (dated own history) own
    ≡ map (head_with (dated own history)) (line history)
own_chain own history =
    if_true (own == own) _ _ (eq-eqb own own refl)
    ∙ ap (λ (h : List Entry). map (head_with (dated own history)) (line h)) (entries_dated own history)

-- what can be reached counts no more than the own line
pub reached_in_line : (own : ℕ) (history : List Entry) (v : Counts) → own < 4
    → Reachable (chain own (dated own history)) v → at v own ≤ length (line history)
reached_in_line own history v home r =
    let a = reached_within (chain own (dated own history)) r own home in
    let b = ap length (own_chain own history) ∙ length-map (line history) (head_with (dated own history)) in
    omega (arith, a, b)

-- STAMPS OF A LINE

pub line_in_order : (own regions : ℕ) (history : List Entry) → IsColumnHistory own regions (dated own history)
    → (i j : ℕ) (k l : Key) → i < j → slice_get (line history) i ≡ Some k → slice_get (line history) j ≡ Some l
    → key_below k l ≡ true
line_in_order own regions history lawful i j k l lt a b =
    let same = sym (entries_dated own history) in
    line_rises own regions (dated own history) lawful i j k l lt
    (subst (λ (h : List Entry). slice_get (line h) i ≡ Some k) same a)
    (subst (λ (h : List Entry). slice_get (line h) j ≡ Some l) same b)

-- up to a node of the line none has a greater stamp
pub under_node : (own regions : ℕ) (history : List Entry) → IsColumnHistory own regions (dated own history)
    → (position : ℕ) (key : Key) (stamp : ℕ) → slice_get (line history) position ≡ Some key → key.stamp ≤ stamp
    → AreUnder history (position + 1) stamp
under_node own regions history lawful position key stamp stands le i k lt there = turn (cases_lt i position) where
  turn : (i < position) ⊎ (position ≤ i) → k.stamp ≤ stamp
  turn (inl less) =
      let s = key-stamps k key (line_in_order own regions history lawful i position k key less there stands) in
      omega (arith, s, le)
  turn (inr more) =
      let is : i ≡ position = omega (arith, lt, more) in
      let same : k ≡ key = same_Some k key (sym there ∙ (ap (λ n. slice_get (line history) n) is ∙ stands)) in
      let s = ap (λ (x : Key). x.stamp) same in
      omega (arith, s, le)

-- what is under a stamp stays so
pub under_later : (old new : List Entry) (count stamp greater : ℕ) → IsPrefix (line old) (line new)
    → count ≤ length (line old) → stamp ≤ greater → AreUnder old count stamp → AreUnder new count greater
under_later old new count stamp greater p within le under i key lt there =
    let s = under i key lt (prefix_back (line old) (line new) i key p (omega (arith, lt, within)) there) in
    omega (arith, s, le)

-- WHAT IS KEPT

-- what was seen and known is still within what is seen
module _ (caller : Caller) (old new : Seen) (kept : Kept) (on : SeesOn caller old new)
    (k : IsKeptBy old caller kept) where
  pub seen_on : (region colour : ℕ) → kept.seen region colour ≤ length (new region colour)
  seen_on region colour =
      let a = k.seen_within region colour in
      let b = prefix_length (old region colour) (new region colour) (on.more region colour) in
      omega (arith, a, b)

  pub known_on : (colour : ℕ) → kept.known colour ≤ length (line (new caller.own colour))
  known_on colour =
      let a = k.known_within colour in
      let b = prefix_length (line (old caller.own colour)) (line (new caller.own colour))
      (line_later caller old new on caller.own colour) in
      omega (arith, a, b)

  pub under_on : (greater colour : ℕ) → kept.floor ≤ greater
      → AreUnder (new caller.own colour) (kept.known colour) greater
  under_on greater colour le =
      under_later (old caller.own colour) (new caller.own colour) (kept.known colour) kept.floor greater
      (line_later caller old new on caller.own colour) (k.known_within colour) le (k.known_under colour)

  -- where none of its own steps came to a column its places are as they were
  pub made_on : (region colour : ℕ)
      → own_steps caller.client (new region colour) ≡ own_steps caller.client (old region colour)
      → places_of caller.client (new region colour) ≡ kept.made region colour
  made_on region colour none =
      places_stay caller.client (old region colour) (new region colour) (on.more region colour) none
      ∙ k.steps_made region colour

  pub starts_on : (greater colour : ℕ) → kept.floor ≤ greater
      → AreUnder (new caller.own colour) (at (kept.starts colour) caller.own) greater
  starts_on greater colour le =
      under_later (old caller.own colour) (new caller.own colour) (at (kept.starts colour) caller.own) kept.floor greater
      (line_later caller old new on caller.own colour)
      (reached_in_line caller.own (old caller.own colour) (kept.starts colour) on.home (k.starts_reached colour)) le
      (k.starts_under colour)

  pub reached_on : (colour : ℕ) → Reachable (chain caller.own (dated caller.own (new caller.own colour))) (kept.starts colour)
  reached_on colour =
      reached_later caller.own caller.regions (old caller.own colour) (new caller.own colour) (kept.starts colour)
      (on.more caller.own colour) (on.lawful caller.own colour) (k.starts_reached colour)

-- what a command leaves of what is kept, where it played nothing
pub keeps_on : (caller : Caller) (old new : Seen) (kept after : Kept) → SeesOn caller old new → IsKeptBy old caller kept
    → after.starts ≡ kept.starts → kept.floor ≤ after.floor
    → ((region colour : ℕ) → after.seen region colour ≤ length (new region colour))
    → ((colour : ℕ) → after.known colour ≤ length (line (new caller.own colour)))
    → ((colour : ℕ) → AreUnder (new caller.own colour) (after.known colour) after.floor)
    → ((region colour : ℕ) → places_of caller.client (new region colour) ≡ after.made region colour)
    → IsKeptBy new caller after
keeps_on caller old new kept after on k same floor seen known under made = record {
  seen_within = seen;
  known_within = known;
  known_under = under;
  starts_under = λ colour.
      subst (λ (f : ℕ → Counts). AreUnder (new caller.own colour) (at (f colour) caller.own) after.floor) (sym same)
      (starts_on caller old new kept on k after.floor colour floor);
  starts_reached = λ colour.
      subst (λ (f : ℕ → Counts). Reachable (chain caller.own (dated caller.own (new caller.own colour))) (f colour))
      (sym same) (reached_on caller old new kept on k colour);
  steps_made = made;
}

pub nothing_is_kept : NothingIsKept
nothing_is_kept caller = record {
  seen_within = λ region colour. omega arith;
  known_within = λ colour. omega arith;
  known_under = λ colour i key lt there. absurd (let f : ⊥ = omega (arith, lt) in f);
  starts_under = λ colour i key lt there. absurd (let f : ⊥ = cc in f);
  starts_reached = λ colour. nothing;
  steps_made = λ region colour. refl;
}

pub kept_stays : KeptStays
kept_stays caller old new kept on none k =
    keeps_on caller old new kept kept on k refl (omega arith) (seen_on caller old new kept on k)
    (known_on caller old new kept on k) (λ colour. under_on caller old new kept on k kept.floor colour (omega arith))
    (λ region colour. made_on caller old new kept on k region colour (none region colour))

pub starts_within : StartsWithin
starts_within caller seen kept colour k =
    (cut-is_greatest caller.own (dated caller.own (seen caller.own colour))).greatest (kept.starts colour)
    (k.starts_reached colour)

pub steps_at_end : StepsAtEnd
steps_at_end caller seen kept region colour closing k p none =
    places_stay caller.client (seen region colour) closing p none ∙ k.steps_made region colour
