-- What was seen of a log stays true of a later log.
use Rattle.std.proofs.Common.{◌≡◌, ℕ, zero, suc, ◌<◌, ◌≤◌, List, [], ◌∷◌, ◌++◌, length, take, Some, subst, ap, sym, ◌∙◌, arith}
use Rattle.std.specs.Prelude.{◌≢◌, slice_get, slice_index_or}
use Rattle.std.specs.List.{AllZip, Contains}
use mathlib.Core.List.{IsPrefix}
use Rattle.std.proofs.lemmas.List.{take-append-le}
use Rattle.std.proofs.lemmas.Grind.{fold-append}
use Rattle.log_node.specs.declared.ids.Id.{Id}
use Rattle.log_node.specs.declared.ids.Key.{Key}
use Rattle.log_node.specs.declared.node.Node.{Node}
use Rattle.col_core.specs.declared.Entry.{Entry}
use Rattle.col_core.specs.History.{line}
use Rattle.col_core.specs.Computed.{dated}
use Rattle.log_node.specs.declared.marks.Mark.{Mark}
use Rattle.log_node.specs.declared.marks.Mark.TheVariants as marks
use Rattle.log_node.specs.declared.marks.ColourMark.{ColourMark}
use Rattle.log_node.specs.declared.marks.Outcome.{Outcome}
use Rattle.log_node.specs.declared.marks.Outcome.TheVariants.{Open}
use Rattle.col_core.specs.Rows.{BegunRow}
use Rattle.col_core.specs.Log.{Log, IsLater, IsLaterMark, IsLaterRow, first, HasText, HasMark, HasOutcome}
use Rattle.col_core.specs.Legal.{IsColumnHistory}
use Rattle.col_core.specs.Cuts.{entries_of}
use Rattle.col_core.proofs.ChainGrowth.{slice_longer, line_grows}
use Rattle.col_core.proofs.DatedLaws.{later, with_date, fold-later, dated-is_dated}

stays_at : {A : Type 0} (xs ys : List A) → IsPrefix xs ys → (n : ℕ) (x : A) → slice_get xs n ≡ Some x → slice_get ys n ≡ Some x
stays_at xs ys p n x h = subst (λ l. slice_get l n ≡ Some x) p.1 (slice_longer xs p.0 n x h)

pub event_stays : (old new : Log) → IsLater old new → (region colour place : ℕ) (e : Entry) → slice_get (old.histories region colour) place ≡ Some e → slice_get (new.histories region colour) place ≡ Some e
event_stays old new l region colour place e h = stays_at (old.histories region colour) (new.histories region colour) (l.histories region colour) place e h

pub position_stays : (old new : Log) → IsLater old new → (region colour position : ℕ) (key : Key) → slice_get (line (old.histories region colour)) position ≡ Some key → slice_get (line (new.histories region colour)) position ≡ Some key
position_stays old new l region colour position key h = stays_at (line (old.histories region colour)) (line (new.histories region colour)) (l.lines region colour) position key h

pub look_stays : (old new : Log) → IsLater old new → (region colour events : ℕ) → events ≤ length (old.histories region colour) → first new region colour events ≡ first old region colour events
look_stays old new l region colour events le =
    let p = l.histories region colour in
    ap (dated region) (ap (take events) (sym p.1) ∙ take-append-le events (old.histories region colour) p.0 le)

pub text_stays : (old new : Log) → IsLater old new → (id : Id) (text : List ℕ) → HasText old id text → HasText new id text
text_stays old new l id text h = (h.0, stays_at (old.nodes id.client) (new.nodes id.client) (l.nodes id.client) id.count h.0 h.1, h.2, h.3)

-- a mark that is set stands among the later marks
marks_stay : (olds news : List ColourMark) → AllZip IsLaterMark olds news → (m : ColourMark) → m.mark ≢ marks.None → (k : ℕ) → k < length olds → slice_index_or olds k m ≡ m → Contains news m
marks_stay [] news z m set k lt e = absurd (omega (arith, lt))
marks_stay (o ∷ olds) [] z m set k lt e = absurd z
marks_stay (o ∷ olds) (n ∷ news) z m set zero lt e =
    let same : n ≡ o = ap (λ c. record { colour = c; mark = n.mark }) z.0.0 ∙ ap (λ k. record { colour = o.colour; mark = k }) (z.0.1 (subst (λ (c : ColourMark). c.mark ≢ marks.None) (sym e) set)) in
    (zero, omega arith, same ∙ e)
marks_stay (o ∷ olds) (n ∷ news) z m set (suc k) lt e =
    let r = marks_stay olds news z.1 m set k (omega (arith, lt)) e in
    (suc r.0, let l = r.1 in omega (arith, l), r.2)

pub mark_stays : (old new : Log) → IsLater old new → (node : Node) (colour : ℕ) (mark : Mark) → mark ≢ marks.None → HasMark old node colour mark → HasMark new node colour mark
mark_stays old new l node colour mark set h =
    let row = l.rows node.region h.0 h.1.begun in
    let there = h.2 in
    (row.0, record { begun = row.1; of_node = row.2.node ∙ h.1.of_node }, marks_stay h.0.marks row.0.marks row.2.marks (record { colour = colour; mark = mark }) set there.0 there.1 there.2)

pub outcome_stays : (old new : Log) → IsLater old new → (node : Node) (outcome : Outcome) → outcome ≢ Open → HasOutcome old node outcome → HasOutcome new node outcome
outcome_stays old new l node outcome kept h =
    let row = l.rows node.region h.0 h.1.begun in
    (row.0, record { begun = row.1; of_node = row.2.node ∙ h.1.of_node }, row.2.last (subst (λ (o : Outcome). o ≢ Open) (sym h.2) kept) ∙ h.2)

-- the dates of a longer history begin as before
pub dates_longer : (own : ℕ) (history more : List Entry) → dated own (history ++ more) ≡ dated own history ++ later own (dated own history) more
dates_longer own history more = fold-append (with_date own) [] history more ∙ fold-later own (dated own history) more

pub entries_dated : (own : ℕ) (history : List Entry) → entries_of (dated own history) ≡ history
entries_dated own history = (dated-is_dated own history).same

line_longer : (own regions : ℕ) (history more : List Entry) → IsColumnHistory own regions (dated own (history ++ more)) → IsPrefix (line history) (line (history ++ more))
line_longer own regions history more lawful =
    let g = line_grows own regions (dated own history) (later own (dated own history) more) (subst (IsColumnHistory own regions) (dates_longer own history more) lawful) in
    let whole : entries_of (dated own history ++ later own (dated own history) more) ≡ history ++ more = ap entries_of (sym (dates_longer own history more)) ∙ entries_dated own (history ++ more) in
    (g.0, ap (λ (h : List Entry). line h ++ g.0) (sym (entries_dated own history)) ∙ (g.1 ∙ ap line whole))

pub later_by_growth : (regions : ℕ) (old new : Log)
    → ((region colour : ℕ) → IsPrefix (old.histories region colour) (new.histories region colour)) → ((client : ℕ) → IsPrefix (old.nodes client) (new.nodes client))
    → ((region : ℕ) (r : BegunRow) → Contains (old.rows region) r → (s : BegunRow) × Contains (new.rows region) s × IsLaterRow r s)
    → ((region colour : ℕ) → IsColumnHistory region regions (dated region (new.histories region colour))) → IsLater old new
later_by_growth regions old new histories nodes rows lawful = record {
  histories = histories;
  lines = λ region colour.
      let p = histories region colour in
      subst (λ (h : List Entry). IsPrefix (line (old.histories region colour)) (line h)) p.1
      (line_longer region regions (old.histories region colour) p.0 (subst (λ (h : List Entry). IsColumnHistory region regions (dated region h)) (sym p.1) (lawful region colour)));
  nodes = nodes;
  rows = rows;
}
