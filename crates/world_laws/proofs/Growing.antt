-- Steps only add: histories and nodes begin as before, and begun rows keep what they have.
use Rattle.std.proofs.Common.{◌≡◌, ℕ, ◌+◌, ◌<◌, ◌≤◌, max, List, [], ◌∷◌, ◌++◌, take, drop, true, refl, subst, ap, sym, ◌∙◌, arith, append_assoc, append-nil}
use Rattle.std.specs.Prelude.{not, reverse}
use Rattle.std.proofs.lemmas.List.{reverse-append, take-append-drop}
use mathlib.Core.List.{IsPrefix}
use Rattle.log_node.specs.declared.ids.Row.{Row}
use Rattle.log_node.specs.declared.ids.Colours.{Colours}
use Rattle.log_node.specs.declared.node.Node.{Node}
use Rattle.log_node.specs.declared.marks.Mark.{Mark}
use Rattle.log_node.specs.declared.marks.Mark.TheVariants as marks
use Rattle.log_node.specs.declared.marks.Outcome.TheVariants.{Open}
use Rattle.log_node.specs.Standings.{line_of}
use Rattle.skeen_core.specs.Queues.{is_decided}
use Rattle.col_core.specs.declared.Entry.{Entry}
use Rattle.col_core.specs.History.{line}
use Rattle.col_core.specs.Keeping.{updated, updated_at}
use Rattle.col_core.proofs.CallerLemmas.{choice, both, not_true, line_later, entries-of, IsLawfulPast}
use Rattle.col_core.proofs.CallerLemmas as pasts
use Rattle.world_laws.specs.declared.steps.Step.{Step}
use Rattle.world_laws.specs.declared.steps.Step.TheVariants as steps
use Rattle.world_laws.specs.Worlds.{World, RowState, ClientState, is_begun, row_of, home_of, may_begin, may_mark, may_propose, may_fence, may_decide, may_settle, may_single, may_raise, may_give, may_carry, is_column, may_play, may_see, with_client, with_last, with_node, with_mark, begun_node, after_begin, after_propose, proposed_entry, proposed_stamp, after_decide, settled_entry, carried_entry, after_single, single_entry, single_node, played_cut, played_stamp, after, run_steps}
use Rattle.world_laws.specs.Laws.{RowGrows, EachLineGrows, RowsStay}
use Rattle.world_laws.proofs.Basics.{at_updated, at_updated_at, updated_at-not}
use Rattle.world_laws.proofs.Held.{Held}
use Rattle.world_laws.proofs.Marks.{open_is}
use Rattle.world_laws.proofs.Histories.{lawful_past_in}
use Rattle.world_laws.proofs.Keeps.{at_last}
use Rattle.world_laws.proofs.Clients.{begun_client, single_client, raise_entry, still_used}
use Rattle.world_laws.proofs.OfColumns.{give_entry, trim_entry}
use Rattle.world_laws.proofs.OfRows.{may_mark_is, may_fence_marks}
use Rattle.std.proofs.lemmas.Bool.{ltb-true, lt-ltb}

pub prefix-refl : {A : Type 0} (xs : List A) → IsPrefix xs xs
prefix-refl xs = ([], append-nil xs)

pub prefix-trans : {A : Type 0} (xs ys zs : List A) → IsPrefix xs ys → IsPrefix ys zs → IsPrefix xs zs
prefix-trans xs ys zs p q = (p.0 ++ q.0, sym (append_assoc xs p.0 q.0) ∙ (ap (λ l. l ++ q.0) p.1 ∙ q.1))

pub record Grows (w w' : World) : Type 0 where
  pub shape : w'.shape ≡ w.shape
  pub used : (a n : ℕ) → n < (w.clients a).used → n < (w'.clients a).used
  pub rows : (a n : ℕ) → n < (w.clients a).used → RowGrows (w.rows a n) (w'.rows a n)
  pub histories : (r c : ℕ) → IsPrefix (w.histories r c) (w'.histories r c)
  pub nodes : (a : ℕ) → IsPrefix (w.nodes a) (w'.nodes a)

pub row_stays : (r : RowState) → RowGrows r r
row_stays r = record { node = refl; marks = λ c ne. refl; last = λ ne. refl }

pub grows-refl : (w : World) → Grows w w
grows-refl w =
    record {
      shape = refl;
      used = λ a n lt. lt;
      rows = λ a n lt. row_stays (w.rows a n);
      histories = λ r c. prefix-refl
          (w.histories r c);
      nodes = λ a. prefix-refl (w.nodes a);
    }

row-trans : (q r s : RowState) → RowGrows q r → RowGrows r s → RowGrows q s
row-trans q r s a b = record {
  node = b.node ∙ a.node;
  marks = λ c ne. b.marks c (λ e. ne (sym (a.marks c ne) ∙ e)) ∙ a.marks c ne;
  last = λ ne. b.last (λ e. ne (sym (a.last ne) ∙ e)) ∙ a.last ne;
}

pub grows-trans : (u v w : World) → Grows u v → Grows v w → Grows u w
grows-trans u v w a b = record {
  shape = b.shape ∙ a.shape;
  used = λ k n lt. b.used k n (a.used k n lt);
  rows = λ k n lt. row-trans (u.rows k n) (v.rows k n) (w.rows k n) (a.rows k n lt) (b.rows k n (a.used k n lt));
  histories = λ r c. prefix-trans (u.histories r c) (v.histories r c) (w.histories r c) (a.histories r c)
      (b.histories r c);
  nodes = λ k. prefix-trans (u.nodes k) (v.nodes k) (w.nodes k) (a.nodes k) (b.nodes k);
}

-- one entry more, one node more, one row changed
pub last_longer : (w : World) (region colour : ℕ) (e : Entry) (r c : ℕ)
    → IsPrefix (w.histories r c) ((with_last w region colour e).histories r c)
last_longer w region colour e r c =
    at_last (λ (x : List Entry). IsPrefix (w.histories r c) x) w region colour e r c
    (λ er ec. (
      e ∷ [],
      ap (λ (k : ℕ). w.histories k c ++ e ∷ []) er ∙ ap
          (λ (k : ℕ). w.histories region k ++ e ∷ []) ec,
    ))
    (λ _. prefix-refl (w.histories r c))

node_longer : (w : World) (client : ℕ) (node : Node) (a : ℕ) → IsPrefix (w.nodes a) ((with_node w client node).nodes a)
node_longer w client node a =
    at_updated (λ (x : List Node). IsPrefix (w.nodes a) x) w.nodes client (w.nodes client ++ node ∷ []) a
    (λ is. (node ∷ [], ap (λ (k : ℕ). w.nodes k ++ node ∷ []) is))
    (λ _. prefix-refl (w.nodes a))

row_put : (w : World) (row : Row) (new : RowState) → RowGrows (row_of w row) new → (a n : ℕ)
    → RowGrows (w.rows a n) (updated_at w.rows row.client row.number new a n)
row_put w row new g a n = at_updated_at (λ (x : RowState). RowGrows (w.rows a n) x) w.rows row.client row.number new a n
    (λ ea en. subst (λ (x : ℕ). RowGrows (w.rows x n) new) (sym ea)
    (subst (λ (x : ℕ). RowGrows (w.rows row.client x) new) (sym en) g)) (λ _. row_stays (w.rows a n))

mark_grows : (r : RowState) (colour : ℕ) (m : Mark) → r.marks colour ≡ marks.None
    → RowGrows r (record r { marks = updated r.marks colour m })
mark_grows r colour m none = record {
  node = refl;
  marks = λ c ne. at_updated (λ (x : Mark). x ≡ r.marks c) r.marks colour m c (λ e. absurd (ne (ap r.marks e ∙ none)))
      (λ _. refl);
  last = λ ne. refl;
}

-- The steps

pub grows_begin : (w : World) (client : ℕ) (colours : Colours) (text : List ℕ)
    → Grows w (after_begin w client colours text)
grows_begin w client colours text = record {
  shape = refl;
  used = still_used w client (begun_client w client) (omega arith);
  rows = λ a n lt. subst (λ (x : RowState). RowGrows (w.rows a n) x)
      (sym (updated_at-not w.rows client (w.clients client).used
      (record { node = begun_node w client colours text; marks = λ _. marks.None; last = Open }) a n
      (λ e f. let u : (w.clients a).used ≡ (w.clients client).used = ap
      (λ (x : ℕ). (w.clients x).used) e in let z : ⊥ = omega (arith, lt, u, f) in z))) (row_stays (w.rows a n));
  histories = λ r c. prefix-refl (w.histories r c);
  nodes = node_longer w client (begun_node w client colours text);
}

pub grows_mark : (w : World) (row : Row) (colour : ℕ) (m : Mark) → may_mark w row colour ≡ true
    → Grows w (with_mark w row colour m)
grows_mark w row colour m ok = record {
  shape = refl;
  used = λ a n lt. lt;
  rows = λ a n lt. row_put w row _ (mark_grows (row_of w row) colour m (may_mark_is w row colour ok).missing) a n;
  histories = λ r c. prefix-refl (w.histories r c);
  nodes = λ a. prefix-refl (w.nodes a);
}

pub grows_propose : (w : World) (by : ℕ) (row : Row) (colour : ℕ) → may_propose w row colour ≡ true
    → Grows w (after_propose w by row colour)
grows_propose w by row colour ok = record {
  shape = refl;
  used = λ a n lt. lt;
  rows = (grows_mark w row colour (marks.Number (proposed_stamp w row colour))
      (both (may_mark w row colour) _ ok).0).rows;
  histories = last_longer w (home_of w row.client) colour (proposed_entry w by row colour);
  nodes = λ a. prefix-refl (w.nodes a);
}

pub grows_decide : (w : World) (row : Row) → may_decide w row ≡ true → Grows w (after_decide w row)
grows_decide w row ok =
    let o = open_is (row_of w row).last
    (not_true _ (both (not (is_decided (row_of w row).last)) _ (both (is_begun w row) _ ok).1).0) in
    record {
      shape = refl;
      used = λ a n lt. lt;
      rows = λ a n lt. row_put w row _ (record { node = refl; marks = λ c ne. refl; last = λ ne. absurd (ne o) }) a n;
      histories = λ r c. prefix-refl (w.histories r c);
      nodes = λ a. prefix-refl (w.nodes a);
    }

pub grows_last : (w : World) (region colour : ℕ) (e : Entry) → Grows w (with_last w region colour e)
grows_last w region colour e = record {
  shape = refl;
  used = λ a n lt. lt;
  rows = λ a n lt. row_stays (w.rows a n);
  histories = last_longer w region colour e;
  nodes = λ a. prefix-refl (w.nodes a);
}

pub grows_client : (w : World) (client : ℕ) (cs : ClientState) → (w.clients client).used ≤ cs.used
    → Grows w (with_client w client cs)
grows_client w client cs le = record {
  shape = refl;
  used = still_used w client cs le;
  rows = λ a n lt. row_stays (w.rows a n);
  histories = λ r c. prefix-refl (w.histories r c);
  nodes = λ a. prefix-refl (w.nodes a);
}

pub grows_single : (w : World) (client colour : ℕ) (text : List ℕ) → Grows w (after_single w client colour text)
grows_single w client colour text = record {
  shape = refl;
  used = still_used w client (single_client w client colour) (omega arith);
  rows = λ a n lt. row_stays (w.rows a n);
  histories = last_longer w (home_of w client) colour (single_entry w client colour);
  nodes = node_longer w client (single_node w client colour text);
}

abbrev pub played_client : World → ℕ → ℕ → ClientState
played_client w client colour = record (w.clients client) {
  floor = max (w.clients client).floor (played_stamp w client colour);
  played = updated (w.clients client).played colour (played_cut w client colour);
}

pub after_grows : (w : World) (s : Step) → Grows w (after w s)
after_grows w (steps.Begin client colours text) =
    choice (Grows w) (may_begin w client colours) _ w (λ _. grows_begin w client colours text) (λ _. grows-refl w)
after_grows w (steps.Propose by row colour) =
    choice (Grows w) (may_propose w row colour) _ w (λ ok. grows_propose w by row colour ok) (λ _. grows-refl w)
after_grows w (steps.Fence row colour why) =
    choice (Grows w) (may_fence w row colour why) _ w
    (λ ok. grows_mark w row colour (marks.Fenced why) (may_fence_marks w row colour why ok)) (λ _. grows-refl w)
after_grows w (steps.Decide row) =
    choice (Grows w) (may_decide w row) _ w (λ ok. grows_decide w row ok) (λ _. grows-refl w)
after_grows w (steps.Settle by row colour) =
    choice (Grows w) (may_settle w row colour) _ w
    (λ _. grows_last w (home_of w row.client) colour (settled_entry w by row)) (λ _. grows-refl w)
after_grows w (steps.Single client colour text) =
    choice (Grows w) (may_single w client colour) _ w (λ _. grows_single w client colour text) (λ _. grows-refl w)
after_grows w (steps.Raise by region colour to) =
    choice (Grows w) (may_raise w region colour to) _ w (λ _. grows_last w region colour (raise_entry by to))
    (λ _. grows-refl w)
after_grows w (steps.Give by origin region colour from) =
    choice (Grows w) (may_give w origin region colour from) _ w
    (λ _. grows_last w origin colour (give_entry by region from)) (λ _. grows-refl w)
after_grows w (steps.Carry by origin region colour start count) =
    choice (Grows w) (may_carry w origin region colour start count) _ w
    (λ _. grows_last w region colour (carried_entry w by origin region colour (start + count))) (λ _. grows-refl w)
after_grows w (steps.Trim by region colour counts) =
    choice (Grows w) (is_column w region colour) _ w (λ _. grows_last w region colour (trim_entry by counts))
    (λ _. grows-refl w)
after_grows w (steps.Play client colour) =
    choice (Grows w) (may_play w client colour) _ w
    (λ _. grows_client w client (played_client w client colour) (omega arith)) (λ _. grows-refl w)
after_grows w (steps.Seen client to) =
    choice (Grows w) (may_see w client to) _ w
    (λ _. grows_client w client (record (w.clients client) { floor = to }) (omega arith)) (λ _. grows-refl w)

pub run_grows : (w : World) (more : List Step) → Grows w (run_steps w more)
run_grows w [] = grows-refl w
run_grows w (s ∷ more) =
    grows-trans w (after w s) (run_steps (after w s) more) (after_grows w s) (run_grows (after w s) more)

-- The laws

line_first : (history : List Entry) (n : ℕ) → IsLawfulPast (reverse history)
    → IsPrefix (line (take n history)) (line history)
line_first history n l =
    let split : reverse history ≡ reverse (drop n history) ++ reverse (take n history) = ap reverse
    (sym (take-append-drop n history)) ∙ reverse-append (take n history) (drop n history) in
    let x = line_later (reverse (drop n history)) (reverse (take n history)) (subst IsLawfulPast split l) in (
      x.0,
      ap (λ es. line_of es ++ x.0) (entries-of (take n history))
          ∙ (sym x.1 ∙ (ap (λ (p : List Entry). line_of (pasts.entries p)) (sym split) ∙ ap line_of
          (sym (entries-of history)))),
    )

pub each_line_grows : (w : World) → Held w → EachLineGrows w
each_line_grows w h r c n = line_first (w.histories r c) n (lawful_past_in w h r c)

pub rows_stay : (w : World) → RowsStay w
rows_stay w more row b = let g = run_grows w more in (
  lt-ltb row.number _ (g.used row.client row.number (ltb-true row.number _ b)),
  g.rows row.client row.number (ltb-true row.number _ b),
)
