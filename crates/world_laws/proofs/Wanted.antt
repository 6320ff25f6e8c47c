-- What clients have played and what nodes want is within the cuts, and so is each own line.
use Rattle.std.proofs.Common.{◌≡◌, ℕ, ◌+◌, ◌<◌, List, [], ◌∷◌, ◌++◌, take, map, Some, Bool, true, cond, refl, subst, ap, sym, ◌∙◌, inl, inr, ◌⊎◌, arith}
use Rattle.std.specs.Prelude.{◌==◌, slice_get, slice_index}
use Rattle.std.proofs.lemmas.Bool.{eqb-true, ltb-true}
use Rattle.std.proofs.lemmas.Grind.{fold-append}
use mathlib.Core.List.{IsPrefix}
use Rattle.log_node.specs.declared.ids.Counts.{Counts}
use Rattle.log_node.specs.declared.node.Node.{Node}
use Rattle.log_node.specs.declared.node.Shape.{Shape}
use Rattle.log_node.specs.Vectors.{IsWithin}
use Rattle.log_node.specs.Sets.{members}
use Rattle.log_node.specs.declared.marks.Mark.TheVariants as marks
use Rattle.log_node.specs.declared.marks.Outcome.TheVariants.{Open}
use Rattle.col_core.specs.declared.Entry.{Entry}
use Rattle.col_core.specs.Cuts.{Dated}
use Rattle.col_core.specs.Computed.{cut, dated}
use Rattle.col_core.specs.Legal.{IsColumnHistory}
use Rattle.col_core.specs.Keeping.{updated}
use Rattle.col_core.specs.Rows.{node_wants, wants_of}
use Rattle.col_core.proofs.CallerLemmas.{dated-append, choice, both, if_true, cut_grows, within, later, with_date}
use Rattle.col_core.proofs.CallerLemmas.{fold-later}
use Rattle.world_laws.specs.declared.steps.Step.{Step}
use Rattle.world_laws.specs.declared.steps.Step.TheVariants as steps
use Rattle.world_laws.specs.Worlds.{World, RowState, ClientState, home_of, home_history, cut_after, may_begin, may_mark, may_propose, may_fence, may_decide, may_settle, may_single, may_raise, may_give, may_carry, is_column, may_play, may_see, with_last, with_mark, begun_node, after_begin, after_propose, proposed_entry, after_decide, after_settle, settled_entry, after_single, single_entry, after_raise, after_give, after_carry, carried_entry, after_trim, after_play, after_seen, after, run_steps, opened}
use Rattle.world_laws.specs.Laws.{wants_in, StaysWithinCuts}
use Rattle.world_laws.proofs.Basics.{at_updated, at_updated_at}
use Rattle.world_laws.proofs.Held.{Held}
use Rattle.world_laws.proofs.Histories.{push_cases}
use Rattle.world_laws.proofs.Keeps.{at_last}
use Rattle.world_laws.proofs.Clients.{begun_client, used_before, single_client, same_used, raise_entry}
use Rattle.world_laws.proofs.OfColumns.{give_entry, trim_entry}
use Rattle.world_laws.proofs.OfRows.{may_mark_is, may_fence_marks}
use Rattle.log_node.proofs.CallerLemmas.{within-trans, within-zeros}
use Rattle.col_core.proofs.CallerLemmas.{own_line_within}
use Rattle.world_laws.proofs.Bases.{base_within_cut}
use Rattle.world_laws.proofs.Growing.{Grows, played_client, grows_begin, grows_mark, grows_propose, grows_decide, grows_last, grows_client, grows_single}
use Rattle.world_laws.proofs.Runs.{after_held, opened_held}

within-refl : (v : Counts) → IsWithin v v
within-refl v = within v v (λ r lt. omega arith)

-- Cuts grow

dates_longer : (own : ℕ) (history more : List Entry)
    → dated own (history ++ more) ≡ dated own history ++ later own (dated own history) more
dates_longer own history more = fold-append (with_date own) [] history more ∙ fold-later own (dated own history) more

cut_longer : (own regions : ℕ) (history longer : List Entry) → IsPrefix history longer
    → IsColumnHistory own regions (dated own longer) → IsWithin (cut_after own history) (cut_after own longer)
cut_longer own regions history longer p lawful =
    let e : dated own longer ≡ dated own history ++ later own (dated own history) p.0 = ap (dated own) (sym p.1)
    ∙ dates_longer own history p.0 in
    subst (λ (ds : List Dated). IsWithin (cut own (dated own history)) (cut own ds)) (sym e)
    (cut_grows own regions (dated own history) (later own (dated own history) p.0)
    (subst (IsColumnHistory own regions) e lawful))

pub record Wanted (w : World) : Type 0 where
  pub played : (a c : ℕ) → IsWithin ((w.clients a).played c) (cut_after (home_of w a) (home_history w a c))
  pub nodes : (a n c : ℕ) → n < (w.clients a).used
      → IsWithin (node_wants (w.rows a n).node c) (cut_after (home_of w a) (home_history w a c))
  pub events : (r c n : ℕ) (d : Dated) → slice_get (dated r (w.histories r c)) n ≡ Some d
      → IsWithin (wants_in d.entry.event) d.cut_before

-- A step

-- an event stood before, or its wants are within the cut before it
abbrev EventsFit : World → World → Type 0
EventsFit w w' = (r c n : ℕ) (d : Dated) → slice_get (dated r (w'.histories r c)) n ≡ Some d
    → (slice_get (dated r (w.histories r c)) n ≡ Some d) ⊎ IsWithin (wants_in d.entry.event) d.cut_before

-- what a client has played it had played, or it is within the cut
abbrev PlaysFit : World → World → Type 0
PlaysFit w w' =
    (a c : ℕ) → ((w'.clients a).played c ≡ (w.clients a).played c) ⊎ IsWithin ((w'.clients a).played c)
    (cut_after (home_of w a) (home_history w a c))

-- a row was begun, or what its node wants is within the cut
abbrev RowsFit : World → World → Type 0
RowsFit w w' =
    (a n : ℕ) → n < (w'.clients a).used → (n < (w.clients a).used)
    ⊎ ((c : ℕ) → IsWithin (node_wants (w'.rows a n).node c) (cut_after (home_of w a) (home_history w a c)))

wanted_next : (w w' : World) → Held w' → Wanted w → Grows w w' → EventsFit w w' → PlaysFit w w' → RowsFit w w'
    → Wanted w'
wanted_next w w' h' o g events plays news = record {
  played = λ a c. home a c ((w'.clients a).played c) (play a c (plays a c));
  nodes = λ a n c lt. home a c (node_wants (w'.rows a n).node c) (older a n c (news a n lt));
  events = λ r c n d e. event r c n d (events r c n d e);
} where
  home : (a c : ℕ) (v : Counts) → IsWithin v (cut_after (home_of w a) (home_history w a c))
      → IsWithin v (cut_after (home_of w' a) (home_history w' a c))
  home a c v x =
      subst (λ (s : Shape). IsWithin v (cut_after (slice_index s.homes a) (w'.histories (slice_index s.homes a) c)))
      (sym g.shape)
      (within-trans v (cut_after (home_of w a) (home_history w a c))
      (cut_after (home_of w a) (w'.histories (home_of w a) c)) x
      (cut_longer (home_of w a) w'.shape.regions (home_history w a c) (w'.histories (home_of w a) c)
      (g.histories (home_of w a) c) (h'.lawful (home_of w a) c)))

  play : (a c : ℕ)
      → ((w'.clients a).played c ≡ (w.clients a).played c) ⊎ IsWithin ((w'.clients a).played c)
      (cut_after (home_of w a) (home_history w a c)) → IsWithin ((w'.clients a).played c)
      (cut_after (home_of w a) (home_history w a c))
  play a c (inl e) =
      subst (λ (v : Counts). IsWithin v (cut_after (home_of w a) (home_history w a c))) (sym e) (o.played a c)
  play a c (inr x) = x

  older : (a n c : ℕ)
      → (n < (w.clients a).used) ⊎ ((d : ℕ)
      → IsWithin (node_wants (w'.rows a n).node d) (cut_after (home_of w a) (home_history w a d)))
      → IsWithin (node_wants (w'.rows a n).node c) (cut_after (home_of w a) (home_history w a c))
  older a n c (inl lt) =
      subst (λ (x : Node). IsWithin (node_wants x c) (cut_after (home_of w a) (home_history w a c)))
      (sym (g.rows a n lt).node) (o.nodes a n c lt)
  older a n c (inr x) = x c

  event : (r c n : ℕ) (d : Dated)
      → (slice_get (dated r (w.histories r c)) n ≡ Some d) ⊎ IsWithin (wants_in d.entry.event) d.cut_before
      → IsWithin (wants_in d.entry.event) d.cut_before
  event r c n d (inl e) = o.events r c n d e
  event r c n d (inr x) = x

one_more_date : (w : World) (region colour : ℕ) (e : Entry)
    → IsWithin (wants_in e.event) (cut_after region (w.histories region colour))
    → EventsFit w (with_last w region colour e)
one_more_date w region colour e fits r c n d =
    at_last (λ (x : List Entry). slice_get (dated r x) n ≡ Some d → (slice_get (dated r (w.histories r c)) n ≡ Some d)
    ⊎ IsWithin (wants_in d.entry.event) d.cut_before) w region colour e r c
    (λ er ec. subst
    (λ (k : ℕ). slice_get (dated k (w.histories region colour ++ e ∷ [])) n ≡ Some d
    → (slice_get (dated k (w.histories k c)) n ≡ Some d) ⊎ IsWithin (wants_in d.entry.event) d.cut_before) (sym er)
    (subst (λ (k : ℕ). slice_get (dated region (w.histories region colour ++ e ∷ [])) n ≡ Some d
    → (slice_get (dated region (w.histories region k)) n ≡ Some d) ⊎ IsWithin (wants_in d.entry.event) d.cut_before)
    (sym ec)
    (λ at. turn (push_cases (dated region (w.histories region colour)) new n d
    (subst (λ (ds : List Dated). slice_get ds n ≡ Some d)
    (dated-append region (w.histories region colour) e) at)))))
    (λ _ at. inl at) where
      new : Dated
      new = record { entry = e; cut_before = cut region (dated region (w.histories region colour)) }

      turn : ((slice_get (dated region (w.histories region colour)) n ≡ Some d)
          × (take n (dated region (w.histories region colour) ++ new ∷ []) ≡ take n
          (dated region (w.histories region colour))))
          ⊎ ((new ≡ d) × (take n (dated region (w.histories region colour) ++ new ∷ []) ≡ dated region
          (w.histories region colour)))
          → (slice_get (dated region (w.histories region colour)) n ≡ Some d) ⊎ IsWithin
          (wants_in d.entry.event) d.cut_before
      turn (inl p) = inl p.0
      turn (inr p) = inr (subst (λ (x : Dated). IsWithin (wants_in x.entry.event) x.cut_before) p.0 fits)

wants_of_map : (f : ℕ → Counts) (cs : List ℕ) (c : ℕ) (v : Counts) → IsWithin (f c) v
    → IsWithin (wants_of cs (map f cs) c) v
wants_of_map f [] c v h = within-zeros v
wants_of_map f (d ∷ cs) c v h =
    choice (λ (x : Counts). IsWithin x v) (d == c) (f d) (wants_of cs (map f cs) c)
    (λ t. subst (λ (k : ℕ). IsWithin (f k) v) (sym (eqb-true d c t)) h) (λ _. wants_of_map f cs c v h)

same_plays : (w : World) (client : ℕ) (cs : ClientState) → cs.played ≡ (w.clients client).played → (a c : ℕ)
    → ((updated w.clients client cs a).played c ≡ (w.clients a).played c) ⊎ IsWithin
    ((updated w.clients client cs a).played c) (cut_after (home_of w a) (home_history w a c))
same_plays w client cs e a c =
    inl (at_updated (λ (s : ClientState). s.played c ≡ (w.clients a).played c) w.clients client cs a
    (λ is. ap (λ (p : ℕ → Counts). p c) e ∙ sym (ap (λ (x : ℕ). (w.clients x).played c) is)) (λ _. refl))

-- one entry more, whose wants are within the cut
wants_last : (w : World) → Wanted w → (region colour : ℕ) (e : Entry) → Held (with_last w region colour e)
    → IsWithin (wants_in e.event) (cut_after region (w.histories region colour)) → Wanted (with_last w region colour e)
wants_last w o region colour e h' fits =
    wanted_next w (with_last w region colour e) h' o (grows_last w region colour e)
    (one_more_date w region colour e fits) (λ a c. inl refl) (λ a n lt. inl lt)

-- a step's world, where its guard holds
at_guard : (P : World → Type 0) (b : Bool) (x w : World) → b ≡ true → P (cond b x w) → P x
at_guard P b x w e p = subst P (if_true b x w e) p

pub after_wanted : (w : World) → Held w → Wanted w → (s : Step) → Wanted (after w s)
after_wanted w h o (steps.Begin client colours text) =
    choice Wanted (may_begin w client colours) (after_begin w client colours text) w
    (λ ok. wanted_next w (after_begin w client colours text)
    (at_guard Held _ _ w ok (after_held w h (steps.Begin client colours text))) o
    (grows_begin w client colours text) (λ r c n d e. inl e)
    (same_plays w client (begun_client w client) refl)
    (λ a n lt. at_updated_at
    (λ (x : RowState). (n < (w.clients a).used)
    ⊎ ((c : ℕ) → IsWithin (node_wants x.node c) (cut_after (home_of w a) (home_history w a c)))) w.rows client
    (w.clients client).used
    (record { node = begun_node w client colours text; marks = λ _. marks.None; last = Open }) a n
    (λ ea en. inr
    (λ c. subst (λ (k : ℕ). IsWithin (node_wants (begun_node w client colours text) c)
    (cut_after (home_of w k) (home_history w k c))) (sym ea)
    (wants_of_map (w.clients client).played (members colours) c
    (cut_after (home_of w client) (home_history w client c)) (o.played client c))))
    (λ other. inl (used_before w client a n lt other)))) (λ _. o)
after_wanted w h o (steps.Propose by row colour) =
    choice Wanted (may_propose w row colour) (after_propose w by row colour) w
    (λ ok. let g = may_mark_is w row colour (both (may_mark w row colour) _ ok).0 in
    wanted_next w (after_propose w by row colour)
    (at_guard Held _ _ w ok (after_held w h (steps.Propose by row colour))) o (grows_propose w by row colour ok)
    (one_more_date w (home_of w row.client) colour (proposed_entry w by row colour)
    (o.nodes row.client row.number colour g.begun)) (λ a c. inl refl) (λ a n lt. inl lt)) (λ _. o)
after_wanted w h o (steps.Fence row colour why) =
    choice Wanted (may_fence w row colour why) (with_mark w row colour (marks.Fenced why)) w
    (λ ok. wanted_next w (with_mark w row colour (marks.Fenced why))
    (at_guard Held _ _ w ok (after_held w h (steps.Fence row colour why))) o
    (grows_mark w row colour (marks.Fenced why) (may_fence_marks w row colour why ok)) (λ r c n d e. inl e)
    (λ a c. inl refl) (λ a n lt. inl lt)) (λ _. o)
after_wanted w h o (steps.Decide row) = choice Wanted (may_decide w row) (after_decide w row) w
    (λ ok. wanted_next w (after_decide w row) (at_guard Held _ _ w ok (after_held w h (steps.Decide row))) o
    (grows_decide w row ok) (λ r c n d e. inl e) (λ a c. inl refl) (λ a n lt. inl lt)) (λ _. o)
after_wanted w h o (steps.Settle by row colour) =
    choice Wanted (may_settle w row colour) (after_settle w by row colour) w
    (λ ok. wants_last w o (home_of w row.client) colour (settled_entry w by row)
    (at_guard Held _ _ w ok (after_held w h (steps.Settle by row colour)))
    (within-zeros (cut_after (home_of w row.client) (home_history w row.client colour)))) (λ _. o)
after_wanted w h o (steps.Single client colour text) =
    choice Wanted (may_single w client colour) (after_single w client colour text) w
    (λ ok. wanted_next w (after_single w client colour text)
    (at_guard Held _ _ w ok (after_held w h (steps.Single client colour text))) o
    (grows_single w client colour text)
    (one_more_date w (home_of w client) colour (single_entry w client colour) (o.played client colour))
    (same_plays w client (single_client w client colour) refl)
    (λ a n lt. inl (same_used w client (single_client w client colour) refl a n lt))) (λ _. o)
after_wanted w h o (steps.Raise by region colour to) =
    choice Wanted (may_raise w region colour to) (after_raise w by region colour to) w
    (λ ok. wants_last w o region colour (raise_entry by to)
    (at_guard Held _ _ w ok (after_held w h (steps.Raise by region colour to)))
    (within-zeros (cut_after region (w.histories region colour)))) (λ _. o)
after_wanted w h o (steps.Give by origin region colour from) =
    choice Wanted (may_give w origin region colour from) (after_give w by origin region colour from) w
    (λ ok. wants_last w o origin colour (give_entry by region from)
    (at_guard Held _ _ w ok (after_held w h (steps.Give by origin region colour from)))
    (within-zeros (cut_after origin (w.histories origin colour)))) (λ _. o)
after_wanted w h o (steps.Carry by origin region colour start count) =
    choice Wanted (may_carry w origin region colour start count) (after_carry w by origin region colour start count) w
    (λ ok. wants_last w o region colour (carried_entry w by origin region colour (start + count))
    (at_guard Held _ _ w ok (after_held w h (steps.Carry by origin region colour start count)))
    (within-zeros (cut_after region (w.histories region colour)))) (λ _. o)
after_wanted w h o (steps.Trim by region colour counts) =
    choice Wanted (is_column w region colour) (after_trim w by region colour counts) w
    (λ ok. wants_last w o region colour (trim_entry by counts)
    (at_guard Held _ _ w ok (after_held w h (steps.Trim by region colour counts)))
    (within-zeros (cut_after region (w.histories region colour)))) (λ _. o)
after_wanted w h o (steps.Play client colour) = choice Wanted (may_play w client colour) (after_play w client colour) w
    (λ ok. let cs = played_client w client colour in
    wanted_next w (after_play w client colour) (at_guard Held _ _ w ok (after_held w h (steps.Play client colour))) o
    (grows_client w client cs (omega arith)) (λ r c n d e. inl e)
    (λ a c. at_updated
    (λ (s : ClientState). (s.played c ≡ (w.clients a).played c) ⊎ IsWithin (s.played c)
    (cut_after (home_of w a) (home_history w a c))) w.clients client cs a
    (λ is. inr (subst (λ (k : ℕ). IsWithin (cs.played c) (cut_after (home_of w k) (home_history w k c))) (sym is)
    (at_updated (λ (v : Counts). IsWithin v (cut_after (home_of w client) (home_history w client c)))
    (w.clients client).played colour (cut_after (home_of w client) (home_history w client colour)) c
    (λ ec. subst (λ (k : ℕ). IsWithin (cut_after (home_of w client) (home_history w client colour))
    (cut_after (home_of w client) (home_history w client k))) (sym ec)
    (within-refl (cut_after (home_of w client) (home_history w client colour)))) (λ _. o.played client c))))
    (λ _. inl refl))
    (λ a n lt. inl (same_used w client cs refl a n lt))) (λ _. o)
after_wanted w h o (steps.Seen client to) = choice Wanted (may_see w client to) (after_seen w client to) w
    (λ ok. let cs : ClientState = record (w.clients client) { floor = to } in
    wanted_next w (after_seen w client to) (at_guard Held _ _ w ok (after_held w h (steps.Seen client to))) o
    (grows_client w client cs (omega arith)) (λ r c n d e. inl e)
    (same_plays w client cs refl) (λ a n lt. inl (same_used w client cs refl a n lt))) (λ _. o)

opened_wanted : (shape : Shape) → Wanted (opened shape)
opened_wanted shape =
    record {
      played = λ a c. within-zeros (cut_after (home_of (opened shape) a) []);
      nodes = λ a n c lt. absurd
          (let x : ⊥ = omega (arith, lt) in x);
      events = λ r c n d e. absurd (let x : ⊥ = cc in x);
    }

run_wanted : (w : World) → Held w → Wanted w → (steps : List Step) → Wanted (run_steps w steps)
run_wanted w h o [] = o
run_wanted w h o (s ∷ steps) = run_wanted (after w s) (after_held w h s) (after_wanted w h o s) steps

pub wanted : (shape : Shape) (steps : List Step) → Wanted (run_steps (opened shape) steps)
wanted shape steps = run_wanted (opened shape) (opened_held shape) (opened_wanted shape) steps

pub stays_within_cuts : (w : World) → Held w → Wanted w → StaysWithinCuts w
stays_within_cuts w h o = record {
  entered = o.events;
  played = o.played;
  begun = λ row colour b. o.nodes row.client row.number colour (ltb-true row.number (w.clients row.client).used b);
  trimmed = λ region colour. base_within_cut region w.shape.regions (w.histories region colour)
      (h.lawful region colour);
  own_line = λ region colour lt. own_line_within region w.shape.regions (w.histories region colour) lt
      (h.lawful region colour);
}
