-- Each step keeps that rows and histories tell the same.
use Rattle.std.proofs.Common.{◌≡◌, ℕ, ◌+◌, ◌<◌, ◌≤◌, max, List, [], ◌∷◌, ◌++◌, length, Some, true, refl, subst, ap, sym, ◌∙◌, inl, inr, ◌⊎◌, arith}
use Rattle.std.specs.Prelude.{◌==◌, nat_lt}
use Rattle.std.proofs.lemmas.Bool.{eq-eqb, eqb-true, ltb-true}
use Rattle.log_node.specs.declared.ids.Row.{Row}
use Rattle.log_node.specs.declared.ids.Colours.{Colours}
use Rattle.log_node.specs.declared.node.Shape.{Shape}
use Rattle.log_node.specs.Sets.{members}
use Rattle.log_node.specs.declared.marks.Why.{Why}
use Rattle.log_node.specs.declared.marks.Why.TheVariants.{StampEnd}
use Rattle.log_node.specs.declared.marks.Mark.{Mark}
use Rattle.log_node.specs.declared.marks.Mark.TheVariants as marks
use Rattle.log_node.specs.declared.marks.Outcome.TheVariants.{Open}
use Rattle.col_core.specs.declared.Entry.{Entry}
use Rattle.col_core.specs.History.{clock, last_stamp, IsAtEnd}
use Rattle.col_core.specs.Keeping.{updated, updated_at}
use Rattle.col_core.specs.Rows.{node_wants, Proposes}
use Rattle.col_core.proofs.CallerLemmas.{choice, both, In}
use Rattle.world_laws.specs.declared.steps.Step.{Step}
use Rattle.world_laws.specs.declared.steps.Step.TheVariants as steps
use Rattle.world_laws.specs.Worlds.{World, RowState, ClientState, home_of, row_history, is_client, is_begun, row_of, is_row_at_end, may_begin, may_mark, may_propose, may_fence, may_decide, may_settle, may_single, may_raise, may_give, may_carry, is_column, may_play, may_see, with_client, with_last, with_mark, begun_node, after_begin, after_propose, proposed_entry, proposed_stamp, after_decide, after_settle, settled_entry, carried_entry, after_single, single_entry, after, run_steps, opened}
use Rattle.world_laws.proofs.Basics.{slice_last, at_updated, at_updated_at, updated_at-here, in_last}
use Rattle.world_laws.proofs.Held.{Held}
use Rattle.world_laws.proofs.Keeps.{at_last}
use Rattle.world_laws.proofs.Clients.{begun_client, used_before, single_client, same_used, raise_entry, above_floor, keeps_begin, keeps_single, keeps_play, keeps_seen}
use Rattle.world_laws.proofs.OfColumns.{give_entry, trim_entry, keeps_raise, keeps_give, keeps_carry, keeps_trim}
use Rattle.world_laws.proofs.OfRows.{may_mark_is, may_fence_marks, may_settle_is, keeps_propose, keeps_fence, keeps_decide, keeps_settle}
use Rattle.world_laws.proofs.Growing.{Grows, played_client, grows_begin, grows_mark, grows_propose, grows_decide, grows_last, grows_client, grows_single}
use Rattle.world_laws.proofs.Runs.{after_held, opened_held}
use Rattle.world_laws.proofs.Told.{FitsEvent, RowTold, Told, fits_grow, row_told_grow}

-- A step

-- what the client's new state has to keep
record ClientTold (shape : Shape) (s : ClientState) : Type 0 where
  counts : s.count ≤ s.floor + s.used
  used : s.used ≤ shape.rows

told_next : (w w' : World) → Held w' → Told w → Grows w w'
    → ((r c : ℕ) (e : Entry) → In e (w'.histories r c) → In e (w.histories r c) ⊎ FitsEvent w' r c e.event e.stamp)
    → ((a n : ℕ) → n < (w'.clients a).used
    → ((n < (w.clients a).used) × (w'.rows a n ≡ w.rows a n))
    ⊎ (RowTold w' a n (w'.rows a n) × (a < length w.shape.homes)))
    → ((a : ℕ) → ClientTold w.shape (w'.clients a))
    → Told w'
told_next w w' h' t g events rows clients = record {
  events = λ r c e i. event r c e (events r c e i);
  rows = λ a n lt. row a n (rows a n lt);
  counts = λ a. (clients a).counts;
  used = λ a. subst (λ (s : Shape). (w'.clients a).used ≤ s.rows) (sym g.shape) (clients a).used;
  clients = λ a n lt. subst (λ (s : Shape). a < length s.homes) (sym g.shape) (there a n (rows a n lt));
} where
  event : (r c : ℕ) (e : Entry) → In e (w.histories r c) ⊎ FitsEvent w' r c e.event e.stamp
      → FitsEvent w' r c e.event e.stamp
  event r c e (inl i) = fits_grow w w' g r c e.event e.stamp (t.events r c e i)
  event r c e (inr f) = f

  row : (a n : ℕ)
      → ((n < (w.clients a).used) × (w'.rows a n ≡ w.rows a n))
      ⊎ (RowTold w' a n (w'.rows a n) × (a < length w.shape.homes)) → RowTold w' a n (w'.rows a n)
  row a n (inl p) =
      subst (λ (x : RowState). RowTold w' a n x) (sym p.1) (row_told_grow w w' g h' a n (w.rows a n) (t.rows a n p.0))
  row a n (inr p) = p.0

  there : (a n : ℕ)
      → ((n < (w.clients a).used) × (w'.rows a n ≡ w.rows a n))
      ⊎ (RowTold w' a n (w'.rows a n) × (a < length w.shape.homes)) → a < length w.shape.homes
  there a n (inl p) = t.clients a n p.0
  there a n (inr p) = p.1

-- clients that stay, and one that changes
clients_stay : (w : World) → Told w → (a : ℕ) → ClientTold w.shape (w.clients a)
clients_stay w t a = record { counts = t.counts a; used = t.used a }

client_changes : (w : World) → Told w → (client : ℕ) (cs : ClientState) → cs.count ≤ cs.floor + cs.used
    → cs.used ≤ w.shape.rows → (a : ℕ) → ClientTold w.shape (updated w.clients client cs a)
client_changes w t client cs counts used a =
    at_updated (λ (s : ClientState). ClientTold w.shape s) w.clients client cs a
    (λ _. record { counts = counts; used = used }) (λ _. clients_stay w t a)

-- one entry more
one_more_event : (w w' : World) (region colour : ℕ) (e : Entry) → FitsEvent w' region colour e.event e.stamp
    → (r c : ℕ) (d : Entry) → In d ((with_last w region colour e).histories r c)
    → In d (w.histories r c) ⊎ FitsEvent w' r c d.event d.stamp
one_more_event w w' region colour e new r c d =
    at_last (λ (x : List Entry). In d x → In d (w.histories r c)
    ⊎ FitsEvent w' r c d.event d.stamp) w region colour e r c
    (λ er ec i. turn er ec (in_last d (w.histories region colour) e i))
    (λ _ i. inl i) where
      turn : r ≡ region → c ≡ colour → In d (w.histories region colour) ⊎ (e ≡ d)
          → In d (w.histories r c) ⊎ FitsEvent w' r c d.event d.stamp
      turn er ec (inl i) =
          inl (subst (λ (x : ℕ). In d (w.histories x c)) (sym er)
          (subst (λ (x : ℕ). In d (w.histories region x)) (sym ec) i))
      turn er ec (inr is) =
          inr (subst (λ (x : ℕ). FitsEvent w' x c d.event d.stamp) (sym er)
          (subst (λ (x : ℕ). FitsEvent w' region x d.event d.stamp) (sym ec)
          (subst (λ (x : Entry). FitsEvent w' region colour x.event x.stamp) is new)))

-- a row that is changed, in the next world
one_row : (w w' : World) (row : Row) (new : RowState) → Told w → w'.rows ≡ updated_at w.rows row.client row.number new
    → row.number < (w.clients row.client).used → RowTold w' row.client row.number new
    → (a n : ℕ) → n < (w.clients a).used
    → ((n < (w.clients a).used) × (w'.rows a n ≡ w.rows a n))
    ⊎ (RowTold w' a n (w'.rows a n) × (a < length w.shape.homes))
one_row w w' row new t er begun told a n lt =
    subst (λ (rows : ℕ → ℕ → RowState). ((n < (w.clients a).used) × (rows a n ≡ w.rows a n))
    ⊎ (RowTold w' a n (rows a n) × (a < length w.shape.homes))) (sym er)
    (at_updated_at
    (λ (x : RowState). ((n < (w.clients a).used) × (x ≡ w.rows a n))
    ⊎ (RowTold w' a n x × (a < length w.shape.homes))) w.rows row.client row.number new a n
    (λ ea en. inr (
      subst (λ (x : ℕ). RowTold w' x n new) (sym ea)
          (subst (λ (x : ℕ). RowTold w' row.client x new) (sym en) told),
      t.clients a n lt,
    ))
    (λ _. inl (lt, refl)))

-- the new mark of a row
marked_told : (w w' : World) → Grows w w' → Held w' → Told w → (row : Row) (colour : ℕ) (m : Mark)
    → row.number < (w.clients row.client).used
    → ((s : ℕ) → m ≡ marks.Number s → Proposes (row_history w' row colour) (row_of w row).node.id s)
    → (m ≡ marks.Fenced StampEnd → IsAtEnd (row_history w' row colour) (row_of w row).node.floor)
    → RowTold w' row.client row.number (record (row_of w row) { marks = updated (row_of w row).marks colour m })
marked_told w w' g h' t row colour m begun number fence =
    let old = row_told_grow w w' g h' row.client row.number (row_of w row) (t.rows row.client row.number begun) in
    record {
      numbers = λ c s. at_updated
          (λ (x : Mark). x ≡ marks.Number s → Proposes (row_history w' row c) (row_of w row).node.id s)
          (row_of w row).marks colour m c
          (λ is e. subst (λ (x : ℕ). Proposes (row_history w' row x) (row_of w row).node.id s) (sym is) (number s e))
          (λ _ e. old.numbers c s e);
      at_end = λ c. at_updated
          (λ (x : Mark). x ≡ marks.Fenced StampEnd → IsAtEnd (row_history w' row c) (row_of w row).node.floor)
          (row_of w row).marks colour m c
          (λ is e. subst (λ (x : ℕ). IsAtEnd (row_history w' row x) (row_of w row).node.floor) (sym is) (fence e))
          (λ _ e. old.at_end c e);
      row = old.row;
      region = old.region;
      several = old.several;
    }

tells_begin : (w : World) → Held w → Told w → (client : ℕ) (colours : Colours) (text : List ℕ)
    → may_begin w client colours ≡ true → Told (after_begin w client colours text)
tells_begin w h t client colours text ok =
    let p = both (is_client w client) _ ok in
    let q = both (nat_lt (w.clients client).used w.shape.rows) _ p.1 in
    let s = both (nat_lt 1 (length (members colours))) _ q.1 in
    let w' = after_begin w client colours text in
    let free = ltb-true (w.clients client).used w.shape.rows q.0 in
    let count = t.counts client in
    told_next w w' (keeps_begin w h client colours text) t (grows_begin w client colours text) (λ r c e i. inl i)
    (λ a n lt. at_updated_at
    (λ (x : RowState). ((n < (w.clients a).used) × (x ≡ w.rows a n))
    ⊎ (RowTold w' a n x × (a < length w.shape.homes))) w.rows client (w.clients client).used
    (record { node = begun_node w client colours text; marks = λ _. marks.None; last = Open }) a n
    (λ ea en. inr (
      record {
        numbers = λ c k e. absurd (let x : ⊥ = cc in x);
        at_end = λ c e. absurd (let x : ⊥ = cc in x);
        row = ap (λ (x : ℕ). Some (row_at x (w.clients client).used)) (sym ea) ∙ ap (λ (x : ℕ). Some (row_at a x))
            (sym en);
        region = ap (λ (x : ℕ). home_of w x) (sym ea);
        several = ltb-true 1 (length (members colours)) s.0;
      },
      subst (λ (x : ℕ). x < length w.shape.homes) (sym ea) (ltb-true client (length w.shape.homes) p.0),
    ))
    (λ other. inl (used_before w client a n lt other, refl)))
    (client_changes w t client (begun_client w client) (omega (arith, count)) (omega (arith, free))) where
      row_at : ℕ → ℕ → Row
      row_at a n = record { client = a; number = n }

tells_propose : (w : World) → Held w → Told w → (by : ℕ) (row : Row) (colour : ℕ) → may_propose w row colour ≡ true
    → Told (after_propose w by row colour)
tells_propose w h t by row colour ok =
    let p = both (may_mark w row colour) _ ok in
    let k = may_mark_is w row colour p.0 in
    let s = h.rows row.client row.number k.begun in
    let w' = after_propose w by row colour in
    let home = home_of w row.client in
    let e = proposed_entry w by row colour in
    let stamp = proposed_stamp w row colour in
    let m : Mark = marks.Number stamp in
    let g = grows_propose w by row colour ok in
    let h' = keeps_propose w h by row colour ok in
    let new : RowState = record (row_of w row) { marks = updated (row_of w row).marks colour m } in
    let here : w'.rows row.client row.number ≡ new = updated_at-here w.rows row.client row.number new in
    let own : Proposes (row_history w' row colour) (row_of w row).node.id stamp =
    subst (λ (x : List Entry). Proposes x (row_of w row).node.id stamp)
    (sym (updated_at-here w.histories home colour (w.histories home colour ++ e ∷ []))) (
      length (w.histories home colour),
      e,
      (row_of w row).node.floor,
      node_wants (row_of w row).node colour,
      slice_last
          (w.histories home colour) e,
      refl,
      refl,
    ) in
    let client : (row_of w row).node.id.client ≡ row.client = s.of_client in
    told_next w w' h' t g
    (one_more_event w w' home colour e (record {
      number = row.number;
      begun = subst (λ (x : ℕ). row.number < (w.clients x).used) (sym client) k.begun;
      is = subst (λ (x : ℕ). (w'.rows x row.number).node.id ≡ (row_of w row).node.id) (sym client)
          (ap (λ (x : RowState). x.node.id) here);
      home = ap (λ (x : ℕ). home_of w x) (sym client);
      mark = subst (λ (x : ℕ). (w'.rows x row.number).marks colour ≡ m) (sym client)
          (ap (λ (x : RowState). x.marks colour) here ∙ own_mark m);
      floor_is = subst (λ (x : ℕ). (w'.rows x row.number).node.floor ≡ (row_of w row).node.floor) (sym client)
          (ap (λ (x : RowState). x.node.floor) here);
      wants_is = subst
          (λ (x : ℕ). node_wants (w'.rows x row.number).node colour ≡ node_wants (row_of w row).node colour)
          (sym client) (ap (λ (x : RowState). node_wants x.node colour) here);
    }))
    (one_row w w' row new t refl k.begun (marked_told w w' g h' t row colour m k.begun
    (λ n is. let same : stamp ≡ n = cc in subst
    (λ (x : ℕ). Proposes (row_history w' row colour) (row_of w row).node.id x) same own)
    (λ is. absurd (let x : ⊥ = cc in x))))
    (clients_stay w t) where
      own_mark : (m : Mark) → updated (row_of w row).marks colour m colour ≡ m
      own_mark m =
          at_updated (λ (x : Mark). x ≡ m) (row_of w row).marks colour m colour (λ _. refl)
          (λ other. absurd (let f : (colour == colour) ≡ true = eq-eqb colour colour refl in let x : ⊥ = cc in x))

tells_fence : (w : World) → Held w → Told w → (row : Row) (colour : ℕ) (why : Why) → may_fence w row colour why ≡ true
    → Told (with_mark w row colour (marks.Fenced why))
tells_fence w h t row colour why ok =
    let marks_ok = may_fence_marks w row colour why ok in
    let k = may_mark_is w row colour marks_ok in
    let m : Mark = marks.Fenced why in
    let w' = with_mark w row colour m in
    let g = grows_mark w row colour m marks_ok in
    let h' = keeps_fence w h row colour why marks_ok in
    told_next w w' h' t g (λ r c e i. inl i)
    (one_row w w' row (record (row_of w row) { marks = updated (row_of w row).marks colour m }) t refl k.begun
    (marked_told w w' g h' t row colour m k.begun
    (λ n is. absurd (let x : ⊥ = cc in x))
    (λ is. fence_at_end why (same_why why is) ok)))
    (clients_stay w t) where
      same_why : (x : Why) → marks.Fenced x ≡ marks.Fenced StampEnd → x ≡ StampEnd
      same_why x e = cc

      fence_at_end : (x : Why) → x ≡ StampEnd → may_fence w row colour x ≡ true
          → IsAtEnd (row_history w row colour) (row_of w row).node.floor
      fence_at_end x e ok2 =
          let q = both (may_mark w row colour) (is_row_at_end w row colour)
          (subst (λ (y : Why). may_fence w row colour y ≡ true) e ok2) in
          eqb-true (max (clock (row_history w row colour)) (row_of w row).node.floor) last_stamp q.1

tells_decide : (w : World) → Held w → Told w → (row : Row) → may_decide w row ≡ true → Told (after_decide w row)
tells_decide w h t row ok =
    let begun = ltb-true row.number (w.clients row.client).used (both (is_begun w row) _ ok).0 in
    let w' = after_decide w row in
    let g = grows_decide w row ok in
    let h' = keeps_decide w h row ok in
    let old = row_told_grow w w' g h' row.client row.number (row_of w row) (t.rows row.client row.number begun) in
    told_next w w' h' t g (λ r c e i. inl i)
    (one_row w w' row _ t refl begun
    (record {
      numbers = old.numbers;
      at_end = old.at_end;
      row = old.row;
      region = old.region;
      several = old.several;
    }))
    (clients_stay w t)

tells_settle : (w : World) → Held w → Told w → (by : ℕ) (row : Row) (colour : ℕ) → may_settle w row colour ≡ true
    → Told (after_settle w by row colour)
tells_settle w h t by row colour ok =
    let k = may_settle_is w h row colour ok in
    let s = h.rows row.client row.number k.begun in
    let home = home_of w row.client in
    let e = settled_entry w by row in
    let w' = after_settle w by row colour in
    let client : (row_of w row).node.id.client ≡ row.client = s.of_client in
    told_next w w' (keeps_settle w h by row colour ok) t (grows_last w home colour e)
    (one_more_event w w' home colour e (record {
      number = row.number;
      begun = subst (λ (x : ℕ). row.number < (w.clients x).used) (sym client) k.begun;
      is = ap (λ (x : ℕ). (w.rows x row.number).node.id) client;
      home = ap (λ (x : ℕ). home_of w x) (sym client);
      last = ap (λ (x : ℕ). (w.rows x row.number).last) client;
      decided = k.decided;
    }))
    (λ a n lt. inl (lt, refl)) (clients_stay w t)

tells_single : (w : World) → Held w → Told w → (client colour : ℕ) (text : List ℕ) → may_single w client colour ≡ true
    → Told (after_single w client colour text)
tells_single w h t client colour text ok =
    let w' = after_single w client colour text in
    let c = t.counts client in
    told_next w w' (keeps_single w h client colour text ok) t (grows_single w client colour text)
    (one_more_event w w' (home_of w client) colour (single_entry w client colour) tt)
    (λ a n lt. inl (same_used w client (single_client w client colour) refl a n lt, refl))
    (client_changes w t client (single_client w client colour) (omega (arith, c)) (t.used client))

-- one entry more that says nothing of rows
tells_last : (w : World) → Told w → (region colour : ℕ) (e : Entry) → Held (with_last w region colour e)
    → FitsEvent (with_last w region colour e) region colour e.event e.stamp → Told (with_last w region colour e)
tells_last w t region colour e h' fits =
    let w' = with_last w region colour e in
    told_next w w' h' t (grows_last w region colour e) (one_more_event w w' region colour e fits)
    (λ a n lt. inl (lt, refl)) (clients_stay w t)

tells_client : (w : World) → Told w → (client : ℕ) (cs : ClientState) → Held (with_client w client cs)
    → cs.count ≡ (w.clients client).count → cs.used ≡ (w.clients client).used → (w.clients client).floor ≤ cs.floor
    → Told (with_client w client cs)
tells_client w t client cs h' ec eu le =
    let c = t.counts client in
    told_next w (with_client w client cs) h' t (grows_client w client cs (omega (arith, eu))) (λ r d e i. inl i)
    (λ a n lt. inl (same_used w client cs eu a n lt, refl))
    (client_changes w t client cs
    (more cs.count cs.floor cs.used (w.clients client).count (w.clients client).floor
    (w.clients client).used ec eu le c) (subst (λ (n : ℕ). n ≤ w.shape.rows) (sym eu) (t.used client))) where
      more : (c f u c' f' u' : ℕ) → c ≡ c' → u ≡ u' → f' ≤ f → c' ≤ f' + u' → c ≤ f + u
      more c f u c' f' u' ec eu le h = omega (arith, ec, eu, le, h)

pub after_told : (w : World) → Held w → Told w → (s : Step) → Told (after w s)
after_told w h t (steps.Begin client colours text) =
    choice Told (may_begin w client colours) _ w (λ ok. tells_begin w h t client colours text ok) (λ _. t)
after_told w h t (steps.Propose by row colour) =
    choice Told (may_propose w row colour) _ w (λ ok. tells_propose w h t by row colour ok) (λ _. t)
after_told w h t (steps.Fence row colour why) =
    choice Told (may_fence w row colour why) _ w (λ ok. tells_fence w h t row colour why ok) (λ _. t)
after_told w h t (steps.Decide row) = choice Told (may_decide w row) _ w (λ ok. tells_decide w h t row ok) (λ _. t)
after_told w h t (steps.Settle by row colour) =
    choice Told (may_settle w row colour) _ w (λ ok. tells_settle w h t by row colour ok) (λ _. t)
after_told w h t (steps.Single client colour text) =
    choice Told (may_single w client colour) _ w (λ ok. tells_single w h t client colour text ok) (λ _. t)
after_told w h t (steps.Raise by region colour to) =
    choice Told (may_raise w region colour to) _ w
    (λ ok. tells_last w t region colour (raise_entry by to) (keeps_raise w h by region colour to ok) tt) (λ _. t)
after_told w h t (steps.Give by origin region colour from) =
    choice Told (may_give w origin region colour from) _ w
    (λ ok. tells_last w t origin colour (give_entry by region from)
    (keeps_give w h by origin region colour from ok) tt) (λ _. t)
after_told w h t (steps.Carry by origin region colour start count) =
    choice Told (may_carry w origin region colour start count) _ w
    (λ ok. tells_last w t region colour (carried_entry w by origin region colour (start + count))
    (keeps_carry w h by origin region colour start count ok) tt) (λ _. t)
after_told w h t (steps.Trim by region colour counts) =
    choice Told (is_column w region colour) _ w
    (λ ok. tells_last w t region colour (trim_entry by counts) (keeps_trim w h by region colour counts) tt) (λ _. t)
after_told w h t (steps.Play client colour) =
    choice Told (may_play w client colour) _ w
    (λ ok. tells_client w t client (played_client w client colour) (keeps_play w h client colour) refl refl
    (omega arith)) (λ _. t)
after_told w h t (steps.Seen client to) = choice Told (may_see w client to) _ w
    (λ ok. let lt = above_floor w client to ok in tells_client w t client (record (w.clients client) { floor = to })
    (keeps_seen w h client to ok) refl refl (omega (arith, lt))) (λ _. t)

opened_told : (shape : Shape) → Told (opened shape)
opened_told shape = record {
  events = λ r c e i. absurd i;
  rows = λ a n lt. absurd (let x : ⊥ = omega (arith, lt) in x);
  counts = λ a. omega arith;
  used = λ a. omega arith;
  clients = λ a n lt. absurd (let x : ⊥ = omega (arith, lt) in x);
}

pub run_told : (w : World) → Held w → Told w → (steps : List Step) → Told (run_steps w steps)
run_told w h t [] = t
run_told w h t (s ∷ steps) = run_told (after w s) (after_held w h s) (after_told w h t s) steps

pub told : (shape : Shape) (steps : List Step) → Told (run_steps (opened shape) steps)
told shape steps = run_told (opened shape) (opened_held shape) (opened_told shape) steps
