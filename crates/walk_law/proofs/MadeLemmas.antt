-- Events that are made in a region's columns, colour by colour.
use Rattle.std.proofs.Common.{◌≡◌, ◌⊎◌, ℕ, ◌+◌, ◌<◌, ◌≤◌, Bool, true, false, ◌==◌, cond, List, [], ◌++◌, inl, inr, refl, ap, sym, ◌∙◌, arith, append-nil}
use Rattle.std.specs.Prelude.{nat_lt}
use Rattle.std.proofs.lemmas.Bool.{cases_Bool, cases_lt, eq-eqb, eqb-true, le-ltb, lt-ltb, true≢false}
use Rattle.log_node.specs.declared.limits.TheConstants.{MAX_COLOURS}
use Rattle.col_core.specs.Keeping.{Kept, seen_past, updated, updated_at, with_made}
use Rattle.report_text.specs.declared.report.ReplyLine.{ReplyLine}
use Rattle.lawful_run.specs.Moves.{with_places}
use Rattle.walk_law.specs.Keepings.{Counted, IsCounted}

-- A FUNCTION OF REGION AND COLOUR, WITH OTHER VALUES AT ONE REGION

module _ {A : Type 0} (K : ℕ → ℕ → A) (own : ℕ) where
  pub updated_same : (f g : ℕ → A) (r c : ℕ) → f c ≡ g c → updated K own f r c ≡ updated K own g r c
  updated_same f g r c e = by (r == own) where
    by : (b : Bool) → cond b f (K r) c ≡ cond b g (K r) c
    by true = e
    by false = refl

  pub updated_none : (f : ℕ → A) (r c : ℕ) → f c ≡ K own c → updated K own f r c ≡ K r c
  updated_none f r c e = turn (cases_Bool (r == own)) where
    turn : ((r == own) ≡ true) ⊎ ((r == own) ≡ false) → cond (r == own) f (K r) c ≡ K r c
    turn (inl t) = ap (λ (b : Bool). cond b f (K r) c) t ∙ (e ∙ ap (λ (n : ℕ). K n c) (sym (eqb-true r own t)))
    turn (inr off) = ap (λ (b : Bool). cond b f (K r) c) off

  pub updated_there : (f : ℕ → A) (c : ℕ) → updated K own f own c ≡ f c
  updated_there f c = ap (λ (b : Bool). cond b f (K own) c) (eq-eqb own own refl)

  -- one colour more
  pub updated_more : (n : ℕ) (old new : ℕ → A) (value : A) → value ≡ new n → ((c : ℕ) → (c == n) ≡ false → old c ≡ new c)
      → (r c : ℕ) → updated_at (updated K own old) own n value r c ≡ updated K own new r c
  updated_more n old new value is others r c = turn (cases_Bool (r == own)) where
    here : ((c == n) ≡ true) ⊎ ((c == n) ≡ false) → cond (c == n) value (updated K own old own c) ≡ new c
    here (inl t) =
        ap (λ (b : Bool). cond b value (updated K own old own c)) t ∙ (is ∙ ap new (sym (eqb-true c n t)))
    here (inr f) =
        ap (λ (b : Bool). cond b value (updated K own old own c)) f ∙ (updated_there old c ∙ others c f)

    turn : ((r == own) ≡ true) ⊎ ((r == own) ≡ false)
        → cond (r == own) (updated (updated K own old own) n value) (updated K own old r) c ≡ cond (r == own) new (K r) c
    turn (inl t) =
        ap (λ (b : Bool). cond b (updated (updated K own old own) n value) (updated K own old r) c) t
        ∙ (here (cases_Bool (c == n)) ∙ sym (ap (λ (b : Bool). cond b new (K r) c) t))
    turn (inr f) =
        ap (λ (b : Bool). cond b (updated (updated K own old own) n value) (updated K own old r) c) f
        ∙ (ap (λ (b : Bool). cond b old (K r) c) f ∙ sym (ap (λ (b : Bool). cond b new (K r) c) f))

-- THE FIRST COLOURS

-- the places in the first so many colours
abbrev pub first_places : ℕ → (ℕ → List ℕ) → ℕ → List ℕ
first_places n places colour = cond (nat_lt colour n) (places colour) []

module _ (places : ℕ → List ℕ) where
  first_in : (n c : ℕ) → c < n → first_places n places c ≡ places c
  first_in n c lt = ap (λ (b : Bool). cond b (places c) []) (lt-ltb c n lt)

  first_out : (n c : ℕ) → n ≤ c → first_places n places c ≡ []
  first_out n c le = ap (λ (b : Bool). cond b (places c) []) (le-ltb c n le)

  first_others : (n c : ℕ) → (c == n) ≡ false → first_places n places c ≡ first_places (n + 1) places c
  first_others n c other = turn (cases_lt c n) where
    turn : (c < n) ⊎ (n ≤ c) → first_places n places c ≡ first_places (n + 1) places c
    turn (inl lt) = first_in n c lt ∙ sym (first_in (n + 1) c (omega (arith, lt)))
    turn (inr le) = past (cases_lt n c) where
      past : (n < c) ⊎ (c ≤ n) → first_places n places c ≡ first_places (n + 1) places c
      past (inl lt) = first_out n c le ∙ sym (first_out (n + 1) c (omega (arith, lt)))
      past (inr ge) = absurd (true≢false (sym (eq-eqb c n (omega (arith, le, ge))) ∙ other))

module _ (replies : List ReplyLine) (kept : Kept) (own : ℕ) (counted : Counted) where
  -- behind events at these places alone
  pub made_same : (f g : ℕ → List ℕ) → ((c : ℕ) → c < MAX_COLOURS → f c ≡ g c)
      → IsCounted replies (with_made kept own f) counted → IsCounted replies (with_made kept own g) counted
  made_same f g same s = record {
    floor = s.floor;
    starts = s.starts;
    seen = λ r c cell.
        s.seen r c cell
        ∙ updated_same kept.seen own (λ k. seen_past (kept.seen own k) (f k)) (λ k. seen_past (kept.seen own k) (g k)) r c
        (ap (seen_past (kept.seen own c)) (same c cell.1));
    known = s.known;
    made = λ r c cell.
        s.made r c cell
        ∙ updated_same kept.made own (λ k. kept.made own k ++ f k) (λ k. kept.made own k ++ g k) r c
        (ap (λ (l : List ℕ). kept.made own c ++ l) (same c cell.1));
    ids = s.ids;
    rows = s.rows;
    reads = s.reads;
  }

  pub made_none : (places : ℕ → List ℕ) → IsCounted replies kept counted
      → IsCounted replies (with_made kept own (first_places 0 places)) counted
  made_none places s = record {
    floor = s.floor;
    starts = s.starts;
    seen = λ r c cell.
        s.seen r c cell
        ∙ sym (updated_none kept.seen own (λ k. seen_past (kept.seen own k) (first_places 0 places k)) r c
        (ap (seen_past (kept.seen own c)) (first_out places 0 c (omega arith))));
    known = s.known;
    made = λ r c cell.
        s.made r c cell
        ∙ sym (updated_none kept.made own (λ k. kept.made own k ++ first_places 0 places k) r c
        (ap (λ (l : List ℕ). kept.made own c ++ l) (first_out places 0 c (omega arith)) ∙ append-nil (kept.made own c)));
    ids = s.ids;
    rows = s.rows;
    reads = s.reads;
  }

  pub made_more : (places : ℕ → List ℕ) (n : ℕ)
      → IsCounted replies (with_places (with_made kept own (first_places n places)) own n (places n)) counted
      → IsCounted replies (with_made kept own (first_places (n + 1) places)) counted
  made_more places n s = record {
    floor = s.floor;
    starts = s.starts;
    seen = λ r c cell.
        s.seen r c cell
        ∙ updated_more kept.seen own n (λ k. seen_past (kept.seen own k) (first_places n places k))
        (λ k. seen_past (kept.seen own k) (first_places (n + 1) places k))
        (seen_past (updated kept.seen own (λ k. seen_past (kept.seen own k) (first_places n places k)) own n) (places n))
        (ap (λ (m : ℕ). seen_past m (places n))
        (updated_there kept.seen own (λ k. seen_past (kept.seen own k) (first_places n places k)) n
        ∙ ap (seen_past (kept.seen own n)) (first_out places n n (omega arith)))
        ∙ ap (seen_past (kept.seen own n)) (sym (first_in places (n + 1) n (omega arith))))
        (λ k other. ap (seen_past (kept.seen own k)) (first_others places n k other)) r c;
    known = s.known;
    made = λ r c cell.
        s.made r c cell
        ∙ updated_more kept.made own n (λ k. kept.made own k ++ first_places n places k)
        (λ k. kept.made own k ++ first_places (n + 1) places k)
        (updated kept.made own (λ k. kept.made own k ++ first_places n places k) own n ++ places n)
        (ap (λ (l : List ℕ). l ++ places n)
        (updated_there kept.made own (λ k. kept.made own k ++ first_places n places k) n
        ∙ (ap (λ (l : List ℕ). kept.made own n ++ l) (first_out places n n (omega arith)) ∙ append-nil (kept.made own n)))
        ∙ ap (λ (l : List ℕ). kept.made own n ++ l) (sym (first_in places (n + 1) n (omega arith))))
        (λ k other. ap (λ (l : List ℕ). kept.made own k ++ l) (first_others places n k other)) r c;
    ids = s.ids;
    rows = s.rows;
    reads = s.reads;
  }

  -- behind those in more colours, of which these have none
  pub made_on : (places : ℕ → List ℕ) (n m : ℕ) → n ≤ m → ((c : ℕ) → n ≤ c → c < m → places c ≡ [])
      → IsCounted replies (with_made kept own (first_places n places)) counted
      → IsCounted replies (with_made kept own (first_places m places)) counted
  made_on places n m le none s =
      made_same (first_places n places) (first_places m places) (λ c low. turn c (cases_lt c n) (cases_lt c m)) s where
        turn : (c : ℕ) → (c < n) ⊎ (n ≤ c) → (c < m) ⊎ (m ≤ c) → first_places n places c ≡ first_places m places c
        turn c (inl lt) more = first_in places n c lt ∙ sym (first_in places m c (omega (arith, lt, le)))
        turn c (inr ge) (inl lt) = first_out places n c ge ∙ (sym (none c ge lt) ∙ sym (first_in places m c lt))
        turn c (inr ge) (inr out) = first_out places n c ge ∙ sym (first_out places m c out)

  -- behind those in all colours, where there are none in others
  pub made_all : (places : ℕ → List ℕ) (n : ℕ) → ((c : ℕ) → n ≤ c → c < MAX_COLOURS → places c ≡ [])
      → IsCounted replies (with_made kept own (first_places n places)) counted
      → IsCounted replies (with_made kept own places) counted
  made_all places n none s = made_same (first_places n places) places (λ c low. turn c low (cases_lt c n)) s where
    turn : (c : ℕ) → c < MAX_COLOURS → (c < n) ⊎ (n ≤ c) → first_places n places c ≡ places c
    turn c low (inl lt) = first_in places n c lt
    turn c low (inr le) = first_out places n c le ∙ sym (none c le low)
