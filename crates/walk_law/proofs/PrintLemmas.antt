-- The places that replies print: what a set has of them, with one more, and with those of more replies.
use Rattle.std.proofs.Common.{◌≡◌, ◌⊎◌, ℕ, zero, suc, ◌+◌, ◌-◌, ◌<◌, ◌≤◌, Bool, true, false, ◌&&◌, ◌||◌, ◌==◌, cond, List, [], ◌∷◌, ◌++◌, length, drop, Option, Some, None, Ordering, Less, Equal, Greater, inl, inr, refl, ap, sym, subst, ◌∙◌, arith, get_or}
use Rattle.std.specs.Prelude.{slice_get, slice_index, slice_index_or, nat_lt}
use Rattle.std.specs.Ordering.{is_eq, nat_cmp, ordering_then}
use Rattle.std.specs.List.{filter, list_any}
use Rattle.std.proofs.lemmas.Bool.{cases_Bool, cases_lt, true≢false, eq-eqb, eqb-true, ltb-true, lt-ltb, le-ltb}
use Rattle.std.proofs.lemmas.Bool.Decides.{nat_tests}
use Rattle.std.proofs.lemmas.List.{drop_all, drop_more}
use Rattle.std.proofs.lemmas.List.Folds.{list_any-append}
use Rattle.std.proofs.lemmas.Option.{get_or_from_slice_get, slice_get_within}
use Rattle.log_node.proofs.CallerLemmas.{get_within, same_some}
use Rattle.script_text.specs.declared.commands.What.{What}
use Rattle.script_text.specs.declared.script.Command.{Command}
use Rattle.script_text.specs.declared.script.Script.{Script}
use Rattle.report_text.specs.declared.report.ClientReport.{ClientReport}
use Rattle.report_text.specs.declared.report.RaisePiece.{RaisePiece}
use Rattle.report_text.specs.declared.report.ReplyLine.{ReplyLine}
use Rattle.report_text.specs.declared.report.Report.{Report}
use Rattle.lawful_run.specs.Callers.{caller_of, commands_of}
use Rattle.run_rules.specs.Printed.{only_at, printed, printed_all, printed_at, printed_raises}
use Rattle.run_rules.specs.Telling.{is_among, places_shown, replies_in, replies_to}
use Rattle.walk_law.specs.contracts.printed.PrintOrd.TheImpl.{cmp-value}
use Rattle.walk_law.specs.declared.printed.Print.{Print}
use Rattle.walk_law.specs.declared.printed.Printed.{Printed}
use Rattle.walk_law.specs.PlaceTables.{is_asked_by, is_printed, numbers_where, same_print}
use Rattle.walk_law.specs.Subjects.{ArePrints}
use Rattle.walk_law.proofs.TableLemmas.{both_same, same_number}

-- ONE MORE

-- places stand as equal where they are one
pub print_same : (a b : Print) → is_eq (cmp-value.it a b) ≡ same_print b a
print_same a b =
    both_same (nat_cmp a.client b.client) (ordering_then (nat_cmp a.region b.region) (ordering_then (nat_cmp a.colour b.colour) (nat_cmp a.place b.place)))
    ∙ rw (both_same (nat_cmp a.region b.region) (ordering_then (nat_cmp a.colour b.colour) (nat_cmp a.place b.place)), both_same (nat_cmp a.colour b.colour) (nat_cmp a.place b.place), same_number a.client b.client, same_number a.region b.region, same_number a.colour b.colour, same_number a.place b.place) refl

pub flip : (a b : ℕ) → (a == b) ≡ (b == a)
flip a b = by (cases_Bool (a == b)) (cases_Bool (b == a)) where
  by : ((a == b) ≡ true) ⊎ ((a == b) ≡ false) → ((b == a) ≡ true) ⊎ ((b == a) ≡ false) → (a == b) ≡ (b == a)
  by (inl t) (inl u) = t ∙ sym u
  by (inr f) (inr g) = f ∙ sym g
  by (inl t) (inr g) = absurd (true≢false (sym (eq-eqb b a (sym (eqb-true a b t))) ∙ g))
  by (inr f) (inl u) = absurd (true≢false (sym (eq-eqb a b (sym (eqb-true b a u))) ∙ f))

-- what a set has at a place
has_print : Print → List Print → Bool
has_print q keys = list_any (λ (it : Print). same_print it q) keys

pub print_found : (q : Print) (keys : List Print) → list_any (λ it. is_eq (cmp-value.it q it)) keys ≡ list_any (λ (it : Print). same_print it q) keys
print_found q [] = refl
print_found q (k ∷ ks) = rw (print_same q k, print_found q ks) refl

-- one place of one client's in a column
one_place : (client region colour place n r c p : ℕ) → ((n == client) && ((r == region) && ((c == colour) && (p == place))))
    ≡ ((client == n) && is_among p (only_at region colour (place ∷ []) r c))
one_place client region colour place n r c p = rw (flip n client, flip p place) (by (client == n) (r == region) (c == colour) refl) where
  alone : (e : Bool) → e ≡ (e || false)
  alone true = refl
  alone false = refl

  by : (a b d : Bool) → (c == colour) ≡ d → (a && (b && ((c == colour) && (place == p))))
      ≡ (a && is_among p ((cond {A = ℕ → List ℕ} b (λ (k : ℕ). cond (k == colour) (place ∷ []) []) (λ (k : ℕ). [])) c))
  by false b d is = refl
  by true false d is = refl
  by true true d is = rw is (on d) where
    on : (e : Bool) → (e && (place == p)) ≡ is_among p (cond e (place ∷ []) [])
    on true = alone (place == p)
    on false = refl

pub one_print : (old new : List Print) (key : Print)
    → ((q : Print) → list_any (λ it. is_eq (cmp-value.it q it)) new
    ≡ cond (is_eq (cmp-value.it key q)) true (list_any (λ it. is_eq (cmp-value.it q it)) old))
    → (n r c p : ℕ) → list_any (λ (it : Print). same_print it (record { client = n; region = r; colour = c; place = p })) new
    ≡ ((key.client == n) && is_among p (only_at key.region key.colour (key.place ∷ []) r c)
    || list_any (λ (it : Print). same_print it (record { client = n; region = r; colour = c; place = p })) old)
one_print old new key step n r c p =
    let q : Print = record { client = n; region = r; colour = c; place = p } in
    sym (print_found q new)
    ∙ (step q
    ∙ (ap (λ (b : Bool). cond b true (list_any (λ it. is_eq (cmp-value.it q it)) old)) (print_same key q ∙ one_place key.client key.region key.colour key.place n r c p)
    ∙ (ap (λ (b : Bool). cond ((key.client == n) && is_among p (only_at key.region key.colour (key.place ∷ []) r c)) true b) (print_found q old)
    ∙ by ((key.client == n) && is_among p (only_at key.region key.colour (key.place ∷ []) r c))
    (list_any (λ (it : Print). same_print it q) old)))) where
      by : (a b : Bool) → cond a true b ≡ (a || b)
      by true b = refl
      by false b = refl

-- ONE PART BEHIND ANOTHER

pub both_parts : (m : Bool) (p : ℕ) (xs ys : List ℕ) (z mid new : Bool) → mid ≡ ((m && is_among p xs) || z)
    → new ≡ ((m && is_among p ys) || mid) → new ≡ ((m && is_among p (xs ++ ys)) || z)
both_parts m p xs ys z mid new first second =
    second
    ∙ (ap (λ (b : Bool). (m && is_among p ys) || b) first
    ∙ (by m (is_among p xs) (is_among p ys) z
    ∙ ap (λ (b : Bool). (m && b) || z) (sym (list_any-append (λ k. k == p) xs ys)))) where
      by : (m a b z : Bool) → ((m && b) || ((m && a) || z)) ≡ ((m && (a || b)) || z)
      by false a b z = refl
      by true true true z = refl
      by true true false z = refl
      by true false b z = refl

-- what is left is less by what was put in
pub rest_parts : (m : Bool) (p : ℕ) (xs ys : List ℕ) (now next : Bool) → next ≡ ((m && is_among p xs) || now)
    → ((m && is_among p ys) || next) ≡ ((m && is_among p (xs ++ ys)) || now)
rest_parts m p xs ys now next is = both_parts m p xs ys now next ((m && is_among p ys) || next) is refl

pub raises_left : (own : ℕ) (raises : List RaisePiece) (at : ℕ) (d : RaisePiece) → at < length raises → (r c : ℕ)
    → printed_raises own (drop at raises) r c
    ≡ printed_at own (get_or raises at d).colour (get_or raises at d).at r c ++ printed_raises own (drop (at + 1) raises) r c
raises_left own raises at d lt r c = ap (λ (l : List RaisePiece). printed_raises own l r c) (drop_more raises at d lt)

pub none_left : (own : ℕ) (raises : List RaisePiece) (at : ℕ) → length raises ≤ at → (r c : ℕ)
    → printed_raises own (drop at raises) r c ≡ []
none_left own raises at ge r c = ap (λ (l : List RaisePiece). printed_raises own l r c) (drop_all at raises ge)

pub none_more : (m : Bool) (p : ℕ) (xs : List ℕ) (z : Bool) → xs ≡ [] → ((m && is_among p xs) || z) ≡ z
none_more m p xs z none = ap (λ (l : List ℕ). (m && is_among p l) || z) none ∙ by m where
  by : (m : Bool) → ((m && false) || z) ≡ z
  by true = refl
  by false = refl

-- COMMANDS BY THEIR NUMBERS

module _ {A : Type 0} (test : A → Bool) where
  pub where_length : (k : ℕ) (xs : List A) → length (numbers_where test k xs) ≡ length (filter test xs)
  where_length k [] = refl
  where_length k (x ∷ xs) = by (test x) (where_length (k + 1) xs) where
    by : (b : Bool) → length (numbers_where test (k + 1) xs) ≡ length (filter test xs)
        → length (cond b (k ∷ numbers_where test (k + 1) xs) (numbers_where test (k + 1) xs))
        ≡ length (cond b (x ∷ filter test xs) (filter test xs))
    by true e = ap suc e
    by false e = e

  -- the item of a number
  pub where_item : (k : ℕ) (xs : List A) (i n : ℕ) → slice_get (numbers_where test k xs) i ≡ Some n
      → (m : ℕ) × (n ≡ k + m) × (slice_get xs m ≡ slice_get (filter test xs) i)
  where_item k [] i n at = absurd (let f : ⊥ = cc (at) in f)
  where_item k (x ∷ xs) i n at = by (test x) i (λ j e. where_item (k + 1) xs j n e) at where
    on : (j : ℕ) → (m : ℕ) × (n ≡ k + 1 + m) × (slice_get xs m ≡ slice_get (filter test xs) j)
        → (m : ℕ) × (n ≡ k + m) × (slice_get (x ∷ xs) m ≡ slice_get (filter test xs) j)
    on j more = let e = more.1 in (suc more.0, omega (arith, e), more.2)

    by : (b : Bool) (i : ℕ) → ((j : ℕ) → slice_get (numbers_where test (k + 1) xs) j ≡ Some n
        → (m : ℕ) × (n ≡ k + 1 + m) × (slice_get xs m ≡ slice_get (filter test xs) j))
        → slice_get (cond b (k ∷ numbers_where test (k + 1) xs) (numbers_where test (k + 1) xs)) i ≡ Some n
        → (m : ℕ) × (n ≡ k + m) × (slice_get (x ∷ xs) m ≡ slice_get (cond b (x ∷ filter test xs) (filter test xs)) i)
    by true zero more at = (zero, (let e = sym (same_some at) in omega (arith, e)), refl)
    by true (suc i) more at = on i (more i at)
    by false i more at = on i (more i at)

-- THE REPLIES OF A CLIENT

pub all_left : (own : ℕ) (commands : List Command) (replies : List ReplyLine) (at : ℕ) (c : Command) (r : ReplyLine)
    → at < length commands → at < length replies → c ≡ get_or commands at c → r ≡ get_or replies at r → (region colour : ℕ)
    → printed_all own (drop at commands) (drop at replies) region colour
    ≡ printed own r.answer c.what region colour ++ printed_all own (drop (at + 1) commands) (drop (at + 1) replies) region colour
all_left own commands replies at c r lt low is_c is_r region colour =
    ap (λ (l : List Command). printed_all own l (drop at replies) region colour)
    (drop_more commands at c lt ∙ ap (λ (x : Command). x ∷ drop (at + 1) commands) (sym is_c))
    ∙ ap (λ (l : List ReplyLine). printed_all own (c ∷ drop (at + 1) commands) l region colour)
    (drop_more replies at r low ∙ ap (λ (x : ReplyLine). x ∷ drop (at + 1) replies) (sym is_r))

pub all_done : (own : ℕ) (commands : List Command) (replies : List ReplyLine) (at : ℕ)
    → (length commands ≤ at) ⊎ (length replies ≤ at) → (region colour : ℕ)
    → printed_all own (drop at commands) (drop at replies) region colour ≡ []
all_done own commands replies at (inl ge) region colour =
    ap (λ (l : List Command). printed_all own l (drop at replies) region colour) (drop_all at commands ge)
all_done own commands replies at (inr ge) region colour =
    ap (λ (l : List ReplyLine). printed_all own (drop at commands) l region colour) (drop_all at replies ge)
    ∙ by (drop at commands) where
      by : (cs : List Command) → printed_all own cs [] region colour ≡ []
      by [] = refl
      by (c ∷ cs) = refl

-- THE CLIENTS OF A REPORT

-- what replies to the first so many clients print
pub PrintsTo : Script → Report → ℕ → Printed → Type 0
PrintsTo script report at table = (n r c p : ℕ) → is_printed table n r c p ≡ (nat_lt n at && is_among p (places_shown script report n r c))

pub one_client : (script : Script) (report : Report) (at : ℕ) (shown : ClientReport) (old new : Printed)
    → slice_get report.clients at ≡ Some shown
    → ((n r c p : ℕ) → is_printed new n r c p
    ≡ ((at == n) && is_among p (printed_all (caller_of script at).own (commands_of script at) shown.replies r c) || is_printed old n r c p))
    → PrintsTo script report at old → PrintsTo script report (at + 1) new
unfolding PrintsTo
one_client script report at shown old new there added so n r c p =
    added n r c p
    ∙ (ap (λ (b : Bool). (at == n) && is_among p (printed_all (caller_of script at).own (commands_of script at) shown.replies r c) || b) (so n r c p)
    ∙ by (cases_Bool (at == n)) (cases_lt n at)) where
      here : at ≡ n → printed_all (caller_of script at).own (commands_of script at) shown.replies r c ≡ places_shown script report n r c
      here e =
          ap (λ (l : List ReplyLine). printed_all (caller_of script at).own (commands_of script at) l r c) (sym (ap replies_in there))
          ∙ ap (λ (k : ℕ). places_shown script report k r c) e

      either : (x : Bool) → (x || (false && x)) ≡ x
      either true = refl
      either false = refl

      by : ((at == n) ≡ true) ⊎ ((at == n) ≡ false) → (n < at) ⊎ (at ≤ n)
          → ((at == n) && is_among p (printed_all (caller_of script at).own (commands_of script at) shown.replies r c)
          || (nat_lt n at && is_among p (places_shown script report n r c)))
          ≡ (nat_lt n (at + 1) && is_among p (places_shown script report n r c))
      by (inl t) less =
          let e : at ≡ n = eqb-true at n t in
          rw (t, ap (λ (l : List ℕ). is_among p l) (here e), le-ltb n at (omega (arith, e)), lt-ltb n (at + 1) (omega (arith, e)))
          (either (is_among p (places_shown script report n r c)))
      by (inr f) (inl less) = rw (f, lt-ltb n at less, lt-ltb n (at + 1) (omega (arith, less))) refl
      by (inr f) (inr ge) =
          rw (f, le-ltb n at ge, le-ltb n (at + 1) (beyond (cases_lt n (at + 1)))) refl where
            beyond : (n < at + 1) ⊎ (at + 1 ≤ n) → at + 1 ≤ n
            beyond (inr more) = more
            beyond (inl less) =
                absurd (true≢false (sym (eq-eqb at n (let e : at ≡ n = omega (arith, less, ge) in e)) ∙ f))

pub prints_none : (script : Script) (report : Report) (table : Printed) → ((n r c p : ℕ) → is_printed table n r c p ≡ false)
    → PrintsTo script report zero table
unfolding PrintsTo
prints_none script report table none n r c p =
    none n r c p ∙ sym (ap (λ (b : Bool). b && is_among p (places_shown script report n r c)) (le-ltb n zero (omega arith)))

pub prints_all : (script : Script) (report : Report) (at : ℕ) (table : Printed) → length script.shape.homes ≤ at
    → PrintsTo script report at table → ArePrints script report table
unfolding PrintsTo
prints_all script report at table ge so n lt r c p =
    so n r c p
    ∙ ap (λ (b : Bool). b && is_among p (places_shown script report n r c)) (lt-ltb n at (omega (arith, ge, lt)))

-- a client's command by its number
pub command_of : (commands : List Command) (client : ℕ) (numbers : List ℕ) → numbers ≡ numbers_where (is_asked_by client) 0 commands
    → (at : ℕ) → at < length numbers → (d : ℕ)
    → (c : Command) × (slice_get commands (slice_index_or numbers at d) ≡ Some c)
    × (slice_get (filter (is_asked_by client) commands) at ≡ Some c)
command_of commands client numbers are at lt d =
    let n = get_within numbers at lt in
    let item = where_item (is_asked_by client) 0 commands at n.0 (ap (λ (l : List ℕ). slice_get l at) (sym are) ∙ n.1) in
    let many = where_length (is_asked_by client) 0 commands in
    let same = ap length are in
    let c = get_within (filter (is_asked_by client) commands) at (omega (arith, many, same, lt)) in
    let e = item.1 in
    let m : slice_index_or numbers at d ≡ item.0 =
    get_or_from_slice_get numbers at n.0 d n.1 ∙ (let f : n.0 ≡ item.0 = omega (arith, e) in f) in
    (c.0, ap (slice_get commands) m ∙ (item.2 ∙ c.1), c.1)
