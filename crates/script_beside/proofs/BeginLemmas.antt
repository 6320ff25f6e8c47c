-- How commands that may begin a row are counted by client.
use Rattle.std.proofs.Common.{◌≡◌, inl, inr, ℕ, ◌+◌, ◌<◌, ◌≤◌, ltb, cond, Bool, true, false, List, [], ◌∷◌, ◌++◌, length, map, replicate, Vec, Global, refl, sym, ap, subst, ◌∙◌, arith}
use Rattle.std.specs.Prelude.{◌==◌, slice_index}
use Rattle.std.specs.Ordering.{is_lt, nat_cmp, ord_max}
use Rattle.std.proofs.lemmas.Bool.{ltb-true, ltb-false}
use Rattle.std.proofs.lemmas.Bool.Decides.{nat_tests}
use Rattle.std.proofs.lemmas.Grind.{get_or_default_zero}
use Rattle.std.proofs.lemmas.List.{length-map, get_or-map, length-replicate, get_or-replicate}
use Rattle.std.proofs.lemmas.List.Elements.{filter-append, All-push, All-weaker, Contains-push, Contains-append_left}
use Rattle.std.proofs.lemmas.List.Sums.{sum_by-append, count_by-le-length, length-filter}
use Rattle.script_text.specs.declared.script.Command.{Command}
use Rattle.script_beside.specs.Begins.{may_take_row, begins_in, own, AreBegun, AreAdded, IsGreatest, IsMost}
use Rattle.script_beside.specs.Lists.{AreOwn}
use Rattle.script_beside.proofs.ListLemmas.{some_item}

-- ---- counts of clients

-- the counts of each client's own list
pub own_counts : (clients : ℕ) (commands : List Command) (lists : List (Vec Command Global)) (counts : List ℕ) → AreOwn clients commands lists
    → counts ≡ map (λ (l : Vec Command Global). begins_in l.items) lists → AreBegun clients commands counts
own_counts clients commands lists counts owns is =
    let long : length counts ≡ length lists =
    ap (λ (l : List ℕ). length l) is ∙ length-map lists (λ (l : Vec Command Global). begins_in l.items) in record {
      many = long ∙ owns.many;
      each = λ n lt.
          let low : n < length lists = omega (arith, lt, long) in
          let d = some_item lists n low in
          ap (λ (l : List ℕ). slice_index l n) is
          ∙ (get_or-map (λ (l : Vec Command Global). begins_in l.items) lists n d 0 low ∙ ap begins_in (owns.each n d low));
    }

-- of no commands none may begin a row
pub none_begun : (clients : ℕ) (counts : List ℕ) → counts ≡ replicate clients 0 → AreBegun clients [] counts
none_begun clients counts is =
    let long : length counts ≡ clients = ap (λ (l : List ℕ). length l) is ∙ length-replicate clients 0 in record {
      many = long;
      each = λ n lt. ap (λ (l : List ℕ). slice_index l n) is ∙ get_or-replicate clients n 0 0 (omega (arith, lt, long));
    }

begins_both : (front back : List Command) → begins_in (front ++ back) ≡ begins_in front + begins_in back
begins_both front back = sum_by-append (λ (c : Command). cond (may_take_row c.what) 1 0) front back

-- the counts of more commands, added to those of the ones before them
pub both_begun : (clients : ℕ) (first second : List Command) (before more after : List ℕ) → AreBegun clients first before
    → AreBegun clients second more → AreAdded more before after → AreBegun clients (first ++ second) after
both_begun clients first second before more after one other added =
    let a = one.many in
    let b = other.many in
    let c = added.many in record {
      many = c ∙ a;
      each = λ n lt.
          let mine = own n first in
          let later = own n second in
          added.each n (omega (arith, a, b, c, lt))
          ∙ (ap (λ (k : ℕ). k + slice_index more n) (one.each n (omega (arith, c, lt)))
          ∙ (ap (λ (k : ℕ). begins_in mine + k) (other.each n (omega (arith, a, b, c, lt)))
          ∙ (sym (begins_both mine later) ∙ ap begins_in (sym (filter-append (λ (d : Command). d.client == n) first second)))));
    }

-- no client has more of them than there are commands
pub own_few : (n : ℕ) (commands : List Command) → begins_in (own n commands) ≤ length commands
own_few n commands =
    let some = count_by-le-length (λ (c : Command). may_take_row c.what) (own n commands) in
    let mine = length-filter (λ (c : Command). c.client == n) commands in
    let all = count_by-le-length (λ (c : Command). c.client == n) commands in
    omega (arith, some, mine, all)

-- ---- the greatest

less_is : (a b : ℕ) → is_lt (nat_cmp a b) ≡ ltb a b
less_is a b = grind (arith, nat_tests)

-- of one count more
pub greatest_more : (counts : List ℕ) (most count : ℕ) → IsGreatest counts most → IsGreatest (counts ++ count ∷ []) (ord_max nat_cmp most count)
greatest_more counts most count is =
    subst (λ (b : Bool). IsGreatest (counts ++ count ∷ []) (cond b most count)) (sym (less_is count most)) (by (ltb count most) refl) where
      by : (b : Bool) → ltb count most ≡ b → IsGreatest (counts ++ count ∷ []) (cond b most count)
      by true h = let less = ltb-true count most h in record {
        none_more = All-push (λ n. n ≤ most) counts count is.none_more (omega (arith, less));
        one = elim is.one [
          | inl none ↦ inl none
          | inr has ↦ inr (Contains-append_left counts (count ∷ []) most has)
        ];
      }
      by false h = let le = ltb-false count most h in record {
        none_more = All-push (λ n. n ≤ count) counts count
            (All-weaker (λ n. n ≤ most) (λ n. n ≤ count) (λ n under. omega (arith, le, under)) counts is.none_more) (omega arith);
        one = inr (Contains-push counts count);
      }

-- the greatest count is what the client has that has most
pub is_most : (clients : ℕ) (commands : List Command) (counts : List ℕ) (most : ℕ) → AreBegun clients commands counts → IsGreatest counts most
    → IsMost clients commands most
is_most clients commands counts most begun greatest =
    let many = begun.many in record {
      none_more = λ n lt.
          let low : n < length counts = omega (arith, lt, many) in
          let at = greatest.none_more n 0 low in
          let here = begun.each n low in
          omega (arith, at, here);
      one = elim greatest.one [
        | inl none ↦ inl none
        | inr has ↦
            let low = has.1 in
            inr (
              has.0,
              omega (arith, low, many),
              sym (begun.each has.0 low) ∙ (sym (get_or_default_zero counts has.0 most low) ∙ has.2),
            )
      ];
    }
