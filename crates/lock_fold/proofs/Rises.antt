-- Tokens are some of the stamps, in their order.
use Rattle.std.proofs.Common.{◌≡◌, ◌<◌, ℕ, Bool, true, false, List, [], ◌∷◌, ◌++◌, refl, ap, sym, subst, append-nil}
use Rattle.std.specs.Prelude.{◌==◌, codes, cond, filter, if◌then◌else◌, not}
use Rattle.std.specs.List.{fold}
use Rattle.std.specs.Str.{bytes_eq}
use Rattle.object_fold.specs.Nodes.{ObjectNode}
use Rattle.lock_fold.specs.declared.lock.Ticket.{Ticket}
use Rattle.lock_fold.specs.Rising.{IsBelowAll, Rise, stamps, tokens}
use Rattle.lock_fold.specs.Tickets.{ticket_of, tickets_with, without}

below_less : (x y : ℕ) (xs ys : List ℕ) → IsBelowAll x (xs ++ y ∷ ys) → IsBelowAll x (xs ++ ys)
below_less x y [] ys b = b.1
below_less x y (z ∷ xs) ys b = (b.0, below_less x y xs ys b.1)

-- one number less
rise_less : (y : ℕ) (xs ys : List ℕ) → Rise (xs ++ y ∷ ys) → Rise (xs ++ ys)
rise_less y [] ys r = r.1
rise_less y (x ∷ xs) ys r = (below_less x y xs ys r.0, rise_less y xs ys r.1)

module _ (test : Ticket → Bool) where
  below_some : (x : ℕ) (t : Ticket) (w : List Ticket) (ys : List ℕ) (k : Bool) → x < t.token
      → IsBelowAll x (tokens (filter test w) ++ ys) → IsBelowAll x (tokens (cond k (t ∷ filter test w) (filter test w)) ++ ys)
  below_some x t w ys true lt b = (lt, b)
  below_some x t w ys false lt b = b

  below_filter : (x : ℕ) (w : List Ticket) (ys : List ℕ) → IsBelowAll x (tokens w ++ ys)
      → IsBelowAll x (tokens (filter test w) ++ ys)
  below_filter x [] ys b = b
  below_filter x (t ∷ w) ys b = below_some x t w ys (test t) b.0 (below_filter x w ys b.1)

  rise_some : (t : Ticket) (w : List Ticket) (ys : List ℕ) (k : Bool) → IsBelowAll t.token (tokens (filter test w) ++ ys)
      → Rise (tokens (filter test w) ++ ys) → Rise (tokens (cond k (t ∷ filter test w) (filter test w)) ++ ys)
  rise_some t w ys true b r = (b, r)
  rise_some t w ys false b r = r

  -- the tokens of some of the tickets
  rise_filter : (w : List Ticket) (ys : List ℕ) → Rise (tokens w ++ ys) → Rise (tokens (filter test w) ++ ys)
  rise_filter [] ys r = r
  rise_filter (t ∷ w) ys r = rise_some t w ys (test t) (below_filter t.token w ys r.0) (rise_filter w ys r.1)

-- a ticket more
tokens_push : (w : List Ticket) (t : Ticket) (ys : List ℕ) → tokens (w ++ t ∷ []) ++ ys ≡ tokens w ++ t.token ∷ ys
tokens_push [] t ys = refl
tokens_push (x ∷ w) t ys = ap (λ (l : List ℕ). x.token ∷ l) (tokens_push w t ys)

-- a node more
rise_with : (w : List Ticket) (n : ObjectNode) (ns : List ObjectNode) → Rise (tokens w ++ n.key.stamp ∷ stamps ns)
    → Rise (tokens (tickets_with w n) ++ stamps ns)
rise_with w n ns r = by (bytes_eq n.text (codes "ask")) (bytes_eq n.text (codes "leave")) where
  by : (asks leaves : Bool)
      → Rise (tokens (if asks then w ++ ticket_of n ∷ [] else if leaves then without n.key.id.client w else w) ++ stamps ns)
  by true leaves = subst Rise (sym (tokens_push w (ticket_of n) (stamps ns))) r
  by false true =
      rise_filter (λ (t : Ticket). not (t.client == n.key.id.client)) w (stamps ns) (rise_less n.key.stamp (tokens w) (stamps ns) r)
  by false false = rise_less n.key.stamp (tokens w) (stamps ns) r

-- all nodes
pub rise_on : (w : List Ticket) (nodes : List ObjectNode) → Rise (tokens w ++ stamps nodes)
    → Rise (tokens (fold tickets_with w nodes))
rise_on w [] r = subst Rise (append-nil (tokens w)) r
rise_on w (n ∷ ns) r = rise_on (tickets_with w n) ns (rise_with w n ns r)
