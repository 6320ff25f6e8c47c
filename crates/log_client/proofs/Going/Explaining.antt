-- Calls one after another, and what explains them.
use Rattle.std.proofs.Common.{◌≡◌, ℕ, List, [], Some, refl, sym, subst, ◌∙◌, arith}
use Rattle.std.specs.Prelude.{slice_get}
use Rattle.std.proofs.lemmas.Option.{slice_get_within}
use Rattle.stamp_board.proofs.CallerLemmas.{Learns-trans}
use Rattle.chain_store.specs.declared.hold.Hold.{Hold}
use Rattle.chain_store.specs.Holds.{seen_in, view_of}
use Rattle.col_core.specs.Log.{Log, IsLater}
use Rattle.col_core.specs.Keeping.{Kept}
use Rattle.script_text.specs.declared.script.Object.{Object}
use Rattle.lawful_run.specs.Callers.{Caller}
use Rattle.client_law.specs.Knowing.{Rest, log_seen, SeesOn}
use Rattle.client_law.proofs.CallerLemmas.{seen_later}
use Rattle.log_client.specs.declared.store.Store.{Store}
use Rattle.log_client.specs.declared.client.Client.{Client}
use Rattle.log_client.specs.Fits.{HasGoneOn, HaveGoneOn}
use Rattle.log_client.specs.Clients.{holds_of, seen_of, caller_of, IsClient}
use Rattle.log_client.specs.Calls.{IsExplained, IsSame}
use Rattle.log_client.specs.Reading.{RestsOn, KeepsWith, KeepsAll}
use Rattle.log_client.proofs.Lists.{got}
use Rattle.log_client.proofs.Known.Fitting.{fits_less}
use Rattle.log_client.proofs.Going.Staying.{prefix_on}
use Rattle.log_client.proofs.Going.AtHome.{gone_same}
use Rattle.log_client.proofs.Going.GoingOn.{client_sees_on, same_caller}
use Rattle.log_client.proofs.Going.Growing.{grown_same, grown_then}

pub same_then : (c d e : Client) → IsSame c d → IsSame d e → IsSame c e
same_then c d e p q = (q.0 ∙ p.0, q.1 ∙ p.1)

-- HOLDS THAT GO ON

one_then : (g h k : Hold) → HasGoneOn g h → HasGoneOn h k → HasGoneOn g k
one_then g h k a b = record {
  number = b.number ∙ a.number;
  more = λ c. prefix_on (seen_in g c) (seen_in h c) (seen_in k c) (a.more c) (b.more c);
  size = b.size ∙ a.size;
  learns = Learns-trans (view_of g) (view_of h) (view_of k) a.learns b.learns;
}

pub goes_on_then : (gs hs ks : List Hold) → HaveGoneOn gs hs → HaveGoneOn hs ks → HaveGoneOn gs ks
goes_on_then gs hs ks a b = (
  b.0 ∙ a.0,
  λ n g k at to.
      let lt = slice_get_within gs n g at in
      let many = a.0 in
      let h = got hs n (omega (arith, lt, many)) in
      one_then g h.0 k (a.1 n g h.0 at h.1) (b.1 n h.0 k h.1 to),
)

-- a client that rests is itself at a later time
pub rests_same : (s : Store) (c : Client) → IsClient s c → RestsOn s c c
rests_same s c is = record {
  client = is;
  same = (refl, refl);
  goes = (refl, λ n g h at to. subst (HasGoneOn g) (same_one (holds_of c) n g h at to) (gone_same g));
  grows = grown_same c c refl;
  finished = λ f. f;
} where
  same_one : (hs : List Hold) (n : ℕ) (g h : Hold) → slice_get hs n ≡ Some g → slice_get hs n ≡ Some h → g ≡ h
  same_one hs n g h at to = let e : Some g ≡ Some h = sym at ∙ to in let f : g ≡ h = cc (e) in f

pub rests_then : (s : Store) (c d e : Client) → RestsOn s c d → RestsOn s d e → RestsOn s c e
rests_then s c d e a b = record {
  client = b.client;
  same = same_then c d e a.same b.same;
  goes = goes_on_then (holds_of c) (holds_of d) (holds_of e) a.goes b.goes;
  grows = grown_then c d e a.grows b.grows;
  finished = λ f. b.finished (a.finished f);
}

-- WHAT EXPLAINS THEM

module _ (s : Store) (c d : Client) (on : RestsOn s c d) where
  -- what is seen later is more, and lawful
  pub sees_then : (objects : List Object) → SeesOn (caller_of s d objects) (seen_of c) (seen_of d)
  sees_then objects = client_sees_on s c d objects on.client on.goes

  pub log_then : (rest : Rest) → IsLater (log_seen (seen_of c) rest) (log_seen (seen_of d) rest)
  log_then rest = seen_later (caller_of s d []) (seen_of c) (seen_of d) rest (sees_then [])

pub explained_so : (s : Store) (c d : Client) (after : Kept → Kept) (Record : Log → Caller → Kept → Type 0)
    (Says : Log → Caller → Kept → Kept → Type 0)
    → ((log : Log) (caller : Caller) (kept : Kept) → Record log caller kept → Says log caller kept (after kept))
    → KeepsWith s c d after Record → IsExplained s c d Says
explained_so s c d after Record Says says keeps objects kept finished k =
    let r = keeps objects kept finished k in
    (after kept, r.0, λ rest fits. says (log_seen (seen_of d) rest) (caller_of s d objects) kept (r.1 rest fits))

-- one call after another: what held of the log holds of it later
pub keeps_then : (s : Store) (c d e : Client) (first second : Kept → Kept) (R Q : Log → Caller → Kept → Type 0)
    → RestsOn s c d → RestsOn s d e
    → ((old new : Log) (caller : Caller) (kept : Kept) → IsLater old new → R old caller kept → R new caller kept)
    → KeepsWith s c d first R → KeepsWith s d e second Q
    → KeepsWith s c e (λ kept. second (first kept)) (λ log caller kept. R log caller kept × Q log caller (first kept))
keeps_then s c d e first second R Q a b later before last objects kept finished k =
    let x = before objects kept finished k in
    let y = last objects (first kept) (a.finished finished) x.0 in (
      y.0,
      λ rest fits. (
        subst (λ (z : Caller). R (log_seen (seen_of e) rest) z kept) (same_caller s d e objects b.same)
            (later (log_seen (seen_of d) rest) (log_seen (seen_of e) rest) (caller_of s d objects) kept
            (log_then s d e b rest) (x.1 rest (fits_less (holds_of d) (holds_of e) rest b.goes fits))),
        y.1 rest fits,
      ),
    )

-- it says less
pub keeps_less : (s : Store) (c d : Client) (after : Kept → Kept) (R Q : Log → Caller → Kept → Type 0)
    → ((log : Log) (caller : Caller) (kept : Kept) → R log caller kept → Q log caller kept)
    → KeepsWith s c d after R → KeepsWith s c d after Q
keeps_less s c d after R Q less keeps objects kept finished k =
    let r = keeps objects kept finished k in
    (r.0, λ rest fits. less (log_seen (seen_of d) rest) (caller_of s d objects) kept (r.1 rest fits))

pub keeps_same : (s : Store) (c : Client) → KeepsAll s c c
keeps_same s c objects kept finished k = (k, λ rest fits. tt)

pub keeps_all_then : (s : Store) (c d e : Client) → RestsOn s c d → RestsOn s d e → KeepsAll s c d → KeepsAll s d e
    → KeepsAll s c e
keeps_all_then s c d e a b x y objects kept finished k =
    ((y objects kept (a.finished finished) (x objects kept finished k).0).0, λ rest fits. tt)
