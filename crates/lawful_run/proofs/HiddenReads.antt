-- Syncs of which no answer tells, one after another.
use Rattle.std.proofs.Common.{◌≡◌, ℕ, ◌+◌, ◌≤◌, max, List, [], ◌∷◌, ◌++◌, refl, ap, sym, subst, ◌∙◌, arith}
use Rattle.std.specs.Prelude.{◌==◌}
use mathlib.Core.Path.{fun_ext}
use Rattle.std.proofs.lemmas.Bool.{eqb-true}
use Rattle.log_node.specs.declared.ids.Counts.{Counts}
use Rattle.col_core.specs.Log.{Log}
use Rattle.col_core.specs.Keeping.{Kept, updated, seen_past, with_made}
use Rattle.col_core.proofs.CallerLemmas.{choice}
use Rattle.lawful_run.specs.Callers.{Caller}
use Rattle.lawful_run.specs.Reads.{Syncs, HidesSync, not_played, played, HidesSyncs}

-- what is kept after one of them
abbrev pub kept_after_hidden : Kept → ℕ → Counts → ℕ → Kept
kept_after_hidden kept colour snapshot stamp =
    record kept { floor = max kept.floor stamp; starts = updated kept.starts colour snapshot }

-- the syncs of some colours, and then those of others
pub hides_more : (log : Log) (caller : Caller) (kept middle after : Kept) (colours others : List ℕ)
    → HidesSyncs log caller kept colours middle → HidesSyncs log caller middle others after
    → HidesSyncs log caller kept (colours ++ others) after
hides_more log caller kept middle after [] others h more =
    subst (λ (k : Kept). HidesSyncs log caller k others after) h more
hides_more log caller kept middle after (colour ∷ colours) others h more = (
  h.0,
  h.1,
  h.2,
  hides_more log caller (kept_after_hidden kept colour h.0 h.1) middle after colours others h.3 more,
)

-- one sync more
pub hides_one_more : (log : Log) (caller : Caller) (kept middle : Kept) (colours : List ℕ) (colour : ℕ)
    (snapshot : Counts) (stamp : ℕ)
    → HidesSyncs log caller kept colours middle → HidesSync log caller middle colour snapshot stamp
    → HidesSyncs log caller kept (colours ++ colour ∷ []) (kept_after_hidden middle colour snapshot stamp)
hides_one_more log caller kept middle colours colour snapshot stamp h one =
    hides_more log caller kept middle (kept_after_hidden middle colour snapshot stamp) colours (colour ∷ []) h
    (snapshot, stamp, one, refl)

-- a start that is put in its own place
same_start : (starts : ℕ → Counts) (colour : ℕ) → updated starts colour (starts colour) ≡ starts
same_start starts colour = fun_ext (λ n.
    choice (λ (v : Counts). v ≡ starts n) (n == colour) (starts colour) (starts n)
    (λ t. ap starts (sym (eqb-true n colour t))) (λ _. refl))

-- where a sync did not play, the client keeps what it kept
pub kept_unplayed : (kept : Kept) (colour : ℕ) → kept_after_hidden kept colour (kept.starts colour) 0 ≡ kept
kept_unplayed kept colour =
    let floor : max kept.floor 0 ≡ kept.floor = omega arith in
    ap (λ (s : ℕ → Counts). record kept { floor = max kept.floor 0; starts = s }) (same_start kept.starts colour)
    ∙ ap (λ (f : ℕ). record kept { floor = f }) floor

-- none of these was played
pub hides_none : (log : Log) (caller : Caller) (kept : Kept) (colours : List ℕ)
    → HidesSyncs log caller kept colours kept
hides_none log caller kept [] = refl
hides_none log caller kept (colour ∷ colours) = (
  kept.starts colour,
  0,
  not_played,
  subst (λ (k : Kept). HidesSyncs log caller k colours kept) (sym (kept_unplayed kept colour))
      (hides_none log caller kept colours),
)

-- no less is seen past some places
past_more : (seen : ℕ) (places : List ℕ) → seen ≤ seen_past seen places
past_more seen [] = omega arith
past_more seen (place ∷ places) = let a = past_more (max seen (place + 1)) places in omega (arith, a)

-- what a client has made hides no sync
sync_without : (log : Log) (caller : Caller) (kept : Kept) (places : ℕ → List ℕ) (colour events : ℕ) (snapshot : Counts)
    → Syncs log caller (with_made kept caller.own places) colour events snapshot
    → Syncs log caller kept colour events snapshot
sync_without log caller kept places colour events snapshot s =
    let more : kept.seen caller.own colour ≤ (with_made kept caller.own places).seen caller.own colour =
    choice (λ (f : ℕ → ℕ). kept.seen caller.own colour ≤ f colour) (caller.own == caller.own)
    (λ c. seen_past (kept.seen caller.own c) (places c)) (kept.seen caller.own)
    (λ _. past_more (kept.seen caller.own colour) (places colour)) (λ _. omega arith) in
    let unseen = s.unseen in
    record {
      unseen = omega (arith, more, unseen);
      there = s.there;
      cut = s.cut;
      not_trimmed = s.not_trimmed;
      within = s.within;
    }

hidden_without : (log : Log) (caller : Caller) (kept : Kept) (places : ℕ → List ℕ) (colour : ℕ) (snapshot : Counts)
    (stamp : ℕ) → HidesSync log caller (with_made kept caller.own places) colour snapshot stamp
    → HidesSync log caller kept colour snapshot stamp
hidden_without log caller kept places colour snapshot stamp not_played = not_played
hidden_without log caller kept places colour snapshot stamp (played events s syncs) =
    played events snapshot (sync_without log caller kept places colour events snapshot syncs)

-- Syncs of which no answer tells, of a client that has made events: they are as well of what it kept before these.
pub hides_without : (log : Log) (caller : Caller) (kept : Kept) (places : ℕ → List ℕ) (colours : List ℕ) (after : Kept)
    → HidesSyncs log caller (with_made kept caller.own places) colours after
    → (synced : Kept) × HidesSyncs log caller kept colours synced × (after ≡ with_made synced caller.own places)
hides_without log caller kept places [] after h = (kept, refl, h)
hides_without log caller kept places (colour ∷ colours) after h =
    let rest = hides_without log caller (kept_after_hidden kept colour h.0 h.1) places colours after h.3 in
    (rest.0, (h.0, h.1, hidden_without log caller kept places colour h.0 h.1 h.2, rest.1), rest.2)
