-- The reads of keys of a report, gone over.
use Rattle.std.proofs.Common.{◌≡◌, ◌⊎◌, ◌∙◌, refl, ap, sym, subst, ℕ, ◌+◌, ◌<◌, ◌≤◌, List, [], ◌∷◌, ◌++◌, length, Option, Some, None, inl, inr, arith}
use Rattle.std.specs.Prelude.{slice_get}
use Rattle.std.specs.List.{All, Contains}
use Rattle.std.specs.List.Sorted.{IsPermutation}
use Rattle.std.proofs.lemmas.Bool.{cases_lt}
use Rattle.std.proofs.lemmas.List.Elements.{All-nil, All-push}
use Rattle.std.proofs.lemmas.List.Sorted.{All-permutation, Contains-permutation}
use Rattle.col_core.proofs.CallerLemmas.{contains_in, in_contains, in_left, in_right}
use Rattle.report_text.specs.declared.report.ReplyLine.{ReplyLine}
use Rattle.lawful_run.specs.Callers.{commands_of}
use Rattle.run_rules.specs.Computing.{answer_in, answer_to}
use Rattle.run_rules.specs.Telling.{replies_to}
use Rattle.column_track.specs.Tracks.{Tracked}
use Rattle.object_law.specs.declared.reads_by_stamp.StampedRead.{StampedRead}
use Rattle.object_law.specs.Found.{AreReadsOf, IsReadOf, read_stamp}
use Rattle.walk_law.specs.Walking.{IsStepOf, MayWalk, Walked}
use Rattle.object_law.proofs.FoundLemmas.{place_low}

-- what is contained stays so behind one more
more_contains : {A : Type 0} (xs : List A) (y x : A) → Contains xs x → Contains (xs ++ y ∷ []) x
more_contains xs y x c = contains_in (xs ++ y ∷ []) x (in_left x xs (y ∷ []) (in_contains xs x c))

last_contains : {A : Type 0} (xs : List A) (x : A) → Contains (xs ++ x ∷ []) x
last_contains xs x = contains_in (xs ++ x ∷ []) x (in_right x xs (x ∷ []) (inl refl))

-- the reads of the first so many clients, and those of the next one before a place
pub record AreReadsTo (walked : Walked) (client place : ℕ) (reads : List StampedRead) : Type 0 where
  pub before : AreReadsOf walked client reads
  pub here : (k stamp : ℕ) → k < place → read_stamp (answer_to walked.report client k) ≡ Some stamp
      → Contains reads (record { stamp = stamp; client = client; place = k })

-- of no client
pub reads_none : (walked : Walked) (reads : List StampedRead) → reads ≡ [] → AreReadsOf walked 0 reads
reads_none walked reads is = record {
  each = subst (All (IsReadOf walked)) (sym is) (All-nil (IsReadOf walked));
  all = λ c k stamp lt. absurd (let f : ⊥ = omega (arith, lt) in f);
}

module _ (walked : Walked) (client place : ℕ) (reads : List StampedRead) where
  pub reads_begin : AreReadsOf walked client reads → AreReadsTo walked client 0 reads
  reads_begin are = record { before = are; here = λ k stamp lt. absurd (let f : ⊥ = omega (arith, lt) in f) }

  -- the reply in the next place
  module _ (reply : ReplyLine) (there : slice_get (replies_to walked.report client) place ≡ Some reply)
      (so_far : AreReadsTo walked client place reads) where
    answered : read_stamp (answer_to walked.report client place) ≡ read_stamp reply.answer
    answered = ap (λ (o : Option ReplyLine). read_stamp (answer_in o)) there

    pub no_more_reads : read_stamp reply.answer ≡ None → AreReadsTo walked client (place + 1) reads
    no_more_reads none = record {
      before = so_far.before;
      here = λ k stamp lt e. by k stamp lt e (cases_lt k place);
    } where
      by : (k stamp : ℕ) → k < place + 1 → read_stamp (answer_to walked.report client k) ≡ Some stamp → (k < place) ⊎ (place ≤ k)
          → Contains reads (record { stamp = stamp; client = client; place = k })
      by k stamp lt e (inl less) = so_far.here k stamp less e
      by k stamp lt e (inr le) =
          let at : k ≡ place = omega (arith, lt, le) in
          let told = sym e ∙ (ap (λ (j : ℕ). read_stamp (answer_to walked.report client j)) at ∙ (answered ∙ none)) in
          absurd (let f : ⊥ = cc (told) in f)

    pub one_more_read : IsStepOf walked client place → (stamp : ℕ) → read_stamp reply.answer ≡ Some stamp → (more : List StampedRead)
        → more ≡ reads ++ record { stamp = stamp; client = client; place = place } ∷ []
        → AreReadsTo walked client (place + 1) more
    one_more_read step stamp is more longer = record {
      before = record {
        each = subst (All (IsReadOf walked)) (sym longer)
            (All-push (IsReadOf walked) reads read so_far.before.each (record { step = step; stamp = answered ∙ is }));
        all = λ c k s lt e. kept (record { stamp = s; client = c; place = k }) (so_far.before.all c k s lt e);
      };
      here = λ k s lt e. by k s lt e (cases_lt k place);
    } where
      read : StampedRead
      read = record { stamp = stamp; client = client; place = place }

      kept : (r : StampedRead) → Contains reads r → Contains more r
      kept r c = subst (λ (l : List StampedRead). Contains l r) (sym longer) (more_contains reads read r c)

      by : (k s : ℕ) → k < place + 1 → read_stamp (answer_to walked.report client k) ≡ Some s → (k < place) ⊎ (place ≤ k)
          → Contains more (record { stamp = s; client = client; place = k })
      by k s lt e (inl less) = kept (record { stamp = s; client = client; place = k }) (so_far.here k s less e)
      by k s lt e (inr le) =
          let at : k ≡ place = omega (arith, lt, le) in
          let told : Some stamp ≡ Some s =
          sym is ∙ (sym answered ∙ (ap (λ (j : ℕ). read_stamp (answer_to walked.report client j)) (sym at) ∙ e)) in
          let same : stamp ≡ s = cc (told) in
          subst (λ (j : ℕ). Contains more (record { stamp = s; client = client; place = j })) (sym at)
          (subst (λ (m : ℕ). Contains more (record { stamp = m; client = client; place = place })) same
          (subst (λ (l : List StampedRead). Contains l read) (sym longer) (last_contains reads read)))

  -- those of the client too
  pub reads_end : (tracks : List Tracked) → MayWalk walked.script walked.report tracks
      → length (commands_of walked.script client) ≤ place → AreReadsTo walked client place reads → AreReadsOf walked (client + 1) reads
  reads_end tracks may past so_far = record {
    each = so_far.before.each;
    all = λ c k stamp lt e. by c k stamp lt e (cases_lt c client);
  } where
    by : (c k stamp : ℕ) → c < client + 1 → read_stamp (answer_to walked.report c k) ≡ Some stamp → (c < client) ⊎ (client ≤ c)
        → Contains reads (record { stamp = stamp; client = c; place = k })
    by c k stamp lt e (inl less) = so_far.before.all c k stamp less e
    by c k stamp lt e (inr le) =
        let at : c ≡ client = omega (arith, lt, le) in
        let told = subst (λ (m : ℕ). read_stamp (answer_to walked.report m k) ≡ Some stamp) at e in
        let low = place_low walked.script walked.report may.formed client k stamp told in
        subst (λ (m : ℕ). Contains reads (record { stamp = stamp; client = m; place = k })) (sym at)
        (so_far.here k stamp (omega (arith, low, past)) told)

-- those of as many clients as there are, or more, are all
pub reads_all : (walked : Walked) (clients many : ℕ) (reads : List StampedRead) → many ≤ clients → AreReadsOf walked clients reads
    → AreReadsOf walked many reads
reads_all walked clients many reads le are = record {
  each = are.each;
  all = λ c k stamp lt e. are.all c k stamp (omega (arith, lt, le)) e;
}

-- in another order they are the same
pub reads_moved : (walked : Walked) (clients : ℕ) (xs ys : List StampedRead) → IsPermutation xs ys → AreReadsOf walked clients xs
    → AreReadsOf walked clients ys
reads_moved walked clients xs ys moved are = record {
  each = All-permutation (IsReadOf walked) xs ys moved are.each;
  all = λ c k stamp lt e. Contains-permutation xs ys (record { stamp = stamp; client = c; place = k }) moved (are.all c k stamp lt e);
}
