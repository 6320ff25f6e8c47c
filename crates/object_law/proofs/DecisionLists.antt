-- The decisions of a report, gone over.
use Rattle.std.proofs.Common.{◌≡◌, ◌⊎◌, ◌∙◌, refl, ap, sym, subst, ℕ, ◌+◌, ◌<◌, ◌≤◌, List, [], ◌∷◌, ◌++◌, length, Option, Some, None, inl, inr, arith}
use Rattle.std.specs.Prelude.{slice_get}
use Rattle.std.specs.List.{All, Contains}
use Rattle.std.specs.List.Sorted.{IsPermutation}
use Rattle.std.proofs.lemmas.Bool.{cases_lt}
use Rattle.std.proofs.lemmas.List.Elements.{All-nil, All-push}
use Rattle.std.proofs.lemmas.List.Sorted.{All-permutation, Contains-permutation}
use Rattle.std.proofs.lemmas.Option.{slice_get_within}
use Rattle.col_core.proofs.CallerLemmas.{contains_in, in_contains, in_left, in_right}
use Rattle.script_text.specs.declared.script.Script.{Script}
use Rattle.report_text.specs.declared.report.ClientReport.{ClientReport}
use Rattle.report_text.specs.declared.report.ReplyLine.{ReplyLine}
use Rattle.report_text.specs.declared.report.Report.{Report}
use Rattle.lawful_run.specs.Callers.{commands_of}
use Rattle.run_rules.specs.Computing.{answer_in, answer_to}
use Rattle.run_rules.specs.Telling.{IsWellFormed, replies_in, replies_to}
use Rattle.column_track.specs.Tracks.{Tracked}
use Rattle.object_law.specs.declared.decisions_by_stamp.StampedDecision.{StampedDecision}
use Rattle.object_law.specs.Decided.{AreDecisionsOf, IsDecisionOf, stamp_of_read}
use Rattle.walk_law.specs.Walking.{IsStepOf, MayWalk, Walked}

-- where there is a decision, the client is one of the report's
pub client_low : (report : Report) (n k stamp : ℕ) → stamp_of_read (answer_to report n k) ≡ Some stamp → n < length report.clients
client_low report n k stamp e = by (slice_get report.clients n) refl e where
  by : (o : Option ClientReport) → slice_get report.clients n ≡ o
      → stamp_of_read (answer_in (slice_get (replies_in o) k)) ≡ Some stamp → n < length report.clients
  by None s f = absurd (let no_stamp : ⊥ = cc (f) in no_stamp)
  by (Some c) s f = slice_get_within report.clients n c s

-- and has a command in its place
pub place_low : (script : Script) (report : Report) → IsWellFormed script report → (n k stamp : ℕ)
    → stamp_of_read (answer_to report n k) ≡ Some stamp → k < length (commands_of script n)
place_low script report well n k stamp e = by (slice_get report.clients n) refl e where
  at : (rs : List ReplyLine) → stamp_of_read (answer_in (slice_get rs k)) ≡ Some stamp → (o : Option ReplyLine) → slice_get rs k ≡ o
      → k < length rs
  at rs f None s =
      absurd (let g = sym f ∙ ap (λ (o : Option ReplyLine). stamp_of_read (answer_in o)) s in let no_stamp : ⊥ = cc (g) in no_stamp)
  at rs f (Some r) s = slice_get_within rs k r s

  by : (o : Option ClientReport) → slice_get report.clients n ≡ o
      → stamp_of_read (answer_in (slice_get (replies_in o) k)) ≡ Some stamp → k < length (commands_of script n)
  by None s f = absurd (let no_stamp : ⊥ = cc (f) in no_stamp)
  by (Some c) s f =
      let many = well.replied n c s in
      let lt = at c.replies f (slice_get c.replies k) refl in omega (arith, many, lt)

-- what is contained stays so behind one more
more_contains : {A : Type 0} (xs : List A) (y x : A) → Contains xs x → Contains (xs ++ y ∷ []) x
more_contains xs y x c = contains_in (xs ++ y ∷ []) x (in_left x xs (y ∷ []) (in_contains xs x c))

last_contains : {A : Type 0} (xs : List A) (x : A) → Contains (xs ++ x ∷ []) x
last_contains xs x = contains_in (xs ++ x ∷ []) x (in_right x xs (x ∷ []) (inl refl))

-- the decisions of the first so many clients, and those of the next one before a place
pub record AreDecisionsTo (walked : Walked) (client place : ℕ) (decisions : List StampedDecision) : Type 0 where
  pub before : AreDecisionsOf walked client decisions
  pub here : (k stamp : ℕ) → k < place → stamp_of_read (answer_to walked.report client k) ≡ Some stamp
      → Contains decisions (record { stamp = stamp; client = client; place = k })

-- of no client
pub decisions_none : (walked : Walked) (decisions : List StampedDecision) → decisions ≡ [] → AreDecisionsOf walked 0 decisions
decisions_none walked decisions is = record {
  each = subst (All (IsDecisionOf walked)) (sym is) (All-nil (IsDecisionOf walked));
  all = λ c k stamp lt. absurd (let f : ⊥ = omega (arith, lt) in f);
}

module _ (walked : Walked) (client place : ℕ) (decisions : List StampedDecision) where
  pub decisions_begin : AreDecisionsOf walked client decisions → AreDecisionsTo walked client 0 decisions
  decisions_begin are = record { before = are; here = λ k stamp lt. absurd (let f : ⊥ = omega (arith, lt) in f) }

  -- the reply in the next place
  module _ (reply : ReplyLine) (there : slice_get (replies_to walked.report client) place ≡ Some reply)
      (so_far : AreDecisionsTo walked client place decisions) where
    answered : stamp_of_read (answer_to walked.report client place) ≡ stamp_of_read reply.answer
    answered = ap (λ (o : Option ReplyLine). stamp_of_read (answer_in o)) there

    pub no_more_decisions : stamp_of_read reply.answer ≡ None → AreDecisionsTo walked client (place + 1) decisions
    no_more_decisions none = record {
      before = so_far.before;
      here = λ k stamp lt e. by k stamp lt e (cases_lt k place);
    } where
      by : (k stamp : ℕ) → k < place + 1 → stamp_of_read (answer_to walked.report client k) ≡ Some stamp → (k < place) ⊎ (place ≤ k)
          → Contains decisions (record { stamp = stamp; client = client; place = k })
      by k stamp lt e (inl less) = so_far.here k stamp less e
      by k stamp lt e (inr le) =
          let at : k ≡ place = omega (arith, lt, le) in
          let told = sym e ∙ (ap (λ (j : ℕ). stamp_of_read (answer_to walked.report client j)) at ∙ (answered ∙ none)) in
          absurd (let f : ⊥ = cc (told) in f)

    pub one_more_decision : IsStepOf walked client place → (stamp : ℕ) → stamp_of_read reply.answer ≡ Some stamp
        → (more : List StampedDecision) → more ≡ decisions ++ record { stamp = stamp; client = client; place = place } ∷ []
        → AreDecisionsTo walked client (place + 1) more
    one_more_decision step stamp is more longer = record {
      before = record {
        each = subst (All (IsDecisionOf walked)) (sym longer)
            (All-push (IsDecisionOf walked) decisions one so_far.before.each (record { step = step; stamp = answered ∙ is }));
        all = λ c k s lt e. kept (record { stamp = s; client = c; place = k }) (so_far.before.all c k s lt e);
      };
      here = λ k s lt e. by k s lt e (cases_lt k place);
    } where
      one : StampedDecision
      one = record { stamp = stamp; client = client; place = place }

      kept : (r : StampedDecision) → Contains decisions r → Contains more r
      kept r c = subst (λ (l : List StampedDecision). Contains l r) (sym longer) (more_contains decisions one r c)

      by : (k s : ℕ) → k < place + 1 → stamp_of_read (answer_to walked.report client k) ≡ Some s → (k < place) ⊎ (place ≤ k)
          → Contains more (record { stamp = s; client = client; place = k })
      by k s lt e (inl less) = kept (record { stamp = s; client = client; place = k }) (so_far.here k s less e)
      by k s lt e (inr le) =
          let at : k ≡ place = omega (arith, lt, le) in
          let told : Some stamp ≡ Some s =
          sym is ∙ (sym answered ∙ (ap (λ (j : ℕ). stamp_of_read (answer_to walked.report client j)) (sym at) ∙ e)) in
          let same : stamp ≡ s = cc (told) in
          subst (λ (j : ℕ). Contains more (record { stamp = s; client = client; place = j })) (sym at)
          (subst (λ (m : ℕ). Contains more (record { stamp = m; client = client; place = place })) same
          (subst (λ (l : List StampedDecision). Contains l one) (sym longer) (last_contains decisions one)))

  -- those of the client too
  pub decisions_end : (tracks : List Tracked) → MayWalk walked.script walked.report tracks
      → length (commands_of walked.script client) ≤ place → AreDecisionsTo walked client place decisions
      → AreDecisionsOf walked (client + 1) decisions
  decisions_end tracks may past so_far = record {
    each = so_far.before.each;
    all = λ c k stamp lt e. by c k stamp lt e (cases_lt c client);
  } where
    by : (c k stamp : ℕ) → c < client + 1 → stamp_of_read (answer_to walked.report c k) ≡ Some stamp → (c < client) ⊎ (client ≤ c)
        → Contains decisions (record { stamp = stamp; client = c; place = k })
    by c k stamp lt e (inl less) = so_far.before.all c k stamp less e
    by c k stamp lt e (inr le) =
        let at : c ≡ client = omega (arith, lt, le) in
        let told = subst (λ (m : ℕ). stamp_of_read (answer_to walked.report m k) ≡ Some stamp) at e in
        let low = place_low walked.script walked.report may.formed client k stamp told in
        subst (λ (m : ℕ). Contains decisions (record { stamp = stamp; client = m; place = k })) (sym at)
        (so_far.here k stamp (omega (arith, low, past)) told)

-- in another order they are the same
pub decisions_moved : (walked : Walked) (clients : ℕ) (xs ys : List StampedDecision) → IsPermutation xs ys
    → AreDecisionsOf walked clients xs → AreDecisionsOf walked clients ys
decisions_moved walked clients xs ys moved are = record {
  each = All-permutation (IsDecisionOf walked) xs ys moved are.each;
  all = λ c k stamp lt e. Contains-permutation xs ys (record { stamp = stamp; client = c; place = k }) moved (are.all c k stamp lt e);
}

-- those of so many clients are those of fewer
pub decisions_all : (walked : Walked) (count clients : ℕ) (decisions : List StampedDecision) → clients ≤ count
    → AreDecisionsOf walked count decisions → AreDecisionsOf walked clients decisions
decisions_all walked count clients decisions le are = record {
  each = are.each;
  all = λ c k stamp lt e. are.all c k stamp (omega (arith, lt, le)) e;
}
