-- The replies of all clients, as they are passed in the order of the script's commands.
use Rattle.std.proofs.Common.{◌≡◌, ◌≢◌, ◌∙◌, ◌⊎◌, inl, inr, refl, ap, sym, subst, ℕ, ◌+◌, ◌-◌, ◌<◌, Bool, true, false, List, [], ◌∷◌, length, drop, get_or, set, Some, arith, eq-eqb}
use Rattle.std.specs.Prelude.{◌==◌, slice_get}
use Rattle.std.specs.List.{All}
use Rattle.std.proofs.lemmas.Bool.{cases_Bool, eqb-true, false_from_ne_true}
use Rattle.std.proofs.lemmas.List.{drop_more, drop_all, get_or-set_same, get_or-set_other, length-drop, length-set}
use Rattle.std.proofs.lemmas.Option.{get_or_from_slice_get, slice_get-get_or, slice_get_within}
use Rattle.log_node.proofs.CallerLemmas.{same_some}
use Rattle.col_core.specs.Log.{Log}
use Rattle.col_core.specs.Keeping.{Kept, nothing_kept}
use Rattle.col_core.proofs.CallerLemmas.{if_false, if_true}
use Rattle.script_text.specs.declared.script.Command.{Command}
use Rattle.script_text.specs.declared.script.Script.{Script}
use Rattle.report_text.specs.declared.report.ClientReport.{ClientReport}
use Rattle.report_text.specs.declared.report.ReplyLine.{ReplyLine}
use Rattle.column_track.specs.Tracks.{Tells}
use Rattle.lawful_run.specs.Callers.{Caller, caller_of, commands_of}
use Rattle.walk_law.specs.Replies.{AreAllPassed, AreAllReplies, AreReplies, GoesOn, HasCome, HaveCome, IsBegun, Passed, of_client}
use Rattle.walk_law.proofs.Members.{told_as}

pub goes : (b : Bool) (Next Whole : Type 0) → b ≡ true → GoesOn b Next Whole → Next
goes true Next Whole is g = g
goes false Next Whole is g = absurd (let f : ⊥ = cc is in f)

pub goes_not : (b : Bool) (Next Whole : Type 0) → b ≡ false → GoesOn b Next Whole → Whole → ⊥
goes_not true Next Whole is g = absurd (let f : ⊥ = cc is in f)
goes_not false Next Whole is g = g

-- AT FIRST

pub have_begun : (script : Script) (clients : List ClientReport) (passed : List Passed) → All IsBegun passed
    → HaveCome script clients script.commands passed
have_begun script clients passed begun log shown n c p at there = record {
  kept = nothing_kept;
  reads = fresh.1 c.replies;
  to = subst Rest fresh.0;
  from = subst Rest (sym fresh.0);
} where
  fresh : IsBegun p
  fresh = subst IsBegun (get_or_from_slice_get passed n p p there) (begun n p (slice_get_within passed n p there))

  Rest : ℕ → Type 0
  Rest k = AreReplies log (caller_of script n) (shown n) nothing_kept (commands_of script n) (drop k c.replies)

-- ONE COMMAND MORE

own_first : (command : Command) (later : List Command)
    → of_client command.client (command ∷ later) ≡ command ∷ of_client command.client later
own_first command later =
    if_true (command.client == command.client) (command ∷ of_client command.client later) (of_client command.client later)
    (eq-eqb command.client command.client refl)

other_first : (n : ℕ) (command : Command) (later : List Command) → n ≢ command.client
    → of_client n (command ∷ later) ≡ of_client n later
other_first n command later other =
    if_false (command.client == n) (command ∷ of_client n later) (of_client n later)
    (false_from_ne_true (command.client == n) (λ t. other (sym (eqb-true command.client n t))))

module _ (script : Script) (clients : List ClientReport) (i : ℕ) (passed : List Passed)
    (come : HaveCome script clients (drop i script.commands) passed) (long : length passed ≡ length clients)
    (command : Command) (lt : i < length script.commands) (is : command ≡ get_or script.commands i command)
    (within : command.client < length clients) (client : ClientReport) where
  abbrev number : ℕ
  number = command.client

  abbrev later : List Command
  later = drop (i + 1) script.commands

  abbrev own : ClientReport
  own = get_or clients number client

  next : drop i script.commands ≡ command ∷ later
  next = drop_more script.commands i command lt ∙ ap (λ (c : Command). c ∷ later) (sym is)

  shows : slice_get clients number ≡ Some own
  shows = slice_get-get_or clients number client within

  module _ (replies : List ReplyLine) (theirs : replies ≡ own.replies) where
    abbrev Comes : Log → (ℕ → ℕ → ℕ → List ℕ) → List Command → Passed → Type 0
    Comes log shown left p = HasCome log (caller_of script number) (shown number) (commands_of script number) replies left p

    pub before : (log : Log) (shown : ℕ → ℕ → ℕ → List ℕ) (old : Passed) → old ≡ get_or passed number old
        → Comes log shown (command ∷ of_client number later) old
    before log shown old was =
        subst (λ (rs : List ReplyLine). HasCome log (caller_of script number) (shown number) (commands_of script number) rs
        (command ∷ of_client number later) old) (sym theirs)
        (subst (λ (left : List Command). HasCome log (caller_of script number) (shown number) (commands_of script number)
        own.replies left old) (ap (of_client number) next ∙ own_first command later)
        (come log shown number own old shows
        (slice_get-get_or passed number old (omega (arith, within, long)) ∙ ap (λ (p : Passed). Some p) (sym was))))

    -- its replies are among those of all clients
    pub theirs_too : (log : Log) (shown : ℕ → ℕ → ℕ → List ℕ) → AreAllReplies log shown script clients
        → AreReplies log (caller_of script number) (shown number) nothing_kept (commands_of script number) replies
    theirs_too log shown all =
        subst (AreReplies log (caller_of script number) (shown number) nothing_kept (commands_of script number)) (sym theirs)
        (all number own shows)

    module _ (new : Passed) (on : (log : Log) (shown : ℕ → ℕ → ℕ → List ℕ) → Comes log shown (of_client number later) new) where
      pub come_on : HaveCome script clients later (set passed number new)
      come_on log shown n c p at there = by (cases_Bool (n == number)) where
        Goal : ℕ → ClientReport → Passed → Type 0
        Goal m d q = HasCome log (caller_of script m) (shown m) (commands_of script m) d.replies (of_client m later) q

        inside : n < length passed
        inside = let w = slice_get_within (set passed number new) n p there in let l = length-set passed number new in omega (arith, w, l)

        stands : get_or (set passed number new) n p ≡ p
        stands = get_or_from_slice_get (set passed number new) n p p there

        same : n ≡ number → Goal n c p
        same e =
            let q : new ≡ p =
            sym (get_or-set_same passed number new p (subst (λ (m : ℕ). m < length passed) e inside))
            ∙ (ap (λ (m : ℕ). get_or (set passed number new) m p) (sym e) ∙ stands) in
            let d : own ≡ c = same_some (sym shows ∙ (ap (slice_get clients) (sym e) ∙ at)) in
            subst (λ (m : ℕ). Goal m c p) (sym e)
            (subst (Goal number c) q
            (subst (λ (x : ClientReport). Goal number x new) d
            (subst (λ (rs : List ReplyLine). HasCome log (caller_of script number) (shown number) (commands_of script number) rs
            (of_client number later) new) theirs (on log shown))))

        other : n ≢ number → Goal n c p
        other apart =
            subst (λ (left : List Command). HasCome log (caller_of script n) (shown n) (commands_of script n) c.replies left p)
            (ap (of_client n) next ∙ other_first n command later apart)
            (come log shown n c p at
            (slice_get-get_or passed n p inside
            ∙ ap (λ (x : Passed). Some x) (sym (get_or-set_other passed number n new p apart) ∙ stands)))

        by : ((n == number) ≡ true) ⊎ ((n == number) ≡ false) → Goal n c p
        by (inl t) = same (eqb-true n number t)
        by (inr f) = other (λ e. let g : ⊥ = cc (eq-eqb n number e, f) in g)

-- IN THE END

none_more : (log : Log) (caller : Caller) (shown : ℕ → ℕ → List ℕ) (kept : Kept) (rs : List ReplyLine)
    → AreReplies log caller shown kept [] rs → rs ≡ []
none_more log caller shown kept [] are = refl
none_more log caller shown kept (r ∷ rs) are = absurd are

pub all_told : (script : Script) (clients : List ClientReport) (passed : List Passed) (left : List Command) → left ≡ []
    → HaveCome script clients left passed → length passed ≡ length clients
    → (log : Log) (shown : ℕ → ℕ → ℕ → List ℕ) (b : Bool) → Tells b (AreAllPassed clients passed)
    → Tells b (AreAllReplies log shown script clients)
all_told script clients passed left none come long log shown b told =
    told_as b (AreAllPassed clients passed) (AreAllReplies log shown script clients) to from told where
      at_end : (n : ℕ) (c : ClientReport) (p : Passed) → slice_get clients n ≡ Some c → slice_get passed n ≡ Some p
          → HasCome log (caller_of script n) (shown n) (commands_of script n) c.replies [] p
      at_end n c p at there =
          subst (λ (cs : List Command). HasCome log (caller_of script n) (shown n) (commands_of script n) c.replies (of_client n cs) p)
          none (come log shown n c p at there)

      to : AreAllPassed clients passed → AreAllReplies log shown script clients
      to all n c at =
          let d : Passed = record { next = 0; reads = [] } in
          let w = slice_get_within clients n c at in
          let there = slice_get-get_or passed n d (omega (arith, w, long)) in
          let p = get_or passed n d in
          let h = at_end n c p at there in
          h.to (subst (AreReplies log (caller_of script n) (shown n) h.kept []) (sym (drop_all p.next c.replies (all n c p at there))) tt)

      from : AreAllReplies log shown script clients → AreAllPassed clients passed
      from all n c p at there =
          let h = at_end n c p at there in
          let e = none_more log (caller_of script n) (shown n) h.kept (drop p.next c.replies) (h.from (all n c at)) in
          let l = length-drop p.next c.replies in
          let z : 0 ≡ length c.replies - p.next = sym (ap length e) ∙ l in
          omega (arith, z)
