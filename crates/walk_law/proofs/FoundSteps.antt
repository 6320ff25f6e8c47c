-- The steps of an account with what reads found, beside those of the one with no nodes.
use Rattle.std.proofs.Common.{◌≡◌, ◌∙◌, refl, ap, subst, ℕ, zero, suc, ◌<◌, List, [], ◌∷◌, length, map, Some, inl, inr, arith}
use Rattle.std.specs.Prelude.{◌==◌, slice_get}
use Rattle.std.specs.List.{All, AllZip}
use Rattle.std.proofs.lemmas.List.{length-map}
use Rattle.std.proofs.lemmas.List.Elements.{All-nil, All-cons, All-head, All-tail, All-contains}
use Rattle.std.proofs.lemmas.Option.{slice_get_within}
use Rattle.log_node.specs.declared.forms.Version.{Version}
use Rattle.log_node.specs.declared.node.Node.{Node}
use Rattle.col_core.specs.Log.{Log}
use Rattle.col_core.specs.Keeping.{Kept, nothing_kept}
use Rattle.col_core.proofs.CallerLemmas.{In, by_test, contains_in, if_false, if_true, in_filter, in_map-back}
use Rattle.script_text.specs.declared.script.Command.{Command}
use Rattle.script_text.specs.declared.script.Script.{Script}
use Rattle.script_text.specs.Fitting.{IsFitting, IsWithin, UsesObject}
use Rattle.report_text.specs.declared.report.Answer.{Answer}
use Rattle.report_text.specs.declared.report.Answer.TheVariants as answers
use Rattle.report_text.specs.declared.report.ClientReport.{ClientReport}
use Rattle.report_text.specs.declared.report.KeyAnswer.{KeyAnswer}
use Rattle.report_text.specs.declared.report.ReplyLine.{ReplyLine}
use Rattle.report_text.specs.declared.report.Report.{Report}
use Rattle.lawful_run.specs.Callers.{Caller, caller_of}
use Rattle.run_rules.specs.Told.{Account, AreKeysFound, Follow, IsTold, Step, kept_past}
use Rattle.run_rules.specs.Telling.{FindKeys, IsWellFormed, account_of, account_with, no_nodes, replies_in, replies_to, unnamed}
use Rattle.run_rules.specs.Computing.{account_finding, answer_in, answer_to, any_decisions, finds_below, finds_of, found_at, keys_shown, last_read, versions_told}
use Rattle.run_rules.specs.Keeping.{RulesTo, all_replies}
use Rattle.run_rules.specs.Laws.{ComputedAccountAgrees, FindsTell}
use Rattle.run_rules.specs.Agreeing.{Agree, AreStepsAlike, KeepSame}
use Rattle.run_rules.proofs.CallerLemmas.{reports_tell, rule1}

-- WHAT READS FOUND

mapped_twice : {X Y Z : Type 0} (f : Y → Z) (g : X → Y) (xs : List X) → map f (map g xs) ≡ map (λ x. f (g x)) xs
mapped_twice f g [] = refl
mapped_twice f g (x ∷ xs) = ap (λ l. f (g x) ∷ l) (mapped_twice f g xs)

pub keys_unnamed : (answer : Answer) → AreKeysFound (unnamed answer) answer
keys_unnamed (answers.GotKeys stamp shown raises syncs) = mapped_twice (λ (v : Version). v.key) _ shown
keys_unnamed _ = tt

-- of what was found the keys are those that are shown
keys_at : (now : ℕ) (log : Log) (caller : Caller) (answer : Answer) (found : List Version) → AreKeysFound found answer
    → AreKeysFound (found_at now log caller answer found) answer
keys_at now log caller (answers.GotKeys stamp shown raises syncs) found k =
    by_test _ (stamp == now)
    (λ t. ap (map (λ (v : Version). v.key)) (if_true (stamp == now) (versions_told log caller stamp shown syncs) found t)
    ∙ (mapped_twice (λ (v : Version). v.key) _ (keys_shown shown)
    ∙ mapped_twice (λ (key : List ℕ). key) (λ (a : KeyAnswer). a.key) shown))
    (λ f. ap (map (λ (v : Version). v.key)) (if_false (stamp == now) (versions_told log caller stamp shown syncs) found f) ∙ k)
keys_at now log caller _ found k = k

pub find_keys : (found : ℕ → List Version) (rs : List ReplyLine)
    → ((k : ℕ) → AreKeysFound (found k) (answer_in (slice_get rs k))) → FindKeys found rs
find_keys found [] f = tt
find_keys found (r ∷ rs) f = (f 0, find_keys (λ k. found (suc k)) rs (λ k. f (suc k)))

keys_below : (script : Script) (report : Report) (now n k : ℕ)
    → AreKeysFound (finds_below script report now n k) (answer_to report n k)
keys_below script report zero n k = keys_unnamed (answer_to report n k)
keys_below script report (suc now) n k =
    keys_at now (account_finding script report (finds_below script report now) any_decisions).log (caller_of script n)
    (answer_to report n k) (finds_below script report now n k) (keys_below script report now n k)

found_keys : (script : Script) (report : Report) (n : ℕ) (c : ClientReport) → slice_get report.clients n ≡ Some c
    → FindKeys (finds_of script report n) c.replies
found_keys script report n c there =
    let now = suc (last_read (all_replies report)) in
    subst (FindKeys (finds_below script report now n)) (ap replies_in there)
    (find_keys (finds_below script report now n) (replies_to report n) (keys_below script report now n))

-- STEPS BESIDE ONE ANOTHER

-- what is so of the steps of one list is so of those of the other
across : {R : Step → Step → Type 0} {P Q : Step → Type 0} (xs ys : List Step) → AllZip R xs ys
    → ((x y : Step) → In x xs → R x y → P x → Q y) → All P xs → All Q ys
across {R} {P} {Q} [] [] z f all = All-nil Q
across {R} {P} {Q} [] (y ∷ ys) z f all = absurd z
across {R} {P} {Q} (x ∷ xs) [] z f all = absurd z
across {R} {P} {Q} (x ∷ xs) (y ∷ ys) z f all =
    All-cons Q y ys (f x y (inl refl) z.0 (All-head P x xs all))
    (across {R = R} {P = P} {Q = Q} xs ys z.1 (λ v w i. f v w (inr i)) (All-tail P x xs all))

back : {R : Step → Step → Type 0} {P Q : Step → Type 0} (xs ys : List Step) → AllZip R xs ys
    → ((x y : Step) → In x xs → R x y → Q y → P x) → All Q ys → All P xs
back {R} {P} {Q} [] ys z f all = All-nil P
back {R} {P} {Q} (x ∷ xs) [] z f all = absurd z
back {R} {P} {Q} (x ∷ xs) (y ∷ ys) z f all =
    All-cons P x xs (f x y (inl refl) z.0 (All-head Q y ys all))
    (back {R = R} {P = P} {Q = Q} xs ys z.1 (λ v w i. f v w (inr i)) (All-tail Q y ys all))

-- two steps are alike, and behind them the client keeps the same
pub record AreBeside (script : Script) (caller : Caller) (one two : Log) (x y : Step) : Type 0 where
  pub alike : AreStepsAlike script caller x y
  pub past : KeepSame script (kept_past one caller x) (kept_past two caller y)

module _ (script : Script) (caller : Caller) (one two : Log) where
  abbrev Alike : Step → Step → Type 0
  Alike = AreStepsAlike script caller

  heads_same : (k m : Kept) (xs ys : List Step) (l j : Kept) → Follow one caller k xs l → Follow two caller m ys j
      → AllZip Alike xs ys → KeepSame script l j → KeepSame script k m
  heads_same k m [] [] l j f g z s =
      subst (KeepSame script k) g (subst (λ (h : Kept). KeepSame script h j) f s)
  heads_same k m [] (y ∷ ys) l j f g z s = absurd z
  heads_same k m (x ∷ xs) [] l j f g z s = absurd z
  heads_same k m (x ∷ xs) (y ∷ ys) l j f g z s =
      subst (KeepSame script k) g.0 (subst (λ (h : Kept). KeepSame script h y.kept) f.0 z.0.kept)

  beside : (k m : Kept) (xs ys : List Step) (l j : Kept) → Follow one caller k xs l → Follow two caller m ys j
      → AllZip Alike xs ys → KeepSame script l j → AllZip (AreBeside script caller one two) xs ys
  beside k m [] [] l j f g z s = tt
  beside k m [] (y ∷ ys) l j f g z s = absurd z
  beside k m (x ∷ xs) [] l j f g z s = absurd z
  beside k m (x ∷ xs) (y ∷ ys) l j f g z s = (
    record {
      alike = z.0;
      past = heads_same (kept_past one caller x) (kept_past two caller y) xs ys l j f.1 g.1 z.1 s;
    },
    beside (kept_past one caller x) (kept_past two caller y) xs ys l j f.1 g.1 z.1 s,
  )

-- at the account with these nodes
module _ (tell : FindsTell) (agrees : ComputedAccountAgrees) (script : Script) (report : Report) (nodes : ℕ → List Node)
    (fits : IsFitting script) (well : IsWellFormed script report)
    (rules : RulesTo script report (account_with script report nodes (finds_of script report)) 4) where
  abbrev shown : Account
  shown = account_with script report nodes (finds_of script report)

  abbrev bare : Account
  bare = account_of script report no_nodes

  pub told : IsTold script report shown
  told = tell script report nodes (finds_of script report) well (found_keys script report)

  same : Agree script report shown bare
  same = (agrees script report no_nodes shown fits well told rules).0

  module _ (n : ℕ) (c : ClientReport) (at : slice_get report.clients n ≡ Some c) where
    abbrev who : Caller
    who = caller_of script n

    pub pairs : AllZip (AreBeside script who shown.log bare.log) (shown.steps n) (bare.steps n)
    pairs =
        beside script who shown.log bare.log nothing_kept nothing_kept (shown.steps n) (bare.steps n) (shown.last n) (bare.last n)
        (told.clients n c at).follow ((reports_tell script report no_nodes well).clients n c at).follow (same.steps n c at)
        (same.last n c at)

    -- what is so of steps of the one account is so of those of the other
    pub to_bare : (P Q : Step → Type 0)
        → ((x y : Step) → In x (shown.steps n) → AreBeside script who shown.log bare.log x y → P x → Q y)
        → All P (shown.steps n) → All Q (bare.steps n)
    to_bare P Q f all =
        across {R = AreBeside script who shown.log bare.log} {P = P} {Q = Q} (shown.steps n) (bare.steps n) pairs f all

    pub to_found : (P Q : Step → Type 0)
        → ((x y : Step) → In x (shown.steps n) → AreBeside script who shown.log bare.log x y → Q y → P x)
        → All Q (bare.steps n) → All P (shown.steps n)
    to_found P Q f all =
        back {R = AreBeside script who shown.log bare.log} {P = P} {Q = Q} (shown.steps n) (bare.steps n) pairs f all

    -- the region of a client is one of the shape
    pub home_low : who.own < script.shape.regions
    home_low =
        let names = ap length (rule1 rules.0.0.0.1).names in
        let long = length-map report.clients (λ (x : ClientReport). x.name) in
        let many = fits.clients in
        let lt = slice_get_within report.clients n c at in
        fits.shape.homes n 0 (omega (arith, names, long, many, lt))

    -- a step's command is one of the script
    pub its_command : (x : Step) → In x (shown.steps n) → In x.command script.commands
    its_command x i =
        (in_filter (λ (d : Command). d.client == n) x.command script.commands
        (subst (In x.command) (told.clients n c at).commands (in_map-back (λ (s : Step). s.command) (shown.steps n) x i))).0

    pub its_within : (x : Step) → In x (shown.steps n) → IsWithin script.shape.regions script.shape.colours x.command.what
    its_within x i =
        All-contains (λ (d : Command). IsWithin script.shape.regions script.shape.colours d.what) script.commands x.command
        fits.commands (contains_in script.commands x.command (its_command x i))

    pub its_object : (x : Step) → In x (shown.steps n) → UsesObject script.objects x.command.what
    its_object x i =
        All-contains (λ (d : Command). UsesObject script.objects d.what) script.commands x.command fits.uses
        (contains_in script.commands x.command (its_command x i))
