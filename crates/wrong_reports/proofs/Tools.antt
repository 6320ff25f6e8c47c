-- What is read off a lawful run of a few commands.
use Rattle.std.proofs.Common.{◌≡◌, ◌⊎◌, inl, inr, ℕ, zero, suc, ◌<◌, List, [], ◌∷◌, ◌++◌, length, Some, None, refl}
use Rattle.std.proofs.Common.{ap, sym, subst, ◌∙◌, slice_get, arith}
use Rattle.std.specs.Prelude.{map, Option}
use Rattle.std.specs.List.{All}
use Rattle.log_node.specs.declared.ids.Colours.{Colours}
use Rattle.log_node.specs.declared.forms.Pair.{Pair}
use Rattle.log_node.specs.declared.forms.Version.{Version}
use Rattle.log_node.specs.declared.forms.Form.TheVariants as forms
use Rattle.log_node.specs.Sets.{members}
use Rattle.object_form.specs.Forms.{form_text}
use Rattle.script_text.specs.declared.script.Kind.{Kind}
use Rattle.script_text.specs.declared.script.Kind.TheVariants as kinds
use Rattle.script_text.specs.declared.commands.What.{What}
use Rattle.script_text.specs.declared.commands.What.TheVariants as whats
use Rattle.script_text.specs.declared.script.Command.{Command}
use Rattle.report_text.specs.declared.report.ReplyLine.{ReplyLine}
use Rattle.report_text.specs.declared.report.ColumnReport.{ColumnReport}
use Rattle.report_text.specs.declared.report.SyncPiece.{SyncPiece}
use Rattle.col_core.specs.Log.{Log}
use Rattle.col_core.specs.Keeping.{Kept, nothing_kept}
use Rattle.lawful_run.specs.Callers.{Caller}
use Rattle.lawful_run.specs.Asks.{kind_of_object, kind_asked, kind_used, colours_of_object, shards, keys_of_pairs}
use Rattle.lawful_run.specs.Deeds.{saying_of, SaysNode, AsksToAppend}
use Rattle.lawful_run.specs.Columns.{IsColumnReport}
use Rattle.lawful_run.specs.Explains.{Explained, Answers, start, next}
use Rattle.lawful_run.specs.Lawful.{LawfulRun}
use Rattle.lawful_run.specs.Parts.{AsksOf, AsksToDecide}
use Rattle.wrong_reports.specs.Cases.{Case}

no_end : {A : Type 0} (xs : List A) (x : A) → [] ≡ xs ++ x ∷ [] → ⊥
no_end [] x e = cc (e)
no_end (y ∷ ys) x e = cc (e)

-- a list with one more at its end is put together in one way
pub same_end : {A : Type 0} (xs ys : List A) (x y : A) → xs ++ x ∷ [] ≡ ys ++ y ∷ [] → (xs ≡ ys) × (x ≡ y)
same_end [] [] x y e = (refl, cc (e))
same_end [] (z ∷ zs) x y e = absurd (no_end zs y (cc (e)))
same_end (z ∷ zs) [] x y e = absurd (no_end zs x (sym (cc (e))))
same_end (v ∷ vs) (z ∷ zs) x y e =
    let h : v ≡ z = cc (e) in
    let t : vs ++ x ∷ [] ≡ zs ++ y ∷ [] = cc (e) in
    let s = same_end vs zs x y t in
    let s0 = s.0 in
    (cc (h, s0), s.1)

-- what the last reply says, after the replies before
pub record EndsWith (log : Log) (caller : Caller) (commands : List Command) (replies : List ReplyLine)
    (command : Command)
    (reply : ReplyLine) (after : Kept) : Type 0 where
  pub kept : Kept
  pub before : Explained log caller commands replies kept
  pub last : Answers log caller kept command reply after

module _ (log : Log) (caller : Caller) where
  abbrev Splits : List Command → List ReplyLine → Kept → Type 0
  Splits cs rs after =
      ((cs ≡ []) × (rs ≡ []) × (after ≡ nothing_kept))
      ⊎ ((commands : List Command) × (replies : List ReplyLine) × (command : Command) × (reply : ReplyLine)
      × (cs ≡ commands ++ command ∷ []) × (rs ≡ replies ++ reply ∷ [])
      × EndsWith log caller commands replies command reply after)

  splits : {cs : List Command} {rs : List ReplyLine} {after : Kept} → Explained log caller cs rs after
      → Splits cs rs after
  splits start = inl (refl, refl, refl)
  splits (next {commands} {replies} {kept} command reply before last) =
      inr (commands, replies, command, reply, refl, refl, record { kept = kept; before = before; last = last })

  pub none_kept : {after : Kept} → Explained log caller [] [] after → after ≡ nothing_kept
  none_kept e = elim (splits e) [
    | inl s ↦ s.2
    | inr s ↦ absurd (no_end s.0 s.2 s.4)
  ]

  pub ends_with : (cs : List Command) (rs : List ReplyLine) (c : Command) (r : ReplyLine) (after : Kept)
      → Explained log caller (cs ++ c ∷ []) (rs ++ r ∷ []) after → EndsWith log caller cs rs c r after
  ends_with cs rs c r after e = elim (splits e) [
    | inl s ↦ absurd (no_end cs c (sym s.0))
    | inr s ↦
        let p = same_end cs s.0 c s.2 s.4 in
        let q = same_end rs s.1 r s.3 s.5 in
        let p0 = p.0 in let p1 = p.1 in let q0 = q.0 in let q1 = q.1 in
        rw (p0, p1, q0, q1) s.6
  ]

  pub no_fewer : (cs : List Command) (c : Command) (after : Kept) → Explained log caller (cs ++ c ∷ []) [] after → ⊥
  no_fewer cs c after e = elim (splits e) [
    | inl s ↦ no_end cs c (sym s.0)
    | inr s ↦ no_end s.1 s.3 s.5
  ]

  -- the reply to the one command
  pub only : (c : Command) (r : ReplyLine) (after : Kept) → Explained log caller (c ∷ []) (r ∷ []) after
      → Answers log caller nothing_kept c r after
  only c r after e =
      let s = ends_with [] [] c r after e in
      let k = none_kept s.before in
      subst (λ kept. Answers log caller kept c r after) k s.last

-- two that are there are the same
pub some_same : {A : Type 0} (x y : A) → Some x ≡ Some y → x ≡ y
some_same x y e = cc (e)

pub none_there : {A : Type 0} (x : A) → None ≡ Some x → ⊥
none_there x e = cc (e)

pub all_at : {A : Type 0} (P : A → Type 0) (xs : List A) (k : ℕ) (x : A) → slice_get xs k ≡ Some x → All P xs → P x
all_at P [] k x e a = absurd (let f : ⊥ = cc (e) in f)
all_at P (z ∷ zs) zero x e a = let h : z ≡ x = cc (e) in subst P h (a 0 z (let l : 0 < length (z
    ∷ zs) = omega arith in l))
all_at P (z ∷ zs) (suc k) x e a =
    all_at P zs k x e (λ n d lt. a (suc n) d (let l : suc n < suc (length zs) = omega (arith, lt) in l))

-- a column of the report
pub column_at : (case : Case) (run : LawfulRun case.script case.report) (k : ℕ) (c : ColumnReport)
    → slice_get case.report.columns k ≡ Some c → IsColumnReport run.log case.script c
column_at case run k c e = all_at (IsColumnReport run.log case.script) case.report.columns k c e run.columns.each

-- the versions that a commit names
abbrev NamesVersions : Caller → Kept → ℕ → List Pair → Colours → List ℕ → Type 0
NamesVersions caller kept object pairs colours text =
    (versions : List Version) × (kept.reads object ≡ Some versions)
    × (members colours ≡ shards (colours_of_object caller object) (map (λ (v : Version). v.key) versions ++ keys_of_pairs pairs))
    × (text ≡ form_text (forms.Transaction versions pairs))

pub versions_named : (caller : Caller) (kept : Kept) (object : ℕ) (pairs : List Pair) (colours : Colours) (text : List ℕ)
    → AsksToAppend caller kept (whats.Commit object pairs) colours text
    → NamesVersions caller kept object pairs colours text
versions_named caller kept object pairs colours text = by (kept.reads object) refl where
  by : (found : Option (List Version)) → kept.reads object ≡ found
      → SaysNode (colours_of_object caller object) (saying_of (kind_of_object caller object) found (whats.Commit object pairs)) colours text
      → NamesVersions caller kept object pairs colours text
  by None is asks = absurd asks
  by (Some versions) is asks = (versions, is, asks.0, asks.1)

-- the kind of the object of a command that asks for a key
pub asked_kind : (caller : Caller) (what : What) (sync : SyncPiece) (kind : Option Kind) (key : List ℕ)
    → AsksOf caller what sync kind key → kind_asked caller what ≡ kind
asked_kind caller what sync kind key asks = ap (kind_used caller) asks.1.uses ∙ asks.2

-- and of a decide
pub decide_kind : (caller : Caller) (what : What) (sync : SyncPiece) (colours : List ℕ)
    → (asks : AsksToDecide caller what sync colours) → kind_asked caller what ≡ Some (kinds.Parts asks.3 colours)
decide_kind caller what sync colours asks = ap (kind_asked caller) asks.2 ∙ asks.4
