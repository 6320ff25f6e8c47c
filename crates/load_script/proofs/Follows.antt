-- In a run that only appends, syncs and pulls each append stands, where no command found want of memory.
use Rattle.std.proofs.Common.{◌≡◌, ℕ, ◌+◌, ◌<◌, ◌≤◌, Bool, true, false, cond, List, [], ◌∷◌, ◌++◌, length, map, take, Option, Some, None, refl, ap, sym, subst, ◌∙◌, inl, arith, length-append}
use Rattle.std.specs.Prelude.{◌≢◌, nat_lt}
use Rattle.std.specs.List.{All, Contains, filter}
use Rattle.std.proofs.lemmas.Bool.{lt-ltb}
use Rattle.std.proofs.lemmas.List.{map_push, take_all}
use Rattle.std.proofs.lemmas.List.Elements.{All-contains}
use Rattle.log_node.specs.declared.ids.Colours.{Colours}
use Rattle.log_node.specs.declared.marks.ColourMark.{ColourMark}
use Rattle.log_node.specs.declared.marks.Mark.TheVariants as marks
use Rattle.log_node.specs.declared.marks.Why.TheVariants.{StampEnd}
use Rattle.log_node.specs.declared.node.Node.{Node}
use Rattle.log_node.specs.Sets.{members}
use Rattle.col_core.specs.declared.Entry.{Entry}
use Rattle.col_core.specs.History.{clock, IsAtEnd}
use Rattle.col_core.specs.Keeping.{Kept, kept_after_event}
use Rattle.col_core.specs.Log.{Log}
use Rattle.col_core.specs.Rows.{BegunRow, FitsRow, IsMarkOf}
use Rattle.col_core.proofs.CallerLemmas.{In, in_contains, contains_in, in_left, in_right}
use Rattle.script_text.specs.declared.commands.What.{What}
use Rattle.script_text.specs.declared.script.Command.{Command}
use Rattle.script_text.specs.declared.script.Script.{Script}
use Rattle.script_text.specs.Fitting.{AreBelow, IsWithin, IsFitting}
use Rattle.report_text.specs.declared.report.Answer.{Answer}
use Rattle.report_text.specs.declared.report.Answer.TheVariants as answers
use Rattle.report_text.specs.declared.report.PointPiece.{PointPiece}
use Rattle.report_text.specs.declared.report.ReplyLine.{ReplyLine}
use Rattle.report_text.specs.declared.report.Report.{Report}
use Rattle.lawful_run.specs.Callers.{Caller, caller_of, commands_of, node_of}
use Rattle.lawful_run.specs.Appends.{Appends, HasNoStamp, none_for_one, none_for_several}
use Rattle.lawful_run.specs.Explains.{Explained, start, next}
use Rattle.lawful_run.specs.Lawful.{LawfulRun}
use Rattle.lawful_run.specs.Moves.{with_places}
use Rattle.lawful_run.specs.Readings.{told}
use Rattle.lawful_run.proofs.CallerLemmas.{points_leave}
use Rattle.load_script.specs.Plain.{IsPlainScript, IsUnwanting}
use Rattle.load_script.specs.Summing.{appended, is_node, is_of_row, appends, begins_row, tells_node}
use Rattle.load_script.proofs.Counts.{in_map}
use Rattle.load_script.proofs.Answers.{Comes, stood, without_stamp, full, synced, pulled, unchanged, answer_comes}
use Rattle.load_script.proofs.Traces.{trace}
use Rattle.load_script.proofs.Stamps.{Has, home_within, commands_plain, stamped, clock_stamped}
use Rattle.load_script.proofs.Bounds.{IsLoadSized, bounded, filtered, place_same}

-- how many stand where a test holds of one
abbrev pub one_if : Bool → ℕ
one_if true = 1
one_if false = 0

pub length_filter_push : {A : Type 0} (p : A → Bool) (xs : List A) (x : A)
    → length (filter p (xs ++ x ∷ [])) ≡ length (filter p xs) + one_if (p x)
length_filter_push p [] x = at (p x) where
  at : (b : Bool) → length (cond b (x ∷ []) []) ≡ 0 + one_if b
  at true = refl
  at false = refl
length_filter_push p (y ∷ ys) x = at (p y) (length_filter_push p ys x) where
  at : (b : Bool) → length (filter p (ys ++ x ∷ [])) ≡ length (filter p ys) + one_if (p x)
      → length (cond b (y ∷ filter p (ys ++ x ∷ [])) (filter p (ys ++ x ∷ []))) ≡ length
      (cond b (y ∷ filter p ys) (filter p ys)) + one_if (p x)
  at true e = omega (arith, e)
  at false e = e

-- a reply tells of a node
abbrev pub tells : ReplyLine → Bool
tells reply = tells_node (told reply.answer)

module _ (script : Script) (report : Report) (fits : IsFitting script) (plain : IsPlainScript script)
    (sized : IsLoadSized script) (run : LawfulRun script report)
    (unwanting : IsUnwanting report) (n : ℕ) (lt : n < length script.shape.homes) where
  abbrev log : Log
  log = run.log

  abbrev caller : Caller
  caller = caller_of script n

  not_at_end : (colour events : ℕ) → colour < script.shape.colours → (floor : ℕ) → Has log script floor
      → IsAtEnd (take events (log.histories caller.own colour)) floor → ⊥
  not_at_end colour events lc floor h e =
      let a = bounded script report fits plain sized run unwanting (clock (take events (log.histories caller.own colour)))
      (clock_stamped script report fits plain run unwanting caller.own colour events
      (home_within script report fits plain run unwanting n lt) lc) in
      let b = bounded script report fits plain sized run unwanting floor h in
      let f : ⊥ = omega (arith, a, b, e) in f

  module _ (kept : Kept) (floor : Has log script kept.floor) (rows : kept.rows < script.shape.rows) where
    -- stamps are left
    has_stamps : (set : Colours) (text : List ℕ) → AreBelow script.shape.colours set → (colour : ℕ) (after : Kept)
        → HasNoStamp log caller kept (node_of caller kept set text) colour after → ⊥
    has_stamps set text below colour _ (none_for_one only had) =
        not_at_end colour had.events
        (All-contains (λ c. c < script.shape.colours) (members set) colour below
        (subst (λ (l : List ℕ). Contains l colour) (sym only) (0, omega arith, refl)))
        kept.floor floor had.ended
    has_stamps set text below colour _ (none_for_several places g) =
        let node = node_of caller kept set text in
        let r = g.ends.fence.0 in
        let begun = g.ends.fence.1 in
        let law = run.begun.lawful caller.own (home_within script report fits plain run unwanting n lt) in
        let m : ColourMark = record { colour = colour; mark = marks.Fenced StampEnd } in
        let all = All-contains (λ (x : BegunRow). All (λ (m : ColourMark). IsMarkOf
        (log.histories caller.own m.colour) x.node m.mark) x.marks)
        (log.rows caller.own) r law.marks begun.begun in
        let is = All-contains (λ (m : ColourMark). IsMarkOf (log.histories caller.own m.colour) r.node m.mark)
        r.marks m all g.ends.fence.2 in
        let fit = All-contains (FitsRow caller.own) (log.rows caller.own) r law.fit begun.begun in
        let among : In colour (members r.node.colours) =
        subst (λ (l : List ℕ). In colour l) fit.a_mark_each
        (in_map (λ (x : ColourMark). x.colour) r.marks m (in_contains r.marks m g.ends.fence.2)) in
        let here : In colour (members set) = subst (λ (x : Node). In colour (members x.colours)) begun.of_node among in
        let lc = All-contains (λ c. c < script.shape.colours) (members set) colour below
        (contains_in (members set) colour here) in
        let h = log.histories caller.own colour in
        let ended : IsAtEnd h kept.floor = subst (λ (x : Node). IsAtEnd h x.floor) begun.of_node is.1 in
        not_at_end colour (length h) lc kept.floor floor
        (subst (λ (es : List Entry). IsAtEnd es kept.floor) (sym (take_all (length h) h (omega arith))) ended)

    stood_rows : (set : Colours) (text : List ℕ) (stamp : ℕ) (row : Option ℕ) (points : List PointPiece) (after : Kept)
        → Appends log caller kept (node_of caller kept set text) stamp row points after
        → after.rows ≡ kept.rows + one_if (is_of_row (Some set))
    stood_rows set text stamp None [] after a = absurd a
    stood_rows set text stamp None (p ∷ []) after a =
        let e = ap (λ (k : Kept). k.rows) a.4 in
        let b = ap one_if (ap (λ (l : List ℕ). nat_lt 1 (length l)) a.0) in
        omega (arith, e, b)
    stood_rows set text stamp None (p ∷ q ∷ points) after a = absurd a
    stood_rows set text stamp (Some number) points after a =
        let e = ap (λ (k : Kept). k.rows) a.3 in
        let s = (points_leave caller.own kept points).rows in
        let b = ap one_if (lt-ltb 1 (length (members set)) a.2.begins.several) in
        omega (arith, e, s, b)

    -- what a command tells, and the rows after it
    abbrev Follows : What → Answer → Kept → Type 0
    Follows what answer after = (tells_node (told answer) ≡ is_node (appended what))
        × (after.rows ≡ kept.rows + one_if (is_of_row (appended what)))

    none_begun : (what : What) → is_node (appended what) ≡ false → one_if (is_of_row (appended what)) ≡ 0
    none_begun what e = of (appended what) e where
      of : (o : Option Colours) → is_node o ≡ false → one_if (is_of_row o) ≡ 0
      of None e = refl
      of (Some set) e = absurd (let f : ⊥ = cc in f)

    follow : (what : What) (answer : Answer) (after : Kept) → IsWithin script.shape.regions script.shape.colours what
        → Comes log caller kept what answer after → Follows what answer after
    follow what answer after w (stood set text stamp row points is tell a) = (
      tell ∙ sym (ap (λ (x : What). is_node (appended x)) is),
      stood_rows set text stamp row points after a ∙ ap (λ (x : What). kept.rows + one_if (is_of_row (appended x)))
          (sym is),
    )
    follow what answer after w (without_stamp set text colour is h) =
        absurd (has_stamps set text (subst (IsWithin script.shape.regions script.shape.colours) is w).1 colour after h)
    follow what answer after w (full set text used is same f) =
        let e = f.all in absurd (let x : ⊥ = omega (arith, e, rows) in x)
    follow what answer after w (synced colour events snapshot nodes is tell s shows same) =
        let none = ap (λ (x : What). is_node (appended x)) is in
        let e = ap (λ (k : Kept). k.rows) same in
        let z = none_begun what none in
        (tell ∙ sym none, omega (arith, e, z))
    follow what answer after w (pulled region colour count place carry too_low is tell p same) =
        let none = ap (λ (x : What). is_node (appended x)) is in
        let e = ap (λ (k : Kept). k.rows) same in
        let q = (place_same (kept_after_event (with_places kept region colour too_low) region colour place)
        caller.own colour carry).1 in
        let z = none_begun what none in
        (tell ∙ sym none, omega (arith, e, q, z))
    follow what answer after w (unchanged none tell same) =
        let e = ap (λ (k : Kept). k.rows) same in
        let z = none_begun what none in
        (tell ∙ sym none, omega (arith, e, z))

  -- each append stands, and each on several colours has a row
  pub all_follow : {commands : List Command} {replies : List ReplyLine} {kept : Kept}
      → Explained log caller commands replies kept
      → ((c : Command) → In c commands → In c (commands_of script n)) → length commands ≤ script.shape.rows
      → ((r : ReplyLine) → In r replies → r.answer ≢ answers.NoMemory)
      → (map tells replies ≡ map appends commands) × (kept.rows ≡ length (filter begins_row commands))
  all_follow start among few memory = (refl, refl)
  all_follow (next {commands} {replies} {kept} {after} command reply e a) among few memory =
      let earlier = λ (c : Command) (i : In c commands). among c (in_left c commands (command ∷ []) i) in
      let earlier_memory = λ (r : ReplyLine) (i : In r replies). memory r (in_left r replies (reply ∷ []) i) in
      let l = length-append commands (command ∷ []) in
      let b = all_follow e earlier (omega (arith, few, l)) earlier_memory in
      let t = trace (Has log script) script.shape.colours log caller
      (stamped script report fits plain run unwanting n lt) script.shape.regions e
      (λ c i. commands_plain script report fits plain run unwanting n c (earlier c i)) earlier_memory in
      let last = commands_plain script report fits plain run unwanting n command
      (among command (in_right command commands (command ∷ []) (inl refl))) in
      let m = b.1 in
      let s = filtered begins_row commands in
      let f = follow kept t.floor (omega (arith, m, s, few, l)) command.what reply.answer after last.1
      (answer_comes log caller kept command reply after last.0
      (memory reply (in_right reply replies (reply ∷ []) (inl refl))) a) in
      let p = length_filter_push begins_row commands command in
      let g = f.1 in (
        map_push tells replies reply
            ∙ (ap (λ (bs : List Bool). bs ++ tells reply ∷ []) b.0
            ∙ (ap (λ (x : Bool). map appends commands ++ x ∷ []) f.0 ∙ sym (map_push appends commands command))),
        omega (arith, m, g, p),
      )
