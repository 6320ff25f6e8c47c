-- What is asked of what a client keeps, by two accounts by which it keeps the same.
use Rattle.std.proofs.Common.{◌≡◌, refl, ap, sym, subst, Bool, true, false, cond, ℕ, ◌<◌, ◌≤◌, List, length, map, take, Option, Some, None}
use Rattle.std.specs.Prelude.{IsFalse, ◌==◌, ◌++◌}
use Rattle.log_node.specs.declared.forms.Version.{Version}
use Rattle.log_node.specs.declared.ids.Counts.{Counts}
use Rattle.log_node.specs.Vectors.{is_within}
use Rattle.col_core.specs.declared.Entry.{Entry}
use Rattle.col_core.specs.Cuts.{base}
use Rattle.col_core.specs.Computed.{dated}
use Rattle.col_core.specs.History.{IsAtEnd, entries, line, open_count}
use Rattle.col_core.specs.Log.{Log}
use Rattle.col_core.specs.Keeping.{Kept, updated}
use Rattle.script_text.specs.declared.commands.What.{What}
use Rattle.script_text.specs.declared.commands.What.TheVariants as whats
use Rattle.script_text.specs.declared.script.Kind.{Kind}
use Rattle.script_text.specs.declared.script.Script.{Script}
use Rattle.script_text.specs.declared.uses.ReadUse.TheVariants.{Takes, UsesUp}
use Rattle.script_text.specs.declared.uses.Use.{Use}
use Rattle.script_text.specs.declared.uses.Use.TheVariants.{OfObject}
use Rattle.script_text.specs.Commands.{use_of}
use Rattle.lawful_run.specs.Callers.{Caller, caller_of}
use Rattle.lawful_run.specs.Appends.{HadNoStamp, IsSoLong}
use Rattle.lawful_run.specs.Asks.{keys_of_pairs, kind_asked, object_colours, shards}
use Rattle.lawful_run.specs.Deeds.{found_by, saying_of}
use Rattle.lawful_run.specs.Reads.{IsTrimmed}
use Rattle.lawful_run.specs.Refusals.{before_by, kept_before}
use Rattle.run_rules.specs.Told.{colours_asked, colours_said}
use Rattle.run_rules.specs.Agreeing.{KeepSame, keys_found}

-- the other way round
pub turned : {script : Script} {a b : Kept} → KeepSame script a b → KeepSame script b a
turned s = record {
  floor = sym s.floor;
  starts = λ c. sym (s.starts c);
  seen = λ r c has. sym (s.seen r c has);
  known = λ c. sym (s.known c);
  made = λ r c has. sym (s.made r c has);
  ids = sym s.ids;
  rows = sym s.rows;
  reads = λ object. sym (s.reads object);
}

-- while a command is answered
pub before_same : {script : Script} {a b : Kept} → KeepSame script a b → (what : What)
    → KeepSame script (kept_before what a) (kept_before what b)
before_same {script} {a} {b} s what = by (use_of what) where
  one_less : (object n : ℕ) → keys_found (updated a.reads object None n) ≡ keys_found (updated b.reads object None n)
  one_less object n = pick (n == object) where
    pick : (t : Bool) → keys_found (cond t None (a.reads n)) ≡ keys_found (cond t None (b.reads n))
    pick true = refl
    pick false = s.reads n

  by : (u : Use) → KeepSame script (before_by u a) (before_by u b)
  by (OfObject object Takes) = record {
    floor = s.floor;
    starts = s.starts;
    seen = s.seen;
    known = s.known;
    made = s.made;
    ids = s.ids;
    rows = s.rows;
    reads = one_less object;
  }
  by _ = s

-- what is said has the same colours, whoever wrote what was found
said_same : (own : List ℕ) (kind : Option Kind) (what : What) (x y : Option (List Version)) → keys_found x ≡ keys_found y
    → colours_said own (saying_of kind x what) ≡ colours_said own (saying_of kind y what)
said_same own kind (whats.Commit object pairs) None None e = refl
said_same own kind (whats.Commit object pairs) None (Some y) e = absurd (let f : ⊥ = cc (e) in f)
said_same own kind (whats.Commit object pairs) (Some x) None e = absurd (let f : ⊥ = cc (e) in f)
said_same own kind (whats.Commit object pairs) (Some x) (Some y) e =
    let k : map (λ (v : Version). v.key) x ≡ map (λ (v : Version). v.key) y = cc (e) in
    ap (λ (keys : List (List ℕ)). shards own (keys ++ keys_of_pairs pairs)) k
said_same own kind _ x y e = refl

-- a command appends on the same colours
pub asked_same : {script : Script} (caller : Caller) (what : What) {a b : Kept} → KeepSame script a b
    → colours_asked caller a what ≡ colours_asked caller b what
asked_same caller what {a} {b} s =
    said_same (object_colours (kind_asked caller what)) (kind_asked caller what) what (found_by (use_of what) a)
    (found_by (use_of what) b) (by (use_of what)) where
      by : (u : Use) → keys_found (found_by u a) ≡ keys_found (found_by u b)
      by (OfObject object UsesUp) = s.reads object
      by _ = refl

none_found : (x y : Option (List Version)) → keys_found x ≡ keys_found y → x ≡ None → y ≡ None
none_found x None e is = refl
none_found x (Some y) e is = absurd (let f : ⊥ = cc (e, is) in f)

-- no read is left of an object
pub unread_same : {script : Script} {a b : Kept} → KeepSame script a b → (object : ℕ) → a.reads object ≡ None
    → b.reads object ≡ None
unread_same {script} {a} {b} s object is = none_found (a.reads object) (b.reads object) (s.reads object) is

-- OF A COLUMN OF THE CLIENT'S REGION

module _ (script : Script) (n : ℕ) (one two : Log)
    (same : (colour : ℕ) → one.histories (caller_of script n).own colour ≡ two.histories (caller_of script n).own colour)
    (home : (caller_of script n).own < script.shape.regions) where
  abbrev who : Caller
  who = caller_of script n

  module _ {a b : Kept} (s : KeepSame script a b) (colour : ℕ) (lt : colour < script.shape.colours) where
    unseen_same : (events : ℕ) → a.seen who.own colour ≤ events → b.seen who.own colour ≤ events
    unseen_same events le = subst (λ (k : ℕ). k ≤ events) (s.seen who.own colour (home, lt)) le

    pub had_same : HadNoStamp one who a colour → HadNoStamp two who b colour
    had_same x = record {
      events = x.events;
      unseen = unseen_same x.events x.unseen;
      there = subst (λ (h : List Entry). x.events ≤ length h) (same colour) x.there;
      ended = subst (IsAtEnd (take x.events (two.histories who.own colour))) s.floor
          (subst (λ (h : List Entry). IsAtEnd (take x.events h) a.floor) (same colour) x.ended);
    }

    pub long_same : (events lined waiting : ℕ) → IsSoLong one who a colour events lined waiting
        → IsSoLong two who b colour events lined waiting
    long_same events lined waiting x = record {
      unseen = unseen_same events x.unseen;
      there = subst (λ (h : List Entry). events ≤ length h) (same colour) x.there;
      lined_is = subst (λ (h : List Entry). lined ≡ length (line (take events h))) (same colour) x.lined_is;
      waiting_is = subst (λ (h : List Entry). waiting ≡ open_count (entries (take events h))) (same colour) x.waiting_is;
    }

    pub trimmed_same : (shown : Counts) → IsTrimmed one who a colour shown → IsTrimmed two who b colour shown
    trimmed_same shown x = record {
      events = x.events;
      unseen = unseen_same x.events x.unseen;
      there = subst (λ (h : List Entry). x.events ≤ length h) (same colour) x.there;
      is_base = subst (λ (h : List Entry). shown ≡ base who.own who.regions (dated who.own (take x.events h))) (same colour)
          x.is_base;
      below = subst (λ (v : Counts). IsFalse (is_within shown v)) (s.starts colour) x.below;
    }
