-- The parts of a stamped read, colour by colour.
use Rattle.std.proofs.Common.{◌≡◌, ℕ, Bool, true, false, List, [], ◌∷◌, ◌++◌, map, Option, Some, None, refl, ap, sym, ◌∙◌, arith, append_assoc}
use Rattle.std.specs.Prelude.{◌==◌, max}
use Rattle.std.specs.Option.{is_some}
use Rattle.std.specs.List.{fold, list_any}
use Rattle.log_node.specs.declared.ids.Colours.{Colours}
use Rattle.log_node.specs.declared.ids.Key.{Key}
use Rattle.log_node.specs.declared.ids.Counts.{Counts}
use Rattle.log_node.specs.Sets.{members}
use Rattle.log_node.specs.Outcomes.{greatest}
use Rattle.col_core.specs.History.{clock, line}
use Rattle.col_core.proofs.CallerLemmas.{by_test, choice, if_true, if_false}
use Rattle.column.specs.Columns.{ColumnState}
use Rattle.playback.specs.Merging.{merged, up_to}
use Rattle.world_code.specs.WorldView.{WorldView, world_of, column_at}
use Rattle.world_code.specs.Replies.{played_reply}
use Rattle.world_code.proofs.CallerLemmas.{is_there, not_before}
use Rattle.world_laws.specs.declared.steps.Reply.TheVariants as replies
use Rattle.world_laws.specs.declared.steps.Step.TheVariants.{Raise, Play}
use Rattle.world_laws.specs.Worlds.{World, home_of, home_history, after, reply, may_play, after_play, played_cut}
use Rattle.script_meaning.specs.States.{Grants}
use Rattle.script_meaning.specs.Stamped.{Progress, raised, played, read_stamp}
use Rattle.script_in_order.specs.Stamped.{RaisesColumns}
use Rattle.script_in_order.proofs.Sets.{any_left}

-- the line of a column
pub line_is : (code : WorldView) (client colour home : ℕ) (l : List Key) (column : ColumnState)
    → home ≡ home_of (world_of code) client → column ≡ column_at code.columns home colour
    → l ≡ line column.journal → l ≡ line (home_history (world_of code) client colour)
line_is code client colour home l column h c is =
    is ∙ (ap (λ (x : ColumnState). line x.journal) c
    ∙ ap (λ (r : ℕ). line (column_at code.columns r colour).journal) h)

-- RAISES

-- The columns of the first of these colours were raised. Where memory is granted for each of them, the others are what is
-- left to raise.
pub record RaisedFirst (old : World) (client stamp : ℕ) (left colours : List ℕ) (now : World) : Type 0 where
  pub first : List ℕ
  pub apart : first ++ left ≡ colours
  pub rest : (grants : Grants) → ((c : ℕ) → list_any (λ d. d == c) first ≡ true → grants.raises c ≡ true)
      → raised grants client stamp old colours ≡ raised grants client stamp now left

pub raised_none : (old : World) (client stamp : ℕ) (left colours : List ℕ) → left ≡ colours
    → RaisedFirst old client stamp left colours old
raised_none old client stamp left colours all = record {
  first = [];
  apart = all;
  rest = λ grants _. ap (raised grants client stamp old) (sym all);
}

pub raised_next : (old now new : World) (client stamp n : ℕ) (left rest colours : List ℕ) → left ≡ n ∷ rest
    → RaisedFirst old client stamp left colours now → new ≡ after now (Raise client (home_of now client) n stamp)
    → RaisedFirst old client stamp rest colours new
raised_next old now new client stamp n left rest colours e so_far is = record {
  first = so_far.first ++ n ∷ [];
  apart = append_assoc so_far.first (n ∷ []) rest ∙ (ap (λ (l : List ℕ). so_far.first ++ l) (sym e) ∙ so_far.apart);
  rest = λ grants all.
      so_far.rest grants (λ c i. all c (any_left so_far.first (n ∷ []) c i))
      ∙ (ap (raised grants client stamp now) e
      ∙ (if_true (grants.raises n)
      (raised grants client stamp (after now (Raise client (home_of now client) n stamp)) rest)
      (record { world = now; stopped = Some n }) (all n (is_there so_far.first [] n))
      ∙ ap (λ (w : World). raised grants client stamp w rest) (sym is)));
}

-- all of them
pub raised_all : (old now : World) (client stamp : ℕ) (left colours : List ℕ) → left ≡ []
    → RaisedFirst old client stamp left colours now → RaisesColumns old client stamp colours now None
raised_all old now client stamp left colours none so_far = record {
  found = λ _. true;
  is = λ grants e.
      so_far.rest grants (λ c _. ap (λ (f : ℕ → Bool). f c) e) ∙ ap (raised grants client stamp now) none;
}

-- up to one for which there is no memory
pub raised_to : (old now : World) (client stamp n : ℕ) (left rest : List ℕ) (set : Colours) → left ≡ n ∷ rest
    → RaisedFirst old client stamp left (members set) now → RaisesColumns old client stamp (members set) now (Some n)
raised_to old now client stamp n left rest set e so_far = record {
  found = λ c. list_any (λ d. d == c) so_far.first;
  is = λ grants g.
      so_far.rest grants (λ c i. ap (λ (f : ℕ → Bool). f c) g ∙ i)
      ∙ (ap (raised grants client stamp now) e
      ∙ if_false (grants.raises n)
      (raised grants client stamp (after now (Raise client (home_of now client) n stamp)) rest)
      (record { world = now; stopped = Some n })
      (ap (λ (f : ℕ → Bool). f n) g
      ∙ not_before set so_far.first rest n (ap (λ (l : List ℕ). so_far.first ++ l) (sym e) ∙ so_far.apart)));
}

-- PLAYS

-- a play that is answered by a cut was done
pub is_played : (w : World) (client colour : ℕ) (cut : Option Counts) → true ≡ is_some cut
    → played_reply cut ≡ reply w (Play client colour) → may_play w client colour ≡ true
is_played w client colour None some is = absurd (let f : ⊥ = cc in f)
is_played w client colour (Some cut) some is =
    by_test _ (may_play w client colour) (λ t. t)
    (λ f. absurd (differ (is ∙ if_false (may_play w client colour) (replies.Played (played_cut w client colour))
    replies.Nothing f))) where
      differ : replies.Played cut ≡ replies.Nothing → ⊥
      differ e = let f : ⊥ = cc in f

-- and one that is not was not
pub not_played : (w : World) (client colour : ℕ) (cut : Option Counts) → false ≡ is_some cut
    → played_reply cut ≡ reply w (Play client colour) → may_play w client colour ≡ false
not_played w client colour (Some cut) none is = absurd (let f : ⊥ = cc in f)
not_played w client colour None none is =
    by_test _ (may_play w client colour)
    (λ t. absurd (differ (is ∙ if_true (may_play w client colour) (replies.Played (played_cut w client colour))
    replies.Nothing t)))
    (λ f. f) where
      differ : replies.Nothing ≡ replies.Played (played_cut w client colour) → ⊥
      differ e = let f : ⊥ = cc in f

-- it leaves the shape
pub play_shape : (w new : World) (client colour : ℕ) → new ≡ after w (Play client colour) → new.shape ≡ w.shape
play_shape w new client colour is =
    ap (λ (x : World). x.shape) is
    ∙ choice (λ (x : World). x.shape ≡ w.shape) (may_play w client colour) (after_play w client colour) w (λ _. refl)
    (λ _. refl)

-- one colour more is played, and the others are left
pub played_next : (now new : World) (client n : ℕ) (left rest : List ℕ) (all : Progress) → left ≡ n ∷ rest
    → may_play now client n ≡ true → new ≡ after now (Play client n) → played client now left ≡ all
    → played client new rest ≡ all
played_next now new client n left rest all e may is was =
    ap (λ (w : World). played client w rest) is
    ∙ (sym (if_true (may_play now client n) (played client (after now (Play client n)) rest)
    (record { world = now; stopped = Some n }) may)
    ∙ (ap (played client now) (sym e) ∙ was))

-- the plays stop at one that may not be played
pub played_to : (now new : World) (client n : ℕ) (left rest : List ℕ) (all : Progress) → left ≡ n ∷ rest
    → may_play now client n ≡ false → new ≡ after now (Play client n) → played client now left ≡ all
    → all ≡ record { world = new; stopped = Some n }
played_to now new client n left rest all e may is was =
    sym was
    ∙ (ap (played client now) e
    ∙ (if_false (may_play now client n) (played client (after now (Play client n)) rest)
    (record { world = now; stopped = Some n }) may
    ∙ ap (λ (w : World). let p : Progress = record { world = w; stopped = Some n } in p)
    (sym (is ∙ if_false (may_play now client n) (after_play now client n) now may))))

-- THE STAMP AND THE KEYS

-- the greatest of a stamp and the clocks of these colours
abbrev pub stamp_with : World → ℕ → ℕ → List ℕ → ℕ
stamp_with w client stamp colours =
    max stamp (greatest (map (λ colour. clock (home_history w client colour)) colours))

pub stamp_first : (w : World) (client floor : ℕ) (left colours : List ℕ) → floor ≡ (w.clients client).floor
    → left ≡ colours → stamp_with w client floor left ≡ read_stamp w client colours
stamp_first w client floor left colours is all =
    ap (λ (n : ℕ). stamp_with w client n left) is ∙ ap (read_stamp w client) all

pub stamp_next : (w : World) (client old new number n all : ℕ) (left rest : List ℕ) → left ≡ n ∷ rest
    → new ≡ max old number → number ≡ clock (home_history w client n) → stamp_with w client old left ≡ all
    → stamp_with w client new rest ≡ all
stamp_next w client old new number n all left rest e is same was =
    let whole = ap (stamp_with w client old) (sym e) ∙ was in omega (arith, is, same, whole)

pub stamp_all : (w : World) (client stamp all : ℕ) (left : List ℕ) → left ≡ [] → stamp_with w client stamp left ≡ all
    → stamp ≡ all
stamp_all w client stamp all left none was =
    let whole = ap (stamp_with w client stamp) (sym none) ∙ was in omega (arith, whole)

-- some keys with those of the own lines of these colours up to a stamp
abbrev pub keys_with : World → ℕ → ℕ → List Key → List ℕ → List Key
keys_with w client stamp keys colours =
    fold (λ all one. merged all (up_to stamp one)) keys (map (λ colour. line (home_history w client colour)) colours)

pub keys_next : (w : World) (client stamp n : ℕ) (old new its all : List Key) (left rest : List ℕ) → left ≡ n ∷ rest
    → its ≡ line (home_history w client n) → new ≡ merged old (up_to stamp its)
    → keys_with w client stamp old left ≡ all → keys_with w client stamp new rest ≡ all
keys_next w client stamp n old new its all left rest e is made was =
    ap (λ (keys : List Key). keys_with w client stamp keys rest)
    (made ∙ ap (λ (one : List Key). merged old (up_to stamp one)) is)
    ∙ (ap (keys_with w client stamp old) (sym e) ∙ was)
