-- How the append of a decision's node ended, by the rules.
use Rattle.std.proofs.Common.{◌≡◌, ◌∙◌, ℕ, List, [], ◌∷◌, None, refl, sym, subst, inl}
use Rattle.std.specs.Prelude.{◌≢◌}
use Rattle.std.specs.List.{AllPairs, Contains}
use Rattle.log_node.specs.declared.ids.Colours.{Colours}
use Rattle.log_node.specs.Sets.{members}
use Rattle.col_core.specs.Log.{Log}
use Rattle.col_core.specs.Rows.{BegunRow}
use Rattle.col_core.specs.Keeping.{Kept}
use Rattle.col_core.proofs.CallerLemmas.{contains_in}
use Rattle.script_text.specs.declared.commands.What.{What}
use Rattle.report_text.specs.declared.report.Ended.{Ended}
use Rattle.report_text.specs.declared.report.Ended.TheVariants as ends
use Rattle.report_text.specs.declared.report.SyncPiece.{SyncPiece}
use Rattle.lawful_run.specs.Callers.{Caller, node_of}
use Rattle.lawful_run.specs.Deeds.{AsksToAppend}
use Rattle.lawful_run.specs.Appends.{HasNoStamp, none_for_one, none_for_several}
use Rattle.lawful_run.specs.Parts.{AsksToDecide, EndsAs}
use Rattle.lawful_run.specs.Asks.{colours_of_object}
use Rattle.lawful_run.proofs.CallerLemmas.{not_several}
use Rattle.run_rules.specs.Told.{colours_asked, kept_after_end}
use Rattle.run_rules.specs.Naming.{NamesEnd}
use Rattle.run_rules.specs.Answering.{CanEnd}
use Rattle.run_rules.specs.Rules.{StandsAtEnd, UsesEnd}
use Rattle.run_rules.specs.Shown.{EndHasCause, SaysSo}
use Rattle.run_rules.proofs.AppendsTold.{append_told, with_places}
use Rattle.run_rules.proofs.Facts.{asked_colours}

-- the parts of it
pub record EndTold (log : Log) (caller : Caller) (kept : Kept) (what : What) (said : List ℕ) (ended : Ended) (after : Kept)
    : Type 0 where
  pub places : ℕ → List ℕ
  pub told : after ≡ kept_after_end (with_places places) caller kept ended
  pub can : CanEnd (colours_asked caller kept what) ended
  pub names : NamesEnd log (with_places places) caller kept ended
  pub used : UsesEnd log caller kept what ended
  pub stands : StandsAtEnd log (with_places places) caller kept what ended
  pub caused : EndHasCause log caller kept what ended
  pub says : SaysSo log caller kept said ended

module _ (log : Log) (caller : Caller) (kept : Kept)
    (apart : AllPairs (λ (r s : BegunRow). r.node.id ≢ s.node.id) (log.rows caller.own)) (what : What) (sync : SyncPiece)
    (own : List ℕ) (asks : AsksToDecide caller what sync own) (said : List ℕ) where
  -- no stamp was left for its one colour
  no_stamp_told : (colour : ℕ) (after : Kept) (colours : Colours) (text : List ℕ) → AsksToAppend caller kept what colours text
      → HasNoStamp log caller kept (node_of caller kept colours text) colour after
      → EndTold log caller kept what said (ends.StampEnd colour) after
  no_stamp_told colour _ colours text a (none_for_one m h) = record {
    places = λ _. [];
    told = refl;
    can = subst (λ (cs : List ℕ). Contains cs colour) (sym m ∙ asked_colours caller kept what colours text a)
        (contains_in (colour ∷ []) colour (inl refl));
    names = tt;
    used = tt;
    stands = tt;
    caused = (colours, text, a, (m, h));
    says = tt;
  }
  no_stamp_told colour _ colours text a (none_for_several places g) =
      absurd (not_several (colours_of_object caller asks.0) asks.1 (members colours)
      (subst (λ (w : What). AsksToAppend caller kept w colours text) asks.2 a).0 g.begins.several)

  pub end_told : (ended : Ended) (after : Kept) → EndsAs log caller kept what said ended after
      → EndTold log caller kept what said ended after
  end_told (ends.Stood stamp point) after e =
      let a = append_told log caller kept apart what e.0 e.1 e.2 stamp None (point ∷ []) after e.3.1 in record {
        places = a.places;
        told = a.told;
        can = a.has_points;
        names = a.names;
        used = (a.node, a.enters);
        stands = a.stands;
        caused = tt;
        says = (node_of caller kept e.0 e.1, e.3.1.3.next, refl, e.3.0);
      }
  end_told (ends.StampEnd colour) after e = no_stamp_told colour after e.0 e.1 e.2 e.3.1
  end_told ends.NoMemory after e = record {
    places = λ _. [];
    told = e;
    can = tt;
    names = tt;
    used = tt;
    stands = tt;
    caused = tt;
    says = tt;
  }
