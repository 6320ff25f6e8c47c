-- What is known stays known.
use Rattle.std.proofs.Common.{◌≡◌, Bool, true, false, List, [], ◌∷◌, ◌++◌, Option, Some, None, refl, ap, sym, subst, ◌∙◌, append_assoc}
use Rattle.std.specs.List.{fold}
use Rattle.std.proofs.lemmas.List.{append-nil}
use Rattle.std.proofs.lemmas.List.Elements.{filter_map-append}
use Rattle.std.proofs.lemmas.List.Sums.{fold-append}
use Rattle.log_node.specs.declared.ids.Key.{Key}
use Rattle.object_form.specs.Readings.{form_of}
use Rattle.object_fold.specs.Nodes.{ObjectNode}
use Rattle.part_fold.specs.declared.decision.Decision.{Decision}
use Rattle.part_fold.specs.declared.transaction.Transaction.{Transaction}
use Rattle.part_fold.specs.Decisions.{decision_of}
use Rattle.part_fold.specs.Parts.{Part, known_verdict, Known, unless_undecided, known_by, known_with, known_of, nothing_known, known_after, transactions, transaction_by, decisions}
use Rattle.part_fold.proofs.KnownLemmas.{verdict_stays, stops_at, with_verdict, none_undecided}

pub record Grows (old new : List Decision) : Type 0 where
  pub more : List Decision
  pub is : new ≡ old ++ more

-- verdicts are added at the end alone
grow : (part : Part) (said : List Decision) (known : Known) (txs : List Transaction) → Grows known.verdicts (fold (known_with part said) known txs).verdicts
grow part said known [] = record { more = []; is = sym (append-nil known.verdicts) }
grow part said known (tx ∷ txs) =
    let later = grow part said (known_with part said known tx) txs in
    let one = one_step known.undecided (known_verdict part said known.writes tx) in
    record {
      more = one.more ++ later.more;
      is = later.is ∙ ap (λ (ds : List Decision). ds ++ later.more) one.is ∙ append_assoc known.verdicts one.more later.more;
    } where
      one_step : (o : Option Key) (v : Option Bool) → Grows known.verdicts (unless_undecided o known (known_by known tx v)).verdicts
      one_step (Some key) v = record { more = []; is = sym (append-nil known.verdicts) }
      one_step None None = record { more = []; is = sym (append-nil known.verdicts) }
      one_step None (Some true) = record { more = record { key = tx.key; commits = true } ∷ []; is = refl }
      one_step None (Some false) = record { more = record { key = tx.key; commits = false } ∷ []; is = refl }

-- what is known with some decisions, and with more of them
pub record Stays (less more : Known) : Type 0 where
  pub verdicts : Grows less.verdicts more.verdicts
  -- where all is known, more decisions change nothing
  pub all : less.undecided ≡ None → more ≡ less

pub stays : (part : Part) (said more : List Decision) (known : Known) (txs : List Transaction) → known.undecided ≡ None
    → Stays (fold (known_with part said) known txs) (fold (known_with part (said ++ more)) known txs)
stays part said more known [] none = record { verdicts = record { more = []; is = sym (append-nil known.verdicts) }; all = λ h. refl }
stays part said more known (tx ∷ txs) none = by_verdict (λ after. stays part said more after txs) (known_verdict part said known.writes tx) refl where
  by_verdict : ((after : Known) → after.undecided ≡ None → Stays (fold (known_with part said) after txs) (fold (known_with part (said ++ more)) after txs))
      → (v : Option Bool) → known_verdict part said known.writes tx ≡ v → Stays (fold (known_with part said) known (tx ∷ txs)) (fold (known_with part (said ++ more)) known (tx ∷ txs))
  by_verdict later None e =
      let stopped : Known = record known { undecided = Some tx.key } in
      let next : known_with part said known tx ≡ stopped = with_verdict part said known tx None none e in
      let less : fold (known_with part said) known (tx ∷ txs) ≡ stopped =
      ap (λ (k : Known). fold (known_with part said) k txs) next ∙ stops_at part said stopped tx.key txs refl in
      let grown = grow part (said ++ more) known (tx ∷ txs) in
      record {
        verdicts = record { more = grown.more; is = grown.is ∙ ap (λ (k : Known). k.verdicts ++ grown.more) (sym less) };
        all = λ h. absurd (let e : None ≡ Some tx.key = sym h ∙ ap (λ (k : Known). k.undecided) less in cc);
      }
  by_verdict later (Some commits) e =
      let next = with_verdict part said known tx (Some commits) none e in
      let also = with_verdict part (said ++ more) known tx (Some commits) none (verdict_stays part said more known.writes tx commits e) in
      let after : Known = known_by known tx (Some commits) in
      let P : Known → Known → Type 0 = λ a b. Stays (fold (known_with part said) a txs) (fold (known_with part (said ++ more)) b txs) in
      let rest = later after (none_undecided known tx commits ∙ none) in
      subst (λ (a : Known). P a (known_with part (said ++ more) known tx)) (sym next) (subst (P after) (sym also) rest)

pub verdicts_stay : (part : Part) (line later : List ObjectNode)
    → (more : List Decision) × ((known_after part (line ++ later)).verdicts ≡ (known_after part line).verdicts ++ more)
verdicts_stay part line later =
    let said = decisions line in
    let more = decisions later in
    let txs = transactions line in
    let ds : decisions (line ++ later) ≡ said ++ more = filter_map-append (λ (n : ObjectNode). decision_of n.text) line later in
    let ts : transactions (line ++ later) ≡ txs ++ transactions later = filter_map-append (λ (n : ObjectNode). transaction_by n.key (form_of n.text)) line later in
    let step = known_with part (said ++ more) in
    let parted : known_after part (line ++ later) ≡ fold step (known_of part (said ++ more) txs) (transactions later) =
    ap (λ (d : List Decision). known_of part d (transactions (line ++ later))) ds ∙ ap (known_of part (said ++ more)) ts ∙ fold-append step nothing_known txs (transactions later) in
    let first = (stays part said more nothing_known txs refl).verdicts in
    let second = grow part (said ++ more) (known_of part (said ++ more) txs) (transactions later) in (
      first.more ++ second.more,
      ap (λ (k : Known). k.verdicts) parted ∙ second.is ∙ ap (λ (d : List Decision). d ++ second.more) first.is
          ∙ append_assoc (known_of part said txs).verdicts first.more second.more,
    )
