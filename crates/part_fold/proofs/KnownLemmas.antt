-- What is known of transactions.
use Rattle.std.proofs.Common.{◌≡◌, ℕ, Bool, true, false, cond, List, [], ◌∷◌, ◌++◌, Option, Some, None, inl, inr, refl, ap, sym, subst, ◌∙◌, append_assoc}
use Rattle.std.specs.List.{fold, list_any}
use Rattle.std.specs.Option.{option_map}
use Rattle.std.specs.Str.{bytes_eq}
use Rattle.std.proofs.lemmas.Bool.{cases_Bool, and_parts}
use Rattle.std.proofs.lemmas.List.Sums.{fold_push}
use Rattle.log_node.specs.declared.ids.Key.{Key}
use Rattle.log_node.specs.declared.forms.Pair.{Pair}
use Rattle.log_node.specs.declared.forms.Version.{Version}
use Rattle.log_node.specs.Order.{same_key}
use Rattle.object_fold.specs.declared.tx_state.Written.{Written}
use Rattle.object_fold.specs.Tables.{value_at}
use Rattle.object_fold.specs.Transactions.{Write, written, writer_of, differs}
use Rattle.object_fold.specs.States.{written_at, written_pairs, writer_in, differs_in}
use Rattle.part_fold.specs.declared.decision.Decision.{Decision}
use Rattle.part_fold.specs.declared.transaction.Transaction.{Transaction}
use Rattle.part_fold.specs.declared.part_fold.PartFold.{PartFold}
use Rattle.part_fold.specs.Parts.{Part, is_in_shard, own_reads, known_verdict, Known, unless_undecided, known_by, known_with, known_of, nothing_known, decision_in}
use Rattle.part_fold.specs.Waits.{behind}
use Rattle.part_fold.specs.PartStates.{decided_at, decided_with, verdict_in, front_verdict, own_pairs, settled_at, SettlesFront, HoldsOwn, Holds}

-- ---- decisions

-- the first decision stays the first
pub first_stays : (key : Key) (said more : List Decision) (commits : Bool) → decision_in said key ≡ Some commits → decision_in (said ++ more) key ≡ Some commits
first_stays key [] more commits e = absurd (no_first e) where
  no_first : None ≡ Some commits → ⊥
  no_first h = cc
first_stays key (d ∷ said) more commits e = elim (cases_Bool (same_key d.key key)) [
  | inl here ↦ rw here (rw here at e)
  | inr other ↦ rw other (first_stays key said more commits (rw other at e))
]

-- the first decision after one more
pub first_after : (key : Key) (said : List Decision) (d : Decision) → decision_in (said ++ d ∷ []) key ≡ decided_with (decision_in said key) d key
first_after key [] d = elim (cases_Bool (same_key d.key key)) [ inl here ↦ rw here refl | inr other ↦ rw other refl ]
first_after key (other ∷ said) d = elim (cases_Bool (same_key other.key key)) [
  | inl here ↦ rw here refl
  | inr apart ↦ rw apart (first_after key said d)
]

-- a known verdict stays with more decisions
pub verdict_stays : (part : Part) (said more : List Decision) (writes : List Write) (tx : Transaction) (commits : Bool)
    → known_verdict part said writes tx ≡ Some commits → known_verdict part (said ++ more) writes tx ≡ Some commits
verdict_stays part said more writes tx commits e = elim (cases_Bool (own_reads part tx.reads)) [
  | inl own ↦ rw own (rw own at e)
  | inr other ↦ rw other (first_stays tx.key said more commits (rw other at e))
]

-- ---- one more transaction

pub known_push : (part : Part) (said : List Decision) (txs : List Transaction) (tx : Transaction) → known_of part said (txs ++ tx ∷ []) ≡ known_with part said (known_of part said txs) tx
known_push part said txs tx = fold_push (known_with part said) nothing_known txs tx

-- where one is undecided, it stays so, and nothing changes
pub stops_at : (part : Part) (said : List Decision) (known : Known) (key : Key) (txs : List Transaction) → known.undecided ≡ Some key → fold (known_with part said) known txs ≡ known
stops_at part said known key [] e = refl
stops_at part said known key (tx ∷ txs) e =
    ap (λ (o : Option Key). fold (known_with part said) (unless_undecided o known (known_by known tx (known_verdict part said known.writes tx))) txs) e ∙ stops_at part said known key txs e

-- what a transaction leaves by its verdict
pub with_verdict : (part : Part) (said : List Decision) (known : Known) (tx : Transaction) (v : Option Bool) → known.undecided ≡ None
    → known_verdict part said known.writes tx ≡ v → known_with part said known tx ≡ known_by known tx v
with_verdict part said known tx v none e =
    ap (λ (o : Option Key). unless_undecided o known (known_by known tx (known_verdict part said known.writes tx))) none ∙ ap (known_by known tx) e

pub none_undecided : (known : Known) (tx : Transaction) (commits : Bool) → (known_by known tx (Some commits)).undecided ≡ known.undecided
none_undecided known tx true = refl
none_undecided known tx false = refl

-- ---- the state and what is known

writer_at : (writes : List Write) (key : List ℕ) → option_map (λ (w : Written). w.writer) (written_at writes key) ≡ writer_of writes key
writer_at [] key = refl
writer_at (w ∷ writes) key = elim (cases_Bool (bytes_eq w.key key)) [ inl h ↦ rw h refl | inr h ↦ rw h (writer_at writes key) ]

own_writer : (part : Part) (entries : List (List ℕ × Written)) (writes : List Write) (key : List ℕ) → HoldsOwn part entries writes → is_in_shard part key ≡ true → writer_in entries key ≡ writer_of writes key
own_writer part entries writes key holds own = rw (holds key, own) (writer_at writes key)

same_conflicts : (part : Part) (entries : List (List ℕ × Written)) (writes : List Write) (reads : List Version) → HoldsOwn part entries writes → own_reads part reads ≡ true
    → list_any (differs_in entries) reads ≡ list_any (differs writes) reads
same_conflicts part entries writes [] holds own = refl
same_conflicts part entries writes (r ∷ reads) holds own =
    let each = and_parts (is_in_shard part r.key) (own_reads part reads) own in
    rw (own_writer part entries writes r.key holds each.0, same_conflicts part entries writes reads holds each.1) refl

-- the state tells a transaction's verdict
pub verdict_told : (fold : PartFold) (said : List Decision) (writes : List Write) (tx : Transaction) → HoldsOwn fold.part fold.written.entries writes
    → ((key : Key) → decided_at fold.decided key ≡ decision_in said key) → verdict_in fold tx ≡ known_verdict fold.part said writes tx
verdict_told fold said writes tx holds decided = elim (cases_Bool (own_reads fold.part tx.reads)) [
  | inl own ↦ rw (own, same_conflicts fold.part fold.written.entries writes tx.reads holds own) refl
  | inr other ↦ rw (other, decided tx.key) refl
]

write_on_top : (w : Write) (writes : List Write) (key : List ℕ) → written_at (w ∷ writes) key ≡ cond (bytes_eq w.key key) (Some (record { value = w.value; writer = w.writer })) (written_at writes key)
write_on_top w writes key = elim (cases_Bool (bytes_eq w.key key)) [ inl h ↦ rw h refl | inr h ↦ rw h refl ]

-- what stands at a key after a committed transaction's writes
written_is : (writer : Key) (writes : List Write) (pairs : List Pair) (key : List ℕ) → written_at (written writer writes pairs) key ≡ written_pairs writer key (written_at writes key) pairs
written_is writer writes [] key = refl
written_is writer writes (p ∷ ps) key =
    let w : Write = record { key = p.key; value = p.value; writer = writer } in
    written_is writer (w ∷ writes) ps key ∙ ap (λ (o : Option Written). written_pairs writer key o ps) (write_on_top w writes key)

own_written : (part : Part) (old new : List (List ℕ × Written)) (writes : List Write) (tx : Transaction) → HoldsOwn part old writes
    → ((key : List ℕ) → value_at new key ≡ own_pairs part tx.key key (value_at old key) tx.pairs) → HoldsOwn part new (written tx.key writes tx.pairs)
own_written part old new writes tx holds step key = step key ∙ elim (cases_Bool (is_in_shard part key)) [
  | inl own ↦ rw (own, holds key, own) (sym (written_is tx.key writes tx.pairs key))
  | inr other ↦ rw (other, holds key, other) refl
]

-- what the state has after the first transaction that waits is settled
settled : (old new : PartFold) (said : List Decision) (txs : List Transaction) (commits : Bool) (waiting : List Transaction) → old.waiting ≡ waiting
    → Holds old said txs → front_verdict old waiting ≡ Some commits → SettlesFront commits old new → Holds new said txs
settled old new said txs commits [] e h told s = absurd (no_verdict told) where
  no_verdict : None ≡ Some commits → ⊥
  no_verdict x = cc
settled old new said txs commits (tx ∷ waiting) e h told s =
    let known = known_of old.part said h.settled in
    let verdict : known_verdict old.part said known.writes tx ≡ Some commits = sym (verdict_told old said known.writes tx h.entries h.decided) ∙ told in
    let next : known_of new.part said (h.settled ++ tx ∷ []) ≡ known_by known tx (Some commits) =
    ap (λ (p : Part). known_of p said (h.settled ++ tx ∷ [])) s.part ∙ known_push old.part said h.settled tx ∙ with_verdict old.part said known tx (Some commits) h.known verdict in
    record {
      settled = h.settled ++ tx ∷ [];
      all = ap (λ (ws : List Transaction). (h.settled ++ tx ∷ []) ++ ws) (s.waiting ∙ ap behind e) ∙ append_assoc h.settled (tx ∷ []) waiting ∙ ap (λ (ws : List Transaction). h.settled ++ ws) (sym e) ∙ h.all;
      known = ap (λ (k : Known). k.undecided) next ∙ none_undecided known tx commits ∙ h.known;
      entries =
          let after = entries_after commits (λ key. s.values key ∙ ap (settled_at old commits key) e) known h.entries in
          let own = subst (λ (p : Part). HoldsOwn p new.written.entries (known_by known tx (Some commits)).writes) (sym s.part) after in
          subst (λ (k : Known). HoldsOwn new.part new.written.entries k.writes) (sym next) own;
      decided = λ key. ap (λ d. decided_at d key) s.decided ∙ h.decided key;
    } where
      entries_after : (c : Bool) → ((key : List ℕ) → value_at new.written.entries key ≡ settled_at old c key (tx ∷ waiting))
          → (known : Known) → HoldsOwn old.part old.written.entries known.writes → HoldsOwn old.part new.written.entries (known_by known tx (Some c)).writes
      entries_after true step known holds = own_written old.part old.written.entries new.written.entries known.writes tx holds step
      entries_after false step known holds = λ key. step key ∙ holds key

pub settles_front : (old new : PartFold) (said : List Decision) (txs : List Transaction) (commits : Bool)
    → Holds old said txs → front_verdict old old.waiting ≡ Some commits → SettlesFront commits old new → Holds new said txs
settles_front old new said txs commits h told s = settled old new said txs commits old.waiting refl h told s
