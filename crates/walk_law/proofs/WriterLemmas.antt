-- Writers and versions, whatever the numbers: what is read of them, and what stands behind them.
use Rattle.std.proofs.Common.{◌≡◌, ℕ, zero, suc, take, ◌<◌, ◌≤◌, Bool, true, false, ◌&&◌, eqb, List, [], ◌∷◌, ◌++◌, length, map, Option, Some, None, inl, inr, refl, ap, sym, subst, ◌∙◌, arith, append_assoc, length-append, add-one}
use Rattle.std.proofs.Math.Numerals.{one-add}
use Rattle.std.specs.Prelude.{codes}
use Rattle.std.specs.List.{position_or_len}
use Rattle.std.specs.Fmt.{decimal}
use Rattle.std.specs.Str.{bytes_eq}
use Rattle.std.proofs.lemmas.Bool.{and_parts, or_cases, or_right, cases_Bool, cases_order, eqb-true, true≢false}
use Rattle.std.proofs.lemmas.Slice.Eq.{bytes_eq-Decides}
use Rattle.log_node.specs.declared.ids.Key.{Key}
use Rattle.log_node.specs.declared.forms.Pair.{Pair}
use Rattle.log_node.specs.declared.forms.Version.{Version}
use Rattle.object_form.specs.Forms.{bar, comma, dash, dot, equals, pairs_text, versions_text, writer_text}
use Rattle.object_form.specs.Readings.{after, before, is_dash, is_digit}
use Rattle.object_form.proofs.CallerLemmas.{Lacks, lacks_append, lacks_by, before_cut, after_cut, cut_back}
use Rattle.part_fold.specs.declared.decision.Decision.{Decision}
use Rattle.part_fold.specs.Decisions.{outcome_text}
use Rattle.lawful_run.specs.Deeds.{ADecision, IsText}
use Rattle.column_track.specs.Tracks.{Tells}
use Rattle.walk_law.specs.TextsSaid.{AreVersionsThen, HaveBehind, IsApart, IsBehindOne, IsTransactionOn, IsVersionThen, IsWriterThen, is_numeral, is_outcome, names_key, names_writer, says_after, says_decision}
use Rattle.walk_law.proofs.FrontLemmas.{Both, Just, one_as}
use Rattle.walk_law.proofs.NumeralLemmas.{all_digits, number_of, tells_by, written_is}

-- WRITERS

written_lacks : (sign n : ℕ) → is_digit sign ≡ false → Lacks sign (decimal n)
written_lacks sign n fails = lacks_by is_digit sign fails (decimal n) (all_digits (decimal n) (written_is n))

key_read : (key : Key) → names_key (writer_text (Some key)) ≡ true
key_read key =
    let later = decimal key.id.client ++ dot ∷ decimal key.id.count in
    let no_dot = written_lacks dot key.stamp refl in
    let no_dot_later = written_lacks dot key.id.client refl in
    let e1 = before_cut dot (decimal key.stamp) later no_dot in
    let e2 = after_cut dot (decimal key.stamp) later no_dot in
    let e3 = before_cut dot (decimal key.id.client) (decimal key.id.count) no_dot_later in
    let e4 = after_cut dot (decimal key.id.client) (decimal key.id.count) no_dot_later in
    rw (e1, e2, e3, e4) (rw (written_is key.stamp, written_is key.id.client, written_is key.id.count) refl)

numeral_some : (bs : List ℕ) → is_numeral bs ≡ true → 0 < length bs
numeral_some [] h = absurd (true≢false (sym h))
numeral_some (b ∷ bs) h = omega arith

before_some : (sign : ℕ) (bs : List ℕ) → 0 < length (before sign bs) → 0 < length bs
before_some sign [] some = some
before_some sign (b ∷ bs) some = omega arith

key_back : (bs : List ℕ) → names_key bs ≡ true → (key : Key) × (bs ≡ writer_text (Some key))
key_back bs h =
    let later = after dot bs in
    let ends = and_parts (is_numeral (before dot bs) && is_numeral (before dot later)) (is_numeral (after dot later)) h in
    let fronts = and_parts (is_numeral (before dot bs)) (is_numeral (before dot later)) ends.0 in
    let stamp = number_of (before dot bs) fronts.0 in
    let client = number_of (before dot later) fronts.1 in
    let count = number_of (after dot later) ends.1 in (
      record { stamp = stamp.0; id = record { client = client.0; count = count.0 } },
      sym (cut_back dot bs (before_some dot later (numeral_some (before dot later) fronts.1)))
          ∙ (ap (λ (l : List ℕ). l ++ dot ∷ later) stamp.1
          ∙ ap (λ (l : List ℕ). decimal stamp.0 ++ dot ∷ l)
          (sym (cut_back dot later (numeral_some (after dot later) ends.1))
          ∙ (ap (λ (l : List ℕ). l ++ dot ∷ after dot later) client.1 ∙ ap (λ (l : List ℕ). decimal client.0 ++ dot ∷ l) count.1))),
    )

pub writer_read : (writer : Option Key) → names_writer (writer_text writer) ≡ true
writer_read None = refl
writer_read (Some key) =
    or_right (is_dash (writer_text (Some key))) (names_key (writer_text (Some key))) (key_read key)

pub writer_back : (bs : List ℕ) → names_writer bs ≡ true → (writer : Option Key) × (bs ≡ writer_text writer)
writer_back bs h = elim (or_cases (is_dash bs) (names_key bs) h) [
  | inl none ↦ (None, (bytes_eq-Decides bs (dash ∷ [])).0 none)
  | inr some ↦ let key = key_back bs some in (Some key.0, key.1)
]

key_lacks : (sign : ℕ) (key : Key) → IsApart sign → Lacks sign (writer_text (Some key))
key_lacks sign key apart =
    lacks_append sign (decimal key.stamp) (dot ∷ (decimal key.id.client ++ dot ∷ decimal key.id.count))
    (written_lacks sign key.stamp apart.digits) (
      apart.dots,
      lacks_append sign (decimal key.id.client) (dot ∷ decimal key.id.count) (written_lacks sign key.id.client apart.digits)
          (apart.dots, written_lacks sign key.id.count apart.digits),
    )

writer_lacks : (sign : ℕ) (writer : Option Key) → IsApart sign → Lacks sign (writer_text writer)
writer_lacks sign None apart = (apart.dashes, tt)
writer_lacks sign (Some key) apart = key_lacks sign key apart

-- WHAT STANDS BEHIND A SIGN

before_other : (sign b : ℕ) (bs : List ℕ) → eqb b sign ≡ false → before sign (b ∷ bs) ≡ b ∷ before sign bs
before_other sign b bs e = rw (e, one-add (position_or_len (λ x. eqb x sign) bs)) refl

after_other : (sign b : ℕ) (bs : List ℕ) → eqb b sign ≡ false → after sign (b ∷ bs) ≡ after sign bs
after_other sign b bs e =
    let n = position_or_len (λ x. eqb x sign) bs in
    rw (e, one-add n, add-one (suc n), add-one n) refl

-- bytes with less before a sign than they are have the sign
cut_there : (sign : ℕ) (bs : List ℕ) → length (before sign bs) < length bs → bs ≡ before sign bs ++ sign ∷ after sign bs
cut_there sign [] lt = absurd (let f : ⊥ = omega (arith, lt) in f)
cut_there sign (b ∷ bs) lt = elim (cases_Bool (eqb b sign)) [
  | inl here ↦ rw here (ap (λ (x : ℕ). x ∷ bs) (eqb-true b sign here))
  | inr other ↦
      let less = subst (λ (l : List ℕ). length l < suc (length bs)) (before_other sign b bs other) lt in
      rw (before_other sign b bs other, after_other sign b bs other)
      (ap (λ (l : List ℕ). b ∷ l) (cut_there sign bs (omega (arith, less))))
]

take_short : (n : ℕ) (bs : List ℕ) → length (take n bs) ≤ length bs
take_short zero bs = omega arith
take_short (suc n) [] = omega arith
take_short (suc n) (b ∷ bs) = let le = take_short n bs in omega (arith, le)

pub before_short : (sign : ℕ) (bs front : List ℕ) → front ≡ before sign bs → (length front ≡ length bs → ⊥) → length front < length bs
before_short sign bs front is other =
    let few = take_short (position_or_len (λ x. eqb x sign) bs) bs in
    let same = ap length is in
    elim (cases_order (length front) (length bs)) [
      | inl equal ↦ absurd (other equal)
      | inr (inl less) ↦ less
      | inr (inr more) ↦ absurd (let f : ⊥ = omega (arith, few, same, more) in f)
    ]

pub writer_there : (sign : ℕ) (bs writer rest : List ℕ) → IsApart sign → writer ≡ before sign bs → rest ≡ after sign bs
    → length writer < length bs → names_writer writer ≡ true → HaveBehind (IsWriterThen sign) bs rest
writer_there sign bs writer rest apart front back lt names =
    let w = writer_back writer names in
    let less = subst (λ (l : List ℕ). length l < length bs) front lt in
    record {
      front = writer_text w.0 ++ sign ∷ [];
      such = (w.0, refl);
      is = cut_there sign bs less
          ∙ (ap (λ (l : List ℕ). l ++ sign ∷ after sign bs) (sym front ∙ w.1)
          ∙ (ap (λ (l : List ℕ). writer_text w.0 ++ sign ∷ l) (sym back) ∙ sym (append_assoc (writer_text w.0) (sign ∷ []) rest)));
      only = λ other left such e.
          let text = writer_text such.0 in
          sym (after_cut sign text left (writer_lacks sign such.0 apart))
          ∙ (ap (λ (l : List ℕ). after sign l) (sym (e ∙ (ap (λ (l : List ℕ). l ++ left) such.1 ∙ append_assoc text (sign ∷ []) left)))
          ∙ sym back);
    }

-- of bytes that begin with a writer and the sign
writer_first : (sign : ℕ) (bs writer front rest : List ℕ) → IsApart sign → writer ≡ before sign bs → IsWriterThen sign front
    → bs ≡ front ++ rest → (length writer < length bs) × (names_writer writer ≡ true)
writer_first sign bs writer front rest apart before_is such e =
    let text = writer_text such.0 in
    let is = e ∙ (ap (λ (l : List ℕ). l ++ rest) such.1 ∙ append_assoc text (sign ∷ []) rest) in
    let same = before_is ∙ (ap (λ (l : List ℕ). before sign l) is ∙ before_cut sign text rest (writer_lacks sign such.0 apart)) in
    let long = ap length is ∙ length-append text (sign ∷ rest) in
    let short = ap length same in
    (omega (arith, long, short), ap names_writer same ∙ writer_read such.0)

pub no_sign : (sign : ℕ) (bs writer : List ℕ) → IsApart sign → writer ≡ before sign bs → (length writer < length bs → ⊥)
    → IsBehindOne (IsWriterThen sign) bs None
no_sign sign bs writer apart before_is not = λ front rest such e.
    not (writer_first sign bs writer front rest apart before_is such e).0

pub no_writer : (sign : ℕ) (bs writer : List ℕ) → IsApart sign → writer ≡ before sign bs → names_writer writer ≡ false
    → IsBehindOne (IsWriterThen sign) bs None
no_writer sign bs writer apart before_is not = λ front rest such e.
    true≢false (sym (writer_first sign bs writer front rest apart before_is such e).1 ∙ not)

-- VERSIONS

-- a key with its sign, and a writer behind it
pub version_as : (key : List ℕ) (sign : ℕ) (bytes : List ℕ) (o : Option (List ℕ))
    → IsBehindOne (Both (Just (key ++ 64 ∷ [])) (IsWriterThen sign)) bytes o → IsBehindOne (IsVersionThen key sign) bytes o
version_as key sign bytes o = one_as _ _ bytes o to from where
  so : (w : Option Key) → (key ++ 64 ∷ []) ++ (writer_text w ++ sign ∷ [])
      ≡ (key ++ 64 ∷ writer_text w) ++ sign ∷ []
  so w = append_assoc key (64 ∷ []) (writer_text w ++ sign ∷ []) ∙ sym (append_assoc key (64 ∷ writer_text w) (sign ∷ []))

  to : (f : List ℕ) → Both (Just (key ++ 64 ∷ [])) (IsWriterThen sign) f → IsVersionThen key sign f
  to f both =
      let w = both.3 in (
        w.0,
        both.4 ∙ (ap (λ (l : List ℕ). l ++ both.1) both.2 ∙ (ap (λ (l : List ℕ). (key ++ 64 ∷ []) ++ l) w.1 ∙ so w.0)),
      )

  from : (f : List ℕ) → IsVersionThen key sign f → Both (Just (key ++ 64 ∷ [])) (IsWriterThen sign) f
  from f such = (key ++ 64 ∷ [], writer_text such.0 ++ sign ∷ [], refl, (such.0, refl), such.1 ∙ sym (so such.0))

-- versions of no keys
pub versions_none : (bytes : List ℕ) (o : Option (List ℕ)) → IsBehindOne (Just (bar ∷ [])) bytes o
    → IsBehindOne (AreVersionsThen []) bytes o
versions_none bytes o = one_as _ _ bytes o to from where
  to : (f : List ℕ) → Just (bar ∷ []) f → AreVersionsThen [] f
  to f is = ([], refl, is)

  from : (f : List ℕ) → AreVersionsThen [] f → Just (bar ∷ []) f
  from f ([], keys, is) = is
  from f (v ∷ vs, keys, is) = absurd (let e : ⊥ = cc in e)

-- of one
pub versions_one : (key bytes : List ℕ) (o : Option (List ℕ)) → IsBehindOne (IsVersionThen key bar) bytes o
    → IsBehindOne (AreVersionsThen (key ∷ [])) bytes o
versions_one key bytes o = one_as _ _ bytes o to from where
  to : (f : List ℕ) → IsVersionThen key bar f → AreVersionsThen (key ∷ []) f
  to f such = (record { key = key; writer = such.0 } ∷ [], refl, such.1)

  from : (f : List ℕ) → AreVersionsThen (key ∷ []) f → IsVersionThen key bar f
  from f ([], keys, is) = absurd (let e : ⊥ = cc in e)
  from f (v ∷ [], keys, is) =
      let same : v.key ≡ key = cc in
      (v.writer, is ∙ ap (λ (k : List ℕ). (k ++ 64 ∷ writer_text v.writer) ++ bar ∷ []) same)
  from f (v ∷ w ∷ vs, keys, is) = absurd (let e : ⊥ = cc in e)

-- of one and more
pub versions_more : (key : List ℕ) (keys : List (List ℕ)) (bytes : List ℕ) (o : Option (List ℕ)) → 0 < length keys
    → IsBehindOne (Both (IsVersionThen key comma) (AreVersionsThen keys)) bytes o
    → IsBehindOne (AreVersionsThen (key ∷ keys)) bytes o
versions_more key [] bytes o some = absurd (let f : ⊥ = omega (arith, some) in f)
versions_more key (next ∷ keys) bytes o some = one_as _ _ bytes o to from where
  so : (k : List ℕ) (w : Option Key) (rest : List ℕ) → ((k ++ 64 ∷ writer_text w) ++ comma ∷ []) ++ (rest ++ bar ∷ [])
      ≡ ((k ++ 64 ∷ writer_text w) ++ comma ∷ rest) ++ bar ∷ []
  so k w rest =
      let v = k ++ 64 ∷ writer_text w in
      append_assoc v (comma ∷ []) (rest ++ bar ∷ []) ∙ sym (append_assoc v (comma ∷ rest) (bar ∷ []))

  to : (f : List ℕ) → Both (IsVersionThen key comma) (AreVersionsThen (next ∷ keys)) f → AreVersionsThen (key ∷ next ∷ keys) f
  to f (p, q, (w, first), ([], same, later), is) = absurd (let e : ⊥ = cc in e)
  to f (p, q, (w, first), (v ∷ vs, same, later), is) = (
    record { key = key; writer = w } ∷ v ∷ vs,
    ap (λ (l : List (List ℕ)). key ∷ l) same,
    is ∙ (ap (λ (l : List ℕ). l ++ q) first
        ∙ (ap (λ (l : List ℕ). ((key ++ 64 ∷ writer_text w) ++ comma ∷ []) ++ l) later ∙ so key w (versions_text (v ∷ vs)))),
  )

  from : (f : List ℕ) → AreVersionsThen (key ∷ next ∷ keys) f → Both (IsVersionThen key comma) (AreVersionsThen (next ∷ keys)) f
  from f ([], same, is) = absurd (let e : ⊥ = cc in e)
  from f (v ∷ [], same, is) = absurd (let e : ⊥ = cc in e)
  from f (v ∷ x ∷ vs, same, is) =
      let k : v.key ≡ key = cc in
      let rest : map (λ (y : Version). y.key) (x ∷ vs) ≡ next ∷ keys = cc in (
        (key ++ 64 ∷ writer_text v.writer) ++ comma ∷ [],
        versions_text (x ∷ vs) ++ bar ∷ [],
        (v.writer, refl),
        (x ∷ vs, rest, refl),
        is ∙ (ap (λ (l : List ℕ). ((l ++ 64 ∷ writer_text v.writer) ++ comma ∷ versions_text (x ∷ vs)) ++ bar ∷ []) k
            ∙ sym (so key v.writer (versions_text (x ∷ vs)))),
      )

-- a transaction on versions of keys
pub transaction_as : (keys : List (List ℕ)) (pairs : List Pair) (bytes : List ℕ) (o : Option (List ℕ))
    → IsBehindOne (Both (Just (codes "t:")) (Both (AreVersionsThen keys) (Just (pairs_text pairs)))) bytes o
    → IsBehindOne (IsTransactionOn keys pairs) bytes o
transaction_as keys pairs bytes o = one_as _ _ bytes o to from where
  so : (vs : List Version) → codes "t:" ++ ((versions_text vs ++ bar ∷ []) ++ pairs_text pairs)
      ≡ codes "t:" ++ (versions_text vs ++ bar ∷ pairs_text pairs)
  so vs = ap (λ (l : List ℕ). codes "t:" ++ l) (append_assoc (versions_text vs) (bar ∷ []) (pairs_text pairs))

  to : (f : List ℕ) → Both (Just (codes "t:")) (Both (AreVersionsThen keys) (Just (pairs_text pairs))) f → IsTransactionOn keys pairs f
  to f (p, q, first, (v, w, (vs, same, then), last, both), is) = (
    vs,
    same,
    is ∙ (ap (λ (l : List ℕ). l ++ q) first
        ∙ (ap (λ (l : List ℕ). codes "t:" ++ l) (both ∙ (ap (λ (l : List ℕ). l ++ w) then ∙ ap (λ (l : List ℕ). (versions_text vs ++ bar ∷ []) ++ l) last))
        ∙ so vs)),
  )

  from : (f : List ℕ) → IsTransactionOn keys pairs f → Both (Just (codes "t:")) (Both (AreVersionsThen keys) (Just (pairs_text pairs))) f
  from f (vs, same, is) = (
    codes "t:",
    (versions_text vs ++ bar ∷ []) ++ pairs_text pairs,
    refl,
    (versions_text vs ++ bar ∷ [], pairs_text pairs, (vs, same, refl), refl, refl),
    is ∙ sym (so vs),
  )

-- DECISIONS

outcome_read : (commits : Bool) → is_outcome (outcome_text commits) ≡ true
outcome_read true = refl
outcome_read false = refl

outcome_back : (bs : List ℕ) → is_outcome bs ≡ true → (commits : Bool) × (bs ≡ outcome_text commits)
outcome_back bs h = elim (or_cases (bytes_eq bs (codes "1")) (bytes_eq bs (codes "0")) h) [
  | inl one ↦ (true, (bytes_eq-Decides bs (codes "1")).0 one)
  | inr none ↦ (false, (bytes_eq-Decides bs (codes "0")).0 none)
]

outcome_some : (commits : Bool) → 0 < length (outcome_text commits)
outcome_some true = omega arith
outcome_some false = omega arith

after_read : (decision : Decision) → says_after (writer_text (Some decision.key) ++ equals ∷ outcome_text decision.commits) ≡ true
after_read decision =
    let text = writer_text (Some decision.key) in
    let lacks = key_lacks equals decision.key (record { digits = refl; dots = refl; dashes = refl }) in
    let front = before_cut equals text (outcome_text decision.commits) lacks in
    let rest = after_cut equals text (outcome_text decision.commits) lacks in
    rw (front, rest) (rw (key_read decision.key, outcome_read decision.commits) refl)

after_back : (bs : List ℕ) → says_after bs ≡ true
    → (decision : Decision) × (bs ≡ writer_text (Some decision.key) ++ equals ∷ outcome_text decision.commits)
after_back bs h =
    let both = and_parts (names_key (before equals bs)) (is_outcome (after equals bs)) h in
    let key = key_back (before equals bs) both.0 in
    let outcome = outcome_back (after equals bs) both.1 in
    let some = subst (λ (l : List ℕ). 0 < length l) (sym outcome.1) (outcome_some outcome.0) in (
      record { key = key.0; commits = outcome.0 },
      sym (cut_back equals bs some)
          ∙ (ap (λ (l : List ℕ). l ++ equals ∷ after equals bs) key.1
          ∙ ap (λ (l : List ℕ). writer_text (Some key.0) ++ equals ∷ l) outcome.1),
    )

decision_back : (bs : List ℕ) → says_decision bs ≡ true → IsText ADecision bs
decision_back [] h = absurd (true≢false (sym h))
decision_back (letter ∷ []) h = absurd (true≢false (sym h))
decision_back (letter ∷ sign ∷ bs) h = elim (cases_Bool (eqb letter 122)) [
  | inr other ↦ absurd (true≢false (sym (let e : false ≡ true = rw other at h in e)))
  | inl z ↦ elim (cases_Bool (eqb sign 58)) [
    | inr other ↦ absurd (true≢false (sym (let e : false ≡ true = rw (z, other) at h in e)))
    | inl colon ↦
        let d = after_back bs (let e : says_after bs ≡ true = rw (z, colon) at h in e) in (
          d.0,
          ap (λ (x : ℕ). x ∷ sign ∷ bs) (eqb-true letter 122 z)
              ∙ (ap (λ (x : ℕ). 122 ∷ x ∷ bs) (eqb-true sign 58 colon) ∙ ap (λ (l : List ℕ). codes "z:" ++ l) d.1),
        )
  ]
]

pub decision_told : (bs : List ℕ) → Tells (says_decision bs) (IsText ADecision bs)
decision_told bs =
    tells_by (says_decision bs) _ (decision_back bs) (λ s. ap says_decision s.1 ∙ after_read s.0)
