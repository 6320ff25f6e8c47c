-- The replies of clients: what is printed is read again.
use Rattle.std.proofs.Common.{◌≡◌, ℕ, suc, ◌<◌, true, false, eqb, List, [], ◌∷◌, ◌++◌, length, Some, refl, sym, ap, ◌∙◌, length-append, arith}
use Rattle.std.specs.Prelude.{decimal, codes}
use Rattle.std.specs.List.{flat_map, list_all}
use Rattle.std.proofs.lemmas.Bool.{and_parts, leb-true, false_from_ne_true, eqb-true, lt-ltb}
use Rattle.std.proofs.lemmas.List.{take_at, drop_at}
use Rattle.log_node.specs.declared.ids.Counts.{Counts}
use Rattle.log_node.specs.declared.node.Node.{Node}
use Rattle.log_node.specs.Seen.{PlacedNode}
use Rattle.script_text.specs.declared.commands.Word.{Word}
use Rattle.script_text.specs.declared.commands.Word.TheVariants as words
use Rattle.script_text.specs.Pieces.{is_between, is_digit, is_letter_or_digit, is_text}
use Rattle.script_text.specs.Words.{word_text}
use Rattle.report_text.specs.declared.report.ReplyLine.{ReplyLine}
use Rattle.report_text.specs.declared.report.ClientReport.{ClientReport}
use Rattle.report_text.specs.declared.report.Report.{Report}
use Rattle.report_text.specs.Pieces.{line_end, id_text}
use Rattle.report_text.specs.Replies.{answer_text, node_line, reply_lines, client_lines}
use Rattle.report_reading.specs.Known.{Known, known_of, is_many}
use Rattle.report_reading.specs.Meant.{IsSmall, IsShown, IsReply, IsClientReport, bare_node}
use Rattle.report_reading.specs.Pieces.{first_of}
use Rattle.report_reading.specs.ReplyReadings.{line_len, text_at, shown_at, word_named, fitting_answer_at, reply_at, client_begins, client_at}
use Rattle.report_reading.proofs.WordLemmas.{word_again, number_again, small_again, decimal_front, digit_unlike}
use Rattle.report_reading.proofs.Joins.{join4, join5}
use Rattle.report_reading.proofs.PieceLemmas.{AreNamed, id_again}
use Rattle.report_reading.proofs.ListAgain.{IsReadAgain, all_again, in_places}
use Rattle.report_reading.proofs.AnswerLaw.{answer_again}

-- ---- nodes

line_len_again : (t rest : List ℕ) → list_all (is_between 33 126) t ≡ true → line_len (t ++ (10 ∷ rest)) ≡ length t
line_len_again [] rest all = refl
line_len_again (b ∷ t) rest all =
    let p = and_parts (is_between 33 126 b) (list_all (is_between 33 126) t) all in
    let other : eqb b 10 ≡ false = false_from_ne_true (eqb b 10) (λ same.
    let low = leb-true 33 b (and_parts _ _ p.0).0 in
    let ten = eqb-true b 10 same in absurd (omega (arith, low, ten))) in
    rw (other) (ap suc (line_len_again t rest p.1))

text_again : (t rest : List ℕ) → is_text t ≡ true → text_at (t ++ (10 ∷ rest)) ≡ Some (t, 10 ∷ rest)
unfolding text_at
text_again t rest is =
    let all = (and_parts (is_between 1 200 (length t)) (list_all (is_between 33 126) t) is).1 in
    rw (line_len_again t rest all, take_at t (10 ∷ rest) (length t) refl, drop_at t (10 ∷ rest) (length t) refl, is) refl

shown_again : (known : Known) (report : Report) (item : PlacedNode) (rest : List ℕ) → AreNamed known.script report → IsShown known.script item → shown_at known (node_line report item ++ rest) ≡ Some (item, rest)
unfolding shown_at
shown_again known report item rest named is =
    let third = 32 ∷ (item.node.text ++ (10 ∷ rest)) in
    let second = 32 ∷ (decimal item.head.key.stamp ++ third) in
    ap (shown_at known) (join5 (codes "+ ") (id_text report item.head.key.id) (32 ∷ decimal item.head.key.stamp) (32 ∷ item.node.text) line_end rest)
    ∙ rw (
      id_again known.script report item.head.key.id second named is.key.id refl,
      number_again item.head.key.stamp third is.key.stamp refl,
      text_again item.node.text rest is.text,
    ) (ap (λ (needs : Counts). Some (record { head = record { key = item.head.key; needs = needs }; node = bare_node item.head.key.id item.node.text }, rest)) (sym is.needs)
    ∙ ap (λ (node : Node). Some (record { head = item.head; node = node }, rest)) (sym is.bare))

-- a line with something behind it is no empty text
lines_some : (xs ys : List ℕ) → 0 < length (xs ++ (10 ∷ []) ++ ys)
lines_some xs ys = omega (arith, length-append (xs ++ (10 ∷ [])) ys, length-append xs (10 ∷ []))

nodes_again : (known : Known) (report : Report) → AreNamed known.script report → IsReadAgain (λ _ b. eqb (first_of b) 43) (λ _ b. shown_at known b) (λ _ (i : PlacedNode). node_line report i) (λ _. IsShown known.script) (λ b. Unit {0})
nodes_again known report named = record {
  some = λ n i is. omega arith;
  begin = λ n i rest is e. refl;
  again = λ n i rest is e. shown_again known report i rest named is;
  end = λ n i rest is e. tt;
}

-- ---- replies

word_is_letters : (word : Word) → list_all is_letter_or_digit (word_text word) ≡ true
word_is_letters words.Append = refl
word_is_letters _ = refl

named_word : (word : Word) → word_named (word_text word) ≡ Some word
named_word words.Append = refl
named_word _ = refl

-- what may stand behind a reply: no node
abbrev pub EndsReply : List ℕ → Type 0
EndsReply b = eqb (first_of b) 43 ≡ false

reply_again : (known : Known) (report : Report) (place : ℕ) (reply : ReplyLine) (rest : List ℕ) → AreNamed known.script report → IsReply known place reply → EndsReply rest → reply_at known place (reply_lines report reply ++ rest) ≡ Some (reply, rest)
unfolding reply_at fitting_answer_at
reply_again known report place reply rest named is e =
    let nodes = flat_map (node_line report) reply.nodes ++ rest in
    let third = 32 ∷ (answer_text report reply.answer ++ (10 ∷ nodes)) in
    let second = 32 ∷ (word_text reply.word ++ third) in
    ap (reply_at known place) (join5 (decimal reply.line) (32 ∷ word_text reply.word) (32 ∷ answer_text report reply.answer) line_end (flat_map (node_line report) reply.nodes) rest)
    ∙ rw (
      small_again reply.line second is.line refl,
      word_again (word_text reply.word) third (word_is_letters reply.word) refl,
      named_word reply.word,
      answer_again known report (is_many known place) reply.word reply.answer nodes named is.has is.answer,
      is.has,
      all_again _ _ _ _ _ (nodes_again known report named) reply.nodes rest (in_places (IsShown known.script) 0 reply.nodes is.nodes) tt e,
    ) refl

reply_front : (report : Report) (reply : ReplyLine) (rest : List ℕ) → IsSmall reply.line → is_digit (first_of (reply_lines report reply ++ rest)) ≡ true
reply_front report reply rest small =
    ap (λ w. is_digit (first_of w)) (join5 (decimal reply.line) (32 ∷ word_text reply.word) (32 ∷ answer_text report reply.answer) line_end (flat_map (node_line report) reply.nodes) rest)
    ∙ decimal_front reply.line _ (omega (arith, small))

replies_again : (known : Known) (report : Report) → AreNamed known.script report → IsReadAgain (λ _ b. is_digit (first_of b)) (reply_at known) (λ _ (r : ReplyLine). reply_lines report r) (IsReply known) EndsReply
replies_again known report named = record {
  some = λ n r is. lines_some _ _;
  begin = λ n r rest is e. reply_front report r rest is.line;
  again = λ n r rest is e. reply_again known report n r rest named is e;
  end = λ n r rest is e. digit_unlike _ 43 (reply_front report r rest is.line) refl;
}

-- ---- clients

-- what may stand behind a client: no reply and no node
abbrev pub EndsClient : List ℕ → Type 0
EndsClient b = EndsReply b × (is_digit (first_of b) ≡ false)

pub client_again : (known : Known) (report : Report) (place : ℕ) (client : ClientReport) (rest : List ℕ) → AreNamed known.script report → IsClientReport known.script place client → EndsClient rest → client_at known place (client_lines report client ++ rest) ≡ Some (client, rest)
unfolding client_at
client_again known report place client rest named is e =
    let own = known_of known.script place in
    let replies = flat_map (reply_lines report) client.replies in
    ap (client_at known place) (join4 (codes "client ") client.name line_end replies rest)
    ∙ rw (
      ← is.name,
      drop_at client.name (10 ∷ (replies ++ rest)) (length client.name) refl,
      all_again _ _ _ _ _ (replies_again own report named) client.replies rest is.replies e.0 e.1,
    ) refl

-- the clients of a script in their places
pub clients_again : (known : Known) (report : Report) → AreNamed known.script report → IsReadAgain (λ n _. client_begins known n) (client_at known) (λ _ (c : ClientReport). client_lines report c) (λ n c. (n < length known.script.clients) × IsClientReport known.script n c) EndsClient
clients_again known report named = record {
  some = λ n c is. omega arith;
  begin = λ n c rest is e. lt-ltb n (length known.script.clients) is.0;
  again = λ n c rest is e. client_again known report n c rest named is.1 e;
  end = λ n c rest is e. (refl, refl);
}
