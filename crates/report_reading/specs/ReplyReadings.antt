-- The replies of clients as they are read, and the nodes that they show.
use Rattle.std.specs.Prelude.{Bool, ℕ, suc, ◌==◌, nat_lt, List, [], ◌∷◌, length, take, drop, Option, Some, None, codes, if◌then◌else◌}
use Rattle.std.specs.Str.{bytes_eq}
use Rattle.log_node.specs.Seen.{PlacedNode}
use Rattle.log_node.specs.Vectors.{zeros}
use Rattle.script_text.specs.declared.commands.Word.{Word}
use Rattle.script_text.specs.declared.commands.Word.TheVariants as words
use Rattle.script_text.specs.Pieces.{is_text, is_digit, name_of}
use Rattle.report_text.specs.declared.report.Answer.{Answer}
use Rattle.report_text.specs.declared.report.ReplyLine.{ReplyLine}
use Rattle.report_text.specs.declared.report.ClientReport.{ClientReport}
use Rattle.report_reading.specs.Answers.{has_answer}
use Rattle.report_reading.specs.Known.{Known, known_of, is_many}
use Rattle.report_reading.specs.Meant.{bare_node}
use Rattle.report_reading.specs.Lists.{◌>>=◌, each_at}
use Rattle.report_reading.specs.Pieces.{first_of, word_at, number_at, small_at, id_at}
use Rattle.report_reading.specs.AnswerReadings.{answer_at}

-- how many bytes the line has that begins here
abbrev pub line_len : List ℕ → ℕ
line_len [] = 0
line_len (b ∷ bs) = if b == 10 then 0 else suc (line_len bs)

-- a node's text, which goes to the end of the line
unfoldable pub text_at : List ℕ → Option (List ℕ × List ℕ)
text_at bytes =
    if is_text (take (line_len bytes) bytes) then Some (take (line_len bytes) bytes, drop (line_len bytes) bytes) else None

-- a node that is shown
unfoldable pub shown_at : Known → List ℕ → Option (PlacedNode × List ℕ)
shown_at known bytes =
    let id = id_at known.script (drop 2 bytes) in
    let stamp = number_at (drop 1 id.1) in
    text_at (drop 1 stamp.1) >>= λ text.
    Some (
      record {
        head = record { key = record { stamp = stamp.0; id = id.0 }; needs = zeros };
        node = bare_node id.0 text.0;
      },
      drop 1 text.1,
    )

-- nodes that are shown, each on a line
abbrev pub nodes_at : Known → List ℕ → Option (List PlacedNode × List ℕ)
nodes_at known bytes = each_at (λ _ b. first_of b == 43) (λ _ b. shown_at known b) bytes

-- a word of the log itself
abbrev pub log_word : List ℕ → Option Word
log_word name =
    if bytes_eq name (codes "append") then Some words.Append
    else if bytes_eq name (codes "sync") then Some words.Sync
    else if bytes_eq name (codes "pull") then Some words.Pull
    else if bytes_eq name (codes "scan") then Some words.Scan
    else if bytes_eq name (codes "trim") then Some words.Trim
    else if bytes_eq name (codes "stop") then Some words.Stop
    else if bytes_eq name (codes "only") then Some words.Only
    else None

-- a word of maps, transactional maps and queues
abbrev pub object_word : List ℕ → Option Word
object_word name =
    if bytes_eq name (codes "put") then Some words.Put
    else if bytes_eq name (codes "get") then Some words.Get
    else if bytes_eq name (codes "del") then Some words.Del
    else if bytes_eq name (codes "putall") then Some words.PutAll
    else if bytes_eq name (codes "getall") then Some words.GetAll
    else if bytes_eq name (codes "read") then Some words.Read
    else if bytes_eq name (codes "commit") then Some words.Commit
    else if bytes_eq name (codes "enq") then Some words.Enq
    else if bytes_eq name (codes "deq") then Some words.Deq
    else None

-- a word of trees, and of transactional maps whose colours are read alone
abbrev pub newer_word : List ℕ → Option Word
newer_word name =
    if bytes_eq name (codes "mk") then Some words.Mk
    else if bytes_eq name (codes "rm") then Some words.Rm
    else if bytes_eq name (codes "mv") then Some words.Mv
    else if bytes_eq name (codes "ls") then Some words.Ls
    else if bytes_eq name (codes "peek") then Some words.Peek
    else if bytes_eq name (codes "decide") then Some words.Decide
    else None

-- the first of two that is there
abbrev pub or_else : {X : Type 0} → Option X → Option X → Option X
or_else None other = other
or_else (Some x) other = Some x

-- the word that has this text
abbrev pub word_named : List ℕ → Option Word
word_named name = or_else (log_word name) (or_else (object_word name) (newer_word name))

-- an answer that the word has
unfoldable pub fitting_answer_at : Known → Bool → Word → List ℕ → Option (Answer × List ℕ)
fitting_answer_at known many word bytes =
    answer_at known many word bytes >>= λ answer. if has_answer many word answer.0 then Some answer else None

-- the reply in a place
unfoldable pub reply_at : Known → ℕ → List ℕ → Option (ReplyLine × List ℕ)
reply_at known place bytes =
    let line = small_at bytes in
    let word = word_at (drop 1 line.1) in
    word_named word.0 >>= λ named.
    fitting_answer_at known (is_many known place) named (drop 1 word.1) >>= λ answer.
    nodes_at known (drop 1 answer.1) >>= λ nodes.
    Some (record { line = line.0; word = named; answer = answer.0; nodes = nodes.0 }, nodes.1)

-- replies, each on a line
abbrev pub replies_at : Known → List ℕ → Option (List ReplyLine × List ℕ)
replies_at known bytes = each_at (λ _ b. is_digit (first_of b)) (reply_at known) bytes

-- there is a client in the place
abbrev pub client_begins : Known → ℕ → Bool
client_begins known place = nat_lt place (length known.script.clients)

-- the client in a place, whose name the script has
unfoldable pub client_at : Known → ℕ → List ℕ → Option (ClientReport × List ℕ)
client_at known place bytes =
    let name = name_of known.script.clients place in
    replies_at (known_of known.script place) (drop 1 (drop (length name) (drop 7 bytes))) >>= λ replies.
    Some (record { name = name; replies = replies.0 }, replies.1)
