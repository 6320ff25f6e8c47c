-- Syncs that show other nodes than they play.
use Rattle.std.specs.Prelude.{ℕ, List, [], ◌∷◌, codes, None}
use Rattle.log_node.specs.declared.node.At.TheVariants.{Event}
use Rattle.log_node.specs.Seen.{PlacedNode}
use Rattle.col_core.specs.declared.Event.TheVariants.{Give, Carry}
use Rattle.script_text.specs.declared.commands.What.TheVariants.{Append, Sync, Pull}
use Rattle.script_text.specs.declared.commands.Word.TheVariants as words
use Rattle.report_text.specs.declared.report.Answer.TheVariants as answers
use Rattle.report_text.specs.declared.report.ReplyLine.{ReplyLine}
use Rattle.col_core.specs.declared.Entry.{Entry}
use Rattle.wrong_reports.specs.Cases.{Case, a, b, e, w, x, id, key, counts, on_x, apart, asks, replies, to_both}
use Rattle.wrong_reports.specs.Cases.{look, column, by, enters, shows}
use Rattle.wrong_reports.specs.Naming.{case, append, stood_at, one_node}

-- the first node of a, with this text, under a stamp
abbrev pub shown : ℕ → List ℕ → PlacedNode
shown stamp text = record {
  head = record { key = key stamp (id a 0); needs = counts 0 0 };
  node = record {
    id = id a 0;
    region = e;
    colours = on_x;
    text = text;
    floor = 0;
    wants = counts 0 0 ∷ [];
    row = None;
  };
}

-- the two nodes of a
abbrev pub two_entries : List Entry
two_entries = enters a (id a 0) 0 1 ∷ enters a (id a 1) 1 2 ∷ []

-- an append, and a sync that tells of so many plays and shows these nodes
abbrev pub plays_nodes : List PlacedNode → ℕ → Case
plays_nodes nodes count = case (append 6 ∷ asks 7 a (Sync x) ∷ [])
    (stood_at 6 1 0 0
    ∷ record {
      line = 7;
      word = words.Sync;
      answer = answers.Synced (look x 1 (counts 1 0)) count;
      nodes =
          nodes;
    } ∷ [])
    one_node

-- 6 append ok 1 x!0@0
-- 7 sync ok x?1/1 plays 1
-- + a.0 1 t
-- column e x
-- 0 a single a.0 floor 0 wants 0 stamp 1
-- = clock 1 line a.0:1 queue - cut 1 base 0
abbrev pub a_node_with_another_text : Case
a_node_with_another_text = plays_nodes (shown 1 (codes "t") ∷ []) 1

-- 6 append ok 1 x!0@0
-- 7 sync ok x?1/1 plays 0
-- column e x
-- 0 a single a.0 floor 0 wants 0 stamp 1
-- = clock 1 line a.0:1 queue - cut 1 base 0
abbrev pub a_node_that_is_not_shown : Case
a_node_that_is_not_shown = plays_nodes [] 0

-- 6 append ok 1 x!0@0
-- 7 sync ok x?1/1 plays 1
-- + a.0 2 s
-- column e x
-- 0 a single a.0 floor 0 wants 0 stamp 1
-- = clock 1 line a.0:1 queue - cut 1 base 0
abbrev pub a_node_under_another_stamp : Case
a_node_under_another_stamp = plays_nodes (shown 2 (codes "s") ∷ []) 1

-- a sync that plays both nodes
abbrev pub two_plays : ReplyLine
two_plays = record {
  line = 8;
  word = words.Sync;
  answer = answers.Synced (look x 2 (counts 2 0)) 2;
  nodes = record (shown 2 (codes "s")) { head = record { key = key 2 (id a 1); needs = counts 0 0 } }
      ∷ shown 1 (codes "s") ∷ [];
}

-- 6 append ok 1 x!0@0
-- 7 append ok 2 x!1@1
-- 8 sync ok x?2/2 plays 2
-- + a.1 2 s
-- + a.0 1 s
-- column e x
-- 0 a single a.0 floor 0 wants 0 stamp 1
-- 1 a single a.1 floor 1 wants 0 stamp 2
-- = clock 2 line a.0:1,a.1:2 queue - cut 2 base 0
abbrev pub nodes_in_another_order : Case
nodes_in_another_order = case (append 6 ∷ append 7 ∷ asks 8 a (Sync x) ∷ [])
    (stood_at 6 1 0 0 ∷ stood_at 7 2 1 1 ∷ two_plays ∷ [])
    (column e x two_entries 2 (key 1 (id a 0) ∷ key 2 (id a 1) ∷ []) [] (counts 2 0) (counts 0 0))

-- 6 append ok 1 x!0@0
-- 7 sync ok x?1/1 plays 2
-- + a.0 1 s
-- + a.0 1 s
-- column e x
-- 0 a single a.0 floor 0 wants 0 stamp 1
-- = clock 1 line a.0:1 queue - cut 1 base 0
abbrev pub a_node_shown_twice : Case
a_node_shown_twice = plays_nodes (shown 1 (codes "s") ∷ shown 1 (codes "s") ∷ []) 2

-- a sync that plays one node
abbrev pub one_play : ReplyLine
one_play = record {
  line = 7;
  word = words.Sync;
  answer = answers.Synced (look x 1 (counts 1 0)) 1;
  nodes =
      shown 1 (codes "s") ∷ [];
}

-- 6 append ok 1 x!0@0
-- 7 sync ok x?1/1 plays 1
-- + a.0 1 s
-- 8 append ok 2 x!1@1
-- column e x
-- 0 a single a.0 floor 0 wants 0 stamp 1
-- 1 a single a.1 floor 1 wants 0 stamp 2
-- = clock 2 line a.0:1,a.1:2 queue - cut 2 base 0
abbrev pub a_node_that_wants_too_little : Case
a_node_that_wants_too_little = case (append 6 ∷ asks 7 a (Sync x) ∷ append 8 ∷ [])
    (stood_at 6 1 0 0 ∷ one_play ∷ stood_at 8 2 1 1 ∷ [])
    (column e x two_entries 2 (key 1 (id a 0) ∷ key 2 (id a 1) ∷ []) [] (counts 2 0) (counts 0 0))

-- 6 sync ok x?1/1 plays 1
-- + a.0 1 s
-- column e x
-- 0 a single a.0 floor 0 wants 0 stamp 1
-- = clock 1 line a.0:1 queue - cut 1 base 0
abbrev pub a_text_of_an_unknown_node : Case
a_text_of_an_unknown_node = case (asks 6 a (Sync x) ∷ []) (record one_play { line = 6 } ∷ []) one_node

-- FREE NODES: b of the region w pulled the node that a appended in e, and appended one of its own
abbrev pub pulled_and_entered : List Entry
pulled_and_entered = by b (Carry e 0 (record { key = key 1 (id a 0); needs = counts 0 0 } ∷ [])) 0
    ∷ enters b (id b 0) 0 1 ∷ []

-- the node of b before that of a
abbrev pub later_first : List PlacedNode
later_first = record (shown 1 (codes "t")) { head = record { key = key 1 (id b 0); needs = counts 0 0 } }
    ∷ shown 1 (codes "s") ∷ []

-- 8 append ok 1 x!0@0
-- 9 pull ok 1 give !1 carry !0
-- 10 append ok 1 x!1@0
-- 11 sync ok x?2/1,1 plays 2
-- + b.0 1 t
-- + a.0 1 s
-- column e x
-- 0 a single a.0 floor 0 wants 0,0 stamp 1
-- 1 b give w 0
-- = clock 1 line a.0:1 queue - cut 1,0 base 0,0
-- column w x
-- 0 b carry e 0 a.0:1/0,0
-- 1 b single b.0 floor 0 wants 0,0 stamp 1
-- = clock 1 line b.0:1 queue - cut 1,1 base 0,0
abbrev pub free_nodes_in_another_order : Case
free_nodes_in_another_order = record {
  script = apart (asks 8 a (Append on_x (codes "s")) ∷ asks 9 b (Pull e x) ∷ asks 10 b (Append on_x (codes "t"))
      ∷ asks 11 b (Sync x) ∷ []);
  report = shows (to_both (stood_at 8 1 0 0 ∷ []) (replies 9 words.Pull (answers.Pulled 1 (Event 1) (Event 0))
      ∷ stood_at 10 1 1 0
      ∷ record {
        line = 11;
        word = words.Sync;
        answer = answers.Synced (look x 2 (counts 1 1)) 2;
        nodes =
            later_first;
      } ∷ []))
      [] (record one_node { journal = enters a (id a 0) 0 1 ∷ by b (Give w 0) 0 ∷ [] }
      ∷ column w x pulled_and_entered 1 (key 1 (id b 0) ∷ []) [] (counts 1 1) (counts 0 0) ∷ []);
}
