-- The pieces of a report's lines.
use Rattle.std.specs.Prelude.{ℕ, List, [], ◌∷◌, ◌++◌, map, decimal, codes}
use Rattle.std.specs.List.{flat_map, range_with_len, join_with_byte}
use Rattle.log_node.specs.declared.ids.Id.{Id}
use Rattle.log_node.specs.declared.ids.Key.{Key}
use Rattle.log_node.specs.declared.ids.Counts.{Counts}
use Rattle.log_node.specs.declared.node.At.{At}
use Rattle.log_node.specs.declared.node.At.TheVariants.{Event, Look}
use Rattle.log_node.specs.Vectors.{at}
use Rattle.report_text.specs.declared.report.SyncPiece.{SyncPiece}
use Rattle.report_text.specs.declared.report.RaisePiece.{RaisePiece}
use Rattle.report_text.specs.declared.report.PointPiece.{PointPiece}
use Rattle.report_text.specs.declared.report.Report.{Report}
use Rattle.report_text.specs.Names.{client_name, colour_name, region_count}

-- a line ends with a line feed
abbrev pub line_end : List ℕ
line_end = 10 ∷ []

-- each with a space before it
abbrev pub spaced : {X : Type 0} → (X → List ℕ) → List X → List ℕ
spaced text xs = flat_map (λ x. 32 ∷ text x) xs

-- with a comma between two; a dash where there is none
abbrev pub listed : {X : Type 0} → (X → List ℕ) → List X → List ℕ
listed text [] = codes "-"
listed text (x ∷ xs) = text x ++ flat_map (λ y. 44 ∷ text y) xs

-- the client's name, a dot, the count
abbrev pub id_text : Report → Id → List ℕ
id_text report id = client_name report id.client ++ 46 ∷ decimal id.count

-- an id, a colon, the stamp
abbrev pub key_text : Report → Key → List ℕ
key_text report key = id_text report key.id ++ 58 ∷ decimal key.stamp

-- one number for each region, with commas
abbrev pub counts_text : Report → Counts → List ℕ
counts_text report counts = join_with_byte 44 (map (λ region. decimal (at counts region)) (range_with_len 0 (region_count report)))

-- `!` and the place of an event, or `?` and the number of events before a look
abbrev pub at_text : At → List ℕ
at_text (Event place) = 33 ∷ decimal place
at_text (Look events) = 63 ∷ decimal events

-- where an append stands: colour, AT, `@`, position
abbrev pub point_text : Report → PointPiece → List ℕ
point_text report point = colour_name report point.colour ++ at_text point.at ++ 64 ∷ decimal point.position

-- colour, AT
abbrev pub raise_text : Report → RaisePiece → List ℕ
raise_text report raise = colour_name report raise.colour ++ at_text raise.at

-- colour, `?`, events, `/`, the snapshot
abbrev pub sync_text : Report → SyncPiece → List ℕ
sync_text report sync = colour_name report sync.colour ++ 63 ∷ decimal sync.events ++ 47 ∷ counts_text report sync.counts
