-- The names in a report, by number: those of its clients, and those of its columns.
use Rattle.std.specs.Prelude.{ℕ, ◌==◌, List, [], ◌∷◌, Option, Some, None, slice_get, if◌then◌else◌}
use Rattle.std.specs.List.{count_by}
use Rattle.report_text.specs.declared.report.ClientReport.{ClientReport}
use Rattle.report_text.specs.declared.report.ColumnReport.{ColumnReport}
use Rattle.report_text.specs.declared.report.Report.{Report}

-- the name that the first column with this number has; nothing where no column has it
abbrev pub name_among : (ColumnReport → ℕ) → (ColumnReport → List ℕ) → List ColumnReport → ℕ → List ℕ
name_among number_of name_of [] n = []
name_among number_of name_of (c ∷ cs) n = if number_of c == n then name_of c else name_among number_of name_of cs n

-- the name of the region with this number
abbrev pub region_name : Report → ℕ → List ℕ
region_name report region = name_among (λ c. c.region) (λ c. c.region_name) report.columns region

-- the name of the colour with this number
abbrev pub colour_name : Report → ℕ → List ℕ
colour_name report colour = name_among (λ c. c.colour) (λ c. c.colour_name) report.columns colour

-- a client's name; nothing where there is no client
abbrev pub name_of_client : Option ClientReport → List ℕ
name_of_client None = []
name_of_client (Some client) = client.name

-- clients are numbered as they stand
abbrev pub client_name : Report → ℕ → List ℕ
client_name report client = name_of_client (slice_get report.clients client)

-- how many regions there are: each has one column of colour 0
abbrev pub region_count : Report → ℕ
region_count report = count_by (λ c. c.colour == 0) report.columns
