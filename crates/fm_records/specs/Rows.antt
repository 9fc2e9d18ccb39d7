-- Values side by side, and rows of such rows: what is kept of them, what adding them asks for, and what was added.
use Rattle.std.specs.Prelude.{List, [], ◌∷◌, Result}
use Rattle.fm_base.specs.{declared.refusal.Refusal.{Refusal}, View.{View}}
use Rattle.fm_path_meaning.specs.declared.dim.Dim.{Dim}
use Rattle.fm_segment.specs.Region.{Region}
use Rattle.fm_records.specs.{declared.{found.Found.{Found}, row.Row.{Row}, words.Last.{Last}}, Paths.{AddsAll, CanAddAll}, Words.{Seen}}
use Rattle.fm_records.specs.declared.words.Last.TheVariants as last

-- the last word first
abbrev pub words_of : Last → List Seen
words_of last.None = []
words_of (last.One word found) = (word, found) ∷ []
words_of (last.Two word found before older) = (word, found) ∷ (before, older) ∷ []

-- its values, or those at its indices and at any of the dims behind
abbrev pub CanAddRows : View → Region → Row → List Dim → Found → Type 0
CanAddRows v s row ds found = CanAddAll v s row.place row.at row.dim ds row.value.now found

abbrev pub AddsRows : (List Seen → Seen → List Seen) → View → View → Region → Row → List Dim → List Seen → List Seen → Found → Found
    → Result (Unit {0}) Refusal → Type 0
AddsRows keeps old new s row ds k l f g result = AddsAll keeps old new s row.place row.at (row.dim ∷ ds) row.value.now k l f g result
