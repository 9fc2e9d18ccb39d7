-- Passes and notes of one pool.
use Rattle.std.specs.Prelude.{◌≡◌, List, ◌++◌}
use Rattle.fm_base.specs.Calls.{Entry}
use Rattle.fm_rule_facts.specs.Views.{View}
use Rattle.fm_rule.specs.{Views.{NoteView, numbers_of}, declared.pool.Pool.{Pool}}

-- the pass is one of the pool
abbrev pub IsOf : Pool → View → Type 0
IsOf pool v = (v.home ≡ numbers_of pool.table.shared.table_id) × (v.shape ≡ pool.shape)

abbrev pub IsNoteOf : Pool → NoteView → Type 0
IsNoteOf pool n = n.home ≡ numbers_of pool.table.shared.table_id

-- the second history goes on from the first
abbrev pub GoesOnFrom : List Entry → List Entry → Type 0
GoesOnFrom h k = (more : List Entry) × (k ≡ h ++ more)
