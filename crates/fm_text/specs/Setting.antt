-- What putting a text through a segment does (`setString` of `MemorySegment`, Java SE 22), and what is learnt of it.
use Rattle.std.specs.Prelude.{ℕ, ◌+◌, List, length, Result, ⊤}
use Rattle.fm_base.specs.{declared.{caller.Caller.{Caller}, refusal.Refusal.{Refusal}}, Calls.{Entry}, View.{View}}
use Rattle.fm_segment_access.specs.{Alone.{ChangesBytes, StaysOut}, Learnt.{After}, Ranges.{DoesPut}}
use Rattle.fm_segment.specs.{Alone.{StaysOutAfter}, Fills.{DoesAfter}, Learnt.{KnowsSegment}, Puts.{checked_put, PutCause}, Region.{Region}}
use Rattle.fm_text.specs.Texts.{zero_ended}

-- how many bytes a text takes
abbrev pub text_size : List ℕ → ℕ
text_size text = length text + 1

-- refused for its arguments it makes no entry, else it puts the text and its 0 as one run of pieces
abbrev pub DoesSetText : Caller → Region → ℕ → List ℕ → Result (Unit {0}) Refusal → List Entry → Type 0
DoesSetText c r offset text = DoesAfter (checked_put r offset (text_size text)) (DoesPut c r.arena (r.first + offset) (zero_ended text))

-- of `set_text`
abbrev pub AfterSetText : View → View → Region → ℕ → List ℕ → Result (Unit {0}) Refusal → Type 0
AfterSetText old new r offset text =
    After old new (DoesSetText old.caller r offset text) (PutCause r offset (text_size text) old.caller)
    (λ u. ChangesBytes old new r.arena (r.first + offset) (zero_ended text))
    (StaysOutAfter old new (checked_put r offset (text_size text)) (StaysOut old new r.arena)) (KnowsSegment r) (λ u. ⊤)
