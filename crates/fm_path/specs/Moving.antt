-- What the code's answers are seen as.
use Rattle.std.specs.Prelude.{◌≡◌, Result, Ok, Err}
use Rattle.fm_base.specs.declared.refusal.Refusal.{Refusal}
use Rattle.fm_path.specs.declared.moves.Move.{Move}
use Rattle.fm_path_meaning.specs.Walk as walk

-- an answer, seen by view, is this
abbrev pub Gives : {X Y : Type 0} → (X → Y) → Result X Refusal → Result Y Refusal → Type 0
Gives view (Ok x) r = r ≡ Ok (view x)
Gives view (Err e) r = r ≡ Err e

-- a move of the code is the definition's
abbrev pub Moves : Result Move Refusal → walk.Moved → Type 0
Moves result moved = Gives (λ m. record { by = m.by; dim = m.dim; to = m.to.now }) result moved
