-- What the lines of a report opened was opened in its history.
use Rattle.std.{proofs.Common.{◌≡◌, ℕ, zero, suc, true, List, [], ◌∷◌, Option, Some, None, get_or, refl, arith}, specs.Prelude.{IfSome}}
use Rattle.std.specs.List.{AllByRecursion}
use Rattle.fm_base.specs.{declared.arena_id.ArenaId.{ArenaId}, Arenas.{has_arena}, Calls.{Entry}, Histories.{IsLegal, state_after}}
use Rattle.fm_script_report.specs.Told.{opened_of}
use Rattle.fm_script_lines.specs.Report.{IsReport, Played, all_done}
use Rattle.fm_script_text.specs.Scripts.{ScriptOf}
use Rattle.fm_script.proofs.{Bringing.{all_bring, one_at}, Once.{in_history, opened_behind}}

-- what each place has, all have
all_placed : {P : ArenaId → Type 0} (os : List (Option ArenaId)) → ((n : ℕ) (id : ArenaId) → get_or os n None ≡ Some id → P id)
    → AllByRecursion (λ o. IfSome o P) os
all_placed [] each = tt
all_placed (None ∷ os) each = (tt, all_placed os (λ n id at. each (suc n) id at))
all_placed (Some id ∷ os) each = (each zero id refl, all_placed os (λ n a at. each (suc n) a at))

pub were_opened : (s : ScriptOf) (limit : ℕ) (history : List Entry) (p : Played) → IsLegal limit [] history → IsReport s history p
    → AllByRecursion (λ o. IfSome o (λ id. has_arena (state_after limit [] history) id ≡ true)) (opened_of (all_done p))
were_opened s limit history p legal did = all_placed (opened_of (all_done p)) opened
  where
    opened : (n : ℕ) (id : ArenaId) → get_or (opened_of (all_done p)) n None ≡ Some id → has_arena (state_after limit [] history) id ≡ true
    opened n id at =
        let some = one_at id (all_done p) (all_bring id s history p did) n at in
        let all = in_history id history p did.apart did.cut in
        opened_behind id limit [] history legal (omega (arith, some, all))
