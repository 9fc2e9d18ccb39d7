-- The places that one arena gives.
use Rattle.std.proofs.Common.{◌≡◌, ℕ, ◌+◌, ◌%◌, ◌<◌, Bool, true, false, [], ◌∷◌, ◌++◌, refl, ap, arith, append_assoc, length}
use Rattle.fm_base.specs.{declared.{caller.Caller.{Caller}, arena_id.ArenaId.{ArenaId}}, Arenas.{State, Arena, arena_of, has_arena, changed, IsUnderWay}}
use Rattle.fm_base.specs.{Calls.{Allocate, Given, entry_of}, Machine.{rounded_up, given_up_to}, Histories.{IsLegal, state_after}, Lasting.{PlacesApart}}
use Rattle.fm_base.proofs.{Lookup.{lookup_changed, arena_of-none}, Making.{IsLegal-split}, Growing.{given_is, le-rounded_up, power_pos, Grows-state_after}}

-- a multiple leaves no rest
pub rounded_even : (n align : ℕ) → 0 < align → rounded_up n align % align ≡ 0
rounded_even n align h = grind arith

-- an arena with somebody under way is there
pub there_by_way : (s : State) (c : Caller) (id : ArenaId) → IsUnderWay s c id → has_arena s id ≡ true
there_by_way s c id w =
    let P : Bool → Type 0 = λ b. has_arena s id ≡ b → has_arena s id ≡ true in
    let go : (b : Bool) → P b = λ b. elim b as P [
      | true ↦ (λ e. e)
      | false ↦ (λ e. let n : length (arena_of s id).under_way ≡ 0 = ap (λ (a : Arena). length a.under_way) (arena_of-none s id e) in let l = w.1 in
          absurd (omega arith))
    ] in
    go (has_arena s id) refl

pub apart : PlacesApart
apart limit before between later c d id size align place size2 align2 place2 l =
    let one = entry_of c (Allocate id size align) (Given place) in
    let two = entry_of d (Allocate id size2 align2) (Given place2) in
    let s = state_after limit [] before in
    let l' : IsLegal limit [] (before ++ one ∷ (between ++ two ∷ later)) = rw append_assoc at l in
    let first = (IsLegal-split limit [] before (one ∷ (between ++ two ∷ later)) l').1 in
    let t = changed s id (given_up_to (place + size)) in
    let later_on = IsLegal-split limit t between (two ∷ later) first.2 in
    let u = state_after limit t between in
    let g = given_is limit (arena_of s id).given size align place first.1 in
    let g2 = given_is limit (arena_of u id).given size2 align2 place2 later_on.1.1 in
    let now : (arena_of t id).given ≡ place + size =
    ap (λ (a : Arena). a.given) (lookup_changed s id (given_up_to (place + size)) (λ a. refl) (there_by_way s c id first.0.0)) in
    let more = (Grows-state_after limit t between later_on.0).given id in
    let up = le-rounded_up (arena_of u id).given align2 (power_pos align2 later_on.1.0.1) in (
      rw g.rounded (rounded_even (arena_of s id).given align (power_pos align first.0.1)),
      rw g2.rounded (rounded_even (arena_of u id).given align2 (power_pos align2 later_on.1.0.1)),
      (let r = g2.rounded in omega arith),
      g2.within,
    )
