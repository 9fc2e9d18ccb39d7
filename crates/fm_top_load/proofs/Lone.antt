-- What one caller's puts do to a machine in which nobody else is.
use Rattle.std.proofs.Common.{◌≡◌, ◌==◌, ℕ, ◌+◌, ◌%◌, ◌≤◌, Bool, true, false, List, [], ◌∷◌, ◌++◌, length, take, refl, ap, sym, subst, ◌∙◌, arith, inl, None, Result, Ok, length-append}
use Rattle.std.{specs.Prelude.{MatchBool}, proofs.lemmas.Bool.Decides.{nat_tests}}
use Rattle.fm_base.specs.{declared.{arena_id.ArenaId.{ArenaId}, caller.Caller.{Caller}, refusal.Refusal.{Refusal}}, Arenas.{State, are_one, has_arena}, Calls.{Entry}}
use Rattle.fm_base.specs.{Histories.{IsLegal, state_after}, View.{Makes, given_in, inside_after}}
use Rattle.fm_base.proofs.{Making.{IsLegal-split, state_after-append}, Running.{run_outside}}
use Rattle.fm_base_bytes.specs.Bytes.{AreBytes}
use Rattle.fm_base_lists.proofs.Each.{all_split}
use Rattle.fm_segment_access.specs.{Alone.{ChangesBytes, bytes_of_arena, with_bytes}, Ranges.{DoesPutBy, EndsPutting, Putting, putting}, Runs.{DoesPutAll, PutsMore}}
use Rattle.fm_segment_access.proofs.{Alone.{changes, puts_none}, PuttingAlone.{put_alone, words_put}}
use Rattle.fm_top_load.specs.{Filled.{given_behind}, Held.{IsEmpty, IsHeld, OnlyIn}, Putting.{ArePut, DoesPutPortion, arena_in, none_put, put_more}}
use Rattle.fm_top_load.specs.declared.room.Room.{Room, TheVariants.{Given, Growing}}
use Rattle.fm_top_load.proofs.{GivenBytes.{put_behind}, Growing.{gave}, Holding.{put_only, put_still}, Machine.{AreOwn, lone, lone_makes}}
use Rattle.fm_top_load.proofs.Placing.{has_bytes, none_taken, only_here, only_then}

-- ---- one run

-- what one run of bytes changes
run_changes : (limit : ℕ) (c : Caller) (s : State) (a : ArenaId) (place : ℕ) (bytes : List ℕ) (own : List Entry) → has_arena s a ≡ true → AreBytes bytes
    → DoesPutAll c a place bytes (Ok tt) own → (m : Makes (lone limit c s) (lone limit c (state_after limit s own)) own)
    → ChangesBytes (lone limit c s) (lone limit c (state_after limit s own)) a place bytes
run_changes limit c s a place bytes own known are does m =
    let answered : Result (Unit {0}) Refusal = Ok tt in
    let P : Bool → Type 0 = λ b. (length bytes == 0) ≡ b → MatchBool b ((answered ≡ Ok tt) × (own ≡ [])) (DoesPutBy PutsMore c a place bytes (Ok tt) own)
    → ChangesBytes (lone limit c s) (lone limit c (state_after limit s own)) a place bytes in
    let go : (b : Bool) → P b = λ b. elim b as P [
      | true ↦ (λ e d.
          let none : length bytes ≡ 0 = grind (arith, nat_tests) in
          subst (λ (es : List Entry). ChangesBytes (lone limit c s) (lone limit c (state_after limit s es)) a place bytes) (sym d.1)
          (changes (lone limit c s) (lone limit c s) a place bytes known (puts_none s a place bytes (no_bytes bytes none))))
      | false ↦ (λ e d. put_alone words_put (lone limit c s) (lone limit c (state_after limit s own)) a place bytes tt are known
          (record { own = own; does = d; makes = m }) (inl refl))
    ] in
    go (length bytes == 0) refl does
  where
    no_bytes : (xs : List ℕ) → length xs ≡ 0 → xs ≡ []
    no_bytes [] e = refl
    no_bytes (x ∷ xs) e = absurd (omega (arith, e))

-- and it ends in no arena
run_outside_all : (c : Caller) (a : ArenaId) (place : ℕ) (bytes : List ℕ) (own : List Entry) → DoesPutAll c a place bytes (Ok tt) own → inside_after None own ≡ None
run_outside_all c a place bytes own does =
    let answered : Result (Unit {0}) Refusal = Ok tt in
    let P : Bool → Type 0 = λ b. MatchBool b ((answered ≡ Ok tt) × (own ≡ [])) (DoesPutBy PutsMore c a place bytes (Ok tt) own) → inside_after None own ≡ None in
    let go : (b : Bool) → P b = λ b. elim b as P [
      | true ↦ (λ d. ap (inside_after None) d.1)
      | false ↦ (λ d. run_outside (PutsMore c a) (EndsPutting c a) (λ x es y step. words_put.outside c a x y es step) ends_outside (putting place bytes) own true d.1)
    ] in
    go (length bytes == 0) does
  where
    ends_outside : (x : Putting) (es : List Entry) (done : Bool) → EndsPutting c a x es done → inside_after None es ≡ None
    ends_outside x es true e = ap (inside_after None) e.1
    ends_outside x es false e = ap (inside_after None) e.1

-- it stands at its place in the arena, which is held still and has given so many bytes, and nothing else changed
record RunStands (limit : ℕ) (c : Caller) (s t : State) (a : ArenaId) (place : ℕ) (bytes : List ℕ) (given : ℕ) : Type 0 where
  pub held : IsHeld (lone limit c t) a
  pub given_is : given_in (lone limit c t) a ≡ given
  pub changed : bytes_of_arena t a ≡ with_bytes (bytes_of_arena s a) place bytes
  pub elsewhere : OnlyIn a s t

run_stands : (limit : ℕ) (c : Caller) (s : State) (a : ArenaId) (place : ℕ) (bytes : List ℕ) (own : List Entry) → IsHeld (lone limit c s) a → AreBytes bytes
    → place + length bytes ≤ limit → DoesPutAll c a place bytes (Ok tt) own → IsLegal limit s own → AreOwn c own
    → RunStands limit c s (state_after limit s own) a place bytes (given_in (lone limit c s) a)
run_stands limit c s a place bytes own held are within does legal mine =
    let t = state_after limit s own in
    let makes = lone_makes limit c s own legal mine (run_outside_all c a place bytes own does) in
    let ch = run_changes limit c s a place bytes own held.known are does makes in
    let then = put_still (lone limit c s) (lone limit c t) own a place bytes held makes refl ch within in
    record { held = then.held; given_is = then.given_is; changed = ch.changed; elsewhere = put_only (lone limit c s) (lone limit c t) a place bytes ch }

-- ---- all of them

-- the bytes stand at the arena's start; it is held still, and nothing else changed
pub record StandsAt (limit : ℕ) (c : Caller) (s t : State) (room : Room) (bytes : List ℕ) : Type 0 where
  pub held : IsHeld (lone limit c t) (arena_in room)
  pub given : given_in (lone limit c t) (arena_in room) ≡ given_behind room (given_in (lone limit c s) (arena_in room)) (length bytes)
  pub stand : take (length bytes) (bytes_of_arena t (arena_in room)) ≡ bytes
  pub elsewhere : OnlyIn (arena_in room) s t

-- the arena is held; one that is to give room has given nothing
abbrev pub HoldsFirst : ℕ → Caller → State → Room → Type 0
HoldsFirst limit c s (Given a) = IsHeld (lone limit c s) a
HoldsFirst limit c s (Growing a) = IsEmpty (lone limit c s) a

-- One portion more stands behind those before.
portion_stands : (limit : ℕ) (c : Caller) (s u : State) (room : Room) (all bytes : List ℕ) (own : List Entry) → StandsAt limit c s u room all → AreBytes bytes
    → length all + length bytes ≤ limit → DoesPutPortion c room (length all) bytes (Ok tt) own → IsLegal limit u own → AreOwn c own
    → RunStands limit c u (state_after limit u own) (arena_in room) (length all) bytes
    (given_behind room (given_in (lone limit c s) (arena_in room)) (length all + length bytes))
portion_stands limit c s u (Given a) all bytes own old are within does legal mine =
    let run = run_stands limit c u a (length all) bytes own old.held are within does legal mine in
    record { held = run.held; given_is = run.given_is ∙ old.given; changed = run.changed; elsewhere = run.elsewhere }
portion_stands limit c s u (Growing a) all bytes own old are within does legal mine =
    let grows = does.1.1 in
    let parts = IsLegal-split limit u grows.gave grows.put (subst (IsLegal limit u) grows.parts legal) in
    let owns = all_split (λ e. are_one e.caller c ≡ true) grows.gave grows.put (subst (AreOwn c) grows.parts mine) in
    let given = old.given in
    let v = state_after limit u grows.gave in
    let gives = gave limit c u a does.1.0 (length bytes) grows.gave grows.given old.held (ap (λ n. n % 8) old.given ∙ does.0) parts.0 owns.0 in
    let at : does.1.0 ≡ length all = gives.at ∙ old.given in
    let put : DoesPutAll c a (length all) bytes (Ok tt) grows.put = subst (λ n. DoesPutAll c a n bytes (Ok tt) grows.put) at grows.written in
    let run = run_stands limit c v a (length all) bytes grows.put gives.held are within put parts.1 owns.1 in
    let is : state_after limit u own ≡ state_after limit v grows.put = ap (state_after limit u) grows.parts ∙ state_after-append limit u grows.gave grows.put in
    subst (λ (t : State). RunStands limit c u t a (length all) bytes (length all + length bytes)) (sym is) (record {
      held = run.held;
      given_is = run.given_is ∙ gives.given ∙ ap (λ n. n + length bytes) at;
      changed = run.changed ∙ ap (λ (bs : List ℕ). with_bytes bs (length all) bytes) gives.same;
      elsewhere = only_then gives.elsewhere run.elsewhere;
    })

none_given : (limit : ℕ) (c : Caller) (s : State) (room : Room) → HoldsFirst limit c s room
    → given_in (lone limit c s) (arena_in room) ≡ given_behind room (given_in (lone limit c s) (arena_in room)) 0
none_given limit c s (Given a) first = refl
none_given limit c s (Growing a) first = first.none

pub held_first : (limit : ℕ) (c : Caller) (s : State) (room : Room) → HoldsFirst limit c s room → IsHeld (lone limit c s) (arena_in room)
held_first limit c s (Given a) first = first
held_first limit c s (Growing a) first = first.held

-- Portions that were put behind one another stand there.
pub puts_stand : (limit : ℕ) (c : Caller) (s : State) (room : Room) (bytes : List ℕ) (own : List Entry) → ArePut c room bytes own → HoldsFirst limit c s room
    → length bytes ≤ limit → IsLegal limit s own → AreOwn c own → StandsAt limit c s (state_after limit s own) room bytes
puts_stand limit c s room bytes own none_put first within legal mine = record {
  held = held_first limit c s room first;
  given = none_given limit c s room first;
  stand = none_taken (bytes_of_arena s (arena_in room));
  elsewhere = only_here;
}
puts_stand limit c s room bytes own (put_more all run before last puts are does) first within legal mine =
    let a = arena_in room in
    let parts = IsLegal-split limit s before last legal in
    let owns = all_split (λ e. are_one e.caller c ≡ true) before last mine in
    let long = length-append all run in
    let u = state_after limit s before in
    let w = state_after limit u last in
    let old = puts_stand limit c s room all before puts first (omega (arith, long, within)) parts.0 owns.0 in
    let then = portion_stands limit c s u room all run last old are (omega (arith, long, within)) does parts.1 owns.1 in
    let there : length all ≤ length (bytes_of_arena u (arena_in room)) = has_bytes (length all) old.held (omega (arith, long, within)) in
    let is : state_after limit s (before ++ last) ≡ w = state_after-append limit s before last in
    subst (λ (t : State). StandsAt limit c s t room (all ++ run)) (sym is) (record {
      held = then.held;
      given = then.given_is ∙ ap (given_behind room (given_in (lone limit c s) a)) (sym long);
      stand = ap (λ n. take n (bytes_of_arena w a)) long ∙ ap (take (length all + length run)) then.changed
          ∙ put_behind (bytes_of_arena u a) run (length all) there ∙ ap (λ bs. bs ++ run) old.stand;
      elsewhere = only_then old.elsewhere then.elsewhere;
    })
