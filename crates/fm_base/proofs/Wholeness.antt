-- Arenas have all their words, and give no more bytes than they have.
use Rattle.std.proofs.Common.{◌≡◌, ℕ, ◌+◌, ◌%◌, ◌^◌, ◌<◌, true, false, List, [], ◌∷◌, ◌==◌, if◌then◌else◌, slice_set, refl, ◌∙◌, arith, length-set}
use Rattle.std.proofs.lemmas.List.{length-replicate, Elements.{All-set, All-replicate}}
use Rattle.fm_base.specs.{declared.{caller.Caller.{Caller}, arena_id.ArenaId.{ArenaId}}, Arenas.{State, Arena, arena_of, has_arena}}
use Rattle.fm_base.specs.Calls.{Call, Open, Enter, Write, SwapIf, Add, Allocate, Leave, Hold, Unhold, Shut, End, Reply, Fine, Found, Given, Entry}
use Rattle.fm_base.specs.{Machine.{MayCall, reply_to, change_of, after, words_within}, Histories.{IsLegal, IsWhole, state_after}, Lasting.{StaysWhole}}
use Rattle.fm_base.proofs.{Lookup.{Becomes, made_known}, Growing.{given_is}}

-- a word that fits is put
put : (limit : ℕ) (a : Arena) (word value : ℕ) → value < 2 ^ 64 → IsWhole limit a → IsWhole limit (record a { words = slice_set a.words word value })
put limit a word value fits w = record { words = length-set _ _ _ ∙ w.words; fit = All-set (λ n. n < 2 ^ 64) a.words word value fits w.fit; given = w.given }

-- what does not touch words and given count
alike : (limit : ℕ) (a b : Arena) → b.words ≡ a.words → b.given ≡ a.given → IsWhole limit a → IsWhole limit b
alike limit a b words given w = record { words = rw words w.words; fit = rw words w.fit; given = rw given w.given }

module _ (limit : ℕ) (s : State) (c : Caller) where
  whole_by : (call : Call) (reply : Reply) → MayCall s c call → reply ≡ reply_to limit s call
      → Becomes (IsWhole limit) s (change_of limit c call reply)
  whole_by (Open id) reply may is = record {
    words = length-replicate {A = ℕ} (words_within limit) 0;
    fit = All-replicate (λ n. n < 2 ^ 64) (words_within limit) 0 (omega arith);
    given = omega arith;
  }
  whole_by (Enter id) Fine may is = alike limit _ _ refl refl
  whole_by (Write id word value) reply may is = put limit (arena_of s id) word value may.fits
  whole_by (SwapIf id word old new) (Found found) may is =
      elim (found == old) as (λ b. IsWhole limit (arena_of s id)
      → IsWhole limit (record (arena_of s id) { words = if b then slice_set (arena_of s id).words word new else (arena_of s id).words })) [
        | true ↦ put limit (arena_of s id) word new may.fits
        | false ↦ alike limit _ _ refl refl
      ]
  whole_by (Add id word n) (Found found) may is = put limit (arena_of s id) word ((found + n) % 2 ^ 64) (omega arith)
  whole_by (Allocate id size align) (Given place) may is =
      λ w. record { words = w.words; fit = w.fit; given = (given_is limit (arena_of s id).given size align place is).within }
  whole_by (Leave id) reply may is = alike limit _ _ refl refl
  whole_by (Hold id) Fine may is = alike limit _ _ refl refl
  whole_by (Unhold id) reply may is = alike limit _ _ refl refl
  whole_by (Shut id) Fine may is = alike limit _ _ refl refl
  whole_by (End id) reply may is = alike limit _ _ refl refl
  whole_by call reply may is = tt

-- A legal history leaves known arenas whole.
pub whole_after : (limit : ℕ) (s : State) (es : List Entry) → IsLegal limit s es → ((id : ArenaId) → has_arena s id ≡ true → IsWhole limit (arena_of s id))
    → (id : ArenaId) → has_arena (state_after limit s es) id ≡ true → IsWhole limit (arena_of (state_after limit s es) id)
whole_after limit s [] l w id h = w id h
whole_after limit s (e ∷ es) l w id h =
    let next : (o : ArenaId) → has_arena (after limit s e) o ≡ true → IsWhole limit (arena_of (after limit s e) o) = λ o k.
    made_known (IsWhole limit) s (change_of limit e.caller e.call e.reply) (whole_by limit s e.caller e.call e.reply l.0 l.1) o (w o) k in
    whole_after limit (after limit s e) es l.2 next id h

-- Arenas of a history from the start are whole.
pub whole_always : StaysWhole
whole_always limit h l = whole_after limit [] h l (λ id k. absurd (cc))
