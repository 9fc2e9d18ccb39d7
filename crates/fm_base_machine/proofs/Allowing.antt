-- What the functions allow is legal.
use Rattle.std.{proofs.Common.{◌≡◌, ◌≢◌, ℕ, Bool, true, false, List, [], ◌∷◌, refl, ap, sym, ◌∙◌, arith}, specs.Prelude.{Contains}}
use Rattle.fm_base.specs.{declared.{caller.Caller.{Caller}, arena_id.ArenaId.{ArenaId}}, Arenas.{Life, Alive, Closing, Ended, State, arena_of, has_arena}}
use Rattle.fm_base.specs.Calls.{Call, Open, Enter, Read, Write, SwapIf, Add, Allocate, Leave, Hold, Unhold, Shut, End, Lend, Back, Found}
use Rattle.fm_base.{specs.Machine.{MayReach, MayCall, reply_to, enter_reply, hold_reply, shut_reply, allocate_reply}, proofs.Placing.{there_by_way}}
use Rattle.fm_base.proofs.Lookup.{arena_of-none}
use Rattle.fm_base_machine.specs.Functions.{Fresh, Lives, Closes, stage_of, Machine, Depicts, enter_stage, hold_stage, shut_stage, reply_by, Reaches, MayBy}
use Rattle.fm_base_machine.{specs.Steps.{AlwaysAllows}, proofs.Putting.{contains_first}}

is_fresh : (b : Bool) (l : Life) → Fresh ≡ stage_of b l → b ≡ false
is_fresh false l e = refl
is_fresh true Alive e = absurd (cc)
is_fresh true Closing e = absurd (cc)
is_fresh true Ended e = absurd (cc)

-- An arena whose stage isn't Fresh is one of the list.
pub not_fresh : (b : Bool) (l : Life) → stage_of b l ≢ Fresh → b ≡ true
not_fresh false l n = absurd (n refl)
not_fresh true l n = refl

pub is_alive : (b : Bool) (l : Life) → Lives ≡ stage_of b l → l ≡ Alive
is_alive false l e = absurd (cc)
is_alive true Alive e = refl
is_alive true Closing e = absurd (cc)
is_alive true Ended e = absurd (cc)

is_closing : (b : Bool) (l : Life) → Closes ≡ stage_of b l → l ≡ Closing
is_closing false l e = absurd (cc)
is_closing true Alive e = absurd (cc)
is_closing true Closing e = refl
is_closing true Ended e = absurd (cc)

nobody : (xs : List Caller) → ((k : Caller) → ¬ (Contains xs k)) → xs ≡ []
nobody [] n = refl
nobody (x ∷ xs) n = absurd (n x (contains_first xs x))

-- the reply to a call on an arena's life is the same where the arena isn't there
enter_is : (b : Bool) (l : Life) → (b ≡ false → l ≡ Ended) → enter_stage (stage_of b l) ≡ enter_reply l
enter_is false l n = sym (ap enter_reply (n refl))
enter_is true Alive n = refl
enter_is true Closing n = refl
enter_is true Ended n = refl

hold_is : (b : Bool) (l : Life) (h : ℕ) → (b ≡ false → l ≡ Ended) → hold_stage (stage_of b l) h ≡ hold_reply l h
hold_is false l h n = sym (ap (λ x. hold_reply x h) (n refl))
hold_is true Alive h n = refl
hold_is true Closing h n = refl
hold_is true Ended h n = refl

shut_is : (b : Bool) (l : Life) (h : ℕ) → (b ≡ false → l ≡ Ended) → shut_stage (stage_of b l) h ≡ shut_reply l h
shut_is false l h n = sym (ap (λ x. shut_reply x h) (n refl))
shut_is true Alive h n = refl
shut_is true Closing h n = refl
shut_is true Ended h n = refl

none_ended : (s : State) (id : ArenaId) → has_arena s id ≡ false → (arena_of s id).life ≡ Ended
none_ended s id h = ap (λ a. a.life) (arena_of-none s id h)

module _ (limit : ℕ) (s : State) (t : Machine) (c : Caller) (d : Depicts limit s t) where
  known : (id : ArenaId) → t.life id ≢ Fresh → has_arena s id ≡ true
  known id n = not_fresh (has_arena s id) (arena_of s id).life (λ e. n (d.life id ∙ e))

  reaches : (id : ArenaId) (word : ℕ) → Reaches limit t c id word → MayReach s c id word
  reaches id word r =
      let way = d.listed c id r.0 in
      record { under_way = way; within = (let l = d.long id (there_by_way s c id way) in let w = r.1 in omega arith) }

  may_by : (call : Call) → MayBy limit t c call → MayCall s c call
  may_by (Open id) m = (is_fresh (has_arena s id) (arena_of s id).life (sym m.0 ∙ d.life id), m.1)
  may_by (Enter id) m = (known id m.0, m.1, λ a u. let e = d.under c a u in let n = m.2 in cc)
  may_by (Read id word) m = reaches id word m
  may_by (Write id word value) m = let r = reaches id word m.0 in record { under_way = r.under_way; within = r.within; fits = m.1 }
  may_by (SwapIf id word old new) m = let r = reaches id word m.0 in record { under_way = r.under_way; within = r.within; fits = m.1 }
  may_by (Add id word n) m = reaches id word m
  may_by (Allocate id size align) m = (d.listed c id m.0, m.1)
  may_by (Leave id) m = d.listed c id m
  may_by (Hold id) m = (known id m.0, m.1)
  may_by (Unhold id) m = (is_alive (has_arena s id) (arena_of s id).life (sym m.0 ∙ d.life id), (let e = d.holds id in let l = m.1 in omega arith))
  may_by (Shut id) m = (known id m.0, m.1, m.2)
  may_by (End id) m = (is_closing (has_arena s id) (arena_of s id).life (sym m.0 ∙ d.life id), nobody (arena_of s id).under_way (λ k u. m.1 k (d.under k id u)))
  may_by (Lend block id part) m = tt
  may_by (Back block) m = tt

  reply_is : (call : Call) → reply_by limit t call ≡ reply_to limit s call
  reply_is (Open id) = refl
  reply_is (Enter id) = ap enter_stage (d.life id) ∙ enter_is (has_arena s id) (arena_of s id).life (none_ended s id)
  reply_is (Read id word) = ap Found (d.word id word)
  reply_is (Write id word value) = refl
  reply_is (SwapIf id word old new) = ap Found (d.word id word)
  reply_is (Add id word n) = ap Found (d.word id word)
  reply_is (Allocate id size align) = ap (λ n. allocate_reply limit n size align) (d.given id)
  reply_is (Leave id) = refl
  reply_is (Hold id) =
      ap (λ x. hold_stage x (t.holds id)) (d.life id)
      ∙ (ap (λ n. hold_stage (stage_of (has_arena s id) (arena_of s id).life) n) (d.holds id)
      ∙ hold_is (has_arena s id) (arena_of s id).life (arena_of s id).holds (none_ended s id))
  reply_is (Unhold id) = refl
  reply_is (Shut id) =
      ap (λ x. shut_stage x (t.holds id)) (d.life id)
      ∙ (ap (λ n. shut_stage (stage_of (has_arena s id) (arena_of s id).life) n) (d.holds id)
      ∙ shut_is (has_arena s id) (arena_of s id).life (arena_of s id).holds (none_ended s id))
  reply_is (End id) = refl
  reply_is (Lend block id part) = refl
  reply_is (Back block) = refl

pub allows : AlwaysAllows
allows limit s t c call d m = (may_by limit s t c d call m, reply_is limit s t c d call)
