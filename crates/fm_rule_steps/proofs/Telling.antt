-- What slot bits tell a pass that is known to be whole.
use Rattle.std.proofs.Common.{◌≡◌, ◌≢◌, ℕ, zero, suc, ◌+◌, ◌/◌, ◌%◌, ◌<◌, ◌≤◌, ◌&&◌, Bool, true, false, List, [], ◌∷◌, length, Some, sym, refl, ap, ◌∙◌, subst, arith, inl, inr, ⊎_elim}
use Rattle.std.{specs.Int.{bit_at}, proofs.lemmas.{Bool.{cases_lt}, List.{append-nil}, Nat.Bits.{bit_at-zero, bit_at_lowest, bit_at-suc}}}
use mathlib.Core.Logic.{dite}
use mathlib.Core.Option.{some, some-injective}
use native.Mathlib.Decide.{ℕ_discrete}
use lib.ListN.{get_elem?}
use Rattle.fm_words.specs.declared.shape.Shape.{Shape}
use Rattle.fm_base.specs.{declared.arena_id.ArenaId.{ArenaId}, Arenas.{Life, Alive, Closing, Ended, State, has_arena, arena_of}, Histories.{state_after}}
use Rattle.fm_base.specs.{declared.caller.Caller.{Caller}, Calls.{Entry}, Finds.{Find}}
use Rattle.fm_base_machine.{specs.Functions.{Stage, Fresh, Lives, Closes, Over, stage_of}, proofs.Allowing.{not_fresh}}
use Rattle.fm_rule_facts.specs.{Steps.{is_empty, is_clear}, Gone.{IsTakenBy, IsGone, HasFound}}
use Rattle.fm_rule_facts.specs.Hands.{Hand, nothing, taken, learnt, retired, HasSlot, IsTaker, slots_in}
use Rattle.fm_rule_facts.specs.Views.{View, In, IsKnown, IsBusy, IsBusyIn, limit_of, state_in}
use Rattle.fm_rule_facts.{specs.Facts.{Session, free, live, shut, IsStanding, HasInHand, Owns, Rule}, proofs.{Alone.{lonely}, Sessions.{free_apart}}}
use Rattle.fm_rule_steps.proofs.Knowing.{own, known_now}

none_in : {A : Type 0} (xs : List A) → is_empty xs ≡ true → xs ≡ []
none_in [] e = refl
none_in (x ∷ xs) e = absurd (cc)

-- a clear pass is known to be whole, and sweeps nothing
clear_is : (v : View) → is_clear v ≡ true → (v.whole ≡ true) × (v.sweeps ≡ [])
clear_is v h =
    let y = go v.whole (is_empty (slots_in v.hand)) (is_empty v.pages) (is_empty v.closes) (is_empty v.sweeps) h in (y.0, none_in v.sweeps y.1)
  where
    go : (a b c d e : Bool) → (a && b && c && d && e) ≡ true → (a ≡ true) × (e ≡ true)
    go true true true true true h = (refl, refl)
    go true true true true false h = absurd (cc)
    go true true true false e h = absurd (cc)
    go true true false d e h = absurd (cc)
    go true false c d e h = absurd (cc)
    go false b c d e h = absurd (cc)

-- a number that isn't 0 has a bit that is 1
one_bit : (n : ℕ) → n ≢ 0 → (k : ℕ) × (bit_at n k ≡ 1)
one_bit n ne = within n n (omega arith) ne
  where
    within : (fuel n : ℕ) → n ≤ fuel → n ≢ 0 → (k : ℕ) × (bit_at n k ≡ 1)
    within zero n h ne = absurd (ne (omega arith))
    within (suc fuel) n h ne = dite (ℕ_discrete (n % 2) 1)
        (λ e. (0, bit_at_lowest n ∙ e))
        (λ (even : n % 2 ≢ 1).
        let half : n / 2 ≢ 0 = (λ z. ne (let low : n % 2 < 2 = omega arith in let no : n % 2 ≢ 1 = even in omega arith)) in
        let b = within fuel (n / 2) (omega arith) half in
        (suc b.0, bit_at-suc n b.0 ∙ b.1))

module _ (z : Shape) (me : ℕ) (v : View) (l : v.live ≡ true) (ws : List ℕ) (vs : List View) (r : Rule z ws vs) (at : get_elem? vs me ≡ some v) where
  abbrev mine : Owns z r.history r.memory r.machine r.owners me v
  mine = own z ws vs r me v at l

  -- an arena that was opened is known to a pass that has seen all
  known : v.whole ≡ true → (a : ArenaId) → r.machine.life a ≢ Fresh → IsKnown v a
  known w a n =
      let s : State = state_after (limit_of z) [] r.history in
      let e : state_in v ≡ s = λ i. state_after (limit_of ((r.each me v at).shape l i)) [] (mine.seen_all w i) in
      ap (λ (x : State). has_arena x a) e ∙ not_fresh (has_arena s a) (arena_of s a).life (λ f. n (r.depicts.life a ∙ f))

  -- what the pass sees of an arena is so
  seen_life : v.whole ≡ true → (a : ArenaId) → IsKnown v a → (x : Life) → (arena_of (state_in v) a).life ≡ x → r.machine.life a ≡ stage_of true x
  seen_life w a k x e =
      let s : State = state_after (limit_of z) [] r.history in
      let same : state_in v ≡ s = λ i. state_after (limit_of ((r.each me v at).shape l i)) [] (mine.seen_all w i) in
      r.depicts.life a ∙ (λ i. stage_of ((ap (λ (y : State). has_arena y a) (sym same) ∙ k) i) ((ap (λ (y : State). (arena_of y a).life) (sym same) ∙ e) i))

  unended : v.whole ≡ true → (a : ArenaId) → IsKnown v a → (x : Life) → (arena_of (state_in v) a).life ≡ x → x ≢ Ended → IsStanding (r.machine.life a)
  unended w a k Alive e n = inl (seen_life w a k Alive e)
  unended w a k Closing e n = inr (seen_life w a k Closing e)
  unended w a k Ended e n = absurd (n refl)

  -- where the word isn't 0 some slot's bit is 1
  pub some_bit : v.shape ≡ z → r.memory.bits ≢ 0 → (s : ℕ) × (s < v.shape.slots) × (bit_at r.memory.bits s ≡ 1)
  some_bit sh n =
      let b = one_bit r.memory.bits n in (b.0, subst (λ (x : Shape). b.0 < x.slots) (sym sh) (r.world.slots.low b.0 b.1), b.1)

  pub idle : v.shape ≡ z → v.whole ≡ true → (s : ℕ) → bit_at r.memory.bits s ≡ 1 → ¬ (IsBusy v s)
  idle sh w s b p =
      let f = r.world.slots.bit_is s b in
      let gens : v.shape.generations ≡ z.generations = ap (λ (x : Shape). x.generations) sh in
      ⊎_elim
      (λ (n : (arena_of (state_in v) p.arena).life ≢ Ended).
      free_apart z r.memory.sessions r.machine.life r.world.sessions s f.0 p.arena f.1
      (unended w p.arena p.known (arena_of (state_in v) p.arena).life refl n) (sym p.in_slot))
      (λ (last : p.arena.generation + 1 ≡ v.shape.generations).
      let low = f.2 in
      known_now z ws vs r me v at l p.arena p.known (r.world.sessions.free_is s f.0 f.1 p.arena p.in_slot (omega arith)))
      p.why

  pub busy : v.shape ≡ z → v.whole ≡ true → v.hand ≡ nothing → v.sweeps ≡ [] → (s : ℕ) → s < z.slots → bit_at r.memory.bits s ≡ 0 → IsBusy v s
  busy sh w none swept s low b = go (r.memory.sessions s) refl
    where
      stands : (a : ArenaId) (x : Stage) → r.machine.life a ≡ x → x ≢ Over → IsKnown v a → (arena_of (state_in v) a).life ≢ Ended
      stands a x e n k o = n (sym e ∙ seen_life w a k Ended o)

      last : (g : ℕ) → r.memory.sessions s ≡ free g → z.generations ≤ g → IsBusy v s
      last zero e h = absurd (let y = r.valid.generations.0 in omega arith)
      last (suc g) e h =
          let y = r.world.sessions.before s g (e ∙ ap free (let q : suc g ≡ g + 1 = omega arith in q)) in
          let top = r.world.slots.within s (suc g) e in
          let gens : v.shape.generations ≡ z.generations = ap (λ (x : Shape). x.generations) sh in
          let q = y.2 in
          record { arena = y.0; in_slot = y.1; known = known w y.0 y.3; why = inr (omega arith) }

      ended : (a : ArenaId) → a.slot ≡ s → r.memory.sessions s ≡ shut a → r.machine.life a ≡ Over → ⊥
      ended a i e o =
          let y = r.swept a (ap r.memory.sessions i ∙ e) o in
          let same = lonely z me v l ws vs r at w (r.owners.closer a) y.view y.there y.holds.0 in
          subst (In y.holds.1.0) (ap (λ (u : View). u.sweeps) same ∙ swept) y.holds.1.1

      shut_busy : (a : ArenaId) (x : Stage) → r.machine.life a ≡ x → a.slot ≡ s → r.memory.sessions s ≡ shut a → r.machine.life a ≢ Fresh → IsBusy v s
      shut_busy a Fresh q i e n = absurd (n q)
      shut_busy a Lives q i e n = let k = known w a n in record { arena = a; in_slot = i; known = k; why = inl (stands a Lives q (λ x. absurd (cc)) k) }
      shut_busy a Closes q i e n = let k = known w a n in record { arena = a; in_slot = i; known = k; why = inl (stands a Closes q (λ x. absurd (cc)) k) }
      shut_busy a Over q i e n = absurd (ended a i e q)

      go : (x : Session) → r.memory.sessions s ≡ x → IsBusy v s
      go (free g) e = elim (cases_lt g z.generations) [
        | inl left ↦
            let y = r.slots s g low e left b in
            let same = lonely z me v l ws vs r at w (r.owners.holder s) y.view y.there y.holds.0 in
            absurd (subst (HasSlot s) (ap (λ (u : View). u.hand) same ∙ none) y.holds.1)
        | inr top ↦ last g e top
      ]
      go (live a) e =
          let y = r.world.sessions.live_is s a e in
          let k = known w a (λ f. let q : Lives ≡ Fresh = sym y.1 ∙ f in absurd (cc)) in
          record { arena = a; in_slot = y.0; known = k; why = inl (stands a Lives y.1 (λ x. absurd (cc)) k) }
      go (shut a) e = let y = r.world.sessions.shut_is s a e in shut_busy a (r.machine.life a) refl y.0 e y.1

  -- ---- what the find of the word 0 says

  -- a slot without an arena is in the hand of another
  elsewhere : v.hand ≡ nothing → (s : ℕ) → s < z.slots → r.memory.sessions s ≡ free 0 → bit_at r.memory.bits s ≡ 0
      → (k : Caller) × IsTakenBy z r.memory.bits r.memory.sessions r.owners.taker s k × (k ≢ v.caller)
  elsewhere none s low f b =
      let left : 0 < z.generations = (let y = r.valid.generations.0 in omega arith) in
      let y = r.slots s 0 low f left b in
      let x = (r.each (r.owners.holder s) y.view y.there).owns y.holds.0 in
      let other : y.view.caller ≢ v.caller = (λ e.
      let seat : r.owners.holder s ≡ me = sym x.seated ∙ (ap r.owners.seat e ∙ mine.seated) in
      let same : y.view ≡ v = some-injective y.view v (sym y.there ∙ (ap (get_elem? vs) seat ∙ at)) in
      subst (HasSlot s) (ap (λ (u : View). u.hand) same ∙ none) y.holds.1) in
      let t = takes y.view.hand y.holds.1 x.work.hand x.work.took in
      (y.view.caller, record { taker = t; generation = 0; session = f; left = left; bit = b }, other)
    where
      takes : (hand : Hand) → HasSlot s hand → HasInHand z r.memory.bits r.memory.sessions r.owners.holder (r.owners.holder s) hand → {c : Caller}
          → IsTaker r.owners.taker c hand → r.owners.taker s ≡ Some c
      takes nothing i h t = absurd i
      takes (taken x) i h t = ap r.owners.taker i ∙ t
      takes (learnt x g) i h t = ap r.owners.taker i ∙ t
      takes (retired x) i h t =
          absurd (let q : free 0 ≡ free (h.0 + 1) = sym f ∙ (ap r.memory.sessions i ∙ h.1.session) in let n : 0 ≡ h.0 + 1 = cc in omega arith)

  -- each slot whose bit is 0 is gone
  gone : v.hand ≡ nothing → (s : ℕ) → s < z.slots → bit_at r.memory.bits s ≡ 0
      → IsGone z r.history r.memory r.owners.taker r.machine.life v.caller s
  gone none s low b = go (r.memory.sessions s) refl
    where
      by : (a : ArenaId) → a.slot ≡ s → r.machine.life a ≢ Fresh → IsGone z r.history r.memory r.owners.taker r.machine.life v.caller s
      by a i n =
          let now : State = state_after (limit_of z) [] r.history in
          let k : has_arena now a ≡ true = not_fresh (has_arena now a) (arena_of now a).life (λ f. n (r.depicts.life a ∙ f)) in
          inl (record { arena = a; in_slot = i; opened = n; apart = inl k })

      go : (x : Session) → r.memory.sessions s ≡ x → IsGone z r.history r.memory r.owners.taker r.machine.life v.caller s
      go (free zero) e = inr (elsewhere none s low e b)
      go (free (suc g)) e =
          let y = r.world.sessions.before s g (e ∙ ap free (let q : suc g ≡ g + 1 = omega arith in q)) in by y.0 y.1 y.3
      go (live a) e = let y = r.world.sessions.live_is s a e in by a y.0 (λ f. let q : Lives ≡ Fresh = sym y.1 ∙ f in absurd (cc))
      go (shut a) e = let y = r.world.sessions.shut_is s a e in by a y.0 y.1

  -- the word 0 of slot bits was found
  pub none_left : v.shape ≡ z → v.hand ≡ nothing → (f : Find) → f.seen ≡ length r.history → (f.clear ≡ true → is_clear v ≡ true) → r.memory.bits ≡ 0
      → HasFound z r.history r.memory r.owners.taker r.machine.life v.caller f
  none_left sh none f long clear zero_word =
      let bit : (s : ℕ) → bit_at r.memory.bits s ≡ 0 = λ s. ap (λ (x : ℕ). bit_at x s) zero_word ∙ bit_at-zero s in
      record {
        before = r.history;
        begins = ([], sym (append-nil r.history));
        long = sym long;
        gone = λ s low. gone none s low (bit s);
        busy = λ c s low.
            let y = clear_is v (clear c) in
            let b = busy sh y.0 none y.1 s low (bit s) in
            subst (λ (x : Shape × List Entry). IsBusyIn x.0.generations (state_after (limit_of x.0) [] x.1) s) (λ i. (sh i, mine.seen_all y.0 i)) b;
      }
