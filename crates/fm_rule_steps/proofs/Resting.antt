-- The words of a pool whose only pass has no slot in its hand show the history.
use Rattle.std.proofs.Common.{◌≡◌, ◌≢◌, ◌⊎◌, ℕ, zero, suc, ◌+◌, ◌/◌, Option, Some, None, ◌<◌, ◌≤◌, Bool, true, false, List, [], get_or, sym, refl, ap, ◌∙◌, subst, arith, inl, inr, ⊎_elim}
use Rattle.std.{proofs.lemmas.{Bool.{cases_lt}, Nat.Bits.{bit_at-lt}}, specs.Int.{bit_at}}
use mathlib.Core.Logic.{dite}
use mathlib.Core.Option.{some}
use native.Mathlib.Decide.{ℕ_discrete}
use lib.ListN.{get_elem?}
use Rattle.fm_words.specs.{declared.{shape.Shape.{Shape}, session.Session.{Session as Decoded}}, Places.{at as place_at, session, slot_bits}}
use Rattle.fm_words.specs.Sessions.{session_of, free_session}
use Rattle.fm_base.specs.{declared.arena_id.ArenaId.{ArenaId}, Arenas.{Life, Arena, Alive, Closing, Ended, State, has_arena, arena_of, kind_number}}
use Rattle.fm_base.{specs.Histories.{state_after}, proofs.Lookup.{arena_of-none}}
use Rattle.fm_base_machine.{proofs.{Putting.{one_arena}, Allowing.{not_fresh, is_alive}}, specs.Functions.{Stage, Fresh, Lives, Closes, Over, stage_of}}
use Rattle.fm_rule_facts.specs.{Hands.{nothing, HasSlot}, Views.{View, Fits, limit_of}, Words.{kept}, Loans.{loans_of, HasPart}}
use Rattle.fm_rule_facts.{specs.Facts.{Session, free, live, shut, session_code, own_map, IsStanding, Rule}, proofs.Moving.{lent_mapped, mapped_lent}}
use Rattle.fm_rule_facts.{specs.Rest.{IsNamed, IsUsed, ShowsSlot, ShowsWord, ShowsHistory}, proofs.Sessions.{standing_known, standing_shown, free_apart}}
use Rattle.fm_rule_facts.proofs.{Sounding.{opened_life}, Alone.{lonely}}
use Rattle.fm_rule_steps.proofs.Decoding.{page_word_of, blank_block, kept_else, kept_last, kept_least, alive_session, shut_session, free_read, live_read, shut_read, stands_not}

module _ (z : Shape) (me : ℕ) (v : View) (l : v.live ≡ true) (ws : List ℕ) (vs : List View) (r : Rule z ws vs) (at : get_elem? vs me ≡ some v)
    (whole : v.whole ≡ true) (none : v.hand ≡ nothing) where
  abbrev s : State
  s = state_after (limit_of z) [] r.history

  -- ---- lives

  is_stage : (a : ArenaId) (x : Stage) → r.machine.life a ≡ x → stage_of (has_arena s a) (arena_of s a).life ≡ x
  is_stage a x e = sym (r.depicts.life a) ∙ e

  known : (a : ArenaId) → r.machine.life a ≢ Fresh → has_arena s a ≡ true
  known a n = not_fresh (has_arena s a) (arena_of s a).life (λ f. n (r.depicts.life a ∙ f))

  opened : (a : ArenaId) → has_arena s a ≡ true → r.machine.life a ≢ Fresh
  opened a h f = opened_life (has_arena s a) (arena_of s a).life h (is_stage a Fresh f)

  lives : (a : ArenaId) → r.machine.life a ≡ Lives → (arena_of s a).life ≡ Alive
  lives a e = is_alive (has_arena s a) (arena_of s a).life (sym e ∙ r.depicts.life a)

  unliving : (a : ArenaId) → r.machine.life a ≢ Fresh → r.machine.life a ≢ Lives → (arena_of s a).life ≢ Alive
  unliving a n m e = m (r.depicts.life a ∙ (λ i. stage_of (known a n i) (e i)))

  -- what doesn't stand has ended
  ended : (a : ArenaId) → ¬ (IsStanding (r.machine.life a)) → (arena_of s a).life ≡ Ended
  ended a n = go (has_arena s a) refl (arena_of s a).life refl
    where
      go : (b : Bool) → has_arena s a ≡ b → (y : Life) → (arena_of s a).life ≡ y → (arena_of s a).life ≡ Ended
      go true h Alive e = absurd (n (inl (r.depicts.life a ∙ (λ i. stage_of (h i) (e i)))))
      go true h Closing e = absurd (n (inr (r.depicts.life a ∙ (λ i. stage_of (h i) (e i)))))
      go true h Ended e = e
      go false h y e = ap (λ (x : Arena). x.life) (arena_of-none s a h)

  standing : (a : ArenaId) → (arena_of s a).life ≢ Ended → IsStanding (r.machine.life a)
  standing a n = go (r.machine.life a) refl
    where
      go : (x : Stage) → r.machine.life a ≡ x → IsStanding (r.machine.life a)
      go Lives e = inl e
      go Closes e = inr e
      go Fresh e = absurd (n (ended a (λ q. stands_not Fresh (λ p. absurd (cc)) (λ p. absurd (cc)) (subst IsStanding e q))))
      go Over e = absurd (n (ended a (λ q. stands_not Over (λ p. absurd (cc)) (λ p. absurd (cc)) (subst IsStanding e q))))

  -- ---- slots

  module _ (k : ℕ) (low : k < z.slots) where
    abbrev word : ℕ
    word = get_or ws (place_at z (session k)) 0

    abbrev bit : ℕ
    bit = bit_at (get_or ws (place_at z slot_bits) 0) k

    is_bit_of : bit ≡ bit_at r.memory.bits k
    is_bit_of = ap (λ (x : ℕ). bit_at x k) r.shows.slot_bits

    word_is : (x : Session) → r.memory.sessions k ≡ x → word ≡ session_code z.generations x (r.memory.counts k)
    word_is x e = r.shows.sessions k low ∙ ap (λ (y : Session). session_code z.generations y (r.memory.counts k)) e

    -- a slot that isn't free has the bit 0
    unfree : (x : Session) → r.memory.sessions k ≡ x → ((g : ℕ) → x ≢ free g) → bit ≢ 1
    unfree x e n b = let y = r.world.slots.bit_is k (sym is_bit_of ∙ b) in n y.0 (sym e ∙ y.1)

    free_slot : (g : ℕ) → r.memory.sessions k ≡ free g → ShowsSlot z ws s k (free_session (kept z.generations g))
    free_slot g f = record {
      lives = inl refl;
      alive = λ e. absurd (cc);
      closing = λ e. absurd (cc);
      free = λ e. over;
      older = λ a q h. over a q;
      newest = λ a q h. let b = below a q h in let c = kept_least z.generations g in omega arith;
      bit_is = λ b.
          let y = r.world.slots.bit_is k (sym is_bit_of ∙ b) in
          let same : y.0 ≡ g = (let q : free y.0 ≡ free g = sym y.1 ∙ f in cc) in
          let left = y.2 in
          let is : kept z.generations g ≡ g = kept_else z.generations g (λ e. omega arith) in (
            refl,
            (λ (u : IsUsed s k (kept z.generations g)). let c = below u.0 u.1 u.3 in let d = u.2 in absurd (omega arith)),
          );
      is_bit = λ e n. is_bit_of ∙ elim (cases_lt g z.generations) [
        | inl left ↦ dite (ℕ_discrete (bit_at r.memory.bits k) 0) (λ b. absurd (nowhere left b)) (λ b.
            let y = bit_at-lt r.memory.bits k in let o : bit_at r.memory.bits k ≡ 1 = omega arith in o)
        | inr top ↦ absurd (n (last g f top))
      ];
    }
      where
        over : (a : ArenaId) → a.slot ≡ k → (arena_of s a).life ≡ Ended
        over a q = ended a (λ st. free_apart z r.memory.sessions r.machine.life r.world.sessions k g a f st (sym q))

        below : (a : ArenaId) → a.slot ≡ k → has_arena s a ≡ true → a.generation < g
        below a q h = elim (cases_lt a.generation g) [
          | inl b ↦ b
          | inr b ↦ absurd (opened a h (r.world.sessions.free_is k g f a q b))
        ]

        nowhere : g < z.generations → bit_at r.memory.bits k ≢ 0
        nowhere left b =
            let y = r.slots k g low f left b in
            let same = lonely z me v l ws vs r at whole (r.owners.holder k) y.view y.there y.holds.0 in
            subst (HasSlot k) (ap (λ (u : View). u.hand) same ∙ none) y.holds.1

        last : (n : ℕ) → r.memory.sessions k ≡ free n → z.generations ≤ n → IsUsed s k (kept z.generations n)
        last zero e h = absurd (let y = r.valid.generations.0 in omega arith)
        last (suc n) e h =
            let y = r.world.sessions.before k n (e ∙ ap free (let q : suc n ≡ n + 1 = omega arith in q)) in
            let top = r.world.slots.within k (suc n) e in
            let is : kept z.generations (suc n) ≡ n = kept_last z.generations n (let q : suc n ≡ z.generations = omega arith in q) in
            (y.0, y.1, y.2 ∙ sym is, known y.0 y.3)

    named : (a : ArenaId) (i : Decoded) → a.slot ≡ k → a.generation ≡ i.generation → kind_number a.kind ≡ i.kind → a.owner ≡ i.owner
        → r.machine.life a ≢ Fresh → IsNamed s k i a
    named a i q g kd o n =
        record { slot = q; generation = g; kind = kd; owner = o; known = known a n }

    -- no other arena of the slot stands, and none is newer
    module _ (a : ArenaId) (shown : (r.memory.sessions k ≡ live a) ⊎ (r.memory.sessions k ≡ shut a)) where
      older : (b : ArenaId) → b.slot ≡ k → b.generation < a.generation → (arena_of s b).life ≡ Ended
      older b q h = ended b (λ st. ⊎_elim
          (λ (e : r.memory.sessions b.slot ≡ live b). same b h (ap r.memory.sessions (sym q) ∙ e) shown)
          (λ (e : r.memory.sessions b.slot ≡ shut b). same_shut b h (ap r.memory.sessions (sym q) ∙ e) shown)
          (standing_shown z r.memory.sessions r.machine.life r.world.sessions b st))
        where
          same : (b : ArenaId) → b.generation < a.generation → r.memory.sessions k ≡ live b
              → (r.memory.sessions k ≡ live a) ⊎ (r.memory.sessions k ≡ shut a) → ⊥
          same b h e (inl u) = let i : b ≡ a = cc in let g : b.generation ≡ a.generation = ap (λ (x : ArenaId). x.generation) i in omega arith
          same b h e (inr u) = absurd (cc)

          same_shut : (b : ArenaId) → b.generation < a.generation → r.memory.sessions k ≡ shut b
              → (r.memory.sessions k ≡ live a) ⊎ (r.memory.sessions k ≡ shut a) → ⊥
          same_shut b h e (inl u) = absurd (cc)
          same_shut b h e (inr u) = let i : b ≡ a = cc in let g : b.generation ≡ a.generation = ap (λ (x : ArenaId). x.generation) i in omega arith

      newest : (b : ArenaId) → b.slot ≡ k → has_arena s b ≡ true → b.generation ≤ a.generation
      newest b q h = elim (cases_lt a.generation b.generation) [
        | inl up ↦ absurd (opened b h (r.world.sessions.newest k a shown b q (omega arith) (λ e.
            let g : b.generation ≡ a.generation = ap (λ (x : ArenaId). x.generation) e in omega arith)))
        | inr down ↦ down
      ]

    -- it is the only one of its generation
    only : (a : ArenaId) → (r.memory.sessions k ≡ live a) ⊎ (r.memory.sessions k ≡ shut a) → (b : ArenaId) → b.slot ≡ a.slot → b.generation ≡ a.generation
        → has_arena s b ≡ true → b ≡ a
    only a shown b i g h = elim (one_arena b a) [
      | yes e ↦ e
      | no n ↦ absurd (opened b h (r.world.sessions.newest k a shown b (i ∙ in_slot shown) (omega arith) n))
    ]
      where
        in_slot : (r.memory.sessions k ≡ live a) ⊎ (r.memory.sessions k ≡ shut a) → a.slot ≡ k
        in_slot (inl e) = (r.world.sessions.live_is k a e).0
        in_slot (inr e) = (r.world.sessions.shut_is k a e).0

    live_slot : (a : ArenaId) → r.memory.sessions k ≡ live a → ShowsSlot z ws s k (alive_session a (r.memory.counts k))
    live_slot a f =
        let y = r.world.sessions.live_is k a f in
        let new : r.machine.life a ≢ Fresh = (λ n. let q : Lives ≡ Fresh = sym y.1 ∙ n in absurd (cc)) in
        record {
          lives = inr (inl refl);
          alive = λ e. record {
            arena = a;
            only = only a (inl f);
            named = named a (alive_session a (r.memory.counts k)) y.0 refl refl refl new;
            life = lives a y.1;
            holds = sym (r.depicts.holds a) ∙ (sym (r.world.counts.shown a y.1) ∙ ap r.memory.counts y.0);
            given = sym (r.depicts.given a) ∙ (sym (r.world.givens.shown a (inl y.1)) ∙ (ap r.memory.given y.0 ∙ sym (r.shows.given k low)));
          };
          closing = λ e. absurd (cc);
          free = λ e. absurd (cc);
          older = older a (inl f);
          newest = newest a (inl f);
          bit_is = λ b. absurd (unfree (live a) f (λ g q. absurd (cc)) b);
          is_bit = λ e. absurd (cc);
        }

    shut_slot : (a : ArenaId) → r.memory.sessions k ≡ shut a → ShowsSlot z ws s k (shut_session a)
    shut_slot a f =
        let y = r.world.sessions.shut_is k a f in
        record {
          lives = inr (inr refl);
          alive = λ e. absurd (cc);
          closing = λ e. record {
            arena = a;
            only = only a (inr f);
            named = named a (shut_session a) y.0 refl refl refl y.1;
            life = unliving a y.1 (λ q. let u : shut a ≡ live a = sym f ∙ (ap r.memory.sessions (sym y.0) ∙ r.world.sessions.alive_shown a q) in absurd (cc));
          };
          free = λ e. absurd (cc);
          older = older a (inr f);
          newest = newest a (inr f);
          bit_is = λ b. absurd (unfree (shut a) f (λ g q. absurd (cc)) b);
          is_bit = λ e. absurd (cc);
        }

    few_holds : (a : ArenaId) → r.memory.sessions k ≡ live a → r.memory.counts k ≤ 65535
    few_holds a f =
        let y = r.world.sessions.live_is k a f in
        let c : r.memory.counts k ≡ r.machine.holds a = ap r.memory.counts (sym y.0) ∙ r.world.counts.shown a y.1 in
        let n = r.world.counts.few a in omega arith

    few_owners : (a : ArenaId) → r.machine.life a ≢ Fresh → a.owner < 4096
    few_owners a n = let f = (r.world.sessions.fits a n).owner in let p = r.valid.passes.1 in omega arith

    slot_shown : ShowsSlot z ws s k (session_of word)
    slot_shown = go (r.memory.sessions k) refl
      where
        to : (i : Decoded) → session_of word ≡ i → ShowsSlot z ws s k i → ShowsSlot z ws s k (session_of word)
        to i e h = subst (ShowsSlot z ws s k) (sym e) h

        go : (x : Session) → r.memory.sessions k ≡ x → ShowsSlot z ws s k (session_of word)
        go (free g) e = to (free_session (kept z.generations g)) (ap session_of (word_is (free g) e) ∙ free_read z.generations g) (free_slot g e)
        go (live a) e =
            let y = r.world.sessions.live_is k a e in
            let n : r.machine.life a ≢ Fresh = (λ q. let u : Lives ≡ Fresh = sym y.1 ∙ q in absurd (cc)) in
            to (alive_session a (r.memory.counts k)) (ap session_of (word_is (live a) e) ∙ live_read a (r.memory.counts k) (few_owners a n) (few_holds a e))
            (live_slot a e)
        go (shut a) e =
            let y = r.world.sessions.shut_is k a e in
            to (shut_session a) (ap session_of (word_is (shut a) e) ∙ shut_read a (few_owners a y.1)) (shut_slot a e)

  -- ---- words

  fits_now : (a : ArenaId) → IsStanding (r.machine.life a) → Fits z a
  fits_now a st = r.world.sessions.fits a (standing_known (r.machine.life a) st)

  -- the words show the history
  pub at_rest : ShowsHistory z ws r.history
  at_rest = record {
    in_block = λ a w b n h c.
        let st = standing a n in
        sym (r.depicts.word a w) ∙ page_word_of z ws vs r a w b st
        (lent_mapped z (loans_of r.history) r.memory.page_bits r.memory.maps r.memory.cells r.owners.berth r.memory.sessions r.machine.life r.machine.word
        r.machine.given r.valid.page_words.0 r.world.sessions r.pages a (w / z.page_words) b st c);
    in_none = λ a w n h u. sym (r.depicts.word a w) ∙ none_there a w (standing a n) u (r.memory.maps a.slot (w / z.page_words)) refl;
    blank = λ b w low h f. r.shows.cells b w low h ∙ blank_block z ws vs r b w h f;
    named = λ a w n h. has_page a w (standing a n) (r.pages.says.covered a w (standing a n) (let e = r.depicts.given a in omega arith))
        (r.memory.maps a.slot (w / z.page_words)) refl;
    fits = λ a h. r.world.sessions.fits a (opened a h);
    no_slot = λ k b. r.world.slots.low k (ap (λ (x : ℕ). bit_at x k) (sym r.shows.slot_bits) ∙ b);
    slots = slot_shown;
  }
    where
      none_there : (a : ArenaId) (w : ℕ) → IsStanding (r.machine.life a) → ¬ (HasPart (loans_of r.history) a (w / z.page_words)) → (o : Option ℕ)
          → r.memory.maps a.slot (w / z.page_words) ≡ o → r.machine.word a w ≡ 0
      none_there a w st u None e = r.pages.says.bare a w st e
      none_there a w st u (Some p) e = absurd (u (
        p,
        mapped_lent z (loans_of r.history) r.memory.page_bits r.memory.maps r.memory.cells r.owners.berth
            r.memory.sessions r.machine.life r.machine.word r.machine.given r.valid.page_words.0 r.world.sessions r.pages a (w / z.page_words) p
            (standing_shown z r.memory.sessions r.machine.life r.world.sessions a st) e,
      ))

      has_page : (a : ArenaId) (w : ℕ) → IsStanding (r.machine.life a) → r.memory.maps a.slot (w / z.page_words) ≢ None → (o : Option ℕ)
          → r.memory.maps a.slot (w / z.page_words) ≡ o → ShowsWord z ws s a w
      has_page a w st n None e = absurd (n e)
      has_page a w st n (Some p) e =
          let y = r.pages.mapped_is p a.slot (w / z.page_words) (r.pages.map_is a.slot (w / z.page_words) p e) in
          record {
            page = p;
            low = y.page;
            part = y.part;
            named = r.shows.maps a.slot (w / z.page_words) (fits_now a st).slot y.part ∙ ap own_map e;
            word = sym (r.depicts.word a w) ∙ page_word_of z ws vs r a w p st e;
          }
