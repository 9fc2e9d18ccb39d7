-- The steps that take and drop a hold.
use Rattle.std.proofs.Common.{◌≡◌, ◌≢◌, ℕ, ◌+◌, ◌-◌, ◌%◌, ◌^◌, ◌<◌, ◌≤◌, ◌==◌, Bool, true, false, if◌then◌else◌, List, [], ◌∷◌, get_or, set, sym, refl, ap, ◌∙◌, subst, arith, ne_eqb, Option, Some, None}
use mathlib.Core.Option.{some}
use lib.ListN.{get_elem?}
use prog.Atomic.{either}
use Rattle.fm_words.specs.{declared.shape.Shape.{Shape}, Places.{at as place_at, session}, Sessions.{session_word}}
use Rattle.fm_base.specs.{declared.{arena_id.ArenaId.{ArenaId}, kind.Kind.TheVariants.{Automatic}}, Arenas.{MayUse}}
use Rattle.fm_base.specs.{Calls.{Call, Hold, Unhold, Reply, Fine, Closed, TooManyHolds, Entry, entry_of}, Machine.{most_holds}}
use Rattle.fm_base_machine.specs.Functions.{Stage, Fresh, Lives, Closes, Over, Machine, put, moved, hold_stage, put_at, MayBy, reply_by}
use Rattle.fm_rule_facts.specs.{declared.step.Step.TheVariants.{Holds, Unholds}, Views.{View, Fits, In, IsKnown, limit_of}}
use Rattle.fm_rule_facts.specs.Words.{alive_word, alive_holds, hold_found, held_by, held_word}
use Rattle.fm_rule_facts.specs.{Holds.{grips, with_grips, holds_after, released, holds_of, how_many}, Steps.{part, entries, noted, none_noted, where_found}}
use Rattle.fm_rule_facts.{specs.{Facts.{session_code, Shows, Owns, Rule}, Moves.{MayStep, Ends, LendsBy}}, proofs.{Worlds.{world_count}, Shown.{shows_count}}}
use Rattle.fm_rule_facts.proofs.Summing.{total-has, one_more_hold, some_hold, one_hold_less}
use Rattle.fm_rule_facts.proofs.{Gripping.{holds_are, with_holds, with_same, held_now, held_lives, none_besides, keeps_grips}, Founds.{no_draw}}
use Rattle.fm_rule_facts.specs.Loans.{loans_by, loans_of}
use Rattle.fm_rule_steps.proofs.{Reading.{kind_below, Says, says, hold_says, eqb_true, eqb_false}, Quiet.{answers_on, looks_on}, Knowing.{own, known_now}}
use Rattle.fm_rule_steps.proofs.Plain.{Made, plain, all_left}

-- one hold more in a session word
more_word : (a : ArenaId) (n : ℕ) → alive_word a n + 1 ≡ alive_word a (n + 1)
unfolding alive_word session_word
more_word a n = omega arith

-- and one less
pub less_word : (a : ArenaId) (n : ℕ) → a.generation < 2 ^ 32 → a.owner < 4096 → 0 < n → n ≤ 65535
    → (alive_word a n + (2 ^ 64 - 1)) % 2 ^ 64 ≡ alive_word a (n - 1)
unfolding alive_word session_word
less_word a n g o h l = let k = kind_below a.kind in omega arith

-- an arena that is alive was opened
pub known_lives : (t : Machine) (a : ArenaId) → t.life a ≡ Lives → t.life a ≢ Fresh
known_lives t a al f = let y : Fresh ≡ Lives = sym f ∙ al in absurd (cc)

-- what was read of an arena that is alive shows it so
pub shows_alive : (t : Machine) (a : ArenaId) (o : Option ℕ) → Says t a o → t.life a ≡ Lives → o ≢ None
shows_alive t a None s al e = s al
shows_alive t a (Some n) s al e = absurd (cc)

module _ (z : Shape) (me : ℕ) (v : View) (l : v.live ≡ true) (a : ArenaId) where
  abbrev i : ℕ
  i = place_at z (session a.slot)

  abbrev gs : List ArenaId
  gs = grips a v

  abbrev held_as : List ArenaId → View
  held_as hs = with_grips a hs v

  module _ (ws : List ℕ) (vs : List View) (r : Rule z ws vs) (at : get_elem? vs me ≡ some v) (known : r.machine.life a ≢ Fresh) where
    abbrev found : ℕ
    found = get_or ws i 0

    abbrev mine : Owns z r.history r.memory r.machine r.owners me v
    mine = own z ws vs r me v at l

    fit : Fits z a
    fit = r.world.sessions.fits a known

    -- the word of the arena that is alive
    is_word : r.machine.life a ≡ Lives → found ≡ alive_word a (r.machine.holds a)
    is_word al =
        r.shows.sessions a.slot fit.slot ∙ (λ j. session_code z.generations (r.world.sessions.alive_shown a al j) (r.world.counts.shown a al j))

    shown : (x n : ℕ) → r.machine.life a ≡ Lives → x ≡ alive_word a n → Shows z (set ws i x) (record r.memory { counts = put r.memory.counts a.slot n })
    shown x n al is = subst (λ (y : ℕ). Shows z (set ws i y) (record r.memory { counts = put r.memory.counts a.slot n }))
        ((λ j. session_code z.generations (r.world.sessions.alive_shown a al j) n) ∙ sym is)
        (shows_count z r.valid ws r.memory r.shows a.slot n fit.slot)

    -- its own holds are put in their place
    same_grips : (x : ℕ) (es : List Entry) → Made z ws vs me v i x v es none_noted → Made z ws vs me v i x (held_as gs) es none_noted
    same_grips x es m = subst (λ (p : View). Made z ws vs me v i x p es none_noted) (sym (with_same a v)) m

    -- the call makes the count of holds n, of which the pass has these
    counts_to : (x n : ℕ) (hs : List ArenaId) (call : Call) → MayBy (limit_of z) r.machine v.caller call → Fine ≡ reply_by (limit_of z) r.machine call
        → ((b : ArenaId) → ¬ (Ends call b)) → LendsBy z r.machine (loans_of r.history) call
        → loans_by (loans_of r.history) call ≡ loans_of r.history
        → moved r.machine v.caller call Fine ≡ record r.machine { holds = put_at r.machine.holds a n } → r.machine.life a ≡ Lives → n ≤ 65535
        → x ≡ alive_word a n → ((b : ArenaId) → how_many b hs + r.machine.holds b ≡ how_many b gs + put_at r.machine.holds a n b)
        → Made z ws vs me v i x (held_as hs) (entry_of v.caller call Fine ∷ []) none_noted
    counts_to x n hs call may answer ends lends loans moves al few word sum =
        plain z ws vs r me v at l i x (held_as hs) (entry_of v.caller call Fine ∷ []) none_noted no_draw
        (record r.memory { counts = put r.memory.counts a.slot n }) (record r.machine { holds = put_at r.machine.holds a n }) (record {
          calls = record { may = (refl, may, answer, tt); ends = λ b. (ends b, tt); lends = (lends, tt); loans = loans; moves = moves; life = refl };
          leaves = all_left;
          pages = r.pages;
          marks = λ k h. refl;
          reads = λ a e x i. (e, i);
          holds = keeps_grips v l r.machine a hs n sum;
          shows = shown x n al word;
          world = world_count z r.memory r.machine r.world a n al few;
          inside = mine.work.inside;
          mark = mine.work.mark;
        })

    -- ---- a hold is taken

    module _ (use_it : MayUse a v.caller) where
      refuses : (reply : Reply) → reply ≡ hold_stage (r.machine.life a) (r.machine.holds a) → moved r.machine v.caller (Hold a) reply ≡ r.machine
          → Made z ws vs me v i found v (entry_of v.caller (Hold a) reply ∷ []) none_noted
      refuses reply is stays =
          answers_on z ws vs r me v at l i (entry_of v.caller (Hold a) reply ∷ []) (refl, (known, use_it), is, tt) (λ b. ((λ h. h), tt)) (tt, tt) refl stays

      takes : (n : ℕ) → r.machine.life a ≡ Lives → n ≡ r.machine.holds a → n ≢ most_holds
          → Made z ws vs me v i (found + 1) (held_as (a ∷ gs)) (entry_of v.caller (Hold a) Fine ∷ []) none_noted
      takes n al is few =
          let h : ℕ = r.machine.holds a in
          let not_all : (h == most_holds) ≡ false = ne_eqb h most_holds (λ q. few (is ∙ q)) in
          let answer : Fine ≡ hold_stage (r.machine.life a) h =
          sym (ap (λ (b : Bool). if b then TooManyHolds else Fine) not_all) ∙ ap (λ (x : Stage). hold_stage x h) (sym al) in
          let below : h + 1 ≤ 65535 = (let f = r.world.counts.few a in let q : h ≢ 65535 = (λ q. few (is ∙ q)) in omega arith) in
          counts_to (found + 1) (h + 1) (a ∷ gs) (Hold a) (known, use_it) answer (λ b q. q) tt refl refl al below
          (ap (λ (x : ℕ). x + 1) (is_word al) ∙ more_word a h) (λ b. one_more_hold a b gs r.machine.holds)

      -- the expected word was found
      answers : (o : Option ℕ) → Says r.machine a o
          → Made z ws vs me v i (held_by found (hold_found o)) (held_as (holds_after true a (hold_found o) gs))
          (entry_of v.caller (Hold a) (hold_found o) ∷ []) none_noted
      answers None s = same_grips found (entry_of v.caller (Hold a) Closed ∷ []) (refuses Closed (hold_says r.machine a None s) refl)
      answers (Some n) s = by (n == most_holds) refl
        where
          by : (b : Bool) → (n == most_holds) ≡ b
              → Made z ws vs me v i (held_by found (if b then TooManyHolds else Fine)) (held_as (holds_after true a (if b then TooManyHolds else Fine) gs))
              (entry_of v.caller (Hold a) (if b then TooManyHolds else Fine) ∷ []) none_noted
          by true q = same_grips found (entry_of v.caller (Hold a) TooManyHolds ∷ [])
              (refuses TooManyHolds (sym (ap (λ (c : Bool). if c then TooManyHolds else Fine) q) ∙ hold_says r.machine a (Some n) s) refl)
          by false q = takes n s.0 s.1 (eqb_false n most_holds q)

      misses : Made z ws vs me v i found v [] none_noted
      misses = looks_on z ws vs r me v at l i

      exchanged : (word : ℕ) → Says r.machine a (alive_holds a found) → (b : Bool) → (found == word) ≡ b
          → Made z ws vs me v i (either b (held_word a word) found) (held_as (holds_after b a (hold_found (alive_holds a word)) gs))
          (where_found b (entry_of v.caller (Hold a) (hold_found (alive_holds a word)) ∷ [])) none_noted
      unfolding held_word
      exchanged word s true e = subst (λ (x : ℕ). Made z ws vs me v i (held_word a x) (held_as (holds_after true a (hold_found (alive_holds a x)) gs))
          (entry_of v.caller (Hold a) (hold_found (alive_holds a x)) ∷ []) none_noted)
          (eqb_true found word e) (answers (alive_holds a found) s)
      exchanged word s false e = same_grips found [] misses

    -- ---- a hold is dropped

    -- an arena that is held is alive
    lives : 0 < r.machine.holds a → r.machine.life a ≡ Lives
    lives held = go (r.machine.life a) refl
      where
        none : r.machine.life a ≢ Lives → ⊥
        none n = let h = r.world.counts.only a n in absurd (omega arith)

        go : (x : Stage) → r.machine.life a ≡ x → r.machine.life a ≡ Lives
        go Lives e = e
        go Fresh e = absurd (none (λ q. let f : Fresh ≡ Lives = sym e ∙ q in absurd (cc)))
        go Closes e = absurd (none (λ q. let f : Closes ≡ Lives = sym e ∙ q in absurd (cc)))
        go Over e = absurd (none (λ q. let f : Over ≡ Lives = sym e ∙ q in absurd (cc)))

    pub drops : In a gs → 0 < r.machine.holds a
        → Made z ws vs me v i ((found + (2 ^ 64 - 1)) % 2 ^ 64) (held_as (released a gs)) (entry_of v.caller (Unhold a) Fine ∷ []) none_noted
    drops has held =
        let h : ℕ = r.machine.holds a in
        let x : ℕ = (found + (2 ^ 64 - 1)) % 2 ^ 64 in
        let al = lives held in
        let few = r.world.counts.few a in
        let low : a.generation < 2 ^ 32 = (let g = fit.generation in let y = r.valid.generations.1 in omega arith) in
        let owner : a.owner < 4096 = (let g = fit.owner in let y = r.valid.passes.1 in omega arith) in
        counts_to x (h - 1) (released a gs) (Unhold a) (al, held) refl (λ b q. q) tt refl refl al (omega arith)
        (ap (λ (y : ℕ). (y + (2 ^ 64 - 1)) % 2 ^ 64) (is_word al) ∙ less_word a h low owner held few)
        (λ b. one_hold_less a b gs r.machine.holds has held)

  -- an arena that the pass holds is alive
  pub its_alive : (ws : List ℕ) (vs : List View) (r : Rule z ws vs) → get_elem? vs me ≡ some v → In a gs → r.machine.life a ≡ Lives
  its_alive ws vs r at has = held_lives a r.machine (r.world.counts.only a) (
      let one = some_hold a gs has in
      let mine = held_now a v l in
      let all = total-has (holds_of a) vs me v at in
      let sum = r.held a in
      omega arith)

  -- a hold is taken where the session word is the expected one
  pub hold_steps : (word : ℕ) → IsKnown v a → MayUse a v.caller → MayStep z (Holds a word) me v i (λ n. either (n == word) (held_word a word) n)
  unfolding part entries noted
  hold_steps word known use_it = record {
    may = λ ws vs r at.
        let x : ℕ = get_or ws i 0 in
        let opened = known_now z ws vs r me v at l a known in
        let s = says z r.memory r.machine r.world r.valid.passes.1 a opened x (r.shows.sessions a.slot (r.world.sessions.fits a opened).slot) in
        let g = exchanged ws vs r at opened use_it word s (x == word) refl in
        (g.0, g.1, record { gives = g.2; learns = λ has. shows_alive r.machine a (alive_holds a x) s (its_alive ws vs r at has) });
  }

  -- a hold that the pass has is dropped
  pub unhold_steps : In a v.holds → a.kind ≢ Automatic → MayStep z (Unholds a) me v i (λ n. (n + (2 ^ 64 - 1)) % 2 ^ 64)
  unfolding part entries noted
  unhold_steps has kind = record {
    may = λ ws vs r at.
        let his : In a gs = subst (In a) (sym (holds_are a v kind)) has in
        let al = its_alive ws vs r at his in
        let held : 0 < r.machine.holds a = (
        let one = some_hold a gs his in
        let mine = held_now a v l in
        let all = total-has (holds_of a) vs me v at in
        let sum = r.held a in
        let only = none_besides a r.machine kind in
        omega arith) in
        let x : ℕ = (get_or ws i 0 + (2 ^ 64 - 1)) % 2 ^ 64 in
        let g = subst (λ (p : View). Made z ws vs me v i x p (entry_of v.caller (Unhold a) Fine ∷ []) none_noted)
        (with_holds a (released a gs) v kind ∙ ap (λ (hs : List ArenaId). record v { holds = released a hs }) (holds_are a v kind))
        (drops ws vs r at (known_lives r.machine a al) his held) in
        (g.0, g.1, record { gives = g.2; learns = tt });
  }
