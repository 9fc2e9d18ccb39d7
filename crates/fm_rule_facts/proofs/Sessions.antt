-- Session words stay beside the machine over each kind of entry.
use Rattle.std.{proofs.Common.{◌≡◌, ◌≢◌, ◌⊎◌, ℕ, ◌+◌, ◌-◌, ◌<◌, ◌≤◌, sym, refl, ap, ◌∙◌, subst, arith, inl, inr, ⊎_elim}, specs.Int.{bit_at}}
use mathlib.Core.Logic.{dite}
use native.Mathlib.Decide.{ℕ_discrete}
use Rattle.fm_words.specs.declared.shape.Shape.{Shape}
use Rattle.fm_base.specs.declared.{caller.Caller.{Caller}, arena_id.ArenaId.{ArenaId}}
use Rattle.fm_base_machine.specs.Functions.{Stage, Fresh, Lives, Closes, Over, put, put_at}
use Rattle.fm_base_machine.proofs.Putting.{put_here, put_else, at_here, at_other, put_cases, at_cases}
use Rattle.fm_rule_facts.specs.{Views.{Fits}, Facts.{Session, free, live, shut, IsStanding, IsShown, Sessions, Slots}}

-- callers of one number and term are one
pub caller_is : (c d : Caller) → c.number ≡ d.number → c.term ≡ d.term → c ≡ d
caller_is c d p q = λ i. record { number = p i; term = q i }

-- an arena that stands was opened
pub standing_known : (l : Stage) → IsStanding l → l ≢ Fresh
standing_known l (inl e) f = let g : Lives ≡ Fresh = sym e ∙ f in absurd (cc)
standing_known l (inr e) f = let g : Closes ≡ Fresh = sym e ∙ f in absurd (cc)

-- what has ended doesn't stand
pub unstanding : (l : Stage) → l ≡ Over → ¬ (IsStanding l)
unstanding l o (inl e) = let q : Over ≡ Lives = sym o ∙ e in absurd (cc)
unstanding l o (inr e) = let q : Over ≡ Closes = sym o ∙ e in absurd (cc)

-- ---- sessions

-- what a session shows of a slot is one arena
pub shown_one : (sessions : ℕ → Session) (a b : ArenaId) → a.slot ≡ b.slot → IsShown sessions a → IsShown sessions b → a ≡ b
shown_one sessions a b e x y = both (subst (λ (k : ℕ). (sessions k ≡ live a) ⊎ (sessions k ≡ shut a)) e x) y
  where
    both : (sessions b.slot ≡ live a) ⊎ (sessions b.slot ≡ shut a) → (sessions b.slot ≡ live b) ⊎ (sessions b.slot ≡ shut b) → a ≡ b
    both (inl u) (inl v) = cc
    both (inl u) (inr v) = absurd (cc)
    both (inr u) (inl v) = absurd (cc)
    both (inr u) (inr v) = cc

module _ (z : Shape) (sessions : ℕ → Session) (life : ArenaId → Stage) (r : Sessions z sessions life) where
  pub standing_shown : (c : ArenaId) → IsStanding (life c) → (sessions c.slot ≡ live c) ⊎ (sessions c.slot ≡ shut c)
  standing_shown c (inl l) = inl (r.alive_shown c l)
  standing_shown c (inr l) = inr (r.closing_shown c l)

  -- two arenas that stand in one slot are one
  pub one_standing : (a b : ArenaId) → IsStanding (life a) → IsStanding (life b) → a.slot ≡ b.slot → a ≡ b
  one_standing a b p q e = shown_one sessions a b e (standing_shown a p) (standing_shown b q)

  -- no arena stands in a free slot
  pub free_apart : (s g : ℕ) (b : ArenaId) → sessions s ≡ free g → IsStanding (life b) → s ≢ b.slot
  free_apart s g b f (inl l) e = let y : sessions s ≡ live b = ap sessions e ∙ r.alive_shown b l in absurd (cc)
  free_apart s g b f (inr l) e = let y : sessions s ≡ shut b = ap sessions e ∙ r.closing_shown b l in absurd (cc)

  abbrev WasOpened : (ArenaId → Stage) → ℕ → ℕ → Type 0
  WasOpened lives s g = (b : ArenaId) × (b.slot ≡ s) × (b.generation ≡ g) × (lives b ≢ Fresh)

  was_opened : (a : ArenaId) (x : Stage) (s g : ℕ) → x ≢ Fresh → WasOpened life s g → WasOpened (put_at life a x) s g
  was_opened a x s g n y = (y.0, y.1, y.2, at_cases life a x y.0 (λ l. l ≢ Fresh) (λ e. n) (λ e. y.3))

  -- what was opened is so by the stages before, where the stage of an opened arena changed
  was_known : (a : ArenaId) (x : Stage) (b : ArenaId) → life a ≢ Fresh → put_at life a x b ≢ Fresh → life b ≢ Fresh
  was_known a x b n = at_cases life a x b (λ (y : Stage). y ≢ Fresh → life b ≢ Fresh) (λ e q f. n (sym (ap life e) ∙ f)) (λ ne q. q)

  older_still : (a : ArenaId) (x : Stage) → life a ≢ Fresh → x ≢ Fresh → (b : ArenaId) (g : ℕ) → put_at life a x b ≢ Fresh → g < b.generation
      → WasOpened (put_at life a x) b.slot g
  older_still a x n some b g q h = was_opened a x b.slot g some (r.older b g (was_known a x b n q) h)

  -- what a free slot says stays where another slot is free no more
  free_else : (a : ArenaId) (x : Session) (y : Stage) → ((g : ℕ) → x ≢ free g) → (s g : ℕ) → put sessions a.slot x s ≡ free g
      → (b : ArenaId) → b.slot ≡ s → g ≤ b.generation → put_at life a y b ≡ Fresh
  free_else a x y full s g = put_cases sessions a.slot x s
      (λ (u : Session). u ≡ free g → (b : ArenaId) → b.slot ≡ s → g ≤ b.generation → put_at life a y b ≡ Fresh)
      (λ e q. absurd (full g q))
      (λ n q b e h. at_other life a y b (λ p. n (sym e ∙ (λ j. (p j).slot))) ∙ r.free_is s g q b e h)

  pub sessions_shut : (a : ArenaId) → life a ≡ Lives → Sessions z (put sessions a.slot (shut a)) (put_at life a Closes)
  sessions_shut a l = record {
    alive_shown = λ b. at_cases life a Closes b (λ (x : Stage). x ≡ Lives → put sessions a.slot (shut a) b.slot ≡ live b)
        (λ e q. absurd (cc))
        (λ n q. put_else sessions a.slot (shut a) b.slot (λ e. n (one_standing b a (inl q) (inl l) e)) ∙ r.alive_shown b q);
    closing_shown = λ b. at_cases life a Closes b (λ (x : Stage). x ≡ Closes → put sessions a.slot (shut a) b.slot ≡ shut b)
        (λ e q. (λ j. put sessions a.slot (shut a) (e j).slot) ∙ (put_here sessions a.slot (shut a) ∙ (λ j. shut (sym e j))))
        (λ n q. put_else sessions a.slot (shut a) b.slot (λ e. n (one_standing b a (inr q) (inl l) e)) ∙ r.closing_shown b q);
    live_is = λ s b. put_cases sessions a.slot (shut a) s (λ (x : Session). x ≡ live b → (b.slot ≡ s) × (put_at life a Closes b ≡ Lives))
        (λ e q. absurd (cc))
        (λ n q. let y = r.live_is s b q in (y.0, at_other life a Closes b (λ e. n (sym y.0 ∙ (λ j. (e j).slot))) ∙ y.1));
    shut_is = λ s b. put_cases sessions a.slot (shut a) s (λ (x : Session). x ≡ shut b → (b.slot ≡ s) × (put_at life a Closes b ≢ Fresh))
        (λ e q. let y : a ≡ b = cc in ((λ j. (sym y j).slot) ∙ sym e, at_cases life a Closes b (λ x. x ≢ Fresh) (λ p f. absurd (cc)) (λ p. absurd (p (sym y)))))
        (λ n q. let y = r.shut_is s b q in (y.0, at_cases life a Closes b (λ x. x ≢ Fresh) (λ p f. absurd (cc)) (λ p. y.1)));
    free_is = free_else a (shut a) Closes (λ g q. absurd (cc));
    newest =
        λ s c. put_cases sessions a.slot (shut a) s
        (λ (x : Session). (x ≡ live c) ⊎ (x ≡ shut c) → (b : ArenaId) → b.slot ≡ s → c.generation ≤ b.generation → b ≢ c → put_at life a Closes b ≡ Fresh)
        (λ e. ⊎_elim (λ q. absurd (cc)) (λ q b p h n. let y : a ≡ c = cc in
        at_other life a Closes b (λ u. n (u ∙ y)) ∙ r.newest s c (inl (ap sessions e ∙ (r.alive_shown a l ∙ ap live y))) b p h n))
        (λ m q b p h n. let f = r.newest s c q b p h n in at_other life a Closes b (λ e. let u : life b ≡ Lives = ap life e ∙ l in absurd (cc)) ∙ f);
    before = λ s g. put_cases sessions a.slot (shut a) s (λ (x : Session). x ≡ free (g + 1) → WasOpened (put_at life a Closes) s g)
        (λ e q. absurd (cc))
        (λ n q. was_opened a Closes s g (λ e. absurd (cc)) (r.before s g q));
    fits = λ b. at_cases life a Closes b (λ (x : Stage). x ≢ Fresh → Fits z b)
        (λ e q. r.fits b (λ p. let y : life b ≡ Lives = ap life e ∙ l in absurd (cc)))
        (λ n q. r.fits b q);
    older = older_still a Closes (λ e. let y : Lives ≡ Fresh = sym l ∙ e in absurd (cc)) (λ e. absurd (cc));
  }

  pub sessions_end : (a : ArenaId) → life a ≡ Closes → Sessions z sessions (put_at life a Over)
  sessions_end a l = record {
    alive_shown = λ b. at_cases life a Over b (λ (x : Stage). x ≡ Lives → sessions b.slot ≡ live b) (λ e q. absurd (cc)) (λ n q. r.alive_shown b q);
    closing_shown = λ b. at_cases life a Over b (λ (x : Stage). x ≡ Closes → sessions b.slot ≡ shut b) (λ e q. absurd (cc)) (λ n q. r.closing_shown b q);
    live_is =
        λ s b q. let y = r.live_is s b q in (y.0, at_other life a Over b (λ e. let u : life b ≡ Closes = ap life e ∙ l in let v = y.1 in absurd (cc)) ∙ y.1);
    shut_is = λ s b q. let y = r.shut_is s b q in (y.0, at_cases life a Over b (λ x. x ≢ Fresh) (λ p f. absurd (cc)) (λ p. y.1));
    free_is = λ s g q b e h. let y = r.free_is s g q b e h in at_other life a Over b (λ p. let u : life b ≡ Closes = ap life p ∙ l in absurd (cc)) ∙ y;
    newest = λ s c q b p h n. let f = r.newest s c q b p h n in at_other life a Over b (λ e. let u : life b ≡ Closes = ap life e ∙ l in absurd (cc)) ∙ f;
    before = λ s g q. was_opened a Over s g (λ e. absurd (cc)) (r.before s g q);
    fits = λ b. at_cases life a Over b (λ (x : Stage). x ≢ Fresh → Fits z b)
        (λ e q. r.fits b (λ p. let y : life b ≡ Closes = ap life e ∙ l in absurd (cc)))
        (λ n q. r.fits b q);
    older = older_still a Over (λ e. let y : Closes ≡ Fresh = sym l ∙ e in absurd (cc)) (λ e. absurd (cc));
  }

  -- no other arena stands in the slot of one that has ended and isn't retired
  pub ended_apart : (a b : ArenaId) → sessions a.slot ≡ shut a → life a ≡ Over → IsStanding (life b) → b.slot ≢ a.slot
  ended_apart a b f o (inl l) e = let y : sessions a.slot ≡ live b = ap sessions (sym e) ∙ r.alive_shown b l in absurd (cc)
  ended_apart a b f o (inr l) e =
      let y : sessions a.slot ≡ shut b = ap sessions (sym e) ∙ r.closing_shown b l in
      let i : a ≡ b = cc in
      let q : life a ≡ Closes = ap life i ∙ l in absurd (cc)

  -- a slot is free for the next generation
  pub sessions_retire : (a : ArenaId) → sessions a.slot ≡ shut a → life a ≡ Over → Sessions z (put sessions a.slot (free (a.generation + 1))) life
  sessions_retire a f o = record {
    alive_shown = λ b q. put_else sessions a.slot (free (a.generation + 1)) b.slot (ended_apart a b f o (inl q)) ∙ r.alive_shown b q;
    closing_shown = λ b q. put_else sessions a.slot (free (a.generation + 1)) b.slot (ended_apart a b f o (inr q)) ∙ r.closing_shown b q;
    live_is = λ s b. put_cases sessions a.slot (free (a.generation + 1)) s (λ (x : Session). x ≡ live b → (b.slot ≡ s) × (life b ≡ Lives))
        (λ e q. absurd (cc))
        (λ n q. r.live_is s b q);
    shut_is = λ s b. put_cases sessions a.slot (free (a.generation + 1)) s (λ (x : Session). x ≡ shut b → (b.slot ≡ s) × (life b ≢ Fresh))
        (λ e q. absurd (cc))
        (λ n q. r.shut_is s b q);
    free_is =
        λ s g. put_cases sessions a.slot (free (a.generation + 1)) s
        (λ (x : Session). x ≡ free g → (b : ArenaId) → b.slot ≡ s → g ≤ b.generation → life b ≡ Fresh)
        (λ e q b p h.
        let i : a.generation + 1 ≡ g = cc in
        r.newest a.slot a (inr f) b (p ∙ e) (omega arith) (λ w. let j : b.generation ≡ a.generation = ap (λ (x : ArenaId). x.generation) w in omega arith))
        (λ n q. r.free_is s g q);
    newest =
        λ s c. put_cases sessions a.slot (free (a.generation + 1)) s
        (λ (x : Session). (x ≡ live c) ⊎ (x ≡ shut c) → (b : ArenaId) → b.slot ≡ s → c.generation ≤ b.generation → b ≢ c → life b ≡ Fresh)
        (λ e. ⊎_elim (λ q. absurd (cc)) (λ q. absurd (cc)))
        (λ n q. r.newest s c q);
    before = λ s g. put_cases sessions a.slot (free (a.generation + 1)) s (λ (x : Session). x ≡ free (g + 1) → WasOpened life s g)
        (λ e q. let i : a.generation + 1 ≡ g + 1 = cc in (a, sym e, omega arith, (λ n. let x : Over ≡ Fresh = sym o ∙ n in absurd (cc))))
        (λ n q. r.before s g q);
    fits = r.fits;
    older = r.older;
  }

  module _ (a : ArenaId) (f : sessions a.slot ≡ free a.generation) where
    pub open_new : life a ≡ Fresh
    open_new = r.free_is a.slot a.generation f a refl (omega arith)

    unlike : (b : ArenaId) → b.slot ≡ a.slot → ¬ (IsStanding (life b))
    unlike b e (inl q) = let y : sessions a.slot ≡ live b = ap sessions (sym e) ∙ r.alive_shown b q in absurd (cc)
    unlike b e (inr q) = let y : sessions a.slot ≡ shut b = ap sessions (sym e) ∙ r.closing_shown b q in absurd (cc)

    -- the generation before it was opened, and so each earlier one
    earlier : (b : ArenaId) (g : ℕ) → b ≡ a → g < b.generation → WasOpened life b.slot g
    earlier b g e h =
        let same : b.generation ≡ a.generation = ap (λ (x : ArenaId). x.generation) e in
        let m : ℕ = a.generation - 1 in
        let next : a.generation ≡ m + 1 = omega arith in
        let y = r.before a.slot m (f ∙ ap free next) in
        let slot : y.0.slot ≡ b.slot = y.1 ∙ sym (ap (λ (x : ArenaId). x.slot) e) in
        let of : y.0.generation ≡ m = y.2 in
        dite (ℕ_discrete g m)
        (λ q. (y.0, slot, of ∙ sym q, y.3))
        (λ ne. subst (λ (k : ℕ). WasOpened life k g) slot (r.older y.0 g y.3 (omega arith)))

    pub sessions_open : Fits z a → Sessions z (put sessions a.slot (live a)) (put_at life a Lives)
    sessions_open fit = record {
      alive_shown = λ b. at_cases life a Lives b (λ (x : Stage). x ≡ Lives → put sessions a.slot (live a) b.slot ≡ live b)
          (λ e q. (λ j. put sessions a.slot (live a) (e j).slot) ∙ (put_here sessions a.slot (live a) ∙ (λ j. live (sym e j))))
          (λ n q. put_else sessions a.slot (live a) b.slot (λ e. unlike b e (inl q)) ∙ r.alive_shown b q);
      closing_shown = λ b. at_cases life a Lives b (λ (x : Stage). x ≡ Closes → put sessions a.slot (live a) b.slot ≡ shut b)
          (λ e q. absurd (cc))
          (λ n q. put_else sessions a.slot (live a) b.slot (λ e. unlike b e (inr q)) ∙ r.closing_shown b q);
      live_is = λ s b. put_cases sessions a.slot (live a) s (λ (x : Session). x ≡ live b → (b.slot ≡ s) × (put_at life a Lives b ≡ Lives))
          (λ e q. let y : a ≡ b = cc in ((λ j. (sym y j).slot) ∙ sym e, (λ j. put_at life a Lives (sym y j)) ∙ at_here life a Lives))
          (λ n q. let y = r.live_is s b q in (y.0, at_other life a Lives b (λ e. n (sym y.0 ∙ (λ j. (e j).slot))) ∙ y.1));
      shut_is = λ s b. put_cases sessions a.slot (live a) s (λ (x : Session). x ≡ shut b → (b.slot ≡ s) × (put_at life a Lives b ≢ Fresh))
          (λ e q. absurd (cc))
          (λ n q. let y = r.shut_is s b q in (y.0, at_cases life a Lives b (λ x. x ≢ Fresh) (λ p f. absurd (cc)) (λ p. y.1)));
      free_is = free_else a (live a) Lives (λ g q. absurd (cc));
      newest =
          λ s c. put_cases sessions a.slot (live a) s
          (λ (x : Session). (x ≡ live c) ⊎ (x ≡ shut c) → (b : ArenaId) → b.slot ≡ s → c.generation ≤ b.generation → b ≢ c → put_at life a Lives b ≡ Fresh)
          (λ e. ⊎_elim (λ q b p h n. let y : a ≡ c = cc in
          at_other life a Lives b (λ u. n (u ∙ y))
          ∙ r.free_is a.slot a.generation f b (p ∙ e) (subst (λ (x : ArenaId). x.generation ≤ b.generation) (sym y) h)) (λ q. absurd (cc)))
          (λ m q b p h n. at_other life a Lives b (λ e. m (sym p ∙ (λ j. (e j).slot))) ∙ r.newest s c q b p h n);
      before = λ s g. put_cases sessions a.slot (live a) s (λ (x : Session). x ≡ free (g + 1) → WasOpened (put_at life a Lives) s g)
          (λ e q. absurd (cc))
          (λ n q. was_opened a Lives s g (λ e. absurd (cc)) (r.before s g q));
      fits = λ b. at_cases life a Lives b (λ (x : Stage). x ≢ Fresh → Fits z b) (λ e q. subst (Fits z) (sym e) fit) (λ n q. r.fits b q);
      older = λ b g. at_cases life a Lives b (λ (x : Stage). x ≢ Fresh → g < b.generation → WasOpened (put_at life a Lives) b.slot g)
          (λ e q h. was_opened a Lives b.slot g (λ p. absurd (cc)) (earlier b g e h))
          (λ n q h. was_opened a Lives b.slot g (λ p. absurd (cc)) (r.older b g q h));
    }

-- ---- slots

-- a slot whose bit isn't 1 is free no longer
pub slots_used : (z : Shape) (bits : ℕ) (sessions : ℕ → Session) → Slots z bits sessions → (k : ℕ) (x : Session) → ((g : ℕ) → x ≢ free g)
    → bit_at bits k ≢ 1 → Slots z bits (put sessions k x)
slots_used z bits sessions r k x n zero = record {
  bit_is = λ s b. put_cases sessions k x s (λ (y : Session). (g : ℕ) × (y ≡ free g) × (g < z.generations))
      (λ e. absurd (zero (ap (bit_at bits) (sym e) ∙ b)))
      (λ ne. r.bit_is s b);
  low = r.low;
  within = λ s g. put_cases sessions k x s (λ (y : Session). y ≡ free g → g ≤ z.generations) (λ e q. absurd (n g q)) (λ ne q. r.within s g q);
}

-- a slot is free for a later generation
pub slots_retired : (z : Shape) (bits : ℕ) (sessions : ℕ → Session) → Slots z bits sessions → (k next : ℕ) → bit_at bits k ≢ 1 → next ≤ z.generations
    → Slots z bits (put sessions k (free next))
slots_retired z bits sessions r k next zero low = record {
  bit_is = λ s b. put_cases sessions k (free next) s (λ (y : Session). (g : ℕ) × (y ≡ free g) × (g < z.generations))
      (λ e. absurd (zero (ap (bit_at bits) (sym e) ∙ b)))
      (λ ne. r.bit_is s b);
  low = r.low;
  within = λ s g. put_cases sessions k (free next) s (λ (y : Session). y ≡ free g → g ≤ z.generations)
      (λ e q. let i : next ≡ g = cc in omega arith)
      (λ ne q. r.within s g q);
}

-- a bit is set of a slot that is free and has a generation left
pub slots_given : (z : Shape) (bits bits' : ℕ) (sessions : ℕ → Session) → Slots z bits sessions → (k g : ℕ) → k < z.slots → sessions k ≡ free g
    → g < z.generations → ((s : ℕ) → s ≢ k → bit_at bits' s ≡ bit_at bits s) → Slots z bits' sessions
slots_given z bits bits' sessions r k g slot f low others = record {
  bit_is = λ s b. dite (ℕ_discrete s k) (λ e. (g, ap sessions e ∙ f, low)) (λ n. r.bit_is s (sym (others s n) ∙ b));
  low = λ s b. dite (ℕ_discrete s k) (λ (e : s ≡ k). omega arith) (λ n. r.low s (sym (others s n) ∙ b));
  within = r.within;
}
