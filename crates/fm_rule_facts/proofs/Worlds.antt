-- The memory stays beside the machine over each kind of entry.
use Rattle.std.{proofs.Common.{◌≡◌, ◌≢◌, ℕ, ◌<◌, ◌≤◌, Option, Some, None, sym, refl, ap, ◌∙◌, subst, inl, inr, ⊎_elim}, specs.Int.{bit_at}}
use Rattle.fm_words.specs.declared.shape.Shape.{Shape}
use Rattle.fm_base.specs.declared.{caller.Caller.{Caller}, arena_id.ArenaId.{ArenaId}}
use Rattle.fm_base_machine.specs.Functions.{Stage, Fresh, Lives, Closes, Over, Machine, put, put_at, put_by}
use Rattle.fm_base_machine.proofs.Putting.{put_here, put_else, put_cases, at_cases, by_cases}
use Rattle.fm_rule_facts.specs.{Views.{Fits}, Facts.{Session, free, live, shut, PoolWords, IsStanding, IsMarked, Counts, Givens, World}}
use Rattle.fm_rule_facts.proofs.Sessions.{caller_is, standing_known, one_standing, free_apart, sessions_shut, sessions_end, open_new, sessions_open, slots_used}

-- ---- holds, given bytes and words

-- A slot's word shows the number of its arena after both were changed.
slot_put : (f : ℕ → ℕ) (g : ArenaId → ℕ) (a : ArenaId) (n : ℕ) (b : ArenaId) → (b.slot ≡ a.slot → b ≡ a) → f b.slot ≡ g b
    → put f a.slot n b.slot ≡ put_at g a n b
slot_put f g a n b one same = at_cases g a n b (λ (x : ℕ). put f a.slot n b.slot ≡ x)
    (λ e. (λ j. put f a.slot n (e j).slot) ∙ put_here f a.slot n)
    (λ ne. put_else f a.slot n b.slot (λ e. ne (one e)) ∙ same)

-- an arena that was shut, apart from those that stand
module _ (counts : ℕ → ℕ) (life : ArenaId → Stage) (holds : ArenaId → ℕ) (r : Counts counts life holds) (a : ArenaId) where
  pub counts_shut : holds a ≡ 0 → ((b : ArenaId) → life b ≡ Lives → b ≢ a → b.slot ≢ a.slot) → Counts (put counts a.slot 0) (put_at life a Closes) holds
  counts_shut no_holds apart = record {
    shown = λ b. at_cases life a Closes b (λ (x : Stage). x ≡ Lives → put counts a.slot 0 b.slot ≡ holds b)
        (λ e q. absurd (cc))
        (λ n q. put_else counts a.slot 0 b.slot (apart b q n) ∙ r.shown b q);
    only = λ b. at_cases life a Closes b (λ (x : Stage). x ≢ Lives → holds b ≡ 0) (λ e q. ap holds e ∙ no_holds) (λ n q. r.only b q);
    few = r.few;
  }

  pub counts_end : life a ≡ Closes → Counts counts (put_at life a Over) holds
  counts_end l = record {
    shown = λ b. at_cases life a Over b (λ (x : Stage). x ≡ Lives → counts b.slot ≡ holds b) (λ e q. absurd (cc)) (λ n q. r.shown b q);
    only = λ b. at_cases life a Over b (λ (x : Stage). x ≢ Lives → holds b ≡ 0)
        (λ e q. ap holds e ∙ r.only a (λ f. let g : Closes ≡ Lives = sym l ∙ f in absurd (cc)))
        (λ n q. r.only b q);
    few = r.few;
  }

  pub counts_open : life a ≡ Fresh → ((b : ArenaId) → life b ≡ Lives → b.slot ≢ a.slot) → Counts (put counts a.slot 0) (put_at life a Lives) holds
  counts_open new apart = record {
    shown = λ b. at_cases life a Lives b (λ (x : Stage). x ≡ Lives → put counts a.slot 0 b.slot ≡ holds b)
        (λ e q. (λ j. put counts a.slot 0 (e j).slot) ∙ (put_here counts a.slot 0 ∙ sym (ap holds e ∙ r.only a (λ f.
        let g : Fresh ≡ Lives = sym new ∙ f in absurd (cc)))))
        (λ n q. put_else counts a.slot 0 b.slot (apart b q) ∙ r.shown b q);
    only = λ b. at_cases life a Lives b (λ (x : Stage). x ≢ Lives → holds b ≡ 0) (λ e q. absurd (q refl)) (λ n q. r.only b q);
    few = r.few;
  }

module _ (sessions : ℕ → Session) (words : ℕ → ℕ) (life : ArenaId → Stage) (given : ArenaId → ℕ) (r : Givens sessions words life given) (a : ArenaId) where
  pub givens_shut : life a ≡ Lives → Givens (put sessions a.slot (shut a)) words (put_at life a Closes) given
  givens_shut l = record {
    shown = λ b. at_cases life a Closes b (λ (x : Stage). IsStanding x → words b.slot ≡ given b) (λ e q. r.shown b (inl (ap life e ∙ l))) (λ n q. r.shown b q);
    none = λ b. at_cases life a Closes b (λ (x : Stage). x ≡ Fresh → given b ≡ 0) (λ e q. absurd (cc)) (λ n q. r.none b q);
    clean = λ s g. put_cases sessions a.slot (shut a) s (λ (x : Session). x ≡ free g → words s ≡ 0) (λ e q. absurd (cc)) (λ n q. r.clean s g q);
  }

  pub givens_end : Givens sessions words (put_at life a Over) given
  givens_end = record {
    shown =
        λ b. at_cases life a Over b (λ (x : Stage). IsStanding x → words b.slot ≡ given b) (λ e. ⊎_elim (λ q. absurd (cc)) (λ q. absurd (cc)))
        (λ n q. r.shown b q);
    none = λ b. at_cases life a Over b (λ (x : Stage). x ≡ Fresh → given b ≡ 0) (λ e q. absurd (cc)) (λ n q. r.none b q);
    clean = r.clean;
  }

  pub givens_open : sessions a.slot ≡ free a.generation → life a ≡ Fresh → Givens (put sessions a.slot (live a)) words (put_at life a Lives) given
  givens_open f new = record {
    shown = λ b. at_cases life a Lives b (λ (x : Stage). IsStanding x → words b.slot ≡ given b)
        (λ e q. (λ j. words (e j).slot) ∙ (r.clean a.slot a.generation f ∙ sym (ap given e ∙ r.none a new)))
        (λ n q. r.shown b q);
    none = λ b. at_cases life a Lives b (λ (x : Stage). x ≡ Fresh → given b ≡ 0) (λ e q. absurd (cc)) (λ n q. r.none b q);
    clean = λ s g. put_cases sessions a.slot (live a) s (λ (x : Session). x ≡ free g → words s ≡ 0) (λ e q. absurd (cc)) (λ n q. r.clean s g q);
  }

-- ---- each kind of entry

module _ (z : Shape) (m : PoolWords) (t : Machine) (r : World z m t) where
  -- who is under way in an arena whose stage becomes s is so still, where s stands
  stands_on : (a : ArenaId) (s : Stage) → ((c : Caller) (b : ArenaId) → t.inside c ≡ Some b → b ≡ a → IsStanding s) → (c : Caller) (b : ArenaId)
      → t.inside c ≡ Some b → IsMarked z m.marks m.terms (put_at t.life a s) c b
  stands_on a s on c b i =
      let w = r.marked c b i in
      record { number = w.number; term = w.term; mark = w.mark; stands = at_cases t.life a s b IsStanding (on c b i) (λ n. w.stands) }

  -- the mark of a caller that is outside
  pub world_mark : (c : Caller) (x : Option ArenaId) → c.term ≡ m.terms c.number → t.inside c ≡ None → World z (record m { marks = put m.marks c.number x }) t
  world_mark c x term out = record {
    marked = λ d a i.
        let w = r.marked d a i in
        let away : d.number ≢ c.number =
        λ e. (let one = caller_is d c e (w.term ∙ (ap m.terms e ∙ sym term)) in let f : None ≡ Some a = sym (ap t.inside one ∙ out) ∙ i in absurd (cc)) in
        record { number = w.number; term = w.term; mark = put_else m.marks c.number x d.number away ∙ w.mark; stands = w.stands };
    sessions = r.sessions;
    slots = r.slots;
    counts = r.counts;
    givens = r.givens;
  }

  pub world_enter : (c : Caller) (a : ArenaId) → c.number < z.passes → c.term ≡ m.terms c.number → m.marks c.number ≡ Some a → t.life a ≡ Lives
      → World z m (record t { inside = put_by t.inside c (Some a) })
  world_enter c a low term mark l = record {
    marked = λ d b. by_cases t.inside c (Some a) d (λ (x : Option ArenaId). x ≡ Some b → IsMarked z m.marks m.terms t.life d b)
        (λ e i. let same : a ≡ b = cc in subst (λ (y : Caller). IsMarked z m.marks m.terms t.life y b) (sym e)
        (record { number = low; term = term; mark = mark ∙ i; stands = inl (ap t.life (sym same) ∙ l) }))
        (λ n i. r.marked d b i);
    sessions = r.sessions;
    slots = r.slots;
    counts = r.counts;
    givens = r.givens;
  }

  pub world_leave : (c : Caller) → c.term ≡ m.terms c.number
      → World z (record m { marks = put m.marks c.number None }) (record t { inside = put_by t.inside c None })
  world_leave c term = record {
    marked = λ d b. by_cases t.inside c None d (λ (x : Option ArenaId). x ≡ Some b → IsMarked z (put m.marks c.number None) m.terms t.life d b)
        (λ e i. absurd (cc))
        (λ n i.
        let w = r.marked d b i in
        let away : d.number ≢ c.number = λ e. n (caller_is d c e (w.term ∙ (ap m.terms e ∙ sym term))) in
        record { number = w.number; term = w.term; mark = put_else m.marks c.number None d.number away ∙ w.mark; stands = w.stands });
    sessions = r.sessions;
    slots = r.slots;
    counts = r.counts;
    givens = r.givens;
  }

  -- pages and words don't matter
  world_beside : (bits : ℕ → ℕ) (maps : ℕ → ℕ → Option ℕ) (cells : ℕ → ℕ → ℕ) {f : ArenaId → ℕ → ℕ}
      → World z (record m { page_bits = bits; maps = maps; cells = cells }) (record t { word = f })
  world_beside bits maps cells = record {
    marked = r.marked;
    sessions = r.sessions;
    slots = r.slots;
    counts = r.counts;
    givens = r.givens;
  }

  pub world_word : (cells : ℕ → ℕ → ℕ) (f : ArenaId → ℕ → ℕ) → World z (record m { cells = cells }) (record t { word = f })
  world_word cells f = world_beside m.page_bits m.maps cells

  pub world_pages : (bits : ℕ → ℕ) (maps : ℕ → ℕ → Option ℕ) (cells : ℕ → ℕ → ℕ) → World z (record m { page_bits = bits; maps = maps; cells = cells }) t
  world_pages bits maps cells = world_beside bits maps cells

  pub world_shut : (a : ArenaId) → t.life a ≡ Lives → t.holds a ≡ 0
      → World z (record m { sessions = put m.sessions a.slot (shut a); counts = put m.counts a.slot 0 }) (record t { life = put_at t.life a Closes })
  world_shut a l no_holds = record {
    marked = stands_on a Closes (λ c b i e. inr refl);
    sessions = sessions_shut z m.sessions t.life r.sessions a l;
    slots = slots_used z m.bits m.sessions r.slots a.slot (shut a) (λ g e. absurd (cc)) (λ b.
        let y = r.slots.bit_is a.slot b in let q : free y.0 ≡ live a = sym y.1 ∙ r.sessions.alive_shown a l in absurd (cc));
    counts = counts_shut m.counts t.life t.holds r.counts a no_holds (λ b q n e. n (one_standing z m.sessions t.life r.sessions b a (inl q) (inl l) e));
    givens = givens_shut m.sessions m.given t.life t.given r.givens a l;
  }

  pub world_end : (a : ArenaId) → t.life a ≡ Closes → ((k : Caller) → t.inside k ≢ Some a) → World z m (record t { life = put_at t.life a Over })
  world_end a l nobody = record {
    marked = stands_on a Over (λ c b i e. absurd (nobody c (i ∙ ap Some e)));
    sessions = sessions_end z m.sessions t.life r.sessions a l;
    slots = r.slots;
    counts = counts_end m.counts t.life t.holds r.counts a l;
    givens = givens_end m.sessions m.given t.life t.given r.givens a;
  }

  pub world_open : (a : ArenaId) → m.sessions a.slot ≡ free a.generation → bit_at m.bits a.slot ≢ 1 → Fits z a
      → World z (record m { sessions = put m.sessions a.slot (live a); counts = put m.counts a.slot 0 }) (record t { life = put_at t.life a Lives })
  world_open a f taken fit =
      let new = open_new z m.sessions t.life r.sessions a f in
      record {
        marked = stands_on a Lives (λ c b i e. inl refl);
        sessions = sessions_open z m.sessions t.life r.sessions a f fit;
        slots = slots_used z m.bits m.sessions r.slots a.slot (live a) (λ g e. absurd (cc)) taken;
        counts =
            counts_open m.counts t.life t.holds r.counts a new (λ b q e. free_apart z m.sessions t.life r.sessions a.slot a.generation b f (inl q) (sym e));
        givens = givens_open m.sessions m.given t.life t.given r.givens a f new;
      }

  -- an arena that is alive has this many holds
  pub world_count : (a : ArenaId) (n : ℕ) → t.life a ≡ Lives → n ≤ 65535
      → World z (record m { counts = put m.counts a.slot n }) (record t { holds = put_at t.holds a n })
  world_count a n l few = record {
    marked = r.marked;
    sessions = r.sessions;
    slots = r.slots;
    counts = record {
      shown = λ b q. slot_put m.counts t.holds a n b (one_standing z m.sessions t.life r.sessions b a (inl q) (inl l)) (r.counts.shown b q);
      only = λ b q. at_cases t.holds a n b (λ (x : ℕ). x ≡ 0) (λ e. absurd (q (ap t.life e ∙ l))) (λ ne. r.counts.only b q);
      few = λ b. at_cases t.holds a n b (λ (x : ℕ). x ≤ 65535) (λ e. few) (λ ne. r.counts.few b);
    };
    givens = r.givens;
  }

  -- an arena that stands has given so many bytes
  pub world_given : (a : ArenaId) (n : ℕ) → IsStanding (t.life a)
      → World z (record m { given = put m.given a.slot n }) (record t { given = put_at t.given a n })
  world_given a n s = record {
    marked = r.marked;
    sessions = r.sessions;
    slots = r.slots;
    counts = r.counts;
    givens = record {
      shown = λ b q. slot_put m.given t.given a n b (one_standing z m.sessions t.life r.sessions b a q s) (r.givens.shown b q);
      none = λ b q. at_cases t.given a n b (λ (x : ℕ). x ≡ 0)
          (λ e. absurd (standing_known (t.life a) s (ap t.life (sym e) ∙ q)))
          (λ ne. r.givens.none b q);
      clean = λ k g f. put_else m.given a.slot n k (free_apart z m.sessions t.life r.sessions k g a f s) ∙ r.givens.clean k g f;
    };
  }

  -- other slot bits
  pub world_bits : (bits : ℕ) → ((s : ℕ) → bit_at bits s ≡ 1 → bit_at m.bits s ≡ 1) → World z (record m { bits = bits }) t
  world_bits bits less = record {
    marked = r.marked;
    sessions = r.sessions;
    slots = record { bit_is = λ s b. r.slots.bit_is s (less s b); low = λ s b. r.slots.low s (less s b); within = r.slots.within };
    counts = r.counts;
    givens = r.givens;
  }
