-- The memory stays beside the machine while an ended arena is swept.
use Rattle.std.{proofs.Common.{◌≡◌, ◌≢◌, ℕ, ◌+◌, ◌<◌, ap, sym, ◌∙◌, inl, arith}, specs.Int.{bit_at}}
use Rattle.fm_words.specs.declared.shape.Shape.{Shape}
use Rattle.fm_base.specs.declared.arena_id.ArenaId.{ArenaId}
use Rattle.fm_base_machine.{specs.Functions.{Fresh, Over, Machine, put}, proofs.Putting.{put_else, put_cases}}
use Rattle.fm_rule_facts.specs.{Views.{Fits}, Facts.{Session, free, shut, PoolWords, World}}
use Rattle.fm_rule_facts.proofs.Sessions.{ended_apart, sessions_retire, slots_retired, slots_given}

module _ (z : Shape) (m : PoolWords) (t : Machine) (r : World z m t) where
  -- ---- an arena that has ended and isn't retired

  module _ (a : ArenaId) (f : m.sessions a.slot ≡ shut a) (o : t.life a ≡ Over) where
    -- its slot isn't free
    unfree : (k g : ℕ) → m.sessions k ≡ free g → k ≢ a.slot
    unfree k g q e = let y : m.sessions k ≡ shut a = ap m.sessions e ∙ f in absurd (cc)

    pub ended_bit : bit_at m.bits a.slot ≢ 1
    ended_bit b = let y = r.slots.bit_is a.slot b in let q : free y.0 ≡ shut a = sym y.1 ∙ f in absurd (cc)

    pub ended_fits : Fits z a
    ended_fits = r.sessions.fits a (λ n. let q : Over ≡ Fresh = sym o ∙ n in absurd (cc))

    -- the count of given bytes is reset
    pub world_reset : World z (record m { given = put m.given a.slot 0 }) t
    world_reset = record {
      marked = r.marked;
      sessions = r.sessions;
      slots = r.slots;
      counts = r.counts;
      givens = record {
        shown = λ b l. put_else m.given a.slot 0 b.slot (ended_apart z m.sessions t.life r.sessions a b f o l) ∙ r.givens.shown b l;
        none = r.givens.none;
        clean = λ k g q. put_else m.given a.slot 0 k (unfree k g q) ∙ r.givens.clean k g q;
      };
    }

    -- where all is 0, the slot is free for the next generation
    pub world_retire : m.given a.slot ≡ 0 → World z (record m { sessions = put m.sessions a.slot (free (a.generation + 1)); counts = put m.counts a.slot 0 }) t
    world_retire reset = record {
      marked = r.marked;
      sessions = sessions_retire z m.sessions t.life r.sessions a f o;
      slots = slots_retired z m.bits m.sessions r.slots a.slot (a.generation + 1) ended_bit (let l = ended_fits.generation in omega arith);
      counts = record {
        shown = λ b q. put_else m.counts a.slot 0 b.slot (ended_apart z m.sessions t.life r.sessions a b f o (inl q)) ∙ r.counts.shown b q;
        only = r.counts.only;
        few = r.counts.few;
      };
      givens = record {
        shown = r.givens.shown;
        none = r.givens.none;
        clean = λ s g. put_cases m.sessions a.slot (free (a.generation + 1)) s (λ (x : Session). x ≡ free g → m.given s ≡ 0)
            (λ e q. ap m.given e ∙ reset)
            (λ n q. r.givens.clean s g q);
      };
    }

  -- the bit is set of a slot that is free and has a generation left
  pub world_give : (bits k g : ℕ) → k < z.slots → m.sessions k ≡ free g → g < z.generations → ((s : ℕ) → s ≢ k → bit_at bits s ≡ bit_at m.bits s)
      → World z (record m { bits = bits }) t
  world_give bits k g slot f low others = record {
    marked = r.marked;
    sessions = r.sessions;
    slots = slots_given z m.bits bits m.sessions r.slots k g slot f low others;
    counts = r.counts;
    givens = r.givens;
  }
