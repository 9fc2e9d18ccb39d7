-- Which parts of an arena that stands are lent: those that have a page, among them each one in which a byte was given.
use Rattle.std.proofs.Common.{◌≡◌, ◌≢◌, ℕ, ◌*◌, ◌/◌, ◌<◌, Bool, true, false, List, [], sym, subst, inl, inr, refl, Option, Some, None}
use Rattle.std.specs.Prelude.{Contains}
use Rattle.fm_words.specs.declared.shape.Shape.{Shape}
use Rattle.fm_base.specs.{declared.{caller.Caller.{Caller}, arena_id.ArenaId.{ArenaId}}, Arenas.{Life, Alive, Closing, Ended, State, has_arena, arena_of}}
use Rattle.fm_base.{specs.Histories.{state_after}, proofs.Growing.{there_by_life}}
use Rattle.fm_base_machine.specs.Functions.{stage_of}
use Rattle.fm_rule_facts.{specs.{Loans.{loan_of, loans_of, HasPart}, Views.{View, limit_of}, Facts.{IsStanding, Rule}}, proofs.Moving.{mapped_lent}}
use Rattle.fm_rule_facts.proofs.Sessions.{standing_shown}

-- an arena of the list that hasn't ended stands
stands_now : (b : Bool) (l : Life) → b ≡ true → l ≢ Ended → IsStanding (stage_of b l)
stands_now true Alive h n = inl refl
stands_now true Closing h n = inr refl
stands_now true Ended h n = absurd (n refl)
stands_now false l h n = absurd (cc)

module _ (z : Shape) (ws : List ℕ) (vs : List View) (r : Rule z ws vs) where
  abbrev s : State
  s = state_after (limit_of z) [] r.history

  -- a part of an arena that stands is lent as the page that its map word names
  standing_part : (a : ArenaId) (i p : ℕ) → IsStanding (r.machine.life a) → r.memory.maps a.slot i ≡ Some p → Contains (loans_of r.history) (loan_of p a i)
  standing_part a i p st e = mapped_lent z (loans_of r.history) r.memory.page_bits r.memory.maps r.memory.cells r.owners.berth r.memory.sessions r.machine.life
      r.machine.word r.machine.given r.valid.page_words.0 r.world.sessions r.pages a i p
      (standing_shown z r.memory.sessions r.machine.life r.world.sessions a st) e

  -- so is one of an arena that a caller is under way in
  pub mapped_part : (c : Caller) (a : ArenaId) (i p : ℕ) → r.machine.inside c ≡ Some a → r.memory.maps a.slot i ≡ Some p
      → Contains (loans_of r.history) (loan_of p a i)
  mapped_part c a i p under e = standing_part a i p (r.world.marked c a under).stands e

  -- the part of a given byte is lent, while its arena hasn't ended
  pub given_lent : (a : ArenaId) (w : ℕ) → (arena_of s a).life ≢ Ended → 8 * w < (arena_of s a).given → HasPart (loans_of r.history) a (w / z.page_words)
  given_lent a w n g = go (r.memory.maps a.slot (w / z.page_words)) refl
    where
      st : IsStanding (r.machine.life a)
      st = subst IsStanding (sym (r.depicts.life a)) (stands_now (has_arena s a) (arena_of s a).life (there_by_life s a n) n)

      go : (o : Option ℕ) → r.memory.maps a.slot (w / z.page_words) ≡ o → HasPart (loans_of r.history) a (w / z.page_words)
      go None e = absurd (r.pages.says.covered a w st (subst (λ (x : ℕ). 8 * w < x) (sym (r.depicts.given a)) g) e)
      go (Some p) e = (p, standing_part a (w / z.page_words) p st e)
