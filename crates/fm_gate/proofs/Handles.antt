-- Handles of automatic arenas.
use Rattle.std.proofs.Common.{◌≡◌, ◌≢◌, ◌<◌, arith, ℕ, true, List, [], ◌∷◌, refl, ap, sym, ◌∙◌, subst, Some, None, Result, Ok, Err, inl}
use Rattle.fm_base.specs.declared.{arena_id.ArenaId.{ArenaId}, kind.Kind.TheVariants.{Automatic, Confined}, refusal.Refusal.{Refusal}, caller.Caller.{Caller}}
use Rattle.fm_base.specs.{Arenas.{MayUse}, Calls.{Hold, Reply, Fine, TooManyHolds, entry_of}, Machine.{most_holds}, Finds.{Rest}}
use Rattle.fm_base.specs.declared.refusal.Refusal.TheVariants as refusal
use Rattle.fm_rule_facts.specs.{Views.{View, In, IsKnown, IsSound}, Words.{alive_holds, hold_found}, Holds.{grips, holds_after}}
use Rattle.fm_rule_facts.proofs.Gripping.{handles_are, with_handles}
use Rattle.fm_rule.specs.declared.pool.Pool.{Pool}
use Rattle.fm_rule_calls.{specs.Kept.{Goes, rest_of}, proofs.Going.{known_on, lasts_on}}
use Rattle.fm_gate.{specs.{Needs.{IsOutside, IsInside, HasHandle}, Learnt.{AfterTake, AfterAgain}}, proofs.Outside.{of_on, stands_outside, stands_inside}}
use Rattle.fm_gate.proofs.Takes.{hold_full, hold_fine}

-- The owner of a known arena is one of at most 4096 numbers.
pub owner_low : (a : ArenaId) {p : View} → IsSound p → IsKnown p a → a.owner < 4096
owner_low a s k = let o = (s.fits a k).owner in let n = s.valid.passes.1 in omega arith

-- Every caller may use an automatic arena.
pub all_may_use : (a : ArenaId) (c : Caller) → a.kind ≡ Automatic → MayUse a c
all_may_use a c k e = let f : Automatic ≡ Confined = sym k ∙ e in absurd (cc)

module _ {pool : Pool} {p q : View} {a : ArenaId} {word : ℕ} (can : HasHandle pool p a) (t : AfterTake p q a word) where
  -- The arena is alive.
  pub its_alive : alive_holds a word ≢ None
  its_alive = t.alive (subst (λ (hs : List ArenaId). In a hs) (sym (handles_are a p can.automatic)) can.has)

  -- Its owner has a number.
  pub owner_after : a.owner < 4096
  owner_after = owner_low a t.goes.sound (known_on t.goes a can.known)

  -- What is learnt by the reply.
  after : (result : Result (Unit {0}) Refusal) (reply : Reply) → hold_found (alive_holds a word) ≡ reply
      → (Goes p q (entry_of p.caller (Hold a) reply ∷ []) → rest_of q ≡ record (rest_of p) { handles = holds_after true a reply p.handles }
      → AfterAgain pool p q a result) → AfterAgain pool p q a result
  after result reply e f =
      f (subst (λ (r : Reply). Goes p q (entry_of p.caller (Hold a) r ∷ [])) e t.goes)
      (t.rest ∙ (ap rest_of (with_handles a (holds_after true a (hold_found (alive_holds a word)) (grips a p)) p can.automatic)
      ∙ (λ j. record (rest_of p) { handles = holds_after true a (e j) (handles_are a p can.automatic j) })))

  has_still : (hs : List ArenaId) → q.handles ≡ hs → In a hs → HasHandle pool q a
  has_still hs e i = record {
    of = of_on pool t.goes can.of;
    known = known_on t.goes a can.known;
    has = subst (λ (xs : List ArenaId). In a xs) (sym e) i;
    automatic = can.automatic;
  }

  out : IsOutside pool p → IsOutside pool q
  out o = stands_outside t.goes o.of o.no_number (t.hand ∙ o.no_slot) (t.swept ∙ o.no_part) (t.inside ∙ o.outside) (t.mark ∙ o.unmarked)

  within : (at : ArenaId) → IsInside pool p at → IsInside pool q at
  within at i = stands_inside t.goes i.of i.no_number (t.hand ∙ i.no_slot) (t.swept ∙ i.no_part) (t.inside ∙ i.inside)

  -- Where it has the most holds.
  pub after_most : (n : ℕ) → alive_holds a word ≡ Some n → n ≡ most_holds → AfterAgain pool p q a (Err refusal.TooManyHolds)
  after_most n f most = after (Err refusal.TooManyHolds) TooManyHolds (ap hold_found f ∙ hold_full n most) (λ g rest. record {
    did = record { own = entry_of p.caller (Hold a) TooManyHolds ∷ []; does = refl; goes = g; rest = rest };
    has = has_still p.handles (ap (λ (r : Rest). r.handles) rest) can.has;
    outside = out;
    inside = within;
    lasts = lasts_on g;
  })

  -- Where the pass has a handle more.
  pub after_again : (n : ℕ) → alive_holds a word ≡ Some n → n ≢ most_holds → AfterAgain pool p q a (Ok tt)
  after_again n f few = after (Ok tt) Fine (ap hold_found f ∙ hold_fine n few) (λ g rest. record {
    did = record { own = entry_of p.caller (Hold a) Fine ∷ []; does = refl; goes = g; rest = rest };
    has = has_still (a ∷ p.handles) (ap (λ (r : Rest). r.handles) rest) (inl refl);
    outside = out;
    inside = within;
    lasts = lasts_on g;
  })
