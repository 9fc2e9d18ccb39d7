-- Shutting an arena.
use Rattle.std.proofs.Common.{◌≡◌, ℕ, ◌<◌, ◌==◌, false, if◌then◌else◌, List, [], ◌∷◌, refl, ap, ◌∙◌, subst, Some, None, arith}
use Rattle.std.{proofs.lemmas.Bool.Decides.{nat_tests}, specs.Prelude.{Ok, Err}}
use Rattle.fm_base.specs.{declared.{arena_id.ArenaId.{ArenaId}, refusal.Refusal.{Refusal}}, Arenas.{MayUse}}
use Rattle.fm_base.specs.{Calls.{Shut, Reply, Fine, Closed, Held, Entry, entry_of}, Does.{IsClosable}, Finds.{Close}}
use Rattle.fm_base.specs.declared.refusal.Refusal.TheVariants as refusal
use Rattle.fm_rule_facts.specs.{Views.{View, IsSound}, Words.{alive_holds, shut_found, shut_by}, Closes.{begun, passed_of}, Steps.{Stepped, none_noted}}
use Rattle.fm_rule.specs.{declared.pool.Pool.{Pool}, Passes.{IsOf}}
use Rattle.fm_rule_calls.specs.Kept.{Goes}
use Rattle.fm_rule_calls.proofs.Going.{goes_none, kept_none, made_by-one, no_draws, rest_is, hand_is, inside_is, mark_is, closes_is, known_on, lasts_on, goes_step}
use Rattle.fm_gate.{specs.{Makers.{Made, made_by_pass}, Needs.{IsOutside, CanVisit}}, proofs.Outside.{made_on, stands_outside, swept_is}}
use Rattle.fm_close.specs.Does as does
use Rattle.fm_close.{specs.Learnt.{AfterShut}, proofs.Closes.{passed_of-begun}}

-- What is learnt where no step was made.
unmoved : {pool : Pool} {p : View} {a : ArenaId} {r : Refusal} → CanVisit pool p a → IsSound p → does.DoesShut (made_by_pass p) a (Err r) []
    → AfterShut pool p p a (Err r)
unmoved can s shuts = record {
  did = kept_none _ _ s shuts;
  walks = tt;
  outside = can.outside;
  as_was = record { wrong_thread = λ e. refl; cannot_close = λ k e. refl };
  lasts = lasts_on (goes_none s);
}

-- and where the pass may not use the arena.
pub after_wrong_thread : {pool : Pool} {p : View} {a : ArenaId} → CanVisit pool p a → IsSound p → IsClosable a.kind → ¬ (MayUse a p.caller)
    → AfterShut pool p p a (Err refusal.WrongThread)
after_wrong_thread can s kind not_his = unmoved can s (kind, not_his, refl)

-- The pass is still one of its pool.
pub shut_of : (pool : Pool) {p q : View} {cs : List Close} {own : List Entry} → Stepped p q (record p { closes = cs }) own none_noted → IsOf pool p
    → IsOf pool q
shut_of pool s of = (ap (λ (x : View). x.home) s.is_part ∙ of.0, ap (λ (x : View). x.shape) s.is_part ∙ of.1)

shut_held : (holds : ℕ) → 0 < holds → shut_by holds ≡ Held holds
shut_held holds l = let f : (holds == 0) ≡ false = grind (arith, nat_tests) in ap (λ b. if b then Fine else Held holds) f

module _ {pool : Pool} {p q : View} {a : ArenaId} (word : ℕ) (can : CanVisit pool p a) (kind : IsClosable a.kind) (may : MayUse a p.caller)
    (s : Stepped p q (record p { closes = begun a (shut_found (alive_holds a word)) p.closes }) (entry_of p.caller (Shut a) (shut_found
    (alive_holds a word)) ∷ []) none_noted) where
  shut_as : (reply : Reply) → shut_found (alive_holds a word) ≡ reply
      → Stepped p q (record p { closes = begun a reply p.closes }) (entry_of p.caller (Shut a) reply ∷ []) none_noted
  shut_as reply e = subst (λ (x : Reply). Stepped p q (record p { closes = begun a x p.closes }) (entry_of p.caller (Shut a) x ∷ []) none_noted) e s

  shut_goes : (reply : Reply) → shut_found (alive_holds a word) ≡ reply → Goes p q (entry_of p.caller (Shut a) reply ∷ [])
  shut_goes reply e = goes_step (shut_as reply e) refl refl (made_by-one p.caller (Shut a) reply) no_draws

  still_outside : (reply : Reply) → shut_found (alive_holds a word) ≡ reply → IsOutside pool q
  still_outside reply e = stands_outside (shut_goes reply e) can.outside.of can.outside.no_number (hand_is s ∙ can.outside.no_slot)
      (swept_is s ∙ can.outside.no_part) (inside_is s ∙ can.outside.outside) (mark_is s ∙ can.outside.unmarked)

  -- What is learnt where the arena wasn't alive.
  pub after_closed : alive_holds a word ≡ None → AfterShut pool p q a (Err refusal.Closed)
  after_closed e =
      let r : shut_found (alive_holds a word) ≡ Closed = ap shut_found e in
      record {
        did = record { own = entry_of p.caller (Shut a) Closed ∷ []; does = (kind, may, refl); goes = shut_goes Closed r; rest = rest_is (shut_as Closed r) };
        walks = tt;
        outside = still_outside Closed r;
        as_was = record { wrong_thread = λ e. absurd (cc); cannot_close = λ k e. absurd (cc) };
        lasts = lasts_on (shut_goes Closed r);
      }

  -- What is learnt where it has holds.
  pub after_held : (holds : ℕ) → alive_holds a word ≡ Some holds → 0 < holds → AfterShut pool p q a (Err (refusal.Held holds))
  after_held holds e l =
      let r : shut_found (alive_holds a word) ≡ Held holds = ap shut_found e ∙ shut_held holds l in
      record {
        did = record {
          own = entry_of p.caller (Shut a) (Held holds) ∷ [];
          does = (kind, may, l, refl);
          goes = shut_goes (Held holds) r;
          rest = rest_is (shut_as (Held holds) r);
        };
        walks = tt;
        outside = still_outside (Held holds) r;
        as_was = record { wrong_thread = λ e. absurd (cc); cannot_close = λ k e. absurd (cc) };
        lasts = lasts_on (shut_goes (Held holds) r);
      }

  -- What is learnt where it is shut now: the close has visited no mark.
  pub after_fine : (m : Made) → m ≡ made_by_pass q → alive_holds a word ≡ Some 0 → AfterShut pool p q a (Ok (does.begun m a))
  after_fine m mine e =
      let r : shut_found (alive_holds a word) ≡ Fine = ap shut_found e in
      let t = shut_as Fine r in
      let g = shut_goes Fine r in
      record {
        did = record {
          own = entry_of p.caller (Shut a) Fine ∷ [];
          does = (kind, may, ap (λ (x : Made). does.begun x a) (mine ∙ made_on g), refl);
          goes = g;
          rest = rest_is t;
        };
        walks = record {
          maker = mine;
          unfinished = refl;
          known = known_on g a can.known;
          at = ap (λ cs. passed_of cs a) (closes_is t) ∙ passed_of-begun p.closes a;
          low = (let n = g.sound.number in omega arith);
        };
        outside = still_outside Fine r;
        as_was = record { wrong_thread = λ e. absurd (cc); cannot_close = λ k e. absurd (cc) };
        lasts = lasts_on g;
      }
