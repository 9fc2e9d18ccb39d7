-- Holds are taken and spent.
use Rattle.std.proofs.Common.{◌≡◌, ◌≢◌, ℕ, true, List, [], ◌∷◌, refl, ap, sym, ◌∙◌, subst, Option, Some, None, Result, Ok, Err, inl}
use Rattle.fm_base.specs.{declared.{arena_id.ArenaId.{ArenaId}, kind.Kind.TheVariants.{Automatic}, refusal.Refusal.{Refusal}}, Arenas.{MayUse}}
use Rattle.fm_base.specs.{Calls.{Hold, Unhold, Reply, Fine, Closed, TooManyHolds, entry_of}, Machine.{most_holds}, Finds.{Rest}}
use Rattle.fm_base.specs.declared.refusal.Refusal.TheVariants as refusal
use Rattle.fm_rule_facts.specs.{Views.{View, In, IsKnown, IsSound}, Words.{alive_holds, hold_found}, Holds.{grips, holds_after, released}}
use Rattle.fm_rule_facts.{specs.Steps.{Stepped, none_noted}, proofs.Gripping.{holds_are, with_holds}}
use Rattle.fm_rule.specs.declared.pool.Pool.{Pool}
use Rattle.fm_rule_calls.specs.Kept.{Goes, rest_of}
use Rattle.fm_rule_calls.proofs.Going.{goes_none, kept_none, no_draws, made_by-one, rest_is, hand_is, inside_is, mark_is, known_on, lasts_on, goes_step}
use Rattle.fm_pages.specs.Makers.{made_by_pass}
use Rattle.fm_gate.specs.{declared.held.Hold.{Hold as TheHold}, Needs.{IsOutside, CanVisit, CanUnhold}}
use Rattle.fm_gate.{specs.Learnt.{AfterHold, AfterTake, AfterUnhold, DoesTake}, proofs.Outside.{swept_is, stands_outside, stands_inside}}
use Rattle.fm_gate.proofs.Takes.{hold_full, hold_fine}

abbrev err : Refusal → Result TheHold Refusal
err r = Err r

-- ---- refused before a step

-- What is learnt where no step was made.
unmoved : {pool : Pool} {p : View} {a : ArenaId} {r : Refusal} → CanVisit pool p a → IsSound p → DoesTake p.caller a (Err r) [] → err r ≢ err refusal.Closed
    → AfterHold pool p p a (Err r)
unmoved can s does no_close = record {
  did = kept_none _ _ s does;
  held = tt;
  alive = λ i. no_close;
  unsupported = λ e. refl;
  wrong_thread = λ e. refl;
  outside = can.outside;
  lasts = lasts_on (goes_none s);
}

pub after_not_his : {pool : Pool} {p : View} {a : ArenaId} → CanVisit pool p a → IsSound p → a.kind ≢ Automatic → ¬ (MayUse a p.caller)
    → AfterHold pool p p a (Err refusal.WrongThread)
after_not_his can s k n = unmoved can s (k, (n, refl)) (λ e. absurd (cc))

-- ---- after the exchange

module _ {pool : Pool} {p q : View} {a : ArenaId} {word : ℕ} (can : CanVisit pool p a) (kind : a.kind ≢ Automatic) (may : MayUse a p.caller)
    (t : AfterTake p q a word) where
  -- the way where the word showed so many holds
  way : (h : Option ℕ) (reply : Reply) → alive_holds a word ≡ h → hold_found h ≡ reply
      → Goes p q (entry_of p.caller (Hold a) reply ∷ []) × (rest_of q ≡ record (rest_of p) { holds = holds_after true a reply p.holds })
  way h reply f is =
      let e : hold_found (alive_holds a word) ≡ reply = ap hold_found f ∙ is in (
        subst (λ (r : Reply). Goes p q (entry_of p.caller (Hold a) r ∷ [])) e t.goes,
        t.rest ∙ (ap rest_of (with_holds a (holds_after true a (hold_found (alive_holds a word)) (grips a p)) p kind)
            ∙ (λ j. record (rest_of p) { holds = holds_after true a (e j) (holds_are a p kind j) })),
      )

  out : IsOutside pool q
  out = stands_outside t.goes can.outside.of can.outside.no_number (t.hand ∙ can.outside.no_slot)
      (t.swept ∙ can.outside.no_part) (t.inside ∙ can.outside.outside) (t.mark ∙ can.outside.unmarked)

  refuses : (reply : Reply) (r : Refusal) (h : Option ℕ) → alive_holds a word ≡ h → hold_found h ≡ reply
      → holds_after true a reply p.holds ≡ p.holds → DoesTake p.caller a (Err r) (entry_of p.caller (Hold a) reply ∷ [])
      → err r ≢ err refusal.Unsupported → err r ≢ err refusal.WrongThread → (In a p.holds → err r ≢ err refusal.Closed) → AfterHold pool p q a (Err r)
  refuses reply r h f is none does n n' shut =
      let w = way h reply f is in
      record {
        did = record {
          own = entry_of p.caller (Hold a) reply ∷ [];
          does = does;
          goes = w.0;
          rest = w.1 ∙ ap (λ (hs : List ArenaId). record (rest_of p) { holds = hs }) none;
        };
        held = tt;
        alive = shut;
        unsupported = λ e. absurd (n e);
        wrong_thread = λ e. absurd (n' e);
        outside = out;
        lasts = lasts_on w.0;
      }

  -- What is learnt where the arena wasn't alive.
  pub after_closed : alive_holds a word ≡ None → AfterHold pool p q a (Err refusal.Closed)
  after_closed f = refuses Closed refusal.Closed None f refl refl (kind, (may, refl)) (λ e. absurd (cc)) (λ e. absurd (cc))
      (λ i e. t.alive (subst (λ (hs : List ArenaId). In a hs) (sym (holds_are a p kind)) i) f)

  -- Where it had the most holds.
  pub after_most : (n : ℕ) → alive_holds a word ≡ Some n → n ≡ most_holds → AfterHold pool p q a (Err refusal.TooManyHolds)
  after_most n f most =
      refuses TooManyHolds refusal.TooManyHolds (Some n) f (hold_full n most) refl (kind, (may, refl)) (λ e. absurd (cc)) (λ e. absurd (cc))
      (λ i e. absurd (cc))

  -- And where it is held once more.
  pub after_taken : (n : ℕ) (hold : TheHold) → alive_holds a word ≡ Some n → n ≢ most_holds → hold.arena ≡ a → hold.maker ≡ made_by_pass q
      → AfterHold pool p q a (Ok hold)
  after_taken n hold f few is mine =
      let w = way (Some n) Fine f (hold_fine n few) in
      let known : IsKnown q a = known_on w.0 a can.known in
      record {
        did = record { own = entry_of p.caller (Hold a) Fine ∷ []; does = (is, (kind, (may, refl))); goes = w.0; rest = w.1 };
        held = record {
          of = out.of;
          maker = mine;
          known = subst (λ (x : ArenaId). IsKnown q x) (sym is) known;
          held = subst (λ (hs : List ArenaId). In hold.arena hs) (sym (ap (λ (r : Rest). r.holds) w.1)) (inl is);
          by_hand = subst (λ (x : ArenaId). x.kind ≢ Automatic) (sym is) kind;
        };
        alive = λ i e. absurd (cc);
        unsupported = λ e. absurd (cc);
        wrong_thread = λ e. absurd (cc);
        outside = out;
        lasts = lasts_on w.0;
      }

-- ---- a hold is spent

pub after_unhold : {pool : Pool} {p q : View} {hold : TheHold} → CanUnhold pool p hold
    → Stepped p q (record p { holds = released hold.arena p.holds }) (entry_of p.caller (Unhold hold.arena) Fine ∷ []) none_noted
    → AfterUnhold pool p q hold.arena
after_unhold {pool = pool} {p = p} {q = q} {hold = hold} can s =
    let g : Goes p q (entry_of p.caller (Unhold hold.arena) Fine ∷ []) = goes_step s refl refl (made_by-one p.caller (Unhold hold.arena) Fine) no_draws in
    record {
      did = record { own = entry_of p.caller (Unhold hold.arena) Fine ∷ []; does = refl; goes = g; rest = rest_is s };
      outside = λ o. stands_outside g o.of o.no_number (hand_is s ∙ o.no_slot) (swept_is s ∙ o.no_part) (inside_is s ∙ o.outside) (mark_is s ∙ o.unmarked);
      inside = λ a i. stands_inside g i.of i.no_number (hand_is s ∙ i.no_slot) (swept_is s ∙ i.no_part) (inside_is s ∙ i.inside);
      lasts = lasts_on g;
    }
