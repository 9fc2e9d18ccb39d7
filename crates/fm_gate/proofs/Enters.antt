-- Coming into an arena.
use Rattle.std.{proofs.Common.{◌≡◌, ℕ, [], ◌∷◌, refl, ap, sym, ◌∙◌, subst, Option, Some, None}, specs.Prelude.{Ok, Err}}
use Rattle.fm_base.specs.{declared.{caller.Caller.{Caller}, arena_id.ArenaId.{ArenaId}}, Arenas.{MayUse}, Calls.{Enter, Leave, Fine, Closed, entry_of}}
use Rattle.fm_base.specs.{Histories.{made_by}, View.{inside_after}}
use Rattle.fm_base.specs.declared.refusal.Refusal.TheVariants as refusal
use Rattle.fm_rule_facts.specs.{Parts.{unread}, Views.{View, IsSound}, Words.{alive_holds, enter_found, inside_found}, Steps.{Stepped, none_noted, acted}}
use Rattle.fm_rule.specs.declared.pool.Pool.{Pool}
use Rattle.fm_rule_calls.specs.Kept.{Goes, rest_of}
use Rattle.fm_rule_calls.proofs.Going.{goes_then, goes_none, kept_none, made_by-one, no_draws, rest_is, hand_is, inside_is, mark_is, lasts_on, goes_step}
use Rattle.fm_gate.{specs.{Needs.{CanVisit}, Learnt.{AfterEnter}}, proofs.{Outside.{swept_is, stands_outside, stands_inside}, Acts.{unmark_goes}}}
use Rattle.fm_gate.proofs.Living.{not_held}

-- What is learnt where the pass may not use the arena: no step was made.
pub after_wrong_thread : {pool : Pool} {p : View} {a : ArenaId} → CanVisit pool p a → IsSound p → ¬ (MayUse a p.caller)
    → AfterEnter pool p p a (Err refusal.WrongThread)
after_wrong_thread can s not_his = record {
  did = kept_none _ _ s (not_his, refl);
  inside = tt;
  outside = can.outside;
  held = λ i e. absurd (cc);
  wrong_thread = λ e. refl;
  lasts = lasts_on (goes_none s);
}

-- To publish a mark makes no entry.
pub mark_goes : {p q : View} {a : ArenaId} → Stepped p q (record p { mark = Some a }) [] none_noted → Goes p q []
mark_goes s = goes_step s refl refl refl no_draws

module _ {pool : Pool} {p q r : View} {a : ArenaId} (word : ℕ) (can : CanVisit pool p a) (may : MayUse a p.caller)
    (marks : Stepped p q (record p { mark = Some a }) [] none_noted)
    (checks : Stepped q r (record q { inside = inside_found a (alive_holds a word); reads = [] }) (entry_of q.caller (Enter a) (enter_found
    (alive_holds a word)) ∷ []) none_noted) where
  marked : Goes p q []
  marked = mark_goes marks

  same_rest : rest_of r ≡ rest_of p
  same_rest = rest_is checks ∙ rest_is marks

  unswept : r.swept ≡ unread
  unswept = swept_is checks ∙ (swept_is marks ∙ can.outside.no_part)

  -- The word that was found decides what Enter answers.
  checked : (found : Option ℕ) → alive_holds a word ≡ found
      → inside_found a found ≡ inside_after None (entry_of p.caller (Enter a) (enter_found found) ∷ [])
      → Goes p r (entry_of p.caller (Enter a) (enter_found found) ∷ [])
  checked found e i =
      let own = entry_of p.caller (Enter a) (enter_found found) ∷ [] in
      let n = marked.same_caller in
      let s : Stepped q r (record q { inside = inside_found a found; reads = [] }) own none_noted =
      subst (λ (x : Option ℕ). Stepped q r (record q { inside = inside_found a x; reads = [] }) (entry_of p.caller (Enter a) (enter_found x) ∷ []) none_noted) e
      (subst (λ (c : Caller). Stepped q r
      (record q { inside = inside_found a (alive_holds a word); reads = [] }) (entry_of c (Enter a) (enter_found (alive_holds a word)) ∷ []) none_noted)
      n checks) in
      let out = ap (λ x. inside_after x own) (sym (marked.inside ∙ can.outside.outside)) in
      goes_then marked (goes_step s refl (i ∙ out) (ap (λ c. made_by c own) n ∙ made_by-one p.caller (Enter a) (enter_found found)) no_draws)

  -- What is learnt where the arena was alive.
  pub after_alive : {holds : ℕ} → alive_holds a word ≡ Some holds → (u : Unit {0}) → AfterEnter pool p r a (Ok u)
  after_alive {holds = holds} e u =
      let g = checked (Some holds) e refl in
      record {
        did = record { own = entry_of p.caller (Enter a) Fine ∷ []; does = (may, refl); goes = g; rest = same_rest };
        inside = stands_inside g can.outside.of can.outside.no_number (hand_is checks ∙ (hand_is marks ∙ can.outside.no_slot)) unswept
            (inside_is checks ∙ ap (inside_found a) e);
        outside = tt;
        held = λ i e. absurd (cc);
        wrong_thread = λ e. absurd (cc);
        lasts = lasts_on g;
      }

  module _ {s : View} (unmarks : Stepped r s (record r {
    inside = None;
    mark = None;
  }) (acted r.inside r.caller Leave Fine) none_noted) (none : alive_holds a word ≡ None) where
    outside_before : r.inside ≡ None
    outside_before = inside_is checks ∙ ap (inside_found a) none

    -- To clear the mark of a pass that is outside makes no entry.
    cleared : Goes r s []
    cleared = subst (λ (i : Option ArenaId). Goes r s (acted i r.caller Leave Fine)) outside_before (unmark_goes unmarks)

    refused : Goes p s (entry_of p.caller (Enter a) Closed ∷ [])
    refused = goes_then (checked None none refl) cleared

    -- What is learnt where it wasn't.
    pub after_closed : AfterEnter pool p s a (Err refusal.Closed)
    after_closed = record {
      did = record { own = entry_of p.caller (Enter a) Closed ∷ []; does = (may, refl); goes = refused; rest = rest_is unmarks ∙ same_rest };
      inside = tt;
      held = λ i e. not_held p.caller a refused (rest_is unmarks ∙ same_rest) i;
      outside = stands_outside refused can.outside.of can.outside.no_number
          (hand_is unmarks ∙ (hand_is checks ∙ (hand_is marks ∙ can.outside.no_slot))) (swept_is unmarks ∙ unswept) (inside_is unmarks) (mark_is unmarks);
      wrong_thread = λ e. absurd (cc);
      lasts = lasts_on refused;
    }
