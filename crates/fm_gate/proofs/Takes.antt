-- The exchanges that take a hold.
use Rattle.std.proofs.Common.{◌≡◌, ◌≢◌, ℕ, ◌==◌, Bool, true, false, if◌then◌else◌, [], ◌∷◌, refl, ap, sym, ◌∙◌, subst, Some, None, eq-eqb, ne_eqb}
use Rattle.fm_base.specs.{declared.{caller.Caller.{Caller}, arena_id.ArenaId.{ArenaId}}, Arenas.{MayUse}, Calls.{Hold, Reply, Fine, TooManyHolds, entry_of}}
use Rattle.fm_base.specs.Machine.{most_holds}
use Rattle.fm_rule.specs.{declared.pool.Pool.{Pool}, Passes.{IsOf}}
use Rattle.fm_rule_facts.specs.{Views.{View, In}, Words.{alive_holds, hold_found}, Holds.{grips, with_grips, holds_after}}
use Rattle.fm_rule_facts.{specs.Steps.{Stepped, none_noted, where_found}, proofs.Gripping.{with_same}}
use Rattle.fm_rule_calls.{specs.Kept.{Goes, rest_of}, proofs.Going.{no_draws, made_by-one, rest_is, hand_is, inside_is, mark_is, goes_step}}
use Rattle.fm_rule_calls.proofs.Waiting.{Waited, waits_on}
use Rattle.fm_gate.{specs.Learnt.{AfterTake}, proofs.Outside.{swept_is}}

-- A pass that has waited is still one of its pool.
pub waited_of : (pool : Pool) {o p : View} → Waited o p → IsOf pool o → IsOf pool p
waited_of pool w of = subst (λ (x : View). IsOf pool x) (sym w.is) of

-- It may use the arena as before.
pub waited_may : (a : ArenaId) {o p : View} → Waited o p → MayUse a o.caller → MayUse a p.caller
waited_may a w may = subst (λ (x : View). MayUse a x.caller) (sym w.is) may

-- what the machine answers where the word was found
abbrev reply_at : ArenaId → ℕ → Reply
reply_at a word = hold_found (alive_holds a word)

abbrev Exchanges : Bool → View → View → ArenaId → ℕ → Type 0
Exchanges found p q a word =
    Stepped p q (with_grips a (holds_after found a (reply_at a word) (grips a p)) p) (where_found found (entry_of p.caller (Hold a) (reply_at a word) ∷ []))
    none_noted

-- A word that shows the most holds lets none be taken.
pub hold_full : (n : ℕ) → n ≡ most_holds → hold_found (Some n) ≡ TooManyHolds
hold_full n most = ap (λ (b : Bool). if b then TooManyHolds else Fine) (eq-eqb n most_holds most)

-- One that shows fewer does.
pub hold_fine : (n : ℕ) → n ≢ most_holds → hold_found (Some n) ≡ Fine
hold_fine n few = ap (λ (b : Bool). if b then TooManyHolds else Fine) (ne_eqb n most_holds few)

module _ {o p q : View} (a : ArenaId) (word found : ℕ) (w : Waited o p) (s : Exchanges (found == word) p q a word) where
  -- An exchange that found another word leaves the pass as it was.
  pub takes_on : found ≢ word → Waited o q
  takes_on n =
      let missed : Exchanges false p q a word = subst (λ (b : Bool). Exchanges b p q a word) (ne_eqb found word n) s in
      waits_on w (subst (λ (x : View). Stepped p q x [] none_noted) (with_same a p) missed)

  -- One that found the word that it expected takes a hold where the word shows room for one.
  pub after_take : found ≡ word → (In a (grips a p) → alive_holds a found ≢ None) → AfterTake o q a word
  after_take e alive =
      let hit : Exchanges true p q a word = subst (λ (b : Bool). Exchanges b p q a word) (eq-eqb found word e) s in
      let g : Goes p q (entry_of p.caller (Hold a) (reply_at a word) ∷ []) = goes_step hit refl refl (made_by-one p.caller (Hold a) (reply_at a word)) no_draws in
      let same : p.caller ≡ o.caller = ap (λ (x : View). x.caller) w.is in
      record {
        goes = w.onward q (entry_of o.caller (Hold a) (reply_at a word) ∷ [])
            (subst (λ (c : Caller). Goes p q (entry_of c (Hold a) (reply_at a word) ∷ [])) same g);
        rest = rest_is hit ∙ ap (λ (x : View). rest_of (with_grips a (holds_after true a (reply_at a word) (grips a x)) x)) w.is;
        alive = λ h. subst (λ (n : ℕ). alive_holds a n ≢ None) e (alive (subst (λ (x : View). In a (grips a x)) (sym w.is) h));
        inside = inside_is hit ∙ ap (λ (x : View). x.inside) w.is;
        mark = mark_is hit ∙ ap (λ (x : View). x.mark) w.is;
        hand = hand_is hit ∙ ap (λ (x : View). x.hand) w.is;
        swept = swept_is hit ∙ ap (λ (x : View). x.swept) w.is;
      }
