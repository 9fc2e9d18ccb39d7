-- A pass that is known to be whole is the only one that has anything.
use Rattle.std.proofs.Common.{◌≡◌, ℕ, ◌/◌, ◌<◌, true, List, [], sym, ap, ◌∙◌, subst, inl, inr}
use mathlib.Core.Option.{some, some-injective}
use lib.ListN.{get_elem?}
use Rattle.fm_words.specs.declared.shape.Shape.{Shape}
use Rattle.fm_base.specs.{declared.caller.Caller.{Caller}, Arenas.{State, has_arena, arena_of}, Calls.{Entry}, Histories.{state_after}}
use Rattle.fm_base.specs.Finds.{Find, is_slot, is_number, group_of}
use Rattle.fm_rule_facts.specs.{Hands.{nothing, HasSlot, no_number, HasNumberIn}, Views.{View, In, OpenedBut, NoneLeft, IsNumberGone, prefix, limit_of}}
use Rattle.fm_rule_facts.{specs.{Facts.{Owns, Rule, IsUsed, used, wanted, full}, Gone.{IsGone, FoundBy}}, proofs.Callers.{whole_has, all_counted}}
use Rattle.fm_rule_facts.proofs.{Looking.{wants_in}, Keeping.{seated_all}}
use Rattle.fm_base_machine.proofs.{Allowing.{not_fresh}, Putting.{one_caller}}

module _ (z : Shape) (me : ℕ) (v : View) (l : v.live ≡ true) (ws : List ℕ) (vs : List View) (r : Rule z ws vs) (at : get_elem? vs me ≡ some v) where
  abbrev mine : Owns z r.history r.memory r.machine r.owners me v
  mine = (r.each me v at).owns l

  -- no other view has anything
  pub lonely : v.whole ≡ true → (j : ℕ) (u : View) → get_elem? vs j ≡ some u → u.live ≡ true → u ≡ v
  lonely w j u at' live' =
      let x = (r.each j u at').owns live' in
      let here : j ≡ me = elim (one_caller u.caller v.caller) [
        | yes e ↦ sym x.seated ∙ (ap r.owners.seat e ∙ mine.seated)
        | no ne ↦ (let g = mine.whole w u.caller x.drawn ne in
            sym x.seated ∙ (ap r.owners.seat (sym g.2) ∙ seated_all z r.history r.memory r.machine r.owners me v mine g.0 g.1))
      ] in
      some-injective u v (sym at' ∙ (ap (get_elem? vs) here ∙ at))

  -- a find of no slot says of each slot why, where none is in a hand
  pub none_now : v.whole ≡ true → v.hand ≡ nothing → v.seen ≡ r.history → (c : Caller) (f : Find)
      → FoundBy z r.history r.memory r.owners.taker r.machine.life c f → is_slot f.step ≡ true → f.found ≡ 0 → NoneLeft v.shape v.seen c f
  none_now w none q c f by i h =
      let y = by.slot i h in
      subst (λ (x : Shape × List Entry). NoneLeft x.0 x.1 c f) (λ j. (sym ((r.each me v at).shape l) j, sym q j)) (record {
        before = y.before;
        begins = y.begins;
        long = y.long;
        opened = λ s low. opened y.before s (y.gone s low) low;
        busy = y.busy;
      })
    where
      opened : (before : List Entry) (s : ℕ) → IsGone z before r.memory r.owners.taker r.machine.life c s → s < z.slots
          → OpenedBut (limit_of z) r.history before c s
      opened before s (inl o) low =
          let now : State = state_after (limit_of z) [] r.history in
          record {
            arena = o.arena;
            in_slot = o.in_slot;
            known = not_fresh (has_arena now o.arena) (arena_of now o.arena).life (λ n. o.opened (r.depicts.life o.arena ∙ n));
            apart = o.apart;
          }
      opened before s (inr x) low =
          let t = x.1 in
          let y = r.slots s t.generation low t.session t.left t.bit in
          let same = lonely w (r.owners.holder s) y.view y.there y.holds.0 in
          absurd (subst (HasSlot s) (ap (λ (u : View). u.hand) same ∙ none) y.holds.1)

  -- a find of no number says of each number why
  pub numbers_gone : v.met ≡ [] → v.whole ≡ true → v.number ≡ no_number → (f : Find) → In f v.finds → is_number f.step ≡ true → f.found ≡ 0 → (n : ℕ)
      → n / 64 ≡ group_of f.step → n < z.passes → IsNumberGone v f n
  numbers_gone lone w none f i s h n of below = go (((r.looked me v at).finds f i s h).all n of below)
    where
      go : IsUsed r.memory r.owners vs (prefix f.gathered v.gathered) n → IsNumberGone v f n
      go (used c q d x) = inr (c, whole_has z r.history r.memory r.machine r.owners me v lone mine w c d, q, x)
      go (wanted y) = absurd (subst (HasNumberIn n) (ap (λ (u : View). u.number) (lonely w (r.owners.number n) y.view y.there y.holds.0) ∙ none)
          (wants_in n y.view y.holds))
      go (full e) = inl (sym (all_counted z r.history r.memory r.machine r.owners me v lone mine r.ranks w) ∙ e)
