-- The step that gives back a handle of an automatic arena.
use Rattle.std.proofs.Common.{◌≡◌, ◌≢◌, ℕ, ◌+◌, ◌-◌, ◌%◌, ◌^◌, ◌<◌, ◌==◌, Bool, true, false, List, [], ◌∷◌, get_or, sym, refl, ap, ◌∙◌, subst, arith, Option, Some, None}
use mathlib.Core.Option.{some}
use lib.ListN.{get_elem?}
use prog.Atomic.{either}
use Rattle.fm_words.specs.{declared.shape.Shape.{Shape}, Places.{at as place_at, session}, Sessions.{session_word}}
use Rattle.fm_base.specs.{declared.{arena_id.ArenaId.{ArenaId}, kind.Kind.TheVariants.{Global, Automatic, Confined}}, Arenas.{MayUse}}
use Rattle.fm_base.specs.Calls.{Unhold, Fine, entry_of}
use Rattle.fm_base_machine.specs.Functions.{Lives}
use Rattle.fm_rule_facts.specs.{declared.step.Step.TheVariants.{Backs}, Views.{View, Fits, In, IsKnown}, Words.{alive_word, alive_holds}}
use Rattle.fm_rule_facts.specs.{Holds.{grips, released}, Handles.{Kept, last_if, giving_by, giving, given_back, giving_entries, word_given, back_word}}
use Rattle.fm_rule_facts.specs.{Steps.{part, entries, noted, none_noted}, Facts.{Rule}, Moves.{MayStep}}
use Rattle.fm_rule_facts.proofs.Gripping.{handles_are, with_handles, last_handle}
use Rattle.fm_rule_steps.proofs.{Reading.{Says, says, alive_read, eqb_true, eqb_false}, Quiet.{looks_on}, Knowing.{known_now}, Plain.{Made}}
use Rattle.fm_rule_steps.proofs.{Holding.{known_lives, shows_alive, its_alive, drops, less_word}, Shutting.{shuts}}

-- a session word with a hold less
one_less : (a : ArenaId) (n : ℕ) → 0 < n → alive_word a n - 1 ≡ alive_word a (n - 1)
unfolding alive_word session_word
one_less a n h = omega arith

module _ (z : Shape) (me : ℕ) (v : View) (l : v.live ≡ true) (a : ArenaId) (auto : a.kind ≡ Automatic) (has : In a v.handles)
    (ws : List ℕ) (vs : List View) (r : Rule z ws vs) (at : get_elem? vs me ≡ some v) where
  abbrev i : ℕ
  i = place_at z (session a.slot)

  abbrev found : ℕ
  found = get_or ws i 0

  its : In a (grips a v)
  its = subst (In a) (sym (handles_are a v auto)) has

  al : r.machine.life a ≡ Lives
  al = its_alive z me v l a ws vs r at its

  use_it : MayUse a v.caller
  use_it e = let f : Automatic ≡ Confined = sym auto ∙ e in absurd (cc)

  not_global : a.kind ≢ Global
  not_global e = let f : Automatic ≡ Global = sym auto ∙ e in absurd (cc)

  misses : Made z ws vs me v i found v [] none_noted
  misses = looks_on z ws vs r me v at l i

  -- others are left
  keeps_others : (n : ℕ) → found ≡ alive_word a n → n ≡ r.machine.holds a → 0 < n
      → Made z ws vs me v i (found - 1) (given_back a Kept v) (entry_of v.caller (Unhold a) Fine ∷ []) none_noted
  keeps_others n word is more =
      let fit : Fits z a = r.world.sessions.fits a (known_lives r.machine a al) in
      let few = r.world.counts.few a in
      let low : a.generation < 2 ^ 32 = (let g = fit.generation in let y = r.valid.generations.1 in omega arith) in
      let owner : a.owner < 4096 = (let g = fit.owner in let y = r.valid.passes.1 in omega arith) in
      let less : (found + (2 ^ 64 - 1)) % 2 ^ 64 ≡ found - 1 =
      ap (λ (y : ℕ). (y + (2 ^ 64 - 1)) % 2 ^ 64) word
      ∙ (less_word a n low owner more (omega arith) ∙ sym (ap (λ (y : ℕ). y - 1) word ∙ one_less a n more)) in
      let left = with_handles a (released a (grips a v)) v auto ∙ ap (λ (hs : List ArenaId). record v { handles = released a hs }) (handles_are a v auto) in
      subst (λ (x : ℕ × View). Made z ws vs me v i x.0 x.1 (entry_of v.caller (Unhold a) Fine ∷ []) none_noted) (λ j. (less j, left j))
      (drops z me v l a ws vs r at (known_lives r.machine a al) its (omega arith))

  -- the expected word was found
  answers : IsKnown v a → (o : Option ℕ) → alive_holds a found ≡ o → Says r.machine a o
      → Made z ws vs me v i (word_given a found (giving_by o)) (given_back a (giving_by o) v) (giving_entries a (giving_by o) v.caller) none_noted
  answers known None e s = absurd (s al)
  answers known (Some n) e s = by (n == 0) refl
    where
      by : (b : Bool) → (n == 0) ≡ b
          → Made z ws vs me v i (word_given a found (last_if b)) (given_back a (last_if b) v) (giving_entries a (last_if b) v.caller) none_noted
      by true q = shuts z me v l a known use_it not_global ws vs r at (released a v.handles) al (sym s.1 ∙ eqb_true n 0 q) (last_handle v l r.machine a al has)
      by false q = keeps_others n (alive_read a found n e) s.1 (let ne = eqb_false n 0 q in omega arith)

  exchanged : IsKnown v a → (word : ℕ) → Says r.machine a (alive_holds a found) → (b : Bool) → (found == word) ≡ b
      → Made z ws vs me v i (either b (back_word a word) found) (given_back a (giving b (alive_holds a word)) v)
      (giving_entries a (giving b (alive_holds a word)) v.caller) none_noted
  unfolding back_word
  exchanged known word s true e =
      subst (λ (x : ℕ). Made z ws vs me v i (word_given a x (giving_by (alive_holds a x))) (given_back a (giving_by (alive_holds a x)) v)
      (giving_entries a (giving_by (alive_holds a x)) v.caller) none_noted) (eqb_true found word e)
      (answers known (alive_holds a found) refl s)
  exchanged known word s false e = misses

-- a handle is given back where the session word is the expected one
pub back_steps : (z : Shape) (me : ℕ) (v : View) (a : ArenaId) (word : ℕ) → v.live ≡ true → IsKnown v a → a.kind ≡ Automatic → In a v.handles
    → MayStep z (Backs a word) me v (place_at z (session a.slot)) (λ n. either (n == word) (back_word a word) n)
unfolding part entries noted
back_steps z me v a word l known auto has = record {
  may = λ ws vs r at.
      let x : ℕ = get_or ws (place_at z (session a.slot)) 0 in
      let opened = known_now z ws vs r me v at l a known in
      let s = says z r.memory r.machine r.world r.valid.passes.1 a opened x (r.shows.sessions a.slot (r.world.sessions.fits a opened).slot) in
      let g = exchanged z me v l a auto has ws vs r at known word s (x == word) refl in
      (g.0, g.1, record { gives = g.2; learns = shows_alive r.machine a (alive_holds a x) s (al z me v l a auto has ws vs r at) });
}
