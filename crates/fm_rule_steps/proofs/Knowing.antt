-- What the rule says of a pass, and what holds now of what it has seen.
use Rattle.std.proofs.Common.{◌≡◌, ◌≢◌, ℕ, ◌<◌, ◌≤◌, true, List, [], ◌++◌, sym, ap, ◌∙◌, subst, arith}
use mathlib.Core.Option.{some}
use lib.ListN.{get_elem?}
use Rattle.fm_words.specs.declared.shape.Shape.{Shape}
use Rattle.fm_base.specs.{declared.arena_id.ArenaId.{ArenaId}, Arenas.{State, has_arena, arena_of}, Calls.{Entry}, Histories.{state_after, IsLegal}}
use Rattle.fm_base.{proofs.{Making.{state_after-append, IsLegal-split}, Growing.{Grows-state_after}}, specs.Finds.{Close}}
use Rattle.fm_base_machine.specs.{Functions.{Fresh}, Steps.{moved_by}}
use Rattle.fm_rule_facts.{specs.{Views.{View, In, IsKnown, IsOver, given_of, limit_of}, Facts.{Owners, IsClosing, Owns, Rule}}, proofs.Ending.{given_later}}
use Rattle.fm_rule_facts.{proofs.{Sounding.{opened_life}, Keeping.{closing_on}}, specs.Moves.{MayMake, NoEnd}}

module _ (z : Shape) (ws : List ℕ) (vs : List View) (r : Rule z ws vs) (me : ℕ) (v : View) (at : get_elem? vs me ≡ some v) (l : v.live ≡ true) where
  abbrev pub own : Owns z r.history r.memory r.machine r.owners me v
  own = (r.each me v at).owns l

  pub low : v.caller.number < z.passes
  low = (r.terms v.caller own.drawn).0

  -- its closes go on by entries that end no arena
  pub closes_still : (es : List Entry) {o' : Owners} → MayMake (limit_of z) r.machine v.caller es → ((b : ArenaId) → NoEnd es b)
      → ((b : ArenaId) → o'.closer b ≡ r.owners.closer b) → (c : Close) → In c v.closes → IsClosing (moved_by r.machine es) o' me c
  closes_still es {o' = o'} ok ends same c i =
      closing_on (limit_of z) r.history v.caller r.machine es ok me r.owners o' c (own.work.closes c i) (same c.arena) (ends c.arena)

  -- an arena that the pass knows was opened
  pub known_now : (a : ArenaId) → IsKnown v a → r.machine.life a ≢ Fresh
  known_now a h =
      let k = r.each me v at in
      let e : v.shape ≡ z = k.shape l in
      let zs : List Entry = k.begins.0 in
      let limit : ℕ = limit_of z in
      let now : State = state_after limit [] v.seen in
      let known : has_arena now a ≡ true = subst (λ (y : Shape). has_arena (state_after (limit_of y) [] v.seen) a ≡ true) e h in
      let legal : IsLegal limit [] (v.seen ++ zs) = subst (IsLegal limit []) k.begins.1 r.legal in
      let later = (IsLegal-split limit [] v.seen zs legal).1 in
      let on : state_after limit [] r.history ≡ state_after limit now zs = ap (state_after limit []) k.begins.1 ∙ state_after-append limit [] v.seen zs in
      let still : has_arena (state_after limit [] r.history) a ≡ true =
      ap (λ (s : State). has_arena s a) on ∙ (Grows-state_after limit now zs later).has a known in
      λ f. opened_life (has_arena (state_after limit [] r.history) a) (arena_of (state_after limit [] r.history) a).life still (sym (r.depicts.life a) ∙ f)

  -- what it has seen to be given is given still
  pub given_now : (a : ArenaId) → given_of v a ≤ r.machine.given a
  given_now a =
      let k = r.each me v at in
      let e : v.shape ≡ z = k.shape l in
      let zs : List Entry = k.begins.0 in
      let limit : ℕ = limit_of z in
      let now : State = state_after limit [] v.seen in
      let legal : IsLegal limit [] (v.seen ++ zs) = subst (IsLegal limit []) k.begins.1 r.legal in
      let later = (IsLegal-split limit [] v.seen zs legal).1 in
      let on : state_after limit [] r.history ≡ state_after limit now zs = ap (state_after limit []) k.begins.1 ∙ state_after-append limit [] v.seen zs in
      let more = (Grows-state_after limit now zs later).given a in
      let was : given_of v a ≡ (arena_of now a).given = ap (λ (y : Shape). (arena_of (state_after (limit_of y) [] v.seen) a).given) e in
      let is : (arena_of (state_after limit now zs) a).given ≡ r.machine.given a =
      ap (λ (s : State). (arena_of s a).given) (sym on) ∙ sym (r.depicts.given a) in
      omega arith

  -- what it has seen of an arena that is over is all that was given
  pub given_over : (a : ArenaId) → IsOver v a → r.machine.given a ≡ given_of v a
  given_over a o =
      let k = r.each me v at in
      let sh : z ≡ v.shape = sym (k.shape l) in
      let zs : List Entry = k.begins.0 in
      let legal : IsLegal (limit_of v.shape) [] (v.seen ++ zs) =
      subst (λ (x : Shape × List Entry). IsLegal (limit_of x.0) [] x.1) (λ j. (sh j, k.begins.1 j)) r.legal in
      let same : state_after (limit_of z) [] r.history ≡ state_after (limit_of v.shape) [] (v.seen ++ zs) =
      (λ j. state_after (limit_of (sh j)) [] (k.begins.1 j)) in
      r.depicts.given a ∙ (ap (λ (s : State). (arena_of s a).given) same
      ∙ given_later (limit_of v.shape) v.seen zs a legal o.known (record { life = o.life; empty = o.empty }))
