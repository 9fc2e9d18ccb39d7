-- A pool's first pass that has a new arena give its first bytes.
use Rattle.std.proofs.Common.{◌≡◌, ℕ, ◌+◌, ◌<◌, ◌≤◌, true, false, List, Ok, Err, refl, ap, ◌∙◌, sym, subst, arith}
use Rattle.fm_base.specs.declared.{arena_id.ArenaId.{ArenaId}, refusal.Refusal.{Refusal, TheVariants.{Memory, NoSlot, PoolFull}}}
use Rattle.fm_base.specs.{Does.{DidAllocate, DoesAllocate}, Finds.{Gathered}, Machine.{rounded_up}, Outcomes.{MayRefuse, Nature}, View.{but_loans, given_in}}
use Rattle.fm_rule_calls.{specs.Told.{view_of_pass}, proofs.Telling.{did_of}}
use Rattle.fm_gate.{specs.Learnt.{AfterAllocate}, proofs.Scarce.{one_empty}}
use Rattle.fm_top_load.{specs.Held.{HoldsThen, IsEmpty, OnlyIn, Wants, words_at}, proofs.Holding.{allocated_held, allocated_only, refusal_wants}}
use Rattle.fm_rule_facts.specs.{Loans.{loans_of}, Scarcity.{IsScarce, lacking, parts_before}, Views.{View, given_of, limit_of, state_in, unlent}}
use Rattle.fm_rule_facts.proofs.Scarcity.{lacking_most}
use Rattle.fm_rule.specs.declared.pool.Pool.{Pool}
use Rattle.fm_top_pooled.{specs.Stocked.{HasPagesFor, IsAlone}, proofs.{Opening.{kept_alone}, Tidying.{AllChangeNone}}}

-- ---- nothing is wanting

-- the arena's first bytes stand at its start
pub nothing_given : (p : View) (a : ArenaId) → IsEmpty (view_of_pass p) a → rounded_up (given_in (view_of_pass p) a) 8 ≡ 0
nothing_given p a empty = ap (λ n. rounded_up n 8) empty.none

first_room : {gs : List Gathered} (pool : Pool) (p : View) (a : ArenaId) (size : ℕ) → IsAlone gs pool p → IsEmpty (view_of_pass p) a → size ≤ limit_of pool.shape
    → rounded_up (given_in (view_of_pass p) a) 8 + size ≤ limit_of p.shape
first_room pool p a size lone empty room =
    let shape : limit_of p.shape ≡ limit_of pool.shape = ap limit_of lone.outside.of.1 in
    omega (arith, nothing_given p a empty, shape, room)

-- where an arena with so many bytes has no more parts than pages are left, these aren't too few
not_scarce : (p : View) (a : ArenaId) (size : ℕ) → IsEmpty (view_of_pass p) a → HasPagesFor p size → ¬ (IsScarce p a size 8)
not_scarce p a size empty pages scarce =
    let loans = loans_of p.seen in
    let none : rounded_up (given_of p a) 8 ≡ 0 = nothing_given p a empty in
    let end : rounded_up (given_of p a) 8 + size ≡ size = omega (arith, none) in
    let few : unlent p.shape.pages loans < lacking (parts_before p.shape size) loans a =
    subst (λ (n : ℕ). unlent p.shape.pages loans < lacking (parts_before p.shape n) loans a) end scarce.few in
    let left : parts_before p.shape size ≤ unlent p.shape.pages loans = pages in
    let most : lacking (parts_before p.shape size) loans a ≤ parts_before p.shape size = lacking_most (parts_before p.shape size) loans a in
    absurd (omega (arith, few, left, most))

-- of which each refusal may come
any : Nature
any = record { alone = false; memory = true; no_slot = true; pool_full = true }

may_any : (r : Refusal) → MayRefuse any r
unfolding any
may_any Memory = refl
may_any NoSlot = refl
may_any PoolFull = refl
may_any r = tt

module _ {gs : List Gathered} {pool : Pool} {p q : View} (a : ArenaId) (size : ℕ) (lone : IsAlone gs pool p) (empty : IsEmpty (view_of_pass p) a) where
  neither : (r : Refusal) → HasPagesFor p size → AfterAllocate pool p q a size 8 (Err r) → Wants any (view_of_pass p) (view_of_pass q) r → ⊥
  neither Memory pages after w = after.never refl
  neither PoolFull pages after w = not_scarce p a size empty pages (after.exact lone.whole lone.none_to_end lone.none_to_sweep)
  neither r pages after w = absurd w

  -- So it isn't refused.
  pub never_refused : (r : Refusal) → size ≤ limit_of pool.shape → HasPagesFor p size → AfterAllocate pool p q a size 8 (Err r) → ⊥
  never_refused r room pages after =
      let did : DidAllocate (view_of_pass p) (view_of_pass q) a size 8 (Err r) =
      did_of p q (λ own. DoesAllocate p.caller a size 8 (Err r) (but_loans own)) after.did in
      neither r pages after
      (refusal_wants any (view_of_pass p) (view_of_pass q) a size r empty.held (first_room pool p a size lone empty room) did (may_any r)
      (λ is. (one_empty after.did.goes (after.no_page (ap Err is)).found).found))

  -- ---- bytes are given

  module _ (place : ℕ) (after : AfterAllocate pool p q a size 8 (Ok place)) where
    did : DidAllocate (view_of_pass p) (view_of_pass q) a size 8 (Ok place)
    did = did_of p q (λ own. DoesAllocate p.caller a size 8 (Ok place) (but_loans own)) after.did

    -- The pass is by itself still.
    pub allocated_lone : IsAlone gs pool q
    allocated_lone = kept_alone lone after.did after.outside (subst AllChangeNone (sym after.did.does.2) (tt, (tt, (tt, tt))))

    -- The bytes are the arena's first ones.
    pub first_held : HoldsThen (view_of_pass q) a size (words_at (view_of_pass p) a)
    first_held =
        let held = allocated_held (view_of_pass p) (view_of_pass q) a size place empty.held after.outside.outside did in
        let start : place ≡ 0 = held.0 ∙ nothing_given p a empty in
        let all : place + size ≡ size = omega (arith, start) in
        subst (λ (n : ℕ). HoldsThen (view_of_pass q) a n (words_at (view_of_pass p) a)) all held.1

    pub first_only : OnlyIn a (state_in p) (state_in q)
    first_only = allocated_only (view_of_pass p) (view_of_pass q) a size place empty.held did
