-- The lists of a pass's closes and sweeps.
use Rattle.std.proofs.Common.{◌≡◌, ℕ, ◌+◌, Bool, true, false, if◌then◌else◌, List, [], ◌∷◌, refl, ap, ◌∙◌, Some}
use Rattle.fm_base.{specs.{declared.arena_id.ArenaId.{ArenaId}, Arenas.{same_id}, Finds.{Stretch, Walk}}, proofs.Names.{same_id-self}}
use Rattle.fm_rule_facts.specs.Closes.{walk_of, passed_of, one_more, advanced, dropped}

module _ {over : Stretch} where
  -- A walk that has passed one more has passed one more than it had.
  pub passed_of-advanced : (cs : List (Walk over)) (a : ArenaId) (k : ℕ) → passed_of cs a ≡ Some k → passed_of (advanced a cs) a ≡ Some (k + 1)
  passed_of-advanced [] a k h = absurd (cc)
  passed_of-advanced (c ∷ cs) a k h =
      let P : Bool → Type 0 = λ b. same_id c.arena a ≡ b → (if b then Some c.passed else passed_of cs a) ≡ Some k
      → passed_of (if b then one_more c ∷ cs else c ∷ advanced a cs) a ≡ Some (k + 1) in
      let go : (b : Bool) → P b = λ b. elim b as P [
        | true ↦ (λ e w. let v : c.passed ≡ k = cc in ap (λ t. if t then Some (c.passed + 1) else passed_of cs a) e ∙ ap (λ n. Some (n + 1)) v)
        | false ↦ (λ e w. ap (λ t. if t then Some c.passed else passed_of (advanced a cs) a) e ∙ passed_of-advanced cs a k w)
      ] in
      go (same_id c.arena a) refl h

  -- It is dropped as before.
  pub dropped-advanced : (cs : List (Walk over)) (a : ArenaId) → dropped a (advanced a cs) ≡ dropped a cs
  dropped-advanced [] a = refl
  dropped-advanced (c ∷ cs) a =
      let P : Bool → Type 0 = λ b. same_id c.arena a ≡ b → dropped a (if b then one_more c ∷ cs else c ∷ advanced a cs) ≡ (if b then cs else c ∷ dropped a cs) in
      let go : (b : Bool) → P b = λ b. elim b as P [
        | true ↦ (λ e. ap (λ t. if t then cs else one_more c ∷ dropped a cs) e)
        | false ↦ (λ e. ap (λ t. if t then advanced a cs else c ∷ dropped a (advanced a cs)) e ∙ ap (λ (xs : List (Walk over)). c ∷ xs) (dropped-advanced cs a))
      ] in
      go (same_id c.arena a) refl

  -- A walk that was begun and dropped leaves what was there.
  pub dropped-begun : (cs : List (Walk over)) (a : ArenaId) → dropped a (walk_of a 0 ∷ cs) ≡ cs
  dropped-begun cs a = ap (λ t. if t then cs else walk_of a 0 ∷ dropped a cs) (same_id-self a)

  -- A walk that was begun has passed none.
  pub passed_of-begun : (cs : List (Walk over)) (a : ArenaId) → passed_of (walk_of a 0 ∷ cs) a ≡ Some 0
  passed_of-begun cs a = ap (λ t. if t then Some 0 else passed_of cs a) (same_id-self a)
