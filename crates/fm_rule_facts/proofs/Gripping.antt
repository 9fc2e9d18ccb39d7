-- The holds of passes beside those that the machine counts, for arenas that are automatic and for the others.
use Rattle.std.proofs.Common.{◌≡◌, ◌≢◌, ℕ, ◌+◌, ◌<◌, Bool, true, false, if◌then◌else◌, List, [], ◌∷◌, sym, refl, ap, ◌∙◌, arith}
use Rattle.fm_base.specs.{declared.{arena_id.ArenaId.{ArenaId}, kind.Kind.{Kind, TheVariants.{Global, Automatic, Confined, Shared}}}, Arenas.{same_id}}
use Rattle.fm_base.proofs.Names.{same_id-self}
use Rattle.fm_base_machine.{specs.Functions.{Stage, Fresh, Lives, Closes, Over, Machine, put_at}, proofs.Putting.{at_cases, at_other, same_id-not}}
use Rattle.fm_rule_facts.specs.Views.{View, In}
use Rattle.fm_rule_facts.specs.Holds.{is_automatic, grips, with_grips, handles_with, released, one_if, how_many, holds_of, one_alive, all_holds}
use Rattle.fm_rule_facts.{specs.Moves.{KeepsHolds}, proofs.Summing.{one_less}}

-- ---- kinds

pub automatic : (a : ArenaId) → a.kind ≡ Automatic → is_automatic a.kind ≡ true
automatic a e = ap is_automatic e

not_automatic : (k : Kind) → k ≢ Automatic → is_automatic k ≡ false
not_automatic Global n = refl
not_automatic Automatic n = absurd (n refl)
not_automatic Confined n = refl
not_automatic Shared n = refl

pub by_hand : (a : ArenaId) → a.kind ≢ Automatic → is_automatic a.kind ≡ false
by_hand a n = not_automatic a.kind n

-- arenas of two sorts are two
two_sorts : (a b : ArenaId) (p q : Bool) → is_automatic a.kind ≡ p → is_automatic b.kind ≡ q → p ≢ q → b ≢ a
two_sorts a b p q e f n s = n (sym e ∙ (sym (ap (λ (x : ArenaId). is_automatic x.kind) s) ∙ f))

-- ---- views

pub handles_are : (a : ArenaId) (v : View) → a.kind ≡ Automatic → grips a v ≡ v.handles
handles_are a v e = ap (λ (b : Bool). if b then v.handles else v.holds) (automatic a e)

pub holds_are : (a : ArenaId) (v : View) → a.kind ≢ Automatic → grips a v ≡ v.holds
holds_are a v n = ap (λ (b : Bool). if b then v.handles else v.holds) (by_hand a n)

pub with_handles : (a : ArenaId) (gs : List ArenaId) (v : View) → a.kind ≡ Automatic → with_grips a gs v ≡ record v { handles = gs }
with_handles a gs v e = λ j. record v { holds = if automatic a e j then v.holds else gs; handles = if automatic a e j then gs else v.handles }

pub with_holds : (a : ArenaId) (gs : List ArenaId) (v : View) → a.kind ≢ Automatic → with_grips a gs v ≡ record v { holds = gs }
with_holds a gs v n = λ j. record v { holds = if by_hand a n j then v.holds else gs; handles = if by_hand a n j then gs else v.handles }

-- the same holds in their place change nothing
pub with_same : (a : ArenaId) (v : View) → with_grips a (grips a v) v ≡ v
with_same a v = go (is_automatic a.kind)
  where
    go : (b : Bool) → record v {
      holds = if b then v.holds else (if b then v.handles else v.holds);
      handles = if b then (if b then v.handles else v.holds) else v.handles;
    } ≡ v
    go true = refl
    go false = refl

-- a live view has as many holds as its list
pub held_now : (b : ArenaId) (v : View) → v.live ≡ true → holds_of b v ≡ how_many b (grips b v)
held_now b v l = ap (λ (x : Bool). if x then how_many b (grips b v) else 0) l

-- a view without holds and handles has none
pub none_held : (a : ArenaId) (v : View) → v.holds ≡ [] → v.handles ≡ [] → holds_of a v ≡ 0
none_held a v h h' = (λ j. if v.live then how_many a (if is_automatic a.kind then h' j else h j) else 0) ∙ go v.live (is_automatic a.kind)
  where
    go : (b c : Bool) → (if b then how_many a (if c then [] else []) else 0) ≡ 0
    go true true = refl
    go true false = refl
    go false c = refl

-- ---- the machine

-- what isn't alive and has no holds isn't held
pub none_counted : (a : ArenaId) (t : Machine) → t.holds a ≡ 0 → one_alive (t.life a) ≡ 0 → all_holds a t ≡ 0
none_counted a t h l = (λ j. h j + (if is_automatic a.kind then l j else 0)) ∙ go (is_automatic a.kind)
  where
    nothing : ℕ
    nothing = 0

    go : (b : Bool) → nothing + (if b then nothing else nothing) ≡ nothing
    go true = refl
    go false = refl

-- an arena that is held is alive, where only those that are alive have holds
pub held_lives : (a : ArenaId) (t : Machine) → (t.life a ≢ Lives → t.holds a ≡ 0) → 0 < all_holds a t → t.life a ≡ Lives
held_lives a t only some = go (t.life a) (is_automatic a.kind) only some
  where
    nothing : ℕ
    nothing = 0

    none : (b : Bool) → (if b then nothing else nothing) ≡ nothing
    none true = refl
    none false = refl

    go : (x : Stage) (b : Bool) → (x ≢ Lives → t.holds a ≡ 0) → 0 < t.holds a + (if b then one_alive x else 0) → x ≡ Lives
    go Lives b f h = refl
    go Fresh b f h = (let n = f (λ e. absurd (cc)) in let z = none b in absurd (omega arith))
    go Closes b f h = (let n = f (λ e. absurd (cc)) in let z = none b in absurd (omega arith))
    go Over b f h = (let n = f (λ e. absurd (cc)) in let z = none b in absurd (omega arith))

-- and another as often as it has holds
pub none_besides : (a : ArenaId) (t : Machine) → a.kind ≢ Automatic → all_holds a t ≡ t.holds a
none_besides a t n = (λ j. t.holds a + (if by_hand a n j then one_alive (t.life a) else 0)) ∙ (let h : ℕ = t.holds a in let e : h + 0 ≡ h = omega arith in e)

-- ---- both

module _ (v : View) (l : v.live ≡ true) (t : Machine) (a : ArenaId) where
  -- where the machine counts n holds of the arena, of which the pass has these
  pub keeps_grips : (gs : List ArenaId) (n : ℕ) → ((b : ArenaId) → how_many b gs + t.holds b ≡ how_many b (grips a v) + put_at t.holds a n b)
      → KeepsHolds v (with_grips a gs v) t (record t { holds = put_at t.holds a n })
  keeps_grips gs n h b = by (is_automatic a.kind) (is_automatic b.kind) refl refl (h b)
    where
      other : b ≢ a → put_at t.holds a n b ≡ t.holds b
      other ne = at_other t.holds a n b ne

      live : (x : ℕ) → (if v.live then x else 0) ≡ x
      live x = ap (λ (c : Bool). if c then x else 0) l

      by : (p q : Bool) → is_automatic a.kind ≡ p → is_automatic b.kind ≡ q
          → how_many b gs + t.holds b ≡ how_many b (if p then v.handles else v.holds) + put_at t.holds a n b
          → (if v.live then how_many b (if q then (if p then gs else v.handles) else (if p then v.holds else gs)) else 0)
          + (t.holds b + (if q then one_alive (t.life b) else 0))
          ≡ (if v.live then how_many b (if q then v.handles else v.holds) else 0)
          + (put_at t.holds a n b + (if q then one_alive (t.life b) else 0))
      by true true e f h = let x = live (how_many b gs) in let y = live (how_many b v.handles) in omega arith
      by false false e f h = let x = live (how_many b gs) in let y = live (how_many b v.holds) in omega arith
      by true false e f h = let x = other (two_sorts a b true false e f (λ q. absurd (cc))) in omega arith
      by false true e f h = let x = other (two_sorts a b false true e f (λ q. absurd (cc))) in omega arith

  -- where the arena came to another stage, and the pass has these handles
  pub keeps_handles : (hs : List ArenaId) (x : Stage)
      → ((b : ArenaId) → is_automatic b.kind ≡ true → how_many b hs + one_alive (t.life b) ≡ how_many b v.handles + one_alive (put_at t.life a x b))
      → KeepsHolds v (record v { handles = hs }) t (record t { life = put_at t.life a x })
  keeps_handles hs x h b = by (is_automatic b.kind) refl
    where
      live : (n : ℕ) → (if v.live then n else 0) ≡ n
      live n = ap (λ (c : Bool). if c then n else 0) l

      by : (q : Bool) → is_automatic b.kind ≡ q
          → (if v.live then how_many b (if q then hs else v.holds) else 0) + (t.holds b + (if q then one_alive (t.life b) else 0))
          ≡ (if v.live then how_many b (if q then v.handles else v.holds) else 0) + (t.holds b + (if q then one_alive (put_at t.life a x b) else 0))
      by true f = let p = live (how_many b hs) in let q = live (how_many b v.handles) in let y = h b f in omega arith
      by false f = refl

  -- a stage of an arena that isn't automatic doesn't matter, nor one that is as much alive
  pub same_handles : (x : Stage) → (is_automatic a.kind ≡ true → one_alive x ≡ one_alive (t.life a))
      → KeepsHolds v v t (record t { life = put_at t.life a x })
  same_handles x same = keeps_handles v.handles x (λ b f. at_cases t.life a x b
      (λ (y : Stage). how_many b v.handles + one_alive (t.life b) ≡ how_many b v.handles + one_alive y)
      (λ e.
      let p = same (ap (λ (c : ArenaId). is_automatic c.kind) (sym e) ∙ f) in
      let q : one_alive (t.life b) ≡ one_alive (t.life a) = ap (λ (c : ArenaId). one_alive (t.life c)) e in omega arith)
      (λ n. refl))

  -- an automatic arena is opened with one handle
  pub opened_handles : one_alive (t.life a) ≡ 0 → KeepsHolds v (record v { handles = handles_with a v.handles }) t (record t { life = put_at t.life a Lives })
  opened_handles new = keeps_handles (handles_with a v.handles) Lives (λ b f. by b f (is_automatic a.kind) refl)
    where
      by : (b : ArenaId) → is_automatic b.kind ≡ true → (p : Bool) → is_automatic a.kind ≡ p
          → how_many b (if p then a ∷ v.handles else v.handles) + one_alive (t.life b) ≡ how_many b v.handles + one_alive (put_at t.life a Lives b)
      by b f true g = at_cases t.life a Lives b
          (λ (y : Stage). how_many b (a ∷ v.handles) + one_alive (t.life b) ≡ how_many b v.handles + one_alive y)
          (λ e.
          let p : one_if (same_id a b) ≡ 1 = ap one_if ((λ j. same_id a (e j)) ∙ same_id-self a) in
          let q : one_alive (t.life b) ≡ one_alive (t.life a) = ap (λ (c : ArenaId). one_alive (t.life c)) e in omega arith)
          (λ n. let p : one_if (same_id a b) ≡ 0 = ap one_if (same_id-not a b (λ e. n (sym e))) in omega arith)
      by b f false g = let p : one_alive (put_at t.life a Lives b) ≡ one_alive (t.life b) =
          ap one_alive (at_other t.life a Lives b (two_sorts a b false true g f (λ q. absurd (cc)))) in omega arith

  -- the last handle is given back
  pub last_handle : t.life a ≡ Lives → In a v.handles
      → KeepsHolds v (record v { handles = released a v.handles }) t (record t { life = put_at t.life a Closes })
  last_handle al has = keeps_handles (released a v.handles) Closes (λ b f. at_cases t.life a Closes b
      (λ (y : Stage). how_many b (released a v.handles) + one_alive (t.life b) ≡ how_many b v.handles + one_alive y)
      (λ e.
      let p : one_if (same_id b a) ≡ 1 = ap one_if ((λ j. same_id (e j) a) ∙ same_id-self a) in
      let q : one_alive (t.life b) ≡ 1 = ap one_alive (ap t.life e ∙ al) in
      let r = one_less a b v.handles has in omega arith)
      (λ n.
      let p : one_if (same_id b a) ≡ 0 = ap one_if (same_id-not b a n) in
      let r = one_less a b v.handles has in omega arith))
