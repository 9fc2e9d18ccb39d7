-- Lists of closes and of sweeps after one of them was begun, has passed one more, or is over.
use Rattle.std.proofs.Common.{◌≡◌, ◌≢◌, ◌⊎◌, ℕ, Bool, true, false, if◌then◌else◌, List, [], ◌∷◌, sym, refl, ap, ◌∙◌, subst, inl, inr, Some}
use Rattle.fm_base.{specs.{declared.arena_id.ArenaId.{ArenaId}, Arenas.{same_id}, Finds.{Stretch, Walk}}, proofs.Names.{same_id-true, same_id-self}}
use Rattle.fm_rule_facts.specs.{Views.{In}, Closes.{passed_of, advanced, dropped, one_more}, Facts.{IsOnce}}

module _ {over : Stretch} where
  abbrev pub ByArena : List (Walk over) → Type 0
  ByArena cs = IsOnce (λ (c : Walk over). c.arena) cs

  -- the walk of an arena
  pub record Found (a : ArenaId) (k : ℕ) (cs : List (Walk over)) : Type 0 where
    pub walk : Walk over
    pub there : In walk cs
    pub arena : walk.arena ≡ a
    pub passed : walk.passed ≡ k

  pub passed_of-found : (cs : List (Walk over)) (a : ArenaId) (k : ℕ) → passed_of cs a ≡ Some k → Found a k cs
  passed_of-found [] a k e = absurd (cc)
  passed_of-found (c ∷ cs) a k e = go (same_id c.arena a) refl e (passed_of-found cs a k)
    where
      go : (b : Bool) → same_id c.arena a ≡ b → (if b then Some c.passed else passed_of cs a) ≡ Some k → (passed_of cs a ≡ Some k → Found a k cs)
          → Found a k (c ∷ cs)
      go true q s ih = record { walk = c; there = inl refl; arena = same_id-true c.arena a q; passed = (let w : c.passed ≡ k = cc in w) }
      go false q s ih = let f = ih s in record { walk = f.walk; there = inr f.there; arena = f.arena; passed = f.passed }

  -- each walk after one has passed one more: it is that one, or was there and is another arena's
  pub record Went (a : ArenaId) (cs : List (Walk over)) (c : Walk over) : Type 0 where
    pub before : Walk over
    pub there : In before cs
    pub how : ((before.arena ≡ a) × (c ≡ one_more before)) ⊎ ((c ≡ before) × (c.arena ≢ a))

  pub in_advanced : (a : ArenaId) (c : Walk over) (cs : List (Walk over)) → ByArena cs → In c (advanced a cs) → Went a cs c
  in_advanced a c [] o i = absurd i
  in_advanced a c (d ∷ cs) o i = go (same_id d.arena a) refl i (in_advanced a c cs o.1)
    where
      go : (b : Bool) → same_id d.arena a ≡ b → In c (if b then one_more d ∷ cs else d ∷ advanced a cs) → (In c (advanced a cs) → Went a cs c) → Went a (d ∷ cs) c
      go true q (inl e) ih = record { before = d; there = inl refl; how = inl (same_id-true d.arena a q, e) }
      go true q (inr j) ih = record { before = c; there = inr j; how = inr (refl, λ e. o.0 c j (e ∙ sym (same_id-true d.arena a q))) }
      go false q (inl e) ih = record {
        before = d;
        there = inl refl;
        how = inr (
          e,
          λ p. let s : same_id d.arena a ≡ true = subst (λ (x : ArenaId). same_id x a ≡ true) (sym p ∙ ap (λ (y : Walk over). y.arena) e)
              (same_id-self a) in absurd (cc),
        );
      }
      go false q (inr j) ih = let w = ih j in record { before = w.before; there = inr w.there; how = w.how }

  -- what was there is there still, one further or not
  pub advanced_in : (a : ArenaId) (c : Walk over) (cs : List (Walk over)) → In c cs → (d : Walk over) × In d (advanced a cs) × (d.arena ≡ c.arena)
  advanced_in a c [] i = absurd i
  advanced_in a c (x ∷ cs) i = go (same_id x.arena a) i (advanced_in a c cs)
    where
      go : (b : Bool) → In c (x ∷ cs) → (In c cs → (d : Walk over) × In d (advanced a cs) × (d.arena ≡ c.arena))
          → (d : Walk over) × In d (if b then one_more x ∷ cs else x ∷ advanced a cs) × (d.arena ≡ c.arena)
      go true (inl e) ih = (one_more x, inl refl, ap (λ (y : Walk over). y.arena) (sym e))
      go true (inr j) ih = (c, inr j, refl)
      go false (inl e) ih = (x, inl refl, ap (λ (y : Walk over). y.arena) (sym e))
      go false (inr j) ih = let w = ih j in (w.0, inr w.1, w.2)

  -- the arenas stay
  advanced_arena : (a : ArenaId) (cs : List (Walk over)) (d : Walk over) → ByArena cs → In d (advanced a cs) → (c : Walk over) × In c cs × (c.arena ≡ d.arena)
  advanced_arena a cs d o i = let w = in_advanced a d cs o i in go w w.how
    where
      go : (w : Went a cs d) → ((w.before.arena ≡ a) × (d ≡ one_more w.before)) ⊎ ((d ≡ w.before) × (d.arena ≢ a))
          → (c : Walk over) × In c cs × (c.arena ≡ d.arena)
      go w (inl e) = (w.before, w.there, ap (λ (y : Walk over). y.arena) (sym e.1))
      go w (inr e) = (w.before, w.there, ap (λ (y : Walk over). y.arena) (sym e.0))

  pub once_advanced : (a : ArenaId) (cs : List (Walk over)) → ByArena cs → ByArena (advanced a cs)
  once_advanced a [] o = tt
  once_advanced a (c ∷ cs) o = go (same_id c.arena a) (once_advanced a cs o.1)
    where
      go : (b : Bool) → ByArena (advanced a cs) → ByArena (if b then one_more c ∷ cs else c ∷ advanced a cs)
      go true ih = (o.0, o.1)
      go false ih = ((λ d i e. let w = advanced_arena a cs d o.1 i in o.0 w.0 w.1 (w.2 ∙ e)), ih)

  -- what is there after a walk is over was there, and is another arena's
  pub in_dropped : (a : ArenaId) (c : Walk over) (cs : List (Walk over)) → ByArena cs → In c (dropped a cs) → In c cs × (c.arena ≢ a)
  in_dropped a c [] o i = absurd i
  in_dropped a c (d ∷ cs) o i = go (same_id d.arena a) refl i (in_dropped a c cs o.1)
    where
      go : (b : Bool) → same_id d.arena a ≡ b → In c (if b then cs else d ∷ dropped a cs) → (In c (dropped a cs) → In c cs × (c.arena ≢ a))
          → In c (d ∷ cs) × (c.arena ≢ a)
      go true q j ih = (inr j, (λ e. o.0 c j (e ∙ sym (same_id-true d.arena a q))))
      go false q (inl e) ih = (
        inl e,
        (λ p. let s : same_id d.arena a ≡ true = subst (λ (x : ArenaId). same_id x a ≡ true) (sym p
            ∙ ap (λ (y : Walk over). y.arena) e) (same_id-self a) in absurd (cc)),
      )
      go false q (inr j) ih = let w = ih j in (inr w.0, w.1)

  -- the walk of another arena stays
  pub dropped_in : (a : ArenaId) (c : Walk over) (cs : List (Walk over)) → In c cs → c.arena ≢ a → In c (dropped a cs)
  dropped_in a c [] i n = absurd i
  dropped_in a c (d ∷ cs) i n = go (same_id d.arena a) refl i (λ j. dropped_in a c cs j n)
    where
      go : (b : Bool) → same_id d.arena a ≡ b → In c (d ∷ cs) → (In c cs → In c (dropped a cs)) → In c (if b then cs else d ∷ dropped a cs)
      go true q (inl e) ih = absurd (n (ap (λ (y : Walk over). y.arena) e ∙ same_id-true d.arena a q))
      go true q (inr j) ih = j
      go false q (inl e) ih = inl e
      go false q (inr j) ih = inr (ih j)

  in_dropped_was : (a : ArenaId) (c : Walk over) (cs : List (Walk over)) → In c (dropped a cs) → In c cs
  in_dropped_was a c [] i = absurd i
  in_dropped_was a c (d ∷ cs) i = go (same_id d.arena a) i (in_dropped_was a c cs)
    where
      go : (b : Bool) → In c (if b then cs else d ∷ dropped a cs) → (In c (dropped a cs) → In c cs) → In c (d ∷ cs)
      go true j ih = inr j
      go false (inl e) ih = inl e
      go false (inr j) ih = inr (ih j)

  pub once_dropped : (a : ArenaId) (cs : List (Walk over)) → ByArena cs → ByArena (dropped a cs)
  once_dropped a [] o = tt
  once_dropped a (c ∷ cs) o = go (same_id c.arena a) (once_dropped a cs o.1)
    where
      go : (b : Bool) → ByArena (dropped a cs) → ByArena (if b then cs else c ∷ dropped a cs)
      go true ih = o.1
      go false ih = ((λ d i. o.0 d (in_dropped_was a d cs i)), ih)

  -- a walk of the arena is the one that is found
  pub count_of : (cs : List (Walk over)) (a : ArenaId) (k : ℕ) (b : Walk over) → In b cs → b.arena ≡ a → passed_of cs a ≡ Some k → ByArena cs → b.passed ≡ k
  count_of [] a k b i e q o = absurd i
  count_of (c ∷ cs) a k b i e q o = go (same_id c.arena a) refl i q (λ j p. count_of cs a k b j e p o.1)
    where
      go : (t : Bool) → same_id c.arena a ≡ t → In b (c ∷ cs) → (if t then Some c.passed else passed_of cs a) ≡ Some k
          → (In b cs → passed_of cs a ≡ Some k → b.passed ≡ k) → b.passed ≡ k
      go true s (inl p) u ih = let w : c.passed ≡ k = cc in ap (λ (y : Walk over). y.passed) p ∙ w
      go true s (inr j) u ih = absurd (o.0 b j (e ∙ sym (same_id-true c.arena a s)))
      go false s (inl p) u ih =
          let m : same_id c.arena a ≡ true = subst (λ (x : ArenaId). same_id x a ≡ true) (sym e ∙ ap (λ (y : Walk over). y.arena) p) (same_id-self a) in absurd (cc)
      go false s (inr j) u ih = ih j u
