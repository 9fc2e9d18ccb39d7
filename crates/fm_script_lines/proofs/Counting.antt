-- The holds and handles of names, as one is made or given back.
use Rattle.std.proofs.Common.{◌≡◌, ℕ, zero, suc, ◌+◌, ◌<◌, Bool, true, false, if◌then◌else◌, List, [], ◌∷◌, ◌++◌, length, get_or, set, refl, ap, sym, ◌∙◌, subst, arith, Option, Some, None, inl, inr}
use Rattle.fm_base.{specs.{declared.arena_id.ArenaId.{ArenaId}, Arenas.{same_id}}, proofs.Names.{same_id-self}}
use Rattle.fm_rule_facts.{specs.{Views.{In}, Holds.{how_many, one_if, released}}, proofs.{Keeping.{in_left}, Summing.{one_less, swapped}}}
use Rattle.fm_script_lines.specs.{declared.standing.Standing.{Standing, TheVariants.{Nothing}}, Tokens.{onto, among, HasTokens}}
use Rattle.fm_gate.proofs.Counted.{some_in}

-- The first of them is released among those in front.
pub released_front : (a : ArenaId) (xs ys : List ArenaId) → In a xs → released a (xs ++ ys) ≡ released a xs ++ ys
released_front a [] ys i = absurd i
released_front a (b ∷ bs) ys i = go (same_id b a) refl i (released_front a bs ys)
  where
    go : (x : Bool) → same_id b a ≡ x → In a (b ∷ bs) → (In a bs → released a (bs ++ ys) ≡ released a bs ++ ys)
        → (if x then bs ++ ys else b ∷ released a (bs ++ ys)) ≡ (if x then bs else b ∷ released a bs) ++ ys
    go true e j ih = refl
    go false e (inl q) ih = absurd (let t : same_id b a ≡ true = (λ k. same_id (sym q k) a) ∙ same_id-self a in cc)
    go false e (inr j) ih = ap (λ (zs : List ArenaId). b ∷ zs) (ih j)

-- One more in front.
pub how_many_onto : (a : ArenaId) (o : Option ArenaId) (xs : List ArenaId) → how_many a (onto o xs) ≡ how_many a (onto o []) + how_many a xs
how_many_onto a None xs = omega arith
how_many_onto a (Some b) xs = omega arith

module _ (token : Standing → Option ArenaId) where
  -- A name more.
  pub among_push : (a : ArenaId) (ss : List Standing) (s : Standing)
      → how_many a (among token (ss ++ s ∷ [])) ≡ how_many a (onto (token s) []) + how_many a (among token ss)
  among_push a [] s = how_many_onto a (token s) []
  among_push a (t ∷ ss) s =
      let here = how_many_onto a (token t) (among token (ss ++ s ∷ [])) in
      let there = how_many_onto a (token t) (among token ss) in
      let ih = among_push a ss s in
      omega arith

  -- A name stands for something else.
  pub among_set : (a : ArenaId) (ss : List Standing) (at : ℕ) (s : Standing) → at < length ss
      → how_many a (among token ss) + how_many a (onto (token s) [])
      ≡ how_many a (among token (set ss at s)) + how_many a (onto (token (get_or ss at Nothing)) [])
  among_set a [] at s l = absurd (omega (arith, l))
  among_set a (t ∷ ss) zero s l =
      let old = how_many_onto a (token t) (among token ss) in
      let new = how_many_onto a (token s) (among token ss) in
      omega arith
  among_set a (t ∷ ss) (suc at) s l =
      let here = how_many_onto a (token t) (among token ss) in
      let there = how_many_onto a (token t) (among token (set ss at s)) in
      let ih = among_set a ss at s (omega (arith, l)) in
      omega arith

-- A token that is named is one of the pass's.
pub token_in : {all named others : List ArenaId} (a : ArenaId) → HasTokens all named others → 0 < how_many a named → In a all
token_in {others = others} a t h =
    let many = t.as_many a in
    subst (λ (xs : List ArenaId). In a xs) (sym t.are) (in_left a t.mine others (some_in a t.mine (omega (arith, many, h))))

-- One more is taken.
pub token_more : {all named others : List ArenaId} (o : Option ArenaId) (more : List ArenaId) → HasTokens all named others
    → ((a : ArenaId) → how_many a more ≡ how_many a (onto o []) + how_many a named) → HasTokens (onto o all) more others
token_more {others = others} o more t count = record {
  mine = onto o t.mine;
  are = ap (onto o) t.are ∙ onto_append o t.mine;
  as_many = λ a.
      let here = how_many_onto a o t.mine in
      let many = t.as_many a in
      let now = count a in
      omega arith;
}
  where
    onto_append : (o : Option ArenaId) (xs : List ArenaId) → onto o (xs ++ others) ≡ onto o xs ++ others
    onto_append None xs = refl
    onto_append (Some b) xs = refl

-- One is given back.
pub token_less : {all named others : List ArenaId} (b : ArenaId) (less : List ArenaId) → HasTokens all named others → 0 < how_many b named
    → ((a : ArenaId) → how_many a named ≡ how_many a less + one_if (same_id b a)) → HasTokens (released b all) less others
token_less {others = others} b less t some count =
    let many_b = t.as_many b in
    let here : In b t.mine = some_in b t.mine (omega (arith, many_b, some)) in
    record {
      mine = released b t.mine;
      are = ap (released b) t.are ∙ released_front b t.mine others here;
      as_many = λ a.
          let left = one_less b a t.mine here in
          let many = t.as_many a in
          let now = count a in
          let same = swapped a b in
          omega arith;
    }
