-- A pass that is clear, or known to be whole.
use Rattle.std.proofs.Common.{◌≡◌, ◌+◌, ◌&&◌, Bool, true, false, List, [], ◌∷◌, ◌++◌, length, refl, ap, sym, ◌∙◌, arith}
use Rattle.std.proofs.lemmas.List.{append-nil, length-append}
use Rattle.fm_base.specs.{Calls.{Entry}, Finds.{Find}}
use Rattle.fm_rule_facts.specs.{Hands.{slots_in}, Parts.{Mapping}, Views.{View, Begins}, Steps.{is_clear, is_empty}}
use Rattle.fm_rule_calls.specs.Kept.{Goes}

-- a pass that was clear is so without a page, whatever it has seen, found and read
pub clear_still : (v : View) (seen : List Entry) (finds : List Find) (reads : List Mapping) → is_clear v ≡ true
    → is_clear (record v { seen = seen; finds = finds; reads = reads; pages = [] }) ≡ true
clear_still v seen finds reads = go v.whole (is_empty (slots_in v.hand)) (is_empty v.pages) (is_empty v.closes) (is_empty v.sweeps)
  where
    go : (a b c d e : Bool) → (a && b && c && d && e) ≡ true → (a && b && true && d && e) ≡ true
    go true true true d e h = h
    go true true false d e h = absurd (cc)
    go true false c d e h = absurd (cc)
    go false b c d e h = absurd (cc)

-- nobody made an entry while it made none, if it is known to be whole
pub still_seen : {p q : View} → Goes p q [] → p.whole ≡ true → q.seen ≡ p.seen
still_seen {p = p} g w = g.seen ∙ (ap (λ (es : List Entry). p.seen ++ es) (g.alone w) ∙ append-nil p.seen)

-- a history that begins another of its length is that one
pub begins_all : (xs ys : List Entry) → Begins xs ys → length xs ≡ length ys → xs ≡ ys
begins_all xs ys b e =
    let l : length ys ≡ length xs + length b.0 = ap (λ (es : List Entry). length es) b.1 ∙ length-append xs b.0 in
    let none : b.0 ≡ [] = no_more b.0 (omega arith) in
    sym (b.1 ∙ (ap (λ (es : List Entry). xs ++ es) none ∙ append-nil xs))
  where
    no_more : (zs : List Entry) → length zs ≡ 0 → zs ≡ []
    no_more [] l = refl
    no_more (z ∷ zs) l = absurd (omega arith)
