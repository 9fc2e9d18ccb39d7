-- Whether pages are too few for an allocation.
use Rattle.std.proofs.Common.{◌≡◌, ℕ, ◌+◌, ◌<◌, ◌≤◌, true, List, [], ap, sym, subst, ◌&&◌, arith}
use Rattle.fm_words.specs.declared.shape.Shape.{Shape}
use Rattle.fm_base.specs.{declared.arena_id.ArenaId.{ArenaId}, Arenas.{arena_of}, Calls.{Entry}, Histories.{state_after}, Machine.{rounded_up}}
use Rattle.fm_rule_facts.specs.{Hands.{nothing, slots_in}, Loans.{Loan, loans_of}, Scarcity.{IsScarce, parts_before, lacking}, Steps.{is_clear, is_empty}}
use Rattle.fm_rule_facts.specs.Views.{View, given_of, limit_of, unlent}
use Rattle.fm_rule_calls.specs.Kept.{Goes}
use Rattle.fm_pages.specs.Claims.{AllFoundEmpty, FoundEmpty}

-- They are so in two views alike, where the arena has given the same bytes and the same blocks are lent.
pub scarce_by : {p q : View} {a : ArenaId} {size align : ℕ} → q.shape ≡ p.shape → given_of q a ≡ given_of p a → loans_of q.seen ≡ loans_of p.seen
    → IsScarce p a size align → IsScarce q a size align
scarce_by {p = p} {q = q} {a = a} {size = size} {align = align} shape given loans s = record {
  fits = subst (λ (x : Shape × ℕ). rounded_up x.1 align + size ≤ limit_of x.0) (λ j. (sym shape j, sym given j)) s.fits;
  few = subst (λ (x : Shape × ℕ × List Loan). unlent x.0.pages x.2 < lacking (parts_before x.0 (rounded_up x.1 align + size)) x.2 a)
      (λ j. (sym shape j, sym given j, sym loans j)) s.few;
}

-- what is seen alike is given alike
given_by : (p q : View) (a : ArenaId) → q.shape ≡ p.shape → q.seen ≡ p.seen → given_of q a ≡ given_of p a
given_by p q a shape seen = λ j. (arena_of (state_after (limit_of (shape j)) [] (seen j)) a).given

pub scarce_seen : {p q : View} {a : ArenaId} {size align : ℕ} → q.shape ≡ p.shape → q.seen ≡ p.seen → IsScarce p a size align → IsScarce q a size align
scarce_seen {p = p} {q = q} {a = a} shape seen s = scarce_by shape (given_by p q a shape seen) (ap loans_of seen) s

-- A pass is clear that is known to be whole, with no slot or page in its hand and no close that isn't swept.
pub clear : (p : View) → p.whole ≡ true → p.hand ≡ nothing → p.pages ≡ [] → p.closes ≡ [] → p.sweeps ≡ [] → is_clear p ≡ true
clear p whole hand pages closes sweeps =
    λ j. whole j && is_empty (slots_in (hand j)) && is_empty (pages j) && is_empty (closes j) && is_empty (sweeps j)

-- A pool has a word of page bits.
pub one_empty : {p q : View} {es : List Entry} → Goes p q es → AllFoundEmpty p q → FoundEmpty p q 0
one_empty {p = p} g all =
    let some : 1 ≤ p.shape.pages = subst (λ (z : Shape). 1 ≤ z.pages) g.same_shape g.sound.valid.pages.0 in
    all 0 (let n : ℕ = p.shape.pages in omega (arith, some))
