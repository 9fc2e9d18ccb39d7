-- What is left in a pool for an arena beside that of the records.
use Rattle.std.proofs.Common.{◌≡◌, ℕ, ◌+◌, ◌<◌, ◌≤◌, max, List, [], ap, sym, ◌∙◌, subst, ⊎_elim, arith}
use Rattle.std.specs.Prelude.{Contains}
use Rattle.fm_base.specs.declared.arena_id.ArenaId.{ArenaId}
use Rattle.fm_rule_calls.specs.Told.{view_of_pass}
use Rattle.fm_gate.specs.Pages.{IsInRange}
use Rattle.fm_pages.proofs.Exact.{part_first}
use Rattle.fm_top_load.specs.Held.{IsEmpty}
use Rattle.fm_rule_facts.specs.{Loans.{Loan, loans_of}, Scarcity.{parts_before}, Views.{View, given_of, limit_of, unlent}}
use Rattle.fm_rule.specs.declared.pool.Pool.{Pool}
use Rattle.fm_words.specs.declared.shape.Shape.{Shape}
use Rattle.fm_top_pooled.{specs.Stocked.{HasGiven, IsLeft, IsLone, IsMadeFor}, proofs.{Allocating.{nothing_given}, Lent.{lent_to_one, parts_fewer}}}

spared : (first second n pages : ℕ) → pages ≡ max 1 first + second → pages ≤ n + first → second ≤ n
spared first second n pages made few = omega arith

-- What the arena takes that was opened first leaves the pages for which the pool was made.
pub left_beside : {pool : Pool} {p q : View} {a : ArenaId} {size beside : ℕ} → IsLone pool p → loans_of p.seen ≡ [] → IsEmpty (view_of_pass p) a
    → HasGiven pool p q a size → IsMadeFor size beside pool.shape → IsLeft beside q
left_beside {pool} {p} {q} {a} {size} {beside} lone none empty given made =
    let z = pool.shape in
    let was : p.shape ≡ pool.shape = lone.outside.of.1 in
    let now : q.shape ≡ pool.shape = given.lone.outside.of.1 in
    let first : ℕ = parts_before z size in
    let in_first : (l : Loan) → IsInRange p (given_of p a) size 8 l.part → l.part < first =
    (λ l r.
    let start = nothing_given p a empty in
    let before = r.before in
    subst (λ (y : Shape). l.part < parts_before y size) was (part_first p.shape l.part size lone.sound.valid.page_words.0 (omega (arith, start, before)))) in
    let few : q.shape.pages ≤ unlent q.shape.pages (loans_of q.seen) + first =
    lent_to_one q a first given.lone.sound
    (λ l i. ⊎_elim (λ (old : Contains (loans_of p.seen) l). absurd (let c = subst (λ (ls : List Loan). Contains ls l) none old in let n = c.1 in omega arith))
    (λ more. (more.0, in_first l more.1)) (given.lent.more l i)) in
    let n = unlent z.pages (loans_of q.seen) in
    let pages : parts_before z beside ≤ n =
    spared first (parts_before z beside) n z.pages made.pages (subst (λ (y : Shape). y.pages ≤ unlent y.pages (loans_of q.seen) + first) now few) in
    record {
      slots = λ some. ap (λ (y : Shape). y.slots) now ∙ made.two some;
      room = subst (λ (y : Shape). beside ≤ limit_of y) (sym now) made.second;
      pages = subst (λ (y : Shape). parts_before y beside ≤ unlent y.pages (loans_of q.seen)) (sym now) pages;
    }

-- It is left still where nothing more was lent.
pub left_still : {beside : ℕ} {p q : View} → q.shape ≡ p.shape → loans_of q.seen ≡ loans_of p.seen → IsLeft beside p → IsLeft beside q
left_still {beside} {p} {q} shape loans left = record {
  slots = λ some. ap (λ (z : Shape). z.slots) shape ∙ left.slots some;
  room = subst (λ (z : Shape). beside ≤ limit_of z) (sym shape) left.room;
  pages = subst (λ (x : Shape × List Loan). parts_before x.0 beside ≤ unlent x.0.pages x.1) (λ j. (sym shape j, sym loans j)) left.pages;
}

no_more : (n m k : ℕ) → n ≤ m → m ≤ k → n ≤ k
no_more n m k first second = omega arith

-- So are fewer bytes, if any.
pub fewer_left : {beside : ℕ} {p : View} (size : ℕ) → 0 < p.shape.page_words → 0 < size → size ≤ beside → IsLeft beside p → IsLeft size p
fewer_left {beside} {p} size words some fits left =
    let room = left.room in
    record {
      slots = λ one. left.slots (omega arith);
      room = omega arith;
      pages = no_more (parts_before p.shape size) (parts_before p.shape beside) _ (parts_fewer p.shape size beside words fits) left.pages;
    }
