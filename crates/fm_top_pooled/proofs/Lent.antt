-- How many pages of a pool are lent, where all are lent to one arena.
use Rattle.std.proofs.Common.{◌≡◌, ℕ, zero, suc, ◌+◌, ◌-◌, ◌*◌, ◌/◌, ◌<◌, ◌≤◌, ◌==◌, not, cond, Bool, true, false, List, [], ◌∷◌, filter, refl, sym, subst, arith, div-lt_iff_lt-mul, lt_of_not-le}
use mathlib.Core.Logic.{dite}
use native.Mathlib.Decide.{dec_le}
use Rattle.std.{specs.Prelude.{Contains, ⊤}, proofs.lemmas.List.Elements.{All-filter}}
use Rattle.fm_base.specs.{declared.arena_id.ArenaId.{ArenaId}, Arenas.{State}, Calls.{Call, Lend, Back, Entry}, Machine.{after}}
use Rattle.fm_pages.proofs.Exact.{part_first}
use Rattle.fm_rule_facts.specs.Loans.{Loan, loan_of, loans_after, loans_by, loans_of, HasPart, IsFree, IsRightlyLentFrom, IsRightlyLentIn}
use Rattle.fm_rule_facts.specs.{Scarcity.{lacking, parts_before}, Views.{View, IsSound, limit_of, unlent}}
use Rattle.fm_rule_facts.proofs.{Lending.{loan_was, first_loan, more_loans}, Scarcity.{block_free, has_part_not, lacking_lend, unlent_lend}}
use Rattle.fm_words.specs.declared.shape.Shape.{Shape}

-- ---- each block once, and as one part

-- no loan is of a block that another one is of, nor as the same part of one arena
abbrev pub AreApart : List Loan → Type 0
AreApart [] = ⊤
AreApart (l ∷ ls) = IsFree ls l.block × ¬ (HasPart ls l.id l.part) × AreApart ls

-- Those that are left of some are apart too.
apart_but : (p : Loan → Bool) (ls : List Loan) → AreApart ls → AreApart (filter p ls)
apart_but p [] h = tt
apart_but p (l ∷ ls) h = go (p l) (apart_but p ls h.2)
  where
    go : (b : Bool) → AreApart (filter p ls) → AreApart (cond b (l ∷ filter p ls) (filter p ls))
    go true rest = (
      All-filter p (λ (x : Loan). ¬ (x.block ≡ l.block)) ls h.0,
      (λ has. h.1 (has.0, loan_was p ls (loan_of has.0 l.id l.part) has.1)),
      rest,
    )
    go false rest = rest

apart_by : (size : ℕ) (s : State) (loans : List Loan) (call : Call) → IsRightlyLentIn size s loans call → AreApart loans → AreApart (loans_by loans call)
apart_by size s loans (Lend block id part) r h = (r.0, r.3, h)
apart_by size s loans (Back block) r h = apart_but (λ l. not (l.block == block)) loans h
apart_by size s loans call r h = h

-- What was rightly lent is apart.
pub apart_on : (size limit : ℕ) (s : State) (loans : List Loan) (es : List Entry) → IsRightlyLentFrom size limit s loans es → AreApart loans
    → AreApart (loans_after loans es)
apart_on size limit s loans [] r h = h
apart_on size limit s loans (e ∷ es) r h =
    apart_on size limit (after limit s e) (loans_by loans e.call) es r.1 (apart_by size s loans e.call r.0 h)

-- ---- counts

pub none_lent : (n : ℕ) → unlent n [] ≡ n
none_lent zero = refl
none_lent (suc n) = let rest = none_lent n in omega arith

all_lacking : (n : ℕ) (a : ArenaId) → lacking n [] a ≡ n
all_lacking zero a = refl
all_lacking (suc n) a = let rest = all_lacking n a in omega arith

-- the block is one of these, lent as a part of the arena
record IsPartOf (a : ArenaId) (pages reach : ℕ) (l : Loan) : Type 0 where
  pub id : l.id ≡ a
  pub block : l.block < pages
  pub part : l.part < reach

-- Where all is lent to one arena, each loan takes a block, and gives one to a part that lacked it.
counted : (pages reach : ℕ) (a : ArenaId) (ls : List Loan) → AreApart ls → ((l : Loan) → Contains ls l → IsPartOf a pages reach l)
    → unlent pages ls + reach ≡ pages + lacking reach ls a
counted pages reach a [] apart each = let p = none_lent pages in let r = all_lacking reach a in omega arith
counted pages reach a (l ∷ ls) apart each =
    let here = each l (first_loan l ls) in
    let is : l ≡ loan_of l.block a l.part = λ j. record { block = l.block; id = here.id j; part = l.part } in
    let rest = counted pages reach a ls apart.2 (λ x i. each x (more_loans l x ls i)) in
    let none : ¬ (HasPart ls a l.part) = subst (λ (x : ArenaId). ¬ (HasPart ls x l.part)) here.id apart.1 in
    let block : unlent pages (l ∷ ls) + 1 ≡ unlent pages ls =
    subst (λ (x : Loan). unlent pages (x ∷ ls) + 1 ≡ unlent pages ls) (sym is)
    (unlent_lend l.block a l.part ls pages here.block (block_free ls l.block apart.0)) in
    let part : lacking reach (l ∷ ls) a + 1 ≡ lacking reach ls a =
    subst (λ (x : Loan). lacking reach (x ∷ ls) a + 1 ≡ lacking reach ls a) (sym is)
    (lacking_lend l.block a l.part ls reach here.part (has_part_not ls a l.part none)) in
    omega arith

-- ---- a pass

-- A pass whose loans are all to one arena, as some of its first parts, has at most as many pages lent.
pub lent_to_one : (p : View) (a : ArenaId) (n : ℕ) → IsSound p → ((l : Loan) → Contains (loans_of p.seen) l → (l.id ≡ a) × (l.part < n))
    → p.shape.pages ≤ unlent p.shape.pages (loans_of p.seen) + n
lent_to_one p a n sound only =
    let apart = apart_on p.shape.page_words (limit_of p.shape) [] [] p.seen sound.lent tt in
    let all = counted p.shape.pages n a (loans_of p.seen) apart
    (λ l i. record { id = (only l i).0; block = (sound.loans l i).0; part = (only l i).1 }) in
    omega arith

-- So many bytes lie in as many parts, where these have room for them.
pub parts_within : (z : Shape) (size n : ℕ) → 0 < z.page_words → size ≤ n * (z.page_words * 8) → parts_before z size ≤ n
parts_within z size n some fits =
    let bytes : ℕ = z.page_words * 8 in
    let one : 0 < bytes = omega arith in
    let below : size + (bytes - 1) < suc n * bytes = omega arith in
    let parts : (size + (bytes - 1)) / bytes < suc n = (div-lt_iff_lt-mul one).1 below in
    omega arith

-- And these have room for them.
pub parts_hold : (z : Shape) (size : ℕ) → 0 < z.page_words → size ≤ parts_before z size * (z.page_words * 8)
parts_hold z size some =
    let n = parts_before z size in
    dite (dec_le size (n * (z.page_words * 8))) (λ y. y) (λ not.
    let below : n < n = part_first z n size some (lt_of_not-le not) in
    absurd (omega (arith, below)))

-- So fewer bytes lie in no more parts.
pub parts_fewer : (z : Shape) (few many : ℕ) → 0 < z.page_words → few ≤ many → parts_before z few ≤ parts_before z many
parts_fewer z few many some less =
    let hold = parts_hold z many some in
    parts_within z few (parts_before z many) some (omega (arith, less, hold))
