-- A pool's first pass that opens an arena.
use Rattle.std.proofs.Common.{◌≡◌, ℕ, ◌*◌, ◌≤◌, slice_index, Bool, true, false, List, [], ◌∷◌, ◌++◌, Ok, Err, refl, ap, sym, ◌∙◌, subst, inl, inr, arith}
use Rattle.std.{specs.Prelude.{◌⊎◌, if◌then◌else◌}, proofs.lemmas.List.{map-append}}
use Rattle.fm_base.specs.declared.{arena_id.ArenaId.{ArenaId}, kind.Kind.TheVariants.{Shared}, refusal.Refusal.{Refusal}}
use Rattle.fm_base.specs.{Arenas.{Arena, State, arena_of, has_arena, same_id}, Calls.{Entry, Open, Fine, entry_of}, Does.{DoesOpen}, Finds.{Gathered, Rest}}
use Rattle.fm_base.{specs.{Histories.{IsTidy, state_after}, Machine.{opened, words_within}, View.{but_loans}}, proofs.{Lookup.{arena_of-append, arena_of-opened}, Names.{same_id-true}, Tidiness.{zeros_at}}}
use Rattle.fm_gate.specs.{Needs.{IsOutside}, Learnt.{AfterOpen, AllBusy}}
use Rattle.fm_rule_calls.{specs.{Kept.{Kept}, Told.{view_of_pass}}, proofs.Telling.{did_of}}
use Rattle.fm_top_load.{specs.Held.{names_in}, proofs.Holding.{did_only, opened_held}}
use Rattle.fm_rule_facts.specs.{Loans.{Loan, loans_of}, Scarcity.{parts_before}, Views.{View, IsKnown, IsSound, limit_of, state_in, unlent}}
use Rattle.fm_rule.specs.{declared.pool.Pool.{Pool}, Views.{first_pass, numbers_of}}
use Rattle.fm_words.specs.declared.shape.Shape.{Shape}
use Rattle.fm_top_pooled.{specs.Stocked.{CanStock, HasOpened, HasPagesFor, IsAlone, IsLone}, proofs.Lent.{none_lent, parts_within}}
use Rattle.fm_top_pooled.proofs.Tidying.{AllChangeNone, loans_too, tidy_none, tidy_on}

-- ---- a pool's first pass

pub begun : (pool : Pool) (z : Shape) (p : View) → pool.shape ≡ z → p ≡ first_pass (numbers_of pool.table.shared.table_id) z → IsSound p → IsLone pool p
begun pool z p shape is sound = record {
  outside = record {
    of = (ap (λ (v : View). v.home) is, ap (λ (v : View). v.shape) is ∙ sym shape);
    outside = ap (λ (v : View). v.inside) is;
    unmarked = ap (λ (v : View). v.mark) is;
    no_number = ap (λ (v : View). v.number) is;
    no_slot = ap (λ (v : View). v.hand) is;
    no_part = ap (λ (v : View). v.swept) is;
  };
  sound = sound;
  whole = ap (λ (v : View). v.whole) is;
  tidy = subst (λ (es : List Entry). IsTidy (limit_of p.shape) [] es) (sym (ap (λ (v : View). v.seen) is)) tt;
  gathered = ap (λ (v : View). v.gathered) is;
  none_to_end = ap (λ (v : View). v.closes) is;
  none_to_sweep = ap (λ (v : View). v.sweeps) is;
  no_page = ap (λ (v : View). v.pages) is;
}

-- a pass that has seen nothing knows no arena
pub knows_none : (p : View) (a : ArenaId) → p.seen ≡ [] → IsKnown p a → ⊥
knows_none p a none known =
    let nowhere : has_arena (state_after (limit_of p.shape) [] []) a ≡ true =
    subst (λ (es : List Entry). has_arena (state_after (limit_of p.shape) [] es) a ≡ true) none known in
    absurd (cc)

-- of so many bytes, for which the arenas have room, each part has a page while none is lent
all_left : (p : View) (size : ℕ) → IsSound p → p.seen ≡ [] → size ≤ limit_of p.shape → HasPagesFor p size
all_left p size sound none room =
    let z = p.shape in
    let some = sound.valid.page_words.0 in
    let fits : size ≤ z.reach * (z.page_words * 8) = omega arith in
    let parts = parts_within z size z.reach (omega arith) fits in
    let pages = sound.valid.reach.1 in
    let left : unlent z.pages (loans_of p.seen) ≡ z.pages = ap (λ (es : List Entry). unlent z.pages (loans_of es)) none ∙ none_lent z.pages in
    omega arith

-- so there are a slot and pages for the first one
pub can_stock : (pool : Pool) (p : View) (size : ℕ) → IsLone pool p → p.seen ≡ [] → size ≤ limit_of pool.shape → CanStock pool p size
can_stock pool p size lone none room = record {
  room = room;
  lone = lone;
  free = λ busy. let one = busy 0 (let some = lone.sound.valid.slots in omega (arith, some)) in knows_none p one.arena none one.known;
  pages = all_left p size lone.sound none (subst (λ (z : Shape). size ≤ limit_of z) (sym lone.outside.of.1) room);
}

-- ---- a call that changes no word

-- The pass is known to be whole still, behind its own entries and loans.
pub kept_alone : {gs : List Gathered} {pool : Pool} {p q : View} {P : List Entry → Type 0} → IsAlone gs pool p → (k : Kept p q P)
    → IsOutside pool q → AllChangeNone (but_loans k.own) → IsAlone gs pool q
kept_alone {p = p} {q = q} lone k outside none = record {
  outside = outside;
  sound = k.goes.sound;
  whole = k.goes.same_whole ∙ lone.whole;
  tidy = tidy_on p q k.own lone.tidy k.goes.same_shape (k.goes.seen ∙ ap (λ (es : List Entry). p.seen ++ es) (k.goes.alone lone.whole))
      (tidy_none (limit_of p.shape) (state_in p) k.own (loans_too k.own none));
  gathered = k.goes.same_gathered ∙ lone.gathered;
  none_to_end = ap (λ (x : Rest). x.closes) k.rest ∙ lone.none_to_end;
  none_to_sweep = ap (λ (x : Rest). x.sweeps) k.rest ∙ lone.none_to_sweep;
  no_page = ap (λ (x : Rest). x.pages) k.rest ∙ lone.no_page;
}

-- ---- an arena is opened

pub has_slot : {gs : List Gathered} (pool : Pool) (p q : View) (r : Refusal) → IsAlone gs pool p → ¬ (AllBusy p) → AfterOpen pool p q Shared (Err r) → ⊥
has_slot pool p q r lone free after = free (after.no_slot.1.busy lone.whole lone.none_to_sweep)

-- which arenas are there behind the last one
opened_has : (s : State) (o : Arena) (b : ArenaId) → has_arena (s ++ o ∷ []) b ≡ true → (b ≡ o.id) ⊎ (has_arena s b ≡ true)
opened_has [] o b h =
    let P : Bool → Type 0 = λ x. same_id o.id b ≡ x → (if x then true else false) ≡ true → (b ≡ o.id) ⊎ (false ≡ true) in
    let go : (x : Bool) → P x = λ x. elim x as P [ true ↦ (λ e k. inl (sym (same_id-true o.id b e))) | false ↦ (λ e k. inr k) ] in
    go (same_id o.id b) refl h
opened_has (a ∷ s) o b h =
    let P : Bool → Type 0 = λ x. (if x then true else has_arena (s ++ o ∷ []) b) ≡ true → (b ≡ o.id) ⊎ ((if x then true else has_arena s b) ≡ true) in
    let go : (x : Bool) → P x = λ x. elim x as P [ true ↦ (λ k. inr refl) | false ↦ (λ k. opened_has s o b k) ] in
    go (same_id a.id b) h

pub opens : {gs : List Gathered} (pool : Pool) (p q : View) (a : ArenaId) → IsAlone gs pool p → AfterOpen pool p q Shared (Ok a) → HasOpened gs pool p q a
opens pool p q a lone after =
    let did = did_of p q (λ own. DoesOpen p.caller Shared (Ok a) (but_loans own)) after.did in
    let one : List Entry = entry_of p.caller (Open a) Fine ∷ [] in
    let only = did_only (view_of_pass p) (view_of_pass q) did.own one (inr lone.whole) did.makes did.does.2 in
    let state : state_in q ≡ state_in p ++ opened (limit_of p.shape) a ∷ [] = only.state in
    record {
      lone = kept_alone lone after.did after.outside (subst AllChangeNone (sym after.did.does.2) (tt, tt));
      empty = opened_held (view_of_pass p) (view_of_pass q) a Shared (inr lone.whole) lone.sound.limit after.outside.outside did;
      zero = λ word.
          ap (λ (s : State). slice_index (arena_of s a).words word) state
          ∙ ap (λ (x : Arena). slice_index x.words word) (arena_of-opened (state_in p) (opened (limit_of p.shape) a) only.legal.0.0)
          ∙ zeros_at (words_within (limit_of p.shape)) word;
      shared = did.does.0;
      unknown = after.is_new.unknown;
      only = λ b k. opened_has (state_in p) (opened (limit_of p.shape) a) b (ap (λ (s : State). has_arena s b) (sym state) ∙ k);
      keeps = record {
        known = after.lasts.known;
        same = λ b k. ap (λ (s : State). arena_of s b) state ∙ arena_of-append (state_in p) (opened (limit_of p.shape) a ∷ []) b k;
      };
      names = ap names_in state ∙ map-append (λ (x : Arena). x.id) (state_in p) (opened (limit_of p.shape) a ∷ []);
      loans = after.lends lone.whole;
    }

-- What was left of pages is left.
pub pages_left : {gs : List Gathered} {pool : Pool} {p q : View} {a : ArenaId} (size : ℕ) → IsAlone gs pool p → HasOpened gs pool p q a → HasPagesFor p size → HasPagesFor q size
pages_left {p = p} {q = q} size lone opened pages =
    let shape : p.shape ≡ q.shape = lone.outside.of.1 ∙ sym opened.lone.outside.of.1 in
    subst (λ (x : Shape × List Loan). parts_before x.0 size ≤ unlent x.0.pages x.1) (λ j. (shape j, sym opened.loans j)) pages
