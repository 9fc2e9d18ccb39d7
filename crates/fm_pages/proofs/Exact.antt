-- When pages are too few for the bytes that are asked for.
use Rattle.std.proofs.Common.{◌≡◌, ℕ, ◌+◌, ◌-◌, ◌*◌, ◌/◌, ◌<◌, ◌≤◌, Bool, true, if◌then◌else◌, List, [], ◌∷◌, ◌++◌, refl, ap, sym, ◌∙◌, subst, All, Some, eq-eqb, append_assoc, arith}
use Rattle.std.{specs.Prelude.{Contains}, proofs.{Math.Nat.{div-lt_iff_lt-mul, lt_of_not-le, mul-div_cancel}, lemmas.Bool.{le-leb}}}
use Rattle.std.proofs.lemmas.List.Elements.{All-head, All-tail, All-weaker}
use Rattle.fm_words.specs.declared.shape.Shape.{Shape}
use Rattle.fm_base.specs.{declared.{caller.Caller.{Caller}, arena_id.ArenaId.{ArenaId}}, Arenas.{State, Arena, has_arena, arena_of}}
use Rattle.fm_base.specs.{Calls.{Call, Allocate, Given, NoRoom, Reply, Entry, entry_of}, Machine.{after, allocate_reply, given_up_to, rounded_up, state_by}}
use Rattle.fm_base.{specs.Histories.{IsLegal, state_after}, proofs.{Growing.{given_is}, Lookup.{lookup_changed}, Making.{IsLegal-split, state_after-append}}}
use Rattle.fm_base.proofs.Placing.{there_by_way}
use Rattle.fm_rule_facts.specs.{Loans.{Loan, loans_of, loans_after, HasPart, IsRightlyLent}, Scarcity.{IsScarce, has_part, lacking, parts_before, end_of}}
use Rattle.fm_rule_facts.specs.{Steps.{is_clear, where_found}, Views.{View, IsSound, given_of, limit_of, state_in, unlent}}
use Rattle.fm_rule_facts.proofs.{Lending.{loans_after-append}, Scarcity.{LendsFirst, has_part_of, has_part_not, lends_even, none_lacking, some_lacking}}
use Rattle.fm_rule_facts.proofs.Unlending.{lent-first, lent-split}
use Rattle.fm_rule_calls.proofs.UnderWay.{stands_under_way}
use Rattle.fm_pages.specs.{Covers.{LendsIn, Lacks}, Gives.{allocates}, Maps.{Way}}
use Rattle.fm_rule_steps.proofs.Claiming.{whole_clear}

-- ---- parts of a range

-- a part with a byte before the place is one of the first
pub part_first : (z : Shape) (i place : ℕ) → 0 < z.page_words → i * (z.page_words * 8) < place → i < parts_before z place
part_first z i place some h = lt_of_not-le (λ (le : parts_before z place ≤ i).
    let size : ℕ = z.page_words * 8 in
    let some_bytes : 0 < size = omega arith in
    let few : (place + (size - 1)) / size < i + 1 = omega arith in
    let top : place + (size - 1) < (i + 1) * size = (div-lt_iff_lt-mul some_bytes).0 few in
    let next : (i + 1) * size ≡ i * size + size = omega arith in
    absurd (omega arith))

-- and those are such parts
pub first_part : (z : Shape) (i place : ℕ) → 0 < z.page_words → i < parts_before z place → i * (z.page_words * 8) < place
first_part z i place some h = lt_of_not-le (λ (le : place ≤ i * (z.page_words * 8)).
    let size : ℕ = z.page_words * 8 in
    let some_bytes : 0 < size = omega arith in
    let next : (i + 1) * size ≡ i * size + size = omega arith in
    let top : place + (size - 1) < (i + 1) * size = omega arith in
    let few : (place + (size - 1)) / size < i + 1 = (div-lt_iff_lt-mul some_bytes).1 top in
    absurd (omega arith))

-- ---- loans alone

-- what is lent for the range is one of the first parts
lends_first : (v : View) (a : ArenaId) (from to : ℕ) → 0 < v.shape.page_words → (es : List Entry) → All (LendsIn v a from to) es
    → All (LendsFirst a (parts_before v.shape to)) es
lends_first v a from to some es h = All-weaker (LendsIn v a from to) (LendsFirst a (parts_before v.shape to))
    (λ e l. (l.0, l.1, part_first v.shape l.1 to some l.3, ap (λ (x : Entry). x.call) l.4)) es h

-- loans change no arena
still_by : (limit n : ℕ) (a : ArenaId) (s : State) (es : List Entry) → All (LendsFirst a n) es → state_after limit s es ≡ s
still_by limit n a s [] h = refl
still_by limit n a s (e ∷ es) h =
    let f = All-head (LendsFirst a n) e es h in
    let one : after limit s e ≡ s = ap (λ (k : Call). state_by limit s e.caller k e.reply) f.3 in
    ap (λ (t : State). state_after limit t es) one ∙ still_by limit n a s es (All-tail (LendsFirst a n) e es h)

-- as many blocks fewer aren't lent as parts of the range have one more, by entries that lend
even_by : (v : View) (a : ArenaId) (from to : ℕ) (es : List Entry) → 0 < v.shape.page_words → IsRightlyLent v.shape.page_words (limit_of v.shape) (v.seen ++ es)
    → ((l : Loan) → Contains (loans_of (v.seen ++ es)) l → l.block < v.shape.pages) → All (LendsIn v a from to) es
    → unlent v.shape.pages (loans_of v.seen) + lacking (parts_before v.shape to) (loans_of (v.seen ++ es)) a
    ≡ unlent v.shape.pages (loans_of (v.seen ++ es)) + lacking (parts_before v.shape to) (loans_of v.seen) a
even_by v a from to es some right low h =
    let n : ℕ = parts_before v.shape to in
    let limit : ℕ = limit_of v.shape in
    let is : loans_after (loans_of v.seen) es ≡ loans_of (v.seen ++ es) = sym (loans_after-append [] v.seen es) in
    let e = lends_even v.shape.page_words limit v.shape.pages n a (state_in v) (loans_of v.seen) es
    (lent-split v.shape.page_words limit [] [] v.seen es right) (lends_first v a from to some es h)
    (λ l c. low l (subst (λ (ls : List Loan). Contains ls l) is c)) in
    subst (λ (ls : List Loan). unlent v.shape.pages (loans_of v.seen) + lacking n ls a ≡ unlent v.shape.pages ls + lacking n (loans_of v.seen) a) is e

-- what is sound in the shape that was
right_in : (z : Shape) (q : View) (es : List Entry) → q.shape ≡ z → q.seen ≡ es → IsSound q → IsRightlyLent z.page_words (limit_of z) es
right_in z q es shape seen sound = subst (λ (x : Shape × List Entry). IsRightlyLent x.0.page_words (limit_of x.0) x.1) (λ j. (shape j, seen j)) sound.lent

low_in : (z : Shape) (q : View) (es : List Entry) → q.shape ≡ z → q.seen ≡ es → IsSound q → (l : Loan) → Contains (loans_of es) l → l.block < z.pages
low_in z q es shape seen sound l c =
    subst (λ (y : Shape). l.block < y.pages) shape (sound.loans l (subst (λ (xs : List Entry). Contains (loans_of xs) l) (sym seen) c)).0

-- ---- no page is left

-- A pass that was clear, and knew the count, found too few.
pub unpaged_exact : {p m : View} (a : ArenaId) (count size align : ℕ) (own : List Entry) → rounded_up count align + size ≤ limit_of p.shape
    → All (LendsIn p a count (rounded_up count align + size)) own → Way p m own [] → Lacks p m a count (rounded_up count align + size)
    → is_clear p ≡ true → count ≡ given_of p a → IsScarce p a size align
unpaged_exact {p = p} {m = m} a count size align own fits are w lacks clear is =
    let to : ℕ = rounded_up count align + size in
    let n : ℕ = parts_before p.shape to in
    let shape = w.goes.same_shape in
    let some : 0 < p.shape.page_words = subst (λ (z : Shape). 0 < z.page_words) shape w.goes.sound.valid.page_words.0 in
    let seen : m.seen ≡ p.seen ++ own = w.goes.seen ∙ ap (λ (es : List Entry). p.seen ++ es) (w.goes.alone (whole_clear p clear)) in
    let right = right_in p.shape m (p.seen ++ own) shape seen w.goes.sound in
    let low = low_in p.shape m (p.seen ++ own) shape seen w.goes.sound in
    let even = even_by p a count to own some right low are in
    let none = lacks.none.exact clear in
    let all : unlent p.shape.pages (loans_of (p.seen ++ own)) ≡ 0 = subst (λ (es : List Entry). unlent p.shape.pages (loans_of es) ≡ 0) seen none.all_lent in
    let bare : ¬ (HasPart (loans_of (p.seen ++ own)) a lacks.part) = subst (λ (es : List Entry). ¬ (HasPart (loans_of es) a lacks.part)) seen none.lacks in
    let one = some_lacking n lacks.part (loans_of (p.seen ++ own)) a (part_first p.shape lacks.part to some lacks.high)
    (has_part_not (loans_of (p.seen ++ own)) a lacks.part bare) in
    let end : to ≡ end_of p a size align = ap (λ (g : ℕ). rounded_up g align + size) is in
    record {
      fits = subst (λ (x : ℕ). x ≤ limit_of p.shape) end fits;
      few = subst (λ (x : ℕ). unlent p.shape.pages (loans_of p.seen) < lacking (parts_before p.shape x) (loans_of p.seen) a) end (omega arith);
    }

-- ---- bytes are given

-- an Allocate that fits leaves the count at the end of its range
given_then : (limit : ℕ) (s : State) (c : Caller) (a : ArenaId) (size align place : ℕ) (reply : Reply) → has_arena s a ≡ true → reply ≡ Given place
    → (arena_of (state_by limit s c (Allocate a size align) reply) a).given ≡ place + size
given_then limit s c a size align place reply has is =
    ap (λ (r : Reply). (arena_of (state_by limit s c (Allocate a size align) r) a).given) is
    ∙ ap (λ (x : Arena). x.given) (lookup_changed s a (given_up_to (place + size)) (λ x. refl) has)

fitting_reply : (limit given size align : ℕ) → rounded_up given align + size ≤ limit → allocate_reply limit given size align ≡ Given (rounded_up given align)
fitting_reply limit given size align h =
    ap (λ (b : Bool). if b then Given (rounded_up given align) else NoRoom given) (le-leb (rounded_up given align + size) limit h)

module _ {p q : View} (a : ArenaId) (count size align found : ℕ) (lends : List Entry)
    (are : All (LendsIn p a count (rounded_up count align + size)) lends)
    (w : Way p q (lends ++ allocates p a count size align found) []) (ins : q.inside ≡ Some a) (whole : p.whole ≡ true) (hit : found ≡ count)
    (fits : end_of p a size align ≤ limit_of p.shape) where
  abbrev limit : ℕ
  limit = limit_of p.shape

  abbrev place : ℕ
  place = rounded_up (given_of p a) align

  abbrev entry : Entry
  entry = entry_of p.caller (Allocate a size align) (allocate_reply limit count size align)

  seen : q.seen ≡ p.seen ++ (lends ++ entry ∷ [])
  seen = w.goes.seen ∙ ap (λ (es : List Entry). p.seen ++ es)
      (w.goes.alone whole ∙ ap (λ (b : Bool). lends ++ where_found b (entry ∷ [])) (eq-eqb found count hit))

  some : 0 < p.shape.page_words
  some = subst (λ (z : Shape). 0 < z.page_words) w.goes.same_shape w.goes.sound.valid.page_words.0

  firsts : All (LendsFirst a (parts_before p.shape (rounded_up count align + size))) lends
  firsts = lends_first p a count (rounded_up count align + size) some lends are

  same : state_after limit (state_in p) lends ≡ state_in p
  same = still_by limit (parts_before p.shape (rounded_up count align + size)) a (state_in p) lends firsts

  -- the exchange was made in the state that the pass knew
  last : IsLegal limit (state_in p) (entry ∷ [])
  last =
      let legal : IsLegal limit [] (p.seen ++ (lends ++ entry ∷ [])) =
      subst (λ (x : Shape × List Entry). IsLegal (limit_of x.0) [] x.1) (λ j. (w.goes.same_shape j, seen j)) w.goes.sound.legal in
      let later = (IsLegal-split limit [] p.seen (lends ++ entry ∷ []) legal).1 in
      subst (λ (s : State). IsLegal limit s (entry ∷ [])) same (IsLegal-split limit (state_in p) lends (entry ∷ []) later).1

  reply_is : allocate_reply limit count size align ≡ Given place
  reply_is = last.1 ∙ fitting_reply limit (given_of p a) size align fits

  place_is : place ≡ rounded_up count align
  place_is = (given_is limit count size align place (sym reply_is)).rounded

  -- the whole range is given
  given_now : given_of q a ≡ end_of p a size align
  given_now =
      let now : state_in q ≡ after limit (state_in p) entry =
      (λ j. state_after (limit_of (w.goes.same_shape j)) [] (seen j))
      ∙ (state_after-append limit [] p.seen (lends ++ entry ∷ []) ∙ (state_after-append limit (state_in p) lends (entry ∷ [])
      ∙ ap (λ (s : State). after limit s entry) same)) in
      ap (λ (s : State). (arena_of s a).given) now
      ∙ given_then limit (state_in p) p.caller a size align place (allocate_reply limit count size align)
      (there_by_way (state_in p) p.caller a last.0.0) reply_is

  -- so each part of it is lent
  each : (i : ℕ) → i < parts_before p.shape (end_of p a size align) → has_part (loans_of q.seen) a i ≡ true
  each i low =
      let size_is : p.shape.page_words ≡ q.shape.page_words = ap (λ (z : Shape). z.page_words) (sym w.goes.same_shape) in
      let words : ℕ = p.shape.page_words in
      let under = first_part p.shape i (end_of p a size align) some low in
      let bytes : 8 * (i * words) ≡ i * (words * 8) = omega arith in
      let byte : 8 * (i * words) < given_of q a = subst (λ (x : ℕ). 8 * (i * words) < x) (sym given_now) (omega arith) in
      let stands = stands_under_way (limit_of q.shape) q.seen w.goes.sound.legal q.caller a (w.goes.sound.inside a ins) in
      let its : i * words / q.shape.page_words ≡ i = ap (λ (x : ℕ). i * words / x) (sym size_is) ∙ mul-div_cancel i some in
      has_part_of (loans_of q.seen) a i (subst (HasPart (loans_of q.seen) a) its (w.goes.sound.covered a (i * words) stands byte))

  -- Where a pass that is known to be whole gave bytes, pages weren't too few.
  pub gives_enough : lacking (parts_before p.shape (end_of p a size align)) (loans_of p.seen) a ≤ unlent p.shape.pages (loans_of p.seen)
  gives_enough =
      let n : ℕ = parts_before p.shape (end_of p a size align) in
      let loans : loans_of q.seen ≡ loans_of (p.seen ++ lends) =
      ap loans_of (seen ∙ sym (append_assoc p.seen lends (entry ∷ []))) ∙ loans_after-append [] (p.seen ++ lends) (entry ∷ []) in
      let end : rounded_up count align + size ≡ end_of p a size align = ap (λ (x : ℕ). x + size) (sym place_is) in
      let right = lent-first p.shape.page_words limit [] [] (p.seen ++ lends) (entry ∷ [])
      (right_in p.shape q ((p.seen ++ lends) ++ entry ∷ []) w.goes.same_shape (seen ∙ sym (append_assoc p.seen lends (entry ∷ []))) w.goes.sound) in
      let low : (l : Loan) → Contains (loans_of (p.seen ++ lends)) l → l.block < p.shape.pages =
      (λ l c. low_in p.shape q q.seen w.goes.same_shape refl w.goes.sound l (subst (λ (ls : List Loan). Contains ls l) (sym loans) c)) in
      let even = even_by p a count (end_of p a size align) lends some right low (subst (λ (x : ℕ). All (LendsIn p a count x) lends) end are) in
      let none : lacking n (loans_of (p.seen ++ lends)) a ≡ 0 =
      subst (λ (ls : List Loan). lacking n ls a ≡ 0) loans (none_lacking n (loans_of q.seen) a each) in
      omega arith

pub tried_exact : {p q : View} (a : ArenaId) (count size align found : ℕ) (lends : List Entry)
    → All (LendsIn p a count (rounded_up count align + size)) lends → Way p q (lends ++ allocates p a count size align found) [] → q.inside ≡ Some a
    → p.whole ≡ true → found ≡ count → ¬ (IsScarce p a size align)
tried_exact a count size align found lends are w ins whole hit s =
    let enough = gives_enough a count size align found lends are w ins whole hit s.fits in
    let few = s.few in absurd (omega arith)
