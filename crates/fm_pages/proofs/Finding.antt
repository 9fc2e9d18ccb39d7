-- A word whose part is lent is found by its part's map word.
use Rattle.std.proofs.Common.{◌≡◌, ◌≢◌, ℕ, ◌+◌, ◌-◌, ◌*◌, ◌/◌, ◌%◌, ◌<◌, ◌≤◌, ◌==◌, Bool, false, if◌then◌else◌, List, [], ◌∷◌, ◌++◌, refl, ap, sym, ◌∙◌, subst, append_assoc, arith, inl, inr, ⊎_elim, Some, ne_eqb}
use Rattle.std.{proofs.Math.Nat.{div-lt_iff_lt-mul, div-mul-le_self, lt-div-mul-add}, specs.Prelude.{Contains}}
use Rattle.fm_words.specs.{declared.shape.Shape.{Shape}, Places.{at, page_word}}
use Rattle.fm_base.specs.{declared.arena_id.ArenaId.{ArenaId}, Arenas.{State, arena_of}, Calls.{Entry}, Histories.{IsLegal, state_after}}
use Rattle.fm_base.proofs.{Making.{state_after-append, IsLegal-split}, Growing.{Grows-state_after}, Placing.{there_by_way}}
use Rattle.fm_rule_facts.specs.{Parts.{Mapping, mapping_of, reads_after}, Views.{View, In, IsSound, given_of, limit_of, state_in}, Moves.{LearnsMap}}
use Rattle.fm_rule_facts.specs.{Steps.{Stepped, CanReach, HasPlace, HasParts, none_noted}, Loans.{HasPart, loans_of, loan_of}}
use Rattle.fm_rule_calls.proofs.{Lent.{part_on}, UnderWay.{stands_under_way}}
use Rattle.fm_rule.specs.Placing.{FindsPlace}
use Rattle.fm_pages.specs.Places.{CanFind, Placed}

-- the part of a word that can be found is lent
find_part : (v : View) (word : ℕ) → IsSound v → (can : CanFind v word) → HasPart (loans_of v.seen) can.id (word / v.shape.page_words)
find_part v word s can = ⊎_elim
    (λ (given : 8 * word < given_of v can.id).
    s.covered can.id word (stands_under_way (limit_of v.shape) v.seen s.legal v.caller can.id (s.inside can.id can.inside)) given)
    (λ (h : HasPart (loans_of v.seen) can.id (word / v.shape.page_words)). h)
    can.part

-- and one that arenas have
pub part_low : (v : View) (word : ℕ) → IsSound v → CanFind v word → word / v.shape.page_words < v.shape.reach
part_low v word s can =
    let h = find_part v word s can in
    (s.loans (loan_of h.0 can.id (word / v.shape.page_words)) h.1).1

-- the pass stays where the word can be reached
reach_on : (v w : View) (word : ℕ) (reads : List Mapping) → CanReach v word → Stepped v w (record v { reads = reads }) [] none_noted → CanReach w word
reach_on v w word reads can s =
    let limit : ℕ = limit_of v.shape in
    let now : State = state_after limit [] v.seen in
    let seen : w.seen ≡ v.seen ++ (s.others ++ []) = s.seen ∙ append_assoc v.seen s.others [] in
    let shape : w.shape ≡ v.shape = ap (λ (u : View). u.shape) s.is_part in
    let legal : IsLegal limit [] (v.seen ++ (s.others ++ [])) =
    subst (λ (x : Shape × List Entry). IsLegal (limit_of x.0) [] x.1) (λ j. (shape j, seen j)) s.sound.legal in
    let more = (Grows-state_after limit now (s.others ++ []) (IsLegal-split limit [] v.seen (s.others ++ []) legal).1).given can.id in
    let is : given_of w can.id ≡ (arena_of (state_after limit now (s.others ++ [])) can.id).given =
    (λ j. (arena_of (state_after (limit_of (shape j)) [] (seen j)) can.id).given)
    ∙ ap (λ (x : State). (arena_of x can.id).given) (state_after-append limit [] v.seen (s.others ++ [])) in
    let low = can.given in
    record { id = can.id; inside = ap (λ (u : View). u.inside) s.is_part ∙ can.inside; given = omega arith }

-- a place that the pass has read
pub placed_known : {v : View} {word place : ℕ} → IsSound v → HasPlace v word place → Placed v v word place
placed_known {v = v} {word = word} s h = record {
  place = record { page = h.page; low = h.low; read = h.read; is = h.is };
  lent_so = λ id q. s.reads id (mapping_of (word / v.shape.page_words) h.page) q h.read;
  reach = λ c. c;
  by = inl refl;
}

module _ (v w : View) (word x : ℕ) (a : ArenaId) (sound : IsSound v) (can : CanFind v word) (ins : v.inside ≡ Some a)
    (l : LearnsMap v a (word / v.shape.page_words) x w)
    (s : Stepped v w (record v { reads = reads_after (word / v.shape.page_words) x v.reads }) [] none_noted) where
  inside_now : w.inside ≡ Some a
  inside_now = ap (λ (u : View). u.inside) s.is_part ∙ ins

  -- its part is lent still, so it has a page
  pub mapped : 1 ≤ x
  mapped =
      let same : can.id ≡ a = (let q : Some can.id ≡ Some a = sym can.inside ∙ ins in cc) in
      let seen : w.seen ≡ v.seen ++ (s.others ++ []) = s.seen ∙ append_assoc v.seen s.others [] in
      let h : HasPart (loans_of v.seen) a (word / v.shape.page_words) =
      subst (λ (b : ArenaId). HasPart (loans_of v.seen) b (word / v.shape.page_words)) same (find_part v word sound can) in
      let now = part_on v w (s.others ++ []) seen (ap (λ (u : View). u.shape) s.is_part) s.sound a
      (there_by_way (state_in v) v.caller a (sound.inside a ins)) inside_now (word / v.shape.page_words) h in
      let m : x ≢ 0 = (λ e. l.none e now) in omega arith

  pub page_low : x - 1 < v.shape.pages
  page_low = let m = mapped in let h = l.low in omega arith

  pub placed : (place : ℕ) → place ≡ at v.shape (page_word (x - 1) (word % v.shape.page_words)) → Placed v w word place
  placed place e =
      let shape : w.shape ≡ v.shape = ap (λ (u : View). u.shape) s.is_part in
      let i : ℕ = word / v.shape.page_words in
      let n : (x == 0) ≡ false = ne_eqb x 0 (λ q. let m = mapped in absurd (omega arith)) in
      let read : In (mapping_of i (x - 1)) w.reads =
      subst (In (mapping_of i (x - 1))) (sym (ap (λ (u : View). u.reads) s.is_part))
      (subst (λ (b : Bool). In (mapping_of i (x - 1)) (if b then v.reads else mapping_of i (x - 1) ∷ v.reads)) (sym n) (inl refl)) in
      record {
        place = record {
          page = x - 1;
          low = subst (λ (y : Shape). x - 1 < y.pages) (sym shape) page_low;
          read = subst (λ (y : Shape). In (mapping_of (word / y.page_words) (x - 1)) w.reads) (sym shape) read;
          is = e ∙ ap (λ (y : Shape). at y (page_word (x - 1) (word % y.page_words))) (sym shape);
        };
        lent_so = λ id q.
            let same : a ≡ id = (let e : Some a ≡ Some id = sym ins ∙ q in cc) in
            subst (λ (b : ArenaId × Shape). Contains (loans_of w.seen) (loan_of (x - 1) b.0 (word / b.1.page_words))) (λ j. (same j, sym shape j))
            (s.sound.reads a (mapping_of i (x - 1)) inside_now read);
        reach = λ c. reach_on v w word (reads_after i x v.reads) c s;
        by = inr (reads_after i x v.reads, s);
      }

-- as a step finds it
pub placed_by : (v w : View) (word place : ℕ) (a : ArenaId) → IsSound v → CanFind v word → v.inside ≡ Some a → FindsPlace v a word place w → Placed v w word place
placed_by v w word place a sound can ins f =
    let m = mapped v w word f.found a sound can ins f.map f.stepped in
    placed v w word f.found a sound can ins f.map f.stepped place (f.place (omega arith))

-- a pass that has read each part from that of the one byte to that of the other has read them all
pub parts_cover : (v : View) (from to : ℕ) → 0 < v.shape.page_words
    → ((i : ℕ) → from / (8 * v.shape.page_words) ≤ i → i * (8 * v.shape.page_words) < to → (p : ℕ) × In (mapping_of i p) v.reads) → HasParts v from to
parts_cover v from to some_words each word low high =
    let size : ℕ = v.shape.page_words in
    let i : ℕ = word / size in
    let x : ℕ = i * size in
    let under : x ≤ word = div-mul-le_self word size in
    let over : word < x + size = lt-div-mul-add some_words in
    let up : i * (8 * size) ≡ 8 * x = omega arith in
    let next : (i + 1) * (8 * size) ≡ 8 * x + 8 * size = omega arith in
    let top : from < (i + 1) * (8 * size) = omega arith in
    let some_bytes : 0 < 8 * size = omega arith in
    let first : from / (8 * size) < i + 1 = (div-lt_iff_lt-mul some_bytes).1 top in
    each i (omega arith) (omega arith)
