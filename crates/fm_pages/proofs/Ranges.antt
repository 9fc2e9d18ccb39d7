-- Giving all parts of a range pages.
use Rattle.std.proofs.Common.{◌≡◌, ◌≢◌, ℕ, ◌+◌, ◌*◌, ◌/◌, ◌==◌, ◌<◌, ◌≤◌, Bool, true, false, List, [], ◌∷◌, ◌++◌, refl, ap, sym, ◌∙◌, subst, ⊎_elim, All, arith, append_assoc}
use Rattle.std.proofs.{lemmas.List.Elements.{All-append, All-cons, All-nil}, Math.Nat.{mul-le-mul_right, mul_assoc, lt_of_not-le}}
use Rattle.fm_words.specs.declared.shape.Shape.{Shape}
use Rattle.fm_base.specs.{declared.{caller.Caller.{Caller}, arena_id.ArenaId.{ArenaId}}, Calls.{Entry, Lend, Fine, entry_of}, Histories.{made_by}}
use Rattle.fm_rule_facts.specs.{Loans.{loans_of}, Parts.{mapping_of}, Views.{View, In, IsSound, limit_of, unlent}}
use Rattle.fm_rule_calls.proofs.Going.{goes_none}
use Rattle.fm_pages.{specs.{Maps.{Way}, Provides.{Provided, LendsPart}, Covers.{Covering, Covered, LendsIn, page_bytes}}, proofs.Finding.{parts_cover}}
use Rattle.fm_pages.proofs.{Looking.{all_earlier}, Parts.{way_then, clear_way}}
use Rattle.fm_rule_steps.proofs.Reading.{eqb_true, eqb_false}

pub covering_begins : {v : View} (a : ArenaId) (from to : ℕ) → IsSound v → v.pages ≡ [] → Covering v v a from to (from / page_bytes v)
covering_begins {v = v} a from to sound none = record {
  own = [];
  lends = All-nil (LendsIn v a from to);
  way = record { goes = goes_none sound; is = λ j. record v { pages = none j }; keeps = λ m k. k };
  each = λ i low high. absurd (omega arith);
}

-- what one part more lends is in the range
lends_in : (v : View) (a : ArenaId) (from to n : ℕ) (es : List Entry) → from / page_bytes v ≤ n → n * page_bytes v < to → LendsPart v.caller a n es
    → All (LendsIn v a from to) es
lends_in v a from to n es low high l = ⊎_elim
    (λ (e : es ≡ []). subst (λ (xs : List Entry). All (LendsIn v a from to) xs) (sym e) (All-nil (LendsIn v a from to)))
    (λ (p : (page : ℕ) × (es ≡ entry_of v.caller (Lend page a n) Fine ∷ [])).
    subst (λ (xs : List Entry). All (LendsIn v a from to) xs) (sym p.1)
    (All-cons (LendsIn v a from to) _ [] (p.0, n, low, high, refl) (All-nil (LendsIn v a from to))))
    l

module _ {v m r : View} {a : ArenaId} {from to n : ℕ} (b : Bool) (c : Covering v m a from to n) (low : from / page_bytes v ≤ n) (high : n * page_bytes v < to)
    (t : Provided m r a n b) where
  all_lends : All (LendsIn v a from to) (c.own ++ t.own)
  all_lends = All-append (LendsIn v a from to) c.own t.own c.lends
      (lends_in v a from to n t.own low high (subst (λ (k : Caller). LendsPart k a n t.own) c.way.goes.same_caller t.lends))

  pub whole_way : Way v r (c.own ++ t.own) []
  whole_way = way_then c.way t.way

pub covering_all : {v r : View} {a : ArenaId} {from to n : ℕ} → Covering v r a from to n → IsSound v → to ≤ n * page_bytes v → Covered v r a from to true
covering_all {v = v} {r = r} {a = a} {from = from} {to = to} {n = n} c sound all =
    let shape : r.shape ≡ v.shape = c.way.goes.same_shape in
    let words : r.shape.page_words ≡ v.shape.page_words = ap (λ (z : Shape). z.page_words) shape in
    let size : 8 * r.shape.page_words ≡ page_bytes v = omega arith in
    let some = sound.valid.page_words.0 in
    record {
      own = c.own;
      lends = c.lends;
      way = c.way;
      outcome = parts_cover r from to (omega arith)
          (λ i low high. c.each i (subst (λ (s : ℕ). from / s ≤ i) size low) (below i (subst (λ (s : ℕ). i * s < to) size high)));
    }
  where
    below : (i : ℕ) → i * page_bytes v < to → i < n
    below i h = lt_of_not-le (λ (le : n ≤ i). let k : n * page_bytes v ≤ i * page_bytes v = mul-le-mul_right (page_bytes v) le in absurd (omega arith))

-- The parts before n have pages, and n is one of the range.
module _ {v m r : View} {a : ArenaId} {from to n : ℕ} (c : Covering v m a from to n) (low : from / page_bytes v ≤ n) (high : n * page_bytes v < to) where
  -- It gets one.
  pub covering_more : Provided m r a n true → Covering v r a from to (n + 1)
  covering_more t = record {
    own = c.own ++ t.own;
    lends = all_lends true c low high t;
    way = whole_way true c low high t;
    each = λ i l h. one_of i l h (i == n) refl;
  }
    where
      one_of : (i : ℕ) → from / page_bytes v ≤ i → i < n + 1 → (b : Bool) → (i == n) ≡ b → (page : ℕ) × In (mapping_of i page) r.reads
      one_of i l h true e = (t.outcome.0, subst (λ (k : ℕ). In (mapping_of k t.outcome.0) r.reads) (sym (eqb_true i n e)) t.outcome.1)
      one_of i l h false e =
          let d : i ≢ n = eqb_false i n e in
          let had = c.each i l (omega arith) in (had.0, t.way.keeps (mapping_of i had.0) had.1)

  -- It gets none.
  pub covering_lacks : Provided m r a n false → Covered v r a from to false
  covering_lacks t =
      let o = t.outcome in
      record {
        own = c.own ++ t.own;
        lends = all_lends false c low high t;
        way = whole_way false c low high t;
        outcome = record {
          part = n;
          low = low;
          high = high;
          none = record {
            found = all_earlier c.way.goes o.found;
            before = o.before;
            later = o.later;
            since = (
              c.way.goes.more ++ o.since.0,
              o.since.1 ∙ (ap (λ (es : List Entry). es ++ o.since.0) c.way.goes.seen
                  ∙ append_assoc v.seen c.way.goes.more o.since.0),
            );
            seen = o.seen;
            quiet = ap (λ (k : Caller). made_by k o.later) (sym c.way.goes.same_caller) ∙ o.quiet;
            lacked = o.lacked;
            exact = λ h. let e = o.exact (clear_way c.way h) in record {
              all_lent = subst (λ (z : Shape). unlent z.pages (loans_of r.seen) ≡ 0) c.way.goes.same_shape e.all_lent;
              lacks = e.lacks;
            };
          };
        };
      }

-- All parts are done: none is left from the shape's number on.
pub past_reach : (z : Shape) (n to : ℕ) → z.reach ≤ n → to ≤ limit_of z → to ≤ n * (z.page_words * 8)
past_reach z n to h l =
    let k : z.reach * (z.page_words * 8) ≤ n * (z.page_words * 8) = mul-le-mul_right (z.page_words * 8) h in
    let e : z.reach * z.page_words * 8 ≡ z.reach * (z.page_words * 8) = mul_assoc z.reach z.page_words 8 in
    omega arith
