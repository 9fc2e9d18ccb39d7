-- One try to give bytes.
use Rattle.std.proofs.Common.{◌≡◌, ◌≢◌, ℕ, ◌+◌, ◌==◌, ◌≤◌, Bool, true, false, if◌then◌else◌, List, [], ◌∷◌, ◌++◌, refl, ap, sym, ◌∙◌, subst, inl, inr, Option, Some, None}
use Rattle.std.{proofs.lemmas.{List.Elements.{All-nil}, Bool.{leb-true}}, specs.Prelude.{nat_le}}
use Rattle.fm_words.specs.declared.shape.Shape.{Shape}
use Rattle.fm_base.specs.{declared.{caller.Caller.{Caller}, arena_id.ArenaId.{ArenaId}}, Calls.{Reply, Allocate, entry_of}}
use Rattle.fm_base.specs.{Machine.{rounded_up, allocate_reply}, Histories.{made_by}, View.{inside_after}}
use Rattle.fm_rule_facts.specs.{Parts.{Mapping}, Views.{View, In, limit_of, given_of}, Steps.{Stepped, none_noted, where_found, acted, room}}
use Rattle.fm_rule_calls.proofs.Going.{goes_step, no_draws, made_by-one}
use Rattle.fm_pages.{specs.{Maps.{Way}, Covers.{Covered, LendsIn}, Gives.{Tried, Unpaged, allocates}}, proofs.Exact.{tried_exact, unpaged_exact}}
use Rattle.fm_pages.proofs.Parts.{way_then, pages_way}

-- ---- the exchange

inside_same : (b : Bool) (now : Option ArenaId) (c : Caller) (a : ArenaId) (size align : ℕ) (reply : Reply)
    → now ≡ inside_after now (where_found b (entry_of c (Allocate a size align) reply ∷ []))
inside_same true now c a size align reply = refl
inside_same false now c a size align reply = refl

made_same : (b : Bool) (c : Caller) (a : ArenaId) (size align : ℕ) (reply : Reply)
    → made_by c (where_found b (entry_of c (Allocate a size align) reply ∷ [])) ≡ where_found b (entry_of c (Allocate a size align) reply ∷ [])
made_same true c a size align reply = made_by-one c (Allocate a size align) reply
made_same false c a size align reply = refl

abbrev Exchanges : View → View → ℕ → ℕ → ℕ → ℕ → Type 0
Exchanges p q count size align found =
    Stepped p q p
    (where_found (found == count) (acted p.inside p.caller (λ b. Allocate b size align) (allocate_reply (limit_of p.shape) count size align))) none_noted

-- ---- what room says

pub room_some : (limit count size align place : ℕ) → Some place ≡ room limit count size align
    → (place ≡ rounded_up count align) × (rounded_up count align + size ≤ limit)
room_some limit count size align place = go (nat_le (rounded_up count align + size) limit) refl
  where
    go : (b : Bool) → nat_le (rounded_up count align + size) limit ≡ b → Some place ≡ (if b then Some (rounded_up count align) else None)
        → (place ≡ rounded_up count align) × (rounded_up count align + size ≤ limit)
    go true f e = ((let q : place ≡ rounded_up count align = cc in q), leb-true _ _ f)
    go false f e = absurd (cc)

-- ---- a try

module _ {p q : View} (a : ArenaId) (count size align found : ℕ) (ins : p.inside ≡ Some a) (none : p.pages ≡ [])
    (s : Exchanges p q count size align found) where
  -- The exchange as the pass's way.
  pub way_allocate : Way p q (allocates p a count size align found) []
  way_allocate =
      let reply : Reply = allocate_reply (limit_of p.shape) count size align in
      let t : Stepped p q p (allocates p a count size align found) none_noted =
      subst (λ (i : Option ArenaId). Stepped p q p (where_found (found == count) (acted i p.caller (λ b. Allocate b size align) reply)) none_noted) ins s in
      record {
        goes = goes_step t refl (inside_same (found == count) p.inside p.caller a size align reply)
            (made_same (found == count) p.caller a size align reply) no_draws;
        is = t.is_part ∙ (λ j. record p {
          seen = q.seen;
          finds = sym (ap (λ (v : View). v.finds) t.is_part) j;
          reads = sym (ap (λ (v : View). v.reads) t.is_part) j;
          pages = none j;
        });
        keeps = λ m k. subst (λ (ms : List Mapping). In m ms) (sym (ap (λ (v : View). v.reads) t.is_part)) k;
      }

  -- It is a try that lends nothing.
  pub tried_past : (found ≢ count → found ≡ given_of q a) → Tried p q a count size align found
  tried_past l = record {
    lends = [];
    fits = inl refl;
    are = All-nil (LendsIn p a count (rounded_up count align + size));
    way = way_allocate;
    learnt = l;
    exact = tried_exact a count size align found [] (All-nil (LendsIn p a count (rounded_up count align + size)))
        (way_allocate) (ap (λ (v : View). v.inside) s.is_part ∙ ins);
  }

pub tried_covered : {p m q : View} (a : ArenaId) (count size align found : ℕ) → p.inside ≡ Some a
    → rounded_up count align + size ≤ limit_of p.shape → Covered p m a count (rounded_up count align + size) true → Exchanges m q count size align found
    → (found ≢ count → found ≡ given_of q a) → Tried p q a count size align found
tried_covered {p = p} {m = m} {q = q} a count size align found ins fits c s l =
    let inside : m.inside ≡ Some a = ap (λ (v : View). v.inside) c.way.is ∙ ins in
    let w = way_allocate a count size align found inside (pages_way c.way) s in
    let same : (m.shape, m.caller) ≡ (p.shape, p.caller) = (λ j. (c.way.goes.same_shape j, c.way.goes.same_caller j)) in
    let all : Way p q (c.own ++ allocates p a count size align found) [] =
    way_then c.way (subst (λ (x : Shape × Caller). Way m q (where_found (found == count) (entry_of x.1 (Allocate a size align)
    (allocate_reply (limit_of x.0) count size align) ∷ [])) []) same w) in
    record {
      lends = c.own;
      are = c.lends;
      fits = inr fits;
      way = all;
      learnt = l;
      exact = tried_exact a count size align found c.own c.lends all (ap (λ (v : View). v.inside) s.is_part ∙ inside);
    }

pub tried_unpaged : {p m : View} (a : ArenaId) (count size align : ℕ) → rounded_up count align + size ≤ limit_of p.shape
    → Covered p m a count (rounded_up count align + size) false → Unpaged p m a count size align
tried_unpaged a count size align fits c = record {
  fits = fits;
  lends = c.own;
  are = c.lends;
  way = c.way;
  lacks = c.outcome;
  exact = unpaged_exact a count size align c.own fits c.lends c.way c.outcome;
}
