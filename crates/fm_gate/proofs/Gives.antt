-- Allocating inside an arena.
use Rattle.std.proofs.Common.{◌≡◌, ◌≢◌, ℕ, ◌+◌, ◌*◌, ◌/◌, ◌<◌, ◌≤◌, ◌==◌, Bool, true, false, cond, List, [], ◌∷◌, ◌++◌, length, length-append, refl, ap, sym, ◌∙◌, subst, arith, inl, inr, ⊎_elim, All, ne_eqb, append_assoc, ◌⊎◌}
use Rattle.std.proofs.lemmas.List.{append-nil, Elements.{All-append, All-cons, All-head, All-nil, All-tail, All-weaker}}
use Rattle.fm_words.specs.declared.shape.Shape.{Shape}
use Rattle.fm_base.specs.{declared.{caller.Caller.{Caller}, arena_id.ArenaId.{ArenaId}}, Arenas.{State, are_one, arena_of}}
use Rattle.fm_base.specs.{Calls.{Allocate, Fine, Lend, Reply, Entry, entry_of}, Histories.{made_by, state_after}, Machine.{after, allocate_reply, rounded_up}}
use Rattle.fm_base.proofs.Making.{state_after-append}
use Rattle.fm_rule_facts.specs.{Scarcity.{IsScarce}, Steps.{HasParts, Stepped, none_noted, acted, where_found}, Views.{View, In, given_of, limit_of, state_in}}
use Rattle.fm_rule_facts.proofs.Keeping.{in_left}
use Rattle.fm_rule.specs.declared.pool.Pool.{Pool}
use Rattle.fm_rule_calls.specs.Kept.{Goes, rest_of}
use Rattle.fm_pages.{specs.{Covers.{LendsIn}, Gives.{Tried, allocates}, Maps.{Way}}, proofs.{Exact.{tried_exact}, Gives.{way_allocate}}}
use Rattle.fm_pages.proofs.Parts.{way_then, pages_way}
use Rattle.fm_gate.{specs.{Giving.{CanTry, LendsTo}, Pages.{LendsInRange, LendsNow, given_after}, Needs.{IsInside}}, proofs.Scarce.{scarce_seen}}
use Rattle.fm_gate.proofs.Outside.{stands_inside}

-- The pass stays inside on such a way.
pub inside_on : {pool : Pool} {p q : View} {a : ArenaId} {own : List Entry} {pages : List ℕ} → Way p q own pages → IsInside pool p a → IsInside pool q a
inside_on w i = stands_inside w.goes i.of i.no_number (ap (λ (v : View). v.hand) w.is ∙ i.no_slot) (ap (λ (v : View). v.swept) w.is ∙ i.no_part)
    (ap (λ (v : View). v.inside) w.is ∙ i.inside)

-- It has what it had.
pub rest_on : {p q : View} {own : List Entry} → Way p q own [] → p.pages ≡ [] → rest_of q ≡ rest_of p
rest_on {p = p} w none = ap rest_of w.is ∙ (λ j. record (rest_of p) { pages = sym none j })

-- The pass lent pages to the arena, and then made an exchange at a count. Where another one was found, it is the arena's
pub record Giving (pool : Pool) (o p : View) (a : ArenaId) (size align count found : ℕ) : Type 0 where
  pub own : List Entry
  pub are : All (LendsTo o.caller a) own
  pub in_range : All (LendsInRange o p a size align) own
  -- a pass that is known to be whole lends pages only for a range that is within the limit, and then the count is that of this range
  pub now : o.whole ≡ true → All (LendsNow o a size align) own
  pub fitting : o.whole ≡ true → (own ≡ []) ⊎ (rounded_up count align + size ≤ limit_of o.shape)
  pub way : Way o p (own ++ allocates o a count size align found) []
  pub inside : IsInside pool p a
  pub learnt : found ≢ count → found ≡ given_of p a
  -- a pass that is known to be whole finds another one at the first exchange alone, and gives bytes where pages aren't too few
  pub first : o.whole ≡ true → found ≢ count → p.seen ≡ o.seen
  pub exact : o.whole ≡ true → found ≡ count → ¬ (IsScarce o a size align)

-- What is lent stays lent for the range.
lends_on : {o p q : View} {a : ArenaId} {size align : ℕ} {e : Entry} {own : List Entry} → Goes p q own → LendsInRange o p a size align e
    → LendsInRange o q a size align e
lends_on {e = e} w l = record {
  page = l.page;
  part = l.part;
  is = l.is;
  counted = l.counted;
  since = l.since;
  at = l.at;
  later = l.later ++ w.more;
  until = l.until;
  seen = w.seen ∙ (ap (λ (es : List Entry). es ++ w.more) l.seen ∙ append_assoc l.at (e ∷ l.later) w.more);
  in_range = record { fits = l.in_range.fits; after = l.in_range.after; before = l.in_range.before };
}

-- What stands among the entries of one caller stands among all, and there are some before it and some behind it.
in_made : (c : Caller) (es : List Entry) (e : Entry) → In e (made_by c es) → (xs : List Entry) × (ys : List Entry) × (es ≡ xs ++ e ∷ ys)
in_made c [] e i = absurd i
in_made c (x ∷ es) e i = go (in_made c es e) (are_one x.caller c) i
  where
    go : (In e (made_by c es) → (xs : List Entry) × (ys : List Entry) × (es ≡ xs ++ e ∷ ys)) → (b : Bool) → In e (cond b (x ∷ made_by c es) (made_by c es)) → (xs : List Entry) × (ys : List Entry) × (x ∷ es ≡ xs ++ e ∷ ys)
    go rest true (inl q) = ([], es, (λ j. sym q j ∷ es))
    go rest true (inr j) = let y = rest j in (x ∷ y.0, y.1, ap (λ (zs : List Entry). x ∷ zs) y.2)
    go rest false j = let y = rest j in (x ∷ y.0, y.1, ap (λ (zs : List Entry). x ∷ zs) y.2)

-- What is so of each that stands in a list holds of all.
all_in : (P : Entry → Type 0) (xs : List Entry) → ((x : Entry) → In x xs → P x) → All P xs
all_in P [] f = All-nil P
all_in P (x ∷ xs) f = All-cons P x xs (f x (inl refl)) (all_in P xs (λ y i. f y (inr i)))

pub in_all : (P : Entry → Type 0) (xs : List Entry) (x : Entry) → All P xs → In x xs → P x
in_all P [] x h i = absurd i
in_all P (y ∷ xs) x h (inl e) = subst P (sym e) (All-head P y xs h)
in_all P (y ∷ xs) x h (inr i) = in_all P xs x (All-tail P y xs h) i

-- A list with nothing added is the same.
none_more : (xs ys : List Entry) → xs ≡ xs ++ ys → ys ≡ []
none_more xs [] e = refl
none_more xs (y ∷ ys) e = let long = ap length e ∙ length-append xs (y ∷ ys) in absurd (omega arith)

-- where another count was found nothing was given
missed : (o : View) (a : ArenaId) (count size align found : ℕ) → found ≢ count → allocates o a count size align found ≡ []
missed o a count size align found n =
    let reply : Reply = allocate_reply (limit_of o.shape) count size align in
    ap (λ (b : Bool). where_found b (entry_of o.caller (Allocate a size align) reply ∷ [])) (ne_eqb found count n)

abbrev Exchanges : View → View → ℕ → ℕ → ℕ → ℕ → Type 0
Exchanges p q count size align found =
    Stepped p q p
    (where_found (found == count) (acted p.inside p.caller (λ b. Allocate b size align) (allocate_reply (limit_of p.shape) count size align))) none_noted

-- The range of the first count has its parts, by the shape that the pass has then.
pub can_try_parts : {o m : View} {size align count : ℕ} → CanTry o m size align count → rounded_up count align + size ≤ limit_of m.shape
    → HasParts m count (rounded_up count align + size)
can_try_parts {size = size} {align = align} {count = count} c h =
    c.parts (subst (λ (z : Shape). rounded_up count align + size ≤ limit_of z) c.way.goes.same_shape h)

-- The first exchange.
pub gives_begin : {pool : Pool} {o m p : View} (a : ArenaId) (size align count found : ℕ) → IsInside pool o a → CanTry o m size align count
    → Exchanges m p count size align found → (found ≢ count → found ≡ given_of p a) → Giving pool o p a size align count found
gives_begin {pool = pool} {o = o} {m = m} {p = p} a size align count found i c s l = record {
  own = [];
  are = All-nil (LendsTo o.caller a);
  in_range = All-nil (LendsInRange o p a size align);
  now = λ w. All-nil (LendsNow o a size align);
  fitting = λ w. inl refl;
  way = way;
  inside = here;
  learnt = l;
  first = λ w n. way.goes.seen ∙ (ap (λ (es : List Entry). o.seen ++ es) (way.goes.alone w ∙ missed o a count size align found n) ∙ append-nil o.seen);
  exact = tried_exact a count size align found [] (All-nil (LendsIn o a count (rounded_up count align + size))) way here.inside;
}
  where
    same : ◌≡◌ {A = Shape × Caller} (m.shape, m.caller) (o.shape, o.caller)
    same = λ j. (c.way.goes.same_shape j, c.way.goes.same_caller j)

    way : Way o p (allocates o a count size align found) []
    way = way_then c.way (subst (λ (x : Shape × Caller). Way m p (where_found (found == count) (entry_of x.1 (Allocate a size align)
        (allocate_reply (limit_of x.0) count size align) ∷ [])) []) same
        (way_allocate a count size align found (inside_on {pool = pool} c.way i).inside (pages_way c.way) s))

    here : IsInside pool p a
    here = inside_on way i

-- Loans change no arena.
still : (limit : ℕ) (c : Caller) (a : ArenaId) (s : State) (es : List Entry) → All (LendsTo c a) es → state_after limit s es ≡ s
still limit c a s [] h = refl
still limit c a s (e ∷ es) h =
    let f = All-head (LendsTo c a) e es h in
    let one : after limit s e ≡ s = ap (λ (k : Entry). after limit s k) f.2 in
    ap (λ (t : State). state_after limit t es) one ∙ still limit c a s es (All-tail (LendsTo c a) e es h)

pub lends_to : (v : View) (a : ArenaId) (from to : ℕ) (es : List Entry) → All (LendsIn v a from to) es → All (LendsTo v.caller a) es
lends_to v a from to es h = All-weaker (LendsIn v a from to) (LendsTo v.caller a) (λ e l. (l.0, l.1, l.4)) es h

module _ {pool : Pool} {o p : View} {a : ArenaId} {size align count found : ℕ} (g : Giving pool o p a size align count found) (n : found ≢ count) where
  -- the way so far
  pub lent_way : Way o p g.own []
  lent_way = subst (λ (es : List Entry). Way o p es []) (ap (λ (es : List Entry). g.own ++ es) (missed o a count size align found n) ∙ append-nil g.own) g.way

  -- what is lent after it is lent by the same caller
  pub more_lent : (es : List Entry) → All (LendsTo p.caller a) es → All (LendsTo o.caller a) (g.own ++ es)
  more_lent es h = All-append (LendsTo o.caller a) g.own es g.are (subst (λ (c : Caller). All (LendsTo c a) es) g.way.goes.same_caller h)

  -- the count that the next try expects stood before it
  pub count_is : given_after o p.seen a ≡ found
  count_is = (λ j. (arena_of (state_after (limit_of (sym lent_way.goes.same_shape j)) [] p.seen) a).given) ∙ sym (g.learnt n)

  abbrev pub to : ℕ
  to = rounded_up found align + size

  -- What that try lends is lent for the range too.
  pub lends_for : {q : View} {es : List Entry} → Goes p q es → (xs : List Entry) → All (LendsIn p a found to) xs
      → ((x : Entry) → In x xs → In x es) → (xs ≡ []) ⊎ (to ≤ limit_of p.shape) → All (LendsInRange o q a size align) (g.own ++ xs)
  lends_for {q = q} {es = es} w xs h among fits =
      All-append (LendsInRange o q a size align) g.own xs (All-weaker (LendsInRange o p a size align) (LendsInRange o q a size align) (λ e l. lends_on w l)
      g.own g.in_range) (all_in (LendsInRange o q a size align) xs (λ e i. lends_now e i (in_all (LendsIn p a found to) xs e h i)))
    where
      same : ◌≡◌ {A = Shape × ℕ} (p.shape, found) (o.shape, given_after o p.seen a)
      same = λ j. (lent_way.goes.same_shape j, sym count_is j)

      room_for : (e : Entry) → In e xs → to ≤ limit_of p.shape
      room_for e i = ⊎_elim (λ (q : xs ≡ []). absurd (subst (In e) q i)) (λ f. f) fits

      lends_now : (e : Entry) → In e xs → LendsIn p a found to e → LendsInRange o q a size align e
      lends_now e i l =
          let y = in_made p.caller w.more e (subst (In e) (sym w.by_pass) (among e i)) in
          record {
            page = l.0;
            part = l.1;
            is = l.4 ∙ ap (λ (c : Caller). entry_of c (Lend l.0 a l.1) Fine) lent_way.goes.same_caller;
            counted = p.seen;
            since = (lent_way.goes.more, lent_way.goes.seen);
            at = p.seen ++ y.0;
            later = y.1;
            until = (y.0, refl);
            seen = w.seen ∙ (ap (λ (zs : List Entry). p.seen ++ zs) y.2 ∙ sym (append_assoc p.seen y.0 (e ∷ y.1)));
            in_range = record {
              fits = subst (λ (x : Shape × ℕ). rounded_up x.1 align + size ≤ limit_of x.0) same (room_for e i);
              after = subst (λ (x : Shape × ℕ). x.1 / (x.0.page_words * 8) ≤ l.1) same l.2;
              before = subst (λ (x : Shape × ℕ). l.1 * (x.0.page_words * 8) < rounded_up x.1 align + size) same l.3;
            };
          }

  -- a pass that is known to be whole has lent nothing so far
  none_lent : o.whole ≡ true → g.own ≡ []
  none_lent w = sym (lent_way.goes.alone w) ∙ none_more o.seen lent_way.goes.more (sym (g.first w n) ∙ lent_way.goes.seen)

  -- and what the next try lends is for the range that it knew before the call
  pub known_for : o.whole ≡ true → (xs : List Entry) → All (LendsIn p a found to) xs → (xs ≡ []) ⊎ (to ≤ limit_of p.shape)
      → All (LendsNow o a size align) (g.own ++ xs)
  known_for w xs h fits =
      let same : ◌≡◌ {A = Shape × ℕ} (p.shape, found) (o.shape, given_of o a) =
      λ j. (lent_way.goes.same_shape j, (sym count_is ∙ ap (λ (es : List Entry). given_after o es a) (g.first w n)) j) in
      subst (λ (es : List Entry). All (LendsNow o a size align) (es ++ xs)) (sym (none_lent w))
      (all_in (LendsNow o a size align) xs (λ e i.
      let l = in_all (LendsIn p a found to) xs e h i in
      let room : to ≤ limit_of p.shape = ⊎_elim (λ (q : xs ≡ []). absurd (subst (In e) q i)) (λ f. f) fits in
      record {
        page = l.0;
        part = l.1;
        is = ap (λ (x : Entry). x.call) l.4;
        in_range = record {
          fits = subst (λ (x : Shape × ℕ). rounded_up x.1 align + size ≤ limit_of x.0) same room;
          after = subst (λ (x : Shape × ℕ). x.1 / (x.0.page_words * 8) ≤ l.1) same l.2;
          before = subst (λ (x : Shape × ℕ). l.1 * (x.0.page_words * 8) < rounded_up x.1 align + size) same l.3;
        };
      }))

  module _ {q : View} {now : ℕ} (t : Tried p q a found size align now) where
    -- a pass that is known to be whole finds the count that it has learnt
    found_still : o.whole ≡ true → now ≢ found → ⊥
    found_still whole other =
        let w = t.way.goes in
        let limit : ℕ = limit_of p.shape in
        let alone : w.more ≡ t.lends =
        w.alone (g.way.goes.same_whole ∙ whole) ∙ (ap (λ (es : List Entry). t.lends ++ es) (missed p a found size align now other) ∙ append-nil t.lends) in
        let state : state_in q ≡ state_in p =
        (λ j. state_after (limit_of (w.same_shape j)) [] ((w.seen ∙ ap (λ (es : List Entry). p.seen ++ es) alone) j))
        ∙ (state_after-append limit [] p.seen t.lends ∙ still limit p.caller a (state_in p) t.lends (lends_to p a found to t.lends t.are)) in
        other (t.learnt other ∙ (ap (λ (s : State). (arena_of s a).given) state ∙ sym (g.learnt n)))

    -- A try more.
    pub gives_more : Giving pool o q a size align found now
    gives_more =
        let same : ◌≡◌ {A = Shape × Caller} (p.shape, p.caller) (o.shape, o.caller) = (λ j. (lent_way.goes.same_shape j, lent_way.goes.same_caller j)) in
        let next : Way p q (t.lends ++ allocates o a found size align now) [] =
        subst (λ (x : Shape × Caller). Way p q (t.lends ++ where_found (now == found) (entry_of x.1 (Allocate a size align)
        (allocate_reply (limit_of x.0) found size align) ∷ [])) []) same t.way in
        record {
          own = g.own ++ t.lends;
          are = more_lent t.lends (lends_to p a found to t.lends t.are);
          in_range = lends_for t.way.goes t.lends t.are (λ x i. in_left x t.lends (allocates p a found size align now) i) t.fits;
          now = λ w. known_for w t.lends t.are t.fits;
          fitting = λ w. ⊎_elim
              (λ (e : t.lends ≡ []). inl (ap (λ (es : List Entry). es ++ t.lends) (none_lent w) ∙ e))
              (λ (f : to ≤ limit_of p.shape). inr (subst (λ (z : Shape). to ≤ limit_of z) lent_way.goes.same_shape f))
              t.fits;
          way = subst (λ (es : List Entry). Way o q es []) (sym (append_assoc g.own t.lends (allocates o a found size align now))) (way_then lent_way next);
          inside = inside_on t.way g.inside;
          learnt = t.learnt;
          first = λ w other. absurd (found_still w other);
          exact = λ w e s. t.exact (lent_way.goes.same_whole ∙ w) e (scarce_seen lent_way.goes.same_shape (g.first w n) s);
        }
