-- What is learnt of allocating inside an arena.
use Rattle.std.proofs.Common.{◌≡◌, ◌≢◌, ℕ, ◌+◌, ◌*◌, ◌/◌, ◌<◌, ◌≤◌, nat_le, Bool, true, false, if◌then◌else◌, List, [], ◌∷◌, ◌++◌, refl, ap, sym, ◌∙◌, subst, inl, inr, ⊎_elim, Some, None, Result, Ok, Err, eq-eqb, append_assoc}
use Rattle.std.proofs.lemmas.{Bool.{le-leb}, List.{append-nil}}
use Rattle.fm_words.specs.declared.shape.Shape.{Shape}
use Rattle.fm_base.specs.declared.{caller.Caller.{Caller}, arena_id.ArenaId.{ArenaId}, refusal.Refusal.{Refusal}}
use Rattle.fm_base.specs.{Calls.{Allocate, Reply, Given, NoRoom, Entry, entry_of}, Histories.{made_by}, Machine.{allocate_reply, rounded_up}, View.{is_loan}}
use Rattle.fm_base.specs.declared.refusal.Refusal.TheVariants as refusal
use Rattle.fm_rule_facts.{specs.{Steps.{where_found, room}, Views.{View, In, limit_of}}, proofs.Keeping.{in_append}}
use Rattle.fm_rule.specs.declared.pool.Pool.{Pool}
use Rattle.fm_pages.{specs.{Gives.{Unpaged}, Maps.{Way}}, proofs.{Looking.{all_earlier}, Parts.{way_then, pages_way}}}
use Rattle.fm_gate.specs.{Giving.{DoesGive, NonePaged, AfterGive}, Pages.{FullExactly, IsInRange, LendsFirst, LendsNow, given_after}}
use Rattle.fm_gate.proofs.{Gives.{Giving, count_is, in_all, inside_on, known_for, rest_on, lends_for, lent_way, lends_to, more_lent}, Scarce.{scarce_seen, clear}}

-- ---- the reply

given_reply : (limit given size align place : ℕ) → Some place ≡ room limit given size align → allocate_reply limit given size align ≡ Given place
given_reply limit given size align place = go (nat_le (rounded_up given align + size) limit)
  where
    go : (b : Bool) → Some place ≡ (if b then Some (rounded_up given align) else None)
        → (if b then Given (rounded_up given align) else NoRoom given) ≡ Given place
    go true e = ap Given (let q : rounded_up given align ≡ place = cc in q)
    go false e = absurd (cc)

full_reply : (limit given size align : ℕ) → None ≡ room limit given size align → allocate_reply limit given size align ≡ NoRoom given
full_reply limit given size align = go (nat_le (rounded_up given align + size) limit)
  where
    go : (b : Bool) → None ≡ (if b then Some (rounded_up given align) else None) → (if b then Given (rounded_up given align) else NoRoom given) ≡ NoRoom given
    go true e = absurd (cc)
    go false e = refl

past : (limit count size align : ℕ) → None ≡ room limit count size align → rounded_up count align + size ≤ limit → ⊥
past limit count size align r h = go (nat_le (rounded_up count align + size) limit) (le-leb (rounded_up count align + size) limit h) r
  where
    go : (b : Bool) → b ≡ true → None ≡ (if b then Some (rounded_up count align) else None) → ⊥
    go true e q = absurd (cc)
    go false e q = absurd (cc)

abbrev full : Result ℕ Refusal
full = Err refusal.PoolFull

module _ {pool : Pool} {o p : View} {a : ArenaId} {size align count found : ℕ} (g : Giving pool o p a size align count found) (none : o.pages ≡ []) where
  -- ---- the count was found

  module _ (limit : ℕ) (e : found ≡ count) (lim : limit ≡ limit_of pool.shape) where
    limit_is : limit ≡ limit_of o.shape
    limit_is = lim ∙ (ap limit_of (sym g.inside.of.1) ∙ ap limit_of g.way.goes.same_shape)

    -- the exchange lends nothing
    no_loan : (reply : Reply) (x : Entry) → In x (entry_of o.caller (Allocate a size align) reply ∷ []) → is_loan x.call ≡ true → ⊥
    no_loan reply x (inl i) loan = let call : x.call ≡ Allocate a size align = ap (λ (k : Entry). k.call) i in absurd (cc)
    no_loan reply x (inr i) loan = i

    -- the exchange was answered so
    answered : (reply : Reply) → allocate_reply (limit_of o.shape) count size align ≡ reply
        → Way o p (g.own ++ entry_of o.caller (Allocate a size align) reply ∷ []) []
    answered reply is =
        subst (λ (x : Bool × Reply). Way o p (g.own ++ where_found x.0 (entry_of o.caller (Allocate a size align) x.1 ∷ [])) [])
        (λ j. (eq-eqb found count e j, is j)) g.way

    -- All loans came before it.
    known_before : o.whole ≡ true → (reply : Reply) (x : Entry) → In x (g.own ++ entry_of o.caller (Allocate a size align) reply ∷ [])
        → is_loan x.call ≡ true → LendsNow o a size align x
    known_before w reply x i loan = ⊎_elim (λ l. in_all (LendsNow o a size align) g.own x (g.now w) l)
        (λ r. absurd (no_loan reply x r loan)) (in_append x g.own (entry_of o.caller (Allocate a size align) reply ∷ []) i)

    -- What is learnt of such an answer.
    after_exchange : (reply : Reply) (result : Result ℕ Refusal) → allocate_reply (limit_of o.shape) count size align ≡ reply
        → DoesGive o.caller a size align result (g.own ++ entry_of o.caller (Allocate a size align) reply ∷ []) → result ≢ full
        → (o.whole ≡ true → FullExactly o a size align result)
        → LendsFirst o p a size align result (g.own ++ entry_of o.caller (Allocate a size align) reply ∷ [])
        → (o.whole ≡ true → (given : ℕ) → result ≡ Err (refusal.NoRoom given)
        → g.own ++ entry_of o.caller (Allocate a size align) reply ∷ [] ≡ entry_of o.caller (Allocate a size align) (NoRoom given) ∷ [])
        → AfterGive pool o p a size align result
    after_exchange reply result is does some exact lends no_room =
        let w = answered reply is in
        record {
          did = record { own = g.own ++ entry_of o.caller (Allocate a size align) reply ∷ []; does = does; goes = w.goes; rest = rest_on w none };
          inside = g.inside;
          no_page = λ q. absurd (some q);
          exact = λ w c s. exact w;
          lends = lends;
          now = λ w x i loan. known_before w reply x i loan;
          no_room = no_room;
        }

    -- What is learnt where the range fits.
    pub after_fits : (place : ℕ) → Some place ≡ room limit count size align → AfterGive pool o p a size align (Ok place)
    after_fits place r = after_exchange (Given place) (Ok place)
        (given_reply (limit_of o.shape) count size align place (r ∙ ap (λ (n : ℕ). room n count size align) limit_is))
        (record { lends = g.own; are = g.are; is = refl }) (λ q. absurd (cc)) (λ w. g.exact w e)
        (record { lends = g.own; are = g.in_range; is = refl }) (λ w given q. absurd (cc))

    -- And where it doesn't.
    pub after_past : None ≡ room limit count size align → AfterGive pool o p a size align (Err (refusal.NoRoom count))
    after_past r = after_exchange (NoRoom count) (Err (refusal.NoRoom count))
        (full_reply (limit_of o.shape) count size align (r ∙ ap (λ (n : ℕ). room n count size align) limit_is))
        (record { lends = g.own; are = g.are; is = refl }) (λ q. absurd (cc)) (λ w. g.exact w e)
        (record { lends = g.own; are = g.in_range; is = refl })
        (λ w given q. ⊎_elim
        (λ (e : g.own ≡ []). λ j. e j ++ entry_of o.caller (Allocate a size align) (NoRoom (let same : count ≡ given = cc in same j)) ∷ [])
        (λ (f : rounded_up count align + size ≤ limit_of o.shape). absurd (past (limit_of o.shape) count size align
        (r ∙ ap (λ (n : ℕ). room n count size align) limit_is) f))
        (g.fitting w))

  -- ---- no page was free

  module _ {q : View} (n : found ≢ count) (u : Unpaged p q a found size align) where
    before : Way o p g.own []
    before = lent_way g n

    whole_way : Way o q (g.own ++ u.lends) []
    whole_way = way_then before u.way

    in_range : IsInRange o (given_after o p.seen a) size align u.lacks.part
    in_range =
        let same : ◌≡◌ {A = Shape × ℕ} (p.shape, found) (o.shape, given_after o p.seen a) = (λ j. (before.goes.same_shape j, sym (count_is g n) j)) in
        record {
          fits = subst (λ (x : Shape × ℕ). rounded_up x.1 align + size ≤ limit_of x.0) same u.fits;
          after = subst (λ (x : Shape × ℕ). x.1 / (x.0.page_words * 8) ≤ u.lacks.part) same u.lacks.low;
          before = subst (λ (x : Shape × ℕ). u.lacks.part * (x.0.page_words * 8) < rounded_up x.1 align + size) same u.lacks.high;
        }

    none_paged : NonePaged o q a size align
    none_paged =
        let x = u.lacks.none in
        record {
          found = all_earlier before.goes x.found;
          lacked = record {
            counted = p.seen;
            count_stood = record { since = (before.goes.more, before.goes.seen); until = (u.way.goes.more, u.way.goes.seen) };
            part = u.lacks.part;
            in_range = in_range;
            at = x.before;
            later = x.later;
            at_stood = record {
              since = (
                before.goes.more ++ x.since.0,
                x.since.1 ∙ (ap (λ (es : List Entry). es ++ x.since.0) before.goes.seen ∙ append_assoc o.seen before.goes.more x.since.0),
              );
              until = (x.later, x.seen);
            };
            seen = x.seen;
            lacked = x.lacked;
            own = subst (λ (c : Caller). made_by c x.later ≡ []) before.goes.same_caller x.quiet;
          };
        }

    -- What is learnt then.
    pub after_unpaged : AfterGive pool o q a size align full
    after_unpaged = record {
      did = record {
        own = g.own ++ u.lends;
        does = more_lent g n u.lends (lends_to p a found (rounded_up found align + size) u.lends u.are);
        goes = whole_way.goes;
        rest = rest_on whole_way none;
      };
      inside = inside_on u.way g.inside;
      no_page = λ e. none_paged;
      lends = record {
        lends = g.own ++ u.lends;
        are = lends_for g n u.way.goes u.lends u.are (λ x i. i) (inr u.fits);
        is = sym (append-nil (g.own ++ u.lends));
      };
      no_room = λ w given e. absurd (cc);
      now = λ w e i loan. in_all (LendsNow o a size align) (g.own ++ u.lends) e (known_for g n w u.lends u.are (inr u.fits)) i;
      exact = λ w c s.
          scarce_seen (sym before.goes.same_shape) (sym (g.first w n))
          (u.exact (clear p (before.goes.same_whole ∙ w) g.inside.no_slot (pages_way before) (ap (λ (v : View). v.closes) before.is ∙ c)
          (ap (λ (v : View). v.sweeps) before.is ∙ s)) (g.learnt n));
    }
