-- Words and what is decoded from them: distinct places are distinct words, and one word that is set is one place of what is decoded.
use Rattle.std.proofs.Common.{◌≡◌, ◌≢◌, ℕ, ◌<◌, List, length, get_or, set, Option, sym, refl, ap, ◌∙◌, subst, arith, length-set, get_or-set_other, get_or-set_same}
use mathlib.Core.Logic.{dite}
use native.Mathlib.Decide.{ℕ_discrete}
use lib.Seq.{set-get_or}
use Rattle.fm_words.specs.{declared.shape.Shape.{Shape}, Shapes.{IsValid}}
use Rattle.fm_words.specs.Places.{Place, IsPlace, at, front as front_place, draw as draw_place, slot_bits as bits_place, page_bits as page_bits_place, page_groups, mark, session, given as given_place, map, page_word, words as word_count, number_bits, term, groups}
use Rattle.fm_words.proofs.Tables.{at-within, at-apart}
use Rattle.fm_base.specs.declared.arena_id.ArenaId.{ArenaId}
use Rattle.fm_base_machine.{specs.Functions.{put}, proofs.Putting.{put_here, put_else}}
use Rattle.fm_rule_facts.{proofs.Putting.{two_cases}, specs.{Words.{own_word}, Facts.{PoolWords, Session, session_code, own_map, Shows}}}

-- ---- places

-- what a word says
data Spot : Type 0 where
  fronted : Spot
  drawn : Spot
  bits : Spot
  page_spot : ℕ → Spot
  marked : ℕ → Spot
  seated : ℕ → Spot
  counted : ℕ → Spot
  mapping : ℕ → ℕ → Spot
  numbered : ℕ → Spot
  termed : ℕ → Spot
  cell : ℕ → ℕ → Spot

spot_at : Shape → Spot → ℕ
spot_at z fronted = at z front_place
spot_at z drawn = at z draw_place
spot_at z bits = at z bits_place
spot_at z (page_spot g) = at z (page_bits_place g)
spot_at z (marked k) = at z (mark k)
spot_at z (seated s) = at z (session s)
spot_at z (counted s) = at z (given_place s)
spot_at z (mapping s i) = at z (map s i)
spot_at z (numbered g) = at z (number_bits g)
spot_at z (termed k) = at z (term k)
spot_at z (cell p w) = at z (page_word p w)

IsSpot : Shape → Spot → Type 0
IsSpot z fronted = Unit {0}
IsSpot z drawn = Unit {0}
IsSpot z bits = Unit {0}
IsSpot z (page_spot g) = g < page_groups z
IsSpot z (marked k) = k < z.passes
IsSpot z (seated s) = s < z.slots
IsSpot z (counted s) = s < z.slots
IsSpot z (mapping s i) = (s < z.slots) × (i < z.reach)
IsSpot z (numbered g) = g < groups z
IsSpot z (termed k) = k < z.passes
IsSpot z (cell p w) = (p < z.pages) × (w < z.page_words)

word_of : Shape → PoolWords → Spot → ℕ
word_of z m fronted = 0
word_of z m drawn = m.draw
word_of z m bits = m.bits
word_of z m (page_spot g) = m.page_bits g
word_of z m (marked k) = own_word (m.marks k)
word_of z m (seated s) = session_code z.generations (m.sessions s) (m.counts s)
word_of z m (counted s) = m.given s
word_of z m (mapping s i) = own_map (m.maps s i)
word_of z m (numbered g) = m.numbers g
word_of z m (termed k) = m.terms k
word_of z m (cell p w) = m.cells p w

-- the place of a spot
place_of : Spot → Place
place_of fronted = front_place
place_of drawn = draw_place
place_of bits = bits_place
place_of (page_spot g) = page_bits_place g
place_of (marked k) = mark k
place_of (seated s) = session s
place_of (counted s) = given_place s
place_of (mapping s i) = map s i
place_of (numbered g) = number_bits g
place_of (termed k) = term k
place_of (cell p w) = page_word p w

spot_is : (z : Shape) (p : Spot) → spot_at z p ≡ at z (place_of p)
unfolding spot_at place_of
spot_is z fronted = refl
spot_is z drawn = refl
spot_is z bits = refl
spot_is z (page_spot g) = refl
spot_is z (marked k) = refl
spot_is z (seated s) = refl
spot_is z (counted s) = refl
spot_is z (mapping s i) = refl
spot_is z (numbered g) = refl
spot_is z (termed k) = refl
spot_is z (cell p w) = refl

spot_place : (z : Shape) (p : Spot) → IsSpot z p → IsPlace z (place_of p)
unfolding IsSpot place_of
spot_place z fronted h = tt
spot_place z drawn h = tt
spot_place z bits h = tt
spot_place z (page_spot g) h = h
spot_place z (marked k) h = h
spot_place z (seated s) h = h
spot_place z (counted s) h = h
spot_place z (mapping s i) h = h
spot_place z (numbered g) h = h
spot_place z (termed k) h = h
spot_place z (cell p w) h = h

same_spot_of : (p q : Spot) → place_of p ≡ place_of q → p ≡ q
unfolding place_of
same_spot_of fronted fronted e = refl
same_spot_of drawn drawn e = refl
same_spot_of bits bits e = refl
same_spot_of (page_spot g) (page_spot i) e = let h : g ≡ i = cc in ap page_spot h
same_spot_of (marked k) (marked i) e = let h : k ≡ i = cc in ap marked h
same_spot_of (seated k) (seated i) e = let h : k ≡ i = cc in ap seated h
same_spot_of (counted k) (counted i) e = let h : k ≡ i = cc in ap counted h
same_spot_of (mapping s i) (mapping t j) e = let h : s ≡ t = cc in let g : i ≡ j = cc in λ n. mapping (h n) (g n)
same_spot_of (numbered k) (numbered i) e = let h : k ≡ i = cc in ap numbered h
same_spot_of (termed k) (termed i) e = let h : k ≡ i = cc in ap termed h
same_spot_of (cell s i) (cell t j) e = let h : s ≡ t = cc in let g : i ≡ j = cc in λ n. cell (h n) (g n)
same_spot_of _ _ e = absurd (cc)

spot_one : (z : Shape) (p q : Spot) → IsSpot z p → IsSpot z q → spot_at z p ≡ spot_at z q → p ≡ q
spot_one z p q a b e = same_spot_of p q (at-apart z (place_of p) (place_of q) (spot_place z p a) (spot_place z q b) (sym (spot_is z p) ∙ (e ∙ spot_is z q)))

spot_below : (z : Shape) (p : Spot) → IsValid z → IsSpot z p → spot_at z p < word_count z
spot_below z p v h = subst (λ (i : ℕ). i < word_count z) (sym (spot_is z p)) (at-within z (place_of p) (spot_place z p h))

-- ---- words that are set

same_spot : (z : Shape) (p q : Spot) → IsSpot z p → IsSpot z q → Dec (q ≡ p)
same_spot z p q a b = dite (ℕ_discrete (spot_at z q) (spot_at z p)) (λ e. yes (spot_one z q p b a e)) (λ n. no (λ e. n (ap (spot_at z) e)))

shown : (z : Shape) (ws : List ℕ) (m : PoolWords) → Shows z ws m → (p : Spot) → IsSpot z p → get_or ws (spot_at z p) 0 ≡ word_of z m p
unfolding spot_at IsSpot word_of
shown z ws m r fronted h = r.front
shown z ws m r drawn h = r.draw
shown z ws m r bits h = r.slot_bits
shown z ws m r (page_spot g) h = r.page_bits g h
shown z ws m r (marked k) h = r.marks k h
shown z ws m r (seated s) h = r.sessions s h
shown z ws m r (counted s) h = r.given s h
shown z ws m r (mapping s i) h = r.maps s i h.0 h.1
shown z ws m r (numbered g) h = r.numbers g h
shown z ws m r (termed k) h = r.terms k h
shown z ws m r (cell s w) h = r.cells s w h.0 h.1

shows_by : (z : Shape) (ws : List ℕ) (m : PoolWords) → length ws ≡ word_count z
    → ((p : Spot) → IsSpot z p → get_or ws (spot_at z p) 0 ≡ word_of z m p) → Shows z ws m
unfolding spot_at IsSpot word_of
shows_by z ws m w f = record {
  wide = w;
  front = f fronted tt;
  draw = f drawn tt;
  slot_bits = f bits tt;
  page_bits = λ g h. f (page_spot g) h;
  numbers = λ g h. f (numbered g) h;
  terms = λ k h. f (termed k) h;
  marks = λ k h. f (marked k) h;
  sessions = λ s h. f (seated s) h;
  given = λ s h. f (counted s) h;
  maps = λ s i a b. f (mapping s i) (a, b);
  cells = λ s w a b. f (cell s w) (a, b);
}

module _ (z : Shape) (v : IsValid z) (ws : List ℕ) (m : PoolWords) (r : Shows z ws m) where
  -- what is decoded differs at one place
  one_set : (m' : PoolWords) (p : Spot) (x : ℕ) → IsSpot z p → word_of z m' p ≡ x
      → ((q : Spot) → q ≢ p → word_of z m' q ≡ word_of z m q) → Shows z (set ws (spot_at z p) x) m'
  one_set m' p x h here others = shows_by z (set ws (spot_at z p) x) m' (length-set ws (spot_at z p) x ∙ r.wide) (λ q i. dite (same_spot z p q h i)
      (λ e. ap (λ (c : Spot). get_or (set ws (spot_at z p) x) (spot_at z c) 0) e
      ∙ (get_or-set_same ws (spot_at z p) x 0 (let b = spot_below z p v h in let w = r.wide in omega arith) ∙ (sym here ∙ sym (ap (word_of z m') e))))
      (λ n. get_or-set_other ws (spot_at z p) (spot_at z q) x 0 (λ e. n (spot_one z q p i h e)) ∙ (shown z ws m r q i ∙ sym (others q n))))

  -- a word that is set to itself
  pub shows_same : (i : ℕ) → Shows z (set ws i (get_or ws i 0)) m
  shows_same i = subst (λ (l : List ℕ). Shows z l m) (sym (set-get_or ws i 0)) r

  pub shows_mark : (k : ℕ) (x : Option ArenaId) → k < z.passes → Shows z (set ws (at z (mark k)) (own_word x)) (record m { marks = put m.marks k x })
  unfolding spot_at IsSpot word_of
  shows_mark k x h = one_set (record m { marks = put m.marks k x }) (marked k) (own_word x) h (ap own_word (put_here m.marks k x)) others
    where
      others : (q : Spot) → q ≢ marked k → word_of z (record m { marks = put m.marks k x }) q ≡ word_of z m q
      others (marked i) n = ap own_word (put_else m.marks k x i (λ e. n (ap marked e)))
      others q n = refl

  pub shows_session : (k : ℕ) (x : Session) (c : ℕ) → k < z.slots
      → Shows z (set ws (at z (session k)) (session_code z.generations x c)) (record m { sessions = put m.sessions k x; counts = put m.counts k c })
  unfolding spot_at IsSpot word_of
  shows_session k x c h = one_set (record m { sessions = put m.sessions k x; counts = put m.counts k c }) (seated k) (session_code z.generations x c) h
      (λ j. session_code z.generations (put_here m.sessions k x j) (put_here m.counts k c j)) others
    where
      others : (q : Spot) → q ≢ seated k → word_of z (record m { sessions = put m.sessions k x; counts = put m.counts k c }) q ≡ word_of z m q
      others (seated i) n = λ j.
          session_code z.generations (put_else m.sessions k x i (λ e. n (ap seated e)) j) (put_else m.counts k c i (λ e. n (ap seated e)) j)
      others q n = refl

  pub shows_cell : (k c x : ℕ) → k < z.pages → c < z.page_words
      → Shows z (set ws (at z (page_word k c)) x) (record m { cells = put m.cells k (put (m.cells k) c x) })
  unfolding spot_at IsSpot word_of
  shows_cell k c x h l = one_set (record m { cells = put m.cells k (put (m.cells k) c x) }) (cell k c) x (h, l)
      ((λ j. put_here m.cells k (put (m.cells k) c x) j c) ∙ put_here (m.cells k) c x) others
    where
      others : (q : Spot) → q ≢ cell k c → word_of z (record m { cells = put m.cells k (put (m.cells k) c x) }) q ≡ word_of z m q
      others (cell s w) n = two_cases m.cells k c x s w (λ (y : ℕ). y ≡ m.cells s w) (λ e f. absurd (n (λ j. cell (e j) (f j)))) (λ e. refl)
      others q n = refl

  pub shows_map : (k c : ℕ) (x : Option ℕ) → k < z.slots → c < z.reach
      → Shows z (set ws (at z (map k c)) (own_map x)) (record m { maps = put m.maps k (put (m.maps k) c x) })
  unfolding spot_at IsSpot word_of
  shows_map k c x h l = one_set (record m { maps = put m.maps k (put (m.maps k) c x) }) (mapping k c) (own_map x) (h, l)
      (ap own_map ((λ j. put_here m.maps k (put (m.maps k) c x) j c) ∙ put_here (m.maps k) c x)) others
    where
      others : (q : Spot) → q ≢ mapping k c → word_of z (record m { maps = put m.maps k (put (m.maps k) c x) }) q ≡ word_of z m q
      others (mapping s w) n =
          two_cases m.maps k c x s w (λ (y : Option ℕ). own_map y ≡ own_map (m.maps s w)) (λ e f. absurd (n (λ j. mapping (e j) (f j)))) (λ e. refl)
      others q n = refl

  pub shows_page_bits : (g x : ℕ) → g < page_groups z → Shows z (set ws (at z (page_bits_place g)) x) (record m { page_bits = put m.page_bits g x })
  unfolding spot_at IsSpot word_of
  shows_page_bits g x h = one_set (record m { page_bits = put m.page_bits g x }) (page_spot g) x h (put_here m.page_bits g x) others
    where
      others : (q : Spot) → q ≢ page_spot g → word_of z (record m { page_bits = put m.page_bits g x }) q ≡ word_of z m q
      others (page_spot i) n = put_else m.page_bits g x i (λ e. n (ap page_spot e))
      others q n = refl

  pub shows_count : (k c : ℕ) → k < z.slots
      → Shows z (set ws (at z (session k)) (session_code z.generations (m.sessions k) c)) (record m { counts = put m.counts k c })
  unfolding spot_at IsSpot word_of
  shows_count k c h = one_set (record m { counts = put m.counts k c }) (seated k) (session_code z.generations (m.sessions k) c) h
      (ap (session_code z.generations (m.sessions k)) (put_here m.counts k c)) others
    where
      others : (q : Spot) → q ≢ seated k → word_of z (record m { counts = put m.counts k c }) q ≡ word_of z m q
      others (seated i) n = ap (session_code z.generations (m.sessions i)) (put_else m.counts k c i (λ e. n (ap seated e)))
      others q n = refl

  pub shows_given : (k c : ℕ) → k < z.slots → Shows z (set ws (at z (given_place k)) c) (record m { given = put m.given k c })
  unfolding spot_at IsSpot word_of
  shows_given k c h = one_set (record m { given = put m.given k c }) (counted k) c h (put_here m.given k c) others
    where
      others : (q : Spot) → q ≢ counted k → word_of z (record m { given = put m.given k c }) q ≡ word_of z m q
      others (counted i) n = put_else m.given k c i (λ e. n (ap counted e))
      others q n = refl

  pub shows_draw : (n : ℕ) → Shows z (set ws (at z draw_place) n) (record m { draw = n })
  unfolding spot_at IsSpot word_of
  shows_draw n = one_set (record m { draw = n }) drawn n tt refl others
    where
      others : (q : Spot) → q ≢ drawn → word_of z (record m { draw = n }) q ≡ word_of z m q
      others drawn ne = absurd (ne refl)
      others q ne = refl

  pub shows_bits : (n : ℕ) → Shows z (set ws (at z bits_place) n) (record m { bits = n })
  unfolding spot_at IsSpot word_of
  shows_bits n = one_set (record m { bits = n }) bits n tt refl others
    where
      others : (q : Spot) → q ≢ bits → word_of z (record m { bits = n }) q ≡ word_of z m q
      others bits ne = absurd (ne refl)
      others q ne = refl

  pub shows_numbers : (g x : ℕ) → g < groups z → Shows z (set ws (at z (number_bits g)) x) (record m { numbers = put m.numbers g x })
  unfolding spot_at IsSpot word_of
  shows_numbers g x h = one_set (record m { numbers = put m.numbers g x }) (numbered g) x h (put_here m.numbers g x) others
    where
      others : (q : Spot) → q ≢ numbered g → word_of z (record m { numbers = put m.numbers g x }) q ≡ word_of z m q
      others (numbered i) n = put_else m.numbers g x i (λ e. n (ap numbered e))
      others q n = refl

  pub shows_term : (k x : ℕ) → k < z.passes → Shows z (set ws (at z (term k)) x) (record m { terms = put m.terms k x })
  unfolding spot_at IsSpot word_of
  shows_term k x h = one_set (record m { terms = put m.terms k x }) (termed k) x h (put_here m.terms k x) others
    where
      others : (q : Spot) → q ≢ termed k → word_of z (record m { terms = put m.terms k x }) q ≡ word_of z m q
      others (termed i) n = put_else m.terms k x i (λ e. n (ap termed e))
      others q n = refl
