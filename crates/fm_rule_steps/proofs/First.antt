-- The rule of a new pool.
use Rattle.std.proofs.Common.{◌≡◌, ◌≢◌, ℕ, zero, suc, ◌+◌, ◌-◌, ◌<◌, Bool, if◌then◌else◌, List, [], ◌∷◌, length, set, get_or, replicate, None, sym, refl, ap, ◌∙◌, subst, arith, inl, inr, ⊎_elim, ne_eqb, length-set, get_or-set_other, get_or-set_same, ◌≤◌}
use Rattle.std.{specs.Int.{bit_at}, proofs.lemmas.{Nat.Bits.{bit_at_ones, bit_at_ones_above}, Bool.{cases_lt}}}
use mathlib.Core.Option.{some, some-injective, some-ne-none}
use lib.ListN.{get_elem?, length-replicate}
use Rattle.fm_words.specs.{declared.shape.Shape.{Shape}, Shapes.{IsValid}}
use Rattle.fm_words.specs.Places.{page_bits as page_bits_place, page_groups, map, page_word, at as place_at, front, slot_bits, mark, session, given as given_place, words as word_count, number_bits, term, groups}
use Rattle.fm_words.specs.{Sessions.{session_word}, Bits.{ones}}
use Rattle.fm_rule_facts.specs.{Words.{kept, free_word}, Views.{View, IsSound, limit_of}, Splits.{first_view}, Beginning.{blank, first_words}}
use Rattle.fm_rule_facts.specs.Facts.{Owners, Shows, Knows, loose, Rule, IsCounted, WasDrawn, bit_of, IsLooked}
use Rattle.fm_rule_facts.{proofs.{Shown.{shows_page_bits, shows_bits, shows_numbers}, Looking.{looked_bare}, Gone.{founded_bare}}, specs.Gone.{IsFounded}}
use Rattle.fm_rule_facts.proofs.{Founds.{counted_bare}, Sounding.{sound_of}, Gripping.{none_held, none_counted}, Working.{no_work}}
use Rattle.fm_base_machine.{specs.{Steps.{opening}, Functions.{put}}, proofs.Depicting.{always}}
use Rattle.fm_base.{specs.{declared.caller.Caller.{Caller}, Arenas.{only_caller, are_one}}, proofs.Names.{are_one-self}}
use mathlib.Core.Logic.{dite}
use native.Mathlib.Decide.{ℕ_discrete}

-- ---- the words

-- all words are 0 but the count of draws
abbrev zeros_but : Shape → List ℕ
zeros_but z = set (replicate (word_count z) 0) 1 1

-- and the slot bits
abbrev pub slots_set : Shape → List ℕ
slots_set z = set (zeros_but z) 2 (ones z.slots)

-- every number but the first can be drawn
pub record AreFree (z : Shape) (numbers : ℕ → ℕ) : Type 0 where
  pub taken : bit_of numbers 0 ≡ 0
  pub free : (n : ℕ) → n ≢ 0 → n < z.passes → bit_of numbers n ≡ 1

-- every page can be claimed, and no other bit is 1
pub record AreLoose (z : Shape) (page_bits : ℕ → ℕ) : Type 0 where
  pub loose : (p : ℕ) → p < z.pages → bit_of page_bits p ≡ 1
  pub low : (p : ℕ) → bit_of page_bits p ≡ 1 → p < z.pages

abbrev zeros_of : ℕ → List ℕ
zeros_of n = replicate n 0

abbrev word_at : List ℕ → ℕ → ℕ
word_at l i = get_or l i 0

zero_at : (n i : ℕ) → 1 ≢ i → word_at (set (replicate n 0) 1 1) i ≡ 0
zero_at n i ne = get_or-set_other (replicate n 0) 1 i 1 0 (λ e. ne (sym e)) ∙ zeros n i
  where
    zeros : (n i : ℕ) → word_at (replicate n 0) i ≡ 0
    zeros zero i = refl
    zeros (suc n) zero = refl
    zeros (suc n) (suc i) = zeros n i

pub two_words : (z : Shape) → 2 < word_count z
unfolding word_count
two_words z = omega arith

free_code : (generations : ℕ) → 0 < generations → 0 ≡ free_word generations 0
unfolding session_word free_word kept
free_code n low =
    let e : kept n 0 ≡ 0 = ap (λ (b : Bool). if b then 0 - 1 else 0) (ne_eqb 0 n (λ q. omega arith)) in omega arith

shows_none : (z : Shape) → IsValid z → Shows z (zeros_but z) (blank 0 (λ g. 0) (λ g. 0))
unfolding blank place_at
shows_none z valid = record {
  wide = length-set (replicate (word_count z) 0) 1 1 ∙ length-replicate (word_count z) 0;
  front = zero_at (word_count z) (place_at z front) (λ e. omega arith);
  draw =
      get_or-set_same (replicate (word_count z) 0) 1 1 0
      (let a = two_words z in let b : length (zeros_of (word_count z)) ≡ word_count z = length-replicate (word_count z) 0 in omega arith);
  slot_bits = zero_at (word_count z) (place_at z slot_bits) (λ e. omega arith);
  page_bits = λ g h. zero_at (word_count z) (place_at z (page_bits_place g)) (λ e. omega arith);
  numbers = λ g h. zero_at (word_count z) (place_at z (number_bits g)) (λ e. omega arith);
  terms = λ k h. zero_at (word_count z) (place_at z (term k)) (λ e. omega arith);
  marks = λ k h. zero_at (word_count z) (place_at z (mark k)) (λ e. omega arith);
  sessions = λ s h. zero_at (word_count z) (place_at z (session s)) (λ e. omega arith) ∙ free_code z.generations (let l = valid.generations.0 in omega arith);
  given = λ s h. zero_at (word_count z) (place_at z (given_place s)) (λ e. omega arith);
  maps = λ s i a b. zero_at (word_count z) (place_at z (map s i)) (λ e. omega arith);
  cells = λ s w a b. zero_at (word_count z) (place_at z (page_word s w)) (λ e. omega arith);
}

pub shows_blank : (z : Shape) → IsValid z → Shows z (slots_set z) (first_words z (λ g. 0) (λ g. 0))
unfolding blank place_at
shows_blank z valid = shows_bits z valid (zeros_but z) (blank 0 (λ g. 0) (λ g. 0)) (shows_none z valid) (ones z.slots)

-- and so it does where a word of page bits was set, or one of number bits
module _ (z : Shape) (valid : IsValid z) (ws : List ℕ) (page_bits numbers : ℕ → ℕ) (g w : ℕ) (shows : Shows z ws (first_words z page_bits numbers)) where
  pub shows_pages : g < page_groups z → Shows z (set ws (place_at z (page_bits_place g)) w) (first_words z (put page_bits g w) numbers)
  unfolding blank
  shows_pages low = shows_page_bits z valid ws (first_words z page_bits numbers) shows g w low

  pub shows_group : g < groups z → Shows z (set ws (place_at z (number_bits g)) w) (first_words z page_bits (put numbers g w))
  unfolding blank
  shows_group low = shows_numbers z valid ws (first_words z page_bits numbers) shows g w low

-- ---- the rule

abbrev nobody : Owners
nobody = record {
  who = λ k. only_caller;
  rank = λ c. if are_one c only_caller then 0 else 1;
  seat = λ c. 0;
  number = λ n. 0;
  closer = λ a. 0;
  holder = λ s. 0;
  taker = λ s. None;
  berth = λ p. loose;
}

first_rank : nobody.rank only_caller ≡ 0
first_rank = ap (λ (b : Bool). if b then 0 else 1) (are_one-self only_caller)

first_drawn : WasDrawn 1 nobody.who nobody.rank only_caller
first_drawn = let e = first_rank in (omega arith, refl)

-- nobody else was drawn
only_drawn : (c : Caller) → WasDrawn 1 nobody.who nobody.rank c → c ≡ only_caller
only_drawn c d = sym d.1

first_knows : (z : Shape) (pages f : ℕ → ℕ) → IsValid z → AreFree z f → Knows z [] (first_words z pages f) opening nobody 0 (first_view z)
unfolding blank
first_knows z pages f valid bits = record {
  shape = λ q. refl;
  begins = ([], refl);
  met = λ xs i. absurd i;
  owns = λ q. record {
    drawn = first_drawn;
    term = refl;
    seated = refl;
    owner = refl;
    bit = bits.taken;
    mine = refl;
    work = no_work refl refl;
    handles = λ a k. refl;
    gathered = λ g i. absurd i;
    coming = λ x i. absurd i;
    one_each = tt;
    number = tt;
    not_own = λ n i. absurd i;
    whole = λ e c h ne. absurd (ne (only_drawn c h));
    seen_all = λ e. refl;
  };
}

module _ (z : Shape) (ws : List ℕ) (pages f : ℕ → ℕ) (valid : IsValid z) (shows : Shows z ws (first_words z pages f)) (claims : AreLoose z pages)
    (bits : AreFree z f) where
  pub first_rule : Rule z ws (first_view z ∷ [])
  unfolding blank
  first_rule = record {
    history = [];
    memory = first_words z pages f;
    machine = opening;
    owners = nobody;
    valid = valid;
    legal = tt;
    rightly = tt;
    within = λ e i. absurd i;
    pages = record {
      bit_is = λ p b. (refl, claims.low p b);
      is_bit = λ p low e. claims.loose p low;
      map_is = λ k i p e. absurd (cc);
      mapped_is = λ p k i e. absurd (cc);
      unmapped_is = λ p j i a e. absurd (cc);
      claimed_is = λ p j e. absurd (cc);
      loose_is = λ p e o h. refl;
      lent_is = λ l h. (let b = h.1 in absurd (omega arith));
      only_loan = λ l x h k e. (let b = h.1 in absurd (omega arith));
      says = record {
        empty = λ k g i e. refl;
        words = λ a w p. ⊎_elim (λ e. absurd (cc)) (λ e. absurd (cc));
        bare = λ a w. ⊎_elim (λ e. absurd (cc)) (λ e. absurd (cc));
        covered = λ a w. ⊎_elim (λ e. absurd (cc)) (λ e. absurd (cc));
        new_words = λ a w e. refl;
        new_given = λ a e. refl;
      };
    };
    depicts = always (limit_of z) [] tt;
    shows = shows;
    world = record {
      marked = λ c a e. absurd (cc);
      sessions = record {
        alive_shown = λ a e. absurd (cc);
        closing_shown = λ a e. absurd (cc);
        live_is = λ s a e. absurd (cc);
        shut_is = λ s a e. absurd (cc);
        free_is = λ s g e a p q. refl;
        newest = λ s a. ⊎_elim (λ e. absurd (cc)) (λ e. absurd (cc));
        before = λ s g e. (let q : 0 ≡ g + 1 = cc in absurd (omega arith));
        fits = λ a n. absurd (n refl);
        older = λ a g n h. absurd (n refl);
      };
      slots = record {
        bit_is = λ s b. (0, refl, (let l = valid.generations.0 in omega arith));
        low = λ s b. elim (cases_lt s z.slots) [
          | inl l ↦ l
          | inr l ↦ absurd (let none = bit_at_ones_above z.slots s l in let q : bit_at (ones z.slots) s ≡ 1 = b in omega arith)
        ];
        within = λ s g e. (let q : 0 ≡ g = cc in let l = valid.generations.0 in omega arith);
      };
      counts = record { shown = λ a e. absurd (cc); only = λ a e. refl; few = λ a. omega arith };
      givens = record { shown = λ a. ⊎_elim (λ e. absurd (cc)) (λ e. absurd (cc)); none = λ a e. refl; clean = λ s g e. refl };
    };
    few = omega arith;
    begun = omega arith;
    first = refl;
    ranks = λ k h. (let e = first_rank in omega arith);
    later = λ c h. record { calls = refl; outside = refl };
    terms = λ c h. subst (λ (x : Caller). (x.number < z.passes) × (x.term ≤ 0)) (sym (only_drawn c h))
        ((let p = valid.passes.0 in omega arith), omega arith);
    last = λ n. omega arith;
    used = λ n t h. absurd (omega arith);
    callers = λ c h. record { view = first_view z; there = refl; holds = inl (refl, sym (only_drawn c h)) };
    free_numbers = λ n b. record {
      mark = refl;
      fresh = λ q.
          let e : n ≡ 0 = ap (λ (x : Caller). x.number) (only_drawn (record { number = n; term = 0 }) q) in
          let one : bit_of f 0 ≡ 1 = ap (bit_of f) (sym e) ∙ b in let zero = bits.taken in omega arith;
    };
    numbers = λ n low b. inl (record {
      view = first_view z;
      there = refl;
      holds = (
        refl,
        inl (dite (ℕ_discrete n 0) (λ e. sym e) (λ ne.
            let one = bits.free n ne low in absurd (let zero : bit_of f n ≡ 0 = b in omega arith))),
      );
    });
    drawers = λ n a b. absurd (omega arith);
    closed = λ a e. absurd (cc);
    swept = λ a e. absurd (cc);
    slots = λ s g l e left b. absurd (let one = bit_at_ones z.slots s l in let q : bit_at (ones z.slots) s ≡ 0 = b in omega arith);
    berths = λ p j b. absurd b;
    held = λ a. (let x = none_held a (first_view z) refl refl in let y = none_counted a opening refl refl in omega arith);
    each = go;
    counted = counted;
    founds = founds;
    looked = looked;
  }
    where
      counted : (j : ℕ) (v : View) → get_elem? (first_view z ∷ []) j ≡ some v → IsCounted 1 nobody.who nobody.rank v
      counted (suc j) v e = absurd (some-ne-none v (sym e))
      counted zero v e = subst (IsCounted 1 nobody.who nobody.rank) (some-injective (first_view z) v e)
          (counted_bare 1 nobody.who nobody.rank (first_view z) refl refl)

      founds : (j : ℕ) (v : View) → get_elem? (first_view z ∷ []) j ≡ some v → IsFounded z [] (first_words z pages f) nobody.taker opening.life v
      founds (suc j) v e = absurd (some-ne-none v (sym e))
      founds zero v e = subst (IsFounded z [] (first_words z pages f) nobody.taker opening.life) (some-injective (first_view z) v e)
          (founded_bare z [] (first_words z pages f) nobody.taker opening.life (first_view z) refl refl)

      looked : (j : ℕ) (v : View) → get_elem? (first_view z ∷ []) j ≡ some v → IsLooked z (first_words z pages f) nobody (first_view z ∷ []) v
      looked (suc j) v e = absurd (some-ne-none v (sym e))
      looked zero v e = subst (IsLooked z (first_words z pages f) nobody (first_view z ∷ [])) (some-injective (first_view z) v e)
          (looked_bare z (first_words z pages f) nobody (first_view z ∷ []) (first_view z) refl refl)

      go : (j : ℕ) (v : View) → get_elem? (first_view z ∷ []) j ≡ some v → Knows z [] (first_words z pages f) opening nobody j v
      go (suc j) v e = absurd (some-ne-none v (sym e))
      go zero v e = subst (Knows z [] (first_words z pages f) opening nobody 0) (some-injective (first_view z) v e) (first_knows z pages f valid bits)

  -- the first pass is sound
  pub first_sound : IsSound (first_view z)
  unfolding first_rule
  first_sound = sound_of z ws (first_view z ∷ []) first_rule 0 (first_view z) refl refl refl refl
