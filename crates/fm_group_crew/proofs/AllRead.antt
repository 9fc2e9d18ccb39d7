-- Where all values were counted, each word of each was read.
use Rattle.std.proofs.Common.{◌≡◌, ℕ, ◌<◌, ◌≤◌, List, [], ◌∷◌, ◌++◌, refl, sym, ap, ◌∙◌, subst, inl, inr, arith, Result, Ok}
use Rattle.std.{specs.{Prelude.{ℤ}, List.{AllByRecursion, flat_map}}, proofs.lemmas.{Bool.{cases_lt}, List.Elements.{filter-append}}}
use Rattle.fm_base_lists.{specs.Among.{IsAmong}, proofs.Among.{among_back, among_left, among_right}}
use Rattle.fm_base.specs.{declared.{arena_id.ArenaId.{ArenaId}, caller.Caller.{Caller}, refusal.Refusal.{Refusal}}, Arenas.{are_one}, Calls.{Entry, Found, Read, entry_of}, Histories.{made_by}}
use Rattle.fm_records.specs.{Bytes.{HasRead}, Reads.{read_visit}, Words.{Seen, unkept}}
use Rattle.fm_group.specs.{Counting.{DoesCount, ReadsValue}, Table.{Counter}, Values.{Valued}}
use Rattle.fm_group_laws.specs.Shares.{AreLined, AreShared, CountsTo, DoesShare, Share, none_counted, one_counted}
use Rattle.fm_group_crew.specs.Grouped.{IsReadByOne, words_of}

-- ---- one value

seen_read : (c : Caller) (id : ArenaId) (x : Seen) (seen : List Seen) → IsAmong x seen
    → IsAmong (entry_of c (Read id x.0) (Found x.1)) (flat_map (read_visit c id) seen)
seen_read c id x [] i = absurd i
seen_read c id x (y ∷ seen) (inl e) = inr (inl (ap (λ (z : Seen). entry_of c (Read id z.0) (Found z.1)) e))
seen_read c id x (y ∷ seen) (inr i) = inr (inr (inr (seen_read c id x seen i)))

unkept_none : (ws : List ℕ) → unkept [] ws ≡ ws
unkept_none [] = refl
unkept_none (w ∷ ws) = ap (λ (us : List ℕ). w ∷ us) (unkept_none ws)

value_read : (c : Caller) (v : Valued) (n : ℕ) (x : ℤ) (own : List Entry) → ReadsValue c v n (Ok x) own → (word : ℕ) → IsAmong word (words_of v n)
    → HasRead c v.records.arena word own
value_read c v n x own h word i =
    let there = subst (λ (ws : List ℕ). IsAmong word ws) (sym (unkept_none (words_of v n)) ∙ sym h.does.words) i in
    let found = among_back (λ (s : Seen). s.0) word h.seen there in
    record {
      found = found.0.1;
      among = subst (λ (es : List Entry). IsAmong (entry_of c (Read v.records.arena word) (Found found.0.1)) es) (sym h.visits)
          (subst (λ (k : ℕ). IsAmong (entry_of c (Read v.records.arena k) (Found found.0.1)) (flat_map (read_visit c v.records.arena) h.seen)) (sym found.2)
          (seen_read c v.records.arena found.0 h.seen found.1));
    }

-- ---- among more entries

module _ (c : Caller) (id : ArenaId) (word : ℕ) where
  read_left : (xs ys : List Entry) → HasRead c id word xs → HasRead c id word (xs ++ ys)
  read_left xs ys h = record { found = h.found; among = among_left _ xs ys h.among }

  read_right : (xs ys : List Entry) → HasRead c id word ys → HasRead c id word (xs ++ ys)
  read_right xs ys h = record { found = h.found; among = among_right _ xs ys h.among }

-- ---- the values of a share

module _ (c : Caller) (w : Counter) where
  count_read : (n p word : ℕ) (own : List Entry) → DoesCount c w n (Ok p) own → IsAmong word (words_of w.values n)
      → HasRead c w.values.records.arena word own
  count_read n p word own d i =
      let h = d.1 in
      subst (HasRead c w.values.records.arena word) (sym h.parts)
      (read_left c w.values.records.arena word h.reads h.tries (value_read c w.values n h.number h.reads h.read word i))

  counted_read : (from k : ℕ) (ps : List ℕ) (own : List Entry) → CountsTo c w from k ps own → (n word : ℕ) → from ≤ n → n < k
      → IsAmong word (words_of w.values n) → HasRead c w.values.records.arena word own
  counted_read from k ps own none_counted n word low below i = absurd (omega (arith, low, below))
  counted_read from k ps own (one_counted {k = j} {ps = qs} p first more h d) n word low below i = elim (cases_lt n j) [
    | inl under ↦ read_left c w.values.records.arena word first more (counted_read from j qs first h n word low under i)
    | inr above ↦ (
        let here : j ≡ n = omega (arith, above, below) in
        read_right c w.values.records.arena word first more
        (count_read n p word more (subst (λ (m : ℕ). DoesCount c w m (Ok p) more) here d) i))
  ]

-- ---- all shares

one_later : (v : Valued) (c : Caller) (cs : List Caller) (es : List Entry) (word : ℕ) → IsReadByOne v cs es word → IsReadByOne v (c ∷ cs) es word
one_later v c cs es word h = record { caller = h.caller; among = inr h.among; read = h.read }

pub shared_read : (w : Counter) (es : List Entry) (from to : ℕ) (cs : List Caller) (bs : List Share) (rs : List (Result (Unit {0}) Refusal))
    → AreShared w es cs bs rs → AreLined from bs to → AllByRecursion (λ r. r ≡ Ok tt) rs → (n word : ℕ) → from ≤ n → n < to
    → IsAmong word (words_of w.values n) → IsReadByOne w.values cs es word
shared_read w es from to [] [] [] shared lined ok n word low below i = absurd (omega (arith, lined, low, below))
shared_read w es from to (c ∷ cs) (b ∷ bs) (r ∷ rs) shared lined ok n word low below i =
    let mine = subst (λ (x : Result (Unit {0}) Refusal). DoesShare c w b.0 b.1 x (made_by c es)) ok.0 shared.0 in
    let start = lined.0 in
    elim (cases_lt n b.1) [
      | inl under ↦ record {
        caller = c;
        among = inl refl;
        read = counted_read c w b.0 b.1 mine.0 (made_by c es) mine.1 n word (omega (arith, low, start)) under i;
      }
      | inr above ↦ one_later w.values c cs es word (shared_read w es b.1 to cs bs rs shared.1 lined.2 ok.1 n word (omega (arith, above)) below i)
    ]
shared_read w es from to cs bs rs shared lined ok n word low below i = absurd shared

-- Who read it before has read it.
pub read_before : (v : Valued) (cs : List Caller) (word : ℕ) (before behind more : List Entry) → more ≡ before ++ behind → IsReadByOne v cs before word
    → IsReadByOne v cs more word
read_before v cs word before behind more parts h = record {
  caller = h.caller;
  among = h.among;
  read = subst (HasRead h.caller v.records.arena word) (sym (ap (made_by h.caller) parts ∙ filter-append (λ e. are_one e.caller h.caller) before behind))
      (read_left h.caller v.records.arena word (made_by h.caller before) (made_by h.caller behind) h.read);
}
