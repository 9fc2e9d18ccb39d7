-- What the only caller sees of words that it reads and puts inside an arena.
use Rattle.std.proofs.Common.{◌≡◌, ℕ, suc, ◌+◌, ◌*◌, true, List, [], ◌∷◌, length, take, drop, slice_index, refl, sym, ap, subst, ◌∙◌, arith}
use Rattle.std.proofs.lemmas.List.{drop_more}
use Rattle.fm_base.specs.declared.{caller.Caller.{Caller}, arena_id.ArenaId.{ArenaId}}
use Rattle.fm_base.specs.{Arenas.{State, arena_of, has_arena, word_in}, Calls.{Found, Entry}, Histories.{IsLegal, state_after}, View.{View, Did, IsByItself}, Visits.{entries_of, reads, writes}}
use Rattle.fm_base.proofs.Faith.{Makes-alone}
use Rattle.fm_base_bytes.{specs.Words.{bytes_in}, proofs.Words.{take-bytes_in, drop-bytes_in}}
use Rattle.fm_segment_access.specs.Alone.{bytes_of_arena, ChangesBytes}
use Rattle.fm_segment_access.proofs.{Alone.{Puts, changes}, Writing.{writes_leave}}
use Rattle.fm_visit.specs.Learnt.{FindsWords}

-- Reads find the words that stand there, and change nothing.
pub record ReadsAre (s t : State) (id : ArenaId) (word : ℕ) (vs : List ℕ) : Type 0 where
  pub value : vs ≡ take (length vs) (drop word (arena_of s id).words)
  pub same : t ≡ s

reads_are : (limit : ℕ) (c : Caller) (s : State) (id : ArenaId) (word : ℕ) (vs : List ℕ) → IsLegal limit s (entries_of c (reads id word vs))
    → ReadsAre s (state_after limit s (entries_of c (reads id word vs))) id word vs
reads_are limit c s id word [] legal = record { value = refl; same = refl }
reads_are limit c s id word (v ∷ vs) legal =
    let ws = (arena_of s id).words in
    let rest = reads_are limit c s id (suc word) vs legal.2 in
    let is : Found v ≡ Found (word_in s id word) = legal.1 in
    let found : v ≡ slice_index (arena_of s id).words word = cc in
    let next : word + 1 ≡ suc word = omega arith in
    record {
      value = ap (λ n. n ∷ vs) found ∙ ap (λ us. slice_index ws word ∷ us) rest.value
          ∙ ap (λ us. take (suc (length vs)) us) (sym (drop_more ws word 0 legal.0.within ∙ ap (λ n. slice_index ws word ∷ drop n ws) next));
      same = rest.same;
    }

-- The bytes of some words of all are their run of bytes.
bytes_of_run : (all words : List ℕ) (w : ℕ) → words ≡ take (length words) (drop w all) → bytes_in words ≡ take (8 * length words) (drop (8 * w) (bytes_in all))
bytes_of_run all words w is =
    let n = length words in
    ap bytes_in is ∙ sym (take-bytes_in n (drop w all)) ∙ ap (take (8 * n)) (sym (drop-bytes_in w all))

module _ {x y : View} {id : ArenaId} (w : ℕ) {place : ℕ} (words : List ℕ) (from : 8 * w ≡ place) (h : IsByItself x) where
  -- Words that it reads are those there.
  pub finds_words : Did x y (λ own. own ≡ entries_of x.caller (reads id w words)) → FindsWords x y id place words
  finds_words d =
      let m = Makes-alone x y d.own h d.makes in
      let r = reads_are x.limit x.caller x.state id w words (subst (λ (es : List Entry). IsLegal x.limit x.state es) d.does m.0) in
      record {
        value = bytes_of_run (arena_of x.state id).words words w r.value
            ∙ ap (λ n. take (8 * length words) (drop n (bytes_of_arena x.state id))) from;
        same = m.1 ∙ ap (state_after x.limit x.state) d.does ∙ r.same;
      }

  -- Words that it puts stand there, and all else stays.
  pub puts_words : has_arena x.state id ≡ true → Did x y (λ own. own ≡ entries_of x.caller (writes id w words))
      → ChangesBytes x y id place (bytes_in words)
  puts_words known d =
      let m = Makes-alone x y d.own h d.makes in
      let legal = subst (λ (es : List Entry). IsLegal x.limit x.state es) d.does m.0 in
      let put = writes_leave x.limit x.caller x.state id w words known legal in
      let after : state_after x.limit x.state (entries_of x.caller (writes id w words)) ≡ y.state = sym (m.1 ∙ ap (state_after x.limit x.state) d.does) in
      changes x y id place (bytes_in words) known
      (subst (λ (n : ℕ). Puts x.state y.state id n (bytes_in words)) from
      (subst (λ (t : State). Puts x.state t id (8 * w) (bytes_in words)) after put.puts))
