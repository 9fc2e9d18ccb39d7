-- Words that are read or put one after the other inside an arena.
use Rattle.std.proofs.Common.{◌≡◌, ℕ, suc, ◌+◌, ◌<◌, ◌≤◌, List, [], ◌∷◌, ◌++◌, length, refl, ap, ◌∙◌, arith, Option, Some, None}
use Rattle.fm_base.specs.{declared.{caller.Caller.{Caller}, arena_id.ArenaId.{ArenaId}}, Calls.{Call, Read, Write, Reply, Fine, Found, Entry, entry_of}}
use Rattle.fm_base.specs.{Does.{CanReach, CanReachAll, DoesAct, DoesActs}, Learnt.{AfterAct, AfterActs}, View.{View, IsSound}}
use Rattle.fm_base.specs.Visits.{Acts, entries_of, reads, writes}
use Rattle.fm_base.proofs.{Making.{Makes-none, Makes-then}, Outcomes.{Makes-lasts}}

-- acts on a run of words are those on its first words, and behind them those on the rest
pub record InARow (acts : ArenaId → ℕ → List ℕ → Acts) : Type 0 where
  pub none : (id : ArenaId) (word : ℕ) → acts id word [] ≡ []
  pub more : (c : Caller) (id : ArenaId) (word : ℕ) (vs us : List ℕ)
      → entries_of c (acts id word (vs ++ us)) ≡ entries_of c (acts id word vs) ++ entries_of c (acts id (word + length vs) us)

reads-append : (c : Caller) (id : ArenaId) (word : ℕ) (vs us : List ℕ)
    → entries_of c (reads id word (vs ++ us)) ≡ entries_of c (reads id word vs) ++ entries_of c (reads id (word + length vs) us)
reads-append c id word [] us = ap (λ n. entries_of c (reads id n us)) (let e : word ≡ word + 0 = omega arith in e)
reads-append c id word (v ∷ vs) us =
    let e : suc word + length vs ≡ word + length (v ∷ vs) = omega arith in
    ap (λ es. entry_of c (Read id word) (Found v) ∷ es) (reads-append c id (suc word) vs us
    ∙ ap (λ n. entries_of c (reads id (suc word) vs) ++ entries_of c (reads id n us)) e)

writes-append : (c : Caller) (id : ArenaId) (word : ℕ) (vs us : List ℕ)
    → entries_of c (writes id word (vs ++ us)) ≡ entries_of c (writes id word vs) ++ entries_of c (writes id (word + length vs) us)
writes-append c id word [] us = ap (λ n. entries_of c (writes id n us)) (let e : word ≡ word + 0 = omega arith in e)
writes-append c id word (v ∷ vs) us =
    let e : suc word + length vs ≡ word + length (v ∷ vs) = omega arith in
    ap (λ es. entry_of c (Write id word v) Fine ∷ es) (writes-append c id (suc word) vs us
    ∙ ap (λ n. entries_of c (writes id (suc word) vs) ++ entries_of c (writes id n us)) e)

pub reads_in_a_row : InARow reads
reads_in_a_row = record { none = λ id word. refl; more = reads-append }

pub writes_in_a_row : InARow writes
writes_in_a_row = record { none = λ id word. refl; more = writes-append }

-- one act is a run of it
does_one : (acts : ArenaId → ℕ → List ℕ → Acts) (word v : ℕ) {call : ArenaId → Call} {reply : Reply}
    → ((id : ArenaId) → acts id word (v ∷ []) ≡ (call id, reply) ∷ []) → (i : Option ArenaId) (c : Caller) (own : List Entry)
    → DoesAct i c call reply own → DoesActs i c (λ a. acts a word (v ∷ [])) own
does_one acts word v is None c own d = d
does_one acts word v is (Some id) c own d = rw (is id) d

-- One word.
acts_one : {acts : ArenaId → ℕ → List ℕ → Acts} {x y : View} (word v : ℕ) {call : ArenaId → Call} {reply : Reply}
    → ((id : ArenaId) → acts id word (v ∷ []) ≡ (call id, reply) ∷ []) → AfterAct x y call reply → AfterActs acts x y word (v ∷ [])
acts_one {acts} {x} {y} word v is a = record {
  did = record { own = a.did.own; does = does_one acts word v is x.inside x.caller a.did.own a.did.does; makes = a.did.makes };
  inside = a.inside;
  lasts = a.lasts;
  sound = a.sound;
}

pub loads_one : {x y : View} (word v : ℕ) → AfterAct x y (λ a. Read a word) (Found v) → AfterActs reads x y word (v ∷ [])
loads_one word v a = acts_one word v (λ id. refl) a

pub stores_one : {x y : View} (word v : ℕ) → AfterAct x y (λ a. Write a word v) Fine → AfterActs writes x y word (v ∷ [])
stores_one word v a = acts_one word v (λ id. refl) a

module _ {acts : ArenaId → ℕ → List ℕ → Acts} (row : InARow acts) where
  -- No word.
  pub acts_none : {x : View} (first count : ℕ) → IsSound x → CanReachAll x first count → AfterActs acts x x first []
  acts_none {x} first count sound r = record {
    did = record { own = []; does = rw (r.inside, row.none r.id first) refl; makes = Makes-none x };
    inside = refl;
    lasts = Makes-lasts x x [] (Makes-none x);
    sound = sound;
  }

  does_more : (i : Option ArenaId) (c : Caller) (first : ℕ) (vs us : List ℕ) (own more : List Entry)
      → DoesActs i c (λ a. acts a first vs) own → DoesActs i c (λ a. acts a (first + length vs) us) more
      → DoesActs i c (λ a. acts a first (vs ++ us)) (own ++ more)
  does_more None c first vs us own more d e = d
  does_more (Some id) c first vs us own more d e = rw (d, e, row.more c id first vs us) refl

module _ {acts : ArenaId → ℕ → List ℕ → Acts} {x y : View} {first : ℕ} {words : List ℕ} (s : AfterActs acts x y first words) (k : ℕ) (so_far : length words ≡ k) where
  -- So many words behind them can be reached.
  pub acts_reach : (n count : ℕ) → CanReachAll x first n → k + count ≤ n → CanReachAll y (first + k) count
  acts_reach n count r within =
      let more = s.lasts.given r.id in
      record {
        id = r.id;
        inside = s.inside ∙ r.inside;
        given = (let given = r.given in omega arith);
        small = (let small = r.small in omega arith);
      }

  -- The next word can be reached.
  pub act_reaches : (n : ℕ) → CanReachAll x first n → k < n → CanReach y (first + k)
  act_reaches n r below =
      let next = acts_reach n 1 r (omega arith) in
      record { id = next.id; inside = next.inside; given = (let given = next.given in omega arith) }

  -- Words behind them.
  pub acts_more : (row : InARow acts) {z : View} (more : List ℕ) → AfterActs acts y z (first + k) more → AfterActs acts x z first (words ++ more)
  acts_more row {z} more a =
      let does : DoesActs x.inside x.caller (λ b. acts b (first + length words) more) a.did.own = rw (s.inside, s.lasts.caller, ← so_far) at a.did.does in
      let makes = Makes-then x y z s.did.own a.did.own s.did.makes a.did.makes in
      record {
        did = record {
          own = s.did.own ++ a.did.own;
          does = does_more row x.inside x.caller first words more s.did.own a.did.own s.did.does does;
          makes = makes;
        };
        inside = a.inside ∙ s.inside;
        lasts = Makes-lasts x z _ makes;
        sound = a.sound;
      }
