-- Words that are read or put page by page.
use Rattle.std.proofs.Common.{◌≡◌, ℕ, ◌+◌, ◌-◌, ◌%◌, ◌<◌, ◌≤◌, List, [], ◌∷◌, ◌++◌, length, take, drop, get_or, slice_set, length-append, length-set, refl, ap, sym, subst, ◌∙◌, arith, None, Some}
use Rattle.std.proofs.{lemmas.List.{length-take-le, length-drop, take_all, take_more, take_more_set, take-append-le}, Math.Seq.{take-add, take-append-add}}
use borrow.Rule.Slice.PartMut.{put_mid, post_of}
use Rattle.fm_base.specs.{declared.arena_id.ArenaId.{ArenaId}, Calls.{Call, Read, Write, Reply, Fine, Found}, Does.{CanReachAll}, Learnt.{AfterActs, AfterLoads, AfterStores}}
use Rattle.fm_base.specs.Visits.{Acts, reads, writes}
use Rattle.fm_base.specs.View as memory
use Rattle.fm_base.proofs.Rows.{InARow, act_reaches, acts_reach, acts_more, loads_one, stores_one, reads_in_a_row, writes_in_a_row}
use Rattle.fm_rule_facts.specs.{Steps.{HasPlace}, Views.{View}}
use Rattle.fm_rule.specs.declared.pool.Pool.{Pool}
use Rattle.fm_rule_calls.specs.Told.{view_of_pass}
use Rattle.fm_gate.specs.{Learnt.{AfterAct}, Needs.{CanReach, IsInside}}
use Rattle.fm_gate.proofs.Placed.{place_behind}
use Rattle.fm_arena.{specs.Shares.{IsHeld}, proofs.Calls.{acts}}

inside_of : {pool : Pool} {p : View} → IsHeld pool p → (id : ArenaId) → p.inside ≡ Some id → IsInside pool p id
inside_of h id e = record { of = h.of; inside = e; no_number = h.quiet.no_number; no_slot = h.quiet.no_slot; no_part = h.quiet.no_part }

-- An act leaves the pass inside, and quiet.
held_on : {pool : Pool} {p q : View} {call : ArenaId → Call} {reply : Reply} (id : ArenaId) → IsHeld pool p → p.inside ≡ Some id → AfterAct pool p q call reply
    → IsHeld pool q
held_on id h e a =
    let n = a.inside id (inside_of h id e) in
    record {
      of = n.of;
      quiet = record {
        unmarked = λ none. absurd (let no : None ≡ Some id = sym none ∙ n.inside in let wrong : ⊥ = cc in wrong);
        no_number = n.no_number;
        no_slot = n.no_slot;
        no_part = n.no_part;
        no_page = ap (λ r. r.pages) a.did.rest ∙ h.quiet.no_page;
      };
    }

-- acts on a run of words, the first at an index
abbrev ActsOnRun : Type 0
ActsOnRun = ArenaId → ℕ → List ℕ → Acts

-- so many words of a page of this size were acted on, the first of which stands at the place
pub record OnPage (acts : ActsOnRun) (pool : Pool) (old now : View) (first : ℕ) (words : List ℕ) (place size k : ℕ) : Type 0 where
  pub did : AfterActs acts (view_of_pass old) (view_of_pass now) first (take k words)
  pub place_is : HasPlace now first place
  pub held : IsHeld pool now
  pub size_is : size ≡ now.shape.page_words

-- The first word.
page_one : {acts : ActsOnRun} {pool : Pool} {p q : View} {first place size : ℕ} {words : List ℕ} {call : ArenaId → Call} {reply : Reply} (w : ℕ)
    → IsHeld pool p → CanReachAll (view_of_pass p) first (length words) → size ≡ p.shape.page_words → AfterAct pool p q call reply → HasPlace q first place
    → take 1 words ≡ w ∷ [] → AfterActs acts (view_of_pass p) (view_of_pass q) first (w ∷ []) → OnPage acts pool p q first words place size 1
page_one {acts} {pool} {p} {q} {first} w h can is a at one did = record {
  did = subst (λ ws. AfterActs acts (view_of_pass p) (view_of_pass q) first ws) (sym one) did;
  place_is = at;
  held = held_on can.id h can.inside a;
  size_is = is ∙ ap (λ z. z.page_words) (sym a.did.goes.same_shape);
}

module _ {acts : ActsOnRun} {pool : Pool} {p q : View} {first place size k : ℕ} {words : List ℕ} (l : OnPage acts pool p q first words place size k) where
  -- The next word can be reached,
  pub next_reaches : (n : ℕ) → CanReachAll (view_of_pass p) first n → k ≤ length words → k < n → CanReach pool q (first + k)
  next_reaches n can small below =
      let r = act_reaches l.did k (length-take-le k words small) n can below in
      record { id = r.id; inside = inside_of l.held r.id r.inside; given = r.given }

  -- it stands behind the others,
  pub next_stands : first % size + k < size → HasPlace q (first + k) (place + k)
  next_stands fits = place_behind k l.place_is (subst (λ (n : ℕ). first % n + k < n) l.size_is fits)

  -- and comes too.
  page_then : {r : View} {call : ArenaId → Call} {reply : Reply} (row : InARow acts) (w : ℕ) (later : List ℕ) → CanReach pool q (first + k) → k ≤ length words
      → AfterAct pool q r call reply → HasPlace r first place → take (k + 1) later ≡ take k words ++ w ∷ []
      → AfterActs acts (view_of_pass q) (view_of_pass r) (first + k) (w ∷ []) → OnPage acts pool p r first later place size (k + 1)
  page_then {r} row w later can small a at is did = record {
    did = subst (λ ws. AfterActs acts (view_of_pass p) (view_of_pass r) first ws) (sym is)
        (acts_more l.did k (length-take-le k words small) row (w ∷ []) did);
    place_is = at;
    held = held_on can.id l.held can.inside.inside a;
    size_is = l.size_is ∙ ap (λ z. z.page_words) (sym a.did.goes.same_shape);
  }

-- ---- words that are read

abbrev pub Loaded : Pool → View → View → ℕ → List ℕ → ℕ → ℕ → ℕ → Type 0
Loaded = OnPage reads

pub loaded_one : {pool : Pool} {p q : View} {first place size : ℕ} (words : List ℕ) (w : ℕ) → IsHeld pool p → CanReachAll (view_of_pass p) first (length words)
    → 0 < length words → size ≡ p.shape.page_words → AfterAct pool p q (λ a. Read a first) (Found w) → HasPlace q first place
    → Loaded pool p q first (slice_set words 0 w) place size 1
loaded_one {first = first} words w h can some is a at =
    page_one w h (subst (CanReachAll _ first) (sym (length-set words 0 w)) can) is a at (take_more_set words 0 w some) (loads_one first w (acts (λ id. refl) a))

pub loaded_more : {pool : Pool} {p q r : View} {first place size k : ℕ} {words : List ℕ} → Loaded pool p q first words place size k → (w : ℕ)
    → CanReach pool q (first + k) → k < length words → AfterAct pool q r (λ a. Read a (first + k)) (Found w) → HasPlace r first place
    → Loaded pool p r first (slice_set words k w) place size (k + 1)
loaded_more {first = first} {k = k} {words = words} l w can small a at =
    page_then l reads_in_a_row w (slice_set words k w) can (omega arith) a at (take_more_set words k w small) (loads_one (first + k) w (acts (λ id. refl) a))

-- ---- words that are put

abbrev pub Stored : Pool → View → View → ℕ → List ℕ → ℕ → ℕ → ℕ → Type 0
Stored = OnPage writes

pub stored_one : {pool : Pool} {p q : View} {first place size : ℕ} (words : List ℕ) → IsHeld pool p → CanReachAll (view_of_pass p) first (length words)
    → 0 < length words → size ≡ p.shape.page_words → AfterAct pool p q (λ a. Write a first (get_or words 0 0)) Fine → HasPlace q first place
    → Stored pool p q first words place size 1
stored_one {first = first} words h can some is a at =
    let w : ℕ = get_or words 0 0 in page_one w h can is a at (take_more words 0 0 some) (stores_one first w (acts (λ id. refl) a))

pub stored_more : {pool : Pool} {p q r : View} {first place size k : ℕ} {words : List ℕ} → Stored pool p q first words place size k
    → CanReach pool q (first + k) → k < length words → AfterAct pool q r (λ a. Write a (first + k) (get_or words k 0)) Fine → HasPlace r first place
    → Stored pool p r first words place size (k + 1)
stored_more {first = first} {k = k} {words = words} l can small a at =
    let w : ℕ = get_or words k 0 in
    page_then l writes_in_a_row w words can (omega arith) a at (take_more words k 0 small) (stores_one (first + k) w (acts (λ id. refl) a))

-- ---- page after page

-- Words behind the first so many of a slice.
take_behind : (n m : ℕ) (words rest : List ℕ) → n ≤ length words → m ≤ length rest
    → take (n + m) (put_mid n (length words - n) words rest) ≡ take n words ++ take m rest
take_behind n m words rest within fits =
    let after = post_of n (length words - n) words in
    let first = take n words in
    let size : length (take n words) ≡ n = length-take-le n words within in
    ap (λ k. take (k + m) (first ++ (rest ++ after))) (sym size)
    ∙ take-append-add first (rest ++ after) m
    ∙ ap (λ piece. first ++ piece) (take-append-le m rest after fits)

-- The slice has room for them.
pub behind_fits : (n m : ℕ) (words rest : List ℕ) → n ≤ length words → m ≤ length rest → n + m ≤ length (put_mid n (length words - n) words rest)
behind_fits n m words rest within fits =
    let after = post_of n (length words - n) words in
    omega (arith, length-append (take n words) (rest ++ after), length-append rest after, length-take-le n words within)

module _ {acts : ActsOnRun} {x y : memory.View} {first : ℕ} (k : ℕ) (words : List ℕ) (so_far : AfterActs acts x y first (take k words))
    (within : k ≤ length words) where
  -- The words behind them can be reached.
  pub rest_reaches : CanReachAll x first (length words) → CanReachAll y (first + k) (length (take (length words - k) (drop k words)))
  rest_reaches can =
      let left : length (drop k words) ≡ length words - k = length-drop k words in
      let all : length (take (length words - k) (drop k words)) ≡ length words - k = length-take-le (length words - k) (drop k words) (omega arith) in
      acts_reach so_far k (length-take-le k words within) (length words) (length (take (length words - k) (drop k words))) can (omega arith)

  -- And so many of them come.
  pub run_more : (row : InARow acts) {z : memory.View} (n : ℕ) (rest later : List ℕ) → take (k + n) later ≡ take k words ++ take n rest
      → AfterActs acts y z (first + k) (take n rest) → AfterActs acts x z first (take (k + n) later)
  run_more row {z} n rest later is a =
      subst (λ ws. AfterActs acts x z first ws) (sym is) (acts_more so_far k (length-take-le k words within) row (take n rest) a)

-- So many words more are read.
pub page_more : {x y z : memory.View} {first : ℕ} (k : ℕ) (words : List ℕ) → AfterLoads x y first (take k words) → k ≤ length words → (n : ℕ) (rest : List ℕ)
    → n ≤ length rest → AfterLoads y z (first + k) (take n rest) → AfterLoads x z first (take (k + n) (put_mid k (length words - k) words rest))
page_more k words so_far within n rest fits a =
    run_more k words so_far within reads_in_a_row n rest (put_mid k (length words - k) words rest) (take_behind k n words rest within fits) a

-- So many words more are put.
pub puts_more : {x y z : memory.View} {first : ℕ} (k : ℕ) (words : List ℕ) → AfterStores x y first (take k words) → k ≤ length words → (n : ℕ)
    → n ≤ length words - k → AfterStores y z (first + k) (take n (take (length words - k) (drop k words))) → AfterStores x z first (take (k + n) words)
puts_more k words so_far within n fits a =
    let left : length (drop k words) ≡ length words - k = length-drop k words in
    let rest = take (length words - k) (drop k words) in
    let all : rest ≡ drop k words = take_all (length words - k) (drop k words) (omega arith) in
    run_more k words so_far within writes_in_a_row n rest words (take-add k n words ∙ ap (λ xs. take k words ++ take n xs) (sym all)) a
