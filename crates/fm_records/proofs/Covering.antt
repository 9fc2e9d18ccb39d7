-- Each word of the values that a query asks for in a chosen record is read.
use Rattle.std.proofs.Common.{◌≡◌, ℕ, zero, suc, ◌+◌, ◌-◌, ◌*◌, ◌/◌, ◌<◌, ◌≤◌, ◌==◌, Bool, true, false, if◌then◌else◌, Result, Ok, Some, List, [], ◌∷◌, ◌++◌, length, map, take, drop, refl, sym, ap, ◌∙◌, subst, inl, inr, arith}
use Rattle.std.{specs.{Prelude.{ℤ, ◌⊎◌}, List.{flat_map, list_all, slice_get}}, proofs.{Math.Nat.{mul-le-mul_right}, lemmas.Bool.{cases_lt}}}
use Rattle.std.proofs.lemmas.{Bool.Decides.{nat_tests}, List.{drop-drop, map-append, take-append-drop}}
use Rattle.fm_base.specs.declared.{caller.Caller.{Caller}, arena_id.ArenaId.{ArenaId}, refusal.Refusal.{Refusal}}
use Rattle.fm_base.specs.Calls.{Read, Found as Found_word, Entry, entry_of}
use Rattle.fm_lanes.{specs.Kind.{width_of}, proofs.Meaning.{width_of-bounds}}
use Rattle.fm_path.specs.{Resolution.{Resolution}, Wide.{wide_dims}, declared.value_spec.ValueSpec.{ValueSpec}}
use Rattle.fm_path_meaning.specs.{declared.dim.Dim.{Dim}, Walk.{AreAdmitted, offset_at}}
use Rattle.fm_records_query.specs.{declared.{condition.Condition.{Condition}, fold.Fold.{Fold}, item.{Asked.{Asked}, Item.{Item}}}, Plan.{Plan, IsPlan}}
use Rattle.fm_base_lists.{specs.Among.{IsAmong}, proofs.{Among.{among_either, among_left, among_map, among_right}, Each.{all_split}}}
use Rattle.fm_records_query.specs.declared.item.Asked.TheVariants as asked
use Rattle.fm_segment.specs.Region.{Region}
use Rattle.fm_records.specs.{declared.found.Found.{Found}, Answers.{holds as holds_for}, Bytes.{FindAs, HasRead, IsAnswered}, Laws.{IsAsked, value_in}}
use Rattle.fm_records.specs.Reads.{IsWordOf, LiesIn, value_places, ReadsNumber, InOrder, InTurn, no_turn, next_turn, short_turn, TakesNumbers, TakesPath, Tests, FindsAsked, FindsItems, FindsRecord, ReadsRecord, chosen, passed_over, untested, read_visit, record_places}
use Rattle.fm_records.specs.{Words.{Seen, found_at, kept_after, kept_all, kept_last, most_words, words_at}, Records.{pieces}, Values.{index_lists}}
use Rattle.fm_records.proofs.{AnsweringBytes.{records_lie}, Indices.{admitted_listed}, Behind.{among_places}, Ordered.{in_order_part}}
use Rattle.fm_records.proofs.{Getting.{IsFoundAmong, among_words, word_found}, ReadingBytes.{Agree, agree, tests_of_bytes}}

-- ---- words

-- the word has a byte of the run from one place up to another
record HasByte (from end word : ℕ) : Type 0 where
  above : from < 8 * word + 8
  below : 8 * word < end
  some : from < end

module _ (c : Caller) (id : ArenaId) (word : ℕ) where
  pub read_left : (es fs : List Entry) → HasRead c id word es → HasRead c id word (es ++ fs)
  read_left es fs h = record { found = h.found; among = among_left _ es fs h.among }

  pub read_right : (es fs : List Entry) → HasRead c id word fs → HasRead c id word (es ++ fs)
  read_right es fs h = record { found = h.found; among = among_right _ es fs h.among }

-- the word is one of a value of which it has a byte
has_word : (place width word : ℕ) → HasByte place (place + width) word → width ≤ 8 → IsAmong word (words_at place width)
has_word place width word h few =
    let above = h.above in
    let below = h.below in
    elim (cases_lt place (8 * word)) [
      | inl further ↦
          let at : (place + (8 * word - place)) / 8 ≡ word = omega (arith, further) in
          subst (λ (w : ℕ). IsAmong w (words_at place width)) at (among_words place width (8 * word - place) (omega (arith, further, below)) few)
      | inr here ↦
          let at : (place + 0) / 8 ≡ word = omega (arith, here, above) in
          subst (λ (w : ℕ). IsAmong w (words_at place width)) at (among_words place width 0 (let some = h.some in omega (arith, some)) few)
    ]

-- what was found at a word was found by one of these
seen_among : (seen : List Seen) (word : ℕ) → IsFoundAmong seen word → IsAmong word (map (λ x. x.0) seen)
seen_among [] word h = absurd (let e = h.1 in cc)
seen_among (x ∷ xs) word h = go (seen_among xs word) (x.0 == word) refl h.1
  where
    go : (IsFoundAmong xs word → IsAmong word (map (λ y. y.0) xs)) → (b : Bool) → (x.0 == word) ≡ b → (if b then Some x.1 else found_at xs word) ≡ Some h.0 → IsAmong word (map (λ y. y.0) (x ∷ xs))
    go rest true same e = inl (let is : x.0 ≡ word = grind (arith, nat_tests) in sym is)
    go rest false other e = inr (rest (h.0, e))

-- and read by a visit
visits_read : (c : Caller) (id : ArenaId) (word : ℕ) (seen : List Seen) → IsAmong word (map (λ x. x.0) seen)
    → HasRead c id word (flat_map (read_visit c id) seen)
visits_read c id word [] a = absurd a
visits_read c id word (x ∷ xs) (inl is) =
    read_left c id word (read_visit c id x) (flat_map (read_visit c id) xs) (record {
      found = x.1;
      among = inr (inl (ap (λ (w : ℕ). entry_of c (Read id w) (Found_word x.1)) is));
    })
visits_read c id word (x ∷ xs) (inr a) = read_right c id word (read_visit c id x) (flat_map (read_visit c id) xs) (visits_read c id word xs a)

-- ---- what an item asks for

-- a word that was found among these
abbrev IsThere : ℕ → List Seen → Type 0
IsThere word seen = IsAmong word (map (λ x. x.0) seen)

there_left : (word : ℕ) (xs ys : List Seen) → IsThere word xs → IsThere word (xs ++ ys)
there_left word xs ys h = subst (IsAmong word) (sym (map-append (λ x. x.0) xs ys)) (among_left word (map (λ x. x.0) xs) (map (λ x. x.0) ys) h)

there_right : (word : ℕ) (xs ys : List Seen) → IsThere word ys → IsThere word (xs ++ ys)
there_right word xs ys h = subst (IsAmong word) (sym (map-append (λ x. x.0) xs ys)) (among_right word (map (λ x. x.0) xs) (map (λ x. x.0) ys) h)

there_either : (word : ℕ) (xs ys : List Seen) → IsThere word (xs ++ ys) → IsThere word xs ⊎ IsThere word ys
there_either word xs ys h = among_either word (map (λ x. x.0) xs) (map (λ x. x.0) ys) (subst (IsAmong word) (map-append (λ x. x.0) xs ys) h)

-- what is kept was kept or read
abbrev KeepsOld : (List Seen → Seen → List Seen) → Type 0
KeepsOld keeps = (word : ℕ) (k : List Seen) (x : Seen) → IsThere word (keeps k x) → IsThere word k ⊎ (word ≡ x.0)

-- those that are taken are among all
among_taken : (n word : ℕ) (xs : List Seen) → IsThere word (take n xs) → IsThere word xs
among_taken n word xs h = subst (IsThere word) (take-append-drop n xs) (there_left word (take n xs) (drop n xs) h)

all_old : KeepsOld kept_all
all_old word k x h = elim (there_either word k (x ∷ []) (among_taken most_words word (k ++ x ∷ []) h)) [
  | inl a ↦ inl a
  | inr b ↦ elim b [ inl is ↦ inr is | inr z ↦ absurd z ]
]

last_old : KeepsOld kept_last
last_old word [] x h = elim h [ inl is ↦ inr is | inr z ↦ absurd z ]
last_old word (a ∷ more) x h = elim h [
  | inl is ↦ inr is
  | inr b ↦ elim b [ inl is ↦ inl (inl is) | inr z ↦ absurd z ]
]

module _ (keeps : List Seen → Seen → List Seen) (old : KeepsOld keeps) (word : ℕ) where
  kept_before : (k xs : List Seen) → IsThere word (kept_after keeps k xs) → IsThere word k ⊎ IsThere word xs
  kept_before k [] h = inl h
  kept_before k (x ∷ xs) h = elim (kept_before (keeps k x) xs h) [
    | inl a ↦ elim (old word k x a) [ inl b ↦ inl b | inr is ↦ inr (inl is) ]
    | inr b ↦ inr (inr b)
  ]

  -- a word of one of the values is kept before them, or read for them
  numbers_cover : (spec : ValueSpec) (k l : List Seen) (places : List ℕ) (result : Result (Unit {0}) Refusal) (own : List Seen) (ns : List ℤ) (place : ℕ)
      → TakesNumbers keeps spec k places result own ns l → result ≡ Ok tt → IsAmong place places → HasByte place (place + width_of spec.kind) word
      → IsThere word k ⊎ IsThere word own
  numbers_cover spec k l places result own ns place no_turn e a b = absurd a
  numbers_cover spec k l places result own ns place (next_turn {x = q} j first rest given more r others) e (inl is) b =
      value_covers spec k j q first r.0 (subst (λ (p : ℕ). HasByte p (p + width_of spec.kind) word) is b) rest r.1
    where
      value_covers : (spec : ValueSpec) (k j : List Seen) (q : ℕ) (first : List Seen) (n : ℤ) → HasByte q (q + width_of spec.kind) word → (rest : List Seen)
          → ReadsNumber keeps k spec q first n j → IsThere word k ⊎ IsThere word (first ++ rest)
      value_covers spec k j q first n h rest r =
          let above = h.above in
          let below = h.below in
          let few = (width_of-bounds spec.kind).1 in
          let found = has_word q (width_of spec.kind) word h few in
          elim (there_either word k first (seen_among (k ++ first) word (word_found k first (words_at q (width_of spec.kind)) word r.words found))) [
            | inl kept ↦ inl kept
            | inr read ↦ inr (there_left word first rest read)
          ]
  numbers_cover spec k l places result own ns place (next_turn {xs = left} j first rest given more r others) e (inr a) b =
      elim (numbers_cover spec j l left result rest more place others e a b) [
        | inl kept ↦ elim (kept_before k first (subst (IsThere word) r.1.kept kept)) [
          | inl before ↦ inl before
          | inr read ↦ inr (there_left word first rest read)
        ]
        | inr read ↦ inr (there_right word first rest read)
      ]
  numbers_cover spec k l places result own ns place (short_turn first given apart r) e a b = absurd (apart e)

  -- what is kept behind them was kept before them, or read for them
  numbers_keep : (spec : ValueSpec) (k l : List Seen) (places : List ℕ) (result : Result (Unit {0}) Refusal) (own : List Seen) (ns : List ℤ)
      → TakesNumbers keeps spec k places result own ns l → result ≡ Ok tt → IsThere word l → IsThere word k ⊎ IsThere word own
  numbers_keep spec k l places result own ns no_turn e h = inl h
  numbers_keep spec k l places result own ns (next_turn {xs = left} j first rest given more r others) e h =
      elim (numbers_keep spec j l left result rest more others e h) [
        | inl kept ↦ elim (kept_before k first (subst (IsThere word) r.1.kept kept)) [
          | inl before ↦ inl before
          | inr read ↦ inr (there_left word first rest read)
        ]
        | inr read ↦ inr (there_right word first rest read)
      ]
  numbers_keep spec k l places result own ns (short_turn first given apart r) e h = absurd (apart e)

-- of a path
path_covers : (word : ℕ) (ds : List Dim) (spec : ValueSpec) (k l : List Seen) (places : List ℕ) (own : List Seen) (ns : List ℤ) (place : ℕ)
    → TakesPath ds spec k places (Ok tt) own ns l → IsAmong place places → HasByte place (place + width_of spec.kind) word → IsThere word k ⊎ IsThere word own
path_covers word [] spec k l places own ns place t a b = numbers_cover kept_all all_old word spec k l places (Ok tt) own ns place t refl a b
path_covers word (d ∷ ds) spec k l places own ns place t a b =
    elim (numbers_cover kept_last last_old word spec [] t.0 places (Ok tt) own ns place t.1 refl a b) [ inl z ↦ absurd z | inr read ↦ inr read ]

path_keeps : (word : ℕ) (ds : List Dim) (spec : ValueSpec) (k l : List Seen) (places : List ℕ) (own : List Seen) (ns : List ℤ)
    → TakesPath ds spec k places (Ok tt) own ns l → IsThere word l → IsThere word k ⊎ IsThere word own
path_keeps word [] spec k l places own ns t h = numbers_keep kept_all all_old word spec k l places (Ok tt) own ns t refl h
path_keeps word (d ∷ ds) spec k l places own ns t h = inl (subst (IsThere word) t.2 h)

asked_keeps : (word place : ℕ) (k l : List Seen) (a : Asked) (own : List Seen) (fs : List Found) → FindsAsked place k a (Ok tt) own fs l → IsThere word l
    → IsThere word k ⊎ IsThere word own
asked_keeps word place k l asked.Count own fs h w = inl (subst (IsThere word) h.3 w)
asked_keeps word place k l (asked.Of f r) own fs h w =
    path_keeps word (wide_dims r.dims) r.value k l (value_places place r.offset r.dims) own h.0 h.1 w

conditions_keep : (word place : ℕ) (cs : List Condition) (result : Result Bool Refusal) (k l own : List Seen) (none : List ℤ)
    → InTurn (Ok true) (λ j x r es ns m. Tests place j x r es m) k cs result own none l → result ≡ Ok true → IsThere word l → IsThere word k ⊎ IsThere word own
conditions_keep word place cs result k l own none no_turn e h = inl h
conditions_keep word place cs result k l own none (next_turn j first rest given more t others) e h =
    elim (conditions_keep word place _ result j l rest more others e h) [
      | inl kept ↦ elim (kept_before kept_all all_old word k first (subst (IsThere word) t.1.kept kept)) [
        | inl before ↦ inl before
        | inr read ↦ inr (there_left word first rest read)
      ]
      | inr read ↦ inr (there_right word first rest read)
    ]
conditions_keep word place cs result k l own none (short_turn first given apart t) e h = absurd (apart e)

module _ (word : ℕ) (item : Item) (f : Fold) (r : Resolution) (is : List ℕ) (asks : item.asked ≡ asked.Of f r) (admitted : AreAdmitted r.dims is) where
  -- its value in the record at a place has a byte of the word
  abbrev StandsIn : ℕ → Type 0
  StandsIn place = HasByte (place + offset_at r.offset r.dims is) (place + offset_at r.offset r.dims is + width_of r.value.kind) word

  item_is_read : (place : ℕ) (k l own : List Seen) (fs : List Found) → FindsAsked place k (asked.Of f r) (Ok tt) own fs l → StandsIn place
      → IsThere word k ⊎ IsThere word own
  item_is_read place k l own fs h b =
      path_covers word (wide_dims r.dims) r.value k l (value_places place r.offset r.dims) own h.0 (place + offset_at r.offset r.dims is) h.1
      (among_map (λ js. place + offset_at r.offset r.dims js) is (index_lists r.dims) (admitted_listed r.dims is admitted)) b

  items_are_read : (place : ℕ) (items : List Item) (result : Result (Unit {0}) Refusal) (k l own : List Seen) (fs : List Found)
      → FindsItems place k items result own fs l → result ≡ Ok tt → IsAmong item items → StandsIn place → IsThere word k ⊎ IsThere word own
  items_are_read place items result k l own fs no_turn e among b = absurd among
  items_are_read place items result k l own fs (next_turn {x = x} j first rest given more h others) e (inl same) b =
      elim (item_is_read place k j first given (subst (λ (q : Asked). FindsAsked place k q (Ok tt) first given j) (ap (λ (y : Item). y.asked) (sym same) ∙ asks) h) b) [
        | inl kept ↦ inl kept
        | inr read ↦ inr (there_left word first rest read)
      ]
  items_are_read place items result k l own fs (next_turn {x = x} {xs = left} j first rest given more h others) e (inr among) b =
      elim (items_are_read place left result j l rest more others e among b) [
        | inl kept ↦ elim (asked_keeps word place k j x.asked first given h kept) [
          | inl before ↦ inl before
          | inr read ↦ inr (there_left word first rest read)
        ]
        | inr read ↦ inr (there_right word first rest read)
      ]
  items_are_read place items result k l own fs (short_turn first given apart h) e among b = absurd (apart e)

-- ---- records

-- the chosen record at a place
module _ (c : Caller) (s : Region) (word : ℕ) (bytes : List ℕ) (size : length bytes ≡ s.size) (p : Plan) (plan : IsPlan p) (item : Item) (f : Fold)
    (r : Resolution) (is : List ℕ) (among : IsAmong item p.items) (asks : item.asked ≡ asked.Of f r) (admitted : AreAdmitted r.dims is) (place : ℕ)
    (all : list_all (holds_for (take p.size (drop (place - s.first) bytes))) p.conditions ≡ true)
    (byte : HasByte (place + offset_at r.offset r.dims is) (place + offset_at r.offset r.dims is + width_of r.value.kind) word) where
  finds_are_read : (result : Result (Unit {0}) Refusal) (own : List Seen) (seen : List (List Found)) → LiesIn s place p.size
      → FindsRecord p place result own seen → result ≡ Ok tt → Agree c s bytes size own → IsThere word own
  finds_are_read result own seen lies (chosen k l one rest fs t h) ok w =
      elim (items_are_read word item f r is asks admitted place p.items result k l rest fs h ok among byte) [
        | inl kept ↦ elim (conditions_keep word place p.conditions (Ok true) [] k one [] t refl kept) [
          | inl z ↦ absurd z
          | inr read ↦ there_left word one rest read
        ]
        | inr read ↦ there_right word one rest read
      ]
  finds_are_read result own seen lies (passed_over k one t) ok w =
      let fails : list_all (holds_for (take p.size (drop (place - s.first) bytes))) p.conditions ≡ false =
      (tests_of_bytes c s bytes size p.size p.alignment place lies p.conditions k one false plan.conditions t w).0 in
      let no : true ≡ false = sym all ∙ fails in
      absurd (cc)
  finds_are_read result own seen lies (untested k one t) ok w = absurd (cc)

  record_is_read : (own : List Entry) (seen : List (List Found)) → LiesIn s place p.size
      → ReadsRecord c s.arena p place (Ok tt) own seen → FindAs s bytes own → HasRead c s.arena word own
  record_is_read own seen lies r w =
      let found = agree c s bytes size r.seen (subst (λ (es : List Entry). FindAs s bytes es) r.visits w) in
      subst (λ (es : List Entry). HasRead c s.arena word es) (sym r.visits)
      (visits_read c s.arena word r.seen (finds_are_read (Ok tt) r.seen seen lies r.finds refl found))

  -- it is one of those that were read
  records_are_read : (index count : ℕ) (own : List Entry) (found : List (List Found)) → LiesIn s s.first (count * p.size)
      → InOrder (Ok tt) (ReadsRecord c s.arena p) (record_places count p.size s.first) (Ok tt) own found → FindAs s bytes own → index < count
      → place ≡ s.first + index * p.size → HasRead c s.arena word own
  records_are_read index count own found lies h w below at =
      let next : suc index * p.size ≡ index * p.size + p.size = grind arith in
      let end = mul-le-mul_right p.size below in
      let within = lies.within in
      in_order_part (λ es. FindAs s bytes es → HasRead c s.arena word es) (λ es fs k v. read_left c s.arena word es fs (k (all_split _ es fs v).0))
      (λ es fs k v. read_right c s.arena word es fs (k (all_split _ es fs v).1)) place
      (λ es seen k. record_is_read es seen (record { from = omega (arith, at); within = omega (arith, at, next, end, within) }) k)
      (record_places count p.size s.first) (Ok tt) own found
      (subst (λ (q : ℕ). IsAmong q (record_places count p.size s.first)) (sym at) (among_places index count p.size s.first below)) h refl w

-- ---- the record of an index

record StandsThere (index count size : ℕ) (bytes piece : List ℕ) : Type 0 where
  below : index < count
  is : piece ≡ take size (drop (index * size) bytes)

piece_there : (index count size : ℕ) (bytes piece : List ℕ) → slice_get (pieces count size bytes) index ≡ Some piece → StandsThere index count size bytes piece
piece_there index zero size bytes piece h = absurd (cc)
piece_there zero (suc count) size bytes piece h =
    let first : take size bytes ≡ piece = cc in
    let none : 0 * size ≡ 0 = omega arith in
    record { below = omega arith; is = sym first ∙ ap (λ n. take size (drop n bytes)) (sym none) }
piece_there (suc index) (suc count) size bytes piece h =
    let rest = piece_there index count size (drop size bytes) piece h in
    let at : size + index * size ≡ suc index * size = grind arith in
    record {
      below = omega (arith, rest.below);
      is = rest.is ∙ ap (take size) (drop-drop (index * size) size bytes) ∙ ap (λ n. take size (drop n bytes)) at;
    }

pub asked_is_read : (c : Caller) (p : Plan) (s : Region) (bytes : List ℕ) (a : List Found) (own : List Entry) (index : ℕ) (r : Resolution) (is : List ℕ)
    (word : ℕ)
    → IsAnswered c p s bytes a own → IsAsked p bytes index r is → IsWordOf (value_in p s index r is) word → HasRead c s.arena word own
asked_is_read c p s bytes a own index r is word h asks w =
    let there = piece_there index (length bytes / p.size) p.size bytes asks.record_bytes asks.stands in
    let offset : index * p.size ≡ s.first + index * p.size - s.first = omega arith in
    let piece = there.is ∙ ap (λ n. take p.size (drop n bytes)) offset in
    let bounds = width_of-bounds r.value.kind in
    let at : s.first + (index * p.size + offset_at r.offset r.dims is) ≡ s.first + index * p.size + offset_at r.offset r.dims is = omega arith in
    let byte = subst (λ (q : ℕ). HasByte q (q + width_of r.value.kind) word) at (record { above = w.above; below = w.below; some = omega (arith, bounds.0) }) in
    records_are_read c s word bytes h.size p h.plan asks.item asks.fold r is asks.among asks.asks asks.admitted (s.first + index * p.size)
    (ap (λ bs. list_all (holds_for bs) p.conditions) (sym piece) ∙ asks.chosen) byte index (s.size / p.size) own _ (records_lie p s) h.does.records.reads
    h.finds (subst (λ (n : ℕ). index < n / p.size) h.size there.below) refl
