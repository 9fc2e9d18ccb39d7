-- No word of a record is read twice, where no path of a query has an open step.
use Rattle.std.proofs.Common.{◌≡◌, ℕ, suc, ◌+◌, ◌*◌, ◌%◌, ◌≤◌, Bool, true, false, Option, None, Some, Result, Ok, Err, List, [], ◌∷◌, ◌++◌, length, map, take, refl, sym, ap, ◌∙◌, subst, append_assoc, inl, inr, arith}
use Rattle.std.{specs.{Prelude.{ℤ}, List.{AllByRecursion}}, proofs.lemmas.{Bool.{cases_lt}, List.{append-nil, length-append, length-map, map-append, take_all}}}
use Rattle.fm_base.specs.declared.refusal.Refusal.{Refusal, TheVariants.{Closed, Memory}}
use Rattle.fm_base_lists.{specs.Among.{AreApart, IsAmong}, proofs.Among.{among_either, among_left}}
use Rattle.fm_lanes.specs.Kind.{width_of}
use Rattle.fm_path.specs.{Wide.{wide_dims}, declared.value_spec.ValueSpec.{ValueSpec}}
use Rattle.fm_path_meaning.specs.{Walk.{offset_at}, declared.dim.Dim.{Dim}}
use Rattle.fm_records_query.specs.{Plan.{IsPlan, Plan}, declared.{condition.Condition.{Condition}, item.{Asked.{Asked}, Item.{Item}}}}
use Rattle.fm_records_query.specs.declared.item.Asked.TheVariants as asked
use Rattle.fm_records.specs.{declared.found.Found.{Found}, Laws.{IsFixed, ReadsWordsOnce}}
use Rattle.fm_records.specs.Reads.{FindsAsked, FindsClosed, FindsRecord, InTurn, ReadsNumber, TakesNumber, TakesPath, Tests, TestsConditions, chosen, next_turn, no_turn, passed_over, short_turn, untested, value_places}
use Rattle.fm_records.specs.{Values.{index_lists}, Words.{Seen, found_at, kept_after, kept_all, most_words, unkept, unless_found, words_at}}
use Rattle.fm_records.proofs.{Getting.{found_mapped, words_across, words_inside}, Reaching.{wide_many}}

-- ---- lists in which nothing stands twice

apart_both : (xs ys : List ℕ) → AreApart xs → AreApart ys → ((y : ℕ) → IsAmong y ys → ¬ (IsAmong y xs)) → AreApart (xs ++ ys)
apart_both [] ys h k other = k
apart_both (x ∷ xs) ys h k other = (
  λ a. elim (among_either x xs ys a) [ inl b ↦ h.0 b | inr b ↦ other x b (inl refl) ],
  apart_both xs ys h.1 k (λ y a b. other y a (inr b)),
)

apart_first : (xs ys : List ℕ) → AreApart (xs ++ ys) → AreApart xs
apart_first [] ys h = tt
apart_first (x ∷ xs) ys h = ((λ a. h.0 (among_left x xs ys a)), apart_first xs ys h.1)

-- ---- the words of one value

abbrev words : List Seen → List ℕ
words seen = map (λ x. x.0) seen

two_words : (place width : ℕ) → AreApart (words_at place width) × (length (words_at place width) ≤ 2)
two_words place width = elim (cases_lt 8 (place % 8 + width)) [
  | inl crosses ↦
      subst (λ (ws : List ℕ). AreApart ws × (length ws ≤ 2)) (sym (words_across place width crosses))
      (((λ a. elim a [ inl e ↦ absurd (omega (arith, e)) | inr z ↦ absurd z ]), ((λ a. absurd a), tt)), omega arith)
  | inr fits ↦
      subst (λ (ws : List ℕ). AreApart ws × (length ws ≤ 2)) (sym (words_inside place width fits)) (((λ a. absurd a), tt), omega arith)
]

-- those that aren't kept are among all
unkept_among : (k : List Seen) (ws : List ℕ) (w : ℕ) → IsAmong w (unkept k ws) → IsAmong w ws
unkept_among k [] w a = absurd a
unkept_among k (v ∷ ws) w a = go (unkept_among k ws w) (found_at k v) a
  where
    go : (IsAmong w (unkept k ws) → IsAmong w ws) → (o : Option ℕ) → IsAmong w (unless_found o v (unkept k ws)) → IsAmong w (v ∷ ws)
    go rest None (inl is) = inl is
    go rest None (inr b) = inr (rest b)
    go rest (Some n) b = inr (rest b)

unkept_apart : (k : List Seen) (ws : List ℕ) → AreApart ws → AreApart (unkept k ws)
unkept_apart k [] h = tt
unkept_apart k (v ∷ ws) h = go (found_at k v) (unkept_apart k ws h.1)
  where
    go : (o : Option ℕ) → AreApart (unkept k ws) → AreApart (unless_found o v (unkept k ws))
    go None rest = ((λ a. h.0 (unkept_among k ws v a)), rest)
    go (Some n) rest = rest

unkept_few : (k : List Seen) (ws : List ℕ) → length (unkept k ws) ≤ length ws
unkept_few k [] = omega arith
unkept_few k (v ∷ ws) = go (found_at k v) (unkept_few k ws)
  where
    go : (o : Option ℕ) → length (unkept k ws) ≤ length ws → length (unless_found o v (unkept k ws)) ≤ suc (length ws)
    go None few = omega (arith, few)
    go (Some n) few = omega (arith, few)

-- and none of them is kept
unkept_new : (k : List Seen) (ws : List ℕ) (w : ℕ) → IsAmong w (unkept k ws) → ¬ (IsAmong w (words k))
unkept_new k [] w a b = absurd a
unkept_new k (v ∷ ws) w a b = go (λ c. unkept_new k ws w c b) (found_at k v) refl a
  where
    go : (IsAmong w (unkept k ws) → ⊥) → (o : Option ℕ) → found_at k v ≡ o → IsAmong w (unless_found o v (unkept k ws)) → ⊥
    go rest None e (inl is) =
        let f = found_mapped k w b in
        let no : None ≡ Some f.0 = sym e ∙ ap (found_at k) (sym is) ∙ f.1 in
        absurd (cc)
    go rest None e (inr c) = rest c
    go rest (Some n) e c = rest c

-- a list with room keeps all
kept_fits : (k own : List Seen) → length k + length own ≤ 64 → kept_after kept_all k own ≡ k ++ own
kept_fits k [] few = sym (append-nil k)
kept_fits k (x ∷ xs) few =
    let long = length-append k (x ∷ []) in
    let one : take most_words (k ++ x ∷ []) ≡ k ++ x ∷ [] = take_all most_words (k ++ x ∷ []) (omega (arith, long, few)) in
    ap (λ ks. kept_after kept_all ks xs) one ∙ kept_fits (k ++ x ∷ []) xs (omega (arith, long, few)) ∙ append_assoc k (x ∷ []) xs

-- ---- one step, and many

-- the words that are read stand nowhere among those that are kept, and where it goes on, all of them are kept
record Once (most : ℕ) (k own l : List Seen) (GoesOn : Type 0) : Type 0 where
  apart : AreApart (words (k ++ own))
  few : length own ≤ most
  kept : GoesOn → l ≡ k ++ own

new_words : (k : List Seen) (ws : List ℕ) → AreApart (words k) → AreApart ws → AreApart (words k ++ unkept k ws)
new_words k ws h g = apart_both (words k) (unkept k ws) h (unkept_apart k ws g) (unkept_new k ws)

number_once : (k l : List Seen) (spec : ValueSpec) (place : ℕ) (own : List Seen) (n : ℤ) (G : Type 0) → ReadsNumber kept_all k spec place own n l
    → AreApart (words k) → length k + 2 ≤ 64 → Once 2 k own l G
number_once k l spec place own n G r h room =
    let two = two_words place (width_of spec.kind) in
    let long = length-map own (λ x. x.0) in
    let few : length own ≤ 2 = omega (arith, long, ap length r.words, unkept_few k (words_at place (width_of spec.kind)), two.1) in
    record {
      apart = subst AreApart (sym (map-append (λ x. x.0) k own ∙ ap (λ ws. words k ++ ws) r.words)) (new_words k (words_at place (width_of spec.kind)) h two.0);
      few = few;
      kept = λ g. r.kept ∙ kept_fits k own (omega (arith, room, few));
    }

closed_once : (k l : List Seen) (spec : ValueSpec) (place : ℕ) (own : List Seen) (G : Type 0) → FindsClosed k spec place own → (G → ⊥) → AreApart (words k)
    → Once 2 k own l G
closed_once k l spec place own G f never h =
    let two = two_words place (width_of spec.kind) in
    let rest = f.word ∷ f.behind in
    let all : AreApart ((words k ++ words own) ++ f.word ∷ f.behind) =
    subst AreApart (ap (λ ws. words k ++ ws) (sym f.words) ∙ sym (append_assoc (words k) (words own) rest))
    (new_words k (words_at place (width_of spec.kind)) h two.0) in
    let long = length-map own (λ x. x.0) in
    let parts = length-append (words own) rest in
    record {
      apart = subst AreApart (sym (map-append (λ x. x.0) k own)) (apart_first (words k ++ words own) rest all);
      few = omega (arith, long, parts, ap length f.words, unkept_few k (words_at place (width_of spec.kind)), two.1);
      kept = λ g. absurd (never g);
    }

turns_once : {A B R : Type 0} {goes : R} {T : List Seen → A → R → List Seen → List B → List Seen → Type 0} (P : A → Type 0)
    → ((k l : List Seen) (x : A) (r : R) (own : List Seen) (given : List B) → P x → T k x r own given l → AreApart (words k) → length k + 2 ≤ 64
    → Once 2 k own l (r ≡ goes))
    → (k l : List Seen) (xs : List A) (r : R) (own : List Seen) (given : List B) → AllByRecursion P xs → InTurn goes T k xs r own given l
    → AreApart (words k) → length k + 2 * length xs ≤ 64 → Once (2 * length xs) k own l (r ≡ goes)
turns_once P step k l xs r own given all no_turn h room = record {
  apart = subst (λ (ks : List Seen). AreApart (words ks)) (sym (append-nil k)) h;
  few = omega arith;
  kept = λ g. sym (append-nil k);
}
turns_once {goes = goes} P step k l xs r own given all (next_turn {x = x} {xs = left} j first rest gave more t others) h room =
    let one = step k j x goes first gave all.0 t h (omega (arith, room)) in
    let is : j ≡ k ++ first = one.kept refl in
    let few = one.few in
    let long : length j ≡ length k + length first = ap length is ∙ length-append k first in
    let behind = turns_once P step j l left r rest more all.1 others (subst (λ (ks : List Seen). AreApart (words ks)) (sym is) one.apart)
    (omega (arith, room, long, few)) in
    let parts : j ++ rest ≡ k ++ (first ++ rest) = ap (λ ks. ks ++ rest) is ∙ append_assoc k first rest in
    record {
      apart = subst (λ (ks : List Seen). AreApart (words ks)) parts behind.apart;
      few = omega (arith, length-append first rest, few, behind.few);
      kept = λ g. behind.kept g ∙ parts;
    }
turns_once P step k l xs r own given all (short_turn {x = x} first gave apart t) h room =
    let one = step k l x r own given all.0 t h (omega (arith, room)) in
    record { apart = one.apart; few = (let few = one.few in omega (arith, few)); kept = λ g. absurd (apart g) }

-- ---- conditions and items

any_of : {A : Type 0} (xs : List A) → AllByRecursion (λ x. Unit {0}) xs
any_of [] = tt
any_of (x ∷ xs) = (tt, any_of xs)

test_once : (place : ℕ) (k l : List Seen) (x : Condition) (r : Result Bool Refusal) (own : List Seen) → Tests place k x r own l → AreApart (words k)
    → length k + 2 ≤ 64 → Once 2 k own l (r ≡ Ok true)
test_once place k l x (Ok b) own t h room = number_once k l x.path.value (place + x.path.offset) own t.0 (Ok b ≡ Ok true) t.1 h room
test_once place k l x (Err Closed) own t h room = closed_once k l x.path.value (place + x.path.offset) own (Err Closed ≡ Ok true) t (λ e. cc) h
test_once place k l x (Err e) own t h room = absurd t

not_done : (r : Result (Unit {0}) Refusal) (e : Refusal) → r ≡ Err e → r ≡ Ok tt → ⊥
not_done r e is done = let no : Err e ≡ Ok tt = sym is ∙ done in absurd (cc)

take_once : (spec : ValueSpec) (k l : List Seen) (place : ℕ) (r : Result (Unit {0}) Refusal) (own : List Seen) (ns : List ℤ)
    → TakesNumber kept_all spec k place r own ns l → AreApart (words k) → length k + 2 ≤ 64 → Once 2 k own l (r ≡ Ok tt)
take_once spec k l place (Ok u) own ns t h room = number_once k l spec place own t.0 (Ok u ≡ Ok tt) t.1 h room
take_once spec k l place (Err Closed) own ns t h room = closed_once k l spec place own (Err Closed ≡ Ok tt) t.0 (not_done (Err Closed) Closed refl) h
take_once spec k l place (Err Memory) own ns t h room = number_once k l spec place own t.0 (Err Memory ≡ Ok tt) t.1 h room
take_once spec k l place (Err e) own ns t h room = absurd t

-- a path with no open step has one value
one_place : (place at : ℕ) (ds : List Dim) → wide_dims ds ≡ [] → length (value_places place at ds) ≡ 1
one_place place at ds none =
    length-map (index_lists ds) (λ is. place + offset_at at ds is) ∙ sym (wide_many ds) ∙ ap (λ xs. length (index_lists xs)) none

path_once : (ds : List Dim) (spec : ValueSpec) (k l : List Seen) (places : List ℕ) (r : Result (Unit {0}) Refusal) (own : List Seen) (ns : List ℤ) → ds ≡ []
    → length places ≡ 1 → TakesPath ds spec k places r own ns l → AreApart (words k) → length k + 2 ≤ 64 → Once 2 k own l (r ≡ Ok tt)
path_once [] spec k l places r own ns none one t h room =
    let o = turns_once (λ place. Unit {0}) (λ j m place e es gs any. take_once spec j m place e es gs) k l places r own ns (any_of places) t h (omega (arith, one, room)) in
    record { apart = o.apart; few = (let few = o.few in omega (arith, few, one)); kept = o.kept }
path_once (d ∷ ds) spec k l places r own ns none one t h room = absurd (cc)

item_once : (place : ℕ) (item : Item) → IsFixed item.asked → (k l : List Seen) (r : Result (Unit {0}) Refusal) (own : List Seen) (fs : List Found)
    → FindsAsked place k item.asked r own fs l → AreApart (words k) → length k + 2 ≤ 64 → Once 2 k own l (r ≡ Ok tt)
item_once place item fixed k l r own fs t h room = by item.asked fixed t
  where
    by : (a : Asked) → IsFixed a → FindsAsked place k a r own fs l → Once 2 k own l (r ≡ Ok tt)
    by asked.Count fixed t =
        let all : k ++ own ≡ k = ap (λ ks. k ++ ks) t.1 ∙ append-nil k in
        record {
          apart = subst (λ (ks : List Seen). AreApart (words ks)) (sym all) h;
          few = omega (arith, ap length t.1);
          kept = λ g. t.3 ∙ sym all;
        }
    by (asked.Of f path) fixed t =
        path_once (wide_dims path.dims) path.value k l (value_places place path.offset path.dims) r own t.0 fixed
        (one_place place path.offset path.dims fixed) t.1 h room

-- ---- a record

-- the words that its conditions read
tested : (p : Plan) (place : ℕ) (r : Result Bool Refusal) (k own : List Seen) → IsPlan p → TestsConditions place [] p.conditions r own k
    → Once (2 * length p.conditions) [] own k (r ≡ Ok true)
tested p place r k own plan t =
    let cs = plan.few_conditions in
    turns_once (λ x. Unit {0}) (λ j m x e es gs any d. test_once place j m x e es d) [] k p.conditions r own [] (any_of p.conditions) t tt (omega (arith, cs))

found_once : (p : Plan) (place : ℕ) (result : Result (Unit {0}) Refusal) (seen : List Seen) (given : List (List Found)) → IsPlan p
    → AllByRecursion (λ (item : Item). IsFixed item.asked) p.items → FindsRecord p place result seen given → AreApart (words seen)
found_once p place result seen given plan fixed (chosen k l own rest fs t h) =
    let cs = plan.few_conditions in
    let is = plan.few_items in
    let c = tested p place (Ok true) k own plan t in
    let kept : k ≡ own = c.kept refl in
    let few = c.few in
    let long = ap length kept in
    let i = turns_once (λ (item : Item). IsFixed item.asked) (λ j m item r es gs f d. item_once place item f j m r es gs d) k l p.items result rest fs fixed h
    (subst (λ (ks : List Seen). AreApart (words ks)) (sym kept) c.apart) (omega (arith, cs, is, few, long)) in
    subst (λ (ks : List Seen). AreApart (words (ks ++ rest))) kept i.apart
found_once p place result seen given plan fixed (passed_over k own t) = (tested p place (Ok false) k own plan t).apart
found_once p place result seen given plan fixed (untested {r = r} k own t) = (tested p place (Err r) k own plan t).apart

pub words_once : ReadsWordsOnce
words_once c id p place result own given plan fixed r = found_once p place result r.seen given plan fixed r.finds
