-- What a caller inside an arena learns of a call, from what it did.
use Rattle.std.proofs.Common.{◌≡◌, ℕ, ◌/◌, List, [], ◌∷◌, length, refl, ◌∙◌, Some, Result, Ok, Err}
use Rattle.fm_base.specs.declared.{arena_id.ArenaId.{ArenaId}, refusal.Refusal.{Refusal}}
use Rattle.fm_base.specs.{Calls.{Call, Reply, Read, Write, Found, Fine}, Does.{DidAct, DidActs}, Learnt.{AfterAct, AfterLoads, AfterStores}, Outcomes.{Lasts}}
use Rattle.fm_base.specs.{View.{View, IsByItself}, Visits.{Acts, reads, writes}}
use Rattle.fm_base.proofs.{Making.{Makes-none}, Outcomes.{Makes-lasts}}
use Rattle.fm_segment.{specs.Region.{Region}, proofs.Access.{known_still}}
use Rattle.fm_visit.specs.Acts.{ActsAt, GetsWord, GetsWords, PutsWords, IsOfArguments}
use Rattle.fm_visit.specs.Learnt.{IsIn, AfterInside, AfterGetWord, AfterGetWords, AfterPutWords, place_of_words, place_to_put}
use Rattle.fm_visit.proofs.{Alone.{finds_words, puts_words}, Going.{DidJust}, Places.{words_err, put_err, put_ok, words_are_at}}

pub just_acts : {x y : View} {id : ArenaId} (acts : ArenaId → Acts) → x.inside ≡ Some id → DidActs x y acts → DidJust x y (acts id)
just_acts acts inside d = record { own = d.own; does = rw inside at d.does; makes = d.makes }

pub just_act : {x y : View} {id : ArenaId} (call : ArenaId → Call) (reply : Reply) → x.inside ≡ Some id → DidAct x y call reply → DidJust x y ((call id, reply) ∷ [])
just_act call reply inside d = record { own = d.own; does = rw inside at d.does; makes = d.makes }

module _ {x y : View} {r : Region} (can : IsIn x r.arena r) where
  -- Of a call that acted, by its parts.
  pub after_acts : {X : Type 0} {Do : Result X Refusal → Acts → Type 0} {Alone : X → Type 0} {v : X} (acts : Acts) → Do (Ok v) acts → DidJust x y acts
      → y.inside ≡ x.inside → Lasts x y → (IsByItself x → Alone v) → AfterInside x y r.arena r Do Alone (Ok v)
  after_acts acts are d inside lasts alone = record {
    did = record { own = d.own; does = record { acts = acts; are = are; entries = d.does }; makes = d.makes };
    refused = tt;
    alone = alone;
    still = record { known = known_still x y r lasts can.known; inside = inside ∙ can.inside };
    inside = inside;
    lasts = lasts;
  }

  -- Of a word that was read.
  pub word_got : (offset v : ℕ) {p : ℕ} → place_of_words offset 1 r ≡ Ok p → AfterAct x y (λ a. Read a (p / 8)) (Found v) → AfterGetWord x y r offset (Ok v)
  word_got offset v {p} is a =
      let at = words_are_at offset 1 r p is in
      let d = just_act (λ b. Read b (p / 8)) (Found v) can.inside a.did in
      after_acts (reads r.arena (p / 8) (v ∷ [])) (rw is refl) d a.inside a.lasts (λ h. finds_words (p / 8) (v ∷ []) (at.even ∙ at.is) h d)

  -- Of words that were read.
  pub words_got : (offset : ℕ) (words : List ℕ) {p : ℕ} → place_of_words offset (length words) r ≡ Ok p → AfterLoads x y (p / 8) words
      → AfterGetWords x y r offset words (Ok tt)
  words_got offset words {p} is a =
      let at = words_are_at offset (length words) r p is in
      let d = just_acts (λ b. reads b (p / 8) words) can.inside a.did in
      after_acts (reads r.arena (p / 8) words) (rw is refl) d a.inside a.lasts (λ h. finds_words (p / 8) words (at.even ∙ at.is) h d)

  -- Of words that were put.
  put : (offset : ℕ) (words : List ℕ) {p : ℕ} → place_to_put offset (length words) r ≡ Ok p → DidJust x y (writes r.arena (p / 8) words) → y.inside ≡ x.inside
      → Lasts x y → AfterPutWords x y r offset words (Ok tt)
  put offset words {p} is d inside lasts =
      let at = words_are_at offset (length words) r p (put_ok offset (length words) r p is) in
      after_acts (writes r.arena (p / 8) words) (rw is refl) d inside lasts
      (λ h. puts_words (p / 8) words (at.even ∙ at.is) h can.known.arena d)

  pub word_put : (offset v : ℕ) {p : ℕ} → place_to_put offset 1 r ≡ Ok p → AfterAct x y (λ a. Write a (p / 8) v) Fine → AfterPutWords x y r offset (v ∷ []) (Ok tt)
  word_put offset v {p} is a = put offset (v ∷ []) is (just_act (λ b. Write b (p / 8) v) Fine can.inside a.did) a.inside a.lasts

  pub words_put : (offset : ℕ) (words : List ℕ) {p : ℕ} → place_to_put offset (length words) r ≡ Ok p → AfterStores x y (p / 8) words
      → AfterPutWords x y r offset words (Ok tt)
  words_put offset words {p} is a = put offset words is (just_acts (λ b. writes b (p / 8) words) can.inside a.did) a.inside a.lasts

-- ---- refused

-- Of a call that was refused by its arguments.
pub after_refused : {X : Type 0} {x : View} {found : Result ℕ Refusal} {r : Region} {Alone : X → Type 0} {e : Refusal}
    (Do : ℕ → Result X Refusal → Acts → Type 0) (result : Result X Refusal) → IsIn x r.arena r → found ≡ Err e → result ≡ Err e → IsOfArguments e
    → AfterInside x x r.arena r (ActsAt found Do) Alone result
after_refused {x = x} {e = e} Do result can is same of = rw (is, same) (record {
  did = record { own = []; does = record { acts = []; are = (refl, refl); entries = refl }; makes = Makes-none x };
  refused = of;
  alone = λ h. tt;
  still = can;
  inside = refl;
  lasts = Makes-lasts x x [] (Makes-none x);
})

module _ {x : View} {r : Region} (can : IsIn x r.arena r) (offset : ℕ) where
  pub word_not_got : {e : Refusal} → place_of_words offset 1 r ≡ Err e → AfterGetWord x x r offset (Err e)
  word_not_got {e} is = after_refused (GetsWord r.arena) (Err e) can is refl (words_err offset 1 r e is)

  pub words_not_got : (words : List ℕ) {e : Refusal} → place_of_words offset (length words) r ≡ Err e → AfterGetWords x x r offset words (Err e)
  words_not_got words {e} is =
      after_refused (GetsWords r.arena words) (Err e) can is refl (words_err offset (length words) r e is)

  pub words_not_put : (words : List ℕ) {e : Refusal} → place_to_put offset (length words) r ≡ Err e → AfterPutWords x x r offset words (Err e)
  words_not_put words {e} is =
      after_refused (PutsWords r.arena words) (Err e) can is refl (put_err offset (length words) r e is)
