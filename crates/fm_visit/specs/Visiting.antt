-- A visit as a value: it has the name of the arena that was entered, and takes segments of this arena alone.
use Rattle.std.specs.Prelude.{◌≡◌, ◌⊎◌, ℕ, ℤ, Bool, ◌+◌, List, [], ◌∷◌, length, Result, Ok, Err}
use Rattle.fm_base.specs.declared.{arena_id.ArenaId.{ArenaId}, refusal.Refusal.{Refusal, TheVariants.{Unsupported}}}
use Rattle.fm_base.specs.{View.{View}, Visits.{Acts}}
use Rattle.fm_base_bytes.specs.Words.{bytes_in}
use Rattle.fm_lanes.specs.declared.value.Value.{Value, TheVariants.{Long}}
use Rattle.fm_path.specs.Resolution.{Resolution}
use Rattle.fm_segment_access.specs.Alone.{ChangesBytes}
use Rattle.fm_segment.specs.Region.{Region}
use Rattle.fm_visit.specs.{Acts.{ActsAt, GetsWord, GetsWords, PutsWords}, Learnt.{AfterInside, FindsWords, place_of_words, place_to_put}}
use Rattle.fm_visit.specs.Handles.{AddsIt, DoesAdd, DoesAddLong, DoesCompareAndSet, DoesExchange, DoesExchangeLong, DoesGetBy, DoesSetBy, DoesSetLong}
use Rattle.fm_visit.specs.Handles.{ExchangesIt, Finds, Puts, SetsIt}

-- whether it was refused, and by what
abbrev pub outcome_of : {X : Type 0} → Result X Refusal → Result (Unit {0}) Refusal
outcome_of (Ok x) = Ok tt
outcome_of (Err e) = Err e

-- what is done with a segment of the arena; one of another arena is refused, and nothing is done
abbrev pub ActsIn : {X : Type 0} → ArenaId → Region → (Result X Refusal → Acts → Type 0) → Result X Refusal → Acts → Type 0
ActsIn id r Do result acts = ((r.arena ≡ id) × Do result acts) ⊎ (¬ (r.arena ≡ id) × (result ≡ Err Unsupported) × (acts ≡ []))

-- of each call of a visit: what the call inside does, or that refusal
module _ (old new : View) (id : ArenaId) (r : Region) where
  abbrev pub AfterVisitGetWord : ℕ → Result ℕ Refusal → Type 0
  AfterVisitGetWord offset =
      AfterInside old new id r (ActsIn id r (ActsAt (place_of_words offset 1 r) (GetsWord r.arena)))
      (λ v. FindsWords old new r.arena (r.first + offset) (v ∷ []))

  abbrev pub AfterVisitGetWords : ℕ → List ℕ → Result (Unit {0}) Refusal → Type 0
  AfterVisitGetWords offset words =
      AfterInside old new id r (ActsIn id r (ActsAt (place_of_words offset (length words) r) (GetsWords r.arena words)))
      (λ u. FindsWords old new r.arena (r.first + offset) words)

  abbrev pub AfterVisitPutWords : ℕ → List ℕ → Result (Unit {0}) Refusal → Type 0
  AfterVisitPutWords offset words =
      AfterInside old new id r (ActsIn id r (ActsAt (place_to_put offset (length words) r) (PutsWords r.arena words)))
      (λ u. ChangesBytes old new r.arena (r.first + offset) (bytes_in words))

-- ---- of any call

-- of a call on a segment: what the call inside does, or that refusal
abbrev pub AfterVisit : {X : Type 0} → View → View → ArenaId → Region → (Result X Refusal → Acts → Type 0) → (X → Type 0) → Result X Refusal → Type 0
AfterVisit old new id r Do Alone result = AfterInside old new id r (ActsIn id r Do) Alone result

abbrev pub AreOf : ArenaId → Region → Region → Type 0
AreOf id a b = (a.arena ≡ id) × (b.arena ≡ id)

-- what is done with two segments of the arena; where one is of another arena, both are refused
abbrev pub ActsInBoth : {X : Type 0} → ArenaId → Region → Region → (Result X Refusal → Acts → Type 0) → Result X Refusal → Acts → Type 0
ActsInBoth id a b Do result acts = (AreOf id a b × Do result acts) ⊎ (¬ (AreOf id a b) × (result ≡ Err Unsupported) × (acts ≡ []))

abbrev pub AfterVisitBoth : {X : Type 0} → View → View → ArenaId → Region → Region → (Result X Refusal → Acts → Type 0) → (X → Type 0)
    → Result X Refusal → Type 0
AfterVisitBoth old new id a b Do Alone result = AfterInside old new id a (ActsInBoth id a b Do) Alone result

-- ---- of the calls by a handle

module _ (old new : View) (id : ArenaId) (h : Resolution) (r : Region) (base : ℕ) (is : List ℕ) where
  abbrev pub AfterVisitGetBy : Result Value Refusal → Type 0
  AfterVisitGetBy = AfterVisit old new id r (DoesGetBy h r base is) (Finds h r base is old new)

  abbrev pub AfterVisitSetBy : Value → Result (Unit {0}) Refusal → Type 0
  AfterVisitSetBy x = AfterVisit old new id r (DoesSetBy h r base is x) (λ u. Puts h r base is old new x)

  abbrev pub AfterVisitCompareAndSet : Value → Value → Result Bool Refusal → Type 0
  AfterVisitCompareAndSet expected x = AfterVisit old new id r (DoesCompareAndSet h r base is expected x) (SetsIt h r base is old new expected x)

  abbrev pub AfterVisitExchange : Value → Value → Result Value Refusal → Type 0
  AfterVisitExchange expected x = AfterVisit old new id r (DoesExchange h r base is expected x) (ExchangesIt h r base is old new expected x)

  abbrev pub AfterVisitAdd : Value → Result Value Refusal → Type 0
  AfterVisitAdd delta = AfterVisit old new id r (DoesAdd h r base is delta) (AddsIt h r base is old new delta)

  abbrev pub AfterVisitSetLong : ℤ → Result (Unit {0}) Refusal → Type 0
  AfterVisitSetLong n = AfterVisit old new id r (DoesSetLong h r base is n) (λ u. Puts h r base is old new (Long n))

  abbrev pub AfterVisitExchangeLong : ℤ → ℤ → Result ℤ Refusal → Type 0
  AfterVisitExchangeLong expected n =
      AfterVisit old new id r (DoesExchangeLong h r base is expected n) (λ x. ExchangesIt h r base is old new (Long expected) (Long n) (Long x))

  abbrev pub AfterVisitAddLong : ℤ → Result ℤ Refusal → Type 0
  AfterVisitAddLong delta = AfterVisit old new id r (DoesAddLong h r base is delta) (λ x. AddsIt h r base is old new (Long delta) (Long x))
