-- Values by a handle, inside a visit.
use Rattle.std.specs.Prelude.{◌≡◌, ℕ, ℤ, Bool, List, length, Result, Ok, Err}
use Rattle.fm_base.specs.{declared.{arena_id.ArenaId.{ArenaId}, refusal.Refusal.{Refusal}}, View.{View}, Visits.{Acts}}
use Rattle.fm_lanes.specs.{declared.value.Value.{Value, TheVariants.{Long}}, Coding.{value_of, bytes_of_value}, Kind.{width_of}, Value.{kind_of}}
use Rattle.fm_path.specs.{declared.value_spec.ValueSpec.{ValueSpec}, Resolution.{Resolution}}
use Rattle.fm_segment.specs.Region.{Region}
use Rattle.fm_handle.specs.{Access.{Wins}, Acts.{Adds, AddsLong, Exchanges, ExchangesLong, Stores, word_of}}
use Rattle.fm_handle.specs.Alone.{FindsValue, PutsValue, ExchangesValue, SetsExpected, AddsValue}
use Rattle.fm_handle.specs.Place.{place_of, writable_place_of, update_place_of, value_place, can_update, fills_word, is_word}
use Rattle.fm_visit.specs.{Acts.{ActsAt}, Learnt.{AfterInside, IsIn}, Runs.{GetsAs}, Values.{PutsHere}}

-- inside the segment's arena, with an index for each open step
pub record CanCall (v : View) (id : ArenaId) (h : Resolution) (r : Region) (is : List ℕ) : Type 0 where
  pub inside : IsIn v id r
  pub indices : length is ≡ length h.dims

-- the same, and a value of the handle's kind
pub record CanPut (v : View) (id : ArenaId) (h : Resolution) (r : Region) (is : List ℕ) (x : Value) : Type 0 where
  pub call : CanCall v id h r is
  pub value : kind_of x ≡ h.value.kind

-- the same, and the value expected of that kind too
pub record CanExchange (v : View) (id : ArenaId) (h : Resolution) (r : Region) (is : List ℕ) (wanted x : Value) : Type 0 where
  pub call : CanCall v id h r is
  pub expected : kind_of wanted ≡ h.value.kind
  pub value : kind_of x ≡ h.value.kind

-- the value is read at the place
abbrev pub ReadsValue : ArenaId → ValueSpec → ℕ → Result Value Refusal → Acts → Type 0
ReadsValue id spec place (Ok v) acts = GetsAs (value_of spec.kind spec.order) id place (width_of spec.kind) v acts
ReadsValue id spec place (Err r) acts = ⊥

-- acts at the place that give the answer
abbrev pub Gives : {X : Type 0} → (ℕ → X → Acts → Type 0) → ℕ → Result X Refusal → Acts → Type 0
Gives Give place (Ok x) acts = Give place x acts
Gives Give place (Err r) acts = ⊥

module _ (h : Resolution) (r : Region) (base : ℕ) (is : List ℕ) where
  -- ---- the acts of each call

  abbrev pub DoesGetBy : Result Value Refusal → Acts → Type 0
  DoesGetBy = ActsAt (place_of base is h r) (ReadsValue r.arena h.value)

  abbrev pub DoesSetBy : Value → Result (Unit {0}) Refusal → Acts → Type 0
  DoesSetBy x = ActsAt (writable_place_of base is h r) (PutsHere r.arena (bytes_of_value h.value.order x))

  abbrev pub DoesExchange : Value → Value → Result Value Refusal → Acts → Type 0
  DoesExchange expected x = ActsAt (update_place_of can_update base is h r) (Gives (λ place. Exchanges h.value.order r.arena place expected x))

  abbrev pub DoesCompareAndSet : Value → Value → Result Bool Refusal → Acts → Type 0
  DoesCompareAndSet expected x =
      ActsAt (update_place_of can_update base is h r) (Gives (λ place. Wins (Exchanges h.value.order r.arena place expected x) expected))

  abbrev pub DoesAdd : Value → Result Value Refusal → Acts → Type 0
  DoesAdd delta = ActsAt (update_place_of can_update base is h r) (Gives (λ place. Adds h.value.order r.arena place delta))

  abbrev pub DoesSetLong : ℤ → Result (Unit {0}) Refusal → Acts → Type 0
  DoesSetLong n = ActsAt (update_place_of fills_word base is h r) (Gives (λ place u. Stores r.arena place (word_of h.value.order n)))

  abbrev pub DoesExchangeLong : ℤ → ℤ → Result ℤ Refusal → Acts → Type 0
  DoesExchangeLong expected n = ActsAt (update_place_of fills_word base is h r) (Gives (λ place. ExchangesLong h.value.order r.arena place expected n))

  abbrev pub DoesAddLong : ℤ → Result ℤ Refusal → Acts → Type 0
  DoesAddLong delta = ActsAt (update_place_of is_word base is h r) (Gives (λ place. AddsLong r.arena place delta))

  -- ---- what the only caller sees

  module _ (old new : View) where
    abbrev pub Finds : Value → Type 0
    Finds = FindsValue old new h.value r.arena (value_place base is h r)

    abbrev pub Puts : Value → Type 0
    Puts = PutsValue old new h.value r.arena (value_place base is h r)

    abbrev pub ExchangesIt : Value → Value → Value → Type 0
    ExchangesIt = ExchangesValue old new h.value r.arena (value_place base is h r)

    abbrev pub SetsIt : Value → Value → Bool → Type 0
    SetsIt = SetsExpected old new h.value r.arena (value_place base is h r)

    abbrev pub AddsIt : Value → Value → Type 0
    AddsIt = AddsValue old new h.value r.arena (value_place base is h r)

-- ---- what is learnt

module _ (old new : View) (h : Resolution) (r : Region) (base : ℕ) (is : List ℕ) where
  abbrev pub AfterGetBy : Result Value Refusal → Type 0
  AfterGetBy = AfterInside old new r.arena r (DoesGetBy h r base is) (Finds h r base is old new)

  abbrev pub AfterSetBy : Value → Result (Unit {0}) Refusal → Type 0
  AfterSetBy x = AfterInside old new r.arena r (DoesSetBy h r base is x) (λ u. Puts h r base is old new x)

  abbrev pub AfterExchange : Value → Value → Result Value Refusal → Type 0
  AfterExchange expected x = AfterInside old new r.arena r (DoesExchange h r base is expected x) (ExchangesIt h r base is old new expected x)

  abbrev pub AfterCompareAndSet : Value → Value → Result Bool Refusal → Type 0
  AfterCompareAndSet expected x = AfterInside old new r.arena r (DoesCompareAndSet h r base is expected x) (SetsIt h r base is old new expected x)

  abbrev pub AfterAdd : Value → Result Value Refusal → Type 0
  AfterAdd delta = AfterInside old new r.arena r (DoesAdd h r base is delta) (AddsIt h r base is old new delta)

  abbrev pub AfterSetLong : ℤ → Result (Unit {0}) Refusal → Type 0
  AfterSetLong n = AfterInside old new r.arena r (DoesSetLong h r base is n) (λ u. Puts h r base is old new (Long n))

  abbrev pub AfterExchangeLong : ℤ → ℤ → Result ℤ Refusal → Type 0
  AfterExchangeLong expected n =
      AfterInside old new r.arena r (DoesExchangeLong h r base is expected n) (λ x. ExchangesIt h r base is old new (Long expected) (Long n) (Long x))

  abbrev pub AfterAddLong : ℤ → Result ℤ Refusal → Type 0
  AfterAddLong delta = AfterInside old new r.arena r (DoesAddLong h r base is delta) (λ x. AddsIt h r base is old new (Long delta) (Long x))
