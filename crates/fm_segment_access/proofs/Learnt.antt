-- What a caller learns of each access of this crate, from what it did.
use Rattle.std.proofs.{Common.{◌≡◌, ℕ, ◌<◌, ◌==◌, true, false, List, [], refl, None, Result, Ok, arith}, lemmas.Bool.Decides.{nat_tests}}
use Rattle.fm_segment_access.proofs.{Alone.{read_alone, read_shut, puts_none, changes}, Learning.{reads, puts, after_did, after_call, after_said, if_err}}
use Rattle.fm_segment_access.proofs.{PuttingAlone.{ArePuts, pieces_put, put_alone, put_shut}, Values.{AreBytes-value, got_fits, got_kind, puts_value}}
use Rattle.fm_segment_access.specs.{Found.{UseCause}, Learnt.{CanTouch, CanTouchNumber, AfterGet, AfterPutBy, AfterSome, AfterGetValue, AfterPutValue}}
use Rattle.fm_segment_access.specs.{Ranges.{DoesGet, Putting, DoesPut, DoesPutBy}, Values.{DoesGetValue}}
use Rattle.fm_base.{proofs.Making.{Makes-none}, specs.{Arenas.{has_arena}, Calls.{Entry}, View.{View, Did}, declared.arena_id.ArenaId.{ArenaId}}}
use Rattle.fm_base.specs.declared.{caller.Caller.{Caller}, refusal.Refusal.{Refusal}}
use Rattle.fm_base_bytes.specs.Bytes.{AreBytes, number_of}
use Rattle.fm_lanes.specs.{Coding.{value_of, bytes_of_value}, Kind.{width_of}, Value.{kind_of}, declared.{order.Order.{Order}, value.Value.{Value}}}
use Rattle.fm_lanes.specs.declared.value_kind.ValueKind.{ValueKind}

-- All that is learnt of `get_number`.
pub after_get : {old new : View} {id : ArenaId} {place width : ℕ} {result : Result ℕ Refusal} → CanTouchNumber old id place width
    → Did old new (DoesGet old.caller id place width result) → AfterGet old new id place width result
after_get {old} {new} {id} {place} {width} {result} can d =
    after_call (reads number_of old.caller id width place) can.outside (λ e u. u) (λ l. l.known id can.known)
    (read_alone number_of old new id place width) (read_shut number_of old new id place width)
    (λ n d. got_fits old.caller id place width n d.own d.does) result d

-- ---- calls that may have no byte to put

pub after_no_bytes : {old : View} {id : ArenaId} {place : ℕ} (Step : Caller → ArenaId → Putting → List Entry → Putting → Type 0) (n : ℕ) (bytes : List ℕ)
    → CanTouch old id place n → n ≡ 0 → bytes ≡ [] → AfterSome old old id place bytes n (DoesPutBy Step old.caller id place bytes) (Ok tt)
after_no_bytes {old} {id} {place} Step n bytes can none empty =
    after_did can.outside (record { own = []; does = rw none (refl, refl); makes = Makes-none old }) tt refl
    (λ h. changes old old id place bytes can.known (puts_none old.state id place bytes empty)) (λ h. tt) (λ l. can.known) tt

module _ {Step : Caller → ArenaId → Putting → List Entry → Putting → Type 0} (puts_them : ArePuts Step) {old new : View} {id : ArenaId} {place : ℕ}
    {bytes : List ℕ} {result : Result (Unit {0}) Refusal} where
  -- All that is learnt of a call that puts bytes, whichever its steps are.
  pub after_put : old.inside ≡ None → has_arena old.state id ≡ true → AreBytes bytes → Did old new (DoesPutBy Step old.caller id place bytes result)
      → AfterPutBy old new id place bytes (DoesPutBy Step old.caller id place bytes) (UseCause id old.caller) result
  after_put out has are d =
      after_call (puts puts_them old.caller id bytes place) out (λ e u. u) (λ l. l.known id has)
      (λ u d h. put_alone puts_them old new id place bytes u are has d h) (λ e d h. put_shut puts_them old new id place bytes e are d h) (λ u d. tt) result d

  -- The same of one that may have none.
  pub after_bytes : (n : ℕ) → CanTouch old id place n → 0 < n → AreBytes bytes → Did old new (DoesPutBy Step old.caller id place bytes result)
      → AfterSome old new id place bytes n (DoesPutBy Step old.caller id place bytes) result
  after_bytes n can some are d =
      let all = after_put can.outside can.known are d in
      let more : (n == 0) ≡ false = grind (arith, nat_tests) in
      after_said _ _ _ _ _ _ result all (λ own x. rw more x)
      (if_err (UseCause id old.caller) (λ e. (0 < n) × UseCause id old.caller e) result (λ e x. (some, x))) (λ h x. x) (λ h x. x) all.known (λ x. x)

-- ---- values

-- All that is learnt of `get_value`.
pub after_get_value : {old new : View} {k : ValueKind} (o : Order) {id : ArenaId} {place : ℕ} {result : Result Value Refusal}
    → CanTouch old id place (width_of k)
    → Did old new (DoesGetValue old.caller k o id place result) → AfterGetValue old new id place k o result
after_get_value {old} {new} {k} o {id} {place} {result} can d =
    after_call (reads (value_of k o) old.caller id (width_of k) place) can.outside (λ e u. u) (λ l. l.known id can.known)
    (read_alone (value_of k o) old new id place (width_of k)) (read_shut (value_of k o) old new id place (width_of k))
    (λ v d. got_kind old.caller k o id place v d.own d.does) result d

-- All that is learnt of `put_value`.
pub after_put_value : {old new : View} {o : Order} {id : ArenaId} {place : ℕ} {v : Value} {result : Result (Unit {0}) Refusal}
    → CanTouch old id place (width_of (kind_of v))
    → Did old new (DoesPut old.caller id place (bytes_of_value o v) result) → AfterPutValue old new id place o v result
after_put_value {old} {new} {o} {id} {place} {v} {result} can d =
    let are = AreBytes-value o v in
    after_call (puts pieces_put old.caller id (bytes_of_value o v) place) can.outside (λ e u. u) (λ l. l.known id can.known)
    (λ u d h. puts_value old new (kind_of v) o id place v u refl can.known d h)
    (λ e d h. put_shut pieces_put old new id place (bytes_of_value o v) e are d h) (λ u d. tt) result d
