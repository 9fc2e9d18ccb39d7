-- What a caller learns of an access, from what it did.
use Rattle.std.{proofs.Common.{◌≡◌, ℕ, ◌+◌, true, false, List, [], refl, sym, ap, subst, ◌∙◌, None, Result, Ok, Err, IfOk, IfErr}, specs.Prelude.{OnErr, ⊤}}
use Rattle.fm_base.specs.{declared.{caller.Caller.{Caller}, arena_id.ArenaId.{ArenaId}, refusal.Refusal.{Refusal}}, Arenas.{has_arena}, Calls.{Entry}}
use Rattle.fm_base.{specs.{Histories.{state_after}, Outcomes.{Lasts}, View.{View, Did, IsByItself, inside_after}}, proofs.Faith.{Makes-alone}}
use Rattle.fm_base.proofs.{Making.{Makes-none}, Outcomes.{Makes-lasts}}
use Rattle.fm_lanes.specs.{declared.{order.Order.{Order}, value.Value.{Value}, value_kind.ValueKind.{ValueKind}}, Coding.{value_of, bytes_of_value}}
use Rattle.fm_lanes.specs.{Kind.{width_of}, Value.{kind_of}}
use Rattle.fm_segment_access.specs.{Alone.{StaysOut}, Found.{DoesAt, UseCause, StaysOutOf}, Learnt.{After}}
use Rattle.fm_segment_access.specs.{Ranges.{ReadsRange, DoesRead, Putting, DoesPut, DoesPutBy, PutsBy}, Values.{DoesGetValue, FindsValue, PutsValue}}
use Rattle.fm_segment_access.proofs.{Alone.{read_alone, read_shut}, Causes.{Causes, going}, Keeping.{read_kept, put_kept}, Outside.{EndsOutside, outside}}
use Rattle.fm_segment_access.proofs.{PuttingAlone.{ArePuts, pieces_put, put_shut}, Values.{AreBytes-value, puts_value, got_kind}}

module _ {X : Type 0} {old new : View} {Does : Result X Refusal → List Entry → Type 0} {Cause : Refusal → Type 0} {Alone : X
    → Type 0} {Shut : Type 0} {Known : View → Type 0} {Kind : X → Type 0} {result : Result X Refusal} where
  -- All that is learnt of a call that ends outside, by its parts.
  pub after_outside : new.inside ≡ None → (d : Did old new (Does result)) → IfErr result Cause → (IsByItself old → IfOk result Alone)
      → (IsByItself old → OnErr result Shut) → (Lasts old new → Known new) → IfOk result Kind → After old new Does Cause Alone Shut Known Kind result
  after_outside out d refused alone shut known kind =
      let lasts = Makes-lasts old new d.own d.makes in
      record { did = d; refused = refused; alone = alone; shut = shut; outside = out; lasts = lasts; known = known lasts; kind = kind }

  -- The same of one whose entries leave the caller outside.
  pub after_did : old.inside ≡ None → (d : Did old new (Does result)) → IfErr result Cause → EndsOutside d.own → (IsByItself old → IfOk result Alone)
      → (IsByItself old → OnErr result Shut) → (Lasts old new → Known new) → IfOk result Kind → After old new Does Cause Alone Shut Known Kind result
  after_did out d refused ends alone shut known kind =
      after_outside (d.makes.inside ∙ ap (λ i. inside_after i d.own) out ∙ ends) d refused alone shut known kind

-- what is so of a call, whatever the memory is: a refusal is the arena's, and it ends outside
pub record IsCall {X : Type 0} (c : Caller) (id : ArenaId) (Does : Result X Refusal → List Entry → Type 0) : Type 0 where
  pub refuses : (e : Refusal) (own : List Entry) → Does (Err e) own → UseCause id c e
  pub outside : (result : Result X Refusal) (own : List Entry) → Does result own → EndsOutside own

-- Of a call to an arena, by what is so of each answer and of each refusal.
module _ {X : Type 0} {old new : View} {id : ArenaId} {Does : Result X Refusal → List Entry → Type 0} {Cause : Refusal → Type 0} {Alone : X
    → Type 0} {Shut : Type 0} {Known : View → Type 0} {Kind : X → Type 0} where
  pub after_call : IsCall old.caller id Does → old.inside ≡ None → ((e : Refusal) → UseCause id old.caller e → Cause e) → (Lasts old new → Known new)
      → ((x : X) → Did old new (Does (Ok x)) → IsByItself old → Alone x) → ((e : Refusal) → Did old new (Does (Err e)) → IsByItself old → Shut)
      → ((x : X) → Did old new (Does (Ok x)) → Kind x)
      → (result : Result X Refusal) → Did old new (Does result) → After old new Does Cause Alone Shut Known Kind result
  after_call call out cause known alone shut kind (Ok x) d =
      after_did out d tt (call.outside (Ok x) d.own d.does) (λ h. alone x d h) (λ h. tt) known (kind x d)
  after_call call out cause known alone shut kind (Err e) d =
      after_did out d (cause e (call.refuses e d.own d.does)) (call.outside (Err e) d.own d.does) (λ h. tt) (λ h. shut e d h) known tt

-- ---- at the place that was found

-- what the only caller learns where a place was found: of an answer, and of a refusal
pub record IsLearnt {X : Type 0} (old new : View) (id : ArenaId) (found : Result ℕ Refusal) (Does : ℕ → Result X Refusal → List Entry
    → Type 0) (Alone Kind : X → Type 0) : Type 0 where
  pub alone : (p : ℕ) (x : X) → found ≡ Ok p → Did old new (Does p (Ok x)) → IsByItself old → Alone x
  pub shut : (p : ℕ) (e : Refusal) → Did old new (Does p (Err e)) → IsByItself old → StaysOut old new id
  pub kind : (p : ℕ) (x : X) (own : List Entry) → Does p (Ok x) own → Kind x

-- All that is learnt of an access at the place that was found.
module _ {X : Type 0} (old new : View) (id : ArenaId) (Does : ℕ → Result X Refusal → List Entry → Type 0) (Alone Kind : X → Type 0) where
  pub after_at : (found : Result ℕ Refusal) (Cause : Refusal → Type 0) (Known : View → Type 0) (result : Result X Refusal) → old.inside ≡ None
      → Causes found id old.caller Cause
      → ((p : ℕ) → IsCall old.caller id (Does p)) → IsLearnt old new id found Does Alone Kind → (Lasts old new → Known new)
      → Did old new (DoesAt found Does result) → After old new (DoesAt found Does) Cause Alone (StaysOutOf old new id found) Known Kind result
  after_at (Ok p) Cause Known result out causes call learnt known d =
      after_call (call p) out (causes.there p refl) known (λ x. learnt.alone p x refl) (learnt.shut p) (λ x d. learnt.kind p x d.own d.does) result d
  after_at (Err r) Cause Known result out causes call learnt known d =
      let Learnt : Result X Refusal → Type 0 = λ x. Did old new (DoesAt (Err r) Does x)
      → After old new (DoesAt (Err r) Does) Cause Alone (StaysOutOf old new id (Err r)) Known Kind x in
      let refused : Learnt (Err r) = λ d. after_did out d (causes.before r refl) (ap (inside_after None) d.does.1) (λ h. tt)
      (λ h. (Makes-alone old new d.own h d.makes).1 ∙ ap (state_after old.limit old.state) d.does.1) known tt in
      subst Learnt (sym d.does.0) refused d

-- A refusal has another cause where its cause gives that one.
pub if_err : {X : Type 0} (C D : Refusal → Type 0) (x : Result X Refusal) → ((e : Refusal) → C e → D e) → IfErr x C → IfErr x D
if_err C D (Ok x) f h = tt
if_err C D (Err e) f h = f e h

-- What was learnt, said otherwise.
pub after_said : {X Y : Type 0} {old new : View} {Does : Result X Refusal → List Entry → Type 0} {Cause : Refusal → Type 0} {Alone : X
    → Type 0} {Shut : Type 0} {Known : View → Type 0} {Kind : X → Type 0} {x : Result X Refusal}
    → (More : Result Y Refusal → List Entry → Type 0) (Why : Refusal → Type 0) (Sees : Y → Type 0) (Stays : Type 0) (Knows : View → Type 0) (Is : Y → Type 0)
    (y : Result Y Refusal)
    → After old new Does Cause Alone Shut Known Kind x → ((own : List Entry) → Does x own → More y own) → (IfErr x Cause → IfErr y Why) →
    (IsByItself old → IfOk x Alone → IfOk y Sees) → (IsByItself old → OnErr x Shut → OnErr y Stays)
    → Knows new → (IfOk x Kind → IfOk y Is) → After old new More Why Sees Stays Knows Is y
after_said More Why Sees Stays Knows Is y a does cause sees shut knows kind =
    let d = a.did in
    record {
      did = record { own = d.own; does = does d.own d.does; makes = d.makes };
      refused = cause a.refused;
      alone = λ h. sees h (a.alone h);
      shut = λ h. shut h (a.shut h);
      outside = a.outside;
      lasts = a.lasts;
      known = knows;
      kind = kind a.kind;
    }

-- What is learnt of a call that was refused before it went to an arena.
pub after_none : {X : Type 0} {old : View} (Does : Result X Refusal → List Entry → Type 0) (Cause : Refusal → Type 0) (Alone : X
    → Type 0) (Shut : Type 0) (Known : View → Type 0) (Kind : X → Type 0) (e : Refusal)
    → old.inside ≡ None → Does (Err e) [] → Cause e → Shut → Known old → After old old Does Cause Alone Shut Known Kind (Err e)
after_none {X} {old} Does Cause Alone Shut Known Kind e out does cause shut known =
    after_did out (record { own = []; does = does; makes = Makes-none old }) cause refl (λ h. tt) (λ h. shut) (λ l. known) tt

-- A refusal before a place was found.
pub refused_at : {X : Type 0} (v : View) (found : Result ℕ Refusal) (Does : ℕ → Result X Refusal → List Entry
    → Type 0) (e : Refusal) (result : Result X Refusal) → found ≡ Err e → result ≡ Err e
    → Did v v (DoesAt found Does result)
refused_at v found Does e result f r = rw (f, r) (record { own = []; does = (refl, refl); makes = Makes-none v })

-- ---- values

pub reads : {X : Type 0} (mean : List ℕ → X) (c : Caller) (id : ArenaId) (width p : ℕ) → IsCall c id (DoesRead mean c id p width)
reads mean c id width p = record {
  refuses = λ e own d. going c id (λ es. ReadsRange c id p (p + width) es None) e own d;
  outside = λ result own d. read_kept (outside c) id mean p width result own d;
}

pub puts : {Step : Caller → ArenaId → Putting → List Entry → Putting → Type 0} → ArePuts Step → (c : Caller) (id : ArenaId) (bytes : List ℕ) (p : ℕ)
    → IsCall c id (DoesPutBy Step c id p bytes)
puts {Step} h c id bytes p = record {
  refuses = λ e own d. going c id (λ es. PutsBy Step c id p bytes es false) e own d;
  outside = λ result own d. put_kept (outside c) id Step (λ x. ⊤) (λ x y es g s. (h.outside c id x y es s, tt)) p bytes result own tt d;
}

-- All that is learnt of getting a value at the place that was found.
pub after_get_at : (old new : View) (k : ValueKind) (o : Order) (id : ArenaId) (found : Result ℕ Refusal) (Cause : Refusal → Type 0) (Known : View
    → Type 0) (Alone : Value → Type 0) (result : Result Value Refusal)
    → old.inside ≡ None → Causes found id old.caller Cause → (Lasts old new → Known new)
    → ((p : ℕ) (v : Value) → found ≡ Ok p → FindsValue old new k o id p v → Alone v)
    → Did old new (DoesAt found (DoesGetValue old.caller k o id) result)
    → After old new (DoesAt found (DoesGetValue old.caller k o id)) Cause Alone (StaysOutOf old new id found) Known (λ v. kind_of v ≡ k) result
after_get_at old new k o id found Cause Known Alone result out causes known there d =
    after_at old new id (DoesGetValue old.caller k o id) Alone (λ v. kind_of v ≡ k)
    found Cause Known result out causes (reads (value_of k o) old.caller id (width_of k))
    (record {
      alone = λ p v e d alone. there p v e (read_alone (value_of k o) old new id p (width_of k) v d alone);
      shut = λ p e d alone. read_shut (value_of k o) old new id p (width_of k) e d alone;
      kind = λ p v own d. got_kind old.caller k o id p v own d;
    }) known d

-- All that is learnt of putting a value at the place that was found.
pub after_put_at : (old new : View) (k : ValueKind) (o : Order) (id : ArenaId) (v : Value) (found : Result ℕ Refusal) (Cause : Refusal → Type 0) (Known : View
    → Type 0) (Alone : Type 0) (result : Result (Unit {0}) Refusal)
    → old.inside ≡ None → Causes found id old.caller Cause → (Lasts old new → Known new) → kind_of v ≡ k → has_arena old.state id ≡ true
    → ((p : ℕ) → found ≡ Ok p → PutsValue old new k o id p v → Alone)
    → Did old new (DoesAt found (λ p. DoesPut old.caller id p (bytes_of_value o v)) result)
    → After old new (DoesAt found (λ p. DoesPut old.caller id p (bytes_of_value o v))) Cause (λ u. Alone) (StaysOutOf old new id found) Known (λ u. ⊤) result
after_put_at old new k o id v found Cause Known Alone result out causes known kind has there d =
    let bytes = bytes_of_value o v in
    after_at old new id (λ p. DoesPut old.caller id p (bytes_of_value o v)) (λ u. Alone) (λ u. ⊤) found Cause Known result out causes
    (puts pieces_put old.caller id bytes)
    (record {
      alone = λ p u e d alone. there p e (puts_value old new k o id p v u kind has d alone);
      shut = λ p e d alone. put_shut pieces_put old new id p bytes e (AreBytes-value o v) d alone;
      kind = λ p u own d. tt;
    }) known d
