-- What a call of the gate teaches of its pass, as the memory tells it.
use Rattle.std.{proofs.Common.{◌≡◌, ◌≢◌, ◌≤◌, ◌^◌, ℕ, List, [], ◌++◌, refl, ap, ◌∙◌, subst, Some, Result, Ok, Err}, specs.Prelude.{IfErr}}
use Rattle.fm_base.specs.declared.{arena_id.ArenaId.{ArenaId}, kind.Kind.{Kind, TheVariants.{Automatic}}, refusal.Refusal.{Refusal}}
use Rattle.fm_base.specs.{Calls.{Call, Reply, Entry}, Histories.{IsLegal}, View.{inside_next, but_loans}, Does.{DoesOpen}, Finds.{is_slot, FoundNothing}}
use Rattle.fm_base.{specs.Outcomes.{MayCome}, proofs.Making.{IsLegal-split}}
use Rattle.fm_base.proofs.Learning.{after_enter, after_act, after_patch, after_leave, after_open, after_allocate, after_close}
use Rattle.fm_base.specs.declared.refusal.Refusal.TheVariants as refusal
use Rattle.fm_base.specs.View as memory
use Rattle.fm_base.specs.Learnt as memory_calls
use Rattle.fm_words.specs.declared.shape.Shape.{Shape}
use Rattle.fm_rule_facts.specs.Views.{View, limit_of}
use Rattle.fm_rule.specs.declared.pool.Pool.{Pool}
use Rattle.fm_rule_calls.{specs.{Kept.{Goes, Kept, rest_of}, Told.{view_of_pass}}, proofs.Telling.{did_of}}
use Rattle.fm_gate.specs.Learnt as gate
use Rattle.fm_gate.proofs.Scarce.{one_empty}
use Rattle.fm_close.specs.Learnt as closing
use Rattle.fm_arena.specs.Shares.{nature_of_shared}

-- Where a pass that went on is sound, it was so before.
pub sound_before : {p q : View} {own : List Entry} → Goes p q own → memory.IsSound (view_of_pass p)
sound_before {p = p} {q = q} g =
    let legal : IsLegal (limit_of p.shape) [] (p.seen ++ g.more) = subst (λ (es : List Entry). IsLegal (limit_of p.shape) [] es) g.seen
    (subst (λ (z : Shape). IsLegal (limit_of z) [] q.seen) g.same_shape g.sound.legal) in
    record {
      limit = subst (λ (z : Shape). limit_of z ≤ 2 ^ 40) g.same_shape g.sound.limit;
      told = ((IsLegal-split (limit_of p.shape) [] p.seen g.more legal).0, refl, refl);
    }

-- ---- refusals

-- No call takes memory, so that refusal is no matter.
may_allocate : (result : Result ℕ Refusal) → IfErr result (λ r. r ≢ refusal.Memory) → MayCome nature_of_shared result
may_allocate (Ok place) n = tt
may_allocate (Err refusal.Memory) n = absurd (n refl)
may_allocate (Err refusal.NoSlot) n = refl
may_allocate (Err refusal.PoolFull) n = refl
may_allocate (Err r) n = tt

-- Arenas of other kinds have no handles.
no_handle : (kind : Kind) (result : Result ArenaId Refusal) (hs : List ArenaId) → kind ≢ Automatic → gate.handles_opened kind result hs ≡ hs
no_handle Automatic result hs by_hand = absurd (by_hand refl)
no_handle kind result hs by_hand = refl

-- Where no slot is free, a step found so.
found_none : (p q : View) (result : Result ArenaId Refusal) → IfErr result (λ r. (r ≡ refusal.NoSlot) × gate.FoundNoSlot p q)
    → result ≡ Err refusal.NoSlot → FoundNothing is_slot p.finds q.finds
found_none p q (Ok id) n e = absurd (cc)
found_none p q (Err r) n e = n.1.find

-- ---- calls

module _ {pool : Pool} {p q : View} where
  pub enters : {a : ArenaId} {result : Result (Unit {0}) Refusal} → memory_calls.CanVisit (view_of_pass p) a → gate.AfterEnter pool p q a result
      → memory_calls.AfterEnter (view_of_pass p) (view_of_pass q) a result
  enters can a = after_enter can (sound_before a.did.goes) (did_of _ _ _ a.did)

  -- The call leaves the pass inside.
  pub acts : {call : ArenaId → Call} {reply : Reply} → ((id : ArenaId) → inside_next (Some id) (call id) reply ≡ Some id)
      → gate.AfterAct pool p q call reply → memory_calls.AfterAct (view_of_pass p) (view_of_pass q) call reply
  acts stays a = after_act stays (sound_before a.did.goes) (did_of _ _ _ a.did)

  pub patches : {word mask bits found : ℕ} → gate.AfterPatch pool p q word mask bits found
      → memory_calls.AfterPatch (view_of_pass p) (view_of_pass q) word mask bits found
  patches a = after_patch (sound_before a.did.goes) (did_of _ _ _ a.did)

  pub leaves : gate.AfterLeave pool p q → memory_calls.AfterLeave (view_of_pass p) (view_of_pass q)
  leaves a = after_leave (sound_before a.did.goes) (did_of _ _ _ a.did)

  -- ---- arenas

  may_open : {kind : Kind} (result : Result ArenaId Refusal) → gate.AfterOpen pool p q kind result → MayCome nature_of_shared result
  may_open (Ok id) a = tt
  may_open (Err r) a = rw a.no_slot.0 refl

  -- An arena of another kind leaves the pass its handles.
  opened : {kind : Kind} {result : Result ArenaId Refusal} → kind ≢ Automatic → gate.AfterOpen pool p q kind result
      → Kept p q (λ own. DoesOpen p.caller kind result (but_loans own))
  opened {kind = kind} {result = result} by_hand a = record {
    own = a.did.own;
    does = a.did.does;
    goes = a.did.goes;
    rest = a.did.rest ∙ ap (λ (hs : List ArenaId). record (rest_of p) { handles = hs }) (no_handle kind result p.handles by_hand);
  }

  pub opens : {kind : Kind} {result : Result ArenaId Refusal} → memory_calls.CanOpen (view_of_pass p) kind → gate.AfterOpen pool p q kind result
      → memory_calls.AfterOpen nature_of_shared (view_of_pass p) (view_of_pass q) kind result
  opens {result = result} can a = after_open can.outside (sound_before a.did.goes) (may_open result a) (found_none p q result a.no_slot)
      (did_of _ _ _ (opened can.by_hand a))

  pub allocates : {id : ArenaId} {size align : ℕ} {result : Result ℕ Refusal} → memory_calls.CanVisit (view_of_pass p) id
      → gate.AfterAllocate pool p q id size align result
      → memory_calls.AfterAllocate nature_of_shared (view_of_pass p) (view_of_pass q) id size align result
  allocates {result = result} can a =
      after_allocate can (sound_before a.did.goes) (may_allocate result a.never) (λ full. (one_empty a.did.goes (a.no_page full).found).found) (did_of _ _ _ a.did)

  pub closes : {id : ArenaId} {result : Result (Unit {0}) Refusal} → memory_calls.CanVisit (view_of_pass p) id
      → closing.AfterClose pool p q id result → memory_calls.AfterClose (view_of_pass p) (view_of_pass q) id result
  closes can a = after_close can (sound_before a.did.goes) (did_of _ _ _ a.did)
