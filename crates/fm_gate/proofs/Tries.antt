-- Tries on a word.
use Rattle.std.proofs.Common.{◌≡◌, ◌≢◌, ℕ, ◌*◌, ◌<◌, ◌≤◌, List, [], ◌∷◌, refl, ap, sym, ◌∙◌, subst, Option, Some, arith}
use Rattle.fm_base.specs.{declared.{caller.Caller.{Caller}, arena_id.ArenaId.{ArenaId}}, Calls.{Call, Read, SwapIf, Reply, Found, Entry, entry_of}}
use Rattle.fm_base.specs.{Does.{DoesAct, DoesPatch, patched}, Visits.{Acts, entries_of, Tries, looked, missed, hit}}
use Rattle.fm_rule_facts.specs.Views.{View, given_of}
use Rattle.fm_rule.specs.declared.pool.Pool.{Pool}
use Rattle.fm_rule_calls.{specs.Kept.{Goes, rest_of, Lasts}, proofs.Going.{goes_then, lasts_on}}
use Rattle.fm_gate.specs.{Needs.{IsInside, CanReach}, Learnt.{AfterAct, AfterPatch}}

-- What one act did where it is known which arena the pass is inside.
record DidOne (p q : View) (id : ArenaId) (call : ArenaId → Call) (reply : Reply) : Type 0 where
  goes : Goes p q (entry_of p.caller (call id) reply ∷ [])
  rest : rest_of q ≡ rest_of p

did_one : {pool : Pool} {p q : View} {call : ArenaId → Call} {reply : Reply} (id : ArenaId) → p.inside ≡ Some id → AfterAct pool p q call reply
    → DidOne p q id call reply
did_one {p = p} {q = q} {call = call} {reply = reply} id e a =
    let does : a.did.own ≡ entry_of p.caller (call id) reply ∷ [] =
    subst (λ (i : Option ArenaId). DoesAct i p.caller call reply a.did.own) e a.did.does in
    record { goes = subst (λ (es : List Entry). Goes p q es) does a.did.goes; rest = a.did.rest }

-- Tries that brought the pass from p to r, inside the arena
pub record Tried (pool : Pool) (p r : View) (id : ArenaId) (word mask bits found : ℕ) : Type 0 where
  pub acts : Acts
  pub tries : Tries id word (patched mask bits) found acts
  pub goes : Goes p r (entries_of p.caller acts)
  pub rest : rest_of r ≡ rest_of p
  pub inside : IsInside pool r id

-- One act before tries.
more : {pool : Pool} {p q r : View} {word mask bits found : ℕ} (id : ArenaId) (call : ArenaId → Call) (reply : Reply) → DidOne p q id call reply
    → ((acts : Acts) → Tries id word (patched mask bits) found acts → Tries id word (patched mask bits) found ((call id, reply) ∷ acts))
    → Tried pool q r id word mask bits found → Tried pool p r id word mask bits found
more {p = p} {q = q} {r = r} id call reply d next t = record {
  acts = (call id, reply) ∷ t.acts;
  tries = next t.acts t.tries;
  goes = goes_then d.goes (subst (λ (c : Caller). Goes q r (entries_of c t.acts)) d.goes.same_caller t.goes);
  rest = t.rest ∙ d.rest;
  inside = t.inside;
}

-- The pass has come from p to q by tries that missed: what ends them from there ends them from p
pub record Trying (pool : Pool) (p q : View) (word mask bits : ℕ) : Type 0 where
  pub id : ArenaId
  pub inside : IsInside pool q id
  pub given : 8 * word < given_of q id
  pub here : p.inside ≡ Some id
  pub onward : (r : View) (found : ℕ) → Tried pool q r id word mask bits found → Tried pool p r id word mask bits found

still_given : {p q : View} (id : ArenaId) (word : ℕ) → Lasts p q → 8 * word < given_of p id → 8 * word < given_of q id
still_given {p = p} {q = q} id word l h =
    let a : ℕ = given_of p id in let b : ℕ = given_of q id in
    let m : a ≤ b = l.given id in
    let n : 8 * word < a = h in
    let o : 8 * word < b = omega arith in
    o

-- The look begins them.
pub tries_begin : {pool : Pool} {p q : View} {word mask bits now : ℕ} → CanReach pool p word → AfterAct pool p q (λ a. Read a word) (Found now)
    → Trying pool p q word mask bits
tries_begin {word = word} {now = now} can a =
    let d = did_one can.id can.inside.inside a in
    record {
      id = can.id;
      inside = a.inside can.id can.inside;
      given = still_given can.id word a.lasts can.given;
      here = can.inside.inside;
      onward = λ r found t. more can.id (λ a. Read a word) (Found now) d (λ acts t. looked now acts t) t;
    }

-- They go on by an exchange that found another word.
pub tries_go_on : {pool : Pool} {o p q : View} {word mask bits : ℕ} (old new now : ℕ) → Trying pool o p word mask bits → now ≢ old
    → AfterAct pool p q (λ a. SwapIf a word old new) (Found now) → Trying pool o q word mask bits
tries_go_on {word = word} old new now t n a =
    let d = did_one t.id t.inside.inside a in
    record {
      id = t.id;
      inside = a.inside t.id t.inside;
      given = still_given t.id word a.lasts t.given;
      here = t.here;
      onward = λ r found u. t.onward r found (more t.id (λ a. SwapIf a word old new) (Found now) d (λ acts t. missed now old new acts n t) u);
    }

pub tries_reach : {pool : Pool} {o p : View} {word mask bits : ℕ} → Trying pool o p word mask bits → CanReach pool p word
tries_reach t = record { id = t.id; inside = t.inside; given = t.given }

-- What is learnt where the exchange found what it expected.
pub tries_end : {pool : Pool} {o p q : View} {word mask bits : ℕ} (old new now : ℕ) → Trying pool o p word mask bits → now ≡ old
    → new ≡ patched mask bits old → AfterAct pool p q (λ a. SwapIf a word old new) (Found now) → AfterPatch pool o q word mask bits now
tries_end {pool = pool} {o = o} {p = p} {q = q} {word = word} {mask = mask} {bits = bits} old new now t e is a =
    let b : AfterAct pool p q (λ a. SwapIf a word now (patched mask bits now)) (Found now) =
    subst (λ (x : ℕ × ℕ). AfterAct pool p q (λ a. SwapIf a word x.0 x.1) (Found now)) (λ j. (sym e j, (is ∙ ap (patched mask bits) (sym e)) j)) a in
    let d = did_one t.id t.inside.inside b in
    let all = t.onward q now (record {
      acts = (SwapIf t.id word now (patched mask bits now), Found now) ∷ [];
      tries = hit;
      goes = d.goes;
      rest = d.rest;
      inside = a.inside t.id t.inside;
    }) in
    record {
      did = record {
        own = entries_of o.caller all.acts;
        does = subst (λ (i : Option ArenaId). DoesPatch i o.caller word mask bits now (entries_of o.caller all.acts)) (sym t.here) (all.acts, all.tries, refl);
        goes = all.goes;
        rest = all.rest;
      };
      inside = λ id now.
          let same : t.id ≡ id = (let x : Some t.id ≡ Some id = sym t.here ∙ now.inside in cc) in
          subst (λ (i : ArenaId). IsInside pool q i) same all.inside;
      lasts = lasts_on all.goes;
    }

-- The word can be reached afterwards.
pub reach_on : {pool : Pool} {p q : View} {word mask bits found : ℕ} → CanReach pool p word → AfterPatch pool p q word mask bits found → CanReach pool q word
reach_on {word = word} can a =
    record { id = can.id; inside = a.inside can.id can.inside; given = still_given can.id word a.lasts can.given }
