-- What a handle of an automatic arena outlives.
use Rattle.std.proofs.Common.{◌≡◌, List, ◌∷◌, sym, ap, subst, arith, Result, Ok, Err, inr}
use Rattle.fm_base.specs.{declared.{arena_id.ArenaId.{ArenaId}, kind.Kind.{Kind}, refusal.Refusal.{Refusal}}, Arenas.{same_id}, Calls.{Entry}, Finds.{Rest}}
use Rattle.fm_base.proofs.Names.{same_id-self}
use Rattle.fm_base.specs.declared.kind.Kind.TheVariants as kind
use Rattle.fm_rule_facts.{specs.{Views.{View, In}, Holds.{one_if, how_many}}, proofs.Summing.{some_hold}}
use Rattle.fm_rule.specs.declared.pool.Pool.{Pool}
use Rattle.fm_rule_calls.{specs.Kept.{Goes}, proofs.Going.{known_on}}
use Rattle.fm_gate.{specs.{Needs.{HasHandle}, Learnt.{handles_opened, handles_again}, HandleLaws.{HandleLasts}}, proofs.Outside.{of_on}}

-- A handle that the pass still has can still be used.
pub has_on : (pool : Pool) {p q : View} {own : List Entry} (id : ArenaId) → Goes p q own → In id q.handles → HasHandle pool p id → HasHandle pool q id
has_on pool id g i can = record { of = of_on pool g can.of; known = known_on g id can.known; has = i; automatic = can.automatic }

-- And once an arena was opened.
pub in_opened : (a : ArenaId) (kind : Kind) (result : Result ArenaId Refusal) (hs : List ArenaId) → In a hs → In a (handles_opened kind result hs)
in_opened a kind.Automatic (Ok id) hs i = inr i
in_opened a kind.Automatic (Err r) hs i = i
in_opened a kind.Global result hs i = i
in_opened a kind.Confined result hs i = i
in_opened a kind.Shared result hs i = i

-- A handle that is had is had once another was taken, or refused.
pub in_again : (a b : ArenaId) (result : Result (Unit {0}) Refusal) (hs : List ArenaId) → In a hs → In a (handles_again b result hs)
in_again a b (Ok u) hs i = inr i
in_again a b (Err r) hs i = i

pub lasts : HandleLasts
lasts = record {
  stands = λ pool old new own id g e can. has_on pool id g (subst (λ (hs : List ArenaId). In id hs) (sym e) can.has) can;
  at_open = λ pool old new kind result id a can.
      let e : new.handles ≡ handles_opened kind result old.handles = ap (λ (r : Rest). r.handles) a.did.rest in
      has_on pool id a.did.goes (subst (λ (hs : List ArenaId). In id hs) (sym e) (in_opened id kind result old.handles can.has)) can;
  at_again = λ pool old new other result id a can.
      let e : new.handles ≡ handles_again other result old.handles = ap (λ (r : Rest). r.handles) a.did.rest in
      has_on pool id a.did.goes (subst (λ (hs : List ArenaId). In id hs) (sym e) (in_again id other result old.handles can.has)) can;
  two = λ pool old new id a can.
      let e : new.handles ≡ id ∷ old.handles = ap (λ (r : Rest). r.handles) a.did.rest in
      let c : how_many id new.handles ≡ how_many id (id ∷ old.handles) = ap (how_many id) e in
      let one : one_if (same_id id id) ≡ 1 = ap one_if (same_id-self id) in
      let before = some_hold id old.handles can.has in omega arith;
}
