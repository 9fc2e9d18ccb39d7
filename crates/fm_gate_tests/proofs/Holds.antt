-- Holds that are kept, one taken more and one spent.
use Rattle.std.{proofs.Common.{◌≡◌, ◌∙◌, ◌+◌, List, [], ◌∷◌, ◌++◌, length, length-append, sym, ap, subst, arith, Some, Ok}, specs.Prelude.{All}}
use Rattle.std.proofs.lemmas.List.Elements.{All-push, All-pop}
use Rattle.fm_base.{specs.{declared.arena_id.ArenaId.{ArenaId}, Arenas.{same_id}, Finds.{Rest}}, proofs.Names.{same_id-self}}
use Rattle.fm_rule_facts.{specs.{Views.{View, In, IsKnown}, Holds.{released, one_if, how_many}}, proofs.Summing.{one_less}}
use Rattle.fm_rule.specs.declared.pool.Pool.{Pool}
use Rattle.fm_gate.specs.{declared.held.Hold.{Hold}, Makers.{Made, made_by_pass}, Needs.{CanUnhold}, Learnt.{AfterHold, AfterUnhold}}
use Rattle.fm_gate.proofs.{Counted.{some_in}, Outside.{made_on}}
use Rattle.fm_gate_tests.specs.Holds.{IsHoldOf, AreHeld}

-- One more is held.
pub taken : {pool : Pool} {p q : View} {a : ArenaId} {hold : Hold} {holds : List Hold} → AreHeld pool p a holds → AfterHold pool p q a (Ok hold)
    → AreHeld pool q a (holds ++ hold ∷ [])
taken {p = p} {q = q} {a = a} {hold = hold} {holds = holds} held after =
    let now : how_many a q.holds ≡ how_many a (a ∷ p.holds) = ap (λ (x : Rest). how_many a x.holds) after.did.rest in
    let one : one_if (same_id a a) ≡ 1 = ap one_if (same_id-self a) in
    let long = length-append holds (hold ∷ []) in
    let before = held.many in
    record {
      visit = record { outside = after.outside; known = after.lasts.known a held.visit.known };
      each = All-push (IsHoldOf (made_by_pass q) a) holds hold
          (subst (λ (m : Made). All (IsHoldOf m a) holds) (sym (made_on after.did.goes)) held.each)
          (after.did.does.0, after.held.by_hand, after.held.maker);
      many = omega arith;
    }

-- Of those that are held the last is of the arena, and so are the others.
last_of : (m : Made) (a : ArenaId) (hold : Hold) (holds rest : List Hold) → holds ≡ rest ++ hold ∷ [] → All (IsHoldOf m a) holds
    → All (IsHoldOf m a) rest × IsHoldOf m a hold
last_of m a hold holds rest split each = All-pop (IsHoldOf m a) holds rest (Some hold) split each

longer : (hold : Hold) (holds rest : List Hold) → holds ≡ rest ++ hold ∷ [] → length holds ≡ length rest + 1
longer hold holds rest split =
    let whole : length holds ≡ length (rest ++ hold ∷ []) = ap length split in
    let long = length-append rest (hold ∷ []) in
    omega arith

still_has : (pool : Pool) (p : View) (a : ArenaId) (hold : Hold) (holds rest : List Hold) → AreHeld pool p a holds
    → holds ≡ rest ++ hold ∷ [] → In a p.holds
still_has pool p a hold holds rest held split =
    let long = longer hold holds rest split in
    let many = held.many in
    some_in a p.holds (omega arith)

-- The last one can be spent,
pub can_spend : {pool : Pool} {p : View} {a : ArenaId} {hold : Hold} {holds : List Hold} (rest : List Hold) → AreHeld pool p a holds
    → holds ≡ rest ++ hold ∷ [] → CanUnhold pool p hold
can_spend {pool = pool} {p = p} {a = a} {hold = hold} {holds = holds} rest held split =
    let is = (last_of (made_by_pass p) a hold holds rest split held.each).1 in
    record {
      of = held.visit.outside.of;
      maker = is.2;
      known = subst (λ (b : ArenaId). IsKnown p b) (sym is.0) held.visit.known;
      held = subst (λ (b : ArenaId). In b p.holds) (sym is.0) (still_has pool p a hold holds rest held split);
      by_hand = is.1;
    }

-- and the others are left.
pub spent : {pool : Pool} {p q : View} {a : ArenaId} (hold : Hold) {holds rest : List Hold} → AreHeld pool p a holds
    → holds ≡ rest ++ hold ∷ [] → AfterUnhold pool p q hold.arena → AreHeld pool q a rest
spent {pool = pool} {p = p} {q = q} {a = a} hold {holds = holds} {rest = rest} held split after =
    let each = last_of (made_by_pass p) a hold holds rest split held.each in
    let now : how_many a q.holds ≡ how_many a (released a p.holds) =
    ap (λ (x : Rest). how_many a x.holds) after.did.rest ∙ ap (λ (b : ArenaId). how_many a (released b p.holds)) each.1.0 in
    let one : one_if (same_id a a) ≡ 1 = ap one_if (same_id-self a) in
    let less = one_less a a p.holds (still_has pool p a hold holds rest held split) in
    let long = longer hold holds rest split in
    let many = held.many in
    record {
      visit = record { outside = after.outside held.visit.outside; known = after.lasts.known a held.visit.known };
      each = subst (λ (m : Made). All (IsHoldOf m a) rest) (sym (made_on after.did.goes)) each.0;
      many = omega arith;
    }
