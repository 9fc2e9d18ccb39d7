-- Where a pass finds no slot, and what it learns of another handle.
use Rattle.std.proofs.Common.{◌≡◌, ◌∙◌, ◌++◌, List, Result, ap, refl, subst, sym, Ok, Err}
use Rattle.fm_base.specs.declared.{arena_id.ArenaId.{ArenaId}, kind.Kind.{Kind, TheVariants.{Automatic}}, refusal.Refusal.{Refusal}}
use Rattle.fm_base.specs.{Calls.{Entry}, Histories.{made_by}, View.{but_loans, inside_after}, declared.refusal.Refusal.TheVariants.{TooManyHolds}}
use Rattle.fm_rule_facts.specs.Views.{View}
use Rattle.fm_rule.specs.declared.pool.Pool.{Pool}
use Rattle.fm_gate.{specs.{Makers.{Made, made_by_pass}, Learnt.{AfterOpen}}, proofs.Outside.{made_on}}
use Rattle.fm_gate.specs.Learnt as gate
use Rattle.fm_arena.specs.{declared.handle.AutoHandle.{AutoHandle}, Handles.{AfterAgain, AfterStart, HasHandle}, Opening.{OpensExactly}}
use Rattle.fm_arena.proofs.Own.{own_by}

-- None of its own entries is a loan.
lends_none : {pool : Pool} {p q : View} {kind : Kind} {result : Result ArenaId Refusal} → AfterOpen pool p q kind result
    → (more : List Entry) → q.seen ≡ p.seen ++ more → but_loans (made_by p.caller more) ≡ made_by p.caller more
lends_none a more seen = subst (λ (es : List Entry). but_loans es ≡ es) (own_by a.did.goes more seen) a.no_loan

-- Where the gate's call is refused a step found no slot, and a whole pass has every slot busy.
refused : {X : Type 0} {pool : Pool} {p q : View} {kind : Kind} {r : Refusal} → AfterOpen pool p q kind (Err r) → OpensExactly {X = X} p q (Err r)
refused {p = p} a =
    let none_left = a.no_slot.1 in
    record {
      opened = tt;
      refused = λ whole none. none_left.busy whole none.sweeps;
      found = record { find = none_left.find; early = none_left.early };
      no_loan = lends_none a;
    }

-- Where it is opened there was a slot.
opens_exactly_as : {X : Type 0} {pool : Pool} {p q : View} {kind : Kind} {id : ArenaId} {x : X} → AfterOpen pool p q kind (Ok id) → OpensExactly p q (Ok x)
opens_exactly_as a = record { opened = a.slot; refused = tt; found = tt; no_loan = lends_none a }

-- What the gate's call teaches of it.
pub opens_exactly : {pool : Pool} {p q : View} {kind : Kind} (result : Result ArenaId Refusal) → AfterOpen pool p q kind result → OpensExactly p q result
opens_exactly (Ok id) a = opens_exactly_as a
opens_exactly (Err r) a = refused a

-- What the opener of an automatic arena learns where no slot was free.
pub starts_not : {pool : Pool} {p q : View} {r : Refusal} → AfterOpen pool p q Automatic (Err r) → AfterStart p q (Err r)
starts_not a = record {
  did = a.did;
  is_new = tt;
  has = tt;
  no_slot = a.no_slot.0;
  exact = refused a;
  outside = a.outside.outside;
  lasts = a.lasts;
}

-- And where one was.
pub starts : {pool : Pool} {p q : View} {id : ArenaId} {made : Made} → AfterOpen pool p q Automatic (Ok id) → made ≡ made_by_pass q
    → AfterStart p q (Ok (record { arena = id; maker = made }))
starts {id = id} a is = let first = a.handle refl in record {
  did = a.did;
  is_new = a.is_new;
  has = record { maker = is; handled = record { known = first.known; has = first.has; automatic = first.automatic } };
  no_slot = tt;
  exact = opens_exactly_as a;
  outside = a.outside.outside;
  lasts = a.lasts;
}

-- ---- another handle

module _ {pool : Pool} {p q : View} (handle : AutoHandle) (has : HasHandle p handle) where
  still_has : {result : Result (Unit {0}) Refusal} → gate.AfterAgain pool p q handle.arena result → HasHandle q handle
  still_has a = record {
    maker = has.maker ∙ sym (made_on a.did.goes);
    handled = record { known = a.has.known; has = a.has.has; automatic = a.has.automatic };
  }

  -- What is learnt of one that was taken.
  pub takes_again : (made : Made) → made ≡ made_by_pass q → gate.AfterAgain pool p q handle.arena (Ok tt)
      → AfterAgain p q handle (Ok (record { arena = handle.arena; maker = made }))
  takes_again made is a = record {
    did = a.did;
    same = refl;
    has = still_has a;
    other = record { maker = is; handled = (still_has a).handled };
    inside = a.did.goes.inside ∙ ap (inside_after p.inside) a.did.does;
    lasts = a.lasts;
  }

  -- And of one that was refused.
  pub takes_none : (r : Refusal) → gate.AfterAgain pool p q handle.arena (Err r) → AfterAgain p q handle (Err r)
  takes_none TooManyHolds a = record {
    did = a.did;
    same = tt;
    has = still_has a;
    other = tt;
    inside = a.did.goes.inside ∙ ap (inside_after p.inside) a.did.does;
    lasts = a.lasts;
  }
  takes_none r a = absurd a.did.does
