-- What a pass has under way is so still where it isn't touched.
use Rattle.std.proofs.Common.{◌≡◌, ℕ, Bool, true, List, Option, None, inl, refl}
use Rattle.fm_words.specs.declared.shape.Shape.{Shape}
use Rattle.fm_base.specs.{declared.caller.Caller.{Caller}, Calls.{Entry}, Finds.{Find, Gathered}}
use Rattle.fm_base_machine.specs.Functions.{Machine}
use Rattle.fm_rule_facts.specs.{Hands.{Hand, IsTaker, Number}, Views.{Met, View}, Facts.{PoolWords, Owners, HasInHand, Work}, Splits.{view_of}}

-- callers, numbers and what was seen are no part of the work, which goes on with this slot in the hand
pub work_with : {z : Shape} {m : PoolWords} {t : Machine} {o : Owners} {j : ℕ} {v : View} {draw bits : ℕ} {numbers terms : ℕ → ℕ} {who : ℕ → Caller}
    {rank seat : Caller → ℕ} {owner holder : ℕ → ℕ} {taker : ℕ → Option Caller} {seen : List Entry} {hand : Hand} {number : Number} {met : List Met}
    {finds : List Find} {gathered : List Gathered} {whole : Bool}
    → Work z m t o j v → HasInHand z bits m.sessions holder j hand → IsTaker taker v.caller hand
    → Work z (record m { draw = draw; bits = bits; numbers = numbers; terms = terms }) t
    (record o { who = who; rank = rank; seat = seat; number = owner; holder = holder; taker = taker }) j
    (record v { seen = seen; hand = hand; number = number; met = met; finds = finds; gathered = gathered; whole = whole })
work_with w hand took = record {
  inside = w.inside;
  mark = w.mark;
  closes = λ c i. let y = w.closes c i in record { owner = y.owner; life = y.life; passed = y.passed };
  once = w.once;
  sweeps = λ c i.
      let y = w.sweeps c i in
      record { owner = y.owner; life = y.life; session = y.session; parts = y.parts; count = y.count; reset = y.reset };
  swept_once = w.swept_once;
  hand = hand;
  took = took;
  pages = w.pages;
}

-- and with the same slot
pub work_as : {z : Shape} {m : PoolWords} {t : Machine} {o : Owners} {j : ℕ} {v : View} {draw : ℕ} {numbers terms : ℕ → ℕ} {who : ℕ → Caller}
    {rank seat : Caller → ℕ} {owner : ℕ → ℕ} {seen : List Entry} {number : Number} {met : List Met} {finds : List Find} {gathered : List Gathered} {whole : Bool}
    → Work z m t o j v → Work z (record m { draw = draw; numbers = numbers; terms = terms }) t
    (record o { who = who; rank = rank; seat = seat; number = owner }) j
    (record v { seen = seen; number = number; met = met; finds = finds; gathered = gathered; whole = whole })
work_as w = work_with w w.hand w.took

-- a new pass has nothing under way
pub no_work : {z shape : Shape} {m : PoolWords} {t : Machine} {o : Owners} {j : ℕ} {seen : List Entry} {caller : Caller} {whole : Bool}
    → t.inside caller ≡ None → m.marks caller.number ≡ None → Work z m t o j (record (view_of shape true seen) { caller = caller; whole = whole })
no_work inside mark = record {
  inside = inside;
  mark = mark;
  closes = λ c i. absurd i;
  once = tt;
  sweeps = λ c i. absurd i;
  swept_once = tt;
  hand = tt;
  took = tt;
  pages = record { read = λ a e x i. absurd i; claims = λ q i. absurd i; lone = inl refl; sweep = tt };
}
