-- What a step leaves to others, where it leaves it as it is.
use Rattle.std.{proofs.Common.{◌≡◌, ◌≢◌, ◌⊎◌, ℕ, List, [], refl, inl, Option}, specs.Int.{bit_at}}
use Rattle.fm_words.specs.declared.shape.Shape.{Shape}
use Rattle.fm_base.specs.{declared.{caller.Caller.{Caller}, arena_id.ArenaId.{ArenaId}}, Calls.{Entry}}
use Rattle.fm_base_machine.specs.Functions.{Stage, Closes, Over, Machine}
use Rattle.fm_rule_facts.specs.{Gone.{IsTakenBy, OpenedBy}, Views.{limit_of}, Facts.{PoolWords, free, shut, Berth, Owners}}
use Rattle.fm_rule_facts.specs.Moves.{MayMake, NoEnd, StaysEnded, PagesMoved, CallersStay, NumbersMoved, Moved}

pub callers_stay : {draw : ℕ} {who : ℕ → Caller} {rank seat : Caller → ℕ} → CallersStay draw who rank seat draw who rank seat
callers_stay = record { draw = refl; who = λ k. refl; rank = λ k. refl; seat = λ k. refl }

pub numbers_left : {me n : ℕ} {bits terms at : ℕ → ℕ} → NumbersMoved me n bits terms at bits terms at
numbers_left = record { owner = refl; bit = refl; term = refl; others = λ k b f. (refl, b, refl) }

pub pages_left : {me : ℕ} {life : ArenaId → Stage} {maps : ℕ → ℕ → Option ℕ} {cells : ℕ → ℕ → ℕ} {berth : ℕ → Berth}
    → PagesMoved me life maps cells berth maps cells berth
pages_left = record { others = λ p j b h. (refl, λ w. refl); stay = λ b i p st e. e }

-- slot bits are no part of an ended arena
pub stays_ended : {m : PoolWords} {bits : ℕ} (b : ArenaId) → m.sessions b.slot ≡ shut b → StaysEnded m (record m { bits = bits }) b
stays_ended b f = record { session = f; maps = λ i. refl; given = refl }

module _ {me : ℕ} {z : Shape} {c : Caller} {m : PoolWords} {t : Machine} {o : Owners} where
  -- entries, pages and given words
  pub berths_moved : {es : List Entry} {page_bits given : ℕ → ℕ} {maps : ℕ → ℕ → Option ℕ} {cells : ℕ → ℕ → ℕ} {berth : ℕ → Berth}
      → MayMake (limit_of z) t c es → ((b : ArenaId) → t.life b ≡ Closes → o.closer b ≢ me → NoEnd es b)
      → ((b : ArenaId) → t.life b ≡ Over → m.sessions b.slot ≡ shut b → o.closer b ≢ me
      → StaysEnded m (record m { page_bits = page_bits; given = given; maps = maps; cells = cells }) b)
      → PagesMoved me t.life m.maps m.cells o.berth maps cells berth
      → Moved me z c m t o es (record m { page_bits = page_bits; given = given; maps = maps; cells = cells }) (record o { berth = berth })
  berths_moved ok ends ended pages = record {
    allowed = ok;
    marks = λ k h. refl;
    callers = callers_stay;
    numbers = numbers_left;
    closers = λ b f h. (refl, ends b f h);
    sweepers = λ b f h n. (refl, ended b f h n);
    holders = λ s g f b h. (refl, f, b, refl);
    taken = λ s k x. inl x;
    pages = pages;
  }

  -- entries alone
  pub calls_moved : {es : List Entry} → MayMake (limit_of z) t c es → ((b : ArenaId) → t.life b ≡ Closes → o.closer b ≢ me → NoEnd es b)
      → Moved me z c m t o es m o
  calls_moved ok ends = berths_moved ok ends (λ b f h n. stays_ended b h) pages_left

  -- a word of slot bits, by which slots are taken or given
  pub bits_moved : {bits : ℕ} {holder : ℕ → ℕ} {taker : ℕ → Option Caller}
      → ((s g : ℕ) → m.sessions s ≡ free g → bit_at m.bits s ≡ 0 → o.holder s ≢ me
      → (holder s ≡ o.holder s) × (m.sessions s ≡ free g) × (bit_at bits s ≡ 0) × (taker s ≡ o.taker s))
      → ((s : ℕ) (k : Caller) → IsTakenBy z m.bits m.sessions o.taker s k → IsTakenBy z bits m.sessions taker s k ⊎ OpenedBy t.life s k)
      → Moved me z c m t o [] (record m { bits = bits }) (record o { holder = holder; taker = taker })
  bits_moved holders taken = record {
    allowed = tt;
    marks = λ k h. refl;
    callers = callers_stay;
    numbers = numbers_left;
    closers = λ b f h. (refl, tt);
    sweepers = λ b f h n. (refl, stays_ended b h);
    holders = holders;
    taken = taken;
    pages = pages_left;
  }
