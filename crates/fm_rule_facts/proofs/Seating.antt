-- What a pass says where others get another seat.
use Rattle.std.proofs.Common.{◌≡◌, ℕ, true, List, sym, ◌∙◌, subst}
use Rattle.fm_words.specs.declared.shape.Shape.{Shape}
use Rattle.fm_base.specs.{declared.caller.Caller.{Caller}, Calls.{Entry}, Finds.{Gathered}}
use Rattle.fm_base_machine.specs.Functions.{Machine}
use Rattle.fm_rule_facts.specs.{Views.{View}, Facts.{PoolWords, Owners, WasDrawn, IsGathered, HasNumberInHand, Owns, Knows}}
use Rattle.fm_rule_facts.proofs.{Handing.{hand_owners, hand_owner}, Working.{work_as}}

module _ {z : Shape} {h : List Entry} {m : PoolWords} {t : Machine} {o : Owners} {j : ℕ} {u : View} where
  -- what a view knows stands where its pass has what it had
  pub knows_as : {m' : PoolWords} {o' : Owners} → (Owns z h m t o j u → Owns z h m' t o' j u) → Knows z h m t o j u → Knows z h m' t o' j u
  knows_as f k = record { shape = k.shape; begins = k.begins; met = k.met; owns = λ l. f (k.owns l) }

  -- callers may be drawn, and go to other seats, but none of those at its seat
  pub owns_seats : {draw : ℕ} {who : ℕ → Caller} {rank seat : Caller → ℕ} {number : ℕ → ℕ}
      → ((c : Caller) → WasDrawn m.draw o.who o.rank c → WasDrawn draw who rank c)
      → ((c : Caller) → WasDrawn m.draw o.who o.rank c → o.seat c ≡ j → seat c ≡ j) → ((n : ℕ) → o.number n ≡ j → number n ≡ j) → (x : Owns z h m t o j u)
      → (u.whole ≡ true → (c : Caller) → WasDrawn draw who rank c → WasDrawn m.draw o.who o.rank c)
      → HasNumberInHand z h (record m { draw = draw }) t (record o { who = who; rank = rank; seat = seat; number = number }) j u u.number
      → Owns z h (record m { draw = draw }) t (record o { who = who; rank = rank; seat = seat; number = number }) j u
  owns_seats {draw} {who} {rank} {seat} {number} on seats numbers x before hand = record {
    drawn = on u.caller x.drawn;
    term = x.term;
    seated = seats u.caller x.drawn x.seated;
    owner = numbers u.caller.number x.owner;
    bit = x.bit;
    mine = x.mine;
    work = work_as x.work;
    handles = x.handles;
    gathered = λ g i. still u.seen g (x.gathered g i);
    coming = λ y n g i. still y.seen g (x.coming y n g i);
    one_each = x.one_each;
    number = hand;
    not_own = x.not_own;
    whole = λ e c b ne. x.whole e c (before e c b) ne;
    seen_all = x.seen_all;
  }
    where
      still : (xs : List Entry) (g : Gathered) → IsGathered h m t o j u xs g
          → IsGathered h (record m { draw = draw }) t (record o { who = who; rank = rank; seat = seat; number = number }) j u xs g
      still xs g y = record {
        drawn = on g.caller y.drawn;
        seated = seats g.caller y.drawn y.seated;
        apart = y.apart;
        outside = y.outside;
        quiet = y.quiet;
      }

  -- seats alone change
  pub knows_seats : {seat : Caller → ℕ} {number : ℕ → ℕ} → ((c : Caller) → o.seat c ≡ j → seat c ≡ j) → ((n : ℕ) → o.number n ≡ j → number n ≡ j)
      → Knows z h m t o j u → Knows z h m t (record o { seat = seat; number = number }) j u
  knows_seats {seat} {number} seats numbers =
      knows_as (λ x. owns_seats (λ c b. b) (λ c b. seats c) numbers x (λ e c b. b)
      (hand_owners z h m t o j u seat number u.number
      (λ n i. let e = (hand_owner z h m t o j u u.number n i x.number).owner in numbers n e ∙ sym e)
      (λ c e. let y = (subst (HasNumberInHand z h m t o j u) e x.number).seated in seats c y ∙ sym y)
      x.number))
