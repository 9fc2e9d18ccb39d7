-- A slot or a number in a hand stays there.
use Rattle.std.{proofs.Common.{◌≡◌, ℕ, ◌+◌, ◌<◌, ◌∙◌, Option, arith, refl, List, sym, subst, inl, inr, ⊎_elim}, specs.Int.{bit_at}}
use Rattle.fm_base.specs.{declared.caller.Caller.{Caller}, Calls.{Entry}, Finds.{Gathered}}
use Rattle.fm_words.specs.declared.shape.Shape.{Shape}
use Rattle.fm_rule_facts.specs.Hands.{Hand, nothing, taken, learnt, retired, HasSlot, IsTaker, Number, no_number, number_taken, number_learnt, number_drawn, number_left, number_joined, HasNumberIn}
use Rattle.fm_rule_facts.specs.{Views.{View, In, all_gathered}, Facts.{Session, free, IsHeld, HasInHand, PoolWords, Owners, IsLoose, IsUndrawn, HasNumberInHand}}
use Rattle.fm_base_machine.specs.Functions.{Machine}

module _ (z : Shape) (bits bits' : ℕ) (sessions sessions' : ℕ → Session) (holder holder' : ℕ → ℕ) (j : ℕ)
    (on : (s g : ℕ) → sessions s ≡ free g → bit_at bits s ≡ 0 → holder s ≡ j → (holder' s ≡ j) × (sessions' s ≡ free g) × (bit_at bits' s ≡ 0)) where
  held_on : (s g : ℕ) → IsHeld z bits sessions holder j s g → IsHeld z bits' sessions' holder' j s g
  held_on s g h = let y = on s g h.session h.bit h.owner in record { owner = y.0; slot = h.slot; bit = y.2; session = y.1; left = h.left }

  -- where each free slot of the seat whose bit is 0 stays so, the hand has what it had
  pub hand_on : (hand : Hand) → HasInHand z bits sessions holder j hand → HasInHand z bits' sessions' holder' j hand
  hand_on nothing h = tt
  hand_on (taken s) h = (h.0, held_on s h.0 h.1)
  hand_on (learnt s g) h = held_on s g h
  hand_on (retired s) h = (h.0, held_on s (h.0 + 1) h.1)

-- who took the slot in the hand took it still
pub took_on : (z : Shape) (bits : ℕ) (sessions : ℕ → Session) (holder : ℕ → ℕ) (j : ℕ) (taker taker' : ℕ → Option Caller) (c : Caller)
    → ((s g : ℕ) → sessions s ≡ free g → bit_at bits s ≡ 0 → holder s ≡ j → taker' s ≡ taker s) → (hand : Hand)
    → HasInHand z bits sessions holder j hand → IsTaker taker c hand → IsTaker taker' c hand
took_on z bits sessions holder j taker taker' c on nothing h t = tt
took_on z bits sessions holder j taker taker' c on (taken s) h t = on s h.0 h.1.session h.1.bit h.1.owner ∙ t
took_on z bits sessions holder j taker taker' c on (learnt s g) h t = on s g h.session h.bit h.owner ∙ t
took_on z bits sessions holder j taker taker' c on (retired s) h t = on s (h.0 + 1) h.1.session h.1.bit h.1.owner ∙ t

-- the slot in the hand is one of the pool's
pub slot_below : (z : Shape) (bits : ℕ) (sessions : ℕ → Session) (holder : ℕ → ℕ) (j s : ℕ) (hand : Hand) → HasInHand z bits sessions holder j hand
    → HasSlot s hand → s < z.slots
slot_below z bits sessions holder j s nothing h i = absurd i
slot_below z bits sessions holder j s (taken x) h i = let l = h.1.slot in let e : s ≡ x = i in omega arith
slot_below z bits sessions holder j s (learnt x g) h i = let l = h.slot in let e : s ≡ x = i in omega arith
slot_below z bits sessions holder j s (retired x) h i = let l = h.1.slot in let e : s ≡ x = i in omega arith

-- ---- numbers

module _ (z : Shape) (h : List Entry) (m : PoolWords) (t : Machine) (o : Owners) (j : ℕ) (v : View) where
  -- another view with the same caller and the same gathered ones has the number too
  pub hand_view : (p : View) → p.caller ≡ v.caller → ((g : Gathered) → In g (all_gathered p) → In g (all_gathered v))
      → ((g : Gathered) → In g (all_gathered v) → In g (all_gathered p)) → (x : Number) → HasNumberInHand z h m t o j v x → HasNumberInHand z h m t o j p x
  hand_view p c fewer more no_number y = tt
  hand_view p c fewer more (number_taken n) y = y
  hand_view p c fewer more (number_learnt n k) y = y
  hand_view p c fewer more (number_drawn k) y = record {
    loose = y.loose;
    term = y.term;
    drawn = y.drawn;
    later = y.later;
    seated = y.seated;
    apart = λ e. y.apart (e ∙ c);
    ungathered = λ g i. y.ungathered g (fewer g i);
    silent = y.silent;
  }
  hand_view p c fewer more (number_left n) y = (
    y.0,
    ⊎_elim inl (λ (q : (g : Gathered) × In g (all_gathered v) × (g.caller.number ≡ n)). inr (q.0, more q.0 q.1, q.2)) y.1,
  )
  hand_view p c fewer more (number_joined k) y =
      record { loose = y.loose; term = y.term; left = y.left; gathered = (y.gathered.0, more y.gathered.0 y.gathered.1, y.gathered.2) }

  -- and so it has where callers and numbers have other seats, but not these
  module _ (seat : Caller → ℕ) (number : ℕ → ℕ) where
    abbrev o' : Owners
    o' = record o { seat = seat; number = number }

    loose_to : (n : ℕ) → number n ≡ o.number n → IsLoose z m o j n → IsLoose z m o' j n
    loose_to n e y = record { low = y.low; owner = e ∙ y.owner; bit = y.bit; mark = y.mark }

    next_to : (n : ℕ) → number n ≡ o.number n → IsUndrawn z m o j n → IsUndrawn z m o' j n
    next_to n e y = record { loose = loose_to n e y.loose; fresh = y.fresh }

    pub hand_owners : (x : Number) → ((n : ℕ) → HasNumberIn n x → number n ≡ o.number n) → ((c : Caller) → x ≡ number_drawn c → seat c ≡ o.seat c)
        → HasNumberInHand z h m t o j v x → HasNumberInHand z h m t o' j v x
    hand_owners no_number a b y = tt
    hand_owners (number_taken n) a b y = next_to n (a n refl) y
    hand_owners (number_learnt n k) a b y = (next_to n (a n refl) y.0, y.1)
    hand_owners (number_drawn k) a b y = record {
      loose = loose_to k.number (a k.number refl) y.loose;
      term = y.term;
      drawn = y.drawn;
      later = y.later;
      seated = b k refl ∙ y.seated;
      apart = y.apart;
      ungathered = y.ungathered;
      silent = y.silent;
    }
    hand_owners (number_left n) a b y = (next_to n (a n refl) y.0, y.1)
    hand_owners (number_joined k) a b y = record { loose = loose_to k.number (a k.number refl) y.loose; term = y.term; left = y.left; gathered = y.gathered }

-- the seat of a number in the hand
pub hand_owner : (z : Shape) (h : List Entry) (m : PoolWords) (t : Machine) (o : Owners) (j : ℕ) (v : View) (x : Number) (n : ℕ) → HasNumberIn n x
    → HasNumberInHand z h m t o j v x → IsLoose z m o j n
hand_owner z h m t o j v no_number n i y = absurd i
hand_owner z h m t o j v (number_taken k) n i y = subst (IsLoose z m o j) (sym i) y.loose
hand_owner z h m t o j v (number_learnt k x) n i y = subst (IsLoose z m o j) (sym i) y.0.loose
hand_owner z h m t o j v (number_drawn c) n i y = subst (IsLoose z m o j) (sym i) y.loose
hand_owner z h m t o j v (number_left k) n i y = subst (IsLoose z m o j) (sym i) y.0.loose
hand_owner z h m t o j v (number_joined c) n i y = subst (IsLoose z m o j) (sym i) y.loose
