-- Taking a slot, and opening an arena there.
use Rattle.std.proofs.Common.{◌≡◌, ◌≢◌, ◌⊎◌, ℕ, ◌/◌, ◌^◌, ◌==◌, ◌<◌, Bool, true, false, if◌then◌else◌, List, [], ◌∷◌, ◌++◌, length, refl, ap, sym, ◌∙◌, subst, inl, inr, ⊎_elim, None, eq-eqb, ne_eqb, append_assoc}
use Rattle.std.proofs.{Math.Nat.{le_of_eq}, lemmas.{List.{append-nil, Elements.{All-cons, All-nil, Contains-push}}, Nat.Bits.{bit_at-zero}}}
use Rattle.std.specs.Int.{bit_at}
use Rattle.fm_words.specs.{declared.{shape.Shape.{Shape}, session.Session.{Session}}, Sessions.{session_of}}
use Rattle.fm_base.specs.{declared.{caller.Caller.{Caller}, arena_id.ArenaId.{ArenaId}, kind.Kind.{Kind}}, Arenas.{owner_of}}
use Rattle.fm_base.specs.{Calls.{Entry, Open, Fine, entry_of}, Histories.{state_after}, Finds.{Find, FindsMore, TakesSlot, is_draw}}
use Rattle.fm_base.proofs.Making.{FindsMore-none}
use Rattle.fm_rule_facts.specs.{Hands.{Hand, nothing, taken, learnt, takes, hand_taken}, Views.{View, IsBusy, IsBusyIn, limit_of}, Holds.{handles_with}}
use Rattle.fm_rule_facts.specs.{Steps.{Stepped, none_noted, note_of, is_clear}, Moves.{LearnsSlots}}
use Rattle.fm_rule_steps.proofs.Reading.{eqb_true}
use Rattle.fm_rule.specs.{declared.pool.Pool.{Pool}, Passes.{IsOf}}
use Rattle.fm_rule_calls.{specs.Kept.{Goes}, proofs.Going.{NoDraws, goes_then, no_draws, made_by-one, goes_step}}
use Rattle.fm_gate.specs.Slots.{Went, SlotTaken, NoneTaken, OpenedIn}

-- ---- the exchanges

abbrev Takes : View → View → ℕ → ℕ → ℕ → Type 0
Takes p q word bit found = Stepped p q (record p { hand = hand_taken (takes word bit found) bit p.hand }) [] (note_of (TakesSlot word bit) found p)

-- What such a step notes is no draw.
no_draw : (p : View) (word bit found : ℕ) → NoDraws (note_of (TakesSlot word bit) found p)
no_draw p word bit found n = All-cons (λ f. is_draw f.step ≡ false) _ [] refl (All-nil (λ f. is_draw f.step ≡ false))

-- the pass has come from p to q by exchanges that took nothing
pub record Bidding (pool : Pool) (p q : View) : Type 0 where
  pub of : IsOf pool q
  pub none : q.hand ≡ nothing
  pub went : (q ≡ p) ⊎ Went p q nothing

pub bids_begin : {pool : Pool} {p : View} → IsOf pool p → p.hand ≡ nothing → Bidding pool p p
bids_begin o h = record { of = o; none = h; went = inl refl }

-- a whole pass sees nothing new, and what it finds is added
record SameSeen (o p : View) : Type 0 where
  whole : p.whole ≡ o.whole
  shape : p.shape ≡ o.shape
  seen : o.whole ≡ true → p.seen ≡ o.seen
  sweeps : p.sweeps ≡ o.sweeps
  finds : FindsMore o.finds p.finds

same_seen : {pool : Pool} {o p : View} → Bidding pool o p → SameSeen o p
same_seen {o = o} {p = p} b = ⊎_elim
    (λ (e : p ≡ o). record {
      whole = ap (λ (x : View). x.whole) e;
      shape = ap (λ (x : View). x.shape) e;
      seen = λ w. ap (λ (x : View). x.seen) e;
      sweeps = ap (λ (x : View). x.sweeps) e;
      finds = subst (λ (x : View). FindsMore x.finds p.finds) e (FindsMore-none p.finds);
    })
    (λ (g : Went o p nothing). record {
      whole = g.goes.same_whole;
      shape = g.goes.same_shape;
      seen = λ w. g.goes.seen ∙ (ap (λ (es : List Entry). o.seen ++ es) (g.goes.alone w) ∙ append-nil o.seen);
      sweeps = ap (λ (x : View). x.sweeps) g.is;
      finds = g.goes.finds;
    })
    b.went

busy_same : (o p : View) → p.shape ≡ o.shape → p.seen ≡ o.seen → (s : ℕ) → IsBusy p s → IsBusy o s
busy_same o p e f s y =
    subst (λ (x : Shape × List Entry). IsBusyIn x.0.generations (state_after (limit_of x.0) [] x.1) s) (λ j. (e j, f j)) y

module _ {pool : Pool} {o p q : View} (word bit found : ℕ) (b : Bidding pool o p) (s : Takes p q word bit found) (l : LearnsSlots p found)
    (low : bit < pool.shape.slots) where
  -- the step where it is known what is in the hand then
  step_to : (hand : Hand) → hand_taken (takes word bit found) bit p.hand ≡ hand
      → Stepped p q (record p { hand = hand }) [] (note_of (TakesSlot word bit) found p)
  step_to hand e = subst (λ (h : Hand). Stepped p q (record p { hand = h }) [] (note_of (TakesSlot word bit) found p)) e s

  -- and the way from the first
  went_to : (hand : Hand) → hand_taken (takes word bit found) bit p.hand ≡ hand → Went o q hand
  went_to hand e =
      let t = step_to hand e in
      let g : Goes p q [] = goes_step t refl refl refl (no_draw p word bit found) in
      let is : q ≡ record p { seen = q.seen; finds = q.finds; hand = hand } =
      t.is_part ∙ ap (λ (fs : List Find). record p { seen = q.seen; finds = fs; hand = hand }) (sym (ap (λ (x : View). x.finds) t.is_part)) in
      ⊎_elim
      (λ (c : p ≡ o). subst (λ (x : View). Went x q hand) c (record { goes = g; is = is }))
      (λ (w : Went o p nothing). record {
        goes = goes_then w.goes g;
        is = is ∙ ap (λ (x : View). record x { seen = q.seen; finds = q.finds; hand = hand }) w.is;
      })
      b.went

  missed : found ≢ word → hand_taken (takes word bit found) bit p.hand ≡ nothing
  missed n = ap (λ (c : Bool). hand_taken (if c then bit_at word bit == 1 else false) bit p.hand) (ne_eqb found word n) ∙ b.none

  pub bids_go_on : found ≢ word → Bidding pool o q
  bids_go_on n =
      let w = went_to nothing (missed n) in
      record {
        of = (ap (λ (x : View). x.home) s.is_part ∙ b.of.0, ap (λ (x : View). x.shape) s.is_part ∙ b.of.1);
        none = ap (λ (x : View). x.hand) w.is;
        went = inr w;
      }

  -- The bit was 1 and is taken.
  pub bid_taken : found ≡ word → bit_at word bit ≡ 1 → SlotTaken o q bit
  bid_taken e one =
      let m = same_seen b in
      let hit : takes word bit found ≡ true =
      ap (λ (c : Bool). if c then bit_at word bit == 1 else false) (eq-eqb found word e) ∙ eq-eqb (bit_at word bit) 1 one in
      let shape : pool.shape ≡ o.shape = sym b.of.1 ∙ m.shape in
      record {
        went = went_to (taken bit) (ap (λ (c : Bool). hand_taken c bit p.hand) hit);
        low = subst (λ (z : Shape). bit < z.slots) shape low;
        idle = λ w y. l.idle (m.whole ∙ w) bit (subst (λ (z : Shape). bit < z.slots) (sym b.of.1) low) (ap (λ (x : ℕ). bit_at x bit) e ∙ one)
            (busy_same p o (sym m.shape) (sym (m.seen w)) bit y);
      }

  -- No bit is 1.
  pub bid_none : found ≡ 0 → (word ≢ 0 → bit_at word bit ≡ 1) → NoneTaken o q
  bid_none zero has =
      let m = same_seen b in
      let w = went_to nothing (empty (found == word) refl) in
      let t = step_to nothing (empty (found == word) refl) in
      let n : ℕ = length (p.seen ++ t.others) in
      let here : Find = record { step = TakesSlot word bit; found = found; seen = n; clear = is_clear p; gathered = length p.gathered; drew = None } in
      let grown : q.finds ≡ p.finds ++ here ∷ [] = ap (λ (x : View). x.finds) t.is_part in
      record {
        went = w;
        found = record {
          more = m.finds.more ++ here ∷ [];
          grown = grown ∙ (ap (λ (fs : List Find). fs ++ here ∷ []) m.finds.grown ∙ append_assoc o.finds m.finds.more (here ∷ []));
          find = here;
          among = Contains-push m.finds.more here;
          step = refl;
          nothing = zero;
        };
        early = le_of_eq (sym (ap (λ (es : List Entry). length es) (t.seen ∙ append-nil (p.seen ++ t.others))));
        busy = λ y n k h. busy_same o p m.shape (m.seen y) k
            (l.busy (m.whole ∙ y) b.none (m.sweeps ∙ n) k (subst (λ (z : Shape). k < z.slots) (sym m.shape) h)
            (ap (λ (x : ℕ). bit_at x k) zero ∙ bit_at-zero k));
      }
    where
      -- a word that has the bit isn't 0
      empty : (c : Bool) → (found == word) ≡ c → hand_taken (takes word bit found) bit p.hand ≡ nothing
      empty false e = ap (λ (c : Bool). hand_taken (if c then bit_at word bit == 1 else false) bit p.hand) e ∙ b.none
      empty true e =
          let w : word ≡ 0 = sym (eqb_true found word e) ∙ zero in
          let off : (bit_at word bit == 1) ≡ false = ap (λ (x : ℕ). x == 1) (ap (λ (x : ℕ). bit_at x bit) w ∙ bit_at-zero bit) in
          ap (λ (c : Bool). hand_taken c bit p.hand) (ap (λ (c : Bool). if c then bit_at word bit == 1 else false) e ∙ off) ∙ b.none

-- ---- opening

-- The generation of a session word is above its low 32 bits.
pub generation_is : (s : Session) (word : ℕ) → s ≡ session_of word → word / 2 ^ 32 ≡ s.generation
unfolding session_of
generation_is s word e = sym (ap (λ (x : Session). x.generation) e)

-- The generation was learnt, and the arena opened.
pub opened_in : {p m q : View} {kind : Kind} {a : ArenaId} (slot generation : ℕ) → Stepped p m (record p { hand = learnt slot generation }) [] none_noted
    → Stepped m q (record m { hand = nothing; handles = handles_with a m.handles }) (entry_of m.caller (Open a) Fine ∷ []) none_noted
    → a.kind ≡ kind → owner_of a ≡ m.caller → OpenedIn p q slot kind a
opened_in {p = p} {m = m} {q = q} {kind = kind} {a = a} slot generation learns opens k o =
    let g : Goes p m [] = goes_step learns refl refl refl no_draws in
    let h : Goes m q (entry_of m.caller (Open a) Fine ∷ []) = goes_step opens refl refl (made_by-one m.caller (Open a) Fine) no_draws in
    let c : m.caller ≡ p.caller = g.same_caller in
    record {
      goes = goes_then g (subst (λ (x : Caller). Goes m q (entry_of x (Open a) Fine ∷ [])) c h);
      is = opens.is_part ∙ ((λ j. record m {
        seen = q.seen;
        finds = ap (λ (x : View). x.finds) (sym opens.is_part) j;
        hand = nothing;
        handles = handles_with a m.handles;
      }) ∙ ap (λ (x : View). record x { seen = q.seen; finds = q.finds; hand = nothing; handles = handles_with a x.handles }) learns.is_part);
      kind = k;
      owner = o ∙ c;
    }
