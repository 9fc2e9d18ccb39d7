-- What views say once a caller was drawn.
use Rattle.std.proofs.{Common.{◌≡◌, ◌≢◌, ◌⊎◌, ℕ, Bool, true, List, [], ◌++◌, sym, refl, ap, ◌∙◌, subst, inl, inr, ⊎_elim}, lemmas.List.{append-nil}}
use mathlib.Core.Option.{some}
use lib.ListN.{get_elem?}
use Rattle.fm_words.specs.declared.shape.Shape.{Shape}
use Rattle.fm_base.specs.{Histories.{made_by}, Finds.{Find, Gathered}, declared.caller.Caller.{Caller}}
use Rattle.fm_rule_facts.specs.Views.{View, In, all_gathered}
use Rattle.fm_rule_facts.specs.Facts.{PoolWords, Owners, Begins, HasGathered, IsOnce, Owns, Knows, Rule, WasDrawn, next_of, IsUndrawn, HasNumberInHand}
use Rattle.fm_rule_facts.specs.Hands.{Number, no_number, number_taken, number_learnt, number_drawn, number_left, number_joined, HasNumberIn, most_draws}
use Rattle.fm_rule_facts.{proofs.{Handing.{hand_view}, Keeping.{gathered_all, seated_all}, Handles.{handles_still}}, specs.Moves.{told}}
use Rattle.fm_rule_facts.proofs.{Seating.{knows_as, owns_seats}, Working.{work_as}}
use Rattle.fm_rule_steps.proofs.Knowing.{own}

module _ (z : Shape) (me : ℕ) (v : View) (l : v.live ≡ true) (lone : v.met ≡ []) (ws : List ℕ) (vs : List View) (r : Rule z ws vs)
    (at : get_elem? vs me ≡ some v) where
  abbrev mine : Owns z r.history r.memory r.machine r.owners me v
  mine = own z ws vs r me v at l

  abbrev begun : Begins v.seen r.history
  begun = (r.each me v at).begins

  -- the pool's words where so many draws were made, and the owners where these callers were drawn
  abbrev memory_at : ℕ → PoolWords
  memory_at d = record r.memory { draw = d }

  abbrev owners_at : (ℕ → Caller) → (Caller → ℕ) → (Caller → ℕ) → Owners
  owners_at who rank seat = record r.owners { who = who; rank = rank; seat = seat }

  abbrev pub part_of : Number → Bool → View
  part_of x wh = record v { number = x; whole = wh }

  abbrev Was : Caller → Type 0
  Was c = WasDrawn r.memory.draw r.owners.who r.owners.rank c

  module _ (d : ℕ) (who : ℕ → Caller) (rank : Caller → ℕ) (seat : Caller → ℕ) (on : (c : Caller) → Was c → WasDrawn d who rank c)
      (same : (c : Caller) → Was c → seat c ≡ r.owners.seat c) where
    abbrev m' : PoolWords
    m' = memory_at d

    abbrev o' : Owners
    o' = owners_at who rank seat

    -- what the view says after the step
    module _ (x : Number) (wh : Bool) (fs : ℕ → List Find) (hand : HasNumberInHand z r.history m' r.machine o' me v x)
        (not_own : (n : ℕ) → HasNumberIn n x → n ≢ v.caller.number)
        (whole : wh ≡ true → (c : Caller) → WasDrawn d who rank c → c ≢ v.caller → HasGathered c v) where
      abbrev w : View
      w = told (part_of x wh) begun.0 [] fs

      seen_is : w.seen ≡ r.history
      seen_is = append-nil (v.seen ++ begun.0) ∙ sym begun.1

      pub knows : Knows z r.history m' r.machine o' me w
      knows =
          let u = mine in
          record {
            shape = (r.each me v at).shape;
            begins = ([], sym (append-nil w.seen ∙ seen_is));
            met = λ x j. absurd j;
            owns = λ e. record {
              drawn = on v.caller u.drawn;
              term = u.term;
              seated = same v.caller u.drawn ∙ u.seated;
              owner = u.owner;
              bit = u.bit;
              mine = ap (made_by v.caller) (sym seen_is);
              work = work_as u.work;
              gathered = λ g j.
                  let y = (gathered_all z r.history r.memory r.machine r.owners me v u g j).1 in
                  record {
                    drawn = on g.caller y.drawn;
                    seated = same g.caller y.drawn ∙ y.seated;
                    apart = y.apart;
                    outside = y.outside;
                    quiet = ap (made_by g.caller) (sym seen_is);
                  };
              coming = λ x j. absurd j;
              one_each = subst (IsOnce (λ (g : Gathered). g.caller)) (sym (append-nil (all_gathered v))) u.one_each;
              number = hand_view z r.history m' r.machine o' me v w refl (λ g j. subst (In g) (append-nil (all_gathered v)) j)
                  (λ g j. subst (In g) (sym (append-nil (all_gathered v))) j) x hand;
              not_own = not_own;
              whole = λ e c b ne. let g = whole e c b ne in (g.0, subst (In g.0) (sym (append-nil (all_gathered v))) g.1, g.2);
              handles = handles_still v w.seen (ap (made_by v.caller) seen_is ∙ u.mine) u.handles;
              seen_all = λ e. seen_is;
            };
          }

    -- what another view says
    module _ (back : (c : Caller) → WasDrawn d who rank c → Was c ⊎ (r.owners.number c.number ≡ me))
        (most : r.memory.draw ≡ most_draws → d ≡ most_draws) (j : ℕ) (u : View) (ne : j ≢ me) where
      next_on : (n : ℕ) → IsUndrawn z r.memory r.owners j n → IsUndrawn z m' o' j n
      next_on n y = record {
        loose = record { low = y.loose.low; owner = y.loose.owner; bit = y.loose.bit; mark = y.loose.mark };
        fresh = λ q. ⊎_elim y.fresh (λ (e : r.owners.number n ≡ me). ne (sym y.loose.owner ∙ e)) (back (next_of r.memory.terms n) q);
      }

      hand_on : (x : Number) → HasNumberInHand z r.history r.memory r.machine r.owners j u x → HasNumberInHand z r.history m' r.machine o' j u x
      hand_on no_number y = tt
      hand_on (number_taken n) y = next_on n y
      hand_on (number_learnt n t) y = (next_on n y.0, y.1)
      hand_on (number_drawn c) y = record {
        loose = record { low = y.loose.low; owner = y.loose.owner; bit = y.loose.bit; mark = y.loose.mark };
        term = y.term;
        drawn = on c y.drawn;
        later = y.later;
        seated = same c y.drawn ∙ y.seated;
        apart = y.apart;
        ungathered = y.ungathered;
        silent = y.silent;
      }
      hand_on (number_left n) y = (next_on n y.0, ⊎_elim (λ (e : r.memory.draw ≡ most_draws). inl (most e)) inr y.1)
      hand_on (number_joined c) y = record {
        loose = record { low = y.loose.low; owner = y.loose.owner; bit = y.loose.bit; mark = y.loose.mark };
        term = y.term;
        left = y.left;
        gathered = y.gathered;
      }

      pub other_knows : Knows z r.history r.memory r.machine r.owners j u → Knows z r.history m' r.machine o' j u
      other_knows = knows_as (λ x. owns_seats on (λ c b e. same c b ∙ e) (λ n e. e) x (λ e. absurd (alone x e)) (hand_on u.number x.number))
        where
          -- the view isn't whole, as this pass's caller is at another seat
          alone : Owns z r.history r.memory r.machine r.owners j u → u.whole ≡ true → ⊥
          alone x e =
              let g = x.whole e v.caller mine.drawn (λ p. ne (sym x.seated ∙ (ap r.owners.seat (sym p) ∙ mine.seated))) in
              ne (sym (seated_all z r.history r.memory r.machine r.owners j u x g.0 g.1) ∙ (ap r.owners.seat g.2 ∙ mine.seated))
