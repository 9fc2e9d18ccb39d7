-- Elements that read words in turn: some, and those behind them.
use Rattle.std.{proofs.Common.{◌≡◌, Result, Ok, Err, List, [], ◌∷◌, ◌++◌, refl, sym, ap, ◌∙◌, subst, append_assoc}, specs.Prelude.{◌≢◌}}
use Rattle.std.proofs.lemmas.List.{append-nil}
use Rattle.fm_base.specs.{declared.refusal.Refusal.{Refusal}, View.{View}}
use Rattle.fm_segment.specs.Region.{Region}
use Rattle.fm_records.specs.{Adds.{AddsTurn, all_added}, Reads.{InTurn, no_turn, next_turn, short_turn, Sees}, Words.{Seen}}
use Rattle.fm_records.proofs.{Ordered.{all_added-append}, Seeing.{sees_as, sees_none, sees_on}}

module _ {A B R : Type 0} {goes : R} {T : List Seen → A → R → List Seen → List B → List Seen → Type 0} where
  -- all of some, and then others
  pub in_turn_on : {k l m : List Seen} (xs ys : List A) (q r : R) (es fs : List Seen) (gs bs : List B) → InTurn goes T k xs q es gs l → q ≡ goes
      → InTurn goes T l ys r fs bs m → InTurn goes T k (xs ++ ys) r (es ++ fs) (gs ++ bs) m
  in_turn_on xs ys q r es fs gs bs no_turn e t = t
  in_turn_on {k} {l} {m} xs ys q r es fs gs bs (next_turn {x = x} {xs = left} j own rest given more h others) e t =
      subst (λ (cs : List B). InTurn goes T k (x ∷ (left ++ ys)) r ((own ++ rest) ++ fs) cs m) (sym (append_assoc given more bs))
      (subst (λ (ws : List Seen). InTurn goes T k (x ∷ (left ++ ys)) r ws (given ++ (more ++ bs)) m) (sym (append_assoc own rest fs))
      (next_turn j own (rest ++ fs) given (more ++ bs) h (in_turn_on left ys q r rest fs more bs others e t)))
  in_turn_on xs ys q r es fs gs bs (short_turn own given apart h) e t = absurd (apart e)

  -- some that came short, and others that weren't reached
  pub in_turn_cut : {k l : List Seen} (xs ys : List A) (r : R) (es : List Seen) (gs : List B) → InTurn goes T k xs r es gs l → r ≢ goes
      → InTurn goes T k (xs ++ ys) r es gs l
  in_turn_cut xs ys r es gs no_turn apart = absurd (apart refl)
  in_turn_cut xs ys r es gs (next_turn {xs = left} j own rest given more h others) apart =
      next_turn j own rest given more h (in_turn_cut left ys r rest more others apart)
  in_turn_cut xs ys r es gs (short_turn own given not h) apart = short_turn own given not h

  -- one alone
  pub in_turn_one : {k l : List Seen} (x : A) (es : List Seen) (gs : List B) → T k x goes es gs l → InTurn goes T k (x ∷ []) goes es gs l
  in_turn_one {k} {l} x es gs h =
      subst (λ (cs : List B). InTurn goes T k (x ∷ []) goes es cs l) (append-nil gs)
      (subst (λ (ws : List Seen). InTurn goes T k (x ∷ []) goes ws (gs ++ []) l) (append-nil es) (next_turn l es [] gs [] h no_turn))

-- ---- what they give, added

module _ {A B S : Type 0} (T : List Seen → A → Result (Unit {0}) Refusal → List Seen → List B → List Seen → Type 0) (add : S → B → S) where
  -- one alone
  pub turn_one : {k l : List Seen} (x : A) (f g : S) (result : Result (Unit {0}) Refusal) (own : List Seen) (bs : List B) → T k x result own bs l
      → g ≡ all_added add f bs → AddsTurn T add k (x ∷ []) f g l result own
  turn_one x f g (Ok u) own bs h is = record { given = bs; reads = in_turn_one x own bs h; added = is }
  turn_one x f g (Err r) own bs h is = record { given = bs; reads = short_turn own bs (λ e. cc) h; added = is }

  -- none
  pub turn_none : {s : Region} (v : View) (f : S) (k : List Seen) → Sees v v s (AddsTurn T add k [] f f k) (Ok tt)
  turn_none {s} v f k = sees_none v s tt (record { given = []; reads = no_turn; added = refl })

  -- some, and those behind them
  pub turn_on : {old now next : View} {s : Region} {k l m : List Seen} (xs ys : List A) (f g h : S) (result : Result (Unit {0}) Refusal)
      → Sees old now s (AddsTurn T add k xs f g l) (Ok tt) → Sees now next s (AddsTurn T add l ys g h m) result
      → Sees old next s (AddsTurn T add k (xs ++ ys) f h m) result
  turn_on {k = k} {l} {m} xs ys f g h result d e =
      let a = d.does.does in
      sees_on (AddsTurn T add l ys g h m) (AddsTurn T add k (xs ++ ys) f h m) result d e (λ b. record {
        given = a.given ++ b.given;
        reads = in_turn_on xs ys (Ok tt) result d.does.seen e.does.seen a.given b.given a.reads refl b.reads;
        added = b.added ∙ ap (λ x. all_added add x b.given) a.added ∙ sym (all_added-append add f a.given b.given);
      })

  -- some that came short
  pub turn_cut : {old now : View} {s : Region} {k l : List Seen} (xs ys : List A) (f g : S) (r : Refusal) → Sees old now s (AddsTurn T add k xs f g l) (Err r)
      → Sees old now s (AddsTurn T add k (xs ++ ys) f g l) (Err r)
  turn_cut {k = k} {l} xs ys f g r d =
      sees_as (AddsTurn T add k xs f g l) (AddsTurn T add k (xs ++ ys) f g l) (Err r) d (λ a. record {
        given = a.given;
        reads = in_turn_cut xs ys (Err r) d.does.seen a.given a.reads (λ e. cc);
        added = a.added;
      })
