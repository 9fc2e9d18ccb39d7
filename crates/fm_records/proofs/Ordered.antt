-- Elements that are gone through in order: some, and those behind them.
use Rattle.std.{proofs.Common.{◌≡◌, Result, Ok, Err, List, [], ◌∷◌, ◌++◌, refl, sym, ap, ◌∙◌, subst, append_assoc, inl, inr}, specs.Prelude.{◌≢◌}}
use Rattle.std.proofs.lemmas.List.{append-nil}
use Rattle.fm_base.specs.{declared.{caller.Caller.{Caller}, refusal.Refusal.{Refusal}}, Calls.{Entry}, View.{View}}
use Rattle.fm_base_lists.specs.Among.{IsAmong}
use Rattle.fm_segment.specs.Region.{Region}
use Rattle.fm_records.{specs.{Adds.{Adds, all_added}, Reads.{InOrder, all_done, one_more, comes_short, Reads}}, proofs.Visiting.{reads_none, reads_on}}

module _ {A B R : Type 0} {goes : R} {T : A → R → List Entry → List B → Type 0} where
  -- all of some, and then others
  pub in_order_on : (xs ys : List A) (q r : R) (es fs : List Entry) (ks bs : List B) → InOrder goes T xs q es ks → q ≡ goes → InOrder goes T ys r fs bs
      → InOrder goes T (xs ++ ys) r (es ++ fs) (ks ++ bs)
  in_order_on xs ys q r es fs ks bs all_done e k = k
  in_order_on xs ys q r es fs ks bs (one_more {x = x} {xs = left} own rest given more h t) e k =
      subst (λ (cs : List B). InOrder goes T (x ∷ (left ++ ys)) r ((own ++ rest) ++ fs) cs) (sym (append_assoc given more bs))
      (subst (λ (gs : List Entry). InOrder goes T (x ∷ (left ++ ys)) r gs (given ++ (more ++ bs))) (sym (append_assoc own rest fs))
      (one_more own (rest ++ fs) given (more ++ bs) h (in_order_on left ys q r rest fs more bs t e k)))
  in_order_on xs ys q r es fs ks bs (comes_short own given apart h) e k = absurd (apart e)

  -- some that came short, and others that weren't reached
  pub in_order_cut : (xs ys : List A) (r : R) (es : List Entry) (ks : List B) → InOrder goes T xs r es ks → r ≢ goes → InOrder goes T (xs ++ ys) r es ks
  in_order_cut xs ys r es ks all_done apart = absurd (apart refl)
  in_order_cut xs ys r es ks (one_more {xs = left} own rest given more h t) apart = one_more own rest given more h (in_order_cut left ys r rest more t apart)
  in_order_cut xs ys r es ks (comes_short own given not h) apart = comes_short own given apart h

  -- one alone
  pub in_order_one : (x : A) (es : List Entry) (ks : List B) → T x goes es ks → InOrder goes T (x ∷ []) goes es ks
  in_order_one x es ks h =
      subst (λ (cs : List B). InOrder goes T (x ∷ []) goes es cs) (append-nil ks)
      (subst (λ (gs : List Entry). InOrder goes T (x ∷ []) goes gs (ks ++ [])) (append-nil es) (one_more es [] ks [] h all_done))

  -- What each one's visits have, and what then more visits have, all of them have.
  pub in_order_part : (P : List Entry → Type 0) → ((es fs : List Entry) → P es → P (es ++ fs)) → ((es fs : List Entry) → P fs → P (es ++ fs)) → (x : A)
      → ((es : List Entry) (ks : List B) → T x goes es ks → P es) → (xs : List A) (r : R) (own : List Entry) (bs : List B) → IsAmong x xs
      → InOrder goes T xs r own bs → r ≡ goes → P own
  in_order_part P left right x each xs r own bs a all_done e = absurd a
  in_order_part P left right x each xs r own bs (inl is) (one_more first rest given more h t) e =
      left first rest (each first given (subst (λ (y : A). T y goes first given) (sym is) h))
  in_order_part P left right x each xs r own bs (inr a) (one_more {xs = others} first rest given more h t) e =
      right first rest (in_order_part P left right x each others r rest more a t e)
  in_order_part P left right x each xs r own bs a (comes_short first given apart h) e = absurd (apart e)

-- ---- what they give, added

pub all_added-append : {S B : Type 0} (add : S → B → S) (f : S) (bs cs : List B) → all_added add f (bs ++ cs) ≡ all_added add (all_added add f bs) cs
all_added-append add f [] cs = refl
all_added-append add f (b ∷ bs) cs = all_added-append add (add f b) bs cs

-- one alone
pub adds_one : {A B S : Type 0} (T : A → Result (Unit {0}) Refusal → List Entry → List B → Type 0) (add : S → B → S) (x : A) (f g : S)
    (result : Result (Unit {0}) Refusal) (own : List Entry) (bs : List B) → T x result own bs → g ≡ all_added add f bs → Adds T add (x ∷ []) f g result own
adds_one T add x f g (Ok u) own bs h is = record { given = bs; reads = in_order_one x own bs h; added = is }
adds_one T add x f g (Err r) own bs h is = record { given = bs; reads = comes_short own bs (λ e. cc) h; added = is }

-- some, and those behind them
pub adds_on : {A B S : Type 0} (T : A → Result (Unit {0}) Refusal → List Entry → List B → Type 0) (add : S → B → S) (xs ys : List A) (f g h : S)
    (result : Result (Unit {0}) Refusal) (es fs : List Entry) → Adds T add xs f g (Ok tt) es → Adds T add ys g h result fs
    → Adds T add (xs ++ ys) f h result (es ++ fs)
adds_on T add xs ys f g h result es fs a b = record {
  given = a.given ++ b.given;
  reads = in_order_on xs ys (Ok tt) result es fs a.given b.given a.reads refl b.reads;
  added = b.added ∙ ap (λ x. all_added add x b.given) a.added ∙ sym (all_added-append add f a.given b.given);
}

-- ---- the same of what calls did

module _ {A B S : Type 0} (T : Caller → A → Result (Unit {0}) Refusal → List Entry → List B → Type 0) (add : S → B → S) where
  -- none
  pub added_none : {s : Region} (v : View) (f : S) → Reads v v s (λ c. Adds (T c) add [] f f) (Ok tt)
  added_none {s = s} v f = reads_none v s (record { given = []; reads = all_done; added = refl })

  -- some, and those behind them
  pub added_on : {old now next : View} {s : Region} (xs ys : List A) (f g h : S) (result : Result (Unit {0}) Refusal)
      → Reads old now s (λ c. Adds (T c) add xs f g) (Ok tt) → Reads now next s (λ c. Adds (T c) add ys g h) result
      → Reads old next s (λ c. Adds (T c) add (xs ++ ys) f h) result
  added_on {old} xs ys f g h result d e =
      reads_on (λ c. Adds (T c) add ys g h) (λ c. Adds (T c) add (xs ++ ys) f h) result d e
      (adds_on (T old.caller) add xs ys f g h result d.own e.own d.does.1)

  -- some that came short
  pub added_cut : {old now : View} (s : Region) (xs ys : List A) (f g : S) (r : Refusal) → Reads old now s (λ c. Adds (T c) add xs f g) (Err r)
      → Reads old now s (λ c. Adds (T c) add (xs ++ ys) f g) (Err r)
  added_cut s xs ys f g r d =
      let a = d.does.1 in
      record {
        own = d.own;
        does = (
          d.does.0,
          record {
            given = a.given;
            reads = in_order_cut xs ys (Err r) d.own a.given a.reads (λ e. cc);
            added = a.added;
          },
        );
        makes = d.makes;
      }
