-- Finds of the word 0 of number bits stay true.
use Rattle.std.proofs.Common.{◌≡◌, ℕ, zero, suc, ◌≤◌, true, false, List, [], ◌∷◌, ◌++◌, length, sym, refl, ap, ◌∙◌, subst, arith, inr, ⊎_elim}
use Rattle.std.proofs.lemmas.List.{append-nil}
use mathlib.Core.Option.{some}
use lib.ListN.{get_elem?}
use Rattle.fm_words.specs.declared.shape.Shape.{Shape}
use Rattle.fm_base.specs.{declared.caller.Caller.{Caller}, Calls.{Entry}, Finds.{Find, Gathered, is_number}}
use Rattle.fm_rule_facts.specs.{Hands.{number_taken, number_learnt, most_draws, HasNumberIn}, Views.{View, In, prefix, all_gathered, brought}, Splits.{gather}}
use Rattle.fm_rule_facts.specs.Facts.{PoolWords, Owners, WasDrawn, Somewhere, WantsNumber, IsUsed, used, wanted, full, HasLooked, LookedBy, IsLooked, IsLoose, Rule}
use Rattle.fm_rule_facts.{specs.Moves.{told}, proofs.{Handing.{hand_owner}, Keeping.{in_append, all_gather}}}

pub prefix-append : (k : ℕ) (xs ys : List Gathered) → k ≤ length xs → prefix k (xs ++ ys) ≡ prefix k xs
prefix-append zero xs ys h = refl
prefix-append (suc k) [] ys h = absurd (omega arith)
prefix-append (suc k) (x ∷ xs) ys h = ap (λ (gs : List Gathered). x ∷ gs) (prefix-append k xs ys (omega arith))

pub prefix-all : (xs : List Gathered) → prefix (length xs) xs ≡ xs
prefix-all [] = refl
prefix-all (x ∷ xs) = ap (λ (gs : List Gathered). x ∷ gs) (prefix-all xs)

pub long-append : (xs ys : List Gathered) → length xs ≤ length (xs ++ ys)
long-append [] ys = omega arith
long-append (x ∷ xs) ys = let h = long-append xs ys in omega arith

-- what a view wants is in its hand
pub wants_in : (n : ℕ) (v : View) → WantsNumber n v → HasNumberIn n v.number
wants_in n v h = ⊎_elim
    (λ (e : v.number ≡ number_taken n). subst (HasNumberIn n) (sym e) refl)
    (λ (e : (t : ℕ) × (v.number ≡ number_learnt n t)). subst (HasNumberIn n) (sym e.1) refl)
    h.1

-- so its bit is 0
pub wants_loose : (z : Shape) (ws : List ℕ) (vs : List View) (r : Rule z ws vs) (j n : ℕ) (v : View) → get_elem? vs j ≡ some v → WantsNumber n v
    → IsLoose z r.memory r.owners j n
wants_loose z ws vs r j n v at h =
    hand_owner z r.history r.memory r.machine r.owners j v v.number n (wants_in n v h) ((r.each j v at).owns h.0).number

module _ (z : Shape) (m : PoolWords) (o : Owners) (vs : List View) (m' : PoolWords) (o' : Owners) (us : List View)
    (on : (c : Caller) → WasDrawn m.draw o.who o.rank c → WasDrawn m'.draw o'.who o'.rank c)
    (most : m.draw ≡ most_draws → m'.draw ≡ most_draws)
    (wants : (before : List Gathered) → ((g : Gathered) → In g before → WasDrawn m.draw o.who o.rank g.caller) → (n : ℕ)
    → Somewhere vs (o.number n) (WantsNumber n) → IsUsed m' o' us before n) where
  used_on : (before : List Gathered) → ((g : Gathered) → In g before → WasDrawn m.draw o.who o.rank g.caller) → (n : ℕ)
      → IsUsed m o vs before n → IsUsed m' o' us before n
  used_on before d n (used c e w x) = used c e (on c w) x
  used_on before d n (wanted s) = wants before d n s
  used_on before d n (full e) = full (most e)

  pub looked_by_on : (before : List Gathered) (f : Find) → LookedBy z m o vs before f → LookedBy z m' o' us before f
  looked_by_on before f h i e =
      let y = h i e in record { drawn = λ g k. on g.caller (y.drawn g k); all = λ n q l. used_on before y.drawn n (y.all n q l) }

  pub looked_on : (v : View) → IsLooked z m o vs v → IsLooked z m' o' us v
  looked_on v y = record {
    few = y.few;
    finds = λ f i. looked_by_on (prefix f.gathered v.gathered) f (y.finds f i);
    theirs = λ g i f j. looked_by_on [] f (y.theirs g i f j);
  }

module _ (z : Shape) (m : PoolWords) (o : Owners) (vs : List View) where
  -- where less is asked
  none_before : (before : List Gathered) (f : Find) → LookedBy z m o vs before f → LookedBy z m o vs [] f
  none_before before f h i e =
      let y = h i e in record { drawn = λ g k. absurd k; all = λ n q l. go n (y.all n q l) }
    where
      go : (n : ℕ) → IsUsed m o vs before n → IsUsed m o vs [] n
      go n (used c q w x) = used c q w (inr (λ g k. absurd k))
      go n (wanted s) = wanted s
      go n (full q) = full q

  pub looked_told : (v p : View) (zs es : List Entry) (fs : ℕ → List Find) → p.finds ≡ v.finds → p.gathered ≡ v.gathered → p.met ≡ v.met
      → ((f : Find) → In f (fs (length (p.seen ++ zs))) → (is_number f.step ≡ true → f.gathered ≡ length v.gathered) × LookedBy z m o vs v.gathered f)
      → IsLooked z m o vs v → IsLooked z m o vs (told p zs es fs)
  looked_told v p zs es fs finds gs ms new y = record {
    few = λ f i n. ⊎_elim
        (λ (j : In f p.finds). let a = y.few f (subst (In f) finds j) n in let b = more in omega arith)
        (λ (j : In f (fs (length (p.seen ++ zs)))). let a = (new f j).0 n in let b = more in omega arith)
        (in_append f p.finds (fs (length (p.seen ++ zs))) i);
    finds = λ f i n. ⊎_elim
        (λ (j : In f p.finds).
        let k = subst (In f) finds j in
        λ h. subst (λ (b : List Gathered). HasLooked z m o vs b f) (sym (same f.gathered (y.few f k n))) (y.finds f k n h))
        (λ (j : In f (fs (length (p.seen ++ zs)))) h.
        let a = (new f j).0 n in
        subst (λ (b : List Gathered). HasLooked z m o vs b f)
        (sym (same f.gathered (omega arith) ∙ ((λ q. prefix (a q) v.gathered) ∙ prefix-all v.gathered))) ((new f j).1 n h))
        (in_append f p.finds (fs (length (p.seen ++ zs))) i);
    theirs = λ g j. y.theirs g (subst (In g) (append-nil (all_gathered p) ∙ (λ q. gs q ++ brought (ms q))) j);
  }
    where
      is : all_gathered p ≡ v.gathered ++ brought v.met
      is = λ q. gs q ++ brought (ms q)

      more : length v.gathered ≤ length (all_gathered p)
      more = subst (λ (xs : List Gathered). length v.gathered ≤ length xs) (sym is) (long-append v.gathered (brought v.met))

      same : (k : ℕ) → k ≤ length v.gathered → prefix k (all_gathered p) ≡ prefix k v.gathered
      same k h = ap (prefix k) is ∙ prefix-append k v.gathered (brought v.met) h

  pub looked_bare : (v : View) → v.finds ≡ [] → all_gathered v ≡ [] → IsLooked z m o vs v
  looked_bare v finds gs = record {
    few = λ f i. absurd (subst (In f) finds i);
    finds = λ f i. absurd (subst (In f) finds i);
    theirs = λ g j. absurd (subst (In g) gs j);
  }

  pub looked_gather : (v w : View) → IsLooked z m o vs v → IsLooked z m o vs w → IsLooked z m o vs (gather v w)
  looked_gather v w a b = record {
    few = a.few;
    finds = a.finds;
    theirs = all_gather v w (λ g. (f : Find) → In f g.finds → LookedBy z m o vs [] f) a.theirs b.theirs
        (λ f i. none_before (prefix f.gathered w.gathered) f (b.finds f i));
  }

-- where no number was looked for, all that was noted is so
pub none_looked : (z : Shape) (m : PoolWords) (o : Owners) (vs : List View) (before : List Gathered) (f : Find) → is_number f.step ≡ false
    → LookedBy z m o vs before f
none_looked z m o vs before f s e = let q : true ≡ false = sym e ∙ s in absurd (cc)
