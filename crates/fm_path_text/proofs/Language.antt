-- A text leaves a language at one place, one of its texts nowhere; and where a machine that reads the language stops, the text leaves it.
use Rattle.std.proofs.Common.{◌≡◌, ◌≢◌, refl, sym, ap, subst, ℕ, ◌+◌, ◌<◌, ◌≤◌, Option, Some, None, List, ◌++◌, length, take, drop, arith, ◌∙◌}
use Rattle.std.proofs.lemmas.List.{append_assoc, take-append-drop, take_all, take-take}
use Rattle.fm_base.specs.declared.refusal.Refusal.{Refusal, TheVariants.{BadQuery, Memory}}
use Rattle.fm_path_text.{specs.{Language.{Begins, BeginsUpTo, IsNoText}, Machine.{run}}, proofs.Machine.{run_append, run_none, Accepts}}

module _ {A : Type 0} (Is : A → Type 0) (write : A → List ℕ) where
  -- A text begins what a longer one begins.
  pub shorter : (text more : List ℕ) → Begins Is write (text ++ more) → Begins Is write text
  shorter text more b = (more ++ b.0, b.1, b.2, sym (append_assoc text more b.0) ∙ b.3)

  -- What begins some text further on, begins it so far.
  begins_before : (n m : ℕ) (text : List ℕ) → n ≤ m → Begins Is write (take m text) → Begins Is write (take n text)
  begins_before n m text below begins =
      let front = take m text in
      let cut : front ≡ take n text ++ drop n front = sym (ap (λ xs. xs ++ drop n front) (sym (take-take n m text below)) ∙ take-append-drop n front) in
      shorter (take n text) (drop n front) (subst (Begins Is write) cut begins)

  -- No text leaves the language at two places.
  not_further : (text : List ℕ) (at to : ℕ) → BeginsUpTo Is write at text → BeginsUpTo Is write to text → at < to → ⊥
  not_further text at to a b less =
      a.longest (omega (arith, less, b.within)) (begins_before (at + 1) to text (omega (arith, less)) b.begins)

  one_place : (text : List ℕ) (at to : ℕ) → BeginsUpTo Is write at text → BeginsUpTo Is write to text → at ≡ to
  one_place text at to a b =
      let up : at < to → ⊥ = not_further text at to a b in
      let down : to < at → ⊥ = not_further text to at b a in
      omega (arith, up, down)

  -- It is no text for one reason, want of memory aside.
  pub one_no_text : (text : List ℕ) (e f : Refusal) → IsNoText Is write text e → IsNoText Is write text f → e ≢ Memory → f ≢ Memory → e ≡ f
  one_no_text text (BadQuery at) (BadQuery to) a b one two = ap BadQuery (one_place text at to a b)
  one_no_text text (BadQuery at) Memory a b one two = absurd (two refl)
  one_no_text text (BadQuery at) f a b one two = absurd b
  one_no_text text Memory f a b one two = absurd (one refl)
  one_no_text text e f a b one two = absurd a

  -- A text of the language leaves it nowhere.
  pub not_no_text : (text : List ℕ) (x : A) (e : Refusal) → Is x → text ≡ write x → IsNoText Is write text e → e ≢ Memory → ⊥
  not_no_text text x (BadQuery at) is spelled denied other = denied.none x is spelled
  not_no_text text x Memory is spelled denied other = other refl
  not_no_text text x e is spelled denied other = denied

-- The machine reads each text of the language to its end, to what the text is of.
pub record IsReader {A S : Type 0} (Is : A → Type 0) (write : A → List ℕ) (step : S → ℕ → Option S) (start : Option S) (whole : S → Option A) : Type 0 where
  pub accepts : (x : A) → Is x → Accepts step start whole (write x) x

module _ {A S : Type 0} {Is : A → Type 0} {write : A → List ℕ} {step : S → ℕ → Option S} {start : Option S} {whole : S → Option A}
    (reader : IsReader Is write step start whole) where
  -- Where it stops, no text goes on.
  stops : (text : List ℕ) → run step text start ≡ None → Begins Is write text → ⊥
  stops text e b =
      let a = reader.accepts b.1 b.2 in
      let f : None ≡ Some a.0 = sym (run_none step b.0) ∙ ap (run step b.0) (sym e) ∙ sym (run_append step text b.0 start)
      ∙ ap (λ t. run step t start) b.3 ∙ a.1 in
      absurd (cc)

  -- What a text is of is whole where the machine stands behind it.
  there : (text : List ℕ) (s : S) (x : A) → run step text start ≡ Some s → Is x → text ≡ write x → whole s ≡ Some x
  there text s x e is spelled =
      let a = reader.accepts x is in
      let f : Some s ≡ Some a.0 = sym e ∙ ap (λ t. run step t start) spelled ∙ a.1 in
      let g : s ≡ a.0 = cc in
      ap whole g ∙ a.2

  -- And nothing else is.
  pub only : (text : List ℕ) (s : S) (x y : A) → run step text start ≡ Some s → whole s ≡ Some x → Is y → text ≡ write y → x ≡ y
  only text s x y e w is spelled = let f : Some x ≡ Some y = sym w ∙ there text s y e is spelled in cc

  -- At the byte where it stops the text leaves the language.
  pub leaves_at : (text : List ℕ) (i : ℕ) → i < length text → Begins Is write (take i text) → run step (take (i + 1) text) start ≡ None
      → BeginsUpTo Is write i text
  leaves_at text i lt begins dead = record {
    within = omega arith;
    begins = begins;
    longest = λ _. stops (take (i + 1) text) dead;
    none = λ x is e. stops (take (i + 1) text) dead (drop (i + 1) text, x, is, take-append-drop (i + 1) text ∙ e);
  }

  -- A text behind which nothing is whole leaves it at its end.
  pub leaves_behind : (text : List ℕ) (s : S) → Begins Is write text → run step text start ≡ Some s → whole s ≡ None → BeginsUpTo Is write (length text) text
  leaves_behind text s begins e w = record {
    within = omega arith;
    begins = subst (Begins Is write) (sym (take_all (length text) text (omega arith))) begins;
    longest = λ lt. absurd (omega arith);
    none = λ x is spelled. let f : None ≡ Some x = sym w ∙ there text s x e is spelled in absurd (cc);
  }
