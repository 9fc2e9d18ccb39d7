-- A text that is written piece by piece.
use Rattle.std.proofs.Common.{◌≡◌, ℕ, ◌+◌, ◌-◌, ◌≤◌, List, ◌++◌, length, take, drop, Option, None, Some, ap, sym, ◌∙◌, append_assoc, length-drop}
use Rattle.std.{specs.Option.{option_map}, proofs.Math.Seq.{take-add, take-length}}
use Rattle.fm_io.specs.{Count.{Counts, Raised}, Sink.{Appends, SinkView}}

-- the text's first bytes were written
pub record IsWriting (old new : SinkView) (text : List ℕ) (taken : ℕ) : Type 0 where
  pub within : taken ≤ length text
  pub written : Appends old.written new.written (take taken text)
  pub counted : Counts Raised ⊥ old.faults new.faults

-- what was appended in two pieces was appended
pub Appends-append : (old mid new : Option (List ℕ)) (xs ys : List ℕ) → Appends old mid xs → Appends mid new ys → Appends old new (xs ++ ys)
Appends-append None mid new xs ys first second = second ∙ ap (option_map (λ written. written ++ ys)) first
Appends-append (Some w) mid new xs ys first second =
    second ∙ ap (option_map (λ written. written ++ ys)) first ∙ ap Some (append_assoc w xs ys)

-- the text's first n bytes, and then m of the rest
Appends-more : (old mid new : Option (List ℕ)) (text : List ℕ) (n m : ℕ) → Appends old mid (take n text) → Appends mid new (take m (drop n text))
    → Appends old new (take (n + m) text)
Appends-more old mid new text n m first second =
    Appends-append old mid new (take n text) (take m (drop n text)) first second
    ∙ ap (λ bytes. option_map (λ written. written ++ bytes) old) (sym (take-add n m text))

-- the same, where the rest is the slice from n to the text's end
pub Appends-rest : (old mid new : Option (List ℕ)) (text : List ℕ) (n m : ℕ) → Appends old mid (take n text)
    → Appends mid new (take m (take (length text - n) (drop n text))) → Appends old new (take (n + m) text)
Appends-rest old mid new text n m first second =
    let whole : take (length text - n) (drop n text) ≡ drop n text =
    ap (λ k. take k (drop n text)) (sym (length-drop n text)) ∙ take-length (drop n text) in
    Appends-more old mid new text n m first (second ∙ ap (λ rest. option_map (λ written. written ++ take m rest) mid) whole)
