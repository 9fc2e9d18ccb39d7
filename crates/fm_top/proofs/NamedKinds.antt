-- A word names a kind of value exactly where it is the kind's name.
use Rattle.std.{proofs.Common.{◌≡◌, Bool, true, false, ℕ, List, [], ◌∷◌, Some, None, refl, ap, cond, ◌∙◌}, specs.{List.{find}, Str.{bytes_eq}}}
use Rattle.std.proofs.lemmas.Slice.Eq.{bytes_eq-Decides}
use Rattle.fm_lanes.{specs.{declared.value_kind.ValueKind.{ValueKind}, Named.{kinds, kind_text, kind_named}}, proofs.Naming.{kind_named-text}}

-- What is found passes the test.
found_passes : {X : Type 0} (test : X → Bool) (xs : List X) (x : X) → Some x ≡ find test xs → test x ≡ true
found_passes test [] x e = absurd (cc)
found_passes {X} test (y ∷ ys) x e =
    let P : Bool → Type 0 = λ b. test y ≡ b → Some x ≡ cond b (Some y) (find test ys) → test x ≡ true in
    let go : (b : Bool) → P b = λ b. elim b as P [
      | true ↦ (λ h f. let same : x ≡ y = cc in ap test same ∙ h)
      | false ↦ (λ h f. found_passes test ys x f)
    ] in
    go (test y) refl e

-- A word that names a kind is its name.
pub kind_is_named : (text : List ℕ) (kind : ValueKind) → Some kind ≡ kind_named text → text ≡ kind_text kind
unfolding kind_named
kind_is_named text kind e =
    let passes : bytes_eq text (kind_text kind) ≡ true = found_passes (λ k. bytes_eq text (kind_text k)) kinds kind e in
    (bytes_eq-Decides text (kind_text kind)).0 passes

-- A word that names none is no kind's name.
pub kind_isnt_named : (text : List ℕ) (kind : ValueKind) → None ≡ kind_named text → text ≡ kind_text kind → ⊥
kind_isnt_named text kind e is =
    let named : None ≡ Some kind = e ∙ ap kind_named is ∙ kind_named-text kind in
    absurd (cc)
