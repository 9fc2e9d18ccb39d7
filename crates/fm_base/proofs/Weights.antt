-- What entries weigh, caller by caller.
use Rattle.std.proofs.Common.{◌≡◌, ◌≢◌, ℕ, ◌+◌, Bool, true, false, if◌then◌else◌, List, [], ◌∷◌, refl, ap, sym, ◌∙◌, subst, inl, inr, arith}
use Rattle.std.{specs.{Prelude.{cond}}}
use Rattle.fm_base_lists.specs.Among.{IsAmong, AreApart}
use Rattle.fm_base.specs.{declared.{caller.Caller.{Caller}}, Arenas.{are_one}, Calls.{Entry}, Counting.{WeighsByCallers, total, weighed}, Histories.{made_by}}
use Rattle.fm_base.proofs.{Names.{are_one-not, are_one-self}}

-- A total of equal numbers is the same.
total_same : (f g : Caller → ℕ) (cs : List Caller) → ((c : Caller) → IsAmong c cs → g c ≡ f c) → total g cs ≡ total f cs
total_same f g [] same = refl
total_same f g (c ∷ cs) same = omega (arith, same c (inl refl), total_same f g cs (λ d i. same d (inr i)))

-- Where one who stands once in a list has k more, the total is k more.
total_more : (f g : Caller → ℕ) (c : Caller) (k : ℕ) (cs : List Caller) → g c ≡ k + f c → ((d : Caller) → c ≢ d → g d ≡ f d)
    → IsAmong c cs → AreApart cs → total g cs ≡ k + total f cs
total_more f g c k [] more same i apart = absurd i
total_more f g c k (d ∷ ds) more same (inl is) apart =
    let first = subst (λ (x : Caller). g x ≡ k + f x) is more in
    omega (arith, first, total_same f g ds (λ x i. same x (λ e. apart.0 (subst (λ (y : Caller). IsAmong y ds) (sym e ∙ is) i))))
total_more f g c k (d ∷ ds) more same (inr i) apart =
    let first = same d (λ e. apart.0 (subst (λ (x : Caller). IsAmong x ds) e i)) in
    omega (arith, first, total_more f g c k ds more same i apart.1)

-- The first entry weighs where it is the caller's.
weighed_first : (f : Entry → ℕ) (c : Caller) (e : Entry) (es : List Entry)
    → weighed f (made_by c (e ∷ es)) ≡ (if are_one e.caller c then f e else 0) + weighed f (made_by c es)
weighed_first f c e es =
    elim (are_one e.caller c) as (λ b. weighed f (cond b (e ∷ made_by c es) (made_by c es)) ≡ (if b then f e else 0) + weighed f (made_by c es)) [
      | true ↦ refl
      | false ↦ omega arith
    ]

none_weighed : (f : Entry → ℕ) (cs : List Caller) → total (λ c. weighed f (made_by c [])) cs ≡ 0
none_weighed f [] = refl
none_weighed f (c ∷ cs) = omega (arith, none_weighed f cs)

-- Each entry is weighed by the one that made it.
pub weighs_by_callers : WeighsByCallers
weighs_by_callers f [] cs apart h = sym (none_weighed f cs)
weighs_by_callers f (e ∷ es) cs apart h =
    let k = f e in
    let before : Caller → ℕ = λ c. weighed f (made_by c es) in
    let now : Caller → ℕ = λ c. weighed f (made_by c (e ∷ es)) in
    let counts : (c : Caller) (b : Bool) → are_one e.caller c ≡ b → now c ≡ (if b then k else 0) + before c =
    λ c b t. weighed_first f c e es ∙ ap (λ x. (if x then k else 0) + before c) t in
    let one : total now cs ≡ k + total before cs = elim h.0 [
      | inl i ↦ total_more before now e.caller k cs (counts e.caller true (are_one-self e.caller))
          (λ d n. counts d false (are_one-not e.caller d n) ∙ omega arith) i apart
      | inr none ↦ total_same before now cs (λ c i. weighed_first f c e es
          ∙ elim (are_one e.caller c) as (λ b. (if b then k else 0) + before c ≡ before c) [ true ↦ omega (arith, none) | false ↦ omega arith ])
          ∙ omega (arith, none)
    ] in
    omega (arith, weighs_by_callers f es cs apart h.1, one)
