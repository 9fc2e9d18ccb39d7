-- Tidy histories of many callers, and in parts.
use Rattle.std.{proofs.Common.{◌≡◌, ℕ, Bool, true, false, cond, List, [], ◌∷◌, ◌++◌, refl}, specs.List.{AllByRecursion}}
use Rattle.fm_segment_laws.specs.Accesses.{IsTidyBy}
use Rattle.fm_base.specs.{declared.caller.Caller.{Caller}, Arenas.{State, are_one}, Calls.{Entry}, Histories.{IsTidy, made_by, state_after}, Machine.{after}}
use Rattle.fm_base.proofs.Names.{are_one-false}
use Rattle.fm_base_lists.{specs.Among.{IsAmong}, proofs.Each.{all_among, all_weaker}}
use Rattle.fm_script_laws.specs.Histories.{TidyInParts}

-- One tidy history behind another.
pub tidy_append : (limit : ℕ) (s : State) (xs ys : List Entry) → IsTidy limit s xs → IsTidy limit (state_after limit s xs) ys → IsTidy limit s (xs ++ ys)
tidy_append limit s [] ys h k = k
tidy_append limit s (x ∷ xs) ys h k = (h.0, tidy_append limit (after limit s x) xs ys h.1 k)

-- The same of one caller's entries.
pub own_append : (c : Caller) (limit : ℕ) (s : State) (xs ys : List Entry) → IsTidyBy c limit s xs → IsTidyBy c limit (state_after limit s xs) ys
    → IsTidyBy c limit s (xs ++ ys)
own_append c limit s [] ys h k = k
own_append c limit s (x ∷ xs) ys h k = (h.0, own_append c limit (after limit s x) xs ys h.1 k)

-- Where a caller made none of them, its own are tidy.
pub own_none : (c : Caller) (limit : ℕ) (s : State) (es : List Entry) → made_by c es ≡ [] → IsTidyBy c limit s es
own_none c limit s [] h = tt
own_none c limit s (e ∷ es) h =
    let P : Bool → Type 0 = λ b. are_one e.caller c ≡ b → cond b (e ∷ made_by c es) (made_by c es) ≡ [] → IsTidyBy c limit s (e ∷ es) in
    let go : (b : Bool) → P b = λ b. elim b as P [
      | true ↦ (λ is k. absurd (cc))
      | false ↦ (λ is k. ((λ mine. absurd (are_one-false e.caller c is mine)), own_none c limit (after limit s e) es k))
    ] in
    go (are_one e.caller c) refl h

-- Where each of the callers' own are tidy, and they made all of them, all are.
pub tidy_many : (cs : List Caller) (limit : ℕ) (s : State) (es : List Entry) → AllByRecursion (λ e. IsAmong e.caller cs) es
    → AllByRecursion (λ c. IsTidyBy c limit s es) cs → IsTidy limit s es
tidy_many cs limit s [] alone each = tt
tidy_many cs limit s (e ∷ es) alone each =
    let here = all_among (λ c. IsTidyBy c limit s (e ∷ es)) e.caller cs each alone.0 in
    let rest = all_weaker (λ c. IsTidyBy c limit s (e ∷ es)) (λ c. IsTidyBy c limit (after limit s e) es) (λ c h. h.1) cs each in
    (here.0 refl, tidy_many cs limit (after limit s e) es alone.1 rest)

pub in_parts : TidyInParts
in_parts = record { many = tidy_many; behind = tidy_append; behind_own = own_append; silent = own_none }
