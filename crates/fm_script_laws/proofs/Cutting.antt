-- Entries cut where a caller's own are.
use Rattle.std.proofs.Common.{◌≡◌, Bool, true, false, cond, List, [], ◌∷◌, ◌++◌, refl, ap, ◌∙◌}
use Rattle.fm_base.specs.{declared.caller.Caller.{Caller}, Arenas.{are_one}, Calls.{Entry}, Histories.{made_by}}

-- the caller's own are these before the cut, and those behind it
pub record Cut (c : Caller) (all own rest : List Entry) : Type 0 where
  pub before : List Entry
  pub behind : List Entry
  pub is : all ≡ before ++ behind
  pub first : made_by c before ≡ own
  pub last : made_by c behind ≡ rest

-- An entry of the caller's is the first of its own.
own_here : (c : Caller) (e : Entry) (es : List Entry) → are_one e.caller c ≡ true → made_by c (e ∷ es) ≡ e ∷ made_by c es
own_here c e es is = ap (λ b. cond b (e ∷ made_by c es) (made_by c es)) is

-- Another's is none of them.
other_here : (c : Caller) (e : Entry) (es : List Entry) → are_one e.caller c ≡ false → made_by c (e ∷ es) ≡ made_by c es
other_here c e es is = ap (λ b. cond b (e ∷ made_by c es) (made_by c es)) is

-- A cut with one entry more before it.
with_own : (c : Caller) (e x : Entry) (all own rest : List Entry) → are_one e.caller c ≡ true → e ≡ x → Cut c all own rest → Cut c (e ∷ all) (x ∷ own) rest
with_own c e x all own rest is same k = record {
  before = e ∷ k.before;
  behind = k.behind;
  is = ap (λ es. e ∷ es) k.is;
  first = own_here c e k.before is ∙ (ap (λ es. e ∷ es) k.first ∙ ap (λ y. y ∷ own) same);
  last = k.last;
}

with_other : (c : Caller) (e : Entry) (all own rest : List Entry) → are_one e.caller c ≡ false → Cut c all own rest → Cut c (e ∷ all) own rest
with_other c e all own rest is k = record {
  before = e ∷ k.before;
  behind = k.behind;
  is = ap (λ es. e ∷ es) k.is;
  first = other_here c e k.before is ∙ k.first;
  last = k.last;
}

-- Where the caller's own are those of two lists, there is a cut between them.
pub cut : (c : Caller) (all own rest : List Entry) → made_by c all ≡ own ++ rest → Cut c all own rest
cut c all [] rest h = record { before = []; behind = all; is = refl; first = refl; last = h }
cut c [] (x ∷ own) rest h = absurd (let no : ⊥ = cc in no)
cut c (e ∷ all) (x ∷ own) rest h =
    let P : Bool → Type 0 = λ b. are_one e.caller c ≡ b → cond b (e ∷ made_by c all) (made_by c all) ≡ x ∷ (own ++ rest) → Cut c (e ∷ all) (x ∷ own) rest in
    let go : (b : Bool) → P b = λ b. elim b as P [
      | true ↦ (λ is k.
          let same : e ≡ x = cc in
          let more : made_by c all ≡ own ++ rest = cc in
          with_own c e x all own rest is same (cut c all own rest more))
      | false ↦ (λ is k. with_other c e all (x ∷ own) rest is (cut c all (x ∷ own) rest k))
    ] in
    go (are_one e.caller c) refl h
