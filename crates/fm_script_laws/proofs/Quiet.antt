-- Entries that change no byte.
use Rattle.std.{proofs.Common.{◌≡◌, ℕ, Bool, true, false, if◌then◌else◌, List, [], ◌∷◌, refl, sym, subst}, specs.Prelude.{not}}
use Rattle.fm_segment_laws.{specs.Accesses.{IsTidyBy}, proofs.Staying.{ChangesBelow, StayBelow}}
use Rattle.fm_base.specs.{declared.{arena_id.ArenaId.{ArenaId}, caller.Caller.{Caller}}, Arenas.{State}, Calls.{Call, Write, SwapIf, Add, Reply, Entry}}
use Rattle.fm_base.specs.View.{but_loans, is_loan}
use Rattle.fm_script_laws.proofs.Calling.{Own, quiet_tidy}

-- A loan changes no byte.
loan_still : (a : ArenaId) (end : ℕ) (call : Call) (reply : Reply) → is_loan call ≡ true → ChangesBelow a end call reply
loan_still a end (Write id word value) reply is = absurd (let no : ⊥ = cc in no)
loan_still a end (SwapIf id word old new) reply is = absurd (let no : ⊥ = cc in no)
loan_still a end (Add id word n) reply is = absurd (let no : ⊥ = cc in no)
loan_still a end call reply is = tt

-- So what changes none but for loans changes none.
stay_loans : (a : ArenaId) (end : ℕ) (es : List Entry) → StayBelow a end (but_loans es) → StayBelow a end es
stay_loans a end [] h = tt
stay_loans a end (e ∷ es) h =
    let P : Bool → Type 0 = λ b. is_loan e.call ≡ b → StayBelow a end (if not b then e ∷ but_loans es else but_loans es) → StayBelow a end (e ∷ es) in
    let go : (b : Bool) → P b = λ b. elim b as P [
      | true ↦ (λ is k. (loan_still a end e.call e.reply is, stay_loans a end es k))
      | false ↦ (λ is k. (k.0, stay_loans a end es k.1))
    ] in
    go (is_loan e.call) refl h

module _ {c : Caller} {limit : ℕ} {s : State} {all own : List Entry} (o : Own c limit s all own) (a : ArenaId) where
  -- The caller's entries are these.
  pub quiet_as : (es : List Entry) → own ≡ es → StayBelow a 0 es → IsTidyBy c limit s all
  quiet_as es is h = quiet_tidy o a (subst (λ (xs : List Entry). StayBelow a 0 xs) (sym is) h)

  -- They are these, but for loans.
  pub quiet_but : (es : List Entry) → but_loans own ≡ es → StayBelow a 0 es → IsTidyBy c limit s all
  quiet_but es is h = quiet_tidy o a (stay_loans a 0 own (subst (λ (xs : List Entry). StayBelow a 0 xs) (sym is) h))
