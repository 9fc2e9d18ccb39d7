-- Calls that end outside of all arenas.
use Rattle.std.proofs.Common.{◌≡◌, ◌/◌, List, [], ◌∷◌, refl, ap, ◌∙◌, None, Err}
use Rattle.fm_base.specs.declared.{caller.Caller.{Caller}, arena_id.ArenaId.{ArenaId}, refusal.Refusal.{Refusal, TheVariants.{Closed, WrongThread}}}
use Rattle.fm_base.{specs.{Calls.{Read, Found, Entry}, Does.{DoesEnter}, View.{inside_after}}, proofs.Making.{inside_after-append}}
use Rattle.fm_base.proofs.Running.{visit_ends_outside}
use Rattle.fm_segment_access.proofs.Keeping.{IsKept}

-- the entries leave the caller outside
abbrev pub EndsOutside : List Entry → Type 0
EndsOutside own = inside_after None own ≡ None

-- A refused visit.
pub enter_outside : (c : Caller) (id : ArenaId) (r : Refusal) (own : List Entry) → DoesEnter c id (Err r) own → EndsOutside own
enter_outside c id WrongThread own d = ap (inside_after None) d.1
enter_outside c id Closed own d = ap (inside_after None) d.1
enter_outside c id r own d = absurd d

-- A call does where each of its visits does.
pub outside : (c : Caller) → IsKept c EndsOutside
outside c = record {
  none = refl;
  both = λ es fs h k. inside_after-append None es fs ∙ ap (λ i. inside_after i fs) h ∙ k;
  refused = λ id. refl;
  reads = λ id place width v own r. ap (inside_after None) r.visits ∙ visit_ends_outside None c id ((Read id (place / 8), Found r.word) ∷ []);
}
