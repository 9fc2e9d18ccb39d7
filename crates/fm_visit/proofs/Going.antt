-- Acts so far, proved once for every kind of step.
use Rattle.std.proofs.{Common.{◌≡◌, List, [], ◌∷◌, ◌++◌, append_assoc, refl, sym, ap, subst, ◌∙◌, Some}, lemmas.List.{append-nil}}
use Rattle.fm_base.specs.{declared.{caller.Caller.{Caller}, arena_id.ArenaId.{ArenaId}}, Calls.{Entry, entry_of}, View.{View, Did}, Visits.{Acts, entries_of}}
use Rattle.fm_base.proofs.Making.{Makes-none, Makes-then}
use Rattle.fm_visit.specs.Acts.{HasActs}

-- these acts, and nothing else
abbrev pub DidJust : View → View → Acts → Type 0
DidJust old new acts = Did old new (λ own. own ≡ entries_of old.caller acts)

pub entries_of-append : (c : Caller) (acts later : Acts) → entries_of c (acts ++ later) ≡ entries_of c acts ++ entries_of c later
entries_of-append c [] later = refl
entries_of-append c (act ∷ acts) later = ap (λ (es : List Entry). entry_of c act.0 act.1 ∷ es) (entries_of-append c acts later)

-- No act.
pub did_none : {x : View} → DidJust x x []
did_none {x} = record { own = []; does = refl; makes = Makes-none x }

-- Acts behind others.
pub did_then : {x y z : View} (acts later : Acts) → DidJust x y acts → DidJust y z later → DidJust x z (acts ++ later)
did_then {x} {y} {z} acts later d e = record {
  own = d.own ++ e.own;
  does = ap (λ (es : List Entry). es ++ e.own) d.does
      ∙ ap (λ (es : List Entry). entries_of x.caller acts ++ es) (e.does ∙ ap (λ (c : Caller). entries_of c later) d.makes.same_caller)
      ∙ sym (entries_of-append x.caller acts later);
  makes = Makes-then x y z d.own e.own d.makes e.makes;
}

-- Acts of a kind are acts.
pub just : {x y : View} {Do : Acts → Type 0} → (d : Did x y (HasActs x.caller Do)) → DidJust x y d.does.acts
just d = record { own = d.own; does = d.does.entries; makes = d.makes }

pub has : {x y : View} {Do : Acts → Type 0} (acts : Acts) → Do acts → DidJust x y acts → Did x y (HasActs x.caller Do)
has acts are d = record { own = d.own; does = record { acts = acts; are = are; entries = d.does }; makes = d.makes }

-- The acts so far, inside the arena: whatever completes the call from here, with an answer, completes it from the start
pub record UnderWay {S Y : Type 0} (P : S → Y → Acts → Type 0) (old now : View) (id : ArenaId) (first x : S) : Type 0 where
  pub so_far : Acts
  pub did : DidJust old now so_far
  pub inside : now.inside ≡ Some id
  pub onward : (y : Y) (later : Acts) → P x y later → P first y (so_far ++ later)

pub way_starts : {S Y : Type 0} {P : S → Y → Acts → Type 0} {old : View} {id : ArenaId} {first : S} → old.inside ≡ Some id → UnderWay P old old id first first
way_starts inside = record { so_far = []; did = did_none; inside = inside; onward = λ y later p. p }

module _ {S Y : Type 0} {P : S → Y → Acts → Type 0} {old now : View} {id : ArenaId} {first x : S} (w : UnderWay P old now id first x) where
  -- More acts.
  pub way_goes_on : {next : View} (acts : Acts) (z : S) → DidJust now next acts → next.inside ≡ Some id
      → ((y : Y) (later : Acts) → P z y later → P x y (acts ++ later)) → UnderWay P old next id first z
  way_goes_on acts z d inside step = record {
    so_far = w.so_far ++ acts;
    did = did_then w.so_far acts w.did d;
    inside = inside;
    onward = λ y later p. subst (P first y) (sym (append_assoc w.so_far acts later)) (w.onward y (acts ++ later) (step y later p));
  }

  -- The end.
  pub way_ends : (y : Y) → P x y [] → Did old now (HasActs old.caller (P first y))
  way_ends y p = has w.so_far (subst (P first y) (append-nil w.so_far) (w.onward y [] p)) w.did
