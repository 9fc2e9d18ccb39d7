-- A line's own entries in a legal history: they are tidy, and what its name stands for is there behind them.
use Rattle.std.proofs.Common.{◌≡◌, ℕ, true, false, Option, Some, None, Result, Ok, Err, List, [], length, refl, sym, ap, ◌∙◌, subst, inl, inr, arith}
use Rattle.std.specs.Prelude.{◌⊎◌, IfSome}
use Rattle.fm_segment_laws.{specs.{Accesses.{DoesAccess, IsTidyBy}, Handles.{DoesCall}}, proofs.{Handling.{handles_tidy}, Staying.{StayBelow, tidy_by}}}
use Rattle.fm_segment_laws.proofs.Tidying.{tidy}
use Rattle.fm_base.specs.{declared.{arena_id.ArenaId.{ArenaId}, caller.Caller.{Caller}, refusal.Refusal.{Refusal}}, Arenas.{State}, Calls.{Entry}}
use Rattle.fm_base.{specs.{Histories.{IsLegal, made_by, state_after}, View.{View, Makes, inside_after}}, proofs.Growing.{Grows, Grows-state_after}}
use Rattle.fm_path.specs.Resolution.{Resolution, StaysInside}
use Rattle.fm_script_lines.specs.declared.{outcome.LineOutcome.{LineOutcome}, standing.Standing.{Standing, TheVariants.{Nothing}}}
use Rattle.fm_script_lines.specs.Calls.{Line, On, Skips, Called, coming}
use Rattle.fm_segment.specs.Region.{Region}
use Rattle.fm_script_laws.proofs.{Backing.{IsGiven, IsThere, nothing_there}, Parting.{own_none}}

-- a memory in this state, of which no more is known
abbrev pub silent : Caller → ℕ → State → View
silent c limit s = record { limit = limit; state = s; caller = c; inside = None; alone = false; told = None }

-- entries that are legal in this state, of which these are the caller's own
pub record Own (c : Caller) (limit : ℕ) (s : State) (all own : List Entry) : Type 0 where
  pub legal : IsLegal limit s all
  pub by : made_by c all ≡ own

-- the caller's own of these entries, made in this state, are tidy, and behind them this is there
pub record Comes (c : Caller) (limit : ℕ) (s : State) (all : List Entry) (made : Standing) : Type 0 where
  pub tidy : IsTidyBy c limit s all
  pub there : IsThere (state_after limit s all) made

-- Nothing says of a silent memory that its caller is by itself.
pub nobody_alone : {A : Type 0} → (false ≡ true) ⊎ ⊥ → A
nobody_alone (inl e) = absurd (let no : ⊥ = cc in no)
nobody_alone (inr e) = absurd e

-- An answer of either kind makes nothing.
coming_nothing : {X : Type 0} (ok : X → LineOutcome) → ((x : X) → (ok x).made ≡ Nothing) → (result : Result X Refusal) → (coming ok result).made ≡ Nothing
coming_nothing ok h (Ok x) = h x
coming_nothing ok h (Err e) = refl

module _ {c : Caller} {limit : ℕ} {s : State} {all own : List Entry} (o : Own c limit s all own) where
  -- That memory behind the entries.
  abbrev pub later : View
  later = record (silent c limit s) { state = state_after limit s all; inside = inside_after None own }

  -- The entries as those of a memory's call.
  abbrev pub makes : Makes (silent c limit s) later own
  makes = record {
    all = all;
    legal = o.legal;
    reached = refl;
    by_caller = o.by;
    alone = λ h. nobody_alone h;
    inside = refl;
    same_limit = refl;
    same_caller = refl;
    same_alone = refl;
    told = tt;
  }

  -- What was there and given stays so.
  pub grown : Grows s (state_after limit s all)
  grown = Grows-state_after limit s all o.legal

  -- Where the caller made none.
  pub none_tidy : own ≡ [] → IsTidyBy c limit s all
  none_tidy is = own_none c limit s all (o.by ∙ is)

  -- Those of an access to a segment that was given, and of a call of a handle on it.
  pub access_tidy : (r : Region) → IsGiven s r → DoesAccess c r own → IsTidyBy c limit s all
  access_tidy r g does = tidy (silent c limit s) later r own makes (record { arena = g.arena; given = g.given }) does

  pub handle_tidy : (h : Resolution) → StaysInside h → h.dims ≡ [] → (r : Region) (base : ℕ) → IsGiven s r → DoesCall c h r base [] own
      → IsTidyBy c limit s all
  handle_tidy h inside dims r base g does =
      handles_tidy h inside (silent c limit s) later r base [] own makes (sym (ap (λ ds. length ds) dims)) (record { arena = g.arena; given = g.given }) does

  -- Entries that change no byte.
  pub quiet_tidy : (a : ArenaId) → StayBelow a 0 own → IsTidyBy c limit s all
  quiet_tidy a h = tidy_by c limit 0 a s all o.legal (omega arith) (subst (λ (es : List Entry). StayBelow a 0 es) (sym o.by) h)

  -- ---- lines

  -- A line that makes nothing.
  pub nothing_comes : (made : Standing) → made ≡ Nothing → IsTidyBy c limit s all → Comes c limit s all made
  nothing_comes made is tidy = record { tidy = tidy; there = subst (IsThere (state_after limit s all)) (sym is) (nothing_there (state_after limit s all)) }

  -- A line that is skipped.
  pub skips_come : (out : LineOutcome) → Skips out own → Comes c limit s all out.made
  skips_come out h = nothing_comes out.made (ap (λ (x : LineOutcome). x.made) h.0) (none_tidy h.1)

  -- A line on what a name stands for, if it stands for that.
  pub on_comes : {X : Type 0} (P : X → Type 0) (found : Option X) (Does : X → Line) (out : LineOutcome) → IfSome found P
      → ((x : X) → P x → Does x out own → Comes c limit s all out.made) → On found Does out own → Comes c limit s all out.made
  on_comes P None Does out h f does = skips_come out does
  on_comes P (Some x) Does out h f does = f x h does

  -- A call whose answer makes nothing.
  pub plain_comes : {X : Type 0} (Does : Result X Refusal → List Entry → Type 0) (ok : X → LineOutcome) (out : LineOutcome) → ((x : X) → (ok x).made ≡ Nothing)
      → ((result : Result X Refusal) → Does result own → IsTidyBy c limit s all) → Called Does ok out own → Comes c limit s all out.made
  plain_comes Does ok out h f does =
      nothing_comes out.made (ap (λ (x : LineOutcome). x.made) does.2 ∙ coming_nothing ok h does.0) (f does.0 does.1)

  -- A call whose answer makes what is there.
  pub making_comes : {X : Type 0} (Does : Result X Refusal → List Entry → Type 0) (ok : X → LineOutcome) (out : LineOutcome)
      → ((result : Result X Refusal) → Does result own → IsTidyBy c limit s all)
      → ((result : Result X Refusal) → Does result own → IsThere (state_after limit s all) (coming ok result).made)
      → Called Does ok out own → Comes c limit s all out.made
  making_comes Does ok out f g does = record {
    tidy = f does.0 does.1;
    there = subst (λ (x : LineOutcome). IsThere (state_after limit s all) x.made) (sym does.2) (g does.0 does.1);
  }
