-- A text that is looked for, as far as it has come.
use Rattle.std.proofs.{Common.{◌≡◌, inl, inr, ℕ, ◌+◌, ◌<◌, ◌≤◌, List, [], ◌++◌, take, refl, ap, subst, ◌∙◌, arith, Some, None, Result, Ok, Err}, lemmas.List.{append-nil}}
use Rattle.fm_base.specs.{declared.{caller.Caller.{Caller}, arena_id.ArenaId.{ArenaId}, refusal.Refusal.{Refusal, TheVariants.{NotText, NoZero, WrongThread, Closed, Memory}}}}
use Rattle.fm_base.specs.{Calls.{Entry}, Does.{DoesEnter}, Outcomes.{Lasts}, View.{View, Did}, Visits.{piece_width}}
use Rattle.fm_base.proofs.{Outcomes.{Makes-lasts}, Running.{led_ends}}
use Rattle.fm_base_bytes.specs.Bytes.{bytes_of}
use Rattle.fm_segment_access.specs.{Pieces.{ReadsPiece, DoesGetPiece}, Ranges.{Reading, DoesRefuse}}
use Rattle.fm_segment_access.proofs.{Going.{Going, going_start, going_more, going_done, going_refused}, Touching.{said}}
use Rattle.fm_text.specs.{Getting.{LooksOn, EndsLooking, Looks, DoesLook}, Texts.{zero_at, IsText}}

abbrev pub reading : ℕ → List ℕ → Reading
reading at bytes = record { at = at; bytes = bytes }

-- the bytes up to `at` were read, and none is 0
pub record IsLooking (old now : View) (id : ArenaId) (place end at : ℕ) (bytes : List ℕ) : Type 0 where
  pub below : at ≤ end
  pub above : place ≤ at
  pub outside : now.inside ≡ None
  pub none : zero_at bytes ≡ None
  pub own : List Entry
  pub going : Going (LooksOn old.caller id end) (EndsLooking old.caller id end) old now id (reading place []) (reading at bytes) own

-- No byte was read yet.
pub looking_starts : {old : View} {id : ArenaId} (place end : ℕ) → place ≤ end → old.inside ≡ None → IsLooking old old id place end place []
looking_starts {old} {id} place end h out = record {
  below = h;
  above = omega arith;
  outside = out;
  none = refl;
  own = [];
  going = going_start (LooksOn old.caller id end) (EndsLooking old.caller id end) old id (reading place []);
}

module _ {old now : View} {id : ArenaId} {place end at : ℕ} {bytes : List ℕ} (p : IsLooking old now id place end at bytes) where
  -- Reading keeps the arena, and what it has given.
  pub looking_lasts : Lasts old now
  looking_lasts = Makes-lasts old now p.own p.going.makes

  -- A visit that was refused ends it.
  pub looking_refused : {next : View} (r : Refusal) → at < end → Did now next (DoesEnter now.caller id (Err r))
      → Did old next (DoesLook old.caller id place end (Err r))
  looking_refused r more d =
      let above = p.above in
      let some : place < end = omega arith in
      refused_as r some (going_refused p.going (Err Closed) r (p.none, more, refl) d)
    where
      -- The refusals of a run, as they are answered.
      refused_as : {next : View} (r : Refusal) → place < end → Did old next (DoesRefuse old.caller id (λ es. Looks old.caller id place end (Err Closed) es) r)
          → Did old next (DoesLook old.caller id place end (Err r))
      refused_as {next} WrongThread some d = said old next _ _ (λ own x. (some, x.0, x.1)) d
      refused_as {next} Closed some d = said old next _ _ (λ own x. ((λ s. x.0), x.1)) d
      refused_as r some d = absurd d.does

  -- The end was reached.
  pub looking_over : ¬ (at < end) → Did old now (DoesLook old.caller id place end (Err NoZero))
  looking_over past =
      let below = p.below in
      let last : at ≡ end = omega arith in
      record {
        own = p.own;
        does = (
          (λ some. elim p.going.begun [
            | inl none ↦ absurd (let same : at ≡ place = ap (λ (x : Reading). x.at) none.same in omega arith)
            | inr may ↦ may
          ]),
          subst (λ (es : List Entry). Looks old.caller id place end (Err NoZero) es) (append-nil p.own)
              (led_ends _ _ _ (reading at bytes) p.own [] (Err NoZero) p.going.led (p.none, last, refl)),
        );
        makes = p.going.makes;
      }

  -- One piece more.
  module _ {next : View} (width v : ℕ) (all : List ℕ) (more : at < end) (w : width ≡ piece_width at end) (is : all ≡ bytes ++ bytes_of width v)
      (out : next.inside ≡ None) (d : Did now next (DoesGetPiece now.caller id at width (Ok v))) where
    -- It is a step.
    step : LooksOn old.caller id end (reading at bytes) d.own (reading (at + width) all)
    step = record {
      none = p.none;
      reads = record {
        v = v;
        more = more;
        piece = subst (λ (x : Caller × ℕ). ReadsPiece x.0 id at x.1 v d.own) (λ j. (p.going.makes.same_caller j, w j)) d.does.1;
        at = ap (λ n. at + n) w;
        bytes = is ∙ ap (λ n. bytes ++ bytes_of n v) w;
      };
    }

    -- It goes on.
    on : Going (LooksOn old.caller id end) (EndsLooking old.caller id end) old next id (reading place []) (reading (at + width) all) (p.own ++ d.own)
    on = going_more p.going (reading (at + width) all) d.does.0 d.makes step

    -- It isn't the start any more.
    begun : 1 ≤ width → ¬ (reading (at + width) all ≡ reading place [])
    begun some same =
        let above = p.above in
        let here : at + width ≡ place = ap (λ (x : Reading). x.at) same in
        absurd (omega arith)

    -- With no 0 in it.
    pub looking_on : 1 ≤ width → at + width ≤ end → zero_at all ≡ None → IsLooking old next id place end (at + width) all
    looking_on some below none =
        let above = p.above in
        record { below = below; above = omega arith; outside = out; none = none; own = p.own ++ d.own; going = on }

    -- There is no memory for it.
    pub looking_wants : 1 ≤ width → Did old next (DoesLook old.caller id place end (Err Memory))
    looking_wants some =
        let above = p.above in
        let any : place < end = omega arith in
        said old next _ _ (λ own x. (any, x.0, x.1)) (going_done on (Err Memory) (begun some) refl)

    -- It has the 0.
    pub looking_found : (n : ℕ) (result : Result (List ℕ) Refusal) → 1 ≤ width → zero_at all ≡ Some n → IsText (take n all) result
        → Did old next (DoesLook old.caller id place end result)
    looking_found n (Ok t) some z e = said old next _ _ (λ own x. ((λ s. x.0), x.1)) (going_done on (Ok t) (begun some) ((n, z, e), refl))
    looking_found n (Err (NotText k)) some z e =
        said old next _ _ (λ own x. ((λ s. x.0), x.1)) (going_done on (Err (NotText k)) (begun some) ((n, z, e), refl))
    looking_found n (Err r) some z e = absurd e
