-- What holds of all entries of a call, where it holds of those of each visit.
use Rattle.std.{proofs.Common.{◌≡◌, ℕ, ◌+◌, Bool, true, false, List, [], ◌++◌, sym, subst, Option, Some, None, Result, Ok, Err}, specs.Prelude.{⊤}}
use Rattle.fm_base.specs.declared.{caller.Caller.{Caller}, arena_id.ArenaId.{ArenaId}, refusal.Refusal.{Refusal, TheVariants.{Closed, WrongThread}}}
use Rattle.fm_base.specs.{Calls.{Entry}, Visits.{refused_visit, Run, ends, goes_on}}
use Rattle.fm_segment_access.specs.Pieces.{ReadsPiece}
use Rattle.fm_segment_access.specs.Ranges.{DoesRefuse, Reading, EndsReading, ReadsRange, DoesRead, Putting, putting, EndsPutting, PutsBy, DoesPutBy}

-- it holds of no entry, of two parts together, of a visit that was refused, and of one that reads
pub record IsKept (c : Caller) (Holds : List Entry → Type 0) : Type 0 where
  pub none : Holds []
  pub both : (es fs : List Entry) → Holds es → Holds fs → Holds (es ++ fs)
  pub refused : (id : ArenaId) → Holds (refused_visit c id)
  pub reads : (id : ArenaId) (place width v : ℕ) (own : List Entry) → ReadsPiece c id place width v own → Holds own

module _ {c : Caller} {Holds : List Entry → Type 0} (k : IsKept c Holds) where
  -- Entries that are named otherwise.
  pub kept_as : {own es : List Entry} → own ≡ es → Holds es → Holds own
  kept_as e h = subst Holds (sym e) h

  pub kept_none : {own : List Entry} → own ≡ [] → Holds own
  kept_none e = kept_as e k.none

  -- A run of which each step holds, and goes on to where it is good to be.
  pub run_kept : {X Y : Type 0} {Step : X → List Entry → X → Type 0} {Ends : X → List Entry → Y → Type 0} (Good : X → Type 0)
      → ((x y : X) (own : List Entry) → Good x → Step x own y → Holds own × Good y)
      → ((x : X) (own : List Entry) (answer : Y) → Good x → Ends x own answer → Holds own)
      → (x : X) (own : List Entry) (answer : Y) → Good x → Run Step Ends x own answer → Holds own
  run_kept Good steps last x own answer g (ends e) = last x own answer g e
  run_kept Good steps last x own answer g (goes_on y first rest step run) =
      let one = steps x y first g step in
      k.both first rest one.0 (run_kept Good steps last y rest answer one.1 run)

  module _ (id : ArenaId) where
    -- A run of visits that was refused.
    refuse_kept : (Stops : List Entry → Type 0) (r : Refusal) (own : List Entry) → (Stops own → Holds own) → DoesRefuse c id Stops r own → Holds own
    refuse_kept Stops WrongThread own stops d = kept_none d.1
    refuse_kept Stops Closed own stops d = stops d.1
    refuse_kept Stops r own stops d = absurd d

    -- What was read.
    read_ends : (end : ℕ) (x : Reading) (own : List Entry) (answer : Option (List ℕ)) → EndsReading c id end x own answer → Holds own
    read_ends end x own (Some bytes) e = kept_none e.2
    read_ends end x own None e = kept_as e.1 (k.refused id)

    pub range_kept : (place end : ℕ) (own : List Entry) (answer : Option (List ℕ)) → ReadsRange c id place end own answer → Holds own
    range_kept place end own answer run =
        run_kept (λ x. ⊤) (λ x y es g s. (k.reads id x.at _ s.v es s.piece, tt)) (λ x es a g e. read_ends end x es a e) _ own answer tt run

    pub read_kept : {X : Type 0} (mean : List ℕ → X) (place width : ℕ) (result : Result X Refusal) (own : List Entry)
        → DoesRead mean c id place width result own → Holds own
    read_kept mean place width (Ok x) own d = range_kept place (place + width) own (Some d.1.bytes) d.1.visits
    read_kept mean place width (Err r) own d = refuse_kept _ r own (range_kept place (place + width) own None) d

    -- Bytes that were put.
    put_ends : (x : Putting) (own : List Entry) (done : Bool) → EndsPutting c id x own done → Holds own
    put_ends x own true e = kept_none e.1
    put_ends x own false e = kept_as e.1 (k.refused id)

    module _ (Step : Caller → ArenaId → Putting → List Entry → Putting → Type 0) (Good : Putting → Type 0)
        (steps : (x y : Putting) (own : List Entry) → Good x → Step c id x own y → Holds own × Good y) where
      puts_kept : (place : ℕ) (bytes : List ℕ) (own : List Entry) (done : Bool) → Good (putting place bytes) → PutsBy Step c id place bytes own done → Holds own
      puts_kept place bytes own done g run = run_kept Good steps (λ x es a h e. put_ends x es a e) (putting place bytes) own done g run

      pub put_kept : (place : ℕ) (bytes : List ℕ) (result : Result (Unit {0}) Refusal) (own : List Entry) → Good (putting place bytes)
          → DoesPutBy Step c id place bytes result own → Holds own
      put_kept place bytes (Ok u) own g d = puts_kept place bytes own true g d.1
      put_kept place bytes (Err r) own g d = refuse_kept _ r own (puts_kept place bytes own false g) d
