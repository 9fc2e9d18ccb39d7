-- How a run ends where a file was loaded or streamed, and where it wasn't.
use Rattle.std.{proofs.Common.{◌≡◌, ℕ, ◌<◌, ◌≤◌, ◌%◌, ◌≢◌, List, length, Option, None, Some, Result, Ok, Err, refl, ap, sym, subst, ◌∙◌, arith}, specs.{Borrow.{Bor}, Prelude.{⊤, IfOk}, Result.{result_err}}}
use Rattle.fm_io.specs.View.{FilesView, Leaves}
use Rattle.fm_top.specs.{Ending.{EndsAs, shown}, Ends.{EndsFile}, Found.{OfFound}, Outcome.{Outcome, RecordsEnd, even, missing, ragged, too_long}, Stops.{load_stop, or_stop}}
use Rattle.fm_top.{specs.declared.outcome.{reply.Reply.{Reply}, stop.Stop.{Stop}}, proofs.{Ends.{IsQuiet, ends_weaker, shows_quiet}, Outcomes.{long_found}, ReadFor.{read_for}}}
use Rattle.fm_top_load.{specs.{Reading.{ReadsSome}, Records.{ByRecords, IsRagged, TellsRecords}, Whole.{ByReads, IsWhole, TellsLoad}}, proofs.Telling.{read_quietly}}
use Rattle.fm_top_load.specs.declared.load_fault.LoadFault.{LoadFault}
use Rattle.fm_top_load.specs.declared.load_fault.LoadFault.TheVariants as load
use Rattle.fm_top.specs.declared.outcome.stop.Stop.TheVariants as stop

-- ---- what was answered, and what stopped

pub or_ok : {T E : Type 0} (why : E → Stop) (r : Result T E) {x : T} → Ok x ≡ or_stop why r → r ≡ Ok x
or_ok why (Ok y) is = cc
or_ok why (Err e) is = absurd (cc)

pub or_err : {T E : Type 0} (why : E → Stop) (r : Result T E) {s : Stop} → Err s ≡ or_stop why r → (e : E) × (r ≡ Err e) × (s ≡ why e)
or_err why (Ok y) is = absurd (cc)
or_err why (Err e) is = (e, refl, cc)

-- what is known of it
pub known_ok : {T E : Type 0} (why : E → Stop) (r : Result T E) {x : T} (P : T → Type 0) → Ok x ≡ or_stop why r → IfOk r P → P x
known_ok why r P is known = subst (λ r. IfOk r P) (or_ok why r is) known

-- the same causes by other words
pub leaves_as : {F G M N : Type 0} {old new : FilesView} → (F → G) → (G → F) → (M → N) → (N → M) → Leaves F M old new → Leaves G N old new
leaves_as to from on back left = record {
  held = left.held;
  faults = record { rose = λ g. left.faults.rose (from g); quiet = λ not. left.faults.quiet (λ f. not (to f)); stays = left.faults.stays };
  misses = record { rose = λ n. left.misses.rose (back n); quiet = λ not. left.misses.quiet (λ m. not (on m)); stays = left.misses.stays };
}

-- ---- a file that was read

-- these are its bytes
pub record IsRead (old new : FilesView) (name : List ℕ) (limit : ℕ) (bytes : List ℕ) : Type 0 where
  pub whole : IsWhole old.holds name bytes
  pub short : length bytes ≤ limit
  pub left : Leaves ⊥ ⊥ old new
  pub reads : ReadsSome old.reads new.reads name limit

pub is_read : {old new : FilesView} (file : Bor (List ℕ)) (limit : ℕ) {T : Type 0} (r : Result T LoadFault) {x : T} (view : T → List ℕ)
    {Says : LoadFault → Type 0} → Ok x ≡ or_stop (load_stop file) r → IfOk r (λ y. IsWhole old.holds file.now (view y))
    → IfOk r (λ y. length (view y) ≤ limit) → ReadsSome old.reads new.reads file.now limit → TellsLoad Says limit old new file.now (result_err r)
    → IsRead old new file.now limit (view x)
is_read {old} {new} file limit r view {Says} is whole short reads tells = record {
  whole = known_ok (load_stop file) r (λ y. IsWhole old.holds file.now (view y)) is whole;
  short = known_ok (load_stop file) r (λ y. length (view y) ≤ limit) is short;
  left = read_quietly (subst (λ r. TellsLoad Says limit old new file.now (result_err r)) (or_ok (load_stop file) r is) tells);
  reads = reads;
}

module _ {old new : FilesView} {name : List ℕ} {limit : ℕ} {bytes : List ℕ} (read : IsRead old new name limit bytes) where
  -- an end is known
  pub found_ends : (Has : Option (List ℕ) → Outcome → Type 0) (end : Result Reply Stop) → IsQuiet end → EndsAs (Has (Some bytes)) end
      → EndsFile name limit ⊤ Has old new end
  found_ends Has end quiet ends = record {
    outcome = ends_weaker (Has (Some bytes)) (λ o. OfFound old.holds name (λ found. Has found o)) end (λ o has. (Some bytes, read.whole, has)) ends;
    reads = read_for read.reads tt;
    files = shows_quiet end quiet read.left;
  }

  -- or memory ran out
  pub wanting_ends : (Has : Option (List ℕ) → Outcome → Type 0) {end : Result Reply Stop} → end ≡ Err stop.Memory → EndsFile name limit ⊤ Has old new end
  wanting_ends Has wants = rw wants (found_ends Has (Err stop.Memory) tt tt)

  -- its bytes are whole records
  pub even_ends : (size : ℕ) (Answers : List ℕ → Outcome → Type 0) → length bytes % size ≡ 0 → (reply : Reply) → Answers bytes (shown reply)
      → EndsFile name limit ⊤ (RecordsEnd limit size name Answers) old new (Ok reply)
  even_ends size Answers whole reply answers = found_ends (RecordsEnd limit size name Answers) (Ok reply) tt (even bytes (shown reply) read.short whole answers)

module _ {old new : FilesView} (file : Bor (List ℕ)) (limit : ℕ) (Has : Option (List ℕ) → Outcome → Type 0)
    (reads : ReadsSome old.reads new.reads file.now limit) where
  module _ (none : Has None (missing file.now)) (long : (bytes : List ℕ) → limit < length bytes → Has (Some bytes) too_long) where
    load_ends : {Says : LoadFault → Type 0} (why : LoadFault)
        → ((rest : ℕ) → why ≡ load.Ragged rest → OfFound old.holds file.now (λ found. Has found (ragged rest)))
        → TellsLoad Says limit old new file.now (Some why) → EndsFile file.now limit ⊤ Has old new (Err (load_stop file why))
    load_ends load.Missing left tells = record {
      outcome = (None, tells.absent refl, none);
      reads = read_for reads tt;
      files = leaves_as (λ e. absurd (cc)) (λ e. absurd (cc)) (λ e. tt) (λ e. refl) tells.left;
    }
    load_ends load.TooLong left tells =
        let found = long_found old.holds file.now limit (tells.too_long refl) in
        record {
          outcome = (Some found.0, found.1, long found.0 found.2);
          reads = read_for reads tt;
          files = leaves_as (λ e. absurd (cc)) (λ e. absurd (cc)) (λ e. absurd (cc)) (λ e. absurd e) tells.left;
        }
    load_ends (load.Ragged rest) left tells = record {
      outcome = left rest refl;
      reads = read_for reads tt;
      files = leaves_as (λ e. absurd (cc)) (λ e. absurd (cc)) (λ e. absurd (cc)) (λ e. absurd e) tells.left;
    }
    load_ends load.Failed left tells = record {
      outcome = tt;
      reads = read_for reads tt;
      files = leaves_as (λ e. refl) (λ e. refl) (λ e. absurd (cc)) (λ e. absurd e) tells.left;
    }
    load_ends why left tells = record {
      outcome = tt;
      reads = read_for reads tt;
      files = leaves_as (λ e. absurd (cc)) (λ e. absurd (cc)) (λ e. absurd (cc)) (λ e. absurd e) tells.left;
    }

    -- it wasn't loaded, whatever its bytes are
    pub stopped_ends : {T : Type 0} (r : Result T LoadFault) {s : Stop} → Err s ≡ or_stop (load_stop file) r
        → TellsLoad ByReads limit old new file.now (result_err r) → {end : Result Reply Stop} → end ≡ Err s → EndsFile file.now limit ⊤ Has old new end
    stopped_ends r is tells ends =
        let why = or_err (load_stop file) r is in
        let tells_why : TellsLoad ByReads limit old new file.now (Some why.0) = subst (λ r. TellsLoad ByReads limit old new file.now (result_err r)) why.1 tells in
        rw (ends, why.2) (load_ends why.0 (λ rest same. absurd (subst ByReads same tells_why.other)) tells_why)

    -- nor was one of records
    pub records_stopped : {of size : ℕ} → of ≡ size
        → ((bytes : List ℕ) → length bytes ≤ limit → length bytes % size ≢ 0 → Has (Some bytes) (ragged (length bytes % size)))
        → {T : Type 0} (r : Result T LoadFault) {s : Stop} → Err s ≡ or_stop (load_stop file) r
        → TellsRecords limit old new file.now of (result_err r) → {end : Result Reply Stop} → end ≡ Err s → EndsFile file.now limit ⊤ Has old new end
    records_stopped {of} {size} sized uneven r is tells ends =
        let why = or_err (load_stop file) r is in
        let tells_why : TellsRecords limit old new file.now of (Some why.0) = subst (λ r. TellsRecords limit old new file.now of (result_err r)) why.1 tells in
        let left : (rest : ℕ) → why.0 ≡ load.Ragged rest → OfFound old.holds file.now (λ found. Has found (ragged rest)) = λ rest same.
        let rest_is : IsRagged limit old.holds file.now of rest = subst (ByRecords limit old.holds file.now of) same tells_why.other in
        let some = rest_is.some in
        let is_left : rest ≡ length rest_is.bytes % size = rest_is.is ∙ ap (λ (n : ℕ). length rest_is.bytes % n) sized in (
          Some rest_is.bytes,
          rest_is.is_file,
          subst (λ (n : ℕ). Has (Some rest_is.bytes) (ragged n)) (sym is_left)
              (uneven rest_is.bytes rest_is.short (λ even. absurd (omega (arith, some, is_left, even)))),
        ) in
        rw (ends, why.2) (load_ends why.0 left tells_why)
