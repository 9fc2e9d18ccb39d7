-- Reads of a file that follow one another.
use Rattle.std.proofs.Common.{◌≡◌, ℕ, ◌+◌, ◌≤◌, List, [], ◌∷◌, ◌++◌, Option, None, Some, Result, refl, ap, sym, subst, ◌∙◌, append_assoc, arith, ◌-◌, length, take, drop, length-drop}
use Rattle.std.{proofs.{Math.Seq.{take-length}, lemmas.List.{append-nil}}, specs.Option.{option_map}}
use Rattle.fm_io.specs.declared.{fault.Fault.{Fault}, files.Piece.{Piece}}
use Rattle.fm_io.specs.Reads.{Read, read, ReadsOn, next_by, Next, At, Ended, Stopped, Follow, next_after, ReadsFile}

-- no read, and what was told stays
pub ReadsOn-none : (told : Option (List Read)) → ReadsOn told told []
ReadsOn-none None = refl
ReadsOn-none (Some xs) = ap Some (sym (append-nil xs))

-- what was read in two parts was read
pub ReadsOn-append : (old mid new : Option (List Read)) (xs ys : List Read) → ReadsOn old mid xs → ReadsOn mid new ys → ReadsOn old new (xs ++ ys)
ReadsOn-append None mid new xs ys first second = second ∙ ap (option_map (λ before. before ++ ys)) first
ReadsOn-append (Some told) mid new xs ys first second =
    second ∙ ap (option_map (λ before. before ++ ys)) first ∙ ap Some (append_assoc told xs ys)

-- reads that follow on others follow with them
pub Follow-append : (name : List ℕ) (most end : ℕ) (next : Next) (xs ys : List Read) → Follow name most end next xs
    → Follow name most end (next_after next xs) ys → Follow name most end next (xs ++ ys)
Follow-append name most end next [] ys first second = second
Follow-append name most end Ended (x ∷ xs) ys first second = absurd first
Follow-append name most end Stopped (x ∷ xs) ys first second = absurd first
Follow-append name most end (At place) (x ∷ xs) ys first second =
    (first.0, Follow-append name most end (next_by place x.answer) xs ys first.1 second)

-- behind the end, and behind a failed read, nothing follows
not_ended : (ys : List Read) → next_after Ended ys ≡ Ended
not_ended [] = refl
not_ended (y ∷ ys) = refl

not_stopped : (ys : List Read) → next_after Stopped ys ≡ Stopped
not_stopped [] = refl
not_stopped (y ∷ ys) = refl

-- what follows on two parts follows on the second
pub next_after-append : (next : Next) (xs ys : List Read) → next_after next (xs ++ ys) ≡ next_after (next_after next xs) ys
next_after-append next [] ys = refl
next_after-append Ended (x ∷ xs) ys = sym (not_ended ys)
next_after-append Stopped (x ∷ xs) ys = sym (not_stopped ys)
next_after-append (At place) (x ∷ xs) ys = next_after-append (next_by place x.answer) xs ys

-- what was read up to a place, and what was read from there
pub ReadsFile-append : (old mid new : Option (List Read)) (name : List ℕ) (most end from place : ℕ) (Goes : Next → Type 0)
    → ReadsFile old mid name most end from (λ next. next ≡ At place) → ReadsFile mid new name most end place Goes → ReadsFile old new name most end from Goes
ReadsFile-append old mid new name most end from place Goes first second = record {
  reads = first.reads ++ second.reads;
  noted = ReadsOn-append old mid new first.reads second.reads first.noted second.noted;
  follow = Follow-append name most end (At from) first.reads second.reads first.follow
      (subst (λ (next : Next). Follow name most end next second.reads) (sym first.goes) second.follow);
  goes = subst Goes (sym (next_after-append (At from) first.reads second.reads ∙ ap (λ next. next_after next second.reads) first.goes)) second.goes;
}

-- one read
pub ReadsFile-one : (old new : Option (List Read)) (name : List ℕ) (most end place room : ℕ) (answer : Result Piece Fault) (Goes : Next → Type 0)
    → ReadsOn old new (read name place room answer ∷ []) → room ≤ most → place + room ≤ end → Goes (next_by place answer)
    → ReadsFile old new name most end place Goes
ReadsFile-one old new name most end place room answer Goes noted small within goes = record {
  reads = read name place room answer ∷ [];
  noted = noted;
  follow = (record { named = refl; from = refl; small = small; within = within }, tt);
  goes = goes;
}

-- reads within narrow bounds are within wider ones
pub Follow-wider : (name : List ℕ) (most end more later : ℕ) (next : Next) (rs : List Read) → most ≤ more → end ≤ later
    → Follow name most end next rs → Follow name more later next rs
Follow-wider name most end more later next [] wide late follow = tt
Follow-wider name most end more later Ended (r ∷ rs) wide late follow = absurd follow
Follow-wider name most end more later Stopped (r ∷ rs) wide late follow = absurd follow
Follow-wider name most end more later (At place) (r ∷ rs) wide late follow =
    let small : r.room ≤ more = omega (arith, follow.0.small) in
    let within : place + r.room ≤ later = omega (arith, follow.0.within) in (
      record { named = follow.0.named; from = follow.0.from; small = small; within = within },
      Follow-wider name most end more later (next_by place r.answer) rs wide late follow.1,
    )

-- the room that is left in a buffer behind its first n bytes
room_left : (n : ℕ) (buffer : List ℕ) → length (take (length buffer - n) (drop n buffer)) ≡ length buffer - n
room_left n buffer = ap (λ k. length (take k (drop n buffer))) (sym (length-drop n buffer)) ∙ ap length (take-length (drop n buffer)) ∙ length-drop n buffer

-- one read more, into that room
pub ReadsFile-more : {old mid new : Option (List Read)} {name : List ℕ} {size from n : ℕ} (buffer : List ℕ) (answer : Result Piece Fault) (Goes : Next → Type 0)
    → ReadsFile old mid name size (from + size) from (λ next. next ≡ At (from + n)) → n ≤ length buffer → length buffer ≡ size
    → ReadsOn mid new (read name (from + n) (length (take (length buffer - n) (drop n buffer))) answer ∷ []) → Goes (next_by (from + n) answer)
    → ReadsFile old new name size (from + size) from Goes
ReadsFile-more {old} {mid} {new} {name} {size} {from} {n} buffer answer Goes first within sized noted goes =
    let left = room_left n buffer in
    ReadsFile-append old mid new name size (from + size) from (from + n) Goes first
    (ReadsFile-one mid new name size (from + size) (from + n) _ answer Goes noted (omega (arith, left)) (omega (arith, left)) goes)

-- a weaker thing is said of where the next read would begin, and wider bounds of its room
pub ReadsFile-wider : (old new : Option (List Read)) (name : List ℕ) (most end more later from : ℕ) (Goes Says : Next → Type 0)
    → most ≤ more → end ≤ later → ((next : Next) → Goes next → Says next)
    → ReadsFile old new name most end from Goes → ReadsFile old new name more later from Says
ReadsFile-wider old new name most end more later from Goes Says wide late says reads = record {
  reads = reads.reads;
  noted = reads.noted;
  follow = Follow-wider name most end more later (At from) reads.reads wide late reads.follow;
  goes = says (next_after (At from) reads.reads) reads.goes;
}
