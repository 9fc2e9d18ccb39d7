-- What is read for a request.
use Rattle.std.proofs.{Common.{◌≡◌, ℕ, List, [], ◌++◌, Option, None, Some, refl, sym, subst}, lemmas.List.{append-nil}}
use Rattle.fm_io.{specs.{Files.{Contents}, Reads.{Read, ReadsOn, Next, Ended}}, proofs.Followed.{ReadsOn-none, ReadsOn-append}}
use Rattle.fm_top.specs.{Causes.{IsAsked}, Outcome.{layout_file_limit}, Reading.{ReadsIf, AreReadsOf, first_limit, last_limit, ReadsFor}}
use Rattle.fm_top.specs.{Queries.{PlanOf, records_limit}, Words.{Request, Ask, first_file, last_file}, declared.command.wish.Wish.{Wish}}
use Rattle.fm_top_load.specs.{Reading.{ReadsUpTo}, Whole.{IsWhole}}

none_of : (name : Option (List ℕ)) (limit : ℕ) → AreReadsOf name limit []
none_of None limit = refl
none_of (Some name) limit = tt

-- nothing was read
pub no_reads : {request : Request} {told : Option Contents} {reads : Option (List Read)} → ReadsFor request told reads reads
no_reads {request} {told} {reads} = record {
  first = [];
  last = [];
  noted = ReadsOn-none reads;
  first_is = none_of (first_file request) (first_limit request);
  last_is = none_of (last_file request) (last_limit request);
  in_place = λ some. absurd (some refl);
}

pub not_read : {reads : Option (List Read)} {name : List ℕ} {limit : ℕ} {P : Type 0} → ReadsIf reads reads name limit P
not_read {reads} = record { reads = []; noted = ReadsOn-none reads; follow = tt; needed = λ some. absurd (some refl) }

-- a file was read, for a reason
pub read_for : {old new : Option (List Read)} {name : List ℕ} {limit : ℕ} {Goes : Next → Type 0} {P : Type 0} → ReadsUpTo old new name limit Goes → P
    → ReadsIf old new name limit P
read_for reads reason = record { reads = reads.reads; noted = reads.noted; follow = reads.follow; needed = λ some. reason }

pub read_since : {old new : Option (List Read)} {name : List ℕ} {limit : ℕ} {P Q : Type 0} → (P → Q) → ReadsIf old new name limit P
    → ReadsIf old new name limit Q
read_since so reads = record { reads = reads.reads; noted = reads.noted; follow = reads.follow; needed = λ some. so (reads.needed some) }

-- one file was read
only_first : (old new : Option (List Read)) (reads : List Read) → ReadsOn old new reads → ReadsOn old new (reads ++ [])
only_first old new reads noted = subst (λ (rs : List Read). ReadsOn old new rs) (sym (append-nil reads)) noted

pub first_reads : (request : Request) (told : Option Contents) {old new : Option (List Read)} {name : List ℕ} {P : Type 0}
    → first_file request ≡ Some name → ReadsIf old new name (first_limit request) P → ReadsFor request told old new
first_reads request told {old} {new} is reads = record {
  first = reads.reads;
  last = [];
  noted = only_first old new reads.reads reads.noted;
  first_is = subst (λ (file : Option (List ℕ)). AreReadsOf file (first_limit request) reads.reads) (sym is) reads.follow;
  last_is = none_of (last_file request) (last_limit request);
  in_place = λ some. absurd (some refl);
}

-- both files were read, the second for what was found in the first
pub ask_both : (w : Wish) (layout text file : List ℕ) (told : Option Contents) {bytes given : List ℕ} {old mid new : Option (List Read)}
    → IsWhole told layout bytes → given ≡ bytes → ReadsUpTo old mid layout layout_file_limit (λ next. next ≡ Ended)
    → ReadsIf mid new file (records_limit w) ((p : PlanOf w) × IsAsked w (Some given) text p) → ReadsFor (Ask w layout text file) told old new
ask_both w layout text file told {bytes} {given} {old} {mid} {new} whole same first last = record {
  first = first.reads;
  last = last.reads;
  noted = ReadsOn-append old mid new first.reads last.reads first.noted last.noted;
  first_is = first.follow;
  last_is = last.follow;
  in_place = λ some. (first.goes, (Some bytes, whole, subst (λ (b : List ℕ). (p : PlanOf w) × IsAsked w (Some b) text p) same (last.needed some)));
}
