-- Accesses to segments open no arena.
use Rattle.std.proofs.Common.{◌≡◌, ℕ, ℤ, ◌+◌, ◌/◌, ◌==◌, Bool, true, false, MatchBool, Option, Some, None, Result, Ok, Err, List, [], ◌∷◌, ◌++◌, replicate, sym, subst}
use Rattle.std.specs.{Prelude.{⊤}, List.{AllByRecursion}}
use Rattle.fm_segment_access.specs.{Found.{DoesAt}, Pieces.{PutsBytes, whole, narrow, PutsPiece, ReadsPiece}}
use Rattle.fm_segment_access.specs.Ranges.{Reading, ReadsOn, EndsReading, Putting, putting, PutsOn, EndsPutting, DoesPut, DoesFill}
use Rattle.fm_base.specs.declared.{arena_id.ArenaId.{ArenaId}, caller.Caller.{Caller}, refusal.Refusal.{Refusal, TheVariants.{WrongThread, Closed}}}
use Rattle.fm_base.specs.Calls.{Call, Open, Read, Leave, Fine, Found, Entry, entry_of}
use Rattle.fm_base.specs.Visits.{Acts, entries_of, visit, refused_visit, Tries, looked, missed, hit, Run, ends, goes_on}
use Rattle.fm_segment_copies.specs.declared.side.{Piece.{Piece}, Side.{Side}, Way.{Way, TheVariants.{Up}}}
use Rattle.fm_segment_copies.specs.{Comparisons.{ComparesPiece, AgreesOn, EndsComparing, DoesCompare}, Copies.{CopiesPiece, CopiesOn, EndsCopy, DoesCopy}}
use Rattle.fm_segment_copies.specs.Sides.{side, next_piece, StopsAt, first, second}
use Rattle.fm_handle.specs.{Access.{DoesVisit}, Acts.{Exchanges, CutOff}}
use Rattle.fm_handle.specs.Acts as update
use Rattle.fm_lanes.specs.{declared.{order.Order.{Order}, value.Value.{Value}}, Coding.{bytes_of_value}, Kind.{width_of}}
use Rattle.fm_layout.specs.Tree as tree
use Rattle.fm_layout.specs.Tree.{Tree}
use Rattle.fm_base_lists.proofs.Each.{all_both}
use Rattle.fm_segment.specs.{Access.{DoesGetAt, DoesSetAt}, Comparisons.{DoesMismatch, common_size}, Copies.{DoesCopySegment, checked_copy}}
use Rattle.fm_segment.specs.{Fills.{DoesAfter, DoesFillSegment, checked_write}, Region.{Region}}

-- the call opens no arena
abbrev pub OpensNone : Call → Type 0
OpensNone (Open id) = ⊥
OpensNone call = ⊤

abbrev pub AllOpenNone : List Entry → Type 0
AllOpenNone es = AllByRecursion (λ e. OpensNone e.call) es

abbrev ActsOpenNone : Acts → Type 0
ActsOpenNone [] = ⊤
ActsOpenNone (act ∷ acts) = OpensNone act.0 × ActsOpenNone acts

-- ---- visits

-- Entries that are these.
pub open_as : (own es : List Entry) → own ≡ es → AllOpenNone es → AllOpenNone own
open_as own es is h = subst (λ (xs : List Entry). AllOpenNone xs) (sym is) h

both : (es fs : List Entry) → AllOpenNone es → AllOpenNone fs → AllOpenNone (es ++ fs)
both es fs h k = all_both (λ e. OpensNone e.call) es fs h k

module _ (c : Caller) where
  of_acts : (acts : Acts) → ActsOpenNone acts → AllOpenNone (entries_of c acts)
  of_acts [] h = tt
  of_acts (act ∷ acts) h = (h.0, of_acts acts h.1)

  of_visit : (id : ArenaId) (acts : Acts) → ActsOpenNone acts → AllOpenNone (visit c id acts)
  of_visit id acts h = (tt, both (entries_of c acts) (entry_of c (Leave id) Fine ∷ []) (of_acts acts h) (tt, tt))

  of_refused : (id : ArenaId) (own : List Entry) → own ≡ refused_visit c id → AllOpenNone own
  of_refused id own is = open_as own (refused_visit c id) is (tt, tt)

  of_read : (id : ArenaId) (place width v : ℕ) (own : List Entry) → ReadsPiece c id place width v own → AllOpenNone own
  of_read id place width v own r =
      let acts : Acts = (Read id (place / 8), Found r.word) ∷ [] in
      open_as own (visit c id acts) r.visits (of_visit id acts (tt, tt))

-- Tries, and tries that were given up.
of_tries : (id : ArenaId) (word : ℕ) (change : ℕ → ℕ) (found : ℕ) (acts : Acts) → Tries id word change found acts → ActsOpenNone acts
of_tries id word change found acts (looked now rest t) = (tt, of_tries id word change found rest t)
of_tries id word change found acts (missed now old new rest n t) = (tt, of_tries id word change found rest t)
of_tries id word change found acts hit = (tt, tt)

of_cut : (id : ArenaId) (word : ℕ) (GivesUp : ℕ → Type 0) (found : ℕ) (acts : Acts) → CutOff id word GivesUp found acts → ActsOpenNone acts
of_cut id word GivesUp found acts (update.looked now rest t) = (tt, of_cut id word GivesUp found rest t)
of_cut id word GivesUp found acts (update.missed now old new rest n t) = (tt, of_cut id word GivesUp found rest t)
of_cut id word GivesUp found acts (update.at_read g) = (tt, tt)
of_cut id word GivesUp found acts (update.at_swap old new n g) = (tt, tt)

-- ---- ranges

module _ (c : Caller) where
  read_end : (id : ArenaId) (end : ℕ) (x : Reading) (own : List Entry) (answer : Option (List ℕ)) → EndsReading c id end x own answer → AllOpenNone own
  read_end id end x own (Some bytes) e = open_as own [] e.2 tt
  read_end id end x own None e = of_refused c id own e.1

  read_run : (id : ArenaId) (end : ℕ) (x : Reading) (own : List Entry) (answer : Option (List ℕ))
      → Run (ReadsOn c id end) (EndsReading c id end) x own answer → AllOpenNone own
  read_run id end x own answer (ends e) = read_end id end x own answer e
  read_run id end x own answer (goes_on y mine rest s r) = both mine rest (of_read c id x.at _ s.v mine s.piece) (read_run id end y rest answer r)

  of_bytes : (id : ArenaId) (place width v : ℕ) (acts : Acts) → PutsBytes id place width v acts → ActsOpenNone acts
  of_bytes id place width v acts (whole e) = (tt, tt)
  of_bytes id place width v acts (narrow found tried l t) = of_tries id (place / 8) _ found tried t

  of_put : (id : ArenaId) (place width v : ℕ) (own : List Entry) → PutsPiece c id place width v own → AllOpenNone own
  of_put id place width v own p = open_as own (visit c id p.acts) p.visits (of_visit c id p.acts (of_bytes id place width v p.acts p.puts))

  put_end : (id : ArenaId) (x : Putting) (own : List Entry) (done : Bool) → EndsPutting c id x own done → AllOpenNone own
  put_end id x own true e = open_as own [] e.1 tt
  put_end id x own false e = of_refused c id own e.1

  put_run : (id : ArenaId) (x : Putting) (own : List Entry) (done : Bool) → Run (PutsOn c id) (EndsPutting c id) x own done → AllOpenNone own
  put_run id x own done (ends e) = put_end id x own done e
  put_run id x own done (goes_on y mine rest s r) = both mine rest (of_put id x.at _ _ mine s.piece) (put_run id y rest done r)

  puts : (id : ArenaId) (place : ℕ) (bytes : List ℕ) (result : Result (Unit {0}) Refusal) (own : List Entry) → DoesPut c id place bytes result own
      → AllOpenNone own
  puts id place bytes (Ok u) own d = put_run id (putting place bytes) own true d.1
  puts id place bytes (Err WrongThread) own d = open_as own [] d.1 tt
  puts id place bytes (Err Closed) own d = put_run id (putting place bytes) own false d.1
  puts id place bytes (Err e) own d = absurd d

  -- ---- two ranges

  stops : (x y : Side) (p : Piece) (own : List Entry) → StopsAt c x y p own → AllOpenNone own
  stops x y p own first = (tt, tt)
  stops x y p own (second v mine r) = both mine (refused_visit c y.arena) (of_read c x.arena (x.at + p.offset) p.width v mine r) (tt, tt)

  compares_piece : (x y : Side) (p : Piece) (found : Option ℕ) (own : List Entry) → ComparesPiece c x y p found own → AllOpenNone own
  compares_piece x y p found own d =
      open_as own (d.first ++ d.second) d.visits (both d.first d.second (of_read c x.arena (x.at + p.offset) p.width d.v d.first d.reads_first)
      (of_read c y.arena (y.at + p.offset) p.width d.w d.second d.reads_second))

  compare_end : (x y : Side) (count left : ℕ) (own : List Entry) (answer : Option (Option ℕ)) → EndsComparing c x y count left own answer → AllOpenNone own
  compare_end x y count left own (Some None) e = open_as own [] e.1 tt
  compare_end x y count left own (Some (Some offset)) e = compares_piece x y (next_piece Up x y count left) (Some e.at) own e.piece
  compare_end x y count left own None e = stops x y (next_piece Up x y count left) own e.1

  compare_run : (x y : Side) (count left : ℕ) (own : List Entry) (answer : Option (Option ℕ))
      → Run (AgreesOn c x y count) (EndsComparing c x y count) left own answer → AllOpenNone own
  compare_run x y count left own answer (ends e) = compare_end x y count left own answer e
  compare_run x y count left own answer (goes_on now mine rest s r) =
      both mine rest (compares_piece x y (next_piece Up x y count left) None mine s.piece) (compare_run x y count now rest answer r)

  compares : (x y : Side) (count : ℕ) (result : Result (Option ℕ) Refusal) (own : List Entry) → DoesCompare c x y count result own → AllOpenNone own
  compares x y count (Ok found) own d = compare_run x y count count own (Some found) d.visits
  compares x y count (Err WrongThread) own d = open_as own [] d.1 tt
  compares x y count (Err Closed) own d = compare_run x y count count own None d.visits
  compares x y count (Err e) own d = absurd d

  copies_piece : (x y : Side) (p : Piece) (own : List Entry) → CopiesPiece c x y p own → AllOpenNone own
  copies_piece x y p own d =
      open_as own (d.reading ++ d.putting) d.visits (both d.reading d.putting (of_read c x.arena (x.at + p.offset) p.width d.v d.reading d.reads)
      (of_put y.arena (y.at + p.offset) p.width d.v d.putting d.puts))

  copy_end : (x y : Side) (count : ℕ) (way : Way) (left : ℕ) (own : List Entry) (done : Bool) → EndsCopy c x y count way left own done → AllOpenNone own
  copy_end x y count way left own true e = open_as own [] e.1 tt
  copy_end x y count way left own false e = stops x y (next_piece way x y count left) own e.1

  copy_run : (x y : Side) (count : ℕ) (way : Way) (left : ℕ) (own : List Entry) (done : Bool)
      → Run (CopiesOn c x y count way) (EndsCopy c x y count way) left own done → AllOpenNone own
  copy_run x y count way left own done (ends e) = copy_end x y count way left own done e
  copy_run x y count way left own done (goes_on now mine rest s r) =
      both mine rest (copies_piece x y (next_piece way x y count left) mine s.piece) (copy_run x y count way now rest done r)

  copies : (x y : Side) (count : ℕ) (result : Result (Unit {0}) Refusal) (own : List Entry) → DoesCopy c x y count result own → AllOpenNone own
  copies x y count (Ok u) own d = copy_run x y count d.way count own true d.visits
  copies x y count (Err WrongThread) own d = open_as own [] d.1 tt
  copies x y count (Err Closed) own d = copy_run x y count d.way count own false d.visits
  copies x y count (Err e) own d = absurd d

  after : (checked : Result (Unit {0}) Refusal) (Does : Result (Unit {0}) Refusal → List Entry → Type 0) (result : Result (Unit {0}) Refusal)
      (own : List Entry) → (Does result own → AllOpenNone own) → DoesAfter checked Does result own → AllOpenNone own
  after (Err e) Does result own f d = open_as own [] d.1 tt
  after (Ok u) Does result own f d = f d

  placed : {X : Type 0} (found : Result ℕ Refusal) (Does : ℕ → Result X Refusal → List Entry → Type 0) (result : Result X Refusal) (own : List Entry)
      → ((p : ℕ) → Does p result own → AllOpenNone own) → DoesAt found Does result own → AllOpenNone own
  placed (Err e) Does result own f d = open_as own [] d.1 tt
  placed (Ok p) Does result own f d = f p d

  -- ---- segments

  pub gets_open : (id : ArenaId) (t : Tree) (found : Result ℕ Refusal) (result : Result Value Refusal) (own : List Entry) → DoesGetAt c id t found result own
      → AllOpenNone own
  gets_open id t (Err e) result own d = open_as own [] d.1 tt
  gets_open id (tree.Value k o l) (Ok p) (Ok v) own d = read_run id (p + width_of k) (record { at = p; bytes = [] }) own (Some d.1.bytes) d.1.visits
  gets_open id (tree.Value k o l) (Ok p) (Err WrongThread) own d = open_as own [] d.1 tt
  gets_open id (tree.Value k o l) (Ok p) (Err Closed) own d = read_run id (p + width_of k) (record { at = p; bytes = [] }) own None d.1
  gets_open id (tree.Value k o l) (Ok p) (Err e) own d = absurd d
  gets_open id t (Ok p) result own d = absurd d

  pub sets_open : (id : ArenaId) (t : Tree) (found : Result ℕ Refusal) (v : Value) (result : Result (Unit {0}) Refusal) (own : List Entry)
      → DoesSetAt c id t found v result own → AllOpenNone own
  sets_open id t (Err e) v result own d = open_as own [] d.1 tt
  sets_open id (tree.Value kind o l) (Ok p) v result own d = puts id p (bytes_of_value o v) result own d
  sets_open id t (Ok p) v result own d = absurd d

  fill_on : (id : ArenaId) (place size byte : ℕ) (none : Bool) (result : Result (Unit {0}) Refusal) (own : List Entry)
      → MatchBool none ((result ≡ Ok tt) × (own ≡ [])) (DoesPut c id place (replicate size byte) result own) → AllOpenNone own
  fill_on id place size byte true result own d = open_as own [] d.1 tt
  fill_on id place size byte false result own d = puts id place (replicate size byte) result own d

  pub fills_open : (r : Region) (byte : ℕ) (result : Result (Unit {0}) Refusal) (own : List Entry) → DoesFillSegment c r byte result own → AllOpenNone own
  fills_open r byte result own d =
      after (checked_write r.size r) (DoesFill c r.arena r.first r.size byte) result own
      (λ f. fill_on r.arena r.first r.size byte (r.size == 0) result own f) d

  pub copies_open : (source target : Region) (n : ℕ) (result : Result (Unit {0}) Refusal) (own : List Entry)
      → DoesCopySegment source 0 target 0 n c result own → AllOpenNone own
  copies_open source target n result own d =
      let x = side source.arena (source.first + 0) in
      let y = side target.arena (target.first + 0) in
      after (checked_copy source 0 target 0 n) (DoesCopy c x y n) result own (λ f. copies x y n result own f) d

  pub mismatch_open : (r other : Region) (result : Result ℤ Refusal) (own : List Entry) → DoesMismatch c r other result own → AllOpenNone own
  mismatch_open r other (Ok z) own d = compares (side r.arena r.first) (side other.arena other.first) (common_size r other) (Ok d.0) own d.1
  mismatch_open r other (Err e) own d = compares (side r.arena r.first) (side other.arena other.first) (common_size r other) (Err e) own d

  -- ---- handles

  visits_open : {X : Type 0} (id : ArenaId) (Give : X → Acts → Type 0) (result : Result X Refusal) (own : List Entry)
      → ((x : X) (acts : Acts) → Give x acts → ActsOpenNone acts) → DoesVisit c id Give result own → AllOpenNone own
  visits_open id Give (Ok x) own f d = open_as own (visit c id d.1.acts) d.1.visits (of_visit c id d.1.acts (f x d.1.acts d.1.are))
  visits_open id Give (Err WrongThread) own f d = open_as own [] d.1 tt
  visits_open id Give (Err Closed) own f d = of_refused c id own d.1
  visits_open id Give (Err e) own f d = absurd d

  exchanges : (o : Order) (id : ArenaId) (place : ℕ) (old new found : Value) (acts : Acts) → Exchanges o id place old new found acts → ActsOpenNone acts
  exchanges o id place old new found acts (update.puts word tried e t) = of_tries id (place / 8) _ word tried t
  exchanges o id place old new found acts (update.finds_another word x tried e n d) = of_cut id (place / 8) _ word tried d

  pub exchanges_open : (o : Order) (id : ArenaId) (found : Result ℕ Refusal) (old new : Value) (result : Result Value Refusal) (own : List Entry)
      → DoesAt found (λ place. DoesVisit c id (Exchanges o id place old new)) result own → AllOpenNone own
  exchanges_open o id found old new result own d =
      placed found (λ place. DoesVisit c id (Exchanges o id place old new)) result own
      (λ place f. visits_open id (Exchanges o id place old new) result own (λ x acts e. exchanges o id place old new x acts e) f) d

  pub adds_open : (o : Order) (id : ArenaId) (found : Result ℕ Refusal) (delta : Value) (result : Result Value Refusal) (own : List Entry)
      → DoesAt found (λ place. DoesVisit c id (update.Adds o id place delta)) result own → AllOpenNone own
  adds_open o id found delta result own d =
      placed found (λ place. DoesVisit c id (update.Adds o id place delta)) result own
      (λ place f. visits_open id (update.Adds o id place delta) result own (λ x acts e. of_tries id (place / 8) _ e.word acts e.tries) f) d
