-- What holds of each call by which bytes are put into an arena: each spares the bytes of every other arena, and none closes one.
use Rattle.std.proofs.Common.{◌≡◌, ◌≢◌, ℕ, ◌/◌, ◌==◌, Bool, true, false, suc, Result, Ok, List, [], ◌∷◌, length, inl, inr, sym, subst}
use Rattle.std.specs.{Prelude.{MatchBool, ⊤}, List.{AllByRecursion}}
use Rattle.fm_base.specs.declared.{arena_id.ArenaId.{ArenaId}, caller.Caller.{Caller}, refusal.Refusal.{Refusal}}
use Rattle.fm_base.specs.{Calls.{Call, Enter, Entry, Fine, Found, Leave, Read, SwapIf, Write, entry_of}, Untouched.{AllSpare, LeavesOpen, Spares}}
use Rattle.fm_base.specs.Visits.{Acts, Tries, entries_of, hit, looked, missed, visit, writes}
use Rattle.fm_base_lists.proofs.Each.{all_both}
use Rattle.fm_segment_access.specs.{Pieces.{PutsBytes, PutsPiece, ReadsPiece, narrow, whole}, Ranges.{DoesPutBy, Putting}, Runs.{DoesPutAll, PutsMore}}
use Rattle.fm_segment_access.proofs.Keeping.{IsKept, put_kept}
use Rattle.fm_top_load.specs.{Putting.{ArePut, none_put, put_more}, declared.room.Room.TheVariants.{Given}}

-- it holds of each call of a visit that reads, or puts bytes into this arena
pub record IsOfPuts (P : Call → Type 0) (a : ArenaId) : Type 0 where
  pub enter : (x : ArenaId) → P (Enter x)
  pub read : (x : ArenaId) (word : ℕ) → P (Read x word)
  pub write : (word v : ℕ) → P (Write a word v)
  pub swap : (word old new : ℕ) → P (SwapIf a word old new)
  pub leave : (x : ArenaId) → P (Leave x)

module _ (P : Call → Type 0) where
  abbrev pub AllAre : List Entry → Type 0
  AllAre es = AllByRecursion (λ e. P e.call) es

  abbrev ActsAre : Acts → Type 0
  ActsAre acts = AllByRecursion (λ act. P act.0) acts

  acts_are : (c : Caller) (acts : Acts) → ActsAre acts → AllAre (entries_of c acts)
  acts_are c [] h = tt
  acts_are c (act ∷ acts) h = (h.0, acts_are c acts h.1)

  are_unless : (none : Bool) (result : Result (Unit {0}) Refusal) (own : List Entry) (Does : Type 0) → (Does → AllAre own)
      → MatchBool none ((result ≡ Ok tt) × (own ≡ [])) Does → AllAre own
  are_unless true result own Does f d = subst AllAre (sym d.1) tt
  are_unless false result own Does f d = f d

  module _ (a : ArenaId) (k : IsOfPuts P a) where
    visit_is : (c : Caller) (x : ArenaId) (acts : Acts) → ActsAre acts → AllAre (visit c x acts)
    visit_is c x acts h =
        (k.enter x, all_both (λ e. P e.call) (entries_of c acts) (entry_of c (Leave x) Fine ∷ []) (acts_are c acts h) (k.leave x, tt))

    read_is : (c : Caller) (x : ArenaId) (at width v : ℕ) (own : List Entry) → ReadsPiece c x at width v own → AllAre own
    read_is c x at width v own r =
        subst AllAre (sym r.visits) (visit_is c x ((Read x (at / 8), Found r.word) ∷ []) (k.read x (at / 8), tt))

    are_kept : (c : Caller) → IsKept c AllAre
    are_kept c = record { none = tt; both = all_both (λ e. P e.call); refused = λ x. (k.enter x, tt); reads = read_is c }

    tries_are : (word : ℕ) (change : ℕ → ℕ) (found : ℕ) (acts : Acts) → Tries a word change found acts → ActsAre acts
    tries_are word change found acts (looked now rest t) = (k.read a word, tries_are word change found rest t)
    tries_are word change found acts (missed now old new rest n t) = (k.swap word old new, tries_are word change found rest t)
    tries_are word change found acts hit = (k.swap word found (change found), tt)

    puts_are : (at width v : ℕ) (acts : Acts) → PutsBytes a at width v acts → ActsAre acts
    puts_are at width v acts (whole e) = (k.write (at / 8) v, tt)
    puts_are at width v acts (narrow found tried l t) = tries_are (at / 8) _ found tried t

    piece_is : (c : Caller) (at width v : ℕ) (own : List Entry) → PutsPiece c a at width v own → AllAre own
    piece_is c at width v own p = subst AllAre (sym p.visits) (visit_is c a p.acts (puts_are at width v p.acts p.puts))

    writes_are : (word : ℕ) (vs : List ℕ) → ActsAre (writes a word vs)
    writes_are word [] = tt
    writes_are word (v ∷ vs) = (k.write word v, writes_are (suc word) vs)

    more_is : (c : Caller) (x y : Putting) (own : List Entry) → ⊤ → PutsMore c a x own y → AllAre own × ⊤
    more_is c x y own good (inl p) =
        (subst AllAre (sym p.visits) (visit_is c a (writes a (x.at / 8) p.words) (writes_are (x.at / 8) p.words)), tt)
    more_is c x y own good (inr p) = (piece_is c x.at _ _ own p.piece.piece, tt)

    -- A run, which may be refused.
    pub run_is : (c : Caller) (at : ℕ) (bytes : List ℕ) (result : Result (Unit {0}) Refusal) (own : List Entry) → DoesPutAll c a at bytes result own
        → AllAre own
    run_is c at bytes result own d =
        are_unless (length bytes == 0) result own (DoesPutBy PutsMore c a at bytes result own)
        (λ x. put_kept (are_kept c) a PutsMore (λ y. ⊤) (more_is c) at bytes result own tt x) d

    -- Run behind run.
    pub runs_are : (c : Caller) (bytes : List ℕ) (own : List Entry) → ArePut c (Given a) bytes own → AllAre own
    runs_are c bytes own none_put = tt
    runs_are c bytes own (put_more all run before last first are does) =
        all_both (λ e. P e.call) before last (runs_are c all before first) (run_is c (length all) run (Ok tt) last does)

-- A byte of another arena is spared.
spared_by_puts : (id : ArenaId) (place : ℕ) (a : ArenaId) → a ≢ id → IsOfPuts (Spares id place) a
spared_by_puts id place a other = record {
  enter = λ x. tt;
  read = λ x word. tt;
  write = λ word v at. other at.0;
  swap = λ word old new at. absurd (other at.0);
  leave = λ x. tt;
}

pub put_elsewhere : (id : ArenaId) (place : ℕ) (a : ArenaId) → a ≢ id → (c : Caller) (bytes : List ℕ) (own : List Entry) → ArePut c (Given a) bytes own
    → AllSpare id place own
put_elsewhere id place a other = runs_are (Spares id place) a (spared_by_puts id place a other)

-- No arena is closed.
pub open_by_puts : (id a : ArenaId) → IsOfPuts (LeavesOpen id) a
open_by_puts id a = record { enter = λ x. tt; read = λ x word. tt; write = λ word v. tt; swap = λ word old new. tt; leave = λ x. tt }
