-- Bytes that are put lend no page.
use Rattle.std.proofs.Common.{◌≡◌, ℕ, ◌/◌, ◌%◌, ◌==◌, suc, Bool, true, false, MatchBool, Result, Ok, List, [], ◌∷◌, ◌++◌, length, refl, ap, sym, ◌∙◌, subst, inl, inr}
use Rattle.std.{specs.{Prelude.{⊤}, List.{AllByRecursion}}}
use Rattle.fm_base.specs.{declared.{arena_id.ArenaId.{ArenaId}, caller.Caller.{Caller}, refusal.Refusal.{Refusal}}}
use Rattle.fm_base.specs.{Calls.{Call, Lend, Back, Read, Leave, Fine, Found, Entry, entry_of}, Finds.{Gathered}, View.{Makes, is_loan}}
use Rattle.fm_base.specs.Visits.{Acts, entries_of, visit, writes, Tries, looked, missed, hit}
use Rattle.fm_base_lists.proofs.Each.{all_both}
use Rattle.fm_base_bytes.specs.Bytes.{replaced}
use Rattle.fm_rule_calls.specs.Told.{view_of_pass}
use Rattle.fm_rule_facts.{specs.{Loans.{Loan, loans_after, loans_by, loans_of}, Views.{View}}, proofs.Lending.{loans_after-append}}
use Rattle.fm_segment_access.{specs.{Pieces.{PutsBytes, whole, narrow, PutsPiece}, Ranges.{Putting, DoesPutBy}, Runs.{PutsMore, DoesPutAll}}, proofs.Keeping.{IsKept, put_kept}}
use Rattle.fm_rule.specs.declared.pool.Pool.{Pool}
use Rattle.fm_top_load.specs.{Putting.{ArePut, none_put, put_more}, declared.room.Room.TheVariants.{Given}}
use Rattle.fm_top_pooled.specs.Stocked.{IsAlone}

abbrev pub LendNone : List Entry → Type 0
LendNone es = AllByRecursion (λ e. is_loan e.call ≡ false) es

-- ---- the loans stay

none_by : (loans : List Loan) (call : Call) → is_loan call ≡ false → loans_by loans call ≡ loans
none_by loans (Lend block id part) is = absurd (cc)
none_by loans (Back block) is = absurd (cc)
none_by loans call is = refl

loans_stay : (loans : List Loan) (es : List Entry) → LendNone es → loans_after loans es ≡ loans
loans_stay loans [] h = refl
loans_stay loans (e ∷ es) h = ap (λ (ls : List Loan). loans_after ls es) (none_by loans e.call h.0) ∙ loans_stay loans es h.1

-- between a pass and its memory
pub loans_kept : {gs : List Gathered} {pool : Pool} {p m q r : View} {own : List Entry} → IsAlone gs pool p → m ≡ p → Makes (view_of_pass m) (view_of_pass q) own
    → LendNone own → r ≡ q → loans_of r.seen ≡ loans_of p.seen
loans_kept {p = p} {m = m} {q = q} {own = own} lone at makes none is =
    let seen : q.seen ≡ m.seen ++ own =
    makes.told.seen ∙ ap (λ (es : List Entry). m.seen ++ es) (makes.alone (inr (ap (λ (v : View). v.whole) at ∙ lone.whole))) in
    ap (λ (v : View). loans_of v.seen) is ∙ (ap loans_of seen ∙ (loans_after-append [] m.seen own ∙ (loans_stay (loans_of m.seen) own none
    ∙ ap (λ (v : View). loans_of v.seen) at)))

-- ---- bytes that are put

abbrev ActsLendNone : Acts → Type 0
ActsLendNone acts = AllByRecursion (λ act. is_loan act.0 ≡ false) acts

acts_lend : (c : Caller) (acts : Acts) → ActsLendNone acts → LendNone (entries_of c acts)
acts_lend c [] h = tt
acts_lend c (act ∷ acts) h = (h.0, acts_lend c acts h.1)

visit_lends : (c : Caller) (a : ArenaId) (acts : Acts) → ActsLendNone acts → LendNone (visit c a acts)
visit_lends c a acts h =
    (refl, all_both (λ (e : Entry). is_loan e.call ≡ false) (entries_of c acts) (entry_of c (Leave a) Fine ∷ []) (acts_lend c acts h) (refl, tt))

tries_lend : (a : ArenaId) (word : ℕ) (change : ℕ → ℕ) (found : ℕ) (acts : Acts) → Tries a word change found acts → ActsLendNone acts
tries_lend a word change found acts (looked now rest t) = (refl, tries_lend a word change found rest t)
tries_lend a word change found acts (missed now old new rest n t) = (refl, tries_lend a word change found rest t)
tries_lend a word change found acts hit = (refl, tt)

piece_acts : (a : ArenaId) (place width v : ℕ) (acts : Acts) → PutsBytes a place width v acts → ActsLendNone acts
piece_acts a place width v acts (whole e) = (refl, tt)
piece_acts a place width v acts (narrow found tried l t) = tries_lend a (place / 8) (λ word. replaced word (place % 8) width v) found tried t

piece_lends : (c : Caller) (a : ArenaId) (place width v : ℕ) (own : List Entry) → PutsPiece c a place width v own → LendNone own
piece_lends c a place width v own p = subst LendNone (sym p.visits) (visit_lends c a p.acts (piece_acts a place width v p.acts p.puts))

writes_lend : (a : ArenaId) (word : ℕ) (vs : List ℕ) → ActsLendNone (writes a word vs)
writes_lend a word [] = tt
writes_lend a word (v ∷ vs) = (refl, writes_lend a (suc word) vs)

lends_kept : (c : Caller) → IsKept c LendNone
lends_kept c = record {
  none = tt;
  both = all_both (λ (e : Entry). is_loan e.call ≡ false);
  refused = λ a. (refl, tt);
  reads = λ a place width v own r. subst LendNone (sym r.visits) (visit_lends c a ((Read a (place / 8), Found r.word) ∷ []) (refl, tt));
}

more_lends : (c : Caller) (a : ArenaId) (x y : Putting) (own : List Entry) → ⊤ → PutsMore c a x own y → LendNone own × ⊤
more_lends c a x y own h (inl p) = (subst LendNone (sym p.visits) (visit_lends c a (writes a (x.at / 8) p.words) (writes_lend a (x.at / 8) p.words)), tt)
more_lends c a x y own h (inr p) = (piece_lends c a x.at _ _ own p.piece.piece, tt)

unless : (none : Bool) (result : Result (Unit {0}) Refusal) (own : List Entry) (Does : Type 0) → (Does → LendNone own)
    → MatchBool none ((result ≡ Ok tt) × (own ≡ [])) Does → LendNone own
unless true result own Does f d = subst LendNone (sym d.1) tt
unless false result own Does f d = f d

pub put_all_lends : (c : Caller) (a : ArenaId) (place : ℕ) (bytes : List ℕ) (result : Result (Unit {0}) Refusal) (own : List Entry)
    → DoesPutAll c a place bytes result own → LendNone own
put_all_lends c a place bytes result own d =
    unless (length bytes == 0) result own (DoesPutBy PutsMore c a place bytes result own)
    (λ x. put_kept (lends_kept c) a PutsMore (λ y. ⊤) (more_lends c a) place bytes result own tt x) d

-- portion behind portion
pub puts_lend : (c : Caller) (a : ArenaId) (bytes : List ℕ) (own : List Entry) → ArePut c (Given a) bytes own → LendNone own
puts_lend c a bytes own none_put = tt
puts_lend c a bytes own (put_more all run before last first are does) =
    all_both (λ (e : Entry). is_loan e.call ≡ false) before last (puts_lend c a all before first) (put_all_lends c a (length all) run (Ok tt) last does)
