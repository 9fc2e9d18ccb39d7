-- Visits that read words of a record, one call's behind another's.
use Rattle.std.proofs.Common.{◌≡◌, ℕ, ◌+◌, ◌*◌, ◌/◌, ◌%◌, ◌<◌, ◌≤◌, None, Result, Ok, Err, List, [], ◌∷◌, ◌++◌, refl, sym, ap, ◌∙◌, subst, append_assoc, arith}
use Rattle.std.{specs.List.{flat_map}, proofs.lemmas.{List.{append-nil}, Grind.{flat_map-append}}}
use Rattle.fm_base_lists.proofs.Each.{all_both}
use Rattle.fm_base.specs.declared.{caller.Caller.{Caller}, arena_id.ArenaId.{ArenaId}, refusal.Refusal.{Refusal, TheVariants.{Closed, Memory, WrongThread}}}
use Rattle.fm_base.specs.{Arenas.{MayUse}, Calls.{Read, Leave, Fine, Found as Found_word, Entry}, Does.{CanReach, DoesAct, DoesEnter}}
use Rattle.fm_base.{specs.{View.{View, Did, given_in}, Visits.{refused_visit, visit}}, proofs.Making.{Makes-none, Makes-then}}
use Rattle.fm_base.proofs.Visiting.{can_reach, entered_makes, visit_of_one}
use Rattle.fm_segment.specs.Region.{Region}
use Rattle.fm_records.specs.{Reads.{AreReadsTo, CanRead, Fetches, IsReadTo, IsWordOf, LiesIn, Sees, SeesWords, read_visit, visits_to}, Words.{Seen}}
use Rattle.fm_records.proofs.Visiting.{can_still}

-- ---- their entries

pub visits_on : {X : Type 0} (c : Caller) (id : ArenaId) (es fs : List Seen) (result : Result X Refusal)
    → flat_map (read_visit c id) es ++ visits_to c id result fs ≡ visits_to c id result (es ++ fs)
visits_on c id es fs (Ok x) = sym (flat_map-append (read_visit c id) es fs)
visits_on c id es fs (Err Closed) =
    sym (append_assoc (flat_map (read_visit c id) es) (flat_map (read_visit c id) fs) (refused_visit c id))
    ∙ ap (λ xs. xs ++ refused_visit c id) (sym (flat_map-append (read_visit c id) es fs))
visits_on c id es fs (Err r) = sym (flat_map-append (read_visit c id) es fs)

visits_err : (X Y : Type 0) (c : Caller) (id : ArenaId) (r : Refusal) (seen : List Seen)
    → visits_to {X = X} c id (Err r) seen ≡ visits_to {X = Y} c id (Err r) seen
visits_err X Y c id Closed seen = refl
visits_err X Y c id r seen = refl

read_err : (X Y : Type 0) (r : Refusal) → IsReadTo {X = X} (Err r) → IsReadTo {X = Y} (Err r)
read_err X Y Closed t = tt
read_err X Y Memory t = tt
read_err X Y r t = absurd t

-- as reads of the segment
pub seen_reads : {X : Type 0} {c : Caller} {s : Region} {P : Result X Refusal → List Seen → Type 0} (result : Result X Refusal) {own : List Entry}
    → SeesWords c s P result own → AreReadsTo c s result own
seen_reads (Ok x) h = record { reads = h.seen; within = h.within; visits = h.visits }
seen_reads {c = c} {s = s} (Err Closed) h = record {
  before = flat_map (read_visit c s.arena) h.seen;
  reads = record { reads = h.seen; within = h.within; visits = refl };
  stops = h.visits;
}
seen_reads (Err Memory) h = record { reads = h.seen; within = h.within; visits = h.visits }
seen_reads (Err r) h = absurd h.to

-- ---- one call's

pub sees_none : {X : Type 0} {P : Result X Refusal → List Seen → Type 0} (old : View) (s : Region) (x : X) → P (Ok x) [] → Sees old old s P (Ok x)
sees_none old s x p = record { own = []; does = record { seen = []; within = tt; visits = refl; to = tt; does = p }; makes = Makes-none old }

module _ {X Y : Type 0} {old new : View} {s : Region} (P : Result X Refusal → List Seen → Type 0) (W : Result Y Refusal → List Seen → Type 0) where
  -- said otherwise, of an end
  pub sees_ok : (x : X) (y : Y) (d : Sees old new s P (Ok x)) → (P (Ok x) d.does.seen → W (Ok y) d.does.seen) → Sees old new s W (Ok y)
  sees_ok x y d on = record {
    own = d.own;
    does = record { seen = d.does.seen; within = d.does.within; visits = d.does.visits; to = tt; does = on d.does.does };
    makes = d.makes;
  }

  -- of a want of memory behind it
  pub sees_want : (x : X) (d : Sees old new s P (Ok x)) → (P (Ok x) d.does.seen → W (Err Memory) d.does.seen) → Sees old new s W (Err Memory)
  sees_want x d on = record {
    own = d.own;
    does = record { seen = d.does.seen; within = d.does.within; visits = d.does.visits; to = tt; does = on d.does.does };
    makes = d.makes;
  }

  -- of a refusal
  pub sees_err : (r : Refusal) (d : Sees old new s P (Err r)) → (P (Err r) d.does.seen → W (Err r) d.does.seen) → Sees old new s W (Err r)
  sees_err r d on = record {
    own = d.own;
    does = record {
      seen = d.does.seen;
      within = d.does.within;
      visits = d.does.visits ∙ visits_err X Y old.caller s.arena r d.does.seen;
      to = read_err X Y r d.does.to;
      does = on d.does.does;
    };
    makes = d.makes;
  }

pub sees_as : {X : Type 0} {old new : View} {s : Region} (P W : Result X Refusal → List Seen → Type 0) (result : Result X Refusal) (d : Sees old new s P result)
    → (P result d.does.seen → W result d.does.seen) → Sees old new s W result
sees_as P W result d on = record {
  own = d.own;
  does = record { seen = d.does.seen; within = d.does.within; visits = d.does.visits; to = d.does.to; does = on d.does.does };
  makes = d.makes;
}

-- reading can go on
pub sees_still : {Y : Type 0} {old now : View} {s : Region} {Q : Result Y Refusal → List Seen → Type 0} {y : Y} → CanRead old s → Sees old now s Q (Ok y)
    → CanRead now s
sees_still {old = old} {s = s} {y = y} can d =
    can_still {Q = λ es. Unit {0}} can (record { own = d.own; does = (seen_reads (Ok y) d.does, tt); makes = d.makes })

-- one call's words and another's, said of the caller at the start
pub sees_on : {X Y : Type 0} {old now next : View} {s : Region} {Q : Result Y Refusal → List Seen → Type 0} {y : Y}
    (P W : Result X Refusal → List Seen → Type 0) (result : Result X Refusal) (d : Sees old now s Q (Ok y)) (e : Sees now next s P result)
    → (P result e.does.seen → W result (d.does.seen ++ e.does.seen)) → Sees old next s W result
sees_on {old = old} {now = now} {next = next} {s = s} P W result d e on =
    let here = e.does.visits ∙ ap (λ (c : Caller). visits_to c s.arena result e.does.seen) d.makes.same_caller in
    record {
      own = d.own ++ e.own;
      does = record {
        seen = d.does.seen ++ e.does.seen;
        within = all_both (λ x. IsWordOf s x.0) d.does.seen e.does.seen d.does.within e.does.within;
        visits = ap (λ xs. xs ++ e.own) d.does.visits ∙ ap (λ ys. flat_map (read_visit old.caller s.arena) d.does.seen ++ ys) here
            ∙ visits_on old.caller s.arena d.does.seen e.does.seen result;
        to = e.does.to;
        does = on e.does.does;
      };
      makes = Makes-then old now next d.own e.own d.makes e.makes;
    }

-- ---- one word

-- Once inside, the word can be reached.
pub reaches_word : {x y : View} {s : Region} {word : ℕ} {a : ArenaId} (w : Unit {0}) → a ≡ s.arena → CanRead x s → IsWordOf s word
    → Did x y (DoesEnter x.caller a (Ok w)) → CanReach y word
reaches_word {x} {y} {s} {word} {a} w same can is enter =
    let given = can.known.given in
    let below = is.below in
    let at : given_in x a ≡ given_in x s.arena = ap (given_in x) same in
    let inside : 8 * word < given_in x a = omega (arith, given, below, at) in
    can_reach x y a word (entered_makes x y a w enter).1 inside

-- It is read in one visit.
pub word_read : {x y u v : View} (s : Region) (word found : ℕ) (a : ArenaId) (w : Unit {0}) → a ≡ s.arena → IsWordOf s word
    → Did x y (DoesEnter x.caller a (Ok w)) → Did y u (DoesAct y.inside y.caller (λ i. Read i word) (Found_word found))
    → Did u v (DoesAct u.inside u.caller Leave Fine) → Sees x v s (Fetches None word) (Ok found)
word_read {x} {y} {u} {v} s word found a w same is enter act leave = record {
  own = visit x.caller a ((Read a word, Found_word found) ∷ []);
  does = record {
    seen = (word, found) ∷ [];
    within = (is, tt);
    visits = ap (λ (i : ArenaId). visit x.caller i ((Read i word, Found_word found) ∷ [])) same ∙ sym (append-nil _);
    to = tt;
    does = (refl, tt);
  };
  makes = visit_of_one x y u v a (λ i. Read i word) (Found_word found) refl (entered_makes x y a w enter).1 act leave;
}

closed_there : (c : Caller) (s : Region) (word : ℕ) (r : Refusal) (own : List Entry) → MayUse s.arena c → DoesEnter c s.arena (Err r) own
    → SeesWords c s (Fetches None word) (Err Closed) own
closed_there c s word Closed own may d = record { seen = []; within = tt; visits = d.1; to = tt; does = (refl, refl) }
closed_there c s word WrongThread own may d = absurd (d.0 may)
closed_there c s word r own may d = absurd d

-- Or the arena is found closed.
pub word_closed : {x y : View} (s : Region) (word : ℕ) (a : ArenaId) (r : Refusal) → a ≡ s.arena → CanRead x s → Did x y (DoesEnter x.caller a (Err r))
    → Sees x y s (Fetches None word) (Err Closed)
word_closed {x} s word a r same can d = record {
  own = d.own;
  does = closed_there x.caller s word r d.own can.may (subst (λ (i : ArenaId). DoesEnter x.caller i (Err r) d.own) same d.does);
  makes = d.makes;
}

-- The words of a value that stands in the segment are the segment's.
pub word_of_place : {s : Region} {place width : ℕ} → LiesIn s place width → 1 ≤ width → IsWordOf s (place / 8)
word_of_place {s} {place} {width} lies some =
    let from = lies.from in let within = lies.within in record { above = omega (arith, from); below = omega (arith, within, some) }

pub word_above : {s : Region} {place width : ℕ} → LiesIn s place width → 8 < place % 8 + width → IsWordOf s (place / 8 + 1)
word_above {s} {place} {width} lies crosses =
    let from = lies.from in let within = lies.within in record { above = omega (arith, from); below = omega (arith, within, crosses) }
