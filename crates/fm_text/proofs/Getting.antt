-- What is learnt of getting a text, from what it did.
use Rattle.std.proofs.Common.{◌≡◌, ℕ, ◌+◌, ◌-◌, ◌/◌, ◌<◌, ◌≤◌, Bool, true, false, List, [], ◌∷◌, take, drop, refl, sym, ap, subst, ◌∙◌, arith, None, Result, Ok, Err, IfErr, if◌then◌else◌, nat_le}
use Rattle.std.{proofs.{lemmas.{Bool.Decides.{nat_tests}, List.{drop-take, drop-drop}}}}
use Rattle.fm_base.specs.{declared.{caller.Caller.{Caller}, arena_id.ArenaId.{ArenaId}, refusal.Refusal.{Refusal, TheVariants.{Bounds, NotText, NoZero, WrongThread, Closed, Memory}}}, Calls.{Read, Found, Entry}}
use Rattle.fm_base.specs.{View.{View, Did, inside_after}, Visits.{Run, ends, goes_on}}
use Rattle.fm_base.proofs.{Making.{Makes-none}, Outcomes.{Makes-lasts}, Running.{visit_ends_outside, run_outside}}
use Rattle.fm_segment_access.{specs.{Alone.{bytes_of_arena}, Ranges.{Reading}}, proofs.Outside.{EndsOutside}}
use Rattle.fm_segment.{specs.{Learnt.{CanUse}, Region.{Region, part_of}, Slices.{rest_of}}, proofs.{Access.{known_still}, Exits.{gave}}}
use Rattle.fm_text.specs.{Getting.{LooksOn, EndsLooking, Looks, DoesLook, DoesLookIn, TextCause, Tells, AfterGetText}, Texts.{zero_at}}
use Rattle.fm_text.proofs.{Looking.{reading}, LookingAlone.{look_alone}}

-- ---- it ends outside

-- A step does, which is a visit.
step_outside : (c : Caller) (id : ArenaId) (end : ℕ) (x : Reading) (own : List Entry) (y : Reading) → LooksOn c id end x own y → EndsOutside own
step_outside c id end x own y s =
    ap (inside_after None) s.reads.piece.visits ∙ visit_ends_outside None c id ((Read id (x.at / 8), Found s.reads.piece.word) ∷ [])

-- So does its end.
last_outside : (c : Caller) (id : ArenaId) (end : ℕ) (x : Reading) (own : List Entry) (result : Result (List ℕ) Refusal) → EndsLooking c id end x own result
    → EndsOutside own
last_outside c id end x own (Err Closed) e = ap (inside_after None) e.2
last_outside c id end x own (Err Memory) e = ap (inside_after None) e
last_outside c id end x own (Err NoZero) e = ap (inside_after None) e.2
last_outside c id end x own (Err (NotText k)) e = ap (inside_after None) e.1
last_outside c id end x own (Ok t) e = ap (inside_after None) e.1
last_outside c id end x own (Err other) e = ap (inside_after None) e.1

-- So does a run.
runs_outside : (c : Caller) (id : ArenaId) (place end : ℕ) (result : Result (List ℕ) Refusal) (own : List Entry) → Looks c id place end result own
    → EndsOutside own
runs_outside c id place end result own run =
    run_outside (LooksOn c id end) (EndsLooking c id end) (step_outside c id end) (last_outside c id end) (reading place []) own result run

-- So does the call.
looks_outside : (c : Caller) (id : ArenaId) (place end : ℕ) (result : Result (List ℕ) Refusal) (own : List Entry) → DoesLook c id place end result own
    → EndsOutside own
looks_outside c id place end (Err WrongThread) own d = ap (inside_after None) d.2
looks_outside c id place end (Err Memory) own d = runs_outside c id place end (Err Memory) own d.2
looks_outside c id place end (Err Closed) own d = runs_outside c id place end (Err Closed) own d.1
looks_outside c id place end (Err NoZero) own d = runs_outside c id place end (Err NoZero) own d.1
looks_outside c id place end (Err (NotText k)) own d = runs_outside c id place end (Err (NotText k)) own d.1
looks_outside c id place end (Ok t) own d = runs_outside c id place end (Ok t) own d.1
looks_outside c id place end (Err other) own d = runs_outside c id place end (Err other) own d.1

-- ---- why it is refused

-- Where a visit was refused, there is a byte.
closed_some : (c : Caller) (id : ArenaId) (end : ℕ) (x : Reading) (own : List Entry) → Run (LooksOn c id end) (EndsLooking c id end) x own (Err Closed)
    → x.at < end
closed_some c id end x own (ends e) = e.1
closed_some c id end x own (goes_on y first rest step run) = step.reads.more

-- Where bytes aren't text, there is one too.
not_text_some : (c : Caller) (id : ArenaId) (end k : ℕ) (x : Reading) (own : List Entry) → zero_at x.bytes ≡ None
    → Run (LooksOn c id end) (EndsLooking c id end) x own (Err (NotText k)) → x.at < end
not_text_some c id end k x own none (ends e) = let some = e.0.1 in absurd (let no : ⊥ = cc in no)
not_text_some c id end k x own none (goes_on y first rest step run) = step.reads.more

-- A refusal with which no run ends doesn't come.
other_none : (c : Caller) (id : ArenaId) (end : ℕ) (x : Reading) (own : List Entry) (e : Refusal) → ((x : Reading) (own : List Entry)
    → EndsLooking c id end x own (Err e) → ⊥) → Run (LooksOn c id end) (EndsLooking c id end) x own (Err e) → ⊥
other_none c id end x own e never (ends l) = never x own l
other_none c id end x own e never (goes_on y first rest step run) = other_none c id end y rest e never run

module _ (r : Region) (offset : ℕ) (fits : offset ≤ r.size) where
  abbrev from : ℕ
  from = r.first + offset

  abbrev until : ℕ
  until = r.first + offset + (r.size - offset)

  -- The cause of each refusal.
  cause : (c : Caller) (result : Result (List ℕ) Refusal) (own : List Entry) → DoesLook c r.arena from until result own → IfErr result (TextCause r offset c)
  cause c (Ok t) own d = tt
  cause c (Err WrongThread) own d = (let some = d.0 in omega arith, d.1)
  cause c (Err Memory) own d = (let some = d.0 in omega arith, d.1)
  cause c (Err Closed) own d = let some = closed_some c r.arena until (reading from []) own d.1 in (omega arith, d.0 some)
  cause c (Err (NotText k)) own d = let some = not_text_some c r.arena until k (reading from []) own refl d.1 in (omega arith, d.0 some)
  cause c (Err NoZero) own d = (fits, λ some. d.0 (omega arith))
  cause c (Err other) own d = absurd (other_none c r.arena until (reading from []) own other (λ x own l. l.0.2) d.1)

-- ---- of a segment

-- the rest of a segment from an offset on
record IsRest (r part : Region) (offset : ℕ) : Type 0 where
  fits : offset ≤ r.size
  is : part ≡ part_of offset (r.size - offset) r

-- The rest that was found.
rest_by : (r part : Region) (offset : ℕ) (b : Bool) → nat_le offset r.size ≡ b → (if b then Ok (part_of offset (r.size - offset) r) else Err Bounds) ≡ Ok part
    → IsRest r part offset
rest_by r part offset true e h = record { fits = grind (arith, nat_tests); is = cc }
rest_by r part offset false e h = absurd (let no : ⊥ = cc in no)

-- Where there is none, the offset is past the end.
past_by : (r : Region) (offset : ℕ) (e : Refusal) (b : Bool) → nat_le offset r.size ≡ b
    → (if b then Ok (part_of offset (r.size - offset) r) else Err Bounds) ≡ Err e → (r.size < offset) × (Bounds ≡ e)
past_by r offset e true t h = absurd (let no : ⊥ = cc in no)
past_by r offset e false t h = (grind (arith, nat_tests), cc)

-- The bytes of a segment from an offset on, by their places.
bytes_from : (r : Region) (offset : ℕ) (all : List ℕ) → offset ≤ r.size
    → take (r.first + offset + (r.size - offset) - (r.first + offset)) (drop (r.first + offset) all) ≡ drop offset (take r.size (drop r.first all))
bytes_from r offset all fits =
    let size : r.first + offset + (r.size - offset) - (r.first + offset) ≡ r.size - offset = omega arith in
    let whole : offset + (r.size - offset) ≡ r.size = omega arith in
    ap (λ n. take n (drop (r.first + offset) all)) size ∙ ap (take (r.size - offset)) (sym (drop-drop offset r.first all))
    ∙ sym (drop-take offset (r.size - offset) (drop r.first all)) ∙ ap (λ n. drop offset (take n (drop r.first all))) whole

-- All that is learnt of a text whose offset is past the end.
pub text_past : {v : View} {r : Region} {x : Result Region Refusal} {result : Result (List ℕ) Refusal} {e : Refusal} (offset : ℕ) → CanUse v r
    → x ≡ rest_of offset r → x ≡ Err e → result ≡ Err e → AfterGetText v v r offset result
text_past {v} {r} {x} {result} {e} offset can is was gave =
    let past = past_by r offset e (nat_le offset r.size) refl (sym is ∙ was) in
    let none : rest_of offset r ≡ Err Bounds = sym is ∙ was ∙ ap Err (sym past.1) in
    let out : result ≡ Err Bounds = gave ∙ ap Err (sym past.1) in
    subst (AfterGetText v v r offset) (sym out) (record {
      did = record {
        own = [];
        does = subst (λ (q : Result Region Refusal). DoesLookIn v.caller q (Err Bounds) []) (sym none) (refl, refl);
        makes = Makes-none v;
      };
      refused = past.0;
      alone = λ a. tt;
      same = λ a. refl;
      outside = can.outside;
      lasts = Makes-lasts v v [] (Makes-none v);
      known = can.known;
    })

-- All that is learnt of a text in the rest of a segment.
pub text_got : {old new : View} {r part : Region} {x : Result Region Refusal} {result : Result (List ℕ) Refusal} (offset : ℕ) → CanUse old r
    → x ≡ rest_of offset r → x ≡ Ok part
    → Did old new (DoesLook old.caller part.arena part.first (part.first + part.size) result) → AfterGetText old new r offset result
text_got {old} {new} {r} {part} {x} {result} offset can is was d =
    let rest = rest_by r part offset (nat_le offset r.size) refl (sym is ∙ was) in
    let fits = rest.fits in
    let c = old.caller in
    let at = r.first + offset in
    let end = r.first + offset + (r.size - offset) in
    let begins : r.first + offset ≤ r.first + offset + (r.size - offset) = omega arith in
    let looks : DoesLook old.caller r.arena (r.first + offset) (r.first + offset + (r.size - offset)) result d.own =
    subst (λ (p : Region). DoesLook c p.arena p.first (p.first + p.size) result d.own) rest.is d.does in
    let here : Did old new (DoesLook old.caller r.arena (r.first + offset) (r.first + offset + (r.size - offset)) result) =
    record { own = d.own; does = looks; makes = d.makes } in
    let lasts = Makes-lasts old new d.own d.makes in
    record {
      did = record {
        own = d.own;
        does = subst (λ (q : Result Region Refusal). DoesLookIn c q result d.own) (sym was ∙ is) d.does;
        makes = d.makes;
      };
      refused = cause r offset rest.fits c result d.own looks;
      alone = λ h. subst (λ bs. Tells old r.arena bs result) (bytes_from r offset (bytes_of_arena old.state r.arena) rest.fits)
          (look_alone old new r.arena at end begins result here h).tells;
      same = λ h. (look_alone old new r.arena at end begins result here h).same;
      outside = d.makes.inside ∙ ap (λ i. inside_after i d.own) can.outside ∙ looks_outside c r.arena at end result d.own looks;
      lasts = lasts;
      known = known_still old new r lasts can.known;
    }
