-- A text that is allocated: the bytes are given, and then it is put.
use Rattle.std.proofs.Common.{◌≡◌, inl, inr, ℕ, ◌+◌, ◌≤◌, true, nat_lt, nat_le, if◌then◌else◌, List, [], ◌∷◌, ◌++◌, length, take, drop, refl, sym, ap, subst, ◌∙◌, arith, Result, Ok, Err}
use Rattle.std.proofs.lemmas.{Bool.{le-leb}, List.{length-append}}
use Rattle.fm_base.specs.declared.{caller.Caller.{Caller}, arena_id.ArenaId.{ArenaId}, refusal.Refusal.{Refusal, TheVariants.{ReadOnly, Bounds, Closed, WrongThread}}}
use Rattle.fm_base.specs.{Arenas.{has_arena}, Calls.{Entry}, Does.{DoesAllocate}, Outcomes.{Nature, Lasts}, View.{View, Did, IsByItself, but_loans}}
use Rattle.fm_base.proofs.{Making.{Makes-then, by_itself_still}, Outcomes.{Makes-lasts}}
use Rattle.fm_base_bytes.specs.Bytes.{AreBytes}
use Rattle.fm_segment_access.specs.{Alone.{bytes_of_arena}, Ranges.{DoesPut}}
use Rattle.fm_segment_access.proofs.{PuttingAlone.{pieces_put, puts_alone}, Alone.{bytes_there}, Splicing.{takes_put}}
use Rattle.fm_segment.{specs.{Alone.{bytes_of_region}, Fills.{DoesAfter}, Puts.{checked_put}, Region.{Region, region_of}}}
use Rattle.fm_arena.specs.Arenas.{placed, AfterAllocate}
use Rattle.fm_text.specs.{Allocating.{GivesThenPuts, DoesAllocateText, AfterAllocateText}, Setting.{text_size, DoesSetText, AfterSetText}, Texts.{zero_ended}}
use Rattle.fm_text.proofs.{Ending.{are_bytes}, Setting.{unit_ok, and_false}}

-- A segment that is open to writes takes as many bytes as it has.
takes_all : (id : ArenaId) (first n : ℕ) → checked_put (region_of id first n) 0 n ≡ Ok tt
takes_all id first n =
    let fits : nat_le (0 + n) n ≡ true = le-leb (0 + n) n (omega arith) in
    ap (λ b. if b then Err ReadOnly else (if nat_le (0 + n) n then unit_ok else Err Bounds)) (and_false (nat_lt 0 n))
    ∙ ap (λ b. if b then unit_ok else Err Bounds) fits

-- In a segment of just its size a text is put.
puts_text : (c : Caller) (id : ArenaId) (first : ℕ) (text : List ℕ) (result : Result (Unit {0}) Refusal) (own : List Entry)
    → DoesSetText c (region_of id first (text_size text)) 0 text result own → DoesPut c id first (zero_ended text) result own
puts_text c id first text result own d =
    let at : first + 0 ≡ first = omega arith in
    let put : DoesPut c id (first + 0) (zero_ended text) result own =
    subst (λ (x : Result (Unit {0}) Refusal). DoesAfter x (DoesPut c id (first + 0) (zero_ended text)) result own) (takes_all id first (text_size text)) d in
    subst (λ (n : ℕ). DoesPut c id n (zero_ended text) result own) at put

-- ---- refused

-- What refused the allocation.
first_refused : (c : Caller) (id : ArenaId) (text : List ℕ) (e : Refusal) (own : List Entry) → DoesAllocate c id (text_size text) 1 (Err e) (but_loans own)
    → DoesAllocateText c id text (Err e) own
first_refused c id text Closed own d = inl d
first_refused c id text e own d = d

-- What refused the text behind it is that the arena was closed: the caller had been let in.
next_refused : (c : Caller) (id : ArenaId) (text : List ℕ) (place : ℕ) (e : Refusal) (own : List Entry) → GivesThenPuts c id text place (Err e) own → e ≡ Closed
next_refused c id text place Closed own x = refl
next_refused c id text place WrongThread own x = absurd (x.puts.0 x.gives.1)
next_refused c id text place e own x = absurd x.puts

-- All that is learnt where the allocation is refused.
pub not_allocated : {nature : Nature} {old new : View} {id : ArenaId} {result : Result Region Refusal} {e : Refusal} (text : List ℕ)
    → AfterAllocate nature old new id (text_size text) 1 (Err e) → result ≡ Err e → AfterAllocateText nature old new id text result
not_allocated {nature} {old} {new} {id} {result} {e} text got is =
    let d = got.got.did in
    subst (AfterAllocateText nature old new id text) (sym is) (record {
      did = record { own = d.own; does = first_refused old.caller id text e d.own d.does; makes = d.makes };
      given = tt;
      alone = λ h. tt;
      outside = got.got.outside;
      lasts = got.got.lasts;
      comes = got.got.comes;
      pool_full = λ h. got.got.pool_full (ap placed h);
    })

module _ {nature : Nature} {old mid new : View} {id : ArenaId} {r : Region} (text : List ℕ)
    (got : AfterAllocate nature old mid id (text_size text) 1 (Ok r)) where
  -- What the text did, in the segment that was given.
  put : {result : Result (Unit {0}) Refusal} → AfterSetText mid new r 0 text result → Did mid new (DoesPut mid.caller id r.first (zero_ended text) result)
  put {result} set =
      let d = set.did in
      let here : DoesSetText mid.caller (region_of id r.first (text_size text)) 0 text result d.own =
      subst (λ (q : Region). DoesSetText mid.caller q 0 text result d.own) got.segment d.does in
      record { own = d.own; does = puts_text mid.caller id r.first text result d.own here; makes = d.makes }

  -- Both, one after the other.
  both : {result : Result (Unit {0}) Refusal} → AfterSetText mid new r 0 text result → Did old new (GivesThenPuts old.caller id text r.first result)
  both {result} set =
      let first = got.got.did in
      let next = put set in
      record {
        own = first.own ++ next.own;
        does = record {
          first = first.own;
          next = next.own;
          both = refl;
          gives = first.does;
          puts = subst (λ (c : Caller). DoesPut c id r.first (zero_ended text) result next.own) first.makes.same_caller next.does;
        };
        makes = Makes-then old mid new first.own next.own first.makes next.makes;
      }

  -- What was known and given stays so.
  lasts : {result : Result (Unit {0}) Refusal} → AfterSetText mid new r 0 text result → Lasts old new
  lasts set = let d = both set in Makes-lasts old new d.own d.makes

  -- All that is learnt where the arena was closed while the text was put.
  pub not_put : {result : Result Region Refusal} {e : Refusal} → AfterSetText mid new r 0 text (Err e) → result ≡ Err e
      → AfterAllocateText nature old new id text result
  not_put {result} {e} set is =
      let d = both set in
      let closed = next_refused old.caller id text r.first e d.own d.does in
      let out : result ≡ Err Closed = is ∙ ap Err closed in
      let both_did : GivesThenPuts old.caller id text r.first (Err Closed) d.own =
      subst (λ (x : Refusal). GivesThenPuts old.caller id text r.first (Err x) d.own) closed d.does in
      subst (AfterAllocateText nature old new id text) (sym out) (record {
        did = record { own = d.own; does = inr (r.first, both_did); makes = d.makes };
        given = tt;
        alone = λ h. tt;
        outside = set.outside;
        lasts = lasts set;
        comes = tt;
        pool_full = λ h. absurd (let no : ⊥ = cc in no);
      })

  -- The only caller finds the text there.
  stands : AreBytes text → AfterSetText mid new r 0 text (Ok tt) → IsByItself old → bytes_of_region new.state r ≡ zero_ended text
  stands are set alone =
      let first = got.got.did in
      let bytes = zero_ended text in
      let still = by_itself_still old mid first.own first.makes alone in
      let p = puts_alone pieces_put mid new id r.first (zero_ended text) tt (are_bytes text are) (put set) still in
      let size : length (zero_ended text) ≡ text_size text = length-append text (0 ∷ []) in
      let room = p.1 (omega arith) in
      let fits : r.first ≤ length (bytes_of_arena mid.state id) = omega arith in
      let same : r.arena ≡ id = ap (λ (q : Region). q.arena) got.segment in
      let known : has_arena mid.state id ≡ true = subst (λ (a : ArenaId). has_arena mid.state a ≡ true) same got.known.arena in
      let count : r.size ≡ length (zero_ended text) = ap (λ (q : Region). q.size) got.segment ∙ sym size in
      (λ j. take (count j) (drop r.first (bytes_of_arena new.state (same j))))
      ∙ ap (λ bs. take (length bytes) (drop r.first bs)) (bytes_there known p.0)
      ∙ takes_put (bytes_of_arena mid.state id) r.first bytes fits

  -- All that is learnt of a text that was allocated.
  pub allocated : AreBytes text → AfterSetText mid new r 0 text (Ok tt) → AfterAllocateText nature old new id text (Ok r)
  allocated are set =
      let gives = got.got.gives in
      let more = set.lasts.given id in
      let given = gives.given in
      record {
        did = both set;
        given = record {
          segment = got.segment;
          gives = record { aligned = gives.aligned; unused = gives.unused; given = omega arith; within = gives.within };
          known = set.known;
        };
        alone = stands are set;
        outside = set.outside;
        lasts = lasts set;
        comes = tt;
        pool_full = λ h. absurd (let no : ⊥ = cc in no);
      }
