-- A chunk that was put keeps what chunks promise.
use Rattle.std.proofs.Common.{◌≡◌, ◌%◌, ◌≤◌, ℕ, true, List, [], Option, ap, sym, ◌∙◌, subst, arith}
use Rattle.fm_base.specs.{declared.{arena_id.ArenaId.{ArenaId}, caller.Caller.{Caller}}, Arenas.{arena_of, has_arena}, Calls.{Entry}, Histories.{made_by, state_after}, View.{Did}}
use Rattle.fm_base.proofs.Outcomes.{Makes-lasts}
use Rattle.fm_io.specs.Files.{Contents}
use Rattle.fm_rule_calls.specs.Told.{view_of_pass}
use Rattle.fm_rule_facts.specs.Views.{View, limit_of}
use Rattle.fm_top_load.specs.declared.{reached.Reached.{Reached}, room.Room.TheVariants.{Given}, stretch.Stretch.{Stretch}}
use Rattle.fm_top_load.specs.{Portions.{PortionView}, Putting.{PutsStretch}}
use Rattle.fm_top_chunks.specs.{Making.{CanMake, HasPut, IsMade, chunk_at}, declared.{filling.Filling.{Filling}, made.Made.{Made}}}

-- ---- said of the chunk that is made

known_in : (limit : ℕ) {a b : ArenaId} {es fs : List Entry} → a ≡ b → es ≡ fs → has_arena (state_after limit [] es) a ≡ true
    → has_arena (state_after limit [] fs) b ≡ true
known_in limit {a} {b} {es} {fs} e f k =
    subst (λ (hs : List Entry). has_arena (state_after limit [] hs) b ≡ true) f (subst (λ (i : ArenaId). has_arena (state_after limit [] es) i ≡ true) e k)

given_in_more : (limit : ℕ) {count : ℕ} {a b : ArenaId} {es fs : List Entry} → a ≡ b → es ≡ fs → count ≤ (arena_of (state_after limit [] es) a).given
    → count ≤ (arena_of (state_after limit [] fs) b).given
given_in_more limit {count} {a} {b} {es} {fs} e f k =
    subst (λ (hs : List Entry). count ≤ (arena_of (state_after limit [] hs) b).given) f
    (subst (λ (i : ArenaId). count ≤ (arena_of (state_after limit [] es) i).given) e k)

moved : {stretch : Stretch} {told : Option Contents} {c : Caller} {m n : ℕ} {a b : ArenaId} {i j : ℕ} {es fs : List Entry} → m ≡ n → a ≡ b → i ≡ j → es ≡ fs
    → HasPut stretch told c m a i es → HasPut stretch told c n b j fs
moved {stretch} {told} {c} {m} {n} {a} {b} {i} {j} {es} {fs} e f g h k =
    subst (λ (hs : List Entry). HasPut stretch told c n b j hs) h (subst (λ (o : ℕ). HasPut stretch told c n b o es) g
    (subst (λ (d : ArenaId). HasPut stretch told c n d i es) f (subst (λ (l : ℕ). HasPut stretch told c l a i es) e k)))

module _ {x : Filling} {told : Option Contents} {first : PortionView} {old : View} (new : View) (can : CanMake x told first old) where
  put_by : (reached : Reached) → Did (view_of_pass old) (view_of_pass new) (PutsStretch x.stretch told old.caller (Given x.arena) first reached)
      → HasPut x.stretch told new.caller x.number x.arena reached.count new.seen
  put_by reached did = record {
    first = first;
    ended = reached.ended;
    before = made_by old.caller old.seen;
    own = did.own;
    mine = did.makes.told.mine;
    put = subst (λ (c : Caller). PutsStretch (chunk_at x.stretch x.number) told c (Given x.arena) first reached did.own) (sym did.makes.same_caller)
        (subst (λ (s : Stretch). PutsStretch s told old.caller (Given x.arena) first reached did.own) (ap (λ n. record x.stretch { at = n }) can.at) did.does);
  }

  -- It was put, and its note is that of the pass.
  pub is_made : (reached : Reached) (r : Made) → Did (view_of_pass old) (view_of_pass new) (PutsStretch x.stretch told old.caller (Given x.arena) first reached)
      → reached.count % x.query.now.size ≡ 0 → r.chunk.number ≡ x.number → r.chunk.arena ≡ x.arena → r.chunk.count ≡ reached.count
      → r.chunk.note.home ≡ new.home → r.chunk.note.seen ≡ new.seen → IsMade x told new r
  is_made reached r did even number arena count home seen =
      let lasts = Makes-lasts (view_of_pass old) (view_of_pass new) did.own did.makes in
      let room = can.put.hold in
      let gave = room.given in
      let small = room.small in
      let more = lasts.given x.arena in
      let many = did.does.count in
      let within = did.does.cut.within in
      record {
        number = number;
        arena = arena;
        seen = seen;
        chunk = record {
          meet = record {
            same_pool = home;
            gave = record {
              known = known_in (limit_of new.shape) (sym arena) (sym seen) (lasts.known x.arena room.known);
              given = given_in_more (limit_of new.shape) (sym arena) (sym seen) (omega (arith, count, many, within, gave, more));
              small = omega (arith, count, many, within, small);
              even = ap (λ n. n % x.query.now.size) count ∙ even;
              shared = ap (λ i. i.kind) arena ∙ can.shared;
            };
          };
          stands = moved (sym number) (sym arena) (sym count) (sym seen) (put_by reached did);
        };
      }
