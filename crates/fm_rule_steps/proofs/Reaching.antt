-- The steps that act on a word of the arena that the pass is inside.
use Rattle.std.proofs.Common.{◌≡◌, ◌≢◌, ℕ, ◌+◌, ◌*◌, ◌/◌, ◌%◌, ◌^◌, ◌<◌, ◌==◌, Bool, true, false, if◌then◌else◌, List, [], ◌∷◌, get_or, set, sym, refl, ap, ◌∙◌, subst, arith, Option, Some}
use Rattle.std.proofs.Math.Nat.{mod-lt, div-lt_iff_lt-mul}
use mathlib.Core.Option.{some}
use lib.ListN.{get_elem?}
use Rattle.fm_rule_facts.specs.{Views.{given_of, View, Fits, span, limit_of, In}, declared.step.Step.TheVariants.{Loads, Stores, SwapsIf, Adds}}
use Rattle.fm_rule_facts.specs.{Loans.{loans_by, loans_of}, Steps.{part, entries, noted, acted, none_noted}}
use Rattle.fm_rule_facts.specs.{Facts.{PoolWords, shut, IsStanding, IsAt, mapped, Pages, Shows, World, Rule}, Pages.{IsMapped}, Parts.{mapping_of}}
use Rattle.fm_rule_facts.{proofs.{Moving.{mapped_lent}, Living.{pages_write}}, specs.Moves.{Ends, LendsBy, MayStep, MayStore}}
use Rattle.fm_rule_facts.proofs.{Sessions.{standing_known, standing_shown, ended_apart}, Worlds.{world_word}, Shown.{shows_same, shows_cell}, Founds.{no_draw}}
use prog.Atomic.{either}
use Rattle.fm_words.specs.{declared.shape.Shape.{Shape}, Places.{at as place_at, page_word}}
use Rattle.fm_base.specs.{declared.arena_id.ArenaId.{ArenaId}, Calls.{Call, Read, Write, SwapIf, Add, Reply, Fine, Found, entry_of}, Machine.{words_within}}
use Rattle.fm_base_machine.{specs.Functions.{Over, put, put_at, moved, MayBy, reply_by}, proofs.Putting.{put_else}}
use Rattle.fm_rule_steps.proofs.{Knowing.{own, given_now}, Plain.{Made, plain, LeavesWords, memory_left, view_left, words_left}}

-- an arena has the words of its slot
span_within : (z : Shape) (w : ℕ) → w < span z → w < words_within (limit_of z)
span_within z w h = subst (λ (n : ℕ). w < n) (sym (all (span z))) h
  where
    all : (x : ℕ) → words_within (x * 8) ≡ x
    all x = omega arith

-- a word of the parts that an arena can have
below : (w size n : ℕ) → 0 < size → w / size < n → w < n * size
below w size n words low = (div-lt_iff_lt-mul words).0 low

module _ (z : Shape) (me : ℕ) (v : View) (l : v.live ≡ true) (a : ArenaId) (ins : v.inside ≡ Some a) where
  module _ (ws : List ℕ) (vs : List View) (r : Rule z ws vs) (at : get_elem? vs me ≡ some v) where
    -- the caller is under way in the arena
    pub here : r.machine.inside v.caller ≡ Some a
    here = (own z ws vs r me v at l).work.inside ∙ ins

    -- so it stands
    pub stands : IsStanding (r.machine.life a)
    stands = (r.world.marked v.caller a here).stands

    -- and has a slot
    pub fit : Fits z a
    fit = r.world.sessions.fits a (standing_known (r.machine.life a) stands)

    -- an arena that has ended stands elsewhere
    pub apart : (b : ArenaId) → r.memory.sessions b.slot ≡ shut b → r.machine.life b ≡ Over → b.slot ≢ a.slot
    apart b f o e = ended_apart z r.memory.sessions r.machine.life r.world.sessions b a f o stands (sym e)

    -- the step that makes this one entry, and leaves the words and the given bytes so
    pub act : (i x : ℕ) (call : Call) (reply : Reply) (m' : ℕ → ℕ → ℕ) (g' : ℕ → ℕ) (f : ArenaId → ℕ → ℕ) (g : ArenaId → ℕ)
        → moved r.machine v.caller call reply ≡ record r.machine { word = f; given = g } → MayBy (limit_of z) r.machine v.caller call
        → reply ≡ reply_by (limit_of z) r.machine call → ((b : ArenaId) → ¬ (Ends call b)) → LendsBy z r.machine (loans_of r.history) call
        → loans_by (loans_of r.history) call ≡ loans_of r.history → Shows z (set ws i x) (record r.memory { cells = m'; given = g' })
        → World z (record r.memory { cells = m'; given = g' }) (record r.machine { word = f; given = g })
        → Pages z (loans_of r.history) r.memory.page_bits r.memory.maps m' r.owners.berth r.memory.sessions r.machine.life f g
        → LeavesWords r.memory (record r.memory { cells = m'; given = g' }) r.machine r.owners
        → Made z ws vs me v i x v (entry_of v.caller call reply ∷ []) none_noted
    act i x call reply m' g' f g is may answer ends lends same shows world pages words =
        let k = own z ws vs r me v at l in
        let m : PoolWords = record r.memory { cells = m'; given = g' } in
        plain z ws vs r me v at l i x v (entry_of v.caller call reply ∷ []) none_noted no_draw m (record r.machine { word = f; given = g }) (record {
          calls = record { may = (refl, may, answer, tt); ends = λ b. (ends b, tt); lends = (lends, tt); loans = same; moves = is; life = refl };
          leaves = record { memory = memory_left; view = view_left; words = words };
          pages = pages;
          marks = λ k h. refl;
          reads = λ a e x i. (e, i);
          holds = λ b. refl;
          shows = shows;
          world = world;
          inside = k.work.inside;
          mark = k.work.mark;
        })

  -- where the word has a given byte, and the pass has read which page has the word
  module _ (w : ℕ) (has : 8 * w < given_of v a) (p : ℕ) (read : In (mapping_of (w / z.page_words) p) v.reads) where
    abbrev o : ℕ
    o = w % z.page_words

    abbrev i : ℕ
    i = place_at z (page_word p o)

    abbrev found : List ℕ → ℕ
    found ws = get_or ws i 0

    module _ (ws : List ℕ) (vs : List View) (r : Rule z ws vs) (at : get_elem? vs me ≡ some v) where
      abbrev part_of : ℕ
      part_of = w / z.page_words

      -- what was read stands
      named : r.memory.maps a.slot part_of ≡ Some p
      named = (own z ws vs r me v at l).work.pages.read a ins (mapping_of part_of p) read

      at_it : r.owners.berth p ≡ mapped a.slot part_of
      at_it = r.pages.map_is a.slot part_of p named

      there : IsMapped z (loans_of r.history) r.memory.maps r.memory.cells r.memory.sessions r.machine.given p a.slot part_of
      there = r.pages.mapped_is p a.slot part_of at_it

      in_page : o < z.page_words
      in_page = mod-lt w r.valid.page_words.0

      -- what is found is the machine's word
      is_word : found ws ≡ r.machine.word a w
      is_word = r.shows.cells p o there.page in_page ∙ sym (r.pages.says.words a w p (stands ws vs r at) named)

      lends : LendsBy z r.machine (loans_of r.history) (Read a w)
      lends = (
        p,
        mapped_lent z (loans_of r.history) r.memory.page_bits r.memory.maps r.memory.cells r.owners.berth r.memory.sessions r.machine.life r.machine.word
            r.machine.given r.valid.page_words.0 r.world.sessions r.pages a part_of p
            (standing_shown z r.memory.sessions r.machine.life r.world.sessions a (stands ws vs r at)) named,
      )

      within : w < words_within (limit_of z)
      within = span_within z w (below w z.page_words z.reach r.valid.page_words.0 there.part)

      -- the word is left as it was
      looks : (call : Call) (reply : Reply) → moved r.machine v.caller call reply ≡ r.machine → MayBy (limit_of z) r.machine v.caller call
          → reply ≡ reply_by (limit_of z) r.machine call → ((b : ArenaId) → ¬ (Ends call b)) → LendsBy z r.machine (loans_of r.history) call
          → loans_by (loans_of r.history) call ≡ loans_of r.history → Made z ws vs me v i (found ws) v (entry_of v.caller call reply ∷ []) none_noted
      looks call reply is may answer ends lends same =
          act ws vs r at i (found ws) call reply r.memory.cells r.memory.given r.machine.word r.machine.given is may answer ends lends same
          (shows_same z r.valid ws r.memory r.shows i) r.world r.pages words_left

      -- the word becomes y
      puts : (y : ℕ) (call : Call) (reply : Reply)
          → moved r.machine v.caller call reply ≡ record r.machine { word = put_at r.machine.word a (put (r.machine.word a) w y) }
          → MayBy (limit_of z) r.machine v.caller call → reply ≡ reply_by (limit_of z) r.machine call → ((b : ArenaId) → ¬ (Ends call b))
          → LendsBy z r.machine (loans_of r.history) call → loans_by (loans_of r.history) call ≡ loans_of r.history
          → Made z ws vs me v i y v (entry_of v.caller call reply ∷ []) none_noted
      puts y call reply is may answer ends lends same =
          act ws vs r at i y call reply (put r.memory.cells p (put (r.memory.cells p) o y)) r.memory.given
          (put_at r.machine.word a (put (r.machine.word a) w y)) r.machine.given is may answer ends lends same
          (shows_cell z r.valid ws r.memory r.shows p o y there.page in_page)
          (world_word z r.memory r.machine r.world (put r.memory.cells p (put (r.memory.cells p) o y)) (put_at r.machine.word a (put (r.machine.word a) w y)))
          (pages_write z (loans_of r.history) r.memory.page_bits r.memory.maps r.memory.cells r.owners.berth r.memory.sessions r.machine.life r.machine.word
          r.machine.given r.world.sessions r.pages a w p y (stands ws vs r at) named (let n = given_now z ws vs r me v at l a in omega arith))
          (record {
            given = λ b o f. refl;
            cells = λ q j b n k. put_else r.memory.cells p (put (r.memory.cells p) o y) q (λ e. unmapped_at j (subst (IsAt j) (ap r.owners.berth e ∙ at_it) b)) k n;
          })
        where
          unmapped_at : (j : ℕ) → IsAt j (mapped a.slot part_of) → ⊥
          unmapped_at j h = h

      load : Made z ws vs me v i (found ws) v (entry_of v.caller (Read a w) (Found (found ws)) ∷ []) none_noted
      load = looks (Read a w) (Found (found ws)) refl (here ws vs r at, within) (ap Found is_word) (λ b n. n) lends refl

      store : (y : ℕ) → y < 2 ^ 64 → Made z ws vs me v i y v (entry_of v.caller (Write a w y) Fine ∷ []) none_noted
      store y fits = puts y (Write a w y) Fine refl ((here ws vs r at, within), fits) refl (λ b n. n) lends refl

      swap : (old y : ℕ) → y < 2 ^ 64 → (b : Bool) → (found ws == old) ≡ b
          → Made z ws vs me v i (either b y (found ws)) v (entry_of v.caller (SwapIf a w old y) (Found (found ws)) ∷ []) none_noted
      swap old y fits true e = puts y (SwapIf a w old y) (Found (found ws))
          (ap (λ (c : Bool). if c then record r.machine { word = put_at r.machine.word a (put (r.machine.word a) w y) } else r.machine) e)
          ((here ws vs r at, within), fits) (ap Found is_word) (λ b n. n) lends refl
      swap old y fits false e = looks (SwapIf a w old y) (Found (found ws))
          (ap (λ (c : Bool). if c then record r.machine { word = put_at r.machine.word a (put (r.machine.word a) w y) } else r.machine) e)
          ((here ws vs r at, within), fits) (ap Found is_word) (λ b n. n) lends refl

      add : (n : ℕ) → Made z ws vs me v i ((found ws + n) % 2 ^ 64) v (entry_of v.caller (Add a w n) (Found (found ws)) ∷ []) none_noted
      add n = puts ((found ws + n) % 2 ^ 64) (Add a w n) (Found (found ws)) refl (here ws vs r at, within) (ap Found is_word) (λ b n. n) lends refl

    -- a word of the arena that the caller is inside
    pub load_steps : MayStep z (Loads w) me v i (λ n. n)
    unfolding part entries noted
    load_steps = record {
      may = λ ws vs r at.
          let g =
          subst (λ (o : Option ArenaId). Made z ws vs me v i (found ws) v (acted o v.caller (λ b. Read b w) (Found (found ws))) none_noted) (sym ins)
          (load ws vs r at) in
          (g.0, g.1, record { gives = g.2; learns = tt });
    }

    pub store_steps : (y : ℕ) → y < 2 ^ 64 → MayStore z (Stores w y) me v i y
    unfolding part entries noted
    store_steps y fits = record {
      may = λ ws vs r at.
          let g =
          subst (λ (o : Option ArenaId). Made z ws vs me v i y v (acted o v.caller (λ b. Write b w y) Fine) none_noted) (sym ins)
          (store ws vs r at y fits) in
          (g.0, g.1, record { gives = g.2; learns = tt });
    }

    pub swap_steps : (old y : ℕ) → y < 2 ^ 64 → MayStep z (SwapsIf w old y) me v i (λ n. either (n == old) y n)
    unfolding part entries noted
    swap_steps old y fits = record {
      may = λ ws vs r at.
          let g =
          subst (λ (o : Option ArenaId). Made z ws vs me v i (either (found ws == old) y (found ws)) v
          (acted o v.caller (λ b. SwapIf b w old y) (Found (found ws))) none_noted) (sym ins)
          (swap ws vs r at old y fits (found ws == old) refl) in
          (g.0, g.1, record { gives = g.2; learns = tt });
    }

    pub add_steps : (k : ℕ) → MayStep z (Adds w k) me v i (λ n. (n + k) % 2 ^ 64)
    unfolding part entries noted
    add_steps k = record {
      may = λ ws vs r at.
          let g =
          subst (λ (o : Option ArenaId). Made z ws vs me v i ((found ws + k) % 2 ^ 64) v
          (acted o v.caller (λ b. Add b w k) (Found (found ws))) none_noted) (sym ins)
          (add ws vs r at k) in
          (g.0, g.1, record { gives = g.2; learns = tt });
    }
