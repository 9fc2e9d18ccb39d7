-- What a line that allocates found at points of its call, and what it lent.
use Rattle.std.proofs.Common.{◌≡◌, ℕ, ◌*◌, ◌/◌, ◌<◌, ◌≤◌, arith, length, length-append, List, [], ◌∷◌, ◌++◌, refl, ap, sym, ◌∙◌, subst, append_assoc, All, Option, Some, None, Result, Ok, Err}
use Rattle.std.{specs.Prelude.{IfSome}, proofs.lemmas.List.{append-nil, Elements.{All-weaker, filter-append, recursion_from_All}}}
use Rattle.fm_words.specs.{declared.shape.Shape.{Shape}, Places.{page_groups}}
use Rattle.fm_base.specs.declared.{arena_id.ArenaId.{ArenaId}, caller.Caller.{Caller}, refusal.Refusal.{Refusal, TheVariants.{PoolFull}}}
use Rattle.fm_base.specs.{Calls.{Allocate, Entry, Enter, Fine, Given, Leave, NoRoom, entry_of}, Histories.{made_by}}
use Rattle.fm_base.specs.declared.refusal.Refusal.TheVariants as refusal
use Rattle.fm_base_lists.proofs.Each.{all_weaker}
use Rattle.fm_rule_facts.{specs.{Loans.{loans_of}, Views.{View, Begins, limit_of, unlent_in}}, proofs.Keeping.{begins_on}}
use Rattle.fm_gate.specs.Pages.{AllocatesSo, FoundNoPage, LendsInRange, LendsThen}
use Rattle.fm_arena.specs.Allocating.{AllocatesExactly}
use Rattle.fm_script_text.specs.declared.command.Command.{Command, TheVariants.{Alloc}}
use Rattle.fm_script_lines.specs.declared.{outcome.LineOutcome.{LineOutcome}, reply.Reply.{Reply, TheVariants.{Place, Refused, Skipped}}, standing.Standing.{Standing}}
use Rattle.fm_script_lines.specs.{Calls.{Allocates, CallDoes, On}, Outcomes.{outcome}}
use Rattle.fm_script_lines.specs.Pages.{EachBehind, FindsFew, FoundFew, IfAllocates, IsPointOf, LendsRightly, PagesTold, PagesToldBy, answered}
use Rattle.fm_script_lines.{specs.{Played.{Done, runs}, Runs.{Went}, Standings.{arena_of}}, proofs.{Allocating.{answered_once}, Opening.{made_after}}}
use Rattle.fm_script_lines.specs.Pages as pages

-- ---- one call

-- One beginning of a list goes on from another that is no longer.
goes_on : {A : Type 0} (xs ys us vs : List A) → xs ++ us ≡ ys ++ vs → length xs ≤ length ys → (zs : List A) × (ys ≡ xs ++ zs) × (us ≡ zs ++ vs)
goes_on [] ys us vs e l = (ys, refl, e)
goes_on (x ∷ xs) [] us vs e l = absurd (omega (arith, l))
goes_on (x ∷ xs) (y ∷ ys) us vs e l =
    let first : x ≡ y = cc in
    let rest : xs ++ us ≡ ys ++ vs = cc in
    let more = goes_on xs ys us vs rest (omega (arith, l)) in
    (more.0, (λ i. sym first i ∷ more.1 i), more.2)

module _ {p q r : View} {own run : List Entry} (w : Went p q own) (v : Went q r run) where
  -- A point of the call.
  point_of : (at more : List Entry) → r.seen ≡ at ++ more → length q.seen ≤ length at → IsPointOf p.caller r.seen (made_by p.caller p.seen ++ own) run at
  point_of at more e late =
      let since = goes_on q.seen at v.more more (sym v.seen ∙ e) late in
      record {
        begins = (more, e);
        done = made_by p.caller since.0;
        left = made_by p.caller more;
        parts = sym v.by_pass ∙ (ap (λ (c : Caller). made_by c v.more) w.same_caller
            ∙ (ap (λ (es : List Entry). made_by p.caller es) since.2 ∙ filter-append _ since.0 more));
        own_at = ap (λ (es : List Entry). made_by p.caller es) since.1 ∙ (filter-append _ q.seen since.0
            ∙ ap (λ (es : List Entry). es ++ made_by p.caller since.0) (made_after w));
      }

  shape_is : r.shape ≡ p.shape
  shape_is = v.same_shape ∙ w.same_shape

  -- There pages of each word had become few.
  found_few : {id : ArenaId} {size align : ℕ} → FoundNoPage q r id size align → (g : ℕ) → g < page_groups p.shape
      → FoundFew p.shape p.caller r.seen (made_by p.caller p.seen ++ own) run g
  found_few f g low =
      let x = f.found g (subst (λ (z : Shape). g < page_groups z) (sym w.same_shape) low) in
      let left = x.left in
      let early = x.early in
      let long = left.long in
      record {
        at = left.before;
        point = point_of left.before left.begins.0 left.begins.1 (omega (arith, early, long));
        few = subst (λ (y : Shape × ℕ). unlent_in y.0 y.1 (loans_of left.before) < y.0.passes) (λ j. (shape_is j, x.of j)) left.few;
      }

  -- What is lent is a part of the range.
  lends_in : {id : ArenaId} {size align : ℕ} (e : Entry) → LendsInRange q r id size align e
      → pages.LendsInRange p.shape p.caller r.seen (made_by p.caller p.seen ++ own) run id size align e
  lends_in {id = id} {size = size} {align = align} e l =
      let long = ap (λ (es : List Entry). length es) l.since.1 ∙ length-append q.seen l.since.0 in
      record {
        page = l.page;
        part = l.part;
        lends = ap (λ (x : Entry). x.call) l.is;
        at = l.counted;
        point = point_of l.counted (l.until.0 ++ e ∷ l.later)
            (l.seen ∙ (ap (λ (es : List Entry). es ++ e ∷ l.later) l.until.1 ∙ append_assoc l.counted l.until.0 (e ∷ l.later))) (omega (arith, long));
        made = l.at;
        later = l.later;
        until = l.until;
        stands = l.seen;
        fits = subst (λ (z : Shape). pages.end_behind z l.counted id size align ≤ limit_of z) w.same_shape l.in_range.fits;
        after = subst (λ (z : Shape). pages.given_behind z l.counted id / (z.page_words * 8) ≤ l.part) w.same_shape l.in_range.after;
        before = subst (λ (z : Shape). l.part * (z.page_words * 8) < pages.end_behind z l.counted id size align) w.same_shape l.in_range.before;
      }

  abbrev mine : List Entry
  mine = made_by p.caller p.seen ++ own

  -- So are all entries of the call.
  inside_line : (id : ArenaId) (size align : ℕ) (rest : Caller → List Entry) (inner : List Entry) → LendsThen q r id size align (rest q.caller) inner
      → run ≡ entry_of q.caller (Enter id) Fine ∷ inner ++ entry_of q.caller (Leave id) Fine ∷ []
      → pages.LendsInside p.shape p.caller r.seen mine run id size align (rest p.caller)
  inside_line id size align rest inner h is = record {
    lends = h.lends;
    are = recursion_from_All (pages.LendsInRange p.shape p.caller r.seen mine run id size align) h.lends
        (All-weaker (LendsInRange q r id size align) (pages.LendsInRange p.shape p.caller r.seen mine run id size align) lends_in h.lends h.are);
    is = is ∙ (ap (λ (es : List Entry). entry_of q.caller (Enter id) Fine ∷ es ++ entry_of q.caller (Leave id) Fine ∷ []) h.is
        ∙ (λ j. entry_of (w.same_caller j) (Enter id) Fine ∷ (h.lends ++ rest (w.same_caller j)) ++ entry_of (w.same_caller j) (Leave id) Fine ∷ []));
  }

  line_so : (id : ArenaId) (size align : ℕ) (result : Result ℕ Refusal) → AllocatesSo q r id size align result run
      → pages.LineLends p.shape p.caller r.seen mine run size align (answered result)
  line_so id size align (Ok place) h =
      (id, inside_line id size align (λ c. entry_of c (Allocate id size align) (Given place) ∷ []) h.inside h.lends h.is)
  line_so id size align (Err (refusal.NoRoom given)) h =
      (id, inside_line id size align (λ c. entry_of c (Allocate id size align) (NoRoom given) ∷ []) h.inside h.lends h.is)
  line_so id size align (Err refusal.PoolFull) h = (id, inside_line id size align (λ c. []) h.inside h.lends h.is)
  line_so id size align (Err r) h = h

  lends_so : (id : ArenaId) (size align : ℕ) (result : Result ℕ Refusal) → AllocatesExactly q r id size align result
      → pages.LineLends p.shape p.caller r.seen mine run size align (answered result)
  lends_so id size align result a =
      line_so id size align result (subst (λ (es : List Entry). AllocatesSo q r id size align result es) v.by_pass (a.lends v.more v.seen))

-- ---- one line

module _ {p q r : View} {own : List Entry} (d : Done) (w : Went p q own) (v : Went q r d.run) (stands : List ℕ → Standing) where
  few_on : (o : Option ArenaId) (size align : ℕ) → On o (Allocates q.caller size align) (outcome d.reply d.made) d.run
      → IfSome o (λ id. PagesTold q r id size align d.reply) → d.reply ≡ Refused PoolFull
      → (g : ℕ) → g < page_groups p.shape → FoundFew p.shape p.caller r.seen (made_by p.caller p.seen ++ own) d.run g
  few_on None size align does told lacks = let said : d.reply ≡ Skipped = ap (λ (o : LineOutcome). o.reply) does.0 in absurd (cc)
  few_on (Some id) size align does told lacks =
      found_few w v (told.exact.found (answered_once told.result (Err PoolFull) (sym told.is ∙ lacks)))

  lends_on : (o : Option ArenaId) (size align : ℕ) → On o (Allocates q.caller size align) (outcome d.reply d.made) d.run
      → IfSome o (λ id. PagesTold q r id size align d.reply)
      → pages.LineLends p.shape p.caller r.seen (made_by p.caller p.seen ++ own) d.run size align d.reply
  lends_on None size align does told =
      subst (λ (x : List Entry × Reply). pages.LineLends p.shape p.caller r.seen (made_by p.caller p.seen ++ own) x.0 size align x.1)
      (λ j. (sym does.1 j, sym (ap (λ (o : LineOutcome). o.reply) does.0) j)) refl
  lends_on (Some id) size align does told =
      subst (pages.LineLends p.shape p.caller r.seen (made_by p.caller p.seen ++ own) d.run size align) (sym told.is)
      (lends_so w v id size align told.result told.exact)

  -- A line of a pass among others.
  pub finds_few : (command : Command) → d.line.command ≡ command → CallDoes q.caller stands command (outcome d.reply d.made) d.run
      → PagesToldBy stands q r command d.reply → FindsFew p.shape p.caller r.seen (made_by p.caller p.seen ++ own) d
  finds_few command is does told =
      subst (λ (c : Command). IfAllocates c Finds) (sym is) (go command does told)
    where
      Finds : ℕ → ℕ → Type 0
      Finds size align = d.reply ≡ Refused PoolFull → (g : ℕ) → g < page_groups p.shape
          → FoundFew p.shape p.caller r.seen (made_by p.caller p.seen ++ own) d.run g

      go : (c : Command) → CallDoes q.caller stands c (outcome d.reply d.made) d.run → PagesToldBy stands q r c d.reply → IfAllocates c Finds
      go (Alloc arena name size align) does told = few_on (arena_of (stands arena)) size align does told
      go c does told = tt

  -- Whatever pass it is of.
  pub lends_rightly : (command : Command) → d.line.command ≡ command → CallDoes q.caller stands command (outcome d.reply d.made) d.run
      → PagesToldBy stands q r command d.reply → LendsRightly p.shape p.caller r.seen (made_by p.caller p.seen ++ own) d
  lends_rightly command is does told = subst (λ (c : Command). IfAllocates c Lends) (sym is) (go command does told)
    where
      Lends : ℕ → ℕ → Type 0
      Lends size align = pages.LineLends p.shape p.caller r.seen (made_by p.caller p.seen ++ own) d.run size align d.reply

      go : (c : Command) → CallDoes q.caller stands c (outcome d.reply d.made) d.run → PagesToldBy stands q r c d.reply → IfAllocates c Lends
      go (Alloc arena name size align) does told = lends_on (arena_of (stands arena)) size align does told
      go c does told = tt

-- ---- lines in a row

module _ (P : List Entry → Done → Type 0) where
  -- One line more.
  pub behind_more : (before : List Entry) (ds : List Done) (d : Done) → EachBehind P before ds → P (before ++ runs ds) d
      → EachBehind P before (ds ++ d ∷ [])
  behind_more before [] d hs h = (subst (λ (es : List Entry). P es d) (append-nil before) h, tt)
  behind_more before (e ∷ ds) d hs h = (
    hs.0,
    behind_more (before ++ e.run) ds d hs.1 (subst (λ (es : List Entry). P es d) (sym (append_assoc before e.run (runs ds))) h),
  )

  -- In other words.
  pub behind_as : (Q : List Entry → Done → Type 0) → ((es : List Entry) (d : Done) → P es d → Q es d) → (before : List Entry) (ds : List Done)
      → EachBehind P before ds → EachBehind Q before ds
  behind_as Q f before [] hs = tt
  behind_as Q f before (d ∷ ds) hs = (f before d hs.0, behind_as Q f (before ++ d.run) ds hs.1)

if_allocates : (c : Command) (P Q : ℕ → ℕ → Type 0) → ((size align : ℕ) → P size align → Q size align) → IfAllocates c P → IfAllocates c Q
if_allocates (Alloc arena name size align) P Q f h = f size align h
if_allocates c P Q f h = tt

module _ (z : Shape) (c : Caller) (seen next : List Entry) (b : Begins seen next) where
  -- A point stays one when the history goes on.
  point_later : (own run at : List Entry) → IsPointOf c seen own run at → IsPointOf c next own run at
  point_later own run at i = record {
    begins = subst (λ (es : List Entry). Begins at es) (sym b.1) (begins_on at seen b.0 i.begins);
    done = i.done;
    left = i.left;
    parts = i.parts;
    own_at = i.own_at;
  }

  pub few_later : (own : List Entry) (d : Done) → FindsFew z c seen own d → FindsFew z c next own d
  few_later own d = if_allocates d.line.command _ _ (λ size align h lacks g low.
      let f = h lacks g low in
      record { at = f.at; point = point_later own d.run f.at f.point; few = f.few })

  in_range_later : (own run : List Entry) (id : ArenaId) (size align : ℕ) (e : Entry) → pages.LendsInRange z c seen own run id size align e
      → pages.LendsInRange z c next own run id size align e
  in_range_later own run id size align e l = record {
    page = l.page;
    part = l.part;
    lends = l.lends;
    at = l.at;
    point = point_later own run l.at l.point;
    made = l.made;
    later = l.later ++ b.0;
    until = l.until;
    stands = b.1 ∙ (ap (λ (es : List Entry). es ++ b.0) l.stands ∙ append_assoc l.made (e ∷ l.later) b.0);
    fits = l.fits;
    after = l.after;
    before = l.before;
  }

  inside_later : (own run : List Entry) (id : ArenaId) (size align : ℕ) (rest : List Entry) → pages.LendsInside z c seen own run id size align rest
      → pages.LendsInside z c next own run id size align rest
  inside_later own run id size align rest h = record {
    lends = h.lends;
    are = all_weaker (pages.LendsInRange z c seen own run id size align) (pages.LendsInRange z c next own run id size align)
        (in_range_later own run id size align) h.lends h.are;
    is = h.is;
  }

  line_later : (own run : List Entry) (size align : ℕ) (reply : Reply) → pages.LineLends z c seen own run size align reply
      → pages.LineLends z c next own run size align reply
  line_later own run size align (Place place) h =
      (h.0, inside_later own run h.0 size align (entry_of c (Allocate h.0 size align) (Given place) ∷ []) h.1)
  line_later own run size align (Refused (refusal.NoRoom given)) h =
      (h.0, inside_later own run h.0 size align (entry_of c (Allocate h.0 size align) (NoRoom given) ∷ []) h.1)
  line_later own run size align (Refused refusal.PoolFull) h = (h.0, inside_later own run h.0 size align [] h.1)
  line_later own run size align reply h = h

  pub lends_later : (own : List Entry) (d : Done) → LendsRightly z c seen own d → LendsRightly z c next own d
  lends_later own d = if_allocates d.line.command _ _ (λ size align h. line_later own d.run size align d.reply h)
