-- How a pass goes on: by a call of a memory, by one of its own, by none, and by one after another.
use Rattle.std.proofs.{Common.{◌≡◌, List, [], ◌++◌, refl, ap, sym, ◌∙◌, subst, append_assoc, All, None, inr, get_or, arith}, lemmas.List.{append-nil}}
use Rattle.std.proofs.lemmas.List.Elements.{filter-append}
use Rattle.fm_base.specs.{declared.arena_id.ArenaId.{ArenaId}, Calls.{Entry}, Finds.{Rest, Gathered}, Histories.{made_by}, Outcomes.{Lasts}}
use Rattle.fm_base.{specs.View.{Makes, Did, inside_after}, proofs.{Making.{inside_after-append, FindsMore-trans, FindsMore-none}, Outcomes.{Makes-lasts}}}
use Rattle.fm_rule_facts.specs.Views.{View}
use Rattle.fm_rule_calls.{specs.{Kept.{KeptAs, rest_of, shape_numbers}, Told.{view_of_pass, silent_view}}, proofs.Telling.{silent_makes}}
use Rattle.fm_gate.specs.Makers.{made_by_pass}
use Rattle.fm_arena.proofs.Lasting.{stays}
use Rattle.fm_script_lines.specs.Runs.{Went, WentOn, RanWith, Ran}

-- with these holds and handles
abbrev with_tokens : List ArenaId → List ArenaId → Rest → Rest
with_tokens holds handles x = record x { holds = holds; handles = handles }

-- By a call of a memory.
pub went_by_memory : (p q : View) (own : List Entry) → Makes (view_of_pass p) (view_of_pass q) own → Went p q own
went_by_memory p q own m = record {
  more = m.all;
  seen = m.told.seen;
  by_pass = m.by_caller;
  quiet = m.told.quiet;
  alone = λ w. m.alone (inr w);
  inside = m.inside;
  finds = m.told.finds;
  same_caller = m.same_caller;
  same_shape = (stays p q own m).shape;
  rest = ap (with_tokens q.holds q.handles) m.told.rest;
}

pub ran_by_memory : {p q : View} {Does : List Entry → Type 0} → Did (view_of_pass p) (view_of_pass q) Does → q.inside ≡ None → Ran p q Does
ran_by_memory {p = p} {q = q} d outside = record {
  own = d.own;
  does = d.does;
  went = went_by_memory p q d.own d.makes;
  same_holds = ap (λ (x : Rest). x.holds) d.makes.told.rest;
  same_handles = ap (λ (x : Rest). x.handles) d.makes.told.rest;
  outside = outside;
  lasts = Makes-lasts (view_of_pass p) (view_of_pass q) d.own d.makes;
}

-- What lasts where the pass tells nothing lasts where it tells.
lasts_told : (p q : View) → Lasts (silent_view p) (silent_view q) → Lasts (view_of_pass p) (view_of_pass q)
lasts_told p q l = record { known = l.known; given = l.given; limit = l.limit; caller = l.caller }

-- By a call of its own, behind which it has these holds and handles.
pub ran_by_pass : {p q : View} {Does : List Entry → Type 0} (holds handles : List ArenaId)
    → KeptAs p q (with_tokens holds handles (rest_of p)) Does → q.inside ≡ None → RanWith p q holds handles Does
ran_by_pass {p = p} {q = q} holds handles k outside =
    let g = k.goes in
    record {
      own = k.own;
      does = k.does;
      went = record {
        more = g.more;
        seen = g.seen;
        by_pass = g.by_pass;
        quiet = g.apart;
        alone = g.alone;
        inside = g.inside;
        finds = g.finds;
        same_caller = g.same_caller;
        same_shape = g.same_shape;
        rest = ap (with_tokens q.holds q.handles) k.rest;
      };
      same_holds = ap (λ (x : Rest). x.holds) k.rest;
      same_handles = ap (λ (x : Rest). x.handles) k.rest;
      outside = outside;
      lasts = lasts_told p q (Makes-lasts (silent_view p) (silent_view q) k.own (silent_makes g));
    }

-- By none.
pub went_none : (p : View) → Went p p []
went_none p = record {
  more = [];
  seen = sym (append-nil p.seen);
  by_pass = refl;
  quiet = λ i g l. refl;
  alone = λ w. refl;
  inside = refl;
  finds = FindsMore-none p.finds;
  same_caller = refl;
  same_shape = refl;
  rest = refl;
}

-- A pass that went on is the maker that it was.
pub went_made : {p q : View} {own : List Entry} → Went p q own → made_by_pass q ≡ made_by_pass p
went_made {p = p} {q = q} w =
    let home : (shape_numbers q.shape ++ q.home) ≡ (shape_numbers p.shape ++ p.home) = ap (λ (x : Rest). x.home) w.rest in
    let is : q.home ≡ p.home = cc in λ j. record { home = is j; caller = w.same_caller j }

pub ran_none : (p : View) (Does : List Entry → Type 0) → p.inside ≡ None → Does [] → Ran p p Does
ran_none p Does outside does = record {
  own = [];
  does = does;
  went = went_none p;
  same_holds = refl;
  same_handles = refl;
  outside = outside;
  lasts = record { known = λ id k. k; given = λ id. omega arith; limit = refl; caller = refl };
}

-- One way after another.
pub went_then : (p q r : View) (es fs : List Entry) → Went p q es → Went q r fs → Went p r (es ++ fs)
went_then p q r es fs a b = record {
  more = a.more ++ b.more;
  seen = b.seen ∙ (ap (λ (xs : List Entry). xs ++ b.more) a.seen ∙ append_assoc p.seen a.more b.more);
  by_pass = filter-append _ a.more b.more ∙ (ap (λ (xs : List Entry). xs ++ made_by p.caller b.more) a.by_pass
      ∙ ap (λ (xs : List Entry). es ++ xs) (ap (λ c. made_by c b.more) (sym a.same_caller) ∙ b.by_pass));
  quiet =
      let same : q.gathered ≡ p.gathered = ap (λ (x : Rest). x.gathered) a.rest in
      let next = subst (λ (gs : List Gathered). All (λ g. made_by g.caller b.more ≡ []) gs) same b.quiet in
      λ i g l. filter-append _ a.more b.more ∙ (ap (λ (xs : List Entry). xs ++ made_by (get_or p.gathered i g).caller b.more) (a.quiet i g l) ∙ next i g l);
  alone = λ w. ap (λ (xs : List Entry). xs ++ b.more) (a.alone w)
      ∙ ap (λ (xs : List Entry). es ++ xs) (b.alone (ap (λ (x : Rest). x.whole) a.rest ∙ w));
  inside = b.inside ∙ (ap (λ i. inside_after i fs) a.inside ∙ sym (inside_after-append p.inside es fs));
  finds = FindsMore-trans p.finds q.finds r.finds a.finds b.finds;
  same_caller = b.same_caller ∙ a.same_caller;
  same_shape = b.same_shape ∙ a.same_shape;
  rest = b.rest ∙ ap (with_tokens r.holds r.handles) a.rest;
}

-- ---- whatever its calls were

pub lasts_then : (p q r : View) → Lasts (view_of_pass p) (view_of_pass q) → Lasts (view_of_pass q) (view_of_pass r) → Lasts (view_of_pass p) (view_of_pass r)
lasts_then p q r a b = record {
  known = λ id k. b.known id (a.known id k);
  given = λ id. let x = a.given id in let y = b.given id in omega (arith, x, y);
  limit = b.limit ∙ a.limit;
  caller = b.caller ∙ a.caller;
}

pub went_on_none : (p : View) → p.inside ≡ None → WentOn p p
went_on_none p outside = record {
  run = [];
  went = went_none p;
  outside = outside;
  lasts = record { known = λ id k. k; given = λ id. omega arith; limit = refl; caller = refl };
}

pub went_on_then : (p q r : View) → WentOn p q → WentOn q r → WentOn p r
went_on_then p q r a b = record {
  run = a.run ++ b.run;
  went = went_then p q r a.run b.run a.went b.went;
  outside = b.outside;
  lasts = lasts_then p q r a.lasts b.lasts;
}
