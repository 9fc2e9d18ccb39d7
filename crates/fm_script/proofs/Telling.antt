-- What a script's passes did is its report.
use Rattle.std.proofs.Common.{◌≡◌, ℕ, ◌+◌, ◌<◌, ◌≤◌, Bool, true, false, if◌then◌else◌, List, [], ◌∷◌, ◌++◌, length, map, Option}
use Rattle.std.proofs.Common.{length-append, append_assoc, refl, sym, ap, ◌∙◌, subst, arith, inl, inr}
use Rattle.std.{specs.List.{AllByRecursion, flat_map}, proofs.lemmas.List.{length-map, get_or_past, map-append}}
use Rattle.fm_base.specs.{declared.caller.Caller.{Caller}, Arenas.{are_one}, Calls.{Entry}, Finds.{Gathered}, Histories.{IsLegal, made_by}}
use Rattle.fm_base.proofs.Names.{are_one-true}
use Rattle.fm_base_lists.{specs.Among.{IsAmong, AreApart}, proofs.Each.{all_among, all_weaker}}
use Rattle.fm_words.specs.declared.shape.Shape.{Shape}
use Rattle.fm_rule_facts.{specs.{Hands.{last_term}, Views.{View, In, IsSound, limit_of}}, proofs.Keeping.{in_right}}
use Rattle.fm_rule_calls.specs.Kept.{rest_of}
use Rattle.fm_arena.specs.Opening.{HasNoSlot}
use Rattle.fm_script_text.specs.{declared.line.Line.{Line}, Scripts.{ScriptOf}}
use Rattle.fm_script_lines.specs.declared.{numbers.Numbers.{Numbers}, reply.Reply.{Reply}, standing.Standing.{Standing, TheVariants.{Nothing}}}
use Rattle.fm_script_lines.specs.{Numbers.{number_at, number_from}, Ordering.{in_order, worker_lines}}
use Rattle.fm_script_lines.specs.Report.{AreDrawn, Done, Played, AreRun, AreWorked, IsCut, IsReport, all_done, gathered_names, is_first, lines_by, lines_of, lent_names, names_after, none_stands, number_of, runs, worked}
use Rattle.fm_script_lines.{specs.{Pages.{HavePages}, Slots.{HaveSlots, OpenRightly}, Standings.{Names, lent, standing_at}}, proofs.Lent.{stays_lent}}
use Rattle.fm_script_lines.proofs.{Opening.{no_slot_still}, Rows.{ran_many}}
use Rattle.fm_script_lines.specs.Report as report
use Rattle.fm_script_laws.{specs.Slots.{FindsTold}, proofs.Workers.{workers_find}}
use Rattle.fm_workers_crew.specs.Crew.{CrewGathered, IsFresh, callers as crew_callers}
use Rattle.fm_script.specs.{declared.player.Player.{Player}, Players.{playing}, Runs.{AllRan, CanRun, names_lent}}
use Rattle.fm_script.proofs.{Finding.{all_told, callers_gathered, none_held}, After.{lent_next, made_lent}, Gathered.{gathered_table, plain_at}}
use Rattle.fm_script.proofs.{Paged.{have_pages}, Reported.{Reported, start_at, worked_lines}, Running.{workers_of}}

-- The entries of one caller are its own.
own_kept : (c : Caller) (es : List Entry) → AllByRecursion (λ e. e.caller ≡ c) (made_by c es)
own_kept c [] = tt
own_kept c (e ∷ es) = go (are_one e.caller c) refl (own_kept c es)
  where
    go : (b : Bool) → are_one e.caller c ≡ b → AllByRecursion (λ x. x.caller ≡ c) (made_by c es)
        → AllByRecursion (λ x. x.caller ≡ c) (if b then e ∷ made_by c es else made_by c es)
    go true one rest = (are_one-true e.caller c one, rest)
    go false one rest = rest

pub only_own : (c : Caller) (es own : List Entry) → made_by c es ≡ own → es ≡ own → AllByRecursion (λ e. e.caller ≡ c) es
only_own c es own by same = subst (λ (xs : List Entry). AllByRecursion (λ e. e.caller ≡ c) xs) (by ∙ sym same) (own_kept c es)

module _ (names : Numbers) (lines : List Line) (old new : View) (tasks players : List Player) (own : List Standing) (firsts lasts : List Reply)
    (can : CanRun names lines old tasks) (all : AllRan names lines old new tasks players own firsts lasts) where
  abbrev crew : CrewGathered all.before all.between
  crew = all.worked.crew.crew

  abbrev first_names : List Standing
  first_names = all.first_names

  abbrev first_dones : List Done
  first_dones = all.first.dones

  abbrev last_dones : List Done
  last_dones = all.last.dones

  pub as_many_first : length first_names ≡ length (lines_by is_first lines)
  as_many_first = let many = ran_many all.first in omega (arith, many)

  abbrev pub workers : Reported (playing names lines first_names) crew.more 0 crew.passes tasks players
  workers = workers_of names lines old tasks can all.before first_names as_many_first crew.more crew.passes players
      all.worked.crew.ends all.worked.played

  abbrev pub the_played : Played
  the_played = record { main = old.caller; firsts = first_dones; players = workers.ps; lasts = last_dones }

  -- ---- their order and their numbers

  count_first : length first_names ≡ length first_dones
  count_first = let one = all.first.many in omega (arith, one)

  pub in_printing : lines_of (all_done the_played) ≡ in_order (length tasks) lines
  in_printing =
      map-append (λ (d : Done). d.line) first_dones (worked workers.ps ++ last_dones)
      ∙ (ap (λ (xs : List Line). lines_of first_dones ++ xs) (map-append (λ (d : Done). d.line) (worked workers.ps) last_dones)
      ∙ (λ i. all.first.are i ++ (worked_is i ++ all.last.are i)))
    where
      worked_is : lines_of (worked workers.ps) ≡ worker_lines (length tasks) 1 lines
      worked_is = worked_lines lines 1 workers.ps workers.lines ∙ ap (λ (n : ℕ). worker_lines n 1 lines) workers.many

  pub same_number : number_at names ≡ number_of the_played
  same_number = λ i name. (can.numbers name ∙ ap (λ (ls : List Line). number_from 0 ls name) (sym in_printing)) i

  -- ---- what names stood for

  none_is : standing_at [] 0 [] ≡ none_stands
  none_is = λ i n. (plain_at [] n ∙ get_or_past [] n Nothing (omega arith)) i

  abbrev behind_firsts : Names
  behind_firsts = names_after (number_of the_played) 0 first_dones none_stands

  first_at : (n : ℕ) → standing_at [] 0 first_names n ≡ behind_firsts n
  first_at n =
      (λ j. all.first.stands j n)
      ∙ (ap (λ (f : List ℕ → Option ℕ). names_after f 0 first_dones (standing_at [] 0 []) n) same_number
      ∙ ap (λ (ns : Names). names_after (number_of the_played) 0 first_dones ns n) none_is)

  gathered_at : standing_at [] 0 (first_names ++ names_lent players)
      ≡ gathered_names (number_of the_played) (length first_dones) workers.ps behind_firsts
  gathered_at = λ i n.
      (gathered_table (number_of the_played) behind_firsts first_names (names_lent players) workers.ps workers.lent first_at n
      ∙ ap (λ (m : ℕ). gathered_names (number_of the_played) m workers.ps behind_firsts n) count_first) i

  -- ---- callers and entries

  wholly : all.between.whole ≡ true
  wholly = crew.whole all.whole

  caller_before : all.before.caller ≡ old.caller
  caller_before = all.first.went.same_caller

  caller_between : all.between.caller ≡ old.caller
  caller_between = ap (λ (v : View). v.caller) crew.is ∙ caller_before

  crew_called : map (λ (w : report.Player). w.caller) workers.ps ≡ crew_callers crew.crew
  crew_called = workers.callers ∙ (callers_gathered crew.passes ∙ ap (λ (gs : List Gathered). crew_callers gs) (sym crew.are_passes))

  apart : AreApart (report.callers the_played)
  apart = (
    (λ i. let among = subst (λ (cs : List Caller). IsAmong old.caller cs) crew_called i in
        (all_among (IsFresh all.before) old.caller (crew_callers crew.crew) crew.fresh among).other (inl (sym caller_before))),
    subst AreApart (sym crew_called) crew.distinct,
  )

  -- The first pass drew them, each with a number of the pool and a term that numbers can have.
  are_drawn : AreDrawn old.shape.passes the_played
  are_drawn =
      let shape : all.before.shape.passes ≡ old.shape.passes = ap (λ (z : Shape). z.passes) all.first.went.same_shape in
      record {
        first = can.only.first;
        numbers = subst (λ (cs : List Caller). AllByRecursion (λ c. c.number < old.shape.passes) cs) (sym crew_called)
            (all_weaker (IsFresh all.before) (λ c. c.number < old.shape.passes) (λ c f. let few = f.number in omega (arith, few, shape))
            (crew_callers crew.crew) crew.fresh);
        terms = subst (λ (cs : List Caller). AllByRecursion (λ c. c.term ≤ last_term) cs) (sym crew_called)
            (all_weaker (IsFresh all.before) (λ c. c.term ≤ last_term) (λ c f. f.term) (crew_callers crew.crew) crew.fresh);
      }

  begun : all.before.seen ≡ all.first.went.more
  begun = all.first.went.seen ∙ ap (λ (es : List Entry). es ++ all.first.went.more) can.only.unused

  abbrev cut : IsCut new.seen the_played
  cut =
      let first = all.first.went in
      let last = all.last.went in
      let by_main : made_by old.caller last.more ≡ runs last_dones =
      subst (λ (c : Caller). made_by c last.more ≡ runs last_dones) caller_between last.by_pass in
      record {
        before = first.more;
        between = crew.more;
        after = last.more;
        parts = last.seen ∙ (ap (λ (es : List Entry). es ++ last.more) (crew.seen ∙ ap (λ (es : List Entry). es ++ crew.more) begun)
            ∙ append_assoc first.more crew.more last.more);
        firsts = first.by_pass;
        lasts = by_main;
        players = workers.entries;
        only_firsts = only_own old.caller first.more (runs first_dones) first.by_pass (first.alone can.only.whole.whole);
        only_workers = subst (λ (cs : List Caller). AllByRecursion (λ e. IsAmong e.caller cs) crew.more) (sym crew_called) (crew.alone all.whole);
        only_lasts = only_own old.caller last.more (runs last_dones) by_main (last.alone wholly);
      }

  -- ---- slots

  no_slot : HasNoSlot all.between
  no_slot =
      let firsts = no_slot_still all.first.went can.only.no_slot in
      record { sweeps = ap (λ (v : View). v.sweeps) crew.is ∙ firsts.sweeps; slots = ap (λ (v : View). (rest_of v).slots) crew.is ∙ firsts.slots }

  sound_between : IsSound all.between
  sound_between = all.worked.crew.still_sound all.whole.sound

  seen_between : all.between.seen ≡ cut.before ++ cut.between
  seen_between = crew.seen ∙ ap (λ (es : List Entry). es ++ crew.more) begun

  workers_told : AllByRecursion (FindsTold all.between.shape all.between.seen) workers.ps
  workers_told =
      all_told all.before all.between crew.more crew.seen
      (λ g f i j step none. sound_between.none_left wholly (none_held all.between.hand no_slot.slots) g.caller f (inr (g, i, refl, j))
      step none)
      crew.passes workers.ps workers.found
      (subst (λ (gs : List Gathered). AllByRecursion (IsFresh all.before) (crew_callers gs)) crew.are_passes crew.fresh) crew.within workers.entries
      (λ g i. subst (λ (gs : List Gathered). In g gs) (sym (ap (λ (v : View). v.gathered) crew.is))
      (in_right g all.before.gathered crew.crew (subst (λ (gs : List Gathered). In g gs) (sym crew.are_passes) i)))

  -- ---- the report

  abbrev number : List ℕ → Option ℕ
  number = number_of the_played

  first_calls : AreRun old.caller number 0 none_stands first_dones
  first_calls =
      subst (λ (ns : Names). AreRun old.caller number 0 ns first_dones) none_is
      (subst (λ (f : List ℕ → Option ℕ). AreRun old.caller f 0 (standing_at [] 0 []) first_dones) same_number all.first.calls)

  start_is : start_at lines 0 ≡ length first_dones
  start_is =
      let more = length-append (lines_by is_first lines) (worker_lines 0 1 lines) in
      let same : length (lines_of first_dones) ≡ length (lines_by is_first lines) = ap (λ (xs : List Line). length xs) all.first.are in
      let mapped = length-map first_dones (λ (d : Done). d.line) in
      omega (arith, more, same, mapped)

  worker_calls : AreWorked number (length first_dones) (lent_names behind_firsts) workers.ps
  worker_calls =
      subst (λ (ns : Names). AreWorked number (length first_dones) ns workers.ps) (λ i n. lent (first_at n i))
      (subst (λ (n : ℕ). AreWorked number n (lent_names (standing_at [] 0 first_names)) workers.ps) start_is
      (subst (λ (f : List ℕ → Option ℕ). AreWorked f (start_at lines 0) (lent_names (standing_at [] 0 first_names)) workers.ps) same_number
      workers.calls))

  have_slots : HaveSlots old.shape the_played cut
  have_slots =
      let same : all.between.shape ≡ old.shape = ap (λ (v : View). v.shape) crew.is ∙ all.first.went.same_shape in
      record {
        firsts = subst (λ (es : List Entry). OpenRightly old.shape es first_dones) can.only.unused
            (all.first.exact can.only.whole.whole can.only.no_slot);
        workers = workers_find old.shape new.seen the_played cut number 0 (length first_dones) none_stands (lent_names behind_firsts)
            first_calls worker_calls
            (subst (λ (z : Shape). IsLegal (limit_of z) [] (cut.before ++ cut.between)) same
            (subst (λ (es : List Entry). IsLegal (limit_of all.between.shape) [] es) seen_between sound_between.legal))
            (subst (λ (z : Shape). AllByRecursion (FindsTold z (cut.before ++ cut.between)) workers.ps) same
            (subst (λ (es : List Entry). AllByRecursion (FindsTold all.between.shape es) workers.ps) seen_between workers_told));
        lasts = subst (λ (z : Shape). OpenRightly z (cut.before ++ cut.between) last_dones) same
            (subst (λ (es : List Entry). OpenRightly all.between.shape es last_dones) seen_between (all.last.exact wholly no_slot));
      }

  module _ (s : ScriptOf) (same_lines : s.lines ≡ lines) (of_shape : old.shape ≡ s.shape) (passes : 1 + length tasks ≡ s.shape.passes) where
    pub is_report : IsReport s new.seen the_played
    is_report =
        let here : length first_dones + length (worked workers.ps) ≡ 0 + length (first_names ++ names_lent players) =
        let more = length-append first_names (names_lent players) in
        let lent = ap (λ (xs : List Standing). length xs) workers.lent ∙ length-map (worked workers.ps) made_lent in
        let one = count_first in
        omega (arith, more, lent, one) in
        record {
          lines = subst (λ (ls : List Line). report.AreLinesOf (record { shape = s.shape; lines = ls }) the_played) (sym same_lines)
              (record { firsts = all.first.are; many = ap (λ (n : ℕ). 1 + n) workers.many ∙ passes; workers = workers.lines; lasts = all.last.are });
          drawn = subst (λ (z : Shape). AreDrawn z.passes the_played) of_shape are_drawn;
          apart = apart;
          cut = cut;
          first_calls = first_calls;
          worker_calls = worker_calls;
          last_calls = subst (λ (ns : Names). AreRun old.caller number (length first_dones + length (worked workers.ps)) ns last_dones) gathered_at
              (subst (λ (n : ℕ). AreRun old.caller number n (standing_at [] 0 (first_names ++ names_lent players)) last_dones) (sym here)
              (subst (λ (f : List ℕ → Option ℕ). AreRun old.caller f (0 + length (first_names ++ names_lent players))
              (standing_at [] 0 (first_names ++ names_lent players)) last_dones) same_number
              (subst (λ (c : Caller). AreRun c (number_at names) (0 + length (first_names ++ names_lent players))
              (standing_at [] 0 (first_names ++ names_lent players)) last_dones) caller_between all.last.calls)));
          slots = subst (λ (z : Shape). HaveSlots z the_played cut) of_shape have_slots;
          pages = subst (λ (z : Shape). HavePages z the_played cut) of_shape
              (have_pages can all workers.ps cut refl workers.found workers.entries wholly no_slot);
        }

  -- All replies.
  pub replies_are : firsts ++ (flat_map (λ (u : Player). u.replies.items) players ++ lasts) ≡ map (λ d. d.reply) (all_done the_played)
  replies_are =
      (λ i. sym all.first.replied i ++ (workers.replies i ++ sym all.last.replied i))
      ∙ (ap (λ (xs : List Reply). map (λ (d : Done). d.reply) first_dones ++ xs) (sym (map-append (λ (d : Done). d.reply) (worked workers.ps) last_dones))
      ∙ sym (map-append (λ (d : Done). d.reply) first_dones (worked workers.ps ++ last_dones)))

  -- All callers.
  pub callers_are : old.caller ∷ map (λ (u : Player). u.caller) players ≡ report.callers the_played
  callers_are = ap (λ (cs : List Caller). old.caller ∷ cs) (workers.told ∙ sym workers.callers)

  -- What all names stand for to others.
  pub lent_are : map lent own ≡ map made_lent (all_done the_played)
  lent_are =
      lent_next all.last (omega arith)
      ∙ (ap (λ (xs : List Standing). xs ++ map made_lent last_dones)
      (map-append lent first_names (names_lent players)
      ∙ (λ i. lent_next all.first (omega arith) i ++ lent_workers i))
      ∙ (append_assoc (map made_lent first_dones) (map made_lent (worked workers.ps)) (map made_lent last_dones)
      ∙ (ap (λ (xs : List Standing). map made_lent first_dones ++ xs) (sym (map-append made_lent (worked workers.ps) last_dones))
      ∙ sym (map-append made_lent first_dones (worked workers.ps ++ last_dones)))))
    where
      twice : (ds : List Done) → map lent (map made_lent ds) ≡ map made_lent ds
      twice [] = refl
      twice (d ∷ ds) = λ i. (stays_lent d.made).twice i ∷ twice ds i

      lent_workers : map lent (names_lent players) ≡ map made_lent (worked workers.ps)
      lent_workers = ap (λ (xs : List Standing). map lent xs) workers.lent ∙ twice (worked workers.ps)
