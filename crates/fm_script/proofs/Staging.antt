-- The first lines, the workers and the last lines over one table, where memory may be wanting to each.
use Rattle.std.specs.{Prelude.{OnOk, Vec}, Result.{is_err}, declared.alloc.Global.{Global}}
use Rattle.std.proofs.Common.{◌≡◌, ◌+◌, ◌≤◌, true, false, List, [], length, length-append, vec_capacity, Result, refl, sym, ap, ◌∙◌, subst, arith}
use Rattle.std.proofs.lemmas.Result.{on_ok_weaker}
use Rattle.fm_arena.specs.Shares.{CanShare}
use Rattle.fm_base.specs.declared.arena_id.ArenaId.{ArenaId}
use Rattle.fm_rule.specs.declared.pool.Pool.{Pool}
use Rattle.fm_rule_facts.specs.Views.{View, IsSound}
use Rattle.fm_words.specs.declared.shape.Shape.{Shape}
use Rattle.fm_script_text.specs.declared.{line.Line.{Line}, who.Who.TheVariants.{First, Last}}
use Rattle.fm_script_lines.specs.declared.{numbers.Numbers.{Numbers}, reply.Reply.{Reply}, standing.Standing.{Standing}, table.Table.{Table}}
use Rattle.fm_script_lines.specs.{Learnt.{AfterLines, CanRunLines, KeepsTable}, Playing.{LinesRan}, Report.{is_first, is_last, lines_by}}
use Rattle.fm_script_lines.{specs.Tokens.{Backs, IsReady}, proofs.Returning.{keeps_then}}
use Rattle.fm_script.specs.{declared.{main_lines.MainLines.{MainLines}, player.Player.{Player}}, Mains.{AfterAll, CanRunAll, CanWork, TakesOver}}
use Rattle.fm_script.specs.{Players.{playing}, Runs.{Worked, names_lent}}
use Rattle.fm_script.proofs.Passing.{Behind, all_many, all_ran, backs_at, first_can, gathered_still, lent_known, not_ok, on_ok, ran_from, ready_backs, ready_none, whole_still}
use Rattle.fm_script.proofs.Running.{all_spelled, in_order_many}

-- The workers did, over what the first lines left of names.
pub worked_over : {F : Type 0} (names : Numbers) (lines : List Line) (q u : View) (tasks players : List Player) {ss own : List Standing} → ss ≡ own
    → (result : Result (Unit {0}) F) → is_err result ≡ false → OnOk result (Worked (playing names lines ss) q u tasks players)
    → Worked (playing names lines own) q u tasks players
worked_over names lines q u tasks players is result ok worked =
    subst (λ (ss : List Standing). Worked (playing names lines ss) q u tasks players) is (on_ok result ok worked)

module _ (pool : Pool) (p : View) (names : Numbers) (lines : List Line) (t : Table) (tasks : List Player) (m : MainLines)
    (can : CanRunAll pool p names lines t tasks m) where
  -- The first lines can be run.
  pub can_first : CanRunLines p t lines First m.firsts
  can_first = record {
    outside = can.outside.outside.outside;
    spelled = all_spelled lines can.can.rules;
    room =
        let none = ap (λ (xs : List Standing). length xs) can.fresh.own in
        let all = in_order_many (length tasks) lines in
        let room = can.fresh.room in
        omega (arith, none, all, room);
    ready = ready_none p t.base.now t.own.items can.fresh.base can.fresh.own;
    no_reply = can.room.no_first;
    answers = can.room.firsts;
  }

  module _ {E : Type 0} (q : View) (one : Table) (firsts : Vec Reply Global) (r : Result (Unit {0}) E)
      (a : AfterLines p q t one (lines_by is_first lines) firsts.items r) where
    backs_first : (holds handles : List ArenaId) → Backs p holds handles [] [] → Backs q holds handles [] one.own.items
    backs_first = backs_at p q t.base.now t.own.items one.own.items can.fresh.base can.fresh.own a.backs

    few : length one.own.items ≤ length (lines_by is_first lines)
    few = let none = ap (λ (xs : List Standing). length xs) can.fresh.own in let many = a.many in omega (arith, none, many)

    -- Memory was wanting to one of them, or to the workers.
    pub all_failed : {F : Type 0} (u : View) (players : List Player) (result : Result (Unit {0}) F) → is_err result ≡ true
        → ((holds handles : List ArenaId) → Backs q holds handles [] one.own.items → Backs u holds handles [] one.own.items) → CanShare pool u
        → AfterAll pool p u names lines t one tasks players m (record m { firsts = firsts }) result
    all_failed u players result e backs share = record {
      ran = not_ok _ result e;
      keeps = a.keeps;
      room = let few = few in let all = in_order_many (length tasks) lines in omega (arith, few, all);
      backs = λ holds handles b. backs holds handles (backs_first holds handles b);
      lent = refl;
      outside = share;
    }

    module _ (ok : is_err r ≡ false) (sound : IsSound q) where
      done : Behind names lines p q one.own.items firsts.items
      done = record {
        first = subst (λ (ns : Numbers). LinesRan p q ns [] 0 [] one.own.items (lines_by is_first lines) firsts.items) can.fresh.names
            (ran_from p q t.names.now t.base.now [] t.start 0 t.own.items [] one.own.items (lines_by is_first lines) firsts.items can.fresh.base
            can.fresh.start can.fresh.own (on_ok r ok a.ran));
        backs = backs_first;
      }

      -- They ran, and the workers can.
      pub can_work : (ss : List Standing) → ss ≡ one.own.items → CanShare pool q → CanWork pool (playing names lines ss) q tasks
      can_work ss is share = subst (λ (xs : List Standing). CanWork pool (playing names lines xs) q tasks) (sym is) (record {
        outside = share;
        can = first_can names lines p q tasks can.can one.own.items firsts.items done;
        whole = whole_still p q can.can.only.whole a.went sound;
        enough =
            let gathered = ap (λ xs. length xs) (gathered_still p q a.went ∙ can.can.only.alone) in
            let shape = ap (λ (z : Shape). z.passes) a.went.went.same_shape in
            let enough = can.can.enough in
            omega (arith, gathered, shape, enough);
      })

      module _ (u : View) (players : List Player) (w : Worked (playing names lines one.own.items) q u tasks players)
          (backs : (holds handles : List ArenaId) (base own : List Standing) → Backs q holds handles base own → Backs u holds handles base own) where
        many : length one.own.items + (length (names_lent players) + length (lines_by is_last lines)) ≤ vec_capacity one.own
        many =
            let all = all_many names lines p q tasks can.can one.own.items firsts.items done u players w in
            let room = can.fresh.room in
            let same = a.keeps.room in
            omega (arith, all, room, same)

        -- They did, and there is room for their names.
        pub over_room : length one.own.items + length (names_lent players) ≤ vec_capacity one.own
        over_room = let many = many in omega (arith, many)

        module _ (two : Table) (over : TakesOver one two players) where
          kept : KeepsTable t two
          kept = keeps_then a.keeps over.keeps

          none : two.base.now ≡ []
          none = (λ i. (kept.base i).now) ∙ can.fresh.base

          over_backs : (holds handles : List ArenaId) → Backs p holds handles [] [] → Backs u holds handles [] two.own.items
          over_backs holds handles b =
              let base : one.base.now ≡ [] = (λ i. (a.keeps.base i).now) ∙ can.fresh.base in
              subst (λ (bs : List Standing). Backs u holds handles bs two.own.items) base
              (over.backs u holds handles (subst (λ (bs : List Standing). Backs u holds handles bs one.own.items) (sym base)
              (backs holds handles [] one.own.items (backs_first holds handles b)))
              (lent_known names lines p q tasks can.can one.own.items firsts.items done u players w sound))

          -- The last lines can be run.
          pub can_last : CanShare pool u → CanRunLines u two lines Last m.lasts
          can_last share = record {
            outside = share.outside.outside;
            spelled = all_spelled lines can.can.rules;
            room =
                let many = many in
                let long = ap (λ (xs : List Standing). length xs) over.own in
                let parts = length-append one.own.items (names_lent players) in
                let same = over.keeps.room in
                omega (arith, many, long, parts, same);
            ready = subst (λ (bs : List Standing). IsReady u bs two.own.items) (sym none) (ready_backs p u two.own.items over_backs);
            no_reply = can.room.no_last;
            answers = can.room.lasts;
          }

          -- They ran too, or memory was wanting to one.
          pub all_after : {F : Type 0} (v : View) (three : Table) (lasts : Vec Reply Global) (result : Result (Unit {0}) F)
              → AfterLines u v two three (lines_by is_last lines) lasts.items result → CanShare pool v
              → AfterAll pool p v names lines t three tasks players m (record m { firsts = firsts; lasts = lasts }) result
          all_after v three lasts result b share = record {
            ran = on_ok_weaker result
                (λ l. all_ran names lines p q tasks can.can one.own.items firsts.items done u players w v two.base.now two.start two.own.items
                three.own.items lasts.items none (kept.start ∙ can.fresh.start) over.own a.went sound
                (subst (λ (ns : Numbers). LinesRan u v ns two.base.now two.start two.own.items three.own.items (lines_by is_last lines) lasts.items)
                ((λ i. (kept.names i).now) ∙ can.fresh.names) l))
                b.ran;
            keeps = keeps_then kept b.keeps;
            room =
                let all = all_many names lines p q tasks can.can one.own.items firsts.items done u players w in
                let long = ap (λ (xs : List Standing). length xs) over.own in
                let parts = length-append one.own.items (names_lent players) in
                let most = b.many in
                omega (arith, all, long, parts, most);
            backs = λ holds handles x. subst (λ (bs : List Standing). Backs v holds handles bs three.own.items) none
                (b.backs holds handles (subst (λ (bs : List Standing). Backs u holds handles bs two.own.items) (sym none) (over_backs holds handles x)));
            lent = refl;
            outside = share;
          }
