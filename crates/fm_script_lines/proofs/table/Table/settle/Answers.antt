use Rattle.std.proofs.Common.{◌≡◌, ◌∷◌, ◌++◌, ℕ, ◌-◌, take, ap, All, arith, length, length-append, List, [], refl, subst, sym, ◌∙◌, map, reverse}
use Rattle.std.proofs.lemmas.List.{append-nil}
use Rattle.fm_script_lines.specs.{declared.{bound.Bound.{Bound}, standing.Standing.{Standing}}, Standings.{IsSpent, lent, standing_as}, Tokens.{Backs}}
use Rattle.fm_script_lines.proofs.Ending.{all_popped, backs_gone, backs_popped, can_spend, others_popped, turned}
use Rattle.fm_script_lines.proofs.Going.{went_made, went_on_none, went_on_then}
use Rattle.fm_script_lines.proofs.table.Table.settle.Goals as goal

pub loop-standing-init : goal.loop-standing-init
loop-standing-init g c = record {
  ready = c.requires.ready;
  left = λ holds handles b. b;
  spent = λ all. (refl, all);
  went = went_on_none c.args.m.now c.requires.outside;
  room = let none = ap (λ (xs : List Bound). length xs) c.requires.no_other in let room = c.requires.room in omega (arith, none, room);
  others = ap (λ (xs : List Bound). map standing_as xs ++ reverse (map lent c.args.self.own.items)) c.requires.no_other;
}

pub spend-requires : goal.spend-requires
spend-requires g c =
    let m = c.loop-standing.m in
    let i = c.loop-standing.invariant in
    let r = i.ready in
    let base : List Standing = c.args.self.base.now in
    record {
      outside = i.went.outside;
      can = can_spend m base c.pop.new.self.items c.in-Some.standing
          (subst (λ (xs : List Standing). Backs m r.other_holds r.other_handles base xs) c.in-Some.ensures.items r.backs);
    }

pub loop-standing-preserved : goal.loop-standing-preserved
loop-standing-preserved g c =
    let m = c.loop-standing.m in
    let next = c.spend.new.m in
    let i = c.loop-standing.invariant in
    let r = i.ready in
    let base : List Standing = c.args.self.base.now in
    let rest : List Standing = c.pop.new.self.items in
    let s : Standing = c.in-Some.standing in
    let others : List Bound = c.loop-standing.others.items in
    let e = c.spend.ensures in
    let pushed = c.push_reserved.ensures in
    record {
      ready = record {
        other_holds = r.other_holds;
        other_handles = r.other_handles;
        backs = backs_popped m next base rest s
            (subst (λ (xs : List Standing). Backs m r.other_holds r.other_handles base xs) c.in-Some.ensures.items r.backs) e.went.lasts
            (went_made e.went.went) e.holds e.handles;
      };
      left = λ holds handles b. backs_popped m next base rest s
          (subst (λ (xs : List Standing). Backs m holds handles base xs) c.in-Some.ensures.items (i.left holds handles b)) e.went.lasts
          (went_made e.went.went) e.holds e.handles;
      spent = λ all.
          let so_far = i.spent all in
          let parts = all_popped IsSpent rest s (subst (λ (xs : List Standing). All IsSpent xs) c.in-Some.ensures.items so_far.1) in
          (e.spent parts.1 ∙ so_far.0, parts.0);
      went = went_on_then c.args.m.now m next i.went e.went;
      room =
          let here = i.room in
          let one = ap (λ (xs : List Bound). length xs) pushed.items in
          let more = length-append others (c.spend.result ∷ []) in
          let less = ap (λ (xs : List Standing). length xs) c.in-Some.ensures.items in
          let last = length-append rest (s ∷ []) in
          let same = pushed.capacity in
          omega (arith, here, one, more, less, last, same);
      others =
          ap (λ (xs : List Bound). map standing_as xs ++ reverse (map lent rest)) pushed.items
          ∙ (others_popped others c.spend.result rest s e.lent
          ∙ (ap (λ (xs : List Standing). map standing_as others ++ reverse (map lent xs)) (sym c.in-Some.ensures.items) ∙ i.others));
    }

pub returns : goal.returns
returns g c =
    let own : List Standing = c.loop-standing.own.items in
    let others : List Bound = c.loop-standing.others.items in
    let all : List Standing = c.args.self.own.items in
    let i = c.loop-standing.invariant in
    let e = c.in_default.ensures in
    let none : own ≡ [] = e.items ∙ (append-nil c.pop.new.self.items ∙ (e.rest ∙ ap (λ (k : ℕ). take (k - 1) own) e.cases.0)) in
    record {
      spent = λ all. (i.spent all).0;
      left = λ holds handles b. backs_gone c.loop-standing.m holds handles c.args.self.base.now own (i.left holds handles b) none;
      went = i.went;
      others = ap (λ (xs : List Bound). map standing_as xs) c.reverse.ensures.items
          ∙ turned others own all none i.others;
    }
