use Rattle.std.proofs.Common.{◌≡◌, ◌+◌, ◌∷◌, ◌++◌, All, List, [], length, length-append, map, take, append_assoc, ap, sym, ◌∙◌, subst, arith}
use Rattle.std.proofs.lemmas.List.{map-append, take_all, take_more}
use Rattle.fm_script_lines.specs.{declared.{bound.Bound.{Bound}, standing.Standing.{Standing}}, Standings.{IsBacked, standing_as}, Tokens.{Backs}}
use Rattle.fm_script_lines.proofs.{Backing.{backs_lent}, Ending.{all_popped}}
use Rattle.fm_script_lines.proofs.table.Table.take_over.Goals as goal

pub loop-other-preserved : goal.loop-other-preserved
loop-other-preserved c =
    let i = c.loop-other.invariant in
    let k = c.loop-other.other-index in
    let all : List Bound = c.args.others.now in
    let o : Bound = c.other-item.result in
    let own : List Standing = c.loop-other.self.own.items in
    let was : List Standing = c.args.self.now.own.items in
    let next : List Standing = c.push_reserved.new.self.items in
    let pushed : next ≡ own ++ standing_as o ∷ [] = c.push_reserved.ensures.items ∙ ap (λ (s : Standing). own ++ s ∷ []) c.standing.ensures in
    let more : map standing_as (take (k + 1) all) ≡ map standing_as (take k all) ++ standing_as o ∷ [] =
    ap (λ (xs : List Bound). map standing_as xs) (take_more all k o c.loop-other-test.true ∙ ap (λ (x : Bound). take k all ++ x ∷ []) (sym c.other-item.is))
    ∙ map-append standing_as (take k all) (o ∷ []) in
    record {
      keeps = record { names = i.keeps.names; base = i.keeps.base; start = i.keeps.start; room = c.push_reserved.ensures.capacity ∙ i.keeps.room };
      room =
          let room = i.room in let below = c.loop-other-test.true in let same = c.push_reserved.ensures.capacity in
          let one = ap (λ (xs : List Standing). length xs) pushed in let long = length-append own (standing_as o ∷ []) in
          omega (arith, room, below, same, one, long);
      own = pushed ∙ (ap (λ (xs : List Standing). xs ++ standing_as o ∷ []) i.own
          ∙ (append_assoc was (map standing_as (take k all)) (standing_as o ∷ []) ∙ ap (λ (xs : List Standing). was ++ xs) (sym more)));
      backs = λ p holds handles b known.
          let parts = all_popped (IsBacked p) (map standing_as (take k all)) (standing_as o)
          (subst (λ (xs : List Standing). All (IsBacked p) xs) more known) in
          subst (λ (xs : List Standing). Backs p holds handles c.args.self.now.base.now xs) (sym pushed)
          (backs_lent p o (i.backs p holds handles b parts.0) parts.1);
    }

pub returns-clause-backs : goal.returns-clause-backs
returns-clause-backs c p holds handles b known =
    c.loop-other.invariant.backs p holds handles b
    (subst (λ (xs : List Bound). All (IsBacked p) (map standing_as xs))
    (sym (take_all c.loop-other.other-index c.args.others.now c.loop-other-test.false)) known)
