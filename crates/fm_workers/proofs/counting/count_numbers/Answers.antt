use Rattle.std.{proofs.{Common.{◌≡◌, ◌++◌, ◌∷◌, [], take, subst, sym, length-append, arith}, lemmas.{Grind.{common_steps}, Int.{to_z-of_z}}}, specs.Int.{w64}}
use Rattle.std.proofs.lemmas.List.{append-nil}
use Rattle.fm_workers.{specs.Counts.{AreCounts, number_of}, proofs.Numbers.{how_many-most, length_take, taken_more}}
use Rattle.fm_workers.proofs.counting.count_numbers.Goals as goal

pub loop-i-init : goal.loop-i-init
loop-i-init c ns h = subst (λ ms. AreCounts ms c.args.counts.now) (sym (append-nil ns)) h

pub count-requires : goal.count-requires
count-requires c κs below =
    let ns = c.requires.before in
    let h = (c.loop-i.invariant ns c.requires.are).each κs below in
    let most = how_many-most (number_of κs) (ns ++ take c.loop-i.i c.args.numbers.now) in
    let both = length-append ns (take c.loop-i.i c.args.numbers.now) in
    let short = length_take c.loop-i.i c.args.numbers.now in
    let few = c.requires.few in
    omega (arith, h, most, both, short, few)

pub loop-i-preserved : goal.loop-i-preserved
loop-i-preserved c ns h =
    let same = to_z-of_z w64 c.at.result (record { sfits = c.at.type_inv }) in
    taken_more ns c.args.numbers.now c.loop-i.i c.at.result c.count.new.self (omega (arith, c.loop-i-test.true)) c.at.ensures
    (subst (λ x. AreCounts ((ns ++ take c.loop-i.i c.args.numbers.now) ++ x ∷ []) c.count.new.self) same
    (c.count.ensures (ns ++ take c.loop-i.i c.args.numbers.now) (c.loop-i.invariant ns h)))

pub returns : goal.returns
returns c ns h =
    let all : take c.loop-i.i c.args.numbers.now ≡ c.args.numbers.now = grind (arith, common_steps) in
    subst (λ ms. AreCounts (ns ++ ms) c.loop-i.counts) all (c.loop-i.invariant ns h)
