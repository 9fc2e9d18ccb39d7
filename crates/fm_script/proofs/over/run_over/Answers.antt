use Rattle.std.{specs.{Prelude.{OnOk, Vec, vec_capacity}, declared.alloc.Global.{Global}}, proofs.Common.{◌≡◌, ◌∙◌, ℕ, List, [], Result, ap, arith, subst, sym}}
use Rattle.fm_rule_facts.specs.Views.{View}
use Rattle.fm_script_lines.specs.{declared.{bound.Bound.{Bound}, standing.Standing.{Standing}}, Learnt.{CanSettle, IsFresh}, Tokens.{IsReady}}
use Rattle.fm_script.{specs.{declared.player.Player.{Player}, Mains.{HasRoom}, Runs.{AllRan}}, proofs.Outside.{shares_still}}
use Rattle.fm_script.proofs.Passing.{all_spent, ran_settled, ready_backs}
use Rattle.fm_script.proofs.over.run_over.Goals as goal

pub run_all-pass-requires-clause-can : goal.run_all-pass-requires-clause-can
run_all-pass-requires-clause-can g c κs within = record {
  outside = c.requires.outside;
  can = c.requires.can;
  fresh = subst (λ (n : ℕ). IsFresh c.args.names.now [] 0 n c.in-Ok-new.table) c.requires.all c.in-Ok-new.ensures;
  room = subst (λ (n : ℕ). HasRoom c.args.lines.now n c.in-Ok.main) c.requires.all c.in-Ok.ensures;
}

pub settle-requires : goal.settle-requires
settle-requires g c =
    let q = c.run_all-pass.result.0 in
    let t = c.run_all-pass.new.table in
    let a = c.run_all-pass.ensures in
    let base : t.base.now ≡ [] = (λ i. (a.keeps.base i).now) ∙ c.in-Ok-new.ensures.base in
    subst (λ (p : View). CanSettle p t c.run_all-pass.new.main.lent) (sym c.new-memory.ensures) (record {
      outside = a.outside.outside.outside;
      ready = subst (λ (bs : List Standing). IsReady q bs t.own.items) (sym base) (ready_backs c.args.pass q t.own.items a.backs);
      no_other = ap (λ (v : Vec Bound Global). v.items) a.lent ∙ c.in-Ok.ensures.no_name;
      room =
          let few = a.room in
          let all = c.requires.all in
          let room = c.in-Ok.ensures.lent in
          let same = ap (λ (v : Vec Bound Global). vec_capacity v) a.lent in
          omega (arith, few, all, room, same);
    })

pub returns-in-Ok-ran-clause-ran : goal.returns-in-Ok-ran-clause-ran
returns-in-Ok-ran-clause-ran g c =
    let names = c.args.names.now in
    let lines = c.args.lines.now in
    let p = c.args.pass in
    let q = c.run_all-pass.result.0 in
    let tasks : List Player = c.args.players.now.items in
    let players : List Player = c.run_all-pass.new.players.items in
    let own : List Standing = c.run_all-pass.new.table.own.items in
    let main = c.run_all-pass.new.main in
    let all = subst (λ (r : Result (Unit {0}) _). OnOk r (AllRan names lines p q tasks players own main.firsts.items main.lasts.items)) c.in-Ok-ran.is
    c.run_all-pass.ensures.ran in
    let still = c.settle.ensures.spent (all_spent names lines p q tasks players own main.firsts.items main.lasts.items c.requires.can all) in
    record {
      own = own;
      all = ran_settled names lines p q tasks players own main.firsts.items main.lasts.items c.requires.can c.into_pass-pass.result
          (c.into_pass-pass.ensures.same ∙ (still ∙ c.new-memory.ensures)) all;
      lent_names = c.settle.ensures.others;
    }

pub returns-in-Ok-ran-clause-outside : goal.returns-in-Ok-ran-clause-outside
returns-in-Ok-ran-clause-outside g c =
    shares_still c.args.pool.now c.run_all-pass.result.0 c.new-memory.result c.settle.new.m c.into_pass-pass.result c.new-memory.ensures
    c.settle.ensures.went.went c.into_pass-pass.ensures c.run_all-pass.ensures.outside.outside.of

pub returns-in-Err-ran-clause-outside : goal.returns-in-Err-ran-clause-outside
returns-in-Err-ran-clause-outside g c =
    shares_still c.args.pool.now c.run_all-pass.result.0 c.new-memory.result c.settle.new.m c.into_pass-pass.result c.new-memory.ensures
    c.settle.ensures.went.went c.into_pass-pass.ensures c.run_all-pass.ensures.outside.outside.of
