use Rattle.std.{proofs.Common.{◌≡◌, List, ℕ, true, false, ap, subst, take, ◌∙◌}, specs.Prelude.{IfSome, IsSome}}
use Rattle.fm_base.specs.{declared.arena_id.ArenaId.{ArenaId}, Arenas.{State, arena_of, has_arena}}
use Rattle.fm_rule_facts.specs.Views.{state_in}
use Rattle.fm_rule.specs.GivenBytes.{given_bytes}
use Rattle.fm_top_pooled.proofs.Filed.{state_left, taken_all}
use Rattle.fm_top_pooled.proofs.loading.take_out.Goals as goal

pub take_apart-finished-requires : goal.take_apart-finished-requires
take_apart-finished-requires c =
    let lone = c.requires.lone in
    record { of = lone.outside.of; whole = lone.whole; no_slot = lone.outside.no_slot }

pub bytes_of-requires : goal.bytes_of-requires
bytes_of-requires c =
    let pass = c.args.stock.pass in
    let is = state_left c.requires.lone c.take_apart-finished.ensures in
    ap (λ (s : State). has_arena s c.arena.result) is ∙ ap (has_arena (state_in pass)) c.arena.ensures ∙ c.requires.held.known

pub unreachable-unreachable : goal.unreachable-unreachable
unreachable-unreachable c =
    let pass = c.args.stock.pass in
    let is = state_left c.requires.lone c.take_apart-finished.ensures in
    let some = c.in-Ok-None.ensures.alive.1 (ap (λ (s : State). (arena_of s c.arena.result).life) is
    ∙ ap (λ (a : ArenaId). (arena_of (state_in pass) a).life) c.arena.ensures ∙ c.requires.held.alive) in
    let none : false ≡ true = subst (λ o. IsSome o) c.in-Ok-None.field-0-is some in
    absurd (cc)

pub returns-in-Ok-Some : goal.returns-in-Ok-Some
returns-in-Ok-Some c =
    let pass = c.args.stock.pass in
    let is = state_left c.requires.lone c.take_apart-finished.ensures in
    let all : c.in-Ok-Some.bytes.items ≡ given_bytes c.take_apart-finished.result c.arena.result =
    subst (λ o. IfSome o (λ bytes. bytes.items ≡ given_bytes c.take_apart-finished.result c.arena.result)) c.in-Ok-Some.field-0-is c.in-Ok-Some.ensures.bytes in
    c.truncate.ensures.items ∙ ap (λ (bytes : List ℕ). take c.size.result bytes) all
    ∙ taken_all c.requires c.take_apart-finished.result c.arena.result c.size.result c.arena.ensures c.size.ensures.size is
