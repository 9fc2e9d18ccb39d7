use Rattle.std.proofs.Common.{◌≡◌, codes, rules}
use Rattle.fm_lanes.specs.Named.{kind_text}
use Rattle.fm_top.proofs.{NamedKinds.{kind_is_named, kind_isnt_named}, Numbers.{no_sum, no_true}}
use Rattle.fm_top.proofs.command.sum.sum_command.Goals as goal

pub returns-in_default-named-clause-none : goal.returns-in_default-named-clause-none
returns-in_default-named-clause-none c = λ n m kind name sum.
    let type : c.args.kind.now ≡ kind_text kind = let e = sum.spelled in cc in
    kind_isnt_named c.args.kind.now kind c.in_default-named.ensures type

pub returns-then-has_value-clause-found : goal.returns-then-has_value-clause-found
returns-then-has_value-clause-found c =
    let type = kind_is_named c.args.kind.now c.in-Some.kind c.in-Some.ensures in
    let size = c.in-Some-Some.ensures.found in
    let at = c.in-Some-Some.ensures'.found in
    let command : c.args.command.now ≡ codes "sum" = search rules in
    record {
      spelled = cc;
      has_value = c.has_value.ensures.0 c.if-has_value.true;
      file_word = search rules;
    }

pub returns-else-has_value-clause-none : goal.returns-else-has_value-clause-none
returns-else-has_value-clause-none c = λ n' m' kind' name sum.
    no_sum c.args.command.now c.args.size.now c.args.at.now c.args.kind.now c.args.file.now name c.in-Some-Some.size c.in-Some-Some.at n' m' c.in-Some.kind
    kind'
    c.in-Some-Some.ensures.fits c.in-Some-Some.ensures'.fits c.in-Some-Some.ensures.found c.in-Some-Some.ensures'.found
    (kind_is_named c.args.kind.now c.in-Some.kind c.in-Some.ensures)
    (λ has. no_true c.has_value.result c.if-has_value.false (c.has_value.ensures.1 has)) sum
