-- The number of a condition is read to its end, to that number.
use Rattle.std.{proofs.Common.{◌≡◌, refl, ap, ℕ, ◌+◌, ◌-◌, ◌*◌, ◌^◌, ◌<◌, ◌≤◌, suc, Some, List, arith}, specs.{Prelude.{ℤ, pos, negsuc}, Fmt.{signed_decimal}}}
use Rattle.std.proofs.lemmas.Bool.{ne_eqb, le-leb, lt-ltb}
use Rattle.fm_path_text.{specs.declared.step.PathStep.{PathStep}, proofs.{Machine.{run_number, run_positive}, Reading.{yes_digit}}}
use Rattle.fm_records_query.specs.declared.{operator.Operator.{Operator}, syntax.{ItemSyntax.{ItemSyntax}, ConditionSyntax.{ConditionSyntax}}}
use Rattle.fm_records_query.specs.declared.{number.Number.{Number, TheVariants.{Up, Down}}, stage.Stage.TheVariants.{Compare, Minus, Literal}}
use Rattle.fm_records_query.specs.{Grammar.{IsLiteral}, Reader.{value_of, spot, reads, run}}

value_back : (d : ℕ) → 48 + d - 48 ≡ d
value_back d = omega arith

-- the first digit of a number from 0 up
first_up : (is : List ItemSyntax) (cs : List ConditionSyntax) (p : List PathStep) (o : Operator) (d : ℕ) → d < 10
    → reads (spot is cs (Compare p o)) (48 + d) ≡ Some (spot is cs (Literal p o (Up d) 0))
first_up is cs p o d h =
    rw (ne_eqb (48 + d) 61 (λ x. omega arith), ne_eqb (48 + d) 45 (λ x. omega arith), yes_digit d h)
    (ap (λ n. Some (spot is cs (Literal p o (Up n) 0))) (value_back d))

-- a further digit
next_up : (is : List ItemSyntax) (cs : List ConditionSyntax) (p : List PathStep) (o : Operator) (n d : ℕ) → d < 10 → 0 < n → 10 * n + d < 2 ^ 63
    → reads (spot is cs (Literal p o (Up n) 0)) (48 + d) ≡ Some (spot is cs (Literal p o (Up (10 * n + d)) 0))
next_up is cs p o n d h gt lt =
    rw (yes_digit d h, value_back d, ne_eqb n 0 (λ x. omega arith), lt-ltb (10 * n + d) (2 ^ 63) lt) refl

-- the first digit of a number below 0
first_down : (is : List ItemSyntax) (cs : List ConditionSyntax) (p : List PathStep) (o : Operator) (d : ℕ) → d < 10 → 0 < d
    → reads (spot is cs (Minus p o)) (48 + d) ≡ Some (spot is cs (Literal p o (Down d) 0))
first_down is cs p o d h gt =
    rw (yes_digit d h, ne_eqb (48 + d) 48 (λ x. omega arith)) (ap (λ n. Some (spot is cs (Literal p o (Down n) 0))) (value_back d))

-- a further digit
next_down : (is : List ItemSyntax) (cs : List ConditionSyntax) (p : List PathStep) (o : Operator) (n d : ℕ) → d < 10 → 0 < n → 10 * n + d ≤ 2 ^ 63
    → reads (spot is cs (Literal p o (Down n) 0)) (48 + d) ≡ Some (spot is cs (Literal p o (Down (10 * n + d)) 0))
next_down is cs p o n d h gt le =
    rw (yes_digit d h, value_back d, le-leb (10 * n + d) (2 ^ 63) le) refl

-- the number as it is read
abbrev pub number_of : ℤ → Number
number_of (pos n) = Up n
number_of (negsuc n) = Down (suc n)

pub value_number : (z : ℤ) → value_of (number_of z) ≡ z
value_number (pos n) = refl
value_number (negsuc n) = refl

-- a number behind an operator
pub reads_literal : (is : List ItemSyntax) (cs : List ConditionSyntax) (p : List PathStep) (o : Operator) (z : ℤ) → IsLiteral z
    → run (signed_decimal z) (Some (spot is cs (Compare p o))) ≡ Some (spot is cs (Literal p o (number_of z) 0))
reads_literal is cs p o (pos n) h =
    run_number reads (spot is cs (Compare p o)) (λ n. spot is cs (Literal p o (Up n) 0)) (2 ^ 63 - 1) (omega arith)
    (first_up is cs p o) (λ n d small gt le. next_up is cs p o n d small gt (omega arith)) n (omega (arith, h))
reads_literal is cs p o (negsuc n) h =
    run_positive reads (spot is cs (Minus p o)) (λ n. spot is cs (Literal p o (Down n) 0)) (2 ^ 63) (omega arith)
    (first_down is cs p o) (next_down is cs p o) (suc n) (omega arith) (omega (arith, h))
