-- Each byte takes the reader on as the definition says; a byte where it dies, or a part that isn't whole, ends the longest prefix.
use Rattle.std.proofs.Common.{◌≡◌, ◌∙◌, ap, get_or, length, arith}
use Rattle.fm_path_text.{specs.{Reader.{sign_of, next}, declared.part.Move.{Move}}, proofs.Parsing.{goes_on, stays, ends_at, is_found, ends_all}}
use Rattle.fm_path_text.proofs.parse.parse_path.Goals.{in-Stay, in-Finish+in-Ok}
use Rattle.fm_path_text.proofs.parse.parse_path.Goals as goal

pub returns-in-Dead-clause-refused : goal.returns-in-Dead-clause-refused
returns-in-Dead-clause-refused c =
    let e = c.as_bytes-byte-items.ensures.value in
    ends_at _ _ _ _ c.loop-at.invariant (omega (arith, ap length e))
    (goes_on _ _ _ _ _ _ _ c.loop-at.invariant (omega (arith, ap length e)) (c.len.ensures ∙ c.loop-at.path.ok.0) (c.of.ensures.sign
    ∙ ap (λ t. sign_of (get_or t c.loop-at.at 0)) e) c.in-Dead.ensures)

pub loop-at-preserved : goal.loop-at-preserved
loop-at-preserved c =
    let e = c.as_bytes-byte-items.ensures.value in
    let on = λ (m : Move) (is : m ≡ next c.loop-at.part c.len.result c.of.result).
    goes_on _ _ _ _ _ _ m c.loop-at.invariant (omega (arith, ap length e)) (c.len.ensures ∙ c.loop-at.path.ok.0)
    (c.of.ensures.sign ∙ ap (λ t. sign_of (get_or t c.loop-at.at 0)) e) is in
    elim c.match-next.branch [
      | in-Stay w ↦ stays _ _ _ _ _ _ (on _ w.in-Stay.ensures) (ap (λ v. v.items) w.path-is) w.part-is
      | in-Finish+in-Ok w ↦ stays _ _ _ _ _ _ (on _ w.in-Finish.ensures) (ap (λ v. v.items) w.path-is ∙ w.in-Ok.ensures.items) w.part-is
    ]

pub returns-in-Some-clause-path : goal.returns-in-Some-clause-path
returns-in-Some-clause-path c =
    is_found _ _ _ _ _ c.loop-at.invariant (omega (arith, ap length c.as_bytes-byte-items.ensures.value)) (rw c.in-Some.is at c.in_ok-path.ensures)

pub returns-in-None-clause-refused : goal.returns-in-None-clause-refused
returns-in-None-clause-refused c =
    ends_all _ _ _ _ c.loop-at.invariant (omega (arith, ap length c.as_bytes-byte-items.ensures.value)) (rw c.in-None.is at c.in_ok-path.ensures)
