-- A pass that is known to be whole goes on by itself.
use Rattle.std.proofs.{Common.{List, [], ◌++◌, refl, ap, sym, ◌∙◌, append_assoc}, lemmas.List.{append-nil}}
use Rattle.fm_base.specs.{Calls.{Entry}, Finds.{Gathered}, View.{but_loans}}
use Rattle.fm_gate.specs.Needs.{IsOutside}
use Rattle.fm_rule_calls.specs.Kept.{Kept}
use Rattle.fm_rule_facts.specs.Views.{View}
use Rattle.fm_rule.specs.declared.pool.Pool.{Pool}
use Rattle.fm_top_pooled.{specs.Stocked.{IsAlone}, proofs.{Opening.{kept_alone}, Tidying.{AllChangeNone}}}
use Rattle.fm_top_stream.specs.Steps.{GoesOn}

-- whatever it has gathered
pub alone_still : {gs : List Gathered} {pool : Pool} {p : View} → IsAlone gs pool p → IsAlone p.gathered pool p
alone_still a = record {
  outside = a.outside;
  sound = a.sound;
  whole = a.whole;
  tidy = a.tidy;
  gathered = refl;
  none_to_end = a.none_to_end;
  none_to_sweep = a.none_to_sweep;
  no_page = a.no_page;
}

pub goes_here : {pool : Pool} {p : View} → IsAlone p.gathered pool p → GoesOn pool p p
goes_here {pool} {p} alone = record { alone = alone; more = []; seen = sym (append-nil p.seen) }

pub goes_then : {pool : Pool} {p m q : View} → GoesOn pool p m → GoesOn pool m q → GoesOn pool p q
goes_then {pool} {p} {m} {q} first next = record {
  alone = next.alone;
  more = first.more ++ next.more;
  seen = next.seen ∙ ap (λ (es : List Entry). es ++ next.more) first.seen ∙ append_assoc p.seen first.more next.more;
}

-- by a call that changes no word
pub kept_goes : {gs : List Gathered} {pool : Pool} {p q : View} {P : List Entry → Type 0} → IsAlone gs pool p → (k : Kept p q P) → IsOutside pool q
    → AllChangeNone (but_loans k.own) → GoesOn pool p q
kept_goes {p = p} alone k outside none = record {
  alone = alone_still (kept_alone alone k outside none);
  more = k.own;
  seen = k.goes.seen ∙ ap (λ (es : List Entry). p.seen ++ es) (k.goes.alone alone.whole);
}
