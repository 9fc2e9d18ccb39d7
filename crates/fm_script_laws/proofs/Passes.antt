-- Lines of a pass are tidy.
use Rattle.std.{proofs.Common.{ℕ, ◌+◌, List, [], Option, Some, length, sym, subst}, specs.List.{AllByRecursion}}
use Rattle.fm_base.{specs.{Calls.{Entry}, Histories.{IsLegal}}, proofs.Making.{IsLegal-split}}
use Rattle.fm_rule_calls.specs.Told.{view_of_pass}
use Rattle.fm_rule_facts.specs.Views.{View, limit_of, state_in}
use Rattle.fm_script_lines.specs.{declared.standing.Standing.{Standing}, Numbers.{number_at}, Outcomes.{outcome}, Runs.{Went}}
use Rattle.fm_script_lines.specs.{Standings.{standing_at, standing_of, segment_of}, Tokens.{IsReady}}
use Rattle.fm_script_lines.proofs.Backing.{arena_known, name_known, segment_known, some_weaker}
use Rattle.fm_script_text.specs.declared.line.Line.{Line}
use Rattle.fm_segment.specs.Access as segment
use Rattle.fm_words.specs.declared.shape.Shape.{Shape}
use Rattle.fm_script_laws.{specs.Lines.{FillsWithByte, LineIsTidy, LinesAreTidy}, proofs.{Backing.{IsGiven, IsThere}, Commands.{call_comes}, Rows.{row_comes}}}

-- What the pass knows is there.
ready_there : (p : View) (base own : List Standing) (start : ℕ) (number : Option ℕ) → IsReady p base own
    → IsThere (state_in p) (standing_of base start own number)
ready_there p base own start number ready =
    let t = standing_of base start own number in
    let known = name_known p ready.backs start number in
    record {
      arena = arena_known p t known;
      segment = some_weaker (segment.IsKnown (view_of_pass p)) (IsGiven (state_in p)) (segment_of t) (λ r k. record { arena = k.arena; given = k.given })
          (segment_known p t known);
    }

-- The entries by which it went on are legal where it was.
went_legal : {p q : View} {own : List Entry} (w : Went p q own) → IsLegal (limit_of q.shape) [] q.seen → IsLegal (limit_of p.shape) (state_in p) w.more
went_legal {p = p} {q = q} w legal =
    let same = subst (λ (z : Shape). IsLegal (limit_of z) [] q.seen) w.same_shape legal in
    (IsLegal-split (limit_of p.shape) [] p.seen w.more (subst (λ (es : List Entry). IsLegal (limit_of p.shape) [] es) w.seen same)).1

pub line_tidy : LineIsTidy
line_tidy old new names base start own next command reply ran ready legal fills =
    (call_comes (record { legal = went_legal ran.went legal; by = ran.went.by_pass }) (λ name. standing_of base start own (number_at names name))
    (λ name. ready_there old base own start (number_at names name) ready) (outcome reply ran.made) command fills ran.does).tidy

pub lines_tidy : LinesAreTidy
lines_tidy old new names base start own next lines replies ran ready legal fills =
    (row_comes old.caller (limit_of old.shape) (number_at names) (state_in old) (start + length own) (standing_at base start own) ran.dones ran.went.more
    (λ n. ready_there old base own start (Some n) ready) (subst (λ (ls : List Line). AllByRecursion (λ l. FillsWithByte l.command) ls) (sym ran.are) fills)
    (went_legal ran.went legal) ran.went.by_pass ran.calls).tidy
