-- What was read of a text is its answer.
use Rattle.std.{proofs.Common.{◌≡◌, refl, sym, ◌∙◌, ℕ, ◌≤◌, Bool, true, false, Option, Some, None, List, [], ◌∷◌}, specs.List.{AllByRecursion}}
use Rattle.std.specs.Option.{option_map}
use Rattle.fm_base.specs.declared.refusal.Refusal.{Refusal, TheVariants.{BadScript, Memory}}
use Rattle.fm_words.specs.declared.shape.Shape.{Shape}
use Rattle.fm_script_text.{proofs.{Arguments.{map_some}, Pools.{with_passes}, Taking.{found_first, found_none}}, specs.declared.line.Line.{Line}}
use Rattle.fm_script_text.specs.{declared.names.Names.{Names}, Knowing.{Knows, is_spent_at}, Rules.{Made, made, is_settled, is_given_back}}
use Rattle.fm_script_text.specs.Scripts.{IsNoScript, IsScript, IsSettled, KeptAt, Source, bad_line, lines_of, numbered, script_of, sources_of}
use Rattle.fm_script_text.specs.{Syntax.{SaysPool}, Taking.{AreNoLines, IsAll, first_kept}}

-- the sources of a text are those from its first line on
pub from_the_first : (bytes rest : List ℕ) (number : ℕ) → rest ≡ bytes → number ≡ 1 → sources_of bytes ≡ numbered number (lines_of rest)
from_the_first bytes rest number is one = cc

-- where its lines break, the text is refused
pub lines_refused : (bytes : List ℕ) (pool : Source) (rest : List Source) (z : Shape) (e : Refusal) → sources_of bytes ≡ pool ∷ rest → SaysPool pool.text z
    → AreNoLines rest e → IsNoScript bytes e
lines_refused bytes pool rest z (BadScript line) sources says breaks = bad_line pool rest z sources says breaks
lines_refused bytes pool rest z Memory sources says wants = record {
  pool = pool;
  rest = rest;
  shape = z;
  sources = sources;
  says_pool = says;
  wants = wants;
}
lines_refused bytes pool rest z _ sources says breaks = absurd breaks

-- ---- what isn't given back

-- by functions that agree on names, the same is settled
settled_same : (f g : List ℕ → Bool) (m : Option Made) → ((name : List ℕ) → f name ≡ g name) → is_settled f m ≡ is_settled g m
settled_same f g None h = refl
settled_same f g (Some m) h = rw (h m.name) refl

-- by the names that are kept, and by the lines
settled_by : (names : Names) (all : List Line) (l : Line) → Knows names all
    → is_settled (is_spent_at names) (made l.command) ≡ is_settled (λ name. is_given_back name all) (made l.command)
settled_by names all l knows = settled_same (is_spent_at names) (λ name. is_given_back name all) (made l.command) knows.given_back

-- lines that are settled by the names that are kept are settled
all_settled : (names : Names) (all ls : List Line) → Knows names all → AllByRecursion (λ l. is_settled (is_spent_at names) (made l.command) ≡ true) ls
    → AllByRecursion (IsSettled all) ls
all_settled names all [] knows h = tt
all_settled names all (l ∷ ls) knows h = (sym (settled_by names all l knows) ∙ h.0, all_settled names all ls knows h.1)

-- the line that the names find is the first that makes what isn't given back
pub kept_found : (names : Names) (ls : List Line) (n : ℕ) → Knows names ls → option_map (λ (l : Line). l.number) (first_kept names ls) ≡ Some n → KeptAt ls n
kept_found names ls n knows e = map_some (λ (l : Line). l.number) (first_kept names ls) n e (λ l f g.
    let r = found_first (λ (m : Line). is_settled (is_spent_at names) (made m.command)) ls l f in
    record {
      before = r.before;
      line = l;
      after = r.after;
      parts = r.parts;
      settled = all_settled names ls r.before knows r.pass;
      kept = λ s. let k : false ≡ true = sym r.fails ∙ settled_by names ls l knows ∙ s in absurd (cc);
      is = sym g;
    })

-- where they find none, all lines are settled
none_kept : (names : Names) (ls : List Line) → Knows names ls → option_map (λ (l : Line). l.number) (first_kept names ls) ≡ None
    → AllByRecursion (IsSettled ls) ls
none_kept names ls knows e =
    all_settled names ls ls knows (found_none (λ (m : Line). is_settled (is_spent_at names) (made m.command)) ls (none_of (first_kept names ls) e))
  where
    none_of : (o : Option Line) → option_map (λ (l : Line). l.number) o ≡ None → o ≡ None
    none_of None e = refl
    none_of (Some l) e = absurd (cc)

-- ---- scripts

-- a pool's line and lines that break no rule are a script
pub script_read : (bytes : List ℕ) (pool : Source) (rest : List Source) (z : Shape) (ls : List Line) (names : Names) → sources_of bytes ≡ pool ∷ rest
    → SaysPool pool.text z → IsAll rest ls names → 1 ≤ names.passes → names.passes ≤ 17
    → option_map (λ (l : Line). l.number) (first_kept names ls) ≡ None → IsScript bytes (script_of (record z { passes = names.passes }) ls)
script_read bytes pool rest z ls names sources says all some few none = record {
  pool = pool;
  rest = rest;
  sources = sources;
  says_pool = with_passes pool.text z names.passes says some few;
  passes = all.knows.passes;
  lines = all.lines;
  settled = none_kept names ls all.knows none;
}
