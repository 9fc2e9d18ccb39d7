-- The definitions at small scripts.
use Rattle.std.{proofs.Common.{◌≡◌, refl, true, false, Some, None, List, [], ◌∷◌, codes}, specs.{Prelude.{pos, negsuc}, Fmt.{digits}}}
use Rattle.fm_base.specs.declared.kind.Kind.TheVariants.{Shared, Automatic}
use Rattle.fm_lanes.specs.declared.{order.Order.TheVariants.{Little, Big}, value_kind.ValueKind.TheVariants.{Int, Long}}
use Rattle.fm_script_text.specs.declared.{command.Command.TheVariants.{Open, Alloc, Set, Cas}, line.Line.{Line}, who.Who.TheVariants.{First, Worker, Last}}
use Rattle.fm_script_text.specs.{Rules.{is_given_back, maker_of, may_use, passes_of, reached}, Scripts.{lines_of, source, sources_of}}
use Rattle.fm_script_text.specs.Syntax.{line_text, pool_text}
use Rattle.fm_script_text.specs.declared.thing.Role.TheVariants as role
use Rattle.fm_script_text.specs.declared.thing.Thing.TheVariants as thing

-- an empty line is a line
newlines : lines_of (codes "a\n\nbc") ≡ codes "a" ∷ [] ∷ codes "bc" ∷ []
newlines = refl

-- there is none behind the last newline
no_last_line : lines_of (codes "a\n") ≡ codes "a" ∷ []
no_last_line = refl

-- what is skipped counts
skips : sources_of (codes "#x\n\np\n#\nq") ≡ source 3 (codes "p") ∷ source 5 (codes "q") ∷ []
skips = refl

-- a comment with a byte over 127 isn't skipped
no_comment : sources_of (35 ∷ 200 ∷ []) ≡ source 1 (35 ∷ 200 ∷ []) ∷ []
no_comment = refl

-- lines are spelled as the rows write them
opens : line_text First (Open (codes "a") Shared) ≡ codes "first open a shared"
opens = refl

-- with numbers
gives : line_text First (Alloc (codes "a") (codes "s") 8 16) ≡ codes "first alloc a s 8 16"
unfolding digits
gives = refl

-- with a type of big order and a number below 0
sets_big : line_text (Worker 2) (Set (record { segment = codes "s"; kind = Int; order = Big; offset = 0 }) (negsuc 0)) ≡ codes "2 set s int-be 0 -1"
unfolding digits
sets_big = refl

-- with two numbers of the type
swaps : line_text Last (Cas (record { segment = codes "s"; kind = Long; order = Little; offset = 0 }) (pos 0) (pos 9)) ≡ codes "last cas s long 0 0 9"
unfolding digits
swaps = refl

-- and the pool's line
pools : pool_text (record { passes = 1; slots = 1; pages = 1; page_words = 8; reach = 1; generations = 1000 }) ≡ codes "pool 1 1 8 1000 1"
unfolding digits
pools = refl

-- two lines: an automatic arena, and a segment in it made by worker 2
opened : List Line
opened = record { number = 2; text = []; who = First; command = Open (codes "a") Automatic } ∷
    record { number = 3; text = []; who = Worker 2; command = Alloc (codes "a") (codes "s") 8 8 } ∷ []

-- worker 2 makes three passes
passes : passes_of opened ≡ 3
unfolding opened
passes = refl

-- the workers' lines have begun
phases : reached opened ≡ 1
unfolding opened
phases = refl

-- the segment is worker 2's
makes : maker_of (codes "s") opened ≡ Some (record { who = Worker 2; thing = thing.Segment })
unfolding opened
makes = refl

-- another name was not made
makes_none : maker_of (codes "t") opened ≡ None
unfolding opened
makes_none = refl

-- an automatic arena is a handle too, of the pass that opened it
handle : may_use (maker_of (codes "a") opened) (is_given_back (codes "a") opened) Last role.Handle ≡ true
unfolding opened
handle = refl

-- but of no other pass
no_handle : may_use (maker_of (codes "a") opened) (is_given_back (codes "a") opened) (Worker 2) role.Handle ≡ false
unfolding opened
no_handle = refl

-- another worker doesn't reach the segment
no_segment : may_use (maker_of (codes "s") opened) false (Worker 1) role.Segment ≡ false
unfolding opened
no_segment = refl
