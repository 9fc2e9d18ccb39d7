-- A report tells no more arenas than its pool has slots.
use Rattle.std.proofs.Common.{◌≡◌, ℕ, zero, suc, ◌+◌, ◌≤◌, if◌then◌else◌, Bool, true, false, List, [], ◌∷◌, ◌++◌, length, length-append, get_or, Option, Some, None, refl, sym, ap, ◌∙◌, subst, arith, inl, inr}
use Rattle.std.{specs.List.{AllByRecursion}, proofs.lemmas.Slice.Eq.{bytes_eq-Decides}}
use Rattle.fm_base.specs.{declared.arena_id.ArenaId.{ArenaId}, Arenas.{Life, Alive, Closing, Ended, arena_of as arena_in}}
use Rattle.fm_base_lists.{specs.Among.{AreApart, IsAmong}, proofs.{Among.{among_either}, Each.{all_both}}}
use Rattle.fm_rule_facts.specs.{Holds.{one_if}, Views.{limit_of}}
use Rattle.fm_rule.specs.{Finishing.{FinishedView}, GivenBytes.{given_bytes, state_of}}
use Rattle.fm_script_report.specs.{declared.arena.AliveArena.{AliveArena}, Alive.{alive_at, alive_by, alive_of, arena_by, opened_at, while_alive}}
use Rattle.fm_script_report.{specs.{Living.{Lives}, Told.{opened_of}}, proofs.Living.{living_fit}}
use Rattle.fm_script_lines.specs.{Numbers.{is_made, number_from, unless}, Report.{Done, Played, all_done, lines_of, number_of}}
use Rattle.fm_script_lines.proofs.AdmittedNumbers.{makers, one_made, one_maker}
use Rattle.fm_script_text.specs.{declared.{command.Command.{Command, TheVariants.{Open}}, line.Line.{Line}}, Rules.{Made, made}}
use Rattle.fm_script.{specs.Alive.{AliveFit}, proofs.{Bringing.{all_bring, one_line}, Once.{all_once}}}

-- ---- names and the numbers of their lines

abbrev made_at : List Line → ℕ → Option Made
made_at [] i = None
made_at (l ∷ ls) zero = made l.command
made_at (l ∷ ls) (suc i) = made_at ls i

-- The line of a name's number makes the name.
record MadeAt (k : ℕ) (ls : List Line) (name : List ℕ) (m : ℕ) : Type 0 where
  at : ℕ
  is : m ≡ k + at
  makes : is_made name (made_at ls at) ≡ true

numbered_at : (k : ℕ) (ls : List Line) (name : List ℕ) (m : ℕ) → number_from k ls name ≡ Some m → MadeAt k ls name m
numbered_at k [] name m e = absurd (let no : ⊥ = cc in no)
numbered_at k (l ∷ ls) name m e = go (number_from (k + 1) ls name) refl (is_made name (made l.command)) refl (λ f. numbered_at (k + 1) ls name m f)
  where
    told : (o : Option ℕ) → number_from (k + 1) ls name ≡ o → (b : Bool) → is_made name (made l.command) ≡ b
        → unless o (if b then Some k else None) ≡ Some m
    told o f b g = (λ i. unless (sym f i) (if sym g i then Some k else None)) ∙ e

    go : (o : Option ℕ) → number_from (k + 1) ls name ≡ o → (b : Bool) → is_made name (made l.command) ≡ b
        → (number_from (k + 1) ls name ≡ Some m → MadeAt (k + 1) ls name m) → MadeAt k (l ∷ ls) name m
    go (Some x) f b g rest =
        let r = rest (f ∙ told (Some x) f b g) in
        let is = r.is in
        record { at = suc r.at; is = omega (arith, is); makes = r.makes }
    go None f true g rest =
        let this : Some k ≡ Some m = told None f true g in
        let same : k ≡ m = cc in
        record { at = zero; is = omega (arith, same); makes = g }
    go None f false g rest =
        let none : None ≡ Some m = told None f false g in
        absurd (let no : ⊥ = cc in no)

both_make : (x y : List ℕ) (o : Option Made) → is_made x o ≡ true → is_made y o ≡ true → x ≡ y
both_make x y None e f = absurd (let no : ⊥ = cc in no)
both_make x y (Some m) e f = sym ((bytes_eq-Decides m.name x).0 e) ∙ (bytes_eq-Decides m.name y).0 f

-- So no two names have one number.
one_name : (ls : List Line) (x y : List ℕ) (m : ℕ) → number_from 0 ls x ≡ Some m → number_from 0 ls y ≡ Some m → x ≡ y
one_name ls x y m e f =
    let a = numbered_at 0 ls x m e in
    let b = numbered_at 0 ls y m f in
    let is_a = a.is in
    let is_b = b.is in
    let same : b.at ≡ a.at = omega (arith, is_a, is_b) in
    both_make x y (made_at ls a.at) a.makes (ap (λ (i : ℕ). is_made y (made_at ls i)) (sym same) ∙ b.makes)

-- ---- the arenas that are told

module _ (f : FinishedView) (arena : List ℕ → Option ArenaId) where
  abbrev life_of : ArenaId → Life
  life_of id = (arena_in (state_of f) id).life

  abbrev ids_while : Life → ArenaId → List ArenaId
  ids_while Alive id = id ∷ []
  ids_while Closing id = []
  ids_while Ended id = []

  abbrev ids_at : Option ArenaId → List ArenaId
  ids_at None = []
  ids_at (Some id) = ids_while (life_of id) id

  abbrev ids_by : Command → List ArenaId
  ids_by (Open name kind) = ids_at (arena name)
  ids_by _ = []

  abbrev ids_of : List Line → List ArenaId
  ids_of [] = []
  ids_of (l ∷ ls) = ids_by l.command ++ ids_of ls

  -- ---- there are as many as told

  many_while : (x : Life) (name bytes : List ℕ) (id : ArenaId) → length (while_alive x name bytes) ≡ length (ids_while x id)
  many_while Alive name bytes id = refl
  many_while Closing name bytes id = refl
  many_while Ended name bytes id = refl

  many_at : (name : List ℕ) (o : Option ArenaId) → length (alive_at f name o) ≡ length (ids_at o)
  many_at name None = refl
  many_at name (Some id) = many_while (life_of id) name (given_bytes f id) id

  many_by : (k : Command) → length (alive_by f arena k) ≡ length (ids_by k)
  many_by (Open name kind) = many_at name (arena name)
  many_by k = refl

  as_many : (ls : List Line) → length (alive_of f arena ls) ≡ length (ids_of ls)
  as_many [] = refl
  as_many (l ∷ ls) =
      let here = many_by l.command in
      let rest = as_many ls in
      let told = length-append (alive_by f arena l.command) (alive_of f arena ls) in
      let ids = length-append (ids_by l.command) (ids_of ls) in
      omega (arith, here, rest, told, ids)

  -- ---- they live

  live_while : (id : ArenaId) (x : Life) → life_of id ≡ x → AllByRecursion (Lives f) (ids_while x id)
  live_while id Alive e = ((λ ended. let is : Alive ≡ Ended = sym e ∙ ended in let no : ⊥ = cc in no), tt)
  live_while id Closing e = tt
  live_while id Ended e = tt

  live_at : (o : Option ArenaId) → AllByRecursion (Lives f) (ids_at o)
  live_at None = tt
  live_at (Some id) = live_while id (life_of id) refl

  live_by : (k : Command) → AllByRecursion (Lives f) (ids_by k)
  live_by (Open name kind) = live_at (arena name)
  live_by k = tt

  all_live : (ls : List Line) → AllByRecursion (Lives f) (ids_of ls)
  all_live [] = tt
  all_live (l ∷ ls) = all_both (Lives f) (ids_by l.command) (ids_of ls) (live_by l.command) (all_live ls)

  -- ---- each stands by a name of its own

  in_while : (x : Life) (id a : ArenaId) → IsAmong a (ids_while x id) → a ≡ id
  in_while Alive id a (inl is) = is
  in_while Alive id a (inr i) = absurd i
  in_while Closing id a i = absurd i
  in_while Ended id a i = absurd i

  in_at : (o : Option ArenaId) (a : ArenaId) → IsAmong a (ids_at o) → o ≡ Some a
  in_at None a i = absurd i
  in_at (Some id) a i = ap Some (sym (in_while (life_of id) id a i))

  -- a line of this command makes the name of the arena
  record Names (a : ArenaId) (name : List ℕ) (k : Command) : Type 0 where
    stands : arena name ≡ Some a
    makes : is_made name (made k) ≡ true

  in_by : (k : Command) (a : ArenaId) → IsAmong a (ids_by k) → (name : List ℕ) × Names a name k
  in_by (Open name kind) a i = (name, record { stands = in_at (arena name) a i; makes = (bytes_eq-Decides name name).1 refl })
  in_by k a i = absurd i

  -- one of the lines does
  record NamedIn (a : ArenaId) (ls : List Line) : Type 0 where
    name : List ℕ
    stands : arena name ≡ Some a
    made_here : 1 ≤ makers name ls

  in_lines : (ls : List Line) (a : ArenaId) → IsAmong a (ids_of ls) → NamedIn a ls
  in_lines [] a i = absurd i
  in_lines (l ∷ ls) a i = elim (among_either a (ids_by l.command) (ids_of ls) i) [
    | inl here ↦ (let n = in_by l.command a here in
        let one : one_made n.0 l ≡ 1 = ap one_if n.1.makes in
        record { name = n.0; stands = n.1.stands; made_here = omega (arith, one) })
    | inr there ↦ (let n = in_lines ls a there in let here = n.made_here in record { name = n.name; stands = n.stands; made_here = omega (arith, here) })
  ]

  more_while : (x : Life) (id : ArenaId) (rest : List ArenaId) → AreApart rest → ((a : ArenaId) → IsAmong a (ids_while x id) → ¬ (IsAmong a rest))
      → AreApart (ids_while x id ++ rest)
  more_while Alive id rest apart other = (other id (inl refl), apart)
  more_while Closing id rest apart other = apart
  more_while Ended id rest apart other = apart

  more_at : (o : Option ArenaId) (rest : List ArenaId) → AreApart rest → ((a : ArenaId) → IsAmong a (ids_at o) → ¬ (IsAmong a rest))
      → AreApart (ids_at o ++ rest)
  more_at None rest apart other = apart
  more_at (Some id) rest apart other = more_while (life_of id) id rest apart other

  more_by : (k : Command) (rest : List ArenaId) → AreApart rest → ((a : ArenaId) → IsAmong a (ids_by k) → ¬ (IsAmong a rest))
      → AreApart (ids_by k ++ rest)
  more_by (Open name kind) rest apart other = more_at (arena name) rest apart other
  more_by k rest apart other = apart

  -- Where no two names stand for one arena, and no two lines make one name.
  all_apart : ((x y : List ℕ) (a : ArenaId) → arena x ≡ Some a → arena y ≡ Some a → x ≡ y) → (ls : List Line)
      → ((name : List ℕ) → makers name ls ≤ 1) → AreApart (ids_of ls)
  all_apart one [] few = tt
  all_apart one (l ∷ ls) few =
      more_by l.command (ids_of ls) (all_apart one ls (λ name. let all = few name in omega (arith, all))) (λ a here there.
      let n = in_by l.command a here in
      let m = in_lines ls a there in
      let same : m.name ≡ n.0 = one m.name n.0 a m.stands n.1.stands in
      let mine : one_made n.0 l ≡ 1 = ap one_if n.1.makes in
      let theirs : 1 ≤ makers n.0 ls = subst (λ (x : List ℕ). 1 ≤ makers x ls) same m.made_here in
      let all = few n.0 in
      absurd (omega (arith, mine, theirs, all)))

-- ---- of a report

-- a name stands for what the line of its number opened
record Placed (opened : List (Option ArenaId)) (o : Option ℕ) (a : ArenaId) : Type 0 where
  number : ℕ
  is : o ≡ Some number
  at : get_or opened number None ≡ Some a

placed : (opened : List (Option ArenaId)) (o : Option ℕ) (a : ArenaId) → opened_at opened o ≡ Some a → Placed opened o a
placed opened None a e = absurd (let no : ⊥ = cc in no)
placed opened (Some n) a e = record { number = n; is = refl; at = e }

pub alive_fit : AliveFit
alive_fit s r rules run =
    let f : FinishedView = r.finished in
    let p : Played = run.report.played in
    let ds : List Done = all_done p in
    let arena : List ℕ → Option ArenaId = arena_by (number_of p) (opened_of ds) in
    let one : (x y : List ℕ) (a : ArenaId) → arena x ≡ Some a → arena y ≡ Some a → x ≡ y = λ x y a e g.
    let u = placed (opened_of ds) (number_of p x) a e in
    let v = placed (opened_of ds) (number_of p y) a g in
    let few = all_once a (limit_of f.shape) f.history p run.report.did.apart run.report.did.cut run.finished.legal in
    let same : v.number ≡ u.number = one_line a ds (all_bring a s f.history p run.report.did) few v.number u.number v.at u.at in
    one_name (lines_of ds) x y u.number u.is (v.is ∙ ap Some same) in
    let apart = all_apart f arena one s.lines (λ name. one_maker name [] s.lines rules.admitted (omega arith)) in
    let few = (living_fit f run.finished).few (ids_of f arena s.lines) (all_live f arena s.lines) apart in
    let told : length r.alive ≡ length (alive_of f arena s.lines) = ap (λ (xs : List AliveArena). length xs) run.report.alive in
    let many = as_many f arena s.lines in
    omega (arith, few, told, many)
