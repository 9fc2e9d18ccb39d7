-- A text has one answer.
use Rattle.std.{proofs.Common.{◌≡◌, refl, sym, ap, subst, ◌∙◌, ℕ, Option, Some, List, [], ◌∷◌, ◌++◌, map, append_assoc}, specs.List.{AllByRecursion}}
use Rattle.std.proofs.lemmas.{List.{append-nil}, Option.{same_Some}}
use Rattle.fm_words.specs.declared.shape.Shape.{Shape}
use Rattle.fm_script_text.{proofs.{Commands.{says_named}, Pools.{shape_row, with_one}}, specs.declared.{command.Command.{Command}, line.Line.{Line}}}
use Rattle.fm_script_text.specs.{declared.who.Who.{Who}, Reader.{line_named, shape_named}, Rules.{IsAdmitted, passes_of}}
use Rattle.fm_script_text.specs.Scripts.{Source, source, source_of, ScriptOf, script_of, sources_of, AreAdmitted, AreLines, BreaksAt, IsSaid, IsSettled, IsScript, KeptAt, IsRefused, no_pool, bad_pool, bad_line, not_settled}
use Rattle.fm_script_text.specs.Syntax.{Says, SaysPool}

-- ---- lines

-- lines of equal parts are equal
line_of : (n m : ℕ) (s t : List ℕ) (v w : Who) (c d : Command) → n ≡ m → s ≡ t → v ≡ w → c ≡ d
    → ◌≡◌ {A = Line} (record { number = n; text = s; who = v; command = c }) (record { number = m; text = t; who = w; command = d })
line_of n m s t v w c d e f g h = cc

-- lines of one source are one
said_once : (l m : Line) → source_of l ≡ source_of m → IsSaid l → IsSaid m → l ≡ m
said_once l m e s t =
    let text : l.text ≡ m.text = ap (λ (x : Source). x.text) e in
    let same : ◌≡◌ {A = Option (Who × Command)} (Some (l.who, l.command)) (Some (m.who, m.command)) =
    sym (says_named l.text l.who l.command s) ∙ ap line_named text ∙ says_named m.text m.who m.command t in
    let pair = same_Some (l.who, l.command) (m.who, m.command) same in
    line_of l.number m.number l.text m.text l.who m.who l.command m.command (ap (λ (x : Source). x.number) e) text
    (ap (λ (p : Who × Command). p.0) pair) (ap (λ (p : Who × Command). p.1) pair)

-- equal lists have equal heads and tails
head : {A : Type 0} (x y : A) (xs ys : List A) → x ∷ xs ≡ y ∷ ys → (x ≡ y) × (xs ≡ ys)
head x y xs ys e = (cc, cc)

-- lines that sources are read as are one list
lines_once : (ls ms : List Line) → map source_of ls ≡ map source_of ms → AllByRecursion IsSaid ls → AllByRecursion IsSaid ms → ls ≡ ms
lines_once [] [] e s t = refl
lines_once [] (m ∷ ms) e s t = absurd (cc)
lines_once (l ∷ ls) [] e s t = absurd (cc)
lines_once (l ∷ ls) (m ∷ ms) e s t =
    let h = head (source_of l) (source_of m) (map source_of ls) (map source_of ms) e in
    let a : l ≡ m = said_once l m h.0 s.0 t.0 in
    let b : ls ≡ ms = lines_once ls ms h.1 s.1 t.1 in
    cc

-- so sources are one list of lines
lines_are_one : (sources : List Source) (ls ms : List Line) → AreLines sources ls → AreLines sources ms → ls ≡ ms
lines_are_one sources ls ms a b = lines_once ls ms (sym a.are ∙ b.are) a.said b.said

-- ---- where lines break

-- the same behind one more, in another grouping
grouped : (pre before : List Line) (l : Line) (s : Source) → ((m : Line) → Says s.text m.who m.command → IsAdmitted (pre ++ l ∷ before) m.who m.command → ⊥)
    → (m : Line) → Says s.text m.who m.command → IsAdmitted ((pre ++ l ∷ []) ++ before) m.who m.command → ⊥
grouped pre before l s breaks m says admitted =
    breaks m says (subst (λ (b : List Line). IsAdmitted b m.who m.command) (append_assoc pre (l ∷ []) before) admitted)

-- a line that breaks isn't one of lines that are admitted
no_break : (pre before ls : List Line) (s : Source) (rest : List Source) → map source_of ls ≡ map source_of before ++ (s ∷ rest)
    → AllByRecursion IsSaid ls → AllByRecursion IsSaid before → AreAdmitted pre ls
    → ((m : Line) → Says s.text m.who m.command → IsAdmitted (pre ++ before) m.who m.command → ⊥) → ⊥
no_break pre [] [] s rest e said other admitted breaks = absurd (cc)
no_break pre [] (l ∷ ls) s rest e said other admitted breaks =
    let h = head (source_of l) s (map source_of ls) rest e in
    let says : Says s.text l.who l.command = subst (λ (x : Source). Says x.text l.who l.command) h.0 said.0 in
    breaks l says (subst (λ (b : List Line). IsAdmitted b l.who l.command) (sym (append-nil pre)) admitted.0)
no_break pre (b ∷ bs) [] s rest e said other admitted breaks = absurd (cc)
no_break pre (b ∷ bs) (l ∷ ls) s rest e said other admitted breaks =
    let h = head (source_of l) (source_of b) (map source_of ls) (map source_of bs ++ (s ∷ rest)) e in
    let same : l ≡ b = said_once l b h.0 said.0 other.0 in
    no_break (pre ++ l ∷ []) bs ls s rest h.1 said.1 other.1 admitted.1
    (grouped pre bs l s (λ m says a. breaks m says (subst (λ (x : Line). IsAdmitted (pre ++ x ∷ bs) m.who m.command) same a)))

-- sources that are lines break nowhere
lines_dont_break : (sources : List Source) (ls : List Line) (n : ℕ) → AreLines sources ls → BreaksAt sources n → ⊥
lines_dont_break sources ls n lines breaks =
    no_break [] breaks.before ls (source n breaks.text) breaks.rest (sym lines.are ∙ breaks.are) lines.said breaks.lines.said lines.admitted breaks.breaks

-- two lines at which sources break are one
one_break : (pre before other : List Line) (s t : Source) (rest more : List Source) → map source_of before ++ (s ∷ rest) ≡ map source_of other ++ (t ∷ more)
    → AllByRecursion IsSaid before → AllByRecursion IsSaid other → AreAdmitted pre before → AreAdmitted pre other
    → ((m : Line) → Says s.text m.who m.command → IsAdmitted (pre ++ before) m.who m.command → ⊥)
    → ((m : Line) → Says t.text m.who m.command → IsAdmitted (pre ++ other) m.who m.command → ⊥) → s.number ≡ t.number
one_break pre [] [] s t rest more e said told a b f g = ap (λ (x : Source). x.number) (head s t rest more e).0
one_break pre [] (o ∷ os) s t rest more e said told a b f g =
    let h = head s (source_of o) rest (map source_of os ++ (t ∷ more)) e in
    let says : Says s.text o.who o.command = subst (λ (x : Source). Says x.text o.who o.command) (sym h.0) told.0 in
    absurd (f o says (subst (λ (x : List Line). IsAdmitted x o.who o.command) (sym (append-nil pre)) b.0))
one_break pre (l ∷ ls) [] s t rest more e said told a b f g =
    let h = head (source_of l) t (map source_of ls ++ (s ∷ rest)) more e in
    let says : Says t.text l.who l.command = subst (λ (x : Source). Says x.text l.who l.command) h.0 said.0 in
    absurd (g l says (subst (λ (x : List Line). IsAdmitted x l.who l.command) (sym (append-nil pre)) a.0))
one_break pre (l ∷ ls) (o ∷ os) s t rest more e said told a b f g =
    let h = head (source_of l) (source_of o) (map source_of ls ++ (s ∷ rest)) (map source_of os ++ (t ∷ more)) e in
    let same : l ≡ o = said_once l o h.0 said.0 told.0 in
    one_break (pre ++ l ∷ []) ls os s t rest more h.1 said.1 told.1 a.1 (subst (λ (x : Line). AreAdmitted (pre ++ x ∷ []) os) (sym same) b.1)
    (grouped pre ls l s f)
    (grouped pre os l t (λ m says k. g m says (subst (λ (x : Line). IsAdmitted (pre ++ x ∷ os) m.who m.command) same k)))

-- sources break at one line
breaks_are_one : (sources : List Source) (m n : ℕ) → BreaksAt sources m → BreaksAt sources n → m ≡ n
breaks_are_one sources m n a b =
    one_break [] a.before b.before (source m a.text) (source n b.text) a.rest b.rest (sym a.are
    ∙ b.are) a.lines.said b.lines.said a.lines.admitted b.lines.admitted
    a.breaks b.breaks

-- ---- what isn't given back

-- one of lines that are all settled is settled
settled_there : (all before after : List Line) (l : Line) → AllByRecursion (IsSettled all) (before ++ l ∷ after) → IsSettled all l
settled_there all [] after l h = h.0
settled_there all (b ∷ bs) after l h = settled_there all bs after l h.1

-- two first lines that aren't settled are one
one_kept : (all before other after more : List Line) (l m : Line) → before ++ l ∷ after ≡ other ++ m ∷ more → AllByRecursion (IsSettled all) before
    → AllByRecursion (IsSettled all) other → (IsSettled all l → ⊥) → (IsSettled all m → ⊥) → l ≡ m
one_kept all [] [] after more l m e s t f g = (head l m after more e).0
one_kept all [] (o ∷ os) after more l m e s t f g =
    absurd (f (subst (IsSettled all) (sym (head l o after (os ++ m ∷ more) e).0) t.0))
one_kept all (b ∷ bs) [] after more l m e s t f g = absurd (g (subst (IsSettled all) (head b m (bs ++ l ∷ after) more e).0 s.0))
one_kept all (b ∷ bs) (o ∷ os) after more l m e s t f g =
    one_kept all bs os after more l m (head b o (bs ++ l ∷ after) (os ++ m ∷ more) e).1 s.1 t.1 f g

-- one line is the first that isn't settled
kept_is_one : (all : List Line) (m n : ℕ) → KeptAt all m → KeptAt all n → m ≡ n
kept_is_one all m n a b =
    a.is ∙ ap (λ (l : Line). l.number) (one_kept all a.before b.before a.after b.after a.line b.line (sym a.parts ∙ b.parts) a.settled b.settled a.kept b.kept)
    ∙ sym b.is

-- where all are settled there is none
all_settled : (all : List Line) (n : ℕ) → AllByRecursion (IsSettled all) all → KeptAt all n → ⊥
all_settled all n settled k =
    k.kept (settled_there all k.before k.after k.line (subst (λ (ls : List Line). AllByRecursion (IsSettled all) ls) k.parts settled))

-- ---- the whole text

-- the pool's line and the rest are those of the text
first_is : (bytes : List ℕ) (p q : Source) (rest more : List Source) → sources_of bytes ≡ p ∷ rest → sources_of bytes ≡ q ∷ more → (p ≡ q) × (rest ≡ more)
first_is bytes p q rest more e f = head p q rest more (sym e ∙ f)

-- a text without lines has no first one
none_first : (bytes : List ℕ) (p : Source) (rest : List Source) → sources_of bytes ≡ [] → sources_of bytes ≡ p ∷ rest → ⊥
none_first bytes p rest e f = let k : [] ≡ p ∷ rest = sym e ∙ f in absurd (cc)

-- one line doesn't say a pool and say none
no_shape : (bytes : List ℕ) (p q : Source) (rest more : List Source) (z : Shape) → sources_of bytes ≡ p ∷ rest → sources_of bytes ≡ q ∷ more
    → ((z : Shape) → SaysPool p.text z → ⊥) → SaysPool q.text z → ⊥
no_shape bytes p q rest more z e f none says =
    none z (subst (λ (x : Source). SaysPool x.text z) (sym (first_is bytes p q rest more e f).0) says)

-- a text is refused at one line
pub one_line : (bytes : List ℕ) (m n : ℕ) → IsRefused bytes m → IsRefused bytes n → m ≡ n
one_line bytes m n (no_pool e i) (no_pool f j) = i ∙ sym j
one_line bytes m n (no_pool e i) (bad_pool q more f none j) = absurd (none_first bytes q more e f)
one_line bytes m n (no_pool e i) (bad_line q more z f says b) = absurd (none_first bytes q more e f)
one_line bytes m n (no_pool e i) (not_settled q more z ls f says lines k) = absurd (none_first bytes q more e f)
one_line bytes m n (bad_pool p rest e none i) (no_pool f j) = absurd (none_first bytes p rest f e)
one_line bytes m n (bad_pool p rest e none i) (bad_pool q more f other j) =
    i ∙ ap (λ (x : Source). x.number) (first_is bytes p q rest more e f).0 ∙ sym j
one_line bytes m n (bad_pool p rest e none i) (bad_line q more z f says b) = absurd (no_shape bytes p q rest more z e f none says)
one_line bytes m n (bad_pool p rest e none i) (not_settled q more z ls f says lines k) = absurd (no_shape bytes p q rest more z e f none says)
one_line bytes m n (bad_line p rest z e says a) (no_pool f j) = absurd (none_first bytes p rest f e)
one_line bytes m n (bad_line p rest z e says a) (bad_pool q more f none j) = absurd (no_shape bytes q p more rest z f e none says)
one_line bytes m n (bad_line p rest z e says a) (bad_line q more y f told b) =
    breaks_are_one rest m n a (subst (λ (r : List Source). BreaksAt r n) (sym (first_is bytes p q rest more e f).1) b)
one_line bytes m n (bad_line p rest z e says a) (not_settled q more y ls f told lines k) =
    absurd (lines_dont_break rest ls m (subst (λ (r : List Source). AreLines r ls) (sym (first_is bytes p q rest more e f).1) lines) a)
one_line bytes m n (not_settled p rest z ls e says lines k) (no_pool f j) = absurd (none_first bytes p rest f e)
one_line bytes m n (not_settled p rest z ls e says lines k) (bad_pool q more f none j) = absurd (no_shape bytes q p more rest z f e none says)
one_line bytes m n (not_settled p rest z ls e says lines k) (bad_line q more y f told b) =
    absurd (lines_dont_break rest ls n lines (subst (λ (r : List Source). BreaksAt r n) (sym (first_is bytes p q rest more e f).1) b))
one_line bytes m n (not_settled p rest z ls e says lines k) (not_settled q more y ms f told others l) =
    let same : ls ≡ ms = lines_are_one rest ls ms lines (subst (λ (r : List Source). AreLines r ms) (sym (first_is bytes p q rest more e f).1) others) in
    kept_is_one ls m n k (subst (λ (all : List Line). KeptAt all n) (sym same) l)

-- a script isn't refused
pub not_both : (bytes : List ℕ) (s : ScriptOf) (n : ℕ) → IsScript bytes s → IsRefused bytes n → ⊥
not_both bytes s n a (no_pool f j) = none_first bytes a.pool a.rest f a.sources
not_both bytes s n a (bad_pool q more f none j) = no_shape bytes q a.pool more a.rest s.shape f a.sources none a.says_pool
not_both bytes s n a (bad_line q more z f says b) =
    lines_dont_break a.rest s.lines n a.lines (subst (λ (r : List Source). BreaksAt r n) (sym (first_is bytes a.pool q a.rest more a.sources f).1) b)
not_both bytes s n a (not_settled q more z ls f says lines k) =
    let same : s.lines ≡ ls =
    lines_are_one a.rest s.lines ls a.lines (subst (λ (r : List Source). AreLines r ls) (sym (first_is bytes a.pool q a.rest more a.sources f).1) lines) in
    all_settled s.lines n a.settled (subst (λ (all : List Line). KeptAt all n) (sym same) k)

-- shapes that are one but for the passes, which are these lines'
shapes : (y z : Shape) → with_one y ≡ with_one z → y.passes ≡ z.passes → y ≡ z
shapes y z e f = again y.passes z.passes y z e f refl refl
  where
    again : (p q : ℕ) (y z : Shape) → with_one y ≡ with_one z → p ≡ q → p ≡ y.passes → q ≡ z.passes → y ≡ z
    again p q y z e f g h =
        let k : record (with_one y) { passes = p } ≡ record (with_one z) { passes = p } = ap (λ (x : Shape). record x { passes = p }) e in
        ap (λ (n : ℕ). record y { passes = n }) (sym g) ∙ k ∙ ap (λ (n : ℕ). record z { passes = n }) (f ∙ h)

-- a text is one script
pub one_script : (bytes : List ℕ) (s t : ScriptOf) → IsScript bytes s → IsScript bytes t → s ≡ t
one_script bytes s t a b =
    let first = first_is bytes a.pool b.pool a.rest b.rest a.sources b.sources in
    let lines : s.lines ≡ t.lines = lines_are_one a.rest s.lines t.lines a.lines (subst (λ (r : List Source). AreLines r t.lines) (sym first.1) b.lines) in
    let ones : ◌≡◌ {A = Option Shape} (Some (with_one s.shape)) (Some (with_one t.shape)) =
    sym (shape_row s.shape a.says_pool.is_valid) ∙ ap shape_named (sym a.says_pool.spelled ∙ ap (λ (x : Source). x.text) first.0 ∙ b.says_pool.spelled)
    ∙ shape_row t.shape b.says_pool.is_valid in
    let shape : s.shape ≡ t.shape =
    shapes s.shape t.shape (same_Some (with_one s.shape) (with_one t.shape) ones) (a.passes ∙ ap passes_of lines ∙ sym b.passes) in
    same_script s.shape t.shape s.lines t.lines shape lines
  where
    same_script : (y z : Shape) (ls ms : List Line) → y ≡ z → ls ≡ ms → script_of y ls ≡ script_of z ms
    same_script y z ls ms e f = cc
