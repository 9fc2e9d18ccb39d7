-- Which words are those of a command with threads.
use Rattle.std.proofs.Common.{◌≡◌, ℕ, ◌-◌, ◌≤◌, List, [], ◌∷◌, length, take, drop, get_or, Option, None, Some, sym, ap, subst, ◌∙◌, arith}
use Rattle.std.specs.{Prelude.{Bool, false, not, IfSome, IfNone, String, string_bytes}, Str.{bytes_eq}, declared.alloc.Global.{Global}}
use Rattle.std.proofs.lemmas.{Bool.{not-false}, Fmt.{decimal_injective}, List.{take_all}, Slice.Eq.{bytes_eq-Decides}}
use Rattle.fm_top_options.{proofs.Said.{one_saying}, specs.Options.{Say, texts}}
use Rattle.fm_top.specs.Words.{AreThreads, AreThreadsBy, IsThreaded}

-- a word that was tested not to differ
pub is_same : {w text : List ℕ} {other : Bool} → other ≡ not (bytes_eq w text) → other ≡ false → w ≡ text
is_same {w} {text} is fails = (bytes_eq-Decides w text).0 (not-false (bytes_eq w text) (sym is ∙ fails))

-- what is known of what was found, or where nothing was
pub of_some : {X : Type 0} {r : Option X} {x : X} (P : X → Type 0) → r ≡ Some x → IfSome r P → P x
of_some P is known = subst (λ o. IfSome o P) is known

pub of_none : {X Q : Type 0} {r : Option X} → r ≡ None → IfNone r Q → Q
of_none {X} {Q} {r} is known = subst (λ o. IfNone o Q) is known

-- words and the text of the first of them
pub texts_cut : (words : List (String Global)) {w : String Global} {text : List ℕ} → 1 ≤ length words → w ≡ get_or words 0 w → text ≡ string_bytes w
    → texts words ≡ text ∷ texts (take (length words - 1) (drop 1 words))
texts_cut [] some is_w is_text = absurd (omega arith)
texts_cut (p ∷ more) {w} {text} some is_w is_text =
    let first : w ≡ p = is_w in
    let rest : take (length (p ∷ more) - 1) more ≡ more = take_all (length (p ∷ more) - 1) more (omega arith) in
    ap (λ (x : List ℕ). x ∷ texts more) (sym (is_text ∙ ap string_bytes first)) ∙ ap (λ (ws : List (String Global)). text ∷ texts ws) (sym rest)

-- a text asks for one number of threads
pub one_count : (text : Option (List ℕ)) (n m : ℕ) → AreThreadsBy text n → AreThreadsBy text m → n ≡ m
one_count None n m a b = a ∙ sym b
one_count (Some text) n m a b = decimal_injective n m (omega (arith, a.0.few)) (omega (arith, b.0.few)) (sym a.1 ∙ b.1)

-- every text asks for a number of threads that may be asked for
pub are_threads : (text : Option (List ℕ)) (n : ℕ) → AreThreadsBy text n → AreThreads n
are_threads None n is = subst AreThreads (sym is) (record { some = omega arith; few = omega arith })
are_threads (Some text) n is = is.0

-- what was said behind the command
pub is_threaded : {words behind : List (List ℕ)} {w command : List ℕ} {text : Option (List ℕ)} {names others : List (List ℕ)} {threads : ℕ}
    → words ≡ w ∷ behind → w ≡ command → Say behind text names
    → AreThreadsBy text threads × (others ≡ names) → IsThreaded words command threads others
is_threaded {words} {behind} {w} {command} {text} is is_w said asked = record {
  behind = behind;
  text = text;
  spelled = is ∙ ap (λ (x : List ℕ). x ∷ behind) is_w;
  says = subst (λ (ns : List (List ℕ)). Say behind text ns) (sym asked.1) said;
  are_threads = asked.0;
}

-- the words are none of this command
abbrev pub AreNone : List (List ℕ) → List ℕ → Type 0
AreNone words command = (threads : ℕ) (names : List (List ℕ)) → IsThreaded words command threads names → ⊥

-- no number of threads may be asked for by what was said
pub none_by : {words behind : List (List ℕ)} {w command : List ℕ} {text : Option (List ℕ)} {names : List (List ℕ)} → words ≡ w ∷ behind
    → Say behind text names → ((threads : ℕ) → AreThreadsBy text threads → ⊥) → AreNone words command
none_by {words} {behind} {w} {command} {text} {names} is said none threads others asks =
    let spelled = asks.spelled in
    let behind_is : asks.behind ≡ behind = cc in
    let says : Say behind asks.text others = subst (λ (ws : List (List ℕ)). Say ws asks.text others) behind_is asks.says in
    let same = one_saying behind text asks.text names others said says in
    none threads (subst (λ (t : Option (List ℕ)). AreThreadsBy t threads) (sym same.0) asks.are_threads)
