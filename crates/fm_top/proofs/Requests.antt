-- Words ask for one thing.
use Rattle.std.{proofs.Common.{◌≡◌, ℕ, List, [], ◌∷◌, Option, refl, sym, ap, subst, ◌∙◌, arith, codes, get_or}, specs.Fmt.{decimal}}
use Rattle.std.{specs.Prelude.{bytes_eq, if◌then◌else◌}, proofs.lemmas.Fmt.{decimal_injective}}
use Rattle.fm_lanes.{proofs.Naming.{kind_text-injective}, specs.{Named.{kind_text}, declared.value_kind.ValueKind.{ValueKind}}}
use Rattle.fm_top_options.{proofs.Said.{one_saying}, specs.Options.{Say}}
use Rattle.fm_top.specs.Words.{Request, Sum, Layout, Ask, Demo, Run, Asks, AreFaulty, IsRun, IsSum, IsOfFile, IsThreaded, IsAsk, IsTexts, IsCount, IsDemo, AreThreadsBy, IsLayout, layout_word, question_word, three}
use Rattle.fm_top.specs.declared.command.{layout_text.LayoutText.{LayoutText, TheVariants.{Places, Json}}, question.Question.{Question}, wish.Wish.{Wish, TheVariants.{Answer, Group, Texts}}}
use Rattle.fm_top.{specs.declared.command.question.Question.TheVariants.{Query, Stream, Tally}, proofs.Threaded.{one_count}}

same_sum : (words : List (List ℕ)) (n m n' m' : ℕ) (kind kind' : ValueKind) (file file' : List ℕ)
    → IsSum words n m kind file → IsSum words n' m' kind' file' → Sum n m kind file ≡ Sum n' m' kind' file'
same_sum words n m n' m' kind kind' file file' a b =
    let one = a.spelled in
    let two = b.spelled in
    let sizes : decimal n ≡ decimal n' = cc in
    let ats : decimal m ≡ decimal m' = cc in
    let files : file ≡ file' = cc in
    let types : kind_text kind ≡ kind_text kind' = cc in
    let same_kind : kind ≡ kind' = kind_text-injective kind kind' types in
    let size : n ≡ n' = decimal_injective n n' (omega (arith, a.has_value.small)) (omega (arith, b.has_value.small)) sizes in
    let at : m ≡ m' = decimal_injective m m' (omega (arith, a.has_value.small, a.has_value.within)) (omega (arith, b.has_value.small, b.has_value.within)) ats
    in
    cc

same_file : (words : List (List ℕ)) (command file file' : List ℕ) → IsOfFile words command file → IsOfFile words command file' → file ≡ file'
same_file words command file file' a b =
    let one = a.spelled in
    let two = b.spelled in
    cc

-- What words with threads say, they say alone.
pub record SayAlike (threads threads' : ℕ) (names names' : List (List ℕ)) : Type 0 where
  pub count : threads ≡ threads'
  pub named : names ≡ names'

module _ (words : List (List ℕ)) (command command' : List ℕ) (threads threads' : ℕ) (names names' : List (List ℕ))
    (a : IsThreaded words command threads names) (b : IsThreaded words command' threads' names') where
  pub same_threaded : SayAlike threads threads' names names'
  same_threaded =
      let one = a.spelled in
      let two = b.spelled in
      let behind : a.behind ≡ b.behind = cc in
      let says : Say b.behind a.text names = subst (λ (ws : List (List ℕ)). Say ws a.text names) behind a.says in
      let said = one_saying b.behind a.text b.text names names' says b.says in
      record {
        count = one_count b.text threads threads' (subst (λ (t : Option (List ℕ)). AreThreadsBy t threads) said.0 a.are_threads) b.are_threads;
        named = said.1;
      }

  -- the words of commands with threads begin with their word
  same_word : command ≡ command'
  same_word =
      let one = a.spelled in
      let two = b.spelled in
      cc

-- words that begin otherwise are others
other_words : (v w : List ℕ) → (get_or v 0 0 ≡ get_or w 0 0 → ⊥) → v ≡ w → ⊥
other_words v w other same = other (ap (λ (x : List ℕ). get_or x 0 0) same)

one_question : (q r : Question) → question_word q ≡ question_word r → q ≡ r
one_question Query Query is = refl
one_question Query Stream is = absurd (other_words (codes "query") (codes "stream") (λ (e : 113 ≡ 115). omega (arith, e)) is)
one_question Query Tally is = absurd (other_words (codes "query") (codes "tally") (λ (e : 113 ≡ 116). omega (arith, e)) is)
one_question Stream Query is = absurd (other_words (codes "stream") (codes "query") (λ (e : 115 ≡ 113). omega (arith, e)) is)
one_question Stream Stream is = refl
one_question Stream Tally is = absurd (other_words (codes "stream") (codes "tally") (λ (e : 115 ≡ 116). omega (arith, e)) is)
one_question Tally Query is = absurd (other_words (codes "tally") (codes "query") (λ (e : 116 ≡ 113). omega (arith, e)) is)
one_question Tally Stream is = absurd (other_words (codes "tally") (codes "stream") (λ (e : 116 ≡ 115). omega (arith, e)) is)
one_question Tally Tally is = refl

one_text : (t u : LayoutText) → layout_word t ≡ layout_word u → t ≡ u
one_text Places Places is = refl
one_text Places Json is = absurd (other_words (codes "layout") (codes "migrate") (λ (e : 108 ≡ 109). omega (arith, e)) is)
one_text Json Places is = absurd (other_words (codes "migrate") (codes "layout") (λ (e : 109 ≡ 108). omega (arith, e)) is)
one_text Json Json is = refl

same_layout : (words : List (List ℕ)) (text text' : LayoutText) (file file' : List ℕ) → IsLayout words text file → IsLayout words text' file'
    → Layout text file ≡ Layout text' file'
same_layout words text text' file file' a b =
    let one = a.spelled in
    let two = b.spelled in
    let word : layout_word text ≡ layout_word text' = cc in
    let name : file ≡ file' = cc in
    let same : text ≡ text' = one_text text text' word in
    cc

same_asked : (words : List (List ℕ)) (q q' : Question) (threads threads' : ℕ) (layout text file layout' text' file' : List ℕ)
    → IsAsk words (Answer q threads) layout text file → IsAsk words (Answer q' threads') layout' text' file'
    → Ask (Answer q threads) layout text file ≡ Ask (Answer q' threads') layout' text' file'
same_asked words q q' threads threads' layout text file layout' text' file' a b =
    let word = same_word words (question_word q) (question_word q') threads threads' (three layout text file) (three layout' text' file') a b in
    let question : q ≡ q' = one_question q q' word in
    let same = same_threaded words (question_word q) (question_word q') threads threads' (three layout text file) (three layout' text' file') a b in
    let count = same.count in
    let names = same.named in
    cc

same_grouped : (words : List (List ℕ)) (threads threads' : ℕ) (layout text file layout' text' file' : List ℕ)
    → IsAsk words (Group threads) layout text file → IsAsk words (Group threads') layout' text' file'
    → Ask (Group threads) layout text file ≡ Ask (Group threads') layout' text' file'
same_grouped words threads threads' layout text file layout' text' file' a b =
    let same = same_threaded words (codes "group") (codes "group") threads threads' (three layout text file) (three layout' text' file') a b in
    let count = same.count in
    let names = same.named in
    cc

same_texts : (words : List (List ℕ)) (layout path file layout' path' file' : List ℕ) → IsTexts words layout path file → IsTexts words layout' path' file'
    → Ask Texts layout path file ≡ Ask Texts layout' path' file'
same_texts words layout path file layout' path' file' a b =
    let one = a.spelled in
    let two = b.spelled in
    cc

same_demo : (words : List (List ℕ)) (threads threads' count count' : ℕ) → IsDemo words threads count → IsDemo words threads' count'
    → Demo threads count ≡ Demo threads' count'
same_demo words threads threads' count count' a b =
    let same = same_threaded words (codes "demo") (codes "demo") threads threads' (decimal count ∷ []) (decimal count' ∷ []) a.threaded b.threaded in
    let names = same.named in
    let text : decimal count ≡ decimal count' = cc in
    let counts : count ≡ count' = decimal_injective count count' (omega (arith, a.is_count.few)) (omega (arith, b.is_count.few)) text in
    let number = same.count in
    cc

-- ---- the commands

-- the place of a command among the commands
sort : Request → ℕ
sort (Sum n m kind file) = 0
sort (Layout text file) = 1
sort (Ask (Answer q threads) layout text file) = 2
sort (Ask (Group threads) layout text file) = 7
sort (Ask Texts layout text file) = 6
sort (Demo threads count) = 3
sort (Run file) = 4

word_sort : List ℕ → ℕ
word_sort w =
    if bytes_eq w (codes "sum") then 0 else if bytes_eq w (codes "layout") then 1 else if bytes_eq w (codes "migrate") then 1
    else if bytes_eq w (codes "demo") then 3 else if bytes_eq w (codes "run") then 4 else if bytes_eq w (codes "texts") then 6
    else if bytes_eq w (codes "group") then 7 else 2

words_sort : List (List ℕ) → ℕ
words_sort [] = 5
words_sort (w ∷ ws) = word_sort w

question_sort : (q : Question) → word_sort (question_word q) ≡ 2
unfolding word_sort
question_sort Query = refl
question_sort Stream = refl
question_sort Tally = refl

text_sort : (text : LayoutText) → word_sort (layout_word text) ≡ 1
unfolding word_sort
text_sort Places = refl
text_sort Json = refl

sort_is : (words : List (List ℕ)) (r : Request) → Asks words r → words_sort words ≡ sort r
unfolding sort word_sort words_sort
sort_is words (Sum n m kind file) asks = ap words_sort asks.spelled
sort_is words (Layout text file) asks = ap words_sort asks.spelled ∙ text_sort text
sort_is words (Ask (Answer q threads) layout text file) asks = ap words_sort asks.spelled ∙ question_sort q
sort_is words (Ask (Group threads) layout text file) asks = ap words_sort asks.spelled
sort_is words (Ask Texts layout text file) asks = ap words_sort asks.spelled
sort_is words (Demo threads count) asks = ap words_sort asks.threaded.spelled
sort_is words (Run file) asks = ap words_sort asks.spelled

pub same_request : (words : List (List ℕ)) (r s : Request) → Asks words r → Asks words s → r ≡ s
unfolding sort
same_request words (Sum n m kind file) (Sum n' m' kind' file') a b = same_sum words n m n' m' kind kind' file file' a b
same_request words (Layout text file) (Layout text' file') a b = same_layout words text text' file file' a b
same_request words (Run file) (Run file') a b = ap Run (same_file words (codes "run") file file' a b)
same_request words (Ask (Answer q threads) layout text file) (Ask (Answer q' threads') layout' text' file') a b =
    same_asked words q q' threads threads' layout text file layout' text' file' a b
same_request words (Ask (Group threads) layout text file) (Ask (Group threads') layout' text' file') a b =
    same_grouped words threads threads' layout text file layout' text' file' a b
same_request words (Ask Texts layout text file) (Ask Texts layout' text' file') a b = same_texts words layout text file layout' text' file' a b
same_request words (Demo threads count) (Demo threads' count') a b = same_demo words threads threads' count count' a b
same_request words (Ask (Answer q threads) layout text file) s a b =
    let same : 2 ≡ sort s = sym (sort_is words (Ask (Answer q threads) layout text file) a) ∙ sort_is words s b in absurd (cc)
same_request words (Ask (Group threads) layout text file) s a b =
    let same : 7 ≡ sort s = sym (sort_is words (Ask (Group threads) layout text file) a) ∙ sort_is words s b in absurd (cc)
same_request words (Ask Texts layout text file) s a b =
    let same : 6 ≡ sort s = sym (sort_is words (Ask Texts layout text file) a) ∙ sort_is words s b in absurd (cc)
same_request words r (Ask (Answer q threads) layout text file) a b =
    let same : sort r ≡ 2 = sym (sort_is words r a) ∙ sort_is words (Ask (Answer q threads) layout text file) b in absurd (cc)
same_request words r (Ask (Group threads) layout text file) a b =
    let same : sort r ≡ 7 = sym (sort_is words r a) ∙ sort_is words (Ask (Group threads) layout text file) b in absurd (cc)
same_request words r (Ask Texts layout text file) a b =
    let same : sort r ≡ 6 = sym (sort_is words r a) ∙ sort_is words (Ask Texts layout text file) b in absurd (cc)
same_request words r s a b = let same : sort r ≡ sort s = sym (sort_is words r a) ∙ sort_is words s b in absurd (cc)

-- ---- words of no command

-- what the words say is of no question
pub no_ask : {words : List (List ℕ)} {w : List ℕ} (q : Question) {n : ℕ} {names : List (List ℕ)} → IsThreaded words w n names
    → ((layout text file : List ℕ) → names ≡ three layout text file → ⊥)
    → (threads : ℕ) (layout text file : List ℕ) → IsAsk words (Answer q threads) layout text file → ⊥
no_ask {words} {w} q {n} {names} said none threads layout text file asks =
    let same = same_threaded words w (question_word q) n threads names (three layout text file) said asks in
    none layout text file same.named

-- nor of `group`
pub no_group : {words : List (List ℕ)} {n : ℕ} {names : List (List ℕ)} → IsThreaded words (codes "group") n names
    → ((layout text file : List ℕ) → names ≡ three layout text file → ⊥)
    → (threads : ℕ) (layout text file : List ℕ) → IsAsk words (Group threads) layout text file → ⊥
no_group {words} {n} {names} said none threads layout text file asks =
    let same = same_threaded words (codes "group") (codes "group") n threads names (three layout text file) said asks in
    none layout text file same.named

-- what the words say is of this question
pub is_ask : {words : List (List ℕ)} {w : List ℕ} (q : Question) {n : ℕ} {names : List (List ℕ)} {wish : Wish} {layout text file : List ℕ}
    → w ≡ question_word q → IsThreaded words w n names → (wish ≡ Answer q n) × (names ≡ three layout text file) → IsAsk words wish layout text file
is_ask {words} {w} q {n} {names} {wish} {layout} {text} {file} is said by =
    let same : IsThreaded words (question_word q) n (three layout text file) = rw (← is, ← by.1) said in
    subst (λ (x : Wish). IsAsk words x layout text file) (sym by.0) same

-- or of `group`
pub is_group : {words : List (List ℕ)} {n : ℕ} {names : List (List ℕ)} {wish : Wish} {layout text file : List ℕ}
    → IsThreaded words (codes "group") n names → (wish ≡ Group n) × (names ≡ three layout text file) → IsAsk words wish layout text file
is_group {words} {n} {names} {wish} {layout} {text} {file} said by =
    let same : IsThreaded words (codes "group") n (three layout text file) = rw (← by.1) said in
    subst (λ (x : Wish). IsAsk words x layout text file) (sym by.0) same

-- or of no demonstration
pub no_demo : {words : List (List ℕ)} {w : List ℕ} {n : ℕ} {names : List (List ℕ)} → IsThreaded words w n names
    → ((count : ℕ) → IsCount count → names ≡ decimal count ∷ [] → ⊥) → (threads count : ℕ) → IsDemo words threads count → ⊥
no_demo {words} {w} {n} {names} said none threads count asks =
    let same = same_threaded words w (codes "demo") n threads names (decimal count ∷ []) said asks.threaded in
    none count asks.is_count same.named

-- words that ask for none of these ask for nothing
pub no_command : (words : List (List ℕ)) → ((file : List ℕ) → IsLayout words Places file → ⊥) → ((file : List ℕ) → IsLayout words Json file → ⊥)
    → ((file : List ℕ) → IsRun words file → ⊥) → ((size at : ℕ) (kind : ValueKind) (file : List ℕ) → IsSum words size at kind file → ⊥)
    → ((layout path file : List ℕ) → IsTexts words layout path file → ⊥)
    → ((q : Question) (threads : ℕ) (layout text file : List ℕ) → IsAsk words (Answer q threads) layout text file → ⊥)
    → ((threads : ℕ) (layout text file : List ℕ) → IsAsk words (Group threads) layout text file → ⊥)
    → ((threads count : ℕ) → IsDemo words threads count → ⊥) → AreFaulty words
no_command words places json run sum texts ask group demo (Sum size at kind file) asks = sum size at kind file asks
no_command words places json run sum texts ask group demo (Layout Places file) asks = places file asks
no_command words places json run sum texts ask group demo (Layout Json file) asks = json file asks
no_command words places json run sum texts ask group demo (Ask (Answer q threads) layout text file) asks = ask q threads layout text file asks
no_command words places json run sum texts ask group demo (Ask (Group threads) layout text file) asks = group threads layout text file asks
no_command words places json run sum texts ask group demo (Ask Texts layout text file) asks = texts layout text file asks
no_command words places json run sum texts ask group demo (Demo threads count) asks = demo threads count asks
no_command words places json run sum texts ask group demo (Run file) asks = run file asks

-- words of no question's command are of none
pub no_question : (words : List (List ℕ)) → ((threads : ℕ) (layout text file : List ℕ) → IsAsk words (Answer Query threads) layout text file → ⊥)
    → ((threads : ℕ) (layout text file : List ℕ) → IsAsk words (Answer Stream threads) layout text file → ⊥)
    → ((threads : ℕ) (layout text file : List ℕ) → IsAsk words (Answer Tally threads) layout text file → ⊥)
    → (q : Question) (threads : ℕ) (layout text file : List ℕ) → IsAsk words (Answer q threads) layout text file → ⊥
no_question words query stream tally Query threads layout text file asks = query threads layout text file asks
no_question words query stream tally Stream threads layout text file asks = stream threads layout text file asks
no_question words query stream tally Tally threads layout text file asks = tally threads layout text file asks
