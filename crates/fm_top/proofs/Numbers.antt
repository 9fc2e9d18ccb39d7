-- Words that spell numbers.
use Rattle.std.proofs.Common.{◌≡◌, ℕ, ◌<◌, ◌^◌, ◌≤◌, List, [], ◌∷◌, length, get_or, Bool, false, Option, None, Some, IfNone, sym, ◌∙◌, subst, arith, IsTrue}
use Rattle.std.specs.{Fmt.{decimal}, Prelude.{String, string_bytes}, declared.alloc.Global.{Global}}
use Rattle.std.proofs.lemmas.{Fmt.{decimal_injective}}
use Rattle.fm_lanes.{specs.{Named.{kind_text}, declared.value_kind.ValueKind.{ValueKind}}, proofs.Naming.{kind_text-injective}}
use Rattle.fm_top_options.specs.Options.{texts}
use Rattle.fm_top.specs.Words.{IsUpTo, HasValue, IsSum, IsTexts, five, four}

-- words spell numbers at which no value of the kind that they name stands, so no sum is spelled with them
pub no_sum : (command size at type_word file name : List ℕ) (n m n' m' : ℕ) (kind kind' : ValueKind) → n < 2 ^ 64 → m < 2 ^ 64
    → size ≡ decimal n → at ≡ decimal m → type_word ≡ kind_text kind
    → (HasValue n m kind → ⊥) → IsSum (five command size at type_word file) n' m' kind' name → ⊥
no_sum command size at type_word file name n m n' m' kind kind' small_n small_m size_is at_is type_is not sum =
    let spelled = sum.spelled in
    let size' : size ≡ decimal n' = cc in
    let at' : at ≡ decimal m' = cc in
    let type' : type_word ≡ kind_text kind' = cc in
    let has = sum.has_value in
    let same_n : n' ≡ n = decimal_injective n' n (omega (arith, has.small)) small_n (sym size' ∙ size_is) in
    let same_m : m' ≡ m = decimal_injective m' m (omega (arith, has.small, has.within)) small_m (sym at' ∙ at_is) in
    let same_kind : kind' ≡ kind = kind_text-injective kind' kind (sym type' ∙ type_is) in
    not (subst (λ (k : ℕ). HasValue k m kind) same_n (subst (λ (k : ℕ). HasValue n' k kind) same_m (subst (λ (k : ValueKind). HasValue n' m' k) same_kind has)))

-- five words and their texts
pub five_texts : (words : List (String Global)) (v w x y z : String Global) (a b c d e : List ℕ) → 5 ≤ length words → length words < 6
    → v ≡ get_or words 0 v → w ≡ get_or words 1 w → x ≡ get_or words 2 x → y ≡ get_or words 3 y → z ≡ get_or words 4 z
    → a ≡ string_bytes v → b ≡ string_bytes w → c ≡ string_bytes x → d ≡ string_bytes y → e ≡ string_bytes z
    → texts words ≡ five a b c d e
five_texts (p ∷ q ∷ r ∷ s ∷ t ∷ []) v w x y z a b c d e low high is_v is_w is_x is_y is_z is_a is_b is_c is_d is_e = cc
five_texts words v w x y z a b c d e low high is_v is_w is_x is_y is_z is_a is_b is_c is_d is_e = absurd (omega arith)

-- four words and their texts
pub four_texts : (words : List (String Global)) (v w x y : String Global) (a b c d : List ℕ) → 4 ≤ length words → length words < 5
    → v ≡ get_or words 0 v → w ≡ get_or words 1 w → x ≡ get_or words 2 x → y ≡ get_or words 3 y
    → a ≡ string_bytes v → b ≡ string_bytes w → c ≡ string_bytes x → d ≡ string_bytes y → texts words ≡ four a b c d
four_texts (p ∷ q ∷ r ∷ s ∷ []) v w x y a b c d low high is_v is_w is_x is_y is_a is_b is_c is_d = cc
four_texts words v w x y a b c d low high is_v is_w is_x is_y is_a is_b is_c is_d = absurd (omega arith)

-- words that are spelled so ask for no texts
pub no_texts : (words other : List (List ℕ)) → words ≡ other → ((layout path file : List ℕ) → IsTexts other layout path file → ⊥)
    → (layout path file : List ℕ) → IsTexts words layout path file → ⊥
no_texts words other same none layout path file asks =
    none layout path file (subst (λ (all : List (List ℕ)). IsTexts all layout path file) same asks)

-- words that are spelled so ask for no sum
pub none_summed : (words other : List (List ℕ)) → words ≡ other
    → ((size at : ℕ) (kind : ValueKind) (file : List ℕ) → IsSum other size at kind file → ⊥)
    → (size at : ℕ) (kind : ValueKind) (file : List ℕ) → IsSum words size at kind file → ⊥
none_summed words other same none size at kind file asks =
    none size at kind file (subst (λ (all : List (List ℕ)). IsSum all size at kind file) same asks)

-- a word spells a number that isn't from 1 up to the most, so it spells none that is
pub no_number_to : (word : List ℕ) (most n : ℕ) → most < 2 ^ 64 → word ≡ decimal n → n < 2 ^ 64 → (1 ≤ n → n ≤ most → ⊥)
    → (m : ℕ) → IsUpTo most m → word ≡ decimal m → ⊥
no_number_to word most n fits is small not m are spelled =
    let same : m ≡ n = decimal_injective m n (omega (arith, are.few, fits)) small (sym spelled ∙ is) in
    not (subst (λ (k : ℕ). 1 ≤ k) same are.some) (subst (λ (k : ℕ). k ≤ most) same are.few)

-- what is known where nothing was found
pub on_none : {A P Q : Type 0} (r : Option A) → (P → Q) → IfNone r P → IfNone r Q
on_none None f h = f h
on_none (Some x) f h = tt

-- what is false isn't true
pub no_true : (b : Bool) → b ≡ false → IsTrue b → ⊥
no_true b is_false is_true = cc
