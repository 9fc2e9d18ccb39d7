-- The lines of scripts are text.
use Rattle.std.{proofs.Common.{◌≡◌, refl, sym, subst, ℕ, ◌<◌, ◌≤◌, ◌^◌, true, ◌||◌, nat_lt, List, [], ◌∷◌, arith, codes}, specs.Prelude.{ℤ, IsTrue}}
use Rattle.std.{specs.{Fmt.{decimal, signed_decimal}, List.{AllByRecursion, list_all}, Str.{IsAscii, IsUtf8}}}
use Rattle.std.proofs.lemmas.{Bool.Decides.{nat_tests}, Fmt.{IsAscii-decimal, IsAscii-signed}, Str.{IsUtf8-nil, IsUtf8-append, IsUtf8-from_ascii}}
use Rattle.std.proofs.lemmas.Str.Ascii.{IsAscii-nil, IsAscii-cons}
use Rattle.fm_base_text.proofs.Digits.{ascii_tested}
use Rattle.fm_base.specs.declared.kind.Kind.{Kind}
use Rattle.fm_base.specs.declared.kind.Kind.TheVariants as kind
use Rattle.fm_lanes.specs.declared.{order.Order.{Order}, value_kind.ValueKind.{ValueKind}}
use Rattle.fm_layout.specs.Name.{IsName, IsNameEnd, is_letter, is_digit}
use Rattle.fm_words.specs.declared.shape.Shape.{Shape}
use Rattle.fm_script_text.{proofs.Spelling.{every_type, small_value}, specs.declared.{close_by.CloseBy.{CloseBy, TheVariants.{Visits, Polls}}, command.Command.{Command}}}
use Rattle.fm_script_text.specs.declared.command.Command.TheVariants.{Open, Alloc, Slice, Readonly, Get, Set, Add, Cas, Fill, Copy, Mismatch, Alive, Hold, Unhold, Again, Back, Close}
use Rattle.fm_script_text.specs.declared.who.Who.{Who, TheVariants.{First, Worker, Last}}
use Rattle.fm_script_text.specs.Syntax.{Says, SaysPool, who_text, words_of, spaced, arena_kind_text, close_text, type_text, IsWho, IsSpelled, IsOfKind, most}

-- bytes that were tested are text
text : (bs : List ℕ) → list_all (λ b. nat_lt b 128) bs ≡ true → IsUtf8 bs
text bs t = IsUtf8-from_ascii bs (ascii_tested bs t)

-- a byte of a name is ASCII
letter : (c : ℕ) → IsTrue (is_letter c || is_digit c) → c < 128
letter c h = grind (arith, nat_tests)

-- so is its first
only_letter : (c : ℕ) → IsTrue (is_letter c) → c < 128
only_letter c h = grind (arith, nat_tests)

-- and each behind that
ascii_end : (cs : List ℕ) → IsNameEnd cs → IsAscii cs
ascii_end [] h = IsAscii-nil
ascii_end (c ∷ cs) h = IsAscii-cons c cs (letter c h.0) (ascii_end cs h.1)

-- a name is text
pub utf8_name : (name : List ℕ) → IsName name → IsUtf8 name
utf8_name [] h = absurd h
utf8_name (c ∷ cs) h = IsUtf8-from_ascii (c ∷ cs) (IsAscii-cons c cs (only_letter c h.0) (ascii_end cs h.1))

-- a number is text
number : (n : ℕ) → n < 2 ^ 64 → IsUtf8 (decimal n)
number n h = IsUtf8-from_ascii (decimal n) (IsAscii-decimal n h)

-- so is one with a sign
value : (k : ValueKind) (z : ℤ) → IsOfKind k z → IsUtf8 (signed_decimal z)
value k z h = IsUtf8-from_ascii (signed_decimal z) (IsAscii-signed z (small_value k z h))

-- a kind of arena is text
arena_kind : (k : Kind) → IsUtf8 (arena_kind_text k)
arena_kind kind.Global = text (codes "global") refl
arena_kind kind.Automatic = text (codes "auto") refl
arena_kind kind.Confined = text (codes "confined") refl
arena_kind kind.Shared = text (codes "shared") refl

-- a type is text
type : (k : ValueKind) (o : Order) → IsUtf8 (type_text k o)
type k o =
    text (type_text k o) (every_type (λ t. list_all (λ b. nat_lt b 128) (type_text t.0 t.1) ≡ true)
    (refl, (refl, (refl, (refl, (refl, (refl, (refl, (refl, (refl, (refl, (refl, (refl, tt)))))))))))) k o)

-- so is how an arena is closed
close : (by : CloseBy) → IsUtf8 (close_text by)
close Visits = text (codes "close") refl
close Polls = text (codes "closepoll") refl

-- an offset is text
offset : (n : ℕ) → n ≤ most → IsUtf8 (decimal n)
offset n h = number n (omega arith)

-- the words of a command are text
words : (c : Command) → IsSpelled c → AllByRecursion IsUtf8 (words_of c)
words (Open name k) h = (text (codes "open") refl, (utf8_name name h, (arena_kind k, tt)))
words (Alloc arena name size align) h = (text (codes "alloc") refl, (utf8_name arena h.0, (utf8_name name h.1, (offset size h.2, (offset align h.3, tt)))))
words (Slice segment name at size) h = (text (codes "slice") refl, (utf8_name segment h.0, (utf8_name name h.1, (offset at h.2, (offset size h.3, tt)))))
words (Readonly segment name) h = (text (codes "readonly") refl, (utf8_name segment h.0, (utf8_name name h.1, tt)))
words (Get c) h = (text (codes "get") refl, (utf8_name c.segment h.0, (type c.kind c.order, (offset c.offset h.1, tt))))
words (Set c z) h = (text (codes "set") refl, (utf8_name c.segment h.0.0, (type c.kind c.order, (offset c.offset h.0.1, (value c.kind z h.1, tt)))))
words (Add c z) h = (text (codes "add") refl, (utf8_name c.segment h.0.0, (type c.kind c.order, (offset c.offset h.0.1, (value c.kind z h.1, tt)))))
words (Cas c old new) h =
    (text (codes "cas") refl, (utf8_name c.segment h.0.0, (type c.kind c.order, (offset c.offset h.0.1, (value c.kind old h.1, (value c.kind new h.2, tt))))))
words (Fill segment byte) h = (text (codes "fill") refl, (utf8_name segment h.0, (number byte (omega (arith, h.1)), tt)))
words (Copy source target) h = (text (codes "copy") refl, (utf8_name source h.0, (utf8_name target h.1, tt)))
words (Mismatch segment other) h = (text (codes "mismatch") refl, (utf8_name segment h.0, (utf8_name other h.1, tt)))
words (Alive arena) h = (text (codes "alive") refl, (utf8_name arena h, tt))
words (Hold arena name) h = (text (codes "hold") refl, (utf8_name arena h.0, (utf8_name name h.1, tt)))
words (Unhold hold) h = (text (codes "unhold") refl, (utf8_name hold h, tt))
words (Again handle name) h = (text (codes "again") refl, (utf8_name handle h.0, (utf8_name name h.1, tt)))
words (Back handle) h = (text (codes "back") refl, (utf8_name handle h, tt))
words (Close arena by) h = (close by, (utf8_name arena h, tt))

-- who runs a line is said in text
who_is_text : (who : Who) → IsWho who → IsUtf8 (who_text who)
who_is_text First h = text (codes "first") refl
who_is_text Last h = text (codes "last") refl
who_is_text (Worker n) h = number n (omega (arith, h.1))

-- words of text are text with spaces between them
spaced_text : (words : List (List ℕ)) → AllByRecursion IsUtf8 words → IsUtf8 (spaced words)
spaced_text [] h = IsUtf8-nil
spaced_text (w ∷ []) h = h.0
spaced_text (w ∷ v ∷ ws) h =
    IsUtf8-append w (32 ∷ spaced (v ∷ ws)) h.0 (IsUtf8-append (32 ∷ []) (spaced (v ∷ ws)) (text (32 ∷ []) refl) (spaced_text (v ∷ ws) h.1))

-- a line that says something is text
pub line_is_text : (line : List ℕ) (who : Who) (c : Command) → Says line who c → IsUtf8 line
line_is_text line who c s =
    subst IsUtf8 (sym s.spelled) (spaced_text (who_text who ∷ words_of c) (who_is_text who s.is_who, words c s.is_spelled))

-- so is the pool's
pub pool_is_text : (line : List ℕ) (z : Shape) → SaysPool line z → IsUtf8 line
pool_is_text line z s =
    let v = s.is_valid in
    subst IsUtf8 (sym s.spelled) (spaced_text
    (codes "pool" ∷ decimal z.slots ∷ decimal z.reach ∷ decimal z.page_words ∷ decimal z.generations ∷ decimal z.pages ∷ []) (
      text (codes "pool") refl,
      (
        number z.slots (omega (arith, v.slots)),
        (
          number z.reach (omega (arith, v.reach, v.pages)),
          (
            number z.page_words (omega (arith, v.page_words)),
            (
              number z.generations (omega (arith, v.generations)),
              (number z.pages (omega (arith, v.pages)), tt),
            ),
          ),
        ),
      ),
    ))
