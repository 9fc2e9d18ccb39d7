-- What is printed of the texts of a file's records.
use Rattle.std.specs.{Prelude.{ℕ, ◌+◌, ◌*◌, ◌/◌, if◌then◌else◌, Option, None, Some, Result, Ok, Err, List, [], ◌∷◌, ◌++◌, length, take, drop, codes}}
use Rattle.std.specs.{List.{flat_map, range_with_len}, Str.{is_utf8}, Str.Lossy.{utf8_valid_len}}
use Rattle.fm_base.specs.{declared.refusal.Refusal.{Refusal, TheVariants.{NotText, NoZero}}, Printed.{refusal_text}}
use Rattle.fm_base_text.specs.Hex.{hex_text}
use Rattle.fm_text.specs.Texts.{zero_at}
use Rattle.fm_top_texts.specs.declared.plan.TextPlan.{TextPlan}

-- ---- the text that bytes have

-- all these bytes as a text, or how many of them are text
abbrev pub whole_text : List ℕ → Result (List ℕ) Refusal
whole_text bytes = if is_utf8 bytes then Ok bytes else Err (NotText (utf8_valid_len bytes))

abbrev pub front_text : List ℕ → Option ℕ → Result (List ℕ) Refusal
front_text bytes None = Err NoZero
front_text bytes (Some n) = whole_text (take n bytes)

-- the bytes before the first 0 as a text
abbrev pub text_of : List ℕ → Result (List ℕ) Refusal
text_of bytes = front_text bytes (zero_at bytes)

-- ---- lines

abbrev pub told_text : Result (List ℕ) Refusal → List ℕ
told_text (Ok text) = codes "text" ++ hex_text text
told_text (Err refusal) = codes "refused " ++ refusal_text refusal

abbrev pub line_text : Result (List ℕ) Refusal → List ℕ
line_text told = told_text told ++ 10 ∷ []

-- the line of the text that these bytes have
abbrev pub text_line : List ℕ → List ℕ
text_line bytes = line_text (text_of bytes)

-- the bytes in which record k of the file has its text
abbrev pub bytes_there : TextPlan → List ℕ → ℕ → List ℕ
bytes_there p file k = take p.count (drop (k * p.size + p.offset) file)

abbrev pub record_line : TextPlan → List ℕ → ℕ → List ℕ
record_line p file k = text_line (bytes_there p file k)

-- a line for each record of the file, in their order
abbrev pub texts_text : TextPlan → List ℕ → List ℕ
texts_text p file = flat_map (record_line p file) (range_with_len 0 (length file / p.size))
