-- Where the text of a record stands.
use Rattle.std.proofs.Common.{◌≡◌, ℕ, Bool, true, false, Some, List, refl, arith}
use Rattle.fm_lanes.specs.declared.value_kind.ValueKind.TheVariants.{Boolean, Byte, Char, Short, Int, Long}
use Rattle.fm_layout.specs.{Tree.{Tree, Value, Padding, Sequence, Struct, Union}, Size.{size_of}}
use Rattle.fm_path_text.specs.{declared.step.PathStep.{PathStep}}
use Rattle.fm_path_meaning.{specs.Found.{FindsClosed}, proofs.{Inside.{inside}, Listed.{stands}}}
use Rattle.fm_top_texts.specs.Plans.{bytes_in, is_byte, LiesWithin}
use Rattle.fm_top_texts.specs.declared.plan.TextPlan.{TextPlan}

-- a byte value is a byte
byte_is_one : (t : Tree) → is_byte t ≡ true → size_of t ≡ 1
byte_is_one (Value Byte o l) h = refl
byte_is_one (Value Boolean o l) h = absurd (cc)
byte_is_one (Value Char o l) h = absurd (cc)
byte_is_one (Value Short o l) h = absurd (cc)
byte_is_one (Value Int o l) h = absurd (cc)
byte_is_one (Value Long o l) h = absurd (cc)
byte_is_one (Padding n l) h = absurd (cc)
byte_is_one (Sequence n e l) h = absurd (cc)
byte_is_one (Struct ms l) h = absurd (cc)
byte_is_one (Union ms l) h = absurd (cc)

-- byte values in a row are so many bytes
size-bytes : (t : Tree) (n : ℕ) → bytes_in t ≡ Some n → size_of t ≡ n
size-bytes (Sequence m e l) n h = elements (is_byte e) refl
  where
    elements : (b : Bool) → is_byte e ≡ b → size_of (Sequence m e l) ≡ n
    elements true is =
        let one = byte_is_one e is in
        let some : Some m ≡ Some n = rw is at h in
        let count : m ≡ n = cc in
        rw one (omega (arith, count))
    elements false is = absurd (let none = rw is at h in cc)
size-bytes (Value k o l) n h = absurd (cc)
size-bytes (Padding m l) n h = absurd (cc)
size-bytes (Struct ms l) n h = absurd (cc)
size-bytes (Union ms l) n h = absurd (cc)

-- bytes that a path finds lie within the record
pub lies_within : (path : List PathStep) (t end : Tree) (p : TextPlan) → FindsClosed path t p.offset end → bytes_in end ≡ Some p.count
    → p.size ≡ size_of t → LiesWithin p
lies_within path t end p finds bytes size =
    let within = inside finds.steps t p.offset end (stands t _ finds.listed) in
    omega (arith, within, size-bytes end p.count bytes, size)
