-- Records that are made from their numbers.
use Rattle.std.specs.{Prelude.{ℕ, ◌*◌, ◌%◌, List, ◌++◌, codes, ℤ, pos, ◌-ℤ◌, Option, Some, None}, List.{flat_map, range_with_len}}
use Rattle.fm_base_bytes.specs.{Bytes.{bytes_of}, Signed.{unsigned_of}}
use Rattle.fm_lanes.specs.declared.{order.Order.TheVariants.{Little}, value_kind.ValueKind.TheVariants.{Int, Short, Long}}
use Rattle.fm_layout.specs.Tree.{Tree, Label, Value, Padding, Struct, NoMore, More}

abbrev label : ℕ → Option (List ℕ) → Label
label alignment name = record { alignment = alignment; name = name }

-- an int, a short, padding and a long
abbrev pub made_layout : Tree
made_layout =
    Struct (More (Value Int Little (label 4 (Some (codes "id"))))
    (More (Value Short Little (label 2 (Some (codes "kind"))))
    (More (Padding 2 (label 1 None))
    (More (Value Long Little (label 8 (Some (codes "amount")))) NoMore)))) (label 8 None)

abbrev pub amount_of : ℕ → ℤ
amount_of k = pos (k * 7919 % 100003) -ℤ pos 50000

-- the record of this number
abbrev pub made_record : ℕ → List ℕ
made_record k = bytes_of 4 k ++ bytes_of 2 (k % 7) ++ bytes_of 2 0 ++ bytes_of 8 (unsigned_of 8 (amount_of k))

-- the first so many records
abbrev pub made_records : ℕ → List ℕ
made_records count = flat_map made_record (range_with_len 0 count)
