-- Queries of one item and no condition: the values of one path are a column, and records are counted without a look at them.
use Rattle.std.specs.Prelude.{◌≡◌, ◌/◌, List, [], ◌∷◌, Result, Ok}
use Rattle.fm_base.specs.{declared.refusal.Refusal.{Refusal}, View.{View}}
use Rattle.fm_path.specs.{Resolution.{Resolution}, Wide.{wide_dims}}
use Rattle.fm_segment.specs.Region.{Region}
use Rattle.fm_records_query.specs.{Plan.{Plan, IsPlan}, declared.{fold.Fold.{Fold}, item.{Asked.{Asked}, Item.{Item}}}}
use Rattle.fm_records_query.specs.declared.item.Asked.TheVariants as asked
use Rattle.fm_records.specs.{declared.found.Found.{Found}, Adds.{AddsRecords}, Reads.{Reads, record_places}}

-- the path's value is asked for, of which a record has one
pub record AsksOne (a : Asked) (r : Resolution) : Type 0 where
  pub fold : Fold
  pub asked : a ≡ asked.Of fold r
  pub one : wide_dims r.dims ≡ []

-- nothing else is asked, and of all records
pub record IsColumn (p : Plan) (r : Resolution) : Type 0 where
  pub plan : IsPlan p
  pub conditions : p.conditions ≡ []
  pub item : Item
  pub items : p.items ≡ item ∷ []
  pub asks : AsksOne item.asked r

-- records are counted, and all of them
pub record IsCounted (p : Plan) : Type 0 where
  pub plan : IsPlan p
  pub conditions : p.conditions ≡ []
  pub item : Item
  pub items : p.items ≡ item ∷ []
  pub asked : item.asked ≡ asked.Count

-- what all records of the segment give was added
abbrev pub AddsSegment : View → View → Region → Plan → List Found → List Found → Result (Unit {0}) Refusal → Type 0
AddsSegment old new s p fs gs result = Reads old new s (λ c. AddsRecords c s.arena p (record_places (s.size / p.size) p.size s.first) fs gs) result

-- the same with no visit
abbrev pub AddsUnread : Region → Plan → List Found → List Found → Type 0
AddsUnread s p fs gs = (v : View) → AddsSegment v v s p fs gs (Ok (tt {0}))
