-- Bytes in a pool of their own.
use Rattle.fm_top_pooled.specs.{Stocked.{IsStock, bytes_in_pool}, Views.{PooledView}, declared.pooled.Pooled.TheInside.{Inside}}

abbrev pub pooled_of : Inside → PooledView
pooled_of p = record { bytes = bytes_in_pool p.stock.pass p.stock.segment; beside = p.stock.beside }

abbrev pub HoldsBytes : Inside → Type 0
HoldsBytes p = IsStock p.stock.beside p.stock.pool p.stock.pass p.stock.segment
