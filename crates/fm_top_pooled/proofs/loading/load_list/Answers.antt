use Rattle.fm_top_pooled.proofs.Filed.{list_stands}
use Rattle.fm_top_pooled.proofs.loading.load_list.Goals as goal

pub returns-in-Ok-stock_of_bytes : goal.returns-in-Ok-stock_of_bytes
returns-in-Ok-stock_of_bytes g c =
    let stock = c.in-Ok-stock_of_bytes.ensures in
    record {
      holds = list_stands stock.stock stock.bytes c.in-Ok.ensures.whole c.in-Ok.ensures.short;
      left = stock.beside;
      reads = c.in-Ok.ensures.reads;
      tells = c.in-Ok.ensures.tells;
    }
