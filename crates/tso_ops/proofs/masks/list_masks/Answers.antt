use Rattle.tso_ops.specs.declared.masks.Kind.TheVariants.{Loads, Stores, SwapLoads, Processors, Barriers, Stbars, AllStores}
use Rattle.tso_ops.proofs.MaskFacts.{AreMaskRows-all, AreMaskRows-readers}
use Rattle.tso_ops.proofs.masks.list_masks.Goals as goal

pub returns : goal.returns
returns c t trace is sources = record {
  loads = AreMaskRows-all t c.args.events.now Loads _ is c.in_ok-list_rows.ensures;
  stores = AreMaskRows-all t c.args.events.now Stores _ is c.in_ok-list_rows-2.ensures;
  swap_loads = AreMaskRows-all t c.args.events.now SwapLoads _ is c.in_ok-list_rows-3.ensures;
  processors = AreMaskRows-all t c.args.events.now Processors _ is c.in_ok-list_rows-4.ensures;
  barriers = AreMaskRows-all t c.args.events.now Barriers _ is c.in_ok-list_rows-5.ensures;
  stbars = AreMaskRows-all t c.args.events.now Stbars _ is c.in_ok-list_rows-6.ensures;
  all_stores = AreMaskRows-all t c.args.events.now AllStores _ is c.in_ok-list_rows-7.ensures;
  readers = AreMaskRows-readers t c.args.sources.now _ trace sources c.in_ok-list_readers.ensures;
}
