use Rattle.wide_orders.proofs.TextWidths.{text_lines_wide, text_consistent, text_orders}
use Rattle.wide_orders.proofs.laws.texts_keep_orders.Goals as goal

pub returns : goal.returns
returns c = record { wide = text_lines_wide; kept = text_consistent; back = text_orders }
