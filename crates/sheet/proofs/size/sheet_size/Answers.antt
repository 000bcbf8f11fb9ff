-- `sheet::size::sheet_size` meets its contract: the title's line, the drawer's two and the pairs'.
use native.Mathlib.Omega.{arith}
use Rattle.text.proofs.Laws.Parts.{part_length}
use Rattle.sheet.specs.Buffer.{text_width}
use Rattle.sheet.specs.Spans.{order_at}
use Rattle.sheet.proofs.Laws.Sizes.{sheet-length}
use Rattle.sheet.proofs.size.sheet_size.Goals as goal

pub returns : goal.returns
returns c =
    let x = c.args.buffer.now in
    let l = c.args.layout in (
      omega (arith, sheet-length (order_at x l), part_length x text_width l.title (omega arith), c.pairs_size.ensures.0),
      omega (arith, c.requires.short, c.requires.few, c.pairs_size.ensures.1),
    )
