-- `text::line::line_end` meets its contract: the line ends one past the first byte 10, or at the end.
-- Assumes nothing.
use Rattle.std.proofs.Common.{arith}
use Rattle.text.specs.Bytes.{is_not}
use Rattle.text.specs.Parts.{part}
use Rattle.text.proofs.Laws.Parts.{part_length}
use Rattle.text.proofs.Laws.Runs.{run-length-le}
use Rattle.text.proofs.Laws.LinesIn.{line_in-run}
use Rattle.text.proofs.line.line_end.Goals as goal

pub overflow_add-newline : goal.overflow_add-newline
overflow_add-newline c =
    let a = c.args in
    omega (arith, run-length-le (is_not 10) (part a.text.now a.at a.to), part_length a.text.now a.at a.to c.requires.1)

pub returns : goal.returns
returns c =
    let a = c.args in
    omega (arith, line_in-run a.text.now a.at a.to c.requires.1, run-length-le (is_not 10) (part a.text.now a.at a.to), part_length a.text.now a.at a.to c.requires.1)
