-- `sheet::faults::has_break` meets its contract: one of the bytes is a break.
use mathlib.Core.Path.{◌∙◌}
use Rattle.std.proofs.Common.{rules, tests}
use Rattle.std.proofs.lemmas.Iterator.{YieldsList-from_slice}
use Rattle.std.proofs.lemmas.Iterator.Search.{any_from_yields_List}
use Rattle.text.specs.Parts.{part}
use Rattle.text.proofs.Laws.Parts.{part_slice}
use Rattle.sheet.specs.Faults.{is_break}
use Rattle.sheet.proofs.Laws.Faults.{has_break-any}
use Rattle.sheet.proofs.faults.has_break.Goals as goal

pub returns : goal.returns
unfolding is_break
returns c =
    let a = c.args in
    any_from_yields_List is_break _ _ c.any.result c.any.ensures.ran (YieldsList-from_slice (part a.buffer.now a.from a.to) (let s = part_slice a.buffer.now a.from a.to c.requires.0 in cc)) (λ x b q k. search (rules, tests))
    ∙ has_break-any _
