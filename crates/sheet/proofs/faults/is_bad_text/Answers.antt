-- `sheet::faults::is_bad_text` meets its contract: a part with no break is bad by one of its ends.
use mathlib.Core.Path.{sym, ◌∙◌}
use Rattle.sheet.proofs.Laws.Faults.{bad_text-none, bad_text-break, bad_text-ends}
use Rattle.sheet.proofs.faults.is_bad_text.Goals as goal

pub returns-then-to-from : goal.returns-then-to-from
returns-then-to-from c = sym (bad_text-none _ _ _ c.if-to-from.true)

pub returns-then-has_break : goal.returns-then-has_break
returns-then-has_break c = sym (bad_text-break _ _ _ (sym c.has_break.ensures ∙ c.if-has_break.true))

pub returns-then-is_of : goal.returns-then-is_of
returns-then-is_of c =
    let ends = bad_text-ends _ _ _ c.if-to-from.false c.requires.1 (sym c.has_break.ensures ∙ c.if-has_break.false) in
    rw (ends, ← c.is_of.ensures, c.if-is_of.true)

pub returns-else-is_of : goal.returns-else-is_of
returns-else-is_of c =
    let ends = bad_text-ends _ _ _ c.if-to-from.false c.requires.1 (sym c.has_break.ensures ∙ c.if-has_break.false) in
    rw (ends, ← c.is_of.ensures, c.if-is_of.false) c.is_of-else-is_of.ensures
