-- `rules::element::first_byte` meets its contract: the body is the part of the text from `from` to `to`.
-- Assumes nothing.
use Rattle.std.proofs.Common.{ℕ, List, get_or, sym, ap, ◌∙◌, arith}
use Rattle.text.proofs.Laws.Parts.{part-nil, part-cons}
use Rattle.rules.proofs.Laws.LineOf.{line_of-order, line_of-body}
use Rattle.rules.proofs.element.first_byte.Goals as goal

pub returns-then-line-from : goal.returns-then-line-from
returns-then-line-from c =
    ap (λ (x : List ℕ). get_or x 0 0) (sym (part-nil _ _ _ c.if-line-from.true) ∙ line_of-body _ _ _ c.requires)

pub bounds-text-from : goal.bounds-text-from
bounds-text-from c = let o = line_of-order _ _ _ c.requires in omega arith

pub returns-else-line-from : goal.returns-else-line-from
returns-else-line-from c =
    let o = line_of-order _ _ _ c.requires in
    ap (λ (x : List ℕ). get_or x 0 0) (sym (part-cons _ _ _ c.if-line-from.false (omega arith)) ∙ line_of-body _ _ _ c.requires)
