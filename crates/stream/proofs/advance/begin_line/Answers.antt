-- `stream::advance::begin_line` meets its contract: the laws of a byte at a line's front.
use Rattle.std.proofs.Common.{sym, ◌∙◌, arith}
use native.Mathlib.Numerals.{towards_suc}
use Rattle.stream.proofs.Laws.Steps.{stepped-newline, stepped-star, stepped-space, stepped-none}
use Rattle.stream.proofs.advance.begin_line.Goals as goal

pub returns-then-b-eq10 : goal.returns-then-b-eq10
returns-then-b-eq10 c = c.next_line.ensures ∙ sym (stepped-newline _ _ c.if-b-eq10.true)

pub returns-in-42 : goal.returns-in-42
returns-in-42 c = simp towards_suc (sym (stepped-star _ _ c.if-b-eq10.false c.requires.2 c.in-42.is))

pub returns-in-32 : goal.returns-in-32
returns-in-32 c = simp towards_suc (sym (stepped-space _ _ c.if-b-eq10.false c.requires.2 c.in-32.is))

pub returns-in_default : goal.returns-in_default
returns-in_default c = simp towards_suc (sym (stepped-none _ _ c.if-b-eq10.false c.requires.2 (grind arith) (grind arith)))
