-- `stream::advance::title_after` meets its contract: the laws of a line's bytes.
use Rattle.std.proofs.Common.{◌≡◌, sym, ap, ◌∙◌, List, ℕ, ◌+◌, ◌-◌, ◌≤◌, length, arith}
use Rattle.std.proofs.Math.ListN.{length-take}
use Rattle.text.specs.Runs.{trim_end}
use Rattle.text.specs.Parts.{part}
use Rattle.text.proofs.Laws.Parts.{part_length}
use Rattle.text.proofs.Laws.Runs.{trim_end-take}
use Rattle.stream.proofs.Laws.GoesOn.{fed-blank, fed-title}
use Rattle.stream.proofs.Laws.Steps.{heading-yes}
use Rattle.stream.proofs.advance.title_after.Goals as goal

pub returns-then-end-from : goal.returns-then-end-from
returns-then-end-from c =
    let pre = c.requires in
    sym (fed-blank _ _ pre.bytes pre.past (heading-yes _ pre.some pre.past) (omega (arith, c.trim_end-end.ensures, c.if-end-from.true)))

-- the title's bytes have room in the book
fits : (s : List ℕ) (p e : ℕ) → e ≤ length s → length (trim_end (part s p e)) ≤ e - p
fits s p e h =
    let x = part s p e in
    omega (arith, ap length (trim_end-take x), length-take (length (trim_end x)) x, part_length s p e h)

pub overflow_cast-result : goal.overflow_cast-result
overflow_cast-result c =
    let a = c.args in
    let pre = c.requires in
    omega (arith, c.trim_end-end.ensures, fits a.bytes.now a.from a.to pre.to, pre.total)

pub overflow_add-result : goal.overflow_add-result
overflow_add-result c =
    let a = c.args in
    let pre = c.requires in
    omega (arith, c.trim_end-end.ensures, fits a.bytes.now a.from a.to pre.to, pre.total, pre.line)

pub returns : goal.returns
returns c =
    let a = c.args in
    let pre = c.requires in
    let end : c.trim_end-end.result - a.from ≡ length (trim_end (part a.bytes.now a.from a.to)) = omega (arith, c.trim_end-end.ensures) in
    ap (λ (n : ℕ). a.state.line - a.state.stars - 1 + n) end
    ∙ sym (fed-title _ _ pre.bytes pre.past (heading-yes _ pre.some pre.past) (omega (arith, end, c.if-end-from.false)))
