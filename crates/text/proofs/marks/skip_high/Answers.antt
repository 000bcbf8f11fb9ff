-- `text::marks::skip_high` meets its contract: the bytes before the first low one are above all blank bytes and byte 10.
-- Assumes nothing.
use Rattle.std.proofs.Common.{◌≡◌, ℕ, false, leb, ◌+◌, ◌<◌, length, get_or, sym, ap, ◌∙◌, arith, rules}
use borrow.Author.Tests.{leb-false}
use Rattle.text.specs.Bytes.{is_non_blank}
use Rattle.text.specs.Runs.{run}
use Rattle.text.specs.Parts.{part}
use Rattle.text.proofs.Laws.Bytes.{is_non_blank-above}
use Rattle.text.proofs.Laws.Runs.{run-part-min, run-part-skip}
use Rattle.text.proofs.marks.skip_high.Goals as goal

pub returns : goal.returns
returns c =
    let a = c.args in
    let s = a.text.now in
    let k = c.min-k.result in
    let high : (i : ℕ) → i < k → false ≡ leb (get_or s (a.from + i) 0) 32
    = λ i l. let h = c.first_in.ensures.before i (omega arith) (omega arith) in search rules in
    let past = run-part-skip is_non_blank s k a.from a.to (omega arith) (omega arith) (λ i l. is_non_blank-above _ (leb-false _ _ (sym (high i l)))) in
    let same : length (run is_non_blank (part s c.min.result a.to)) ≡ length (run is_non_blank (part s (a.from + k) a.to))
    = ap (λ (x : ℕ). length (run is_non_blank (part s x a.to))) c.min.ensures ∙ run-part-min is_non_blank s (a.from + k) a.to in
    (omega arith, omega arith, omega arith)
