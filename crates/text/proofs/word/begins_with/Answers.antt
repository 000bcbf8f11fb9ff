-- `text::word::begins_with` meets its contract: a part begins with a word where its first bytes, as many as the word has, are the same.
-- Assumes nothing.
use Rattle.std.proofs.Common.{sym, ◌∙◌, ap, List, ℕ, ◌+◌, length, arith}
use borrow.Author.Tests.{lt-leb}
use Rattle.std.proofs.lemmas.Bool.Decides.{same_from_decides}
use Rattle.text.specs.Runs.{same}
use Rattle.text.specs.Parts.{part}
use Rattle.text.proofs.Laws.Parts.{part_length, part_slice, part-take}
use Rattle.text.proofs.Laws.Runs.{begins-short, begins-same, same-Decides}
use Rattle.text.proofs.word.begins_with.Goals as goal

pub returns-then-word-to : goal.returns-then-word-to
returns-then-word-to c =
    let a = c.args in
    let s = a.text.now in
    let n = length a.word.now in
    let whole = part_length s a.from a.to c.requires.1 in
    same_from_decides _ _ c.eq_ignore_ascii_case.ensures.test (same-Decides _ _)
    ∙ ap (λ (x : List ℕ). same x a.word.now) (part_slice s a.from (a.from + n) (omega arith) ∙ sym (part-take s n a.from a.to (omega arith)))
    ∙ begins-same (part s a.from a.to) a.word.now (omega arith)

pub returns-else-word-to : goal.returns-else-word-to
returns-else-word-to c =
    let a = c.args in
    let whole = part_length a.text.now a.from a.to c.requires.1 in
    lt-leb _ _ c.if-word-to.false ∙ sym (begins-short _ _ (omega arith))
