-- `text::word::is_word` meets its contract: words are the same where they are once the letters are made small.
-- Assumes nothing.
use Rattle.std.proofs.Common.{◌∙◌, ap, List, ℕ}
use Rattle.std.proofs.lemmas.Bool.Decides.{same_from_decides}
use Rattle.text.specs.Runs.{same}
use Rattle.text.proofs.Laws.Parts.{part_slice}
use Rattle.text.proofs.Laws.Runs.{same-Decides}
use Rattle.text.proofs.word.is_word.Goals as goal

pub returns : goal.returns
returns c =
    let a = c.args in
    same_from_decides _ _ c.eq_ignore_ascii_case.ensures.test (same-Decides _ _)
    ∙ ap (λ (x : List ℕ). same x a.word.now) (part_slice a.text.now a.from a.to c.requires.0)
