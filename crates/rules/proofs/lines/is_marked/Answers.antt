-- `rules::lines::is_marked` meets its contract: a law for each way out.
-- Assumes nothing.
use Rattle.std.proofs.Common.{◌≡◌, ◌<◌, true, get_or, sym, ap, ◌∙◌, not}
use mathlib.Core.Bool.{false≢true}
use borrow.Author.Tests.{eqb-true, eqb-false, le-ltb, le-leb}
use Rattle.rules.proofs.Laws.Marked.{is_marked-none, is_marked-no, is_marked-one, is_marked-two}
use Rattle.rules.proofs.lines.is_marked.Goals as goal
use Rattle.rules.proofs.lines.is_marked.Goals.{Joined-at-to, then-at-to, else-at-to}

-- the byte stands there
stands : (c : Joined-at-to) → c.if-at-to.value ≡ true → (c.args.at < c.args.to) × (get_or c.args.text.now c.args.at 0 ≡ c.args.c)
stands c h =
    elim c.if-at-to.branch [
      | then-at-to w ↦ (w.if-at-to.true, eqb-true _ _ (sym w.value-is ∙ h))
      | else-at-to w ↦ absurd (false≢true (sym (le-ltb _ _ w.if-at-to.false) ∙ sym w.value-is ∙ h))
    ]

pub returns-then-to-at : goal.returns-then-to-at
returns-then-to-at c =
    let here = stands (goal.at.returns-then-to-at c).Joined-at-to c.if-text-at.true in
    le-leb _ _ c.if-to-at.true ∙ sym (is_marked-one _ _ _ _ here.0 c.requires.0 c.requires.1 here.1 c.if-to-at.true)

pub returns-else-to-at : goal.returns-else-to-at
returns-else-to-at c =
    let here = stands (goal.at.returns-else-to-at c).Joined-at-to c.if-text-at.true in
    ap not c.is_nonblank.ensures ∙ sym (is_marked-two _ _ _ _ here.0 c.requires.0 c.requires.1 here.1 c.if-to-at.false)

pub returns-else-text-at : goal.returns-else-text-at
returns-else-text-at c =
    c.if-text-at.false
    ∙ sym (elim c.if-at-to.branch [
      | then-at-to w ↦ is_marked-no _ _ _ _ w.if-at-to.true c.requires.0 (eqb-false _ _ (sym w.value-is ∙ c.if-text-at.false))
      | else-at-to w ↦ is_marked-none _ _ _ _ w.if-at-to.false
    ])
