-- `rules::item::if_ended` meets its contract: a law for each way out.
-- Assumes nothing.
use Rattle.std.proofs.Common.{sym, ◌∙◌}
use Rattle.rules.proofs.Laws.Bullets.{ended-end, ended-no, ended-yes}
use Rattle.rules.proofs.item.if_ended.Goals as goal
use Rattle.rules.proofs.item.if_ended.Goals.{else-at-to-via-then-at-to+else-is_nonblank, else-at-to-via-else-at-to}

pub returns-then-is_nonblank : goal.returns-then-is_nonblank
returns-then-is_nonblank c = ended-no _ _ _ c.if-at-to.true c.requires.1 (sym c.is_nonblank.ensures ∙ c.if-is_nonblank.true)

pub returns-else-at-to : goal.returns-else-at-to
returns-else-at-to c =
    elim c.else-at-to.branch [
      | else-at-to-via-then-at-to+else-is_nonblank w ↦
          ended-yes _ _ _ w.if-at-to.true c.requires.1 (sym w.is_nonblank.ensures ∙ w.if-is_nonblank.false)
      | else-at-to-via-else-at-to w ↦ ended-end _ _ _ c.requires.0 w.if-at-to.false
    ]
