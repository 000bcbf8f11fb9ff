-- `rules::item::after_byte` meets its contract: a law for each way out.
-- Assumes nothing.
use Rattle.std.proofs.Common.{rules, sym, ◌∙◌}
use Rattle.rules.proofs.Laws.Bullets.{byte-none, byte-no, byte-yes}
use Rattle.rules.proofs.item.after_byte.Goals as goal
use Rattle.rules.proofs.item.after_byte.Goals.{else-at-to-via-then-at-to+else-test, else-at-to-via-else-at-to}

pub returns-then-test-clause-leaves : goal.returns-then-test-clause-leaves
returns-then-test-clause-leaves g c t h =
    byte-yes _ _ _ c.if-at-to.true c.requires.bounds.1 t h.newline (sym (h.is _ (search rules) _ c.test.ensures) ∙ c.if-test.true)

pub returns-clause-leaves : goal.returns-clause-leaves
returns-clause-leaves g c t h = elim c.else-at-to.branch [
  | else-at-to-via-then-at-to+else-test w ↦
      byte-no _ _ _ w.if-at-to.true c.requires.bounds.1 t (sym (h.is _ (search rules) _ w.test.ensures) ∙ w.if-test.false)
  | else-at-to-via-else-at-to w ↦ byte-none _ _ _ t w.if-at-to.false
]
