-- `rules::list_element::list_detail` meets its contract: 1 for a number or letter bullet alone.
-- Assumes nothing.
use Rattle.std.proofs.Common.{◌≡◌, Bool, false, Option, Some, None, arith, of_calls}
use Rattle.std.specs.Prelude.{MatchOption}
use Rattle.rules.specs.declared.item.Bullet.{Bullet}
use Rattle.rules.proofs.Laws.LineOf.{line_of-order, line_of-from}
use Rattle.rules.proofs.Laws.Bullets.{is_numbered, list_detail-bullet}
use Rattle.rules.proofs.list_element.list_detail.Goals as goal

pub find_bullet-requires : goal.find_bullet-requires
find_bullet-requires c =
    let line = c.requires in
    let o = line_of-order _ _ _ line in
    (omega arith, o.5, line_of-from _ _ _ line)

-- what the closure answers of a bullet
asked : (o : Option Bullet) (r : Bool) {Q : Bullet → Type 0} → MatchOption o (r ≡ false) Q → ((b : Bullet) → Q b → r ≡ b.numbered) → r ≡ is_numbered o
asked None r h q = h
asked (Some b) r h q = q b h

pub returns-then-is_some_and : goal.returns-then-is_some_and
returns-then-is_some_and c =
    let n = asked c.find_bullet.result c.is_some_and.result c.is_some_and.ensures (λ b q. search of_calls) in
    rw (list_detail-bullet c.args.line.start, ← c.find_bullet.ensures, ← n, c.if-is_some_and.true)

pub returns-else-is_some_and : goal.returns-else-is_some_and
returns-else-is_some_and c =
    let n = asked c.find_bullet.result c.is_some_and.result c.is_some_and.ensures (λ b q. search of_calls) in
    rw (list_detail-bullet c.args.line.start, ← c.find_bullet.ensures, ← n, c.if-is_some_and.false)
