-- `comaltzex::comaltzex_days_between` meets its contract: the numbers are those of the day count.
-- Assumes nothing.
use borrow.Author.Rules.{rules}
use mathlib.Core.Path.{◌≡◌, ◌∙◌}
use mir.Syntax.{w32}
use mir.Val.{to_z, of_z}
use Rattle.dates.proofs.Promises.{counted}
use Rattle.comaltzex.proofs.comaltzex_days_between.Goals as goal

pub returns-in-Ok : goal.returns-in-Ok
returns-in-Ok c = let d = c.in-Ok.ensures in
    let z = c.in-Ok.days in
    let back : to_z w32 (of_z w32 z) ≡ z = search rules in
    record { number = d.0; days = back ∙ d.1; counted = counted }

pub returns-in-Err : goal.returns-in-Err
returns-in-Err c = let d = c.in-Err.ensures in record { number = d.0; days = d.1; counted = counted }
