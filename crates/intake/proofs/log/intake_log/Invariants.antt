-- `intake::log::intake_log`: the invariant and the measure of its loop.
-- The invariant: what is left of the log is whole, and played into the book as it is now leaves what the log leaves. The measure is the bytes left.
use mathlib.Core.Path.{◌≡◌}
use mathlib.Core.Bool.{true}
use Prim.Native.Nat.{◌-◌, ◌≤◌}
use lib.ListN.{length, drop}
use Rattle.rules.specs.Items.{is_some}
use Rattle.intake.specs.Book.{book_of}
use Rattle.intake.specs.Log.{orders_in, played_for}
use Rattle.intake.proofs.log.intake_log.Given as goal

abbrev pub invariant-loop-at : goal.invariant-loop-at
invariant-loop-at l =
    (l.at ≤ length l.log)
    × (length l.book ≡ length l.fn.book)
    × (is_some (orders_in (drop l.at l.log)) ≡ true)
    × (played_for (book_of l.fn.book l.fn.used) (orders_in l.log) ≡ played_for (book_of l.book l.reached) (orders_in (drop l.at l.log)))

abbrev pub decreases-loop-at : goal.decreases-loop-at
decreases-loop-at l = length l.log - l.at
