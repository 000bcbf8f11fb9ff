-- `comaltzex::comaltzex_timestamp` meets its contract: no timestamp starts past the end.
-- Assumes nothing.
use mathlib.Core.Path.{◌≡◌, ap, ◌∙◌}
use mathlib.Core.List.{List, []}
use Prim.Native.Nat.{ℕ, ◌-◌, ◌<◌}
use native.Mathlib.Omega.{arith}
use lib.ListN.{length}
use Rattle.text.specs.Runs.{word, begins}
use Rattle.text.specs.Parts.{part}
use Rattle.text.proofs.Laws.Parts.{part-nil, part_length}
use Rattle.dates.specs.Stamps.{timestamp}
use Rattle.std.specs.declared.option.Option.TheVariants.{None}
use Rattle.comaltzex.proofs.comaltzex_timestamp.Goals as goal

timestamp-past : (s : List ℕ) (p : ℕ) → length s < p → timestamp (part s p (length s)) ≡ (None, [])
unfolding timestamp begins word
timestamp-past s p h = ap timestamp (part-nil s p (length s) (omega arith))

pub returns-then-to-at : goal.returns-then-to-at
returns-then-to-at c = c.found_stamp.ensures ∙ rw (timestamp-past c.args.text.now c.args.at (omega arith))

pub returns : goal.returns
returns c =
    let call = c.read_timestamp-stamp in
    let s = c.args.text.now in
    let end = call.result.end in
    let is : timestamp (part s c.args.at (length s)) ≡ (call.result.timestamp, part s end (length s)) = call.ensures.is in
    let left : length s - (length s - end) ≡ end = omega (arith, call.ensures.to) in
    rw (c.found_stamp-2.ensures, is, part_length s end (length s) (omega arith), left)
