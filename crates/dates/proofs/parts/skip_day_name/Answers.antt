-- `dates::parts::skip_day_name` meets its contract.
-- Assumes nothing.
use Rattle.std.proofs.Common.{sym, ◌∙◌, arith}
use Rattle.text.specs.Bytes.{is_day_name_byte}
use Rattle.text.specs.Runs.{word}
use Rattle.text.proofs.Laws.Runs.{run-part-to}
use Rattle.dates.specs.Stamps.{after_day_name}
use Rattle.dates.proofs.Laws.Stamps.{day_name-none, day_name-mark, day_name-some}
use Rattle.dates.proofs.parts.skip_day_name.Goals as goal

pub returns-in_default : goal.returns-in_default
unfolding after_day_name
returns-in_default c = (rw c.in_default.ensures.is, omega arith, omega arith)

pub returns-then-end-a : goal.returns-then-end-a
returns-then-end-a c = (day_name-none _ _ _ _ _ c.in-Some.ensures c.run_end-end.ensures (omega arith), omega arith, omega arith)

pub returns-then-begins_with : goal.returns-then-begins_with
unfolding word
returns-then-begins_with c = (
  day_name-mark _ _ _ _ _ c.in-Some.ensures c.run_end-end.ensures (sym c.begins_with.ensures ∙ c.if-begins_with.true),
  omega arith,
  omega arith,
)

pub returns : goal.returns
unfolding word
returns c =
    let g = c.in-Some.ensures in
    let t = run-part-to _ _ _ is_day_name_byte g.within.1 c.requires.1 _ c.run_end-end.ensures in (
      day_name-some _ _ _ _ _ g c.run_end-end.ensures (λ e. omega arith) (sym c.begins_with.ensures ∙ c.if-begins_with.false),
      omega arith,
      t,
    )
