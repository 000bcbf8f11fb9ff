-- `lookup::planning::planning` meets its contract: each refusal is that of the first stage that refuses.
-- Assumes nothing.
use mathlib.Core.Path.{◌≡◌, sym, ◌∙◌}
use native.Mathlib.Omega.{arith}
use Rattle.std.specs.declared.result.Result.TheVariants.{Err}
use Rattle.text.specs.Parts.{part}
use Rattle.dates.specs.Planning.{planning_stamps}
use Rattle.lookup.specs.declared.planning.Refusal.TheVariants.{NoHeading}
use Rattle.lookup.proofs.Laws.Stages.{heading_at-to}
use Rattle.lookup.proofs.Laws.Planning.{planning-long, planning-no_heading, planning-found}
use Rattle.lookup.proofs.planning.planning.Goals as goal

pub returns-then-text-gt-TEXT : goal.returns-then-text-gt-TEXT
returns-then-text-gt-TEXT c = sym (planning-long _ _ (omega arith))

pub returns-in_err-inner : goal.returns-in_err-inner
returns-in_err-inner c =
    let none = planning-no_heading _ _ c.if-text-gt-TEXT.false (sym c.find_heading.ensures ∙ c.in_err-inner.ensures.ok_part) in
    let gone : c.from_residual.result ≡ Err NoHeading = grind arith in
    gone ∙ sym none

pub line_after-body-requires : goal.line_after-body-requires
line_after-body-requires c = heading_at-to _ _ _ (sym c.find_heading.ensures ∙ c.in_ok-inner.ensures.ok_part)

pub returns : goal.returns
returns c =
    let b = c.line_after-body in
    let stamps : c.read_planning.result ≡ planning_stamps (part c.args.text.now b.result.start b.result.end) = c.read_planning.ensures in
    rw (planning-found _ _ c.if-text-gt-TEXT.false _ (sym c.find_heading.ensures ∙ c.in_ok-inner.ensures.ok_part), stamps, b.ensures.is)
