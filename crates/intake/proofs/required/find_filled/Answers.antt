-- `intake::required::find_filled` meets its contract: a value of no bytes is as one that is missing.
use mathlib.Core.Path.{ap, ◌∙◌}
use native.Mathlib.Omega.{arith}
use Rattle.std.specs.Prelude.{[]}
use Rattle.std.proofs.Math.Option.{get_or}
use Rattle.text.specs.Runs.{is_empty}
use Rattle.text.proofs.Laws.Parts.{part-nil}
use Rattle.intake.specs.Required.{value_of}
use Rattle.intake.proofs.required.find_filled.Goals as goal

pub returns-in_err-value : goal.returns-in_err-value
unfolding value_of is_empty
returns-in_err-value c = rw c.from_residual.ensures (ap (λ v. is_empty (get_or v [])) c.in_err-value.ensures)

pub returns-then-value : goal.returns-then-value
unfolding value_of is_empty
returns-then-value c = ap (λ v. is_empty (get_or v [])) c.in_ok-value.ensures.2 ∙ ap is_empty (part-nil _ _ _ c.if-value.true)

pub returns : goal.returns
unfolding value_of
returns c = (omega (arith, c.if-value.false), c.in_ok-value.ensures.1, ap (λ v. get_or v []) c.in_ok-value.ensures.2)
