-- `dates::planning::is_planning` meets its contract.
-- Assumes nothing.
use Rattle.std.proofs.Common.{◌≡◌, List, ℕ, refl, ◌∙◌}
use Rattle.std.specs.Option.{is_some}
use Rattle.std.specs.declared.option.Option.{Option}
use Rattle.std.specs.declared.option.Option.TheVariants.{None, Some}
use Rattle.dates.specs.Planning as spec
use Rattle.dates.specs.Planning.{planning_body}
use Rattle.dates.specs.Found.{stamps_of}
use Rattle.dates.specs.declared.planning.Places.{Places}
use Rattle.dates.proofs.planning.is_planning.Goals as goal

told : (s : List ℕ) (e : ℕ) (r : Option Places) → is_some r ≡ spec.is_some (stamps_of s e r)
told s e None = refl
told s e (Some p) = refl

pub returns : goal.returns
unfolding planning_body
returns c = rw c.read_parts.ensures.is (c.is_some.ensures ∙ told c.args.text.now c.args.to c.read_parts.result)
