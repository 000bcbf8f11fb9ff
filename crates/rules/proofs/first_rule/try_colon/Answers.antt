-- `rules::first_rule::try_colon` meets its contract: the three rules in their order, each left where it fails.
-- Assumes nothing.
use Rattle.std.proofs.Common.{refl, ◌∙◌}
use Rattle.text.specs.Runs.{word}
use Rattle.rules.specs.Elements.{fixed_width, rules3to9, rules1to9}
use Rattle.rules.specs.Kind.{inner_of}
use Rattle.rules.specs.Findings.{is_in, wanting}
use Rattle.rules.proofs.Laws.FirstOf.{first_of-holds, first_of-fails, first_of-last}
use Rattle.rules.proofs.first_rule.try_colon.Goals as goal

pub returns-in-Some : goal.returns-in-Some
unfolding wanting is_in rules1to9 rules3to9 word
returns-in-Some c = first_of-holds _ _ _ _ _ c.in-Some.ensures

pub returns-in-Some-try_drawer : goal.returns-in-Some-try_drawer
unfolding wanting is_in rules1to9 rules3to9 word
returns-in-Some-try_drawer c =
    first_of-holds _ _ _ _ _ c.in-Some-try_drawer.ensures ∙ first_of-fails _ _ _ _ c.in_default.ensures

pub try_run-requires : goal.try_run-requires
unfolding inner_of
try_run-requires c = (c.requires, refl)

pub returns : goal.returns
unfolding wanting is_in rules1to9 rules3to9 word fixed_width
returns c =
    c.try_run.ensures
    ∙ first_of-last _ _ _
    ∙ first_of-fails _ _ _ _ c.in_default-try_drawer.ensures
    ∙ first_of-fails _ _ _ _ c.in_default.ensures
