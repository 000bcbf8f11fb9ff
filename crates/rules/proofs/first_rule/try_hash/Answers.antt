-- `rules::first_rule::try_hash` meets its contract: the three rules in their order, each left where it fails.
-- Assumes nothing.
use Rattle.std.proofs.Common.{refl, ◌∙◌}
use Rattle.text.specs.Runs.{word}
use Rattle.rules.specs.Elements.{comment, rules3to9, rules1to9}
use Rattle.rules.specs.Kind.{inner_of}
use Rattle.rules.specs.Findings.{is_in, wanting}
use Rattle.rules.proofs.Laws.FirstOf.{first_of-holds, first_of-fails, first_of-last}
use Rattle.rules.proofs.first_rule.try_hash.Goals as goal

pub returns-in-Some : goal.returns-in-Some
unfolding wanting is_in rules1to9 rules3to9 word
returns-in-Some c = first_of-holds _ _ _ _ _ c.in-Some.ensures

pub try_run-requires : goal.try_run-requires
unfolding inner_of
try_run-requires c = (c.requires, refl)

pub returns-in-Some-try_run : goal.returns-in-Some-try_run
unfolding wanting is_in rules1to9 rules3to9 word comment
returns-in-Some-try_run c =
    first_of-holds _ _ _ _ _ c.in-Some-try_run.ensures ∙ first_of-fails _ _ _ _ c.in_default.ensures

pub returns : goal.returns
unfolding wanting is_in rules1to9 rules3to9 word comment
returns c =
    c.try_keyword.ensures
    ∙ first_of-last _ _ _
    ∙ first_of-fails _ _ _ _ c.in_default-try_run.ensures
    ∙ first_of-fails _ _ _ _ c.in_default.ensures
