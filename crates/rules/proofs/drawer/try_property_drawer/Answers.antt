-- `rules::drawer::try_property_drawer` meets its contract: the place and the first line open a property drawer, and the closer says the rest.
-- Assumes nothing.
use Rattle.std.proofs.Common.{◌≡◌, ◌&&◌, true, sym, ◌∙◌, arith}
use mathlib.Core.Bool.{and-false}
use Rattle.text.specs.Runs.{word}
use Rattle.text.specs.Parts.{line_in, lines_in}
use Rattle.text.proofs.Laws.LinesIn.{lines_in-length}
use Rattle.rules.specs.LineTests.{is_properties_line}
use Rattle.rules.specs.Places.{allows_properties}
use Rattle.rules.proofs.Laws.LineOf.{line_of-order}
use Rattle.rules.proofs.Laws.LineTests.{is_properties_line-part}
use Rattle.rules.proofs.Laws.LineRules.{properties_before-below, closer-count}
use Rattle.rules.proofs.Laws.Properties.{property_drawer-no, property_drawer-closer}
use Rattle.rules.proofs.drawer.try_property_drawer.Goals as goal
use Rattle.rules.proofs.drawer.try_property_drawer.Goals.{Else-not-is_word, then-not-allows_properties-via-then-not-allows_properties, then-not-allows_properties-via-else-not-allows_properties+then-not-is_word}

pub is_word-requires : goal.is_word-requires
is_word-requires c = let o = line_of-order _ _ _ c.requires.line in (o.1, omega arith)

pub returns-then-not-allows_properties : goal.returns-then-not-allows_properties
unfolding word
returns-then-not-allows_properties c =
    let line = c.requires.line in
    property_drawer-no _ _ _ line _ (elim c.then-not-allows_properties.branch [
      | then-not-allows_properties-via-then-not-allows_properties w ↦ rw (sym c.allows_properties.ensures ∙ w.if-not-allows_properties.true)
      | then-not-allows_properties-via-else-not-allows_properties+then-not-is_word w ↦
          rw (is_properties_line-part _ _ _ line, sym w.is_word.ensures ∙ w.if-not-is_word.true) (and-false (allows_properties c.args.scope.place))
    ])

-- it opens one
opens : (c : Else-not-is_word) → let args = c.args in
    (allows_properties args.scope.place && is_properties_line (line_in args.text.now args.line.start args.scope.end)) ≡ true
unfolding word
opens c =
    rw (sym c.allows_properties.ensures ∙ c.if-not-allows_properties.false, is_properties_line-part _ _ _ c.requires.line, sym c.is_word.ensures)
    c.if-not-is_word.false

pub find_properties_end-requires : goal.find_properties_end-requires
find_properties_end-requires c = let o = line_of-order _ _ _ c.requires.line in (o.4, o.5)

pub returns-in_err-closer : goal.returns-in_err-closer
returns-in_err-closer c =
    c.from_residual.ensures
    ∙ property_drawer-closer _ _ _ c.requires.line _ (opens (goal.at.returns-in_err-closer c).Else-not-is_word) _ c.in_err-closer.ensures

pub of_lines_between-requires : goal.of_lines_between-requires
of_lines_between-requires c =
    let s = c.args.text.now in
    let l = c.args.line in
    let e = c.args.scope.end in
    let o = line_of-order _ _ _ c.requires.line in
    let ls = lines_in s l.end e in
    omega (
      arith,
      closer-count l.end ls _ (properties_before-below ls) _ c.in_ok-closer.ensures,
      lines_in-length s l.end e o.4 o.5,
    )

pub returns : goal.returns
returns c =
    rw c.of_lines_between.ensures
    (property_drawer-closer _ _ _ c.requires.line _ (opens (goal.at.returns c).Else-not-is_word) _ c.in_ok-closer.ensures)
