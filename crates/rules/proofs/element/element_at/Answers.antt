-- `rules::element::element_at` meets its contract: where rules are tried, what the first that holds finds, and a list at an item line where none
-- holds; else a paragraph.
-- Assumes nothing.
use Rattle.std.proofs.Common.{◌≡◌, sym, ◌∙◌, arith}
use Rattle.text.specs.Parts.{lines_in, line_in}
use Rattle.rules.specs.FirstRule.{paragraph, element}
use Rattle.rules.proofs.Laws.LineOf.{line_of-order, line_of-from}
use Rattle.rules.proofs.Laws.NoLines.{knows-element}
use Rattle.rules.proofs.Laws.FirstOf.{element-holds, element-list, element-fails, element-rest}
use Rattle.rules.proofs.element.element_at.Goals as goal
use Rattle.rules.proofs.element.element_at.Goals.{After-paragraph_at, then-allows_rules+in_default+else-is_item, else-allows_rules}

pub returns-in-Some : goal.returns-in-Some
returns-in-Some c =
    let is = element-holds _ _ _ (sym c.if-allows_rules.ensures) _ c.in-Some.ensures in
    record { is = is; known = knows-element _ _ _ _ _ c.requires.0.known _ _ is }

pub is_item-requires : goal.is_item-requires
is_item-requires c =
    let line = c.requires.0.line in
    let o = line_of-order _ _ _ line in
    (omega arith, o.5, line_of-from _ _ _ line)

pub returns-then-is_item : goal.returns-then-is_item
unfolding line_in
returns-then-is_item c =
    let is = element-list _ _ _ (sym c.if-allows_rules.ensures) c.in_default.ensures (sym c.if-is_item.ensures) in
    record { is = rw is c.list_at.ensures.is; known = c.list_at.ensures.known }

-- no rule finds anything, or none is tried
rest : (c : After-paragraph_at) →
    let args = c.args in
    let ls = lines_in args.text.now args.line.start args.scope.end in
    element args.scope.place ls ≡ paragraph ls
unfolding line_in
rest c =
    let allows = sym c.allows_rules.ensures in
    elim c.if-allows_rules.branch [
      | then-allows_rules+in_default+else-is_item w ↦
          element-fails _ _ _ (allows ∙ w.if-allows_rules.true) w.in_default.ensures (sym w.is_item.ensures ∙ w.if-is_item.false)
      | else-allows_rules w ↦ element-rest _ _ (allows ∙ w.if-allows_rules.false)
    ]

pub returns : goal.returns
returns c = record { is = rw (rest c) c.paragraph_at.ensures.is; known = c.paragraph_at.ensures.known }
