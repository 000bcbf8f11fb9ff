-- `rules::element::paragraph_lines` meets its contract: why each line but the last passes, and why the last does not.
-- Assumes nothing.
use Rattle.std.proofs.Common.{◌≡◌, false, ◌+◌, ◌<◌, ◌≤◌, length, sym, ap, ◌∙◌, arith}
use Rattle.text.specs.Runs.{word}
use Rattle.text.specs.Parts.{line_in}
use Rattle.text.proofs.Laws.LinesIn.{line_in-some, line_in-to}
use Rattle.rules.specs.Items.{is_item}
use Rattle.rules.specs.Known.{NoLine, has_name, Names, Knows}
use Rattle.rules.specs.Findings.{LineOf}
use Rattle.rules.proofs.Laws.LineOf.{indent-run, after-end, line_of, line_span-start, line_span-next}
use Rattle.rules.proofs.Laws.NoLines.{knows_line, knows-next}
use Rattle.rules.proofs.Laws.Paragraphs.{paragraph-none, paragraph-short, paragraph-newline, paragraph-item, paragraph-plain}
use Rattle.rules.proofs.Laws.Paragraphs.{paragraph-blank, paragraph-stop, paragraph-pass}
use Rattle.rules.proofs.element.paragraph_lines.Goals as goal
use Rattle.rules.proofs.element.paragraph_lines.Goals.{After-line_at-line, After-line_end-at, Joined-first-eq58, Joined-first-eq35, then-first-eq58, else-first-eq58, then-first-eq35, else-first-eq35}

-- ---- no line that starts with a byte

pub returns-after-loop-at : goal.returns-after-loop-at
returns-after-loop-at c =
    let inv = c.loop-at.invariant in
    (sym (paragraph-none _ _ _ _ c.loop-at-test.false) ∙ inv.run, inv.known)

pub returns-then-to-body : goal.returns-then-to-body
returns-then-to-body c =
    let inv = c.loop-at.invariant in
    (sym (paragraph-short _ _ _ c.loop-at-test.true c.requires.1 _ c.run_end-body.ensures _ c.if-to-body.true) ∙ inv.run, inv.known)

pub returns-then-first-eq10 : goal.returns-then-first-eq10
returns-then-first-eq10 c =
    let inv = c.loop-at.invariant in
    let is = paragraph-newline _ _ _ c.loop-at-test.true c.requires.1 _ c.run_end-body.ensures c.if-to-body.false _ c.if-first-eq10.true in
    (sym is ∙ inv.run, inv.known)

-- ---- an item line

pub is_item-requires : goal.is_item-requires
is_item-requires c = (c.loop-at.invariant.order, c.requires.1, indent-run _ _ _ _ c.run_end-body.ensures)

pub returns-then-is_item : goal.returns-then-is_item
returns-then-is_item c =
    let inv = c.loop-at.invariant in
    let is = paragraph-item _ _ _ c.loop-at-test.true c.requires.1 _ c.run_end-body.ensures _ (sym c.if-is_item.ensures) in
    (sym is ∙ inv.run, inv.known)

-- ---- a line whose first byte may start a rule

-- the line at `at`
line : (c : After-line_at-line) → LineOf c.args.text.now c.line_at-line.result c.args.scope.end
line c = line_of _ _ _ _ c.loop-at-test.true c.requires.1 c.line_at-line.ensures

-- it starts there
here : (c : After-line_at-line) → c.line_at-line.result.start ≡ c.loop-at.at
here c = line_span-start _ _ _ _ c.line_at-line.ensures

-- what is known is true of the lines from it on
known : (c : After-line_at-line) → Knows c.args.text.now c.line_at-line.result.start c.args.scope.end c.loop-at.ends c.loop-at.names
known c = rw (here c) c.loop-at.invariant.known

next : (c : After-line_at-line) → (c.loop-at.at < c.line_at-line.result.end) × (c.line_at-line.result.end ≤ c.args.scope.end)
next c = line_span-next _ _ _ _ c.line_at-line.ensures c.loop-at-test.true c.requires.1

pub returns-then-line : goal.returns-then-line
returns-then-line c =
    let inv = c.loop-at.invariant in
    let at-line = (goal.at.returns-then-line c).After-line_at-line in
    (sym (rw (here at-line) at (paragraph-blank _ _ _ (line at-line) c.loop-at.n c.if-line.true)) ∙ inv.run, inv.known)

pub find_rule-requires : goal.find_rule-requires
find_rule-requires c =
    let at-line = (goal.at.find_rule-requires c).After-line_at-line in
    record { line = line at-line; known = known at-line }

pub returns-then-is_some : goal.returns-then-is_some
returns-then-is_some c =
    let inv = c.loop-at.invariant in
    let at-line = (goal.at.returns-then-is_some c).After-line_at-line in
    (sym (rw (here at-line) at (paragraph-stop _ _ _ (line at-line) _ c.find_rule.ensures c.loop-at.n (sym c.is_some.ensures ∙ c.if-is_some.true))) ∙ inv.run, inv.known)

-- ---- what is known after it

pub ends_after-ends-requires : goal.ends_after-ends-requires
ends_after-ends-requires c =
    let at-line = (goal.at.ends_after-ends-requires c).After-line_at-line in
    record { line = line at-line; known = known at-line }

pub names_after-names-requires : goal.names_after-names-requires
names_after-names-requires c =
    let at-line = (goal.at.names_after-names-requires c).After-line_at-line in
    record { line = line at-line; known = known at-line }

ends : (c : Joined-first-eq58) → LineOf c.args.text.now c.line_at-line.result c.args.scope.end →
    Knows c.args.text.now c.line_at-line.result.start c.args.scope.end c.loop-at.ends c.loop-at.names →
    c.if-first-eq58.ends ≡ false → NoLine (word ":end:") c.args.text.now c.line_at-line.result.end c.args.scope.end
ends c l k z =
    elim c.if-first-eq58.branch [
      | then-first-eq58 w ↦ w.ends_after-ends.ensures (sym w.ends-is ∙ z)
      | else-first-eq58 w ↦ (knows-next _ _ _ _ _ l k).ends (sym w.ends-is ∙ z)
    ]

names : (c : Joined-first-eq35) → LineOf c.args.text.now c.line_at-line.result c.args.scope.end →
    Knows c.args.text.now c.line_at-line.result.start c.args.scope.end c.loop-at.ends c.loop-at.names →
    Names c.args.text.now c.line_at-line.result.end c.args.scope.end c.if-first-eq35.names
names c l k x z =
    elim c.if-first-eq35.branch [
      | then-first-eq35 w ↦ w.names_after-names.ensures x (sym (ap (λ m. has_name m x) w.names-is) ∙ z)
      | else-first-eq35 w ↦ (knows-next _ _ _ _ _ l k).names x (sym (ap (λ m. has_name m x) w.names-is) ∙ z)
    ]

pub loop-at-smaller : goal.loop-at-smaller
loop-at-smaller c = omega (arith, next (goal.at.loop-at-smaller c).After-line_at-line)

pub loop-at-preserved : goal.loop-at-preserved
loop-at-preserved c =
    let at-line = (goal.at.loop-at-preserved c).After-line_at-line in
    let at-ends = (goal.at.loop-at-preserved c).Joined-first-eq58 in
    let is_line = line at-line in
    let is_known = known at-line in
    let no_item : is_item (line_in c.args.text.now c.line_at-line.result.start c.args.scope.end) ≡ false = rw (here at-line) (sym c.if-is_item.ensures) in
    let pass = paragraph-pass _ _ _ is_line _ c.find_rule.ensures c.loop-at.n c.if-line.false (sym c.is_some.ensures ∙ c.if-is_some.false) no_item in
    record {
      order = (next at-line).1;
      known = record { ends = ends at-ends is_line is_known; names = names c is_line is_known };
      run = rw (here at-line) at pass ∙ c.loop-at.invariant.run;
      few = omega (arith, next at-line);
    }

-- ---- a line whose first byte starts none

-- it ends where what is left of it past the indentation does
end : (c : After-line_end-at) → c.line_end-at.result ≡ c.loop-at.at + length (line_in c.args.text.now c.loop-at.at c.args.scope.end)
end c = c.line_end-at.ensures ∙ after-end _ _ _ _ (indent-run _ _ _ _ c.run_end-body.ensures)

pub loop-at-smaller-then-starts_text : goal.loop-at-smaller-then-starts_text
loop-at-smaller-then-starts_text c =
    let args = c.args in
    let at-end = (goal.at.loop-at-smaller-then-starts_text c).After-line_end-at in
    omega (arith, end at-end, line_in-some args.text.now c.loop-at.at args.scope.end c.loop-at-test.true c.requires.1)

pub loop-at-preserved-then-starts_text : goal.loop-at-preserved-then-starts_text
loop-at-preserved-then-starts_text c =
    let args = c.args in
    let inv = c.loop-at.invariant in
    let at-end = (goal.at.loop-at-preserved-then-starts_text c).After-line_end-at in
    let some = line_in-some args.text.now c.loop-at.at args.scope.end c.loop-at-test.true c.requires.1 in
    let plain = c.starts_text.ensures c.if-starts_text.true in
    let pass =
    paragraph-plain _ _ _ c.loop-at-test.true c.requires.1 _ c.run_end-body.ensures c.if-to-body.false _ c.if-first-eq10.false plain
    (sym c.if-is_item.ensures) in
    record {
      order = rw (end at-end) (line_in-to _ _ _ inv.order c.requires.1);
      known = rw (end at-end) (knows_line _ _ _ _ _ inv.known);
      run = rw (end at-end) pass ∙ inv.run;
      few = omega (arith, end at-end, some);
    }
