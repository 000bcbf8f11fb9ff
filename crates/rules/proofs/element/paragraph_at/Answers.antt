-- `rules::element::paragraph_at` meets its contract: its first line, and the further lines that `paragraph_lines` finds.
-- Assumes nothing.
use Rattle.std.proofs.Common.{◌≡◌, false, sym, ap, ◌∙◌, arith}
use Rattle.text.specs.Runs.{word}
use Rattle.text.specs.Parts.{lines_in}
use Rattle.text.proofs.Laws.LinesIn.{lines_in-length}
use Rattle.rules.specs.declared.lines.LineRun.{LineRun}
use Rattle.rules.specs.declared.rule.Element.{Element}
use Rattle.rules.specs.Known.{NoLine, has_name, Names}
use Rattle.rules.specs.Findings.{paragraph_run}
use Rattle.rules.proofs.Laws.LineOf.{line_of-order}
use Rattle.rules.proofs.Laws.NoLines.{knows-next}
use Rattle.rules.proofs.Laws.Elements.{paragraph_lines-le}
use Rattle.rules.proofs.Laws.Paragraphs.{paragraph-spanned}
use Rattle.rules.proofs.element.paragraph_at.Goals as goal
use Rattle.rules.proofs.element.paragraph_at.Goals.{Joined-first-eq58, Joined-first-eq35, then-first-eq58, else-first-eq58, then-first-eq35, else-first-eq35}

-- what is known after its first line

ends : (c : Joined-first-eq58) → let args = c.args in
    c.if-first-eq58.ends ≡ false → NoLine (word ":end:") args.text.now args.line.end args.scope.end
ends c z =
    let pre = c.requires in
    elim c.if-first-eq58.branch [
      | then-first-eq58 w ↦ w.ends_after-ends.ensures (sym w.ends-is ∙ z)
      | else-first-eq58 w ↦ (knows-next _ _ _ _ _ pre.line pre.known).ends (sym w.ends-is ∙ z)
    ]

names : (c : Joined-first-eq35) → let args = c.args in
    Names args.text.now args.line.end args.scope.end c.if-first-eq35.names
names c x z =
    let pre = c.requires in
    elim c.if-first-eq35.branch [
      | then-first-eq35 w ↦ w.names_after-names.ensures x (sym (ap (λ m. has_name m x) w.names-is) ∙ z)
      | else-first-eq35 w ↦ (knows-next _ _ _ _ _ pre.line pre.known).names x (sym (ap (λ m. has_name m x) w.names-is) ∙ z)
    ]

pub paragraph_lines-further-requires : goal.paragraph_lines-further-requires
paragraph_lines-further-requires c =
    let o = line_of-order _ _ _ c.requires.line in
    (o.4, o.5, record { ends = ends (goal.at.paragraph_lines-further-requires c).Joined-first-eq58; names = names c })

pub of_run-requires : goal.of_run-requires
unfolding paragraph_run
of_run-requires c =
    let s = c.args.text.now in
    let l = c.args.line in
    let e = c.args.scope.end in
    let o = line_of-order _ _ _ c.requires.line in
    let lines = ap (λ (x : LineRun). x.lines) c.paragraph_lines-further.ensures.0 in
    omega (arith, lines, paragraph_lines-le (lines_in s l.end e), lines_in-length s l.end e o.4 o.5)

pub returns : goal.returns
returns c =
    let further = c.paragraph_lines-further.ensures in
    record { is = c.of_run.ensures ∙ paragraph-spanned _ _ _ c.requires.line _ further.0; known = rw (ap (λ (x : Element). x.end) c.of_run.ensures) further.1 }
