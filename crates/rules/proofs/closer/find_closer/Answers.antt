-- `rules::closer::find_closer` meets its contract: a law for each way that a line is passed over, and one for each way out.
-- Assumes nothing.
use mathlib.Core.Bool.{false≢true}
use lib.Dec.{eqb}
use borrow.Author.Tests.{eqb-true, eq-eqb}
use Rattle.text.specs.Bytes.{lower}
use Rattle.std.proofs.Common.{◌≡◌, ℕ, true, false, sym, ap, ◌∙◌, ◌+◌, ◌++◌, add-zero, add_assoc, length-append, arith}
use Rattle.text.specs.Runs.{same}
use Rattle.text.specs.Lines.{body}
use Rattle.text.specs.Parts.{line_in}
use Rattle.text.proofs.Laws.LinesIn.{line_in-some, line_in-to}
use Rattle.rules.specs.Findings.{key_byte}
use Rattle.rules.specs.Closers.{starts_with}
use Rattle.rules.proofs.Laws.Findings.{further, further-nothing, further-zero, further-one, further-here}
use Rattle.rules.proofs.Laws.Closers.{closer-none, closer-here, closer-pass, starts_with-no, searched-is}
use Rattle.rules.proofs.Laws.Closers.{compared-none, compared-skip, compared-pass, compared-here}
use Rattle.rules.proofs.Laws.Closers.{matched-start, matched-yes, matched-no, matched-short, matched-differ, matched-step}
use Rattle.rules.proofs.closer.find_closer.Goals as goal
use Rattle.rules.proofs.closer.find_closer.Goals.{After-starts_with, Joined-size-j}
use Rattle.rules.proofs.closer.find_closer.Goals.{then-size-j+else-trim_end-body, else-size-j+then-to-body, else-size-j+else-to-body+then-not-is_same}

pub lines-init : goal.lines-init
lines-init c = (omega arith, omega arith, further-zero _, omega arith, omega arith)

-- ---- two bytes

same-bytes : (a b k : ℕ) → b ≡ k → eqb (lower a) (lower b) ≡ true → lower a ≡ lower k
same-bytes a b k h t = eqb-true (lower a) (lower b) t ∙ ap lower h

other-bytes : (a b k : ℕ) → b ≡ k → eqb (lower a) (lower b) ≡ false → lower a ≡ lower k → ⊥
other-bytes a b k h t e = false≢true (sym t ∙ eq-eqb (lower a) (lower b) (e ∙ ap lower (sym h)))

-- ---- the mark of the line at `at`

starts : (c : After-starts_with) →
    let args = c.args in
    c.starts_with.result ≡ starts_with (key_byte (args.first.now ++ args.second.now) 0) (line_in args.text.now c.lines.at args.to)
starts c =
    let args = c.args in
    c.starts_with.ensures ∙ ap (λ m. starts_with m (line_in args.text.now c.lines.at args.to)) (c.lower-mark.ensures ∙ ap lower c.closer_byte.ensures)

-- ---- a line without it

pub lines-smaller-then-not-starts_with : goal.lines-smaller-then-not-starts_with
lines-smaller-then-not-starts_with c =
    omega (arith, c.line_end-at.ensures, line_in-some c.args.text.now c.lines.at c.args.to c.if-to-at.false c.requires.1)

pub lines-preserved-then-not-starts_with : goal.lines-preserved-then-not-starts_with
lines-preserved-then-not-starts_with c =
    let inv = c.lines.invariant in
    let s = c.args.text.now in
    let p = c.lines.at in
    let e = c.args.to in
    let end = c.line_end-at.ensures in
    let other = sym (starts (goal.at.lines-preserved-then-not-starts_with c).After-starts_with) ∙ c.if-not-starts_with.true in
    let no = starts_with-no _ _ c.requires.2 other in (
      omega (arith, line_in-to s p e (omega arith) (omega arith)),
      omega (arith, line_in-some s p e c.if-to-at.false c.requires.1),
      rw end (further-one _ _ ∙ ap (further _) (sym (closer-pass _ _ _ _ c.if-to-at.false c.requires.1 no))) ∙ inv.2,
      omega arith,
      rw end (ap (λ m. c.lines.compared + m) (sym (compared-skip _ _ _ _ c.if-to-at.false c.requires.1 c.requires.2 other))) ∙ inv.4,
    )

-- ---- a line with it, byte by byte

pub loop-j-init : goal.loop-j-init
loop-j-init c = rw (add-zero _) (matched-start _ _ _ _ _ (omega arith) (omega arith) c.run_end-body.ensures)

pub trim_end-requires : goal.trim_end-requires
trim_end-requires c =
    omega (arith, line_in-to c.args.text.now (c.run_end-body.result + c.loop-j.j) c.args.to c.loop-j.invariant.within c.requires.1)

pub loop-j-preserved : goal.loop-j-preserved
loop-j-preserved c =
    rw (← add_assoc _ _ 1)
    (matched-step _ _ _ _ _ _ c.loop-j.invariant (rw length-append (omega arith)) (omega arith) (omega arith) c.requires.2.nonblank
    (same-bytes _ _ _ c.closer_byte-in-loop-j.ensures (sym c.is_same.ensures ∙ c.if-not-is_same.false)))

-- where the loop over bytes is left by a plain `break`, the line is no closer
differs : (c : Joined-size-j) →
    let args = c.args in
    same (body (line_in args.text.now c.lines.at args.to)) (args.first.now ++ args.second.now) ≡ false
differs c =
    let inv = c.loop-j.invariant in
    elim c.if-size-j.branch [
      | then-size-j+else-trim_end-body w ↦
          matched-no _ _ _ _ _ _ inv (rw length-append w.if-size-j.true) _ _ w.line_end-end.ensures w.trim_end.ensures w.if-trim_end-body.false
      | else-size-j+then-to-body w ↦ matched-short _ _ _ _ _ _ inv (rw length-append w.if-size-j.false) (omega (arith, w.if-to-body.true))
      | else-size-j+else-to-body+then-not-is_same w ↦
          matched-differ _ _ _ _ _ _ inv (rw length-append w.if-size-j.false) (omega (arith, w.if-to-body.false)) (omega arith)
          (other-bytes _ _ _ w.closer_byte-in-loop-j.ensures (sym w.is_same.ensures ∙ w.if-not-is_same.true))
    ]

pub lines-smaller : goal.lines-smaller
lines-smaller c =
    omega (
      arith,
      c.line_end-at-in-lines.ensures,
      c.loop-j.invariant.ends,
      line_in-some c.args.text.now c.lines.at c.args.to c.if-to-at.false c.requires.1,
    )

pub lines-preserved : goal.lines-preserved
lines-preserved c =
    let inv = c.lines.invariant in
    let s = c.args.text.now in
    let p = c.lines.at in
    let e = c.args.to in
    let key = c.args.first.now ++ c.args.second.now in
    let end = c.line_end-at-in-lines.ensures ∙ c.loop-j.invariant.ends in
    let marked = sym (starts (goal.at.lines-preserved c).After-starts_with) ∙ c.if-not-starts_with.false in
    let no = differs (goal.at.lines-preserved c).Joined-size-j in (
      omega (arith, end, line_in-to s p e (omega arith) (omega arith)),
      omega (arith, end, line_in-some s p e c.if-to-at.false c.requires.1),
      rw end (further-one _ _ ∙ ap (further _) (sym (closer-pass _ _ _ _ c.if-to-at.false c.requires.1 no))) ∙ inv.2,
      omega arith,
      rw end (omega (arith, compared-pass key s p e c.if-to-at.false c.requires.1 marked no)) ∙ inv.4,
    )

-- ---- the finding

pub returns-then-to-at : goal.returns-then-to-at
returns-then-to-at c =
    let args = c.args in
    let inv = c.lines.invariant in
    searched-is _ _ _ _ _ _
    (sym (further-nothing _) ∙ ap (further _) (sym (closer-none _ _ _ _ c.if-to-at.true)) ∙ inv.2)
    (omega (arith, inv.4, compared-none (args.first.now ++ args.second.now) args.text.now c.lines.at args.to c.if-to-at.true))

pub returns-then-trim_end-body : goal.returns-then-trim_end-body
returns-then-trim_end-body c =
    let key = c.args.first.now ++ c.args.second.now in
    let inv = c.loop-j.invariant in
    let marked = sym (starts (goal.at.returns-then-trim_end-body c).After-starts_with) ∙ c.if-not-starts_with.false in
    let yes =
    matched-yes _ _ _ _ _ _ inv (rw length-append c.if-size-j.true) _ _ c.line_end-end.ensures c.trim_end.ensures c.if-trim_end-body.true in
    searched-is _ _ _ _ _ _
    (rw (c.line_end-end.ensures ∙ inv.ends)
    (further-here _ _ _ ∙ ap (further _) (sym (closer-here _ _ _ _ c.if-to-at.false c.requires.1 yes))) ∙ c.lines.invariant.2)
    (omega (arith, c.lines.invariant.4, compared-here key c.args.text.now c.lines.at c.args.to c.if-to-at.false c.requires.1 marked yes))
