-- `rules::block::try_block` meets its contract: the line names a block, its closer stands, and the name tells the kind.
-- Assumes nothing.
use Rattle.std.proofs.Common.{◌≡◌, ◌++◌, ◌≤◌, length, sym, ◌∙◌, arith}
use Rattle.std.specs.declared.option.Option.TheVariants.{Some}
use Rattle.text.specs.Runs.{word}
use Rattle.text.specs.Parts.{part, lines_in}
use Rattle.text.proofs.Laws.Parts.{part_slice}
use Rattle.text.proofs.Laws.LinesIn.{lines_in-length}
use Rattle.rules.specs.declared.closer.Closer.{Closer}
use Rattle.rules.proofs.Laws.LineOf.{line_of-order}
use Rattle.rules.proofs.Laws.LineRules.{lines_before-below, closer-count}
use Rattle.rules.proofs.Laws.Findings.{closer_at-nothing}
use Rattle.rules.proofs.Laws.Closers.{closer_in, searched-closer}
use Rattle.rules.proofs.Laws.NoLines.{knows-next}
use Rattle.rules.proofs.Laws.Blocks.{block-nil, closer-bytes, block-open, block-verbatim, block-greater}
use Rattle.rules.proofs.block.try_block.Goals as goal
use Rattle.rules.proofs.block.try_block.Goals.{After-find_closer, in-Some, in-None}

pub returns-in_err-name : goal.returns-in_err-name
returns-in_err-name c = c.from_residual.ensures ∙ block-nil _ _ _ c.requires.line c.in_err-name.ensures

-- no closer may stand ahead
pub returns-then-not-has_name : goal.returns-then-not-has_name
returns-then-not-has_name c =
    let pre = c.requires in
    block-open _ _ _ pre.line _ _ c.in_ok-name.ensures ((knows-next _ _ _ _ _ pre.line pre.known).names _ (sym c.if-not-has_name.ensures))

pub find_closer-requires : goal.find_closer-requires
unfolding word
find_closer-requires c =
    let o = line_of-order _ _ _ c.requires.line in
    let n = c.in_ok-name.ensures in
    let le : c.in_ok-name.name ≤ c.in_ok-name.to = omega (arith, n.some) in
    (o.4, o.5, rw (part_slice _ _ _ le) (closer-bytes _ _ _ c.requires.line _ _ n))

-- the closer of the name
closer : (c : After-find_closer) →
    let args = c.args in
    let s = args.text.now in
    c.find_closer.result.closer ≡ closer_in (word "#+end_" ++ part s c.in_ok-name.name c.in_ok-name.to) s args.line.end args.scope.end
unfolding word
closer c =
    let le : c.in_ok-name.name ≤ c.in_ok-name.to = omega (arith, c.in_ok-name.ensures.some) in
    rw (part_slice _ _ _ le) at (searched-closer _ _ _ _ _ c.find_closer.ensures)

pub returns-in_err-closer : goal.returns-in_err-closer
returns-in_err-closer c =
    c.from_residual-in_err-closer.ensures
    ∙ block-open _ _ _ c.requires.line _ _ c.in_ok-name.ensures
    (closer_at-nothing _ _ _ (sym c.in_err-closer.was ∙ closer (goal.at.returns-in_err-closer c).After-find_closer))

-- so many lines stand before it
count : (c : After-find_closer) (d : Closer) → c.find_closer.result.closer ≡ Some d → d.before ≤ length c.args.text.now
count c d h =
    let s = c.args.text.now in
    let l = c.args.line in
    let e = c.args.scope.end in
    let o = line_of-order _ _ _ c.requires.line in
    let ls = lines_in s l.end e in
    omega (
      arith,
      closer-count l.end ls _ (lines_before-below _ ls) _ (sym h ∙ closer c),
      lines_in-length s l.end e o.4 o.5,
    )

pub of_lines_between-requires : goal.of_lines_between-requires
of_lines_between-requires c = omega (arith, count (goal.at.of_lines_between-requires c).After-find_closer _ c.in_ok-closer.was)

pub returns : goal.returns
returns c =
    let line = c.requires.line in
    let name = c.in_ok-name.ensures in
    let closes = sym c.in_ok-closer.was ∙ closer (goal.at.returns c).After-find_closer in
    rw c.of_lines_between.ensures
    (elim c.match-verbatim_detail.branch [
      | in-Some w ↦ rw w.kind-is (block-verbatim _ _ _ line _ _ name _ closes _ w.in-Some.ensures)
      | in-None w ↦ rw w.kind-is (block-greater _ _ _ line _ _ name _ closes w.in-None.ensures _ w.greater_detail.ensures)
    ])
