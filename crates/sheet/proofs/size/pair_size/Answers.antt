-- `sheet::size::pair_size` meets its contract.
use mathlib.Core.Path.{sym}
use native.Mathlib.Omega.{arith}
use Rattle.sheet.proofs.Laws.Sizes.{pair_line-empty, pair_line-full}
use Rattle.sheet.proofs.size.pair_size.Goals as goal

pub returns-then-pair : goal.returns-then-pair
returns-then-pair c = (sym (pair_line-empty _ _ c.requires c.if-pair.true), omega arith)

pub returns : goal.returns
returns c = (sym (pair_line-full _ _ c.requires c.if-pair.false), omega arith)
