-- `stream::advance::pass_heading` meets its contract: the laws of a heading line's bytes.
use Rattle.std.proofs.Common.{arith}
use Rattle.stream.proofs.Laws.Advance.{more-of-line, line-total, line-inside, advance-piece, advance-line}
use Rattle.stream.proofs.advance.pass_heading.Goals as goal

pub go_on-line-requires : goal.go_on-line-requires
go_on-line-requires c = let pre = c.requires in more-of-line _ _ _ pre.0 pre.1 pre.2 pre.3 _ c.find_byte-newline.ensures

pub returns-then-bytes-newline : goal.returns-then-bytes-newline
returns-then-bytes-newline c =
    let pre = c.requires in
    advance-piece _ _ _ pre.0 pre.1 pre.2 pre.3 _ c.find_byte-newline.ensures c.go_on-line.ensures c.if-bytes-newline.true

pub next_line-requires : goal.next_line-requires
next_line-requires c =
    let pre = c.requires in
    let t = line-total _ _ _ pre.0 pre.1 pre.2 pre.3 _ c.find_byte-newline.ensures c.go_on-line.ensures in
    omega (arith, t, pre.0.total, pre.1, c.if-bytes-newline.false, c.find_byte-newline.ensures)

pub heading_of-requires : goal.heading_of-requires
heading_of-requires c =
    let pre = c.requires in
    line-inside _ _ _ pre.0 pre.1 pre.2 pre.3 _ c.find_byte-newline.ensures c.go_on-line.ensures

pub returns : goal.returns
returns c =
    let pre = c.requires in
    advance-line _ _ _ pre.0 pre.1 pre.2 pre.3 _ c.find_byte-newline.ensures c.go_on-line.ensures c.if-bytes-newline.false c.next_line.ensures
    c.heading_of.ensures
