-- `stream::advance::pass_stars` meets its contract: the laws of stars at a line's front.
use Rattle.std.proofs.Common.{ap, ◌∙◌, sym, ℕ, ◌+◌, ◌-◌, arith}
use Rattle.stream.specs.declared.state.Stream.{Stream}
use Rattle.stream.proofs.Laws.PassStars.{stars-to, advance-stars, advance-byte}
use Rattle.stream.proofs.advance.pass_stars.Goals as goal

pub with_stars-stars-requires : goal.with_stars-stars-requires
with_stars-stars-requires c =
    let pre = c.requires in
    let to = stars-to _ _ _ pre.0 pre.1 pre.2 _ c.run_end-end.ensures in
    (omega (arith, pre.0.total, to, c.run_end-end.ensures), pre.0.line, pre.2)

pub returns-then-bytes-end : goal.returns-then-bytes-end
returns-then-bytes-end c =
    let pre = c.requires in
    advance-stars _ _ _ pre.0 pre.1 pre.2 _ c.run_end-end.ensures c.with_stars-stars.ensures c.if-bytes-end.true

pub begin_line-requires : goal.begin_line-requires
begin_line-requires c =
    let pre = c.requires in
    let is = c.with_stars-stars.ensures in
    let total = ap (λ (d : Stream). d.total) is in
    let line = ap (λ (d : Stream). d.line) is in
    let stars = ap (λ (d : Stream). d.stars) is in (
      omega (arith, total, pre.0.total, c.if-bytes-end.false, c.run_end-end.ensures),
      omega (arith, total, line, pre.0.line),
      stars ∙ ap (λ (n : ℕ). n + (c.run_end-end.result - c.args.at)) pre.2 ∙ sym line,
    )

pub returns : goal.returns
returns c =
    let pre = c.requires in
    advance-byte _ _ _ pre.0 pre.1 pre.2 _ c.run_end-end.ensures c.with_stars-stars.ensures c.if-bytes-end.false c.begin_line.ensures
