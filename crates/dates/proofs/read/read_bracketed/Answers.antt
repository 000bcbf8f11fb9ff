-- `dates::read::read_bracketed` meets its contract: each half is read where the span found it.
-- Assumes nothing.
use Rattle.std.proofs.Common.{sym, ap, ◌∙◌}
use Rattle.std.specs.declared.option.Option.TheVariants.{Some}
use Rattle.text.specs.Parts.{part}
use Rattle.dates.specs.Stamps.{alone}
use Rattle.dates.specs.declared.stamp.Timestamp.{Timestamp}
use Rattle.dates.proofs.read.read_bracketed.Goals as goal

pub returns-in-Some-One : goal.returns-in-Some-One
returns-in-Some-One c =
    let t = rw c.in-Some-One.field-0-is at (c.in-Some-One.ensures.takes c.args.bracket) in
    let one = c.alone.ensures ∙ ap (alone c.args.bracket) c.half_at.ensures in
    record { is = t.is ∙ ap (λ (x : Timestamp). (Some x, part c.args.text.now c.in-Some-One.end c.args.to)) (sym one); from = t.from; to = t.to }

pub returns-in-Some-Two : goal.returns-in-Some-Two
returns-in-Some-Two c =
    let t = rw c.in-Some-Two.field-0-is at (c.in-Some-Two.ensures.takes c.args.bracket) in
    record { is = rw (c.both.ensures, c.half_at-in-Some-Two.ensures, c.half_at-in-Some-Two-2.ensures) t.is; from = t.from; to = t.to }
