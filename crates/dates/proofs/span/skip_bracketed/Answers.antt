-- `dates::span::skip_bracketed` meets its contract: a second half that is missing, or that may not be, leaves the first alone.
-- Assumes nothing.
use Rattle.std.proofs.Common.{sym, ◌∙◌, arith}
use Rattle.text.proofs.Laws.Parts.{part-drop}
use Rattle.dates.specs.Stamps.{second_half, bracketed}
use Rattle.dates.proofs.span.skip_bracketed.Goals as goal

pub returns-in_err-a : goal.returns-in_err-a
unfolding bracketed
returns-in_err-a c =
    let no = c.in_err-a.ensures in
    rw c.from_residual.ensures (record {
      takes = λ b. record {
        is = rw (part-drop c.args.text.now 1 c.args.at c.args.to, no.0.is);
        from = omega arith;
        to = omega arith;
      };
      dates = tt;
    })

pub returns-then-range : goal.returns-then-range
unfolding bracketed second_half
returns-then-range c =
    let f = c.in_ok-a.ensures in
    record {
      takes = λ b. record {
        is = rw (part-drop c.args.text.now 1 c.args.at c.args.to, f.0.is, sym f.1.0 ∙ c.if-range.true);
        from = omega arith;
        to = omega arith;
      };
      dates = omega arith;
    }

pub returns-in-None : goal.returns-in-None
unfolding bracketed second_half
returns-in-None c =
    let f = c.in_ok-a.ensures in
    let range = sym f.1.0 ∙ c.if-range.false in
    record {
      takes = λ b. record {
        is = rw (part-drop c.args.text.now 1 c.args.at c.args.to, f.0.is, range, c.in-None.ensures.0.is);
        from = omega arith;
        to = omega arith;
      };
      dates = omega arith;
    }

pub returns-in-Some : goal.returns-in-Some
unfolding bracketed second_half
returns-in-Some c =
    let f = c.in_ok-a.ensures in
    let range = sym f.1.0 ∙ c.if-range.false in
    let g = c.in-Some.ensures in
    record {
      takes = λ b. record {
        is = rw (part-drop c.args.text.now 1 c.args.at c.args.to, f.0.is, range, g.0.is);
        from = omega arith;
        to = omega arith;
      };
      dates = omega arith;
    }
