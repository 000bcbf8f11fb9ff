-- `dates::repeats::read_delay` meets its contract: a run of hyphens is the mark.
-- Assumes nothing.
use Rattle.std.proofs.Common.{◌≡◌, ◌-◌, length, arith}
use Rattle.text.specs.Bytes.{is_hyphen}
use Rattle.text.specs.Runs.{run}
use Rattle.text.specs.Parts.{part}
use Rattle.text.proofs.Basics.{range-in, range-below, range-above}
use Rattle.text.proofs.Laws.Runs.{run-part-to}
use Rattle.dates.specs.Stamps.{delay}
use Rattle.dates.proofs.Laws.Reads.{after_run-part}
use Rattle.dates.proofs.repeats.read_delay.Goals as goal

pub returns-in_err-a : goal.returns-in_err-a
unfolding delay
returns-in_err-a c = rw c.from_residual.ensures (record { is = rw c.in_err-a.ensures.is; within = tt })

pub returns-then-b-a : goal.returns-then-b-a
unfolding delay
returns-then-b-a c =
    let g = c.in_ok-a.ensures in
    let a = c.in_ok-a.a in
    let n : length (run is_hyphen (part c.args.text.now a c.args.to)) ≡ c.run_end-b.result - a = omega arith in
    record { is = rw (g.is, n, range-below 1 2 (c.run_end-b.result - a) (omega arith)); within = tt }

pub returns-then-b-a-gt2 : goal.returns-then-b-a-gt2
unfolding delay
returns-then-b-a-gt2 c =
    let g = c.in_ok-a.ensures in
    let a = c.in_ok-a.a in
    let n : length (run is_hyphen (part c.args.text.now a c.args.to)) ≡ c.run_end-b.result - a = omega arith in
    record { is = rw (g.is, n, range-above 1 2 (c.run_end-b.result - a) (omega arith) (omega arith)); within = tt }

pub read_interval-requires : goal.read_interval-requires
read_interval-requires c =
    let t = run-part-to _ _ _ is_hyphen c.in_ok-a.ensures.within.1 c.requires.1 _ c.run_end-b.ensures in omega arith

pub returns-in_err-by : goal.returns-in_err-by
unfolding delay
returns-in_err-by c =
    let g = c.in_ok-a.ensures in
    let a = c.in_ok-a.a in
    let n : length (run is_hyphen (part c.args.text.now a c.args.to)) ≡ c.run_end-b.result - a = omega arith in
    rw c.from_residual-in_err-by.ensures (record {
      is = rw (g.is, n, range-in 1 2 (c.run_end-b.result - a) (omega arith) (omega arith), after_run-part _ a _ is_hyphen _ c.run_end-b.ensures, c.in_err-by.ensures.is);
      within = tt;
    })

pub returns : goal.returns
unfolding delay
returns c =
    let g = c.in_ok-a.ensures in
    let a = c.in_ok-a.a in
    let n : length (run is_hyphen (part c.args.text.now a c.args.to)) ≡ c.run_end-b.result - a = omega arith in
    let i = c.in_ok-by.ensures in
    record {
      is = rw (g.is, n, range-in 1 2 (c.run_end-b.result - a) (omega arith) (omega arith), after_run-part _ a _ is_hyphen _ c.run_end-b.ensures, i.is);
      within = omega arith;
    }
