-- `dates::repeats::read_repeater` meets its contract, stage by stage.
-- Assumes nothing.
use mathlib.Core.Path.{refl}
use Rattle.std.proofs.Common.{arith}
use Rattle.dates.specs.Stamps.{repeater}
use Rattle.dates.proofs.repeats.read_repeater.Goals as goal

pub returns-in_default-read_delay : goal.returns-in_default-read_delay
unfolding repeater
returns-in_default-read_delay c =
    let a = c.in-Some.ensures in
    let b = c.in_default-read_delay.ensures in
    record { is = rw (a.is, b.is); from = omega arith; to = omega arith }

pub returns-in-Some : goal.returns-in-Some
unfolding repeater
returns-in-Some c =
    let a = c.in-Some.ensures in
    let b = c.in-Some-read_delay.ensures in
    record { is = rw (a.is, b.is); from = omega arith; to = omega arith }

pub returns-in_default-read_delay-2 : goal.returns-in_default-read_delay-2
unfolding repeater
returns-in_default-read_delay-2 c =
    let a = c.in_default.ensures in
    let b = c.in_default-read_delay-2.ensures in
    record { is = rw (a.is, b.is); from = omega arith; to = omega arith }

pub returns-in_default-read_repeat : goal.returns-in_default-read_repeat
unfolding repeater
returns-in_default-read_repeat c =
    let a = c.in_default.ensures in
    let b = c.in-Some-read_delay-2.ensures in
    let c = c.in_default-read_repeat.ensures in
    record { is = rw (a.is, b.is, c.is); from = omega arith; to = omega arith }

pub returns : goal.returns
unfolding repeater
returns c =
    let a = c.in_default.ensures in
    let b = c.in-Some-read_delay-2.ensures in
    let c = c.in-Some-read_repeat.ensures in
    record { is = rw (a.is, b.is, c.is) refl; from = omega arith; to = omega arith }
